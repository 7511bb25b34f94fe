-- Servers by name, and outputs one after the other.
use Rattle.std.proofs.Common.{◌≡◌, ℕ, suc, ◌≤◌, ◌<◌, Bool, true, false, List, [], ◌∷◌, ◌++◌, length, map, get_or, Option, Some, Result, Ok, Err, refl, sym, ap, ◌∙◌, append_assoc, arith, position, Bor}
use Rattle.std.proofs.Common.{zero, ◌&&◌, not, rules, tests, ◌==◌, nat_lt}
use Rattle.std.specs.Prelude.{nat_le, IsOk}
use Rattle.std.specs.List.{list_all}
use Rattle.std.specs.Str.{IsAscii, IsUtf8}
use Rattle.std.proofs.lemmas.Str.{IsUtf8-from_ascii}
use Rattle.tp_script.proofs.TextLemmas.{ReadsText}
use Rattle.std.proofs.lemmas.List.{append-nil, length-map}
use Rattle.tp_script.specs.declared.fault.LineFault.{LineFault}
use Rattle.tp_script.specs.declared.fault.LineError.{LineError}
use Rattle.tp_script.specs.declared.fault.LineError.TheVariants as errors
use Rattle.tp_server.specs.declared.recipe.Output.{Output}
use Rattle.tp_script.specs.declared.script.ScriptServer.{ScriptServer}
use Rattle.std.proofs.Common.{set}
use Rattle.std.specs.Prelude.{slice_get, option_map}
use Rattle.std.proofs.lemmas.List.{map-set}
use Rattle.std.proofs.lemmas.Option.{slice_get-map, slice_get_read}
use Rattle.tp_script.specs.Script.{SettingsView, HeadView, server_view}
use Rattle.tp_script.specs.LineWords.{◌>>=◌, output_at, outputs_at, is_name}
use Rattle.tp_script.specs.Reading.{Fails, Gives}
use Rattle.tp_script.specs.ServerLines.{with_start, begin_at}

-- the place is that of the server as it lies in memory
pub position-map : {A B : Type 0} (f : A → B) (p : B → Bool) (xs : List A) → position p (map f xs) ≡ position (λ x. p (f x)) xs
position-map f p [] = refl
position-map f p (x ∷ xs) = grind (arith, position-map f p xs)

-- ---- outputs

-- what was read before, and what is still read
abbrev pub with_front : List Output → Result (List Output) LineFault → Result (List Output) LineFault
with_front front read = read >>= λ others. Ok (front ++ others)

regroup : (front : List Output) (o : Output) (read : Result (List Output) LineFault) → with_front front (read >>= λ others. Ok (o ∷ others)) ≡ with_front (front ++ o ∷ []) read
regroup front o (Ok others) = ap (λ (x : List Output). Ok x) (sym (append_assoc front (o ∷ []) others))
regroup front o (Err f) = refl

pub outputs_go_on : (front : List Output) (w : List ℕ) (ws : List (List ℕ)) (o : Output) (all : Result (List Output) LineFault) → output_at w ≡ Ok o → with_front front (outputs_at (w ∷ ws)) ≡ all → with_front (front ++ o ∷ []) (outputs_at ws) ≡ all
unfolding outputs_at
outputs_go_on front w ws o all h so_far =
    let one : with_front front (outputs_at (w ∷ ws)) ≡ with_front (front ++ o ∷ []) (outputs_at ws) = rw h (regroup front o (outputs_at ws)) in
    sym one ∙ so_far

pub outputs_end : (e : LineError) (front : List Output) (w : List ℕ) (ws : List (List ℕ)) (all : Result (List Output) LineFault) → Fails e (output_at w) → with_front front (outputs_at (w ∷ ws)) ≡ all → Fails e all
unfolding outputs_at
outputs_end errors.NoMemory front w ws all h so_far = tt
outputs_end (errors.Fault f) front w ws all h so_far =
    let one : with_front front (outputs_at (w ∷ ws)) ≡ Err f = rw h refl in
    sym so_far ∙ one

pub outputs_done : (front : List Output) (all : Result (List Output) LineFault) → with_front front (outputs_at []) ≡ all → all ≡ Ok front
unfolding outputs_at
outputs_done front all so_far = sym so_far ∙ ap (λ (x : List Output). Ok x) (append-nil front)

-- ---- names are text

and_parts : (a b : Bool) → (a && b) ≡ true → (a ≡ true) × (b ≡ true)
and_parts true b h = (refl, h)
and_parts false b h = absurd cc

letters_are_ascii : (w : List ℕ) → list_all (λ b. nat_le 97 b && nat_le b 122) w ≡ true → IsAscii w
letters_are_ascii [] h i = omega arith
letters_are_ascii (x ∷ xs) h zero =
    let a = and_parts (nat_le 97 x && nat_le x 122) (list_all (λ b. nat_le 97 b && nat_le b 122) xs) h in
    let b = and_parts (nat_le 97 x) (nat_le x 122) a.0 in
    let c : x ≤ 122 = search (rules, tests) in
    omega (arith, c)
letters_are_ascii (x ∷ xs) h (suc i) = letters_are_ascii xs (and_parts (nat_le 97 x && nat_le x 122) (list_all (λ b. nat_le 97 b && nat_le b 122) xs) h).1 i

pub name_is_text : (w : List ℕ) → is_name w ≡ true → IsUtf8 w
name_is_text w h = IsUtf8-from_ascii w (letters_are_ascii w (and_parts (not (length w == 0) && nat_le (length w) 8) (list_all (λ b. nat_le 97 b && nat_le b 122) w) h).1)

pub text_is_ok : {E : Type 0} (w : List ℕ) (r : Result (Bor (List ℕ)) E) → ReadsText w r → IsUtf8 w → IsOk r
text_is_ok w (Ok s) h text = refl
text_is_ok w (Err e) h text = absurd (h text)

-- ---- a register that begins with a value

pub begins_at : (settings : SettingsView) (items : List ScriptServer) (place k v : ℕ) (old new : ScriptServer) (r : Result (Unit {0}) LineError) → place < length items → old ≡ get_or items place old
    → Gives (λ _. server_view new) r (with_start k v (server_view old))
    → Gives {X = Unit {0}} {Y = HeadView} (λ _. record { settings = settings; servers = map server_view (set items place new) }) r (begin_at place k v (record { settings = settings; servers = map server_view items }))
unfolding begin_at
begins_at settings items place k v old new (Ok u) lt at given =
    let look : slice_get (map server_view items) place ≡ Some (server_view old) = slice_get-map server_view items place ∙ ap (λ (o : Option ScriptServer). option_map server_view o) (slice_get_read items (length items) place old refl lt at) in
    rw (look, given, map-set) refl
begins_at settings items place k v old new (Err errors.NoMemory) lt at given = tt
begins_at settings items place k v old new (Err (errors.Fault f)) lt at given =
    let look : slice_get (map server_view items) place ≡ Some (server_view old) = slice_get-map server_view items place ∙ ap (λ (o : Option ScriptServer). option_map server_view o) (slice_get_read items (length items) place old refl lt at) in
    rw (look, given) refl

-- a list has room for one more, also as it is shown
pub room_shown : {A B : Type 0} (f : A → B) (xs : List A) (n most : ℕ) → n ≡ length xs → n < most → nat_lt (length (map f xs)) most ≡ true
room_shown f xs n most is lt = rw (length-map xs f, ← is) search (rules, tests)
