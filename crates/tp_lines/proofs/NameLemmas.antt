-- Names are text.
use Rattle.std.proofs.Common.{◌≡◌, ℕ, zero, suc, ◌≤◌, Bool, true, false, ◌&&◌, List, [], ◌∷◌, length, Result, Ok, Err, refl, rules, tests, arith, Bor}
use Rattle.std.specs.Prelude.{nat_le, IsOk, MatchResult}
use Rattle.std.specs.List.{list_all}
use Rattle.std.specs.Str.{IsAscii, IsUtf8}
use Rattle.std.proofs.lemmas.Str.{IsUtf8-from_ascii}
use Rattle.tp_lines.specs.declared.name.TheConstants.{MAX_NAME}
use Rattle.tp_lines.specs.Names.{begins_with_letter, is_in_name, is_name}

pub and_parts : (a b : Bool) → (a && b) ≡ true → (a ≡ true) × (b ≡ true)
and_parts true b h = (refl, h)
and_parts false b h = absurd cc

in_name_is_ascii : (b : ℕ) → is_in_name b ≡ true → b ≤ 127
in_name_is_ascii b h = search (rules, tests)

letters_are_ascii : (w : List ℕ) → list_all is_in_name w ≡ true → IsAscii w
letters_are_ascii [] h i = omega arith
letters_are_ascii (x ∷ xs) h zero =
    let c = in_name_is_ascii x (and_parts (is_in_name x) (list_all is_in_name xs) h).0 in
    omega (arith, c)
letters_are_ascii (x ∷ xs) h (suc i) = letters_are_ascii xs (and_parts (is_in_name x) (list_all is_in_name xs) h).1 i

pub name_is_text : (w : List ℕ) → is_name w ≡ true → IsUtf8 w
name_is_text w h =
    let a = and_parts (begins_with_letter w) (nat_le (length w) MAX_NAME && list_all is_in_name w) h in
    let b = and_parts (nat_le (length w) MAX_NAME) (list_all is_in_name w) a.1 in
    IsUtf8-from_ascii w (letters_are_ascii w b.1)

-- what a text is read as
abbrev pub ReadsText : {E : Type 0} → List ℕ → Result (Bor (List ℕ)) E → Type 0
ReadsText w r = MatchResult r (λ s. s.now ≡ w) (λ _. IsUtf8 w → ⊥)

pub text_is_ok : {E : Type 0} (w : List ℕ) (r : Result (Bor (List ℕ)) E) → ReadsText w r → IsUtf8 w → IsOk r
text_is_ok w (Ok s) h text = refl
text_is_ok w (Err e) h text = absurd (h text)
