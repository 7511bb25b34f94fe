-- Words and numbers.
use Rattle.std.proofs.Common.{◌≡◌, ℕ, ◌<◌, ◌≤◌, ◌^◌, Bool, true, false, not, ◌&&◌, List, [], ◌∷◌, length, map, refl, ap, rules, tests, arith, Result, Ok, Err, Some, None}
use Rattle.std.specs.Prelude.{filter, nat_le, ◌==◌}
use Rattle.std.specs.List.{list_all}
use Rattle.std.specs.Char.{is_ascii_digit}
use Rattle.std.specs.Str.{IsUtf8}
use Rattle.std.specs.Str.Parse.{digits_value, ParsesUnsigned}
use Rattle.std.proofs.lemmas.Str.{IsUtf8-from_ascii}
use Rattle.std.proofs.lemmas.Fmt.{IsAscii-from_digits}
use Rattle.std.proofs.lemmas.Str.Parse.{IsNumeralModel, numerals_by_value, parse_digits}
use Rattle.std.proofs.Common.{inl, inr, Bor}
use Rattle.std.specs.Prelude.{MatchResult}
use Rattle.std.specs.Result.{result_ok}
use Rattle.std.proofs.lemmas.Option.{same_Some}
use Rattle.std.proofs.lemmas.Bool.{cases_lt, lt-leb}
use Rattle.tp_script.specs.Text.{lines, number, is_numeral}
use Rattle.std.proofs.Common.{Vec, Global, vec_len, ◌+◌}
use Rattle.std.proofs.lemmas.List.{length-map}
use Rattle.std.proofs.lemmas.List.Sums.{count_by-le-length}
use Rattle.std.proofs.lemmas.List.Splits.{length-slice_split}

pub map-filter : {A B : Type 0} (f : A → B) (p : B → Bool) (xs : List A) → map f (filter (λ x. p (f x)) xs) ≡ filter p (map f xs)
map-filter f p [] = refl
map-filter f p (x ∷ xs) = grind (arith, map-filter f p xs)

pub own : IsNumeralModel (λ ds. list_all is_ascii_digit ds ≡ true) (digits_value 10)
own = numerals_by_value _ (search rules)

and_parts : (a b : Bool) → (a && b) ≡ true → (a ≡ true) × (b ≡ true)
and_parts true b h = (refl, h)
and_parts false b h = absurd cc

pub record IsNumeral (w : List ℕ) : Type 0 where
  pub some : 0 < length w
  pub few : length w ≤ 20
  pub digits : list_all is_ascii_digit w ≡ true

pub numeral_parts : (w : List ℕ) → is_numeral w ≡ true → IsNumeral w
numeral_parts w h =
    let a = and_parts (not (length w == 0) && nat_le (length w) 20) (list_all is_ascii_digit w) h in
    let b = and_parts (not (length w == 0)) (nat_le (length w) 20) a.0 in
    record { some = search (rules, tests); few = search (rules, tests); digits = a.1 }

-- a numeral is text
pub numeral_is_text : (w : List ℕ) → is_numeral w ≡ true → IsUtf8 w
numeral_is_text w h = IsUtf8-from_ascii w (IsAscii-from_digits w (own.to w (numeral_parts w h).digits))

-- a numeral that doesn't fit 64 bits is no number below it
pub number-not_parsed : {E : Type 0} (most : ℕ) (w : List ℕ) (e : E) → most < 2 ^ 64 → is_numeral w ≡ true → ParsesUnsigned 64 10 w (Err e) → number most w ≡ None
number-not_parsed most w e small h failed =
    let parts = numeral_parts w h in
    let none = parse_digits own 64 w (Err e) failed parts.digits in
    let past : most < digits_value 10 w = elim (cases_lt most (digits_value 10 w)) [ inl lt ↦ lt | inr le ↦ absurd (none (parts.some, omega arith)) ] in
    rw (h, lt-leb (digits_value 10 w) most past) refl

-- what a numeral is read as
abbrev pub ReadsText : {E : Type 0} → List ℕ → Result (Bor (List ℕ)) E → Type 0
ReadsText w r = MatchResult r (λ s. s.now ≡ w) (λ _. IsUtf8 w → ⊥)

pub text_fails : {E : Type 0} (w : List ℕ) (r : Result (Bor (List ℕ)) E) → ReadsText w r → None ≡ result_ok r → IsUtf8 w → ⊥
text_fails w (Ok s) h none text = absurd cc
text_fails w (Err e) h none text = h text

pub text_reads : {E : Type 0} (w : List ℕ) (r : Result (Bor (List ℕ)) E) (t : Bor (List ℕ)) → ReadsText w r → Some t ≡ result_ok r → t.now ≡ w
text_reads w (Ok s) t h some = rw (same_Some t s some) h
text_reads w (Err e) t h some = absurd cc

pub number-fails : {E : Type 0} (most : ℕ) (w : List ℕ) (r : Result ℕ E) → most < 2 ^ 64 → is_numeral w ≡ true → ParsesUnsigned 64 10 w r → None ≡ result_ok r → number most w ≡ None
number-fails most w (Ok n) small h parsed none = absurd cc
number-fails most w (Err e) small h parsed none = number-not_parsed most w e small h parsed

pub lines_are_few : (v : Vec (Bor (List ℕ)) Global) (script : List ℕ) → map (λ x. x.now) v.items ≡ lines script → vec_len v ≤ length script + 1
lines_are_few v script h = omega (arith, v.ok.0, ap length h, length-map v.items (λ (x : Bor (List ℕ)). x.now), length-slice_split (λ b. b == 10) script, count_by-le-length (λ b. b == 10) script)
