-- The line that ends a text.
use Rattle.std.proofs.Common.{◌≡◌, ℕ, zero, suc, ◌+◌, ◌-◌, ◌/◌, ◌%◌, ◌<◌, ◌^◌, Bool, true, false, true≢false, ◌==◌, List, [], ◌∷◌, ◌++◌, get_or, length, take, refl, sym, ◌∙◌, ap, subst, arith, append_assoc, length-append}
use Rattle.std.specs.Prelude.{All, decimal, slice_index}
use Rattle.std.proofs.lemmas.List.Elements.{All-append, All-cons, All-get_or, All-head, All-nil, All-tail, All-weaker}
use Rattle.std.proofs.lemmas.Grind.{take_at_read}
use Rattle.std.proofs.Math.Seq.{take-length}
use Rattle.std.proofs.lemmas.Bool.Decides.{nat_tests}
use Rattle.std.proofs.lemmas.Fmt.{decimal_by_steps}
use Rattle.std.specs.Int.{byte_at, bytes_high_first, to_be_bytes, w32}
use Rattle.hex.specs.Hex.{encode_with, lower_digits, encode_lower}
use Rattle.sha2.specs.Sha256.{digest_bytes, sha256}
use Rattle.tp_journal.specs.Text.{IsBatch, IsDigit, IsPlain, IsSet, IsText, end_first, end_line, end_words}

abbrev pub IsByte : ℕ → Type 0
IsByte b = b < 256

high_first : (k n : ℕ) → All IsByte (bytes_high_first k n)
high_first zero n = All-nil IsByte
high_first (suc k) n = All-cons IsByte (byte_at k n) (bytes_high_first k n) (at k) (high_first k n)
  where
    at : (k : ℕ) → byte_at k n < 256
    at zero = omega arith
    at (suc k) = omega arith

digest : (h : List ℕ) (n : ℕ) → All IsByte (digest_bytes h n)
unfolding digest_bytes
digest h zero = All-nil IsByte
digest h (suc n) = All-append IsByte (digest_bytes h n) (to_be_bytes w32 (slice_index h n)) (digest h n) (high_first 4 (slice_index h n))

pub sha_bytes : (m : List ℕ) → All IsByte (sha256 m)
unfolding sha256
sha_bytes m = digest _ 8

abbrev EachPlain : List ℕ → Type 0
EachPlain [] = Unit {0}
EachPlain (b ∷ bs) = IsPlain b × EachPlain bs

each_plain : (bs : List ℕ) → EachPlain bs → All IsPlain bs
each_plain [] each = All-nil IsPlain
each_plain (b ∷ bs) each = All-cons IsPlain b bs each.0 (each_plain bs each.1)

digits_plain : All IsPlain lower_digits
digits_plain = each_plain lower_digits (refl, (refl, (refl, (refl, (refl, (refl, (refl, (refl, (refl, (refl, (refl, (refl, (refl, (refl, (refl, (refl, tt))))))))))))))))

hex_plain : (bs : List ℕ) → All IsByte bs → All IsPlain (encode_lower bs)
unfolding encode_with
hex_plain [] all = All-nil IsPlain
hex_plain (b ∷ bs) all =
    All-cons IsPlain (slice_index lower_digits (b / 16)) (slice_index lower_digits (b % 16) ∷ encode_lower bs) (All-get_or IsPlain lower_digits (b / 16) 0 (high b (All-head IsByte b bs all)) digits_plain)
    (All-cons IsPlain (slice_index lower_digits (b % 16)) (encode_lower bs) (All-get_or IsPlain lower_digits (b % 16) 0 (omega arith) digits_plain) (hex_plain bs (All-tail IsByte b bs all)))
  where
    high : (b : ℕ) → b < 256 → b / 16 < 16
    high b lt = omega (arith, lt)

a_digit : (d : ℕ) → d < 10 → IsDigit (48 + d)
a_digit d lt = grind (arith, nat_tests)

pub decimal_digits : (n : ℕ) → n < 2 ^ 64 → All IsDigit (decimal n)
decimal_digits = decimal_by_steps (λ n ds. All IsDigit ds)
    (λ n lt. All-cons IsDigit (48 + n) [] (a_digit n lt) (All-nil IsDigit))
    (λ n ds le all. All-append IsDigit ds ((48 + n % 10) ∷ []) all (All-cons IsDigit (48 + n % 10) [] (a_digit (n % 10) (omega arith)) (All-nil IsDigit)))

digit_plain : (b : ℕ) → IsDigit b → IsPlain b
digit_plain b is = grind (arith, nat_tests)

digits_are_plain : (bs : List ℕ) → All IsDigit bs → All IsPlain bs
digits_are_plain bs all = All-weaker IsDigit IsPlain digit_plain bs all

space-plain : All IsPlain (32 ∷ [])
space-plain = each_plain (32 ∷ []) (refl, tt)

first-plain : (n : ℕ) → n < 2 ^ 64 → All IsPlain (end_first n)
first-plain n short = All-append IsPlain (35 ∷ 32 ∷ decimal n) (32 ∷ []) (All-append IsPlain (35 ∷ 32 ∷ []) (decimal n) (each_plain (35 ∷ 32 ∷ []) (refl, (refl, tt))) (digits_are_plain (decimal n) (decimal_digits n short))) space-plain

-- all but the last two bytes of an end are plain
pub end-is : (begin text : List ℕ) → All IsDigit begin → length text < 2 ^ 64 → (front : List ℕ) × All IsPlain front × (end_line begin text ≡ front ++ 23 ∷ 10 ∷ [])
unfolding end_line
end-is begin text digits short =
    let words : All IsPlain (end_words begin text) = All-append IsPlain (end_first (length text)) (begin ++ 32 ∷ []) (first-plain (length text) short) (All-append IsPlain begin (32 ∷ []) (digits_are_plain begin digits) space-plain) in
    let hex = encode_lower (sha256 (text ++ end_words begin text)) in
    (end_words begin text ++ hex, All-append IsPlain (end_words begin text) hex words (hex_plain (sha256 (text ++ end_words begin text)) (sha_bytes (text ++ end_words begin text))), sym (append_assoc (end_words begin text) hex (23 ∷ 10 ∷ [])))

plain_set : (b : ℕ) → IsPlain b → IsSet b
plain_set b is = grind (arith, nat_tests)

pub plain-text : (bytes : List ℕ) → All IsPlain bytes → IsText bytes
plain-text bytes all = All-weaker IsPlain IsSet plain_set bytes all

-- a batch with an end has no byte 0
pub sealed-text : (batch begin text : List ℕ) → All IsPlain batch → All IsDigit begin → length text < 2 ^ 64 → IsText (batch ++ end_line begin text)
sealed-text batch begin text plain digits short =
    let end = end-is begin text digits short in
    All-append IsSet batch (end_line begin text) (plain-text batch plain)
    (subst IsText (sym end.2) (All-append IsSet end.0 (23 ∷ 10 ∷ []) (plain-text end.0 end.1) (All-cons IsSet 23 (10 ∷ []) refl (All-cons IsSet 10 [] refl (All-nil IsSet)))))

-- where a batch begins is told by digits
pub begun : (text batch : List ℕ) → length (text ++ batch) < 2 ^ 64 → All IsDigit (decimal (length text))
begun text batch short = decimal_digits (length text) (omega (arith, short, length-append text batch))

pub is_plain : (b : ℕ) → (b ≡ 0 → ⊥) → (b ≡ 23 → ⊥) → IsPlain b
is_plain b unlike_zero unlike_end = grind (arith, nat_tests)

pub is_batch : (batch : List ℕ) → All IsPlain batch → 0 < length batch → get_or batch (length batch - 1) 0 ≡ 10 → IsBatch batch
is_batch batch plain some ends = record {
  plain = plain;
  front = take (length batch - 1) batch;
  ends = sym (take-length batch) ∙ ap (λ (n : ℕ). take n batch) (omega (arith, some)) ∙ (take_at_read batch (length batch - 1) 0 (omega (arith, some))).1
      ∙ ap (λ (c : ℕ). take (length batch - 1) batch ++ c ∷ []) ends;
}

-- an end begins with a mark
pub end-marked : (begin text : List ℕ) → (rest : List ℕ) × (end_line begin text ≡ 35 ∷ rest)
unfolding end_line
end-marked begin text = (_, refl)

pub some-length : (n : ℕ) (r : Bool) → r ≡ false → r ≡ (n == 0) → 0 < n
some-length n r unlike is = grind (arith, nat_tests)

pub not_both : (r : Bool) → r ≡ false → r ≡ true → ⊥
not_both r unlike like = true≢false (sym like ∙ unlike)
