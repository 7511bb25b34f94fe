-- The lines of a journal's text, with its own line behind each batch.
use Rattle.std.proofs.Common.{◌≡◌, ◌∙◌, ◌==◌, ℕ, ◌+◌, ◌/◌, ◌%◌, ◌<◌, ◌^◌, Bool, true, false, All, List, [], ◌∷◌, ◌++◌, refl, sym, ap, subst, arith, append-nil, append_assoc, drop, inl, inr, length, length-append}
use Rattle.std.specs.Prelude.{◌⊎◌, ◌||◌, decimal, if◌then◌else◌, slice_index}
use Rattle.std.proofs.lemmas.Bool.{eqb-true}
use Rattle.std.proofs.lemmas.Bool.Decides.{nat_tests}
use Rattle.std.proofs.lemmas.Fmt.{decimal_by_steps}
use Rattle.std.proofs.lemmas.List.{drop_at}
use Rattle.std.proofs.lemmas.List.Elements.{All-append, All-cons, All-get_or, All-head, All-nil, All-tail, All-weaker}
use Rattle.hex.specs.Hex.{encode_with, lower_digits, encode_lower}
use Rattle.sha2.specs.Sha256.{sha256}
use Rattle.tp_journal.specs.Text.{IsBatch, IsDigit, IsPlain, IsSealed, end_first, end_line, end_words, first_line, with_batch}
use Rattle.tp_journal.proofs.EndLines.{IsByte, begun, sha_bytes}
use Rattle.tp_kept.specs.Kept.{lines_in}
use Rattle.tp_kept.specs.Lines.{given_from, given_in, is_own}
use Rattle.tp_kept.proofs.LinesLemmas.{given_line}

-- ---- the journal's own line

-- no end of a line
abbrev pub IsIn : ℕ → Type 0
IsIn b = (b == 10) ≡ false

abbrev pub EachIn : List ℕ → Type 0
EachIn [] = Unit {0}
EachIn (b ∷ bs) = IsIn b × EachIn bs

pub each_in : (bs : List ℕ) → EachIn bs → All IsIn bs
each_in [] each = All-nil IsIn
each_in (b ∷ bs) each = All-cons IsIn b bs each.0 (each_in bs each.1)

digits_in : All IsIn lower_digits
digits_in = each_in lower_digits (refl, (refl, (refl, (refl, (refl, (refl, (refl, (refl, (refl, (refl, (refl, (refl, (refl, (refl, (refl, (refl, tt))))))))))))))))

hex_in : (bs : List ℕ) → All IsByte bs → All IsIn (encode_lower bs)
unfolding encode_with
hex_in [] all = All-nil IsIn
hex_in (b ∷ bs) all =
    All-cons IsIn (slice_index lower_digits (b / 16)) (slice_index lower_digits (b % 16) ∷ encode_lower bs) (All-get_or IsIn lower_digits (b / 16) 0 (high b (All-head IsByte b bs all)) digits_in)
    (All-cons IsIn (slice_index lower_digits (b % 16)) (encode_lower bs) (All-get_or IsIn lower_digits (b % 16) 0 (omega arith) digits_in) (hex_in bs (All-tail IsByte b bs all)))
  where
    high : (b : ℕ) → b < 256 → b / 16 < 16
    high b lt = omega (arith, lt)

digit_in : (d : ℕ) → d < 10 → IsIn (48 + d)
digit_in d lt = grind (arith, nat_tests)

pub decimal_in : (n : ℕ) → n < 2 ^ 64 → All IsIn (decimal n)
decimal_in = decimal_by_steps (λ n ds. All IsIn ds)
    (λ n lt. All-cons IsIn (48 + n) [] (digit_in n lt) (All-nil IsIn))
    (λ n ds le all. All-append IsIn ds ((48 + n % 10) ∷ []) all (All-cons IsIn (48 + n % 10) [] (digit_in (n % 10) (omega arith)) (All-nil IsIn)))

number_in : (b : ℕ) → IsDigit b → IsIn b
number_in b digit = grind (arith, nat_tests)

space_in : All IsIn (32 ∷ [])
space_in = each_in (32 ∷ []) (refl, tt)

-- its only end of a line is the last byte, and the byte before that ends a batch
pub own_line : (begin text : List ℕ) → All IsDigit begin → length text < 2 ^ 64 → (front : List ℕ) × All IsIn (front ++ 23 ∷ []) × (end_line begin text ≡ (front ++ 23 ∷ []) ++ 10 ∷ [])
unfolding end_line
own_line begin text digits short =
    let hex = encode_lower (sha256 (text ++ end_words begin text)) in
    let number : All IsIn (35 ∷ 32 ∷ decimal (length text)) = All-append IsIn (35 ∷ 32 ∷ []) (decimal (length text)) (each_in (35 ∷ 32 ∷ []) (refl, (refl, tt))) (decimal_in (length text) short) in
    let first : All IsIn (end_first (length text)) = All-append IsIn (35 ∷ 32 ∷ decimal (length text)) (32 ∷ []) number space_in in
    let told : All IsIn (begin ++ 32 ∷ []) = All-append IsIn begin (32 ∷ []) (All-weaker IsDigit IsIn number_in begin digits) space_in in
    let front : List ℕ = end_words begin text ++ hex in
    let all : All IsIn front = All-append IsIn (end_words begin text) hex (All-append IsIn (end_first (length text)) (begin ++ 32 ∷ []) first told) (hex_in (sha256 (text ++ end_words begin text)) (sha_bytes (text ++ end_words begin text))) in
    (front, All-append IsIn front (23 ∷ []) all (each_in (23 ∷ []) (refl, tt)), sym (append_assoc front (23 ∷ []) (10 ∷ []) ∙ append_assoc (end_words begin text) hex (23 ∷ 10 ∷ [])))

own_there : (front : List ℕ) → is_own (front ++ 23 ∷ []) ≡ true
own_there [] = refl
own_there (b ∷ bs) = rw (own_there bs) (or_true (b == 23))
  where
    or_true : (x : Bool) → (x || true) ≡ true
    or_true true = refl
    or_true false = refl

pub given_own_line : (begin text : List ℕ) → All IsDigit begin → length text < 2 ^ 64 → given_in (end_line begin text) ≡ []
given_own_line begin text digits short =
    let line = own_line begin text digits short in
    ap given_in line.2 ∙ (given_line [] (line.0 ++ 23 ∷ []) [] line.1 ∙ ap (λ (b : Bool). (if b then [] else (line.0 ++ 23 ∷ []) ++ 10 ∷ []) ++ []) (own_there line.0))

-- ---- batches

-- a line's end, and what stands behind it
pub given_behind : (so front bs : List ℕ) → given_from so ((front ++ 10 ∷ []) ++ bs) ≡ given_from so (front ++ 10 ∷ []) ++ given_from [] bs
given_behind so [] bs = ap (λ l. l ++ given_from [] bs) (sym (append-nil (if is_own so then [] else so ++ 10 ∷ [])))
given_behind so (x ∷ xs) bs = by (x == 10) refl (given_behind [] xs bs) (given_behind (so ++ x ∷ []) xs bs)
  where
    by : (b : Bool) → (x == 10) ≡ b → given_from [] ((xs ++ 10 ∷ []) ++ bs) ≡ given_from [] (xs ++ 10 ∷ []) ++ given_from [] bs
        → given_from (so ++ x ∷ []) ((xs ++ 10 ∷ []) ++ bs) ≡ given_from (so ++ x ∷ []) (xs ++ 10 ∷ []) ++ given_from [] bs → given_from so (((x ∷ xs) ++ 10 ∷ []) ++ bs) ≡ given_from so ((x ∷ xs) ++ 10 ∷ []) ++ given_from [] bs
    by true is anew on = rw is (ap (λ l. (if is_own so then [] else so ++ 10 ∷ []) ++ l) anew ∙ sym (append_assoc (if is_own so then [] else so ++ 10 ∷ []) (given_from [] (xs ++ 10 ∷ [])) (given_from [] bs)))
    by false is anew on = rw is on

none_own : (so : List ℕ) → All IsPlain so → is_own so ≡ false
none_own [] plain = refl
none_own (b ∷ bs) plain = rw (not_end b (All-head IsPlain b bs plain), none_own bs (All-tail IsPlain b bs plain)) refl
  where
    not_end : (b : ℕ) → IsPlain b → (b == 23) ≡ false
    not_end b is = grind (arith, nat_tests)

pub given_plain : (so xs : List ℕ) → All IsPlain so → All IsPlain xs → given_from so (xs ++ 10 ∷ []) ≡ (so ++ xs) ++ 10 ∷ []
given_plain so [] plain all = ap (λ (b : Bool). (if b then [] else so ++ 10 ∷ []) ++ []) (none_own so plain) ∙ (append-nil (so ++ 10 ∷ []) ∙ ap (λ l. l ++ 10 ∷ []) (sym (append-nil so)))
given_plain so (x ∷ xs) plain all =
    let rest : All IsPlain xs = All-tail IsPlain x xs all in
    by (x == 10) refl (given_plain [] xs (All-nil IsPlain) rest) (given_plain (so ++ x ∷ []) xs (All-append IsPlain so (x ∷ []) plain (All-cons IsPlain x [] (All-head IsPlain x xs all) (All-nil IsPlain))) rest)
  where
    by : (b : Bool) → (x == 10) ≡ b → given_from [] (xs ++ 10 ∷ []) ≡ xs ++ 10 ∷ [] → given_from (so ++ x ∷ []) (xs ++ 10 ∷ []) ≡ ((so ++ x ∷ []) ++ xs) ++ 10 ∷ [] → given_from so ((x ∷ xs) ++ 10 ∷ []) ≡ (so ++ x ∷ xs) ++ 10 ∷ []
    by true is anew on =
        let ten : 10 ≡ x = sym (eqb-true x 10 is) in
        rw is (ap (λ (b : Bool). (if b then [] else so ++ 10 ∷ []) ++ given_from [] (xs ++ 10 ∷ [])) (none_own so plain) ∙ (ap (λ l. (so ++ 10 ∷ []) ++ l) anew ∙ (sym (append_assoc (so ++ 10 ∷ []) xs (10 ∷ [])) ∙ (ap (λ l. l ++ 10 ∷ []) (append_assoc so (10 ∷ []) xs) ∙ ap (λ b. (so ++ b ∷ xs) ++ 10 ∷ []) ten))))
    by false is anew on = rw is (on ∙ ap (λ l. l ++ 10 ∷ []) (append_assoc so (x ∷ []) xs))

-- ---- a text

-- what stands behind the first line has whole lines
record Behind (text : List ℕ) : Type 0 where
  rest : List ℕ
  text_is : text ≡ first_line ++ rest
  ends : (rest ≡ []) ⊎ ((front : List ℕ) × (rest ≡ front ++ 10 ∷ []))

behind : (text : List ℕ) → length text < 2 ^ 64 → IsSealed text → Behind text
behind text short (inl is) = record { rest = []; text_is = is ∙ sym (append-nil first_line); ends = inl refl }
behind text short (inr (begin, inner, digits, front, is)) =
    let less : length inner < 2 ^ 64 = omega (arith, short, ap length is, length-append inner (end_line begin inner)) in
    let own = own_line begin inner digits less in
    record {
      rest = front.rest ++ end_line begin inner;
      text_is = is ∙ (ap (λ l. l ++ end_line begin inner) front.whole ∙ append_assoc first_line front.rest (end_line begin inner));
      ends = inr (front.rest ++ (own.0 ++ 23 ∷ []), ap (λ l. front.rest ++ l) own.2 ∙ sym (append_assoc front.rest (own.0 ++ 23 ∷ []) (10 ∷ [])));
    }

given_rest : (rest more : List ℕ) → (rest ≡ []) ⊎ ((front : List ℕ) × (rest ≡ front ++ 10 ∷ [])) → given_in (rest ++ more) ≡ given_in rest ++ given_in more
given_rest rest more (inl none) = ap (λ l. given_in (l ++ more)) none ∙ ap (λ l. given_in l ++ given_in more) (sym none)
given_rest rest more (inr (front, is)) = ap (λ l. given_in (l ++ more)) is ∙ (given_behind [] front more ∙ ap (λ l. given_in l ++ given_in more) (sym is))

all_front : (xs ys : List ℕ) → All IsPlain (xs ++ ys) → All IsPlain xs
all_front [] ys all = All-nil IsPlain
all_front (x ∷ xs) ys all = All-cons IsPlain x xs (All-head IsPlain x (xs ++ ys) all) (all_front xs ys (All-tail IsPlain x (xs ++ ys) all))

given_batch : (batch : List ℕ) → IsBatch batch → given_in batch ≡ batch
given_batch batch is =
    ap given_in is.ends ∙ (given_plain [] is.front (All-nil IsPlain) (all_front is.front (10 ∷ []) (subst (All IsPlain) is.ends is.plain)) ∙ sym is.ends)

-- a batch with its end adds its lines
pub lines_with : (text batch : List ℕ) → IsSealed text → IsBatch batch → length (text ++ batch) < 2 ^ 64 → lines_in (with_batch text batch) ≡ lines_in text ++ batch
lines_with text batch is_sealed is short =
    let at = behind text (omega (arith, short, length-append text batch)) is_sealed in
    let own : List ℕ = end_line (decimal (length text)) (text ++ batch) in
    let whole : with_batch text batch ≡ first_line ++ (at.rest ++ (batch ++ own)) =
    append_assoc text batch own ∙ (ap (λ l. l ++ (batch ++ own)) at.text_is ∙ append_assoc first_line at.rest (batch ++ own)) in
    let here : drop (length first_line) text ≡ at.rest = ap (drop (length first_line)) at.text_is ∙ drop_at first_line at.rest (length first_line) refl in
    let added : given_in (batch ++ own) ≡ batch =
    given_rest batch own (inr (is.front, is.ends)) ∙ (ap (λ l. given_in batch ++ l) (given_own_line (decimal (length text)) (text ++ batch) (begun text batch short) short) ∙ (append-nil (given_in batch) ∙ given_batch batch is)) in
    ap (λ l. given_in (drop (length first_line) l)) whole ∙ (ap given_in (drop_at first_line (at.rest ++ (batch ++ own)) (length first_line) refl) ∙ (given_rest at.rest (batch ++ own) at.ends ∙ (ap (λ l. given_in at.rest ++ l) added ∙ ap (λ l. given_in l ++ batch) (sym here))))
