-- Lines of words with single spaces between: what their words are, and that they aren't too long.
use Rattle.std.proofs.Common.{◌≡◌, ◌≢◌, ℕ, ◌+◌, ◌<◌, ◌≤◌, ◌^◌, ◌==◌, ◌&&◌, Bool, true, false, Option, None, Some, Ok, List, [], ◌∷◌, ◌++◌, length, nat_le, if◌then◌else◌, Result, ◌-◌, refl, ◌∙◌, ap, subst, arith, rules, tests}
use Rattle.std.specs.Prelude.{decimal}
use Rattle.std.specs.List.{list_all}
use Rattle.std.specs.Str.{bytes_eq}
use Rattle.std.proofs.lemmas.Bool.{leb-true}
use Rattle.std.proofs.lemmas.Fmt.{decimal_nonempty, length-decimal-le}
use Rattle.std.proofs.lemmas.List.{append-nil, length-append}
use Rattle.std.proofs.lemmas.Slice.Eq.{bytes_eq-Decides}
use Rattle.tp_script.specs.LineWords.{◌>>=◌, known, number_at, require}
use Rattle.tp_script.specs.Text.{words}
use Rattle.tp_script.specs.declared.fault.LineFault.{LineFault}
use Rattle.tp_script.specs.declared.fault.LineFault.TheVariants.{BadName, BadNumber, Syntax, TooLong}
use Rattle.tp_lines.specs.Grammar.{line_said, line_words, words_said}
use Rattle.tp_lines.specs.HeadTexts.{line_text, number_text, spaced}
use Rattle.tp_lines.specs.Names.{NameView, begins_with_letter, is_in_name, is_name}
use Rattle.tp_lines.specs.Told.{IsLong, IsLongOrNone, IsNamed}
use Rattle.tp_lines.specs.Words.{long_at, name_at, number_unless, short_at}
use Rattle.tp_lines.proofs.Cuts.{Bytes, Free, allowed, digits, free_of, le_true, number_is, wider, with_more, words_last, words_more}
use Rattle.tp_lines.proofs.NameLemmas.{and_parts}

pub bind_ok : {A B : Type 0} (r : Result A LineFault) (x : A) (f : A → Result B LineFault) → r ≡ Ok x → (r >>= f) ≡ f x
bind_ok r x f e = ap (λ z. z >>= f) e

-- ---- numbers

pub word_long : (n : ℕ) → n < 2 ^ 64 → length (decimal n) ≤ 20
word_long n h = length-decimal-le 20 n (omega arith) (omega (arith, h)) h

pub number_ok : (most n : ℕ) → n < 2 ^ 64 → n ≤ most → number_at most (decimal n) ≡ Ok n
number_ok most n h within = ap (λ o. known o BadNumber) (number_is most n h (word_long n h) within)

pub long_ok : (n : ℕ) → IsLong n → long_at (decimal n) ≡ Ok n
long_ok n h = number_ok (2 ^ 64 - 1) n h (omega (arith, h))

pub short_ok : (n : ℕ) → n < 2 ^ 16 → short_at (decimal n) ≡ Ok n
short_ok n h = number_ok (2 ^ 16 - 1) n (omega (arith, h)) (omega (arith, h))

pub byte_ok : (n : ℕ) → n ≤ 255 → number_at 255 (decimal n) ≡ Ok n
byte_ok n h = number_ok 255 n (omega (arith, h)) h

pub digits_free : (k n : ℕ) → n < 2 ^ 64 → ((c : ℕ) → 48 ≤ c → c ≤ 57 → c ≢ k) → Free k (decimal n)
digits_free k n h other = free_of k 48 57 (decimal n) other (digits n h)

no_space : (c : ℕ) → 48 ≤ c → c ≤ 57 → c ≢ 32
no_space c low high e = omega (arith, low, e)

pub digits_allowed : (n : ℕ) → n < 2 ^ 64 → Bytes 32 126 (decimal n)
digits_allowed n h = wider 48 57 32 126 (decimal n) (omega arith) (omega arith) (digits n h)

-- ---- words

-- a word of a line, of at most so many bytes
pub record Word (most : ℕ) (w : List ℕ) : Type 0 where
  pub some : 0 < length w
  pub free : Free 32 w
  pub bytes : Bytes 32 126 w
  pub short : length w ≤ most

-- words of at most so many bytes each
abbrev pub AreWords : List (List ℕ) → List ℕ → Type 0
AreWords [] [] = Unit {0}
AreWords (w ∷ ws) (n ∷ ns) = Word n w × AreWords ws ns
AreWords ws ns = ⊥

-- so many bytes at most, with the spaces before them
abbrev pub room_of : List ℕ → ℕ
room_of [] = 0
room_of (m ∷ ms) = 1 + m + room_of ms

pub words_are : (w : List ℕ) (ws : List (List ℕ)) (n : ℕ) (ns : List ℕ) → Word n w → AreWords ws ns → words (w ++ spaced ws) ≡ w ∷ ws
words_are w [] n [] it all = ap words (append-nil w) ∙ words_last w it.some it.free
words_are w [] n (m ∷ ns) it all = absurd all
words_are w (v ∷ vs) n [] it all = absurd all
words_are w (v ∷ vs) n (m ∷ ns) it all = words_more w (v ++ spaced vs) it.some it.free ∙ ap (λ z. w ∷ z) (words_are v vs m ns all.0 all.1)

pub bytes_are : (ws : List (List ℕ)) (ns : List ℕ) → AreWords ws ns → Bytes 32 126 (spaced ws)
bytes_are [] [] all = tt
bytes_are [] (m ∷ ns) all = absurd all
bytes_are (v ∷ vs) [] all = absurd all
bytes_are (v ∷ vs) (m ∷ ns) all = ((omega arith, omega arith), with_more 32 126 v (spaced vs) all.0.bytes (bytes_are vs ns all.1))

pub room_is : (ws : List (List ℕ)) (ns : List ℕ) → AreWords ws ns → length (spaced ws) ≤ room_of ns
room_is [] [] all = omega arith
room_is [] (m ∷ ns) all = absurd all
room_is (v ∷ vs) [] all = absurd all
room_is (v ∷ vs) (m ∷ ns) all =
    let l = length-append v (spaced vs) in
    let k : length (spaced (v ∷ vs)) ≡ 1 + length (v ++ spaced vs) = omega arith in
    let rest = room_is vs ns all.1 in
    let s = all.0.short in
    omega (arith, l, k, rest, s)

-- ---- lines

line_ok : (c : ℕ) (rest : List ℕ) → (c == 35) ≡ false → length (c ∷ rest) ≤ 1023 → Bytes 32 126 (c ∷ rest) → line_words (c ∷ rest) ≡ Ok (words (c ∷ rest))
unfolding line_words
line_ok c rest no_comment short all =
    let line = c ∷ rest in
    bind_ok (require (nat_le (length line) 1023) TooLong) tt (λ _. require (list_all (λ b. nat_le 32 b && nat_le b 126) line) Syntax >>= λ _. said (c == 35)) (ap (λ t. require t TooLong) (le_true (length line) 1023 short))
    ∙ (bind_ok (require (list_all (λ b. nat_le 32 b && nat_le b 126) line) Syntax) tt (λ _. said (c == 35)) (ap (λ t. require t Syntax) (allowed line all)) ∙ ap said no_comment)
  where
    said : Bool → Result (List (List ℕ)) LineFault
    said comment = if comment then Ok [] else Ok (words (c ∷ rest))

-- a line that doesn't begin with `#` says what its words say
pub by_words : (c : ℕ) (cs : List ℕ) (ws : List (List ℕ)) (n : ℕ) (ns : List ℕ) → (c == 35) ≡ false → Word n (c ∷ cs) → AreWords ws ns → n + room_of ns ≤ 1023 → line_said (line_text ((c ∷ cs) ∷ ws)) ≡ words_said ((c ∷ cs) ∷ ws)
by_words c cs ws n ns no_comment it all few =
    let bytes = with_more 32 126 (c ∷ cs) (spaced ws) it.bytes (bytes_are ws ns all) in
    let l = length-append (c ∷ cs) (spaced ws) in
    let r = room_is ws ns all in
    let s = it.short in
    let short : length ((c ∷ cs) ++ spaced ws) ≤ 1023 = omega (arith, l, r, s, few) in
    bind_ok (line_words ((c ∷ cs) ++ spaced ws)) ((c ∷ cs) ∷ ws) words_said (line_ok c (cs ++ spaced ws) no_comment short bytes ∙ ap Ok (words_are (c ∷ cs) ws n ns it all))

-- ---- which words there are

pub number_word : (n : ℕ) → n < 2 ^ 64 → Word 20 (decimal n)
number_word n h = record {
  some = decimal_nonempty n h;
  free = digits_free 32 n h no_space;
  bytes = digits_allowed n h;
  short = word_long n h;
}

pub letters_of : (xs : List ℕ) → list_all (λ b. nat_le 97 b && nat_le b 122) xs ≡ true → Bytes 97 122 xs
letters_of [] all = tt
letters_of (x ∷ xs) all =
    let parts = and_parts (nat_le 97 x && nat_le x 122) (list_all (λ b. nat_le 97 b && nat_le b 122) xs) all in
    let one = and_parts (nat_le 97 x) (nat_le x 122) parts.0 in
    ((leb-true 97 x one.0, leb-true x 122 one.1), letters_of xs parts.1)

-- a keyword, by its letters
pub small_word : (w : List ℕ) (most : ℕ) → Bytes 97 122 w → 0 < length w → length w ≤ most → Word most w
small_word w most small some short = record {
  some = some;
  free = free_of 32 97 122 w (λ c low high e. omega (arith, low, e)) small;
  bytes = wider 97 122 32 126 w (omega arith) (omega arith) small;
  short = short;
}

in_name : (b : ℕ) → is_in_name b ≡ true → (45 ≤ b) × (b ≤ 122)
in_name b h = (search (rules, tests), search (rules, tests))

name_bytes : (w : List ℕ) → list_all is_in_name w ≡ true → Bytes 45 122 w
name_bytes [] all = tt
name_bytes (x ∷ xs) all = let p = and_parts (is_in_name x) (list_all is_in_name xs) all in (in_name x p.0, name_bytes xs p.1)

begun : (w : List ℕ) → begins_with_letter w ≡ true → 0 < length w
begun [] h = absurd cc
begun (x ∷ xs) h = omega arith

pub name_word : (w : List ℕ) → is_name w ≡ true → Word 32 w
name_word w named =
    let a = and_parts (begins_with_letter w) (nat_le (length w) 32 && list_all is_in_name w) named in
    let b = and_parts (nat_le (length w) 32) (list_all is_in_name w) a.1 in
    let bytes = name_bytes w b.1 in
    record {
      some = begun w a.0;
      free = free_of 32 45 122 w (λ c low high e. omega (arith, low, e)) bytes;
      bytes = wider 45 122 32 126 w (omega arith) (omega arith) bytes;
      short = leb-true (length w) 32 b.0;
    }

pub name_ok : (name : NameView) → IsNamed name → name_at name.letters ≡ Ok name
name_ok name named = ap (λ b. known (if b then Some (record { letters = name.letters }) else None) BadName) named

-- digits are no word of letters
pub no_letters : (w : List ℕ) (c : ℕ) (rest : List ℕ) → 97 ≤ c → Bytes 48 57 w → (b : Bool) → bytes_eq w (c ∷ rest) ≡ b → b ≡ false
no_letters w c rest letter all false is = refl
no_letters w c rest letter all true is =
    let same : w ≡ c ∷ rest = (bytes_eq-Decides w (c ∷ rest)).0 is in
    let g : Bytes 48 57 (c ∷ rest) = subst (Bytes 48 57) same all in
    let high = g.0.1 in
    absurd (omega (arith, letter, high))

abbrev unless_by : ℕ → Bool → Result (Option ℕ) LineFault
unless_by n b = if b then Ok None else (long_at (decimal n) >>= λ m. Ok (Some m))

-- a number, or a word of letters where there is none
module _ (c : ℕ) (rest : List ℕ) (letter : 97 ≤ c) (itself : bytes_eq (c ∷ rest) (c ∷ rest) ≡ true) where
  pub unless_ok : (o : Option ℕ) → IsLongOrNone o → number_unless (c ∷ rest) (number_text (c ∷ rest) o) ≡ Ok o
  unfolding number_unless
  unless_ok None fit = ap (λ b. if b then Ok None else (long_at (c ∷ rest) >>= λ m. Ok (Some m))) itself
  unless_ok (Some n) fit =
      ap (unless_by n) (no_letters (decimal n) c rest letter (digits n fit) (bytes_eq (decimal n) (c ∷ rest)) refl)
      ∙ bind_ok (long_at (decimal n)) n (λ m. Ok (Some m)) (long_ok n fit)

  pub unless_word : Word 20 (c ∷ rest) → (o : Option ℕ) → IsLongOrNone o → Word 20 (number_text (c ∷ rest) o)
  unless_word none None fit = none
  unless_word none (Some n) fit = number_word n fit
