-- The line that ends a text, as it is read: its words, and its digest.
use Rattle.std.proofs.Common.{◌≡◌, ℕ, zero, suc, ◌+◌, ◌-◌, ◌<◌, ◌≤◌, Bool, true, false, not, nat_eq, List, [], ◌∷◌, ◌++◌, get_or, length, take, drop, refl, sym, ◌∙◌, ap, subst, arith, append_assoc, length-append, length-drop, take-append-drop}
use Rattle.std.specs.Prelude.{All}
use Rattle.std.specs.Bool.{Decides}
use Rattle.std.specs.Cmp.Lexicographic.{pointwise}
use Rattle.std.proofs.lemmas.Bool.Decides.{Decides-eqb, nat_tests}
use Rattle.std.proofs.lemmas.Slice.Eq.{slice_eq-Decides}
use Rattle.std.proofs.lemmas.List.{drop_more, drop_at, length-take-le, take_at}
use Rattle.std.proofs.lemmas.List.Elements.{All-get_or, All-head, All-tail}
use Rattle.tp_journal.specs.Reading.{AreWords, IsEnd}
use Rattle.tp_journal.specs.Text.{BeginsElsewhere, IsDigit, IsFrontOf, end_first, end_last, end_line, end_words}

no-space : (b : ℕ) → IsDigit b → b ≡ 32 → ⊥
no-space b digit is = absurd (grind (arith, nat_tests))

-- ---- digits up to a space

pub one-run : (a b x y : List ℕ) → All IsDigit a → All IsDigit b → a ++ 32 ∷ x ≡ b ++ 32 ∷ y → a ≡ b
one-run [] [] x y da db is = refl
one-run [] (d ∷ b) x y da db is = absurd (no-space d (All-head IsDigit d b db) cc)
one-run (d ∷ a) [] x y da db is = absurd (no-space d (All-head IsDigit d a da) cc)
one-run (d ∷ a) (e ∷ b) x y da db is =
    let head : d ≡ e = cc in
    let tail : a ++ 32 ∷ x ≡ b ++ 32 ∷ y = cc in
    rw head (ap (λ l. e ∷ l) (one-run a b x y (All-tail IsDigit d a da) (All-tail IsDigit e b db) tail))

-- so many digits are all that stand before the space
pub run-long : (rest begin y : List ℕ) (n : ℕ) → n ≤ length rest → All IsDigit (take n rest) → (n < length rest → IsDigit (get_or rest n 0) → ⊥) → All IsDigit begin → rest ≡ begin ++ 32 ∷ y → n ≡ length begin
run-long rest [] y zero le ds next db is = refl
run-long rest (d ∷ begin) y zero le ds next db is =
    let first : get_or rest 0 0 ≡ d = ap (λ l. get_or l 0 0) is in
    absurd (next (omega (arith, ap length is)) (subst IsDigit (sym first) (All-head IsDigit d begin db)))
run-long [] begin y (suc n) le ds next db is = absurd (omega (arith, le))
run-long (c ∷ rest) [] y (suc n) le ds next db is = absurd (no-space c (All-head IsDigit c (take n rest) ds) cc)
run-long (c ∷ rest) (d ∷ begin) y (suc n) le ds next db is =
    let tail : rest ≡ begin ++ 32 ∷ y = cc in
    ap suc (run-long rest begin y n (omega (arith, le)) (All-tail IsDigit c (take n rest) ds) (λ lt. next (omega (arith, lt))) (All-tail IsDigit d begin db) tail)

pub space-split : (rest : List ℕ) (n : ℕ) → n < length rest → get_or rest n 0 ≡ 32 → rest ≡ take n rest ++ 32 ∷ drop (n + 1) rest
space-split rest n inside space = sym (take-append-drop n rest) ∙ ap (λ l. take n rest ++ l) (drop_more rest n 0 inside ∙ ap (λ b. b ∷ drop (n + 1) rest) space)

at-space : (begin y : List ℕ) → (length begin < length (begin ++ 32 ∷ y)) × (get_or (begin ++ 32 ∷ y) (length begin) 0 ≡ 32)
at-space [] y = (omega arith, refl)
at-space (d ∷ begin) y = let more = at-space begin y in (omega (arith, more.0), more.1)

module _ (line first : List ℕ) where
  behind-first : (begin r : List ℕ) → line ≡ (first ++ (begin ++ 32 ∷ [])) ++ r → line ≡ first ++ (begin ++ 32 ∷ r)
  behind-first begin r is = is ∙ (append_assoc first (begin ++ 32 ∷ []) r ∙ ap (λ l. first ++ l) (append_assoc begin (32 ∷ []) r))

  pub words-found : (n : ℕ) → IsFrontOf line first → n < length (drop (length first) line) → All IsDigit (take n (drop (length first) line)) → get_or (drop (length first) line) n 0 ≡ 32 → AreWords line first (length first + n + 1)
  words-found n front inside digits space = record {
    begin = begin;
    digits = digits;
    here = record { rest = drop (n + 1) rest; whole = front.whole ∙ (ap (λ l. first ++ l) (sym rest-is ∙ (space-split rest n inside space ∙ sym (append_assoc begin (32 ∷ []) (drop (n + 1) rest)))) ∙ sym (append_assoc first (begin ++ 32 ∷ []) (drop (n + 1) rest))) };
    count_is = omega (arith, long, length-append first (begin ++ 32 ∷ []), length-append begin (32 ∷ []));
  }
    where
      rest : List ℕ
      rest = drop (length first) line

      begin : List ℕ
      begin = take n rest

      rest-is : rest ≡ front.rest
      rest-is = ap (drop (length first)) front.whole ∙ drop_at first front.rest (length first) refl

      long : length begin ≡ n
      long = length-take-le n rest (omega (arith, inside))

  module _ (count : ℕ) (w : AreWords line first count) where
    whole : line ≡ first ++ (w.begin ++ 32 ∷ w.here.rest)
    whole = behind-first w.begin w.here.rest w.here.whole

    pub words-first : IsFrontOf line first
    words-first = record { rest = w.begin ++ 32 ∷ w.here.rest; whole = whole }

    rest-of : drop (length first) line ≡ w.begin ++ 32 ∷ w.here.rest
    rest-of = ap (drop (length first)) whole ∙ drop_at first (w.begin ++ 32 ∷ w.here.rest) (length first) refl

    pub words-run : (n : ℕ) → n ≤ length (drop (length first) line) → All IsDigit (take n (drop (length first) line)) → (n < length (drop (length first) line) → IsDigit (get_or (drop (length first) line) n 0) → ⊥)
        → (n < length (drop (length first) line)) × (get_or (drop (length first) line) n 0 ≡ 32)
    words-run n le digits next =
        let long : n ≡ length w.begin = run-long (drop (length first) line) w.begin w.here.rest n le digits next w.digits rest-of in
        let space = at-space w.begin w.here.rest in
        (omega (arith, long, space.0, ap length rest-of), ap (λ l. get_or l n 0) rest-of ∙ (ap (λ k. get_or (w.begin ++ 32 ∷ w.here.rest) k 0) long ∙ space.1))

-- ---- the whole line

line-is : (begin text words : List ℕ) → words ≡ end_words begin text → end_line begin text ≡ words ++ end_last text words
unfolding end_line
line-is begin text words is = rw is refl

module _ (text : List ℕ) (at : ℕ) (inside : at ≤ length text) where
  abbrev before : List ℕ
  before = take at text

  abbrev line : List ℕ
  line = drop at text

  long : length before ≡ at
  long = length-take-le at text inside

  first-is : end_first (length before) ≡ end_first at
  first-is = ap end_first long

  -- the words and the digest are there
  pub end-found : (n : ℕ) (w : AreWords line (end_first at) n) → IsFrontOf (drop n line) (end_last before (take n line)) → IsEnd text at (at + n + length (end_last before (take n line)))
  end-found n w last = record {
    begin = w.begin;
    digits = w.digits;
    here = record { rest = last.rest; whole = sym (take-append-drop n line) ∙ (ap (λ l. take n line ++ l) last.whole ∙ (sym (append_assoc (take n line) (end_last before (take n line)) last.rest) ∙ ap (λ l. l ++ last.rest) (sym is))) };
    behind = omega (arith, ap length is, length-append (take n line) (end_last before (take n line)), w.count_is, ap length words);
    inside = omega (arith, ap length last.whole, length-append (end_last before (take n line)) last.rest, words-long, length-drop-at);
  }
    where
      words : take n line ≡ end_first at ++ (w.begin ++ 32 ∷ [])
      words = ap (take n) w.here.whole ∙ take_at (end_first at ++ (w.begin ++ 32 ∷ [])) w.here.rest n (sym w.count_is)

      is : end_line w.begin before ≡ take n line ++ end_last before (take n line)
      is = line-is w.begin before (take n line) (words ∙ ap (λ f. f ++ (w.begin ++ 32 ∷ [])) (sym first-is))

      words-long : n ≤ length line
      words-long = omega (arith, w.count_is, ap length w.here.whole, length-append (end_first at ++ (w.begin ++ 32 ∷ [])) w.here.rest)

      length-drop-at : length (drop n line) + n + at ≡ length text
      length-drop-at = omega (arith, words-long, inside, ap length (take-append-drop n line), length-append (take n line) (drop n line), ap length (take-append-drop at text), length-append before line, long, length-take-le n line words-long)

  -- an end has its words and its digest
  module _ (end : ℕ) (e : IsEnd text at end) where
    abbrev words : List ℕ
    words = end_first at ++ (e.begin ++ 32 ∷ [])

    is : end_line e.begin before ≡ words ++ end_last before words
    is = line-is e.begin before words (ap (λ f. f ++ (e.begin ++ 32 ∷ [])) (sym first-is))

    told : line ≡ words ++ (end_last before words ++ e.here.rest)
    told = e.here.whole ∙ (ap (λ l. l ++ e.here.rest) is ∙ append_assoc words (end_last before words) e.here.rest)

    pub end-words : AreWords line (end_first at) (length words)
    end-words = record { begin = e.begin; digits = e.digits; here = record { rest = end_last before words ++ e.here.rest; whole = told }; count_is = refl }

    behind-words : drop (length (end_first at)) line ≡ e.begin ++ 32 ∷ (end_last before words ++ e.here.rest)
    behind-words = ap (drop (length (end_first at))) (behind-first line (end_first at) e.begin (end_last before words ++ e.here.rest) told) ∙ drop_at (end_first at) (e.begin ++ 32 ∷ (end_last before words ++ e.here.rest)) (length (end_first at)) refl

    -- and they are those that are found
    same-words : (n : ℕ) → AreWords line (end_first at) n → n ≡ length words
    same-words n w = w.count_is ∙ ap (λ b. length (end_first at ++ (b ++ 32 ∷ []))) (one-run w.begin e.begin w.here.rest (end_last before words ++ e.here.rest) w.digits e.digits (sym (rest-of line (end_first at) n w) ∙ behind-words))

    pub end-last : (n : ℕ) → AreWords line (end_first at) n → IsFrontOf (drop n line) (end_last before (take n line)) × (end ≡ at + n + length (end_last before (take n line)))
    end-last n w =
        let same = same-words n w in
        let taken : take n line ≡ words = ap (take n) told ∙ take_at words (end_last before words ++ e.here.rest) n (sym same) in (
          record { rest = e.here.rest; whole = ap (drop n) told ∙ (drop_at words (end_last before words ++ e.here.rest) n (sym same) ∙ ap (λ l. end_last before l ++ e.here.rest) (sym taken)) },
          omega (arith, e.behind, ap length is, length-append words (end_last before words), same, ap (λ l. length (end_last before l)) taken),
        )

-- ---- where an end says that its batch begins

one-less : (k : ℕ) → suc k - 1 ≡ k
one-less k = omega arith

one-more : (k : ℕ) → k + 1 ≡ suc k
one-more k = omega arith

-- digits behind the last space
last-run : (words before told : List ℕ) (at : ℕ) → words ≡ before ++ 32 ∷ told → All IsDigit told → at ≤ length words → All IsDigit (drop at words) → (0 < at → IsDigit (get_or words (at - 1) 0) → ⊥) → at ≡ length before + 1
last-run words [] told zero is ds le all next = absurd (no-space 32 (subst IsDigit (ap (λ l. get_or l 0 0) is) (All-get_or IsDigit words 0 0 (omega (arith, ap length is)) all)) refl)
last-run words [] told (suc zero) is ds le all next = refl
last-run words [] told (suc (suc k)) is ds le all next =
    absurd (next (omega arith) (subst IsDigit (sym (ap (λ n. get_or words n 0) (one-less (suc k)) ∙ ap (λ l. get_or l (suc k) 0) is)) (All-get_or IsDigit told k 0 (omega (arith, le, ap length is)) ds)))
last-run words (b ∷ before) told zero is ds le all next =
    let space = at-space (b ∷ before) told in
    absurd (no-space _ (All-get_or IsDigit words (length (b ∷ before)) 0 (omega (arith, space.0, ap length is)) all) (ap (λ l. get_or l (length (b ∷ before)) 0) is ∙ space.1))
last-run [] (b ∷ before) told (suc k) is ds le all next = absurd (omega (arith, le))
last-run (w ∷ words) (b ∷ before) told (suc k) is ds le all next =
    let tail : words ≡ before ++ 32 ∷ told = cc in
    let rest : k ≡ length before + 1 = last-run words before told k tail ds (omega (arith, le)) all (λ some. later k some next) in
    omega (arith, rest)
  where
    later : (k : ℕ) → 0 < k → (0 < suc k → IsDigit (get_or (w ∷ words) (suc k - 1) 0) → ⊥) → IsDigit (get_or words (k - 1) 0) → ⊥
    later zero some f = absurd (omega (arith, some))
    later (suc k) some f = λ d. f (omega arith) (subst IsDigit (ap (λ n. get_or words n 0) (one-less k) ∙ ap (λ n. get_or (w ∷ words) n 0) (sym (one-less (suc k)))) d)

module _ (front begin : List ℕ) (room : 65 ≤ length front) where
  abbrev said : List ℕ
  said = take (length front - 65) front

  pub elsewhere-found : (at : ℕ) → at ≤ length said → All IsDigit (drop at said) → (at ≡ 0 → ⊥) → get_or said (at - 1) 0 ≡ 32 → (drop at said ≡ begin → ⊥) → BeginsElsewhere begin front
  elsewhere-found zero le digits some space other = absurd (some refl)
  elsewhere-found (suc at) le digits some space other = record {
    before = take at said;
    told = drop (suc at) said;
    digest = drop (length front - 65) front;
    split = sym (take-append-drop (length front - 65) front) ∙ ap (λ l. l ++ drop (length front - 65) front) (space-split said at (omega (arith, le)) (ap (λ n. get_or said n 0) (sym (one-less at)) ∙ space) ∙ ap (λ n. take at said ++ 32 ∷ drop n said) (one-more at));
    digits = digits;
    long = omega (arith, room, length-drop (length front - 65) front);
    other = other;
  }

  module _ (e : BeginsElsewhere begin front) (at : ℕ) (le : at ≤ length said) (digits : All IsDigit (drop at said)) (next : 0 < at → IsDigit (get_or said (at - 1) 0) → ⊥) where
    said-is : said ≡ e.before ++ 32 ∷ e.told
    said-is = ap (λ l. take (length front - 65) l) e.split ∙ take_at (e.before ++ 32 ∷ e.told) e.digest (length front - 65) (omega (arith, ap length e.split, length-append (e.before ++ 32 ∷ e.told) e.digest, e.long))

    at-is : at ≡ length e.before + 1
    at-is = last-run said e.before e.told at said-is e.digits le digits next

    pub told-some : at ≡ 0 → ⊥
    told-some is = omega (arith, is, at-is)

    pub told-space : get_or said (at - 1) 0 ≡ 32
    told-space = ap (λ l. get_or l (at - 1) 0) said-is ∙ (ap (λ n. get_or (e.before ++ 32 ∷ e.told) n 0) (omega (arith, at-is)) ∙ (at-space e.before e.told).1)

    pub told-other : drop at said ≡ begin → ⊥
    told-other is = e.other (sym told-is ∙ is)
      where
        told-is : drop at said ≡ e.told
        told-is = ap (drop at) (said-is ∙ sym (append_assoc e.before (32 ∷ []) e.told)) ∙ drop_at (e.before ++ 32 ∷ []) e.told at (omega (arith, at-is, length-append e.before (32 ∷ [])))

-- what `!=` says of two slices
pub unlike : (xs ys : List ℕ) (r : Bool) → r ≡ not (pointwise nat_eq xs ys) → (r ≡ true → xs ≡ ys → ⊥) × (r ≡ false → xs ≡ ys)
unlike xs ys r is = go (pointwise nat_eq xs ys) r (slice_eq-Decides Decides-eqb xs ys (pointwise nat_eq xs ys) refl) is
  where
    go : (s r : Bool) → Decides s (xs ≡ ys) → r ≡ not s → (r ≡ true → xs ≡ ys → ⊥) × (r ≡ false → xs ≡ ys)
    go true r d is = (λ yes. absurd cc, λ _. d.0 refl)
    go false r d is = (λ _ same. let h = d.1 same in absurd cc, λ no. absurd cc)
