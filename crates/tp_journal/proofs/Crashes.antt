-- What a crash leaves as a batch is appended, and what is recovered of that.
use Rattle.std.proofs.Common.{◌≡◌, ◌⊎◌, inl, inr, ⊎_elim, ℕ, zero, suc, ◌+◌, ◌-◌, ◌*◌, ◌<◌, ◌≤◌, ◌^◌, List, [], ◌∷◌, ◌++◌, get_or, length, drop, replicate, refl, sym, ◌∙◌, ap, subst, arith, append_assoc, length-append}
use Rattle.std.specs.Prelude.{All, codes, decimal}
use Rattle.hex.specs.Hex.{encode_lower, encode_with}
use Rattle.sha2.specs.Sha256.{sha256}
use Rattle.sha2.proofs.Facts256.{length-sha256}
use Rattle.std.proofs.lemmas.List.Elements.{All-append, All-cons, All-head, All-nil, All-tail, All-get_or, All-replicate}
use Rattle.std.proofs.lemmas.List.{append-nil, drop_at, ext_get_or, nil_from_length}
use Rattle.std.proofs.lemmas.Bool.Decides.{nat_tests}
use Rattle.tp_journal.specs.Device.{EachMixed}
use Rattle.tp_journal.specs.Laws.{KeepsBatches, KeepsText, TellsNoCrash}
use Rattle.tp_journal.specs.Text.{BeginsElsewhere, HasSealed, HasTorn, IsBatch, IsDamage, IsDigit, IsFrontOf, IsPlain, IsSealed, IsSet, IsText, end_last, end_line, end_words, first_line, sealed_batch, text_of, with_batch}
use Rattle.tp_journal.proofs.Damages.{IsZero}
use Rattle.tp_journal.proofs.EndLines.{begun, end-is, sealed-text}
use Rattle.tp_journal.proofs.Kept.{appended-sealed, sealed-front}
use Rattle.tp_journal.proofs.Seals.{front-length}
use Rattle.tp_journal.proofs.Texts.{rest-text, text-append}

plain-not-end : (b : ℕ) → IsPlain b → b ≡ 23 → ⊥
plain-not-end b plain is = grind (arith, nat_tests)

text-of-zero : (b : ℕ) (bs : List ℕ) → b ≡ 0 → text_of (b ∷ bs) ≡ []
text-of-zero b bs is = rw is refl

text-of-set : (b : ℕ) (bs : List ℕ) → IsSet b → text_of (b ∷ bs) ≡ b ∷ text_of bs
text-of-set b bs is = rw is refl

text-of-zeros : (n : ℕ) → text_of (replicate n 0) ≡ []
text-of-zeros zero = refl
text-of-zeros (suc n) = refl

nothing : (bytes none : List ℕ) → none ≡ [] → IsFrontOf bytes none
nothing bytes none is = record { rest = bytes; whole = ap (λ (l : List ℕ). l ++ bytes) (sym is) }

-- ---- bytes that were written over zeros

torn-front : (n : ℕ) (bytes rest : List ℕ) → IsText bytes → EachMixed (replicate n 0) bytes rest → IsFrontOf bytes (text_of rest)
torn-front n [] rest set mixed = nothing [] (text_of rest) (ap text_of mixed ∙ text-of-zeros n)
torn-front zero (b ∷ bytes) rest set mixed = nothing (b ∷ bytes) (text_of rest) (ap text_of mixed)
torn-front (suc n) (b ∷ bytes) [] set mixed = absurd mixed
torn-front (suc n) (b ∷ bytes) (c ∷ rest) set mixed = ⊎_elim
    (λ zero_is. nothing (b ∷ bytes) (text_of (c ∷ rest)) (text-of-zero c rest zero_is))
    (λ same.
    let more = torn-front n bytes rest (All-tail IsSet b bytes set) mixed.1 in
    record {
      rest = more.rest;
      whole = ap (λ (l : List ℕ). b ∷ l) more.whole ∙ ap (λ (l : List ℕ). l ++ more.rest) (ap (λ (x : ℕ). x ∷ text_of rest) (sym same) ∙ sym (text-of-set c rest (subst IsSet (sym same) (All-head IsSet b bytes set))));
    })
    mixed.0

-- a byte that isn't 0 was written
torn-byte : (n : ℕ) (bytes rest : List ℕ) (k : ℕ) → EachMixed (replicate n 0) bytes rest → (get_or rest k 0 ≡ 0) ⊎ (get_or bytes k 0 ≡ get_or rest k 0)
torn-byte n [] rest k mixed = inl (ap (λ (l : List ℕ). get_or l k 0) mixed ∙ zeros n k)
  where
    zeros : (n k : ℕ) → get_or (replicate {A = ℕ} n 0) k 0 ≡ 0
    zeros zero k = refl
    zeros (suc n) zero = refl
    zeros (suc n) (suc k) = zeros n k
torn-byte zero (b ∷ bytes) rest k mixed = inl (ap (λ (l : List ℕ). get_or l k 0) mixed)
torn-byte (suc n) (b ∷ bytes) [] k mixed = absurd mixed
torn-byte (suc n) (b ∷ bytes) (c ∷ rest) zero mixed = ⊎_elim (λ is. inl is) (λ same. inr (sym same)) mixed.0
torn-byte (suc n) (b ∷ bytes) (c ∷ rest) (suc k) mixed = torn-byte n bytes rest k mixed.1

torn-behind : (n : ℕ) (bytes rest : List ℕ) → EachMixed (replicate n 0) bytes rest → All IsZero (drop (length bytes) rest)
torn-behind n [] rest mixed = subst (All IsZero) (sym mixed) (All-replicate IsZero n 0 refl)
torn-behind zero (b ∷ bytes) rest mixed = subst (λ (l : List ℕ). All IsZero (drop (suc (length bytes)) l)) (sym mixed) (All-nil IsZero)
torn-behind (suc n) (b ∷ bytes) [] mixed = All-nil IsZero
torn-behind (suc n) (b ∷ bytes) (c ∷ rest) mixed = torn-behind n bytes rest mixed.1

-- ---- where the end of a batch is

only-end : (front : List ℕ) (k : ℕ) → All IsPlain front → get_or (front ++ 23 ∷ 10 ∷ []) k 0 ≡ 23 → k ≡ length front
only-end [] zero plain is = refl
only-end [] (suc zero) plain is = absurd (omega (arith, is))
only-end [] (suc (suc k)) plain is = absurd (omega (arith, is))
only-end (x ∷ front) zero plain is = absurd (plain-not-end x (All-head IsPlain x front plain) is)
only-end (x ∷ front) (suc k) plain is = ap suc (only-end front k (All-tail IsPlain x front plain) is)

at-seam : (xs ys : List ℕ) (k : ℕ) → get_or (xs ++ ys) (length xs + k) 0 ≡ get_or ys k 0
at-seam [] ys k =
    let e : 0 + k ≡ k = omega arith in
    ap (λ (n : ℕ). get_or ys n 0) e
at-seam (x ∷ xs) ys k =
    let e : suc (length xs) + k ≡ suc (length xs + k) = omega arith in
    ap (λ (n : ℕ). get_or (x ∷ (xs ++ ys)) n 0) e ∙ at-seam xs ys k

before-seam : (xs ys : List ℕ) (k : ℕ) → k < length xs → get_or (xs ++ ys) k 0 ≡ get_or xs k 0
before-seam [] ys k lt = absurd (omega (arith, lt))
before-seam (x ∷ xs) ys zero lt = refl
before-seam (x ∷ xs) ys (suc k) lt = before-seam xs ys k (omega (arith, lt))

-- two fronts of a text
longer-front : (a b x y : List ℕ) → a ++ x ≡ b ++ y → length a ≤ length b → (more : List ℕ) × (b ≡ a ++ more) × (x ≡ more ++ y)
longer-front [] b x y is le = (b, refl, is)
longer-front (c ∷ a) [] x y is le = absurd (omega (arith, le))
longer-front (c ∷ a) (d ∷ b) x y is le =
    let further = longer-front a b x y (ap rest_of is) (omega (arith, le)) in
    (further.0, ap (λ (z : ℕ). z ∷ b) (sym (ap first_of is)) ∙ ap (λ (l : List ℕ). c ∷ l) further.1, further.2)
  where
    first_of : List ℕ → ℕ
    first_of [] = 0
    first_of (z ∷ zs) = z

    rest_of : List ℕ → List ℕ
    rest_of [] = []
    rest_of (z ∷ zs) = zs

-- the last bytes of a sealed text
last-line : (t : List ℕ) → length t < 2 ^ 64 → IsSealed t → (2 ≤ length t) × (get_or t (length t - 1) 0 ≡ 10) × ((t ≡ first_line) ⊎ (get_or t (length t - 2) 0 ≡ 23))
last-line t short (inl is) = (omega (arith, ap length is), ap (λ (l : List ℕ). get_or l (length l - 1) 0) is, inl is)
last-line t short (inr (begin, inner, digits, front, is)) =
    let end = end-is begin inner digits (omega (arith, short, ap length is, length-append inner (end_line begin inner))) in
    let whole : t ≡ (inner ++ end.0) ++ 23 ∷ 10 ∷ [] = is ∙ ap (λ (l : List ℕ). inner ++ l) end.2 ∙ sym (append_assoc inner end.0 (23 ∷ 10 ∷ [])) in
    let long : length t ≡ length (inner ++ end.0) + 2 = omega (arith, ap length whole, length-append (inner ++ end.0) (23 ∷ 10 ∷ [])) in
    let one : length t - 1 ≡ length (inner ++ end.0) + 1 = omega (arith, long) in
    let two : length t - 2 ≡ length (inner ++ end.0) + 0 = omega (arith, long) in (
      omega (arith, long),
      ap (λ (l : List ℕ). get_or l (length t - 1) 0) whole ∙ ap (λ (n : ℕ). get_or ((inner ++ end.0) ++ 23 ∷ 10 ∷ []) n 0) one ∙ at-seam (inner ++ end.0) (23 ∷ 10 ∷ []) 1,
      inr (ap (λ (l : List ℕ). get_or l (length t - 2) 0) whole ∙ ap (λ (n : ℕ). get_or ((inner ++ end.0) ++ 23 ∷ 10 ∷ []) n 0) two ∙ at-seam (inner ++ end.0) (23 ∷ 10 ∷ []) 0),
    )

-- ---- where the end of a batch says that it begins

digit-some : (b : ℕ) → IsDigit b → b ≡ 0 → ⊥
digit-some b digit is = absurd (grind (arith, nat_tests))

digit-space : (b : ℕ) → IsDigit b → b ≡ 32 → ⊥
digit-space b digit is = absurd (grind (arith, nat_tests))

at-end : (before told : List ℕ) → get_or (before ++ 32 ∷ told) (length before) 0 ≡ 32
at-end [] told = refl
at-end (b ∷ before) told = at-end before told

-- of two numbers behind a space, as long as the other with what is before, the one is there where bytes of
-- the other are missing or the same
same-told : (before told words begin : List ℕ) → length (before ++ 32 ∷ told) ≡ length (words ++ 32 ∷ begin) → All IsDigit told → All IsDigit begin
    → ((k : ℕ) → k < length (before ++ 32 ∷ told) → (get_or (before ++ 32 ∷ told) k 0 ≡ 0) ⊎ (get_or (words ++ 32 ∷ begin) k 0 ≡ get_or (before ++ 32 ∷ told) k 0)) → told ≡ begin
same-told [] told [] begin long ds db agree = ext_get_or 0 told begin (omega (arith, long)) (λ i low. ⊎_elim
    (λ none. absurd (digit-some _ (All-get_or IsDigit told i 0 low ds) none)) (λ same. sym same) (agree (suc i) (omega (arith, low))))
same-told [] told (w ∷ words) begin long ds db agree =
    let inside : length words < length told = omega (arith, long, length-append words (32 ∷ begin)) in
    let digit = All-get_or IsDigit told (length words) 0 inside ds in
    ⊎_elim (λ none. absurd (digit-some _ digit none)) (λ same. absurd (digit-space _ digit (sym same ∙ at-end words begin))) (agree (suc (length words)) (omega (arith, inside)))
same-told (b ∷ before) told [] begin long ds db agree =
    let inside : length before < length begin = omega (arith, long, length-append before (32 ∷ told)) in
    let digit = All-get_or IsDigit begin (length before) 0 inside db in
    let space = at-end before told in
    ⊎_elim (λ none. absurd (omega (arith, none, space))) (λ same. absurd (digit-space _ digit (same ∙ space))) (agree (suc (length before)) (omega (arith, length-append before (32 ∷ told))))
same-told (b ∷ before) told (w ∷ words) begin long ds db agree = same-told before told words begin (omega (arith, long)) ds db (λ k low. agree (suc k) (omega (arith, low)))

-- what a batch's end says, behind the batch
said-begin : (batch begin text : List ℕ) → batch ++ end_line begin text ≡ ((batch ++ (codes "# " ++ decimal (length text))) ++ 32 ∷ begin) ++ (32 ∷ end_last text (end_words begin text))
unfolding end_line
said-begin batch begin text =
    let first : List ℕ = codes "# " ++ decimal (length text) in
    let last : List ℕ = end_last text (end_words begin text) in
    let words : end_words begin text ≡ first ++ (32 ∷ begin ++ 32 ∷ []) = append_assoc first (32 ∷ []) (begin ++ 32 ∷ []) in
    let line : end_words begin text ++ last ≡ first ++ (32 ∷ begin ++ 32 ∷ last) = ap (λ l. l ++ last) words ∙ (append_assoc first (32 ∷ begin ++ 32 ∷ []) last ∙ ap (λ l. first ++ 32 ∷ l) (append_assoc begin (32 ∷ []) last)) in
    ap (λ l. batch ++ l) line ∙ (sym (append_assoc batch first (32 ∷ begin ++ 32 ∷ last)) ∙ sym (append_assoc (batch ++ first) (32 ∷ begin) (32 ∷ last)))

hex-long : (bs : List ℕ) → length (encode_lower bs) ≡ 2 * length bs
unfolding encode_with
hex-long [] = refl
hex-long (b ∷ bs) = let more = hex-long bs in omega (arith, more)

last-long : (text words : List ℕ) → length (32 ∷ end_last text words) ≡ 67
last-long text words = omega (arith, length-append (encode_lower (sha256 (text ++ words))) (23 ∷ 10 ∷ []), hex-long (sha256 (text ++ words)), length-sha256 (text ++ words))

module _ (text batch file : List ℕ) (short : length (with_batch text batch) < 2 ^ 64) (is_text : IsText text) (is_sealed : IsSealed text) (is_batch : IsBatch batch) (torn : HasTorn text (sealed_batch text batch) file) where
  abbrev begin : List ℕ
  begin = decimal (length text)

  abbrev bytes : List ℕ
  bytes = sealed_batch text batch

  inner-short : length (text ++ batch) < 2 ^ 64
  inner-short = omega (arith, short, length-append (text ++ batch) (end_line begin (text ++ batch)))

  begin-digits : All IsDigit begin
  begin-digits = begun text batch inner-short

  end : (front : List ℕ) × All IsPlain front × (end_line begin (text ++ batch) ≡ front ++ 23 ∷ 10 ∷ [])
  end = end-is begin (text ++ batch) begin-digits inner-short

  abbrev body : List ℕ
  body = batch ++ end.0

  body-plain : All IsPlain body
  body-plain = All-append IsPlain batch end.0 is_batch.plain end.1

  bytes-are : bytes ≡ body ++ 23 ∷ 10 ∷ []
  bytes-are = ap (λ (l : List ℕ). batch ++ l) end.2 ∙ sym (append_assoc batch end.0 (23 ∷ 10 ∷ []))

  bytes-long : length bytes ≡ length body + 2
  bytes-long = omega (arith, ap length bytes-are, length-append body (23 ∷ 10 ∷ []))

  all-is : text ++ bytes ≡ with_batch text batch
  all-is = sym (append_assoc text batch (end_line begin (text ++ batch)))

  here : text_of file ≡ text ++ text_of torn.rest
  here = ap text_of torn.file_is ∙ text-append text torn.rest is_text

  written : IsFrontOf bytes (text_of torn.rest)
  written = torn-front torn.free bytes torn.rest (sealed-text batch begin (text ++ batch) is_batch.plain begin-digits inner-short) torn.torn

  first-long : 23 ≤ length text
  first-long = front-length text first_line (sealed-front text is_sealed)

  -- what is found is the text, or all of it
  pub either : (found : List ℕ) → HasSealed (text_of file) found → (found ≡ text) ⊎ (found ≡ with_batch text batch)
  either found h = from (longer-front text found (text_of torn.rest) h.front.rest (sym here ∙ h.front.whole) (h.longest text (record { rest = text_of torn.rest; whole = here }) is_sealed))
    where
      ends : (more : List ℕ) → found ≡ text ++ more → text_of torn.rest ≡ more ++ h.front.rest → 1 ≤ length more → found ≡ with_batch text batch
      ends more is rest_is some =
          let bytes_split : bytes ≡ more ++ (h.front.rest ++ written.rest) = written.whole ∙ ap (λ (l : List ℕ). l ++ written.rest) rest_is ∙ append_assoc more h.front.rest written.rest in
          let long : length found ≡ length text + length more = omega (arith, ap length is, length-append text more) in
          let no_longer : length more ≤ length bytes = omega (arith, ap length bytes_split, length-append more (h.front.rest ++ written.rest)) in
          let all_long : length text + length bytes < 2 ^ 64 = omega (arith, short, ap length all-is, length-append text bytes) in
          let last = last-line found (omega (arith, all_long, no_longer, long)) h.is_sealed in
          let text_last = last-line text (omega (arith, all_long)) is_sealed in
          ⊎_elim
          (λ first. absurd (omega (arith, ap length first, long, some, first-long)))
          (λ mark. ⊎_elim
          (λ one.
          absurd (omega (arith, text_last.1, mark, sym (before-seam text more (length text - 1) (omega (arith, first-long))), ap (λ (l : List ℕ). get_or l (length found - 2) 0) is, ap (λ (n : ℕ). get_or (text ++ more) n 0) {x = length found - 2} {y = length text - 1} (omega (arith, long, one)))))
          (λ several.
          let k : ℕ = length more - 2 in
          let seam : length text + k ≡ length found - 2 = omega (arith, long, several) in
          let mark_in : get_or more k 0 ≡ 23 = sym (at-seam text more k) ∙ ap (λ (n : ℕ). get_or (text ++ more) n 0) seam ∙ ap (λ (l : List ℕ). get_or l (length found - 2) 0) (sym is) ∙ mark in
          let mark_at : get_or (body ++ 23 ∷ 10 ∷ []) k 0 ≡ 23 = ap (λ (l : List ℕ). get_or l k 0) (sym bytes-are ∙ bytes_split) ∙ before-seam more (h.front.rest ++ written.rest) k (omega (arith, several)) ∙ mark_in in
          let place : k ≡ length body = only-end body k body-plain mark_at in
          let none : h.front.rest ++ written.rest ≡ [] = nil_from_length (h.front.rest ++ written.rest) (omega (arith, place, several, bytes-long, ap length bytes_split, length-append more (h.front.rest ++ written.rest))) in
          is ∙ ap (λ (l : List ℕ). text ++ l) (sym (append-nil more) ∙ ap (λ (l : List ℕ). more ++ l) (sym none) ∙ sym bytes_split) ∙ all-is)
          (one-or-more (length more) some))
          last.2
        where
          one-or-more : (n : ℕ) → 1 ≤ n → (n ≡ 1) ⊎ (2 ≤ n)
          one-or-more zero le = absurd (omega (arith, le))
          one-or-more (suc zero) le = inl refl
          one-or-more (suc (suc n)) le = inr (omega arith)

      from : (more : List ℕ) × (found ≡ text ++ more) × (text_of torn.rest ≡ more ++ h.front.rest) → (found ≡ text) ⊎ (found ≡ with_batch text batch)
      from ([], is, rest_is) = inl (is ∙ append-nil text)
      from (x ∷ more, is, rest_is) = inr (ends (x ∷ more) is rest_is (omega arith))

  pub untold : (found : List ℕ) → HasSealed (text_of file) found → IsDamage (decimal (length found)) (drop (length found) file) → ⊥
  untold found h d = ⊎_elim at-text at-all (either found h)
    where
      end-byte : (at rest : List ℕ) (d : IsDamage at rest) → get_or rest (length d.front) 0 ≡ 23
      end-byte at rest d =
          let e : length d.front ≡ length d.front + 0 = omega arith in
          ap (λ (l : List ℕ). get_or l (length d.front) 0) d.split ∙ ap (λ (n : ℕ). get_or (d.front ++ 23 ∷ 10 ∷ d.back) n 0) e ∙ at-seam d.front (23 ∷ 10 ∷ d.back) 0

      behind : drop (length text) file ≡ torn.rest
      behind = ap (drop (length text)) torn.file_is ∙ drop_at text torn.rest (length text) refl

      at-all : found ≡ with_batch text batch → ⊥
      at-all is =
          let rest_is : drop (length found) file ≡ drop (length bytes) torn.rest = ap (λ (n : ℕ). drop n file) (ap length (is ∙ sym all-is) ∙ length-append text bytes) ∙ ap (drop (length text + length bytes)) torn.file_is ∙ dropped text torn.rest (length bytes) in
          let zeros : All IsZero (drop (length found) file) = subst (All IsZero) (sym rest_is) (torn-behind torn.free bytes torn.rest torn.torn) in
          let inside : length d.front < length (drop (length found) file) = omega (arith, ap length d.split, length-append d.front (23 ∷ 10 ∷ d.back)) in
          omega (arith, end-byte (decimal (length found)) (drop (length found) file) d, All-get_or IsZero (drop (length found) file) (length d.front) 0 inside zeros)
        where
          dropped : (xs ys : List ℕ) (n : ℕ) → drop (length xs + n) (xs ++ ys) ≡ drop n ys
          dropped [] ys n =
              let e : 0 + n ≡ n = omega arith in
              ap (λ (m : ℕ). drop m ys) e
          dropped (x ∷ xs) ys n =
              let e : suc (length xs) + n ≡ suc (length xs + n) = omega arith in
              ap (λ (m : ℕ). drop m (x ∷ (xs ++ ys))) e ∙ dropped xs ys n

      at-text : found ≡ text → ⊥
      at-text is = told (subst (IsDamage begin) (ap (λ (t : List ℕ). drop (length t) file) is ∙ behind) (subst (λ (t : List ℕ). IsDamage (decimal (length t)) (drop (length found) file)) is d))
        where
          told : IsDamage begin torn.rest → ⊥
          told e = ⊎_elim (λ missing. ⊎_elim whole some missing) elsewhere e.told
            where
              place : length e.front ≡ length body
              place = ⊎_elim
                  (λ zero_is. absurd (omega (arith, end-byte begin torn.rest e, zero_is)))
                  (λ same. only-end body (length e.front) body-plain (ap (λ (l : List ℕ). get_or l (length e.front) 0) (sym bytes-are) ∙ same ∙ end-byte begin torn.rest e))
                  (torn-byte torn.free bytes torn.rest (length e.front) torn.torn)

              split : torn.rest ≡ (e.front ++ 23 ∷ 10 ∷ []) ++ e.back
              split = e.split ∙ sym (append_assoc e.front (23 ∷ 10 ∷ []) e.back)

              long : length (e.front ++ 23 ∷ 10 ∷ []) ≡ length bytes
              long = omega (arith, place, bytes-long, length-append e.front (23 ∷ 10 ∷ []))

              elsewhere : BeginsElsewhere begin e.front → ⊥
              elsewhere o = o.other (same-told o.before o.told words begin same-long o.digits begin-digits agree)
                where
                  words : List ℕ
                  words = batch ++ (codes "# " ++ decimal (length (text ++ batch)))

                  digest : List ℕ
                  digest = 32 ∷ end_last (text ++ batch) (end_words begin (text ++ batch))

                  bytes-split : bytes ≡ (words ++ 32 ∷ begin) ++ digest
                  bytes-split = said-begin batch begin (text ++ batch)

                  digest-long : length digest ≡ 67
                  digest-long = last-long (text ++ batch) (end_words begin (text ++ batch))

                  rest-split : torn.rest ≡ (o.before ++ 32 ∷ o.told) ++ (o.digest ++ 23 ∷ 10 ∷ e.back)
                  rest-split = e.split ∙ (ap (λ l. l ++ 23 ∷ 10 ∷ e.back) o.split ∙ append_assoc (o.before ++ 32 ∷ o.told) o.digest (23 ∷ 10 ∷ e.back))

                  same-long : length (o.before ++ 32 ∷ o.told) ≡ length (words ++ 32 ∷ begin)
                  same-long = omega (arith, place, bytes-long, ap length bytes-split, length-append (words ++ 32 ∷ begin) digest, digest-long, ap length o.split, length-append (o.before ++ 32 ∷ o.told) o.digest, o.long)

                  agree : (k : ℕ) → k < length (o.before ++ 32 ∷ o.told) → (get_or (o.before ++ 32 ∷ o.told) k 0 ≡ 0) ⊎ (get_or (words ++ 32 ∷ begin) k 0 ≡ get_or (o.before ++ 32 ∷ o.told) k 0)
                  agree k low =
                      let mine : get_or torn.rest k 0 ≡ get_or (o.before ++ 32 ∷ o.told) k 0 = ap (λ (l : List ℕ). get_or l k 0) rest-split ∙ before-seam (o.before ++ 32 ∷ o.told) (o.digest ++ 23 ∷ 10 ∷ e.back) k low in
                      let its : get_or bytes k 0 ≡ get_or (words ++ 32 ∷ begin) k 0 = ap (λ (l : List ℕ). get_or l k 0) bytes-split ∙ before-seam (words ++ 32 ∷ begin) digest k (omega (arith, low, same-long)) in
                      ⊎_elim (λ zero_is. inl (sym mine ∙ zero_is)) (λ same. inr (sym its ∙ same ∙ mine)) (torn-byte torn.free bytes torn.rest k torn.torn)

              some : (All IsZero e.back → ⊥) → ⊥
              some not_zero = not_zero (subst (All IsZero) (ap (drop (length bytes)) split ∙ drop_at (e.front ++ 23 ∷ 10 ∷ []) e.back (length bytes) long) (torn-behind torn.free bytes torn.rest torn.torn))

              whole : IsText e.front → ⊥
              whole text_is =
                  let set : IsText (e.front ++ 23 ∷ 10 ∷ []) = All-append IsSet e.front (23 ∷ 10 ∷ []) text_is (All-cons IsSet 23 (10 ∷ []) refl (All-cons IsSet 10 [] refl (All-nil IsSet))) in
                  let read : text_of torn.rest ≡ (e.front ++ 23 ∷ 10 ∷ []) ++ text_of e.back = ap text_of split ∙ text-append (e.front ++ 23 ∷ 10 ∷ []) e.back set in
                  let all_there : length bytes ≤ length (text_of torn.rest) = omega (arith, ap length read, long, length-append (e.front ++ 23 ∷ 10 ∷ []) (text_of e.back)) in
                  let same : text_of torn.rest ≡ bytes = sym (append-nil (text_of torn.rest)) ∙ ap (λ (l : List ℕ). text_of torn.rest ++ l) (sym (nil_from_length written.rest (omega (arith, all_there, ap length written.whole, length-append (text_of torn.rest) written.rest)))) ∙ sym written.whole in
                  let sealed_all : IsFrontOf (text_of file) (with_batch text batch) = record { rest = []; whole = here ∙ ap (λ (l : List ℕ). text ++ l) same ∙ all-is ∙ sym (append-nil (with_batch text batch)) } in
                  omega (arith, h.longest (with_batch text batch) sealed_all (appended-sealed text batch inner-short is_sealed), ap length is, ap length all-is, length-append text bytes, bytes-long)

pub keeps_batches : KeepsBatches
keeps_batches text batch file recovered short is_text is_sealed is_batch torn (inl none) =
    absurd (omega (arith, front-length text first_line (sealed-front text is_sealed), ap length (sym none.0 ∙ torn.file_is), length-append text torn.rest))
keeps_batches text batch file recovered short is_text is_sealed is_batch torn (inr found) = either text batch file short is_text is_sealed is_batch torn recovered found.0

pub tells_no_crash : TellsNoCrash
tells_no_crash text batch file longest short is_text is_sealed is_batch torn found damage = untold text batch file short is_text is_sealed is_batch torn longest found damage

pub keeps_text : KeepsText
keeps_text text file recovered is_sealed rest (inl none) =
    absurd (omega (arith, front-length text first_line (sealed-front text is_sealed), ap length (sym none.0 ∙ rest.file_is), length-append text (replicate rest.free 0)))
keeps_text text file recovered is_sealed rest (inr found) =
    let h = found.0 in
    let whole : text ≡ recovered ++ h.front.rest = sym (rest-text text file rest) ∙ h.front.whole in
    let all : length text ≤ length recovered = h.longest text (record { rest = []; whole = rest-text text file rest ∙ sym (append-nil text) }) is_sealed in
    let none : h.front.rest ≡ [] = nil_from_length h.front.rest (omega (arith, all, ap length whole, length-append recovered h.front.rest)) in
    sym (whole ∙ ap (λ (l : List ℕ). recovered ++ l) none ∙ append-nil recovered)
