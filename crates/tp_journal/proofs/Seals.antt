-- The longest front of a text that is sealed.
use Rattle.std.proofs.Common.{◌≡◌, ◌⊎◌, inl, inr, ⊎_elim, ℕ, zero, suc, ◌+◌, ◌-◌, ◌<◌, ◌≤◌, max, Bool, true, ◌==◌, List, [], ◌∷◌, ◌++◌, get_or, length, take, drop, refl, sym, ◌∙◌, ap, subst, arith, append_assoc, length-append, length-drop, take-append-drop}
use Rattle.std.proofs.lemmas.List.{drop-take, length-take-le, take_all, take_at, drop_at}
use Rattle.std.proofs.Math.Seq.{take-append-add}
use Rattle.std.proofs.lemmas.Bool.Decides.{Decides-eqb, nat_tests}
use Rattle.std.proofs.lemmas.Slice.Eq.{starts_is}
use Rattle.std.specs.List.{starts_with}
use Rattle.std.specs.Prelude.{All}
use Rattle.tp_journal.specs.Reading.{IsEnd}
use Rattle.tp_journal.specs.Text.{HasSealed, IsDigit, IsFrontOf, IsSealed, end_line, first_line, text_of, with_end}
use Rattle.tp_journal.proofs.EndLines.{end-marked}

-- no sealed front with its end at a place before this one is longer
abbrev pub Longest : List ℕ → ℕ → ℕ → Type 0
Longest text at count = (begin inner : List ℕ) → All IsDigit begin → length first_line ≤ length inner → length inner < at → IsFrontOf text (with_end begin inner) → length (with_end begin inner) ≤ count

front-of : (text front : List ℕ) → IsFrontOf text front → take (length front) text ≡ front
front-of text front f = ap (take (length front)) f.whole ∙ take_at front f.rest (length front) refl

pub front-length : (text front : List ℕ) → IsFrontOf text front → length front ≤ length text
front-length text front f = omega (arith, ap length f.whole, length-append front f.rest)

-- a text with a front, and the bytes behind that
inner-of : (text begin inner : List ℕ) → IsFrontOf text (with_end begin inner) → (take (length inner) text ≡ inner) × IsFrontOf (drop (length inner) text) (end_line begin inner)
inner-of text begin inner f =
    let whole : text ≡ inner ++ (end_line begin inner ++ f.rest) = f.whole ∙ append_assoc inner (end_line begin inner) f.rest in (
      ap (take (length inner)) whole ∙ take_at inner (end_line begin inner ++ f.rest) (length inner) refl,
      record { rest = f.rest; whole = ap (drop (length inner)) whole ∙ drop_at inner (end_line begin inner ++ f.rest) (length inner) refl },
    )

-- an end stands behind it
end-of : (text begin inner : List ℕ) → All IsDigit begin → IsFrontOf text (with_end begin inner) → IsEnd text (length inner) (length (with_end begin inner))
end-of text begin inner digits f =
    let parts = inner-of text begin inner f in
    record {
      begin = begin;
      digits = digits;
      here = subst (λ l. IsFrontOf (drop (length inner) text) (end_line begin l)) (sym parts.0) parts.1;
      behind = length-append inner (end_line begin inner) ∙ ap (λ l. length inner + length (end_line begin l)) (sym parts.0);
      inside = front-length text (with_end begin inner) f;
    }

-- an end begins with a mark
pub marked : (text begin inner : List ℕ) → IsFrontOf text (with_end begin inner) → (length inner < length text) × (get_or text (length inner) 0 ≡ 35)
marked text begin inner f =
    let rest = (inner-of text begin inner f).1 in
    let mark = end-marked begin inner in
    let is : drop (length inner) text ≡ 35 ∷ (mark.0 ++ rest.rest) = rest.whole ∙ ap (λ (l : List ℕ). l ++ rest.rest) mark.1 in
    (omega (arith, ap length is, length-drop (length inner) text), at (length inner) text (mark.0 ++ rest.rest) is)
  where
    at : (n : ℕ) (l more : List ℕ) → drop n l ≡ 35 ∷ more → get_or l n 0 ≡ 35
    at zero l more is = ap (λ (m : List ℕ). get_or m 0 0) is
    at (suc n) [] more is = absurd (omega (arith, ap length is))
    at (suc n) (x ∷ l) more is = at n l more is

pub longest-begun : (text : List ℕ) (at count : ℕ) → ((k : ℕ) → length first_line ≤ k → k < at → get_or text k 0 ≡ 35 → ⊥) → Longest text at count
longest-begun text at count none begin inner digits le lt front = absurd (none (length inner) le lt (marked text begin inner front).1)

pub longest-next : (text : List ℕ) (at next count longer : ℕ) → Longest text at count → count ≤ longer → ((m : ℕ) → IsEnd text at m → m ≤ longer)
    → ((k : ℕ) → at + 1 ≤ k → k < next → get_or text k 0 ≡ 35 → ⊥) → Longest text next longer
longest-next text at next count longer old more end none begin inner digits le lt front =
    ⊎_elim
    (λ before. omega (arith, old begin inner digits le before front, more))
    (λ not_before. ⊎_elim
    (λ same. end (length (with_end begin inner)) (subst (λ n. IsEnd text n (length (with_end begin inner))) same (end-of text begin inner digits front)))
    (λ behind. absurd (none (length inner) behind lt (marked text begin inner front).1))
    (later at (length inner) not_before))
    (sooner at (length inner))
  where
    sooner : (at n : ℕ) → (n < at) ⊎ (at ≤ n)
    sooner zero n = inr (omega arith)
    sooner (suc at) zero = inl (omega arith)
    sooner (suc at) (suc n) = ⊎_elim (λ lt. inl (omega (arith, lt))) (λ le. inr (omega (arith, le))) (sooner at n)

    later : (at n : ℕ) → at ≤ n → (n ≡ at) ⊎ (at + 1 ≤ n)
    later zero zero le = inl refl
    later zero (suc n) le = inr (omega arith)
    later (suc at) zero le = absurd (omega (arith, le))
    later (suc at) (suc n) le = ⊎_elim (λ is. inl (omega (arith, is))) (λ lt. inr (omega (arith, lt))) (later at n (omega (arith, le)))

pub sealed-next : (text : List ℕ) (at count longer : ℕ) → IsFrontOf text first_line → length first_line ≤ at → at ≤ length text → IsSealed (take count text)
    → (longer ≡ count) ⊎ IsEnd text at longer → IsSealed (take longer text)
sealed-next text at count longer front begun inside old (inl same) = subst (λ (n : ℕ). IsSealed (take n text)) (sym same) old
sealed-next text at count longer front begun inside old (inr is) =
    inr (is.begin, take at text, is.digits, first, ap (λ (n : ℕ). take n text) is.behind ∙ both)
  where
    line : List ℕ
    line = end_line is.begin (take at text)

    long : length (take at text) ≡ at
    long = length-take-le at text inside

    both : take (at + length line) text ≡ take at text ++ line
    both = ap (take (at + length line)) (sym (take-append-drop at text) ∙ ap (λ (l : List ℕ). take at text ++ l) is.here.whole ∙ sym (append_assoc (take at text) line is.here.rest))
        ∙ take_at (take at text ++ line) is.here.rest (at + length line) (omega (arith, long, length-append (take at text) line))

    first : IsFrontOf (take at text) first_line
    first = record {
      rest = take (at - length first_line) front.rest;
      whole = ap (take at) front.whole ∙ taken;
    }
      where
        taken : take at (first_line ++ front.rest) ≡ first_line ++ take (at - length first_line) front.rest
        taken = ap (λ (n : ℕ). take n (first_line ++ front.rest)) (omega (arith, begun)) ∙ take-append-add first_line front.rest (at - length first_line)

pub sealed-first : (text : List ℕ) → IsFrontOf text first_line → IsSealed (take (length first_line) text)
sealed-first text front = inl (front-of text first_line front)

-- all places are looked at
pub sealed-done : (text : List ℕ) (at count : ℕ) → IsFrontOf text first_line → length text ≤ at → count ≤ length text → length first_line ≤ count → IsSealed (take count text) → Longest text at count → HasSealed text (take count text)
sealed-done text at count front over inside least is longest = record {
  front = record { rest = drop count text; whole = sym (take-append-drop count text) };
  is_sealed = is;
  longest = each;
}
  where
    each : (t : List ℕ) → IsFrontOf text t → IsSealed t → length t ≤ length (take count text)
    each t of (inl is) = omega (arith, ap length is, least, length-take-le count text inside)
    each t of (inr (begin, inner, digits, first, is)) =
        let front : IsFrontOf text (with_end begin inner) = subst (IsFrontOf text) is of in
        omega (arith, ap length is, length-take-le count text inside, longest begin inner digits (front-length inner first_line first) (omega (arith, over, (marked text begin inner front).0)) front)

pub larger : (a b m : ℕ) → m ≡ max a b → (m ≡ a) ⊎ (m ≡ b)
larger a b m is = grind (arith, nat_tests)

pub slice-rest : {A : Type 0} (n : ℕ) (l : List A) → take (length l - n) (drop n l) ≡ drop n l
slice-rest n l = take_all (length l - n) (drop n l) (omega (arith, length-drop n l))

pub taken-on : (text : List ℕ) (at next : ℕ) → at ≤ next → take at text ++ take (next - at) (drop at text) ≡ take next text
taken-on text at next le =
    ap (λ (l : List ℕ). take at text ++ l) (sym (drop-take at (next - at) text) ∙ ap (λ (n : ℕ). drop at (take n text)) (omega (arith, le)))
    ∙ ap (λ (l : List ℕ). l ++ drop at (take next text)) (sym (take_take at next text le)) ∙ take-append-drop at (take next text)
  where
    take_take : (n m : ℕ) (l : List ℕ) → n ≤ m → take n (take m l) ≡ take n l
    take_take zero m l le = refl
    take_take (suc n) zero l le = absurd (omega (arith, le))
    take_take (suc n) (suc m) [] le = refl
    take_take (suc n) (suc m) (x ∷ l) le = ap (λ (k : List ℕ). x ∷ k) (take_take n m l (omega (arith, le)))

-- what `starts_with` finds
pub starts-test : (text first : List ℕ) (r : Bool) → r ≡ starts_with (λ a b. a == b) text first → (r ≡ true → IsFrontOf text first) × (IsFrontOf text first → r ≡ true)
starts-test text first r is =
    let found = starts_is Decides-eqb text first r is in (
      λ yes. record { rest = drop (length first) text; whole = found.0 yes },
      λ front. found.1 front.rest front.whole,
    )

-- a line behind a place that `starts_with` finds
pub found-front : (text line : List ℕ) (at : ℕ) (r : Bool) → r ≡ starts_with (λ a b. a == b) (take (length text - at) (drop at text)) line → (r ≡ true → IsFrontOf (drop at text) line) × (IsFrontOf (drop at text) line → r ≡ true)
found-front text line at r is = starts-test (drop at text) line r (subst (λ (l : List ℕ). r ≡ starts_with (λ a b. a == b) l line) (slice-rest at text) is)

pub first-test : (text : List ℕ) (r : Bool) → r ≡ starts_with (λ a b. a == b) text first_line → (r ≡ true → IsFrontOf text first_line) × (IsFrontOf text first_line → r ≡ true)
first-test text r is = starts-test text first_line r is

pub sealed-in : (bytes : List ℕ) (len count : ℕ) → text_of bytes ≡ take len bytes → len ≤ length bytes → count ≤ length (take len bytes) → HasSealed (take len bytes) (take count (take len bytes)) → HasSealed (text_of bytes) (take count bytes)
sealed-in bytes len count is inside le sealed =
    subst (λ (t : List ℕ). HasSealed t (take count bytes)) (sym is) (subst (HasSealed (take len bytes)) (take_take count len bytes (omega (arith, le, length-take-le len bytes inside))) sealed)
  where
    take_take : (n m : ℕ) (l : List ℕ) → n ≤ m → take n (take m l) ≡ take n l
    take_take zero m l le = refl
    take_take (suc n) zero l le = absurd (omega (arith, le))
    take_take (suc n) (suc m) [] le = refl
    take_take (suc n) (suc m) (x ∷ l) le = ap (λ (k : List ℕ). x ∷ k) (take_take n m l (omega (arith, le)))
