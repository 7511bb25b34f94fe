-- Lines that are put down, and taken out again.
use Rattle.std.proofs.Common.{◌≡◌, ◌∙◌, ◌==◌, ℕ, zero, suc, ◌+◌, ◌≤◌, Bool, true, false, List, [], ◌∷◌, ◌++◌, None, Some, refl, sym, ap, append-nil, append_assoc, arith, drop, inl, inr, length, length-append, subst, take}
use Rattle.std.specs.Prelude.{◌||◌, ◌⊎◌, if◌then◌else◌, position, All}
use Rattle.std.proofs.lemmas.List.{drop-drop}
use Rattle.std.proofs.lemmas.List.Elements.{All-append, All-cons, All-head, All-nil, All-tail}
use Rattle.std.specs.List.{list_any}
use Rattle.tp_journal.specs.Text.{IsPlain, is_reserved}
use Rattle.tp_wire.specs.Heard.{IsInLine}
use Rattle.tp_wire.proofs.HeardLemmas.{EndsAt, ends_at, no_end}
use Rattle.tp_kept.specs.Lines.{AreWholeLines, IsTheirs, IsWhole, Puts, downs, given_from, given_in, is_mark, is_own, longer, shut}

-- ---- put down

pub whole_then : (a b : List ℕ) → IsWhole a → IsWhole b → IsWhole (a ++ b)
whole_then a b (inl none) ends = elim ends [
  | inl void ↦ inl (ap (λ l. l ++ b) none ∙ void)
  | inr t ↦ inr (t.0, ap (λ l. l ++ b) none ∙ t.1)
]
whole_then a b (inr t) ends = elim ends [
  | inl void ↦ inr (t.0, ap (λ l. a ++ l) void ∙ (append-nil a ∙ t.1))
  | inr u ↦ inr (a ++ u.0, ap (λ l. a ++ l) u.1 ∙ sym (append_assoc a u.0 (10 ∷ [])))
]

pub ended_then : (a b : List ℕ) → AreWholeLines a → AreWholeLines b → AreWholeLines (a ++ b)
ended_then a b (theirs, ends) (others, end) = (All-append IsTheirs a b theirs others, whole_then a b ends end)

-- what stands behind some bytes of whole lines
whole_tail : (x : ℕ) (xs : List ℕ) → IsWhole (x ∷ xs) → IsWhole xs
whole_tail x xs (inl none) = absurd cc
whole_tail x xs (inr ([], is)) = inl (ap (drop 1) is)
whole_tail x xs (inr (f ∷ fs, is)) = inr (fs, ap (drop 1) is)

pub whole_drop : (n : ℕ) (xs : List ℕ) → IsWhole xs → IsWhole (drop n xs)
whole_drop zero xs whole = whole
whole_drop (suc n) [] whole = inl refl
whole_drop (suc n) (x ∷ xs) whole = whole_drop n xs (whole_tail x xs whole)

-- in whole lines there is an end, unless there is nothing
pub whole_end : (xs : List ℕ) → IsWhole xs → position (λ b. b == 10) xs ≡ None → xs ≡ []
whole_end xs (inl none) endless = none
whole_end xs (inr t) endless = absurd (last_in t.0 (subst IsInLine t.1 (no_end xs endless)))
  where
    last_in : (front : List ℕ) → IsInLine (front ++ 10 ∷ []) → ⊥
    last_in [] within = let is = All-head (λ b. (b == 10) ≡ false) 10 [] within in absurd cc
    last_in (f ∷ fs) within = last_in fs (All-tail (λ b. (b == 10) ≡ false) f (fs ++ 10 ∷ []) within)

pub shut_ended : (line : List ℕ) → All IsTheirs line → AreWholeLines (shut line)
shut_ended line theirs = (All-append IsTheirs line (10 ∷ []) theirs (All-cons IsTheirs 10 [] refl (All-nil IsTheirs)), inr (line, refl))

-- a byte of a client is none that a journal refuses, and marks nothing
or_false : (a b : Bool) → (a || b) ≡ false → (a ≡ false) × (b ≡ false)
or_false true b is = absurd cc
or_false false b is = (refl, is)

pub theirs_plain : (xs : List ℕ) → All IsTheirs xs → All IsPlain xs
theirs_plain [] all = All-nil IsPlain
theirs_plain (x ∷ xs) all = All-cons IsPlain x xs (or_false (is_reserved x) (is_mark x) (All-head IsTheirs x xs all)).0 (theirs_plain xs (All-tail IsTheirs x xs all))

pub theirs_unmarked : (xs : List ℕ) → All IsTheirs xs → list_any is_mark xs ≡ false
theirs_unmarked [] all = refl
theirs_unmarked (x ∷ xs) all = rw ((or_false (is_reserved x) (is_mark x) (All-head IsTheirs x xs all)).1, theirs_unmarked xs (All-tail IsTheirs x xs all)) refl

-- a line has ended
pub puts_shut : (b : ℕ) (line lines line' lines' : List ℕ) → b ≡ 10 → All IsTheirs line → line' ≡ [] → lines' ≡ lines ++ shut line → Puts (b ∷ []) line lines line' lines'
puts_shut b line lines line' lines' end plain none is = record {
  added = shut line;
  lines_are = is;
  ended = shut_ended line plain;
  follows = λ more. ap (λ b. downs line (b ∷ more)) end ∙ ap (λ l. shut line ++ downs l more) (sym none);
}

-- it has not
pub puts_more : (b : ℕ) (line lines line' : List ℕ) → (b == 10) ≡ false → line' ≡ longer line b → Puts (b ∷ []) line lines line' lines
puts_more b line lines line' other is = record {
  added = [];
  lines_are = sym (append-nil lines);
  ended = (All-nil IsTheirs, inl refl);
  follows = λ more. rw other (ap (λ l. downs l more) (sym is));
}

pub puts_none : (line lines : List ℕ) → Puts [] line lines line lines
puts_none line lines = record { added = []; lines_are = sym (append-nil lines); ended = (All-nil IsTheirs, inl refl); follows = λ more. refl }

pub puts_then : (xs ys line lines line' lines' line'' lines'' : List ℕ) → Puts xs line lines line' lines' → Puts ys line' lines' line'' lines'' → Puts (xs ++ ys) line lines line'' lines''
puts_then xs ys line lines line' lines' line'' lines'' p q = record {
  added = p.added ++ q.added;
  lines_are = q.lines_are ∙ (ap (λ l. l ++ q.added) p.lines_are ∙ append_assoc lines p.added q.added);
  ended = ended_then p.added q.added p.ended q.ended;
  follows = λ more. ap (downs line) (append_assoc xs ys more) ∙ (p.follows (ys ++ more) ∙ (ap (λ l. p.added ++ l) (q.follows more) ∙ sym (append_assoc p.added q.added (downs line'' more))));
}

-- ---- taken out

pub given_none : (so xs : List ℕ) → IsInLine xs → given_from so xs ≡ []
given_none so [] within = refl
given_none so (x ∷ xs) within = rw (All-head (λ b. (b == 10) ≡ false) x xs within) (given_none (so ++ x ∷ []) xs (All-tail (λ b. (b == 10) ≡ false) x xs within))

-- a line that has ended
abbrev pub unless_own : List ℕ → List ℕ
unless_own line = if is_own line then [] else line ++ 10 ∷ []

pub given_line : (so line rest : List ℕ) → IsInLine line → given_from so (line ++ 10 ∷ rest) ≡ unless_own (so ++ line) ++ given_from [] rest
given_line so [] rest within = ap (λ l. unless_own l ++ given_from [] rest) (sym (append-nil so))
given_line so (x ∷ xs) rest within =
    rw (All-head (λ b. (b == 10) ≡ false) x xs within) (given_line (so ++ x ∷ []) xs rest (All-tail (λ b. (b == 10) ≡ false) x xs within) ∙ ap (λ l. unless_own l ++ given_from [] rest) (append_assoc so (x ∷ []) xs))

module _ (text lines rest : List ℕ) (place : ℕ) (found : position (λ b. b == 10) rest ≡ Some place) (so_far : given_in text ≡ lines ++ given_in rest) where
  ends : EndsAt rest place
  ends = ends_at rest place found

  behind : drop (place + 1) rest ≡ drop 1 (drop place rest)
  behind = sym (drop-drop 1 place rest)

  next : given_in text ≡ (lines ++ unless_own (take place rest)) ++ given_in (drop 1 (drop place rest))
  next = so_far ∙ (ap (λ l. lines ++ l) (ap given_in ends.parts ∙ given_line [] (take place rest) (drop (place + 1) rest) ends.in_line) ∙ (sym (append_assoc lines (unless_own (take place rest)) (given_in (drop (place + 1) rest))) ∙ ap (λ l. (lines ++ unless_own (take place rest)) ++ given_in l) behind))

  pub given_own : (lines' : List ℕ) → is_own (take place rest) ≡ true → lines' ≡ lines → given_in text ≡ lines' ++ given_in (drop 1 (drop place rest))
  given_own lines' own is = next ∙ ap (λ l. l ++ given_in (drop 1 (drop place rest))) (ap (λ (b : Bool). lines ++ (if b then [] else take place rest ++ 10 ∷ [])) own ∙ (append-nil lines ∙ sym is))

  pub given_other : (lines' : List ℕ) → is_own (take place rest) ≡ false → lines' ≡ (lines ++ take place rest) ++ 10 ∷ [] → given_in text ≡ lines' ++ given_in (drop 1 (drop place rest))
  given_other lines' other is = next ∙ ap (λ l. l ++ given_in (drop 1 (drop place rest))) (ap (λ (b : Bool). lines ++ (if b then [] else take place rest ++ 10 ∷ [])) other ∙ (sym (append_assoc lines (take place rest) (10 ∷ [])) ∙ sym is))

pub given_end : (text lines rest : List ℕ) → position (λ b. b == 10) rest ≡ None → given_in text ≡ lines ++ given_in rest → lines ≡ given_in text
given_end text lines rest none so_far = sym (so_far ∙ ap (λ l. lines ++ l) (given_none [] rest (no_end rest none)) ∙ append-nil lines)

-- lines that are taken out are whole
pub given_whole : (so xs : List ℕ) → IsWhole (given_from so xs)
given_whole so [] = inl refl
given_whole so (x ∷ xs) = by (x == 10) refl (given_whole [] xs) (given_whole (so ++ x ∷ []) xs)
  where
    line : (own : Bool) → IsWhole (if own then [] else so ++ 10 ∷ [])
    line true = inl refl
    line false = inr (so, refl)

    by : (b : Bool) → (x == 10) ≡ b → IsWhole (given_from [] xs) → IsWhole (given_from (so ++ x ∷ []) xs) → IsWhole (given_from so (x ∷ xs))
    by true is anew on = rw is (whole_then (if is_own so then [] else so ++ 10 ∷ []) (given_from [] xs) (line (is_own so)) anew)
    by false is anew on = rw is on

pub shut_some : (line : List ℕ) → 1 ≤ length (shut line)
shut_some line = omega (arith, length-append line (10 ∷ []))
