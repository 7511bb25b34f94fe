-- Lives: what lines lead to, some after others.
use Rattle.std.proofs.Common.{◌≡◌, ◌∙◌, ◌⊎◌, ◌==◌, ℕ, zero, suc, ◌+◌, ◌-◌, ◌≤◌, ◌<◌, Bool, true, false, All, List, [], ◌∷◌, ◌++◌, Option, Some, None, Ok, Err, refl, sym, ap, subst, arith, append-nil, append_assoc, drop, inl, inr, length, length-append, take}
use Rattle.std.specs.Prelude.{Result, if◌then◌else◌, nat_le}
use Rattle.std.specs.List.{list_any}
use Rattle.std.proofs.lemmas.Bool.{eqb-true, le-leb, leb-true}
use Rattle.std.proofs.lemmas.List.Elements.{All-append, All-cons, All-head, All-nil, All-tail}
use Rattle.tp_wire.specs.Heard.{IsInLine, heard}
use Rattle.tp_wire.proofs.HeardLemmas.{heard_next}
use Rattle.tp_session.specs.Conversed.{Goes, step_of}
use Rattle.tp_session.specs.Said.{Step}
use Rattle.tp_session.specs.Session.{finals, has_begun, line_step, lines_step, or_refused, read_step_of, with_tag}
use Rattle.tp_session.specs.State.{SessionState, begin}
use Rattle.tp_session.proofs.Lasts.{goes_on_from_lines}
use Rattle.tp_lines.specs.Grammar.{line_words, words_said}
use Rattle.tp_lines.specs.Tags.{tag_in, tagged_said}
use Rattle.tp_lines.specs.declared.line.Line.{Line}
use Rattle.tp_lines.specs.declared.line.Line.TheVariants as lines
use Rattle.tp_script.specs.declared.fault.LineFault.{LineFault}
use Rattle.tp_kept.specs.Lines.{IsTheirs, IsWhole, empty_lines, is_mark}
use Rattle.tp_kept.specs.Lives.{IsLongFor, IsShortFor, Life, StandsFor, answers_of, dumped_in, for_in, goes_on, is_marking, life_behind, life_of, life_of_lines, session_behind, short}
use Rattle.tp_kept.proofs.LinesLemmas.{theirs_unmarked, whole_then}

-- ---- whole lines

one_more : (line : List ℕ) (f : ℕ) → IsInLine line → (f == 10) ≡ false → IsInLine (line ++ f ∷ [])
one_more line f within is = All-append (λ b. (b == 10) ≡ false) line (f ∷ []) within (All-cons (λ b. (b == 10) ≡ false) f [] is (All-nil (λ b. (b == 10) ≡ false)))

abbrev Splits : List ℕ → List ℕ → List ℕ → Type 0
Splits line tail b = heard ((line ++ tail) ++ b) ≡ heard (line ++ tail) ++ heard b

heard_split : (line front b : List ℕ) → IsInLine line → Splits line (front ++ 10 ∷ []) b
heard_split line [] b within = ap heard (append_assoc line (10 ∷ []) b) ∙ (heard_next line b within ∙ ap (λ ls. ls ++ heard b) (sym (heard_next line [] within)))
heard_split line (f ∷ fs) b within = by (f == 10) refl (heard_split [] fs b (All-nil (λ b. (b == 10) ≡ false))) (λ is. heard_split (line ++ f ∷ []) fs b (one_more line f within is))
  where
    tail : List ℕ
    tail = fs ++ 10 ∷ []

    by : (t : Bool) → (f == 10) ≡ t → Splits [] tail b → ((f == 10) ≡ false → Splits (line ++ f ∷ []) tail b) → Splits line (f ∷ tail) b
    by true is anew on =
        let ten : f ≡ 10 = eqb-true f 10 is in
        ap (λ x. heard ((line ++ (x ∷ tail)) ++ b)) ten ∙ (ap heard (append_assoc line (10 ∷ tail) b) ∙ (heard_next line (tail ++ b) within
        ∙ (ap (λ ls. line ∷ ls) anew ∙ (ap (λ ls. ls ++ heard b) (sym (heard_next line tail within)) ∙ ap (λ x. heard (line ++ (x ∷ tail)) ++ heard b) (sym ten)))))
    by false is anew on =
        let same : line ++ (f ∷ tail) ≡ (line ++ f ∷ []) ++ tail = sym (append_assoc line (f ∷ []) tail) in
        ap (λ l. heard (l ++ b)) same ∙ (on is ∙ ap (λ l. heard l ++ heard b) (sym same))

-- the lines of some whole ones, and then those behind them
pub heard_then : (a b : List ℕ) → IsWhole a → heard (a ++ b) ≡ heard a ++ heard b
heard_then a b (inl none) = ap (λ l. heard (l ++ b)) none ∙ ap (λ l. heard l ++ heard b) (sym none)
heard_then a b (inr (front, is)) =
    ap (λ l. heard (l ++ b)) is ∙ (heard_split [] front b (All-nil (λ b. (b == 10) ≡ false)) ∙ ap (λ l. heard l ++ heard b) (sym is))

-- ---- sessions

-- what lines leave doesn't depend on how many came before
one_left : (p q : ℕ) (s : SessionState) (r : Step) → (or_refused p s r).1 ≡ (or_refused q s r).1
one_left p q s (Ok done) = refl
one_left p q s (Err fault) = refl

tag_left : (t : Option (List ℕ)) (done : List ℕ × SessionState) → (with_tag t done).1 ≡ done.1
tag_left None done = refl
tag_left (Some tag) done = refl

line_left : (p q : ℕ) (l : List ℕ) (s : SessionState) → (line_step p l s).1 ≡ (line_step q l s).1
line_left p q l s =
    let step = read_step_of (tagged_said l) s in
    tag_left (tag_in l) (or_refused p s step) ∙ (one_left p q s step ∙ sym (tag_left (tag_in l) (or_refused q s step)))

pub same_left : (p q : ℕ) (lines : List (List ℕ)) (s : SessionState) → (lines_step p lines s).1 ≡ (lines_step q lines s).1
same_left p q [] s = refl
same_left p q (l ∷ ls) s =
    ap (λ t. (lines_step (p + 1) ls t).1) (line_left (p + 1) (q + 1) l s) ∙ same_left (p + 1) (q + 1) ls (line_step (q + 1) l s).1

-- lines after others
pub both_steps : (past : ℕ) (a b : List (List ℕ)) (s : SessionState)
    → lines_step past (a ++ b) s ≡ ((lines_step past a s).0 ++ (lines_step (past + length a) b (lines_step past a s).1).0, (lines_step (past + length a) b (lines_step past a s).1).1)
both_steps past a b s = goes_on_from_lines past a b s

pub steps_of : (past : ℕ) (a b : List ℕ) (s : SessionState) → IsWhole a
    → step_of past (a ++ b) s ≡ ((step_of past a s).0 ++ (step_of (past + length (heard a)) b (step_of past a s).1).0, (step_of (past + length (heard a)) b (step_of past a s).1).1)
steps_of past a b s whole = ap (λ ls. lines_step past ls s) (heard_then a b whole) ∙ both_steps past (heard a) (heard b) s

-- ---- lives

pub goes_none : (l : Life) → goes_on [] l ≡ l
goes_none l = ap (λ n. record { lines = n; session = l.session }) (omega arith)

pub goes_then : (a b : List ℕ) (l : Life) → IsWhole a → goes_on (a ++ b) l ≡ goes_on b (goes_on a l)
goes_then a b l whole =
    let behind = step_of (l.lines + length (heard a)) b (step_of l.lines a l.session).1 in
    ap (λ n. record { lines = n; session = (step_of l.lines (a ++ b) l.session).1 }) (omega (arith, ap length (heard_then a b whole), length-append (heard a) (heard b)))
    ∙ ap (λ t. record { lines = (l.lines + length (heard a)) + length (heard b); session = t.1 }) (steps_of l.lines a b l.session whole)

pub answers_then : (a b : List ℕ) (l : Life) → IsWhole a → answers_of (a ++ b) l ≡ (step_of l.lines a l.session).0 ++ answers_of b (goes_on a l)
answers_then a b l whole =
    let first = step_of l.lines a l.session in
    let behind = step_of (l.lines + length (heard a)) b first.1 in
    ap (λ t. t.0 ++ finals t.1) (steps_of l.lines a b l.session whole) ∙ append_assoc first.0 behind.0 (finals behind.1)

-- ---- empty lines

pub whole_empty : (n : ℕ) → IsWhole (empty_lines n)
unfolding empty_lines
whole_empty zero = inl refl
whole_empty (suc n) = inr (empty_lines n, refl)

empty_said : tagged_said [] ≡ Ok lines.Nothing
unfolding line_words words_said
empty_said = refl

abbrev said_to : Life → Result Line LineFault → Life
said_to l r = record { lines = l.lines + 1; session = (or_refused (l.lines + 1) l.session (read_step_of r l.session)).1 }

one_empty : (l : Life) → goes_on (10 ∷ []) l ≡ record { lines = l.lines + 1; session = l.session }
one_empty l = ap (said_to l) empty_said

pub goes_empty : (n : ℕ) (l : Life) → goes_on (empty_lines n) l ≡ record { lines = l.lines + n; session = l.session }
unfolding empty_lines
goes_empty zero l = goes_none l ∙ ap (λ m. record { lines = m; session = l.session }) (omega arith)
goes_empty (suc n) l =
    goes_then (empty_lines n) (10 ∷ []) l (whole_empty n) ∙ (ap (goes_on (10 ∷ [])) (goes_empty n l)
    ∙ (one_empty (record { lines = l.lines + n; session = l.session }) ∙ ap (λ m. record { lines = m; session = l.session }) (omega arith)))

pub theirs_empty : (n : ℕ) → All IsTheirs (empty_lines n)
unfolding empty_lines
theirs_empty zero = All-nil IsTheirs
theirs_empty (suc n) = All-append IsTheirs (empty_lines n) (10 ∷ []) (theirs_empty n) (All-cons IsTheirs 10 [] refl (All-nil IsTheirs))

-- ---- what a start makes of lines

-- the same and more lines, which are no dump's
life_then : (dumped for : ℕ) (a b : List (List ℕ)) (l : Life) → life_behind dumped for a ≡ Some l
    → life_behind dumped for (a ++ b) ≡ Some (record { lines = l.lines + length b; session = (lines_step l.lines b l.session).1 })
life_then dumped for a b l is = by (nat_le dumped (length a)) refl
  where
    by : (t : Bool) → nat_le dumped (length a) ≡ t → life_behind dumped for (a ++ b) ≡ Some (record { lines = l.lines + length b; session = (lines_step l.lines b l.session).1 })
    by false less = absurd (none_is (sym (ap (λ (c : Bool). if c then Some (record { lines = for + (length a - dumped); session = session_behind a }) else None) less) ∙ is))
      where
        none_is : None ≡ Some l → ⊥
        none_is e = cc
    by true enough =
        let few : dumped ≤ length a = leb-true dumped (length a) enough in
        let known : record { lines = for + (length a - dumped); session = session_behind a } ≡ l = some_is (sym (ap (λ (c : Bool). if c then Some (record { lines = for + (length a - dumped); session = session_behind a }) else None) enough) ∙ is) in
        let more : nat_le dumped (length (a ++ b)) ≡ true = le-leb dumped (length (a ++ b)) (omega (arith, few, length-append a b)) in
        let left : session_behind (a ++ b) ≡ (lines_step l.lines b l.session).1 =
        ap (λ t. t.1) (both_steps 0 a b begin) ∙ (same_left (0 + length a) l.lines b (session_behind a) ∙ ap (λ m. (lines_step l.lines b m.session).1) known) in
        let counted : for + (length (a ++ b) - dumped) ≡ l.lines + length b = omega (arith, few, length-append a b, ap (λ m. m.lines) known) in
        ap (λ (c : Bool). if c then Some (record { lines = for + (length (a ++ b) - dumped); session = session_behind (a ++ b) }) else None) more
        ∙ (ap (λ n. Some (record { lines = n; session = session_behind (a ++ b) })) counted ∙ ap (λ s. Some (record { lines = l.lines + length b; session = s })) left)
      where
        some_is : {x y : Life} → Some x ≡ Some y → x ≡ y
        some_is e = cc

-- the first line of whole ones marks nothing where all are a client's
abbrev IsPlainFirst : List (List ℕ) → Type 0
IsPlainFirst [] = Unit {0}
IsPlainFirst (first ∷ others) = is_marking first ≡ false

lines_then : (a b : List (List ℕ)) (l : Life) → IsPlainFirst b → life_of_lines a ≡ Some l
    → life_of_lines (a ++ b) ≡ Some (record { lines = l.lines + length b; session = (lines_step l.lines b l.session).1 })
lines_then [] [] l plain is = is ∙ ap (λ n. Some (record { lines = n; session = l.session })) (omega arith)
lines_then [] (first ∷ others) l plain is =
    ap (λ (c : Bool). if c then life_behind (dumped_in first) (for_in first) others else life_behind 0 0 (first ∷ others)) plain ∙ life_then 0 0 [] (first ∷ others) l is
lines_then (first ∷ others) b l plain is = by (is_marking first) refl
  where
    by : (t : Bool) → is_marking first ≡ t → life_of_lines ((first ∷ others) ++ b) ≡ Some (record { lines = l.lines + length b; session = (lines_step l.lines b l.session).1 })
    by true marks =
        ap (λ (c : Bool). if c then life_behind (dumped_in first) (for_in first) (others ++ b) else life_behind 0 0 (first ∷ (others ++ b))) marks
        ∙ life_then (dumped_in first) (for_in first) others b l (sym (ap (λ (c : Bool). if c then life_behind (dumped_in first) (for_in first) others else life_behind 0 0 (first ∷ others)) marks) ∙ is)
    by false marks =
        ap (λ (c : Bool). if c then life_behind (dumped_in first) (for_in first) (others ++ b) else life_behind 0 0 (first ∷ (others ++ b))) marks
        ∙ life_then 0 0 (first ∷ others) b l (sym (ap (λ (c : Bool). if c then life_behind (dumped_in first) (for_in first) others else life_behind 0 0 (first ∷ others)) marks) ∙ is)

-- each line of a client's bytes is of such bytes
plain_split : (line front : List ℕ) → IsInLine line → All IsTheirs line → All IsTheirs front → IsPlainFirst (heard (line ++ (front ++ 10 ∷ [])))
plain_split line [] within theirs rest = subst IsPlainFirst (sym (heard_next line [] within)) (theirs_unmarked line theirs)
plain_split line (f ∷ fs) within theirs rest =
    by (f == 10) refl (λ is. plain_split (line ++ f ∷ []) fs (one_more line f within is) (All-append IsTheirs line (f ∷ []) theirs (All-cons IsTheirs f [] (All-head IsTheirs f fs rest) (All-nil IsTheirs))) (All-tail IsTheirs f fs rest))
  where
    tail : List ℕ
    tail = fs ++ 10 ∷ []

    by : (t : Bool) → (f == 10) ≡ t → ((f == 10) ≡ false → IsPlainFirst (heard ((line ++ f ∷ []) ++ tail))) → IsPlainFirst (heard (line ++ (f ∷ tail)))
    by true is on = subst IsPlainFirst (sym (ap (λ x. heard (line ++ (x ∷ tail))) (eqb-true f 10 is) ∙ heard_next line tail within)) (theirs_unmarked line theirs)
    by false is on = subst (λ l. IsPlainFirst (heard l)) (append_assoc line (f ∷ []) tail) (on is)

front_theirs : (xs ys : List ℕ) → All IsTheirs (xs ++ ys) → All IsTheirs xs
front_theirs [] ys all = All-nil IsTheirs
front_theirs (x ∷ xs) ys all = All-cons IsTheirs x xs (All-head IsTheirs x (xs ++ ys) all) (front_theirs xs ys (All-tail IsTheirs x (xs ++ ys) all))

plain_first : (lines : List ℕ) → All IsTheirs lines → IsWhole lines → IsPlainFirst (heard lines)
plain_first lines theirs (inl none) = subst (λ l. IsPlainFirst (heard l)) (sym none) tt
plain_first lines theirs (inr (front, is)) =
    subst (λ l. IsPlainFirst (heard l)) (sym is) (plain_split [] front (All-nil (λ b. (b == 10) ≡ false)) (All-nil IsTheirs) (front_theirs front (10 ∷ []) (subst (All IsTheirs) is theirs)))

-- ---- what a journal stands for

-- with more lines of clients
pub stands_then : (lines more : List ℕ) (l : Life) → All IsTheirs more → IsWhole more → StandsFor lines l → StandsFor (lines ++ more) (goes_on more l)
stands_then lines more l theirs whole (inl long) = inl (record {
  whole = whole_then lines more long.whole whole;
  leads = ap life_of_lines (heard_then lines more long.whole) ∙ lines_then (heard lines) (heard more) l (plain_first more theirs whole) long.leads;
})
stands_then lines more l theirs whole (inr small) = inr (record {
  before = small.before;
  more = small.more ++ more;
  whole = whole_then small.more more small.whole whole;
  begun = small.begun;
  lines_are = ap (λ ls. ls ++ more) small.lines_are ∙ append_assoc (short small.before) small.more more;
  goes = ap (goes_on more) small.goes ∙ sym (goes_then small.more more small.before small.whole);
})

-- a session that has begun, in its dump alone
pub stands_short : (l : Life) (text : List ℕ) → has_begun l.session.phase ≡ true → text ≡ short l → StandsFor text l
stands_short l text begun is = inr (record {
  before = l;
  more = [];
  whole = inl refl;
  begun = begun;
  lines_are = is ∙ sym (append-nil (short l));
  goes = sym (goes_none l);
})
