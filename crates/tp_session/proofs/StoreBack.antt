-- The lines of a store, told again.
use Rattle.std.proofs.Common.{◌≡◌, ◌∙◌, ◌==◌, ◌&&◌, ◌≤◌, ◌+◌, ◌-◌, ◌^◌, nat_lt, nat_le, ℕ, zero, suc, Bool, true, false, if◌then◌else◌, Option, Some, None, Result, Ok, Err, List, [], ◌∷◌, ◌++◌, length, map, take, filter, slice_index_or, slice_set, refl, sym, ap, subst, append_assoc, arith}
use Rattle.std.specs.Prelude.{slice_get}
use Rattle.std.proofs.lemmas.Bool.Decides.{nat_tests}
use Rattle.std.proofs.lemmas.List.{append-nil, map-append, set-get_or, take_all}
use Rattle.tp_lines.specs.declared.line.HeadLine.{HeadLine}
use Rattle.tp_lines.specs.declared.line.HeadLine.TheVariants as head
use Rattle.tp_store.specs.declared.answers.Refusal.{Refusal}
use Rattle.tp_store.specs.declared.counts.Counts.{Counts}
use Rattle.tp_store.specs.declared.element.TheConstants.{LAST_STAGE}
use Rattle.tp_store.specs.declared.group.Group.TheVariants.{All}
use Rattle.tp_store.specs.Counting.{no_counts}
use Rattle.tp_store.specs.Elements.{Entry}
use Rattle.tp_store.specs.Listing.{is_among_from, listed}
use Rattle.tp_store.specs.Restoring.{all_back, counts_of, if_sound, is_rise, is_settling, is_stage, settled, taken_back, Told, Numbers, Back, Over, Settled, with_numbers, with_settled}
use Rattle.tp_store.specs.Retelling.{answered, AreTaken, settled_from, settled_in, told_of}
use Rattle.tp_store.specs.State.{State, start}
use Rattle.tp_store.proofs.Finding.{at_most, both}
use Rattle.tp_store.proofs.PutBack.{and_true, passed}
use Rattle.tp_store.proofs.Resettled.{same_counts}
use Rattle.tp_session.specs.Dumps.{element_line, over_line, settled_below, settled_lines, store_lines}
use Rattle.tp_session.specs.Heads.{told_back}
use Rattle.tp_session.specs.Retold.{IsFitStore}
use Rattle.tp_session.specs.State.{SessionState, with_store}
use Rattle.tp_session.proofs.DumpLemmas.{take_more}
use Rattle.tp_session.proofs.Replay.{at, Leads, Step}

-- ---- what is told leads a session's store

-- the line that tells this, where there were so many clients
abbrev pub line_of : ℕ → Told → HeadLine
line_of owners (Numbers next units) = head.Numbers next units owners
line_of owners (Back id e) = head.Element id e
line_of owners (Over root) = head.Over root
line_of owners (Settled stage consumed killed) = head.Settled stage consumed killed

pub told_ok : (done : Result (Unit {0}) Refusal × State) (s : SessionState) → done.0 ≡ Ok tt → told_back done s ≡ Ok (with_store done.1 s)
told_ok (Ok tt, store) s is = refl
told_ok (Err why, store) s is = absurd cc

not_less : (n : ℕ) → nat_lt n n ≡ false
not_less n = grind (arith, nat_tests)

one_back : (told : Told) (s : SessionState) → answered told s.store ≡ Ok tt → Step (line_of s.owners told) s (with_store (taken_back told s.store) s)
one_back (Numbers next units) s is p = rw (not_less s.owners) (told_ok _ (at p s) is)
one_back (Back id e) s is p = told_ok _ (at p s) is
one_back (Over root) s is p = told_ok _ (at p s) is
one_back (Settled stage consumed killed) s is p = told_ok _ (at p s) is

pub store_back : (told : List Told) (s : SessionState) → AreTaken told s.store → Leads (map (line_of s.owners) told) s (with_store (all_back told s.store) s)
store_back [] s taken = refl
store_back (x ∷ xs) s taken = (with_store (taken_back x s.store) s, one_back x s taken.0, store_back xs (with_store (taken_back x s.store) s) taken.1)

-- ---- what is settled, where anything is

abbrev pub skipped_one : ℕ → Counts → List Told
skipped_one stage c = if c.consumed == 0 && c.killed == 0 then [] else Settled stage c.consumed c.killed ∷ []

abbrev pub skipped : ℕ → List Counts → List Told
skipped stage [] = []
skipped stage (c ∷ cs) = skipped_one stage c ++ skipped (stage + 1) cs

-- these lead where those lead
pub record Instead (xs ys : List Told) (s : State) : Type 0 where
  pub taken : AreTaken xs s
  pub left : all_back xs s ≡ all_back ys s

none_settled : (all c d : ℕ) → c ≤ 0 → all + (0 - c) ≡ all
none_settled all c d low = omega arith

nothing_new : (stage : ℕ) (s : State) → answered (Settled stage 0 0) s ≡ Ok tt → taken_back (Settled stage 0 0) s ≡ s
nothing_new stage s is = go (is_stage stage && is_settling stage 0 0 s.tally) refl is
  where
    passed : is_settling stage 0 0 s.tally ≡ true → record s { tally = with_settled stage 0 0 s.tally } ≡ s
    passed h =
        let parts = both (is_rise (counts_of stage s.tally).consumed 0 s.tally.total.consumed) _ h in
        let consumed = at_most (counts_of stage s.tally).consumed 0 (both (nat_le (counts_of stage s.tally).consumed 0) _ parts.0).0 in
        let killed = at_most (counts_of stage s.tally).killed 0 (both (nat_le (counts_of stage s.tally).killed 0) _ parts.1).0 in
        let total = same_counts (with_settled stage 0 0 s.tally).total s.tally.total refl refl (none_settled s.tally.total.consumed _ 0 consumed) refl (none_settled s.tally.total.killed _ 0 killed) in
        let here_same = same_counts (settled 0 0 (counts_of stage s.tally)) (counts_of stage s.tally) refl refl (let c = consumed in omega arith) refl (let k = killed in omega arith) in
        let stages : slice_set s.tally.stages stage (settled 0 0 (counts_of stage s.tally)) ≡ s.tally.stages = ap (λ c. slice_set s.tally.stages stage c) here_same ∙ set-get_or s.tally.stages stage no_counts in
        ap (λ t. record s { tally = record { total = t; stages = (with_settled stage 0 0 s.tally).stages } }) total ∙ ap (λ x. record s { tally = record { total = s.tally.total; stages = x } }) stages

    go : (b : Bool) → (is_stage stage && is_settling stage 0 0 s.tally) ≡ b → (if_sound b (record s { tally = with_settled stage 0 0 s.tally }) s).0 ≡ Ok tt → (if_sound (is_stage stage && is_settling stage 0 0 s.tally) (record s { tally = with_settled stage 0 0 s.tally }) s).1 ≡ s
    go true h is = rw h (passed (both (is_stage stage) _ h).1)
    go false h is = absurd cc

as_number : (m n : ℕ) → (m == n) ≡ true → m ≡ n
as_number m n h = grind (arith, nat_tests)

skips : (stage : ℕ) (cs : List Counts) (s : State) → AreTaken (settled_from stage cs) s → Instead (skipped stage cs) (settled_from stage cs) s
skips stage [] s taken = record { taken = tt; left = refl }
skips stage (c ∷ cs) s taken = go (c.consumed == 0 && c.killed == 0) refl (skips (stage + 1) cs (taken_back (Settled stage c.consumed c.killed) s) taken.1)
  where
    next : State
    next = taken_back (Settled stage c.consumed c.killed) s

    nothing : (x y : ℕ) → x ≡ 0 → y ≡ 0 → answered (Settled stage x y) s ≡ Ok tt → taken_back (Settled stage x y) s ≡ s
    nothing x y p q = subst (λ v. answered (Settled stage v y) s ≡ Ok tt → taken_back (Settled stage v y) s ≡ s) (sym p) (subst (λ w. answered (Settled stage 0 w) s ≡ Ok tt → taken_back (Settled stage 0 w) s ≡ s) (sym q) (nothing_new stage s))

    go : (b : Bool) → (c.consumed == 0 && c.killed == 0) ≡ b → Instead (skipped (stage + 1) cs) (settled_from (stage + 1) cs) next → Instead ((if b then [] else Settled stage c.consumed c.killed ∷ []) ++ skipped (stage + 1) cs) (settled_from stage (c ∷ cs)) s
    go true h rest =
        let parts = both (c.consumed == 0) (c.killed == 0) h in
        let still = nothing c.consumed c.killed (as_number c.consumed 0 parts.0) (as_number c.killed 0 parts.1) taken.0 in
        record { taken = subst (AreTaken (skipped (stage + 1) cs)) still rest.taken; left = ap (all_back (skipped (stage + 1) cs)) (sym still) ∙ rest.left }
    go false h rest = record { taken = (taken.0, rest.taken); left = rest.left }

-- behind others
instead_behind : (xs ys zs : List Told) (s : State) → ((t : State) → AreTaken ys t → Instead zs ys t) → AreTaken (xs ++ ys) s → Instead (xs ++ zs) (xs ++ ys) s
instead_behind [] ys zs s other taken = other s taken
instead_behind (x ∷ xs) ys zs s other taken =
    let rest = instead_behind xs ys zs (taken_back x s) other taken.1 in record { taken = (taken.0, rest.taken); left = rest.left }

-- ---- the lines of all stages

abbrev stage_lines : ℕ → List Counts → List HeadLine
stage_lines stage [] = []
stage_lines stage (c ∷ cs) = settled_lines stage (Some c) ++ stage_lines (stage + 1) cs

stage_last : (stage : ℕ) (cs : List Counts) (c : Counts) → stage_lines stage (cs ++ c ∷ []) ≡ stage_lines stage cs ++ settled_lines (stage + length cs) (Some c)
stage_last stage [] c = let same : stage ≡ stage + 0 = omega arith in append-nil (settled_lines stage (Some c)) ∙ ap (λ n. settled_lines n (Some c)) same
stage_last stage (x ∷ cs) c =
    let number : stage + 1 + length cs ≡ stage + length (x ∷ cs) = omega arith in
    ap (λ ls. settled_lines stage (Some x) ++ ls) (stage_last (stage + 1) cs c ∙ ap (λ n. stage_lines (stage + 1) cs ++ settled_lines n (Some c)) number)
    ∙ sym (append_assoc (settled_lines stage (Some x)) (stage_lines (stage + 1) cs) (settled_lines (stage + length (x ∷ cs)) (Some c)))

taken_long : (n : ℕ) (cs : List Counts) (c : Counts) → slice_get cs n ≡ Some c → length (take n cs) ≡ n
taken_long zero [] c is = absurd cc
taken_long (suc n) [] c is = absurd cc
taken_long zero (x ∷ cs) c is = refl
taken_long (suc n) (x ∷ cs) c is = let h = taken_long n cs c is in omega arith

take_past : (n : ℕ) (cs : List Counts) → slice_get cs n ≡ None → take (suc n) cs ≡ take n cs
take_past zero [] is = refl
take_past (suc n) [] is = refl
take_past zero (x ∷ cs) is = absurd cc
take_past (suc n) (x ∷ cs) is = ap (λ xs. x ∷ xs) (take_past n cs is)

below_is : (n : ℕ) (cs : List Counts) → settled_below n cs ≡ stage_lines 0 (take n cs)
unfolding settled_below
below_is zero cs = refl
below_is (suc n) cs = go (slice_get cs n) refl (below_is n cs)
  where
    go : (c : Option Counts) → slice_get cs n ≡ c → settled_below n cs ≡ stage_lines 0 (take n cs) → settled_below n cs ++ settled_lines n c ≡ stage_lines 0 (take (suc n) cs)
    go (Some c) is on =
        let number : n ≡ 0 + length (take n cs) = (let h = taken_long n cs c is in omega arith) in
        ap (λ ls. ls ++ settled_lines n (Some c)) on
        ∙ (ap (λ m. stage_lines 0 (take n cs) ++ settled_lines m (Some c)) number
        ∙ (sym (stage_last 0 (take n cs) c) ∙ ap (stage_lines 0) (sym (take_more cs n c is))))
    go None is on = append-nil (settled_below n cs) ∙ (on ∙ ap (stage_lines 0) (sym (take_past n cs is)))

lines_skipped : (owners stage : ℕ) (cs : List Counts) → map (line_of owners) (skipped stage cs) ≡ stage_lines stage cs
lines_skipped owners stage [] = refl
lines_skipped owners stage (c ∷ cs) = go (c.consumed == 0 && c.killed == 0) (lines_skipped owners (stage + 1) cs)
  where
    go : (b : Bool) → map (line_of owners) (skipped (stage + 1) cs) ≡ stage_lines (stage + 1) cs → map (line_of owners) ((if b then [] else Settled stage c.consumed c.killed ∷ []) ++ skipped (stage + 1) cs) ≡ (if b then [] else head.Settled stage c.consumed c.killed ∷ []) ++ stage_lines (stage + 1) cs
    go true on = on
    go false on = ap (λ ls. head.Settled stage c.consumed c.killed ∷ ls) on

-- ---- all of a store

from_none : (n : ℕ) → nat_le 0 n ≡ true
from_none n = grind (arith, nat_tests)

listed_all : (es : List Entry) (most : ℕ) → length es ≤ most → listed All 0 most es ≡ es
listed_all es most few = ap (take most) (all es) ∙ take_all most es few
  where
    all : (es : List Entry) → filter (is_among_from All 0) es ≡ es
    all [] = refl
    all (e ∷ es) = rw (from_none e.0) (ap (λ xs. e ∷ xs) (all es))

elements_told : (owners : ℕ) (es : List Entry) → map (line_of owners) (map (λ (e : Entry). Back e.0 e.1) es) ≡ map element_line es
elements_told owners [] = refl
elements_told owners ((id, e) ∷ es) = ap (λ ls. head.Element id e ∷ ls) (elements_told owners es)

overs_told : (owners : ℕ) (roots : List ℕ) → map (line_of owners) (map Over roots) ≡ map over_line roots
overs_told owners [] = refl
overs_told owners (root ∷ roots) = ap (λ ls. head.Over root ∷ ls) (overs_told owners roots)

-- what is told of all stages, but for those where nothing was settled
abbrev settled_told : List Counts → List Told
settled_told [] = []
settled_told (none ∷ cs) = skipped 1 cs

settled_instead : (cs : List Counts) (t : State) → AreTaken (settled_in cs) t → Instead (settled_told cs) (settled_in cs) t
settled_instead [] t taken = record { taken = tt; left = refl }
settled_instead (c ∷ cs) t taken = skips 1 cs t taken

settled_lines_told : (owners : ℕ) (cs : List Counts) → (slice_index_or cs 0 no_counts).consumed ≡ 0 → (slice_index_or cs 0 no_counts).killed ≡ 0 → map (line_of owners) (settled_told cs) ≡ stage_lines 0 cs
settled_lines_told owners [] none none_killed = refl
settled_lines_told owners (c ∷ cs) none none_killed = rw (none, none_killed) (lines_skipped owners 1 cs)

-- what is told behind the numbers
abbrev told_behind : State → List Told
told_behind s = map (λ (e : Entry). Back e.0 e.1) s.elements ++ (map Over s.ended ++ settled_told s.tally.stages)

lines_told : (owners : ℕ) (s : State) → IsFitStore s → map (line_of owners) (told_behind s) ≡ store_lines s
lines_told owners s fit =
    map-append (line_of owners) (map (λ (e : Entry). Back e.0 e.1) s.elements) (map Over s.ended ++ settled_told s.tally.stages)
    ∙ (ap (λ ls. map (line_of owners) (map (λ (e : Entry). Back e.0 e.1) s.elements) ++ ls) (map-append (line_of owners) (map Over s.ended) (settled_told s.tally.stages))
    ∙ rw (elements_told owners s.elements, overs_told owners s.ended, settled_lines_told owners s.tally.stages fit.none fit.none_killed, listed_all s.elements (2 ^ 64 - 1) fit.few, below_is (LAST_STAGE + 1) s.tally.stages, take_all (LAST_STAGE + 1) s.tally.stages (let h = fit.stages in omega arith)) refl)

-- a store of these numbers, and of nothing more
abbrev pub numbered : State → State
numbered s = with_numbers s.next s.units (start s.limits)

pub numbers_taken : (s : State) → (answered (Numbers s.next s.units) (start s.limits) ≡ Ok tt) × (taken_back (Numbers s.next s.units) (start s.limits) ≡ numbered s)
numbers_taken s = passed _ (numbered s) (start s.limits) (and_true _ _ (from_none s.next) (from_none s.units))

abbrev elements_back : State → List Told
elements_back s = map (λ (e : Entry). Back e.0 e.1) s.elements

all_told : (s : State) → IsFitStore s → Instead (Numbers s.next s.units ∷ told_behind s) (told_of s) (start s.limits)
all_told s fit = instead_behind (Numbers s.next s.units ∷ []) (elements_back s ++ (map Over s.ended ++ settled_in s.tally.stages)) (elements_back s ++ (map Over s.ended ++ settled_told s.tally.stages)) (start s.limits) (λ t taken. instead_behind (elements_back s) (map Over s.ended ++ settled_in s.tally.stages) (map Over s.ended ++ settled_told s.tally.stages) t (λ u taken. instead_behind (map Over s.ended) (settled_in s.tally.stages) (settled_told s.tally.stages) u (settled_instead s.tally.stages) taken) taken) fit.taken

-- the lines of a store, behind its numbers, make it
pub store_told : (s : State) (t : SessionState) → IsFitStore s → t.store ≡ numbered s → Leads (store_lines s) t (with_store s t)
store_told s t fit is =
    let all = all_told s fit in
    let taken : AreTaken (told_behind s) t.store = subst (AreTaken (told_behind s)) ((numbers_taken s).1 ∙ sym is) all.taken.1 in
    let left : all_back (told_behind s) t.store ≡ s = ap (all_back (told_behind s)) (is ∙ sym (numbers_taken s).1) ∙ (all.left ∙ fit.back) in
    subst (λ ls. Leads ls t (with_store s t)) (lines_told t.owners s fit) (subst (λ x. Leads (map (line_of t.owners) (told_behind s)) t (with_store x t)) left (store_back (told_behind s) t taken))
