-- A commit where nobody else acts.
use Rattle.std.proofs.Common.{◌≡◌, ℕ, ◌+◌, ◌-◌, ◌<◌, ◌==◌, false, if◌then◌else◌, None, List, [], ◌∷◌, ◌++◌, length, refl, sym, ◌∙◌, ap, subst, ⊎_elim, arith}
use Rattle.std.proofs.lemmas.Bool.{lt-leb}
use Rattle.tp_model.specs.declared.types.Ended.{Ended}
use Rattle.tp_model.specs.declared.types.Limits.{Limits}
use Rattle.tp_model.specs.declared.types.Outcome.TheVariants as outcome
use Rattle.tp_model.specs.declared.event.Event.{Event}
use Rattle.tp_model.specs.declared.event.Event.TheVariants.{Commit}
use Rattle.tp_model.specs.Births.{outputs}
use Rattle.tp_model.specs.Drafts.{DraftView}
use Rattle.tp_model.specs.History.{end_of, first_id}
use Rattle.tp_model.proofs.Bridges.{append_nil}
use Rattle.tp_model.proofs.Lists.{if_other}
use Rattle.tp_plain.specs.declared.pass_state.PassState.{PassState}
use Rattle.tp_plain.specs.OneThread.{State, HasPlainRoom, made_of, first_row, ready, root_of, freed_after_use, with_draw}
use Rattle.tp_plain.specs.Computed.{abort_of, commit_of, committed_by, has_room}
use Rattle.tp_plain.proofs.Computations.{abort_already, abort_goes, commit_goes, commit_lost}
use Rattle.tp_manager.specs.Calls.{Closes, Commits, IsRoot, Loses, UsesRows, claims_in}
use Rattle.tp_manager.specs.Shown.{KeeperShown, PassShown}
use Rattle.tp_rollover.specs.Thread.{Alone, drawn_of, state_of, thread_of, turns_in}
use Rattle.tp_rollover.specs.AloneLaws.{AloneCommit}
use Rattle.tp_rollover.proofs.AloneAborts.{aborted_leaves, in_hand, lost_leaves, lost_unit, undecided}
use Rattle.tp_rollover.proofs.AloneApart.{end_is, number_is, old_seen}
use Rattle.tp_rollover.proofs.AloneSubmits.{both}
use Rattle.tp_rollover.proofs.AloneThreads.{all_drawn, claims_more, leaves, ready_full, step_of, uses, was}

commit_full : (s : State) (c : ℕ) (ds : List DraftView) → has_room s c (length ds) ≡ false → commit_of s c ds ≡ (outcome.Full, (abort_of s c).1)
commit_full s c ds none = rw none refl

-- the id of the first of the outputs, or 0
first_output : (u root row : ℕ) (ds : List DraftView) → first_id (outputs u root row ds) ≡ (if length ds == 0 then 0 else row)
first_output u root row [] = refl
first_output u root row (d ∷ ds) = sym (if_other (length (d ∷ ds)) 0 0 row (λ e. omega arith))

root_found : (h : List Event) (c u root : ℕ) → IsRoot h c u root → root_of h u ≡ root
root_found h c u root is = rw (is.3, is.4) is.5

module _ (l : Limits) (keeper keeper' : KeeperShown) (olds news : List PassShown) (h h' : List Event) (n c : ℕ) (old new : PassShown) (a : Alone l keeper keeper' olds news h h' n c old new) (turn : new.from ≡ old.from) (ds : List DraftView) where
  abbrev before : State
  before = was l keeper keeper' olds news h h' n c old new a

  abbrev k : ℕ
  k = length ds

  module _ (u row : ℕ) (closes : Closes u old new) (run : UsesRows k row old new) where
    spent_is : claims_in new.mine ≡ claims_in old.mine → state_of new ≡ freed_after_use (ready before c k) k
    spent_is same =
        let used = uses l keeper keeper' olds news h h' n c old new a k row run in
        let next = used.new_next in
        let left = used.new_left in
        let none = closes.open_unit in
        let literal : (let x : PassState = record { next = used.next + k; left = used.left - k; claimed = claims_in old.mine; holding = None; turns = turns_in old.from } in state_of new ≡ x) = (let turns : turns_in new.from ≡ turns_in old.from = ap turns_in turn in cc) in
        literal ∙ ap (λ (x : PassState). freed_after_use x k) (sym used.readied.0)

    has_rows : HasPlainRoom before c k
    has_rows =
        let used = uses l keeper keeper' olds news h h' n c old new a k row run in
        let left : (ready before c k).left ≡ used.left = ap (λ (x : PassState). x.left) used.readied.0 in
        let room = used.room in
        omega arith

    row_is : row ≡ first_row before c k
    row_is = let used = uses l keeper keeper' olds news h h' n c old new a k row run in used.first_is ∙ sym (ap (λ (x : PassState). x.next) used.readied.0)

    drawn_is : drawn_of news ≡ (with_draw before c k).drawn
    drawn_is = sym (uses l keeper keeper' olds news h h' n c old new a k row run).readied.1

  goes : (first count : ℕ) → Commits first count ds old new → (outcome.Committed first count, thread_of l news h') ≡ commit_of before c ds
  goes first count says =
      let u = says.unit in
      let rows = row_is u says.row says.closes says.run in
      let seen = old_seen l keeper keeper' olds news h h' n c old new a in
      let root : says.root ≡ root_of h u = sym (root_found h old.number u says.root (subst (λ g. IsRoot g old.number u says.root) seen.seen says.root_is)) in
      let event : Commit old.number u (outputs u says.root says.row ds) ≡ Commit c u (made_of before c u ds) =
      ap (λ d. Commit d u (outputs u says.root says.row ds)) (number_is l keeper keeper' olds news h h' n c old new a)
      ∙ (ap (λ r. Commit c u (outputs u r says.row ds)) root ∙ ap (λ i. Commit c u (outputs u (root_of h u) i ds)) rows) in
      let made : new.mine ≡ old.mine ++ Commit c u (made_of before c u ds) ∷ [] = says.adds.mine ∙ ap (λ e. old.mine ++ e ∷ []) event in
      let last : h' ≡ h ++ Commit c u (made_of before c u ds) ∷ [] = end_is l keeper keeper' olds news h h' n c old new a _ made in
      let undecided : end_of h u ≡ None = (step_of l keeper keeper' olds news h h' n c old new a _ last).open_unit.unfinished in
      let claims : claims_in new.mine ≡ claims_in old.mine = ap claims_in made ∙ (claims_more old.mine (Commit c u (made_of before c u ds) ∷ []) ∙ omega arith) in
      let answer : outcome.Committed first count ≡ outcome.Committed (if k == 0 then 0 else first_row before c k) k =
      ap (λ i. outcome.Committed i count) (says.first_is ∙ (first_output u says.root says.row ds ∙ ap (λ i. if k == 0 then 0 else i) rows)) ∙ ap (λ m. outcome.Committed (if k == 0 then 0 else first_row before c k) m) says.count_is in
      both (outcome.Committed first count) (outcome.Committed (if k == 0 then 0 else first_row before c k) k) (thread_of l news h') (committed_by before c u ds).1 answer
      (leaves l keeper keeper' olds news h h' n c old new a _ (freed_after_use (ready before c k) k) (with_draw before c k).drawn last (spent_is u says.row says.closes says.run claims) (drawn_is u says.row says.closes says.run))
      ∙ sym (commit_goes before c u ds (in_hand l keeper keeper' olds news h h' n c old new a turn u says.closes) undecided (has_rows u says.row says.closes says.run))

  lost : (u : ℕ) → Closes u old new → (row : ℕ) → UsesRows k row old new → Loses u old new → (outcome.Lost, thread_of l news h') ≡ commit_of before c ds
  lost u closes row run loses =
      let last : h' ≡ h = end_is l keeper keeper' olds news h h' n c old new a [] (loses.0 ∙ sym (append_nil old.mine)) ∙ append_nil h in
      ap (λ t. (outcome.Lost, t)) (leaves l keeper keeper' olds news h h' n c old new a h (freed_after_use (ready before c k) k) (with_draw before c k).drawn last (spent_is u row closes run (ap claims_in loses.0)) (drawn_is u row closes run))
      ∙ sym (commit_lost before c u ds (in_hand l keeper keeper' olds news h h' n c old new a turn u closes) (lost_unit l keeper keeper' olds news h h' n c old new a turn u closes loses) (has_rows u row closes run))

  -- no room, and no block
  none_left : old.left < k → new.seen_blocks ≡ old.limits.spare → new.blocks ≡ old.blocks → has_room before c k ≡ false
  none_left few found same =
      let spare : new.seen_blocks ≡ l.spare = found ∙ ap (λ (m : Limits). m.spare) (old_seen l keeper keeper' olds news h h' n c old new a).limits in
      let r = ready_full l keeper keeper' olds news h h' n c old new a k (all_drawn l keeper keeper' olds news h h' n c old new a same spare) in
      let left : (ready before c k).left ≡ old.left = ap (λ (p : PassState). p.left) r.0 in
      lt-leb k (ready before c k).left (omega arith)

pub alone_commit : AloneCommit
alone_commit ds l keeper keeper' olds news h h' n c old new (outcome.Committed first count) a turn says = goes l keeper keeper' olds news h h' n c old new a turn ds first count says
alone_commit ds l keeper keeper' olds news h h' n c old new outcome.Lost a turn says = lost l keeper keeper' olds news h h' n c old new a turn ds says.0 says.1 says.2 says.3 says.4
alone_commit ds l keeper keeper' olds news h h' n c old new outcome.Full a turn says =
    let s : State = was l keeper keeper' olds news h h' n c old new a in
    let full = commit_full s c ds (none_left l keeper keeper' olds news h h' n c old new a turn ds says.0 says.1 says.2.2.2) in
    ⊎_elim
    (λ adds.
    ap (λ t. (outcome.Full, t)) (aborted_leaves l keeper keeper' olds news h h' n c old new a turn says.2.0 says.2.1 says.2.2 adds)
    ∙ (ap (λ (r : Ended × State). (outcome.Full, r.1)) (sym (abort_goes s c says.2.0 (in_hand l keeper keeper' olds news h h' n c old new a turn says.2.0 says.2.1) (undecided l keeper keeper' olds news h h' n c old new a turn says.2.0 says.2.1 says.2.2 adds))) ∙ sym full))
    (λ loses.
    ap (λ t. (outcome.Full, t)) (lost_leaves l keeper keeper' olds news h h' n c old new a turn says.2.0 says.2.1 says.2.2 loses)
    ∙ (ap (λ (r : Ended × State). (outcome.Full, r.1)) (sym (abort_already s c says.2.0 (in_hand l keeper keeper' olds news h h' n c old new a turn says.2.0 says.2.1) (lost_unit l keeper keeper' olds news h h' n c old new a turn says.2.0 says.2.1 loses))) ∙ sym full))
    says.2.3
