use Rattle.std.proofs.Common.{◌≡◌, ℕ, Err, Some, length, inl, inr, subst, sym}
use Rattle.tp_plain.specs.OneThread.{State}
use Rattle.tp_rollover.specs.Anew.{born_by, drafts_of, next_pass}
use Rattle.tp_rollover.specs.Lone.{Agrees, lone}
use Rattle.tp_rollover.proofs.Agreeing.{by_next, stopped_by}
use Rattle.tp_rollover.proofs.BirthsGroups.{CountIs, drafts_many, drafts_taken}
use Rattle.tp_rollover.proofs.births.bear_group.Goals.{then-birth, else-birth}
use Rattle.tp_rollover.proofs.births.bear_group.Goals as goal

pub returns-in_err-at-clause-gives : goal.returns-in_err-at-clause-gives
returns-in_err-at-clause-gives c =
    let count : CountIs c.args.birth.now.more c.if-birth.count (length c.args.birth.now.group.now) = elim c.if-birth.branch [
      | then-birth w ↦ inl (w.if-birth.true, w.count-is)
      | else-birth w ↦ inr (w.if-birth.false, w.count-is)
    ] in
    let many = drafts_many c.args.birth.now.group.now c.args.birth.now.more c.if-birth.count count in
    let was : State = lone c.args.manager.now c.args.keeper.now c.args.passes.now in
    stopped_by c.from_residual.result c.in_err-at.field-0.0 (λ at. (at, c.next.new.self)) _ _ _ c.from_residual.ensures.1
    (subst (λ n. Agrees (Err c.in_err-at.field-0.0) (λ (at : ℕ). (at, c.next.new.self)) (next_pass (length c.args.passes.now) was c.args.birth.now.home n 1 c.args.cursor.now)) (sym many) (c.in_err-at.ensures.gives c.args.keeper.now.seen))

pub returns-clause-gives : goal.returns-clause-gives
returns-clause-gives c =
    let count : CountIs c.args.birth.now.more c.if-birth.count (length c.args.birth.now.group.now) = elim c.if-birth.branch [
      | then-birth w ↦ inl (w.if-birth.true, w.count-is)
      | else-birth w ↦ inr (w.if-birth.false, w.count-is)
    ] in
    let many = drafts_many c.args.birth.now.group.now c.args.birth.now.more c.if-birth.count count in
    let taken = drafts_taken c.args.birth.now.group.now c.args.birth.now.more c.if-birth.count c.drafts_of-drafts.result count c.requires.room c.drafts_of-drafts.ensures.drafts in
    let was : State = lone c.args.manager.now c.args.keeper.now c.args.passes.now in
    let is : State = lone c.args.manager.now c.bear_by.new.keeper c.bear_by.new.passes in
    by_next c.bear_by.result (λ n. born_by n c.args.birth.now.carrier (drafts_of c.args.birth.now.group.now c.args.birth.now.more)) was is _ c.in_ok-at.at c.next.new.self
    (subst (λ n. next_pass (length c.args.passes.now) was c.args.birth.now.home n 1 c.args.cursor.now ≡ Some (c.in_ok-at.at, c.next.new.self)) (sym many) (c.in_ok-at.ensures.gives c.args.keeper.now.seen))
    (subst (λ ds. Agrees c.bear_by.result (λ (first : ℕ). (first, is)) (born_by c.in_ok-at.at c.args.birth.now.carrier ds was)) taken c.bear_by.ensures.gives)
