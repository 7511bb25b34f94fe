use Rattle.std.proofs.Common.{◌≡◌, ◌∙◌, ◌+◌, ◌<◌, ◌^◌, ◌++◌, All, ap, arith, subst, sym}
use Rattle.tp_journal.specs.Text.{IsBatch}
use Rattle.tp_kept.specs.Kept.{IsKept, KeepsLife, life, talk}
use Rattle.tp_kept.specs.Lines.{IsTheirs, empty_lines}
use Rattle.tp_kept.specs.Lives.{goes_on}
use Rattle.tp_kept.proofs.AskLemmas.{batch_behind, behind, goes_behind, theirs_behind}
use Rattle.tp_kept.proofs.kept.Kept.put_and_perform.Goals as goal

pub append-requires-clause-batch : goal.append-requires-clause-batch
append-requires-clause-batch g c =
    let is : c.deref.result.now ≡ empty_lines c.args.self.now.asked ++ c.args.lines.now = c.deref.ensures.value ∙ c.in-Ok.ensures in
    subst IsBatch (sym is) (batch_behind c.args.self.now.asked c.args.lines.now c.requires.batch c.requires.theirs)

pub append-requires-clause-theirs : goal.append-requires-clause-theirs
append-requires-clause-theirs g c =
    let is : c.deref.result.now ≡ empty_lines c.args.self.now.asked ++ c.args.lines.now = c.deref.ensures.value ∙ c.in-Ok.ensures in
    subst (All IsTheirs) (sym is) (theirs_behind c.args.self.now.asked c.args.lines.now c.requires.theirs)

pub returns-in_err-answers-clause-keeps : goal.returns-in_err-answers-clause-keeps
returns-in_err-answers-clause-keeps g c =
    subst (λ j. KeepsLife (g.D.Device.may_leave j.device) (life c.args.self.now)) (sym c.perform.ensures.same.0) c.append.ensures.keeps

pub returns-clause-kept : goal.returns-clause-kept
returns-clause-kept g c =
    let old = c.args.self.now in
    let mid = c.append.new.self in
    let new = c.perform.new.self in
    let is : c.deref.result.now ≡ empty_lines old.asked ++ c.args.lines.now = c.deref.ensures.value ∙ c.in-Ok.ensures in
    let same : talk mid ≡ talk old = ap (behind mid.asked) c.in_ok-append.ensures.same.0 ∙ ap (λ n. behind n (life old)) c.append.ensures.asked in
    let leads : goes_on c.deref.result.now (life old) ≡ talk new =
    ap (λ w. goes_on w (life old)) is ∙ (goes_behind old.asked c.args.lines.now (life old)
    ∙ (ap (goes_on c.args.lines.now) (sym same) ∙ sym c.in_ok-answers.ensures.leads)) in
    subst (λ j. IsKept g.D.Device.seen g.D.Device.may_leave j (talk new)) (sym c.perform.ensures.same.0)
    (subst (IsKept g.D.Device.seen g.D.Device.may_leave mid.journal) leads c.in_ok-append.ensures.kept)

pub returns-clause-keeps : goal.returns-clause-keeps
returns-clause-keeps g c =
    subst (λ j. KeepsLife (g.D.Device.may_leave j.device) (life c.args.self.now)) (sym c.perform.ensures.same.0) c.append.ensures.keeps
