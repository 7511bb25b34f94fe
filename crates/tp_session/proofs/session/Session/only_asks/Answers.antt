use Rattle.std.proofs.Common.{◌≡◌, ◌∙◌, subst, sym}
use Rattle.tp_session.specs.Retold.{AreInOrder}
use Rattle.tp_session.proofs.AskingLemmas.{asking_changes_nothing}
use Rattle.tp_session.proofs.session.Session.only_asks.Goals as goal

pub returns-clause-stays : goal.returns-clause-stays
returns-clause-stays c = λ is n. asking_changes_nothing n c.args.bytes.now c.args.self.now (subst (λ v. AreInOrder v.workers) c.self.view_is c.iter-in_order.ensures.ordered) (sym c.in_ok-only.ensures ∙ is)
