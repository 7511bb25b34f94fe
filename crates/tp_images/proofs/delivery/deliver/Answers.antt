use Rattle.std.proofs.Common.{ap, arith}
use Rattle.tp_workers.specs.declared.plan.Plan.{Plan}
use Rattle.tp_desk.proofs.Books.{serves_raised}
use Rattle.tp_workers.proofs.Turns.{turns_total}
use Rattle.tp_images.proofs.delivery.deliver.Goals as goal

pub returns-clause-counts_all : goal.returns-clause-counts_all
returns-clause-counts_all g c =
    let serves = rw c.requires.is_notifier at c.work_off.ensures.worked.leaves.serves in
    record { notices = serves_raised c.each_notice.ensures.notices serves; bytes = serves_raised c.each_notice.ensures.bytes serves }

pub returns-clause-at_most : goal.returns-clause-at_most
returns-clause-at_most g c =
    omega (arith, turns_total _ _ _ _ _ _ c.work_off.ensures.worked.turns_taken.calls, c.work_off.ensures.worked.turns_taken.at_most, ap (λ (p : Plan). p.turns) c.least_first.ensures)
