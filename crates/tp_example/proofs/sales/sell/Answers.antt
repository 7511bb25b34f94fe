use Rattle.std.proofs.Common.{◌≡◌, ap, arith, rules, subst}
use Rattle.tp_model.specs.declared.types.Limits.{Limits}
use Rattle.tp_workers.specs.Desks.{DeskPlace, DeskWorksOn}
use Rattle.tp_workers.specs.declared.plan.Plan.{Plan}
use Rattle.tp_workers.specs.declared.tally.Shift.{Shift}
use Rattle.tp_desk.proofs.Books.{serves_lowered, serves_raised}
use Rattle.tp_workers.proofs.Turns.{turns_total}
use Rattle.tp_example.proofs.sales.sell.Goals as goal

pub returns-clause-adds_up : goal.returns-clause-adds_up
returns-clause-adds_up g c =
    let serves = rw c.requires.is_shop at c.work_off-counts.ensures.worked.leaves.serves in
    record { goods = serves_lowered c.each_sale.ensures.goods serves; money = serves_raised c.each_sale.ensures.money serves }

-- turns by one plan are turns by another that is the same
planned : {l : Limits} {p q : Plan} {a b : DeskPlace} {s : Shift} → p ≡ q → DeskWorksOn p l a s b → DeskWorksOn q l a s b
planned {l} {p} {q} {a} {b} {s} same on = subst (λ (x : Plan). DeskWorksOn x l a s b) same on

pub returns-clause-short : goal.returns-clause-short
returns-clause-short g c = (c.work_off-counts.result, search rules, search rules, planned c.least_first.ensures c.work_off-counts.ensures.worked.turns_taken)

pub returns-clause-turns : goal.returns-clause-turns
returns-clause-turns g c =
    omega (arith, turns_total _ _ _ _ _ _ c.work_off-counts.ensures.worked.turns_taken.calls, c.work_off-counts.ensures.worked.turns_taken.at_most, ap (λ (p : Plan). p.turns) c.least_first.ensures)
