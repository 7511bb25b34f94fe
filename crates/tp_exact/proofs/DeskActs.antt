-- Each command on a desk, where nobody else acts.
use Rattle.tp_server.specs.declared.order.Order.TheVariants as orders
use Rattle.tp_script.specs.declared.script.DeskAct.TheVariants as acts
use Rattle.tp_exact.specs.Desks.{ExactDesk}
use Rattle.tp_exact.proofs.Desks.{aborts, claims, drops, takes}
use Rattle.tp_exact.proofs.Turns.{commits, prepares, turns}

pub exact_desk : ExactDesk
exact_desk acts.Turn recipe l keeper keeper' olds news h h' c old new answer d server serves limits a is t = turns recipe l keeper keeper' olds news h h' c old new d a limits is serves server answer t
exact_desk acts.Claim recipe l keeper keeper' olds news h h' c old new answer d server stage limits a is t = claims recipe l keeper keeper' olds news h h' c old new d a limits is server stage orders.LeastFirst answer t
exact_desk acts.Next recipe l keeper keeper' olds news h h' c old new answer d server stage limits a is t = claims recipe l keeper keeper' olds news h h' c old new d a limits is server stage orders.InTurn answer t
exact_desk (acts.Take id) recipe l keeper keeper' olds news h h' c old new answer d server stage limits a is t = takes recipe l keeper keeper' olds news h h' c old new d a limits is server stage id answer t
exact_desk acts.Prepare recipe l keeper keeper' olds news h h' c old new answer d server serves limits a is t = prepares recipe l keeper keeper' olds news h h' c old new d a limits is serves answer t
exact_desk acts.Commit recipe l keeper keeper' olds news h h' c old new answer d server serves limits a is t = commits recipe l keeper keeper' olds news h h' c old new d a limits is serves answer t
exact_desk acts.Abort recipe l keeper keeper' olds news h h' c old new answer d server stage limits a is t = aborts recipe l keeper keeper' olds news h h' c old new d a limits is answer t
exact_desk acts.Drop recipe l keeper keeper' olds news h h' c old new answer d server stage limits a is t = drops recipe l keeper keeper' olds news h h' c old new d a limits is answer t
