-- Plans of one order.
use Rattle.std.specs.Prelude.{ℕ}
use Rattle.tp_server.specs.declared.order.Order.TheVariants as orders
use Rattle.tp_workers.specs.declared.plan.Plan.{Plan}

-- this many turns, each of which claims the element with the least id
abbrev pub least_first : ℕ → Plan
least_first turns = record { turns = turns; order = orders.LeastFirst }

-- this many turns whose claims are in turn
abbrev pub in_turn : ℕ → Plan
in_turn turns = record { turns = turns; order = orders.InTurn }
