-- What a claim answers, by the order in which it takes what waits. `old` is what the pass shows before it,
-- and `new` what it shows after it.
use Rattle.std.specs.Prelude.{◌≡◌, ℕ, ⊤}
use Rattle.tp_model.specs.declared.types.Claimed.{Claimed}
use Rattle.tp_model.specs.declared.types.Limits.{Limits}
use Rattle.tp_manager.specs.Bounds.{claim_steps, claim_next_steps}
use Rattle.tp_manager.specs.Calls.{Claims, ClaimsNext}
use Rattle.tp_manager.specs.Shown.{PassShown}
use Rattle.tp_server.specs.declared.order.Order.{Order}
use Rattle.tp_server.specs.declared.order.Order.TheVariants as orders

-- the manager's claim, or its claim in turn
abbrev pub ClaimsBy : Order → Limits → ℕ → PassShown → PassShown → Claimed → Type 0
ClaimsBy orders.LeastFirst l stage old new answer = Claims l stage old new answer
ClaimsBy orders.InTurn l stage old new answer = ClaimsNext l stage old new answer

-- how many atomic steps it makes at most
abbrev pub steps_by : Order → Limits → ℕ
steps_by orders.LeastFirst l = claim_steps l
steps_by orders.InTurn l = claim_next_steps l

-- a claim of the least id leaves where claims in turn go on
abbrev pub KeepsTurn : Order → PassShown → PassShown → Type 0
KeepsTurn orders.LeastFirst old new = new.from ≡ old.from
KeepsTurn orders.InTurn old new = ⊤
