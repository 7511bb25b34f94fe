use Rattle.std.proofs.Common.{inr}
use Rattle.tp_perform.proofs.LeftLemmas.{reach_same, reach_so}
use Rattle.tp_perform.proofs.acts.act_told.Goals as goal

pub returns-in-Command-clause-went : goal.returns-in-Command-clause-went
returns-in-Command-clause-went g c = reach_same (λ b. (goal.Server-dyn g (b.vtable, b.value)).behaviour b.value) (λ b. (goal.Server-dyn g (b.vtable, b.value)).registers b.value) (λ b. (goal.Server-dyn g (b.vtable, b.value)).pending b.value) c.args.head.now c.args.held.now c.command_told.new.held _ c.requires.held c.command_told.ensures.began

pub returns-in-Command-clause-tells : goal.returns-in-Command-clause-tells
returns-in-Command-clause-tells g c = rw c.in-Command.is c.command_told.ensures.tells

pub returns-in-Drain-clause-went : goal.returns-in-Drain-clause-went
returns-in-Drain-clause-went g c = reach_same (λ b. (goal.Server-dyn g (b.vtable, b.value)).behaviour b.value) (λ b. (goal.Server-dyn g (b.vtable, b.value)).registers b.value) (λ b. (goal.Server-dyn g (b.vtable, b.value)).pending b.value) c.args.head.now c.args.held.now c.drain_told.new.held _ c.requires.held c.drain_told.ensures.began

pub returns-in-DrainNext-clause-went : goal.returns-in-DrainNext-clause-went
returns-in-DrainNext-clause-went g c = reach_same (λ b. (goal.Server-dyn g (b.vtable, b.value)).behaviour b.value) (λ b. (goal.Server-dyn g (b.vtable, b.value)).registers b.value) (λ b. (goal.Server-dyn g (b.vtable, b.value)).pending b.value) c.args.head.now c.args.held.now c.drain_told-in-DrainNext.new.held _ c.requires.held c.drain_told-in-DrainNext.ensures.began

pub returns-in-Rollover-clause-went : goal.returns-in-Rollover-clause-went
returns-in-Rollover-clause-went g c = rw c.in-Rollover.is (reach_so (λ b. (goal.Server-dyn g (b.vtable, b.value)).behaviour b.value) (λ b. (goal.Server-dyn g (b.vtable, b.value)).registers b.value) (λ b. (goal.Server-dyn g (b.vtable, b.value)).pending b.value) c.args.held.now c.rollover_told.new.held _ _ (λ a b done. inr done) c.rollover_told.ensures.went)

pub returns-in-Rollover-clause-tells : goal.returns-in-Rollover-clause-tells
returns-in-Rollover-clause-tells g c = rw c.in-Rollover.is c.rollover_told.ensures.tells

pub returns-in-Race-clause-went : goal.returns-in-Race-clause-went
returns-in-Race-clause-went g c = reach_same (λ b. (goal.Server-dyn g (b.vtable, b.value)).behaviour b.value) (λ b. (goal.Server-dyn g (b.vtable, b.value)).registers b.value) (λ b. (goal.Server-dyn g (b.vtable, b.value)).pending b.value) c.args.head.now c.args.held.now c.race_told.new.held _ c.requires.held c.race_told.ensures.began

pub returns-in-Race-clause-tells : goal.returns-in-Race-clause-tells
returns-in-Race-clause-tells g c = rw c.in-Race.is c.race_told.ensures.tells
