use Rattle.std.proofs.Common.{inl, inr, map, refl, subst, sym}
use Rattle.std.proofs.lemmas.Result.{IfOk-weaker}
use Rattle.tp_report.specs.Answer.{line, rolled_text}
use Rattle.tp_script.specs.Fault.{◌<>◌}
use Rattle.tp_commands.specs.Rollover.{IsUnrolled, RollRefused, renamed}
use Rattle.tp_perform.specs.Roots.{roots_of, roots_text}
use Rattle.tp_perform.proofs.LeftLemmas.{reach_lead}
use Rattle.tp_perform.proofs.StandLemmas.{leads_so}
use Rattle.tp_perform.proofs.rolling.rollover_told.Goals as goal

pub returns-in-Ok-clause-went : goal.returns-in-Ok-clause-went
returns-in-Ok-clause-went g c =
    reach_lead (λ b. (goal.Server-dyn g (b.vtable, b.value)).behaviour b.value) (λ b. (goal.Server-dyn g (b.vtable, b.value)).registers b.value) (λ b. (goal.Server-dyn g (b.vtable, b.value)).pending b.value) c.args.head.now c.args.held.now c.roll_over_held.new.held _ _ c.in-Ok.ensures.held (λ a b rolled. (line (rolled_text (map renamed c.in-Ok.moved.items) <> roots_text (roots_of c.in-Ok.moved.items)), inl (record { moved = c.in-Ok.moved.items; rolled = rolled; text_is = refl }))) c.in-Ok.ensures.rolled

pub returns-in-Err-clause-went : goal.returns-in-Err-clause-went
returns-in-Err-clause-went g c =
    reach_lead (λ b. (goal.Server-dyn g (b.vtable, b.value)).behaviour b.value) (λ b. (goal.Server-dyn g (b.vtable, b.value)).registers b.value) (λ b. (goal.Server-dyn g (b.vtable, b.value)).pending b.value) c.args.head.now c.args.held.now c.roll_over_held.new.held _ _ c.in-Err.ensures.held (λ a b refused. (_, inr refused)) c.in-Err.ensures.refused

pub returns-in-Ok-clause-tells : goal.returns-in-Ok-clause-tells
returns-in-Ok-clause-tells g c =
    IfOk-weaker c.rolled_line.result _ _ (λ text is. leads_so (λ b. (goal.Server-dyn g (b.vtable, b.value)).behaviour b.value) (λ b. (goal.Server-dyn g (b.vtable, b.value)).registers b.value) (λ b. (goal.Server-dyn g (b.vtable, b.value)).pending b.value) _ _ c.args.held.now c.roll_over_held.new.held (λ a b rolled. inl (record { moved = c.in-Ok.moved.items; rolled = rolled; text_is = is })) c.in-Ok.ensures.rolled) (rw c.as_slice.ensures.value at c.rolled_line.ensures)

pub returns-in-Err-clause-tells : goal.returns-in-Err-clause-tells
returns-in-Err-clause-tells g c =
    IfOk-weaker c.refused_line.result _ _ (λ text is. leads_so (λ b. (goal.Server-dyn g (b.vtable, b.value)).behaviour b.value) (λ b. (goal.Server-dyn g (b.vtable, b.value)).registers b.value) (λ b. (goal.Server-dyn g (b.vtable, b.value)).pending b.value) _ _ c.args.held.now c.roll_over_held.new.held (λ a b refused. inr (subst (λ t. RollRefused (IsUnrolled a.manager.limits) a t b) (sym is) refused)) c.in-Err.ensures.refused) c.refused_line.ensures.text
