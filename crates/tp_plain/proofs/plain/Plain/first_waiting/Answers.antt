use Rattle.std.proofs.Common.{◌≡◌, ap, ◌∙◌, sym}
use Rattle.std.specs.List.{fold}
use Rattle.std.proofs.Common.{None}
use Rattle.tp_plain.specs.Computed.{next_waiting}
use Rattle.tp_plain.specs.Looks.{sooner}
use Rattle.tp_plain.specs.OneThread.{State}
use Rattle.tp_plain.proofs.Claims.{IsFound, is_found}
use Rattle.tp_plain.proofs.plain.Plain.first_waiting.Goals as goal

pub returns : goal.returns
returns c =
    let p = c.self.inside in
    let s : State = record { limits = p.limits; history = p.history.events; passes = p.passes.items; drawn = p.drawn } in
    let is : next_waiting s c.args.from c.args.stage ≡ c.next_waiting.result =
    ap (fold (sooner c.args.from c.args.stage) None) (sym c.self.invariant.1 ∙ sym c.deref.ensures.value) ∙ sym c.next_waiting.ensures in
    let found : IsFound s c.args.stage c.next_waiting.result = is_found s c.args.from c.args.stage c.self.invariant.0 c.next_waiting.result is in
    rw (← c.self.view_is) (record { first = sym is; waits = found.waits; stage = found.stage_is; few = found.few; none = found.none })
