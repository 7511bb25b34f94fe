use Rattle.std.proofs.Common.{◌≡◌, ◌<◌, None, length, ◌∙◌, ap, arith, rules}
use Rattle.tp_plain.specs.Looks.{attempts_in}
use Rattle.tp_plain.specs.OneThread.{State, Waits, pass_at}
use Rattle.tp_model.proofs.Lists.{whole_write}
use Rattle.tp_plain.proofs.Claims.{looks_claimed, reached_claim, waits_below}
use Rattle.tp_plain.proofs.Requeues.{rounds_claim}
use Rattle.tp_plain.proofs.plain.Plain.take.Goals as goal

pub overflow_add-attempt : goal.overflow_add-attempt
overflow_add-attempt c =
    let below = waits_below c.args.self.now c.args.look.element.stage c.args.look.element (attempts_in c.args.look.status) c.show_reached.ensures c.requires.waits in
    let most = c.show_reached.ensures.limits.attempts.1 in
    rw c.attempts_of-attempt.ensures (omega arith)

pub invariant_of-self : goal.invariant_of-self
invariant_of-self c =
    let p = c.self.inside in
    let s : State = record { limits = p.limits; history = p.history.events; passes = p.passes.items; drawn = p.drawn } in
    let look = c.args.look in
    let is_pass : c.args.caller < p.limits.parts = rw (← c.self.view_is) at c.requires.pass in
    let waits : Waits s look.element.stage look.element (attempts_in look.status) = rw (← c.self.view_is) at c.requires.waits in
    let room : (pass_at s c.args.caller).claimed < p.limits.units = rw (← c.self.view_is) at c.requires.room in
    let free : (pass_at s c.args.caller).holding ≡ None = rw (← c.self.view_is) at c.requires.free in
    let used : c.used_by-used.result ≡ pass_at s c.args.caller = rw (← c.self.view_is) at c.used_by-used.ensures in
    let reached = reached_claim s c.args.caller look.element.stage look c.self.invariant.0 is_pass c.requires.stage waits room free c.args.turns in
    let looks = looks_claimed s c.args.caller look.element.stage look c.self.invariant.0 is_pass c.requires.stage waits room free p.looks.items c.self.invariant.1 in
    let written = whole_write p.looks.items c.apply.new.looks p.looks.len (search rules) (c.apply.auto.looks ∙ ap length c.deref_mut.ensures.value) in
    let applied = rw (c.deref_mut.ensures.value, c.attempts_of-attempt.ensures, used) at c.apply.ensures in
    rw (c.then-self-inside.ensures, c.attempts_of-attempt.ensures, used) (reached, written ∙ (applied ∙ looks), rounds_claim p.limits p.history.events _ _ _ _ p.rounds.items c.self.invariant.2)
