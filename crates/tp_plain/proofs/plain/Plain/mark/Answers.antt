use Rattle.std.proofs.Common.{length, ◌∙◌, ap, rules}
use Rattle.tp_plain.specs.Noted.{noted_event}
use Rattle.tp_plain.specs.OneThread.{State}
use Rattle.tp_model.proofs.Lists.{whole_write}
use Rattle.tp_plain.proofs.Kills.{mark_leaves}
use Rattle.tp_plain.proofs.Requeues.{rounds_quiet}
use Rattle.tp_plain.proofs.plain.Plain.mark.Goals as goal

pub invariant_of-self : goal.invariant_of-self
invariant_of-self c =
    let p = c.self.inside in
    let s : State = record { limits = p.limits; history = p.history.events; passes = p.passes.items; drawn = p.drawn } in
    let step = rw (← c.self.view_is) at c.requires.step in
    let quiet = rw (← c.self.view_is) at c.requires.quiet in
    let left = mark_leaves s p.looks.items (noted_event c.args.note.now) c.self.invariant.0 c.self.invariant.1 step quiet in
    let applied = rw c.deref_mut.ensures.value at c.apply.ensures in
    let written = whole_write p.looks.items c.apply.new.looks p.looks.len (search rules) (c.apply.auto.looks ∙ ap length c.deref_mut.ensures.value) in
    rw (c.then-self-inside.ensures) (left.0, written ∙ (applied ∙ left.1), rounds_quiet s (noted_event c.args.note.now) p.rounds.items quiet c.self.invariant.2)
