use Rattle.std.proofs.Common.{◌≡◌, ◌∙◌, All, None, ap, length, map, subst, sym}
use Rattle.std.specs.Vec.{with_items}
use Rattle.tp_workers.specs.Free.{IsFreePass}
use Rattle.tp_commands.specs.Acting.{AllEnded, IsSteadyPlace, places_shown}
use Rattle.tp_commands.specs.Places.{workers}
use Rattle.tp_commands.specs.Told.{AllLeftAt}
use Rattle.tp_commands.proofs.Began.{left_at}
use Rattle.tp_commands.proofs.Chains.{all_steady}
use Rattle.tp_perform.proofs.ActLemmas.{refilled}
use Rattle.tp_perform.proofs.ending.end_held.Goals as goal

pub end_passes-requires-clause-ready : goal.end_passes-requires-clause-ready
end_passes-requires-clause-ready g c = rw (c.as_mut_slice.ensures.value, c.as_mut_slice-2.ensures.value, c.as_mut_slice-3.ensures.value) c.requires.held.ready

pub end_passes-requires-clause-enough : goal.end_passes-requires-clause-enough
end_passes-requires-clause-enough g c = rw (c.as_mut_slice.ensures.value, c.as_mut_slice-2.ensures.value) c.requires.held.enough

pub end_passes-requires-clause-racers : goal.end_passes-requires-clause-racers
end_passes-requires-clause-racers g c = rw (c.as_mut_slice.ensures.value, c.as_mut_slice-2.ensures.value) c.requires.held.racers

pub returns-clause-free : goal.returns-clause-free
returns-clause-free g c =
    let long = c.end_passes.auto.passes ∙ ap length c.as_mut_slice.ensures.value in
    subst (All (IsFreePass c.args.held.now.managed.manager)) (sym (refilled _ _ _ c.args.held.now.managed.passes.ok.0 long)) c.end_passes.ensures.free

pub returns-clause-clear : goal.returns-clause-clear
returns-clause-clear g c =
    let long = c.end_passes.auto.servers ∙ ap length c.as_mut_slice-2.ensures.value in
    subst (All (λ s. (goal.Server-dyn g (s.vtable, s.value)).pending s.value ≡ None)) (sym (refilled _ _ _ c.args.held.now.servers.ok.0 long)) c.end_passes.ensures.clear

pub returns-clause-each_server : goal.returns-clause-each_server
returns-clause-each_server g c =
    let long = c.end_passes.auto.servers ∙ ap length c.as_mut_slice-2.ensures.value in
    ap length (refilled _ _ _ c.args.held.now.servers.ok.0 long) ∙ long

pub returns-clause-ends : goal.returns-clause-ends
returns-clause-ends g c last is =
    let long = c.end_passes.auto.servers ∙ ap length c.as_mut_slice-2.ensures.value in
    let n = length c.args.held.now.servers.items in
    let held = c.requires.held in
    let ended = rw (c.as_mut_slice.ensures.value, c.as_mut_slice-2.ensures.value, c.as_mut_slice-3.ensures.value) at c.end_passes.ensures.ended in
    record {
      passes = workers n c.end_passes.new.passes;
      ended = subst (λ zs. AllEnded zs (workers n c.end_passes.new.passes) (map (λ b. (goal.Server-dyn g (b.vtable, b.value)).registers b.value) (with_items c.args.held.now.servers c.end_passes.new.servers).items)) (sym is.scene.1)
          (subst (λ ss. AllEnded (places_shown (λ b. (goal.Server-dyn g (b.vtable, b.value)).behaviour b.value) (λ b. (goal.Server-dyn g (b.vtable, b.value)).registers b.value) (λ b. (goal.Server-dyn g (b.vtable, b.value)).pending b.value) (workers n c.args.held.now.managed.passes.items) c.args.held.now.servers.items c.args.held.now.places.items) (workers n c.end_passes.new.passes) (map (λ b. (goal.Server-dyn g (b.vtable, b.value)).registers b.value) ss)) (sym (refilled _ _ _ c.args.held.now.servers.ok.0 long)) ended);
      steady = subst (All IsSteadyPlace) (sym is.scene.1) (all_steady (λ b. (goal.Server-dyn g (b.vtable, b.value)).behaviour b.value) (λ b. (goal.Server-dyn g (b.vtable, b.value)).registers b.value) (λ b. (goal.Server-dyn g (b.vtable, b.value)).pending b.value) _ _ _ held.ready.lie);
    }

pub returns-clause-left : goal.returns-clause-left
returns-clause-left g c last began =
    let ps = c.end_passes.auto.passes ∙ ap length c.as_mut_slice.ensures.value in
    let ss = c.end_passes.auto.servers ∙ ap length c.as_mut_slice-2.ensures.value in
    let n = length c.args.held.now.servers.items in
    let left = rw (c.as_mut_slice-2.ensures.value, c.as_mut_slice-3.ensures.value) at c.end_passes.ensures.left in
    let all = left_at (λ b. (goal.Server-dyn g (b.vtable, b.value)).behaviour b.value) (λ b. (goal.Server-dyn g (b.vtable, b.value)).registers b.value) (λ b. (goal.Server-dyn g (b.vtable, b.value)).pending b.value) last.scene.places c.args.held.now.places.items (workers n c.end_passes.new.passes) c.end_passes.new.servers began left in
    subst (λ zs. AllLeftAt (λ b. (goal.Server-dyn g (b.vtable, b.value)).behaviour b.value) (λ b. (goal.Server-dyn g (b.vtable, b.value)).registers b.value) last.scene.places (workers n zs) (with_items c.args.held.now.servers c.end_passes.new.servers).items) (sym (refilled _ _ _ c.args.held.now.managed.passes.ok.0 ps))
    (subst (λ zs. AllLeftAt (λ b. (goal.Server-dyn g (b.vtable, b.value)).behaviour b.value) (λ b. (goal.Server-dyn g (b.vtable, b.value)).registers b.value) last.scene.places (workers n c.end_passes.new.passes) zs) (sym (refilled _ _ _ c.args.held.now.servers.ok.0 ss)) all)
