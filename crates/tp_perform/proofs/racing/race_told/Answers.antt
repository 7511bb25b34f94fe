use Rattle.std.proofs.Common.{◌∙◌, ap, length, refl}
use Rattle.std.specs.Vec.{with_items}
use Rattle.std.specs.List.{refill}
use Rattle.std.specs.Prelude.{string_bytes}
use Rattle.std.proofs.lemmas.Result.{IfOk-weaker}
use Rattle.tp_commands.specs.Told.{RacedAll, units_held}
use Rattle.tp_script.specs.Passes.{racers}
use Rattle.tp_script.specs.Script.{head_view}
use Rattle.tp_script.specs.declared.head.Act.TheVariants as act
use Rattle.tp_perform.proofs.ActLemmas.{at_of, held_of, places_many, refilled, scene_leads}
use Rattle.tp_perform.proofs.LeftLemmas.{began_refilled}
use Rattle.tp_perform.proofs.RaceLemmas.{race_free}
use Rattle.tp_perform.proofs.racing.race_told.Goals as goal

pub race_next-requires-clause-free : goal.race_next-requires-clause-free
race_next-requires-clause-free g c κs lives =
    let held = c.requires.held in
    rw (c.as_mut_slice.ensures.value, c.as_mut_slice-2.ensures.value) (race_free c.args.held.now.managed.manager (length c.args.held.now.servers.items) c.args.raced (racers (act.Race c.args.plan)) c.args.held.now.managed.passes.items held.ready.own held.racers)

pub race_next-requires-clause-as_many : goal.race_next-requires-clause-as_many
race_next-requires-clause-as_many g c κs lives =
    ap length c.as_mut_slice-3.ensures.value ∙ places_many (λ b. (goal.Server-dyn g (b.vtable, b.value)).behaviour b.value) (λ b. (goal.Server-dyn g (b.vtable, b.value)).registers b.value) (λ b. (goal.Server-dyn g (b.vtable, b.value)).pending b.value) c.args.head.now c.args.held.now c.requires.held

pub returns-clause-held : goal.returns-clause-held
returns-clause-held g c =
    let e = c.race_next.ensures in
    let n = c.race_next.new in
    let ps = c.race_next.auto.passes ∙ ap length c.as_mut_slice.ensures.value in
    let ss = c.race_next.auto.servers ∙ ap length c.as_mut_slice-2.ensures.value in
    let os = c.race_next.auto.places ∙ ap length c.as_mut_slice-3.ensures.value in
    held_of (λ b. (goal.Server-dyn g (b.vtable, b.value)).behaviour b.value) (λ b. (goal.Server-dyn g (b.vtable, b.value)).registers b.value) (λ b. (goal.Server-dyn g (b.vtable, b.value)).pending b.value) c.args.head.now c.args.held.now (record { managed = record { manager = c.args.held.now.managed.manager; keeper = c.race_next.new.keeper; passes = with_items c.args.held.now.managed.passes c.race_next.new.passes }; servers = with_items c.args.held.now.servers c.race_next.new.servers; places = record { items = refill (length c.args.held.now.places.items) c.args.held.now.places.items c.race_next.new.places } }) n.passes n.servers n.places c.requires.held refl (refilled _ _ _ c.args.held.now.managed.passes.ok.0 ps) (refilled _ _ _ c.args.held.now.servers.ok.0 ss) (refilled _ _ _ refl os) e.keeper e.all e.ready
    ps ss (ap (λ k. units_held k n.passes) ss ∙ (rw (c.as_mut_slice.ensures.value, c.as_mut_slice-2.ensures.value) at e.held))

pub returns-clause-tells : goal.returns-clause-tells
returns-clause-tells g c =
    let n = c.race_next.new in
    let ps = c.race_next.auto.passes ∙ ap length c.as_mut_slice.ensures.value in
    let ss = c.race_next.auto.servers ∙ ap length c.as_mut_slice-2.ensures.value in
    let os = c.race_next.auto.places ∙ ap length c.as_mut_slice-3.ensures.value in
    IfOk-weaker c.race_next.result _ _ (λ text t. scene_leads (λ b. (goal.Server-dyn g (b.vtable, b.value)).behaviour b.value) (λ b. (goal.Server-dyn g (b.vtable, b.value)).registers b.value) (λ b. (goal.Server-dyn g (b.vtable, b.value)).pending b.value) (λ m keeper scene keeper' scene'. RacedAll m (head_view c.args.head.now) c.args.plan c.args.raced keeper scene (string_bytes text) keeper' scene') c.args.held.now (record { managed = record { manager = c.args.held.now.managed.manager; keeper = c.race_next.new.keeper; passes = with_items c.args.held.now.managed.passes c.race_next.new.passes }; servers = with_items c.args.held.now.servers c.race_next.new.servers; places = record { items = refill (length c.args.held.now.places.items) c.args.held.now.places.items c.race_next.new.places } }) refl (
      t.0,
      t.1,
      (rw (c.as_mut_slice.ensures.value, c.as_mut_slice-2.ensures.value, c.as_mut_slice-3.ensures.value) at t.2),
      t.3,
      at_of (λ b. (goal.Server-dyn g (b.vtable, b.value)).behaviour b.value) (λ b. (goal.Server-dyn g (b.vtable, b.value)).registers b.value) (λ b. (goal.Server-dyn g (b.vtable, b.value)).pending b.value) (record { managed = record { manager = c.args.held.now.managed.manager; keeper = c.race_next.new.keeper; passes = with_items c.args.held.now.managed.passes c.race_next.new.passes }; servers = with_items c.args.held.now.servers c.race_next.new.servers; places = record { items = refill (length c.args.held.now.places.items) c.args.held.now.places.items c.race_next.new.places } }) n.passes n.servers n.places t.1 (refilled _ _ _ c.args.held.now.managed.passes.ok.0 ps) (refilled _ _ _ c.args.held.now.servers.ok.0 ss) (refilled _ _ _ refl os) t.4,
    )) c.race_next.ensures.tells

pub returns-clause-began : goal.returns-clause-began
returns-clause-began g c =
    let os = c.race_next.auto.places ∙ ap length c.as_mut_slice-3.ensures.value in
    began_refilled (λ b. (goal.Server-dyn g (b.vtable, b.value)).behaviour b.value) (λ b. (goal.Server-dyn g (b.vtable, b.value)).registers b.value) (λ b. (goal.Server-dyn g (b.vtable, b.value)).pending b.value) c.args.held.now.places.items c.race_next.new.places _ (refilled _ _ _ refl os) (rw c.as_mut_slice-3.ensures.value at c.race_next.ensures.began)
