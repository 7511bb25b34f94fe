use Rattle.std.proofs.Common.{arith, ap, take, drop, length, ◌++◌, ◌∙◌, refl, subst, sym}
use Rattle.std.proofs.lemmas.List.{map-append, take-append-drop}
use Rattle.std.proofs.lemmas.List.Elements.{All-append, All-drop, All-take, All-weaker}
use Rattle.tp_manager.specs.Shown.{IsOf, PassShown, numbers}
use Rattle.tp_workers.specs.Free.{IsFreePass}
use Rattle.tp_workers.specs.Clients.{ClientRan}
use Rattle.tp_workers.specs.Desks.{DeskRan}
use Rattle.tp_workers.specs.Plans.{least_first}
use Rattle.tp_workers.specs.Killers.{KillerRan}
use Rattle.tp_workers.specs.Ran.{RanEach}
use Rattle.tp_workers.specs.Sums.{client_part, killer_part}
use Rattle.tp_commands.specs.Together.{AllTakePart, TookTurns}
use Rattle.tp_commands.specs.Places.{AllLie}
use Rattle.tp_commands.proofs.Lies.{lie_append, lie_back, lie_clear, lie_free, lie_front, lie_passes, lie_servers, lie_worked}
use Rattle.tp_commands.proofs.Parts.{all_free, parts_front, passed_behind}
use Rattle.tp_commands.proofs.Races.{races_ran}
use Rattle.tp_commands.proofs.racing.race_front.Goals as goal

pub split_at_mut-desks-requires : goal.split_at_mut-desks-requires
split_at_mut-desks-requires g c = let e = lie_passes (λ b. (goal.Server-dyn g (b.vtable, b.value)).behaviour b.value) (λ b. (goal.Server-dyn g (b.vtable, b.value)).registers b.value) (λ b. (goal.Server-dyn g (b.vtable, b.value)).pending b.value) c.args.passes.now c.args.servers.now c.args.places.now c.requires.lie in omega (arith, e, c.requires.within)

pub split_at_mut-boxes-requires : goal.split_at_mut-boxes-requires
split_at_mut-boxes-requires g c = let e = lie_servers (λ b. (goal.Server-dyn g (b.vtable, b.value)).behaviour b.value) (λ b. (goal.Server-dyn g (b.vtable, b.value)).registers b.value) (λ b. (goal.Server-dyn g (b.vtable, b.value)).pending b.value) c.args.passes.now c.args.servers.now c.args.places.now c.requires.lie in omega (arith, e, c.requires.within)

pub shift-counts-requires-clause-desks_free : goal.shift-counts-requires-clause-desks_free
shift-counts-requires-clause-desks_free g c κs within =
    let n = c.args.front in
    let ps = c.args.passes.now in
    let ss = c.args.servers.now in
    let os = c.args.places.now in
    rw c.split_at_mut-desks.ensures.front (lie_free (λ b. (goal.Server-dyn g (b.vtable, b.value)).behaviour b.value) (λ b. (goal.Server-dyn g (b.vtable, b.value)).registers b.value) (λ b. (goal.Server-dyn g (b.vtable, b.value)).pending b.value) c.args.racing.now.manager.now (take n ps) (take n ss) (take n os) (lie_front (λ b. (goal.Server-dyn g (b.vtable, b.value)).behaviour b.value) (λ b. (goal.Server-dyn g (b.vtable, b.value)).registers b.value) (λ b. (goal.Server-dyn g (b.vtable, b.value)).pending b.value) n ps ss os c.requires.lie) (all_free _ c.requires.free) (All-take (IsOf c.args.racing.now.manager.now) n ps c.requires.own))

pub shift-counts-requires-clause-servers_clear : goal.shift-counts-requires-clause-servers_clear
shift-counts-requires-clause-servers_clear g c κs within =
    let n = c.args.front in
    let ps = c.args.passes.now in
    let ss = c.args.servers.now in
    let os = c.args.places.now in
    rw c.split_at_mut-boxes.ensures.front (lie_clear (λ b. (goal.Server-dyn g (b.vtable, b.value)).behaviour b.value) (λ b. (goal.Server-dyn g (b.vtable, b.value)).registers b.value) (λ b. (goal.Server-dyn g (b.vtable, b.value)).pending b.value) (take n ps) (take n ss) (take n os) (lie_front (λ b. (goal.Server-dyn g (b.vtable, b.value)).behaviour b.value) (λ b. (goal.Server-dyn g (b.vtable, b.value)).registers b.value) (λ b. (goal.Server-dyn g (b.vtable, b.value)).pending b.value) n ps ss os c.requires.lie) (all_free _ c.requires.free))

pub returns-clause-own : goal.returns-clause-own
returns-clause-own g c =
    let n = c.args.front in
    let ps = c.args.passes.now in
    let ss = c.args.servers.now in
    let os = c.args.places.now in
    let IsOurs = IsOf c.args.racing.now.manager.now in
    All-append IsOurs c.shift-counts.new.desks.0 _ (All-weaker (IsFreePass c.args.racing.now.manager.now) IsOurs (λ p is. is.own) c.shift-counts.new.desks.0 c.shift-counts.ensures.desks_free)
    (rw c.split_at_mut-desks.ensures.back (All-drop IsOurs n ps c.requires.own))

pub returns-clause-lie : goal.returns-clause-lie
returns-clause-lie g c =
    let n = c.args.front in
    let ps = c.args.passes.now in
    let ss = c.args.servers.now in
    let os = c.args.places.now in
    let m = c.args.racing.now.manager.now in
    let before : AllLie (λ b. (goal.Server-dyn g (b.vtable, b.value)).behaviour b.value) (λ b. (goal.Server-dyn g (b.vtable, b.value)).registers b.value) (λ b. (goal.Server-dyn g (b.vtable, b.value)).pending b.value) c.split_at_mut-desks.result.0.now c.split_at_mut-boxes.result.0.now (take n os) = rw (c.split_at_mut-desks.ensures.front, c.split_at_mut-boxes.ensures.front) (lie_front (λ b. (goal.Server-dyn g (b.vtable, b.value)).behaviour b.value) (λ b. (goal.Server-dyn g (b.vtable, b.value)).registers b.value) (λ b. (goal.Server-dyn g (b.vtable, b.value)).pending b.value) n ps ss os c.requires.lie) in
    let after : AllLie (λ b. (goal.Server-dyn g (b.vtable, b.value)).behaviour b.value) (λ b. (goal.Server-dyn g (b.vtable, b.value)).registers b.value) (λ b. (goal.Server-dyn g (b.vtable, b.value)).pending b.value) c.split_at_mut-desks.result.1.now c.split_at_mut-boxes.result.1.now (drop n os) = rw (c.split_at_mut-desks.ensures.back, c.split_at_mut-boxes.ensures.back) (lie_back (λ b. (goal.Server-dyn g (b.vtable, b.value)).behaviour b.value) (λ b. (goal.Server-dyn g (b.vtable, b.value)).registers b.value) (λ b. (goal.Server-dyn g (b.vtable, b.value)).pending b.value) n ps ss os c.requires.lie) in
    let ran = rw c.plan_of.ensures.plan at c.shift-counts.ensures.desks in
    let worked : AllLie (λ b. (goal.Server-dyn g (b.vtable, b.value)).behaviour b.value) (λ b. (goal.Server-dyn g (b.vtable, b.value)).registers b.value) (λ b. (goal.Server-dyn g (b.vtable, b.value)).pending b.value) c.shift-counts.new.desks.0 c.shift-counts.new.desks.1.0 (take n os) =
    lie_worked (λ b. (goal.Server-dyn g (b.vtable, b.value)).behaviour b.value) (λ b. (goal.Server-dyn g (b.vtable, b.value)).registers b.value) (λ b. (goal.Server-dyn g (b.vtable, b.value)).pending b.value) m (DeskRan (λ b. (goal.Server-dyn g (b.vtable, b.value)).behaviour b.value) (λ b. (goal.Server-dyn g (b.vtable, b.value)).registers b.value) (λ b. (goal.Server-dyn g (b.vtable, b.value)).pending b.value) m (least_first c.args.racing.now.plan.turns)) (λ x s y r. record { leaves = r.leaves; behaviour_is = r.behaviour_is; ready = r.ready }) c.split_at_mut-desks.result.0.now c.split_at_mut-boxes.result.0.now (take n os) _ c.shift-counts.new.desks.0 c.shift-counts.new.desks.1.0
    before (all_free _ c.requires.free) ran.on_kept ran.by_kept ran.ran in
    subst (AllLie (λ b. (goal.Server-dyn g (b.vtable, b.value)).behaviour b.value) (λ b. (goal.Server-dyn g (b.vtable, b.value)).registers b.value) (λ b. (goal.Server-dyn g (b.vtable, b.value)).pending b.value) (c.shift-counts.new.desks.0 ++ c.split_at_mut-desks.result.1.now) (c.shift-counts.new.desks.1.0 ++ c.split_at_mut-boxes.result.1.now)) (take-append-drop n os)
    (lie_append (λ b. (goal.Server-dyn g (b.vtable, b.value)).behaviour b.value) (λ b. (goal.Server-dyn g (b.vtable, b.value)).registers b.value) (λ b. (goal.Server-dyn g (b.vtable, b.value)).pending b.value) c.shift-counts.new.desks.0 c.shift-counts.new.desks.1.0 (take n os) c.split_at_mut-desks.result.1.now c.split_at_mut-boxes.result.1.now (drop n os) worked after)

pub returns-clause-raced : goal.returns-clause-raced
returns-clause-raced g c =
    let n = c.args.front in
    let ps = c.args.passes.now in
    let ss = c.args.servers.now in
    let os = c.args.places.now in
    let m = c.args.racing.now.manager.now in
    let before : AllLie (λ b. (goal.Server-dyn g (b.vtable, b.value)).behaviour b.value) (λ b. (goal.Server-dyn g (b.vtable, b.value)).registers b.value) (λ b. (goal.Server-dyn g (b.vtable, b.value)).pending b.value) c.split_at_mut-desks.result.0.now c.split_at_mut-boxes.result.0.now (take n os) = rw (c.split_at_mut-desks.ensures.front, c.split_at_mut-boxes.ensures.front) (lie_front (λ b. (goal.Server-dyn g (b.vtable, b.value)).behaviour b.value) (λ b. (goal.Server-dyn g (b.vtable, b.value)).registers b.value) (λ b. (goal.Server-dyn g (b.vtable, b.value)).pending b.value) n ps ss os c.requires.lie) in
    let after : AllLie (λ b. (goal.Server-dyn g (b.vtable, b.value)).behaviour b.value) (λ b. (goal.Server-dyn g (b.vtable, b.value)).registers b.value) (λ b. (goal.Server-dyn g (b.vtable, b.value)).pending b.value) c.split_at_mut-desks.result.1.now c.split_at_mut-boxes.result.1.now (drop n os) = rw (c.split_at_mut-desks.ensures.back, c.split_at_mut-boxes.ensures.back) (lie_back (λ b. (goal.Server-dyn g (b.vtable, b.value)).behaviour b.value) (λ b. (goal.Server-dyn g (b.vtable, b.value)).registers b.value) (λ b. (goal.Server-dyn g (b.vtable, b.value)).pending b.value) n ps ss os c.requires.lie) in
    let ran = rw c.plan_of.ensures.plan at c.shift-counts.ensures.desks in
    let worked : AllLie (λ b. (goal.Server-dyn g (b.vtable, b.value)).behaviour b.value) (λ b. (goal.Server-dyn g (b.vtable, b.value)).registers b.value) (λ b. (goal.Server-dyn g (b.vtable, b.value)).pending b.value) c.shift-counts.new.desks.0 c.shift-counts.new.desks.1.0 (take n os) =
    lie_worked (λ b. (goal.Server-dyn g (b.vtable, b.value)).behaviour b.value) (λ b. (goal.Server-dyn g (b.vtable, b.value)).registers b.value) (λ b. (goal.Server-dyn g (b.vtable, b.value)).pending b.value) m (DeskRan (λ b. (goal.Server-dyn g (b.vtable, b.value)).behaviour b.value) (λ b. (goal.Server-dyn g (b.vtable, b.value)).registers b.value) (λ b. (goal.Server-dyn g (b.vtable, b.value)).pending b.value) m (least_first c.args.racing.now.plan.turns)) (λ x s y r. record { leaves = r.leaves; behaviour_is = r.behaviour_is; ready = r.ready }) c.split_at_mut-desks.result.0.now c.split_at_mut-boxes.result.0.now (take n os) _ c.shift-counts.new.desks.0 c.shift-counts.new.desks.1.0
    before (all_free _ c.requires.free) ran.on_kept ran.by_kept ran.ran in
    let took : AllTakePart (TookTurns m.limits c.args.racing.now.plan.turns) _ _ =
    parts_front (λ b. (goal.Server-dyn g (b.vtable, b.value)).behaviour b.value) (λ b. (goal.Server-dyn g (b.vtable, b.value)).registers b.value) (λ b. (goal.Server-dyn g (b.vtable, b.value)).pending b.value) (DeskRan (λ b. (goal.Server-dyn g (b.vtable, b.value)).behaviour b.value) (λ b. (goal.Server-dyn g (b.vtable, b.value)).registers b.value) (λ b. (goal.Server-dyn g (b.vtable, b.value)).pending b.value) c.args.racing.now.manager.now (least_first c.args.racing.now.plan.turns)) (TookTurns c.args.racing.now.manager.now.limits c.args.racing.now.plan.turns) (λ x s y r. (s, r.turns_taken)) n ps ss os c.split_at_mut-desks.result.0.now c.split_at_mut-desks.result.1.now c.split_at_mut-boxes.result.0.now c.split_at_mut-boxes.result.1.now _ c.shift-counts.new.desks.0 c.shift-counts.new.desks.1.0
    c.split_at_mut-desks.ensures.value c.split_at_mut-boxes.ensures.value before after worked c.requires.free (passed_behind os n (length os) (omega arith) c.requires.passed) ran.on_kept ran.by_kept ran.ran in
    let clients = c.split_at_mut-clients.ensures in
    record {
      desks = took;
      ran = races_ran m c.args.racing.now.head.now.settings.rows c.shift-counts.result.submitted c.args.racing.now.plan c.args.racers.now c.split_at_mut-clients.result.0.now c.split_at_mut-clients.result.1.now c.shift-counts.new.clients.0 c.shift-counts.new.killers.0
          _ _ _
          (clients.front ∙ ap (λ n. take n c.args.racers.now) c.from.ensures) (clients.back ∙ ap (λ n. drop n c.args.racers.now) c.from.ensures) (c.shift-counts.ensures.clients_kept ∙ (clients.front_len ∙ c.from.ensures))
          (c.as_mut_slice.ensures.value ∙ c.in_ok-jobs.ensures.all)
          (c.as_mut_slice-2.ensures.value ∙ c.in_ok-kills.ensures.all) c.kill_job-kill.ensures.job
          (record {
            client_counts = _;
            killer_counts = _;
            clients_ran = subst (λ js. RanEach (ClientRan m) c.split_at_mut-clients.result.0.now c.as_mut_slice.result.now (client_part c.shift-counts.result) c.shift-counts.new.clients.0 js) c.shift-counts.ensures.clients_same c.shift-counts.ensures.clients;
            killers_ran = subst (λ js. RanEach (KillerRan m) c.split_at_mut-clients.result.1.now c.as_mut_slice-2.result.now (killer_part c.shift-counts.result) c.shift-counts.new.killers.0 js) c.shift-counts.ensures.killers_same c.shift-counts.ensures.killers;
            accepted = refl;
          });
    }

pub returns-clause-racers : goal.returns-clause-racers
returns-clause-racers g c = record {
  free = All-append (IsFreePass c.args.racing.now.manager.now) c.shift-counts.new.clients.0 c.shift-counts.new.killers.0 c.shift-counts.ensures.clients_free c.shift-counts.ensures.killers_free;
  numbered =
      map-append (λ (p : PassShown). p.number) c.shift-counts.new.clients.0 c.shift-counts.new.killers.0
      ∙ ((λ i. c.shift-counts.ensures.clients_numbered i ++ c.shift-counts.ensures.killers_numbered i)
      ∙ (sym (map-append (λ (p : PassShown). p.number) c.split_at_mut-clients.result.0.now c.split_at_mut-clients.result.1.now) ∙ ap numbers (sym c.split_at_mut-clients.ensures.value)));
}
