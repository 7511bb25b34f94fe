use Rattle.std.proofs.Common.{◌≡◌, ◌∙◌, ap, length, refl}
use Rattle.std.specs.List.{refill}
use Rattle.std.proofs.lemmas.Result.{IfErr-weaker, IfOk-weaker}
use Rattle.tp_report.specs.Answer.{line}
use Rattle.tp_commands.specs.Rollover.{IsUnrolled, RollRefused, RolledOver, roll_refused_text}
use Rattle.tp_perform.proofs.ActLemmas.{at_of, refilled}
use Rattle.tp_perform.proofs.RollLemmas.{held_anew, none_after, stands_lead}
use Rattle.tp_perform.proofs.rolling.roll_over_held.Goals as goal

pub returns-clause-held : goal.returns-clause-held
returns-clause-held g c =
    let e = c.roll_over.ensures in
    let os = c.roll_over.auto.places ∙ ap length c.as_mut_slice.ensures.value in
    let places = refilled _ _ _ refl os in
    held_anew (λ b. (goal.Server-dyn g (b.vtable, b.value)).behaviour b.value) (λ b. (goal.Server-dyn g (b.vtable, b.value)).registers b.value) (λ b. (goal.Server-dyn g (b.vtable, b.value)).pending b.value) c.args.head.now c.args.held.now (record { managed = c.roll_over.new.managed; servers = c.args.held.now.servers; places = record { items = refill (length c.args.held.now.places.items) c.args.held.now.places.items c.roll_over.new.places } }) c.roll_over.new.places c.requires.held e.managed e.limits refl places (rw c.as_slice.ensures.value at e.ready)
    (none_after (λ b. (goal.Server-dyn g (b.vtable, b.value)).behaviour b.value) (λ b. (goal.Server-dyn g (b.vtable, b.value)).registers b.value) (λ b. (goal.Server-dyn g (b.vtable, b.value)).pending b.value) c.roll_over.result c.args.held.now.managed c.roll_over.new.managed c.args.held.now.servers.items c.args.held.now.places.items c.roll_over.new.places c.requires.held.managed e.managed c.requires.held.ready e.moved (rw (c.as_slice.ensures.value, c.as_mut_slice.ensures.value) at e.rolled) (rw c.as_slice.ensures.value at e.held) c.requires.held.racers)

pub returns-clause-rolled : goal.returns-clause-rolled
returns-clause-rolled g c =
    let os = c.roll_over.auto.places ∙ ap length c.as_mut_slice.ensures.value in
    let places = refilled _ _ _ refl os in
    IfOk-weaker c.roll_over.result _ _ (λ out t. stands_lead (λ b. (goal.Server-dyn g (b.vtable, b.value)).behaviour b.value) (λ b. (goal.Server-dyn g (b.vtable, b.value)).registers b.value) (λ b. (goal.Server-dyn g (b.vtable, b.value)).pending b.value) (λ x y. RolledOver x out.items y) c.args.held.now (record { managed = c.roll_over.new.managed; servers = c.args.held.now.servers; places = record { items = refill (length c.args.held.now.places.items) c.args.held.now.places.items c.roll_over.new.places } }) (
      t.0,
      t.1,
      (rw (c.as_slice.ensures.value, c.as_mut_slice.ensures.value) at t.2),
      t.3,
      at_of (λ b. (goal.Server-dyn g (b.vtable, b.value)).behaviour b.value) (λ b. (goal.Server-dyn g (b.vtable, b.value)).registers b.value) (λ b. (goal.Server-dyn g (b.vtable, b.value)).pending b.value) (record { managed = c.roll_over.new.managed; servers = c.args.held.now.servers; places = record { items = refill (length c.args.held.now.places.items) c.args.held.now.places.items c.roll_over.new.places } }) c.roll_over.new.managed.passes.items c.args.held.now.servers.items c.roll_over.new.places t.1 refl refl places (rw c.as_slice.ensures.value at t.4),
    )) c.roll_over.ensures.rolled

pub returns-clause-refused : goal.returns-clause-refused
returns-clause-refused g c =
    let os = c.roll_over.auto.places ∙ ap length c.as_mut_slice.ensures.value in
    let places = refilled _ _ _ refl os in
    IfErr-weaker c.roll_over.result _ _ (λ out t. stands_lead (λ b. (goal.Server-dyn g (b.vtable, b.value)).behaviour b.value) (λ b. (goal.Server-dyn g (b.vtable, b.value)).registers b.value) (λ b. (goal.Server-dyn g (b.vtable, b.value)).pending b.value) (λ x y. RollRefused (IsUnrolled x.manager.limits) x (line (roll_refused_text out)) y) c.args.held.now (record { managed = c.roll_over.new.managed; servers = c.args.held.now.servers; places = record { items = refill (length c.args.held.now.places.items) c.args.held.now.places.items c.roll_over.new.places } }) (
      t.0,
      t.1,
      (rw (c.as_slice.ensures.value, c.as_mut_slice.ensures.value) at t.2),
      t.3,
      at_of (λ b. (goal.Server-dyn g (b.vtable, b.value)).behaviour b.value) (λ b. (goal.Server-dyn g (b.vtable, b.value)).registers b.value) (λ b. (goal.Server-dyn g (b.vtable, b.value)).pending b.value) (record { managed = c.roll_over.new.managed; servers = c.args.held.now.servers; places = record { items = refill (length c.args.held.now.places.items) c.args.held.now.places.items c.roll_over.new.places } }) c.roll_over.new.managed.passes.items c.args.held.now.servers.items c.roll_over.new.places t.1 refl refl places (rw c.as_slice.ensures.value at t.4),
    )) c.roll_over.ensures.refused
