use Rattle.std.proofs.Common.{◌∙◌, arith, refl, sym}
use Rattle.tp_commands.proofs.Lies.{lie_at, lie_passes, lie_servers, lie_set}
use Rattle.tp_commands.specs.Places.{first_of}
use Rattle.tp_commands.proofs.Lefts.{map_set_same}
use Rattle.tp_commands.proofs.Shows.{free_shown, shown_at, shown_free_at, shown_set}
use Rattle.tp_commands.proofs.desks.turn_in.Goals as goal

pub returns-then-not-is_free-clause-turns : goal.returns-then-not-is_free-clause-turns
returns-then-not-is_free-clause-turns g c =
    let t = free_shown (λ b. (goal.Server-dyn g (b.vtable, b.value)).behaviour b.value) (λ b. (goal.Server-dyn g (b.vtable, b.value)).registers b.value) (λ b. (goal.Server-dyn g (b.vtable, b.value)).pending b.value) c.args.passes.now c.args.servers.now c.args.places.now c.args.at c.index-places-at.result c.requires.within c.requires.lie in
    record { old = t.0; there = t.1; busy = t.2 ∙ sym c.if-not-is_free.ensures; same = refl }

pub bounds-passes-at : goal.bounds-passes-at
bounds-passes-at g c = let e = lie_passes (λ b. (goal.Server-dyn g (b.vtable, b.value)).behaviour b.value) (λ b. (goal.Server-dyn g (b.vtable, b.value)).registers b.value) (λ b. (goal.Server-dyn g (b.vtable, b.value)).pending b.value) c.args.passes.now c.args.servers.now c.args.places.now c.requires.lie in omega (arith, e, c.requires.within)

pub bounds-servers-at : goal.bounds-servers-at
bounds-servers-at g c = let e = lie_servers (λ b. (goal.Server-dyn g (b.vtable, b.value)).behaviour b.value) (λ b. (goal.Server-dyn g (b.vtable, b.value)).registers b.value) (λ b. (goal.Server-dyn g (b.vtable, b.value)).pending b.value) c.args.passes.now c.args.servers.now c.args.places.now c.requires.lie in omega (arith, e, c.requires.within)

pub offset_bounds-passes-at : goal.offset_bounds-passes-at
offset_bounds-passes-at g c = let e = lie_passes (λ b. (goal.Server-dyn g (b.vtable, b.value)).behaviour b.value) (λ b. (goal.Server-dyn g (b.vtable, b.value)).registers b.value) (λ b. (goal.Server-dyn g (b.vtable, b.value)).pending b.value) c.args.passes.now c.args.servers.now c.args.places.now c.requires.lie in omega (arith, e, c.requires.within, c.well_formed)

pub turn_at-turned-requires-clause-own : goal.turn_at-turned-requires-clause-own
turn_at-turned-requires-clause-own g c = let e = lie_passes (λ b. (goal.Server-dyn g (b.vtable, b.value)).behaviour b.value) (λ b. (goal.Server-dyn g (b.vtable, b.value)).registers b.value) (λ b. (goal.Server-dyn g (b.vtable, b.value)).pending b.value) c.args.passes.now c.args.servers.now c.args.places.now c.requires.lie in c.requires.own c.args.at c.index-passes-at.result (omega (arith, e, c.requires.within))

pub turn_at-turned-requires-clause-lies : goal.turn_at-turned-requires-clause-lies
turn_at-turned-requires-clause-lies g c = lie_at (λ b. (goal.Server-dyn g (b.vtable, b.value)).behaviour b.value) (λ b. (goal.Server-dyn g (b.vtable, b.value)).registers b.value) (λ b. (goal.Server-dyn g (b.vtable, b.value)).pending b.value) c.args.passes.now c.args.servers.now c.args.places.now c.args.at _ _ _ c.requires.within c.requires.lie

pub returns-clause-lie : goal.returns-clause-lie
returns-clause-lie g c = lie_set (λ b. (goal.Server-dyn g (b.vtable, b.value)).behaviour b.value) (λ b. (goal.Server-dyn g (b.vtable, b.value)).registers b.value) (λ b. (goal.Server-dyn g (b.vtable, b.value)).pending b.value) c.args.passes.now c.args.servers.now c.args.places.now c.args.at _ _ _ c.turn_at-turned.ensures.lies c.requires.lie

pub returns-clause-began : goal.returns-clause-began
returns-clause-began g c = map_set_same first_of c.args.places.now c.args.at c.turn_at-turned.new.place c.index-places-at-2.result c.requires.within c.turn_at-turned.ensures.began

pub returns-clause-turns : goal.returns-clause-turns
returns-clause-turns g c = record {
  old = _;
  there = shown_at (λ b. (goal.Server-dyn g (b.vtable, b.value)).behaviour b.value) (λ b. (goal.Server-dyn g (b.vtable, b.value)).registers b.value) (λ b. (goal.Server-dyn g (b.vtable, b.value)).pending b.value) c.args.passes.now c.args.servers.now c.args.places.now c.args.at _ _ _ c.requires.within c.requires.lie;
  free = shown_free_at (λ b. (goal.Server-dyn g (b.vtable, b.value)).behaviour b.value) (λ b. (goal.Server-dyn g (b.vtable, b.value)).registers b.value) (λ b. (goal.Server-dyn g (b.vtable, b.value)).pending b.value) c.args.passes.now c.args.servers.now c.args.places.now c.args.at c.index-passes-at.result c.index-servers-at.result c.index-places-at-2.result c.index-places-at.result c.requires.within c.requires.lie ∙ sym c.if-not-is_free.ensures;
  new = _;
  turns = c.turn_at-turned.ensures.turns;
  others = shown_set (λ b. (goal.Server-dyn g (b.vtable, b.value)).behaviour b.value) (λ b. (goal.Server-dyn g (b.vtable, b.value)).registers b.value) (λ b. (goal.Server-dyn g (b.vtable, b.value)).pending b.value) c.args.passes.now c.args.servers.now c.args.places.now c.args.at _ _ _ c.requires.lie;
}
