use Rattle.std.proofs.Common.{arith}
use Rattle.tp_commands.proofs.Lies.{lie_at, lie_passes, lie_servers, lie_set}
use Rattle.tp_commands.specs.Places.{first_of}
use Rattle.tp_commands.proofs.Lefts.{map_set_same}
use Rattle.tp_commands.proofs.Shows.{shown_at, shown_set}
use Rattle.tp_commands.proofs.giving_up.give_up_in.Goals as goal

pub bounds-passes-at : goal.bounds-passes-at
bounds-passes-at g c = let e = lie_passes (λ b. (goal.Server-dyn g (b.vtable, b.value)).behaviour b.value) (λ b. (goal.Server-dyn g (b.vtable, b.value)).registers b.value) (λ b. (goal.Server-dyn g (b.vtable, b.value)).pending b.value) c.args.passes.now c.args.servers.now c.args.places.now c.requires.lie in omega (arith, e, c.requires.within)

pub bounds-servers-at : goal.bounds-servers-at
bounds-servers-at g c = let e = lie_servers (λ b. (goal.Server-dyn g (b.vtable, b.value)).behaviour b.value) (λ b. (goal.Server-dyn g (b.vtable, b.value)).registers b.value) (λ b. (goal.Server-dyn g (b.vtable, b.value)).pending b.value) c.args.passes.now c.args.servers.now c.args.places.now c.requires.lie in omega (arith, e, c.requires.within)

pub give_up_at-requires-clause-lies : goal.give_up_at-requires-clause-lies
give_up_at-requires-clause-lies g c = lie_at (λ b. (goal.Server-dyn g (b.vtable, b.value)).behaviour b.value) (λ b. (goal.Server-dyn g (b.vtable, b.value)).registers b.value) (λ b. (goal.Server-dyn g (b.vtable, b.value)).pending b.value) c.args.passes.now c.args.servers.now c.args.places.now c.args.at _ _ _ c.requires.within c.requires.lie

pub returns-clause-lie : goal.returns-clause-lie
returns-clause-lie g c = lie_set (λ b. (goal.Server-dyn g (b.vtable, b.value)).behaviour b.value) (λ b. (goal.Server-dyn g (b.vtable, b.value)).registers b.value) (λ b. (goal.Server-dyn g (b.vtable, b.value)).pending b.value) c.args.passes.now c.args.servers.now c.args.places.now c.args.at _ _ _ c.give_up_at.ensures.lies c.requires.lie

pub give_up_at-requires-clause-own : goal.give_up_at-requires-clause-own
give_up_at-requires-clause-own g c = let e = lie_passes (λ b. (goal.Server-dyn g (b.vtable, b.value)).behaviour b.value) (λ b. (goal.Server-dyn g (b.vtable, b.value)).registers b.value) (λ b. (goal.Server-dyn g (b.vtable, b.value)).pending b.value) c.args.passes.now c.args.servers.now c.args.places.now c.requires.lie in c.requires.own c.args.at c.index-passes-at.result (omega (arith, e, c.requires.within))

pub returns-clause-began : goal.returns-clause-began
returns-clause-began g c = map_set_same first_of c.args.places.now c.args.at c.give_up_at.new.place c.index-places-at.result c.requires.within c.give_up_at.ensures.began

pub returns-clause-gives_up : goal.returns-clause-gives_up
returns-clause-gives_up g c = record {
  old = _;
  there = shown_at (λ b. (goal.Server-dyn g (b.vtable, b.value)).behaviour b.value) (λ b. (goal.Server-dyn g (b.vtable, b.value)).registers b.value) (λ b. (goal.Server-dyn g (b.vtable, b.value)).pending b.value) c.args.passes.now c.args.servers.now c.args.places.now c.args.at _ _ _ c.requires.within c.requires.lie;
  new = _;
  gives_up = c.give_up_at.ensures.gives_up;
  others = shown_set (λ b. (goal.Server-dyn g (b.vtable, b.value)).behaviour b.value) (λ b. (goal.Server-dyn g (b.vtable, b.value)).registers b.value) (λ b. (goal.Server-dyn g (b.vtable, b.value)).pending b.value) c.args.passes.now c.args.servers.now c.args.places.now c.args.at _ _ _ c.requires.lie;
}

pub offset_bounds-passes-at : goal.offset_bounds-passes-at
offset_bounds-passes-at g c = let e = lie_passes (λ b. (goal.Server-dyn g (b.vtable, b.value)).behaviour b.value) (λ b. (goal.Server-dyn g (b.vtable, b.value)).registers b.value) (λ b. (goal.Server-dyn g (b.vtable, b.value)).pending b.value) c.args.passes.now c.args.servers.now c.args.places.now c.requires.lie in omega (arith, e, c.requires.within, c.well_formed)
