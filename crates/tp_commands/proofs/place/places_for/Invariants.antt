use Rattle.std.proofs.Common.{◌≡◌, take}
use Rattle.tp_commands.specs.Acting.{new_places, places_shown}
use Rattle.tp_commands.specs.Places.{AllLie, all_firsts, firsts}
use Rattle.tp_commands.proofs.place.places_for.Given as goal

abbrev pub invariant-loop-i : goal.invariant-loop-i
invariant-loop-i g l = record {
  lie : AllLie (λ b. (goal.Server-dyn g (b.vtable, b.value)).behaviour b.value) (λ b. (goal.Server-dyn g (b.vtable, b.value)).registers b.value) (λ b. (goal.Server-dyn g (b.vtable, b.value)).pending b.value)
      (take l.i l.passes) (take l.i l.servers) l.places.items;
  shown : places_shown (λ b. (goal.Server-dyn g (b.vtable, b.value)).behaviour b.value) (λ b. (goal.Server-dyn g (b.vtable, b.value)).registers b.value) (λ b. (goal.Server-dyn g (b.vtable, b.value)).pending b.value) (take l.i l.passes) (take l.i l.servers) l.places.items
      ≡ new_places (λ b. (goal.Server-dyn g (b.vtable, b.value)).behaviour b.value) (λ b. (goal.Server-dyn g (b.vtable, b.value)).registers b.value) (λ b. (goal.Server-dyn g (b.vtable, b.value)).pending b.value) (take l.i l.passes) (take l.i l.servers);
  began : firsts l.places.items ≡ all_firsts (take l.i l.passes) (take l.i l.servers);
}
