use Rattle.std.proofs.Common.{◌≡◌, ◌-◌, ◌++◌, List}
use Rattle.tp_model.specs.declared.types.Look.{Look}
use Rattle.tp_model.specs.Steps.{rows_of}
use Rattle.tp_manager.specs.Shown.{PassShown}
use Rattle.tp_workers.specs.Free.{IsFreePass}
use Rattle.tp_commands.specs.Asked.{TellsFamily}
use Rattle.tp_commands.proofs.client.family.Given as goal

abbrev pub invariant-loop-from : goal.invariant-loop-from
invariant-loop-from l = record {
  free : IsFreePass l.manager l.client;
  number : l.client.number ≡ l.initial.client.number;
  capacity : l.capacity ≡ rows_of l.manager.limits;
  -- what is found from here on comes after what was found
  found : (more : List Look) (last : PassShown) → TellsFamily l.manager.limits l.root l.from l.client more last
      → TellsFamily l.manager.limits l.root 0 l.fn.client (l.found.items ++ more) last;
}

abbrev pub decreases-loop-from : goal.decreases-loop-from
decreases-loop-from l = l.capacity - l.from
