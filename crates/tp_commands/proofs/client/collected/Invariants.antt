use Rattle.std.proofs.Common.{◌≡◌, ◌++◌, List}
use Rattle.tp_model.specs.declared.types.Element.{Element}
use Rattle.tp_manager.specs.Shown.{PassShown}
use Rattle.tp_workers.specs.Free.{IsFreePass}
use Rattle.tp_commands.specs.Asked.{TellsCollected}
use Rattle.tp_commands.proofs.Collections.{all_alive}
use Rattle.tp_commands.proofs.client.collected.Given as goal

abbrev pub invariant-loop-reply : goal.invariant-loop-reply
invariant-loop-reply l = record {
  free : IsFreePass l.manager l.client;
  number : l.client.number ≡ l.initial.client.number;
  -- what is taken from here on comes after what was taken
  found : (more : List Element) (last : PassShown) → TellsCollected l.manager.limits l.root l.client more last
      → TellsCollected l.manager.limits l.root l.fn.client (l.found.items ++ more) last;
}

-- each time one more is killed
abbrev pub decreases-loop-reply : goal.decreases-loop-reply
decreases-loop-reply l = all_alive l.manager.limits l.client.seen
