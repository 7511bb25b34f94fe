use Rattle.std.proofs.Common.{◌≡◌, ◌≤◌}
use Rattle.tp_model.specs.Accounts.{all_in}
use Rattle.tp_workers.specs.Free.{IsFreePass}
use Rattle.tp_commands.specs.Asked.{TellsCount}
use Rattle.tp_commands.proofs.client.count.Given as goal

abbrev pub invariant-loop-id : goal.invariant-loop-id
invariant-loop-id l = record {
  free : IsFreePass l.manager l.client;
  number : l.client.number ≡ l.initial.client.number;
  few : all_in l.counts ≤ l.id;
  counted : TellsCount l.manager.limits l.id l.initial.client l.counts l.client;
}
