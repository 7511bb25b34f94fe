use Rattle.std.proofs.Common.{◌≡◌, ◌≤◌}
use Rattle.tp_model.specs.Accounts.{all_in}
use Rattle.tp_reference.specs.PlainClient.{counts_below}
use Rattle.tp_reference.proofs.client_acts.counts.Given as goal

-- the elements with ids below the counter are counted
abbrev pub invariant-loop-id : goal.invariant-loop-id
invariant-loop-id l = record {
  few : all_in l.counts ≤ l.id;
  counted : l.counts ≡ counts_below l.plain l.id;
}
