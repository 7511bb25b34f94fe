use Rattle.std.proofs.Common.{◌≤◌, ◌-◌, length, take}
use Rattle.sha2.specs.Hashers.{Holds256}
use Rattle.tp_journal.specs.Text.{IsSealed, first_line}
use Rattle.tp_journal.proofs.Seals.{Longest}
use Rattle.tp_journal.proofs.sealing.sealed_len.Given as goal

abbrev pub invariant-loop-at : goal.invariant-loop-at
invariant-loop-at l = record {
  begun : length first_line ≤ l.at;
  inside : l.at ≤ length l.text;
  hashed : Holds256 l.hasher (take l.at l.text);
  count_inside : l.count ≤ length l.text;
  count_least : length first_line ≤ l.count;
  is_sealed : IsSealed (take l.count l.text);
  longest : Longest l.text l.at l.count;
}

abbrev pub decreases-loop-at : goal.decreases-loop-at
decreases-loop-at l = length l.text - l.at
