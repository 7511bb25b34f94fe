use Rattle.std.proofs.Common.{◌≡◌, ◌≤◌, ◌<◌, ◌-◌, ℕ, get_or, length}
use Rattle.tp_journal.proofs.sealing.next_mark.Given as goal

abbrev pub invariant-loop-at : goal.invariant-loop-at
invariant-loop-at l = record {
  from : l.from ≤ l.at;
  inside : l.at ≤ length l.text;
  none : (k : ℕ) → l.from ≤ k → k < l.at → get_or l.text k 0 ≡ 35 → ⊥;
}

abbrev pub decreases-loop-at : goal.decreases-loop-at
decreases-loop-at l = length l.text - l.at
