use Rattle.std.proofs.Common.{ℕ, ◌<◌, ◌≤◌, All, take}
use Rattle.tp_rollover.specs.Space.{AreWithin}
use Rattle.tp_rollover.specs.declared.moved.Moved.{Moved}
use Rattle.tp_rollover.proofs.families.highest_roots.Given as goal

abbrev pub invariant-loop-place : goal.invariant-loop-place
invariant-loop-place l = record {
  highest : All (λ (m : Moved). (m.old_root ≤ l.old_root) × (m.new_root ≤ l.new_root)) (take l.place l.moved);
  least : (n n' : ℕ) → 1 ≤ n → 1 ≤ n' → AreWithin n n' l.moved → (l.old_root < n) × (l.new_root < n');
}
