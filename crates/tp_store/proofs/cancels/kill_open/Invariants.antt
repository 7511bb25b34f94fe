use Rattle.std.proofs.Common.{◌≡◌, ◌≤◌, ℕ, None, filter, length, ◌+◌, ◌-◌}
use Rattle.tp_store.specs.Cancels.{is_open_from, strike_all}
use Rattle.tp_store.specs.Elements.{element_at}
use Rattle.tp_store.proofs.cancels.kill_open.Given as goal

abbrev pub invariant-loop-id : goal.invariant-loop-id
invariant-loop-id l = record {
  kills : strike_all (filter (is_open_from l.root l.from) l.shelf) (record { elements = l.shelf; tally = l.tally })
      ≡ strike_all (filter (is_open_from l.root 0) l.fn.shelf) (record { elements = l.fn.shelf; tally = l.fn.tally });
  count : l.killed + length (filter (is_open_from l.root l.from) l.shelf) ≡ length (filter (is_open_from l.root 0) l.fn.shelf);
  below : (i : ℕ) → l.end ≤ i → element_at i l.shelf ≡ None;
  few : l.killed ≤ l.from;
  within : l.from ≤ l.end;
}

abbrev pub decreases-loop-id : goal.decreases-loop-id
decreases-loop-id l = l.end - l.from
