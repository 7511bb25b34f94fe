-- Counts of workers, added up.
use Rattle.std.proofs.Common.{◌≡◌, ◌+◌, zero-add, add-zero, add_assoc, arith}
use Rattle.tp_workers.specs.declared.tally.Shift.{Shift}
use Rattle.tp_workers.specs.Tally.{empty_shift, plus, total}

pub none_plus : (s : Shift) → plus empty_shift s ≡ s
none_plus s = simp zero-add

pub plus_none : (s : Shift) → plus s empty_shift ≡ s
plus_none s = simp add-zero

pub plus_assoc : (a b c : Shift) → plus (plus a b) c ≡ plus a (plus b c)
plus_assoc a b c = simp add_assoc

pub total_plus : (a b : Shift) → total (plus a b) ≡ total a + total b
total_plus a b = omega arith
