-- What an error says.
use Rattle.std.proofs.Common.{◌≡◌, ℕ, ap}
use Rattle.std.specs.Prelude.{Result, Ok, Err, IsErrOf}
use Rattle.tp_journal.specs.declared.recovery.OpenError.{OpenError}
use Rattle.tp_journal.specs.declared.recovery.OpenError.TheVariants.{Memory, Failed, Foreign, Version, Damaged}

count_in : OpenError → ℕ
count_in Memory = 0
count_in Failed = 0
count_in Foreign = 0
count_in Version = 0
count_in (Damaged count) = count

count_of : Result ℕ OpenError → ℕ
count_of (Ok count) = 0
count_of (Err error) = count_in error

pub damaged-count : (a b : ℕ) → IsErrOf {T = ℕ} (Err (Damaged a)) (Damaged b) → a ≡ b
unfolding count_of count_in
damaged-count a b is = ap count_of is
