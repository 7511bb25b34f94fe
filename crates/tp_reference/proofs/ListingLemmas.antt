-- Listings, one id after the other.
use Rattle.std.proofs.Common.{◌≡◌, ℕ, ◌+◌, [], Option, refl, add-one, arith}
use Rattle.tp_model.specs.declared.types.Counts.{Counts}
use Rattle.tp_model.specs.declared.types.Look.{Look}
use Rattle.tp_model.specs.declared.types.Status.{Status}
use Rattle.tp_model.specs.declared.types.Status.TheVariants.{Waiting, Held, Consumed, Parked, Killed}
use Rattle.tp_model.specs.Accounts.{all_in, one_more}
use Rattle.tp_plain.specs.Computed.{read_of}
use Rattle.tp_plain.specs.OneThread as thread
use Rattle.tp_reference.specs.PlainClient.{picked, picked_below, with_last, count_read, counts_below}

-- nothing is picked below the first id
pub picked_none : {A : Type 0} (pick : Look → Option A) (m : thread.State) → picked_below pick m 0 ≡ []
unfolding picked_below
picked_none pick m = refl

-- and each id adds what its read gave
pub picked_more : {A : Type 0} (pick : Look → Option A) (m : thread.State) (id : ℕ)
    → picked_below pick m (id + 1) ≡ with_last (picked_below pick m id) (picked pick (read_of m id))
unfolding picked_below
picked_more pick m id = rw (add-one id) refl

-- nothing is counted below the first id
pub counts_none : (m : thread.State) → counts_below m 0 ≡ record { waiting = 0; held = 0; consumed = 0; parked = 0; killed = 0 }
unfolding counts_below
counts_none m = refl

pub counts_more : (m : thread.State) (id : ℕ) → counts_below m (id + 1) ≡ count_read (read_of m id) (counts_below m id)
unfolding counts_below
counts_more m id = rw (add-one id) refl

-- one element more is one more in all
pub one_counted : (st : Status) (c : Counts) → all_in (one_more st c) ≡ all_in c + 1
one_counted (Waiting n) c = omega arith
one_counted (Held u n) c = omega arith
one_counted (Consumed u) c = omega arith
one_counted (Parked n) c = omega arith
one_counted Killed c = omega arith
