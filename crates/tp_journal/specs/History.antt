-- What the calls of a history, the last one first, have made of a file and of its spare file.
use Rattle.std.specs.Prelude.{◌≡◌, ◌⊎◌, ◌≤◌, ℕ, ◌+◌, ◌==◌, ◌&&◌, ◌||◌, if◌then◌else◌, Bool, true, false}
use Rattle.std.specs.Prelude.{List, [], ◌∷◌, ◌++◌, length, take, drop, replicate}
use Rattle.std.proofs.Common.{inl, inr}
use Rattle.std.proofs.Math.Nat.{not-suc-le_self}
use Rattle.tp_journal.specs.Device.{Grown, Mixed}
use Rattle.tp_journal.specs.Event.{FileCall}
use Rattle.tp_journal.specs.declared.record.TheConstants.{GROWN, OPENED, SPARE_SYNCED, SPARE_WRITTEN}
use Rattle.tp_journal.specs.declared.record.TheConstants.{SWAPPED, SYNCED, WRITTEN}

-- the bytes of the spare file
abbrev pub spare_after : List FileCall → List ℕ
spare_after [] = []
spare_after ((call, number, ok, bytes) ∷ past) = if call == SPARE_WRITTEN then bytes else spare_after past

-- the bytes of the file
abbrev pub seen_after : List FileCall → List ℕ
seen_after [] = []
seen_after ((call, number, ok, bytes) ∷ past) =
    if call == OPENED then bytes
    else if (call == WRITTEN) && ok then
    take number (seen_after past) ++ bytes ++ drop (number + length bytes) (seen_after past)
    else if (call == GROWN) && ok then seen_after past ++ replicate number 0
    else if (call == SWAPPED) && ok then spare_after past
    else seen_after past

-- how many calls have failed
abbrev pub faults_after : List FileCall → ℕ
faults_after [] = 0
faults_after ((call, number, ok, bytes) ∷ past) = if ok then faults_after past else faults_after past + 1

abbrev pub Either : Bool → Type 0 → Type 0 → Type 0
Either true A B = A
Either false A B = B

-- what a crash leaves of the spare file: once it is synced its bytes, and until then anything
abbrev pub spare_leaves_after : List FileCall → List ℕ → Type 0
spare_leaves_after [] c = Unit {0}
spare_leaves_after ((call, number, ok, bytes) ∷ past) c =
    Either ((call == SPARE_SYNCED) && ok) (c ≡ spare_after past)
    (Either ((call == SPARE_WRITTEN) || (call == SWAPPED)) (Unit {0}) (spare_leaves_after past c))

-- what a crash leaves of the file
abbrev pub leaves_after : List FileCall → List ℕ → Type 0
leaves_after [] c = ⊥
leaves_after ((call, number, ok, bytes) ∷ past) c =
    Either (call == OPENED) (c ≡ bytes)
    (Either (call == WRITTEN) ((d : List ℕ) × leaves_after past d × Mixed number bytes d c)
    (Either (call == GROWN) ((d : List ℕ) × leaves_after past d × Grown number d c)
    (Either (call == SYNCED) (leaves_after past c × Either ok (c ≡ seen_after past) (Unit {0}))
    (Either (call == SWAPPED)
    (Either ok (spare_leaves_after past c) (leaves_after past c ⊎ spare_leaves_after past c))
    (leaves_after past c)))))

-- what a crash at some moment from that one on might have left
abbrev pub left_after : List FileCall → ℕ → List ℕ → Type 0
left_after [] t c = leaves_after [] c
left_after (e ∷ past) t c = leaves_after (e ∷ past) c ⊎ ((t ≤ length past) × left_after past t c)

pub counts_after : (events : List FileCall) (t : ℕ) (c : List ℕ) → t ≤ length events → leaves_after events c
    → left_after events t c
counts_after [] t c le now = now
counts_after (e ∷ past) t c le now = inl now

pub only_after : (events : List FileCall) (c : List ℕ) → left_after events (length events) c
    → leaves_after events c
only_after [] c left = left
only_after (e ∷ past) c (inl now) = now
only_after (e ∷ past) c (inr was) = absurd (not-suc-le_self (length past) was.0)
