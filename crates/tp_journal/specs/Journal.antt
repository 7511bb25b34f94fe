-- A journal and its device.
use Rattle.std.specs.Prelude.{◌≡◌, ◌⊎◌, ℕ, List, length, false}
use Rattle.tp_journal.specs.Device.{Only}
use Rattle.tp_journal.specs.Text.{IsAtRest, IsRecovered, IsSealed, text_of}
use Rattle.tp_journal.specs.declared.journal.Journal.{Journal}
use Rattle.sha2.specs.Hashers.{Holds256}

-- a device's file has this sealed text, and bytes 0 behind it, all of it on the disk
pub record Stands {D : Type 0} (seen : D → List ℕ) (may_leave : D → List ℕ → Type 0) (text : List ℕ)
    (len : ℕ) (device : D) : Type 0 where
  pub at_rest : IsAtRest text (seen device)
  pub is_sealed : IsSealed text
  pub len_is : len ≡ length (seen device)
  pub durable : Only (seen device) (may_leave device)

-- a journal has this text
pub record JournalHasText {D : Type 0} (seen : D → List ℕ) (may_leave : D → List ℕ → Type 0) (text : List ℕ)
    (journal : Journal D) : Type 0 where
  pub stands : Stands seen may_leave text journal.len journal.device
  pub end : journal.end ≡ length text
  pub hashed : Holds256 journal.hasher text

-- a journal has the text that its file has
abbrev pub IsJournalSettled : {D : Type 0} → (D → List ℕ) → (D → List ℕ → Type 0) → Journal D → Type 0
IsJournalSettled seen may_leave journal =
    JournalHasText seen may_leave (text_of (seen journal.device)) journal

-- the same, unless it is poisoned
abbrev pub IsJournalOpen : {D : Type 0} → (D → List ℕ) → (D → List ℕ → Type 0) → Journal D → Type 0
IsJournalOpen seen may_leave journal = journal.poisoned ≡ false → IsJournalSettled seen may_leave journal

-- a crash leaves a file as it was, or one of what is recovered of it
abbrev pub LeavesRecovered : List ℕ → (List ℕ → Type 0) → List ℕ → Type 0
LeavesRecovered old may_leave file =
    may_leave file ⊎ ((text : List ℕ) × IsRecovered old text × IsAtRest text file)
