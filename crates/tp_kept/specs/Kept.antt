-- How a kept session stands to its journal.
use Rattle.std.specs.Prelude.{◌≡◌, ◌==◌, ℕ, ◌+◌, nat_lt, All, Bool, List, [], ◌++◌, Option, None, codes, decimal, drop, false, length}
use Rattle.std.specs.Prelude.{if◌then◌else◌}
use Rattle.std.specs.List.{list_all}
use Rattle.std.specs.Option.{option_map}
use Rattle.tp_journal.specs.Journal.{IsJournalSettled}
use Rattle.tp_journal.specs.Text.{IsRecovered, first_line, text_of}
use Rattle.tp_journal.specs.declared.journal.Journal.{Journal}
use Rattle.tp_journal.specs.declared.device.Device as devices
use Rattle.tp_script.specs.Fault.{◌<>◌}
use Rattle.tp_session.specs.Asking.{only_asks}
use Rattle.tp_session.specs.Conversed.{step_of}
use Rattle.tp_wire.specs.Heard.{heard}
use Rattle.tp_kept.specs.Lines.{IsTheirs, IsWhole, downs, given_in}
use Rattle.tp_kept.specs.Lives.{Life, StandsFor, answers_of, goes_on}
use Rattle.tp_kept.specs.declared.kept.Kept.{Kept}
use Rattle.tp_kept.specs.declared.taking.TheConstants.{MOST_ASKED}

-- the lines of a journal's text
abbrev pub lines_in : List ℕ → List ℕ
lines_in text = given_in (drop (length first_line) text)

-- Whatever a crash leaves of a file, what is recovered of it stands for this life, or for one that some more
-- lines have led to, which were put down and not answered.
abbrev pub KeepsLife : (List ℕ → Type 0) → Life → Type 0
KeepsLife may_leave l = (file recovered : List ℕ) → may_leave file → IsRecovered file recovered
    → (more : List ℕ) × IsWhole more × StandsFor (lines_in recovered) (goes_on more l)

-- the journal stands for this life, and all of it is on the disk
pub record IsKept {D : Type 0} (seen : D → List ℕ) (may_leave : D → List ℕ → Type 0) (journal : Journal D)
    (l : Life) : Type 0 where
  pub settled : IsJournalSettled seen may_leave journal
  pub fine : journal.poisoned ≡ false
  pub stands : StandsFor (lines_in (text_of (seen journal.device))) l
  pub keeps : KeepsLife (may_leave journal.device) l

-- the life of a kept session, as its journal has it
abbrev pub life : {D : Type 0} {keeps : devices.Ghosts D} → Kept D keeps → Life
life k = record { lines = k.counted; session = k.session }

-- the same with the lines behind it, which only asked
abbrev pub talk : {D : Type 0} {keeps : devices.Ghosts D} → Kept D keeps → Life
talk k = record { lines = k.counted + k.asked; session = k.session }

-- whether lines need not be put down yet: each only asks, and not too many did; or there are none
abbrev pub can_wait : List ℕ → {D : Type 0} {keeps : devices.Ghosts D} → Kept D keeps → Bool
can_wait lines k =
    if nat_lt k.asked MOST_ASKED then list_all (λ l. only_asks l k.session) (heard lines) else length lines == 0

-- how many lines the journal stands for behind these
abbrev pub counted_behind : List ℕ → {D : Type 0} {keeps : devices.Ghosts D} → Kept D keeps → ℕ
counted_behind lines k = if can_wait lines k then k.counted else (k.counted + k.asked) + length (heard lines)

-- What holds of a kept session between two calls, unless something has failed: all that was answered is in
-- the journal, on the disk.
pub record IsReady {D : Type 0} {keeps : devices.Ghosts D}
    (seen : D → List ℕ) (may_leave : D → List ℕ → Type 0) (k : Kept D keeps) : Type 0 where
  pub theirs : All IsTheirs k.line.items
  pub kept : k.cause ≡ None → IsKept seen may_leave k.journal (life k)

-- These bytes were taken, behind what was there of a line: lines have ended, which have led the session from
-- where it was to where it is; this they were answered.
pub record Takes (bytes text : List ℕ) {D : Type 0} {keeps : devices.Ghosts D}
    (old new : Kept D keeps) : Type 0 where
  pub added : List ℕ
  pub whole : IsWhole added
  pub follows : (more : List ℕ) → downs old.line.items (bytes ++ more) ≡ added ++ downs new.line.items more
  pub leads : talk new ≡ goes_on added (talk old)
  pub counted : new.counted ≡ counted_behind added old
  pub answers : text ≡ (step_of (old.counted + old.asked) added old.session).0

-- the bytes that are to come: what a reader has, as it is put down behind a line
abbrev pub coming : List ℕ → Option (List ℕ) → Option (List ℕ)
coming line rest = option_map (λ more. downs line more) rest

-- how many bytes were cut off behind them, if any were
abbrev pub cut_text : ℕ → List ℕ
cut_text cut = if cut == 0 then [] else codes " cut " <> decimal cut

-- the first answer: how many lines the journal stands for
abbrev pub recovered_text : ℕ → ℕ → List ℕ
recovered_text cut lines = codes "recovered " <> decimal lines <> cut_text cut <> codes "\n"

-- all that is written to these bytes, where the journal stands for so many lines
abbrev pub written_to : ℕ → ℕ → List ℕ → Life → List ℕ
written_to cut lines bytes l = recovered_text cut lines ++ answers_of bytes l
