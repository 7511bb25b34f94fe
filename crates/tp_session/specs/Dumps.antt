-- The lines of a dump: what there is, told as the lines of a head.
use Rattle.std.specs.Prelude.{ℕ, zero, suc, ◌+◌, ◌-◌, ◌^◌, ◌==◌, Bool, true, false, ◌&&◌, if◌then◌else◌, List, [], ◌∷◌, ◌++◌}
use Rattle.std.specs.Prelude.{Option, Some, None, codes, decimal, length, map, slice_get}
use Rattle.std.specs.List.{flat_map}
use Rattle.tp_script.specs.Fault.{◌<>◌}
use Rattle.tp_store.specs.Elements.{Entry}
use Rattle.tp_store.specs.Listing.{listed}
use Rattle.tp_store.specs.declared.group.Group.TheVariants.{All}
use Rattle.tp_store.specs.State.{State}
use Rattle.tp_store.specs.declared.counts.Counts.{Counts}
use Rattle.tp_store.specs.declared.element.TheConstants.{LAST_STAGE}
use Rattle.tp_answers.specs.Answer.{line}
use Rattle.tp_lines.specs.HeadTexts.{head_text}
use Rattle.tp_lines.specs.Names.{NameView}
use Rattle.tp_lines.specs.declared.line.ClientNote.{ClientNote}
use Rattle.tp_lines.specs.declared.line.HeadLine.{HeadLine}
use Rattle.tp_lines.specs.declared.line.HeadLine.TheVariants as head
use Rattle.tp_lines.specs.declared.line.UnitEnd.{UnitEnd}
use Rattle.tp_session.specs.State.{ServerView, SessionState}
use Rattle.tp_session.specs.declared.hand.Hand.{Hand}
use Rattle.tp_session.specs.declared.worker.Worker.{Worker}

-- ---- servers

-- register k, unless it is 0
abbrev pub start_line : NameView → ℕ → ℕ → List HeadLine
start_line name k value = if value == 0 then [] else head.Start name k value ∷ []

-- all from this one on
abbrev pub start_lines : NameView → ℕ → List ℕ → List HeadLine
start_lines name k [] = []
start_lines name k (value ∷ values) = start_line name k value ++ start_lines name (k + 1) values

abbrev pub from_lines : NameView → ℕ → List HeadLine
from_lines name from = if from == 0 then [] else head.From name from ∷ []

abbrev pub hand_lines : NameView → Option Hand → List HeadLine
hand_lines name None = []
hand_lines name (Some h) = head.Hand name h.id h.unit h.tries ∷ []

abbrev pub prepared_lines : NameView → Bool → List HeadLine
prepared_lines name false = []
prepared_lines name true = head.Prepared name ∷ []

abbrev pub dropped_lines : NameView → Bool → List HeadLine
dropped_lines name false = []
dropped_lines name true = head.Dropped name ∷ []

-- how it stands
abbrev pub standing_lines : ServerView → List HeadLine
standing_lines v = from_lines v.name v.from ++ hand_lines v.name v.hand
    ++ prepared_lines v.name v.is_prepared ++ dropped_lines v.name v.is_dropped

abbrev pub server_lines : ServerView → List HeadLine
server_lines v =
    head.Server (record { name = v.name; kind = v.kind; recipe = v.recipe })
    ∷ (start_lines v.name 0 v.registers ++ standing_lines v)

-- ---- workers and clients

abbrev pub ended_lines : NameView → Option UnitEnd → List HeadLine
ended_lines name None = []
ended_lines name (Some how) = head.Ended name how ∷ []

abbrev pub worker_lines : NameView × Worker → List HeadLine
worker_lines (name, w) =
    head.Worker name w.stage
    ∷ (from_lines name w.from ++ hand_lines name w.hand ++ ended_lines name w.end)

abbrev pub client_line : NameView × ClientNote → HeadLine
client_line (name, c) = head.Client name c

-- ---- elements

abbrev pub element_line : Entry → HeadLine
element_line (id, e) = head.Element id e

abbrev pub over_line : ℕ → HeadLine
over_line root = head.Over root

-- how many of a stage were consumed and killed, where any were
abbrev pub settled_lines : ℕ → Option Counts → List HeadLine
settled_lines stage None = []
settled_lines stage (Some c) =
    if c.consumed == 0 && c.killed == 0 then [] else head.Settled stage c.consumed c.killed ∷ []

-- those of the stages below this one
unfoldable pub settled_below : ℕ → List Counts → List HeadLine
settled_below zero counts = []
settled_below (suc stage) counts =
    settled_below stage counts ++ settled_lines stage (slice_get counts stage)

-- ---- all of it

-- the settings, and the numbers that come next
abbrev pub first_lines : SessionState → List HeadLine
first_lines s =
    head.Limit s.store.limits.attempts ∷ head.Max s.store.limits.most ∷ head.Keep s.store.limits.keep
    ∷ head.Numbers s.store.next s.store.units s.owners ∷ []

-- all elements; no more than could be counted
abbrev pub element_lines : State → List HeadLine
element_lines s = map element_line (listed All 0 (2 ^ 64 - 1) s.elements)

abbrev pub store_lines : State → List HeadLine
store_lines s =
    element_lines s ++ (map over_line s.ended ++ settled_below (LAST_STAGE + 1) s.tally.stages)

-- what there is beside the settings
abbrev pub other_lines : List ServerView → List (NameView × Worker) → List (NameView × ClientNote) → State
    → List HeadLine
other_lines servers workers clients store =
    flat_map server_lines servers ++ (flat_map worker_lines workers ++ (map client_line clients
    ++ store_lines store))

abbrev pub dump_lines : SessionState → List HeadLine
dump_lines s = first_lines s ++ other_lines s.servers s.workers s.clients s.store

-- the lines of a dump, without their ends; `restore` is the last
abbrev pub dump_of : SessionState → List (List ℕ)
dump_of s = map head_text (dump_lines s) ++ codes "restore" ∷ []

-- their text
abbrev pub dump_bytes : SessionState → List ℕ
dump_bytes s = flat_map line (dump_of s)

-- in the answer to `dump` a line stands behind `> `
abbrev pub dumped : Bool → HeadLine → List ℕ
dumped true l = line (codes "> " <> head_text l)
dumped false l = line (head_text l)

-- how many lines there are, and all of them
abbrev pub dump_text : List HeadLine → List ℕ
dump_text lines =
    line (codes "dumped " <> decimal (length lines + 1)) ++ flat_map (dumped true) lines
    ++ line (codes "> restore")

-- ---- how it is put together

-- the text of the lines so far, and how many they are
pub record DumpSoFar : Type 0 where
  pub is_quoted : Bool
  pub text : List ℕ
  pub many : ℕ

-- with these lines more
abbrev pub and_lines : List HeadLine → DumpSoFar → DumpSoFar
and_lines lines d = record d {
  text = d.text ++ flat_map (dumped d.is_quoted) lines;
  many = d.many + length lines;
}

-- all of it, as it is told
abbrev pub told_dump : DumpSoFar → List ℕ
told_dump d = line (codes "dumped " <> decimal (d.many + 1)) ++ d.text ++ line (codes "> restore")
