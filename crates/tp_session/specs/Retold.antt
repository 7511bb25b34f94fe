-- A dump makes the same session.
use Rattle.std.specs.Prelude.{◌≡◌, ◌<◌, ◌≤◌, ◌-◌, ◌^◌, ◌+◌, ⊤, true, false, is_some, is_none, length}
use Rattle.std.specs.Prelude.{ℕ, Bool, Result, Ok, List, [], ◌∷◌, Option, Some, None, slice_index_or}
use Rattle.std.specs.List.{AllByRecursion}
use Rattle.std.specs.List.Sorted.{IsStrictlySortedBy}
use Rattle.std.specs.Map.{keys_of}
use Rattle.std.specs.Str.{bytes_eq}
use Rattle.tp_script.specs.declared.script.TheConstants.{MAX_SERVERS}
use Rattle.tp_lines.specs.Names.{NameView, name_cmp}
use Rattle.tp_lines.specs.Tags.{tagged_said}
use Rattle.tp_lines.specs.Told.{IsFitLine}
use Rattle.tp_lines.specs.declared.line.HeadLine.{HeadLine}
use Rattle.tp_lines.specs.declared.line.HeadLine.TheVariants as head
use Rattle.tp_lines.specs.declared.line.Line.{Line}
use Rattle.tp_lines.specs.declared.line.Line.TheVariants as lines
use Rattle.tp_script.specs.declared.fault.LineFault.{LineFault}
use Rattle.tp_lines.specs.declared.line.ClientNote.{ClientNote}
use Rattle.tp_answers.specs.Answer.{answer_text, line}
use Rattle.tp_answers.specs.declared.answer.Answer.TheVariants as answer
use Rattle.tp_store.specs.Calls.{alive_in}
use Rattle.tp_store.specs.Counting.{no_counts}
use Rattle.tp_store.specs.Retelling.{AreTaken, told_of}
use Rattle.tp_store.specs.Restoring.{all_back}
use Rattle.tp_store.specs.State.{State, start}
use Rattle.tp_store.specs.declared.element.TheConstants.{LAST_STAGE}
use Rattle.tp_session.specs.Dumps.{dump_lines, dump_of}
use Rattle.tp_session.specs.Roles.{server_at, worker_at}
use Rattle.tp_session.specs.Session.{has_begun, lines_step}
use Rattle.tp_session.specs.State.{ServerView, SessionState, begin}
use Rattle.tp_session.specs.declared.hand.Hand.{Hand}
use Rattle.tp_session.specs.declared.worker.Worker.{Worker}

-- ---- what is so of each session

-- what is in a hand: an element that was born, and a unit that was drawn
abbrev pub IsDrawn : State → Option Hand → Type 0
IsDrawn store None = ⊤
IsDrawn store (Some h) = (h.id < store.next) × (h.unit < store.units)

-- a server has the registers of its recipe; its work is prepared only with something in its hand, and a
-- server that was dropped has nothing there
pub record IsFitServer (store : State) (v : ServerView) : Type 0 where
  pub registers : length v.registers ≡ v.recipe.registers
  pub drawn : IsDrawn store v.hand
  pub prepared : v.is_prepared ≡ true → is_some v.hand ≡ true
  pub dropped : v.is_dropped ≡ true → is_none v.hand ≡ true

-- no two servers have one name
abbrev pub AreNamedApart : List ServerView → Type 0
AreNamedApart [] = ⊤
AreNamedApart (v ∷ vs) =
    AllByRecursion (λ w. bytes_eq v.name.letters w.name.letters ≡ false) vs × AreNamedApart vs

-- names in their order
abbrev pub AreInOrder : {A : Type 0} → List (NameView × A) → Type 0
AreInOrder all = IsStrictlySortedBy name_cmp (keys_of all)

-- a worker's name is no server's
abbrev pub IsFitWorker : SessionState → NameView × Worker → Type 0
IsFitWorker s (name, w) = (server_at name s ≡ None) × IsDrawn s.store w.hand

-- a client's name is no server's and no worker's
abbrev pub IsFitClient : SessionState → NameView × ClientNote → Type 0
IsFitClient s (name, c) = (server_at name s ≡ None) × (worker_at name s ≡ None) × (c.owner < s.owners)

-- a store that is there again where it is told in full
pub record IsFitStore (s : State) : Type 0 where
  pub taken : AreTaken (told_of s) (start s.limits)
  pub back : all_back (told_of s) (start s.limits) ≡ s
  pub stages : length s.tally.stages ≡ LAST_STAGE + 1
  pub none : (slice_index_or s.tally.stages 0 no_counts).consumed ≡ 0
  pub none_killed : (slice_index_or s.tally.stages 0 no_counts).killed ≡ 0
  pub few : length s.elements ≤ 2 ^ 64 - 1

-- all of it
pub record IsFit (s : SessionState) : Type 0 where
  pub store : IsFitStore s.store
  pub few : length s.servers ≤ MAX_SERVERS
  pub apart : AreNamedApart s.servers
  pub servers : AllByRecursion (IsFitServer s.store) s.servers
  pub workers_sorted : AreInOrder s.workers
  pub workers : AllByRecursion (IsFitWorker s) s.workers
  pub clients_sorted : AreInOrder s.clients
  pub clients : AllByRecursion (IsFitClient s) s.clients

-- ---- the law

-- The lines of a dump of a fit session whose head is over, given to one that has heard nothing, are answered
-- by `restored` alone, and make the session that was dumped. All numbers that they tell have 64 bits.
abbrev pub DumpMakesTheSame : Type 0
DumpMakesTheSame = (s : SessionState) → IsFit s → has_begun s.phase ≡ true
    → AllByRecursion IsFitLine (dump_lines s)
    → lines_step 0 (dump_of s) begin ≡ (line (answer_text (answer.Restored (alive_in s.store))), s)

-- ---- which sessions are fit

-- a line that tells of what was drawn: numbers, elements, requests that are over, counts, or a hand
abbrev pub tells_drawn : HeadLine → Bool
tells_drawn (head.Numbers next units owners) = true
tells_drawn (head.Element id e) = true
tells_drawn (head.Over root) = true
tells_drawn (head.Settled stage consumed killed) = true
tells_drawn (head.Hand name id unit tries) = true
tells_drawn other = false

abbrev pub tells_of : Result Line LineFault → Bool
tells_of (Ok (lines.Head l)) = tells_drawn l
tells_of other = false

-- each session without such lines is fit, until the numbers of 64 bits are used up
abbrev pub SessionsAreFit : Type 0
SessionsAreFit = (all : List (List ℕ)) → AllByRecursion (λ l. tells_of (tagged_said l) ≡ false) all
    → let s = (lines_step 0 all begin).1 in s.store.next < 2 ^ 64 - 1 → IsFit s
