-- Elements as they are read.
use Rattle.std.specs.Prelude.{ℕ, List, [], Bool, ◌&&◌, ◌==◌, if◌then◌else◌, Option, Some, None, codes}
use Rattle.std.specs.Prelude.{decimal, slice_index}
use Rattle.std.specs.List.{flat_map}
use Rattle.tp_store.specs.Elements.{Entry}
use Rattle.tp_store.specs.declared.element.Element.{Element}
use Rattle.tp_store.specs.declared.element.Status.{Status}
use Rattle.tp_store.specs.declared.element.Status.TheVariants as status
use Rattle.tp_script.specs.Fault.{◌<>◌}

-- ---- what calls did to one

abbrev pub submitted_text : ℕ → List ℕ
submitted_text id = codes "submitted " <> decimal id

abbrev pub killed_text : ℕ → ℕ → List ℕ
killed_text id aborted = codes "killed " <> decimal id <> codes " aborted " <> decimal aborted

abbrev pub cancelled_text : ℕ → ℕ → List ℕ
cancelled_text root killed = codes "cancelled " <> decimal root <> codes " killed " <> decimal killed

abbrev pub requeued_text : ℕ → ℕ → List ℕ
requeued_text id round = codes "requeued " <> decimal id <> codes " round " <> decimal round

abbrev pub released_text : ℕ → ℕ → ℕ → List ℕ
released_text id unit attempt =
    codes "released " <> decimal id <> codes " unit " <> decimal unit <> codes " attempt " <> decimal attempt

-- ---- one that is read

-- who made an element
abbrev pub maker_text : Option ℕ → List ℕ
maker_text None = codes "client"
maker_text (Some unit) = decimal unit

-- how an element stands
abbrev pub status_text : Status → List ℕ
status_text (status.Waiting attempts) = codes "waiting " <> decimal attempts
status_text (status.Held unit attempt) = codes "held " <> decimal unit <> codes " " <> decimal attempt
status_text (status.Consumed unit) = codes "consumed " <> decimal unit
status_text (status.Parked attempts) = codes "parked " <> decimal attempts
status_text status.Killed = codes "killed"

-- whether words 2 and 3 of a body are 0: then they aren't told
abbrev pub is_short : List ℕ → Bool
is_short body = (slice_index body 2 == 0) && (slice_index body 3 == 0)

-- the words of an element
abbrev pub two_words_text : List ℕ → List ℕ
two_words_text body =
    codes " key " <> decimal (slice_index body 0) <> codes " amount " <> decimal (slice_index body 1)

abbrev pub more_words_text : List ℕ → List ℕ
more_words_text body = if is_short body then [] else codes " more " <> decimal (slice_index body 2)
    <> codes " " <> decimal (slice_index body 3)

-- an element, up to who made it
unfoldable pub element_text : ℕ → Element → List ℕ
element_text id e = (decimal id <> codes " stage " <> decimal e.stage <> codes " root " <> decimal e.root
    <> two_words_text e.body) <> more_words_text e.body <> codes " by "

-- an element that is read
abbrev pub read_text : ℕ → Element → List ℕ
read_text id e = element_text id e <> maker_text e.by <> codes " " <> status_text e.status

-- ---- replies

-- a reply: its id, and its words
abbrev pub two_words : List ℕ → List ℕ
two_words body = codes ":" <> decimal (slice_index body 0) <> codes ":" <> decimal (slice_index body 1)

abbrev pub more_words : List ℕ → List ℕ
more_words body = if is_short body then [] else codes ":" <> decimal (slice_index body 2) <> codes ":"
    <> decimal (slice_index body 3)

abbrev pub reply_text : Entry → List ℕ
reply_text e = (codes " " <> decimal e.0 <> two_words e.1.body) <> more_words e.1.body

-- the replies to a request
abbrev pub replies_text : ℕ → List Entry → List ℕ
replies_text root replies = (codes "replies " <> decimal root) <> flat_map reply_text replies

-- the replies to a request that were taken
abbrev pub collected_text : ℕ → List Entry → List ℕ
collected_text root replies = (codes "collected " <> decimal root) <> flat_map reply_text replies

-- ---- several of them

-- how an element stands, in one word
abbrev pub state_text : Status → List ℕ
state_text (status.Waiting attempts) = codes "waiting"
state_text (status.Held unit attempt) = codes "held"
state_text (status.Consumed unit) = codes "consumed"
state_text (status.Parked attempts) = codes "parked"
state_text status.Killed = codes "killed"

-- an element of a request: its id, its stage, and how it stands
abbrev pub member_text : Entry → List ℕ
member_text e = (codes " " <> decimal e.0 <> codes ":" <> decimal e.1.stage <> codes ":")
    <> state_text e.1.status

-- the elements of a request
abbrev pub family_text : ℕ → List Entry → List ℕ
family_text root members = (codes "family " <> decimal root) <> flat_map member_text members

-- the ids of elements, one after the other
abbrev pub ids_text : List Entry → List ℕ
ids_text elements = flat_map (λ e. codes " " <> decimal e.0) elements

-- the parked elements
abbrev pub errors_text : List Entry → List ℕ
errors_text parked = codes "errors" <> ids_text parked

-- elements that wait in a stage
abbrev pub list_text : ℕ → List Entry → List ℕ
list_text stage waiting = (codes "list " <> decimal stage) <> ids_text waiting
