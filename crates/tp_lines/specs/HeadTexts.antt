-- The texts of the lines that say what there is: their words, with a space between.
use Rattle.std.specs.Prelude.{ℕ, List, [], ◌∷◌, Option, Some, None, codes, decimal, map, slice_index, ◌==◌}
use Rattle.std.specs.Prelude.{if◌then◌else◌}
use Rattle.tp_store.specs.declared.element.Element.{Element}
use Rattle.tp_store.specs.declared.element.Status.{Status}
use Rattle.tp_store.specs.declared.element.Status.TheVariants as status
use Rattle.tp_server.specs.declared.recipe.Act.{Act}
use Rattle.tp_server.specs.declared.recipe.Act.TheVariants as act
use Rattle.tp_server.specs.declared.recipe.AmountFrom.{AmountFrom}
use Rattle.tp_server.specs.declared.recipe.AmountFrom.TheVariants as amount
use Rattle.tp_server.specs.declared.recipe.KeyFrom.{KeyFrom}
use Rattle.tp_server.specs.declared.recipe.KeyFrom.TheVariants as key
use Rattle.tp_server.specs.declared.recipe.Output.{Output}
use Rattle.tp_script.specs.Fault.{◌<>◌}
use Rattle.tp_script.specs.declared.script.Kind.{Kind}
use Rattle.tp_script.specs.declared.script.Kind.TheVariants as kind
use Rattle.tp_lines.specs.Lines.{ServerLineView}
use Rattle.tp_lines.specs.Names.{NameView}
use Rattle.tp_lines.specs.declared.line.ClientNote.{ClientNote}
use Rattle.tp_lines.specs.declared.line.HeadLine.{HeadLine}
use Rattle.tp_lines.specs.declared.line.HeadLine.TheVariants as head
use Rattle.tp_lines.specs.declared.line.UnitEnd.{UnitEnd}
use Rattle.tp_lines.specs.declared.line.UnitEnd.TheVariants as end

-- each word behind a space
abbrev pub spaced : List (List ℕ) → List ℕ
spaced [] = []
spaced (w ∷ ws) = codes " " <> w <> spaced ws

-- words as a line
abbrev pub line_text : List (List ℕ) → List ℕ
line_text [] = []
line_text (w ∷ ws) = w <> spaced ws

-- ---- bodies

-- W0:W1:W2:W3
unfoldable pub body_text : List ℕ → List ℕ
body_text body = decimal (slice_index body 0) <> codes ":" <> decimal (slice_index body 1) <> codes ":"
    <> decimal (slice_index body 2) <> codes ":" <> decimal (slice_index body 3)

-- STAGE:W0:W1:W2:W3
unfoldable pub place_text : ℕ → List ℕ → List ℕ
place_text stage body = decimal stage <> codes ":" <> body_text body

-- ---- servers

abbrev pub kind_text : Kind → List ℕ
kind_text kind.Eager = codes "eager"
kind_text kind.Lazy = codes "lazy"

abbrev pub act_text : Act → List ℕ
act_text act.Add = codes "add"
act_text act.Take = codes "take"
act_text act.Pass = codes "pass"

-- the amount's word, unless it is word 1
abbrev pub word_text : ℕ → List ℕ
word_text word = if word == 1 then [] else codes ":" <> decimal word

-- ACT or ACT:PLACE
unfoldable pub deed_text : Act → ℕ → List ℕ
deed_text act word = act_text act <> word_text word

abbrev pub key_text : KeyFrom → List ℕ
key_text key.Same = codes "same"
key_text (key.Fixed number) = decimal number

abbrev pub amount_text : AmountFrom → List ℕ
amount_text amount.Same = codes "same"
amount_text amount.After = codes "after"
amount_text (amount.Fixed number) = decimal number

-- STAGE:KEY:AMOUNT
unfoldable pub output_text : Output → List ℕ
output_text o = decimal o.stage <> codes ":" <> key_text o.key <> codes ":" <> amount_text o.amount

-- NAME KIND STAGE REGISTERS ACT OUT..
abbrev pub server_words : ServerLineView → List (List ℕ)
server_words s =
    s.name.letters ∷ kind_text s.kind ∷ decimal s.recipe.stage ∷ decimal s.recipe.registers
    ∷ deed_text s.recipe.act s.recipe.word ∷ map output_text s.recipe.outputs.items

-- ---- elements

-- the number, or this word where there is none
abbrev pub number_text : List ℕ → Option ℕ → List ℕ
number_text none None = none
number_text none (Some n) = decimal n

-- how an element stands
abbrev pub status_words : Status → List (List ℕ)
status_words (status.Waiting attempts) = codes "waiting" ∷ decimal attempts ∷ []
status_words (status.Held unit attempt) = codes "held" ∷ decimal unit ∷ decimal attempt ∷ []
status_words (status.Consumed unit) = codes "consumed" ∷ decimal unit ∷ []
status_words (status.Parked attempts) = codes "parked" ∷ decimal attempts ∷ []
status_words status.Killed = codes "killed" ∷ []

-- ROUNDS, and `:EARLIER` unless that is 0
abbrev pub earlier_text : ℕ → List ℕ
earlier_text earlier = if earlier == 0 then [] else codes ":" <> decimal earlier

unfoldable pub rounds_text : ℕ → ℕ → List ℕ
rounds_text rounds earlier = decimal rounds <> earlier_text earlier

-- STAGE:W0:W1:W2:W3 ROOT MAKER OWNER ROUNDS:EARLIER STATUS ..
abbrev pub element_words : Element → List (List ℕ)
element_words e =
    place_text e.stage e.body ∷ decimal e.root ∷ number_text (codes "client") e.by
    ∷ number_text (codes "nobody") e.owner ∷ rounds_text e.rounds e.earlier ∷ status_words e.status

-- ---- workers and clients

-- how a unit of work ended
abbrev pub end_words : UnitEnd → List (List ℕ)
end_words (end.Done id unit first count) =
    codes "done" ∷ decimal id ∷ decimal unit ∷ decimal first ∷ decimal count ∷ []
end_words (end.Aborted id) = codes "aborted" ∷ decimal id ∷ []
end_words (end.Lost id) = codes "lost" ∷ decimal id ∷ []

-- a name, or `-` where there is none
abbrev pub name_text : Option NameView → List ℕ
name_text None = codes "-"
name_text (Some name) = name.letters

-- OWNER SENT ELEMENT RECEIVED REPLY ROOT W0:W1:W2:W3 EPOCH STAGE:W0:W1:W2:W3 NOTE
abbrev pub note_words : ClientNote → List (List ℕ)
note_words note =
    decimal note.owner ∷ decimal note.sent ∷ decimal note.element ∷ decimal note.received
    ∷ decimal note.reply ∷ decimal note.root ∷ body_text note.body
    ∷ decimal note.epoch ∷ place_text note.sent_stage note.sent_body ∷ name_text note.note ∷ []

-- ---- all of them

-- the words of a line
abbrev pub head_words : HeadLine → List (List ℕ)
head_words (head.Limit attempts) = codes "limit" ∷ decimal attempts ∷ []
head_words (head.Max elements) = codes "max" ∷ decimal elements ∷ []
head_words (head.Keep requests) = codes "keep" ∷ decimal requests ∷ []
head_words (head.Server server) = codes "server" ∷ server_words server
head_words (head.Start name k value) = codes "start" ∷ name.letters ∷ decimal k ∷ decimal value ∷ []
head_words (head.Worker name stage) = codes "worker" ∷ name.letters ∷ decimal stage ∷ []
head_words (head.Register name) = codes "register" ∷ name.letters ∷ []
head_words (head.Renew name) = codes "register" ∷ name.letters ∷ codes "new" ∷ []
head_words (head.Numbers next units owners) =
    codes "numbers" ∷ decimal next ∷ decimal units ∷ decimal owners ∷ []
head_words (head.Element id element) = codes "element" ∷ decimal id ∷ element_words element
head_words (head.Over root) = codes "over" ∷ decimal root ∷ []
head_words (head.Settled stage consumed killed) =
    codes "settled" ∷ decimal stage ∷ decimal consumed ∷ decimal killed ∷ []
head_words (head.Hand name id unit tries) =
    codes "hand" ∷ name.letters ∷ decimal id ∷ decimal unit ∷ decimal tries ∷ []
head_words (head.Prepared name) = codes "prepared" ∷ name.letters ∷ []
head_words (head.Dropped name) = codes "dropped" ∷ name.letters ∷ []
head_words (head.From name id) = codes "from" ∷ name.letters ∷ decimal id ∷ []
head_words (head.Ended name how) = codes "ended" ∷ name.letters ∷ end_words how
head_words (head.Client name note) = codes "client" ∷ name.letters ∷ note_words note

-- the text of a line
abbrev pub head_text : HeadLine → List ℕ
head_text l = line_text (head_words l)
