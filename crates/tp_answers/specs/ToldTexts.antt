-- What a server or a worker is told.
use Rattle.std.specs.Prelude.{ℕ, List, codes, decimal, slice_index}
use Rattle.tp_server.specs.Names.{declined_name}
use Rattle.tp_script.specs.Fault.{◌<>◌}
use Rattle.tp_lines.specs.Names.{NameView}
use Rattle.tp_answers.specs.declared.told.HandTold.{HandTold}
use Rattle.tp_answers.specs.declared.told.HandTold.TheVariants as hand
use Rattle.tp_answers.specs.declared.told.Told.{Told}
use Rattle.tp_answers.specs.declared.told.Told.TheVariants as told
use Rattle.tp_answers.specs.Refusals.{refusal_name}

-- all words of a body
abbrev pub body_text : List ℕ → List ℕ
body_text body = decimal (slice_index body 0) <> codes ":" <> decimal (slice_index body 1) <> codes ":"
    <> decimal (slice_index body 2) <> codes ":" <> decimal (slice_index body 3)

-- an element that a unit took, in which attempt of its round, and its root
abbrev pub taken_text : ℕ → ℕ → ℕ → ℕ → List ℕ
taken_text id unit attempt root = decimal id <> codes " unit " <> decimal unit <> codes " attempt "
    <> decimal attempt <> codes " root " <> decimal root

-- its words, and which try at it this is, of all its rounds
abbrev pub words_text : List ℕ → ℕ → List ℕ
words_text body tries = codes " body " <> body_text body <> codes " try " <> decimal tries

-- all of that
abbrev pub whole_text : ℕ → ℕ → ℕ → ℕ → List ℕ → ℕ → List ℕ
whole_text id unit attempt root body tries = taken_text id unit attempt root <> words_text body tries

-- a unit that committed, and its outputs: the first one's id, and how many
abbrev pub done_text : ℕ → ℕ → ℕ → ℕ → List ℕ
done_text id unit first count = codes "done " <> decimal id <> codes " unit " <> decimal unit
    <> codes " outputs " <> decimal first <> codes " " <> decimal count

-- what a command of a server or a worker came to
abbrev pub told_text : Told → List ℕ
told_text told.Idle = codes "idle"
told_text told.Busy = codes "busy"
told_text told.NoneOpen = codes "none"
told_text told.Other = codes "other"
told_text (told.Work id unit attempt) =
    codes "work " <> decimal id <> codes " unit " <> decimal unit <> codes " attempt " <> decimal attempt
told_text (told.Took id unit attempt root body tries) =
    codes "work " <> whole_text id unit attempt root body tries
told_text (told.NotTaken id why) = codes "refused " <> decimal id <> codes " " <> refusal_name why
told_text (told.Done id unit first count) = done_text id unit first count
told_text (told.Lost id) = codes "lost " <> decimal id
told_text (told.Declined id why) = codes "refused " <> decimal id <> codes " " <> declined_name why
told_text (told.Aborted id) = codes "aborted " <> decimal id
told_text (told.Already id) = codes "already " <> decimal id
told_text told.Ready = codes "ready"
told_text told.Dropped = codes "dropped"
told_text told.Ended = codes "ended"

-- the same, with the name of the one who is told
abbrev pub named_text : NameView → Told → List ℕ
named_text name t = name.letters <> codes " " <> told_text t

-- a worker that has come
abbrev pub joined_text : NameView → List ℕ
joined_text name = codes "joined " <> name.letters

-- one that has left, with what its abort came to
abbrev pub left_text : NameView → Told → List ℕ
left_text name t = codes "left " <> named_text name t

-- what a worker has in hand
abbrev pub hand_text : HandTold → List ℕ
hand_text hand.Nothing = codes "none"
hand_text (hand.Lost id tries) = codes "lost " <> decimal id <> codes " try " <> decimal tries
hand_text (hand.Open id unit attempt root body tries) = whole_text id unit attempt root body tries
