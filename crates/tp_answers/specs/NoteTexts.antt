-- What clients and workers that may crash are told: their sends and receives, and what is noted of them.
use Rattle.std.specs.Prelude.{ℕ, ◌==◌, if◌then◌else◌, List, [], Option, Some, None, codes, decimal}
use Rattle.tp_script.specs.Fault.{◌<>◌}
use Rattle.tp_lines.specs.Names.{NameView}
use Rattle.tp_lines.specs.declared.line.ClientNote.{ClientNote}
use Rattle.tp_lines.specs.declared.line.UnitEnd.{UnitEnd}
use Rattle.tp_lines.specs.declared.line.UnitEnd.TheVariants as end
use Rattle.tp_answers.specs.declared.notes.ReceivedAs.{ReceivedAs}
use Rattle.tp_answers.specs.declared.notes.ReceivedAs.TheVariants as received
use Rattle.tp_answers.specs.declared.notes.SentAs.{SentAs}
use Rattle.tp_answers.specs.declared.notes.SentAs.TheVariants as sent
use Rattle.tp_answers.specs.declared.told.HandTold.{HandTold}
use Rattle.tp_answers.specs.ToldTexts.{body_text, done_text, hand_text}

-- ---- clients

abbrev pub registered_text : NameView → ℕ → List ℕ
registered_text name epoch = codes "registered " <> name.letters <> codes " " <> decimal epoch

abbrev pub forgotten_text : NameView → List ℕ
forgotten_text name = codes "forgotten " <> name.letters

-- a reply, with its root and its words
abbrev pub whole_reply_text : ℕ → ℕ → List ℕ → List ℕ
whole_reply_text id root body = decimal id <> codes " " <> decimal root <> codes " " <> body_text body

-- what became of a send
abbrev pub sent_as_text : SentAs → List ℕ
sent_as_text (sent.Element id) = decimal id
sent_as_text sent.Before = codes "done"

abbrev pub sent_text : NameView → ℕ → SentAs → List ℕ
sent_text name number how =
    codes "sent " <> name.letters <> codes " " <> decimal number <> codes " " <> sent_as_text how

-- what became of a receive
abbrev pub received_as_text : ReceivedAs → List ℕ
received_as_text (received.Reply id root body) = whole_reply_text id root body
received_as_text received.Nothing = codes "none"
received_as_text received.Before = codes "done"

abbrev pub received_text : NameView → ℕ → ReceivedAs → List ℕ
received_text name number how =
    codes "received " <> name.letters <> codes " " <> decimal number <> codes " " <> received_as_text how

-- how many sends were done, and what the last one submitted, where there was one
abbrev pub last_sent_text : ClientNote → List ℕ
last_sent_text c = codes "sent " <> decimal c.sent
    <> (if c.sent == 0 then [] else codes " " <> decimal c.element)

-- how many receives took a reply, and which one the last of them took, where there was one
abbrev pub last_received_text : ClientNote → List ℕ
last_received_text c = codes "received " <> decimal c.received
    <> (if c.received == 0 then [] else codes " " <> whole_reply_text c.reply c.root c.body)

-- what it noted with the last of them, where it did
abbrev pub last_note_text : Option NameView → List ℕ
last_note_text None = []
last_note_text (Some word) = codes " note " <> word.letters

-- what is noted of a client
abbrev pub last_client_text : NameView → ClientNote → List ℕ
last_client_text name c = (codes "last " <> name.letters <> codes " ") <> last_sent_text c <> codes " "
    <> last_received_text c <> last_note_text c.note

-- ---- workers

-- how a worker's last unit ended
abbrev pub end_text : Option UnitEnd → List ℕ
end_text None = codes "none"
end_text (Some (end.Done id unit first count)) = done_text id unit first count
end_text (Some (end.Aborted id)) = codes "aborted " <> decimal id
end_text (Some (end.Lost id)) = codes "lost " <> decimal id

-- what a worker has in hand, and how its last unit ended
abbrev pub last_worker_text : NameView → HandTold → Option UnitEnd → List ℕ
last_worker_text name hand how =
    (codes "last " <> name.letters <> codes " hand " <> hand_text hand <> codes " ") <> end_text how
