-- What clients that may crash are told, and what is noted of them.
use Rattle.std.specs.Prelude.{ℕ, ◌+◌, ◌==◌, ◌&&◌, nat_lt, not, Bool, true, false, if◌then◌else◌, List, [], ◌∷◌}
use Rattle.std.specs.Prelude.{slice_index}
use Rattle.std.specs.Prelude.{Option, Some, None, Result, Ok, Err}
use Rattle.tp_script.specs.declared.fault.LineFault.TheVariants.{BadName}
use Rattle.tp_store.specs.Calls.{collect_of, submit_of}
use Rattle.tp_store.specs.Elements.{Entry, element_at, is_group}
use Rattle.tp_store.specs.Listing.{first_of}
use Rattle.tp_store.specs.declared.group.Group.TheVariants.{Owned, Replies}
use Rattle.tp_store.specs.State.{State}
use Rattle.tp_store.specs.declared.answers.Refusal.{Refusal}
use Rattle.tp_store.specs.declared.answers.Refusal.TheVariants.{NotThere}
use Rattle.tp_store.specs.declared.element.Element.{Element}
use Rattle.tp_answers.specs.Answer.{answer_text, line}
use Rattle.tp_answers.specs.NoteTexts.{forgotten_text, last_client_text, received_text, registered_text, sent_text}
use Rattle.tp_answers.specs.declared.answer.Answer.TheVariants as answer
use Rattle.tp_answers.specs.declared.notes.ReceivedAs.TheVariants as received
use Rattle.tp_answers.specs.declared.notes.SentAs.TheVariants as sent
use Rattle.tp_lines.specs.Names.{NameView}
use Rattle.tp_lines.specs.declared.line.ClientNote.{ClientNote}
use Rattle.tp_session.specs.Roles.{client_at, is_of_worker, with_client, without}
use Rattle.tp_session.specs.Said.{Step, just}
use Rattle.tp_session.specs.State.{SessionState, with_store}
use Rattle.tp_session.specs.declared.standing.Standing.{Standing}
use Rattle.tp_session.specs.declared.standing.Standing.TheVariants.{Next, Again, Before, Behind}

-- how a number stands to how many were made: it is the next one, the last one, one before, or one behind
abbrev pub standing_of : ℕ → ℕ → Standing
standing_of number made =
    if number == made + 1 then Next
    else if number == made then Again
    else if nat_lt number made then Before else Behind

-- ---- coming and going

-- a client that has sent and received nothing
abbrev pub new_note : ℕ → ClientNote
new_note owner = record {
  owner = owner;
  sent = 0;
  element = 0;
  received = 0;
  reply = 0;
  root = 0;
  body = 0 ∷ 0 ∷ 0 ∷ 0 ∷ [];
  epoch = 1;
  sent_stage = 0;
  sent_body = 0 ∷ 0 ∷ 0 ∷ 0 ∷ [];
  note = None;
}

-- a client of this name is known
abbrev pub registered_as : Option ClientNote → NameView → SessionState → SessionState
registered_as (Some c) name s = s
registered_as None name s = record (with_client name (new_note s.owners) s) { owners = s.owners + 1 }

abbrev pub registered : NameView → SessionState → SessionState
registered name s = registered_as (client_at name s) name s

-- a name that a server or a worker has is no client's
abbrev pub if_client : NameView → SessionState → Step → Step
if_client name s step = if is_of_worker name s then Err BadName else step

-- the epoch of a client, which is 1 where it comes only now
abbrev pub epoch_of : Option ClientNote → ℕ
epoch_of None = 1
epoch_of (Some c) = c.epoch

abbrev pub register_step : NameView → SessionState → Step
register_step name s =
    if_client name s (Ok (line (registered_text name (epoch_of (client_at name s))), registered name s))

-- the next epoch of a client begins; the first one where it comes only now
abbrev pub renewed_as : Option ClientNote → NameView → SessionState → SessionState
renewed_as None name s = registered name s
renewed_as (Some c) name s = with_client name (record c { epoch = c.epoch + 1 }) s

abbrev pub renewed : NameView → SessionState → SessionState
renewed name s = renewed_as (client_at name s) name s

abbrev pub next_epoch : Option ClientNote → ℕ
next_epoch None = 1
next_epoch (Some c) = c.epoch + 1

abbrev pub renew_step : NameView → SessionState → Step
renew_step name s =
    if_client name s (Ok (line (registered_text name (next_epoch (client_at name s))), renewed name s))

-- the step of a client that is registered
abbrev pub of_note : Option ClientNote → (ClientNote → SessionState → Step) → SessionState → Step
of_note None does s = just (answer_text (answer.Refused NotThere)) s
of_note (Some c) does s = does c s

abbrev pub of_client : NameView → (ClientNote → SessionState → Step) → SessionState → Step
of_client name does s = if_client name s (of_note (client_at name s) does s)

-- whether a line is of the client's epoch: one that names none is
abbrev pub is_of_epoch : Option ℕ → ClientNote → Bool
is_of_epoch None c = true
is_of_epoch (Some epoch) c = epoch == c.epoch

abbrev pub if_epoch : Option ℕ → ClientNote → SessionState → Step → Step
if_epoch epoch c s step = if is_of_epoch epoch c then step else just (answer_text answer.Fenced) s

abbrev pub forget_by : NameView → ClientNote → SessionState → Step
forget_by name c s = Ok (line (forgotten_text name), record s { clients = without name s.clients })

abbrev pub forget_step : NameView → SessionState → Step
forget_step name s = of_client name (forget_by name) s

abbrev pub last_by : NameView → ClientNote → SessionState → Step
last_by name c s = just (last_client_text name c) s

-- ---- sends

-- the note, when this was sent
abbrev pub with_send : ℕ → ℕ → ℕ → List ℕ → ClientNote → ClientNote
with_send number id stage body c =
    record c { sent = number; element = id; sent_stage = stage; sent_body = body }

abbrev pub sent_as : NameView → ℕ → ℕ → List ℕ → ClientNote → Result ℕ Refusal → State → SessionState → Step
sent_as name number stage body c (Ok id) store s = Ok (
  line (sent_text name number (sent.Element id)),
  with_client name (with_send number id stage body c) (with_store store s),
)
sent_as name number stage body c (Err why) store s =
    Ok (line (answer_text (answer.Refused why)), with_store store s)

-- whether the words of two bodies are the same
abbrev pub is_same : List ℕ → List ℕ → Bool
is_same a b = slice_index a 0 == slice_index b 0 && (slice_index a 1 == slice_index b 1
    && (slice_index a 2 == slice_index b 2 && slice_index a 3 == slice_index b 3))

-- whether the last send had other words, where it is known which ones
abbrev pub differs : ℕ → List ℕ → ClientNote → Bool
differs stage body c =
    if c.sent_stage == 0 then false else not (stage == c.sent_stage && is_same body c.sent_body)

abbrev pub send_again : NameView → ℕ → Bool → ClientNote → SessionState → Step
send_again name number true c s = just (answer_text answer.Differs) s
send_again name number false c s = just (sent_text name number (sent.Element c.element)) s

abbrev pub send_by : NameView → ℕ → ℕ → List ℕ → Standing → ClientNote → SessionState → Step
send_by name number stage body Next c s =
    let done = submit_of stage body (Some c.owner) s.store in sent_as name number stage body c done.0 done.1 s
send_by name number stage body Again c s = send_again name number (differs stage body c) c s
send_by name number stage body Before c s = just (sent_text name number sent.Before) s
send_by name number stage body Behind c s = just (answer_text answer.Gap) s

abbrev pub send_in : NameView → Option ℕ → ℕ → ℕ → List ℕ → ClientNote → SessionState → Step
send_in name epoch number stage body c s =
    if_epoch epoch c s (send_by name number stage body (standing_of number c.sent) c s)

abbrev pub send_step : NameView → Option ℕ → ℕ → ℕ → List ℕ → SessionState → Step
send_step name epoch number stage body s = of_client name (send_in name epoch number stage body) s

-- ---- receives

-- the note, when this reply was received
abbrev pub with_reply : ℕ → ℕ → Element → ClientNote → ClientNote
with_reply number id e c = record c { received = number; reply = id; root = e.root; body = e.body }

abbrev pub received_as : NameView → ℕ → ℕ → ClientNote → Result Element Refusal → State → SessionState → Step
received_as name number id c (Ok e) store s = Ok (
  line (received_text name number (received.Reply id e.root e.body)),
  with_client name (with_reply number id e c) (with_store store s),
)
received_as name number id c (Err why) store s = just (received_text name number received.Nothing) s

-- the reply that was found is taken
abbrev pub receive_found : NameView → ℕ → ClientNote → Option Entry → SessionState → Step
receive_found name number c None s = just (received_text name number received.Nothing) s
receive_found name number c (Some e) s =
    let done = collect_of e.0 s.store in received_as name number e.0 c done.0 done.1 s

-- whether the element with this id is a request of this client
abbrev pub is_own_at : ℕ → ℕ → Option Element → Bool
is_own_at owner root None = false
is_own_at owner root (Some e) = if e.root == root then is_group owner e.owner else false

-- any reply to its requests, or to this one
abbrev pub receive_next : NameView → ℕ → Option ℕ → ClientNote → SessionState → Step
receive_next name number None c s =
    receive_found name number c (first_of (Owned c.owner) 0 s.store.elements) s
receive_next name number (Some root) c s =
    if is_own_at c.owner root (element_at root s.store.elements)
    then receive_found name number c (first_of (Replies root) 0 s.store.elements) s
    else just (answer_text (answer.Refused NotThere)) s

-- the word that goes with a reply is noted with it
abbrev pub receive_by : NameView → ℕ → Option ℕ → Option NameView → Standing → ClientNote → SessionState → Step
receive_by name number root word Next c s = receive_next name number root (record c { note = word }) s
receive_by name number root word Again c s =
    just (received_text name number (received.Reply c.reply c.root c.body)) s
receive_by name number root word Before c s = just (received_text name number received.Before) s
receive_by name number root word Behind c s = just (answer_text answer.Gap) s

abbrev pub receive_in : NameView → Option ℕ → ℕ → Option ℕ → Option NameView → ClientNote → SessionState → Step
receive_in name epoch number root note c s =
    if_epoch epoch c s (receive_by name number root note (standing_of number c.received) c s)

abbrev pub receive_step : NameView → Option ℕ → ℕ → Option ℕ → Option NameView → SessionState → Step
receive_step name epoch number root note s = of_client name (receive_in name epoch number root note) s
