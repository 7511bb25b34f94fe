-- The lines that say what there is.
use Rattle.std.specs.Prelude.{ℕ, List, [], ◌∷◌, Option, ◌&&◌, ◌==◌, nat_le, codes, if◌then◌else◌, Result, Ok, Err}
use Rattle.std.specs.List.{slice_split}
use Rattle.std.specs.Str.{bytes_eq}
use Rattle.tp_model.specs.declared.types.TheConstants.{MAX_ATTEMPTS}
use Rattle.tp_script.specs.declared.fault.LineFault.{LineFault}
use Rattle.tp_script.specs.declared.fault.LineFault.TheVariants.{Syntax, BadLimits}
use Rattle.tp_script.specs.Drafts.{colons}
use Rattle.tp_script.specs.LineWords.{◌>>=◌, require, two, three, number_at, body_at}
use Rattle.tp_lines.specs.declared.keyword.HeadVerb.{HeadVerb}
use Rattle.tp_lines.specs.declared.keyword.HeadVerb.TheVariants as verb
use Rattle.tp_lines.specs.declared.line.ClientNote.{ClientNote}
use Rattle.tp_lines.specs.declared.line.HeadLine.{HeadLine}
use Rattle.tp_lines.specs.declared.line.HeadLine.TheVariants as head
use Rattle.tp_lines.specs.declared.statuses.Standing.{Standing}
use Rattle.tp_lines.specs.Ends.{ended_said}
use Rattle.tp_lines.specs.Fences.{name_unless}
use Rattle.tp_lines.specs.Names.{NameView}
use Rattle.tp_lines.specs.Servers.{server_said}
use Rattle.tp_lines.specs.Statuses.{standing_with, status_of}
use Rattle.tp_lines.specs.Words.{long_at, name_and_number, name_and_two, name_at, number_unless, one_name}
use Rattle.tp_lines.specs.Words.{one_number, place_at, short_at, three_numbers, worker_stage_at}

-- ---- settings

-- `limit N`
unfoldable pub limit_said : List (List ℕ) → Result HeadLine LineFault
limit_said ws = do
  n ← one_number ws
  _ ← require (nat_le 1 n && nat_le n MAX_ATTEMPTS) BadLimits
  Ok (head.Limit n)

-- `keep N`
unfoldable pub keep_said : List (List ℕ) → Result HeadLine LineFault
keep_said ws = do
  n ← one_number ws
  _ ← require (nat_le 1 n) BadLimits
  Ok (head.Keep n)

-- ---- workers, and what was forgotten

-- `worker NAME STAGE`
unfoldable pub worker_said : List (List ℕ) → Result HeadLine LineFault
worker_said ws = do
  w ← two ws
  name ← name_at w.0
  stage ← worker_stage_at w.1
  Ok (head.Worker name stage)

-- `settled STAGE CONSUMED KILLED`
unfoldable pub settled_said : List (List ℕ) → Result HeadLine LineFault
settled_said ws = do
  w ← three ws
  stage ← short_at w.0
  consumed ← long_at w.1
  killed ← long_at w.2
  Ok (head.Settled stage consumed killed)

-- ---- names

-- `register NAME`, or `register NAME new`
abbrev pub register_said : List (List ℕ) → Result HeadLine LineFault
register_said (name ∷ []) = name_at name >>= λ n. Ok (head.Register n)
register_said (name ∷ how ∷ []) =
    if bytes_eq how (codes "new") then (name_at name >>= λ n. Ok (head.Renew n)) else Err Syntax
register_said ws = Err Syntax

-- `hand NAME ID UNIT TRY`
unfoldable pub hand_of : List ℕ × List ℕ × List ℕ × List ℕ → Result HeadLine LineFault
hand_of (name, id, unit, tries) = do
  name ← name_at name
  id ← long_at id
  unit ← long_at unit
  tries ← short_at tries
  Ok (head.Hand name id unit tries)

-- TRY is 0 where it is missing
abbrev pub hand_said : List (List ℕ) → Result HeadLine LineFault
hand_said (name ∷ id ∷ unit ∷ []) = hand_of (name, id, unit, codes "0")
hand_said (name ∷ id ∷ unit ∷ tries ∷ []) = hand_of (name, id, unit, tries)
hand_said ws = Err Syntax

-- ---- elements

-- ROUNDS or ROUNDS:EARLIER
abbrev pub rounds_of : List (List ℕ) → Result (ℕ × ℕ) LineFault
rounds_of (rounds ∷ []) = number_at 255 rounds >>= λ n. Ok (n, 0)
rounds_of (rounds ∷ earlier ∷ []) = number_at 255 rounds >>= λ n. number_at 255 earlier >>= λ m. Ok (n, m)
rounds_of ws = Err Syntax

abbrev pub rounds_at : List ℕ → Result (ℕ × ℕ) LineFault
rounds_at w = rounds_of (slice_split (λ b. b == 58) w)

-- the words of an `element` line, each in its place
pub record ElementWords : Type 0 where
  pub id : List ℕ
  pub place : List ℕ
  pub root : List ℕ
  pub maker : List ℕ
  pub owner : List ℕ
  pub rounds : List ℕ
  pub standing : Standing
  pub numbers : List (List ℕ)

-- ID STAGE:W0:W1:W2:W3 ROOT MAKER OWNER ROUNDS:EARLIER STATUS ..
unfoldable pub element_words : List (List ℕ) → Result ElementWords LineFault
element_words (id ∷ place ∷ root ∷ maker ∷ owner ∷ rounds ∷ how ∷ numbers) = do
  _ ← require (colons place == 4 && nat_le (colons rounds) 1) Syntax
  standing ← standing_with how numbers
  Ok (record {
    id = id;
    place = place;
    root = root;
    maker = maker;
    owner = owner;
    rounds = rounds;
    standing = standing;
    numbers = numbers;
  })
element_words ws = Err Syntax

-- its root, the unit that made it unless a client did, and its owner unless it is nobody's
unfoldable pub origin_of : ElementWords → Result (ℕ × Option ℕ × Option ℕ) LineFault
origin_of w = do
  root ← long_at w.root
  maker ← number_unless (codes "client") w.maker
  owner ← number_unless (codes "nobody") w.owner
  Ok (root, maker, owner)

-- an element, and how it stands
unfoldable pub element_of : ElementWords → Result HeadLine LineFault
element_of w = do
  id ← long_at w.id
  place ← place_at w.place
  origin ← origin_of w
  rounds ← rounds_at w.rounds
  status ← status_of w.standing w.numbers
  Ok (head.Element id (record {
    root = origin.0;
    by = origin.1;
    owner = origin.2;
    body = place.1;
    status = status;
    stage = place.0;
    rounds = rounds.0;
    earlier = rounds.1;
  }))

-- ---- clients

-- the words of a `client` line, each in its place
pub record ClientWords : Type 0 where
  pub name : List ℕ
  pub owner : List ℕ
  pub sent : List ℕ
  pub element : List ℕ
  pub received : List ℕ
  pub reply : List ℕ
  pub root : List ℕ
  pub body : List ℕ
  pub epoch : List ℕ
  pub said : List ℕ
  pub note : List ℕ

-- EPOCH STAGE:W0:W1:W2:W3 NOTE; where they are missing this is the first epoch, and the others aren't known
abbrev pub later_words : List (List ℕ) → Result (List ℕ × List ℕ × List ℕ) LineFault
later_words [] = Ok (codes "1", codes "0:0:0:0:0", codes "-")
later_words (epoch ∷ said ∷ note ∷ []) = require (colons said == 4) Syntax >>= λ _. Ok (epoch, said, note)
later_words ws = Err Syntax

-- NAME OWNER SENT ELEMENT RECEIVED REPLY ROOT W0:W1:W2:W3 EPOCH STAGE:W0:W1:W2:W3 NOTE
unfoldable pub client_words : List (List ℕ) → Result ClientWords LineFault
client_words (name ∷ owner ∷ sent ∷ element ∷ received ∷ reply ∷ root ∷ body ∷ others) = do
  _ ← require (colons body == 3) Syntax
  later ← later_words others
  Ok (record {
    name = name;
    owner = owner;
    sent = sent;
    element = element;
    received = received;
    reply = reply;
    root = root;
    body = body;
    epoch = later.0;
    said = later.1;
    note = later.2;
  })
client_words ws = Err Syntax

-- its number, and what it sent
unfoldable pub sends_of : ClientWords → Result (ℕ × ℕ × ℕ) LineFault
sends_of w = do
  owner ← long_at w.owner
  sent ← long_at w.sent
  element ← long_at w.element
  Ok (owner, sent, element)

-- what it received
unfoldable pub receives_of : ClientWords → Result (ℕ × ℕ × ℕ) LineFault
receives_of w = do
  received ← long_at w.received
  reply ← long_at w.reply
  root ← long_at w.root
  Ok (received, reply, root)

-- its epoch, the words of its last send, and what it noted
unfoldable pub later_of : ClientWords → Result (ℕ × (ℕ × List ℕ) × Option NameView) LineFault
later_of w = do
  note ← name_unless w.note
  epoch ← long_at w.epoch
  said ← place_at w.said
  Ok (epoch, said, note)

-- what is noted of it
unfoldable pub note_of : ClientWords → Result ClientNote LineFault
note_of w = do
  sends ← sends_of w
  receives ← receives_of w
  body ← body_at w.body
  later ← later_of w
  Ok (record {
    owner = sends.0;
    sent = sends.1;
    element = sends.2;
    received = receives.0;
    reply = receives.1;
    root = receives.2;
    body = body;
    epoch = later.0;
    sent_stage = later.1.0;
    sent_body = later.1.1;
    note = later.2;
  })

-- `client NAME ..`: the words come first, then the name, then the numbers
unfoldable pub client_said : List (List ℕ) → Result HeadLine LineFault
client_said ws = do
  w ← client_words ws
  name ← name_at w.name
  note ← note_of w
  Ok (head.Client name note)

-- ---- all of them

-- what a line of this first word says, by the words after it
abbrev pub head_said : HeadVerb → List (List ℕ) → Result HeadLine LineFault
head_said verb.Limit ws = limit_said ws
head_said verb.Max ws = one_number ws >>= λ n. Ok (head.Max n)
head_said verb.Keep ws = keep_said ws
head_said verb.Server ws = server_said ws >>= λ server. Ok (head.Server server)
head_said verb.Start ws = name_and_two ws >>= λ w. Ok (head.Start w.0 w.1 w.2)
head_said verb.Worker ws = worker_said ws
head_said verb.Register ws = register_said ws
head_said verb.Numbers ws = three_numbers ws >>= λ n. Ok (head.Numbers n.0 n.1 n.2)
head_said verb.Element ws = element_words ws >>= λ w. element_of w
head_said verb.Over ws = one_number ws >>= λ root. Ok (head.Over root)
head_said verb.Settled ws = settled_said ws
head_said verb.Hand ws = hand_said ws
head_said verb.Prepared ws = one_name ws >>= λ name. Ok (head.Prepared name)
head_said verb.Dropped ws = one_name ws >>= λ name. Ok (head.Dropped name)
head_said verb.From ws = name_and_number ws >>= λ w. Ok (head.From w.0 w.1)
head_said verb.Ended ws = ended_said ws
head_said verb.Client ws = client_said ws
