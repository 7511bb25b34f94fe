-- What is told is read again: the lines that a dump has, and what a session reads of them.
use Rattle.std.specs.Prelude.{◌≡◌, ◌<◌, ◌≤◌, ◌≢◌, ◌^◌, ⊤, ℕ, true, List, [], ◌∷◌, Option, Some, None, Ok}
use Rattle.std.specs.Prelude.{is_ok, length}
use Rattle.tp_model.specs.History.{In}
use Rattle.tp_model.specs.declared.types.TheConstants.{MAX_ATTEMPTS, MAX_OUTPUTS}
use Rattle.tp_server.specs.Check.{check_of}
use Rattle.tp_server.specs.declared.recipe.AmountFrom.{AmountFrom}
use Rattle.tp_server.specs.declared.recipe.AmountFrom.TheVariants as amounts
use Rattle.tp_server.specs.declared.recipe.KeyFrom.{KeyFrom}
use Rattle.tp_server.specs.declared.recipe.KeyFrom.TheVariants as keys
use Rattle.tp_server.specs.declared.recipe.Output.{Output}
use Rattle.tp_store.specs.declared.element.Element.{Element}
use Rattle.tp_store.specs.declared.element.Status.{Status}
use Rattle.tp_store.specs.declared.element.Status.TheVariants as status
use Rattle.tp_store.specs.declared.element.TheConstants.{LAST_STAGE, REPLY_STAGE}
use Rattle.tp_lines.specs.Grammar.{line_said}
use Rattle.tp_lines.specs.HeadTexts.{head_text}
use Rattle.tp_lines.specs.Lines.{ServerLineView}
use Rattle.tp_lines.specs.Names.{NameView, is_name}
use Rattle.tp_lines.specs.declared.line.ClientNote.{ClientNote}
use Rattle.tp_lines.specs.declared.line.HeadLine.{HeadLine}
use Rattle.tp_lines.specs.declared.line.HeadLine.TheVariants as head
use Rattle.tp_lines.specs.declared.line.Line.TheVariants as line
use Rattle.tp_lines.specs.declared.line.UnitEnd.{UnitEnd}
use Rattle.tp_lines.specs.declared.line.UnitEnd.TheVariants as end

-- numbers of 64 bits
abbrev pub IsLong : ℕ → Type 0
IsLong n = n < 2 ^ 64

abbrev pub IsLongOrNone : Option ℕ → Type 0
IsLongOrNone None = ⊤
IsLongOrNone (Some n) = IsLong n

-- a name as there are names
abbrev pub IsNamed : NameView → Type 0
IsNamed name = is_name name.letters ≡ true

abbrev pub IsNamedOrNone : Option NameView → Type 0
IsNamedOrNone None = ⊤
IsNamedOrNone (Some name) = IsNamed name

-- four words of 64 bits
abbrev pub IsBody64 : List ℕ → Type 0
IsBody64 (a ∷ b ∷ c ∷ d ∷ []) = IsLong a × IsLong b × IsLong c × IsLong d
IsBody64 other = ⊥

-- the numbers of an output
abbrev pub IsFitKey : KeyFrom → Type 0
IsFitKey keys.Same = ⊤
IsFitKey (keys.Fixed n) = IsLong n

abbrev pub IsFitAmount : AmountFrom → Type 0
IsFitAmount (amounts.Fixed n) = IsLong n
IsFitAmount other = ⊤

pub record IsFitOutput (o : Output) : Type 0 where
  pub stage : o.stage ≤ 255
  pub key : IsFitKey o.key
  pub amount : IsFitAmount o.amount

-- a server with a good recipe
pub record IsFitServer (s : ServerLineView) : Type 0 where
  pub named : IsNamed s.name
  pub stage : s.recipe.stage ≤ 255
  pub registers : s.recipe.registers ≤ 255
  pub word : (1 ≤ s.recipe.word) × (s.recipe.word ≤ 3)
  pub good : is_ok (check_of s.recipe) ≡ true
  pub few : length s.recipe.outputs.items ≤ MAX_OUTPUTS
  pub outputs : (o : Output) → In o s.recipe.outputs.items → IsFitOutput o

-- how an element stands
abbrev pub IsFitStatus : Status → Type 0
IsFitStatus (status.Waiting attempts) = attempts ≤ 255
IsFitStatus (status.Held unit attempt) = IsLong unit × (attempt ≤ 255)
IsFitStatus (status.Consumed unit) = IsLong unit
IsFitStatus (status.Parked attempts) = attempts ≤ 255
IsFitStatus status.Killed = ⊤

-- an element of any stage of 16 bits
pub record IsFitElement (e : Element) : Type 0 where
  pub root : IsLong e.root
  pub by : IsLongOrNone e.by
  pub owner : IsLongOrNone e.owner
  pub body : IsBody64 e.body
  pub status : IsFitStatus e.status
  pub stage : e.stage < 2 ^ 16
  pub rounds : e.rounds ≤ 255
  pub earlier : e.earlier ≤ 255

-- how a unit of work ended
abbrev pub IsFitEnd : UnitEnd → Type 0
IsFitEnd (end.Done id unit first count) = IsLong id × IsLong unit × IsLong first × IsLong count
IsFitEnd (end.Aborted id) = IsLong id
IsFitEnd (end.Lost id) = IsLong id

-- what is noted of a client
pub record IsFitNote (note : ClientNote) : Type 0 where
  pub owner : IsLong note.owner
  pub sent : IsLong note.sent
  pub element : IsLong note.element
  pub received : IsLong note.received
  pub reply : IsLong note.reply
  pub root : IsLong note.root
  pub body : IsBody64 note.body
  pub epoch : IsLong note.epoch
  pub sent_stage : note.sent_stage < 2 ^ 16
  pub sent_body : IsBody64 note.sent_body
  pub noted : IsNamedOrNone note.note

-- what lines may say
abbrev pub IsFitLine : HeadLine → Type 0
IsFitLine (head.Limit attempts) = (1 ≤ attempts) × (attempts ≤ MAX_ATTEMPTS)
IsFitLine (head.Max elements) = IsLong elements
IsFitLine (head.Keep requests) = (1 ≤ requests) × IsLong requests
IsFitLine (head.Server server) = IsFitServer server
IsFitLine (head.Start name k value) = IsNamed name × IsLong k × IsLong value
IsFitLine (head.Worker name stage) =
    IsNamed name × (1 ≤ stage) × (stage ≤ LAST_STAGE) × (stage ≢ REPLY_STAGE)
IsFitLine (head.Register name) = IsNamed name
IsFitLine (head.Renew name) = IsNamed name
IsFitLine (head.Numbers next units owners) = IsLong next × IsLong units × IsLong owners
IsFitLine (head.Element id element) = IsLong id × IsFitElement element
IsFitLine (head.Over root) = IsLong root
IsFitLine (head.Settled stage consumed killed) = (stage < 2 ^ 16) × IsLong consumed × IsLong killed
IsFitLine (head.Hand name id unit tries) = IsNamed name × IsLong id × IsLong unit × (tries < 2 ^ 16)
IsFitLine (head.Prepared name) = IsNamed name
IsFitLine (head.Dropped name) = IsNamed name
IsFitLine (head.From name id) = IsNamed name × IsLong id
IsFitLine (head.Ended name how) = IsNamed name × IsFitEnd how
IsFitLine (head.Client name note) = IsNamed name × IsFitNote note

-- the text of a line is read as that line
abbrev pub ToldAndRead : Type 0
ToldAndRead = (l : HeadLine) → IsFitLine l → line_said (head_text l) ≡ Ok (line.Head l)
