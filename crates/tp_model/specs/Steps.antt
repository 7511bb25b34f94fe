-- Which event may come next, and which histories are legal.
use Rattle.std.specs.Prelude.{◌≡◌, ◌⊎◌, ℕ, ◌+◌, ◌-◌, ◌*◌, ◌<◌, ◌≤◌, Some, None, List, [], ◌∷◌, ◌++◌, length}
use Rattle.tp_model.specs.declared.types.Element.{Element}
use Rattle.tp_model.specs.declared.types.Limits.{Limits}
use Rattle.tp_model.specs.declared.types.Status.{Status}
use Rattle.tp_model.specs.declared.types.Status.TheVariants.{Waiting, Held, Consumed, Parked, Killed}
use Rattle.tp_model.specs.declared.event.Event.{Event}
use Rattle.tp_model.specs.declared.event.Event.TheVariants.{Enqueue, Claim, Commit, Abort, Kill, Requeue}
use Rattle.tp_model.specs.declared.types.TheConstants.{BLOCK_ROWS, BODY_WORDS, MAX_ATTEMPTS, MAX_BLOCKS}
use Rattle.tp_model.specs.declared.types.TheConstants.{MAX_PART_ROWS, MAX_PASSES, MAX_ROUNDS, MAX_STAGE}
use Rattle.tp_model.specs.declared.types.TheConstants.{MAX_OUTPUTS, MAX_UNITS, REPLY_STAGE}
use Rattle.tp_model.specs.History.{In, births, element_of, status_of, rounds, UnitClaim, claim_of, end_of}
use Rattle.tp_model.specs.History.{first_id, pass_of}

-- the limits are in their ranges
pub record AreLimits (l : Limits) : Type 0 where
  pub parts : (1 ≤ l.parts) × (l.parts ≤ MAX_PASSES)
  pub rows : (1 ≤ l.rows) × (l.rows ≤ MAX_PART_ROWS)
  pub units : (1 ≤ l.units) × (l.units ≤ MAX_UNITS)
  pub attempts : (1 ≤ l.attempts) × (l.attempts ≤ MAX_ATTEMPTS)
  pub spare : l.spare ≤ MAX_BLOCKS

-- how many attempts an element has in all its rounds, the first among them, where this many are allowed in
-- each
abbrev pub tries : ℕ → ℕ
tries attempts = (MAX_ROUNDS + 1) * attempts

-- how often its claim word can change before a kill: at each attempt, and at each further round
abbrev pub changes : ℕ → ℕ
changes attempts = tries attempts + MAX_ROUNDS

-- how many rows the parts have
abbrev pub part_rows : Limits → ℕ
part_rows l = l.parts * l.rows

-- how many rows there are: those of the parts, and after them those of the spare blocks
abbrev pub rows_of : Limits → ℕ
rows_of l = part_rows l + BLOCK_ROWS * l.spare

-- how many rows there can be
abbrev pub max_rows : ℕ
max_rows = MAX_PASSES * MAX_PART_ROWS + BLOCK_ROWS * MAX_BLOCKS

-- how many units there are
abbrev pub units_of : Limits → ℕ
units_of l = l.parts * l.units

-- row i is one of the part of pass c
abbrev pub IsRowOf : Limits → ℕ → ℕ → Type 0
IsRowOf l c i = (c < l.parts) × (c * l.rows ≤ i) × (i < c * l.rows + l.rows)

-- the first row of spare block b
abbrev pub block_first : Limits → ℕ → ℕ
block_first l b = part_rows l + BLOCK_ROWS * b

-- row i is one of spare block b
abbrev pub IsRowOfBlock : Limits → ℕ → ℕ → Type 0
IsRowOfBlock l b i = (b < l.spare) × (block_first l b ≤ i) × (i < block_first l b + BLOCK_ROWS)

-- the rows of part c are those from `first` up to `end`
abbrev pub IsPart : Limits → ℕ → ℕ → ℕ → Type 0
IsPart l c first end = (c < l.parts) × (first ≡ c * l.rows) × (end ≡ c * l.rows + l.rows)

-- the rows of spare block b are those from `first` up to `end`
abbrev pub IsBlock : Limits → ℕ → ℕ → ℕ → Type 0
IsBlock l b first end = (b < l.spare) × (first ≡ block_first l b) × (end ≡ block_first l b + BLOCK_ROWS)

-- the rows from `first` up to `end` are an area: a part, or a spare block
abbrev pub IsArea : Limits → ℕ → ℕ → Type 0
IsArea l first end = ((c : ℕ) × IsPart l c first end) ⊎ ((b : ℕ) × IsBlock l b first end)

-- pass c made all that is born in spare block b
abbrev pub IsBlockFor : Limits → List Event → ℕ → ℕ → Type 0
IsBlockFor l h c b = (e : Event) (x : Element) → In e h → In x (births e) → IsRowOfBlock l b x.id
    → pass_of e ≡ c

-- pass c may use row i: it is one of its part, or a spare one in whose block no other pass made anything
abbrev pub MayUse : Limits → List Event → ℕ → ℕ → Type 0
MayUse l h c i = IsRowOf l c i ⊎ ((c < l.parts) × (b : ℕ) × IsRowOfBlock l b i × IsBlockFor l h c b)

-- unit u is one of pass c's
abbrev pub IsUnitOf : Limits → ℕ → ℕ → Type 0
IsUnitOf l c u = (c < l.parts) × (c * l.units ≤ u) × (u < c * l.units + l.units)

-- a stage that servers take from
abbrev pub IsServerStage : ℕ → Type 0
IsServerStage s = (1 ≤ s) × (s ≤ MAX_STAGE)

-- a stage that an output may go to: those, and the replies
abbrev pub IsStage : ℕ → Type 0
IsStage s = (1 ≤ s) × (s ≤ REPLY_STAGE)

-- a whole body: as many words as each body has
abbrev pub IsBody : List ℕ → Type 0
IsBody body = length body ≡ BODY_WORDS

-- unit u was claimed, and neither committed nor aborted
pub record IsOpen (h : List Event) (u : ℕ) (t : UnitClaim) : Type 0 where
  pub claimed : claim_of h u ≡ Some t
  pub unfinished : end_of h u ≡ None

-- Enqueue c e may come next
pub record MayEnqueue (l : Limits) (h : List Event) (c : ℕ) (e : Element) : Type 0 where
  pub row : MayUse l h c e.id
  pub unborn : element_of h e.id ≡ None
  pub stage : IsServerStage e.stage
  pub body : IsBody e.body
  pub root : e.root ≡ e.id
  pub by : e.by ≡ None

-- Claim c u i n may come next
pub record MayClaim (l : Limits) (h : List Event) (c u i n : ℕ) : Type 0 where
  pub unit : IsUnitOf l c u
  pub unused : claim_of h u ≡ None
  pub alone : (v : ℕ) (t : UnitClaim) → t.pass ≡ c → ¬ IsOpen h v t
  pub item : Element
  pub born : element_of h i ≡ Some item
  pub stage : IsServerStage item.stage
  pub attempt : 1 ≤ n
  pub waits : status_of l.attempts h i ≡ Waiting (n - 1)

-- e may be the output with this id of unit u of pass c, for a request with this root
pub record IsOutput (l : Limits) (h : List Event) (c u root id : ℕ) (e : Element) : Type 0 where
  pub place : e.id ≡ id
  pub row : MayUse l h c id
  pub unborn : element_of h id ≡ None
  pub stage : IsStage e.stage
  pub body : IsBody e.body
  pub by : e.by ≡ Some u
  pub root_is : e.root ≡ root

-- and these may be its outputs, with ids one after another
abbrev pub AreOutputs : Limits → List Event → ℕ → ℕ → ℕ → ℕ → List Element → Type 0
AreOutputs l h c u root id [] = Unit {0}
AreOutputs l h c u root id (e ∷ es) = IsOutput l h c u root id e × AreOutputs l h c u root (id + 1) es

-- Commit c u outs may come next
pub record MayCommit (l : Limits) (h : List Event) (c u : ℕ) (outs : List Element) : Type 0 where
  pub taking : UnitClaim
  pub open_unit : IsOpen h u taking
  pub own : taking.pass ≡ c
  pub item : Element
  pub taken : element_of h taking.item ≡ Some item
  pub few : length outs ≤ MAX_OUTPUTS
  pub outputs : AreOutputs l h c u item.root (first_id outs) outs

-- Abort c u may come next: any pass may abort an open unit
pub record MayAbort (l : Limits) (h : List Event) (c u : ℕ) : Type 0 where
  pub pass : c < l.parts
  pub taking : UnitClaim
  pub open_unit : IsOpen h u taking

-- an element with this status may be killed
abbrev pub IsKillable : Status → Type 0
IsKillable (Waiting n) = Unit {0}
IsKillable (Held u n) = ⊥
IsKillable (Consumed u) = ⊥
IsKillable (Parked n) = Unit {0}
IsKillable Killed = ⊥

-- Kill c i may come next: any pass may kill an element that waits or is parked
pub record MayKill (l : Limits) (h : List Event) (c i : ℕ) : Type 0 where
  pub pass : c < l.parts
  pub item : Element
  pub born : element_of h i ≡ Some item
  pub free : IsKillable (status_of l.attempts h i)

-- an element with this status is parked
abbrev pub IsParked : Status → Type 0
IsParked s = (n : ℕ) × (s ≡ Parked n)

-- Requeue c i r may come next: any pass may give a parked element its next round
pub record MayRequeue (l : Limits) (h : List Event) (c i r : ℕ) : Type 0 where
  pub pass : c < l.parts
  pub item : Element
  pub born : element_of h i ≡ Some item
  pub parked : IsParked (status_of l.attempts h i)
  pub next : r ≡ rounds h i + 1
  pub few : r ≤ MAX_ROUNDS

-- the event may come next
abbrev pub Step : Limits → List Event → Event → Type 0
Step l h (Enqueue c e) = MayEnqueue l h c e
Step l h (Claim c u i n) = MayClaim l h c u i n
Step l h (Commit c u outs) = MayCommit l h c u outs
Step l h (Abort c u) = MayAbort l h c u
Step l h (Kill c i) = MayKill l h c i
Step l h (Requeue c i r) = MayRequeue l h c i r

-- each event may come after those before it
pub record IsLegal (l : Limits) (h : List Event) : Type 0 where
  pub each : (before : List Event) (e : Event) (after : List Event) → before ++ e ∷ after ≡ h
      → Step l before e
