-- What contracts see of a manager, of its keeper, and of a pass.
use Rattle.std.specs.Prelude.{◌≡◌, ℕ, ◌+◌, ◌≤◌, Option, List, [], ◌∷◌, length, map, slice_index}
use Rattle.std.specs.List.{slice_index_or}
use Rattle.atomic_table.specs.Seated.{TableId}
use Rattle.tp_model.specs.declared.types.Limits.{Limits}
use Rattle.tp_model.specs.declared.event.Event.{Event}
use Rattle.tp_model.specs.declared.trace.TraceEntry.{TraceEntry}
use Rattle.tp_model.specs.Passes.{PassView}
use Rattle.tp_rule.specs.Views.{hand}
use Rattle.tp_rule.specs.declared.view.Hand.{Hand}
use Rattle.tp_rule.specs.declared.view.View.{View}

-- a manager shows which table it has, and the limits that it was made with
pub record ManagerShown : Type 0 where
  pub table : TableId
  pub limits : Limits

-- a keeper shows these, how many passes it has given out, what those to come will have seen, and how many
-- steps they have made, all together
pub record KeeperShown : Type 0 where
  pub table : TableId
  pub limits : Limits
  pub given : ℕ
  pub seen : List Event
  pub steps : ℕ

-- a pass shows these, what the definitions say that a pass shows, the marks of each kind and part as it last
-- loaded or set them, or would have set them had not another pass raised them, how many spare blocks are
-- drawn by what it loaded, and for each stage the row after the element that it took last in its turn
-- (`claim_next`), 0 before
pub record PassShown : Type 0 where
  pub table : TableId
  pub limits : Limits
  pub number : ℕ
  pub seen : List Event
  pub mine : List Event
  pub open_unit : Option ℕ
  pub next : ℕ
  pub left : ℕ
  pub blocks : List ℕ
  pub trace : List TraceEntry
  pub lows : List (List ℕ)
  pub seen_blocks : ℕ
  pub from : List ℕ

-- the numbers of passes, in their order
abbrev pub numbers : List PassShown → List ℕ
numbers passes = map (λ p. p.number) passes

-- the steps of these passes, all together
abbrev pub steps_in : List Hand → ℕ
steps_in [] = 0
steps_in (a ∷ hands) = length a.trace + steps_in hands

-- what the definitions say that a pass shows
abbrev pub view_in : PassShown → PassView
view_in p = record {
  number = p.number;
  seen = p.seen;
  mine = p.mine;
  open_unit = p.open_unit;
  next = p.next;
  left = p.left;
  blocks = p.blocks;
  trace = p.trace;
}

-- the marks of kind c among them, one for each part
abbrev pub marks_of : List (List ℕ) → ℕ → List ℕ
marks_of lows c = slice_index_or lows c []

-- the mark of kind c of part p among them, and 0 before
abbrev pub low_of : PassShown → ℕ → ℕ → ℕ
low_of pass c p = slice_index (marks_of pass.lows c) p

-- the row at which the pass's next claim in turn of a stage begins
abbrev pub turn_of : PassShown → ℕ → ℕ
turn_of p stage = slice_index p.from stage

-- no mark of a kind is below what it was
abbrev pub NoneFalls : List ℕ → List ℕ → Type 0
NoneFalls lows lows' = (p : ℕ) → slice_index lows p ≤ slice_index lows' p

-- and none of any kind
abbrev pub AllRise : List (List ℕ) → List (List ℕ) → Type 0
AllRise lows lows' = (c : ℕ) → NoneFalls (marks_of lows c) (marks_of lows' c)

-- the pass comes from this manager's keeper
abbrev pub IsOf : ManagerShown → PassShown → Type 0
IsOf m p = (p.table ≡ m.table) × (p.limits ≡ m.limits)

-- it is this manager's keeper
abbrev pub IsKeptBy : ManagerShown → KeeperShown → Type 0
IsKeptBy m k = (k.table ≡ m.table) × (k.limits ≡ m.limits)

-- where a pass is, and what it remembers of marks, of the counter of drawn blocks, and of what it took last
pub record Spot : Type 0 where
  pub table : TableId
  pub lows : List (List ℕ)
  pub drawn : ℕ
  pub from : List ℕ

-- neither a mark nor that counter is below what it was
abbrev pub Climbs : Spot → Spot → Type 0
Climbs at at' = AllRise at.lows at'.lows × (at.drawn ≤ at'.drawn)

abbrev pub spot : TableId → List (List ℕ) → ℕ → List ℕ → Spot
spot table lows drawn from = record { table = table; lows = lows; drawn = drawn; from = from }

-- a pass there that knows this
abbrev pub shown : Spot → View → PassShown
shown at v = record {
  table = at.table;
  limits = v.limits;
  number = (hand v).number;
  seen = v.seen;
  mine = (hand v).mine;
  open_unit = (hand v).open_unit;
  next = (hand v).next;
  left = (hand v).left;
  blocks = (hand v).blocks;
  trace = (hand v).trace;
  lows = at.lows;
  seen_blocks = at.drawn;
  from = at.from;
}
