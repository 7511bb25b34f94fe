-- What holds of each state that a manager of one thread reaches.
use Rattle.std.specs.Prelude.{◌≡◌, ◌≢◌, ◌⊎◌, ℕ, ◌+◌, ◌*◌, ◌<◌, ◌≤◌, Some, None, List, length}
use Rattle.tp_model.specs.declared.types.Limits.{Limits}
use Rattle.tp_plain.specs.declared.pass_state.PassState.{PassState}
use Rattle.tp_model.specs.declared.event.Event.{Event}
use Rattle.tp_model.specs.declared.event.Event.TheVariants.{Enqueue, Claim, Commit, Abort, Kill, Requeue}
use Rattle.tp_model.specs.declared.types.Element.{Element}
use Rattle.tp_model.specs.History.{In, births, pass_of, IsUnborn, UnitClaim, claim_of, Aborted, end_of}
use Rattle.tp_model.specs.Steps.{AreLimits, IsBlock, IsOpen, IsLegal, IsPart, block_first}
use Rattle.tp_plain.specs.OneThread.{State, pass_at}

-- the rows from `next` on that are left to pass c, where this many spare blocks are drawn, are a run
pub record RunFits (l : Limits) (h : List Event) (drawn c next left : ℕ) : Type 0 where
  pub first : ℕ
  -- it reaches to the end of an area: of the pass's part, or of a drawn block
  pub area : IsPart l c first (next + left) ⊎ ((b : ℕ) × (b < drawn) × IsBlock l b first (next + left))
  pub begins : first ≤ next
  -- no row of it is born
  pub unborn : (i : ℕ) → next ≤ i → i < next + left → IsUnborn h i
  -- and the pass made all that is born in the area
  pub alone : (e : Event) (x : Element) → In e h → In x (births e) → first ≤ x.id → x.id < next + left
      → pass_of e ≡ c

-- what pass c has used, as the history says
pub record PassFits (l : Limits) (h : List Event) (drawn c : ℕ) (used : PassState) : Type 0 where
  pub run : RunFits l h drawn c used.next used.left
  pub claimed : used.claimed ≤ l.units
  pub unclaimed : (u : ℕ) → c * l.units + used.claimed ≤ u → u < c * l.units + l.units → claim_of h u ≡ None
  -- a unit of the pass that is open is in its hand
  pub holding : (u : ℕ) (t : UnitClaim) → IsOpen h u t → t.pass ≡ c → used.holding ≡ Some u
  -- the unit in its hand is open, unless it was aborted
  pub held : (u : ℕ) → used.holding ≡ Some u → end_of h u ≢ Some Aborted → (t : UnitClaim) × IsOpen h u t
      × (t.pass ≡ c)

-- what holds of each state that a run from the start reaches
pub record IsReachable (s : State) : Type 0 where
  pub limits : AreLimits s.limits
  pub legal : IsLegal s.limits s.history
  pub passes : length s.passes ≡ s.limits.parts
  pub fits : (c : ℕ) → c < s.limits.parts → PassFits s.limits s.history s.drawn c (pass_at s c)
  -- no two passes use one area
  pub apart : (c d : ℕ) → c < s.limits.parts → d < s.limits.parts
      → (pass_at s c).next + (pass_at s c).left ≡ (pass_at s d).next + (pass_at s d).left → c ≡ d
  -- and nothing is born in the blocks that are left
  pub drawn : s.drawn ≤ s.limits.spare
  pub undrawn : (i : ℕ) → block_first s.limits s.drawn ≤ i → IsUnborn s.history i

-- an Abort or a Kill by a pass with nothing in its hand
abbrev pub IsWithoutUnit : State → Event → Type 0
IsWithoutUnit s (Enqueue c e) = ⊥
IsWithoutUnit s (Claim c u i n) = ⊥
IsWithoutUnit s (Commit c u outs) = ⊥
IsWithoutUnit s (Abort c u) = (c < s.limits.parts) × ((pass_at s c).holding ≡ None)
IsWithoutUnit s (Kill c i) = (c < s.limits.parts) × ((pass_at s c).holding ≡ None)
IsWithoutUnit s (Requeue c i r) = ⊥
