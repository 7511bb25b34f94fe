-- How far a claim raises the marks that a pass remembers. In each definition `old` is what the pass shows
-- before the call, and `new` what it shows after it.
use Rattle.std.specs.Prelude.{◌≡◌, ◌⊎◌, ℕ, ◌+◌, ◌*◌, ◌<◌, ◌≤◌, List, Some, slice_index}
use Rattle.tp_model.specs.declared.types.Claimed.{Claimed}
use Rattle.tp_model.specs.declared.types.Claimed.TheVariants as claimeds
use Rattle.tp_model.specs.declared.types.Element.{Element}
use Rattle.tp_model.specs.declared.types.Limits.{Limits}
use Rattle.tp_model.specs.declared.types.TheConstants.{BLOCK_ROWS}
use Rattle.tp_model.specs.declared.event.Event.{Event}
use Rattle.tp_model.specs.History.{IsSettled, IsUnborn, element_of, status_of}
use Rattle.tp_rule.specs.Steps.{MayBeBorn}
use Rattle.tp_model.specs.Steps.{part_rows}
use Rattle.tp_manager.specs.Bounds.{claim_steps_left}
use Rattle.tp_manager.specs.Calls.{AtPoint, Follows}
use Rattle.tp_manager.specs.Shown.{AllRise, PassShown, low_of, marks_of}

-- row i may be of use to claims of the stage: an element of the stage is born in it that is neither consumed
-- nor killed; or none is, and one may be born there yet
abbrev pub IsOfUse : Limits → ℕ → ℕ → List Event → Type 0
IsOfUse l stage i h = ((x : Element) → element_of h i ≡ Some x
    → (x.stage ≡ stage) × ¬ IsSettled (status_of l.attempts h i))
    × (IsUnborn h i → MayBeBorn l h i)

-- the mark that the pass remembers of part p is the part's end, or its row may have been of use at a point of
-- the call
abbrev pub RestsInPart : Limits → ℕ → ℕ → PassShown → PassShown → Type 0
RestsInPart l stage p old new = (low_of new stage p ≡ l.rows)
    ⊎ AtPoint old new (IsOfUse l stage (p * l.rows + low_of new stage p))

-- that of the spare rows is after the blocks that the pass saw drawn, or its row may have been of use
abbrev pub RestsInBlocks : Limits → ℕ → PassShown → PassShown → Type 0
RestsInBlocks l stage old new = (BLOCK_ROWS * new.seen_blocks ≤ low_of new stage l.parts)
    ⊎ AtPoint old new (IsOfUse l stage (part_rows l + low_of new stage l.parts))

-- the claim came to row i: it found nothing, or took an element of that row or of one after it
abbrev pub ComesTo : ℕ → Claimed → Type 0
ComesTo i claimeds.NoUnit = ⊥
ComesTo i claimeds.Idle = Unit {0}
ComesTo i (claimeds.Work work) = i ≤ work.element.id

-- so the marks rest in each part that the claim came to, and in the spare blocks where it came to them
pub record RaisesMarks (l : Limits) (stage : ℕ) (old new : PassShown) (claimed : Claimed) : Type 0 where
  pub parts : (p : ℕ) → p < l.parts → ComesTo (p * l.rows) claimed → RestsInPart l stage p old new
  pub blocks : ComesTo (part_rows l) claimed → RestsInBlocks l stage old new

-- no row from `first` on and below `end` was of use to claims of the stage at a point of the call
abbrev pub WereUseless : Limits → ℕ → ℕ → ℕ → PassShown → PassShown → Type 0
WereUseless l stage first end old new = (i : ℕ) → first ≤ i → i < end → ¬ AtPoint old new (IsOfUse l stage i)

-- the first rows of each part, this many as `ns` has at its place, were of no use during a claim that came to
-- the part; and this many of the spare rows, for which it has the next number
pub record CountsUseless (l : Limits) (stage : ℕ) (ns : List ℕ) (claimed : Claimed)
    (old new : PassShown) : Type 0 where
  pub parts : (p : ℕ) → p < l.parts → 0 < slice_index ns p
      → ComesTo (p * l.rows) claimed × (slice_index ns p ≤ l.rows)
      × WereUseless l stage (p * l.rows) (p * l.rows + slice_index ns p) old new
  pub blocks : 0 < slice_index ns l.parts
      → ComesTo (part_rows l) claimed × (slice_index ns l.parts ≤ BLOCK_ROWS * new.seen_blocks)
      × WereUseless l stage (part_rows l) (part_rows l + slice_index ns l.parts) old new

-- of two claims of a stage by one pass, with whatever calls between, the second makes no step at those rows
abbrev pub FewAgain : Limits → ℕ → Type 0
FewAgain l stage = (ns : List ℕ) (claimed : Claimed) (old mid again new : PassShown)
    → RaisesMarks l stage old mid claimed → CountsUseless l stage ns claimed old mid
    → AllRise mid.lows again.lows
    → Follows (claim_steps_left l (marks_of again.lows stage)) again new
    → Follows (claim_steps_left l ns) again new
