-- What the words of a row say.
use Rattle.std.specs.Prelude.{◌≡◌, ◌≢◌, ℕ, ◌+◌, ◌*◌, ◌<◌, ◌≤◌, List, None, Some}
use Rattle.tp_model.specs.declared.types.Element.{Element}
use Rattle.tp_model.specs.declared.types.Limits.{Limits}
use Rattle.tp_model.specs.declared.event.Event.{Event}
use mathlib.Core.List.{IsPrefix}
use Rattle.tp_model.specs.History.{IsSettled, IsUnborn, element_of, end_of, status_of}
use Rattle.tp_model.specs.Steps.{IsArea, rows_of, tries}
use Rattle.tp_model.specs.Words.{ClaimWord, FreeWord, TakenWord, KilledWord, AgainWord}
use Rattle.tp_rule.specs.declared.packing.Head.{Head}
use Rattle.tp_rule.specs.declared.packing.Head.TheVariants.{Empty, Filled, Void}
use Rattle.tp_rule.specs.Words.{head_of}
use Rattle.tp_rule.specs.Rule.{IsDraft}
use Rattle.tp_rule.specs.Steps.{AllowsClaim, HasDead, Knows, MayBeBorn}
use Rattle.tp_rule.specs.declared.view.Known.TheVariants.{RowHead}
use Rattle.tp_rule.specs.declared.view.View.{View}
use Rattle.tp_manager.specs.Calls.{IsWaiting}
use Rattle.tp_manager.specs.declared.scanning.Stand.{Stand}
use Rattle.tp_manager.specs.declared.scanning.Stand.TheVariants.{Ready, Over, Busy}
use Rattle.tp_manager.specs.declared.row_reads.Birth.{Birth}
use Rattle.tp_manager.specs.declared.row_reads.Contents.{Contents}
use Rattle.tp_manager.specs.declared.row_reads.Contents.TheVariants.{Holds, DeadDraft, Nothing}

-- what the head says that the pass found in row i: it is that of the born element, or empty or naming a unit
-- where none is born; and the pass remembers it
pub record HeadFound (v : View) (i : ℕ) (head : Head) : Type 0 where
  pub born : (e : Element) → element_of v.seen i ≡ Some e → head ≡ head_of e
  pub draft : IsUnborn v.seen i → IsDraft head
  pub knows : Knows v (RowHead i head)
  -- where it names a unit that has not ended, an element may be born there
  pub ahead : (stage root u : ℕ) → head ≡ Filled stage root (Some u) → end_of v.seen u ≡ None
      → MayBeBorn v.limits v.seen i

-- a scan goes on from row i to the row `next`, which is after it, and at most the first one after its part
-- or spare block
pub record GoesOn (l : Limits) (i next : ℕ) : Type 0 where
  pub on : i < next
  pub inside : next ≤ rows_of l
  pub area : (first end : ℕ) → IsArea l first end → first ≤ i → i < end → next ≤ end

-- an element with this head is born in row i
abbrev pub IsBornAs : List Event → ℕ → Birth → Type 0
IsBornAs h i b = (e : Element) × (element_of h i ≡ Some e) × (head_of e ≡ Filled b.stage b.root b.by)

-- row i, whose head was found to be this, holds this
abbrev pub Contains : View → ℕ → Head → Contents → Type 0
Contains v i head (Holds birth) = IsBornAs v.seen i birth × (head ≡ Filled birth.stage birth.root birth.by)
Contains v i head DeadDraft = IsUnborn v.seen i × HasDead v i
Contains v i head Nothing = IsUnborn v.seen i × (head ≢ Empty → head ≢ Void → MayBeBorn v.limits v.seen i)

-- the element of row i, whose claim word was found in history a to be w, has this status in history b: where
-- that claim is still there the next attempt may begin; or it is consumed or killed; or there is a history
-- from a to b in which it doesn't wait
abbrev pub HasStand : Limits → ℕ → List Event → List Event → ClaimWord → Stand → Type 0
HasStand l i a b w (Ready n) = AllowsClaim l b w (n + 1) × (n < l.attempts)
HasStand l i a b w Over = IsSettled (status_of l.attempts b i)
HasStand l i a b w Busy = (p : List Event) × IsPrefix a p × IsPrefix p b
    × ¬ IsWaiting (status_of l.attempts p i)

-- there are at most this many attempts from this claim on, in all rounds; those of the rounds before it are
-- over
abbrev pub IsEnough : Limits → ℕ → ClaimWord → Type 0
IsEnough l left FreeWord = tries l.attempts ≤ left
IsEnough l left (TakenWord n u r) = tries l.attempts < r * l.attempts + n + left
IsEnough l left (KilledWord n u r) = Unit {0}
IsEnough l left (AgainWord r) = tries l.attempts ≤ r * l.attempts + left
