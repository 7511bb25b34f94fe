-- What passes have in hand, and how it goes on in another manager.
use Rattle.std.specs.Prelude.{◌≡◌, ℕ, ◌/◌, IfSome, Option, None, Some, List, max}
use Rattle.tp_model.specs.declared.types.Limits.{Limits}
use Rattle.tp_model.specs.declared.types.Status.{Status}
use Rattle.tp_model.specs.declared.types.Status.TheVariants.{Held}
use Rattle.tp_model.specs.declared.event.Event.{Event}
use Rattle.tp_model.specs.History.{In, status_of}
use Rattle.tp_manager.specs.Shown.{PassShown}
use Rattle.tp_rollover.specs.declared.moved.Moved.{Moved}

-- the pass of these with this number has a unit open
abbrev pub HasOpen : List PassShown → ℕ → Type 0
HasOpen passes c = (p : PassShown) × In p passes × (p.number ≡ c) × (u : ℕ) × (p.open_unit ≡ Some u)

-- its open unit holds element i
pub record HasInHand (k : Limits) (g : List Event) (passes : List PassShown) (c i : ℕ) : Type 0 where
  pub pass : PassShown
  pub among : In pass passes
  pub number : pass.number ≡ c
  pub unit : ℕ
  pub attempt : ℕ
  pub in_hand : pass.open_unit ≡ Some unit
  pub holds : status_of k.attempts g i ≡ Held unit attempt

-- the pass whose unit it is
abbrev pub holder_of : Limits → ℕ → ℕ
holder_of l u = u / max l.units 1

-- a unit of pass c holds an element
abbrev pub PassHolds : Limits → List Event → ℕ → Type 0
PassHolds l h c = (i u n : ℕ) × (status_of l.attempts h i ≡ Held u n) × (holder_of l u ≡ c)

-- an element with this status is named with the pass that holds it, where one does
abbrev pub NamesHolder : Limits → Status → Option ℕ → Type 0
NamesHolder l (Held u n) holder = holder ≡ Some (holder_of l u)
NamesHolder l other holder = holder ≡ None

-- pass c is named as the holder of one
abbrev pub IsNamedHolder : ℕ → List Moved → Type 0
IsNamedHolder c moved = (m : Moved) × In m moved × (m.holder ≡ Some c)

-- a pass that is named as a holder has just that in hand, and the others have nothing in hand
pub record AreHolders (k : Limits) (g : List Event) (passes : List PassShown) (moved : List Moved)
    : Type 0 where
  pub held : (m : Moved) → In m moved → IfSome m.holder (λ c. HasInHand k g passes c m.new)
  pub free : (p : PassShown) → In p passes → ¬ IsNamedHolder p.number moved → p.open_unit ≡ None

-- What a pass held in the old manager, where it had a unit open, the pass of that number has in hand in the
-- new one. No other pass has anything in hand there: one whose unit was lost, since what it took was killed,
-- cancelled or released, has nothing.
pub record HandsGoOn (l k : Limits) (h g : List Event) (olds news : List PassShown) (moved : List Moved)
    : Type 0 where
  pub named : (m : Moved) → In m moved → NamesHolder l (status_of l.attempts h m.old) m.holder
  pub had : (m : Moved) → In m moved → (u n : ℕ) → status_of l.attempts h m.old ≡ Held u n
      → HasOpen olds (holder_of l u)
  pub held : (m : Moved) → In m moved → (u n : ℕ) → status_of l.attempts h m.old ≡ Held u n
      → HasInHand k g news (holder_of l u) m.new
  pub free : (p : PassShown) → In p news → ¬ PassHolds l h p.number → p.open_unit ≡ None
