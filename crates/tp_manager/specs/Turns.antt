-- Claims in turn, one after another.
use Rattle.std.specs.Prelude.{◌≡◌, ◌≢◌, ◌⊎◌, ℕ, List, [], ◌∷◌, ◌++◌, Some}
use Rattle.tp_model.specs.declared.types.Element.{Element}
use Rattle.tp_model.specs.declared.types.Limits.{Limits}
use Rattle.tp_model.specs.declared.types.Work.{Work}
use Rattle.tp_model.specs.History.{In, element_of, status_of}
use Rattle.tp_manager.specs.Calls.{AtPoint, IsWaiting, TakesNext, opening}
use Rattle.tp_manager.specs.Shown.{PassShown, turn_of}

-- a claim in turn of this stage, before and after, and what it took
pub record Taking : Type 0 where
  pub stage : ℕ
  pub old : PassShown
  pub new : PassShown
  pub work : Work

-- the pass goes on as the claim before left it, whatever other calls it made between: those leave all turns
abbrev pub Resumes : PassShown → PassShown → Type 0
Resumes before next = (stage : ℕ) → turn_of next stage ≡ turn_of before stage

-- these are claims in turn by a pass, of any stages, in their order
abbrev pub AreTurns : Limits → PassShown → List Taking → Type 0
AreTurns l before [] = Unit {0}
AreTurns l before (t ∷ ts) = Resumes before t.old × TakesNext l t.stage t.work t.old t.new
    × AreTurns l t.new ts

-- the claim took the element, or had a point at which that did not wait
abbrev pub HasTurn : Limits → Element → Taking → Type 0
HasTurn l y t = (y.id ≡ t.work.element.id)
    ⊎ AtPoint t.old t.new (λ h. ¬ IsWaiting (status_of l.attempts h y.id))

-- where a pass takes an element in turn, and takes it in turn again after the claims ts, each other element
-- of the stage that was born by then has its turn in a claim of the stage between the two, or in the second
abbrev pub EachHasItsTurn : Limits → Type 0
EachHasItsTurn l =
    (first again : Taking) (ts : List Taking) (y : Element)
    → TakesNext l first.stage first.work first.old first.new → AreTurns l first.new (ts ++ again ∷ [])
    → again.stage ≡ first.stage → again.work.element.id ≡ first.work.element.id
    → y.stage ≡ first.stage → y.id ≢ first.work.element.id
    → ((t : Taking) → In t (ts ++ again ∷ []) → element_of (opening t.old t.new) y.id ≡ Some y)
    → (t : Taking) × In t (ts ++ again ∷ []) × (t.stage ≡ first.stage) × HasTurn l y t
