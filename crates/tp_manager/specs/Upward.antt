-- Of one pass, ids go up.
use Rattle.std.specs.Prelude.{◌≡◌, ℕ, ◌+◌, ◌<◌, ◌≤◌, Some}
use Rattle.tp_model.specs.declared.types.Element.{Element}
use Rattle.tp_model.specs.declared.types.Limits.{Limits}
use Rattle.tp_model.specs.declared.types.Work.{Work}
use Rattle.tp_model.specs.History.{element_of, status_of}
use Rattle.tp_model.specs.Passes.{IsPassView}
use Rattle.tp_manager.specs.Calls.{AtPoint, IsWaiting, Takes, UsesRows, opening}
use Rattle.tp_manager.specs.Shown.{PassShown, view_in}

-- the k rows from `first` on lie above all that the pass had used, and it uses those after them next
pub record GoesUp (k first : ℕ) (old new : PassShown) : Type 0 where
  pub above : old.next ≤ first
  pub next : new.next ≡ first + k

-- each call that uses rows does so, also where it draws a spare block: blocks are drawn in ascending order
abbrev pub IdsGoUp : Limits → Type 0
IdsGoUp l = (k first : ℕ) (old new : PassShown) → old.limits ≡ l
    → IsPassView l (view_in old) → IsPassView l (view_in new)
    → UsesRows k first old new → GoesUp k first old new

-- a pass used k rows from `first` on in the call from a to b, and m rows from `second` on in a later one,
-- from c to d
pub record UsesLater (l : Limits) (k first m second : ℕ) (a b c d : PassShown) : Type 0 where
  pub earlier : UsesRows k first a b
  pub between : b.next ≤ c.next
  pub later : UsesRows m second c d
  pub limits : (a.limits ≡ l) × (c.limits ≡ l)
  pub shows : IsPassView l (view_in a) × IsPassView l (view_in b)
  pub shows_later : IsPassView l (view_in c) × IsPassView l (view_in d)

-- first in, first out: where a claim takes what the later of two calls of one pass made, each element of the
-- stage that the earlier made, and that was born at the opening, has a point at which it did not wait
abbrev pub FirstInFirstOut : Limits → Type 0
FirstInFirstOut l = (k first m second stage : ℕ) (a b c d old new : PassShown) (work : Work) (x : Element)
    → UsesLater l k first m second a b c d → Takes l stage work old new → second ≤ work.element.id
    → x.id < first + k → x.stage ≡ stage → element_of (opening old new) x.id ≡ Some x
    → AtPoint old new (λ h. ¬ IsWaiting (status_of l.attempts h x.id))
