-- How a walk goes through a family. In each definition l are the table's limits, root is the id of the
-- request, `Left` says from which elements the walk has still to go on, and `gone` from which it has gone on.
use Rattle.std.specs.Prelude.{◌≡◌, ◌≢◌, ◌⊎◌, ℕ, zero, suc, ◌+◌, ◌*◌, ◌<◌, ◌≤◌, ◌==◌, ◌||◌, cond, Bool, true}
use Rattle.std.specs.Prelude.{false, Option, Some, None, IfSome, length, List, []}
use Rattle.tp_model.specs.declared.types.TheConstants.{REPLY_STAGE}
use Rattle.tp_model.specs.declared.types.Element.{Element}
use Rattle.tp_model.specs.declared.types.Limits.{Limits}
use Rattle.tp_model.specs.declared.types.Status.TheVariants.{Consumed, Killed}
use Rattle.tp_model.specs.declared.event.Event.{Event}
use Rattle.tp_model.specs.History.{UnitClaim, Committed, claim_of, element_of, end_of, status_of}
use Rattle.tp_model.specs.Families.{IsOfFamily, family}
use Rattle.tp_model.specs.Steps.{rows_of}
use Rattle.tp_rule.specs.declared.view.View.{View}
use Rattle.tp_manager.specs.declared.walking.Found.{Found}
use Rattle.tp_manager.specs.declared.walking.Found.TheVariants.{Outputs, Reply, Nothing}
use Rattle.tp_manager.specs.Bounds.{one_take_steps, walk_steps}
use Rattle.tp_manager.specs.Calls.{IsWaiting}
use Rattle.tp_manager.specs.Kills.{Slain}
use Rattle.tp_manager.specs.Lists.{HasReply, IsReply, killed_between}
use Rattle.tp_manager.specs.Requeues.{IsBetween}
use Rattle.tp_manager.specs.CallSteps.{Looked}

-- how many numbers below n pass a test
abbrev pub count_below : (ℕ → Bool) → ℕ → ℕ
count_below test zero = 0
count_below test (suc n) = count_below test n + cond (test n) 1 0

-- whether an element, if there is one, is of the family
abbrev pub is_member : ℕ → Option Element → Bool
is_member root None = false
is_member root (Some x) = x.root == root

-- whether an element of the family is born in row i
abbrev pub in_family : ℕ → List Event → ℕ → Bool
in_family root h i = is_member root (element_of h i)

-- the walk has come to the element
abbrev pub Reached : (ℕ → Type 0) → (ℕ → Bool) → ℕ → Type 0
Reached Left gone i = Left i ⊎ (gone i ≡ true)

-- the element is an output of a unit that took one from which the walk has gone on
abbrev pub HasParent : List Event → (ℕ → Bool) → Element → Type 0
HasParent h gone x = (u : ℕ) × (t : UnitClaim) × (x.by ≡ Some u) × (claim_of h u ≡ Some t)
    × (gone t.item ≡ true)

-- element i is of the family, and the walk came to it from another one, if it isn't the root
abbrev pub IsComeTo : List Event → ℕ → (ℕ → Bool) → ℕ → Type 0
IsComeTo h root gone i = (x : Element) × (element_of h i ≡ Some x) × (x.root ≡ root)
    × (((i ≡ root) × (x.by ≡ None)) ⊎ HasParent h gone x)

-- the walk has gone on from k elements, each of them once
pub record Tree (l : Limits) (root k : ℕ) (Left : ℕ → Type 0) (gone : ℕ → Bool)
    (h : List Event) : Type 0 where
  pub counted : count_below gone (rows_of l) ≡ k
  pub apart : (i : ℕ) → Left i → gone i ≡ true → ⊥
  pub root_too : Reached Left gone root
  pub each : (i : ℕ) → Reached Left gone i → IsComeTo h root gone i

-- it has gone on from element i, too
abbrev pub and_from : ℕ → (ℕ → Bool) → ℕ → Bool
and_from i gone j = gone j || j == i

-- an element that a unit made which took element i
abbrev pub IsOutputFrom : List Event → ℕ → ℕ → ℕ → Type 0
IsOutputFrom h root i j = (x : Element) × (element_of h j ≡ Some x) × (x.root ≡ root)
    × (u : ℕ) × (t : UnitClaim) × (x.by ≡ Some u) × (claim_of h u ≡ Some t) × (t.item ≡ i)

-- what was found of element i, which is born in history a, by history b: the unit that consumed it has these
-- outputs; or it is a reply that waited; or it was not consumed in history a, and was killed if it is a reply
abbrev pub IsFound : Limits → ℕ → List Event → List Event → Found → Type 0
IsFound l i a b (Outputs first count) = (u : ℕ) × (t : UnitClaim) × (claim_of b u ≡ Some t) × (t.item ≡ i)
    × (status_of l.attempts b i ≡ Consumed u) × (end_of b u ≡ Some (Committed first count))
IsFound l i a b Reply = ((x : Element) × (element_of b i ≡ Some x) × (x.stage ≡ REPLY_STAGE))
    × IsBetween a b (λ h. IsWaiting (status_of l.attempts h i))
IsFound l i a b Nothing = ((u : ℕ) → status_of l.attempts a i ≢ Consumed u)
    × ((x : Element) → element_of a i ≡ Some x → x.stage ≡ REPLY_STAGE
    → IsBetween a b (λ h. status_of l.attempts h i ≡ Killed))

-- the walk has come to each output that element i led to in history a; and a reply that is asked for was
-- killed by history b
pub record GoneOver (l : Limits) (Asked Has : ℕ → Type 0) (a b : List Event) (i : ℕ) : Type 0 where
  pub outputs : (u first count j : ℕ) → status_of l.attempts a i ≡ Consumed u
      → end_of a u ≡ Some (Committed first count)
      → first ≤ j → j < first + count → Has j
  pub killed : (x : Element) → element_of a i ≡ Some x → x.stage ≡ REPLY_STAGE → Asked i
      → IsBetween a b (λ h. status_of l.attempts h i ≡ Killed)

-- an id from `from` on, and before the one that was found, if any was
abbrev pub IsAsked : ℕ → Option ℕ → ℕ → Type 0
IsAsked from least i = (from ≤ i) × IfSome least (λ id. i < id)

-- a walk that looks for replies, on its way: since history a, and with the least one that it found to wait
pub record Listing (l : Limits) (root from k : ℕ) (Left : ℕ → Type 0) (least : Option ℕ) (a : List Event)
    (w : View) : Type 0 where
  pub gone : ℕ → Bool
  pub tree : Tree l root k Left gone w.seen
  pub over : (i : ℕ) → gone i ≡ true → GoneOver l (IsAsked from least) (Reached Left gone) a w.seen i
  pub found : IfSome least (λ id. (from ≤ id) × IsBetween a w.seen (HasReply l root id))

-- each of these replies that was born in history a was killed by history b
abbrev pub WereKilled : Limits → ℕ → (ℕ → Type 0) → List Event → List Event → Type 0
WereKilled l root Ids a b = (x : Element) → element_of a x.id ≡ Some x → IsReply root x → Ids x.id
    → IsBetween a b (λ h. status_of l.attempts h x.id ≡ Killed)

-- the whole of it, with the least one that waited, or none
pub record Listed (l : Limits) (root from : ℕ) (least : Option ℕ) (v w : View) : Type 0 where
  pub looked : Looked l (walk_steps (length (family w.seen root))) v w
  pub killed : WereKilled l root (IsAsked from least) v.seen w.seen
  pub found : IfSome least (λ id. (from ≤ id) × IsBetween v.seen w.seen (HasReply l root id))

-- a walk that looks for any element, on its way: since history a, and with the least one that it came to
pub record Following (l : Limits) (root from k : ℕ) (Left : ℕ → Type 0) (least : Option ℕ) (a : List Event)
    (w : View) : Type 0 where
  pub gone : ℕ → Bool
  pub tree : Tree l root k Left gone w.seen
  pub over : (i : ℕ) → gone i ≡ true → GoneOver l (λ j. ⊥) (Reached Left gone) a w.seen i
  pub passed : (i : ℕ) → gone i ≡ true → ¬ IsAsked from least i
  pub found : IfSome least (λ id. (from ≤ id) × IsOfFamily w.seen root id)

-- the whole of it
pub record Followed (l : Limits) (root from : ℕ) (least : Option ℕ) (v w : View) : Type 0 where
  pub looked : Looked l (walk_steps (length (family w.seen root))) v w
  pub passed : (x : Element) → element_of v.seen x.id ≡ Some x → x.root ≡ root → ¬ IsAsked from least x.id
  pub found : IfSome least (λ id. (from ≤ id) × IsOfFamily w.seen root id)

-- a collection of the next reply, on its way: others were quicker to take k replies since it began, and each
-- one before `from` was killed
pub record CollectingNext (l : Limits) (root from k : ℕ) (v w : View) : Type 0 where
  pub looked : Looked l (k * one_take_steps (length (family w.seen root))) v w
  pub killed : WereKilled l root (λ i. i < from) v.seen w.seen
  pub tries : k ≤ count_below (in_family root w.seen) from
  pub lost : k ≤ killed_between l root v.seen w.seen
  pub inside : from ≤ rows_of l

-- in at most n steps: the least reply that waited was killed, and each one before it had been; or each one
-- had been
abbrev pub TakenReply : Limits → ℕ → ℕ → View → View → Option Element → Type 0
TakenReply l n root v w None = Looked l n v w × WereKilled l root (λ i. Unit {0}) v.seen w.seen
TakenReply l n root v w (Some x) = Slain l n x.id [] v w × (element_of w.seen x.id ≡ Some x) × IsReply root x
    × WereKilled l root (λ i. i < x.id) v.seen w.seen
