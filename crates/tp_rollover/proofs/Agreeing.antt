-- What a call did is what is computed, and so is what is computed of several calls, also where one has stopped.
use Rattle.std.proofs.Common.{◌≡◌, ℕ, Option, None, Some, Result, Ok, Err, List, length, refl, sym, ◌∙◌, ap, subst}
use Rattle.std.specs.Option.{option_and_then}
use Rattle.std.specs.Result.{IsErrAnd}
use Rattle.tp_plain.specs.OneThread.{State}
use Rattle.tp_manager.specs.Shown.{KeeperShown, ManagerShown, PassShown}
use Rattle.tp_rollover.specs.Anew.{placed_by}
use Rattle.tp_rollover.specs.Lone.{Agrees, AreLone}
use Rattle.tp_rollover.specs.declared.places.Cursor.{Cursor}
use Rattle.tp_rollover.specs.declared.stops.Stop.{Stop}
use Rattle.tp_rollover.specs.declared.stops.Stop.TheVariants as stops

-- as many passes as there were
pub as_long : (m : ManagerShown) (keeper keeper' : KeeperShown) (olds news : List PassShown) → AreLone m keeper olds → AreLone m keeper' news → keeper'.given ≡ keeper.given → length news ≡ length olds
as_long m keeper keeper' olds news was is given = is.together.all.0 ∙ (given ∙ sym was.together.all.0)

-- what is none because another is
pub none_too : {A B C D : Type 0} (why : Stop) (value : A → B) (value' : C → D) (computed : Option B) (computed' : Option D) → (computed ≡ None → computed' ≡ None) → Agrees (Err why) value computed → Agrees (Err why) value' computed'
none_too stops.NoMemory value value' computed computed' none e = tt
none_too stops.Full value value' computed computed' none e = none e
none_too stops.Unequal value value' computed computed' none e = none e

module _ {A B C D : Type 0} (r : Result C Stop) (why : Stop) (value : A → B) (value' : C → D) (computed : Option B) (is : IsErrAnd r (λ e. e ≡ why)) where
  -- the error of a call, where all that follows is computed of what it is
  passed_on : (computed' : Option D) → (computed ≡ None → computed' ≡ None) → Agrees (Err why) value computed → Agrees r value' computed'
  passed_on computed' none e = go r is
    where
      go : (s : Result C Stop) → IsErrAnd s (λ e. e ≡ why) → Agrees s value' computed'
      go (Ok x) t = absurd t
      go (Err y) t = subst (λ z. Agrees {A = C} (Err z) value' computed') (sym t) (none_too why value value' computed computed' none e)

  pub stops_first : (next : B → Option D) (computed' : Option D) → computed' ≡ option_and_then next computed → Agrees (Err why) value computed → Agrees r value' computed'
  stops_first next computed' same e = passed_on computed' (λ n. same ∙ ap (option_and_then next) n) e

pub stopped_by : {A A' B D : Type 0} (r : Result A' Stop) (why : Stop) (value : A → B) (value' : A' → D) (f : B → Option D) (o : Option B) → IsErrAnd r (λ e. e ≡ why) → Agrees (Err why) value o → Agrees r value' (option_and_then f o)
stopped_by r why value value' f o is e = stops_first r why value value' o is f (option_and_then f o) refl e

-- a call by the pass that is next
pub by_next : (r : Result ℕ Stop) (call : ℕ → State → Option (ℕ × State)) (s s' : State) (next : Option (ℕ × Cursor)) (at : ℕ) (cursor : Cursor) → next ≡ Some (at, cursor) → Agrees r (λ id. (id, s')) (call at s)
    → Agrees r (λ id. (id, record { manager = s'; cursor = cursor })) (option_and_then (λ n. option_and_then (λ made. Some (placed_by n.1 made)) (call n.0 s)) next)
by_next (Ok id) call s s' next at cursor is made = ap (option_and_then (λ n. option_and_then (λ made. Some (placed_by n.1 made)) (call n.0 s))) is ∙ ap (option_and_then (λ made. Some (placed_by cursor made))) made
by_next (Err stops.NoMemory) call s s' next at cursor is made = tt
by_next (Err stops.Full) call s s' next at cursor is made = ap (option_and_then (λ n. option_and_then (λ made. Some (placed_by n.1 made)) (call n.0 s))) is ∙ ap (option_and_then (λ made. Some (placed_by cursor made))) made
by_next (Err stops.Unequal) call s s' next at cursor is made = ap (option_and_then (λ n. option_and_then (λ made. Some (placed_by n.1 made)) (call n.0 s))) is ∙ ap (option_and_then (λ made. Some (placed_by cursor made))) made
