-- What the steps of a session leave of its store.
use Rattle.std.proofs.Common.{◌≡◌, ◌≤◌, ◌<◌, ◌-◌, ◌^◌, ◌==◌, ℕ, Bool, true, false, Option, Some, None, Result, Ok, Err, [], ◌∷◌, refl, arith}
use Rattle.std.specs.Prelude.{⊤}
use Rattle.std.specs.Option.{option_or}
use Rattle.tp_store.specs.Calls.{as_claimed, claim_first, claim_from_of, claim_of, hand_out_as, is_server_stage, take_at, take_of}
use Rattle.tp_store.specs.Elements.{Entry, element_at, first_in, queue_of}
use Rattle.tp_store.specs.Runs.{after, Call}
use Rattle.tp_store.specs.Soundness.{IsSound}
use Rattle.tp_store.specs.State.{State}
use Rattle.tp_store.specs.declared.answers.Refusal.{Refusal}
use Rattle.tp_store.specs.declared.answers.Work.{Work}
use Rattle.tp_store.specs.declared.element.Element.{Element}
use Rattle.tp_store.specs.declared.element.Status.{Status}
use Rattle.tp_store.specs.declared.element.Status.TheVariants.{Waiting, Held, Consumed, Parked, Killed}
use Rattle.tp_store.specs.declared.element.TheConstants.{REPLY_STAGE}
use Rattle.tp_store.proofs.Accounted.{acc_run}
use Rattle.tp_store.proofs.AccountSteps.{Accounted, HasStagesFrom}
use Rattle.tp_store.proofs.Leading.{calls_follow}
use Rattle.tp_store.proofs.Looking.{first_is}
use Rattle.tp_session.specs.Retold.{IsDrawn}
use Rattle.tp_session.specs.declared.hand.Hand.{Hand}

-- a store that can be told in full, until the numbers of 64 bits are used up
pub record Holds (s : State) : Type 0 where
  pub sound : IsSound s
  pub account : s.next < 2 ^ 64 - 1 → Accounted 1 s

-- one leads to the other
pub record Grows (s t : State) : Type 0 where
  pub holds : Holds t
  pub next : s.next ≤ t.next
  pub units : s.units ≤ t.units

pub grows_none : (s : State) → Holds s → Grows s s
grows_none s holds = record { holds = holds; next = omega arith; units = omega arith }

pub grows_both : (s t u : State) → Grows s t → Grows t u → Grows s u
grows_both s t u one two = record { holds = two.holds; next = let a = one.next in let b = two.next in omega arith; units = let a = one.units in let b = two.units in omega arith }

pub grows_call : (call : Call) (s : State) → Holds s → HasStagesFrom 1 call → Grows s (after call s)
grows_call call s holds fit =
    let led = calls_follow call s holds.sound in
    let next = led.1.next in
    record {
      holds = record { sound = led.0; account = λ few. acc_run 1 (omega arith) (call ∷ []) s holds.sound (fit, tt) few (holds.account (omega arith)) };
      next = next;
      units = led.1.units;
    }

pub drawn_later : (s t : State) (hand : Option Hand) → Grows s t → IsDrawn s hand → IsDrawn t hand
drawn_later s t None grows drawn = tt
drawn_later s t (Some h) grows drawn = let a = grows.next in let b = grows.units in let c = drawn.0 in let d = drawn.1 in (omega arith, omega arith)

-- ---- work that is handed out

-- its element was born, and its unit was drawn
abbrev pub IsOut : Result Work Refusal × State → Type 0
IsOut (Ok work, t) = (work.id < t.next) × (work.unit < t.units)
IsOut (Err why, t) = ⊤

abbrev pub IsOutOrNone : Result (Option Work) Refusal × State → Type 0
IsOutOrNone (Ok (Some work), t) = (work.id < t.next) × (work.unit < t.units)
IsOutOrNone (Ok None, t) = ⊤
IsOutOrNone (Err why, t) = ⊤

module _ (s : State) (sound : IsSound s) where
  handed_out : (id : ℕ) (e : Element) → element_at id s.elements ≡ Some e → (status : Status) → IsOut (hand_out_as id e status s)
  handed_out id e found (Waiting n) = ((sound.each id e found).drawn, omega arith)
  handed_out id e found (Held u n) = tt
  handed_out id e found (Consumed u) = tt
  handed_out id e found (Parked n) = tt
  handed_out id e found Killed = tt

  claimed_out : (done : Result Work Refusal × State) → IsOut done → IsOutOrNone (as_claimed done)
  claimed_out (Ok work, t) out = out
  claimed_out (Err why, t) out = tt

  first_out : (x : Option Entry) → ((e : Entry) → x ≡ Some e → element_at e.0 s.elements ≡ Some e.1) → IsOutOrNone (claim_first x s)
  first_out None found = tt
  first_out (Some e) found = claimed_out (hand_out_as e.0 e.1 e.1.status s) (handed_out e.0 e.1 (found e refl) e.1.status)

  found_first : (stage from : ℕ) (e : Entry) → first_in queue_of stage from s.elements ≡ Some e → element_at e.0 s.elements ≡ Some e.1
  found_first stage from e is = (first_is queue_of stage from s.elements sound.sorted e is).found

  pub claim_out : (stage : ℕ) → IsOutOrNone (claim_of stage s)
  claim_out stage = go (is_server_stage stage) refl
    where
      go : (b : Bool) → is_server_stage stage ≡ b → IsOutOrNone (claim_of stage s)
      go true is = rw is (first_out (first_in queue_of stage 0 s.elements) (found_first stage 0))
      go false is = rw is tt

  either_found : (x y : Option Entry) → ((e : Entry) → x ≡ Some e → element_at e.0 s.elements ≡ Some e.1) → ((e : Entry) → y ≡ Some e → element_at e.0 s.elements ≡ Some e.1) → (e : Entry) → option_or x y ≡ Some e → element_at e.0 s.elements ≡ Some e.1
  either_found None y p q e is = q e is
  either_found (Some x) y p q e is = p e is

  pub claim_from_out : (stage from : ℕ) → IsOutOrNone (claim_from_of stage from s)
  claim_from_out stage from = go (is_server_stage stage) refl
    where
      go : (b : Bool) → is_server_stage stage ≡ b → IsOutOrNone (claim_from_of stage from s)
      go true is = rw is (first_out (option_or (first_in queue_of stage from s.elements) (first_in queue_of stage 0 s.elements)) (either_found (first_in queue_of stage from s.elements) (first_in queue_of stage 0 s.elements) (found_first stage from) (found_first stage 0)))
      go false is = rw is tt

  pub take_out : (id : ℕ) → IsOut (take_of id s)
  take_out id = go (element_at id s.elements) refl
    where
      if_work : (id : ℕ) (e : Element) (b : Bool) → (e.stage == REPLY_STAGE) ≡ b → element_at id s.elements ≡ Some e → IsOut (take_at id (Some e) s)
      if_work id e true is found = rw is tt
      if_work id e false is found = rw is (handed_out id e found e.status)

      go : (x : Option Element) → element_at id s.elements ≡ x → IsOut (take_at id x s)
      go None found = tt
      go (Some e) found = if_work id e (e.stage == REPLY_STAGE) refl found
