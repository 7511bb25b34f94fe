-- The claim of a given element at a desk, where nobody else acts.
use Rattle.std.proofs.Common.{◌≡◌, ℕ, ◌==◌, ◌&&◌, nat_lt, not, Bool, true, false, cond, Some, List, Result, Ok, Err, refl, sym, ◌∙◌, ap, subst, ⊎_elim, arith}
use Rattle.std.proofs.lemmas.Bool.{eq-eqb, le-ltb, lt-ltb}
use Rattle.std.proofs.lemmas.Bool.Decides.{eqb_tells}
use Rattle.tp_model.specs.declared.types.Element.{Element}
use Rattle.tp_model.specs.declared.types.Limits.{Limits}
use Rattle.tp_model.specs.declared.types.Refusal.{Refusal}
use Rattle.tp_model.specs.declared.types.Refusal.TheVariants as refusals
use Rattle.tp_model.specs.declared.types.Work.{Work}
use Rattle.tp_model.specs.declared.event.Event.{Event}
use Rattle.tp_model.specs.History.{IsUnborn, element_of}
use Rattle.tp_model.specs.Steps.{IsServerStage}
use Rattle.tp_plain.specs.Computed.{claim_id_of}
use Rattle.tp_plain.specs.OneThread as thread
use Rattle.tp_plain.specs.OneThread.{pass_at}
use Rattle.tp_manager.specs.Calls.{Opens, claims_in}
use Rattle.tp_manager.specs.Shown.{KeeperShown, PassShown}
use Rattle.tp_desk.specs.Given.{ClaimsGiven, HasOtherStage, HasUnwaitingOf}
use Rattle.tp_reference.specs.PlainDesks.{claim_given, is_of_other}
use Rattle.tp_rollover.specs.Thread.{Alone, thread_of}
use Rattle.tp_rollover.proofs.AloneClaims.{born, claimed_is}
use Rattle.tp_rollover.proofs.AloneGiven.{alone_claim_id}
use Rattle.tp_rollover.proofs.AlonePoints.{point_quiet}
use Rattle.tp_rollover.proofs.AloneThreads.{quiet_leaves}

module _ (l : Limits) (keeper keeper' : KeeperShown) (olds news : List PassShown) (h h' : List Event) (n c : ℕ) (old new : PassShown) (a : Alone l keeper keeper' olds news h h' n c old new) (turn : new.from ≡ old.from)
    (stage id : ℕ) (server : IsServerStage stage) where
  abbrev m : thread.State
  m = thread_of l olds h

  abbrev left : Bool
  left = nat_lt (pass_at m c).claimed m.limits.units

  and_false : (b : Bool) → (b && false) ≡ false
  and_false true = refl
  and_false false = refl

  -- what is computed where the element isn't of another stage, or no unit is left
  as_manager : (left && is_of_other stage (element_of h id)) ≡ false → claim_id_of m c id ≡ claim_given stage c id m
  as_manager none = sym (ap (λ (b : Bool). cond {A = Result Work Refusal × thread.State} b (Err refusals.BadStage, m) (claim_id_of m c id)) none)

  of_stage : (x : Element) → element_of h id ≡ Some x → x.stage ≡ stage → (left && is_of_other stage (element_of h id)) ≡ false
  of_stage x is same = ap (λ o. left && is_of_other stage o) is ∙ (ap (λ b. left && not b) (eq-eqb x.stage stage same) ∙ and_false left)

  used : (pass_at m c).claimed ≡ claims_in old.mine
  used = claimed_is l keeper keeper' olds news h h' n c old new a stage

  pub gives : (r : Result Work Refusal) → ClaimsGiven l stage id old new r → (r, thread_of l news h') ≡ claim_given stage c id m
  gives (Ok work) says =
      let of = says.0.of_stage in
      let is : element_of h id ≡ Some work.element = ap (element_of h) (sym says.1) ∙ born l keeper keeper' olds news h h' n c old new a stage work says.0 in
      alone_claim_id id l keeper keeper' olds news h h' n c old new (Ok work) a turn (record { opens = subst (λ s. Opens l s work old new) (sym of) says.0; id_is = says.1; server = subst (λ s. IsServerStage s) (sym of) server })
      ∙ as_manager (of_stage work.element is of)
  gives (Err refusals.NoUnit) says =
      let at = used in let none = says.0 in
      alone_claim_id id l keeper keeper' olds news h h' n c old new (Err refusals.NoUnit) a turn says
      ∙ as_manager (ap (λ b. b && is_of_other stage (element_of h id)) (le-ltb (pass_at m c).claimed m.limits.units (omega arith)))
  gives (Err refusals.NotThere) says =
      alone_claim_id id l keeper keeper' olds news h h' n c old new (Err refusals.NotThere) a turn says
      ∙ as_manager (ap (λ o. left && is_of_other stage o) (point_quiet l keeper keeper' olds news h h' n c old new a (λ g. IsUnborn g id) says.2 says.1) ∙ and_false left)
  gives (Err refusals.BadStage) says =
      let at = used in let room = says.0 in
      let p = point_quiet l keeper keeper' olds news h h' n c old new a (HasOtherStage stage id) says.2 says.1 in
      let other : (p.0.stage == stage) ≡ false = ⊎_elim (λ t. absurd (p.2 t.1)) (λ t. t.0) (eqb_tells p.0.stage stage) in
      let bad : (left && is_of_other stage (element_of h id)) ≡ true =
      ap (λ b. b && is_of_other stage (element_of h id)) (lt-ltb (pass_at m c).claimed m.limits.units (omega arith)) ∙ (ap (is_of_other stage) p.1 ∙ ap not other) in
      ap (λ t. (Err refusals.BadStage, t)) (quiet_leaves l keeper keeper' olds news h h' n c old new a turn says.1)
      ∙ sym (ap (λ (b : Bool). cond {A = Result Work Refusal × thread.State} b (Err refusals.BadStage, m) (claim_id_of m c id)) bad)
  gives (Err refusals.NotWaiting) says =
      let at = says.2 in
      let p = point_quiet l keeper keeper' olds news h h' n c old new a (HasUnwaitingOf l stage id) says.2 says.1 in
      alone_claim_id id l keeper keeper' olds news h h' n c old new (Err refusals.NotWaiting) a turn
      (says.0, says.1, (at.0, at.1, (at.2.0, at.2.1, (λ reply. let of = at.2.2 in let top = server.1 in omega (arith, reply, of, top)), at.2.3)))
      ∙ as_manager (of_stage p.0 p.1 p.2)
  gives (Err refusals.NoMemory) says = absurd says
  gives (Err refusals.BadLimits) says = absurd says
  gives (Err (refusals.Consumed u)) says = absurd says
  gives (Err refusals.AlreadyKilled) says = absurd says
  gives (Err refusals.Full) says = absurd says
  gives (Err refusals.NotParked) says = absurd says
  gives (Err refusals.NoRound) says = absurd says
  gives (Err refusals.NotHeld) says = absurd says
