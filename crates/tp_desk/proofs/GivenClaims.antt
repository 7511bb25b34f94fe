-- The claim of a given element: a read, and then the manager's claim.
use Rattle.std.proofs.Common.{◌≡◌, ◌≢◌, ℕ, ◌+◌, ◌*◌, ◌<◌, ◌≤◌, List, [], ◌∷◌, ◌++◌, Option, Some, None, Result, Ok, Err, MatchResult, sym, ◌∙◌, ap, subst, refl, arith}
use mathlib.Core.List.{IsPrefix}
use Rattle.tp_model.specs.declared.types.Element.{Element}
use Rattle.tp_model.specs.declared.types.Limits.{Limits}
use Rattle.tp_model.specs.declared.types.Look.{Look}
use Rattle.tp_model.specs.declared.types.Refusal.{Refusal}
use Rattle.tp_model.specs.declared.types.Refusal.TheVariants as refusals
use Rattle.tp_model.specs.declared.types.Work.{Work}
use Rattle.tp_model.specs.declared.event.Event.{Event}
use Rattle.tp_model.specs.declared.event.Event.TheVariants.{Claim}
use Rattle.tp_model.specs.History.{IsUnborn, claim_of, element_of}
use Rattle.tp_model.specs.Passes.{opening_of}
use Rattle.tp_model.specs.Steps.{IsServerStage}
use Rattle.tp_model.proofs.Bridges.{begins_trans, found_later}
use Rattle.tp_manager.specs.Calls.{Adds, AtPoint, Follows, IsQuiet, KeepsRun, Opens, Reads, claims_in, opening, steps_of}
use Rattle.tp_manager.specs.Given.{ClaimIdFails, HasReplyStage, TakesId, TookNone}
use Rattle.tp_manager.specs.Shown.{PassShown}
use Rattle.tp_manager.proofs.Calls.Follows.{steps_both}
use Rattle.tp_manager.proofs.Calls.Points.{opening_later}
use Rattle.tp_desk.specs.Given.{ClaimsGiven, GivenFails, HasOtherStage, HasUnwaitingOf}

module _ (l : Limits) (n k : ℕ) (p m q : PassShown) (a : Follows n p m) (quiet : IsQuiet p m) (b : Follows k m q) where
  -- a point of the second call is one of both
  later_point : (P : List Event → Type 0) → AtPoint m q P → AtPoint p q P
  later_point P at =
      let begin : IsPrefix (opening_of p.seen (steps_of p q)) (opening_of m.seen (steps_of m q)) =
      subst (λ t. IsPrefix (opening_of p.seen t) (opening_of m.seen (steps_of m q))) (sym (steps_both n k p m q a b)) (opening_later p.seen m.seen (steps_of p m) (steps_of m q) a.closed b.opened) in
      (at.0, record { opened = begins_trans _ _ _ begin at.1.opened; seen = at.1.seen }, at.2)

  same_claims : claims_in p.mine ≡ claims_in m.mine
  same_claims = sym (ap claims_in quiet.mine)

  both_quiet : IsQuiet m q → IsQuiet p q
  both_quiet next = record {
    mine = next.mine ∙ quiet.mine;
    open_unit = next.open_unit ∙ quiet.open_unit;
    run = (next.run.0 ∙ quiet.run.0, next.run.1 ∙ quiet.run.1, next.run.2 ∙ quiet.run.2);
  }

  both_none : (P : List Event → Type 0) → TookNone l m q P → TookNone l p q P
  both_none P t = (subst (λ c. c < l.units) (sym same_claims) t.0, both_quiet t.1, later_point P t.2)

  both_opens : (stage : ℕ) (work : Work) → work.element.stage ≡ stage → Opens l work.element.stage work m q → Opens l stage work p q
  both_opens stage work is o = record {
    room = subst (λ c. c < l.units) (sym same_claims) o.room;
    unit_is = o.unit_is ∙ ap (λ c. c * l.units + claims_in m.mine) a.number ∙ ap (λ c. p.number * l.units + c) (sym same_claims);
    fresh = subst (λ (h : List Event). claim_of h work.unit ≡ None) quiet.mine o.fresh;
    adds = record {
      mine = o.adds.mine ∙ (λ i. quiet.mine i ++ Claim (a.number i) work.unit work.element.id work.attempt ∷ []);
      before = o.adds.before;
      seen = o.adds.seen ∙ ap (λ c. o.adds.before ++ Claim c work.unit work.element.id work.attempt ∷ []) a.number;
      begins = begins_trans p.seen m.seen o.adds.before (begins_trans p.seen _ m.seen a.opened a.closed) o.adds.begins;
    };
    is_born = o.is_born;
    of_stage = is;
    open_unit = o.open_unit;
    run = (o.run.0 ∙ quiet.run.0, o.run.1 ∙ quiet.run.1, o.run.2 ∙ quiet.run.2);
  }

  seen_on : IsPrefix m.seen q.seen
  seen_on = begins_trans m.seen _ q.seen b.opened b.closed

  -- what was read is of the stage, and was then taken, or not
  pub given_then : (stage id : ℕ) (look : Look) (r : Result Work Refusal) → IsServerStage stage → claims_in p.mine < l.units → Reads l id p m look → look.element.stage ≡ stage
      → MatchResult r (λ work. TakesId l id work m q) (ClaimIdFails l id m q) → ClaimsGiven l stage id p q r
  given_then stage id look (Ok work) server room reads is says =
      let there : Some look.element ≡ Some work.element =
      sym (found_later m.seen q.seen seen_on id look.element reads.1) ∙ (ap (element_of q.seen) (sym says.id_is) ∙ says.opens.is_born) in
      let same : look.element ≡ work.element = cc in
      (both_opens stage work (ap (λ (x : Element). x.stage) (sym same) ∙ is) says.opens, says.id_is)
  given_then stage id look (Err refusals.NoUnit) server room reads is says = let none = says.0 in let same = same_claims in absurd (omega arith)
  given_then stage id look (Err refusals.NotThere) server room reads is says = both_none (λ h. IsUnborn h id) says
  given_then stage id look (Err refusals.BadStage) server room reads is says =
      both_none (HasOtherStage stage id) (says.0, says.1, (says.2.0, says.2.1, (says.2.2.0, says.2.2.1, (λ e. let reply = says.2.2.2 in let high = server.1 in absurd (omega arith)))))
  given_then stage id look (Err refusals.NotWaiting) server room reads is says =
      let at = says.2 in
      let x : Element = at.2.0 in
      let there : Some look.element ≡ Some x = sym (found_later m.seen q.seen seen_on id look.element reads.1) ∙ found_later at.0 q.seen at.1.seen id x at.2.1 in
      let same : look.element ≡ x = cc in
      both_none (HasUnwaitingOf l stage id) (says.0, says.1, (at.0, at.1, (x, at.2.1, ap (λ (y : Element). y.stage) (sym same) ∙ is, at.2.3)))
  given_then stage id look (Err refusals.NoMemory) server room reads is says = absurd says
  given_then stage id look (Err refusals.BadLimits) server room reads is says = absurd says
  given_then stage id look (Err refusals.Full) server room reads is says = absurd says
  given_then stage id look (Err (refusals.Consumed u)) server room reads is says = absurd says
  given_then stage id look (Err refusals.AlreadyKilled) server room reads is says = absurd says
  given_then stage id look (Err refusals.NotParked) server room reads is says = absurd says
  given_then stage id look (Err refusals.NoRound) server room reads is says = absurd says
  given_then stage id look (Err refusals.NotHeld) server room reads is says = absurd says

-- nothing was read
pub unread : (l : Limits) (stage id : ℕ) (p m : PassShown) (why : Refusal) → claims_in p.mine < l.units → IsQuiet p m → (why ≡ refusals.NotThere) × AtPoint p m (λ h. IsUnborn h id) → GivenFails l stage id p m why
unread l stage id p m why room quiet t = subst (GivenFails l stage id p m) (sym t.0) (room, quiet, t.1)
