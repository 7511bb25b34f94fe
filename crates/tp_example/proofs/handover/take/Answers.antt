use Rattle.std.proofs.Common.{◌≡◌, List, Some, refl, sym, subst}
use Rattle.tp_model.proofs.Histories.{legal_start}
use Rattle.tp_model.specs.declared.event.Event.{Event}
use Rattle.tp_model.specs.declared.types.Claimed.{Claimed}
use Rattle.tp_model.specs.declared.types.Claimed.TheVariants as claimeds
use Rattle.tp_model.specs.declared.types.Element.{Element}
use Rattle.tp_model.specs.declared.types.Limits.{Limits}
use Rattle.tp_model.specs.Births.{request}
use Rattle.tp_model.specs.History.{element_of, status_of}
use Rattle.tp_model.specs.Steps.{IsLegal}
use Rattle.tp_manager.specs.Calls.{Claims, FoundNone, IsWaiting}
use Rattle.tp_example.proofs.handover.take.Goals as goal

pub returns-clause-never_idle : goal.returns-clause-never_idle
returns-clause-never_idle c = λ idle.
    let l : Limits = c.args.manager.now.limits in let from : List Event = c.args.receipt.seen in let seen : List Event = c.follow.new.pass.seen in
    let asked = c.requires.requested in let x : Element = request asked.id 1 asked.body in
    let saw = c.follow.ensures.follows_receipt.saw in
    let all : IsLegal l seen = subst (λ (k : Limits). IsLegal k seen) c.follow.ensures.own.1 c.follow.ensures.follows.shows.legal in
    let legal : IsLegal l from = legal_start l from saw.0 (subst (IsLegal l) (sym saw.1) all) in
    let first = c.waits_till_taken.ensures.first l asked.before asked.client x (subst (IsLegal l) asked.last legal) in
    let found : Claims l 1 c.follow.new.pass c.claim.new.pass claimeds.Idle = subst (λ (r : Claimed). Claims l 1 c.follow.new.pass c.claim.new.pass r) idle c.claim.ensures.answer in
    record {
      from = from;
      requested = asked;
      taken = c.waits_till_taken.ensures.idle l 1 _ from c.follow.new.pass c.claim.new.pass x saw
          (subst (λ h. element_of h x.id ≡ Some x) (sym asked.last) first.0) refl
          (subst (λ h. IsWaiting (status_of l.attempts h x.id)) (sym asked.last) first.1) c.claim.ensures.follows found.3;
    }
