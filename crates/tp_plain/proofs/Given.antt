-- A claim of a given element.
use Rattle.std.proofs.Common.{◌≡◌, ◌≢◌, ℕ, suc, ◌+◌, ◌-◌, ◌<◌, ◌==◌, cond, nat_lt, Bool, true, false, Option, Some, None, Result, Err, refl, sym, ◌∙◌, ap, ⊎_elim, arith}
use Rattle.std.proofs.lemmas.Bool.{eq-eqb, eqb-true, le-leb, leb-true, ltb-false}
use Rattle.std.proofs.lemmas.Bool.Decides.{eqb_tells}
use Rattle.tp_model.specs.declared.types.Element.{Element}
use Rattle.tp_model.specs.declared.types.Look.{Look}
use Rattle.tp_model.specs.declared.types.Refusal.{Refusal}
use Rattle.tp_model.specs.declared.types.Refusal.TheVariants as refusal
use Rattle.tp_model.specs.declared.types.Status.{Status}
use Rattle.tp_model.specs.declared.types.Status.TheVariants.{Waiting, Held, Consumed, Parked, Killed}
use Rattle.tp_model.specs.declared.types.Work.{Work}
use Rattle.tp_model.specs.History.{born, element_of, status_of}
use Rattle.tp_model.specs.Steps.{IsLegal, IsServerStage, IsStage}
use Rattle.tp_model.proofs.Bridges.{element_of-id, find_in}
use Rattle.tp_model.proofs.Stages.{born_staged}
use Rattle.tp_plain.specs.Computed.{claim_id_at, claim_id_found, claim_id_of, with_claimed, work_on}
use Rattle.tp_plain.specs.OneThread.{Answers, CallClaimId, State, PlainTakesId, Waits, pass_at}
use Rattle.tp_plain.specs.Reached.{IsReachable}
use Rattle.tp_plain.proofs.Claims.{may_claim}

module _ (s : State) (i : ℕ) (legal : IsLegal s.limits s.history) (e : Element) (is : element_of s.history i ≡ Some e) where
  -- an element that is no reply is of a server's stage
  pub served : e.stage ≢ 15 → IsServerStage e.stage
  served other = let all : IsStage e.stage = born_staged s.limits s.history legal e (find_in i (born s.history) e is).0 in
      let low = all.0 in let high = all.1 in (low, omega arith)

  pub id_is : e.id ≡ i
  id_is = element_of-id s.history i e is

  -- it waits in its stage
  pub waits_there : (n : ℕ) → status_of s.limits.attempts s.history i ≡ Waiting n → Waits s e.stage e n
  waits_there n waits = record {
    born = ap (element_of s.history) id_is ∙ is;
    stage_is = refl;
    waits = ap (status_of s.limits.attempts s.history) id_is ∙ waits;
  }

-- what is taken
module _ (s : State) (c i : ℕ) (reached : IsReachable s) (is_pass : c < s.limits.parts) (e : Element) (is : element_of s.history i ≡ Some e) (other : e.stage ≢ 15)
    (n : ℕ) (waits : status_of s.limits.attempts s.history i ≡ Waiting n) (room : (pass_at s c).claimed < s.limits.units) (free : (pass_at s c).holding ≡ None) where
  abbrev look : Look
  look = record { element = e; status = Waiting n }

  one_less : (n + 1) - 1 ≡ n
  one_less = omega arith

  pub takes_id : PlainTakesId s c i (work_on s c look) (with_claimed s c look (pass_at s c).turns)
  takes_id = record {
    room = room;
    next = refl;
    id_is = id_is s i reached.legal e is;
    server = served s i reached.legal e is other;
    waiting = rw one_less (waits_there s i reached.legal e is n waits);
    step = may_claim s c e.stage look reached is_pass (served s i reached.legal e is other) (waits_there s i reached.legal e is n waits) room free;
    after = refl;
  }

-- what is computed
pub computes : (s : State) (c i : ℕ) (e : Element) → (pass_at s c).claimed < s.limits.units → element_of s.history i ≡ Some e → e.stage ≢ 15
    → claim_id_of s c i ≡ claim_id_at s c e (status_of s.limits.attempts s.history i)
computes s c i e room is other = rw (le-leb (suc (pass_at s c).claimed) s.limits.units room, is)
    (⊎_elim (λ t. absurd (other t.1)) (λ t. ap (λ b. cond {A = Result Work Refusal × State} b (Err refusal.BadStage, s) (claim_id_at s c e (status_of s.limits.attempts s.history i))) t.0) (eqb_tells e.stage 15))

pub claim_id_allowed : (s : State) (c : ℕ) → IsReachable s → c < s.limits.parts → (i : ℕ) → (pass_at s c).holding ≡ None → Answers s (CallClaimId c i (claim_id_of s c i).0) (claim_id_of s c i).1
claim_id_allowed s c reached is_pass i free = go (nat_lt (pass_at s c).claimed s.limits.units) refl
  where
    at : (e : Element) → (pass_at s c).claimed < s.limits.units → element_of s.history i ≡ Some e → e.stage ≢ 15 → (st : Status) → status_of s.limits.attempts s.history i ≡ st
        → Answers s (CallClaimId c i (claim_id_at s c e st).0) (claim_id_at s c e st).1
    at e room is other (Waiting n) stands = takes_id s c i reached is_pass e is other n stands room free
    at e room is other (Held u n) stands = ((room, e, is, other, λ k p. (let q = sym stands ∙ p in cc)), refl)
    at e room is other (Consumed u) stands = ((room, e, is, other, λ k p. (let q = sym stands ∙ p in cc)), refl)
    at e room is other (Parked n) stands = ((room, e, is, other, λ k p. (let q = sym stands ∙ p in cc)), refl)
    at e room is other Killed stands = ((room, e, is, other, λ k p. (let q = sym stands ∙ p in cc)), refl)

    staged : (e : Element) → (pass_at s c).claimed < s.limits.units → element_of s.history i ≡ Some e → (b : Bool) → (e.stage == 15) ≡ b
        → let found : Result Work Refusal × State = cond b (Err refusal.BadStage, s) (claim_id_at s c e (status_of s.limits.attempts s.history i)) in
        Answers s (CallClaimId c i found.0) found.1
    staged e room is true same = ((room, e, is, eqb-true e.stage 15 same), refl)
    staged e room is false same = at e room is (λ p. (let q : false ≡ true = sym same ∙ eq-eqb e.stage 15 p in cc)) (status_of s.limits.attempts s.history i) refl

    found : (pass_at s c).claimed < s.limits.units → (o : Option Element) → element_of s.history i ≡ o → Answers s (CallClaimId c i (claim_id_found s c i o).0) (claim_id_found s c i o).1
    found room None is = ((room, is), refl)
    found room (Some e) is = staged e room is (e.stage == 15) refl

    go : (b : Bool) → nat_lt (pass_at s c).claimed s.limits.units ≡ b
        → let computed : Result Work Refusal × State = cond b (claim_id_found s c i (element_of s.history i)) (Err refusal.NoUnit, s) in Answers s (CallClaimId c i computed.0) computed.1
    go true room = found (leb-true (suc (pass_at s c).claimed) s.limits.units room) (element_of s.history i) refl
    go false room = (ltb-false (pass_at s c).claimed s.limits.units room, refl)
