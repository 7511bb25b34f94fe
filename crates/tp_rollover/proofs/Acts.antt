-- What a request leaves by which an element is made, and what a claim takes.
use Rattle.std.proofs.Common.{◌≡◌, ◌≢◌, ℕ, suc, ◌+◌, ◌<◌, ◌≤◌, ◌==◌, cond, if◌then◌else◌, nat_lt, Bool, true, false, Option, Some, None, Ok, Err, List, [], ◌∷◌, ◌++◌, length, refl, sym, ◌∙◌, ap, subst, arith}
use Rattle.std.proofs.lemmas.Bool.{leb-true}
use Rattle.std.proofs.lemmas.Bool.Decides.{nat_tests}
use Rattle.std.proofs.lemmas.List.{get_or-set_other, get_or-set_same}
use Rattle.std.specs.List.{find}
use Rattle.std.specs.Option.{option_or}
use Rattle.tp_model.specs.Births.{request}
use Rattle.tp_model.specs.declared.types.Element.{Element}
use Rattle.tp_model.specs.declared.types.Limits.{Limits}
use Rattle.tp_model.specs.declared.types.Refusal.TheVariants as refusal
use Rattle.tp_model.specs.declared.types.Status.{Status}
use Rattle.tp_model.specs.declared.types.Status.TheVariants.{Waiting, Held, Consumed, Parked, Killed}
use Rattle.tp_model.specs.declared.types.Work.{Work}
use Rattle.tp_model.specs.declared.event.Event.{Event}
use Rattle.tp_model.specs.declared.event.Event.TheVariants.{Abort, Claim, Commit, Enqueue, Requeue}
use Rattle.tp_model.specs.History.{element_of, rounds}
use Rattle.tp_model.specs.Steps.{IsBody, IsLegal, IsServerStage, Step}
use Rattle.tp_model.proofs.Bridges.{in_one, unborn_before}
use Rattle.tp_model.proofs.Histories.{by_steps, element_of-snoc, status_of-snoc}
use Rattle.tp_model.proofs.Lists.{if_other, if_same}
use Rattle.tp_model.proofs.WordProofs.{rounds-snoc}
use Rattle.tp_plain.specs.Computed.{claim_id_at, claim_id_found, claim_id_of, has_room, is_server_stage, with_claimed, with_request}
use Rattle.tp_plain.specs.OneThread.{HasPlainRoom, State, first_row, no_pass, pass_at, ready, used_up, with_draw}
use Rattle.tp_plain.specs.Reached.{IsReachable}
use Rattle.tp_plain.specs.declared.pass_state.PassState.{PassState}
use Rattle.tp_plain.proofs.Given.{served}
use Rattle.tp_plain.proofs.PassStates.{fits_ready, fits_submit, may_submit, reached_used}
use Rattle.tp_rollover.specs.Anew.{given, submitted}
use Rattle.tp_rollover.specs.Holds.{status_in}
use Rattle.tp_rollover.proofs.Idling.{same_some, second_of}

-- pass c has used k rows more
pub record Uses (s t : State) (c k : ℕ) : Type 0 where
  pub reached : IsReachable t
  pub limits : t.limits ≡ s.limits
  pub room : k ≤ (ready s c k).left
  pub next : (pass_at t c).next ≡ first_row s c k + k
  pub left : (pass_at t c).left + k ≡ (ready s c k).left
  pub drawn : t.drawn ≡ (with_draw s c k).drawn
  pub others : (d : ℕ) → d ≢ c → ((pass_at t d).next ≡ (pass_at s d).next) × ((pass_at t d).left ≡ (pass_at s d).left)
  pub claims : (d : ℕ) → d ≢ c → (pass_at t d).claimed ≡ (pass_at s d).claimed

pub no_rounds_after : (h : List Event) (i : ℕ) (l : Limits) → IsLegal l h → element_of h i ≡ None → rounds h i ≡ 0
no_rounds_after h i l legal = by_steps l (λ z. element_of z i ≡ None → rounds z i ≡ 0) (λ e. refl) more h legal
  where
    after : (h : List Event) (e : Event) → Step l h e → element_of h i ≡ None → rounds h i ≡ 0 → rounds (h ++ e ∷ []) i ≡ 0
    after h (Enqueue c x) step none old = rounds-snoc h (Enqueue c x) i ∙ old
    after h (Claim c u j n) step none old = rounds-snoc h (Claim c u j n) i ∙ old
    after h (Commit c u outs) step none old = rounds-snoc h (Commit c u outs) i ∙ old
    after h (Abort c u) step none old = rounds-snoc h (Abort c u) i ∙ old
    after h (Rattle.tp_model.specs.declared.event.Event.TheVariants.Kill c j) step none old = rounds-snoc h _ i ∙ old
    after h (Requeue c j r) step none old = rounds-snoc h (Requeue c j r) i ∙ (if_other j i (rounds h i + 1) (rounds h i) (λ same. (let born = step.born in let q : element_of h i ≡ Some step.item = ap (element_of h) (sym same) ∙ born in cc)) ∙ old)

    more : (h : List Event) (e : Event) → IsLegal l h → Step l h e → (element_of h i ≡ None → rounds h i ≡ 0) → element_of (h ++ e ∷ []) i ≡ None → rounds (h ++ e ∷ []) i ≡ 0
    more h e legal step old none = let before = unborn_before h e i none in after h e step before (old before)

-- ---- a request

pub record Submitted (s t : State) (c stage : ℕ) (body : List ℕ) (id : ℕ) : Type 0 where
  pub uses : Uses s t c 1
  pub id_is : id ≡ first_row s c 1
  pub there : element_of t.history id ≡ Some (request id stage body)
  pub unborn : element_of s.history id ≡ None
  pub elements : (i : ℕ) → i ≢ id → element_of t.history i ≡ element_of s.history i
  pub statuses : (i : ℕ) → status_in t i ≡ status_in s i
  pub rounds_are : (i : ℕ) → rounds t.history i ≡ rounds s.history i
  pub claimed : (pass_at t c).claimed ≡ (pass_at s c).claimed

pub none_more : {A : Type 0} (o : Option A) → option_or o None ≡ o
none_more None = refl
none_more (Some x) = refl

module _ (s : State) (c : ℕ) (reached : IsReachable s) (is_pass : c < s.limits.parts) where
  inside : c < length s.passes
  inside = rw reached.passes is_pass

  stage_is : (stage : ℕ) → is_server_stage stage ≡ true → IsServerStage stage
  stage_is stage is = grind (arith, nat_tests)

  requested : (stage : ℕ) (body : List ℕ) → IsBody body → IsServerStage stage → HasPlainRoom s c 1 → Submitted s (with_request s c stage body) c stage body (first_row s c 1)
  requested stage body whole good room =
      let id = first_row s c 1 in
      let x = request id stage body in
      let e : Event = Enqueue c x in
      let step = may_submit s c stage body reached is_pass good whole room in
      let used = used_up (ready s c 1) 1 in
      let own : pass_at (with_request s c stage body) c ≡ used = get_or-set_same s.passes c used no_pass inside in
      let none : element_of s.history id ≡ None = step.unborn in
      record {
        uses = record {
          reached = reached_used s c 1 reached is_pass e used step refl (fits_submit s.limits s.history (with_draw s c 1).drawn c x (ready s c 1) (fits_ready s c 1 reached is_pass) room refl) (omega arith)
              (λ y p. let same = ap (λ (z : Element). z.id) (in_one p) in (omega arith, omega arith));
          limits = refl;
          room = room;
          next = ap (λ (z : PassState). z.next) own;
          left = ap (λ (z : PassState). z.left + 1) own ∙ omega arith;
          drawn = refl;
          others = λ d not. (let other : pass_at (with_request s c stage body) d ≡ pass_at s d = get_or-set_other s.passes c d used no_pass not in (ap (λ (z : PassState). z.next) other, ap (λ (z : PassState). z.left) other));
          claims = λ d not. ap (λ (z : PassState). z.claimed) (get_or-set_other s.passes c d used no_pass not);
        };
        id_is = refl;
        there = element_of-snoc s.history e id ∙ (ap (λ o. option_or o (find (λ (y : Element). y.id == id) (x ∷ []))) none ∙ if_same id id (Some x) None refl);
        unborn = none;
        elements = λ i not. element_of-snoc s.history e i ∙ (ap (option_or (element_of s.history i)) (if_other id i (Some x) None (λ same. not (sym same))) ∙ none_more (element_of s.history i));
        statuses = λ i. status_of-snoc s.limits.attempts s.history e i;
        rounds_are = λ i. rounds-snoc s.history e i;
        claimed = ap (λ (z : PassState). z.claimed) own;
      }

  pub submitted_so : (stage : ℕ) (body : List ℕ) (id : ℕ) (t : State) → IsBody body → submitted c stage body s ≡ Some (id, t) → Submitted s t c stage body id
  submitted_so stage body id t whole is = go (is_server_stage stage) (has_room s c 1) refl refl is
    where
      go : (a b : Bool) → is_server_stage stage ≡ a → has_room s c 1 ≡ b → given (cond a (cond b (Ok (first_row s c 1), with_request s c stage body) (Err refusal.Full, s)) (Err refusal.BadStage, s)) ≡ Some (id, t) → Submitted s t c stage body id
      go true true staged room is =
          let made = requested stage body whole (stage_is stage staged) (leb-true 1 (ready s c 1).left room) in
          let both : ℕ × State = (first_row s c 1, with_request s c stage body) in
          let got : ℕ × State = (id, t) in
          subst (λ (z : ℕ × State). Submitted s z.1 c stage body z.0) (same_some both got is) made
      go true false staged room is = absurd cc
      go false b staged room is = absurd cc

-- ---- a claim

pub record Claimed (s t : State) (c i : ℕ) : Type 0 where
  pub tries : ℕ
  pub item : Element
  pub taken : element_of s.history i ≡ Some item
  pub was : status_in s i ≡ Waiting tries
  pub room : (pass_at s c).claimed < s.limits.units
  pub served : item.stage ≢ 15
  pub same : with_claimed s c (record { element = item; status = Waiting tries }) (pass_at s c).turns ≡ t

pub claimed_so : (s : State) (c i : ℕ) (w : Work) (t : State) → given (claim_id_of s c i) ≡ Some (w, t) → Claimed s t c i
claimed_so s c i w t is = go (nat_lt (pass_at s c).claimed s.limits.units) refl is
  where
    at : (e : Element) → element_of s.history i ≡ Some e → (pass_at s c).claimed < s.limits.units → e.stage ≢ 15 → (st : Status) → status_in s i ≡ st → given (claim_id_at s c e st) ≡ Some (w, t) → Claimed s t c i
    at e born room served (Waiting n) waits is = record { tries = n; item = e; taken = born; was = waits; room = room; served = served; same = second_of _ (w, t) is }
    at e born room served (Held u n) waits is = absurd cc
    at e born room served (Consumed u) waits is = absurd cc
    at e born room served (Parked n) waits is = absurd cc
    at e born room served Killed waits is = absurd cc

    staged : (e : Element) → element_of s.history i ≡ Some e → (pass_at s c).claimed < s.limits.units → (b : Bool) → (e.stage == 15) ≡ b
        → given (if b then (Err refusal.BadStage, s) else claim_id_at s c e (status_in s i)) ≡ Some (w, t) → Claimed s t c i
    staged e born room true flag is = absurd cc
    staged e born room false flag is = at e born room (λ same. (let q = sym (ap (λ n. n == 15) same) ∙ flag in cc)) (status_in s i) refl is

    found : (pass_at s c).claimed < s.limits.units → (o : Option Element) → element_of s.history i ≡ o → given (claim_id_found s c i o) ≡ Some (w, t) → Claimed s t c i
    found room None born is = absurd cc
    found room (Some e) born is = staged e born room (e.stage == 15) refl is

    go : (b : Bool) → nat_lt (pass_at s c).claimed s.limits.units ≡ b → given (if b then claim_id_found s c i (element_of s.history i) else (Err refusal.NoUnit, s)) ≡ Some (w, t) → Claimed s t c i
    go true less is = found (leb-true (suc (pass_at s c).claimed) s.limits.units less) (element_of s.history i) refl is
    go false less is = absurd cc
