-- What turns add to a pass, and what a desk that took them leaves of it.
use Rattle.std.proofs.Common.{◌≡◌, All, ℕ, ◌+◌, ◌≤◌, List, [], ◌∷◌, ◌++◌, Option, Some, None, refl, sym, ◌∙◌, ap, ap₂, subst, ◌⊎◌, inl, inr, ⊎_elim, arith, cond, count_by, zero-add}
use Rattle.std.specs.declared.alloc.Global.{Global}
use Rattle.std.specs.declared.dyn_box.DynBox.{DynBox}
use Rattle.tp_model.specs.Drafts.{DraftView}
use Rattle.tp_model.specs.Steps.{AreLimits}
use Rattle.tp_model.specs.declared.event.Event.{Event}
use Rattle.tp_model.specs.declared.event.Event.TheVariants.{Abort}
use Rattle.tp_model.specs.declared.types.Ended.{Ended}
use Rattle.tp_model.specs.declared.types.Ended.TheVariants as endeds
use Rattle.tp_model.specs.declared.types.Limits.{Limits}
use Rattle.tp_model.specs.declared.types.Work.{Work}
use Rattle.tp_server.specs.Behaviour.{Behaviour}
use Rattle.tp_server.specs.Pending.{Pending}
use Rattle.tp_manager.specs.Calls.{AnswersAbort, claims_in, one_claim}
use Rattle.tp_manager.specs.Shown.{ManagerShown, PassShown}
use Rattle.tp_desk.specs.InHand.{InHand}
use Rattle.tp_desk.specs.Serving.{Leaves}
use Rattle.tp_desk.proofs.Keeping.{idle_by, nounit_by, opens_by}
use Rattle.tp_desk.specs.declared.desk.Desk.{Desk}
use Rattle.tp_server.specs.declared.order.Order.{Order}
use Rattle.tp_server.specs.declared.turned.Turned.{Turned}
use Rattle.tp_server.specs.declared.turned.Turned.TheVariants as turneds
use Rattle.tp_desk.specs.Steady.{IsSameDesk, shown}
use Rattle.tp_desk.specs.Turns.{EndsOpen, Turns, Works, WorksOff}
use Rattle.tp_workers.specs.declared.plan.Plan.{Plan}
use Rattle.tp_workers.specs.declared.tally.Shift.{Shift}
use Rattle.tp_workers.specs.Calling.{AllButLast, MadeCalls, Chain}
use Rattle.tp_workers.specs.Desks.{DeskRan, DeskWorked, HadUnit, HadWork, IsDeskOf, IsResting, DeskPlace, TakesTurn, TakesTurns, DeskWorksOn, place, desk_place}
use Rattle.tp_workers.specs.Drained.{TookTurn}
use Rattle.tp_workers.specs.Gains.{commits_in, is_commit}
use Rattle.tp_workers.specs.Tally.{claimed_in_all, empty_shift, plus, total, turn_count}
use Rattle.tp_workers.proofs.Calling.{called_gains, called_keeps, called_last, called_more, called_none, called_total, called_zero}
use Rattle.tp_workers.proofs.Events.{claims_one, counted_one}

-- a turn as this counts its commit, and its claim
record Adds (done taken : ℕ) (old new : PassShown) : Type 0 where
  pub done_is : done + commits_in old ≡ commits_in new
  pub taken_is : taken + claims_in old.mine ≡ claims_in new.mine

quiet : (p q : PassShown) → q.mine ≡ p.mine → Adds 0 0 p q
quiet p q same = record { done_is = zero-add (commits_in p) ∙ ap (count_by is_commit) (sym same); taken_is = zero-add (claims_in p.mine) ∙ ap claims_in (sym same) }

one : (p q : PassShown) (e : Event) (n k : ℕ) → q.mine ≡ p.mine ++ e ∷ [] → ◌≡◌ {A = ℕ} (cond (is_commit e) 1 0) n → one_claim e ≡ k → Adds n k p q
one p q e n k adds done taken = record { done_is = counted_one is_commit p.mine q.mine e n adds done; taken_is = claims_one p.mine q.mine e k adds taken }

then : (n k m l : ℕ) (p between q : PassShown) → Adds n k p between → Adds m l between q → Adds (m + n) (l + k) p q
then n k m l p between q a b = record { done_is = omega (arith, a.done_is, b.done_is); taken_is = omega (arith, a.taken_is, b.taken_is) }

ends_adds : (p q : PassShown) (ended : Ended) → AnswersAbort p q ended → Adds 0 0 p q
ends_adds p q endeds.Aborted (u, closes, keeps, adds) = one p q (Abort p.number u) 0 0 adds.mine refl refl
ends_adds p q endeds.AlreadyAborted (u, closes, keeps, loses) = quiet p q loses.0

work_adds : (behaviour : Behaviour) (registers : List ℕ) (work : Work) (p q : PassShown) (t : Turned) (left : List ℕ) → WorksOff behaviour registers work p q t left → Adds (turn_count t).done 0 p q
work_adds behaviour registers work p q turneds.Idle left h = absurd h
work_adds behaviour registers work p q turneds.NoUnit left h = absurd h
work_adds behaviour registers work p q (turneds.Done unit element first count) left (a, b, (effect, made, commits, is)) = one p q _ 1 0 commits.adds.mine refl refl
work_adds behaviour registers work p q (turneds.Refused element why) left (a, (declines, (ended, ends)), is) = ends_adds p q ended ends
work_adds behaviour registers work p q (turneds.Lost element) left (a, (effect, made, (u, closes, row, uses, loses), is)) = quiet p q loses.0
work_adds behaviour registers work p q (turneds.Full element) left (a, (effect, made, (few, all_drawn, (u, closes, keeps, how)), is)) =
    ⊎_elim (λ adds. one p q (Abort p.number u) 0 0 adds.mine refl refl) (λ loses. quiet p q loses.0) how

-- an element was claimed, and this became of it
works_adds : (order : Order) (l : Limits) (behaviour : Behaviour) (registers : List ℕ) (p q : PassShown) (t : Turned) (left : List ℕ) → Works order l behaviour registers p q t left → Adds ((turn_count t).done + 0) 1 p q
works_adds order l behaviour registers p q t left h =
    then 0 1 (turn_count t).done 0 p h.between q (one p h.between _ 0 1 (opens_by order l behaviour.stage h.work p h.between h.takes).adds.mine refl refl) (work_adds behaviour registers h.work h.between q t left h.off)

turn_adds : (order : Order) (l : Limits) (behaviour : Behaviour) (registers : List ℕ) (p q : PassShown) (t : Turned) (left : List ℕ) → Turns order l behaviour registers p q t left → Adds (turn_count t).done (claimed_in_all (turn_count t)) p q
turn_adds order l behaviour registers p q turneds.Idle left h = quiet p q (idle_by order l behaviour.stage p q h.0).1.mine
turn_adds order l behaviour registers p q turneds.NoUnit left h = quiet p q (ap (λ (s : PassShown). s.mine) (nounit_by order l behaviour.stage p q h.0).1)
turn_adds order l behaviour registers p q (turneds.Done unit element first count) left h = works_adds order l behaviour registers p q (turneds.Done unit element first count) left h
turn_adds order l behaviour registers p q (turneds.Refused element why) left h = works_adds order l behaviour registers p q (turneds.Refused element why) left h
turn_adds order l behaviour registers p q (turneds.Lost element) left h = works_adds order l behaviour registers p q (turneds.Lost element) left h
turn_adds order l behaviour registers p q (turneds.Full element) left h = works_adds order l behaviour registers p q (turneds.Full element) left h

-- a turn uses up the units that it claims
pub turn_claims : (order : Order) (l : Limits) (behaviour : Behaviour) (registers : List ℕ) (p q : PassShown) (t : Turned) (left : List ℕ) → Turns order l behaviour registers p q t left → claimed_in_all (turn_count t) + claims_in p.mine ≡ claims_in q.mine
turn_claims order l behaviour registers p q t left h = (turn_adds order l behaviour registers p q t left h).taken_is

-- a turn claims an element only where a unit is left
pub turn_room : (order : Order) (l : Limits) (behaviour : Behaviour) (registers : List ℕ) (p q : PassShown) (t : Turned) (left : List ℕ) → Turns order l behaviour registers p q t left → claimed_in_all (turn_count t) + claims_in p.mine ≤ l.units
turn_room order l behaviour registers p q turneds.Idle left h = omega (arith, (idle_by order l behaviour.stage p q h.0).0)
turn_room order l behaviour registers p q turneds.NoUnit left h = omega (arith, (nounit_by order l behaviour.stage p q h.0).0)
turn_room order l behaviour registers p q (turneds.Done unit element first count) left h = omega (arith, (opens_by order l behaviour.stage h.work p h.between h.takes).room)
turn_room order l behaviour registers p q (turneds.Refused element why) left h = omega (arith, (opens_by order l behaviour.stage h.work p h.between h.takes).room)
turn_room order l behaviour registers p q (turneds.Lost element) left h = omega (arith, (opens_by order l behaviour.stage h.work p h.between h.takes).room)
turn_room order l behaviour registers p q (turneds.Full element) left h = omega (arith, (opens_by order l behaviour.stage h.work p h.between h.takes).room)

pub one_turn : (t : Turned) → total (turn_count t) ≡ 1
one_turn turneds.Idle = refl
one_turn turneds.NoUnit = refl
one_turn (turneds.Done unit element first count) = refl
one_turn (turneds.Refused element why) = refl
one_turn (turneds.Lost element) = refl
one_turn (turneds.Full element) = refl

room_then : (u a b c : ℕ) → (b ≤ u) ⊎ (b ≡ a) → (c ≤ u) ⊎ (c ≡ b) → (c ≤ u) ⊎ (c ≡ a)
room_then u a b c h (inl few) = inl few
room_then u a b c (inl few) (inr same) = inl (omega (arith, few, same))
room_then u a b c (inr before) (inr same) = inr (same ∙ before)

-- turns one after another count their commits, and their claims
module _ (order : Order) (l : Limits) (n : ℕ) (x y : DeskPlace) (s : Shift) (h : MadeCalls (TakesTurn order l) turn_count n x s y) where
  pub turns_commit : s.done + commits_in x.pass ≡ commits_in y.pass
  turns_commit =
      called_gains (TakesTurn order l) turn_count (λ (c : Shift). c.done) (λ (p : DeskPlace). commits_in p.pass) refl (λ a b. refl)
      (λ p t q r. (turn_adds order l p.behaviour p.registers p.pass q.pass t q.registers r.answer).done_is) n x y s h

  pub turns_claim : claimed_in_all s + claims_in x.pass.mine ≡ claims_in y.pass.mine
  turns_claim =
      called_gains (TakesTurn order l) turn_count claimed_in_all (λ (p : DeskPlace). claims_in p.pass.mine) refl (λ a b. omega arith)
      (λ p t q r. turn_claims order l p.behaviour p.registers p.pass q.pass t q.registers r.answer) n x y s h

  -- no more units are used up than there are, where any is
  pub turns_room : (claims_in y.pass.mine ≤ l.units) ⊎ (claims_in y.pass.mine ≡ claims_in x.pass.mine)
  turns_room =
      called_keeps (TakesTurn order l) turn_count (λ a b. (claims_in b.pass.mine ≤ l.units) ⊎ (claims_in b.pass.mine ≡ claims_in a.pass.mine)) (λ a. inr refl)
      (λ a b c p q. room_then l.units (claims_in a.pass.mine) (claims_in b.pass.mine) (claims_in c.pass.mine) p q)
      (λ p t q r. inl (omega (arith, turn_claims order l p.behaviour p.registers p.pass q.pass t q.registers r.answer, turn_room order l p.behaviour p.registers p.pass q.pass t q.registers r.answer))) n x y s h

  pub turns_total : total s ≡ n
  turns_total = called_total (TakesTurn order l) turn_count one_turn n x y s h

module _ {X : Type 0} {F : X → Type 0} (behaviour : (x : X) × F x → Behaviour) (registers : (x : X) × F x → List ℕ) (pending : (x : X) × F x → Option Pending) where
  abbrev Lent : Type 0
  Lent = PassShown × DynBox X Global F

  abbrev at : Lent → DeskPlace
  at x = place (shown behaviour) (shown registers) (shown pending) x

  abbrev of_desk : Desk X F → DeskPlace
  of_desk d = desk_place behaviour registers pending d

  -- the desk took n turns so far
  pub record SoFar (order : Order) (n : ℕ) (old : Desk X F) (counts : Shift) (new : Desk X F) : Type 0 where
    pub calls : MadeCalls (TakesTurn order old.manager.now.limits) turn_count n (of_desk old) counts (of_desk new)
    pub same : IsSameDesk old new
    pub resting : IsResting behaviour registers pending new

  pub none_so_far : (order : Order) (d : Desk X F) → IsResting behaviour registers pending d → SoFar order 0 d empty_shift d
  none_so_far order d resting = record {
    calls = called_none (TakesTurn order d.manager.now.limits) turn_count (of_desk d);
    same = record { manager = refl; pass = refl; server = refl; first_pass = refl; first_server = refl };
    resting = resting;
  }

  pub one_more : (order : Order) (n : ℕ) (t : Turned) (x y z : Desk X F) (s u v : Shift) → SoFar order n x s y → IsSameDesk y z → TakesTurn order y.manager.now.limits (of_desk y) t (of_desk z)
      → IsResting behaviour registers pending z → u ≡ turn_count t → v ≡ plus s u → SoFar order (n + 1) x v z
  one_more order n t x y z s u v h same turn resting is both = record {
    calls = called_more (TakesTurn order x.manager.now.limits) turn_count n t (of_desk x) (of_desk y) (of_desk z) s u v h.calls
        (subst (λ k. TakesTurn order k.now.limits (of_desk y) t (of_desk z)) h.same.manager turn) is both;
    same = record {
      manager = same.manager ∙ h.same.manager;
      pass = same.pass ∙ h.same.pass;
      server = same.server ∙ h.same.server;
      first_pass = same.first_pass ∙ h.same.first_pass;
      first_server = same.first_server ∙ h.same.first_server;
    };
    resting = resting;
  }

  -- a turn more, and the last, where each before it was so
  pub one_last : (P : Turned → Type 0) (order : Order) (n : ℕ) (t : Turned) (x y z : Desk X F) (s u v : Shift) (h : SoFar order n x s y) → All P h.calls.answers
      → TakesTurn order y.manager.now.limits (of_desk y) t (of_desk z) → u ≡ turn_count t → v ≡ plus s u
      → (m : MadeCalls (TakesTurn order x.manager.now.limits) turn_count (n + 1) (of_desk x) v (of_desk z)) × AllButLast P m.answers
  one_last P order n t x y z s u v h all turn is both =
      called_last (TakesTurn order x.manager.now.limits) turn_count P n t (of_desk x) (of_desk y) (of_desk z) s u v h.calls all
      (subst (λ k. TakesTurn order k.now.limits (of_desk y) t (of_desk z)) h.same.manager turn) is both

  pub all_had_units : (order : Order) (n : ℕ) (x y : Desk X F) (s : Shift) (h : SoFar order n x s y) → s.nounit ≡ 0 → All HadUnit h.calls.answers
  all_had_units order n x y s h none = called_zero (TakesTurn order x.manager.now.limits) turn_count (λ (c : Shift). c.nounit) (λ a b. refl) n (of_desk x) (of_desk y) s h.calls none

  pub all_had_work : (order : Order) (n : ℕ) (x y : Desk X F) (s : Shift) (h : SoFar order n x s y) → s.idle + s.nounit ≡ 0 → All HadWork h.calls.answers
  all_had_work order n x y s h none =
      called_zero (TakesTurn order x.manager.now.limits) turn_count (λ (c : Shift). c.idle + c.nounit) (λ a b. omega arith) n (of_desk x) (of_desk y) s h.calls none

  -- a desk of this pass and this server was made as d, became e by its turns, and left them as y
  pub record Lending (m : ManagerShown) (x : Lent) (d e : Desk X F) (y : Lent) : Type 0 where
    pub manager : d.manager.now ≡ m
    pub pass : d.pass.now ≡ x.0
    pub server : d.server.now ≡ x.1
    pub first_pass : d.first_pass.value ≡ x.0
    pub first_server : d.first_server.value ≡ x.1
    pub same : IsSameDesk d e
    pub resting : IsResting behaviour registers pending e
    pub ends : EndsOpen e.pass.now.open_unit e.pass.now y.0
    pub behaviour_is : shown behaviour y.1 ≡ shown behaviour e.server.now
    pub registers_are : shown registers y.1 ≡ shown registers e.server.now
    pub left : Leaves (shown behaviour y.1) (shown registers e.first_server.value) (shown registers y.1) e.first_pass.value y.0
    pub ready : IsDeskOf (shown behaviour) (shown registers) (shown pending) m y

  -- a desk with nothing in hand is left as its pass and its server show
  pub left_as : (e : Desk X F) (y : Lent) → IsResting behaviour registers pending e → EndsOpen e.pass.now.open_unit e.pass.now y.0
      → shown behaviour y.1 ≡ shown behaviour e.server.now → shown registers y.1 ≡ shown registers e.server.now → of_desk e ≡ at y
  left_as e y resting ends behaviour_is registers_are =
      let same : y.0 ≡ e.pass.now = same_when_free e.pass.now.open_unit e.pass.now y.0 (free_of _ e.work _ _ _ _ _ resting.free resting.steady.in_hand) ends in
      sym (rw (same, behaviour_is, registers_are) refl)
    where
      same_when_free : (o : Option ℕ) (p q : PassShown) → o ≡ None → EndsOpen o p q → q ≡ p
      same_when_free None p q none adds = adds
      same_when_free (Some u) p q none adds = absurd (no u none)
        where
          no : (u : ℕ) → Some u ≡ None → ⊥
          no u e = cc

      free_of : (pend : Option Pending) (w : Option Work) (drafts : List DraftView) (f p : PassShown) (r : Behaviour) (rs : List ℕ) → w ≡ None → InHand r rs pend w drafts f p → p.open_unit ≡ None
      free_of pend w drafts f p r rs none h = (subst (λ (o : Option Work). InHand r rs pend o drafts f p) none h).open_unit

  module _ (m : ManagerShown) (x : Lent) (d e : Desk X F) (y : Lent) (lending : Lending m x d e y) where
    begun : of_desk d ≡ at x
    begun = ap₂ (λ p s. record { pass = p; behaviour = shown behaviour s; registers = shown registers s }) lending.pass lending.server

    ended : of_desk e ≡ at y
    ended = left_as e y lending.resting lending.ends lending.behaviour_is lending.registers_are

    -- what the turns made of the pass and the server
    lent_as : (R : DeskPlace → DeskPlace → Type 0) → R (of_desk d) (of_desk e) → R (at x) (at y)
    lent_as R h = subst (λ a. R a (at y)) begun (subst (R (of_desk d)) ended h)

    lent_leaves : shown behaviour y.1 ≡ shown behaviour x.1 → Leaves (shown behaviour x.1) (shown registers x.1) (shown registers y.1) x.0 y.0
    lent_leaves whole =
        let first : e.first_pass.value ≡ x.0 = ap (λ f. f.value) lending.same.first_pass ∙ lending.first_pass in
        let start : e.first_server.value ≡ x.1 = ap (λ f. f.value) lending.same.first_server ∙ lending.first_server in
        subst (λ r. Leaves r (shown registers x.1) (shown registers y.1) x.0 y.0) whole
        (subst (λ (s : DynBox X Global F). Leaves (shown behaviour y.1) (shown registers s) (shown registers y.1) x.0 y.0) start
        (subst (λ (p : PassShown). Leaves (shown behaviour y.1) (shown registers e.first_server.value) (shown registers y.1) p y.0) first lending.left))

    same_behaviour : (order : Order) (ts : List Turned) (l : Limits) (p q : DeskPlace) → Chain (TakesTurn order l) p ts q → q.behaviour ≡ p.behaviour
    same_behaviour order [] l p q h = ap (λ (r : DeskPlace). r.behaviour) h
    same_behaviour order (t ∷ ts) l p q h = same_behaviour order ts l h.0 q h.2 ∙ h.1.behaviour_is

    pub desk_ran : (plan : Plan) (counts : Shift) → TakesTurns plan d.manager.now.limits (of_desk d) counts (of_desk e)
        → DeskRan (shown behaviour) (shown registers) (shown pending) m plan x counts y
    desk_ran plan counts taken =
        let now : TakesTurns plan m.limits (at x) counts (at y) =
        subst (λ (k : ManagerShown). TakesTurns plan k.limits (at x) counts (at y)) lending.manager (lent_as (λ a b. TakesTurns plan d.manager.now.limits a counts b) taken) in
        let whole : shown behaviour y.1 ≡ shown behaviour x.1 = same_behaviour plan.order now.calls.answers m.limits (at x) (at y) now.calls.each in
        record {
          turns_taken = now;
          done = turns_commit plan.order m.limits now.taken (at x) (at y) counts now.calls;
          leaves = lent_leaves whole;
          behaviour_is = whole;
          ready = lending.ready;
        }

    pub desk_worked : (plan : Plan) (counts : Shift) → DeskWorksOn plan d.manager.now.limits (of_desk d) counts (of_desk e)
        → DeskWorked (shown behaviour) (shown registers) (shown pending) m plan x counts y
    desk_worked plan counts worked =
        let now : DeskWorksOn plan m.limits (at x) counts (at y) =
        subst (λ (k : ManagerShown). DeskWorksOn plan k.limits (at x) counts (at y)) lending.manager (lent_as (λ a b. DeskWorksOn plan d.manager.now.limits a counts b) worked) in
        let whole : shown behaviour y.1 ≡ shown behaviour x.1 = same_behaviour plan.order now.calls.answers m.limits (at x) (at y) now.calls.each in
        record {
          turns_taken = now;
          done = turns_commit plan.order m.limits now.taken (at x) (at y) counts now.calls;
          leaves = lent_leaves whole;
          behaviour_is = whole;
          ready = lending.ready;
        }

    pub desk_took : (order : Order) (t : Turned) (counts : Shift) → TakesTurn order d.manager.now.limits (of_desk d) t (of_desk e) → AreLimits d.manager.now.limits → counts ≡ turn_count t
        → TookTurn (shown behaviour) (shown registers) (shown pending) m order x counts y
    desk_took order t counts turn limits counted =
        let now : TakesTurn order m.limits (at x) t (at y) =
        subst (λ (k : ManagerShown). TakesTurn order k.limits (at x) t (at y)) lending.manager (lent_as (λ a b. TakesTurn order d.manager.now.limits a t b) turn) in
        record {
          turned = t;
          turn = now;
          limits = subst (λ (k : ManagerShown). AreLimits k.limits) lending.manager limits;
          counted = counted;
          leaves = lent_leaves now.behaviour_is;
          ready = lending.ready;
        }
