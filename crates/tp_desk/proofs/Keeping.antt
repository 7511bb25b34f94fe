-- A desk stays steady.
use Rattle.std.proofs.Common.{◌≡◌, ◌⊎◌, ℕ, ◌+◌, List, map, Ok, [], ◌∷◌, ◌++◌, Option, Some, None, IsSome, IfSome, inl, inr, ⊎_elim, refl, sym, ◌∙◌, ap, subst}
use Rattle.std.specs.List.{cons_option}
use Rattle.std.specs.Option.{option_map}
use mathlib.Core.List.{IsPrefix}
use Rattle.tp_model.specs.Drafts.{DraftView}
use Rattle.tp_model.specs.declared.types.Element.{Element}
use Rattle.tp_model.specs.declared.types.Work.{Work}
use Rattle.tp_model.specs.declared.types.Limits.{Limits}
use Rattle.tp_model.specs.declared.types.Claimed.{Claimed}
use Rattle.tp_model.specs.declared.types.Claimed.TheVariants as claimeds
use Rattle.tp_model.specs.declared.types.Outcome.{Outcome}
use Rattle.tp_model.specs.declared.types.Refusal.{Refusal}
use Rattle.tp_model.specs.declared.types.Refusal.TheVariants as refusals
use Rattle.tp_model.specs.declared.types.Outcome.TheVariants as outcomes
use Rattle.tp_model.specs.declared.types.Ended.{Ended}
use Rattle.tp_model.specs.declared.types.Ended.TheVariants.{Aborted, AlreadyAborted}
use Rattle.tp_model.specs.declared.event.Event.{Event}
use Rattle.tp_model.specs.declared.event.Event.TheVariants.{Claim, Commit, Abort}
use Rattle.tp_model.specs.Births.{outputs}
use Rattle.tp_model.specs.Counts.{taken_by}
use Rattle.tp_model.specs.Passes.{IsPassView}
use Rattle.tp_model.specs.History.{IsBorn, IsClaim, UnitClaim, claim_by, claim_of, element_of}
use Rattle.tp_model.proofs.Bridges.{begins_trans, in_none, in_one}
use Rattle.tp_model.proofs.Histories.{element_of-kept}
use Rattle.tp_model.proofs.Lists.{first-kept, first-snoc, if_same, option_or-some, some_if}
use Rattle.tp_server.specs.Behaviour.{Allows, Behaviour}
use Rattle.tp_server.specs.Pending.{Pending, registers_of}
use Rattle.tp_server.proofs.Made.{made_of}
use Rattle.tp_manager.specs.Bounds.{abort_steps}
use Rattle.tp_manager.specs.Calls.{Adds, Claims, Closes, Commits, AnswersAbort, Follows, IsQuiet, Loses, Opens, Settles}
use Rattle.tp_manager.specs.Shown.{PassShown, view_in}
use Rattle.tp_desk.specs.Given.{GivenFails}
use Rattle.tp_desk.specs.Orders.{ClaimsBy}
use Rattle.tp_server.specs.declared.order.Order.{Order}
use Rattle.tp_server.specs.declared.order.Order.TheVariants as orders
use Rattle.tp_desk.specs.InHand.{InHand, IsFree, IsDeskSteady, work_of}
use Rattle.tp_desk.specs.Serving.{AreUnitsEnded, AreUnitsFresh, Leaves, Serves, done_with, draft_in, gained}
use Rattle.tp_desk.specs.Turns.{EndsOpen, Finishes, kept_by, registers_left}
use Rattle.tp_desk.proofs.Serves.{all_ended, ended_other, fresh_gained, gained_more, leaves_then, serves_more, still_ended}

same_some : {A : Type 0} (a b : A) → Some a ≡ Some b → a ≡ b
same_some a b e = cc

no_some : {A : Type 0} (o : Option A) → o ≡ None → IsSome o → ⊥
no_some None e some = cc
no_some (Some x) e some = cc

not_both : (o : Option ℕ) (v : ℕ) → o ≡ None → o ≡ Some v → ⊥
not_both o v none some = cc

no_commit : (c u d v i n : ℕ) (outs : List Element) → Commit c u outs ≡ Claim d v i n → ⊥
no_commit c u d v i n outs e = cc

no_abort : (c u d v : ℕ) (outs : List Element) → Commit c u outs ≡ Abort d v → ⊥
no_abort c u d v outs e = cc

same_unit : (c u d v : ℕ) (xs ys : List Element) → Commit c u xs ≡ Commit d v ys → u ≡ v
same_unit c u d v xs ys e = cc

none_some : (t : UnitClaim) → None ≡ Some t → ⊥
none_some t e = cc

-- a claim of a unit that is not claimed yet
fresh_claim : (before : List Event) (c u i n : ℕ) → claim_of before u ≡ None → AreUnitsFresh before (Claim c u i n ∷ [])
fresh_claim before c u i n none = λ v t claimed.
    let same : claim_by v (Claim c u i n) ≡ Some t = sym (first-snoc (claim_by v) [] (Claim c u i n)) ∙ claimed in
    subst (λ (w : ℕ). claim_of before w ≡ None) (some_if u v _ t same).0 none

-- a call goes on from what was seen
pub seen_on : (n : ℕ) (p q : PassShown) → Follows n p q → IsPrefix p.seen q.seen
seen_on n p q f = begins_trans p.seen _ q.seen f.opened f.closed

-- ---- what was served

-- the pass made no event
serves_quiet : (behaviour : Behaviour) (start r : List ℕ) (f p q : PassShown) → q.number ≡ p.number → IsPrefix p.seen q.seen → q.mine ≡ p.mine → Serves behaviour start r f p → Serves behaviour start r f q
serves_quiet behaviour start r f p q number seen same s =
    serves_more behaviour start r r f p q [] [] number seen (same ∙ sym (append_nil' p.mine)) refl (λ c u outs at. absurd (in_none at)) refl (λ u t claimed. absurd (none_some t claimed)) s
  where
    append_nil' : (l : List Event) → l ++ [] ≡ l
    append_nil' [] = refl
    append_nil' (x ∷ l) = ap (λ (m : List Event). x ∷ m) (append_nil' l)

serves_claim : (behaviour : Behaviour) (start r : List ℕ) (f p q : PassShown) (c u i n : ℕ) → q.number ≡ p.number → IsPrefix p.seen q.seen → q.mine ≡ p.mine ++ Claim c u i n ∷ [] → AreUnitsFresh p.mine (Claim c u i n ∷ []) → Serves behaviour start r f p → Serves behaviour start r f q
serves_claim behaviour start r f p q c u i n number seen adds fresh s =
    serves_more behaviour start r r f p q (Claim c u i n ∷ []) [] number seen adds refl (λ d v outs at. absurd (no_commit d v c u i n outs (in_one at))) refl fresh s

serves_abort : (behaviour : Behaviour) (start r : List ℕ) (f p q : PassShown) (c u : ℕ) → q.number ≡ p.number → IsPrefix p.seen q.seen → q.mine ≡ p.mine ++ Abort c u ∷ [] → Serves behaviour start r f p → Serves behaviour start r f q
serves_abort behaviour start r f p q c u number seen adds s =
    serves_more behaviour start r r f p q (Abort c u ∷ []) [] number seen adds refl (λ d v outs at. absurd (no_abort d v c u outs (in_one at))) refl (λ v t claimed. absurd (none_some t claimed)) s

-- the unit of this work was committed
serves_commit : (behaviour : Behaviour) (start r r' : List ℕ) (f p q : PassShown) (c : ℕ) (outs : List Element) (work : Work) → q.number ≡ p.number → IsPrefix p.seen q.seen
    → q.mine ≡ p.mine ++ Commit c work.unit outs ∷ [] → IsClaim (gained f.mine p.mine) p.number work.unit work.element.id work.attempt → IsBorn p.seen work.element
    → Allows behaviour r work.element (Ok (record { registers = r'; drafts = map draft_in outs })) → Serves behaviour start r f p → Serves behaviour start r' f q
serves_commit behaviour start r r' f p q c outs work number seen adds claimed born after s =
    let g : List Event = gained f.mine p.mine in
    let x : Event = Commit c work.unit outs in
    let t : UnitClaim = record { pass = p.number; item = work.element.id; attempt = work.attempt } in
    let there_still : element_of q.seen work.element.id ≡ Some work.element = subst (λ (h : List Event). element_of h work.element.id ≡ Some work.element) seen.1 (element_of-kept p.seen seen.0 work.element.id work.element born) in
    let took : (d : ℕ) (ys : List Element) → taken_by (g ++ x ∷ []) q.seen (Commit d work.unit ys) ≡ Some work.element = λ d ys. rw (first-kept (claim_by work.unit) g (x ∷ []) t claimed) there_still in
    serves_more behaviour start r r' f p q (x ∷ []) (done_with outs work.element ∷ []) number seen adds
    (ap (λ (o : Option Element). cons_option (option_map (done_with outs) o) []) (took c outs))
    (λ d v ys at. (work.element, subst (λ w. taken_by (g ++ x ∷ []) q.seen (Commit d w ys) ≡ Some work.element) (sym (same_unit d v c work.unit ys outs (in_one at))) (took d ys)))
    (r', after, refl) (λ v t claimed. absurd (none_some t claimed)) s

-- outputs are what their drafts were
outputs_drafts : (u root id : ℕ) (ds : List DraftView) → map draft_in (outputs u root id ds) ≡ ds
outputs_drafts u root id [] = refl
outputs_drafts u root id (d ∷ ds) = ap (λ (l : List DraftView). d ∷ l) (outputs_drafts u root (id + 1) ds)

-- ---- the desk

module _ (behaviour : Behaviour) (r : List ℕ) (pending : Option Pending) (start : List ℕ) (f p : PassShown) where
  -- an element was taken in hand
  claims : (work : Option Work) (drafts : List DraftView) → work ≡ None → IsDeskSteady behaviour r pending start f p work drafts
      → (l : Limits) (n stage : ℕ) (q : PassShown) (w : Work) → Follows n p q → Opens l stage w p q → IsDeskSteady behaviour r pending start f q (Some w) drafts
  claims work drafts none s l n stage q w follows takes =
      let g : List Event = gained f.mine p.mine in
      let x : Event = Claim p.number w.unit w.element.id w.attempt in
      let free : IsFree pending p = subst (λ (o : Option Work). InHand behaviour r pending o drafts f p) none s.in_hand in
      let now : gained f.mine q.mine ≡ g ++ x ∷ [] = ap (gained f.mine) takes.adds.mine ∙ gained_more f.mine p.mine (x ∷ []) s.serves.mine in
      let t : UnitClaim = record { pass = p.number; item = w.element.id; attempt = w.attempt } in
      let fresh : claim_of g w.unit ≡ None = fresh_gained f.mine p.mine w.unit s.serves.mine takes.fresh in
      let claimed : claim_of (g ++ x ∷ []) w.unit ≡ Some t = first-snoc (claim_by w.unit) g x ∙ rw (fresh) (if_same w.unit w.unit (Some t) None refl) in
      let seen = seen_on n p q follows in
      let ended : AreUnitsEnded (Some w.unit) (g ++ x ∷ []) q.seen = λ v y is.
      ⊎_elim (λ before. ⊎_elim (λ same. absurd (not_both p.open_unit v free.open_unit same)) (λ e. inr e) (still_ended g p.seen q.seen p.open_unit seen s.ended v y before))
      (λ here. inl (ap Some (some_if w.unit v t y here.1).0)) (option_or-some (claim_of g v) (claim_by v x) y (sym (first-snoc (claim_by v) g x) ∙ is)) in
      record {
        serves = serves_claim behaviour start r f p q p.number w.unit w.element.id w.attempt follows.number seen takes.adds.mine (fresh_claim p.mine p.number w.unit w.element.id w.attempt takes.fresh) s.serves;
        in_hand = record {
          open_unit = takes.open_unit;
          claimed = subst (λ (h : List Event). IsClaim h q.number w.unit w.element.id w.attempt) (sym now) (subst (λ (c : ℕ). IsClaim (g ++ x ∷ []) c w.unit w.element.id w.attempt) (sym follows.number) claimed);
          is_born = takes.is_born;
          prepared = λ some. absurd (no_some pending free.unprepared some);
        };
        ended = subst (λ (o : Option ℕ). AreUnitsEnded o (gained f.mine q.mine) q.seen) (sym takes.open_unit) (subst (λ (h : List Event). AreUnitsEnded (Some w.unit) h q.seen) (sym now) ended);
      }

  -- nothing was taken
  idles : (work : Option Work) (drafts : List DraftView) → work ≡ None → IsDeskSteady behaviour r pending start f p work drafts
      → (n : ℕ) (q : PassShown) → Follows n p q → IsQuiet p q → IsDeskSteady behaviour r pending start f q work drafts
  idles work drafts none s n q follows quiet =
      let free : IsFree pending p = subst (λ (o : Option Work). InHand behaviour r pending o drafts f p) none s.in_hand in
      let seen = seen_on n p q follows in
      let here : InHand behaviour r pending None drafts f q = record { open_unit = quiet.open_unit ∙ free.open_unit; unprepared = free.unprepared } in
      record {
        serves = serves_quiet behaviour start r f p q follows.number seen quiet.mine s.serves;
        in_hand = subst (λ (o : Option Work). InHand behaviour r pending o drafts f q) (sym none) here;
        ended = subst (λ (o : Option ℕ). AreUnitsEnded o (gained f.mine q.mine) q.seen) (sym quiet.open_unit) (subst (λ (m : List Event). AreUnitsEnded p.open_unit (gained f.mine m) q.seen) (sym quiet.mine) (still_ended (gained f.mine p.mine) p.seen q.seen p.open_unit seen s.ended));
      }

  -- the open unit ended without a Commit
  pub leaves : (work : Option Work) (drafts : List DraftView) → IsDeskSteady behaviour r pending start f p work drafts
      → (n u : ℕ) (q : PassShown) → Follows n p q → Closes u p q → Adds (Abort p.number u) p q ⊎ Loses u p q → Leaves behaviour start r f q
  leaves work drafts s n u q follows closes how =
      let g : List Event = gained f.mine p.mine in
      let seen = seen_on n p q follows in
      let all : AreUnitsEnded None g q.seen = all_ended g p.seen q.seen p.open_unit u seen closes.was_open closes.ended s.ended in
      ⊎_elim (λ adds. record {
        shows = follows.shows;
        serves = serves_abort behaviour start r f p q p.number u follows.number seen adds.mine s.serves;
        ended = subst (λ (h : List Event). AreUnitsEnded None h q.seen) (sym (ap (gained f.mine) adds.mine ∙ gained_more f.mine p.mine (Abort p.number u ∷ []) s.serves.mine)) (ended_other g q.seen None (Abort p.number u) (λ v. refl) all);
      })
      (λ loses. record {
        shows = follows.shows;
        serves = serves_quiet behaviour start r f p q follows.number seen loses.0 s.serves;
        ended = subst (λ (m : List Event). AreUnitsEnded None (gained f.mine m) q.seen) (sym loses.0) all;
      }) how

  -- the unit of the work in hand was committed
  kept : (work : Option Work) (drafts : List DraftView) → IsDeskSteady behaviour r pending start f p work drafts → IsSome pending
      → (r' : List ℕ) → Some r' ≡ registers_of pending → (n first count : ℕ) (q : PassShown) → Follows n p q → Commits first count drafts p q → Leaves behaviour start r' f q
  kept None drafts s some r' made n first count q follows commits = absurd (no_some pending s.in_hand.unprepared some)
  kept (Some w) drafts s some r' made n first count q follows commits =
      let g : List Event = gained f.mine p.mine in
      let seen = seen_on n p q follows in
      let unit : commits.unit ≡ w.unit = same_some _ _ (sym commits.closes.was_open ∙ s.in_hand.open_unit) in
      let all : AreUnitsEnded None g q.seen = all_ended g p.seen q.seen p.open_unit commits.unit seen commits.closes.was_open commits.closes.ended s.ended in
      let outs : List Element = outputs commits.unit commits.root commits.row drafts in
      let allowed : Allows behaviour r w.element (Ok (record { registers = r'; drafts = map draft_in outs })) =
      subst (λ (ds : List DraftView). Allows behaviour r w.element (Ok (record { registers = r'; drafts = ds })))
      (sym (outputs_drafts commits.unit commits.root commits.row drafts)) (made_of behaviour r w.element pending drafts r' (s.in_hand.prepared some) made) in
      let adds : q.mine ≡ p.mine ++ Commit p.number w.unit outs ∷ [] = commits.adds.mine ∙ ap (λ (u : ℕ). p.mine ++ Commit p.number u outs ∷ []) unit in
      record {
        shows = follows.shows;
        serves = serves_commit behaviour start r r' f p q p.number outs w follows.number seen adds s.in_hand.claimed s.in_hand.is_born allowed s.serves;
        ended = subst (λ (h : List Event). AreUnitsEnded None h q.seen) (sym (ap (gained f.mine) adds ∙ gained_more f.mine p.mine (Commit p.number w.unit outs ∷ []) s.serves.mine)) (ended_other g q.seen None (Commit p.number w.unit outs) (λ v. refl) all);
      }

-- what it leaves is a steady desk with nothing in hand
pub emptied : (behaviour behaviour' : Behaviour) (start r r' : List ℕ) (f q : PassShown) (pending : Option Pending) (drafts : List DraftView)
    → Leaves behaviour start r f q → behaviour' ≡ behaviour → r' ≡ r → pending ≡ None → q.open_unit ≡ None → IsDeskSteady behaviour' r' pending start f q None drafts
emptied behaviour behaviour' start r r' f q pending drafts x same_behaviour same_r clear free =
    rw (same_behaviour, same_r) (record {
      serves = x.serves;
      in_hand = record { open_unit = free; unprepared = clear };
      ended = subst (λ (o : Option ℕ). AreUnitsEnded o (gained f.mine q.mine) q.seen) (sym free) x.ended;
    })

-- a desk with nothing in hand stays steady where another worked meanwhile with its pass and its server
pub still_steady : (behaviour behaviour' : Behaviour) (start r r' : List ℕ) (pending pending' : Option Pending) (f p q : PassShown) (work : Option Work) (drafts : List DraftView)
    → IsDeskSteady behaviour r pending start f p work drafts → work ≡ None → Leaves behaviour r r' p q → behaviour' ≡ behaviour → q.open_unit ≡ None → pending' ≡ None
    → IsDeskSteady behaviour' r' pending' start f q work drafts
still_steady behaviour behaviour' start r r' pending pending' f p q work drafts s none left same free clear =
    let idle : IsFree pending p = subst (λ (o : Option Work). InHand behaviour r pending o drafts f p) none s.in_hand in
    let ended : AreUnitsEnded None (gained f.mine p.mine) p.seen = subst (λ (o : Option ℕ). AreUnitsEnded o (gained f.mine p.mine) p.seen) idle.open_unit s.ended in
    subst (λ (o : Option Work). IsDeskSteady behaviour' r' pending' start f q o drafts) (sym none)
    (emptied behaviour behaviour' start r' r' f q pending' drafts (leaves_then behaviour start r r' f p q s.serves ended left) same refl clear free)

-- what a claim took, in either order
pub opens_by : (order : Order) (l : Limits) (stage : ℕ) (w : Work) (p q : PassShown) → ClaimsBy order l stage p q (claimeds.Work w) → Opens l stage w p q
opens_by orders.LeastFirst l stage w p q takes = takes.opens
opens_by orders.InTurn l stage w p q takes = takes.opens

-- and one that took nothing
pub idle_by : (order : Order) (l : Limits) (stage : ℕ) (p q : PassShown) → ClaimsBy order l stage p q claimeds.Idle → Claims l stage p q claimeds.Idle
idle_by orders.LeastFirst l stage p q answer = answer
idle_by orders.InTurn l stage p q answer = answer.0

pub nounit_by : (order : Order) (l : Limits) (stage : ℕ) (p q : PassShown) → ClaimsBy order l stage p q claimeds.NoUnit → Claims l stage p q claimeds.NoUnit
nounit_by orders.LeastFirst l stage p q answer = answer
nounit_by orders.InTurn l stage p q answer = answer

-- a claim, whatever its answer
pub claimed : (behaviour : Behaviour) (r : List ℕ) (pending : Option Pending) (start : List ℕ) (f p q : PassShown) (work : Option Work) (drafts : List DraftView) (l : Limits) (order : Order) (n stage : ℕ) (answer : Claimed)
    → work ≡ None → IsDeskSteady behaviour r pending start f p work drafts → Follows n p q → ClaimsBy order l stage p q answer → IsDeskSteady behaviour r pending start f q (work_of answer) drafts
claimed behaviour r pending start f p q work drafts l order n stage (claimeds.Work w) none s follows takes = claims behaviour r pending start f p work drafts none s l n stage q w follows (opens_by order l stage w p q takes)
claimed behaviour r pending start f p q work drafts l order n stage claimeds.Idle none s follows answer =
    let idle = idle_by order l stage p q answer in
    subst (λ (o : Option Work). IsDeskSteady behaviour r pending start f q o drafts) none (idles behaviour r pending start f p work drafts none s n q follows idle.1)
claimed behaviour r pending start f p q work drafts l order n stage claimeds.NoUnit none s follows answer =
    let same = nounit_by order l stage p q answer in
    subst (λ (x : PassShown). IsDeskSteady behaviour r pending start f x None drafts) (sym same.1) (subst (λ (o : Option Work). IsDeskSteady behaviour r pending start f p o drafts) none s)

-- a claim of a given element that took it, and one that was refused
pub given : (behaviour : Behaviour) (r : List ℕ) (pending : Option Pending) (start : List ℕ) (f p q : PassShown) (work : Option Work) (drafts : List DraftView) (l : Limits) (n stage id : ℕ) (w : Work)
    → work ≡ None → IsDeskSteady behaviour r pending start f p work drafts → Follows n p q → Opens l stage w p q × (w.element.id ≡ id) → IsDeskSteady behaviour r pending start f q (Some w) drafts
given behaviour r pending start f p q work drafts l n stage id w none s follows takes = claims behaviour r pending start f p work drafts none s l n stage q w follows takes.0

pub not_given : (behaviour : Behaviour) (r : List ℕ) (pending : Option Pending) (start : List ℕ) (f p q : PassShown) (work : Option Work) (drafts : List DraftView) (l : Limits) (n stage id : ℕ) (why : Refusal)
    → work ≡ None → IsDeskSteady behaviour r pending start f p work drafts → Follows n p q → GivenFails l stage id p q why → IsDeskSteady behaviour r pending start f q work drafts
not_given behaviour r pending start f p q work drafts l n stage id refusals.NoUnit none s follows says = subst (λ x. IsDeskSteady behaviour r pending start f x work drafts) (sym says.1) s
not_given behaviour r pending start f p q work drafts l n stage id refusals.NotThere none s follows says = idles behaviour r pending start f p work drafts none s n q follows says.1
not_given behaviour r pending start f p q work drafts l n stage id refusals.BadStage none s follows says = idles behaviour r pending start f p work drafts none s n q follows says.1
not_given behaviour r pending start f p q work drafts l n stage id refusals.NotWaiting none s follows says = idles behaviour r pending start f p work drafts none s n q follows says.1
not_given behaviour r pending start f p q work drafts l n stage id refusals.NoMemory none s follows says = absurd says
not_given behaviour r pending start f p q work drafts l n stage id refusals.BadLimits none s follows says = absurd says
not_given behaviour r pending start f p q work drafts l n stage id refusals.Full none s follows says = absurd says
not_given behaviour r pending start f p q work drafts l n stage id (refusals.Consumed u) none s follows says = absurd says
not_given behaviour r pending start f p q work drafts l n stage id refusals.AlreadyKilled none s follows says = absurd says
not_given behaviour r pending start f p q work drafts l n stage id refusals.NotParked none s follows says = absurd says
not_given behaviour r pending start f p q work drafts l n stage id refusals.NoRound none s follows says = absurd says
not_given behaviour r pending start f p q work drafts l n stage id refusals.NotHeld none s follows says = absurd says

-- a commit, whatever its answer
pub committed : (behaviour : Behaviour) (r r' : List ℕ) (pending : Option Pending) (start : List ℕ) (f p q : PassShown) (work : Option Work) (drafts : List DraftView) (n : ℕ) (outcome : Outcome)
    → IsDeskSteady behaviour r pending start f p work drafts → IsSome pending → Follows n p q → Settles drafts p q outcome → Some r' ≡ registers_left outcome r pending → Leaves behaviour start r' f q
committed behaviour r r' pending start f p q work drafts n (outcomes.Committed first count) s some follows settles made =
    kept behaviour r pending start f p work drafts s some r' made n first count q follows settles
committed behaviour r r' pending start f p q work drafts n outcomes.Lost s some follows settles made =
    subst (λ x. Leaves behaviour start x f q) (same_some _ _ (sym made)) (leaves behaviour r pending start f p work drafts s n settles.0 q follows settles.1 (inr settles.4))
committed behaviour r r' pending start f p q work drafts n outcomes.Full s some follows settles made =
    subst (λ x. Leaves behaviour start x f q) (same_some _ _ (sym made)) (leaves behaviour r pending start f p work drafts s n settles.2.0 q follows settles.2.1 settles.2.3)

-- the registers that a commit leaves, where this work was prepared
left_by : (outcome : Outcome) (r r' : List ℕ) (made : Pending) → Some r' ≡ registers_left outcome r (Some made) → r' ≡ kept_by outcome r made.registers
left_by (outcomes.Committed first count) r r' made is = same_some r' made.registers is
left_by outcomes.Lost r r' made is = same_some r' r is
left_by outcomes.Full r r' made is = same_some r' r is

-- prepared work was committed with its drafts, whatever the answer
pub finishes : (behaviour : Behaviour) (r r' : List ℕ) (pending : Option Pending) (start : List ℕ) (f p q : PassShown) (work : Option Work) (drafts : List DraftView) (outcome : Outcome)
    → IsDeskSteady behaviour r pending start f p work drafts → IsSome pending → Settles drafts p q outcome → Some r' ≡ registers_left outcome r pending → IfSome work (λ w. Finishes behaviour r w p q outcome r')
finishes behaviour r r' pending start f p q None drafts outcome s some settles is = tt
finishes behaviour r r' None start f p q (Some w) drafts outcome s some settles is = absurd (no_some {A = Pending} None refl some)
finishes behaviour r r' (Some made) start f p q (Some w) drafts outcome s some settles is =
    (record { registers = made.registers; drafts = drafts }, (s.in_hand.prepared some).1, settles, left_by outcome r r' made is)

-- an abort, whatever its answer
pub gives_up : (p q : PassShown) (e : Ended) → AnswersAbort p q e → (u : ℕ) × Closes u p q × (Adds (Abort p.number u) p q ⊎ Loses u p q)
gives_up p q Aborted ends = (ends.0, ends.1, inl ends.3)
gives_up p q AlreadyAborted ends = (ends.0, ends.1, inr ends.3)

-- what a desk that ends leaves, whether a unit was open or not
pub left : (behaviour behaviour' : Behaviour) (r r' : List ℕ) (pending : Option Pending) (start : List ℕ) (f p : PassShown) (work : Option Work) (drafts : List DraftView)
    → IsDeskSteady behaviour r pending start f p work drafts → behaviour' ≡ behaviour → r' ≡ r
    → (q : PassShown) → IsPassView q.limits (view_in q) → EndsOpen p.open_unit p q → IfSome p.open_unit (λ _. Follows abort_steps p q) → Leaves behaviour' start r' f q
left behaviour behaviour' r r' pending start f p work drafts s same_behaviour same_r q shows adds follows =
    rw (same_behaviour, same_r) (go p.open_unit refl adds follows)
  where
    go : (o : Option ℕ) → p.open_unit ≡ o → EndsOpen o p q → IfSome o (λ _. Follows abort_steps p q) → Leaves behaviour start r f q
    go None is same follows = subst (Leaves behaviour start r f) (sym same) (record {
      shows = subst (λ (x : PassShown). IsPassView x.limits (view_in x)) same shows;
      serves = s.serves;
      ended = subst (λ (o : Option ℕ). AreUnitsEnded o (gained f.mine p.mine) p.seen) is s.ended;
    })
    go (Some u) is up follows =
        let gives = gives_up p q up.0 up.1 in
        leaves behaviour r pending start f p work drafts s abort_steps gives.0 q follows gives.1 gives.2
