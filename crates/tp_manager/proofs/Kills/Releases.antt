-- A release and a collect, on their way.
use Rattle.std.proofs.Common.{◌≡◌, ◌≢◌, ℕ, ◌+◌, nat_lt, Bool, true, false, cond, Option, Some, None, List, [], ◌∷◌, ◌++◌, sym, refl, ap, ◌∙◌, subst, inl, ⊎_elim, arith}
use mathlib.Core.List.{IsPrefix}
use Rattle.tp_model.specs.declared.types.Element.{Element}
use Rattle.tp_model.specs.declared.types.Limits.{Limits}
use Rattle.tp_model.specs.declared.types.Refusal.{Refusal}
use Rattle.tp_model.specs.declared.types.Refusal.TheVariants as refusals
use Rattle.tp_model.specs.declared.types.Status.TheVariants.{Waiting, Held, Consumed, Parked, Killed}
use Rattle.tp_model.specs.declared.event.Event.{Event}
use Rattle.tp_model.specs.declared.event.Event.TheVariants.{Abort}
use Rattle.tp_model.specs.History.{Aborted, element_of, end_of, status_of}
use Rattle.tp_model.specs.Words.{ClaimWord, FreeWord, TakenWord, KilledWord, AgainWord, claim_word, taken_status}
use Rattle.tp_model.specs.Steps.{IsLegal, Step}
use Rattle.tp_model.proofs.Histories.{legal_at, legal_start}
use Rattle.tp_model.proofs.Bridges.{begins_trans, found_later, status_taken}
use Rattle.tp_model.proofs.Later.{claim_stands, stood}
use Rattle.tp_rule.specs.Words.{head_of}
use Rattle.tp_rule.specs.declared.packing.Head.TheVariants.{Filled}
use Rattle.tp_rule.specs.Steps.{AllowsKill, HasElement, MakesAbort}
use Rattle.tp_rule.specs.Views.{SeatShown, hand, view_of}
use Rattle.tp_rule.specs.declared.view.View.{View}
use Rattle.tp_manager.specs.declared.manager.Run.{Run}
use Rattle.tp_manager.specs.Calls.{IsWaiting}
use Rattle.tp_manager.specs.Shown.{Spot, PassShown, shown}
use Rattle.tp_manager.specs.Kills.{Slain}
use Rattle.tp_manager.specs.Requeues.{IsBetween}
use Rattle.tp_manager.specs.Releases.{CollectFails, Collects, Freeing, IsHeld, IsPastCollect, IsPastRelease, ReleaseFails, Releases}
use Rattle.tp_manager.specs.CallSteps.{Acted, Gained, Looked, Steady}
use Rattle.tp_manager.specs.BetweenCalls.{Rests}
use Rattle.tp_manager.proofs.Rows.Finds.{reply_killed, taken_served}
use Rattle.tp_manager.proofs.Calls.Gains.{gained_looked, gained_then, rests_gained}
use Rattle.tp_manager.proofs.Kills.OneKill.{freed_abort}
use Rattle.tp_manager.proofs.Kills.Moves.{moved}
use Rattle.tp_manager.proofs.Calls.Passes.{quiet_looked}
use Rattle.tp_manager.proofs.Kills.Requeues.{point_between}
use Rattle.tp_manager.proofs.Calls.CallSteps.{acted_then, looked, looked_begins}

-- statuses in which no unit holds the element

waiting_unheld : (n : ℕ) → ¬ IsHeld (Waiting n)
waiting_unheld n t = let e = t.2 in cc

consumed_unheld : (u : ℕ) → ¬ IsHeld (Consumed u)
consumed_unheld u t = let e = t.2 in cc

parked_unheld : (n : ℕ) → ¬ IsHeld (Parked n)
parked_unheld n t = let e = t.2 in cc

killed_unheld : ¬ IsHeld Killed
killed_unheld t = let e = t.2 in cc

-- and those in which it doesn't wait

held_awaits : (u n : ℕ) → ¬ IsWaiting (Held u n)
held_awaits u n w = let e = w.1 in cc

parked_awaits : (n : ℕ) → ¬ IsWaiting (Parked n)
parked_awaits n w = let e = w.1 in cc

killed_awaits : ¬ IsWaiting Killed
killed_awaits w = let e = w.1 in cc

-- the head of an element has its stage
pub head_stage : (x : Element) (s r : ℕ) (by : Option ℕ) → head_of x ≡ Filled s r by → x.stage ≡ s
head_stage x s r by is = cc

module _ (l : Limits) where
  pub unheld_waiting : (h : List Event) (i n : ℕ) → status_of l.attempts h i ≡ Waiting n → ¬ IsHeld (status_of l.attempts h i)
  unheld_waiting h i n is t = waiting_unheld n (subst IsHeld is t)

  pub unheld_consumed : (h : List Event) (i u : ℕ) → status_of l.attempts h i ≡ Consumed u → ¬ IsHeld (status_of l.attempts h i)
  unheld_consumed h i u is t = consumed_unheld u (subst IsHeld is t)

  pub unheld_killed : (h : List Event) (i : ℕ) → status_of l.attempts h i ≡ Killed → ¬ IsHeld (status_of l.attempts h i)
  unheld_killed h i is t = killed_unheld (subst IsHeld is t)

  aborted_unheld : (n u : ℕ) → ¬ IsHeld (taken_status l.attempts n u (Some Aborted))
  aborted_unheld n u = go (nat_lt n l.attempts)
    where
      go : (b : Bool) → ¬ IsHeld (cond b (Waiting n) (Parked n))
      go true t = waiting_unheld n t
      go false t = parked_unheld n t

  -- the unit of the claim that was found had been aborted: at a time between nobody held the element
  pub aborted_between : (a b : List Event) (i n u : ℕ) {r : ℕ} → IsLegal l b → IsPrefix a b → claim_word a i ≡ TakenWord n u r → end_of b u ≡ Some Aborted → IsBetween a b (λ h. ¬ IsHeld (status_of l.attempts h i))
  aborted_between a b i n u {r} legal begins is ended =
      let t = stood l a i n u r b legal begins is ended in
      (t.0, t.1, t.2, λ held. aborted_unheld n u (subst IsHeld (status_taken l t.0 i n u t.5 t.3 ∙ ap (taken_status l.attempts n u) t.4) held))

  -- the release itself
  pub freeing_by : (i n u : ℕ) {r : ℕ} (v w : View) → Steady l v → HasElement v.seen i → claim_word v.seen i ≡ TakenWord n u r → MakesAbort v u w → Freeing l 1 i u n v w
  freeing_by i n u {r} v w s born taken g =
      let e = Abort (hand v).number u in
      let f = freed_abort l i n u v w s taken g in
      let p : List Event = v.seen ++ g.between in
      let begins : IsPrefix v.seen p = (g.between, refl) in
      let legal : IsLegal l (p ++ e ∷ []) = subst (IsLegal l) g.seen f.0.gained.walk.steady.shows.legal in
      let step : Step l p e = legal_at l p e [] legal in
      let open_yet : end_of p u ≡ None = step.open_unit.unfinished in
      let before : IsLegal l p = legal_start l p (e ∷ []) legal in
      let still : claim_word p i ≡ TakenWord n u r = claim_stands l v.seen p before begins i n u taken (λ z. absurd cc) in
      record {
        gained = f.0.gained;
        before = p;
        begins = begins;
        ends = g.seen;
        held = (born.0, found_later v.seen p begins i born.0 born.1, status_taken l p i n u before still ∙ ap (taken_status l.attempts n u) open_yet);
      }

  pub freeing_then : (n m i u a : ℕ) (v w y : View) → Looked l n v w → Freeing l m i u a w y → Freeing l (n + m) i u a v y
  freeing_then n m i u a v w y b f =
      let same : (hand w).number ≡ (hand v).number = b.walk.number in
      record {
        gained = subst (λ z. Gained l (n + m) (Abort z u ∷ []) v y) same (gained_then l n m [] (Abort (hand w).number u ∷ []) v w y (gained_looked l n v w b) f.gained);
        before = f.before;
        begins = begins_trans v.seen w.seen f.before (looked_begins l n v w b) f.begins;
        ends = f.ends ∙ ap (λ z. f.before ++ Abort z u ∷ []) same;
        held = f.held;
      }

  -- a reply that isn't killed may be
  pub reply_allows : (a b : List Event) (i : ℕ) (x : Element) (w : ClaimWord) → IsLegal l a → element_of a i ≡ Some x → x.stage ≡ 15 → w ≡ claim_word a i → ((n u r : ℕ) → ¬ (w ≡ KilledWord n u r)) → AllowsKill l b w
  reply_allows a b i x FreeWord legal born staged found alive = tt
  reply_allows a b i x (TakenWord n u r) legal born staged found alive =
      let s = taken_served l a legal i n u r (sym found) in
      let high = s.2.1 in
      let one : s.0 ≡ x = let q = s.1 in cc in
      let at : s.0.stage ≡ 15 = ap (λ (y : Element). y.stage) one ∙ staged in
      absurd (omega arith)
  reply_allows a b i x (KilledWord n u r) legal born staged found alive = absurd (alive n u r refl)
  reply_allows a b i x (AgainWord r) legal born staged found alive = tt

  -- a reply whose claim isn't the one that was found was killed between
  pub killed_between : (a b : List Event) (i : ℕ) (x : Element) (w : ClaimWord) → IsLegal l b → IsPrefix a b → element_of a i ≡ Some x → x.stage ≡ 15 → w ≡ claim_word a i → claim_word b i ≢ w → IsBetween a b (λ h. status_of l.attempts h i ≡ Killed)
  killed_between a b i x w legal begins born staged found differs = ⊎_elim
      (λ same. absurd (differs (same ∙ sym found)))
      (λ t. (t.0, t.1, t.2, reply_killed l t.0 i x (legal_start l t.0 t.2.0 (rw t.2.1 legal)) (found_later a t.0 t.1 i x born) staged t.3))
      (moved l i IsWaiting held_awaits killed_awaits (inl parked_awaits) a b legal begins)

module _ (l : Limits) (seat next : SeatShown) (number : ℕ) (run : Run) (used : ℕ) (same : (view_of seat).limits ≡ l) (r : Rests seat number run used None) where
  pub rests_freeing : (n i u a : ℕ) → Freeing l n i u a (view_of seat) (view_of next) → Rests next number run used None
  rests_freeing n i u a f = rests_gained l seat next number run used same r n (Abort (hand (view_of seat)).number u ∷ []) f.gained refl

module _ (t t' : Spot) (v w : View) (old : PassShown) (is : shown t v ≡ old) (l : Limits) (free : (hand v).open_unit ≡ None) where
  pub releases_shown : (n i u a : ℕ) → Freeing l n i u a v w → Releases l i u a old (shown t' w)
  releases_shown n i u a f = subst (λ (p : PassShown). Releases l i u a p (shown t' w)) is record {
    adds = record { mine = f.gained.mine; before = f.before; seen = f.ends; begins = f.begins };
    held = f.held;
    open_unit = f.gained.open_unit free ∙ sym free;
    run = (f.gained.run.0, f.gained.run.1, f.gained.run.2);
  }

  pub collects_shown : (n i : ℕ) (x : Element) → Slain l n i [] v w → element_of w.seen i ≡ Some x → x.stage ≡ 15 → Collects i x old (shown t' w)
  collects_shown n i x s born staged = subst (λ (p : PassShown). Collects i x p (shown t' w)) is record {
    adds = record { mine = s.gained.mine; before = s.before; seen = s.ends; begins = s.begins };
    is_born = born;
    is_reply = staged;
    open_unit = s.gained.open_unit free ∙ sym free;
    run = (s.gained.run.0, s.gained.run.1, s.gained.run.2);
  }

module _ (t t' : Spot) (v x w : View) (old : PassShown) (is : shown t v ≡ old) (l : Limits) (n m : ℕ) (a : Acted l n v x) (b : Looked l m x w) where
  pub release_shown : (i : ℕ) (e : Refusal) → HasElement x.seen i → IsPastRelease l i x.seen w.seen e → ReleaseFails l i old (shown t' w) e
  release_shown i refusals.NoMemory born p = p
  release_shown i refusals.BadLimits born p = p
  release_shown i refusals.BadStage born p = p
  release_shown i refusals.NotThere born p = absurd p
  release_shown i (refusals.Consumed u) born p = p
  release_shown i refusals.AlreadyKilled born p = p
  release_shown i refusals.Full born p = p
  release_shown i refusals.NotParked born p = p
  release_shown i refusals.NoRound born p = p
  release_shown i refusals.NotWaiting born p = p
  release_shown i refusals.NoUnit born p = p
  release_shown i refusals.NotHeld born p = (
    quiet_looked t t' v w old is l (n + m) (looked l (n + m) v w (acted_then l n m v x w a b)),
    point_between t t' v x w old is l n m a b _ (p.0, p.1, p.2, (born.0, found_later x.seen p.0 p.1 i born.0 born.1, p.3)),
  )

  pub collect_shown : (i : ℕ) (e : Refusal) → ((y : Element) × (element_of x.seen i ≡ Some y) × (y.stage ≡ 15)) → IsPastCollect l i x.seen w.seen e → CollectFails l i old (shown t' w) e
  collect_shown i refusals.NoMemory born p = p
  collect_shown i refusals.BadLimits born p = p
  collect_shown i refusals.BadStage born p = absurd p
  collect_shown i refusals.NotThere born p = absurd p
  collect_shown i (refusals.Consumed u) born p = p
  collect_shown i refusals.AlreadyKilled born p = (
    quiet_looked t t' v w old is l (n + m) (looked l (n + m) v w (acted_then l n m v x w a b)),
    point_between t t' v x w old is l n m a b _ (p.0, p.1, p.2, (born.0, found_later x.seen p.0 p.1 i born.0 born.1, born.2, p.3)),
  )
  collect_shown i refusals.Full born p = p
  collect_shown i refusals.NotParked born p = p
  collect_shown i refusals.NoRound born p = p
  collect_shown i refusals.NotHeld born p = p
  collect_shown i refusals.NotWaiting born p = p
  collect_shown i refusals.NoUnit born p = p
