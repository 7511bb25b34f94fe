-- What turns ask, one after another.
use Rattle.std.proofs.Common.{◌≡◌, ℕ, ◌+◌, Bool, true, List, [], ◌∷◌, ◌++◌, Option, None, refl, sym, ◌∙◌, ap, ap₂, subst, append_assoc, zip}
use Rattle.std.specs.declared.alloc.Global.{Global}
use Rattle.std.specs.declared.dyn_box.DynBox.{DynBox}
use Rattle.std.proofs.lemmas.List.{append-nil}
use Rattle.tp_model.specs.Drafts.{DraftView}
use Rattle.tp_model.specs.declared.types.Limits.{Limits}
use Rattle.tp_model.specs.declared.types.Work.{Work}
use Rattle.tp_server.specs.Asked.{Asked, Asks}
use Rattle.tp_server.specs.Behaviour.{Behaviour}
use Rattle.tp_server.specs.Pending.{Pending}
use Rattle.tp_manager.specs.Shown.{ManagerShown, PassShown}
use Rattle.tp_desk.specs.Asking.{turn_asks, undo_of}
use Rattle.tp_desk.specs.InHand.{InHand}
use Rattle.tp_desk.specs.declared.desk.Desk.{Desk}
use Rattle.tp_server.specs.declared.order.Order.{Order}
use Rattle.tp_server.specs.declared.turned.Turned.{Turned}
use Rattle.tp_desk.specs.Steady.{IsSameDesk, shown}
use Rattle.tp_desk.specs.Turns.{EndsOpen}
use Rattle.tp_workers.specs.declared.tally.Shift.{Shift}
use Rattle.tp_workers.specs.Asking.{AsksTurns, TurnAsks}
use Rattle.tp_workers.specs.Calling.{Chain, MadeCalls}
use Rattle.tp_workers.specs.Desks.{IsResting, DeskPlace, TakesTurn, place, desk_place}
use Rattle.tp_workers.specs.Ran.{RanAll, RanEach}
use Rattle.tp_workers.specs.Tally.{empty_shift, plus, turn_count}
use Rattle.tp_workers.proofs.Calling.{called_none, called_one, called_then}
use Rattle.tp_workers.proofs.Drains.{ran_then}
use Rattle.tp_workers.proofs.Turns.{left_as}

pub asks_then : (s t : List Asked) (a b c : List Asked → Bool) → Asks s a b → Asks t b c → Asks (t ++ s) a c
asks_then s t a b c first then = λ all is. subst (λ (l : List Asked). c l ≡ true) (sym (append_assoc t s all)) (then (s ++ all) (first all is))

-- the same turns, where more had been asked before
chain_behind : (order : Order) (l : Limits) (before : List Asked) (ts : List Turned) (x y : DeskPlace × List Asked) → Chain (TurnAsks order l) x ts y
    → Chain (TurnAsks order l) (x.0, x.1 ++ before) ts (y.0, y.1 ++ before)
chain_behind order l before [] x y h = ap (λ (z : DeskPlace × List Asked). (z.0, z.1 ++ before)) h
chain_behind order l before (t ∷ ts) x y h =
    ((h.0.0, h.0.1 ++ before), record { turn = h.1.turn; adds = ap (λ (a : List Asked). a ++ before) h.1.adds ∙ append_assoc (turn_asks t h.0.0.pass.seen x.0.registers h.0.0.registers) x.1 before }, chain_behind order l before ts h.0 y h.2)

calls_behind : (order : Order) (l : Limits) (before since : List Asked) (n : ℕ) (p q : DeskPlace) (s : Shift) → MadeCalls (TurnAsks order l) turn_count n (p, []) s (q, since)
    → MadeCalls (TurnAsks order l) turn_count n (p, before) s (q, since ++ before)
calls_behind order l before since n p q s h = record { answers = h.answers; each = chain_behind order l before h.answers (p, []) (q, since) h.each; made = h.made; counted = h.counted }

module _ {B : Type 0} (behaviour : B → Behaviour) (registers : B → List ℕ) (pending : B → Option Pending) (asked : B → List Asked → Bool) (m : ManagerShown) (order : Order) where
  abbrev at : PassShown × B → DeskPlace
  at x = place behaviour registers pending x

  abbrev Asking : PassShown × B → Shift → PassShown × B → Type 0
  Asking x s y = AsksTurns behaviour registers pending asked m order x s y

  pub asks_nothing : (x : PassShown × B) → Asking x empty_shift x
  asks_nothing x = record { taken = 0; since = []; calls = called_none (TurnAsks order m.limits) turn_count (at x, []); asks = λ all is. is }

  pub asks_turn : (t : Turned) (x y : PassShown × B) → TakesTurn order m.limits (at x) t (at y) → Asks (turn_asks t y.0.seen (registers x.1) (registers y.1)) (asked x.1) (asked y.1) → Asking x (turn_count t) y
  asks_turn t x y turn asks = record {
    taken = 1;
    since = turn_asks t y.0.seen (registers x.1) (registers y.1) ++ [];
    calls = called_one (TurnAsks order m.limits) turn_count t (at x, []) (at y, turn_asks t y.0.seen (registers x.1) (registers y.1) ++ []) (record { turn = turn; adds = refl });
    asks = subst (λ (l : List Asked). Asks l (asked x.1) (asked y.1)) (sym (append-nil (turn_asks t y.0.seen (registers x.1) (registers y.1)))) asks;
  }

  pub asks_on : (x y z : PassShown × B) (s t : Shift) → Asking x s y → Asking y t z → Asking x (plus s t) z
  asks_on x y z s t h k = record {
    taken = h.taken + k.taken;
    since = k.since ++ h.since;
    calls = called_then (TurnAsks order m.limits) turn_count h.taken k.taken (at x, []) (at y, h.since) (at z, k.since ++ h.since) s t h.calls (calls_behind order m.limits h.since k.since k.taken (at y) (at z) t k.calls);
    asks = asks_then h.since k.since (asked x.1) (asked y.1) (asked z.1) h.asks k.asks;
  }

  -- one turn more, counted by the code
  pub asks_more : (t : Turned) (x y z : PassShown × B) (s u v : Shift) → Asking x s y → TakesTurn order m.limits (at y) t (at z) → Asks (turn_asks t z.0.seen (registers y.1) (registers z.1)) (asked y.1) (asked z.1)
      → u ≡ turn_count t → v ≡ plus s u → Asking x v z
  asks_more t x y z s u v h turn asks one both =
      subst (λ (w : Shift). Asking x w z) (sym (both ∙ ap (plus s) one)) (asks_on x y z s (turn_count t) h (asks_turn t y z turn asks))

  -- the server is left at a place that shows the same, and was asked nothing more
  pub asks_left : (x y z : PassShown × B) (s : Shift) → Asking x s y → at y ≡ at z → Asks [] (asked y.1) (asked z.1) → Asking x s z
  asks_left x y z s h same asks = record {
    taken = h.taken;
    since = h.since;
    calls = subst (λ (p : DeskPlace). MadeCalls (TurnAsks order m.limits) turn_count h.taken (at x, []) s (p, h.since)) same h.calls;
    asks = asks_then h.since [] (asked x.1) (asked y.1) (asked z.1) h.asks asks;
  }

  nothing_all : (xs : List (PassShown × B)) → RanAll Asking xs empty_shift xs
  nothing_all [] = refl
  nothing_all (x ∷ xs) = (empty_shift, empty_shift, asks_nothing x, nothing_all xs, refl)

  pub each_nothing : (xs : List PassShown) (us : List B) → RanEach Asking xs us empty_shift xs us
  each_nothing xs us = record { ran = nothing_all (zip xs us); on_kept = refl; by_kept = refl }

  pub each_on : (xs : List PassShown) (us : List B) (ys : List PassShown) (vs : List B) (zs : List PassShown) (ws : List B) (s t : Shift) → RanEach Asking xs us s ys vs → RanEach Asking ys vs t zs ws → RanEach Asking xs us (plus s t) zs ws
  each_on xs us ys vs zs ws s t h k = record { ran = ran_then Asking Asking Asking asks_on (zip xs us) (zip ys vs) (zip zs ws) s t h.ran k.ran; on_kept = k.on_kept ∙ h.on_kept; by_kept = k.by_kept ∙ h.by_kept }

module _ {X : Type 0} {F : X → Type 0} (behaviour : (x : X) × F x → Behaviour) (registers : (x : X) × F x → List ℕ) (pending : (x : X) × F x → Option Pending) (asked : (x : X) × F x → List Asked → Bool) where
  abbrev Lent : Type 0
  Lent = PassShown × DynBox X Global F

  abbrev lent : Desk X F → Lent
  lent d = (d.pass.now, d.server.now)

  abbrev Asking_by : ManagerShown → Order → Lent → Shift → Lent → Type 0
  Asking_by m order x s y = AsksTurns (shown behaviour) (shown registers) (shown pending) (shown asked) m order x s y

  -- a turn more of the same desk
  pub desk_asks_more : (order : Order) (t : Turned) (x y z : Desk X F) (s u v : Shift) → IsSameDesk x y → Asking_by x.manager.now order (lent x) s (lent y)
      → TakesTurn order y.manager.now.limits (desk_place behaviour registers pending y) t (desk_place behaviour registers pending z)
      → Asks (turn_asks t z.pass.now.seen (shown registers y.server.now) (shown registers z.server.now)) (shown asked y.server.now) (shown asked z.server.now)
      → u ≡ turn_count t → v ≡ plus s u → Asking_by x.manager.now order (lent x) v (lent z)
  desk_asks_more order t x y z s u v same h turn asks one both =
      asks_more (shown behaviour) (shown registers) (shown pending) (shown asked) x.manager.now order t (lent x) (lent y) (lent z) s u v h
      (subst (λ k. TakesTurn order k.now.limits (desk_place behaviour registers pending y) t (desk_place behaviour registers pending z)) same.manager turn) asks one both

  unprepared : (pend : Option Pending) (w : Option Work) (drafts : List DraftView) (f p : PassShown) (r : Behaviour) (rs : List ℕ) → w ≡ None → InHand r rs pend w drafts f p → pend ≡ None
  unprepared pend w drafts f p r rs none h = (subst (λ (o : Option Work). InHand r rs pend o drafts f p) none h).unprepared

  -- what a desk d of this pass and this server asked, which became e and was ended with nothing in hand
  pub lent_asks : (m : ManagerShown) (x : Lent) (d e : Desk X F) (y : Lent) (order : Order) (s : Shift) → d.manager.now ≡ m → d.pass.now ≡ x.0 → d.server.now ≡ x.1 → IsResting behaviour registers pending e
      → EndsOpen e.pass.now.open_unit e.pass.now y.0 → shown behaviour y.1 ≡ shown behaviour e.server.now → shown registers y.1 ≡ shown registers e.server.now
      → Asking_by d.manager.now order (lent d) s (lent e) → Asks (undo_of (shown pending e.server.now)) (shown asked e.server.now) (shown asked y.1) → Asking_by m order x s y
  lent_asks m x d e y order s manager pass server resting ends behaviour_is registers_are h asks =
      let start : lent d ≡ x = ap₂ (λ p b. (p, b)) pass server in
      let clear : shown pending e.server.now ≡ None = unprepared _ e.work _ _ _ _ _ resting.free resting.steady.in_hand in
      asks_left (shown behaviour) (shown registers) (shown pending) (shown asked) m order x (lent e) y s
      (subst (λ (z : Lent). Asking_by m order z s (lent e)) start (subst (λ (k : ManagerShown). Asking_by k order (lent d) s (lent e)) manager h))
      (left_as behaviour registers pending e y resting ends behaviour_is registers_are)
      (subst (λ (o : Option Pending). Asks (undo_of o) (shown asked e.server.now) (shown asked y.1)) clear asks)

  -- of one turn
  pub took_asks : (order : Order) (t : Turned) (d e : Desk X F) (counts : Shift) → TakesTurn order d.manager.now.limits (desk_place behaviour registers pending d) t (desk_place behaviour registers pending e)
      → Asks (turn_asks t e.pass.now.seen (shown registers d.server.now) (shown registers e.server.now)) (shown asked d.server.now) (shown asked e.server.now)
      → counts ≡ turn_count t → Asking_by d.manager.now order (lent d) counts (lent e)
  took_asks order t d e counts turn asks counted =
      subst (λ (c : Shift). Asking_by d.manager.now order (lent d) c (lent e)) (sym counted)
      (asks_turn (shown behaviour) (shown registers) (shown pending) (shown asked) d.manager.now order t (lent d) (lent e) turn asks)
