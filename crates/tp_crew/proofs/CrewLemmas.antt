-- A crew's passes and boxes, as lists.
use Rattle.std.proofs.Common.{◌≡◌, ◌≤◌, ℕ, ◌+◌, zero, suc, List, [], ◌∷◌, ◌++◌, All, refl, sym, ◌∙◌, ap, ap₂, subst, arith, length, take, drop, set, get_or, zip, inl, inr, ⊎_elim, ◌⊎◌, ◌<◌, map, Option, Some, None}
use Rattle.std.specs.Prelude.{slice_get}
use Rattle.std.specs.List.{AllZip}
use Rattle.std.proofs.lemmas.List.{length-map, length-set, map-append, take-append-drop}
use Rattle.std.proofs.lemmas.List.Elements.{All-append, All-cons, All-drop, All-head, All-nil, All-set, All-tail, All-take}
use Rattle.tp_model.specs.declared.event.Event.{Event}
use Rattle.tp_model.specs.History.{UnitClaim, claim_of}
use Rattle.tp_model.specs.Passes.{IsPassView}
use Rattle.tp_model.proofs.Bridges.{in_none}
use Rattle.std.specs.declared.alloc.Global.{Global}
use Rattle.std.specs.declared.dyn_box.DynBox.{DynBox}
use Rattle.tp_server.specs.Behaviour.{Behaviour}
use Rattle.tp_server.specs.Pending.{Pending}
use Rattle.tp_manager.specs.Accounts.{AreAll, AreNumberedFrom, Attends}
use Rattle.tp_manager.specs.Shown.{IsOf, numbers}
use Rattle.tp_rollover.specs.Thread.{Stays}
use Rattle.tp_rollover.specs.Managed.{IsNewPass}
use Rattle.tp_rollover.proofs.Seen.{quiet_stays}
use Rattle.tp_manager.specs.Shown.{IsKeptBy, KeeperShown, ManagerShown, PassShown, view_in}
use Rattle.tp_desk.specs.Serving.{AreUnitsEnded, Leaves, gained}
use Rattle.tp_desk.proofs.Serves.{ended_none, leaves_then, serves_more, serves_none, still_ended}
use Rattle.tp_crew.proofs.FoldStarts.{desk_at}
use Rattle.tp_crew.specs.declared.crew.Crew.{Crew}
use Rattle.tp_server.specs.declared.order.Order.{Order}
use Rattle.tp_workers.specs.declared.plan.Plan.{Plan}
use Rattle.tp_workers.specs.declared.tally.Shift.{Shift}
use Rattle.tp_manager.specs.Calls.{Follows}
use Rattle.tp_crew.specs.Crew.{IsSteadyCrew, OwnCall, folds}
use Rattle.tp_crew.specs.Folds.{BeginsFold}
use Rattle.tp_crew.specs.CrewPasses.{HasServed, HaveServed, ShowsAsPass, clients_in, desks_in, own_in}
use Rattle.tp_workers.specs.Desks.{DeskRan}
use Rattle.tp_workers.specs.Drained.{DeskDrained}
use Rattle.tp_workers.specs.Free.{IsFreePass}
use Rattle.tp_workers.specs.Ran.{RanAll, RanEach}

-- others with the same numbers
from_same : (c : ℕ) (ps qs : List PassShown) → numbers qs ≡ numbers ps → AreNumberedFrom c ps → AreNumberedFrom c qs
from_same c [] [] same all = tt
from_same c [] (q ∷ qs) same all = absurd cc
from_same c (p ∷ ps) [] same all = absurd cc
from_same c (p ∷ ps) (q ∷ qs) same all = (first (numbers qs) (numbers ps) same ∙ all.0, from_same (c + 1) ps qs (rest (numbers qs) (numbers ps) same) all.1)
  where
    first : (xs ys : List ℕ) → q.number ∷ xs ≡ p.number ∷ ys → q.number ≡ p.number
    first xs ys e = cc

    rest : (xs ys : List ℕ) → q.number ∷ xs ≡ p.number ∷ ys → xs ≡ ys
    rest xs ys e = cc

pub same_length : (ps qs : List PassShown) → numbers qs ≡ numbers ps → length qs ≡ length ps
same_length ps qs same = sym (length-map qs (λ (p : PassShown). p.number)) ∙ (ap length same ∙ length-map ps (λ (p : PassShown). p.number))

pub all_same : (keeper : KeeperShown) (ps qs : List PassShown) → numbers qs ≡ numbers ps → AreAll keeper ps → AreAll keeper qs
all_same keeper ps qs same all = (same_length ps qs same ∙ all.0, from_same 0 ps qs same all.1)

-- the front of two lists that are joined, and the rest
front_is : {A : Type 0} (xs ys : List A) (n : ℕ) → length xs ≡ n → take n (xs ++ ys) ≡ xs
front_is [] ys n e = subst (λ (k : ℕ). take k ys ≡ []) e refl
front_is {A = A} (x ∷ xs) ys n e = subst (λ (k : ℕ). take k (x ∷ xs ++ ys) ≡ x ∷ xs) e (ap (λ (l : List A). x ∷ l) (front_is xs ys (length xs) refl))

rest_is : {A : Type 0} (xs ys : List A) (n : ℕ) → length xs ≡ n → drop n (xs ++ ys) ≡ ys
rest_is [] ys n e = subst (λ (k : ℕ). drop k ys ≡ ys) e refl
rest_is (x ∷ xs) ys n e = subst (λ (k : ℕ). drop k (x ∷ xs ++ ys) ≡ ys) e (rest_is xs ys (length xs) refl)

own_front : {A : Type 0} (P r : List A) → 1 ≤ length P → take 1 (take 1 P ++ r) ≡ take 1 P
own_front [] r e = absurd (omega (arith, e))
own_front (x ∷ xs) r e = refl

own_rest : {A : Type 0} (P r : List A) → 1 ≤ length P → drop 1 (take 1 P ++ r) ≡ r
own_rest [] r e = absurd (omega (arith, e))
own_rest (x ∷ xs) r e = refl

-- The passes P of a crew of n boxes, as calls left them: the caller's own O as it was, those D of the desks, those C of the
-- clients.
module _ (P O D C : List PassShown) (n : ℕ) (own : O ≡ take 1 P) (some : 1 ≤ length P) where
  pub new_own : own_in (O ++ (D ++ C)) ≡ own_in P
  new_own = subst (λ (o : List PassShown). take 1 (o ++ (D ++ C)) ≡ take 1 P) (sym own) (own_front P (D ++ C) some)

  others : drop 1 (O ++ (D ++ C)) ≡ D ++ C
  others = subst (λ (o : List PassShown). drop 1 (o ++ (D ++ C)) ≡ D ++ C) (sym own) (own_rest P (D ++ C) some)

  pub new_desks : length D ≡ n → desks_in n (O ++ (D ++ C)) ≡ D
  new_desks e = ap (take n) others ∙ front_is D C n e

  pub new_all : (Q : PassShown → Type 0) → All Q P → All Q D → All Q C → All Q (O ++ (D ++ C))
  new_all Q all desks clients = All-append Q O (D ++ C) (subst (All Q) (sym own) (All-take Q 1 P all)) (All-append Q D C desks clients)

-- what holds of all passes holds of the clients'
pub rest_all : (Q : PassShown → Type 0) (P R C : List PassShown) (n : ℕ) → R ≡ drop 1 P → C ≡ drop n R → All Q P → All Q C
rest_all Q P R C n behind clients all =
    subst (All Q) (sym clients) (All-drop Q n R (subst (All Q) (sym behind) (All-drop Q 1 P all)))

-- some of the passes that did nothing but look
some_stay : (k : ℕ) (ps qs : List PassShown) → AllZip Stays ps qs → AllZip Stays (take k ps) (take k qs)
some_stay zero [] [] a = tt
some_stay zero [] (q ∷ qs) a = absurd a
some_stay zero (p ∷ ps) [] a = absurd a
some_stay zero (p ∷ ps) (q ∷ qs) a = tt
some_stay (suc k) [] [] a = tt
some_stay (suc k) [] (q ∷ qs) a = absurd a
some_stay (suc k) (p ∷ ps) [] a = absurd a
some_stay (suc k) (p ∷ ps) (q ∷ qs) a = (a.0, some_stay k ps qs a.1)

rest_stay : (ps qs : List PassShown) → AllZip Stays ps qs → AllZip Stays (drop 1 ps) (drop 1 qs)
rest_stay [] [] a = tt
rest_stay [] (q ∷ qs) a = absurd a
rest_stay (p ∷ ps) [] a = absurd a
rest_stay (p ∷ ps) (q ∷ qs) a = a.1

-- ---- what boxes have served

module _ {B : Type 0} (behaviour : B → Behaviour) (registers : B → List ℕ) where
  abbrev Served : PassShown × B → PassShown × B → Type 0
  Served x y = HasServed behaviour registers x y

  served_then : (x y z : PassShown × B) → Served x y → Served y z → Served x z
  served_then x y z h k = record {
    leaves = leaves_then (behaviour x.1) (registers x.1) (registers y.1) (registers z.1) x.0 y.0 z.0 h.leaves.serves h.leaves.ended
        (subst (λ (b : Behaviour). Leaves b (registers y.1) (registers z.1) y.0 z.0) h.behaviour_is k.leaves);
    behaviour_is = k.behaviour_is ∙ h.behaviour_is;
  }

  pub all_then : (xs ys zs : List (PassShown × B)) → AllZip Served xs ys → AllZip Served ys zs → AllZip Served xs zs
  all_then [] [] [] h k = k
  all_then [] [] (z ∷ zs) h k = absurd k
  all_then [] (y ∷ ys) zs h k = absurd h
  all_then (x ∷ xs) [] zs h k = absurd h
  all_then (x ∷ xs) (y ∷ ys) [] h k = absurd k
  all_then (x ∷ xs) (y ∷ ys) (z ∷ zs) h k = (served_then x y z h.0 k.0, all_then xs ys zs h.1 k.1)

  -- what each run leaves was served
  all_ran : (R : PassShown × B → Shift → PassShown × B → Type 0) → ((x : PassShown × B) (s : Shift) (y : PassShown × B) → R x s y → Served x y)
      → (xs : List (PassShown × B)) (s : Shift) (ys : List (PassShown × B)) → RanAll R xs s ys → AllZip Served xs ys
  all_ran R one [] s [] h = tt
  all_ran R one [] s (y ∷ ys) h = absurd h
  all_ran R one (x ∷ xs) s [] h = absurd h
  all_ran R one (x ∷ xs) s (y ∷ ys) h = (one x h.0 y h.2, all_ran R one xs h.1 ys h.3)

  -- so boxes that had served have served on, n of them in all
  pub served_ran : (R : PassShown × B → Shift → PassShown × B → Type 0) → ((x : PassShown × B) (s : Shift) (y : PassShown × B) → R x s y → Served x y)
      → (begun : List (PassShown × B)) (ps : List PassShown) (us : List B) (s : Shift) (qs : List PassShown) (vs : List B) → length vs ≡ length us
      → HaveServed behaviour registers begun ps us → RanEach R (desks_in (length us) ps) us s (desks_in (length us) qs) vs
      → HaveServed behaviour registers begun qs vs
  served_ran R one begun ps us s qs vs long h k =
      let now : AllZip Served (zip (desks_in (length us) ps) us) (zip (desks_in (length vs) qs) vs) =
      subst (λ (n : ℕ). AllZip Served (zip (desks_in (length us) ps) us) (zip (desks_in n qs) vs)) (sym long) (all_ran R one _ s _ k.ran) in
      all_then _ _ _ h now

  -- nothing was served yet
  served_none : (x : PassShown × B) → IsPassView x.0.limits (view_in x.0) → Served x x
  served_none x shows = record {
    leaves = record { shows = shows; serves = serves_none (behaviour x.1) (registers x.1) x.0; ended = ended_none x.0 };
    behaviour_is = refl;
  }

  all_none : (ps : List PassShown) (us : List B) → All (λ p. IsPassView p.limits (view_in p)) ps → AllZip Served (zip ps us) (zip ps us)
  all_none [] us all = tt
  all_none (p ∷ ps) [] all = tt
  all_none (p ∷ ps) (u ∷ us) all =
      let Q : PassShown → Type 0 = λ p. IsPassView p.limits (view_in p) in
      (served_none (p, u) (All-head Q p ps all), all_none ps us (All-tail Q p ps all))

  -- nor of a box that was put in place k, by the pass of its desk
  begin_at : (begun : List (PassShown × B)) (ps : List PassShown) (us : List B) (k : ℕ) (p : PassShown) (v : B) → slice_get ps k ≡ Some p
      → AllZip Served begun (zip ps us) → AllZip Served (set begun k (p, v)) (zip ps (set us k v))
  begin_at begun [] us k p v at h = absurd cc
  begin_at [] (q ∷ ps) [] k p v at h = tt
  begin_at (f ∷ fs) (q ∷ ps) [] k p v at h = absurd h
  begin_at [] (q ∷ ps) (u ∷ us) k p v at h = absurd h
  begin_at (f ∷ fs) (q ∷ ps) (u ∷ us) zero p v at h =
      let same : q ≡ p = cc in
      (subst (λ (r : PassShown). Served (r, v) (q, v)) same (served_none (q, v) h.0.leaves.shows), h.1)
  begin_at (f ∷ fs) (q ∷ ps) (u ∷ us) (suc k) p v at h = (h.0, begin_at fs ps us k p v at h.1)

  pub served_swapped : (begun : List (PassShown × B)) (ps : List PassShown) (us : List B) (k : ℕ) (p : PassShown) (v : B) → k < length us
      → slice_get ps (k + 1) ≡ Some p → HaveServed behaviour registers begun ps us → HaveServed behaviour registers (set begun k (p, v)) ps (set us k v)
  served_swapped begun ps us k p v less at h =
      subst (λ (n : ℕ). AllZip Served (set begun k (p, v)) (zip (desks_in n ps) (set us k v))) (sym (length-set us k v))
      (begin_at begun (desks_in (length us) ps) us k p v (desk_at ps (length us) k p less at) h)

  pub served_same : {fs gs : List (PassShown × B)} {ps qs : List PassShown} {us vs : List B} → fs ≡ gs → ps ≡ qs → us ≡ vs
      → HaveServed behaviour registers gs qs vs → HaveServed behaviour registers fs ps us
  served_same folds passes boxes h = rw (folds, passes, boxes) h

  pub served_first : (ps : List PassShown) (us : List B) → All IsNewPass ps → HaveServed behaviour registers (zip (desks_in (length us) ps) us) ps us
  served_first ps us all = all_none (desks_in (length us) ps) us (all_show (desks_in (length us) ps) (All-take IsNewPass (length us) (drop 1 ps) (All-drop IsNewPass 1 ps all)))
    where
      all_show : (qs : List PassShown) → All IsNewPass qs → All (λ p. IsPassView p.limits (view_in p)) qs
      all_show [] each = All-nil (λ p. IsPassView p.limits (view_in p))
      all_show (q ∷ qs) each =
          All-cons (λ p. IsPassView p.limits (view_in p)) q qs (All-head IsNewPass q qs each).shows (all_show qs (All-tail IsNewPass q qs each))

  -- nor by passes that are new
  pub served_new : (ps : List PassShown) (us : List B) → All ShowsAsPass ps → HaveServed behaviour registers (zip (desks_in (length us) ps) us) ps us
  served_new ps us all = all_none (desks_in (length us) ps) us (All-take ShowsAsPass (length us) (drop 1 ps) (All-drop ShowsAsPass 1 ps all))

  -- a pass that did nothing but look has served nothing more
  stayed : (u : B) (p q : PassShown) → Stays p q → ShowsAsPass q → Served (p, u) (q, u)
  stayed u p q s shows = record {
    leaves = record {
      shows = shows;
      serves = serves_more (behaviour u) (registers u) (registers u) (registers u) p p q [] [] s.number s.sees (s.quiet.mine ∙ sym (append_none p.mine)) refl
          (λ c v outs at. absurd (in_none at)) refl (λ v t claimed. absurd (none_is v t claimed)) (serves_none (behaviour u) (registers u) p);
      ended = subst (λ (l : List Event). AreUnitsEnded None (gained p.mine l) q.seen) (sym s.quiet.mine) (still_ended (gained p.mine p.mine) p.seen q.seen None s.sees (ended_none p));
    };
    behaviour_is = refl;
  }
    where
      append_none : (l : List Event) → l ++ [] ≡ l
      append_none [] = refl
      append_none (x ∷ l) = ap (λ (m : List Event). x ∷ m) (append_none l)

      none_is : (v : ℕ) (t : UnitClaim) → claim_of [] v ≡ Some t → ⊥
      none_is v t e = cc

  all_stayed : (ps qs : List PassShown) (us : List B) → AllZip Stays ps qs → All ShowsAsPass qs → AllZip Served (zip ps us) (zip qs us)
  all_stayed [] [] us a shows = tt
  all_stayed [] (q ∷ qs) us a shows = absurd a
  all_stayed (p ∷ ps) [] us a shows = absurd a
  all_stayed (p ∷ ps) (q ∷ qs) [] a shows = tt
  all_stayed (p ∷ ps) (q ∷ qs) (u ∷ us) a shows =
      (stayed u p q a.0 (All-head ShowsAsPass q qs shows), all_stayed ps qs us a.1 (All-tail ShowsAsPass q qs shows))

  pub served_stays : (begun : List (PassShown × B)) (ps : List PassShown) (us : List B) (qs : List PassShown)
      → HaveServed behaviour registers begun ps us → AllZip Stays ps qs → All ShowsAsPass qs → HaveServed behaviour registers begun qs us
  served_stays begun ps us qs s a shows =
      let n = length us in
      all_then _ _ _ s (all_stayed (desks_in n ps) (desks_in n qs) us (some_stay n (drop 1 ps) (drop 1 qs) (rest_stay ps qs a)) (All-take ShowsAsPass n (drop 1 qs) (All-drop ShowsAsPass 1 qs shows)))

module _ (n : ℕ) (h : List Event) where
  pub attend_stay : (ps qs : List PassShown) → AllZip (Attends n h) ps qs → AllZip Stays ps qs
  attend_stay [] [] a = tt
  attend_stay [] (q ∷ qs) a = absurd a
  attend_stay (p ∷ ps) [] a = absurd a
  attend_stay (p ∷ ps) (q ∷ qs) a = (quiet_stays n p q a.0.follows a.0.quiet a.0.turn, attend_stay ps qs a.1)

  pub attend_show : (ps qs : List PassShown) → AllZip (Attends n h) ps qs → All ShowsAsPass qs
  attend_show [] [] a = All-nil ShowsAsPass
  attend_show [] (q ∷ qs) a = absurd a
  attend_show (p ∷ ps) [] a = absurd a
  attend_show (p ∷ ps) (q ∷ qs) a = All-cons ShowsAsPass q qs a.0.follows.shows (attend_show ps qs a.1)

-- passes that are free are the manager's
pub own_all : (m : ManagerShown) (ps : List PassShown) → All (IsFreePass m) ps → All (IsOf m) ps
own_all m ps all = λ k d less. (all k d less).own

-- such passes are free afterwards
pub looked_free : (m : ManagerShown) (n : ℕ) (h : List Event) (ps qs : List PassShown) → AllZip (Attends n h) ps qs → All (IsFreePass m) ps → All (IsOf m) qs → All (IsFreePass m) qs
looked_free m n h [] [] a free own = All-nil (IsFreePass m)
looked_free m n h [] (q ∷ qs) a free own = absurd a
looked_free m n h (p ∷ ps) [] a free own = absurd a
looked_free m n h (p ∷ ps) (q ∷ qs) a free own =
    All-cons (IsFreePass m) q qs (record { own = All-head (IsOf m) q qs own; free = a.0.quiet.open_unit ∙ (All-head (IsFreePass m) p ps free).free })
    (looked_free m n h ps qs a.1 (All-tail (IsFreePass m) p ps free) (All-tail (IsOf m) q qs own))

-- ---- after a call

module _ {B : Type 0} (behaviour : B → Behaviour) (registers : B → List ℕ) (pending : B → Option Pending) (m : ManagerShown) where
  -- by any relation of runs, of passes and boxes that were handed over
  served_by : (R : PassShown × B → Shift → PassShown × B → Type 0) → ((x : PassShown × B) (t : Shift) (y : PassShown × B) → R x t y → HasServed behaviour registers x y)
      → (begun : List (PassShown × B)) (ps xs : List PassShown) (us ws : List B) (s : Shift) (qs : List PassShown) (vs : List B)
      → xs ≡ ps → ws ≡ us → length vs ≡ length ws → HaveServed behaviour registers begun ps us
      → RanEach R (desks_in (length ws) xs) ws s (desks_in (length ws) qs) vs → HaveServed behaviour registers begun qs vs
  served_by R one begun ps xs us ws s qs vs ep eu long h k =
      served_ran behaviour registers R one begun xs ws s qs vs long
      (subst (λ (l : List PassShown). HaveServed behaviour registers begun l ws) (sym ep) (subst (λ (l : List B). HaveServed behaviour registers begun ps l) (sym eu) h)) k

  module _ (begun : List (PassShown × B)) (ps xs : List PassShown) (us ws : List B) (s : Shift) (qs : List PassShown) (vs : List B) where
    pub served_drained : (order : Order) → xs ≡ ps → ws ≡ us → length vs ≡ length ws → HaveServed behaviour registers begun ps us
        → RanEach (DeskDrained behaviour registers pending m order) (desks_in (length ws) xs) ws s (desks_in (length ws) qs) vs
        → HaveServed behaviour registers begun qs vs
    served_drained order ep eu long h k =
        served_by (DeskDrained behaviour registers pending m order) (λ x t y r. record { leaves = r.leaves; behaviour_is = r.behaviour_is }) begun ps xs us ws s qs vs ep eu long h k

    pub served_shift : (plan : Plan) → xs ≡ ps → ws ≡ us → length vs ≡ length ws → HaveServed behaviour registers begun ps us
        → RanEach (DeskRan behaviour registers pending m plan) (desks_in (length ws) xs) ws s (desks_in (length ws) qs) vs
        → HaveServed behaviour registers begun qs vs
    served_shift plan ep eu long h k =
        served_by (DeskRan behaviour registers pending m plan) (λ x t y r. record { leaves = r.leaves; behaviour_is = r.behaviour_is }) begun ps xs us ws s qs vs ep eu long h k

module _ {X : Type 0} {F : X → Type 0} (behaviour : DynBox X Global F → Behaviour) (registers : DynBox X Global F → List ℕ)
    (pending : DynBox X Global F → Option Pending) where
  -- a crew with the same manager and as many passes and boxes is steady, where its fold goes on
  pub next_steady : (old new : Crew X F) (ps : List PassShown) (us : List (DynBox X Global F)) → IsSteadyCrew behaviour registers pending old
      → new.managed.manager ≡ old.managed.manager → new.clients ≡ old.clients → new.starts ≡ old.starts
      → new.managed.passes.items ≡ ps → new.boxes.items ≡ us → IsKeptBy old.managed.manager new.managed.keeper → AreAll new.managed.keeper ps → length ps ≡ length old.managed.passes.items
      → All (IsFreePass old.managed.manager) ps → length us ≡ length old.boxes.items → All (λ b. pending b ≡ None) us
      → HaveServed behaviour registers (folds old) ps us
      → IsSteadyCrew behaviour registers pending new
  next_steady old new ps us h manager clients starts passes boxes kept all long free boxed clear served = record {
    managed = record {
      keeper = rw (manager) kept;
      limits = rw (manager) h.managed.limits;
      own = rw (passes, manager) (own_all old.managed.manager ps free);
      all = rw (passes) all;
      parts = rw (passes, manager) (long ∙ h.managed.parts);
    };
    free = rw (passes, manager) free;
    count = rw (passes, boxes, clients, boxed) (long ∙ h.count);
    clear = rw (boxes) clear;
    same_count = rw (starts, boxes) (h.same_count ∙ sym boxed);
    served = rw (starts, passes, boxes) served;
  }

  pub steady_looked : (old : Crew X F) (n : ℕ) (h : List Event) (qs : List PassShown) → IsSteadyCrew behaviour registers pending old → AllZip (Attends n h) old.managed.passes.items qs
      → HaveServed behaviour registers (folds old) qs old.boxes.items
  steady_looked old n h qs s a =
      served_stays behaviour registers (folds old) old.managed.passes.items old.boxes.items qs s.served (attend_stay n h old.managed.passes.items qs a) (attend_show n h old.managed.passes.items qs a)

  -- so is one whose passes have done nothing but look
  pub stayed_steady : (old new : Crew X F) (qs : List PassShown) → IsSteadyCrew behaviour registers pending old
      → new.managed.manager ≡ old.managed.manager → new.clients ≡ old.clients → new.starts ≡ old.starts → new.boxes ≡ old.boxes → new.managed.passes.items ≡ qs
      → IsKeptBy old.managed.manager new.managed.keeper → AreAll new.managed.keeper qs → length qs ≡ length old.managed.passes.items → All (IsFreePass old.managed.manager) qs
      → AllZip Stays old.managed.passes.items qs → All ShowsAsPass qs
      → IsSteadyCrew behaviour registers pending new
  stayed_steady old new qs h manager clients starts boxes passes kept all long free stays shows =
      next_steady old new qs old.boxes.items h manager clients starts passes (ap (λ v. v.items) boxes) kept all long free refl h.clear
      (served_stays behaviour registers (folds old) old.managed.passes.items old.boxes.items qs h.served stays shows)

  -- so is one with another box in one place, whose fold begins here
  pub swapped_steady : (old new : Crew X F) (k : ℕ) (x : DynBox X Global F) → IsSteadyCrew behaviour registers pending old
      → k < length old.boxes.items → new.managed.manager ≡ old.managed.manager → new.managed.keeper ≡ old.managed.keeper → new.clients ≡ old.clients
      → new.managed.passes.items ≡ old.managed.passes.items → new.boxes.items ≡ set old.boxes.items k x → pending x ≡ None
      → length new.starts.items ≡ length old.starts.items → BeginsFold k x old.managed.passes.items (folds old) (folds new)
      → IsSteadyCrew behaviour registers pending new
  swapped_steady old new k x h less manager keeper clients passes boxes clear starts begins =
      let us = set old.boxes.items k x in
      let long : length us ≡ length old.boxes.items = length-set old.boxes.items k x in
      record {
        managed = record {
          keeper = rw (manager, keeper) h.managed.keeper;
          limits = rw (manager) h.managed.limits;
          own = rw (passes, manager) h.managed.own;
          all = rw (passes, keeper) h.managed.all;
          parts = rw (passes, manager) h.managed.parts;
        };
        free = rw (passes, manager) h.free;
        count = rw (passes, boxes, clients, long) h.count;
        clear = rw (boxes) (All-set (λ b. pending b ≡ None) old.boxes.items k x clear h.clear);
        same_count = rw (boxes) (starts ∙ (h.same_count ∙ sym long));
        served = served_same behaviour registers begins.folds_are passes boxes
            (served_swapped behaviour registers (folds old) old.managed.passes.items old.boxes.items k begins.pass x less begins.pass_is h.served);
      }

-- the first of a list, which another takes the place of
at_front : (xs : List PassShown) (p q : PassShown) → 1 ≤ length xs → p ≡ get_or xs 0 p → (others : List PassShown) × (xs ≡ p ∷ others) × (set xs 0 q ≡ q ∷ others)
at_front [] p q some e = absurd (omega (arith, some))
at_front (x ∷ xs) p q some e = (xs, ap (λ (z : PassShown). z ∷ xs) (sym e), refl)

module _ {X : Type 0} {F : X → Type 0} (behaviour : DynBox X Global F → Behaviour) (registers : DynBox X Global F → List ℕ)
    (pending : DynBox X Global F → Option Pending) where
  front_of : (old : Crew X F) (p q : PassShown) → IsSteadyCrew behaviour registers pending old → p ≡ get_or old.managed.passes.items 0 p
      → (others : List PassShown) × (old.managed.passes.items ≡ p ∷ others) × (set old.managed.passes.items 0 q ≡ q ∷ others)
  front_of old p q h at = at_front old.managed.passes.items p q (omega (arith, h.managed.parts, h.managed.limits.parts.0)) at

  -- the caller's own pass is free
  pub still_free : (old : Crew X F) (p q : PassShown) → IsSteadyCrew behaviour registers pending old → p ≡ get_or old.managed.passes.items 0 p
      → q.open_unit ≡ p.open_unit → q.open_unit ≡ None
  still_free old p q h at same =
      let f = front_of old p q h at in
      same ∙ (All-head (IsFreePass old.managed.manager) p f.0 (subst (All (IsFreePass old.managed.manager)) f.1 h.free)).free

  module _ (old new : Crew X F) where
    pub own_call : (n : ℕ) (R : PassShown → PassShown → Type 0) (p q : PassShown) → IsSteadyCrew behaviour registers pending old → p ≡ get_or old.managed.passes.items 0 p
        → new.managed.passes.items ≡ set old.managed.passes.items 0 q → new.managed.manager ≡ old.managed.manager → new.managed.keeper ≡ old.managed.keeper → new.boxes ≡ old.boxes → new.clients ≡ old.clients
        → new.starts ≡ old.starts → Follows n p q → q.open_unit ≡ None → R p q → OwnCall n R old new
    own_call n R p q h at passes manager keeper boxes clients starts follows free answer =
        let f = front_of old p q h at in
        record {
          before = p;
          after = q;
          others = f.0;
          was = f.1;
          left = passes ∙ f.2;
          follows = follows;
          free = free;
          answer = answer;
          same = record { manager = manager; boxes = ap (λ v. length v.items) boxes; clients = clients; starts = starts };
          keeper = keeper;
          same_boxes = boxes;
        }

    pub own_steady : (p q : PassShown) → IsSteadyCrew behaviour registers pending old → p ≡ get_or old.managed.passes.items 0 p
        → new.managed.passes.items ≡ set old.managed.passes.items 0 q → new.managed.manager ≡ old.managed.manager → new.managed.keeper ≡ old.managed.keeper → new.boxes ≡ old.boxes → new.clients ≡ old.clients
        → new.starts ≡ old.starts → q.number ≡ p.number → IsOf old.managed.manager q → q.open_unit ≡ None
        → IsSteadyCrew behaviour registers pending new
    own_steady p q h at passes manager keeper boxes clients starts number own free =
        let f = front_of old p q h at in
        let ps : List PassShown = set old.managed.passes.items 0 q in
        let numbered : numbers ps ≡ numbers old.managed.passes.items = ap numbers f.2 ∙ (ap (λ n. n ∷ numbers f.0) number ∙ ap numbers (sym f.1)) in
        let behind : drop 1 old.managed.passes.items ≡ drop 1 ps = ap (drop 1) f.1 ∙ sym (ap (drop 1) f.2) in
        let us : List (DynBox X Global F) = old.boxes.items in
        next_steady behaviour registers pending old new ps us h manager clients starts passes (ap (λ v. v.items) boxes)
        (rw (keeper) h.managed.keeper) (rw (keeper) (all_same old.managed.keeper old.managed.passes.items ps numbered h.managed.all)) (same_length old.managed.passes.items ps numbered)
        (All-set (IsFreePass old.managed.manager) old.managed.passes.items 0 q (record { own = own; free = free }) h.free) refl h.clear
        (subst (λ l. AllZip (HasServed behaviour registers) (folds old) (zip (take (length us) l) us)) behind h.served)

-- a number that was told up to 32, and above by one above
pub exact : (n r : ℕ) → (n ≤ 32 → r ≡ n) → (32 < n → 32 < r) → r ≤ 32 → r ≡ n
exact n r few many within = ⊎_elim few (λ more. absurd (over (many more) within)) (either n 32)
  where
    over : 32 < r → r ≤ 32 → ⊥
    over a b = omega (arith, a, b)

    either : (i k : ℕ) → (i ≤ k) ⊎ (k < i)
    either zero k = inl (omega arith)
    either (suc i) zero = inr (omega arith)
    either (suc i) (suc k) = ⊎_elim (λ a. inl (omega (arith, a))) (λ b. inr (omega (arith, b))) (either i k)
