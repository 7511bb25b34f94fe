-- What the lists of a shift counted.
use Rattle.std.proofs.Common.{◌≡◌, ℕ, ◌+◌, ◌-◌, ◌*◌, ◌<◌, ◌^◌, suc, List, [], ◌∷◌, Option, Result, Ok, Err, refl, sym, ◌∙◌, ap, ap₂, subst, arith, length, sum_by, All, zip, None, map}
use Rattle.std.proofs.lemmas.List.Elements.{All-cons, All-head, All-nil, All-tail}
use Rattle.std.proofs.lemmas.List.Sums.{sum_by-cons}
use Rattle.tp_model.specs.declared.types.Killed.{Killed}
use Rattle.tp_model.specs.declared.types.Refusal.{Refusal}
use Rattle.tp_model.specs.declared.types.Refusal.TheVariants as refusals
use Rattle.tp_server.specs.Behaviour.{Behaviour}
use Rattle.tp_server.specs.Pending.{Pending}
use Rattle.tp_manager.specs.Shown.{ManagerShown, PassShown, numbers}
use Rattle.tp_server.specs.declared.turned.Turned.{Turned}
use Rattle.tp_server.specs.declared.turned.Turned.TheVariants as turneds
use Rattle.tp_workers.specs.declared.killer.KillJob.{KillJob}
use Rattle.tp_workers.specs.declared.plan.Plan.{Plan}
use Rattle.tp_workers.specs.declared.tally.Shift.{Shift}
use Rattle.tp_workers.specs.Clients.{ClientRan, IsClientJob, IsClientOf, JobShown}
use Rattle.tp_workers.specs.Desks.{DeskRan, IsDeskOf}
use Rattle.tp_workers.specs.Killers.{IsKillJob, IsKillerOf, KillerRan}
use Rattle.tp_workers.specs.Free.{IsFreePass}
use Rattle.tp_workers.specs.Ran.{AreTold, RanAll, RanEach}
use Rattle.tp_workers.specs.Sums.{calls_of, client_part, desk_part, killer_part, size_of_range}
use Rattle.tp_workers.specs.Tally.{kill_count, empty_shift, plus, refusal_count, submit_count, total, turn_count}
use Rattle.tp_workers.proofs.Calling.{called_counts, called_total}
use Rattle.tp_workers.proofs.Clients.{one_submit}
use Rattle.tp_workers.proofs.Counts.{total_plus}
use Rattle.tp_workers.proofs.Killers.{one_kill}
use Rattle.tp_workers.proofs.Sums.{ran_asked, ran_gains, ran_keeps, ran_weaker, sum_by-const}
use Rattle.tp_workers.proofs.Turns.{one_turn}

turn_part : (t : Turned) → turn_count t ≡ desk_part (turn_count t)
turn_part turneds.Idle = refl
turn_part turneds.NoUnit = refl
turn_part (turneds.Done unit element first count) = refl
turn_part (turneds.Refused element why) = refl
turn_part (turneds.Lost element) = refl
turn_part (turneds.Full element) = refl

submit_part : (r : Result ℕ Refusal) → submit_count r ≡ client_part (submit_count r)
submit_part (Ok id) = refl
submit_part (Err why) = refl

refusal_part : (why : Refusal) → refusal_count why ≡ killer_part (refusal_count why)
refusal_part refusals.NoMemory = refl
refusal_part refusals.BadLimits = refl
refusal_part refusals.BadStage = refl
refusal_part refusals.NotThere = refl
refusal_part (refusals.Consumed unit) = refl
refusal_part refusals.AlreadyKilled = refl
refusal_part refusals.Full = refl
refusal_part refusals.NotParked = refl
refusal_part refusals.NoRound = refl
refusal_part refusals.NotHeld = refl
refusal_part refusals.NotWaiting = refl
refusal_part refusals.NoUnit = refl

kill_part : (r : Result Killed Refusal) → kill_count r ≡ killer_part (kill_count r)
kill_part (Ok killed) = refl
kill_part (Err why) = refusal_part why

one_more : (n k : ℕ) → n + n * k ≡ n * suc k
one_more n k = grind arith

pub zip_length : {T U : Type 0} (xs : List T) (ys : List U) → length xs ≡ length ys → length (zip xs ys) ≡ length xs
zip_length [] ys e = refl
zip_length (x ∷ xs) [] e = absurd (omega (arith, e))
zip_length (x ∷ xs) (y ∷ ys) e = ap suc (zip_length xs ys (omega (arith, e)))

pub const_fits : {T U : Type 0} (n : ℕ) (xs : List T) (ys : List U) → length xs ≡ length ys → sum_by (λ (x : T × U). n) (zip xs ys) ≡ n * length xs
const_fits n xs ys e = sum_by-const n (zip xs ys) ∙ ap (λ (k : ℕ). n * k) (zip_length xs ys e)

pub sum_second : {T U : Type 0} (f : U → ℕ) (xs : List T) (ys : List U) → length xs ≡ length ys → sum_by (λ (x : T × U). f x.1) (zip xs ys) ≡ sum_by f ys
sum_second f [] [] e = refl
sum_second f [] (y ∷ ys) e = absurd (omega (arith, e))
sum_second f (x ∷ xs) [] e = absurd (omega (arith, e))
sum_second {T = T} {U = U} f (x ∷ xs) (y ∷ ys) e =
    let g : T × U → ℕ = λ z. f z.1 in
    omega (arith, sum_by-cons f y ys, sum_by-cons g (x, y) (zip xs ys), sum_second f xs ys (omega (arith, e)))

-- what holds of each element of two lists holds of each place
pub all_both : {T U : Type 0} (P : T → Type 0) (Q : U → Type 0) (R : T × U → Type 0) → ((x : T) (y : U) → P x → Q y → R (x, y)) → (xs : List T) (ys : List U) → length xs ≡ length ys → All P xs → All Q ys → All R (zip xs ys)
all_both P Q R both [] ys e all also = All-nil R
all_both P Q R both (x ∷ xs) [] e all also = absurd (omega (arith, e))
all_both P Q R both (x ∷ xs) (y ∷ ys) e all also =
    All-cons R (x, y) (zip xs ys) (both x y (All-head P x xs all) (All-head Q y ys also)) (all_both P Q R both xs ys (omega (arith, e)) (All-tail P x xs all) (All-tail Q y ys also))

pub all_second : {T U : Type 0} (P : U → Type 0) (xs : List T) (ys : List U) → length xs ≡ length ys → All (λ (x : T × U). P x.1) (zip xs ys) → All P ys
all_second P [] [] e all = All-nil P
all_second P [] (y ∷ ys) e all = absurd (omega (arith, e))
all_second P (x ∷ xs) [] e all = absurd (omega (arith, e))
all_second {T = T} {U = U} P (x ∷ xs) (y ∷ ys) e all =
    let Q : T × U → Type 0 = λ z. P z.1 in
    All-cons P y ys (All-head Q (x, y) (zip xs ys) all) (all_second P xs ys (omega (arith, e)) (All-tail Q (x, y) (zip xs ys) all))

-- where each run leaves the second as it is, the list stays as it is
pub same_second : {T U : Type 0} (R : T × U → Shift → T × U → Type 0) → ((x : T × U) (s : Shift) (y : T × U) → R x s y → y.1 ≡ x.1) → (xs : List T) (us : List U) (s : Shift) (ys : List T) (vs : List U)
    → length xs ≡ length us → length ys ≡ length vs → RanAll R (zip xs us) s (zip ys vs) → vs ≡ us
same_second R same [] [] s [] [] e k h = refl
same_second R same [] [] s [] (v ∷ vs) e k h = absurd (omega (arith, k))
same_second R same [] [] s (y ∷ ys) [] e k h = absurd (omega (arith, k))
same_second R same [] [] s (y ∷ ys) (v ∷ vs) e k h = absurd h
same_second R same [] (u ∷ us) s ys vs e k h = absurd (omega (arith, e))
same_second R same (x ∷ xs) [] s ys vs e k h = absurd (omega (arith, e))
same_second R same (x ∷ xs) (u ∷ us) s [] [] e k h = absurd h
same_second R same (x ∷ xs) (u ∷ us) s [] (v ∷ vs) e k h = absurd (omega (arith, k))
same_second R same (x ∷ xs) (u ∷ us) s (y ∷ ys) [] e k h = absurd (omega (arith, k))
same_second R same (x ∷ xs) (u ∷ us) s (y ∷ ys) (v ∷ vs) e k h =
    ap₂ ◌∷◌ (same (x, u) h.0 (y, v) h.2) (same_second R same xs us h.1 ys vs (omega (arith, e)) (omega (arith, k)) h.3)

-- what each run leaves of its pass as it is, all leave so
same_first : {T U A : Type 0} (f : T → A) (R : T × U → Shift → T × U → Type 0) → ((x : T × U) (s : Shift) (y : T × U) → R x s y → f y.0 ≡ f x.0) → (xs : List T) (us : List U) (s : Shift) (ys : List T) (vs : List U)
    → length xs ≡ length us → length ys ≡ length vs → RanAll R (zip xs us) s (zip ys vs) → map f ys ≡ map f xs
same_first f R same [] us s [] vs e k h = refl
same_first f R same [] us s (y ∷ ys) [] e k h = absurd (omega (arith, k))
same_first f R same [] us s (y ∷ ys) (v ∷ vs) e k h = absurd h
same_first f R same (x ∷ xs) [] s ys vs e k h = absurd (omega (arith, e))
same_first f R same (x ∷ xs) (u ∷ us) s [] vs e k h = absurd h
same_first f R same (x ∷ xs) (u ∷ us) s (y ∷ ys) [] e k h = absurd (omega (arith, k))
same_first f R same (x ∷ xs) (u ∷ us) s (y ∷ ys) (v ∷ vs) e k h =
    ap₂ ◌∷◌ (same (x, u) h.0 (y, v) h.2) (same_first f R same xs us h.1 ys vs (omega (arith, e)) (omega (arith, k)) h.3)

-- a weaker relation
pub each_as : {T U : Type 0} {R Q : T × U → Shift → T × U → Type 0} → ((x : T × U) (s : Shift) (y : T × U) → R x s y → Q x s y) → (xs : List T) (us : List U) (s : Shift) (ys : List T) (vs : List U) → RanEach R xs us s ys vs → RanEach Q xs us s ys vs
each_as {R = R} {Q = Q} weaker xs us s ys vs h = record { ran = ran_weaker R Q weaker (zip xs us) s (zip ys vs) h.ran; on_kept = h.on_kept; by_kept = h.by_kept }

-- the same counts in other words
pub each_counted : {T U : Type 0} (R : T × U → Shift → T × U → Type 0) (xs : List T) (us : List U) (s t : Shift) (ys : List T) (vs : List U) → t ≡ s → RanEach R xs us s ys vs → RanEach R xs us t ys vs
each_counted R xs us s t ys vs e h = subst (λ (u : Shift). RanEach R xs us u ys vs) (sym e) h

module _ (m : ManagerShown) where
  client_counts : (x : PassShown × JobShown) (s : Shift) (y : PassShown × JobShown) → ClientRan m x s y → s ≡ client_part s
  client_counts x s y r = called_counts _ submit_count (λ t. t ≡ client_part t) refl (λ a b p q. ap₂ plus p q) submit_part (calls_of x.1) _ _ s r.calls

  -- the counts of clients stand in the clients' part
  pub clients_part : (xs : List PassShown) (us : List JobShown) (s : Shift) (ys : List PassShown) (vs : List JobShown) → RanEach (ClientRan m) xs us s ys vs → RanEach (ClientRan m) xs us (client_part s) ys vs
  clients_part xs us s ys vs h =
      subst (λ (t : Shift). RanEach (ClientRan m) xs us t ys vs) (ran_keeps (ClientRan m) (λ t. t ≡ client_part t) refl (λ a b p q. ap₂ plus p q) client_counts (zip xs us) s (zip ys vs) h.ran) h

  client_calls : (x : PassShown × JobShown) (s : Shift) (y : PassShown × JobShown) → ClientRan m x s y → s.submitted + s.submit_full ≡ calls_of x.1
  client_calls x s y r =
      let all : total s ≡ calls_of x.1 = called_total _ submit_count one_submit (calls_of x.1) _ _ s r.calls in
      let part : total s ≡ total (client_part s) = ap total (client_counts x s y r) in
      omega arith

  pub calls_sum : (xs : List PassShown) (us : List JobShown) (s : Shift) (ys : List PassShown) (vs : List JobShown) → length xs ≡ length us → RanEach (ClientRan m) xs us s ys vs → s.submitted + s.submit_full ≡ sum_by calls_of us
  calls_sum xs us s ys vs e h = ran_asked (ClientRan m) (λ t. t.submitted + t.submit_full) (λ x. calls_of x.1) refl (λ a b. omega arith) client_calls (zip xs us) s (zip ys vs) h.ran ∙ sum_second calls_of xs us e

  killer_counts : (x : PassShown × KillJob) (s : Shift) (y : PassShown × KillJob) → KillerRan m x s y → s ≡ killer_part s
  killer_counts x s y r = called_counts _ kill_count (λ t. t ≡ killer_part t) refl (λ a b p q. ap₂ plus p q) kill_part _ _ _ s r.calls

  -- the counts of killers stand in the killers' part
  pub killers_part : (xs : List PassShown) (us : List KillJob) (s : Shift) (ys : List PassShown) (vs : List KillJob) → RanEach (KillerRan m) xs us s ys vs → RanEach (KillerRan m) xs us (killer_part s) ys vs
  killers_part xs us s ys vs h =
      subst (λ (t : Shift). RanEach (KillerRan m) xs us t ys vs) (ran_keeps (KillerRan m) (λ t. t ≡ killer_part t) refl (λ a b p q. ap₂ plus p q) killer_counts (zip xs us) s (zip ys vs) h.ran) h

  killer_calls : (x : PassShown × KillJob) (s : Shift) (y : PassShown × KillJob) → KillerRan m x s y → s.killed + s.late + s.already + s.missing ≡ size_of_range x.1
  killer_calls x s y r =
      let all : total s ≡ x.1.end - x.1.first = called_total _ kill_count one_kill (x.1.end - x.1.first) _ _ s r.calls in
      let part : total s ≡ total (killer_part s) = ap total (killer_counts x s y r) in
      omega arith

  pub ids_sum : (xs : List PassShown) (us : List KillJob) (s : Shift) (ys : List PassShown) (vs : List KillJob) → length xs ≡ length us → RanEach (KillerRan m) xs us s ys vs → s.killed + s.late + s.already + s.missing ≡ sum_by size_of_range us
  ids_sum xs us s ys vs e h = ran_asked (KillerRan m) (λ t. t.killed + t.late + t.already + t.missing) (λ x. size_of_range x.1) refl (λ a b. omega arith) killer_calls (zip xs us) s (zip ys vs) h.ran ∙ sum_second size_of_range xs us e

module _ {B : Type 0} (behaviour : B → Behaviour) (registers : B → List ℕ) (pending : B → Option Pending) (m : ManagerShown) (plan : Plan) where
  desk_counts : (x : PassShown × B) (s : Shift) (y : PassShown × B) → DeskRan behaviour registers pending m plan x s y → s ≡ desk_part s
  desk_counts x s y r = called_counts _ turn_count (λ t. t ≡ desk_part t) refl (λ a b p q. ap₂ plus p q) turn_part r.turns_taken.taken _ _ s r.turns_taken.calls

  -- desks count nothing else
  pub all_desk_counts : (xs : List PassShown) (us : List B) (s : Shift) (ys : List PassShown) (vs : List B) → RanEach (DeskRan behaviour registers pending m plan) xs us s ys vs → s ≡ desk_part s
  all_desk_counts xs us s ys vs h = ran_keeps (DeskRan behaviour registers pending m plan) (λ t. t ≡ desk_part t) refl (λ a b p q. ap₂ plus p q) desk_counts (zip xs us) s (zip ys vs) h.ran

  -- the counts of desks stand in the desks' part
  pub desks_part : (xs : List PassShown) (us : List B) (s : Shift) (ys : List PassShown) (vs : List B) → RanEach (DeskRan behaviour registers pending m plan) xs us s ys vs → RanEach (DeskRan behaviour registers pending m plan) xs us (desk_part s) ys vs
  desks_part xs us s ys vs h =
      subst (λ (t : Shift). RanEach (DeskRan behaviour registers pending m plan) xs us t ys vs) (all_desk_counts xs us s ys vs h) h

  -- and so is their sum where each is told
  pub desks_told : (xs : List PassShown) (us : List B) (places : List Shift) (s r : Shift) (ys : List PassShown) (vs : List B) (told : List Shift)
      → r ≡ desk_part s → RanEach (DeskRan behaviour registers pending m plan) xs us s ys vs
      → AreTold (DeskRan behaviour registers pending m plan) xs us places s ys vs told
      → AreTold (DeskRan behaviour registers pending m plan) xs us places r ys vs told
  desks_told xs us places s r ys vs told e h each =
      subst (λ (t : Shift). AreTold (DeskRan behaviour registers pending m plan) xs us places t ys vs told) (all_desk_counts xs us s ys vs h ∙ sym e) each

  desk_turns : (x : PassShown × B) (s : Shift) (y : PassShown × B) → DeskRan behaviour registers pending m plan x s y → s.nounit ≡ 0 → total s ≡ plan.turns
  desk_turns x s y r e = called_total _ turn_count one_turn r.turns_taken.taken _ _ s r.turns_taken.calls ∙ r.turns_taken.all_taken e

  turns_taken : (xs : List (PassShown × B)) (s : Shift) (ys : List (PassShown × B)) → RanAll (DeskRan behaviour registers pending m plan) xs s ys → s.nounit ≡ 0 → total s ≡ plan.turns * length xs
  turns_taken [] s [] h e = ap total h ∙ omega arith
  turns_taken [] s (y ∷ ys) h e = absurd h
  turns_taken (x ∷ xs) s [] h e = absurd h
  turns_taken (x ∷ xs) s (y ∷ ys) h e =
      let both : s.nounit ≡ h.0.nounit + h.1.nounit = ap (λ (u : Shift). u.nounit) h.4 in
      let all : total s ≡ total h.0 + total h.1 = ap total h.4 ∙ total_plus h.0 h.1 in
      let one : total h.0 ≡ plan.turns = desk_turns x h.0 y h.2 (omega arith) in
      let rest : total h.1 ≡ plan.turns * length xs = turns_taken xs h.1 ys h.3 (omega arith) in
      all ∙ ap₂ ◌+◌ one rest ∙ one_more plan.turns (length xs)

  -- all turns were taken, where no desk was out of units
  pub turns_sum : (xs : List (PassShown × B)) (s : Shift) (ys : List (PassShown × B)) → RanAll (DeskRan behaviour registers pending m plan) xs s ys → s.nounit ≡ 0 → s.done + s.refused + s.lost + s.full + s.idle ≡ plan.turns * length xs
  turns_sum xs s ys h e =
      let t : total s ≡ plan.turns * length xs = turns_taken xs s ys h e in
      let part : total s ≡ total (desk_part s) = ap total (ran_keeps (DeskRan behaviour registers pending m plan) (λ u. u ≡ desk_part u) refl (λ a b p q. ap₂ plus p q) desk_counts xs s ys h) in
      omega arith

  pub turns_all : (xs : List PassShown) (us : List B) (s : Shift) (ys : List PassShown) (vs : List B) → length xs ≡ length us → RanEach (DeskRan behaviour registers pending m plan) xs us s ys vs → s.nounit ≡ 0 → s.done + s.refused + s.lost + s.full + s.idle ≡ plan.turns * length xs
  turns_all xs us s ys vs e h none =
      turns_sum (zip xs us) s (zip ys vs) h.ran none ∙ ap (λ (n : ℕ). plan.turns * n) (zip_length xs us e)

-- of lists side by side, what holds of each place holds of each element of the first
pub all_first : {T U : Type 0} (P : T → Type 0) (xs : List T) (ys : List U) → length xs ≡ length ys → All (λ (x : T × U). P x.0) (zip xs ys) → All P xs
all_first P [] ys e all = All-nil P
all_first P (x ∷ xs) [] e all = absurd (omega (arith, e))
all_first {T = T} {U = U} P (x ∷ xs) (y ∷ ys) e all =
    let Q : T × U → Type 0 = λ z. P z.0 in
    All-cons P x xs (All-head Q (x, y) (zip xs ys) all) (all_first P xs ys (omega (arith, e)) (All-tail Q (x, y) (zip xs ys) all))

-- and so are sums
pub sum_first : {T U : Type 0} (f : T → ℕ) (xs : List T) (ys : List U) → length xs ≡ length ys → sum_by (λ (x : T × U). f x.0) (zip xs ys) ≡ sum_by f xs
sum_first f [] ys e = refl
sum_first f (x ∷ xs) [] e = absurd (omega (arith, e))
sum_first {T = T} {U = U} f (x ∷ xs) (y ∷ ys) e =
    let g : T × U → ℕ = λ z. f z.0 in
    omega (arith, sum_by-cons f x xs, sum_by-cons g (x, y) (zip xs ys), sum_first f xs ys (omega (arith, e)))

module _ {T U : Type 0} (R : T × U → Shift → T × U → Type 0) (xs : List T) (us : List U) (s : Shift) (ys : List T) (vs : List U) where
  pub each_paired : length xs ≡ length us → RanEach R xs us s ys vs → length ys ≡ length vs
  each_paired e r = r.on_kept ∙ (e ∙ sym r.by_kept)

  -- what a run makes so of each place is so of all, and of the first of each
  pub each_all : (P : T × U → Type 0) → ((x : T × U) (t : Shift) (y : T × U) → R x t y → P y) → RanEach R xs us s ys vs → All P (zip ys vs)
  each_all P each r = ran_left R P each (zip xs us) s (zip ys vs) r.ran
    where
      ran_left : {A : Type 0} (Q : A → Shift → A → Type 0) (P : A → Type 0) → ((x : A) (t : Shift) (y : A) → Q x t y → P y) → (ws : List A) (t : Shift) (bs : List A) → RanAll Q ws t bs → All P bs
      ran_left Q P each [] t [] h = All-nil P
      ran_left Q P each [] t (b ∷ bs) h = absurd h
      ran_left Q P each (a ∷ ws) t [] h = absurd h
      ran_left Q P each (a ∷ ws) t (b ∷ bs) h = All-cons P b bs (each a h.0 b h.2) (ran_left Q P each ws h.1 bs h.3)

  -- what each counts of its pass, all count
  pub each_gains : (f : Shift → ℕ) (g : T → ℕ) → f empty_shift ≡ 0 → ((a b : Shift) → f (plus a b) ≡ f a + f b) → ((x : T × U) (t : Shift) (y : T × U) → R x t y → f t + g x.0 ≡ g y.0)
      → length xs ≡ length us → RanEach R xs us s ys vs → f s + sum_by g xs ≡ sum_by g ys
  each_gains f g zero sums each e r =
      omega (arith, ran_gains R f (λ (x : T × U). g x.0) zero sums each (zip xs us) s (zip ys vs) r.ran, sum_first g xs us e, sum_first g ys vs (each_paired e r))

-- the lists of a shift, place by place
module _ (m : ManagerShown) where
  -- each client's calls fit, where all together do
  pub clients_fit : (xs : List PassShown) (us : List JobShown) → length xs ≡ length us → All (IsFreePass m) xs → All IsClientJob us → sum_by calls_of us < 2 ^ 32 → All (λ (x : PassShown × JobShown). IsClientOf m x × (calls_of x.1 < 2 ^ 32)) (zip xs us)
  clients_fit [] us e free jobs fit = All-nil (λ (x : PassShown × JobShown). IsClientOf m x × (calls_of x.1 < 2 ^ 32))
  clients_fit (x ∷ xs) [] e free jobs fit = absurd (omega (arith, e))
  clients_fit (x ∷ xs) (u ∷ us) e free jobs fit =
      let sum = sum_by-cons calls_of u us in
      All-cons (λ (z : PassShown × JobShown). IsClientOf m z × (calls_of z.1 < 2 ^ 32)) (x, u) (zip xs us)
      (record { pass = All-head (IsFreePass m) x xs free; job = All-head IsClientJob u us jobs }, omega (arith, sum, fit))
      (clients_fit xs us (omega (arith, e)) (All-tail (IsFreePass m) x xs free) (All-tail IsClientJob u us jobs) (omega (arith, sum, fit)))

  pub killers_ready : (xs : List PassShown) (us : List KillJob) → length xs ≡ length us → All (IsFreePass m) xs → All IsKillJob us → All (IsKillerOf m) (zip xs us)
  killers_ready xs us e free jobs = all_both (IsFreePass m) IsKillJob (IsKillerOf m) (λ x y a b. record { pass = a; job = b }) xs us e free jobs

  -- passes that a run leaves free
  pub passes_free : {U : Type 0} (R : PassShown × U → Shift → PassShown × U → Type 0) → ((x : PassShown × U) (t : Shift) (y : PassShown × U) → R x t y → IsFreePass m y.0)
      → (xs : List PassShown) (us : List U) (s : Shift) (ys : List PassShown) (vs : List U) → length xs ≡ length us → RanEach R xs us s ys vs → All (IsFreePass m) ys
  passes_free R each xs us s ys vs e r =
      all_first (IsFreePass m) ys vs (each_paired R xs us s ys vs e r) (each_all R xs us s ys vs (λ y. IsFreePass m y.0) each r)

  -- passes that a run leaves with their numbers
  pub same_numbers : {U : Type 0} (R : PassShown × U → Shift → PassShown × U → Type 0) → ((x : PassShown × U) (t : Shift) (y : PassShown × U) → R x t y → y.0.number ≡ x.0.number)
      → (xs : List PassShown) (us : List U) (s : Shift) (ys : List PassShown) (vs : List U) → length xs ≡ length us → RanEach R xs us s ys vs → numbers ys ≡ numbers xs
  same_numbers R each xs us s ys vs e r = same_first (λ (p : PassShown). p.number) R each xs us s ys vs e (each_paired R xs us s ys vs e r) r.ran

  module _ {B : Type 0} (behaviour : B → Behaviour) (registers : B → List ℕ) (pending : B → Option Pending) where
    pub desks_ready : (xs : List PassShown) (us : List B) → length xs ≡ length us → All (IsFreePass m) xs → All (λ b. pending b ≡ None) us → All (IsDeskOf behaviour registers pending m) (zip xs us)
    desks_ready xs us e free clear = all_both (IsFreePass m) (λ b. pending b ≡ None) (IsDeskOf behaviour registers pending m) (λ x y a b. record { pass = a; unprepared = b }) xs us e free clear

    -- servers that a run leaves with nothing prepared
    pub servers_clear : (R : PassShown × B → Shift → PassShown × B → Type 0) → ((x : PassShown × B) (t : Shift) (y : PassShown × B) → R x t y → IsDeskOf behaviour registers pending m y)
        → (xs : List PassShown) (us : List B) (s : Shift) (ys : List PassShown) (vs : List B) → length xs ≡ length us → RanEach R xs us s ys vs → All (λ b. pending b ≡ None) vs
    servers_clear R each xs us s ys vs e r =
        all_second (λ b. pending b ≡ None) ys vs (each_paired R xs us s ys vs e r)
        (each_all R xs us s ys vs (λ y. pending y.1 ≡ None) (λ x t y h. (each x t y h).unprepared) r)
