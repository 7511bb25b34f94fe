-- Rounds of turns.
use Rattle.std.proofs.Common.{◌≡◌, ℕ, ◌+◌, ◌-◌, ◌*◌, ◌≤◌, ◌<◌, List, [], ◌∷◌, Option, All, refl, sym, ◌∙◌, ap, ap₂, subst, ◌⊎◌, inl, inr, arith, length, sum_by, zip, None}
use Rattle.std.proofs.lemmas.List.Elements.{All-head, All-tail}
use Rattle.std.proofs.lemmas.List.Sums.{sum_by-cons}
use Rattle.tp_model.specs.Steps.{AreLimits}
use Rattle.tp_server.specs.Behaviour.{Behaviour}
use Rattle.tp_server.specs.Pending.{Pending}
use Rattle.tp_manager.specs.Calls.{claims_in}
use Rattle.tp_manager.specs.Shown.{ManagerShown, PassShown, numbers}
use Rattle.tp_desk.specs.Serving.{AreUnitsEnded, Leaves, Serves, gained}
use Rattle.tp_desk.proofs.Serves.{ended_none, leaves_then, serves_none}
use Rattle.tp_server.specs.declared.order.Order.{Order}
use Rattle.tp_workers.specs.declared.plan.Plan.{Plan}
use Rattle.tp_workers.specs.declared.tally.Shift.{Shift}
use Rattle.tp_workers.specs.Calling.{MadeCalls}
use Rattle.tp_workers.specs.Desks.{DeskWorked, IsDeskOf, DeskPlace, TakesTurn, place}
use Rattle.tp_workers.specs.Drained.{DeskDrained, EndsIdle, LastTurn, TookTurn}
use Rattle.tp_workers.specs.Free.{IsFreePass}
use Rattle.tp_workers.specs.Gains.{commits_in}
use Rattle.tp_workers.specs.Ran.{RanAll, RanEach}
use Rattle.tp_workers.specs.Tally.{claimed_in_all, empty_shift, plus, turn_count}
use Rattle.tp_workers.proofs.Calling.{called_more, called_none, called_then}
use Rattle.tp_workers.proofs.Shifts.{desks_ready, each_gains, each_paired, passes_free, same_numbers, servers_clear, sum_first, zip_length}
use Rattle.tp_workers.proofs.Turns.{turn_claims, turn_room, turns_claim, turns_commit, turns_room}

four : (n m k l : ℕ) → (n + m) + (k + l) ≡ (n + k) + (m + l)
four n m k l = omega arith

plus_swap : (a b c d : Shift) → plus (plus a b) (plus c d) ≡ plus (plus a c) (plus b d)
plus_swap a b c d =
    let e0 = four a.done b.done c.done d.done in
    let e1 = four a.refused b.refused c.refused d.refused in
    let e2 = four a.lost b.lost c.lost d.lost in
    let e3 = four a.full b.full c.full d.full in
    let e4 = four a.idle b.idle c.idle d.idle in
    let e5 = four a.nounit b.nounit c.nounit d.nounit in
    let e6 = four a.submitted b.submitted c.submitted d.submitted in
    let e7 = four a.submit_full b.submit_full c.submit_full d.submit_full in
    let e8 = four a.killed b.killed c.killed d.killed in
    let e9 = four a.late b.late c.late d.late in
    let e10 = four a.already b.already c.already d.already in
    let e11 = four a.missing b.missing c.missing d.missing in
    cc

-- workers that ran and ran again
pub ran_then : {T : Type 0} (R Q S : T → Shift → T → Type 0) → ((x y z : T) (s t : Shift) → R x s y → Q y t z → S x (plus s t) z)
    → (xs ys zs : List T) (s t : Shift) → RanAll R xs s ys → RanAll Q ys t zs → RanAll S xs (plus s t) zs
ran_then R Q S both [] [] [] s t h k = ap₂ plus h k
ran_then R Q S both [] [] (z ∷ zs) s t h k = absurd k
ran_then R Q S both [] (y ∷ ys) zs s t h k = absurd h
ran_then R Q S both (x ∷ xs) [] zs s t h k = absurd h
ran_then R Q S both (x ∷ xs) (y ∷ ys) [] s t h k = absurd k
ran_then R Q S both (x ∷ xs) (y ∷ ys) (z ∷ zs) s t h k =
    (plus h.0 k.0, plus h.1 k.1, both x y z h.0 k.0 h.2 k.2, ran_then R Q S both xs ys zs h.1 k.1 h.3 k.3, ap₂ plus h.4 k.4 ∙ plus_swap h.0 h.1 k.0 k.1)

module _ {B : Type 0} (behaviour : B → Behaviour) (registers : B → List ℕ) (pending : B → Option Pending) (m : ManagerShown) (order : Order) where
  abbrev Ready : PassShown × B → Type 0
  Ready x = IsDeskOf behaviour registers pending m x

  abbrev Took : PassShown × B → Shift → PassShown × B → Type 0
  Took x s y = TookTurn behaviour registers pending m order x s y

  abbrev at : PassShown × B → DeskPlace
  at x = place behaviour registers pending x

  -- the units that are left to the pass
  abbrev pub left_of : PassShown → ℕ
  left_of p = m.limits.units - claims_in p.mine

  -- turns were taken so far
  pub record Going (old : PassShown × B) (counts : Shift) (new : PassShown × B) : Type 0 where
    pub taken : ℕ
    pub calls : MadeCalls (TakesTurn order m.limits) turn_count taken (at old) counts (at new)
    pub few : counts.done ≤ 1024
    pub serves : Serves (behaviour old.1) (registers old.1) (registers new.1) old.0 new.0
    pub ended : AreUnitsEnded None (gained old.0.mine new.0.mine) new.0.seen
    pub behaviour_is : behaviour new.1 ≡ behaviour old.1
    pub ready : IsDeskOf behaviour registers pending m new

  going_all : (xs : List (PassShown × B)) → All Ready xs → RanAll Going xs empty_shift xs
  going_all [] ready = refl
  going_all (x ∷ xs) ready =
      (empty_shift, empty_shift, record { taken = 0; calls = called_none (TakesTurn order m.limits) turn_count (at x); few = omega arith; serves = serves_none (behaviour x.1) (registers x.1) x.0; ended = ended_none x.0; behaviour_is = refl; ready = All-head Ready x xs ready }, going_all xs (All-tail Ready x xs ready), refl)

  few_more : (x y z : PassShown × B) (s t : Shift) → Going x s y → Took y t z → s.done + t.done ≤ 1024
  few_more x y z s t h k =
      let same : t.done ≡ (turn_count k.turned).done = ap (λ (u : Shift). u.done) k.counted in
      omega (arith, same, turns_claim order m.limits h.taken (at x) (at y) s h.calls, turn_room order m.limits (behaviour y.1) (registers y.1) y.0 z.0 k.turned (registers z.1) k.turn.answer, k.limits.units.1)

  leaves_on : (x y z : PassShown × B) (s t : Shift) → Going x s y → Took y t z → Leaves (behaviour x.1) (registers x.1) (registers z.1) x.0 z.0
  leaves_on x y z s t h k =
      leaves_then (behaviour x.1) (registers x.1) (registers y.1) (registers z.1) x.0 y.0 z.0 h.serves h.ended (subst (λ r. Leaves r (registers y.1) (registers z.1) y.0 z.0) h.behaviour_is k.leaves)

  one_round : (x y z : PassShown × B) (s t : Shift) → Going x s y → Took y t z → Going x (plus s t) z
  one_round x y z s t h k = record {
    taken = h.taken + 1;
    calls = called_more (TakesTurn order m.limits) turn_count h.taken k.turned (at x) (at y) (at z) s t (plus s t) h.calls k.turn k.counted refl;
    few = few_more x y z s t h k;
    serves = (leaves_on x y z s t h k).serves;
    ended = (leaves_on x y z s t h k).ended;
    behaviour_is = k.turn.behaviour_is ∙ h.behaviour_is;
    ready = k.ready;
  }

  going_round : (xs ys zs : List (PassShown × B)) (s t : Shift) → RanAll Going xs s ys → RanAll Took ys t zs → RanAll Going xs (plus s t) zs
  going_round xs ys zs s t h k = ran_then Going Took Going one_round xs ys zs s t h k

  abbrev Worked : Plan → PassShown × B → Shift → PassShown × B → Type 0
  Worked plan x s y = DeskWorked behaviour registers pending m plan x s y

  works_on : (plan : Plan) → plan.order ≡ order → (x y : PassShown × B) (s : Shift) (h : Worked plan x s y) → MadeCalls (TakesTurn order m.limits) turn_count h.turns_taken.taken (at x) s (at y)
  works_on plan is x y s h = subst (λ (o : Order). MadeCalls (TakesTurn o m.limits) turn_count h.turns_taken.taken (at x) s (at y)) is h.turns_taken.calls

  few_claimed : (units a b : ℕ) (s : Shift) → units ≤ 1024 → claimed_in_all s + a ≡ b → (b ≤ units) ⊎ (b ≡ a) → s.done ≤ 1024
  few_claimed units a b s most claims (inl few) = omega (arith, most, claims, few)
  few_claimed units a b s most claims (inr same) = omega (arith, most, claims, same)

  -- a desk goes on until it finds nothing
  one_more : (plan : Plan) → plan.order ≡ order → AreLimits m.limits → (x y z : PassShown × B) (s t : Shift) → Going x s y → Worked plan y t z → Going x (plus s t) z
  one_more plan is limits x y z s t h k =
      let calls = called_then (TakesTurn order m.limits) turn_count h.taken k.turns_taken.taken (at x) (at y) (at z) s t h.calls (works_on plan is y z t k) in
      let n = h.taken + k.turns_taken.taken in
      let leaves : Leaves (behaviour x.1) (registers x.1) (registers z.1) x.0 z.0 =
      leaves_then (behaviour x.1) (registers x.1) (registers y.1) (registers z.1) x.0 y.0 z.0 h.serves h.ended (subst (λ r. Leaves r (registers y.1) (registers z.1) y.0 z.0) h.behaviour_is k.leaves) in
      record {
        taken = n;
        calls = calls;
        few = few_claimed m.limits.units (claims_in x.0.mine) (claims_in z.0.mine) (plus s t) limits.units.1 (turns_claim order m.limits n (at x) (at z) (plus s t) calls) (turns_room order m.limits n (at x) (at z) (plus s t) calls);
        serves = leaves.serves;
        ended = leaves.ended;
        behaviour_is = k.behaviour_is ∙ h.behaviour_is;
        ready = k.ready;
      }

  -- one round, and then each desk until it finds nothing
  going_more : (plan : Plan) → plan.order ≡ order → (xs ys zs ws : List (PassShown × B)) (s t u : Shift)
      → RanAll Going xs s ys → RanAll Took ys t zs → RanAll (Worked plan) zs u ws → RanAll Going xs (plus (plus s t) u) ws
  going_more plan is [] [] [] [] s t u h k j = ap₂ plus (ap₂ plus h k) j
  going_more plan is [] [] [] (w ∷ ws) s t u h k j = absurd j
  going_more plan is [] [] (z ∷ zs) ws s t u h k j = absurd k
  going_more plan is [] (y ∷ ys) zs ws s t u h k j = absurd h
  going_more plan is (x ∷ xs) [] zs ws s t u h k j = absurd h
  going_more plan is (x ∷ xs) (y ∷ ys) [] ws s t u h k j = absurd k
  going_more plan is (x ∷ xs) (y ∷ ys) (z ∷ zs) [] s t u h k j = absurd j
  going_more plan is (x ∷ xs) (y ∷ ys) (z ∷ zs) (w ∷ ws) s t u h k j =
      let before : plus s t ≡ plus (plus h.0 k.0) (plus h.1 k.1) = ap₂ plus h.4 k.4 ∙ plus_swap h.0 h.1 k.0 k.1 in
      let sum : plus (plus s t) u ≡ plus (plus (plus h.0 k.0) j.0) (plus (plus h.1 k.1) j.1) =
      ap₂ plus before j.4 ∙ plus_swap (plus h.0 k.0) (plus h.1 k.1) j.0 j.1 in
      let one : Going x (plus (plus h.0 k.0) j.0) w = one_more plan is k.2.limits x z w (plus h.0 k.0) j.0 (one_round x y z h.0 k.0 h.2 k.2) j.2 in
      (plus (plus h.0 k.0) j.0, plus (plus h.1 k.1) j.1, one, going_more plan is xs ys zs ws h.1 k.1 j.1 h.3 k.3 j.3, sum)

  more_left : (plan : Plan) → plan.order ≡ order → (xs : List (PassShown × B)) (s : Shift) (ys : List (PassShown × B)) → RanAll (Worked plan) xs s ys
      → sum_by (λ (x : PassShown × B). left_of x.0) ys ≤ sum_by (λ (x : PassShown × B). left_of x.0) xs
  more_left plan is [] s [] h = omega arith
  more_left plan is [] s (y ∷ ys) h = absurd h
  more_left plan is (x ∷ xs) s [] h = absurd h
  more_left plan is (x ∷ xs) s (y ∷ ys) h =
      let f : PassShown × B → ℕ = λ z. left_of z.0 in
      omega (arith, turns_claim order m.limits h.2.turns_taken.taken (at x) (at y) h.0 (works_on plan is x y h.0 h.2), more_left plan is xs h.1 ys h.3, sum_by-cons f x xs, sum_by-cons f y ys)

  few_all : (xs : List (PassShown × B)) (s : Shift) (ys : List (PassShown × B)) → RanAll Going xs s ys → s.done ≤ length xs * 1024
  few_all [] s [] h = omega (arith, ap (λ (u : Shift). u.done) h)
  few_all [] s (y ∷ ys) h = absurd h
  few_all (x ∷ xs) s [] h = absurd h
  few_all (x ∷ xs) s (y ∷ ys) h = omega (arith, ap (λ (u : Shift). u.done) h.4, h.2.few, few_all xs h.1 ys h.3)

  claimed_plus : (a b : Shift) → claimed_in_all (plus a b) ≡ claimed_in_all a + claimed_in_all b
  claimed_plus a b = omega arith

  turn_left : (x : PassShown × B) (s : Shift) (y : PassShown × B) → Took x s y → claimed_in_all s + left_of y.0 ≡ left_of x.0
  turn_left x s y k =
      let same : claimed_in_all s ≡ claimed_in_all (turn_count k.turned) = ap claimed_in_all k.counted in
      omega (arith, same, turn_claims order m.limits (behaviour x.1) (registers x.1) x.0 y.0 k.turned (registers y.1) k.turn.answer, turn_room order m.limits (behaviour x.1) (registers x.1) x.0 y.0 k.turned (registers y.1) k.turn.answer)

  round_left : (xs : List (PassShown × B)) (s : Shift) (ys : List (PassShown × B)) → RanAll Took xs s ys → claimed_in_all s + sum_by (λ (x : PassShown × B). left_of x.0) ys ≡ sum_by (λ (x : PassShown × B). left_of x.0) xs
  round_left [] s [] h = omega (arith, ap claimed_in_all h)
  round_left [] s (y ∷ ys) h = absurd h
  round_left (x ∷ xs) s [] h = absurd h
  round_left (x ∷ xs) s (y ∷ ys) h =
      let f : PassShown × B → ℕ = λ z. left_of z.0 in
      omega (arith, ap claimed_in_all h.4, claimed_plus h.0 h.1, turn_left x h.0 y h.2, round_left xs h.1 ys h.3, sum_by-cons f x xs, sum_by-cons f y ys)

  idles : (x y z : PassShown × B) (s t : Shift) → Going x s y → Took y t z → claimed_in_all t ≡ 0 → EndsIdle order m.limits (at x) (at z)
  idles x y z s t h k idle =
      record { taken = h.taken; counts = s; before = at y; calls = h.calls; last = k.turned; turn = k.turn; idle = sym (ap claimed_in_all k.counted) ∙ idle }

  last_turn : (x y z : PassShown × B) (s t : Shift) → Going x s y → Took y t z → claimed_in_all t ≡ 0 → LastTurn behaviour registers pending m order x t z
  unfolding idles
  last_turn x y z s t h k idle = record { ends = idles x y z s t h k idle; counted = k.counted }

  last_all : (xs ys zs : List (PassShown × B)) (s t : Shift) → RanAll Going xs s ys → RanAll Took ys t zs → claimed_in_all t ≡ 0 → RanAll (LastTurn behaviour registers pending m order) xs t zs
  last_all [] [] [] s t h k idle = k
  last_all [] [] (z ∷ zs) s t h k idle = absurd k
  last_all [] (y ∷ ys) zs s t h k idle = absurd h
  last_all (x ∷ xs) [] zs s t h k idle = absurd h
  last_all (x ∷ xs) (y ∷ ys) [] s t h k idle = absurd k
  last_all (x ∷ xs) (y ∷ ys) (z ∷ zs) s t h k idle =
      let both : claimed_in_all t ≡ claimed_in_all k.0 + claimed_in_all k.1 = ap claimed_in_all k.4 ∙ claimed_plus k.0 k.1 in
      (k.0, k.1, last_turn x y z h.0 k.0 h.2 k.2 (omega (arith, both)), last_all xs ys zs h.1 k.1 h.3 k.3 (omega (arith, both)), k.4)

  ends : (x y z : PassShown × B) (s t : Shift) → Going x s y → Took y t z → claimed_in_all t ≡ 0 → DeskDrained behaviour registers pending m order x (plus s t) z
  ends x y z s t h k idle =
      let now : Going x (plus s t) z = one_round x y z s t h k in
      record {
        taken = now.taken;
        calls = now.calls;
        done = turns_commit order m.limits now.taken (at x) (at z) (plus s t) now.calls;
        few = now.few;
        idle = idles x y z s t h k idle;
        leaves = leaves_on x y z s t h k;
        behaviour_is = now.behaviour_is;
        ready = now.ready;
      }

  ends_all : (xs ys zs : List (PassShown × B)) (s t : Shift) → RanAll Going xs s ys → RanAll Took ys t zs → claimed_in_all t ≡ 0 → RanAll (DeskDrained behaviour registers pending m order) xs (plus s t) zs
  ends_all [] [] [] s t h k idle = ap₂ plus h k
  ends_all [] [] (z ∷ zs) s t h k idle = absurd k
  ends_all [] (y ∷ ys) zs s t h k idle = absurd h
  ends_all (x ∷ xs) [] zs s t h k idle = absurd h
  ends_all (x ∷ xs) (y ∷ ys) [] s t h k idle = absurd k
  ends_all (x ∷ xs) (y ∷ ys) (z ∷ zs) s t h k idle =
      let both : claimed_in_all t ≡ claimed_in_all k.0 + claimed_in_all k.1 = ap claimed_in_all k.4 ∙ claimed_plus k.0 k.1 in
      (plus h.0 k.0, plus h.1 k.1, ends x y z h.0 k.0 h.2 k.2 (omega (arith, both)), ends_all xs ys zs h.1 k.1 h.3 k.3 (omega (arith, both)), ap₂ plus h.4 k.4 ∙ plus_swap h.0 h.1 k.0 k.1)

  module _ (xs : List PassShown) (us : List B) (s : Shift) (ys : List PassShown) (vs : List B) where
    pub going_few : length xs ≡ length us → RanEach Going xs us s ys vs → s.done ≤ length xs * 1024
    going_few e h = let one = few_all (zip xs us) s (zip ys vs) h.ran in let same = zip_length xs us e in omega (arith, one, ap (λ (n : ℕ). n * 1024) same)

    pub going_free : length xs ≡ length us → RanEach Going xs us s ys vs → All (IsFreePass m) ys
    going_free e h = passes_free m Going (λ x t y r. r.ready.pass) xs us s ys vs e h

    pub going_clear : length xs ≡ length us → RanEach Going xs us s ys vs → All (λ b. pending b ≡ None) vs
    going_clear e h = servers_clear m behaviour registers pending Going (λ x t y r. r.ready) xs us s ys vs e h

    pub round_smaller : length xs ≡ length us → RanEach Took xs us s ys vs → 0 < claimed_in_all s → sum_by left_of ys < sum_by left_of xs
    round_smaller e h some =
        omega (arith, round_left (zip xs us) s (zip ys vs) h.ran, some, sum_first left_of xs us e, sum_first left_of ys vs (each_paired Took xs us s ys vs e h))

    pub drained_sum : length xs ≡ length us → RanEach (DeskDrained behaviour registers pending m order) xs us s ys vs → s.done + sum_by commits_in xs ≡ sum_by commits_in ys
    drained_sum e h = each_gains (DeskDrained behaviour registers pending m order) xs us s ys vs (λ c. c.done) commits_in refl (λ a b. refl) (λ x t y r. r.done) e h

    pub drained_free : length xs ≡ length us → RanEach (DeskDrained behaviour registers pending m order) xs us s ys vs → All (IsFreePass m) ys
    drained_free e h = passes_free m (DeskDrained behaviour registers pending m order) (λ x t y r. r.ready.pass) xs us s ys vs e h

    pub drained_numbers : length xs ≡ length us → RanEach (DeskDrained behaviour registers pending m order) xs us s ys vs → numbers ys ≡ numbers xs
    drained_numbers e h = same_numbers m (DeskDrained behaviour registers pending m order) (λ x t y r. r.leaves.serves.number) xs us s ys vs e h

    pub drained_clear : length xs ≡ length us → RanEach (DeskDrained behaviour registers pending m order) xs us s ys vs → All (λ b. pending b ≡ None) vs
    drained_clear e h = servers_clear m behaviour registers pending (DeskDrained behaviour registers pending m order) (λ x t y r. r.ready) xs us s ys vs e h

  pub going_none : (xs : List PassShown) (us : List B) → length xs ≡ length us → All (IsFreePass m) xs → All (λ b. pending b ≡ None) us → RanEach Going xs us empty_shift xs us
  going_none xs us e free clear = record { ran = going_all (zip xs us) (desks_ready m behaviour registers pending xs us e free clear); on_kept = refl; by_kept = refl }

  pub going_on : (xs : List PassShown) (us : List B) (ys : List PassShown) (vs : List B) (zs : List PassShown) (ws : List B) (s t : Shift) → RanEach Going xs us s ys vs → RanEach Took ys vs t zs ws → RanEach Going xs us (plus s t) zs ws
  going_on xs us ys vs zs ws s t h k = record { ran = going_round (zip xs us) (zip ys vs) (zip zs ws) s t h.ran k.ran; on_kept = k.on_kept ∙ h.on_kept; by_kept = k.by_kept ∙ h.by_kept }

  -- one round more, and then each desk until it finds nothing
  pub going_further : (plan : Plan) → plan.order ≡ order → (xs : List PassShown) (us : List B) (ys : List PassShown) (vs : List B) (zs : List PassShown) (ws : List B) (ps : List PassShown) (qs : List B) (s t u : Shift)
      → RanEach Going xs us s ys vs → RanEach Took ys vs t zs ws → RanEach (Worked plan) zs ws u ps qs → RanEach Going xs us (plus (plus s t) u) ps qs
  going_further plan is xs us ys vs zs ws ps qs s t u h k j = record {
    ran = going_more plan is (zip xs us) (zip ys vs) (zip zs ws) (zip ps qs) s t u h.ran k.ran j.ran;
    on_kept = j.on_kept ∙ (k.on_kept ∙ h.on_kept);
    by_kept = j.by_kept ∙ (k.by_kept ∙ h.by_kept);
  }

  pub further_smaller : (plan : Plan) → plan.order ≡ order → (xs : List PassShown) (us : List B) (s : Shift) (ys : List PassShown) (vs : List B) → length xs ≡ length us
      → RanEach (Worked plan) xs us s ys vs → sum_by left_of ys ≤ sum_by left_of xs
  further_smaller plan is xs us s ys vs e h =
      omega (arith, more_left plan is (zip xs us) s (zip ys vs) h.ran, sum_first left_of xs us e, sum_first left_of ys vs (each_paired (Worked plan) xs us s ys vs e h))

  -- the last round claimed nothing
  pub all_end : (xs : List PassShown) (us : List B) (ys : List PassShown) (vs : List B) (zs : List PassShown) (ws : List B) (s t : Shift) → RanEach Going xs us s ys vs → RanEach Took ys vs t zs ws → claimed_in_all t ≡ 0 → RanEach (DeskDrained behaviour registers pending m order) xs us (plus s t) zs ws
  all_end xs us ys vs zs ws s t h k idle = record { ran = ends_all (zip xs us) (zip ys vs) (zip zs ws) s t h.ran k.ran idle; on_kept = k.on_kept ∙ h.on_kept; by_kept = k.by_kept ∙ h.by_kept }

  pub all_last : (xs : List PassShown) (us : List B) (ys : List PassShown) (vs : List B) (zs : List PassShown) (ws : List B) (s t : Shift) → RanEach Going xs us s ys vs → RanEach Took ys vs t zs ws → claimed_in_all t ≡ 0 → RanEach (LastTurn behaviour registers pending m order) xs us t zs ws
  all_last xs us ys vs zs ws s t h k idle = record { ran = last_all (zip xs us) (zip ys vs) (zip zs ws) s t h.ran k.ran idle; on_kept = k.on_kept ∙ h.on_kept; by_kept = k.by_kept ∙ h.by_kept }
