-- No pass has anything in hand behind births and replays, where none had before.
use Rattle.std.proofs.Common.{◌≡◌, ◌≢◌, ℕ, zero, suc, ◌+◌, ◌-◌, ◌==◌, cond, if◌then◌else◌, is_none, nat_lt, Bool, true, false, Option, Some, None, Ok, Err, List, [], ◌∷◌, ◌++◌, drop, length, map, slice_index_or, slice_set, take, refl, ◌∙◌, ap, subst, arith}
use Rattle.std.proofs.lemmas.List.{get_or-set_other}
use Rattle.std.specs.List.{range_with_len}
use Rattle.std.specs.Option.{option_and_then}
use Rattle.tp_model.specs.Drafts.{DraftView}
use Rattle.tp_model.specs.declared.types.Element.{Element}
use Rattle.tp_model.specs.declared.types.Limits.{Limits}
use Rattle.tp_model.specs.declared.types.Look.{Look}
use Rattle.tp_model.specs.declared.types.Outcome.TheVariants as outcome
use Rattle.tp_model.specs.declared.types.Refusal.TheVariants as refusal
use Rattle.tp_model.specs.declared.types.Status.{Status}
use Rattle.tp_model.specs.declared.types.Status.TheVariants.{Waiting, Held, Consumed, Parked, Killed}
use Rattle.tp_model.specs.declared.types.Work.{Work}
use Rattle.tp_model.specs.declared.event.Event.TheVariants.{Requeue}
use Rattle.tp_model.specs.History.{Aborted, Committed, UnitEnd, element_of, end_of, rounds, status_of}
use Rattle.tp_plain.specs.Computed.{abort_at, abort_of, claim_id_at, claim_id_found, claim_id_of, commit_at, commit_of, has_room, is_server_stage, requeue_at, requeue_found, requeue_of, unit_in_hand, with_claimed, with_request}
use Rattle.tp_plain.specs.OneThread.{State, extended, fresh_pass, first_row, no_pass, pass_at, start}
use Rattle.tp_plain.specs.declared.pass_state.PassState.{PassState}
use Rattle.tp_rollover.specs.Anew.{Bearing, Placing, all_born, all_replayed, attempted, attempts_made, born_by, born_from, born_next, carrier_by, drafts_of, family_at, first_from, first_given, given, group_born, group_size, has_left, home_of, if_free, kept_for, made_unheld, named_in, next_born, next_pass, placed_by, renewed, replayed, requeued, root_or_group, submitted, submitted_next}
use Rattle.tp_rollover.specs.Bounds.{attempts_had}
use Rattle.tp_rollover.specs.declared.births.Family.{Family}
use Rattle.tp_rollover.specs.declared.births.Group.{Group}
use Rattle.tp_rollover.specs.declared.moved.Moved.{Moved}
use Rattle.tp_rollover.specs.declared.places.Cursor.{Cursor}
use Rattle.tp_rollover.specs.declared.survivors.Survivor.{Survivor}

-- what comes of a call comes of what it was made of
pub and_then_some : {A B : Type 0} (f : A → Option B) (o : Option A) (y : B) → option_and_then f o ≡ Some y → (x : A) × (o ≡ Some x) × (f x ≡ Some y)
and_then_some f None y e = absurd cc
and_then_some f (Some x) y e = (x, refl, e)

pub same_some : {A : Type 0} (x y : A) → Some x ≡ Some y → x ≡ y
same_some x y e = cc

pub second_of : {A : Type 0} (x y : A × State) → Some x ≡ Some y → x.1 ≡ y.1
second_of x y e = ap (λ z. z.1) (same_some x y e)

abbrev pub AreIdle : State → Type 0
AreIdle s = (c : ℕ) → (pass_at s c).holding ≡ None

-- all but pass c
abbrev AreIdleBut : ℕ → State → Type 0
AreIdleBut c s = (d : ℕ) → d ≢ c → (pass_at s d).holding ≡ None

set_none : (ps : List PassState) (c : ℕ) (used : PassState) → used.holding ≡ None → ((d : ℕ) → d ≢ c → (slice_index_or ps d no_pass).holding ≡ None) → (d : ℕ) → (slice_index_or (slice_set ps c used) d no_pass).holding ≡ None
set_none [] c used none others d = refl
set_none (p ∷ ps) zero used none others zero = none
set_none (p ∷ ps) zero used none others (suc d) = others (suc d) (λ e. omega (arith, e))
set_none (p ∷ ps) (suc c) used none others zero = others zero (λ e. omega (arith, e))
set_none (p ∷ ps) (suc c) used none others (suc d) = set_none ps c used none (λ b not. others (suc b) (λ e. not (omega (arith, e)))) d

-- ---- calls

module _ (s : State) (c : ℕ) where
  claim_at : (e : Element) (st : Status) (w : Work) (t : State) → given (claim_id_at s c e st) ≡ Some (w, t) → AreIdle s → AreIdleBut c t
  claim_at e (Waiting n) w t is idle =
      let look : Look = record { element = e; status = Waiting n } in
      let same : with_claimed s c look (pass_at s c).turns ≡ t = second_of _ (w, t) is in
      λ d not. subst (λ (z : State). (pass_at z d).holding ≡ None) same (ap (λ (p : PassState). p.holding) (get_or-set_other s.passes c d _ no_pass not) ∙ idle d)
  claim_at e (Held u n) w t is idle = absurd cc
  claim_at e (Consumed u) w t is idle = absurd cc
  claim_at e (Parked n) w t is idle = absurd cc
  claim_at e Killed w t is idle = absurd cc

  claim_found : (i : ℕ) (o : Option Element) (w : Work) (t : State) → given (claim_id_found s c i o) ≡ Some (w, t) → AreIdle s → AreIdleBut c t
  claim_found i None w t is idle = absurd cc
  claim_found i (Some e) w t is idle = go (e.stage == 15) is
    where
      go : (b : Bool) → given (if b then (Err refusal.BadStage, s) else claim_id_at s c e (status_of s.limits.attempts s.history i)) ≡ Some (w, t) → AreIdleBut c t
      go true is = absurd cc
      go false is = claim_at e (status_of s.limits.attempts s.history i) w t is idle

  claim_idle : (i : ℕ) (w : Work) (t : State) → given (claim_id_of s c i) ≡ Some (w, t) → AreIdle s → AreIdleBut c t
  claim_idle i w t is idle = go (nat_lt (pass_at s c).claimed s.limits.units) is
    where
      go : (b : Bool) → given (if b then claim_id_found s c i (element_of s.history i) else (Err refusal.NoUnit, s)) ≡ Some (w, t) → AreIdleBut c t
      go true is = claim_found i (element_of s.history i) w t is idle
      go false is = absurd cc

  commit_end : (u : ℕ) (drafts : List DraftView) (o : Option UnitEnd) (first : ℕ) (t : State) → first_given (commit_at s c u drafts o) ≡ Some (first, t) → AreIdleBut c s → AreIdle t
  commit_end u drafts None first t is idle = subst AreIdle (second_of _ (first, t) is) (set_none s.passes c _ refl idle)
  commit_end u drafts (Some (Committed a b)) first t is idle = subst AreIdle (second_of _ (first, t) is) (set_none s.passes c _ refl idle)
  commit_end u drafts (Some Aborted) first t is idle = absurd cc

  commit_idle : (drafts : List DraftView) (first : ℕ) (t : State) → first_given (commit_of s c drafts) ≡ Some (first, t) → AreIdleBut c s → AreIdle t
  commit_idle drafts first t is idle = go (has_room s c (length drafts)) is
    where
      go : (b : Bool) → first_given (if b then commit_at s c (unit_in_hand s c) drafts (end_of s.history (unit_in_hand s c)) else (outcome.Full, (abort_of s c).1)) ≡ Some (first, t) → AreIdle t
      go true is = commit_end (unit_in_hand s c) drafts (end_of s.history (unit_in_hand s c)) first t is idle
      go false is = absurd cc

  abort_end : (u : ℕ) (o : Option UnitEnd) → AreIdleBut c s → AreIdle (abort_at s c u o).1
  abort_end u None idle = set_none s.passes c _ refl idle
  abort_end u (Some (Committed a b)) idle = set_none s.passes c _ refl idle
  abort_end u (Some Aborted) idle = set_none s.passes c _ refl idle

  pub submit_idle : (stage : ℕ) (body : List ℕ) (id : ℕ) (t : State) → submitted c stage body s ≡ Some (id, t) → AreIdle s → AreIdle t
  submit_idle stage body id t is idle = go (is_server_stage stage) (has_room s c 1) is
    where
      go : (a b : Bool) → given (cond a (cond b (Ok (first_row s c 1), with_request s c stage body) (Err refusal.Full, s)) (Err refusal.BadStage, s)) ≡ Some (id, t) → AreIdle t
      go true true is = subst AreIdle (second_of _ (id, t) is) (set_none s.passes c _ (idle c) (λ d not. idle d))
      go true false is = absurd cc
      go false b is = absurd cc

pub free_made : {A : Type 0} (s : State) (c : ℕ) (made : Option A) (y : A) → if_free c s made ≡ Some y → made ≡ Some y
free_made s c made y is = go (pass_at s c).holding is
  where
    go : (o : Option ℕ) → (if is_none o then made else None) ≡ Some y → made ≡ Some y
    go None is = is
    go (Some u) is = absurd cc

pub born_idle : (s : State) (c carrier : ℕ) (drafts : List DraftView) (first : ℕ) (t : State) → born_by c carrier drafts s ≡ Some (first, t) → AreIdle s → AreIdle t
born_idle s c carrier drafts first t is idle =
    let x = and_then_some (λ (claimed : Work × State). first_given (commit_of claimed.1 c drafts)) (given (claim_id_of s c carrier)) (first, t) (free_made s c _ (first, t) is) in
    commit_idle x.0.1 c drafts first t x.2 (claim_idle s c carrier x.0.0 x.0.1 x.1 idle)

pub attempt_idle : (s : State) (c id : ℕ) (t : State) → attempted c id s ≡ Some t → AreIdle s → AreIdle t
attempt_idle s c id t is idle =
    let x = and_then_some (λ (claimed : Work × State). Some (abort_of claimed.1 c).1) (given (claim_id_of s c id)) t (free_made s c _ t is) in
    subst AreIdle (same_some (abort_of x.0.1 c).1 t x.2) (abort_end x.0.1 c (unit_in_hand x.0.1 c) (end_of x.0.1.history (unit_in_hand x.0.1 c)) (claim_idle s c id x.0.0 x.0.1 x.1 idle))

pub requeue_idle : (s : State) (c id : ℕ) (t : State) → requeued c id s ≡ Some t → AreIdle s → AreIdle t
requeue_idle s c id t is idle =
    let x = and_then_some (λ (done : ℕ × State). Some done.1) (given (requeue_of s c id)) t is in
    subst AreIdle (same_some x.0.1 t x.2) (found (element_of s.history id) x.0 x.1)
  where
    at : (k : ℕ) (st : Status) (x : ℕ × State) → given (requeue_at s c id k st) ≡ Some x → AreIdle x.1
    at k (Waiting n) x is = absurd cc
    at k (Held u n) x is = absurd cc
    at k (Consumed u) x is = absurd cc
    at k (Parked n) x is = go (nat_lt k 3) is
      where
        go : (b : Bool) → given (if b then (Ok (k + 1), extended s (Requeue c id (k + 1))) else (Err refusal.NoRound, s)) ≡ Some x → AreIdle x.1
        go true is = subst (λ (z : ℕ × State). AreIdle z.1) (same_some _ x is) idle
        go false is = absurd cc
    at k Killed x is = absurd cc

    found : (o : Option Element) (x : ℕ × State) → given (requeue_found s c id o) ≡ Some x → AreIdle x.1
    found None x is = absurd cc
    found (Some e) x is = at (rounds s.history id) (status_of s.limits.attempts s.history id) x is

-- ---- births

submitted_next_idle : (p stage : ℕ) (body : List ℕ) (home : ℕ) (b : Placing) (y : ℕ × Placing) → submitted_next p stage body home b ≡ Some y → AreIdle b.manager → AreIdle y.1.manager
submitted_next_idle p stage body home b y is idle =
    let next = and_then_some (λ (next : ℕ × Cursor). option_and_then (λ (made : ℕ × State). Some (placed_by next.1 made)) (submitted next.0 stage body b.manager)) (next_pass p b.manager home 1 0 b.cursor) y is in
    let made = and_then_some (λ (made : ℕ × State). Some (placed_by next.0.1 made)) (submitted next.0.0 stage body b.manager) y next.2 in
    subst (λ (z : ℕ × Placing). AreIdle z.1.manager) (same_some (placed_by next.0.1 made.0) y made.2) (submit_idle b.manager next.0.0 stage body made.0.0 made.0.1 made.1 idle)

born_next_idle : (p : ℕ) (drafts : List DraftView) (carrier home : ℕ) (b : Placing) (y : ℕ × Placing) → born_next p drafts carrier home b ≡ Some y → AreIdle b.manager → AreIdle y.1.manager
born_next_idle p drafts carrier home b y is idle =
    let next = and_then_some (λ (next : ℕ × Cursor). option_and_then (λ (made : ℕ × State). Some (placed_by next.1 made)) (born_by next.0 carrier drafts b.manager)) (next_pass p b.manager home (length drafts) 1 b.cursor) y is in
    let made = and_then_some (λ (made : ℕ × State). Some (placed_by next.0.1 made)) (born_by next.0.0 carrier drafts b.manager) y next.2 in
    subst (λ (z : ℕ × Placing). AreIdle z.1.manager) (same_some (placed_by next.0.1 made.0) y made.2) (born_idle b.manager next.0.0 carrier drafts made.0.0 made.0.1 made.1 idle)

carrier_idle : (p : ℕ) (s : Survivor) (home : ℕ) (o : Option (ℕ × ℕ)) (b : Placing) (y : (ℕ × ℕ) × Placing) → carrier_by p s home o b ≡ Some y → AreIdle b.manager → AreIdle y.1.manager
carrier_idle p s home (Some carrier) b y is idle =
    let has : (ℕ × ℕ) × Placing = (carrier, b) in
    subst (λ (z : (ℕ × ℕ) × Placing). AreIdle z.1.manager) (same_some has y is) idle
carrier_idle p s home None b y is idle =
    let both : ℕ × Placing → (ℕ × ℕ) × Placing = λ made. ((made.0, made.0), made.1) in
    let made = and_then_some (λ (made : ℕ × Placing). Some (both made)) (submitted_next p s.root_stage s.root_body home b) y is in
    subst (λ (z : (ℕ × ℕ) × Placing). AreIdle z.1.manager) (same_some (both made.0) y made.2) (submitted_next_idle p s.root_stage s.root_body home b made.0 made.1 idle)

module _ (l : Limits) (p : ℕ) where
  group_idle : (s : Survivor) (rest : List Survivor) (families : List Family) (has : ℕ × ℕ) (b : Placing) (y : Group × Bearing) → group_born l p s rest families has b ≡ Some y → AreIdle b.manager → AreIdle y.1.placing.manager
  group_idle s rest families has b y is idle =
      let left = (family_at families s.root).left in
      let count = group_size l rest left in
      let group : ℕ × Placing → Group × Bearing = λ born. (
        record { root = has.0; first = born.0; count = count },
        record { placing = born.1; families = slice_set families s.root (record { carrier = Some (has.0, born.0 + count); left = left - count }) },
      ) in
      let born = and_then_some (λ (born : ℕ × Placing). Some (group born)) (born_next p (drafts_of (take count rest) (nat_lt count left)) has.1 (home_of l s.id) b) y is in
      subst (λ (z : Group × Bearing). AreIdle z.1.placing.manager) (same_some (group born.0) y born.2) (born_next_idle p (drafts_of (take count rest) (nat_lt count left)) has.1 (home_of l s.id) b born.0 born.1 idle)

  either_idle : (s : Survivor) (rest : List Survivor) (families : List Family) (has : (ℕ × ℕ) × Placing) (y : Group × Bearing) → root_or_group l p s rest families has ≡ Some y → AreIdle has.1.manager → AreIdle y.1.placing.manager
  either_idle s rest families has y is idle = go (s.id == s.root) is
    where
      alone : Group × Bearing
      alone = (record { root = has.0.0; first = has.0.0; count = 1 }, record { placing = has.1; families = families })

      go : (b : Bool) → (if b then Some (record { root = has.0.0; first = has.0.0; count = 1 }, record { placing = has.1; families = families }) else group_born l p s rest families has.0 has.1) ≡ Some y → AreIdle y.1.placing.manager
      go true is = subst (λ (z : Group × Bearing). AreIdle z.1.placing.manager) (same_some _ y is) idle
      go false is = group_idle s rest families has.0 has.1 y is idle

  next_idle : (rest : List Survivor) (b : Bearing) (y : Group × Bearing) → next_born l p rest b ≡ Some y → AreIdle b.placing.manager → AreIdle y.1.placing.manager
  next_idle [] b y is idle = absurd cc
  next_idle (s ∷ rest) b y is idle =
      let has = and_then_some (root_or_group l p s (s ∷ rest) b.families) (carrier_by p s (home_of l s.id) (family_at b.families s.root).carrier b.placing) y is in
      either_idle s (s ∷ rest) b.families has.0 y has.2 (carrier_idle p s (home_of l s.id) (family_at b.families s.root).carrier b.placing has.0 has.1 idle)

  births_idle : (n : ℕ) (rest : List Survivor) (moved : List Moved) (b : Bearing) (y : List Moved × State) → born_from l p n rest moved b ≡ Some y → AreIdle b.placing.manager → AreIdle y.1
  births_idle zero rest moved b y is idle = subst (λ (z : List Moved × State). AreIdle z.1) (same_some _ y is) idle
  births_idle (suc n) [] moved b y is idle = subst (λ (z : List Moved × State). AreIdle z.1) (same_some _ y is) idle
  births_idle (suc n) (s ∷ rest) moved b y is idle =
      let born = and_then_some (λ (born : Group × Bearing). born_from l p n (drop born.0.count (s ∷ rest)) (moved ++ named_in born.0 (s ∷ rest)) born.1) (next_born l p (s ∷ rest) b) y is in
      births_idle n (drop born.0.0.count (s ∷ rest)) (moved ++ named_in born.0.0 (s ∷ rest)) born.0.1 y born.2 (next_idle (s ∷ rest) b born.0 born.1 idle)

-- ---- replays

module _ (p : ℕ) (kept : List Bool) where
  attempts_idle : (id n : ℕ) (x y : ℕ × State) → attempts_made p kept id n x ≡ Some y → AreIdle x.1 → AreIdle y.1
  attempts_idle id zero x y is idle = subst (λ (z : ℕ × State). AreIdle z.1) (same_some x y is) idle
  attempts_idle id (suc n) x y is idle =
      let at = and_then_some (λ c. option_and_then (λ after. attempts_made p kept id n (c, after)) (attempted c id x.1)) (first_from (has_left kept x.1 0 1) x.0 (p - x.0)) y is in
      let after = and_then_some (λ after. attempts_made p kept id n (at.0, after)) (attempted at.0 id x.1) y at.2 in
      attempts_idle id n (at.0, after.0) y after.2 (attempt_idle x.1 at.0 id after.0 after.1 idle)

  rounds_idle : (id limit n : ℕ) (x y : ℕ × State) → renewed p kept id limit n x ≡ Some y → AreIdle x.1 → AreIdle y.1
  rounds_idle id limit zero x y is idle = subst (λ (z : ℕ × State). AreIdle z.1) (same_some x y is) idle
  rounds_idle id limit (suc n) x y is idle =
      let done = and_then_some (λ (done : ℕ × State). option_and_then (λ after. renewed p kept id limit n (done.0, after)) (requeued 0 id done.1)) (attempts_made p kept id limit x) y is in
      let after = and_then_some (λ after. renewed p kept id limit n (done.0.0, after)) (requeued 0 id done.0.1) y done.2 in
      rounds_idle id limit n (done.0.0, after.0) y after.2 (requeue_idle done.0.1 0 id after.0 after.1 (attempts_idle id limit x done.0 done.1 idle))

  replays_idle : (limit : ℕ) (ss : List Survivor) (moved : List Moved) (x : ℕ × State) (t : State) → all_replayed p kept limit ss moved x ≡ Some t → AreIdle x.1 → AreIdle t
  replays_idle limit [] moved x t is idle = subst AreIdle (same_some x.1 t is) idle
  replays_idle limit (s ∷ ss) [] x t is idle = absurd cc
  replays_idle limit (s ∷ ss) (m ∷ moved) x t is idle =
      let one = and_then_some (all_replayed p kept limit ss moved) (replayed p kept limit s m.new x) t is in
      let had = and_then_some (attempts_made p kept m.new (attempts_had s.status)) (renewed p kept m.new limit s.rounds x) one.0 one.1 in
      replays_idle limit ss moved one.0 t one.2 (attempts_idle m.new (attempts_had s.status) had.0 one.0 had.2 (rounds_idle m.new limit s.rounds x had.0 had.1 idle))

-- ---- all of it

pub start_idle : (l : Limits) → AreIdle (start l)
start_idle l c = go (range_with_len 0 l.parts) c
  where
    go : (xs : List ℕ) (c : ℕ) → (slice_index_or (map (fresh_pass l.rows) xs) c no_pass).holding ≡ None
    go [] c = refl
    go (x ∷ xs) zero = refl
    go (x ∷ xs) (suc c) = go xs c

pub unheld_idle : (l k : Limits) (p : ℕ) (ss : List Survivor) (moved : List Moved) (t : State) → made_unheld l p ss (start k) ≡ Some (moved, t) → AreIdle t
unheld_idle l k p ss moved t is =
    let s = start k in
    let y : List Moved × State = (moved, t) in
    let born = and_then_some (λ (born : List Moved × State). option_and_then (λ done. Some (born.0, done)) (all_replayed p (kept_for ss) s.limits.attempts ss born.0 (0, born.1))) (all_born l p ss s) y is in
    let done = and_then_some (λ (done : State). Some (born.0.0, done)) (all_replayed p (kept_for ss) s.limits.attempts ss born.0.0 (0, born.0.1)) y born.2 in
    let made : List Moved × State = (born.0.0, done.0) in
    subst (λ (z : List Moved × State). AreIdle z.1) (same_some made y done.2)
    (replays_idle p (kept_for ss) s.limits.attempts ss born.0.0 (0, born.0.1) done.0 done.1 (births_idle l p (length ss) ss [] _ born.0 born.1 (start_idle k)))
