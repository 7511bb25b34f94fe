-- What is computed of what was found alive stands as it was.
use Rattle.std.proofs.Common.{◌≡◌, ◌⊎◌, ℕ, ◌+◌, ◌≤◌, cond, Bool, true, Option, Some, None, List, [], ◌∷◌, length, map, inl, inr, ⊎_elim, refl, sym, ◌∙◌, ap, subst, arith, ◌<◌}
use Rattle.std.proofs.lemmas.List.Sums.{sum_by-cons}
use Rattle.std.specs.List.{AllZip, count_by}
use Rattle.std.specs.Option.{option_and_then}
use Rattle.tp_model.specs.Counts.{counts, is_consumed, is_held, is_killed, is_parked, is_waiting}
use Rattle.tp_model.specs.declared.types.Element.{Element}
use Rattle.tp_model.specs.declared.types.Limits.{Limits}
use Rattle.tp_model.specs.declared.types.Status.{Status}
use Rattle.tp_model.specs.declared.types.Status.TheVariants.{Waiting, Held, Consumed, Parked, Killed}
use Rattle.tp_model.specs.declared.event.Event.{Event}
use Rattle.tp_model.specs.History.{In, IsBorn, element_of, here, status_of, there}
use Rattle.tp_model.specs.Steps.{AreLimits, IsKillable, IsLegal}
use Rattle.tp_model.proofs.Bridges.{in_none}
use Rattle.tp_plain.specs.OneThread.{State, start}
use Rattle.tp_rollover.specs.Alike.{StandAlike, StandsUnheld}
use Rattle.tp_rollover.specs.Anew.{all_born, all_held, all_replayed, kept_for, made_anew, made_unheld}
use Rattle.tp_rollover.specs.Carries.{DiffersAnew, IsMadeAlike, IsUncomputed}
use Rattle.tp_rollover.specs.Checks.{AscendFrom, CountsOnly, IsNamed}
use Rattle.tp_rollover.specs.Fits.{AreFit}
use Rattle.tp_rollover.specs.Holds.{status_in}
use Rattle.tp_rollover.specs.Laws.{ComputedIsAlike, ComputedIsHeld, ComputedStands}
use Rattle.tp_rollover.specs.Survivors.{AreSurvivors, Ascending}
use Rattle.tp_rollover.specs.declared.moved.Moved.{Moved}
use Rattle.tp_rollover.specs.declared.survivors.Survivor.{Survivor}
use Rattle.tp_rollover.proofs.Bearing.{Bears, IsBornAs, zip_named}
use Rattle.tp_rollover.proofs.Birthing.{AllBorn, all_born_so}
use Rattle.tp_rollover.proofs.FoundSound.{found_sound}
use Rattle.tp_rollover.proofs.Climbing.{HasKept}
use Rattle.tp_rollover.proofs.HeldAll.{AreHeldOnce, CanHold, all_goes, is_kept}
use Rattle.tp_rollover.proofs.Idling.{and_then_some, same_some}
use Rattle.tp_rollover.proofs.Sound.{AreSound, IsAtRest}
use Rattle.tp_rollover.proofs.Tallies.{alive_one, counted, none_counted, one_if}
use Rattle.tp_rollover.proofs.Trying.{AllReplay, IsAsWas, IsNew, all_replay}

killable_at_rest : (limit : ℕ) (s : Status) → IsAtRest limit s → IsKillable s
killable_at_rest limit (Waiting n) a = tt
killable_at_rest limit (Held u n) a = absurd a
killable_at_rest limit (Consumed u) a = absurd a
killable_at_rest limit (Parked n) a = tt
killable_at_rest limit Killed a = absurd a

-- ---- what is counted where each that is named can be killed, and all else is consumed

not_held : (s : Status) → IsKillable s → one_if (is_held s) ≡ 0
not_held (Waiting n) a = refl
not_held (Held u n) a = absurd a
not_held (Consumed u) a = refl
not_held (Parked n) a = refl
not_held Killed a = refl

not_killed : (s : Status) → IsKillable s → one_if (is_killed s) ≡ 0
not_killed (Waiting n) a = refl
not_killed (Held u n) a = refl
not_killed (Consumed u) a = refl
not_killed (Parked n) a = refl
not_killed Killed a = absurd a

-- what is consumed is nothing else
abbrev IsApart : (Status → Bool) → Type 0
IsApart test = (s : Status) → is_consumed s ≡ true → test s ≡ true → ⊥

waiting_apart : IsApart is_waiting
waiting_apart (Waiting n) a b = cc
waiting_apart (Held u n) a b = cc
waiting_apart (Consumed u) a b = cc
waiting_apart (Parked n) a b = cc
waiting_apart Killed a b = cc

parked_apart : IsApart is_parked
parked_apart (Waiting n) a b = cc
parked_apart (Held u n) a b = cc
parked_apart (Consumed u) a b = cc
parked_apart (Parked n) a b = cc
parked_apart Killed a b = cc

held_apart : IsApart is_held
held_apart (Waiting n) a b = cc
held_apart (Held u n) a b = cc
held_apart (Consumed u) a b = cc
held_apart (Parked n) a b = cc
held_apart Killed a b = cc

killed_apart : IsApart is_killed
killed_apart (Waiting n) a b = cc
killed_apart (Held u n) a b = cc
killed_apart (Consumed u) a b = cc
killed_apart (Parked n) a b = cc
killed_apart Killed a b = cc

all_counted : (status : Moved → Status) (ms : List Moved) → ((m : Moved) → In m ms → IsKillable (status m)) → count_by (λ m. is_waiting (status m)) ms + count_by (λ m. is_parked (status m)) ms ≡ length ms
all_counted status [] alive = refl
all_counted status (m ∷ ms) alive =
    let first = alive_one (status m) (alive m here) in
    let rest = all_counted status ms (λ q p. alive q (there p)) in
    let a = sum_by-cons (λ (q : Moved). cond (is_waiting (status q)) 1 0) m ms in
    let b = sum_by-cons (λ (q : Moved). cond (is_parked (status q)) 1 0) m ms in
    omega arith

module _ (k : Limits) (h : List Event) (legal : IsLegal k h) (ms : List Moved) (up : AscendFrom (λ m. m.new) 0 ms) (born : (m : Moved) → In m ms → (x : Element) × (element_of h m.new ≡ Some x))
    (alive : (m : Moved) → In m ms → IsKillable (status_of k.attempts h m.new)) (only : (y : Element) → IsBorn h y → IsNamed (λ m. m.new) y.id ms ⊎ (is_consumed (status_of k.attempts h y.id) ≡ true)) where
  named_of : (test : Status → Bool) → IsApart test → (y : Element) → IsBorn h y → test (status_of k.attempts h y.id) ≡ true → IsNamed (λ m. m.new) y.id ms
  named_of test apart y is yes' = ⊎_elim (λ named. named) (λ used. absurd (apart (status_of k.attempts h y.id) used yes')) (only y is)

  counts_only : CountsOnly (length ms) (counts k.attempts h)
  counts_only =
      let w = counted k h legal (λ m. m.new) ms up born is_waiting (named_of is_waiting waiting_apart) in
      let q = counted k h legal (λ m. m.new) ms up born is_parked (named_of is_parked parked_apart) in
      let all = all_counted (λ m. status_of k.attempts h m.new) ms alive in
      record {
        alive = omega (arith, w, q, all);
        held = counted k h legal (λ m. m.new) ms up born is_held (named_of is_held held_apart) ∙ none_counted (λ m. cond (is_held (status_of k.attempts h m.new)) 1 0) ms (λ m p. not_held (status_of k.attempts h m.new) (alive m p));
        killed = counted k h legal (λ m. m.new) ms up born is_killed (named_of is_killed killed_apart) ∙ none_counted (λ m. cond (is_killed (status_of k.attempts h m.new)) 1 0) ms (λ m p. not_killed (status_of k.attempts h m.new) (alive m p));
      }

-- ---- what is born, and then given its attempts and rounds

news : (s : State) (xs : List Survivor) (ms : List Moved) → AllZip (IsBornAs s) xs ms → AllZip (IsNew s) xs ms
news s [] [] all = tt
news s [] (m ∷ ms) all = absurd all
news s (x ∷ xs) [] all = absurd all
news s (x ∷ xs) (m ∷ ms) all = ((all.0.waits, all.0.no_rounds), news s xs ms all.1)

olds_up : (s : State) (low : ℕ) (xs : List Survivor) (ms : List Moved) → Ascending low (map (λ (x : Survivor). x.id) xs) → AllZip (IsBornAs s) xs ms → AscendFrom (λ m. m.old) low ms
olds_up s low [] [] up all = tt
olds_up s low [] (m ∷ ms) up all = absurd all
olds_up s low (x ∷ xs) [] up all = absurd all
olds_up s low (x ∷ xs) (m ∷ ms) up all =
    let same = all.0.named.0 in
    let first = up.0 in
    (omega (arith, same, first), olds_up s (m.old + 1) xs ms (subst (λ n. Ascending (n + 1) (map (λ (x : Survivor). x.id) xs)) (sym same) up.1) all.1)

module _ (l k : Limits) (s t : State) (survivors : List Survivor) (moved : List Moved) (sound : AreSound l k.attempts survivors) (each : AllZip (IsBornAs s) survivors moved) (replay : AllReplay (kept_for survivors) s t survivors moved) (limits : t.limits ≡ k) where
  stand_each : (xs : List Survivor) (ms : List Moved) → ((x : Survivor) → In x xs → In x survivors) → AllZip (IsBornAs s) xs ms → AllZip (IsAsWas t) xs ms → AllZip (StandsUnheld k.attempts t.history) xs ms
  stand_each [] [] within all was = tt
  stand_each [] (m ∷ ms) within all was = absurd all
  stand_each (x ∷ xs) [] within all was = absurd all
  stand_each (x ∷ xs) (m ∷ ms) within all was = (
    record {
      named = all.0.named;
      holder = all.0.holder;
      item = all.0.item;
      born = replay.elements m.new ∙ all.0.born;
      root = all.0.root;
      stage = all.0.stage;
      body = all.0.body;
      status = ap (λ (z : Limits). status_of z.attempts t.history m.new) (sym limits) ∙ was.0.0;
      alive = killable_at_rest k.attempts x.status (sound.rests x (within x here));
      rounds_are = was.0.1;
      request = all.0.began.request;
      began = replay.elements m.new_root ∙ all.0.began.began;
      by_client = all.0.began.by_client;
      root_stage = all.0.began.stage;
      root_body = all.0.began.body;
      itself = all.0.itself;
    },
    stand_each xs ms (λ y q. within y (there q)) all.1 was.1,
  )

  stand_all : AllZip (StandsUnheld k.attempts t.history) survivors moved
  stand_all = stand_each survivors moved (λ x q. q) each replay.each

zip_stands : (limit : ℕ) (h : List Event) (xs : List Survivor) (ms : List Moved) (m : Moved) → AllZip (StandsUnheld limit h) xs ms → In m ms → (x : Survivor) × StandsUnheld limit h x m
zip_stands limit h [] [] m all q = absurd (in_none q)
zip_stands limit h [] (n ∷ ms) m all q = absurd all
zip_stands limit h (x ∷ xs) [] m all q = absurd all
zip_stands limit h (x ∷ xs) (n ∷ ms) m all here = (x, all.0)
zip_stands limit h (x ∷ xs) (n ∷ ms) m all (there q) = zip_stands limit h xs ms m all.1 q

module _ (l k : Limits) (p : ℕ) (survivors : List Survivor) (sound : AreSound l k.attempts survivors) (are : AreLimits k) (many : p ≤ k.parts) where
  -- no two of them are held by one pass
  id_above : (low : ℕ) (xs : List Survivor) (y : Survivor) → Ascending low (map (λ (x : Survivor). x.id) xs) → In y xs → low ≤ y.id
  id_above low [] y up q = absurd (in_none q)
  id_above low (x ∷ xs) y up here = up.0
  id_above low (x ∷ xs) y up (there q) = let a = id_above (x.id + 1) xs y up.1 q in let u = up.0 in omega (arith, a, u)

  held_once : (low : ℕ) (xs : List Survivor) → Ascending low (map (λ (x : Survivor). x.id) xs) → ((x : Survivor) → In x xs → In x survivors) → AreHeldOnce xs
  held_once low [] up within = tt
  held_once low (x ∷ xs) up within = (
    λ y q c is is'. (let same = sound.once x y (within x here) (within y (there q)) c is is' in let above = id_above (x.id + 1) xs y up.1 q in omega (arith, same, above)),
    held_once (x.id + 1) xs up.1 (λ y q. within y (there q)),
  )

  abbrev Stands : List Moved × State → Type 0
  Stands y = StandAlike k.attempts y.1.history survivors y.0 × CountsOnly (length y.0) (counts k.attempts y.1.history)

  module _ (y : List Moved × State) (t : State) (born : AllBorn p k survivors y) (done : all_replayed p (kept_for survivors) k.attempts survivors y.0 (0, y.1) ≡ Some t) where
    b : Bears p k born.carriers survivors [] y.0 y.1 born.cursor
    b = born.bears

    replay : AllReplay (kept_for survivors) y.1 t survivors y.0
    replay =
        let parts = ap (λ (z : Limits). z.parts) born.bears.limits in
        all_replay p (kept_for survivors) k.attempts survivors y.0 0 (0, y.1) t done born.bears.reached born.bears.idle (omega (arith, many, parts)) (ap (λ (z : Limits). z.attempts) (sym born.bears.limits)) sound.rests born.bears.up (news y.1 survivors y.0 born.bears.each)

    limits : t.limits ≡ k
    limits = replay.limits ∙ born.bears.limits

    stands : AllZip (StandsUnheld k.attempts t.history) survivors y.0
    stands = stand_all l k y.1 t survivors y.0 sound born.bears.each replay limits

    used_still : (z : Element) → is_consumed (status_in y.1 z.id) ≡ true → is_consumed (status_of k.attempts t.history z.id) ≡ true
    used_still z used =
        let unnamed : ¬ IsNamed (λ m. m.new) z.id y.0 = λ named.
        (let w = zip_named y.1 survivors y.0 named.0 born.bears.each named.1 in
        let st = ap (status_in y.1) (sym named.2) ∙ w.2.waits in let q = sym used ∙ ap is_consumed st in cc) in
        ap (λ (n : Limits). is_consumed (status_of n.attempts t.history z.id)) (sym limits) ∙ (ap is_consumed (replay.others z.id unnamed).0 ∙ used)

    only : (z : Element) → IsBorn t.history z → IsNamed (λ m. m.new) z.id y.0 ⊎ (is_consumed (status_of k.attempts t.history z.id) ≡ true)
    only z is = ⊎_elim (λ named. inl named) (⊎_elim (λ used. inr (used_still z used)) (λ w. absurd (in_none w.1))) (born.bears.only z (sym (replay.elements z.id) ∙ is))

    replayed_so : Stands (y.0, t)
    replayed_so = (
      record { each = stands; once = (olds_up y.1 0 survivors y.0 sound.up born.bears.each, born.bears.up); families = born.bears.families },
      counts_only k t.history (subst (λ (z : Limits). IsLegal z t.history) limits replay.reached.legal) y.0 born.bears.up
          (λ m q. (let z = zip_stands k.attempts t.history survivors y.0 m stands q in (z.1.item, z.1.born)))
          (λ m q. (let z = zip_stands k.attempts t.history survivors y.0 m stands q in subst IsKillable (sym z.1.status) z.1.alive)) only,
    )

    -- and what is to be held can be
    can_hold : ((x : Survivor) → In x survivors → (c : ℕ) → x.holder ≡ Some c → c < p) → (xs : List Survivor) (ms : List Moved) → ((x : Survivor) → In x xs → In x survivors) → AllZip (StandsUnheld k.attempts t.history) xs ms → AllZip (CanHold p t) xs ms
    can_hold inside [] [] within all = tt
    can_hold inside [] (m ∷ ms) within all = absurd all
    can_hold inside (x ∷ xs) [] within all = absurd all
    can_hold inside (x ∷ xs) (m ∷ ms) within all = (
      λ c is. (let held = sound.held x (within x here) c is in
          let less = inside x (within x here) c is in
          let few = are.parts.1 in
          record {
            one_of = less;
            free = replay.idle c;
            unit = replay.keeps (subst (λ ks. HasKept ks y.1) born.kept_is born.bears.keeps) c (is_kept survivors x c (within x here) is (omega (arith, less, many, few)));
            tries = held.0.0;
            waits = ap (λ (z : Limits). status_of z.attempts t.history m.new) limits ∙ (all.0.status ∙ held.0.1);
            item = all.0.item;
            born = all.0.born;
            served = λ reply. held.1 (sym all.0.stage ∙ reply);
          }),
      can_hold inside xs ms (λ z q. within z (there q)) all.1,
    )

    held_so : ((x : Survivor) → In x survivors → (c : ℕ) → x.holder ≡ Some c → c < p) → (after : State) × (all_held p survivors y.0 t ≡ Some after)
    held_so inside = all_goes p survivors y.0 t 0 born.bears.up (held_once 0 survivors sound.up (λ x q. q)) (can_hold inside survivors y.0 (λ x q. q) stands)

  unheld_so : (made : List Moved × State) → made_unheld l p survivors (start k) ≡ Some made → Stands made
  unheld_so made is =
      let born = and_then_some (λ (born : List Moved × State). option_and_then (λ done. Some (born.0, done)) (all_replayed p (kept_for survivors) k.attempts survivors born.0 (0, born.1))) (all_born l p survivors (start k)) made is in
      let done = and_then_some (λ (done : State). Some (born.0.0, done)) (all_replayed p (kept_for survivors) k.attempts survivors born.0.0 (0, born.0.1)) made born.2 in
      let at : List Moved × State = (born.0.0, done.0) in
      subst Stands (same_some at made done.2) (replayed_so born.0 done.0 (all_born_so l p k survivors sound many are born.0 born.1) done.1)

  made_held_so : (made : List Moved × State) → made_unheld l p survivors (start k) ≡ Some made → ((x : Survivor) → In x survivors → (c : ℕ) → x.holder ≡ Some c → c < p) → (after : State) × (all_held p survivors made.0 made.1 ≡ Some after)
  made_held_so made is inside =
      let born = and_then_some (λ (born : List Moved × State). option_and_then (λ done. Some (born.0, done)) (all_replayed p (kept_for survivors) k.attempts survivors born.0 (0, born.1))) (all_born l p survivors (start k)) made is in
      let done = and_then_some (λ (done : State). Some (born.0.0, done)) (all_replayed p (kept_for survivors) k.attempts survivors born.0.0 (0, born.0.1)) made born.2 in
      let at : List Moved × State = (born.0.0, done.0) in
      subst (λ (z : List Moved × State). (after : State) × (all_held p survivors z.0 z.1 ≡ Some after)) (same_some at made done.2)
      (held_so born.0 done.0 (all_born_so l p k survivors sound many are born.0 born.1) done.1 inside)

  anew_so : (made : List Moved × State) → made_anew l p survivors (start k) ≡ Some made → IsMadeAlike l p survivors (start k)
  anew_so made is =
      let unheld = and_then_some (λ (x : List Moved × State). option_and_then (λ done. Some (x.0, done)) (all_held p survivors x.0 x.1)) (made_unheld l p survivors (start k)) made is in
      let held = and_then_some (λ (done : State). Some (unheld.0.0, done)) (all_held p survivors unheld.0.0 unheld.0.1) made unheld.2 in
      let so = unheld_so unheld.0 unheld.1 in
      record { moved = unheld.0.0; unheld = unheld.0.1; made = unheld.1; alike = so.0; only = so.1; after = held.0; held = held.1 }

pub computed_stands : ComputedStands
computed_stands l m k h p survivors moved t are same many legal found fit made =
    let some = are.attempts.0 in
    unheld_so m k p survivors (found_sound l k h (omega arith) same legal m survivors found fit) are many (moved, t) made

pub computed_is_alike : ComputedIsAlike
computed_is_alike l m k h p survivors made are same many legal found fit is =
    let some = are.attempts.0 in
    anew_so m k p survivors (found_sound l k h (omega arith) same legal m survivors found fit) are many made is

pub computed_is_held : ComputedIsHeld
computed_is_held l m k h p survivors moved t are same many legal found fit inside made =
    let some = are.attempts.0 in
    made_held_so m k p survivors (found_sound l k h (omega arith) same legal m survivors found fit) are many (moved, t) made inside

-- so nothing is computed where it differs
pub none_computed : (l m k : Limits) (h : List Event) (p : ℕ) (survivors : List Survivor) → AreLimits k → k.attempts ≡ l.attempts → p ≤ k.parts → IsLegal l h → AreSurvivors l h survivors → AreFit m k survivors
    → ¬ IsMadeAlike m p survivors (start k) → made_anew m p survivors (start k) ≡ None
none_computed l m k h p survivors are same many legal found fit differs = go (made_anew m p survivors (start k)) refl
  where
    go : (o : Option (List Moved × State)) → made_anew m p survivors (start k) ≡ o → o ≡ None
    go None is = refl
    go (Some made) is = absurd (differs (computed_is_alike l m k h p survivors made are same many legal found fit is))

pub uncomputed : (k : Limits) (p : ℕ) (survivors : List Survivor) → p ≤ k.parts → DiffersAnew k p survivors (start k) → AreLimits k → IsUncomputed k p survivors (start k)
uncomputed k p survivors many differs are l h same legal found fit = none_computed l k k h p survivors are same many legal found fit (differs fit)
