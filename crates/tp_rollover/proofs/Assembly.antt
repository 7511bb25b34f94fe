-- The parts of a rollover put together.
use Rattle.std.proofs.Common.{◌≡◌, ℕ, suc, ◌+◌, ◌≤◌, None, Result, Ok, Err, IfOk, All, List, [], ◌∷◌, length, refl, sym, ◌∙◌, ap, subst, arith}
use Rattle.std.specs.List.{AllZip}
use Rattle.std.proofs.lemmas.List.Elements.{All-cons}
use Rattle.tp_model.specs.declared.types.Limits.{Limits}
use Rattle.tp_model.specs.declared.event.Event.{Event}
use Rattle.tp_model.specs.Counts.{counts}
use Rattle.tp_model.specs.History.{In, events_by, here, there}
use Rattle.tp_model.specs.Steps.{IsLegal}
use Rattle.tp_model.proofs.Later.{births_inside}
use Rattle.tp_manager.specs.Accounts.{AreAll, AreNumberedFrom, Gathers}
use Rattle.tp_manager.specs.Shown.{IsOf, KeeperShown, ManagerShown, PassShown, numbers}
use Rattle.tp_rollover.specs.Thread.{AreTogether, Stays}
use Rattle.tp_rollover.proofs.AloneApart.{zip_left}
use Rattle.tp_rollover.proofs.AloneGatherings.{gathered_together}
use Rattle.tp_rollover.proofs.AloneIdle.{alone_idle}
use Rattle.tp_rollover.specs.Answers.{IsHistoryOf, IsReadyToKill, Rolls}
use Rattle.tp_rollover.specs.Checks.{CountsOnly}
use Rattle.tp_rollover.specs.Closing.{AreMovedLiving, Buries}
use Rattle.tp_rollover.specs.Alike.{StandAlike, StandUnheld}
use Rattle.tp_rollover.specs.Finding.{AreSurvivorsOf, CountsAlive}
use Rattle.tp_rollover.specs.Rolls.{RollsOver}
use Rattle.tp_rollover.specs.Survivors.{AreSurvivors, StandAgain}
use Rattle.tp_rollover.specs.Told.{ToldFirst, seen_first}
use Rattle.tp_rollover.specs.declared.moved.Moved.{Moved}
use Rattle.tp_rollover.specs.declared.survivors.Survivor.{Survivor}
use Rattle.tp_rollover.proofs.Carrying.{are_holders, all_are_named, all_carried, carried_living, hands_go_on, stand_alive}
use Rattle.tp_rollover.proofs.Heads.{tail_all}
use Rattle.tp_rollover.proofs.Others.{only_named}
use Rattle.tp_rollover.proofs.Seen.{between, stays_trans}

pub stay_trans : (ps qs rs : List PassShown) → AllZip Stays ps qs → AllZip Stays qs rs → AllZip Stays ps rs
stay_trans [] [] rs a b = b
stay_trans [] (q ∷ qs) rs a b = absurd a
stay_trans (p ∷ ps) [] rs a b = absurd a
stay_trans (p ∷ ps) (q ∷ qs) [] a b = absurd b
stay_trans (p ∷ ps) (q ∷ qs) (r ∷ rs) a b = (stays_trans p q r a.0 b.0, stay_trans ps qs rs a.1 b.1)

-- passes that have gathered are together
pub all_in : {A : Type 0} (P : A → Type 0) (xs : List A) (x : A) → All P xs → In x xs → P x
all_in P [] x all q = elim q [ ]
all_in P (y ∷ xs) x all here = all 0 x (omega arith)
all_in P (y ∷ xs) x all (there q) = all_in P xs x (λ k d less. all (suc k) d (omega (arith, less))) q

pub gathered : (m : ManagerShown) (n : ℕ) (keeper keeper' : KeeperShown) (olds news : List PassShown)
    → Gathers m.limits n keeper keeper' olds news → AreAll keeper' news → keeper'.given ≡ keeper.given → All (IsOf m) news
    → AreTogether m.limits keeper' news keeper'.seen × AllZip Stays olds news
gathered m n keeper keeper' olds news g all given own = gathered_together m.limits n keeper keeper' olds news g all given (λ p q. (all_in (IsOf m) news p own q).1)

-- what the first has seen in between, where nothing has happened
first_between : (ps qs rs : List PassShown) → AllZip Stays ps qs → AllZip Stays qs rs → seen_first rs ≡ seen_first ps → seen_first qs ≡ seen_first ps
first_between [] [] rs a b e = refl
first_between [] (q ∷ qs) rs a b e = absurd a
first_between (p ∷ ps) [] rs a b e = absurd a
first_between (p ∷ ps) (q ∷ qs) [] a b e = absurd b
first_between (p ∷ ps) (q ∷ qs) (r ∷ rs) a b e = between p.seen q.seen r.seen a.0.sees b.0.sees e

first_is : (l : Limits) (keeper : KeeperShown) (ps : List PassShown) (h : List Event) → AreTogether l keeper ps h → 1 ≤ length ps → seen_first ps ≡ h
first_is l keeper [] h t some = absurd (omega (arith, some))
first_is l keeper (p ∷ ps) h t some = (t.each p here).seen

zip_some : (ps qs : List PassShown) → AllZip Stays ps qs → 1 ≤ length ps → 1 ≤ length qs
zip_some [] qs a some = absurd (omega (arith, some))
zip_some (p ∷ ps) [] a some = absurd a
zip_some (p ∷ ps) (q ∷ qs) a some = omega arith

pub nothing_happened : (l : Limits) (k k' : KeeperShown) (ps qs rs : List PassShown) (h h' : List Event) → AreTogether l k ps h → AllZip Stays ps qs → AllZip Stays qs rs → AreTogether l k' rs h' → 1 ≤ length ps
    → (h' ≡ h) × (seen_first ps ≡ h) × (seen_first qs ≡ seen_first ps)
nothing_happened l k k' ps qs rs h h' before a b after some =
    let all = stay_trans ps qs rs a b in
    let same : h' ≡ h = (alone_idle l k k' ps rs h h' before all after).0 in
    let at : seen_first ps ≡ h = first_is l k ps h before some in
    let end : seen_first rs ≡ h' = first_is l k' rs h' after (zip_some ps rs all some) in
    (same, at, first_between ps qs rs a b (end ∙ (same ∙ sym at)))

-- what was alive, what stands again, and the kills, make a rollover
pub rolled : (l k : Limits) (h h' g : List Event) (survivors : List Survivor) (moved : List Moved) → k.attempts ≡ l.attempts → IsLegal l h' → IsLegal k g → AreSurvivors l h survivors → StandAgain k g survivors moved → Buries l.attempts 0 h h' moved
    → RollsOver l k 0 h h' g moved
rolled l k h h' g survivors moved limit legal' new_legal found again buries = record {
  legal = (legal', new_legal);
  limit = limit;
  carried = all_carried l k h g survivors moved found again;
  each = all_are_named l k h g survivors moved found again.each;
  once = again.once;
  families = again.families;
  rest = λ y born. again.rest y born (births_inside k g new_legal y born);
  given_up = buries.given_up;
  own = buries.own;
  killed = buries.killed;
}

-- what stands again was alive
pub all_living : (l k : Limits) (h g : List Event) (survivors : List Survivor) (moved : List Moved) → AreSurvivors l h survivors → StandAgain k g survivors moved → AreMovedLiving l.attempts h moved
all_living l k h g survivors moved found again = record { each = λ m p. carried_living l k h g m (all_carried l k h g survivors moved found again m p); once = again.once.0 }

-- the history that the old passes had made
pub history_of : (l : Limits) (keeper : KeeperShown) (olds news : List PassShown) (h : List Event) (end : KeeperShown) → AreTogether l keeper news h → AllZip Stays olds news → end.given ≡ keeper.given → IsHistoryOf end olds h
history_of l keeper olds news h end together stay given = record {
  own = λ p q. let t = zip_left Stays olds news p stay q in
      let is = together.each t.0 t.1 in
      ap (λ c. events_by c h) (sym t.2.number) ∙ (ap (events_by t.0.number) (sym is.seen) ∙ (sym is.shows.own ∙ t.2.quiet.mine));
  others = λ c low. together.others c (subst (λ n. n ≤ c) given low);
}

-- all passes, with the same numbers

head_same : (a b : ℕ) (xs ys : List ℕ) → a ∷ xs ≡ b ∷ ys → a ≡ b
head_same a b xs ys e = cc

tail_same : (a b : ℕ) (xs ys : List ℕ) → a ∷ xs ≡ b ∷ ys → xs ≡ ys
tail_same a b xs ys e = cc

from_numbers : (c : ℕ) (ps qs : List PassShown) → numbers qs ≡ numbers ps → AreNumberedFrom c ps → AreNumberedFrom c qs
from_numbers c [] [] same all = tt
from_numbers c [] (q ∷ qs) same all = absurd cc
from_numbers c (p ∷ ps) [] same all = absurd cc
from_numbers c (p ∷ ps) (q ∷ qs) same all = (head_same q.number p.number (numbers qs) (numbers ps) same ∙ all.0, from_numbers (c + 1) ps qs (tail_same q.number p.number (numbers qs) (numbers ps) same) all.1)

map_long : (ps : List PassShown) → length (numbers ps) ≡ length ps
map_long [] = refl
map_long (p ∷ ps) = ap suc (map_long ps)

long_numbers : (ps qs : List PassShown) → numbers qs ≡ numbers ps → length qs ≡ length ps
long_numbers ps qs same = sym (map_long qs) ∙ (ap length same ∙ map_long ps)

pub all_numbers : (keeper keeper' : KeeperShown) (ps qs : List PassShown) → keeper'.given ≡ keeper.given → numbers qs ≡ numbers ps → AreAll keeper ps → AreAll keeper' qs
all_numbers keeper keeper' ps qs given same all = (long_numbers ps qs same ∙ (all.0 ∙ sym given), from_numbers 0 ps qs same all.1)

pub stays_numbers : (ps qs : List PassShown) → AllZip Stays ps qs → numbers qs ≡ numbers ps
stays_numbers [] [] zip = refl
stays_numbers [] (q ∷ qs) zip = absurd zip
stays_numbers (p ∷ ps) [] zip = absurd zip
stays_numbers (p ∷ ps) (q ∷ qs) zip = let a = zip.0.number in let b = stays_numbers ps qs zip.1 in cc

pub free_stays : (ps qs : List PassShown) → AllZip Stays ps qs → All (λ p. p.open_unit ≡ None) ps → All (λ p. p.open_unit ≡ None) qs
free_stays [] [] zip free = free
free_stays [] (q ∷ qs) zip free = absurd zip
free_stays (p ∷ ps) [] zip free = absurd zip
free_stays (p ∷ ps) (q ∷ qs) zip free = All-cons (λ (z : PassShown). z.open_unit ≡ None) q qs (zip.0.quiet.open_unit ∙ free 0 p (omega arith)) (free_stays ps qs zip.1 (tail_all (λ (z : PassShown). z.open_unit ≡ None) p ps free))

-- an account, looks by the first pass, and a gathering
module _ (m : ManagerShown) (a c : ℕ) (k0 k1 k2 : KeeperShown) (ps0 ps1 ps2 ps3 : List PassShown) where
  pub looked_between : Gathers m.limits a k0 k1 ps0 ps1 → AreAll k1 ps1 → k1.given ≡ k0.given → All (IsOf m) ps1 → AllZip Stays ps1 ps2 → 1 ≤ length ps1
      → Gathers m.limits c k1 k2 ps2 ps3 → AreAll k2 ps3 → k2.given ≡ k1.given → All (IsOf m) ps3
      → (k2.seen ≡ k1.seen) × (seen_first ps1 ≡ k2.seen) × (seen_first ps2 ≡ seen_first ps1) × IsHistoryOf k2 ps0 k2.seen × AreTogether m.limits k2 ps3 k2.seen
  looked_between g1 all1 given1 own1 stay some g2 all2 given2 own2 =
      let t1 = gathered m a k0 k1 ps0 ps1 g1 all1 given1 own1 in
      let t2 = gathered m c k1 k2 ps2 ps3 g2 all2 given2 own2 in
      let same = nothing_happened m.limits k1 k2 ps1 ps2 ps3 k1.seen k2.seen t1.0 stay t2.1 t2.0 some in
      (same.0, same.1 ∙ sym same.0, same.2, history_of m.limits k1 ps0 ps1 k2.seen k2 (subst (AreTogether m.limits k1 ps1) (sym same.0) t1.0) t1.1 given2, t2.0)

module _ (m : ManagerShown) (n a c : ℕ) (k0 k1 k2 : KeeperShown) (ps0 ps1 ps2 ps3 : List PassShown) (survivors : List Survivor) where
  pub surveyed : Gathers m.limits a k0 k1 ps0 ps1 → AreAll k1 ps1 → k1.given ≡ k0.given → All (IsOf m) ps1
      → AllZip Stays ps1 ps2 → ToldFirst ps1 ps2 (λ h. AreSurvivorsOf m.limits n h survivors) → CountsAlive n (counts m.limits.attempts k1.seen) → 1 ≤ length ps1
      → Gathers m.limits c k1 k2 ps2 ps3 → AreAll k2 ps3 → k2.given ≡ k1.given → All (IsOf m) ps3
      → AreSurvivors m.limits k2.seen survivors
  surveyed g1 all1 given1 own1 stay told counted some g2 all2 given2 own2 =
      let t = looked_between m a c k0 k1 k2 ps0 ps1 ps2 ps3 g1 all1 given1 own1 stay some g2 all2 given2 own2 in
      subst (λ h. AreSurvivorsOf m.limits n h survivors) t.1 (told t.2) t.4.legal (subst (λ z. CountsAlive n (counts m.limits.attempts z)) (sym t.0) counted)

-- the same of the manager in which they stand again
module _ (m : ManagerShown) (a c : ℕ) (k0 k1 k2 : KeeperShown) (ps0 ps1 ps2 ps3 : List PassShown) (survivors : List Survivor) (moved : List Moved) where
  pub restored : Gathers m.limits a k0 k1 ps0 ps1 → AreAll k1 ps1 → k1.given ≡ k0.given → All (IsOf m) ps1 → CountsOnly (length moved) (counts m.limits.attempts k1.seen)
      → AllZip Stays ps1 ps2 → ToldFirst ps1 ps2 (λ g. StandAlike m.limits.attempts g survivors moved) → 1 ≤ length ps1
      → Gathers m.limits c k1 k2 ps2 ps3 → AreAll k2 ps3 → k2.given ≡ k1.given → All (IsOf m) ps3
      → StandUnheld m.limits k2.seen survivors moved × AreTogether m.limits k2 ps3 k2.seen
  restored g1 all1 given1 own1 counted stay told some g2 all2 given2 own2 =
      let t1 = gathered m a k0 k1 ps0 ps1 g1 all1 given1 own1 in
      let t2 = gathered m c k1 k2 ps2 ps3 g2 all2 given2 own2 in
      let same = nothing_happened m.limits k1 k2 ps1 ps2 ps3 k1.seen k2.seen t1.0 stay t2.1 t2.0 some in
      let stand = subst (λ g. StandAlike m.limits.attempts g survivors moved) (same.1 ∙ sym same.0) (told same.2) in
      let counts_so : CountsOnly (length moved) (counts m.limits.attempts k2.seen) = subst (λ z. CountsOnly (length moved) (counts m.limits.attempts z)) (sym same.0) counted in (
        record {
          each = stand.each;
          once = stand.once;
          families = stand.families;
          rest = only_named m.limits k2.seen moved t2.0.legal stand.once (stand_alive m.limits.attempts k2.seen survivors moved stand.each) counts_so;
        },
        t2.0,
      )

-- with the kills
pub rolls : (l k : Limits) (ok2 ok3 nk2 : KeeperShown) (olds0 olds2 olds3 news : List PassShown) (moved : List Moved) → k.attempts ≡ l.attempts → IsReadyToKill l k ok2 nk2 olds0 olds2 news moved
    → AreTogether l ok3 olds3 ok3.seen → ok3.given ≡ ok2.given → Buries l.attempts 0 ok2.seen ok3.seen moved → Rolls l k ok3 nk2 olds0 olds3 news moved
rolls l k ok2 ok3 nk2 olds0 olds2 olds3 news moved limit r together given buries = record {
  before = ok2.seen;
  history = record { own = r.history.own; others = λ d low. r.history.others d (subst (λ n. n ≤ d) given low) };
  over = rolled l k ok2.seen ok3.seen nk2.seen r.survivors moved limit together.legal r.new_together.legal r.found r.again buries;
  hands = hands_go_on l k ok2.seen nk2.seen olds0 news r.survivors moved r.found r.again r.in_hand r.hands;
  holders = are_holders k nk2.seen news r.survivors moved r.again.each r.hands;
  old_together = together;
  new_together = r.new_together;
}

-- one clause of a call that was answered comes of another
pub if_ok : {A E : Type 0} (r : Result A E) (P Q : A → Type 0) → ((x : A) → P x → Q x) → IfOk r P → IfOk r Q
if_ok (Ok x) P Q then is = then x is
if_ok (Err e) P Q then is = is
