-- Kills by one pass, one after another, after which all look together.
use Rattle.std.proofs.Common.{◌≡◌, ℕ, suc, ◌+◌, ◌<◌, All, None, Some, Result, Ok, Err, List, [], ◌∷◌, ◌++◌, length, map, take, drop, get_or, slice_set, refl, sym, ◌∙◌, ap, subst, inl, ⊎_elim, arith}
use Rattle.std.specs.List.{AllZip}
use Rattle.tp_model.specs.declared.types.Killed.{Killed as KilledAnswer}
use Rattle.tp_model.specs.declared.types.Limits.{Limits}
use Rattle.tp_model.specs.declared.types.Refusal.{Refusal}
use Rattle.tp_model.specs.declared.types.Refusal.TheVariants as refusals
use Rattle.tp_model.specs.declared.event.Event.{Event}
use Rattle.tp_model.specs.History.{In, element_of, here, status_of}
use Rattle.tp_model.specs.Passes.{IsPassView}
use Rattle.tp_model.proofs.Bridges.{begins_trans, in_cons, in_left, in_right}
use Rattle.tp_plain.specs.OneThread.{State}
use Rattle.tp_manager.specs.Accounts.{AreAll, Gathers}
use Rattle.tp_manager.specs.Bounds.{kill_steps}
use Rattle.tp_manager.specs.Calls.{KillFails}
use Rattle.tp_manager.specs.Shown.{IsKeptBy, IsOf, KeeperShown, ManagerShown, PassShown, view_in}
use Rattle.tp_rollover.specs.AloneLaws.{KillAnswers}
use Rattle.tp_rollover.specs.Middle.{Between, Goes, as_seen}
use Rattle.tp_rollover.specs.Thread.{Alone, AreTogether, Stays, thread_of}
use Rattle.tp_rollover.proofs.AloneIdle.{alone_idle}
use Rattle.tp_rollover.proofs.AloneKills.{alone_kill}
use Rattle.tp_rollover.proofs.AloneMiddles.{alone_middle, mids}
use Rattle.tp_rollover.proofs.AloneTurns.{first_alone}
use Rattle.tp_rollover.specs.Checks.{AscendFrom, IsNamed}
use Rattle.tp_rollover.specs.Closing.{AreMovedLiving, KillsAllMoved, KillsOne, KillsShort}
use Rattle.tp_rollover.specs.Finding.{StandsLiving}
use Rattle.tp_rollover.specs.Lone.{AreLone, lone}
use Rattle.tp_rollover.specs.Rolls.{kills}
use Rattle.tp_rollover.specs.Survivors.{IsLiving}
use Rattle.tp_rollover.specs.declared.moved.Moved.{Moved}
use Rattle.tp_rollover.proofs.Burying.{all_killed, buried, legal_apart, never_refused, not_first}
use Rattle.tp_rollover.proofs.Calling.{at_place, before_place}
use Rattle.tp_rollover.proofs.Running.{behind, goes_same, goes_trans}

-- ---- the run

-- what stands past the end of a list
abbrev pub nothing : Moved
nothing = record { old = 0; new = 0; old_root = 0; new_root = 0; holder = None }

-- one more is killed
pub one_killed : (l : Limits) (ms : List Moved) (m : Moved) (k : KilledAnswer) (old middle new : PassShown) → KillsAllMoved l ms old middle → KillsOne l m.old (Ok k) middle new → KillsAllMoved l (ms ++ m ∷ []) old new
one_killed l [] m k old middle new all last = (new, k, subst (λ p. KillsOne l m.old (Ok k) p new) all last, refl)
one_killed l (x ∷ ms) m k old middle new all last = (all.0, all.1, all.2, one_killed l ms m k all.0 middle new all.3 last)

-- ---- between its calls

same_blocks : (l : Limits) (id : ℕ) (old new : PassShown) (answer : Result KilledAnswer Refusal) → KillAnswers id l old new answer → new.blocks ≡ old.blocks
same_blocks l id old new (Ok k) says = says.run.2
same_blocks l id old new (Err why) says = fails why says
  where
    fails : (why : Refusal) → KillFails l id old new why → new.blocks ≡ old.blocks
    fails refusals.NoMemory f = absurd f
    fails refusals.BadLimits f = absurd f
    fails refusals.BadStage f = absurd f
    fails refusals.NotThere f = f.0.run.2
    fails (refusals.Consumed u) f = f.0.run.2
    fails refusals.AlreadyKilled f = f.0.run.2
    fails refusals.Full f = absurd f
    fails refusals.NotParked f = absurd f
    fails refusals.NoRound f = absurd f
    fails refusals.NotHeld f = absurd f
    fails refusals.NotWaiting f = absurd f
    fails refusals.NoUnit f = absurd f

goes : (l : Limits) (id : ℕ) (answer : Result KilledAnswer Refusal) (old new : PassShown) → KillsOne l id answer old new → Goes old new
goes l id answer old new call =
    let f = call.follows in
    let same = same_blocks l id old new answer call.says in
    record {
      number = f.number;
      sees = begins_trans old.seen _ new.seen f.opened f.closed;
      kept = λ b held. subst (In b) (sym same) held;
      later = λ b held. inl (subst (In b) same held);
      drawn = f.drawn;
    }

all_go : (l : Limits) (ms : List Moved) (old new : PassShown) → KillsAllMoved l ms old new → Goes old new
all_go l [] old new all = subst (Goes old) (sym all) (goes_same old)
all_go l (m ∷ ms) old new all = goes_trans old all.0 new (goes l m.old (Ok all.1) old all.0 all.2) (all_go l ms all.0 new all.3)

-- all could have looked together after these calls
record Middle (l : Limits) (keeper : KeeperShown) (c : ℕ) (ms : List Moved) (s : State) (new last : PassShown) (news : List PassShown) : Type 0 where
  passes : List PassShown
  seen : List Event
  front : List PassShown
  back : List PassShown
  are : passes ≡ front ++ new ∷ back
  place : length front ≡ c
  together : AreTogether l keeper passes seen
  others : AllZip Stays (front ++ last ∷ back) news
  killed : all_killed c ms s ≡ thread_of l passes seen

module _ (l : Limits) (keeper keeper' : KeeperShown) (news : List PassShown) (h' : List Event) (c : ℕ) (last : PassShown) (after : AreTogether l keeper' news h') where
  long_front : (m : List Event) (drawn : ℕ) (ps : List PassShown) → length (map (as_seen m drawn) ps) ≡ length ps
  long_front m drawn [] = refl
  long_front m drawn (p ∷ ps) = ap suc (long_front m drawn ps)

  middle : (ms : List Moved) (olds front back : List PassShown) (h : List Event) (old new : PassShown) → AreTogether l keeper olds h → olds ≡ front ++ old ∷ back → length front ≡ c
      → AllZip Stays (front ++ last ∷ back) news → KillsAllMoved l ms old new → Goes new last → Middle l keeper c ms (thread_of l olds h) new last news
  middle [] olds front back h old new before are place others all rest = record {
    passes = olds;
    seen = h;
    front = front;
    back = back;
    are = are ∙ ap (λ p. front ++ p ∷ back) (sym all);
    place = place;
    together = before;
    others = others;
    killed = refl;
  }
  middle (m ∷ ms) olds front back h old new before are place others all rest =
      let mid : PassShown = all.0 in
      let call = all.2 in
      let old_in : In old olds = subst (In old) (sym are) (in_right front here) in
      let knows = before.drawn.seen old old_in in
      let b : Between l keeper keeper' olds news h h' old mid last = record {
        before = before;
        front = front;
        back = back;
        olds_are = are;
        first = goes l m.old (Ok all.1) old mid call;
        shown = record { limits = call.limits; seen = refl; shows = subst (λ k. IsPassView k (view_in mid)) call.limits call.follows.shows };
        below = λ x held. (let e = before.drawn.inside old x old_in (subst (In x) (same_blocks l m.old old mid (Ok all.1) call.says) held) in let f = call.follows.drawn in omega (arith, e, f, knows));
        rest = goes_trans mid new last (all_go l ms mid new all.3) rest;
        others = others;
        after = after;
      } in
      let look = alone_middle l keeper keeper' olds news h h' old mid last b in
      let made = alone_kill m.old l keeper keeper olds (mids l keeper keeper' olds news h h' old mid last b) h mid.seen (kill_steps l) c old mid (Ok all.1)
      (first_alone l keeper keeper' olds news h h' old mid last b (kill_steps l) c place call.follows) call.turn call.says in
      let on = middle ms (mids l keeper keeper' olds news h h' old mid last b) (map (as_seen mid.seen mid.seen_blocks) front) (map (as_seen mid.seen mid.seen_blocks) back) mid.seen mid new
      look.0 refl (long_front mid.seen mid.seen_blocks front ∙ place) look.2 all.3 rest in
      record {
        passes = on.passes;
        seen = on.seen;
        front = on.front;
        back = on.back;
        are = on.are;
        place = on.place;
        together = on.together;
        others = on.others;
        killed = ap (λ (z : Result KilledAnswer Refusal × State). all_killed c ms z.1) (sym made) ∙ on.killed;
      }

-- ---- the gathering behind them

not_among : (low : ℕ) (xs : List Moved) (m : Moved) (ys : List Moved) → AscendFrom (λ m. m.old) low (xs ++ m ∷ ys) → ¬ IsNamed (λ m. m.old) m.old xs
not_among low [] m ys up named = elim named.1 [ ]
not_among low (x ∷ xs) m ys up named = ⊎_elim
    (λ same. not_first x (xs ++ m ∷ ys) m up.1 (in_right xs here) (sym named.2 ∙ ap (λ (z : Moved). z.old) same))
    (λ p. not_among (x.old + 1) xs m ys up.1 (named.0, p, named.2))
    (in_cons named.1)

front_up : (low : ℕ) (xs : List Moved) (m : Moved) (ys : List Moved) → AscendFrom (λ m. m.old) low (xs ++ m ∷ ys) → AscendFrom (λ m. m.old) low xs
front_up low [] m ys up = tt
front_up low (x ∷ xs) m ys up = (up.0, front_up (x.old + 1) xs m ys up.1)

module _ (m : ManagerShown) (keeper keeper' : KeeperShown) (olds news : List PassShown) (at : ℕ) (d new : PassShown) (q : ℕ)
    (is : AreLone m keeper olds) (less : at < length olds) (own : IsOf m new × (new.number ≡ (get_or olds at d).number))
    (gathers : Gathers m.limits q keeper keeper' (slice_set olds at new) news) (kept : IsKeptBy m keeper' × (keeper'.given ≡ keeper.given)) (owns : All (IsOf m) news) (all : AreAll keeper' news) where
  abbrev old : PassShown
  old = get_or olds at d

  together : AreTogether m.limits keeper' news keeper'.seen × AllZip Stays (take at olds ++ new ∷ drop (suc at) olds) news
  together = behind m keeper keeper' olds news at d new q is less own gathers kept owns all

  up_to : (ms : List Moved) (mid : PassShown) → KillsAllMoved m.limits ms old mid → Goes mid new → Middle m.limits keeper at ms (lone m keeper olds) mid new news
  up_to ms mid ran rest = middle m.limits keeper keeper' news keeper'.seen at new together.0 ms olds (take at olds) (drop (suc at) olds) keeper.seen old mid is.together (at_place olds at d less) (before_place olds at less) together.1 ran rest

  -- the history goes on by the kills
  pub all_buried : (ms : List Moved) → AreMovedLiving m.limits.attempts keeper.seen ms → KillsAllMoved m.limits ms old new → keeper'.seen ≡ keeper.seen ++ kills m.limits.attempts keeper.seen at ms
  all_buried ms live ran =
      let t = up_to ms new ran (goes_same new) in
      let idle = alone_idle m.limits keeper keeper' t.passes news t.seen keeper'.seen t.together (subst (λ ps. AllZip Stays ps news) (sym t.are) t.others) together.0 in
      let done = buried at 0 ms (lone m keeper olds) (legal_apart m.limits keeper.seen is.together.legal) live.once live.each in
      idle.0 ∙ (ap (λ (s : State). s.history) (sym t.killed) ∙ done.history)

  -- and none of them is refused
  pub none_refused : (ms : List Moved) → AreMovedLiving m.limits.attempts keeper.seen ms → KillsShort m.limits ms old new → ⊥
  none_refused ms live ran =
      let call = ran.refused in
      let t = up_to ran.done ran.middle ran.all (goes m.limits ran.next.old (Err ran.why) ran.middle new call) in
      let a : Alone m.limits keeper keeper' t.passes news t.seen keeper'.seen (kill_steps m.limits) at ran.middle new = record {
        before = t.together;
        front = t.front;
        back = t.back;
        olds_are = t.are;
        place = t.place;
        limits = own.0.1;
        follows = call.follows;
        others = t.others;
        after = together.0;
      } in
      let refused = alone_kill ran.next.old m.limits keeper keeper' t.passes news t.seen keeper'.seen (kill_steps m.limits) at ran.middle new (Err ran.why) a call.turn call.says in
      let up = subst (AscendFrom (λ m. m.old) 0) ran.moved_are live.once in
      let each : (x : Moved) → In x (ran.done ++ ran.next ∷ ran.rest) → StandsLiving m.limits.attempts x.old keeper.seen = λ x p. live.each x (subst (In x) (sym ran.moved_are) p) in
      let done = buried at 0 ran.done (lone m keeper olds) (legal_apart m.limits keeper.seen is.together.legal) (front_up 0 ran.done ran.next ran.rest up) (λ x p. each x (in_left (ran.next ∷ ran.rest) p)) in
      let first = each ran.next (in_right ran.done here) in
      let here_is : t.seen ≡ (all_killed at ran.done (lone m keeper olds)).history = ap (λ (s : State). s.history) (sym t.killed) in
      let same = done.others ran.next.old (not_among 0 ran.done ran.next ran.rest up) in
      never_refused (thread_of m.limits t.passes t.seen) at ran.next.old first.item
      (subst (λ g. element_of g ran.next.old ≡ Some first.item) (sym here_is) (done.born ran.next.old first.item first.born))
      (subst (λ g. IsLiving (status_of m.limits.attempts g ran.next.old)) (sym here_is) (subst IsLiving (sym same) first.living))
      ran.why (lone m keeper' news) refused
