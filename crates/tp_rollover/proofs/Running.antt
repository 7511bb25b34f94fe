-- Requests that one pass submits one after another, after which all look together.
use Rattle.std.proofs.Common.{◌≡◌, ◌⊎◌, ℕ, suc, ◌+◌, ◌*◌, ◌<◌, ◌≤◌, All, Option, None, Some, Result, Ok, Err, List, [], ◌∷◌, ◌++◌, length, map, take, drop, get_or, slice_set, refl, sym, ◌∙◌, ap, subst, inl, inr, ⊎_elim, append_assoc, arith, length-append}
use Rattle.std.proofs.lemmas.List.{append-nil}
use Rattle.std.specs.List.{AllZip}
use Rattle.std.specs.Option.{option_and_then}
use Rattle.tp_model.specs.declared.types.Limits.{Limits}
use Rattle.tp_model.specs.declared.types.Refusal.{Refusal}
use Rattle.tp_model.specs.declared.event.Event.{Event}
use Rattle.tp_model.specs.History.{In, here}
use Rattle.tp_model.specs.Passes.{IsPassView}
use Rattle.tp_model.proofs.Bridges.{begins_trans, in_either, in_left, in_one, in_right}
use Rattle.tp_plain.specs.Computed.{submit_of}
use Rattle.tp_plain.specs.OneThread.{State}
use Rattle.tp_manager.specs.Accounts.{AreAll, Gathers, steps_together}
use Rattle.tp_manager.specs.Bounds.{gather_steps, submit_steps}
use Rattle.tp_manager.specs.Calls.{Follows, UsesBlock, UsesRun, steps_of}
use Rattle.tp_manager.specs.Shown.{IsKeptBy, IsOf, KeeperShown, ManagerShown, PassShown, view_in}
use Rattle.tp_rollover.specs.Middle.{Between, Goes, as_seen}
use Rattle.tp_rollover.specs.Thread.{Alone, AreTogether, Stays, thread_of}
use Rattle.tp_rollover.proofs.AloneIdle.{alone_idle}
use Rattle.tp_rollover.proofs.AloneMiddles.{alone_middle, mids}
use Rattle.tp_rollover.proofs.AloneSubmits.{alone_submit, no_block_quiet}
use Rattle.tp_rollover.proofs.AloneTurns.{first_alone}
use Rattle.tp_rollover.specs.Anew.{given, submitted}
use Rattle.tp_rollover.specs.Bounds.{AllMake, PassMakes, gathered}
use Rattle.tp_rollover.specs.Lone.{Agrees, AreLone, lone}
use Rattle.tp_rollover.specs.Runs.{SubmitsRun, RunsShort, RunsThrough, RootSubmitted, SubmitsAll, named_root, roots_born}
use Rattle.tp_rollover.specs.declared.moved.Moved.{Moved}
use Rattle.tp_rollover.specs.declared.stops.Stop.{Stop}
use Rattle.tp_rollover.specs.declared.stops.Stop.TheVariants as stops
use Rattle.tp_rollover.specs.declared.survivors.Survivor.{Survivor}
use Rattle.tp_rollover.proofs.Assembly as assembly
use Rattle.tp_rollover.proofs.Calling.{at_place, before_place, may_gather, set_place}
use Rattle.tp_rollover.proofs.Steps.{next_of, once_more, one_makes}
use Rattle.tp_rollover.proofs.Sums.{all_make}

-- ---- the run

-- one more is submitted
pub one_submitted : (l : Limits) (roots : List Survivor) (names : List Moved) (s : Survivor) (id : ℕ) (old middle new : PassShown) → SubmitsAll l roots names old middle → RootSubmitted l s (Ok id) middle new
    → SubmitsAll l (roots ++ s ∷ []) (names ++ named_root s id ∷ []) old new
one_submitted l [] [] s id old middle new all last = (new, subst (λ p. RootSubmitted l s (Ok id) p new) all last, refl, refl)
one_submitted l [] (m ∷ names) s id old middle new all last = absurd all
one_submitted l (r ∷ roots) [] s id old middle new all last = absurd all
one_submitted l (r ∷ roots) (m ∷ names) s id old middle new all last = (all.0, all.1, all.2, one_submitted l roots names s id all.0 middle new all.3 last)

pub runs_on : (l : Limits) (roots roots' : List Survivor) (moved moved' moved'' : List Moved) (s : Survivor) (id : ℕ) (old middle new : PassShown) → roots' ≡ roots ++ s ∷ [] → moved'' ≡ moved' ++ named_root s id ∷ []
    → RunsThrough l roots moved moved' old middle → RootSubmitted l s (Ok id) middle new → RunsThrough l roots' moved moved'' old new
runs_on l roots roots' moved moved' moved'' s id old middle new more pushed ran last = record {
  names = ran.names ++ named_root s id ∷ [];
  named = pushed ∙ (ap (λ ms. ms ++ named_root s id ∷ []) ran.named ∙ append_assoc moved ran.names (named_root s id ∷ []));
  all = subst (λ rs. SubmitsAll l rs (ran.names ++ named_root s id ∷ []) old new) (sym more) (one_submitted l roots ran.names s id old middle new ran.all last);
}

-- where one is refused
pub refused_as : (A : Type 0) (l : Limits) (roots : List Survivor) (moved moved' : List Moved) (old new : PassShown) (why : Stop) → RunsShort l roots old new → SubmitsRun {A = A} l roots moved moved' old new (Err why)
refused_as A l roots moved moved' old new stops.NoMemory short = tt
refused_as A l roots moved moved' old new stops.Full short = short
refused_as A l roots moved moved' old new stops.Unequal short = short

-- its steps
pub makes_more : (i k n : ℕ) (old middle new : PassShown) → i < k → PassMakes (i * n) old middle → Follows n middle new → PassMakes (k * n) old new
makes_more i k n old middle new less made follows =
    let long = ap length follows.traced in
    let more = length-append middle.trace (steps_of middle new) in
    let few = follows.few in
    let e = once_more i n in
    let f = next_of i k n less in
    omega (arith, long, more, few, made, e, f)

-- ---- between its calls

pub goes_same : (p : PassShown) → Goes p p
goes_same p = record { number = refl; sees = ([], append-nil p.seen); kept = λ b held. held; later = λ b held. inl held; drawn = omega arith }

pub goes_trans : (p q r : PassShown) → Goes p q → Goes q r → Goes p r
goes_trans p q r a b = record {
  number = b.number ∙ a.number;
  sees = begins_trans p.seen q.seen r.seen a.sees b.sees;
  kept = λ x held. b.kept x (a.kept x held);
  later = λ x held. ⊎_elim (a.later x) (λ low. inr (let e = a.drawn in omega (arith, low, e))) (b.later x held);
  drawn = (let e = a.drawn in let f = b.drawn in omega (arith, e, f));
}

-- the blocks of a pass that has submitted, or was refused
pub record Keeps (old new : PassShown) : Type 0 where
  pub kept : (b : ℕ) → In b old.blocks → In b new.blocks
  pub later : (b : ℕ) → In b new.blocks → In b old.blocks ⊎ ((old.seen_blocks ≤ b) × (b < new.seen_blocks))

keeps_same : (old new : PassShown) → new.blocks ≡ old.blocks → Keeps old new
keeps_same old new same = record { kept = λ b held. subst (In b) (sym same) held; later = λ b held. inl (subst (In b) same held) }

keeps_more : (old new : PassShown) (block : ℕ) → new.blocks ≡ old.blocks ++ block ∷ [] → old.seen_blocks ≤ block → block < new.seen_blocks → Keeps old new
keeps_more old new block more fresh seen = record {
  kept = λ b held. subst (In b) (sym more) (in_left (block ∷ []) held);
  later = λ b held. ⊎_elim (λ p. inl p) (λ p. let e = in_one p in inr (omega (arith, e, fresh), omega (arith, e, seen))) (in_either old.blocks (block ∷ []) (subst (In b) more held));
}

keeps : (l : Limits) (s : Survivor) (answer : Result ℕ Refusal) (old new : PassShown) → RootSubmitted l s answer old new → Keeps old new
keeps l s (Ok id) old new call = ⊎_elim (λ (u : UsesRun 1 id old new). keeps_same old new u.blocks) (λ (u : UsesBlock 1 id old new). keeps_more old new u.block u.blocks u.fresh u.seen) call.says.run
keeps l s (Err why) old new call = ⊎_elim (λ p. keeps_same old new (ap (λ (q : PassShown). q.blocks) p.2)) (λ p. keeps_same old new (no_block_quiet 1 old new p.2).run.2) call.says

goes : (l : Limits) (s : Survivor) (answer : Result ℕ Refusal) (old new : PassShown) → RootSubmitted l s answer old new → Goes old new
goes l s answer old new call =
    let f = call.follows in
    let k = keeps l s answer old new call in
    record {
      number = f.number;
      sees = begins_trans old.seen _ new.seen f.opened f.closed;
      kept = k.kept;
      later = λ b held. ⊎_elim (λ p. inl p) (λ p. inr p.0) (k.later b held);
      drawn = f.drawn;
    }

all_go : (l : Limits) (roots : List Survivor) (names : List Moved) (old new : PassShown) → SubmitsAll l roots names old new → Goes old new
all_go l [] [] old new all = subst (Goes old) (sym all) (goes_same old)
all_go l [] (m ∷ names) old new all = absurd all
all_go l (s ∷ roots) [] old new all = absurd all
all_go l (s ∷ roots) (m ∷ names) old new all = goes_trans old all.0 new (goes l s (Ok m.new) old all.0 all.1) (all_go l roots names all.0 new all.3)

-- all could have looked together after these calls: they would have seen this, in a manager of one thread that has
-- made them
record Middle (l : Limits) (keeper : KeeperShown) (c : ℕ) (roots : List Survivor) (moved names : List Moved) (s : State) (new last : PassShown) (news : List PassShown) : Type 0 where
  passes : List PassShown
  seen : List Event
  front : List PassShown
  back : List PassShown
  are : passes ≡ front ++ new ∷ back
  place : length front ≡ c
  together : AreTogether l keeper passes seen
  others : AllZip Stays (front ++ last ∷ back) news
  born : roots_born c roots (moved, s) ≡ Some (moved ++ names, thread_of l passes seen)

-- the first is born, and then the others
first_born : (c : ℕ) (roots : List Survivor) (s : Survivor) (m : Moved) (names moved : List Moved) (was is end : State) → (Ok m.new, is) ≡ submit_of was c s.root_stage s.root_body → m ≡ named_root s m.new
    → roots_born c roots (moved ++ m ∷ [], is) ≡ Some ((moved ++ m ∷ []) ++ names, end) → roots_born c (s ∷ roots) (moved, was) ≡ Some (moved ++ m ∷ names, end)
first_born c roots s m names moved was is end made named born =
    let then : ℕ × State → Option (List Moved × State) = λ t. roots_born c roots (moved ++ named_root s t.0 ∷ [], t.1) in
    ap (option_and_then then) (ap given (sym made))
    ∙ (ap (λ x. roots_born c roots (moved ++ x ∷ [], is)) (sym named)
    ∙ (born ∙ ap (λ ms. Some (ms, end)) (append_assoc moved (m ∷ []) names)))

module _ (l : Limits) (keeper keeper' : KeeperShown) (news : List PassShown) (h' : List Event) (c : ℕ) (last : PassShown) (after : AreTogether l keeper' news h') where
  long_front : (m : List Event) (drawn : ℕ) (ps : List PassShown) → length (map (as_seen m drawn) ps) ≡ length ps
  long_front m drawn [] = refl
  long_front m drawn (p ∷ ps) = ap suc (long_front m drawn ps)

  middle : (roots : List Survivor) (names moved : List Moved) (olds front back : List PassShown) (h : List Event) (old new : PassShown) → AreTogether l keeper olds h → olds ≡ front ++ old ∷ back → length front ≡ c
      → AllZip Stays (front ++ last ∷ back) news → SubmitsAll l roots names old new → Goes new last → Middle l keeper c roots moved names (thread_of l olds h) new last news
  middle [] [] moved olds front back h old new before are place others all rest = record {
    passes = olds;
    seen = h;
    front = front;
    back = back;
    are = are ∙ ap (λ p. front ++ p ∷ back) (sym all);
    place = place;
    together = before;
    others = others;
    born = ap (λ ms. Some (ms, thread_of l olds h)) (sym (append-nil moved));
  }
  middle [] (m ∷ names) moved olds front back h old new before are place others all rest = absurd all
  middle (s ∷ roots) [] moved olds front back h old new before are place others all rest = absurd all
  middle (s ∷ roots) (m ∷ names) moved olds front back h old new before are place others all rest =
      let mid : PassShown = all.0 in
      let call = all.1 in
      let old_in : In old olds = subst (In old) (sym are) (in_right front here) in
      let knows = before.drawn.seen old old_in in
      let b : Between l keeper keeper' olds news h h' old mid last = record {
        before = before;
        front = front;
        back = back;
        olds_are = are;
        first = goes l s (Ok m.new) old mid call;
        shown = record { limits = call.limits; seen = refl; shows = subst (λ k. IsPassView k (view_in mid)) call.limits call.follows.shows };
        below = λ x held. ⊎_elim (λ was. let e = before.drawn.inside old x old_in was in let f = call.follows.drawn in omega (arith, e, f, knows)) (λ p. p.1) ((keeps l s (Ok m.new) old mid call).later x held);
        rest = goes_trans mid new last (all_go l roots names mid new all.3) rest;
        others = others;
        after = after;
      } in
      let look = alone_middle l keeper keeper' olds news h h' old mid last b in
      let made = alone_submit s.root_stage s.root_body l keeper keeper olds (mids l keeper keeper' olds news h h' old mid last b) h mid.seen (submit_steps l) c old mid (Ok m.new)
      (first_alone l keeper keeper' olds news h h' old mid last b (submit_steps l) c place call.follows) call.turn call.says in
      let on = middle roots names (moved ++ m ∷ []) (mids l keeper keeper' olds news h h' old mid last b) (map (as_seen mid.seen mid.seen_blocks) front) (map (as_seen mid.seen mid.seen_blocks) back) mid.seen mid new
      look.0 refl (long_front mid.seen mid.seen_blocks front ∙ place) look.2 all.3 rest in
      record {
        passes = on.passes;
        seen = on.seen;
        front = on.front;
        back = on.back;
        are = on.are;
        place = on.place;
        together = on.together;
        others = on.others;
        born = first_born c roots s m names moved (thread_of l olds h) (thread_of l (mids l keeper keeper' olds news h h' old mid last b) mid.seen) (thread_of l on.passes on.seen) made all.2 on.born;
      }

-- ---- the gathering behind them

then_none : {A B : Type 0} (o : Option A) (y : B) (f g : A → Option B) → ((t : A) → f t ≡ Some y → g t ≡ None) → option_and_then f o ≡ Some y → option_and_then g o ≡ None
then_none None y f g none e = refl
then_none (Some t) y f g none e = none t e

same_after : (x y : List Moved × State) → Some x ≡ Some y → x.1 ≡ y.1
same_after x y e = cc

-- none are born where one is refused
refused_behind : (c : ℕ) (done : List Survivor) (next : Survivor) (rest : List Survivor) (x y : List Moved × State) → roots_born c done x ≡ Some y → submitted c next.root_stage next.root_body y.1 ≡ None → roots_born c (done ++ next ∷ rest) x ≡ None
refused_behind c [] next rest x y born none =
    let then : ℕ × State → Option (List Moved × State) = λ t. roots_born c rest (x.0 ++ named_root next t.0 ∷ [], t.1) in
    ap (λ s. option_and_then then (submitted c next.root_stage next.root_body s)) (same_after x y born) ∙ ap (option_and_then then) none
refused_behind c (s ∷ done) next rest x y born none =
    then_none (submitted c s.root_stage s.root_body x.1) y (λ t. roots_born c done (x.0 ++ named_root s t.0 ∷ [], t.1)) (λ t. roots_born c (done ++ next ∷ rest) (x.0 ++ named_root s t.0 ∷ [], t.1))
    (λ t e. refused_behind c done next rest (x.0 ++ named_root s t.0 ∷ [], t.1) y e none) born

module _ (m : ManagerShown) (keeper keeper' : KeeperShown) (olds news : List PassShown) (at : ℕ) (d new : PassShown) (q : ℕ)
    (is : AreLone m keeper olds) (less : at < length olds) (own : IsOf m new × (new.number ≡ (get_or olds at d).number))
    (gathers : Gathers m.limits q keeper keeper' (slice_set olds at new) news) (kept : IsKeptBy m keeper' × (keeper'.given ≡ keeper.given)) (owns : All (IsOf m) news) (all : AreAll keeper' news) where
  abbrev old : PassShown
  old = get_or olds at d

  pub behind : AreTogether m.limits keeper' news keeper'.seen × AllZip Stays (take at olds ++ new ∷ drop (suc at) olds) news
  behind = let t = assembly.gathered m q keeper keeper' (slice_set olds at new) news gathers all kept.1 owns in (t.0, subst (λ ps. AllZip Stays ps news) (set_place olds at new less) t.1)

  pub lone_behind : AreLone m keeper' news × (keeper'.given ≡ keeper.given)
  lone_behind = (record { kept = kept.0; own = owns; together = behind.0 }, kept.1)

  pub run_made : (n : ℕ) → PassMakes n old new → steps_together (slice_set olds at new) news + keeper'.steps ≤ keeper.steps + gather_steps m.limits keeper.given → AllMake (gathered m.limits keeper.given n) keeper olds keeper' news
  run_made n makes together =
      let calls = one_makes n olds at new d less makes in
      let gather = all_make (gather_steps m.limits keeper.given) keeper keeper' (slice_set olds at new) news (may_gather keeper olds at d new less own.1 is.together.all) all kept.1 together in
      omega (arith, calls, gather)

  -- what its calls would have left, had all looked together behind them
  up_to : (roots : List Survivor) (moved names : List Moved) (mid : PassShown) → SubmitsAll m.limits roots names old mid → Goes mid new → Middle m.limits keeper at roots moved names (lone m keeper olds) mid new news
  up_to roots moved names mid ran rest = middle m.limits keeper keeper' news keeper'.seen at new behind.0 roots names moved olds (take at olds) (drop (suc at) olds) keeper.seen old mid is.together (at_place olds at d less) (before_place olds at less) behind.1 ran rest

  goes_through : (roots : List Survivor) (moved moved' : List Moved) → RunsThrough m.limits roots moved moved' old new → roots_born at roots (moved, lone m keeper olds) ≡ Some (moved', lone m keeper' news)
  goes_through roots moved moved' ran =
      let t = up_to roots moved ran.names new ran.all (goes_same new) in
      let idle = alone_idle m.limits keeper keeper' t.passes news t.seen keeper'.seen t.together (subst (λ ps. AllZip Stays ps news) (sym t.are) t.others) behind.0 in
      t.born ∙ (ap (λ ms. Some (ms, thread_of m.limits t.passes t.seen)) (sym ran.named) ∙ ap (λ s. Some (moved', s)) (sym idle.1))

  comes_short : (roots : List Survivor) (moved : List Moved) → RunsShort m.limits roots old new → roots_born at roots (moved, lone m keeper olds) ≡ None
  comes_short roots moved ran =
      let call = ran.refused in
      let t = up_to ran.done moved ran.names ran.middle ran.all (goes m.limits ran.next (Err ran.why) ran.middle new call) in
      let a : Alone m.limits keeper keeper' t.passes news t.seen keeper'.seen (submit_steps m.limits) at ran.middle new = record {
        before = t.together;
        front = t.front;
        back = t.back;
        olds_are = t.are;
        place = t.place;
        limits = own.0.1;
        follows = call.follows;
        others = t.others;
        after = behind.0;
      } in
      let refused = alone_submit ran.next.root_stage ran.next.root_body m.limits keeper keeper' t.passes news t.seen keeper'.seen (submit_steps m.limits) at ran.middle new (Err ran.why) a call.turn call.says in
      ap (λ rs. roots_born at rs (moved, lone m keeper olds)) ran.roots_are
      ∙ refused_behind at ran.done ran.next ran.rest (moved, lone m keeper olds) (moved ++ ran.names, thread_of m.limits t.passes t.seen) t.born (ap given (sym refused))

  pub run_computed : {A : Type 0} (roots : List Survivor) (moved moved' : List Moved) (result : Result A Stop) → SubmitsRun m.limits roots moved moved' old new result → Agrees result (λ x. (moved', lone m keeper' news)) (roots_born at roots (moved, lone m keeper olds))
  run_computed roots moved moved' (Ok x) ran = goes_through roots moved moved' ran
  run_computed roots moved moved' (Err stops.NoMemory) ran = tt
  run_computed roots moved moved' (Err stops.Full) ran = comes_short roots moved ran
  run_computed roots moved moved' (Err stops.Unequal) ran = comes_short roots moved ran
