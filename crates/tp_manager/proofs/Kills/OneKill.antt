-- A kill, on its way.
use Rattle.std.proofs.Common.{◌≡◌, ℕ, ◌+◌, ◌≤◌, nat_lt, Bool, true, false, cond, List, [], ◌∷◌, ◌++◌, length, Result, Ok, Err, sym, refl, ap, ◌∙◌, subst, ⊎_elim, arith, append_assoc, Some, None}
use Rattle.std.specs.Prelude.{MatchResult}
use Rattle.std.specs.Option.{option_or}
use Rattle.tp_model.specs.declared.types.Refusal.{Refusal}
use Rattle.tp_model.specs.declared.types.Refusal.TheVariants as refusals
use Rattle.tp_model.specs.declared.types.Status.{Status}
use Rattle.tp_model.specs.declared.types.Status.TheVariants as statuses
use Rattle.tp_manager.specs.declared.manager.Run.{Run}
use Rattle.tp_manager.specs.Shown.{Spot, PassShown, shown}
use Rattle.tp_manager.proofs.Calls.Passes.{claims_append}
use mathlib.Core.List.{IsPrefix}
use Rattle.tp_model.specs.declared.types.Limits.{Limits}
use Rattle.tp_model.specs.declared.types.Status.TheVariants.{Waiting, Held, Parked}
use Rattle.tp_model.specs.declared.event.Event.{Event}
use Rattle.tp_model.specs.declared.event.Event.TheVariants.{Abort, Kill}
use Rattle.tp_model.specs.declared.trace.StepKind.TheVariants as kinds
use Rattle.tp_model.specs.History.{Aborted, here, there, end_by, end_of, status_of}
use Rattle.tp_model.specs.Words.{ClaimWord, TakenWord, claim_word, taken_status}
use Rattle.tp_model.specs.Steps.{IsKillable, IsLegal, Step, tries}
use Rattle.tp_model.proofs.Lists.{if_same}
use Rattle.tp_model.proofs.Histories.{legal_at, legal_start}
use Rattle.tp_model.proofs.WordProofs.{end_of-snoc}
use Rattle.tp_model.proofs.Bridges.{append_nil, begins_refl, begins_trans, in_either, in_none, in_one, status_taken}
use Rattle.tp_model.proofs.Later.{claim_stands}
use Rattle.tp_rule.specs.Steps.{AllowsKill, MakesAbort, MakesKill, HasElement, with_end, with_event}
use Rattle.tp_rule.specs.Views.{SeatShown, hand, view_of}
use Rattle.tp_rule.specs.declared.view.Hand.{Hand}
use Rattle.tp_rule.specs.declared.view.View.{View}
use Rattle.tp_manager.specs.Calls.{AreOfHolders, AtPoint, HasStatus, KillFails, Kills, OnlyAborts, claims_in, one_claim}
use Rattle.tp_manager.specs.Kills.{FailsIn, Freed, KillsIn, Slain}
use Rattle.tp_manager.specs.CallSteps.{Gained, Steady, Looked}
use Rattle.tp_manager.specs.BetweenCalls.{Rests}
use Rattle.tp_manager.proofs.Calls.Gains.{gained_begins, gained_few, gained_looked, gained_then, rests_gained}
use Rattle.tp_manager.proofs.Kills.Tries.{IsAlive}
use Rattle.tp_manager.proofs.Calls.CallSteps.{at_point, point_last, grew_hand, grew_walked, grew_steady, walked_begins}

module _ (l : Limits) where
  pub freed_looked : (n i : ℕ) (v w : View) → Looked l n v w → Freed l n i [] v w
  freed_looked n i v w a = record { gained = gained_looked l n v w a; aborts = λ e p. absurd (in_none p) }

  -- the Abort of the unit that holds the element
  pub freed_abort : (i n u : ℕ) {r : ℕ} (v w : View) → Steady l v → claim_word v.seen i ≡ TakenWord n u r → MakesAbort v u w → Freed l 1 i (Abort (hand v).number u ∷ []) v w × (end_of w.seen u ≡ Some Aborted)
  freed_abort i n u {r} v w s taken g =
      let e = Abort (hand v).number u in let f : Hand → Hand = with_end e in let x = grew_hand l kinds.AbortExchange f (e ∷ []) v w s g in
      let st = grew_steady l kinds.AbortExchange f (e ∷ []) v w s g refl in
      let walk = grew_walked l kinds.AbortExchange f (e ∷ []) v w s g refl refl refl st in
      let p : List Event = v.seen ++ g.between in
      let legal : IsLegal l (p ++ e ∷ []) = subst (IsLegal l) g.seen st.shows.legal in
      let step : Step l p e = legal_at l p e [] legal in
      let open_yet : end_of p u ≡ None = step.open_unit.unfinished in
      let before : IsLegal l p = legal_start l p (e ∷ []) legal in
      let still : claim_word p i ≡ TakenWord n u r = claim_stands l v.seen p before (g.between, refl) i n u taken (λ z. absurd cc) in
      let held : status_of l.attempts p i ≡ Held u n = status_taken l p i n u before still ∙ ap (taken_status l.attempts n u) open_yet in (
        record {
          gained = record {
            marks = record { kind = kinds.AbortExchange; seen = w.seen } ∷ [];
            walk = walk;
            run = (ap (λ (z : Hand). z.next) x, ap (λ (z : Hand). z.left) x, ap (λ (z : Hand). z.blocks) x, (ap (λ (z : Hand). z.passed_from) x, ap (λ (z : Hand). z.passed_to) x), (ap (λ (z : Hand). z.tail) x, ap (λ (z : Hand). z.tail_stage) x));
            claimed = ap (λ (a : Hand). a.claimed) x;
            mine = ap (λ (a : Hand). a.mine) x;
            drafts = λ q. ap (λ (a : Hand). a.drafts) x;
            body = ap (λ (a : Hand). a.next_body) x;
            open_unit = λ q. ap (λ (a : Hand). a.open_unit) x;
          };
          aborts = λ y q. record {
            unit = u;
            attempt = n;
            before = p;
            is_abort = in_one q;
            begins = (g.between, refl);
            held = held;
            within = subst (λ z. IsPrefix (p ++ z ∷ []) w.seen) (sym (in_one q)) (subst (IsPrefix (p ++ e ∷ [])) (sym g.seen) (begins_refl (p ++ e ∷ [])));
          };
        },
        ap (λ z. end_of z u) g.seen ∙ (end_of-snoc p e u ∙ (ap (λ o. option_or o (end_by u e)) open_yet ∙ if_same u u (Some Aborted) None refl)),
      )

  pub held_later : (c i : ℕ) (s t t' : List Event) (es : List Event) → IsPrefix t t' → AreOfHolders l c i s t es → AreOfHolders l c i s t' es
  held_later c i s t t' es b h e p = let r = h e p in record {
    unit = r.unit;
    attempt = r.attempt;
    before = r.before;
    is_abort = r.is_abort;
    begins = r.begins;
    held = r.held;
    within = begins_trans (r.before ++ e ∷ []) t t' r.within b;
  }

  held_both : (c d i : ℕ) (s t t' : List Event) (es fs : List Event) → d ≡ c → IsPrefix s t → IsPrefix t t' → AreOfHolders l c i s t es → AreOfHolders l d i t t' fs → AreOfHolders l c i s t' (es ++ fs)
  held_both c d i s t t' es fs same before after a b e p = ⊎_elim (held_later c i s t t' es after a e) (λ q. let r = b e q in record {
    unit = r.unit;
    attempt = r.attempt;
    before = r.before;
    is_abort = r.is_abort ∙ ap (λ z. Abort z r.unit) same;
    begins = begins_trans s t r.before before r.begins;
    held = r.held;
    within = r.within;
  }) (in_either es fs p)

  pub freed_then : (n m i : ℕ) (es fs : List Event) (v w y : View) → Freed l n i es v w → Freed l m i fs w y → Freed l (n + m) i (es ++ fs) v y
  freed_then n m i es fs v w y a b = record {
    gained = gained_then l n m es fs v w y a.gained b.gained;
    aborts = held_both (hand v).number (hand w).number i v.seen w.seen y.seen es fs a.gained.walk.number (gained_begins l n es v w a.gained) (gained_begins l m fs w y b.gained) a.aborts b.aborts;
  }

  -- steps that change nothing, after the Aborts
  pub freed_look : (n m i : ℕ) (es : List Event) (v w y : View) → Freed l n i es v w → Looked l m w y → Freed l (n + m) i es v y
  freed_look n m i es v w y a b = subst (λ z. Freed l (n + m) i z v y) (append_nil es) (freed_then n m i es [] v w y a (freed_looked m i w y b))

  pub freed_few : (n m i : ℕ) (es : List Event) (v w : View) → n ≤ m → Freed l n i es v w → Freed l m i es v w
  freed_few n m i es v w le a = record { gained = gained_few l n m es v w le a.gained; aborts = a.aborts }

  -- the kill itself
  pub slain_by : (n i : ℕ) (es : List Event) (v w y : View) → Freed l n i es v w → MakesKill w i y → Slain l (n + 1) i es v y
  slain_by n i es v w y a g =
      let e = Kill (hand w).number i in let f : Hand → Hand = with_event e in let s = a.gained.walk.steady in let x = grew_hand l kinds.KillExchange f (e ∷ []) w y s g in
      let st = grew_steady l kinds.KillExchange f (e ∷ []) w y s g refl in
      let walk = grew_walked l kinds.KillExchange f (e ∷ []) w y s g refl refl refl st in
      let same : (hand w).number ≡ (hand v).number = a.gained.walk.number in
      let kill : Gained l 1 (e ∷ []) w y = record {
        marks = record { kind = kinds.KillExchange; seen = y.seen } ∷ [];
        walk = walk;
        run = (ap (λ (z : Hand). z.next) x, ap (λ (z : Hand). z.left) x, ap (λ (z : Hand). z.blocks) x, (ap (λ (z : Hand). z.passed_from) x, ap (λ (z : Hand). z.passed_to) x), (ap (λ (z : Hand). z.tail) x, ap (λ (z : Hand). z.tail_stage) x));
        claimed = ap (λ (z : Hand). z.claimed) x;
        mine = ap (λ (z : Hand). z.mine) x;
        drafts = λ q. ap (λ (z : Hand). z.drafts) x ∙ q;
        body = ap (λ (z : Hand). z.next_body) x;
        open_unit = λ q. ap (λ (z : Hand). z.open_unit) x ∙ q;
      } in
      record {
        gained = subst (λ z. Gained l (n + 1) (es ++ Kill z i ∷ []) v y) same (gained_then l n 1 es (e ∷ []) v w y a.gained kill);
        before = w.seen ++ g.between;
        begins = begins_trans v.seen w.seen (w.seen ++ g.between) (gained_begins l n es v w a.gained) (g.between, refl);
        ends = g.seen ∙ ap (λ z. (w.seen ++ g.between) ++ Kill z i ∷ []) same;
        aborts = held_later (hand v).number i v.seen w.seen y.seen es (walked_begins l 1 _ w y walk) a.aborts;
      }

  pub freed_slain : (n m i : ℕ) (es fs : List Event) (v w y : View) → Freed l n i es v w → Slain l m i fs w y → Slain l (n + m) i (es ++ fs) v y
  freed_slain n m i es fs v w y a b =
      let same : (hand w).number ≡ (hand v).number = a.gained.walk.number in let before = gained_begins l n es v w a.gained in
      let k : Event = Kill (hand w).number i in let both = gained_then l n m es (fs ++ k ∷ []) v w y a.gained b.gained in
      record {
        gained = subst (λ z. Gained l (n + m) z v y) (sym (append_assoc es fs (k ∷ [])) ∙ ap (λ z. (es ++ fs) ++ Kill z i ∷ []) same) both;
        before = b.before;
        begins = begins_trans v.seen w.seen b.before before b.begins;
        ends = b.ends ∙ ap (λ z. b.before ++ Kill z i ∷ []) same;
        aborts = held_both (hand v).number (hand w).number i v.seen w.seen y.seen es fs same before (gained_begins l m (fs ++ k ∷ []) w y b.gained) a.aborts b.aborts;
      }

  pub slain_few : (n m i : ℕ) (es : List Event) (v w : View) → n ≤ m → Slain l n i es v w → Slain l m i es v w
  slain_few n m i es v w le a = record { gained = gained_few l n m (es ++ Kill (hand v).number i ∷ []) v w le a.gained; before = a.before; begins = a.begins; ends = a.ends; aborts = a.aborts }

  -- an element whose unit was aborted may be killed
  pub allows_aborted : (h : List Event) (n u r : ℕ) → end_of h u ≡ Some Aborted → AllowsKill l h (TakenWord n u r)
  allows_aborted h n u r ended = subst (λ x. IsKillable (taken_status l.attempts n u x)) (sym ended) (go (nat_lt n l.attempts))
    where
      go : (b : Bool) → IsKillable (cond b (Waiting n) (Parked n))
      go true = tt
      go false = tt

  -- a killed one may not
  pub allows_alive : (h : List Event) (w : ClaimWord) → AllowsKill l h w → IsAlive w
  allows_alive h w may n u r is = subst (AllowsKill l h) is may

-- a result whose parts say more
pub match_map : {A B : Type 0} (P P' : A → Type 0) (Q Q' : B → Type 0) (r : Result A B) → ((a : A) → P a → P' a) → ((b : B) → Q b → Q' b) → MatchResult r P Q → MatchResult r P' Q'
match_map P P' Q Q' (Ok a) f g m = f a m
match_map P P' Q Q' (Err b) f g m = g b m

module _ (l : Limits) (n m k i left most : ℕ) (v w y : View) (a : Looked l n v w) (same : left ≡ most) (le : n + m ≤ k) where
  pub kills_after : (count : ℕ) → KillsIn l m i left count w y → KillsIn l k i most count v y
  kills_after count t = (t.0, t.1, subst (λ z. count ≤ z) same t.2, slain_few l (n + m) k i t.0 v y le (freed_slain l n m i [] t.0 v w y (freed_looked l n i v w a) t.3))

  pub fails_after : (e : Refusal) → FailsIn l m i left e w y → FailsIn l k i most e v y
  fails_after e t = (t.0, subst (λ z. length t.0 ≤ z) same t.1, freed_few l (n + m) k i t.0 v y le (freed_then l n m i [] t.0 v w y (freed_looked l n i v w a) t.2), t.3)

-- Aborts are no claims
pub no_claims : (l : Limits) (c i : ℕ) (s t es : List Event) → AreOfHolders l c i s t es → claims_in es ≡ 0
no_claims l c i s t [] h = refl
no_claims l c i s t (e ∷ es) h = let first : one_claim e ≡ 0 = ap one_claim (h e here).is_abort in let rest = no_claims l c i s t es (λ x p. h x (there p)) in omega arith

module _ (l : Limits) (seat next : SeatShown) (number : ℕ) (run : Run) (used : ℕ) (same : (view_of seat).limits ≡ l) (r : Rests seat number run used None) where
  pub rests_freed : (n i : ℕ) (es : List Event) → Freed l n i es (view_of seat) (view_of next) → Rests next number run used None
  rests_freed n i es a = rests_gained l seat next number run used same r n es a.gained (no_claims l (hand (view_of seat)).number i _ _ es a.aborts)

  pub rests_slain : (n i : ℕ) (es : List Event) → Slain l n i es (view_of seat) (view_of next) → Rests next number run used None
  rests_slain n i es a = let k : Event = Kill (hand (view_of seat)).number i in let none = no_claims l (hand (view_of seat)).number i _ _ es a.aborts in
      rests_gained l seat next number run used same r n (es ++ k ∷ []) a.gained (claims_append es (k ∷ []) ∙ omega arith)

module _ (t t' : Spot) (v w : View) (old : PassShown) (is : shown t v ≡ old) (l : Limits) (free : (hand v).open_unit ≡ None) where
  pub kills_shown : (n i count : ℕ) → KillsIn l n i (tries l.attempts) count v w → Kills l i count old (shown t' w)
  kills_shown n i count k = let a = k.3 in subst (λ (p : PassShown). Kills l i count p (shown t' w)) is record {
    aborts = k.0;
    counted = k.1;
    few = k.2;
    held = a.aborts;
    mine = a.gained.mine ∙ sym (append_assoc (hand v).mine k.0 _);
    before = a.before;
    begins = a.begins;
    seen = a.ends;
    open_unit = a.gained.open_unit free ∙ sym free;
    run = (a.gained.run.0, a.gained.run.1, a.gained.run.2);
  }

  only_aborts : (n i : ℕ) (es : List Event) → length es ≤ tries l.attempts → Freed l n i es v w → OnlyAborts l i old (shown t' w)
  only_aborts n i es few a = subst (λ (p : PassShown). OnlyAborts l i p (shown t' w)) is record { aborts = es; few = few; held = a.aborts; mine = a.gained.mine; open_unit = a.gained.open_unit free ∙ sym free; run = (a.gained.run.0, a.gained.run.1, a.gained.run.2) }

  -- the element is born when the kill fails, and has that status then
  stands_at_end : (n i : ℕ) (s : Status) (es : List Event) → Freed l n i es v w → HasElement w.seen i → status_of l.attempts w.seen i ≡ s → AtPoint old (shown t' w) (HasStatus l i s)
  stands_at_end n i s es a b e = let g = a.gained in at_point t t' v w old is l n g.marks g.walk (HasStatus l i s) w.seen (point_last l n g.marks v w g.walk) (b.0, b.1, e)

  pub fails_shown : (n i : ℕ) (e : Refusal) → HasElement w.seen i → FailsIn l n i (tries l.attempts) e v w → KillFails l i old (shown t' w) e
  fails_shown n i refusals.NoMemory b k = k.3
  fails_shown n i refusals.BadLimits b k = k.3
  fails_shown n i refusals.BadStage b k = k.3
  fails_shown n i refusals.NotThere b k = absurd k.3
  fails_shown n i (refusals.Consumed u) b k = (only_aborts n i k.0 k.1 k.2, stands_at_end n i (statuses.Consumed u) k.0 k.2 b k.3)
  fails_shown n i refusals.AlreadyKilled b k = (only_aborts n i k.0 k.1 k.2, stands_at_end n i statuses.Killed k.0 k.2 b k.3)
  fails_shown n i refusals.Full b k = k.3
  fails_shown n i refusals.NotParked b k = k.3
  fails_shown n i refusals.NoRound b k = k.3
  fails_shown n i refusals.NotHeld b k = k.3
  fails_shown n i refusals.NotWaiting b k = k.3
  fails_shown n i refusals.NoUnit b k = k.3
