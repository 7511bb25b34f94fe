-- What a step leaves of the view, and what the steps of two parts of a call leave.
use Rattle.std.proofs.Common.{◌≡◌, ℕ, ◌+◌, ◌*◌, ◌<◌, ◌≤◌, Some, true, List, [], ◌∷◌, ◌++◌, length, slice_index, drop, sym, refl, ap, ◌∙◌, subst, arith, append_assoc, length-append}
use mathlib.Core.List.{IsPrefix}
use Rattle.tp_model.specs.declared.types.Limits.{Limits}
use Rattle.tp_model.specs.declared.event.Event.{Event}
use Rattle.tp_model.specs.declared.trace.StepKind.{StepKind}
use Rattle.tp_model.specs.declared.trace.TraceEntry.{TraceEntry}
use Rattle.tp_model.specs.History.{Committed, In, here, events_by}
use Rattle.tp_model.specs.Steps.{IsLegal, IsUnitOf}
use Rattle.tp_model.specs.Passes.{AreEnded, HasLook, IsOwnOpen, IsPassView, IsPoint, IsRun, looks, opening_of}
use Rattle.tp_model.proofs.Bridges.{append_nil, begins_refl, begins_trans, end_stays}
use Rattle.tp_rule.specs.Views.{IsOnePass, hand}
use Rattle.tp_rule.specs.Steps.{Grew, IsSo, noted, unchanged}
use Rattle.tp_rule.specs.declared.view.Hand.{Hand}
use Rattle.tp_rule.specs.declared.view.View.{View}
use Rattle.tp_rule.proofs.Reading.{one_after, grew_begins}
use Rattle.tp_manager.specs.Calls.{Follows, AtPoint, HasLooked, steps_of, opening}
use Rattle.tp_manager.specs.Shown.{AllRise, Climbs, NoneFalls, marks_of, Spot, PassShown, shown}
use Rattle.tp_manager.specs.CallSteps.{Steady, Stepped, Looked, Acted, opening_in, pass_in, with_trace}
use Rattle.tp_manager.specs.UnitsSeen.{RemembersUnits}
use Rattle.tp_manager.specs.declared.streak.Streak.{Streak}
use Rattle.tp_rule.specs.Rule.{AreCommitted}
use Rattle.tp_manager.specs.Marks.{IsBehind, MayRemember, Recalls, Remembers, RemembersGaps, gap_in}
use Rattle.tp_manager.specs.Scans.{Sought}
use Rattle.tp_manager.proofs.Claims.Runs.{gap_later}
use Rattle.tp_manager.proofs.Marks.Useless.{Goes, may_later}
use Rattle.tp_manager.proofs.Calls.Points.{opening_one, opening_later, opening_kept, opens_later, has_more, drop_steps}

module _ (l : Limits) (kind : StepKind) (f : Hand → Hand) (es : List Event) (v w : View) (s : Steady l v) (g : Grew kind f es v w) where
  pub grew_one : IsOnePass w × (hand w ≡ noted kind w.seen (f (hand v))) × (w.limits ≡ v.limits)
  grew_one = one_after kind f w.seen w.known v w s.pass.0 g.view

  pub grew_hand : hand w ≡ noted kind w.seen (f (hand v))
  grew_hand = grew_one.1

  pub grew_seen : IsPrefix v.seen w.seen
  grew_seen = grew_begins kind f es v w g

  pub grew_legal : IsLegal l w.seen
  grew_legal = subst (λ (z : Limits). IsLegal z w.seen) s.pass.1 g.legal

  grew_own : (hand w).mine ≡ events_by (hand w).number w.seen
  grew_own = g.mine (hand w) (subst (λ (hs : List Hand). In (hand w) hs) (sym grew_one.0) here)

  grew_open : (u : ℕ) → (hand w).open_unit ≡ Some u → IsOwnOpen w.seen (hand w).number u
  grew_open = g.open_own (hand w) (subst (λ (hs : List Hand). In (hand w) hs) (sym grew_one.0) here)

  grew_ended : AreEnded w.seen (hand w).number (hand w).open_unit
  grew_ended = g.ended (hand w) (subst (λ (hs : List Hand). In (hand w) hs) (sym grew_one.0) here)

  grew_run : IsRun l w.seen (hand w).number (hand w).blocks (hand w).next (hand w).left
  grew_run = subst (λ (z : Limits). IsRun z w.seen (hand w).number (hand w).blocks (hand w).next (hand w).left) s.pass.1 (g.run (hand w) (subst (λ (hs : List Hand). In (hand w) hs) (sym grew_one.0) here))

  pub grew_steady : (f (hand v)).number ≡ (hand v).number → Steady l w
  grew_steady number = let h = grew_hand in record {
    pass = (grew_one.0, grew_one.2 ∙ s.pass.1);
    shows = record {
      given = subst (λ n. n < l.parts) (sym (ap (λ (a : Hand). a.number) h ∙ number)) s.shows.given;
      legal = grew_legal;
      own = grew_own;
      run = grew_run;
      open_own = grew_open;
      ended = grew_ended;
    };
    known = λ x q. subst (λ (z : Limits). IsSo z w.seen x) s.pass.1 (g.is_so x q);
  }

  pub grew_walked : looks kind ≡ true → (f (hand v)).trace ≡ (hand v).trace → (f (hand v)).number ≡ (hand v).number → Steady l w → Stepped l 1 (record { kind = kind; seen = w.seen } ∷ []) v w
  grew_walked d trace number steady = let o = opening_one v.seen (record { kind = kind; seen = w.seen }) d in record {
    traced = ap (λ (a : Hand). a.trace) grew_hand ∙ ap (λ t. t ++ record { kind = kind; seen = w.seen } ∷ []) trace;
    few = omega arith;
    opens = subst (IsPrefix v.seen) (sym o) grew_seen;
    closes = subst (λ z. IsPrefix z w.seen) (sym o) (begins_refl w.seen);
    number = ap (λ (a : Hand). a.number) grew_hand ∙ number;
    limits = s.pass.1;
    steady = steady;
    knows = g.knows;
  }

module _ (l : Limits) where
  pub walked_none : (v : View) → Steady l v → Stepped l 0 [] v v
  walked_none v s = record { traced = sym (append_nil (hand v).trace); few = omega arith; opens = begins_refl v.seen; closes = begins_refl v.seen; number = refl; limits = s.pass.1; steady = s; knows = λ x q. q }

  pub walked_begins : (n : ℕ) (ms : List TraceEntry) (v w : View) → Stepped l n ms v w → IsPrefix v.seen w.seen
  walked_begins n ms v w a = begins_trans _ _ _ a.opens a.closes

  pub walked_then : (n m : ℕ) (ms ns : List TraceEntry) (v w x : View) → Stepped l n ms v w → Stepped l m ns w x → Stepped l (n + m) (ms ++ ns) v x
  walked_then n m ms ns v w x a b = record {
    traced = b.traced ∙ (ap (λ t. t ++ ns) a.traced ∙ append_assoc (hand v).trace ms ns);
    few = let p = a.few in let q = b.few in omega (arith, length-append ms ns);
    opens = opens_later v.seen w.seen ms ns a.opens a.closes b.opens;
    closes = begins_trans _ _ _ (opening_later v.seen w.seen ms ns a.closes b.opens) b.closes;
    number = b.number ∙ a.number;
    limits = a.limits;
    steady = b.steady;
    knows = λ z q. b.knows z (a.knows z q);
  }

  pub walked_few : (n m : ℕ) (ms : List TraceEntry) (v w : View) → n ≤ m → Stepped l n ms v w → Stepped l m ms v w
  walked_few n m ms v w le a = record { traced = a.traced; few = let p = a.few in omega arith; opens = a.opens; closes = a.closes; number = a.number; limits = a.limits; steady = a.steady; knows = a.knows }

  pub point_last : (n : ℕ) (ms : List TraceEntry) (v w : View) → Stepped l n ms v w → IsPoint (opening_of v.seen ms) w.seen w.seen
  point_last n ms v w a = record { opened = a.closes; seen = begins_refl w.seen }

  pub acted_by : (kind : StepKind) (v w : View) → Steady l v → looks kind ≡ true → Grew kind unchanged [] v w → Acted l 1 v w
  acted_by kind v w s d g = record {
    marks = record { kind = kind; seen = w.seen } ∷ [];
    walk = grew_walked l kind unchanged [] v w s g d refl refl (grew_steady l kind unchanged [] v w s g refl);
    kept = let e = grew_hand l kind unchanged [] v w s g in e ∙ ap (λ t. with_trace t (hand v)) (sym (ap (λ (a : Hand). a.trace) e));
    step = (record { kind = kind; seen = w.seen }, here, d);
  }

  pub looked : (n : ℕ) (v w : View) → Acted l n v w → Looked l n v w
  looked n v w a = record { marks = a.marks; walk = a.walk; kept = a.kept }

  pub looked_none : (v : View) → Steady l v → Looked l 0 v v
  looked_none v s = record { marks = []; walk = walked_none v s; kept = refl }

  pub looked_then : (n m : ℕ) (v w x : View) → Looked l n v w → Looked l m w x → Looked l (n + m) v x
  looked_then n m v w x a b = record { marks = a.marks ++ b.marks; walk = walked_then n m a.marks b.marks v w x a.walk b.walk; kept = b.kept ∙ ap (λ z. with_trace (hand x).trace z) a.kept }

  pub looked_few : (n m : ℕ) (v w : View) → n ≤ m → Looked l n v w → Looked l m v w
  looked_few n m v w le a = record { marks = a.marks; walk = walked_few n m a.marks v w le a.walk; kept = a.kept }

  pub looked_begins : (n : ℕ) (v w : View) → Looked l n v w → IsPrefix v.seen w.seen
  looked_begins n v w a = walked_begins n a.marks v w a.walk

  abbrev pub acted_then : (n m : ℕ) (v w x : View) → Acted l n v w → Looked l m w x → Acted l (n + m) v x
  acted_then n m v w x a b = record {
    marks = a.marks ++ b.marks;
    walk = walked_then n m a.marks b.marks v w x a.walk b.walk;
    kept = b.kept ∙ ap (λ z. with_trace (hand x).trace z) a.kept;
    step = has_more a.marks b.marks a.step;
  }

  pub sought_by : (n : ℕ) (Passed : List Event → List Event → Type 0) (v w : View) (a : Acted l n v w) → Passed (opening_of v.seen a.marks) w.seen → Sought l n Passed v w
  sought_by n Passed v w a p = record { marks = a.marks; walk = a.walk; kept = a.kept; step = a.step; passed = p }

  -- the opening of a part that looks is that of all that it begins
  pub opening_first : (n m : ℕ) (v w x : View) (a : Acted l n v w) (b : Looked l m w x) → opening_of v.seen (a.marks ++ b.marks) ≡ opening_of v.seen a.marks
  opening_first n m v w x a b = opening_kept v.seen a.marks b.marks a.step.0 a.step.1 a.step.2

  pub sought_few : (n m : ℕ) (Passed : List Event → List Event → Type 0) (v w : View) → n ≤ m → Sought l n Passed v w → Sought l m Passed v w
  sought_few n m Passed v w le a = record { marks = a.marks; walk = walked_few n m a.marks v w le a.walk; kept = a.kept; step = a.step; passed = a.passed }

  pub acted_few : (n m : ℕ) (v w : View) → n ≤ m → Acted l n v w → Acted l m v w
  acted_few n m v w le a = record { marks = a.marks; walk = walked_few n m a.marks v w le a.walk; kept = a.kept; step = a.step }

  pub sought_acted : (n : ℕ) (Passed : List Event → List Event → Type 0) (v w : View) → Sought l n Passed v w → Acted l n v w
  sought_acted n Passed v w a = record { marks = a.marks; walk = a.walk; kept = a.kept; step = a.step }

-- the steps from one view to another
pub steps_in : (l : Limits) (n : ℕ) (ms : List TraceEntry) (v w : View) → Stepped l n ms v w → opening_in v w ≡ opening_of v.seen ms
steps_in l n ms v w a = ap (opening_of v.seen) (ap (drop (length (hand v).trace)) a.traced ∙ drop_steps (hand v).trace ms)

-- what a caller sees of the steps of a call
module _ (t t' : Spot) (v w : View) (old : PassShown) (is : shown t v ≡ old) (l : Limits) (n : ℕ) (ms : List TraceEntry) (a : Stepped l n ms v w) where
  pub steps_are : steps_of old (shown t' w) ≡ ms
  steps_are = ap (λ (p : PassShown). drop (length p.trace) (hand w).trace) (sym is) ∙ (ap (drop (length (hand v).trace)) a.traced ∙ drop_steps (hand v).trace ms)

  pub opening_is : opening old (shown t' w) ≡ opening_of v.seen ms
  opening_is = ap (λ z. opening_of old.seen z) steps_are ∙ ap (λ (p : PassShown). opening_of p.seen ms) (sym is)

  follows_to : Climbs t t' → (m : ℕ) → n ≤ m → Follows m old (shown t' w)
  follows_to rises m le = record {
    shows = subst (λ (z : Limits). IsPassView z (pass_in w)) (sym a.steady.pass.1) a.steady.shows;
    number = a.number ∙ ap (λ (p : PassShown). p.number) is;
    traced = a.traced ∙ (ap (λ z. (hand v).trace ++ z) (sym steps_are) ∙ ap (λ (p : PassShown). p.trace ++ steps_of old (shown t' w)) is);
    few = let p = a.few in subst (λ z. length z ≤ m) (sym steps_are) (omega arith);
    opened = subst (IsPrefix old.seen) (sym opening_is) (subst (λ (p : PassShown). IsPrefix p.seen (opening_of v.seen ms)) is a.opens);
    closed = subst (λ z. IsPrefix z w.seen) (sym opening_is) a.closes;
    lows = subst (λ (p : PassShown). AllRise p.lows t'.lows) is rises.0;
    drawn = subst (λ (p : PassShown). p.seen_blocks ≤ t'.drawn) is rises.1;
  }

  pub at_point : (Holds : List Event → Type 0) (p : List Event) → IsPoint (opening_of v.seen ms) w.seen p → Holds p → AtPoint old (shown t' w) Holds
  at_point Holds p q h = (p, subst (λ z. IsPoint z w.seen p) (sym opening_is) q, h)

  pub has_looked : HasLook ms → HasLooked old (shown t' w)
  has_looked h = subst HasLook (sym steps_are) h

pub follows : (t t' : Spot) → Climbs t t' → (v w : View) (old : PassShown) → shown t v ≡ old → (l : Limits) (n : ℕ) (ms : List TraceEntry) → Stepped l n ms v w → (m : ℕ) → n ≤ m → Follows m old (shown t' w)
follows t t' rises v w old is l n ms a m le = follows_to t t' v w old is l n ms a rises m le

-- a call that neither loads nor raises a mark
pub rises_same : (lows : List (List ℕ)) → AllRise lows lows
rises_same lows c p = omega arith

-- nor the counter of drawn blocks
pub climbs_same : (lows : List (List ℕ)) (drawn : ℕ) → AllRise lows lows × (drawn ≤ drawn)
climbs_same lows drawn = (rises_same lows, omega arith)

pub rises_none : (lows : List ℕ) → NoneFalls lows lows
rises_none lows p = omega arith

-- what the pass remembers of one kind is known at any later time
pub remembers_kind : (c : ℕ) (lows : List ℕ) (l : Limits) (n : ℕ) (ms : List TraceEntry) (v w : View) → Stepped l n ms v w → Remembers c v lows → Remembers c w lows
remembers_kind c lows l n ms v w a r p some =
    let g : Goes l v w = record { limits = (a.limits, a.steady.pass.1); legal = a.steady.shows.legal; begins = walked_begins l n ms v w a; knows = a.knows } in
    subst (λ (z : Limits). MayRemember z c w p (slice_index lows p)) (sym a.steady.pass.1)
    (may_later l c v w p (slice_index lows p) g (subst (λ (z : Limits). MayRemember z c v p (slice_index lows p)) a.limits (r p some)))

-- and so is a gap
pub gaps_kind : (c : ℕ) (gaps : List ℕ) (l : Limits) (n : ℕ) (ms : List TraceEntry) (v w : View) → Stepped l n ms v w → RemembersGaps c v gaps → RemembersGaps c w gaps
gaps_kind c gaps l n ms v w a r p =
    let g : Goes l v w = record { limits = (a.limits, a.steady.pass.1); legal = a.steady.shows.legal; begins = walked_begins l n ms v w a; knows = a.knows } in
    gap_later c l v w (gap_in gaps p) g (r p)

-- and so is a unit that was committed
pub units_kept : (counts : List ℕ) (l : Limits) (n : ℕ) (ms : List TraceEntry) (v w : View) → Stepped l n ms v w → RemembersUnits v counts → RemembersUnits w counts
units_kept counts l n ms v w a r c u own low = let same : w.limits ≡ v.limits = a.steady.pass.1 ∙ sym a.limits in
    let t = r c u (subst (λ (z : Limits). IsUnitOf z c u) same own) (subst (λ (z : Limits). u < c * z.units + slice_index counts c) same low) in
    (t.0, t.1, end_stays v.seen w.seen u (Committed t.0 t.1) (walked_begins l n ms v w a) t.2)

-- and so is each one right before a unit
pub streak_kept : (l : Limits) (n end length : ℕ) (ms : List TraceEntry) (v w : View) → Stepped l n ms v w → AreCommitted v.seen end length → AreCommitted w.seen end length
streak_kept l n end length ms v w a r u low up = let t = r u low up in (t.0, t.1, end_stays v.seen w.seen u (Committed t.0 t.1) (walked_begins l n ms v w a) t.2)

-- and so of all kinds
pub remembers : {gaps : List (List ℕ)} {begins units : List ℕ} {streak : Streak} (lows : List (List ℕ)) (l : Limits) (n : ℕ) (ms : List TraceEntry) (v w : View) → Stepped l n ms v w → Recalls v lows gaps begins units streak → Recalls w lows gaps begins units streak
remembers {gaps} {begins} {units} {streak} lows l n ms v w a r = record {
  marks = λ c. remembers_kind c (marks_of lows c) l n ms v w a (r.marks c);
  gaps = λ c. gaps_kind c _ l n ms v w a (r.gaps c);
  behind = λ c. subst (λ (z : Limits). IsBehind z (marks_of lows c) (slice_index begins c)) (a.limits ∙ sym a.steady.pass.1) (r.behind c);
  committed = units_kept units l n ms v w a r.committed;
  streak = streak_kept l n streak.end streak.length ms v w a r.streak;
}
