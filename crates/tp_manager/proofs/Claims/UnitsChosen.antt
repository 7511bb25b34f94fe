-- A claim: the choice of a unit, and the scan.
use Rattle.std.proofs.Common.{◌≡◌, ℕ, ◌+◌, ◌*◌, ◌<◌, ◌≤◌, ◌==◌, Bool, true, false, cond, Option, Some, None, List, [], ◌∷◌, ◌++◌, sym, refl, ap, ◌∙◌, subst, arith}
use Rattle.std.specs.Option.{option_or}
use mathlib.Core.List.{IsPrefix}
use Rattle.tp_model.specs.declared.types.Element.{Element}
use Rattle.tp_model.specs.declared.types.Limits.{Limits}
use Rattle.tp_model.specs.declared.types.Claimed.TheVariants as claimeds
use Rattle.tp_model.specs.declared.event.Event.{Event}
use Rattle.tp_model.specs.declared.event.Event.TheVariants.{Claim}
use Rattle.tp_model.specs.declared.trace.StepKind.TheVariants as kinds
use Rattle.tp_model.specs.declared.trace.TraceEntry.{TraceEntry}
use Rattle.tp_model.specs.Passes.{opening_of}
use Rattle.tp_manager.proofs.Calls.Points.{opening_any}
use Rattle.tp_model.specs.History.{there, claim_by, claim_of, element_of, events_by, pass_of, status_of}
use Rattle.tp_model.specs.Steps.{IsLegal, Step, rows_of}
use Rattle.tp_model.proofs.Lists.{option_or-none}
use Rattle.tp_model.proofs.Histories.{legal_at, legal_start}
use Rattle.tp_model.proofs.Bridges.{begins_refl, begins_trans, new_claim}
use Rattle.tp_model.proofs.Later.{births_inside}
use Rattle.tp_rule.specs.Views.{SeatShown, hand, view_of}
use Rattle.tp_rule.specs.Steps.{Chooses, noted, tail_before, with_claim, with_spare}
use Rattle.tp_rule.specs.declared.view.Hand.{Hand}
use Rattle.tp_rule.specs.declared.view.View.{View}
use Rattle.tp_manager.specs.declared.manager.Run.{Run}
use Rattle.tp_manager.specs.declared.manager.Task.{Task}
use Rattle.tp_manager.specs.Shown.{Spot, PassShown, shown}
use Rattle.tp_manager.specs.Calls.{Claims, AtPoint, FoundNone, HasLooked, IsQuiet, IsWaiting, Opens, claims_in, opening}
use Rattle.tp_manager.specs.CallSteps.{Steady, Stepped, with_trace}
use Rattle.tp_manager.specs.BetweenCalls.{Rests}
use Rattle.tp_manager.specs.Scans.{EachRow, Sought, Took, PassedBy}
use Rattle.tp_manager.proofs.Calls.CallSteps.{grew_hand, grew_seen, has_looked, opening_is, grew_steady, walked_begins, walked_then}
use Rattle.tp_manager.proofs.Calls.Passes.{claims_append, done_walked, steady_at, task_later, drawn_later, cleared_later}

-- a unit that nobody claimed isn't in a pass's own claims
pub unused_mine : (c u : ℕ) (h : List Event) → claim_of h u ≡ None → claim_of (events_by c h) u ≡ None
unused_mine c u [] p = refl
unused_mine c u (e ∷ h) p = let t = option_or-none (claim_by u e) (claim_of h u) p in go (unused_mine c u h t.1) t.0 (pass_of e == c)
  where
    go : claim_of (events_by c h) u ≡ None → claim_by u e ≡ None → (b : Bool) → claim_of (cond b (e ∷ events_by c h) (events_by c h)) u ≡ None
    go r q true = ap (λ o. option_or o (claim_of (events_by c h) u)) q ∙ r
    go r q false = r

unused_start : (u : ℕ) (h g : List Event) → IsPrefix h g → claim_of g u ≡ None → claim_of h u ≡ None
unused_start u h g b p = starts h (ap (λ z. claim_of z u) b.1 ∙ p)
  where
    starts : (h : List Event) → claim_of (h ++ b.0) u ≡ None → claim_of h u ≡ None
    starts [] q = refl
    starts (e ∷ h) q = let t = option_or-none (claim_by u e) (claim_of (h ++ b.0) u) q in ap (λ o. option_or o (claim_of h u)) t.0 ∙ starts h t.1

module _ (l : Limits) (u : ℕ) (v w : View) (s : Steady l v) (g : Chooses v u w) where
  chose_hand : hand w ≡ noted kinds.UnitChoice w.seen (with_spare u (hand v))
  chose_hand = grew_hand l kinds.UnitChoice (with_spare u) [] v w s g

  pub chose_steady : Steady l w
  chose_steady = grew_steady l kinds.UnitChoice (with_spare u) [] v w s g refl

  abbrev pub choice : TraceEntry
  choice = record { kind = kinds.UnitChoice; seen = w.seen }

  pub chose_walked : Stepped l 1 (choice ∷ []) v w
  chose_walked = record {
    traced = ap (λ (a : Hand). a.trace) chose_hand;
    few = omega arith;
    opens = begins_refl v.seen;
    closes = grew_seen l kinds.UnitChoice (with_spare u) [] v w s g;
    number = ap (λ (a : Hand). a.number) chose_hand;
    limits = s.pass.1;
    steady = chose_steady;
    knows = g.knows;
  }

  -- nothing was found
  module _ (n stage : ℕ) (y : View) (a : Sought l n (EachRow (PassedBy l stage) 0 (rows_of l)) w y) where
    idle_hand : hand y ≡ with_trace (hand y).trace (with_spare u (hand v))
    idle_hand = a.kept ∙ ap (with_trace (hand y).trace) chose_hand

    pub idle_walked : Stepped l (1 + n) (choice ∷ a.marks) v y
    idle_walked = walked_then l 1 n (choice ∷ []) a.marks v w y chose_walked a.walk

    pub idle_quiet : (t t' : Spot) (old : PassShown) → shown t v ≡ old → IsQuiet old (shown t' y)
    idle_quiet t t' old is = record {
      mine = ap (λ (z : Hand). z.mine) idle_hand ∙ ap (λ (p : PassShown). p.mine) is;
      open_unit = ap (λ (z : Hand). z.open_unit) idle_hand ∙ ap (λ (p : PassShown). p.open_unit) is;
      run = (ap (λ (z : Hand). z.next) idle_hand ∙ ap (λ (p : PassShown). p.next) is, ap (λ (z : Hand). z.left) idle_hand ∙ ap (λ (p : PassShown). p.left) is, ap (λ (z : Hand). z.blocks) idle_hand ∙ ap (λ (p : PassShown). p.blocks) is);
    }

    abbrev first_look : List Event
    first_look = opening_of w.seen a.marks

    legal_look : IsLegal l first_look
    legal_look = legal_start l first_look a.walk.closes.0 (subst (IsLegal l) (sym a.walk.closes.1) a.walk.steady.shows.legal)

    pub idle_found : (t t' : Spot) (old : PassShown) → shown t v ≡ old → FoundNone l stage old (shown t' y)
    idle_found t t' old is = λ x q st.
        let o : opening old (shown t' y) ≡ first_look = opening_is t t' v y old is l (1 + n) (choice ∷ a.marks) idle_walked ∙ opening_any v.seen w.seen a.marks a.step in
        let born : element_of first_look x.id ≡ Some x = subst (λ z. element_of z x.id ≡ Some x) o q in
        let r = a.passed x.id (omega arith) (births_inside l first_look legal_look x born) x born st in
        (r.0, record { opened = subst (λ z. IsPrefix z r.0) (sym o) r.1; seen = r.2 }, r.3)

    pub idle_looked : (t t' : Spot) (old : PassShown) → shown t v ≡ old → HasLooked old (shown t' y)
    idle_looked t t' old is = has_looked t t' v y old is l (1 + n) (choice ∷ a.marks) idle_walked (a.step.0, there a.step.1, a.step.2)

    pub idle_answer : (used number : ℕ) (run : Run) (task : Option Task) (seat : SeatShown) (t t' : Spot) (old : PassShown) → view_of seat ≡ v → v.limits ≡ l → shown t v ≡ old → Rests seat number run used task → ¬ (used ≡ l.units)
        → Claims l stage old (shown t' y) claimeds.Idle
    idle_answer used number run task seat t t' old same lim is r not =
        let count : claims_in (hand v).mine ≡ used = subst (λ z. claims_in (hand z).mine ≡ used) same r.claims in
        let below : used ≤ l.units = subst (λ (z : Limits). used ≤ z.units) (ap (λ (z : View). z.limits) same ∙ lim) r.used_below in
        let room : claims_in (hand v).mine < l.units = omega arith in
        (subst (λ (z : PassShown). claims_in z.mine < l.units) is room, idle_quiet t t' old is, idle_looked t t' old is, idle_found t t' old is)

  -- an element was taken
  module _ (n from stage attempt : ℕ) (y : View) (x : Element) (k : Took l n from stage u w y x attempt) where
    took_hand : hand y ≡ with_trace (hand y).trace (with_claim u (Claim (hand v).number u x.id attempt) (noted kinds.UnitChoice w.seen (with_spare u (hand v))))
    took_hand = subst (λ (a : Hand). hand y ≡ with_trace (hand y).trace (with_claim u (Claim a.number u x.id attempt) a)) chose_hand k.kept

    pub took_walked : Stepped l (1 + n) (choice ∷ k.marks) v y
    took_walked = walked_then l 1 n (choice ∷ []) k.marks v w y chose_walked k.walk

    abbrev E : Event
    E = Claim (hand v).number u x.id attempt

    took_ends : y.seen ≡ k.before ++ E ∷ []
    took_ends = k.ends ∙ ap (λ (a : Hand). k.before ++ Claim a.number u x.id attempt ∷ []) chose_hand

    took_begins : IsPrefix v.seen k.before
    took_begins = begins_trans v.seen w.seen k.before (walked_begins l 1 _ v w chose_walked) k.begins

    took_step : Step l k.before E
    took_step = legal_at l k.before E [] (subst (IsLegal l) took_ends k.walk.steady.shows.legal)

    took_fresh : claim_of (hand v).mine u ≡ None
    took_fresh = ap (λ z. claim_of z u) s.shows.own ∙ unused_mine (hand v).number u v.seen (unused_start u v.seen k.before took_begins took_step.unused)

    legal_took : IsLegal l (opening_of w.seen k.marks)
    legal_took = legal_start l (opening_of w.seen k.marks) k.walk.closes.0 (subst (IsLegal l) (sym k.walk.closes.1) k.walk.steady.shows.legal)

    -- the rows that were passed
    pub took_first : (Ids : ℕ → Type 0) → ((i : ℕ) → i < rows_of l → Ids i → PassedBy l stage i (opening_of w.seen k.marks) y.seen) → (t t' : Spot) (old : PassShown) → shown t v ≡ old
        → (z : Element) → element_of (opening old (shown t' y)) z.id ≡ Some z → z.stage ≡ stage → Ids z.id → AtPoint old (shown t' y) (λ h. ¬ IsWaiting (status_of l.attempts h z.id))
    took_first Ids passed t t' old is = λ z q st id.
        let o : opening old (shown t' y) ≡ opening_of w.seen k.marks = opening_is t t' v y old is l (1 + n) (choice ∷ k.marks) took_walked ∙ opening_any v.seen w.seen k.marks k.step in
        let born : element_of (opening_of w.seen k.marks) z.id ≡ Some z = subst (λ h. element_of h z.id ≡ Some z) o q in
        let r = passed z.id (births_inside l (opening_of w.seen k.marks) legal_took z born) id z born st in
        (r.0, record { opened = subst (λ h. IsPrefix h r.0) (sym o) r.1; seen = r.2 }, r.3)

    pub took_answer : (used number : ℕ) (run : Run) (task : Option Task) (seat : SeatShown) (t t' : Spot) (old : PassShown) → view_of seat ≡ v → v.limits ≡ l → shown t v ≡ old → Rests seat number run used task → ¬ (used ≡ l.units) → u ≡ number * l.units + used
        → Opens l stage (record { unit = u; element = x; attempt = attempt }) old (shown t' y)
    took_answer used number run task seat t t' old same lim is r not next =
        let count : claims_in (hand v).mine ≡ used = subst (λ z. claims_in (hand z).mine ≡ used) same r.claims in
        let below : used ≤ l.units = subst (λ (z : Limits). used ≤ z.units) (ap (λ (z : View). z.limits) same ∙ lim) r.used_below in
        let num : (hand v).number ≡ number = subst (λ z. (hand z).number ≡ number) same r.number_is in
        subst (λ (p : PassShown). Opens l stage (record { unit = u; element = x; attempt = attempt }) p (shown t' y)) is record {
          room = omega arith;
          unit_is = next ∙ (ap (λ c. c * l.units + used) (sym num) ∙ ap (λ c. (hand v).number * l.units + c) (sym count));
          fresh = took_fresh;
          adds = record { mine = ap (λ (z : Hand). z.mine) took_hand; before = k.before; seen = took_ends; begins = took_begins };
          is_born = k.born;
          of_stage = k.of_stage;
          open_unit = ap (λ (z : Hand). z.open_unit) took_hand;
          run = (ap (λ (z : Hand). z.next) took_hand, ap (λ (z : Hand). z.left) took_hand, ap (λ (z : Hand). z.blocks) took_hand);
        }

pub chose_rests : (l : Limits) (u n stage number : ℕ) (run : Run) (used : ℕ) (task : Option Task) (seat next : SeatShown) (w : View) → (s : Steady l (view_of seat)) → Chooses (view_of seat) u w → Sought l n (EachRow (PassedBy l stage) 0 (rows_of l)) w (view_of next) → (view_of seat).limits ≡ l → Rests seat number run used task → Rests next number run used task
chose_rests l u n stage number run used task seat next w s g a same r =
    let h = idle_hand l u (view_of seat) w s g n stage (view_of next) a in let lim : l ≡ (view_of next).limits = sym a.walk.steady.pass.1 in record {
      steady = steady_at l (view_of next).limits (view_of next) lim a.walk.steady;
      number_is = ap (λ (z : Hand). z.number) h ∙ r.number_is;
      run_is = (ap (λ (z : Hand). z.next) h ∙ r.run_is.0, ap (λ (z : Hand). z.left) h ∙ r.run_is.1);
      tail = subst (λ (z : Hand). run.tail ≤ tail_before run.tail_stage z) (sym h) r.tail;
      drawn = drawn_later (view_of seat) (view_of next) run.drawn (sym (same ∙ lim)) (idle_walked l u (view_of seat) w s g n stage (view_of next) a).knows r.drawn;
      done = done_walked l (1 + n) _ (view_of seat) (view_of next) run.done same (idle_walked l u (view_of seat) w s g n stage (view_of next) a) r.done;
      used_is = ap (λ (z : Hand). z.claimed) h ∙ r.used_is;
      used_below = subst (λ (z : Limits). used ≤ z.units) (same ∙ lim) r.used_below;
      claims = ap (λ (z : Hand). claims_in z.mine) h ∙ r.claims;
      no_drafts = ap (λ (z : Hand). z.drafts) h ∙ r.no_drafts;
      cleared = cleared_later (view_of seat) (view_of next) (ap (λ (z : Hand). z.passed_from) h, ap (λ (z : Hand). z.passed_to) h) (idle_walked l u (view_of seat) w s g n stage (view_of next) a).knows r.cleared;
      blank = ap (λ (z : Hand). z.next_body) h ∙ r.blank;
      open_is = ap (λ (z : Hand). z.open_unit) h ∙ r.open_is;
      work = task_later (view_of seat).seen (view_of next).seen number task (walked_begins l (1 + n) _ _ _ (idle_walked l u (view_of seat) w s g n stage (view_of next) a)) r.work;
    }

pub took_rests : (l : Limits) (u n from stage attempt root row number : ℕ) (run : Run) (used : ℕ) (task : Option Task) (seat next : SeatShown) (w : View) (x : Element) → (s : Steady l (view_of seat)) → Chooses (view_of seat) u w → Took l n from stage u w (view_of next) x attempt → (view_of seat).limits ≡ l
    → x.root ≡ root → x.id ≡ row → ¬ (used ≡ l.units) → Rests seat number run used task → Rests next number run (used + 1) (Some (record { unit = u; root = root; row = row }))
took_rests l u n from stage attempt root row number run used task seat next w x s g k same root_is row_is not r =
    let v : View = view_of seat in let y : View = view_of next in
    let h = took_hand l u v w s g n from stage attempt y x k in let lim : l ≡ y.limits = sym k.walk.steady.pass.1 in
    let ends = took_ends l u v w s g n from stage attempt y x k in let unused = (took_step l u v w s g n from stage attempt y x k).unused in
    let below : used ≤ l.units = subst (λ (z : Limits). used ≤ z.units) same r.used_below in
    record {
      steady = steady_at l y.limits y lim k.walk.steady;
      number_is = ap (λ (z : Hand). z.number) h ∙ r.number_is;
      run_is = (ap (λ (z : Hand). z.next) h ∙ r.run_is.0, ap (λ (z : Hand). z.left) h ∙ r.run_is.1);
      tail = subst (λ (z : Hand). run.tail ≤ tail_before run.tail_stage z) (sym h) r.tail;
      drawn = drawn_later v y run.drawn (sym (same ∙ lim)) (took_walked l u v w s g n from stage attempt y x k).knows r.drawn;
      done = done_walked l (1 + n) _ v y run.done same (took_walked l u v w s g n from stage attempt y x k) r.done;
      used_is = ap (λ (z : Hand). z.claimed) h ∙ ap (λ z. z + 1) r.used_is;
      used_below = subst (λ (z : Limits). used + 1 ≤ z.units) lim (omega arith);
      claims = ap (λ (z : Hand). claims_in z.mine) h ∙ (claims_append (hand v).mine (Claim (hand v).number u x.id attempt ∷ []) ∙ (let c = r.claims in omega arith));
      no_drafts = ap (λ (z : Hand). z.drafts) h ∙ r.no_drafts;
      cleared = cleared_later v y (ap (λ (z : Hand). z.passed_from) h, ap (λ (z : Hand). z.passed_to) h) (took_walked l u v w s g n from stage attempt y x k).knows r.cleared;
      blank = ap (λ (z : Hand). z.next_body) h ∙ r.blank;
      open_is = ap (λ (z : Hand). z.open_unit) h;
      work = (x.id, attempt, x, subst (λ c. claim_of y.seen u ≡ Some (record { pass = c; item = x.id; attempt = attempt })) r.number_is (ap (λ z. claim_of z u) ends ∙ new_claim k.before (hand v).number u x.id attempt unused), k.born, root_is, row_is);
    }
