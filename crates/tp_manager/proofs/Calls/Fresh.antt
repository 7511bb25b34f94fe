-- A pass that was just given out.
use Rattle.std.proofs.Common.{◌≡◌, ℕ, zero, suc, ◌+◌, ◌-◌, ◌*◌, ◌<◌, ◌≤◌, List, [], ◌∷◌, length, replicate, slice_index, sym, refl, ap, ◌∙◌, subst, arith, None, inl}
use Rattle.std.proofs.lemmas.List.{get_or-replicate, get_or_past, length-replicate}
use Rattle.tp_manager.specs.Marks.{gap_in}
use mathlib.Core.Logic.{dite}
use native.Mathlib.Decide.{dec_le}
use Rattle.tp_model.specs.declared.types.Limits.{Limits}
use Rattle.tp_model.specs.declared.event.Event.{Event}
use Rattle.tp_model.specs.declared.trace.StepKind.TheVariants as kinds
use Rattle.tp_model.specs.History.{IsClaim, IsUnborn, claim_of, events_by}
use Rattle.tp_model.specs.Steps.{AreLimits, IsLegal}
use Rattle.tp_model.specs.Passes.{IsPassView, IsRun}
use Rattle.tp_model.proofs.Bridges.{in_none}
use Rattle.tp_model.proofs.Histories.{legal_empty}
use Rattle.tp_model.proofs.Takings.{own_claim}
use Rattle.tp_rule.specs.Views.{SeatShown, first_hand, first_view, fresh, fresh_from, hand, view_of}
use Rattle.tp_rule.specs.Steps.{IsSo, Knows, handed_out, handed_on, front_of, rest_of, looked, noted}
use Rattle.tp_rule.specs.declared.view.Hand.{Hand}
use Rattle.tp_rule.specs.declared.view.View.{View}
use Rattle.tp_manager.specs.Shown.{marks_of, steps_in}
use Rattle.tp_manager.specs.CallSteps.{IsKnown, pass_in, with_trace}
use Rattle.tp_manager.specs.BetweenCalls.{Keeps, Rests, untraced}
use Rattle.tp_manager.specs.Calls.{claims_in}
use Rattle.tp_manager.proofs.Rows.OwnRows.{unborn_quiet}

-- the first of some passes that are known but for their traces
pub front_of_untraced : (hs : List Hand) (b : Hand) (bs : List Hand) → untraced hs ≡ b ∷ bs → (hs ≡ first_hand hs ∷ rest_of hs) × (with_trace [] (first_hand hs) ≡ b) × (untraced (rest_of hs) ≡ bs)
front_of_untraced [] b bs e = absurd cc
front_of_untraced (a ∷ hs) b bs e = (refl, ap first_hand e, ap rest_of e)

fresh_untraced : (l : Limits) (c n : ℕ) → untraced (fresh_from l c n) ≡ fresh_from l c n
fresh_untraced l c zero = refl
fresh_untraced l c (suc n) = ap (λ hs. fresh l c ∷ hs) (fresh_untraced l (c + 1) n)

-- passes that have done nothing have made no step
fresh_steps : (l : Limits) (c n : ℕ) → steps_in (fresh_from l c n) ≡ 0
fresh_steps l c zero = refl
fresh_steps l c (suc n) = let rest = fresh_steps l (c + 1) n in omega arith

pub first_none : (v : View) (l : Limits) → v ≡ first_view l → steps_in v.hands ≡ 0
first_none v l is = ap (λ (z : View). steps_in z.hands) is ∙ fresh_steps l 0 l.parts

-- the keeper of a table in which nothing has happened
pub first_keeps : (seat : SeatShown) (l : Limits) → AreLimits l → view_of seat ≡ first_view l → Keeps seat l 0
first_keeps seat l valid is = let none : (view_of seat).seen ≡ [] = ap (λ (v : View). v.seen) is in record {
  valid = valid;
  limits_are = ap (λ (v : View). v.limits) is;
  below = omega arith;
  rest = let all : l.parts ≡ l.parts - 0 = omega arith in ap (λ (v : View). untraced v.hands) is ∙ (fresh_untraced l 0 l.parts ∙ ap (fresh_from l 0) all);
  legal = subst (IsLegal l) (sym none) (legal_empty l);
  known = λ x q. absurd (in_none (subst (λ (v : View). Knows v x) is q));
  none = λ c low. ap (events_by c) none;
}

module _ (seat : SeatShown) (l : Limits) (given : ℕ) (k : Keeps seat l given) (left : ¬ (given ≡ l.parts)) where
  abbrev next_pass : Hand
  next_pass = first_hand (view_of seat).hands

  hands_are : ((view_of seat).hands ≡ next_pass ∷ rest_of (view_of seat).hands) × (with_trace [] next_pass ≡ fresh l given) × (untraced (rest_of (view_of seat).hands) ≡ fresh_from l (given + 1) (l.parts - (given + 1)))
  hands_are = let below = k.below in let more : l.parts - given ≡ suc (l.parts - (given + 1)) = omega arith in front_of_untraced (view_of seat).hands (fresh l given) _ (k.rest ∙ ap (fresh_from l given) more)

  pub still_below : given + 1 ≤ l.parts
  still_below = let below = k.below in omega arith

  pub keeps_on : (next : SeatShown) → view_of next ≡ handed_on (view_of seat) → Keeps next l (given + 1)
  keeps_on next is = let same : (view_of next).seen ≡ (view_of seat).seen = ap (λ (v : View). v.seen) is in record {
    valid = k.valid;
    limits_are = ap (λ (v : View). v.limits) is ∙ k.limits_are;
    below = still_below;
    rest = ap (λ (v : View). untraced v.hands) is ∙ hands_are.2;
    legal = subst (IsLegal l) (sym same) k.legal;
    known = λ x q. subst (λ h. IsSo l h x) (sym same) (k.known x (subst (λ (v : View). Knows v x) is q));
    none = λ c low. ap (events_by c) same ∙ k.none c (omega arith);
  }

  module _ (next : SeatShown) (is : view_of next ≡ handed_out (view_of seat)) where
    out : (view_of next).hands ≡ noted kinds.SeatLoad (view_of seat).seen next_pass ∷ []
    out = ap (λ (v : View). v.hands) is ∙ ap (λ hs. looked (view_of seat) (front_of hs)) hands_are.0

    out_hand : hand (view_of next) ≡ noted kinds.SeatLoad (view_of seat).seen next_pass
    out_hand = ap first_hand out

    pub fresh_hand : with_trace [] (hand (view_of next)) ≡ fresh l given
    fresh_hand = ap (with_trace []) out_hand ∙ hands_are.1

    pub fresh_seen : (view_of next).seen ≡ (view_of seat).seen
    fresh_seen = ap (λ (v : View). v.seen) is

    pub fresh_limits : (view_of next).limits ≡ l
    fresh_limits = ap (λ (v : View). v.limits) is ∙ k.limits_are

    fresh_none : events_by given (view_of next).seen ≡ []
    fresh_none = ap (events_by given) fresh_seen ∙ k.none given (omega arith)

    unclaimed : (c u i n : ℕ) → events_by c (view_of next).seen ≡ [] → IsClaim (view_of next).seen c u i n → ⊥
    unclaimed c u i n none claim = let own = own_claim (view_of next).seen u (record { pass = c; item = i; attempt = n }) claim in let gone = ap (λ h. claim_of h u) none in cc

    fresh_legal : IsLegal l (view_of next).seen
    fresh_legal = subst (IsLegal l) (sym fresh_seen) k.legal

    -- none of its rows is born
    fresh_unborn : (i : ℕ) → given * l.rows ≤ i → i < given * l.rows + l.rows → IsUnborn (view_of next).seen i
    fresh_unborn i low high = let more = still_below in let few : length (events_by given (view_of next).seen) ≤ 0 = let e = ap length fresh_none in omega arith in
        unborn_quiet l given i (omega arith, low, high) [] refl (view_of next).seen fresh_legal ((view_of next).seen, refl) few

    pub fresh_shows : IsPassView (view_of next).limits (pass_in (view_of next))
    fresh_shows = let h = fresh_hand in let number : (hand (view_of next)).number ≡ given = ap (λ (a : Hand). a.number) h in let row : (hand (view_of next)).next ≡ given * l.rows = ap (λ (a : Hand). a.next) h in let rest : (hand (view_of next)).left ≡ l.rows = ap (λ (a : Hand). a.left) h in
        subst (λ (z : Limits). IsPassView z (pass_in (view_of next))) (sym fresh_limits) record {
          given = let more = still_below in omega arith;
          legal = fresh_legal;
          own = ap (λ (a : Hand). a.mine) h ∙ (sym fresh_none ∙ ap (λ n. events_by n (view_of next).seen) (sym number));
          run = subst (λ (a : Hand). IsRun l (view_of next).seen a.number a.blocks a.next a.left) (sym h) record {
            drawn = tt;
            first = given * l.rows;
            end = given * l.rows + l.rows;
            own = inl ((let more = still_below in omega arith), refl, refl);
            begins = omega arith;
            ends = refl;
            unborn = fresh_unborn;
            usable = λ i low high. inl ((let more = still_below in omega arith), low, high);
          };
          open_own = λ u is. let none : (hand (view_of next)).open_unit ≡ None = ap (λ (a : Hand). a.open_unit) h in absurd cc;
          ended = λ u i n claim not. absurd (unclaimed (hand (view_of next)).number u i n (ap (λ c. events_by c (view_of next).seen) number ∙ fresh_none) claim);
        }

    fresh_known : IsKnown (view_of next).limits (view_of next)
    fresh_known x q = subst (λ (z : Limits × List Event). IsSo z.0 z.1 x) (λ i. (sym fresh_limits i, sym fresh_seen i)) (k.known x (subst (λ (v : View). Knows v x) is q))

    pub fresh_rests : Rests next given (record { next = given * l.rows; left = l.rows; tail = 0; tail_stage = 0; drawn = 0; done = None }) 0 None
    fresh_rests = let h = fresh_hand in record {
      steady = record { pass = (out ∙ ap (λ (a : Hand). a ∷ []) (sym out_hand), refl); shows = fresh_shows; known = fresh_known };
      number_is = ap (λ (a : Hand). a.number) h;
      run_is = (ap (λ (a : Hand). a.next) h, ap (λ (a : Hand). a.left) h);
      tail = omega arith;
      drawn = (omega arith, λ some. absurd (omega arith));
      done = λ i is. absurd cc;
      used_is = ap (λ (a : Hand). a.claimed) h;
      used_below = omega arith;
      claims = ap (λ (a : Hand). claims_in a.mine) h;
      no_drafts = ap (λ (a : Hand). a.drafts) h;
      cleared = λ i low high. let none : (hand (view_of next)).passed_to ≡ 0 = ap (λ (a : Hand). a.passed_to) h in absurd (omega arith);
      blank = ap (λ (a : Hand). a.next_body) h;
      open_is = ap (λ (a : Hand). a.open_unit) h;
      work = tt;
    }

-- it remembers no mark
pub none_in : (n p : ℕ) → slice_index (replicate n 0) p ≡ 0
none_in n p = dite (dec_le (suc p) n) (λ less. get_or-replicate n p 0 0 less) (λ not. get_or_past (replicate n 0) p 0 (subst (λ z. z ≤ p) (sym (length-replicate n 0)) (omega arith)))

pub no_lows : (m n c p : ℕ) → slice_index (marks_of (replicate m (replicate n 0)) c) p ≡ 0
no_lows m n c p = let all = replicate m (replicate n 0) in dite (dec_le (suc c) m)
    (λ less. ap (λ (row : List ℕ). slice_index row p) (get_or-replicate m c (replicate n 0) [] less) ∙ none_in n p)
    (λ not. ap (λ (row : List ℕ). slice_index row p) (get_or_past all c [] (subst (λ z. z ≤ c) (sym (length-replicate m (replicate n 0))) (omega arith))))

-- nor a gap
pub no_gaps : (m n c p : ℕ) → gap_in (marks_of (replicate m (replicate n 0)) c) p ≡ (0, 0, 0)
no_gaps m n c p = λ i. (no_lows m n c (3 * p) i, no_lows m n c (3 * p + 1) i, no_lows m n c (3 * p + 2) i)
