-- Steps after which nothing more is seen: draft stores, and the exchanges of a mark and of the counter of drawn blocks.
use Rattle.std.proofs.Common.{◌≡◌, ℕ, ◌<◌, Bool, false, if◌then◌else◌, List, [], ◌∷◌, ◌++◌, Some, sym, ap, ◌∙◌, subst, arith}
use mathlib.Core.List.{IsPrefix}
use Rattle.tp_model.specs.declared.types.Limits.{Limits}
use Rattle.tp_model.specs.declared.event.Event.{Event}
use Rattle.tp_model.specs.declared.trace.StepKind.{StepKind}
use Rattle.tp_model.specs.History.{In, events_by}
use Rattle.tp_model.specs.Passes.{AreEnded, IsOwnOpen, IsRun, looks, opening_of}
use Rattle.tp_model.specs.Steps.{IsLegal}
use Rattle.tp_model.proofs.Bridges.{begins_refl}
use Rattle.tp_rule.specs.Views.{IsOnePass, hand}
use Rattle.tp_rule.specs.Steps.{IsSo, Knows, after, noted}
use Rattle.tp_rule.specs.declared.view.Hand.{Hand}
use Rattle.tp_rule.specs.declared.view.Known.{Known}
use Rattle.tp_rule.specs.declared.view.View.{View}
use Rattle.tp_rule.proofs.Reading.{one_after}
use Rattle.tp_manager.specs.CallSteps.{Steady, Stepped}

module _ (l : Limits) (kind : StepKind) (f : Hand → Hand) (known : List Known) (v w : View) (s : Steady l v) (is : w ≡ after kind f v.seen known v) where
  unseen_after : IsOnePass w × (hand w ≡ noted kind v.seen (f (hand v))) × (w.limits ≡ v.limits)
  unseen_after = one_after kind f v.seen known v w s.pass.0 is

  pub unseen_hand : hand w ≡ noted kind v.seen (f (hand v))
  unseen_hand = unseen_after.1

  pub unseen_seen : w.seen ≡ v.seen
  unseen_seen = ap (λ (z : View). z.seen) is

  pub unseen_limits : w.limits ≡ l
  unseen_limits = unseen_after.2 ∙ s.pass.1

  pub unseen_steady : (f (hand v)).number ≡ (hand v).number → IsRun l v.seen (f (hand v)).number (f (hand v)).blocks (f (hand v)).next (f (hand v)).left → (f (hand v)).mine ≡ (hand v).mine → (f (hand v)).open_unit ≡ (hand v).open_unit
      → ((x : Known) → In x known → IsSo l v.seen x) → Steady l w
  unseen_steady number run mine open_unit so =
      let h = unseen_hand in
      let c : (hand w).number ≡ (hand v).number = ap (λ (a : Hand). a.number) h ∙ number in
      record {
        pass = (unseen_after.0, unseen_limits);
        shows = record {
          given = subst (λ n. n < l.parts) (sym c) s.shows.given;
          legal = subst (IsLegal l) (sym unseen_seen) s.shows.legal;
          own = ap (λ (a : Hand). a.mine) h ∙ (mine ∙ (s.shows.own ∙ (ap (events_by (hand v).number) (sym unseen_seen) ∙ ap (λ n. events_by n w.seen) (sym c))));
          run = subst (λ (a : Hand). IsRun l w.seen a.number a.blocks a.next a.left) (sym h) (subst (λ z. IsRun l z (f (hand v)).number (f (hand v)).blocks (f (hand v)).next (f (hand v)).left) (sym unseen_seen) run);
          open_own = λ u is. let same : (hand v).open_unit ≡ Some u = sym (ap (λ (a : Hand). a.open_unit) h ∙ open_unit) ∙ is in
              subst (λ (z : List Event × ℕ). IsOwnOpen z.0 z.1 u) (λ i. (sym unseen_seen i, sym c i)) (s.shows.open_own u same);
          ended = λ u i n claim not.
              subst (λ (z : List Event × ℕ). AreEnded z.0 z.1 (hand v).open_unit) (λ k. (sym unseen_seen k, sym c k)) s.shows.ended u i n claim (λ is. not (ap (λ (a : Hand). a.open_unit) h ∙ (open_unit ∙ is)));
        };
        known = λ x q. subst (λ h. IsSo l h x) (sym unseen_seen) (so x (subst (λ (z : View). Knows z x) is q));
      }

  opens_none : looks kind ≡ false → opening_of v.seen (record { kind = kind; seen = v.seen } ∷ []) ≡ v.seen
  opens_none blind = ap (λ (b : Bool). if b then v.seen else v.seen) blind

  pub unseen_walked : looks kind ≡ false → (f (hand v)).number ≡ (hand v).number → (f (hand v)).trace ≡ (hand v).trace → ((x : Known) → Knows v x → In x known) → Steady l w → Stepped l 1 (record { kind = kind; seen = v.seen } ∷ []) v w
  unseen_walked blind number trace more steady = record {
    traced = ap (λ (a : Hand). a.trace) unseen_hand ∙ ap (λ t. t ++ record { kind = kind; seen = v.seen } ∷ []) trace;
    few = omega arith;
    opens = subst (IsPrefix v.seen) (sym (opens_none blind)) (begins_refl v.seen);
    closes = subst (λ z. IsPrefix z w.seen) (sym (opens_none blind)) (subst (IsPrefix v.seen) (sym unseen_seen) (begins_refl v.seen));
    number = ap (λ (a : Hand). a.number) unseen_hand ∙ number;
    limits = s.pass.1;
    steady = steady;
    knows = λ x q. subst (λ (z : View). Knows z x) (sym is) (more x q);
  }
