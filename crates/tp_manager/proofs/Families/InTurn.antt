-- What a cancel did at one element after the other.
use Rattle.std.proofs.Common.{ℕ, ◌+◌, List, [], ◌∷◌, ◌++◌, refl, sym, ◌∙◌, ap, subst, inl, inr, append_assoc}
use mathlib.Core.List.{IsPrefix}
use Rattle.tp_model.specs.declared.types.Limits.{Limits}
use Rattle.tp_model.specs.declared.event.Event.{Event}
use Rattle.tp_model.proofs.Bridges.{append_nil, begins_refl, begins_trans}
use Rattle.tp_rule.specs.Views.{hand}
use Rattle.tp_rule.specs.declared.view.View.{View}
use Rattle.tp_manager.specs.Calls.{AreOfHolders}
use Rattle.tp_manager.specs.Cancels.{AreInTurn, IsDoneAt}
use Rattle.tp_manager.specs.Endings.{CancelsIn}
use Rattle.tp_manager.specs.CallSteps.{Looked}
use Rattle.tp_manager.proofs.Families.Cancels.{swept_looked, swept_then, target_later}
use Rattle.tp_manager.proofs.Kills.OneKill.{held_later}
use Rattle.tp_manager.proofs.Calls.CallSteps.{looked_begins}

module _ (l : Limits) (c root : ℕ) where
  held_sooner : (i : ℕ) (s s' t : List Event) (es : List Event) → IsPrefix s s' → AreOfHolders l c i s' t es → AreOfHolders l c i s t es
  held_sooner i s s' t es b h e p = let r = h e p in record {
    unit = r.unit;
    attempt = r.attempt;
    before = r.before;
    is_abort = r.is_abort;
    begins = begins_trans s s' r.before b r.begins;
    held = r.held;
    within = r.within;
  }

  -- between longer histories
  pub done_wider : (s s' t t' : List Event) (i : ℕ) (es : List Event) → IsPrefix s s' → IsPrefix t t' → IsDoneAt l c root s' t i es → IsDoneAt l c root s t' i es
  done_wider s s' t t' i es sooner later (inl none) = inl none
  done_wider s s' t t' i es sooner later (inr d) =
      inr (target_later l root i t t' later d.0, d.1, held_later l c i s t t' d.1 later (held_sooner i s s' t d.1 sooner d.2), d.3)

  pub turns_wider : (s s' t t' : List Event) (ids : List ℕ) (es : List Event) → IsPrefix s s' → IsPrefix t t' → AreInTurn l c root s' t ids es → AreInTurn l c root s t' ids es
  turns_wider s s' t t' [] es sooner later none = none
  turns_wider s s' t t' (i ∷ ids) es sooner later d =
      (d.0, d.1, d.2, done_wider s s' t t' i d.0 sooner later d.3, turns_wider s s' t t' ids d.1 sooner later d.4)

  -- one element more
  pub turns_more : (s t : List Event) (ids : List ℕ) (es : List Event) (i : ℕ) (fs : List Event) → AreInTurn l c root s t ids es → IsDoneAt l c root s t i fs → AreInTurn l c root s t (ids ++ i ∷ []) (es ++ fs)
  turns_more s t [] es i fs none d = (fs, [], ap (λ z. z ++ fs) none ∙ sym (append_nil fs), d, refl)
  turns_more s t (j ∷ ids) es i fs a d =
      (a.0, a.1 ++ fs, ap (λ z. z ++ fs) a.2 ∙ append_assoc a.0 a.1 fs, a.3, turns_more s t ids a.1 i fs a.4 d)

-- a look before it
pub cancels_after : (l : Limits) (root n m killed : ℕ) (v w y : View) → Looked l n v w → CancelsIn l m root killed w y → CancelsIn l (n + m) root killed v y
cancels_after l root n m killed v w y a b = record {
  events = b.events;
  swept = swept_then l root n m [] b.events v w y (swept_looked l root n v w a) b.swept;
  counted = b.counted;
  walk = b.walk;
  in_order = b.in_order;
  whole = b.whole;
  turns = turns_wider l (hand v).number root v.seen w.seen y.seen y.seen b.walk b.events (looked_begins l n v w a) (begins_refl y.seen)
      (subst (λ z. AreInTurn l z root w.seen y.seen b.walk b.events) a.walk.number b.turns);
  settled = b.settled;
}
