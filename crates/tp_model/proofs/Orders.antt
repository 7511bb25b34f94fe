-- A walk goes on, and its order stays.
use Rattle.std.proofs.Common.{◌≡◌, ◌⊎◌, ℕ, ◌+◌, ◌<◌, ◌≤◌, Some, List, [], ◌∷◌, ◌++◌, refl, sym, ◌∙◌, ap, subst, inl, inr, ⊎_elim, append_assoc}
use mathlib.Core.List.{IsPrefix}
use Rattle.tp_model.specs.declared.types.Limits.{Limits}
use Rattle.tp_model.specs.declared.types.Status.TheVariants.{Consumed}
use Rattle.tp_model.specs.declared.event.Event.{Event}
use Rattle.tp_model.specs.History.{In, here, there, Committed, end_of, status_of}
use Rattle.tp_model.specs.Orders.{IsNext, IsReached, IsWalk, LeadsTo}
use Rattle.tp_model.specs.Steps.{IsLegal}
use Rattle.tp_model.proofs.Bridges.{append_nil, end_stays, in_left, in_right}
use Rattle.tp_model.proofs.Descents.{consumed_later}

module _ (l : Limits) where
  pub leads_later : (h g : List Event) (i j : ℕ) → IsLegal l g → IsPrefix h g → LeadsTo l.attempts h i j → LeadsTo l.attempts g i j
  leads_later h g i j legal begins t = record {
    unit = t.unit;
    consumed = consumed_later l h g i t.unit legal begins t.consumed;
    first = t.first;
    count = t.count;
    ended = end_stays h g t.unit (Committed t.first t.count) begins t.ended;
    low = t.low;
    high = t.high;
  }

  module _ (root : ℕ) where
    pub reached_later : (h g : List Event) (gone : List ℕ) (j : ℕ) → IsLegal l g → IsPrefix h g → IsReached l.attempts h root gone j → IsReached l.attempts g root gone j
    reached_later h g gone j legal begins (inl q) = inl q
    reached_later h g gone j legal begins (inr t) = inr (t.0, t.1, leads_later h g t.0 j legal begins t.2)

    pub reached_more : (h : List Event) (gone : List ℕ) (i j : ℕ) → IsReached l.attempts h root gone j → IsReached l.attempts h root (gone ++ i ∷ []) j
    reached_more h gone i j (inl q) = inl q
    reached_more h gone i j (inr t) = inr (t.0, in_left (i ∷ []) t.1, t.2)

    -- the walk goes on from one more
    pub walk_more : (h : List Event) (gone ids : List ℕ) (i : ℕ) → IsWalk l.attempts h root gone ids → IsNext l.attempts h root (gone ++ ids) i → IsWalk l.attempts h root gone (ids ++ i ∷ [])
    walk_more h gone [] i w next = (subst (λ z. IsNext l.attempts h root z i) (append_nil gone) next, tt)
    walk_more h gone (j ∷ ids) i w next = (w.0, walk_more h (gone ++ j ∷ []) ids i w.1 (subst (λ z. IsNext l.attempts h root z i) (sym (append_assoc gone (j ∷ []) ids)) next))

    -- the elements that these lead to later are those that they led to
    abbrev pub LedAll : List Event → List Event → List ℕ → Type 0
    LedAll h g ids = (i j : ℕ) → In i ids → LeadsTo l.attempts g i j → LeadsTo l.attempts h i j

    pub next_later : (h g : List Event) (gone : List ℕ) (i : ℕ) → IsLegal l g → IsPrefix h g → LedAll h g gone → IsNext l.attempts h root gone i → IsNext l.attempts g root gone i
    next_later h g gone i legal begins led next = record {
      reached = reached_later h g gone i legal begins next.reached;
      fresh = next.fresh;
      least = λ j r not. next.least j (⊎_elim (λ q. inl q) (λ t. inr (t.0, t.1, led t.0 j t.1 t.2)) r) not;
    }

    -- so the order is the same
    pub walk_later : (h g : List Event) (gone ids : List ℕ) → IsLegal l g → IsPrefix h g → LedAll h g (gone ++ ids) → IsWalk l.attempts h root gone ids → IsWalk l.attempts g root gone ids
    walk_later h g gone [] legal begins led w = tt
    walk_later h g gone (i ∷ ids) legal begins led w = (
      next_later h g gone i legal begins (λ k j p. led k j (in_left (i ∷ ids) p)) w.0,
      walk_later h g (gone ++ i ∷ []) ids legal begins (subst (LedAll h g) (sym (append_assoc gone (i ∷ []) ids)) led) w.1,
    )
