-- A pass that made only events of a kind.
use Rattle.std.proofs.Common.{◌≡◌, List, [], ◌∷◌, ◌++◌, sym, ◌∙◌, ap, append_assoc, append-nil}
use Rattle.std.proofs.lemmas.List.Elements.{All-append, All-nil, All-cons, All-weaker}
use Rattle.tp_model.specs.declared.event.Event.{Event}
use Rattle.tp_manager.specs.Shown.{PassShown}
use Rattle.tp_workers.specs.Gains.{GainsOnly}

module _ (Is : Event → Type 0) where
  pub gains_none : (p q : PassShown) → q.mine ≡ p.mine → GainsOnly Is p q
  gains_none p q same = ([], same ∙ sym (append-nil p.mine), All-nil Is)

  pub gains_one : (p q : PassShown) (e : Event) → q.mine ≡ p.mine ++ e ∷ [] → Is e → GainsOnly Is p q
  gains_one p q e adds is = (e ∷ [], adds, All-cons Is e [] is (All-nil Is))

  pub gains_then : (p m q : PassShown) → GainsOnly Is p m → GainsOnly Is m q → GainsOnly Is p q
  gains_then p m q a b =
      (a.0 ++ b.0, b.1 ∙ (ap (λ (l : List Event). l ++ b.0) a.1 ∙ append_assoc p.mine a.0 b.0), All-append Is a.0 b.0 a.2 b.2)

pub gains_weaker : (P Q : Event → Type 0) (p q : PassShown) → ((e : Event) → P e → Q e) → GainsOnly P p q → GainsOnly Q p q
gains_weaker P Q p q weaker a = (a.0, a.1, All-weaker P Q weaker a.0 a.2)
