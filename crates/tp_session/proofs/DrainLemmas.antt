-- Rounds, one after another.
use Rattle.std.proofs.Common.{◌≡◌, ◌∙◌, ℕ, suc, List, true, false, refl, sym, ap}
use Rattle.std.specs.Prelude.{if◌then◌else◌}
use Rattle.tp_server.specs.declared.order.Order.{Order}
use Rattle.tp_store.specs.State.{State}
use Rattle.tp_session.specs.Drains.{round, rounds}
use Rattle.tp_session.specs.State.{ServerView}

module _ (order : Order) (vs : List ServerView) (s : State) where
  unfold_rounds : (m : ℕ) → rounds order (suc m) vs s ≡ (let r = round order vs s in if r.took then rounds order m r.servers r.store else r)
  unfolding rounds
  unfold_rounds m = refl

  pub rounds_none : (n : ℕ) → n ≡ 0 → rounds order n vs s ≡ record { took = true; servers = vs; store = s }
  unfolding rounds
  rounds_none n is = ap (λ k. rounds order k vs s) is

  pub rounds_more : (n m : ℕ) (servers : List ServerView) (store : State) → n ≡ suc m → record { took = true; servers = servers; store = store } ≡ round order vs s
      → rounds order n vs s ≡ rounds order m servers store
  rounds_more n m servers store is e =
      ap (λ k. rounds order k vs s) is ∙ unfold_rounds m ∙ ap (λ r. if r.took then rounds order m r.servers r.store else r) (sym e)

  pub rounds_end : (n m : ℕ) (servers : List ServerView) (store : State) → n ≡ suc m → record { took = false; servers = servers; store = store } ≡ round order vs s
      → rounds order n vs s ≡ record { took = false; servers = servers; store = store }
  rounds_end n m servers store is e =
      ap (λ k. rounds order k vs s) is ∙ unfold_rounds m ∙ ap (λ r. if r.took then rounds order m r.servers r.store else r) (sym e)
