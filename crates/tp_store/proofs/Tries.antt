-- A try comes once.
use Rattle.std.proofs.Common.{◌≡◌, ◌⊎◌, inl, inr, ◌+◌, ◌≤◌, ◌<◌, ℕ, Some, List, [], ◌∷◌, refl, sym, ◌∙◌, ap, subst, arith}
use Rattle.tp_store.specs.declared.element.Element.{Element}
use Rattle.tp_store.specs.declared.element.Status.{Status}
use Rattle.tp_store.specs.declared.element.Status.TheVariants.{Waiting, Held, Consumed, Parked, Killed}
use Rattle.tp_store.specs.Changes.{earlier_after, Goes, Turns}
use Rattle.tp_store.specs.Elements.{element_at}
use Rattle.tp_store.specs.Runs.{after, Call, run}
use Rattle.tp_store.specs.Soundness.{IsSound}
use Rattle.tp_store.specs.State.{State}
use Rattle.tp_store.specs.Tries.{tries_of, TriesComeOnce}
use Rattle.tp_store.proofs.Leading.{calls_follow}
use Rattle.tp_store.proofs.Lasts.{remains}

-- what an element, taken so often before its round, is behind the try t, which was that of the unit u
abbrev Behind : ℕ → ℕ → ℕ → Status → Type 0
Behind t u earlier (Held v n) = ((v ≡ u) × (earlier + n ≡ t)) ⊎ (t < earlier + n)
Behind t u earlier (Waiting n) = t ≤ earlier + n
Behind t u earlier (Parked n) = t ≤ earlier + n
Behind t u earlier (Consumed v) = Unit {0}
Behind t u earlier Killed = Unit {0}

module _ (t u : ℕ) where
  held : (earlier n v : ℕ) → Behind t u earlier (Held v n) → t ≤ earlier + n
  held earlier n v (inl is) = let same = is.1 in omega arith
  held earlier n v (inr later) = omega arith

  still : (stage earlier last : ℕ) (x y : Status) → y ≡ x → last ≡ earlier_after x y earlier → Behind t u earlier x → Behind t u last y
  still stage earlier last (Waiting n) y same is behind = rw (same, is ∙ ap (λ z. earlier_after (Waiting n) z earlier) same) behind
  still stage earlier last (Held v n) y same is behind = rw (same, is ∙ ap (λ z. earlier_after (Held v n) z earlier) same) behind
  still stage earlier last (Consumed v) y same is behind = rw same tt
  still stage earlier last (Parked n) y same is behind = rw (same, is ∙ ap (λ z. earlier_after (Parked n) z earlier) same) behind
  still stage earlier last Killed y same is behind = rw same tt

  turned : (stage earlier last : ℕ) (x y : Status) → Turns stage x y → last ≡ earlier_after x y earlier → Behind t u earlier x → Behind t u last y
  turned stage earlier last (Waiting n) y (inl (v, to)) is behind = rw (to, is ∙ ap (λ z. earlier_after (Waiting n) z earlier) to) (inr (omega arith))
  turned stage earlier last (Waiting n) y (inr (inl to)) is behind = rw to tt
  turned stage earlier last (Waiting n) y (inr (inr (reply, v, to))) is behind = rw to tt
  turned stage earlier last (Held v n) y (inl to) is behind = rw to tt
  turned stage earlier last (Held v n) y (inr (inl to)) is behind = rw (to, is ∙ ap (λ z. earlier_after (Held v n) z earlier) to) (held earlier n v behind)
  turned stage earlier last (Held v n) y (inr (inr (inl to))) is behind = rw (to, is ∙ ap (λ z. earlier_after (Held v n) z earlier) to) (held earlier n v behind)
  turned stage earlier last (Held v n) y (inr (inr (inr to))) is behind = rw to tt
  turned stage earlier last (Parked n) y (inl to) is behind = rw (to, is ∙ ap (λ z. earlier_after (Parked n) z earlier) to) (omega arith)
  turned stage earlier last (Parked n) y (inr to) is behind = rw to tt
  turned stage earlier last (Consumed v) y turn is behind = absurd turn
  turned stage earlier last Killed y turn is behind = absurd turn

  goes_behind : (old now : Element) → Goes old now → Behind t u old.earlier old.status → Behind t u now.earlier now.status
  goes_behind old now goes behind = go goes.status
    where
      go : (now.status ≡ old.status) ⊎ Turns old.stage old.status now.status → Behind t u now.earlier now.status
      go (inl same) = still old.stage old.earlier now.earlier old.status now.status same goes.earlier behind
      go (inr turn) = turned old.stage old.earlier now.earlier old.status now.status turn goes.earlier behind

  runs_behind : (calls : List Call) (s : State) (id : ℕ) (old now : Element) → IsSound s → element_at id s.elements ≡ Some old → element_at id (run calls s).elements ≡ Some now → Behind t u old.earlier old.status → Behind t u now.earlier now.status
  runs_behind [] s id old now sound was found behind = let both : Some old ≡ Some now = sym was ∙ found in let same : old ≡ now = cc in subst (λ (x : Element). Behind t u x.earlier x.status) same behind
  runs_behind (call ∷ calls) s id old now sound was found behind =
      let there = remains call calls s id old now sound was found in
      runs_behind calls (after call s) id there.now now (calls_follow call s sound).0 there.found found (goes_behind old there.now there.goes behind)

pub tries_come_once : TriesComeOnce
tries_come_once calls s id u v m n old now sound was held found holds =
    let behind = runs_behind (tries_of old) u calls s id old now sound was found (rw held (inl (refl, refl))) in
    rw holds (subst (λ x. Behind (tries_of old) u now.earlier x) holds behind)
