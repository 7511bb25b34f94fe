-- Between two histories in which the claim words of an element differ, it left the status in which it was found.
use Rattle.std.proofs.Common.{◌≡◌, ◌⊎◌, ℕ, List, [], ◌∷◌, ◌++◌, sym, refl, ap, ◌∙◌, subst, inl, inr, ⊎_elim}
use Rattle.std.proofs.lemmas.Bool.Decides.{eqb_tells}
use mathlib.Core.List.{IsPrefix}
use Rattle.tp_model.specs.declared.types.Limits.{Limits}
use Rattle.tp_model.specs.declared.types.Status.{Status}
use Rattle.tp_model.specs.declared.types.Status.TheVariants.{Waiting, Held, Parked, Killed}
use Rattle.tp_model.specs.declared.event.Event.{Event}
use Rattle.tp_model.specs.declared.event.Event.TheVariants.{Enqueue, Claim, Commit, Abort, Kill, Requeue}
use Rattle.tp_model.specs.History.{status_after, status_of}
use Rattle.tp_model.specs.Words.{TakenWord, AgainWord, kill_word, claim_word, claim_word_after, round_in}
use Rattle.tp_model.specs.Steps.{IsLegal, Step}
use Rattle.tp_model.proofs.Lists.{if_same, if_other}
use Rattle.tp_model.proofs.Histories.{along, status_of-snoc}
use Rattle.tp_model.proofs.WordProofs.{claim_word-snoc}
use Rattle.tp_model.proofs.Bridges.{begins_refl, begins_more}

-- a kind of status that no held or killed element has, nor one before a requeue, or else none after it
module _ (l : Limits) (i : ℕ) (Is : Status → Type 0) (held : (u n : ℕ) → ¬ Is (Held u n)) (gone : ¬ Is Killed) (again : ((n : ℕ) → ¬ Is (Parked n)) ⊎ (¬ Is (Waiting 0))) where
  abbrev pub HasMoved : List Event → List Event → Type 0
  HasMoved a z = (claim_word z i ≡ claim_word a i) ⊎ ((p : List Event) × IsPrefix a p × IsPrefix p z × ¬ Is (status_of l.attempts p i))

  moved_more : (a x : List Event) (e : Event) → Step l x e → IsPrefix a x → HasMoved a x → HasMoved a (x ++ e ∷ [])
  moved_more a x e step begins m = ⊎_elim (λ same. now e step same) (λ t. inr (t.0, t.1, begins_more t.0 x e t.2, t.3)) m
    where
      still : (e : Event) → claim_word x i ≡ claim_word a i → claim_word_after i (claim_word x i) e ≡ claim_word x i → HasMoved a (x ++ e ∷ [])
      still e same after = inl (claim_word-snoc x e i ∙ (after ∙ same))

      here : (e : Event) (s : Status) → status_after l.attempts i (status_of l.attempts x i) e ≡ s → ¬ Is s → HasMoved a (x ++ e ∷ [])
      here e s is not = inr (x ++ e ∷ [], begins_more a x e begins, begins_refl (x ++ e ∷ []), λ w. not (subst Is (status_of-snoc l.attempts x e i ∙ is) w))

      now : (e : Event) → Step l x e → claim_word x i ≡ claim_word a i → HasMoved a (x ++ e ∷ [])
      now (Enqueue c y) step same = still (Enqueue c y) same refl
      now (Claim c v j n) step same =
          elim (eqb_tells j i) [
            | inl q ↦ here (Claim c v j n) (Held v n) (if_same j i (Held v n) (status_of l.attempts x i) q.1) (held v n)
            | inr q ↦ still (Claim c v j n) same (if_other j i (TakenWord n v (round_in (claim_word x i))) (claim_word x i) q.1)
          ]
      now (Commit c v outs) step same = still (Commit c v outs) same refl
      now (Abort c v) step same = still (Abort c v) same refl
      now (Kill c j) step same =
          elim (eqb_tells j i) [
            | inl q ↦ here (Kill c j) Killed (if_same j i Killed (status_of l.attempts x i) q.1) gone
            | inr q ↦ still (Kill c j) same (if_other j i (kill_word (claim_word x i)) (claim_word x i) q.1)
          ]
      now (Requeue c j k) step same =
          elim (eqb_tells j i) [
            | inl q ↦ ⊎_elim
                (λ not. inr (x, begins, begins_more x x (Requeue c j k) (begins_refl x), λ w. not step.parked.0 (subst Is (ap (status_of l.attempts x) (sym q.1) ∙ step.parked.1) w)))
                (λ not. here (Requeue c j k) (Waiting 0) (if_same j i (Waiting 0) (status_of l.attempts x i) q.1) not)
                again
            | inr q ↦ still (Requeue c j k) same (if_other j i (AgainWord k) (claim_word x i) q.1)
          ]

  pub moved : (a b : List Event) → IsLegal l b → IsPrefix a b → HasMoved a b
  moved a b legal begins = let P : List Event → Type 0 = λ z. IsPrefix a z × HasMoved a z in
      let all : P (a ++ begins.0) = along l P (λ x e _ step t. (begins_more a x e t.0, moved_more a x e step t.0 t.1)) a begins.0 (rw begins.1 legal) (begins_refl a, inl refl) in
      let there : P b = subst P begins.1 all in there.1
