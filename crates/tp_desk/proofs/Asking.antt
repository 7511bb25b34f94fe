-- What a desk has asked of its server.
use Rattle.std.proofs.Common.{◌≡◌, ℕ, Bool, true, List, [], ◌∷◌, ◌++◌, Option, Some, None, IsSome, IfSome, refl, sym, subst}
use Rattle.tp_model.specs.Drafts.{DraftView}
use Rattle.tp_model.specs.History.{element_of}
use Rattle.tp_model.specs.declared.event.Event.{Event}
use Rattle.tp_model.specs.declared.types.Element.{Element}
use Rattle.tp_model.specs.declared.types.Outcome.{Outcome}
use Rattle.tp_model.specs.declared.types.Outcome.TheVariants as outcomes
use Rattle.tp_model.specs.declared.types.Work.{Work}
use Rattle.tp_model.proofs.Histories.{element_of-kept}
use Rattle.tp_server.specs.Asked.{Asked, Asks, Commit, Prepare, Undo}
use Rattle.tp_server.specs.Behaviour.{Behaviour, IsMade}
use Rattle.tp_server.specs.Pending.{Pending}
use Rattle.tp_manager.specs.Calls.{Follows}
use Rattle.tp_manager.specs.Shown.{PassShown}
use Rattle.tp_desk.specs.Asking.{commit_to, prepare_of, settling, turn_asks}
use Rattle.tp_desk.specs.InHand.{InHand, IsDeskSteady}
use Rattle.tp_desk.specs.Turns.{registers_left}
use Rattle.tp_server.specs.Settled.{settled}
use Rattle.tp_desk.proofs.Keeping.{seen_on}

no_some : (o : Option Pending) → o ≡ None → IsSome o → ⊥
no_some None e some = cc
no_some (Some p) e some = cc

same_some : (a b : List ℕ) → Some a ≡ Some b → b ≡ a
same_some a b e = cc

-- the element in hand is born in what the pass has seen since
pub in_hand_born : (behaviour : Behaviour) (r : List ℕ) (pending : Option Pending) (start : List ℕ) (f p q : PassShown) (work : Option Work) (drafts : List DraftView) (w : Work) (n : ℕ)
    → IsDeskSteady behaviour r pending start f p work drafts → work ≡ Some w → Follows n p q → element_of q.seen w.element.id ≡ Some w.element
in_hand_born behaviour r pending start f p q work drafts w n s taken follows =
    let held : InHand behaviour r pending (Some w) drafts f p = subst (λ (o : Option Work). InHand behaviour r pending o drafts f p) taken s.in_hand in
    let seen = seen_on n p q follows in
    subst (λ (h : List Event). element_of h w.element.id ≡ Some w.element) seen.1 (element_of-kept p.seen seen.0 w.element.id w.element held.is_born)

module _ (before after : List Asked → Bool) where
  -- it was asked to prepare the element, and declined it
  pub asks_declined : (seen : List Event) (r : List ℕ) (work : Option Work) (w : Work) → work ≡ Some w → element_of seen w.element.id ≡ Some w.element
      → IfSome work (λ (v : Work). Asks (Prepare v.element r ∷ []) before after) → Asks (prepare_of (element_of seen w.element.id) r) before after
  asks_declined seen r work w taken born asked =
      subst (λ (o : Option Element). Asks (prepare_of o r) before after) (sym born)
      (subst (λ (o : Option Work). IfSome o (λ (v : Work). Asks (Prepare v.element r ∷ []) before after)) taken asked)

  settled_some : (between : List Asked → Bool) (behaviour : Behaviour) (drafts : List DraftView) (seen : List Event) (r r1 r' : List ℕ) (w : Work) (pending : Option Pending) (outcome : Outcome) → IsSome pending
      → IsMade behaviour r w.element pending drafts → element_of seen w.element.id ≡ Some w.element → Some r' ≡ registers_left outcome r1 pending
      → Asks (Prepare w.element r ∷ []) before between → Asks (settling outcome pending) between after → Asks (turn_asks (settled w outcome) seen r r') before after
  settled_some between behaviour drafts seen r r1 r' w None outcome some made born left first then = absurd (no_some None refl some)
  settled_some between behaviour drafts seen r r1 r' w (Some p) (outcomes.Committed a b) some made born left first then =
      subst (λ (o : Option Element). Asks (commit_to o r' ++ prepare_of o r) before after) (sym born)
      (λ all is.
      subst (λ (x : Element). after (Commit (record { prepared_for = x; registers = r' }) ∷ Prepare w.element r ∷ all) ≡ true) made.0
      (subst (λ (l : List ℕ). after (Commit (record { prepared_for = p.prepared_for; registers = l }) ∷ Prepare w.element r ∷ all) ≡ true) (same_some r' p.registers left)
      (then (Prepare w.element r ∷ all) (first all is))))
  settled_some between behaviour drafts seen r r1 r' w (Some p) outcomes.Lost some made born left first then =
      subst (λ (o : Option Element). Asks (Undo ∷ prepare_of o r) before after) (sym born) (λ all is. then (Prepare w.element r ∷ all) (first all is))
  settled_some between behaviour drafts seen r r1 r' w (Some p) outcomes.Full some made born left first then =
      subst (λ (o : Option Element). Asks (Undo ∷ prepare_of o r) before after) (sym born) (λ all is. then (Prepare w.element r ∷ all) (first all is))

  -- it was asked to prepare the element and to settle
  pub asks_settled : (between : List Asked → Bool) (behaviour : Behaviour) (drafts : List DraftView) (seen : List Event) (r r1 r' : List ℕ) (work : Option Work) (w : Work) (pending : Option Pending) (outcome : Outcome) → work ≡ Some w → IsSome pending
      → IfSome work (λ (v : Work). IsMade behaviour r v.element pending drafts) → element_of seen w.element.id ≡ Some w.element → Some r' ≡ registers_left outcome r1 pending
      → IfSome work (λ (v : Work). Asks (Prepare v.element r ∷ []) before between) → Asks (settling outcome pending) between after → Asks (turn_asks (settled w outcome) seen r r') before after
  asks_settled between behaviour drafts seen r r1 r' work w pending outcome taken some made born left first then =
      settled_some between behaviour drafts seen r r1 r' w pending outcome some
      (subst (λ (o : Option Work). IfSome o (λ (v : Work). IsMade behaviour r v.element pending drafts)) taken made) born left
      (subst (λ (o : Option Work). IfSome o (λ (v : Work). Asks (Prepare v.element r ∷ []) before between)) taken first) then
