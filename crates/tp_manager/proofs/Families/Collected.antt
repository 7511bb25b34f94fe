-- What a collection of the next reply shows.
use Rattle.std.proofs.Common.{◌≡◌, ℕ, ◌+◌, ◌<◌, Option, Some, None, MatchOption, List, [], ◌∷◌, ◌++◌, refl, sym, ◌∙◌, subst}
use mathlib.Core.List.{IsPrefix}
use Rattle.tp_model.specs.declared.types.Element.{Element}
use Rattle.tp_model.specs.declared.types.Limits.{Limits}
use Rattle.tp_model.specs.declared.types.Status.TheVariants.{Killed}
use Rattle.tp_model.specs.declared.event.Event.{Event}
use Rattle.tp_model.specs.declared.event.Event.TheVariants.{Kill}
use Rattle.tp_model.specs.declared.trace.TraceEntry.{TraceEntry}
use Rattle.tp_model.specs.Families.{IsRequest}
use Rattle.tp_model.specs.History.{element_of, status_of}
use Rattle.tp_model.specs.Passes.{opening_of}
use Rattle.tp_model.proofs.Bridges.{begins_trans, found_later, is_born}
use Rattle.tp_rule.specs.Views.{hand}
use Rattle.tp_rule.specs.declared.view.View.{View}
use Rattle.tp_manager.specs.Calls.{claims_in}
use Rattle.tp_manager.specs.Families.{TakenReply, WereKilled}
use Rattle.tp_manager.specs.Lists.{AllKilled, CollectsNext, NoneCollected}
use Rattle.tp_manager.specs.Shown.{Spot, PassShown, shown}
use Rattle.tp_manager.specs.CallSteps.{Acted, Gained, Steady, Stepped}
use Rattle.tp_manager.proofs.Calls.Gains.{gained_looked}
use Rattle.tp_manager.proofs.Kills.OneKill.{freed_looked, freed_slain}
use Rattle.tp_manager.proofs.Calls.Passes.{quiet_looked}
use Rattle.tp_manager.proofs.Calls.Points.{opening_kept}
use Rattle.tp_manager.proofs.Kills.Releases.{collects_shown}
use Rattle.tp_manager.proofs.Families.Trees.{has_root}
use Rattle.tp_manager.proofs.Calls.CallSteps.{acted_then, at_point, looked, opening_is, walked_none, walked_then}

-- the pass has gained no claim
pub taken_gained : (l : Limits) (n root : ℕ) (v w : View) (r : Option Element) → TakenReply l n root v w r → (es : List Event) × Gained l n es v w × (claims_in es ≡ 0)
taken_gained l n root v w None t = ([], gained_looked l n v w t.0, refl)
taken_gained l n root v w (Some x) t = (Kill (hand v).number x.id ∷ [], t.0.gained, refl)

module _ (t t' : Spot) (v x w : View) (old : PassShown) (is : shown t v ≡ old) (l : Limits) (n m root : ℕ) (a : Acted l n v x) where
  -- what was killed after a look was so at a point of the call
  killed_shown : (ns : List TraceEntry) (Ids : ℕ → Type 0) → Stepped l m ns x w → WereKilled l root Ids x.seen w.seen → AllKilled l root Ids old (shown t' w)
  killed_shown ns Ids b killed e born reply id =
      let walk = walked_then l n m a.marks ns v x w a.walk b in
      let same = opening_kept v.seen a.marks ns a.step.0 a.step.1 a.step.2 in
      let first = subst (λ h. element_of h e.id ≡ Some e) (opening_is t t' v w old is l (n + m) (a.marks ++ ns) walk ∙ same) born in
      let k = killed e (found_later (opening_of v.seen a.marks) x.seen a.walk.closes e.id e first) reply id in
      at_point t t' v w old is l (n + m) (a.marks ++ ns) walk (λ h. status_of l.attempts h e.id ≡ Killed) k.0
      (record { opened = subst (λ z. IsPrefix z k.0) (sym same) (begins_trans (opening_of v.seen a.marks) x.seen k.0 a.walk.closes k.1); seen = k.2 }) k.3

  pub taken_answer : (hand v).open_unit ≡ None → (r : Option Element) → TakenReply l m root x w r → MatchOption r (NoneCollected l root old (shown t' w)) (λ e. CollectsNext l root e old (shown t' w))
  taken_answer free None s = (quiet_looked t t' v w old is l (n + m) (looked l (n + m) v w (acted_then l n m v x w a s.0)), killed_shown s.0.marks (λ i. Unit {0}) s.0.walk s.1)
  taken_answer free (Some e) s =
      let all = freed_slain l n m e.id [] [] v x w (freed_looked l n e.id v x (looked l n v x a)) s.0 in record {
        collects = collects_shown t t' v w old is l free (n + m) e.id e all s.1 s.2.0;
        root_is = s.2.1;
        before = killed_shown s.0.gained.marks (λ i. i < e.id) s.0.gained.walk s.3;
      }

-- a root that is no client's element, where the call makes no step
pub killed_none : (t : Spot) (v : View) (old : PassShown) → shown t v ≡ old → (k l : Limits) → Steady k v → (root : ℕ) → ¬ IsRequest v.seen root → AllKilled l root (λ i. Unit {0}) old (shown t v)
killed_none t v old is k l s root not x born reply id =
    let found : element_of v.seen x.id ≡ Some x = subst (λ h. element_of h x.id ≡ Some x) (opening_is t t v v old is k 0 [] (walked_none k v s)) born in
    absurd (not (subst (IsRequest v.seen) reply.1 (has_root k v.seen s.shows.legal x (is_born v.seen x.id x found))))
