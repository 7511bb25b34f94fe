-- What a desk leaves in its server's registers, by what each effect of the server does.
use Rattle.std.proofs.Common.{◌≡◌, ◌≤◌, ◌∙◌, ℕ, ◌+◌, List, [], ◌∷◌, ◌++◌, Option, Some, None, refl, sym, ap, subst, map}
use Rattle.std.specs.List.{cons_option, filter_map, flat_map, sum_by}
use Rattle.std.specs.Option.{option_map}
use Rattle.std.proofs.lemmas.List.{map-append}
use Rattle.tp_model.specs.Counts.{taken, taken_by}
use Rattle.tp_model.specs.Drafts.{DraftView}
use Rattle.tp_model.specs.History.{In, In.here, In.there}
use Rattle.tp_model.specs.declared.event.Event.{Event}
use Rattle.tp_model.specs.declared.event.Event.TheVariants.{Enqueue, Claim, Commit, Abort, Kill, Requeue}
use Rattle.tp_model.specs.declared.types.Element.{Element}
use Rattle.tp_server.specs.Behaviour.{Behaviour, Done, Folds}
use Rattle.tp_server.specs.Books.{Lowers, NeverLowers, Preserves, Raises, RaisesByOutputs, outputs_of}
use Rattle.tp_server.proofs.Books.{all_lower, all_never_lower, all_preserve, all_raise, all_raise_by_outputs}
use Rattle.tp_manager.specs.Shown.{PassShown}
use Rattle.tp_desk.specs.Books.{committed_outputs, outputs_in}
use Rattle.tp_desk.specs.Serving.{AreTaken, Serves, done, done_by, done_with, draft_in, gained}
use Rattle.tp_desk.proofs.Recipes.{elements_done}

-- each Commit among these consumed an element
abbrev AllTaken : List Event → List Event → List Event → Type 0
AllTaken g h es = (c u : ℕ) (outs : List Element) → In (Commit c u outs) es → (x : Element) × (taken_by g h (Commit c u outs) ≡ Some x)

more_outputs : (outs : List Element) (o : Option Element) (x : Element) (ds : List Done) (es : List Event) → o ≡ Some x
    → outputs_of ds ≡ committed_outputs es → outputs_of (cons_option (option_map (done_with outs) o) ds) ≡ map draft_in (outs ++ flat_map outputs_in es)
more_outputs outs o x ds es is same =
    rw is (ap (λ (l : List DraftView). map draft_in outs ++ l) same ∙ sym (map-append draft_in outs (flat_map outputs_in es)))

-- the outputs of the work that events did are those that they committed
all_outputs : (g h es : List Event) → AllTaken g h es → outputs_of (filter_map (done_by g h) es) ≡ committed_outputs es
all_outputs g h [] all = refl
all_outputs g h (Enqueue c x ∷ es) all = all_outputs g h es (λ c u outs at. all c u outs (there at))
all_outputs g h (Claim c u i n ∷ es) all = all_outputs g h es (λ c u outs at. all c u outs (there at))
all_outputs g h (Commit c u outs ∷ es) all =
    let one = all c u outs here in
    more_outputs outs (taken_by g h (Commit c u outs)) one.0 (filter_map (done_by g h) es) es one.1
    (all_outputs g h es (λ c u outs at. all c u outs (there at)))
all_outputs g h (Abort c u ∷ es) all = all_outputs g h es (λ c u outs at. all c u outs (there at))
all_outputs g h (Kill c i ∷ es) all = all_outputs g h es (λ c u outs at. all c u outs (there at))
all_outputs g h (Requeue c i k ∷ es) all = all_outputs g h es (λ c u outs at. all c u outs (there at))

pub outputs_done : (events h : List Event) → AreTaken events h → outputs_of (done events h) ≡ committed_outputs events
outputs_done events h all = all_outputs events h events all

module _ {behaviour : Behaviour} {measure : List ℕ → ℕ} {start registers : List ℕ} {p q : PassShown} where
  pub serves_raised : {worth : Element → ℕ} → Raises behaviour measure worth → Serves behaviour start registers p q
      → measure registers ≡ measure start + sum_by worth (taken (gained p.mine q.mine) q.seen)
  serves_raised {worth} raises s =
      subst (λ (l : List Element). measure registers ≡ measure start + sum_by worth l) (elements_done (gained p.mine q.mine) q.seen)
      (all_raise start registers (done (gained p.mine q.mine) q.seen) raises s.folded)

  pub serves_lowered : {worth : Element → ℕ} → Lowers behaviour measure worth → Serves behaviour start registers p q
      → measure registers + sum_by worth (taken (gained p.mine q.mine) q.seen) ≡ measure start
  serves_lowered {worth} lowers s =
      subst (λ (l : List Element). measure registers + sum_by worth l ≡ measure start) (elements_done (gained p.mine q.mine) q.seen)
      (all_lower start registers (done (gained p.mine q.mine) q.seen) lowers s.folded)

  pub serves_raised_by_outputs : {worth : DraftView → ℕ} → RaisesByOutputs behaviour measure worth → Serves behaviour start registers p q
      → measure registers ≡ measure start + sum_by worth (committed_outputs (gained p.mine q.mine))
  serves_raised_by_outputs {worth} raises s =
      subst (λ (l : List DraftView). measure registers ≡ measure start + sum_by worth l) (outputs_done (gained p.mine q.mine) q.seen s.claimed)
      (all_raise_by_outputs start registers (done (gained p.mine q.mine) q.seen) raises s.folded)

  pub serves_never_lower : NeverLowers behaviour measure → Serves behaviour start registers p q → measure start ≤ measure registers
  serves_never_lower rises s = all_never_lower start registers (done (gained p.mine q.mine) q.seen) rises s.folded

pub serves_preserved : {behaviour : Behaviour} {invariant : List ℕ → Type 0} {start registers : List ℕ} {p q : PassShown}
    → Preserves behaviour invariant → Serves behaviour start registers p q → invariant start → invariant registers
serves_preserved {behaviour} {invariant} {start} {registers} {p} {q} preserves s =
    all_preserve start registers (done (gained p.mine q.mine) q.seen) preserves s.folded
