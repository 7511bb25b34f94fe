-- What a desk leaves in its server's registers, by what each effect of the server does: laws for contracts of
-- one's own.
use Rattle.std.specs.Prelude.{◌≡◌, ◌≤◌, ℕ, ◌+◌, Bool, IsTrue, List, [], map}
use Rattle.std.specs.List.{flat_map, sum_by}
use Rattle.tp_model.specs.Counts.{taken}
use Rattle.tp_model.specs.Drafts.{DraftView}
use Rattle.tp_model.specs.declared.event.Event.{Event}
use Rattle.tp_model.specs.declared.event.Event.TheVariants.{Commit}
use Rattle.tp_model.specs.declared.types.Element.{Element}
use Rattle.tp_server.specs.Behaviour.{Behaviour}
use Rattle.tp_server.specs.Books.{Lowers, NeverLowers, Preserves, Raises, RaisesByOutputs}
use Rattle.tp_manager.specs.Shown.{PassShown}
use Rattle.tp_desk.specs.Serving.{Serves, draft_in, gained}

-- the outputs of a Commit
abbrev pub outputs_in : Event → List Element
outputs_in (Commit c u outs) = outs
outputs_in other = []

-- the outputs that these events committed, each as the draft that it was
abbrev pub committed_outputs : List Event → List DraftView
committed_outputs events = map draft_in (flat_map outputs_in events)

-- where each effect raises a measure by the worth of its element, it has risen by the worth of all elements
-- that were consumed
abbrev pub ServesRaised : Type 0
ServesRaised = (behaviour : Behaviour) (measure : List ℕ → ℕ) (worth : Element → ℕ)
    (start registers : List ℕ) (old new : PassShown)
    → Raises behaviour measure worth → Serves behaviour start registers old new
    → measure registers ≡ measure start + sum_by worth (taken (gained old.mine new.mine) new.seen)

-- where each effect lowers it so, what is left and what those elements are worth make what there was
abbrev pub ServesLowered : Type 0
ServesLowered = (behaviour : Behaviour) (measure : List ℕ → ℕ) (worth : Element → ℕ)
    (start registers : List ℕ) (old new : PassShown)
    → Lowers behaviour measure worth → Serves behaviour start registers old new
    → measure registers + sum_by worth (taken (gained old.mine new.mine) new.seen) ≡ measure start

-- where each effect raises it by the worth of its outputs, it has risen by the worth of all outputs that were
-- committed
abbrev pub ServesRaisedByOutputs : Type 0
ServesRaisedByOutputs = (behaviour : Behaviour) (measure : List ℕ → ℕ) (worth : DraftView → ℕ)
    (start registers : List ℕ) (old new : PassShown)
    → RaisesByOutputs behaviour measure worth → Serves behaviour start registers old new
    → measure registers ≡ measure start + sum_by worth (committed_outputs (gained old.mine new.mine))

-- where no effect lowers it, it is as large as it was at least
abbrev pub ServesNeverLower : Type 0
ServesNeverLower = (behaviour : Behaviour) (measure : List ℕ → ℕ) (start registers : List ℕ)
    (old new : PassShown)
    → NeverLowers behaviour measure → Serves behaviour start registers old new
    → measure start ≤ measure registers

-- where each effect preserves a test that the registers passed, they pass it still
abbrev pub ServesPreserved : Type 0
ServesPreserved = (behaviour : Behaviour) (test : List ℕ → Bool) (start registers : List ℕ)
    (old new : PassShown)
    → Preserves behaviour (λ values. IsTrue (test values)) → Serves behaviour start registers old new
    → IsTrue (test start) → IsTrue (test registers)
