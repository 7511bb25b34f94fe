-- What a desk has done with a pass and a server since it was made.
use Rattle.std.specs.Prelude.{◌≡◌, ◌⊎◌, ℕ, List, length, drop, map, Option, Some, None}
use Rattle.std.specs.List.{filter_map}
use Rattle.std.specs.Option.{option_map}
use mathlib.Core.List.{IsPrefix}
use Rattle.tp_model.specs.declared.event.Event.{Event}
use Rattle.tp_model.specs.declared.event.Event.TheVariants.{Commit}
use Rattle.tp_model.specs.declared.types.Element.{Element}
use Rattle.tp_model.specs.Counts.{taken_by}
use Rattle.tp_model.specs.Drafts.{DraftView}
use Rattle.tp_model.specs.History.{In, UnitClaim, claim_of}
use Rattle.tp_model.specs.Passes.{IsPassView}
use Rattle.tp_server.specs.Behaviour.{Behaviour, Done, Folds}
use Rattle.tp_manager.specs.Shown.{PassShown, view_in}
use Rattle.tp_manager.specs.Calls.{HasEnded}

-- what the second list has after the first
abbrev pub gained : List Event → List Event → List Event
gained first mine = drop (length first) mine

-- the unit of each Commit among the events had claimed an element there, which was born
abbrev pub AreTaken : List Event → List Event → Type 0
AreTaken events h = (c u : ℕ) (outs : List Element) → In (Commit c u outs) events → (x : Element)
    × (taken_by events h (Commit c u outs) ≡ Some x)

-- each unit that was claimed among the events was claimed by none before them
abbrev pub AreUnitsFresh : List Event → List Event → Type 0
AreUnitsFresh before events = (u : ℕ) (t : UnitClaim) → claim_of events u ≡ Some t → claim_of before u ≡ None

-- an output as the draft that it was
abbrev pub draft_in : Element → DraftView
draft_in x = record { stage = x.stage; body = x.body }

-- work that was committed with these outputs
abbrev pub done_with : List Element → Element → Done
done_with outs x = record { element = x; drafts = map draft_in outs }

-- the work that a Commit among `events` did: the born element that its unit claimed there, and the drafts of
-- its outputs
abbrev pub done_by : List Event → List Event → Event → Option Done
done_by events h (Commit c u outs) = option_map (done_with outs) (taken_by events h (Commit c u outs))
done_by events h other = None

-- the work that these events did, in the order of their Commits
abbrev pub done : List Event → List Event → List Done
done events h = filter_map (done_by events h) events

-- The pass has made events of its own and seen more, and the server's registers of committed work are those
-- that its effects over the elements that those events consumed led to, with the drafts that those events
-- committed, from the registers with which it began.
pub record Serves (behaviour : Behaviour) (start registers : List ℕ) (old new : PassShown) : Type 0 where
  pub number : new.number ≡ old.number
  pub seen : IsPrefix old.seen new.seen
  pub mine : IsPrefix old.mine new.mine
  pub claimed : AreTaken (gained old.mine new.mine) new.seen
  pub fresh : AreUnitsFresh old.mine (gained old.mine new.mine)
  pub folded : Folds behaviour start (done (gained old.mine new.mine) new.seen) registers

-- each unit that was claimed among the events has ended, or is the one that may be open
abbrev pub AreUnitsEnded : Option ℕ → List Event → List Event → Type 0
AreUnitsEnded but events h =
    (u : ℕ) (t : UnitClaim) → claim_of events u ≡ Some t → (but ≡ Some u) ⊎ HasEnded h u

-- what the lenders of a pass and a server find when the desk has ended; the pass shows what every pass shows
-- between calls
pub record Leaves (behaviour : Behaviour) (start registers : List ℕ) (old new : PassShown) : Type 0 where
  pub shows : IsPassView new.limits (view_in new)
  pub serves : Serves behaviour start registers old new
  pub ended : AreUnitsEnded None (gained old.mine new.mine) new.seen
