-- What looks by one pass tell.
use Rattle.std.specs.Prelude.{◌≡◌, List, [], ◌∷◌}
use Rattle.tp_model.specs.declared.event.Event.{Event}
use Rattle.tp_manager.specs.Shown.{PassShown}

-- if the pass has seen nothing new, this holds of what it has seen
abbrev pub HoldsAsSeen : PassShown → PassShown → (List Event → Type 0) → Type 0
HoldsAsSeen old new Holds = new.seen ≡ old.seen → Holds old.seen

-- what the first of these passes has seen
abbrev pub seen_first : List PassShown → List Event
seen_first [] = []
seen_first (p ∷ ps) = p.seen

-- the same of the first of these
abbrev pub ToldFirst : List PassShown → List PassShown → (List Event → Type 0) → Type 0
ToldFirst olds news Holds = seen_first news ≡ seen_first olds → Holds (seen_first olds)
