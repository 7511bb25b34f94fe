-- What a box has done over several managers, one after another. The first arguments say of a box what its
-- server shows: its behaviour, and the registers of its committed work.
use Rattle.std.specs.Prelude.{◌≡◌, ℕ, ◌+◌, List, [], ◌∷◌, ◌++◌, Some, slice_get}
use Rattle.std.specs.List.{sum_by}
use Rattle.std.specs.declared.alloc.Global.{Global}
use Rattle.std.specs.declared.dyn_box.DynBox.{DynBox}
use Rattle.tp_model.specs.Counts.{taken}
use Rattle.tp_model.specs.declared.types.Element.{Element}
use Rattle.tp_server.specs.Behaviour.{Behaviour}
use Rattle.tp_server.specs.Books.{Raises}
use Rattle.tp_manager.specs.Shown.{PassShown}
use Rattle.tp_desk.specs.Serving.{gained}
use Rattle.tp_crew.specs.declared.crew.Crew.{Crew}
use Rattle.tp_crew.specs.Crew.{folds}
use Rattle.tp_crew.specs.CrewPasses.{HasServed}

-- A stint is a box's work at the desk of one pass, of one manager: what that pass showed as it began, and at
-- its end.
abbrev pub Stint : Type 0
Stint = PassShown × PassShown

-- the elements that were consumed in these stints, in their order
abbrev pub consumed_in : List Stint → List Element
consumed_in [] = []
consumed_in (s ∷ stints) = taken (gained s.0.mine s.1.mine) s.1.seen ++ consumed_in stints

module _ {B : Type 0} (behaviour : B → Behaviour) (registers : B → List ℕ) where
  -- box u has become w in these stints, one behind the other
  abbrev pub Career : List Stint → B → B → Type 0
  Career [] u w = w ≡ u
  Career (s ∷ stints) u w = (v : B) × HasServed behaviour registers (s.0, u) (s.1, v) × Career stints v w

module _ {X : Type 0} {F : X → Type 0} (behaviour : DynBox X Global F → Behaviour)
    (registers : DynBox X Global F → List ℕ) where
  -- box u has come by these stints to where the fold of its work in the crew's manager began, at place k
  pub record HasCome (k : ℕ) (u : DynBox X Global F) (stints : List Stint) (c : Crew X F) : Type 0 where
    pub pass : PassShown
    pub box : DynBox X Global F
    pub began : slice_get (folds c) k ≡ Some (pass, box)
    pub career : Career behaviour registers stints u box

  -- box u has become by these stints the one that stands at place k of the crew
  pub record HasBecome (k : ℕ) (u : DynBox X Global F) (stints : List Stint) (c : Crew X F) : Type 0 where
    pub box : DynBox X Global F
    pub stands : slice_get c.boxes.items k ≡ Some box
    pub career : Career behaviour registers stints u box

  -- where each of its effects raises a measure of the registers by the worth of its element, a career has
  -- raised it by the worth of all elements that it consumed, over all managers
  abbrev pub CareersAddUp : Type 0
  CareersAddUp = (b : Behaviour) (measure : List ℕ → ℕ) (worth : Element → ℕ) (stints : List Stint)
      (u w : DynBox X Global F)
      → Raises b measure worth → behaviour u ≡ b → Career behaviour registers stints u w
      → measure (registers w) ≡ measure (registers u) + sum_by worth (consumed_in stints)
