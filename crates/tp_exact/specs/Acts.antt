-- What one pass did between two moments at which all looked together.
use Rattle.std.specs.Prelude.{◌≡◌, ℕ, List, ◌∷◌, ◌++◌, length}
use Rattle.std.specs.List.{AllZip}
use Rattle.tp_model.specs.declared.types.Limits.{Limits}
use Rattle.tp_model.specs.declared.event.Event.{Event}
use Rattle.tp_manager.specs.Shown.{KeeperShown, PassShown}
use Rattle.tp_rollover.specs.Thread.{AreTogether, Stays}

-- all were together, pass c made calls, however many, and all were together again, with nothing done by any
-- other pass
pub record Acts (l : Limits) (keeper keeper' : KeeperShown) (olds news : List PassShown) (h h' : List Event)
    (c : ℕ) (old new : PassShown) : Type 0 where
  pub before : AreTogether l keeper olds h
  pub front : List PassShown
  pub back : List PassShown
  pub olds_are : olds ≡ front ++ old ∷ back
  pub place : length front ≡ c
  pub others : AllZip Stays (front ++ new ∷ back) news
  pub after : AreTogether l keeper' news h'
