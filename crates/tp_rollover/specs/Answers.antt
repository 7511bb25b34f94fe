-- What a rollover answers, over what its two managers show. Names with a dash are what they show afterwards.
use Rattle.std.specs.Prelude.{◌≡◌, ℕ, ◌≤◌, List, [], length}
use Rattle.tp_model.specs.declared.types.Limits.{Limits}
use Rattle.tp_model.specs.declared.event.Event.{Event}
use Rattle.tp_model.specs.History.{In, events_by}
use Rattle.tp_manager.specs.Shown.{KeeperShown, PassShown}
use Rattle.tp_rollover.specs.Thread.{AreTogether}
use Rattle.tp_rollover.specs.Hands.{AreHolders, HandsGoOn}
use Rattle.tp_rollover.specs.Rolls.{RollsOver}
use Rattle.tp_rollover.specs.Survivors.{AreHands, AreInHand, AreSurvivors, StandAgain}
use Rattle.tp_rollover.specs.declared.moved.Moved.{Moved}
use Rattle.tp_rollover.specs.declared.survivors.Survivor.{Survivor}

-- the history of these passes: it has their events, and nobody else's
pub record IsHistoryOf (keeper : KeeperShown) (passes : List PassShown) (h : List Event) : Type 0 where
  pub own : (p : PassShown) → In p passes → events_by p.number h ≡ p.mine
  pub others : (c : ℕ) → keeper.given ≤ c → events_by c h ≡ []

-- from what the old passes had done the rollover goes to what all passes of either manager have seen then
pub record Rolls (l k : Limits) (old' new' : KeeperShown) (olds olds' news' : List PassShown)
    (moved : List Moved) : Type 0 where
  pub before : List Event
  pub history : IsHistoryOf old' olds before
  pub over : RollsOver l k 0 before old'.seen new'.seen moved
  pub hands : HandsGoOn l k before new'.seen olds news' moved
  pub holders : AreHolders k new'.seen news' moved
  pub old_together : AreTogether l old' olds' old'.seen
  pub new_together : AreTogether k new' news' new'.seen

-- all is ready for the kills: nothing has happened in the old manager, and what was alive in it stands in the
-- new one
pub record IsReadyToKill (l k : Limits) (old' new' : KeeperShown) (olds olds' news' : List PassShown)
    (moved : List Moved) : Type 0 where
  pub history : IsHistoryOf old' olds old'.seen
  pub old_together : AreTogether l old' olds' old'.seen
  pub new_together : AreTogether k new' news' new'.seen
  pub survivors : List Survivor
  pub found : AreSurvivors l old'.seen survivors
  pub in_hand : AreInHand olds survivors
  pub again : StandAgain k new'.seen survivors moved
  pub hands : AreHands k new'.seen news' survivors moved
  pub some : 1 ≤ length olds'
