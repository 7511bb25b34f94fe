-- A command after which all gather, and a drain: their lines are the computed ones.
use Rattle.std.specs.Prelude.{◌≡◌, List, ℕ}
use Rattle.tp_manager.specs.Shown.{KeeperShown, ManagerShown}
use Rattle.tp_server.specs.declared.order.Order.{Order}
use Rattle.tp_script.specs.Script.{HeadView}
use Rattle.tp_script.specs.declared.script.Command.{Command}
use Rattle.tp_commands.specs.Drains.{Drains}
use Rattle.tp_commands.specs.Scenes.{Gathered, Scene}
use Rattle.tp_commands.specs.Told.{TellsCommand}
use Rattle.tp_reference.specs.PlainReport.{ReportState, command_step, drain_step}
use Rattle.tp_exact.specs.Stands.{StandsAsComputed}

-- from a scene that stands for a computed state a command, after which all gather, leads to one that stands
-- for the computed state after it, and its line is the computed one
abbrev pub ExactCommand : Type 0
ExactCommand =
    (c : Command) (m : ManagerShown) (head : HeadView) (keeper keeper' : KeeperShown) (old done new : Scene)
    (text : List ℕ) (s : ReportState)
    → StandsAsComputed head.servers m.limits keeper keeper.seen old s
    → TellsCommand m head c old text done → Gathered m keeper keeper' done new
    → let step = command_step head.servers c s in
    (text ≡ step.0) × StandsAsComputed head.servers m.limits keeper' keeper'.seen new step.1

-- and so does a drain, in which all gather after each turn
abbrev pub ExactDrain : Type 0
ExactDrain =
    (order : Order) (m : ManagerShown) (head : HeadView) (keeper keeper' : KeeperShown) (old new : Scene)
    (text : List ℕ) (s : ReportState)
    → StandsAsComputed head.servers m.limits keeper keeper.seen old s
    → Drains order m keeper old text keeper' new
    → let step = drain_step order head.servers s in
    (text ≡ step.0) × StandsAsComputed head.servers m.limits keeper' keeper'.seen new step.1
