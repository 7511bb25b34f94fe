-- That a drain ends by itself, and not by the bound of its rounds.
use Rattle.std.specs.Prelude.{◌≡◌, ◌≤◌, ◌<◌, ℕ, false, List, length}
use Rattle.tp_server.specs.declared.order.Order.{Order}
use Rattle.tp_script.specs.Script.{ServerView}
use Rattle.tp_reference.specs.PlainReport.{ReportState, drain_of, most_rounds, round_of, drain_rounds}

-- after fewer rounds than the bound comes one that claims nothing, and with it the drain ends
pub record EndsDry (order : Order) (servers : List ServerView) (s : ReportState) : Type 0 where
  pub before : ℕ
  pub few : before < most_rounds s.manager.limits
  pub dry : round_of order servers (drain_rounds order servers before s) ≡ (false, drain_of order servers s)

-- so it is of every drain, where there is a pass for the client and one for each server
abbrev pub DrainsEnd : Type 0
DrainsEnd =
    (order : Order) (servers : List ServerView) (s : ReportState)
    → length servers < length s.manager.passes → length s.manager.passes ≤ s.manager.limits.parts
    → EndsDry order servers s
