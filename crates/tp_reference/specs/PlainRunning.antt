-- What holds of a script that runs.
use Rattle.std.specs.Prelude.{◌≡◌, ◌+◌, ◌≤◌, None, List, length}
use Rattle.tp_plain.specs.OneThread.{pass_at}
use Rattle.tp_reference.specs.declared.plain_run.PlainRun.{PlainRun}
use Rattle.tp_reference.specs.PlainClient.{client}
use Rattle.tp_reference.specs.PlainReport.{ReportState}
use Rattle.tp_script.specs.declared.script.TheConstants.{MAX_SERVERS}
use Rattle.tp_script.specs.Script.{ServerView}

-- a script that runs, without where it lies in memory
abbrev pub state : PlainRun → ReportState
state r = record { manager = r.plain; desks = r.desks.items }

-- there is a pass and a desk for each server, the number of units is known, and the client has nothing in
-- hand
pub record IsSetUp (servers : List ServerView) (r : PlainRun) : Type 0 where
  pub few : length servers ≤ MAX_SERVERS
  pub parts : r.plain.limits.parts ≡ 1 + length servers
  pub units : r.plain.limits.units ≡ r.units
  pub desks : length r.desks.items ≡ length servers
  pub free : (pass_at r.plain client).holding ≡ None
