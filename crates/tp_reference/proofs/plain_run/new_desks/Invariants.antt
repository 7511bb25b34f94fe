use Rattle.std.proofs.Common.{◌≡◌, take, map}
use Rattle.tp_script.specs.Script.{server_view}
use Rattle.tp_reference.specs.PlainReport.{new_desk}
use Rattle.tp_reference.proofs.plain_run.new_desks.Given as goal

abbrev pub invariant-loop-server : goal.invariant-loop-server
invariant-loop-server l = l.desks.items ≡ map new_desk (map server_view (take l.server-index l.servers))
