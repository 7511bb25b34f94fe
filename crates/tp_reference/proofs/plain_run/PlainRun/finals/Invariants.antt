use Rattle.std.proofs.Common.{◌≡◌, map}
use Rattle.std.specs.Prelude.{string_bytes}
use Rattle.tp_script.specs.Script.{server_view}
use Rattle.tp_reference.specs.PlainReport.{finals_below}
use Rattle.tp_reference.proofs.plain_run.PlainRun.finals.Given as goal

abbrev pub invariant-loop-at : goal.invariant-loop-at
invariant-loop-at l = string_bytes l.text ≡ finals_below (map server_view l.servers) l.self.desks.items l.at
