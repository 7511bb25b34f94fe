use Rattle.std.proofs.Common.{◌≡◌, take}
use Rattle.std.specs.Prelude.{string_bytes}
use Rattle.std.specs.List.{flat_map}
use Rattle.tp_session.specs.Session.{final_line}
use Rattle.tp_session.proofs.session.Session.finals.Given as goal

abbrev pub invariant-loop-server : goal.invariant-loop-server
invariant-loop-server l = string_bytes l.text ≡ flat_map final_line (take l.server-index l.server-items)
