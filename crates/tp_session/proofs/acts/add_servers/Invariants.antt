use Rattle.std.proofs.Common.{◌≡◌, ◌++◌, map, take}
use Rattle.std.specs.List.{flat_map}
use Rattle.tp_answers.specs.OverviewTexts.{holder_view}
use Rattle.tp_session.specs.Session.{server_holders}
use Rattle.tp_session.proofs.acts.add_servers.Given as goal

abbrev pub invariant-loop-server : goal.invariant-loop-server
invariant-loop-server l =
    map holder_view l.holders.items ≡ map holder_view l.fn.holders.items ++ flat_map (server_holders l.store) (take l.server-index l.servers)
