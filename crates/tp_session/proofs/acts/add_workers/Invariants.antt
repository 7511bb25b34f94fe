use Rattle.std.proofs.Common.{◌≡◌, ◌++◌, map}
use Rattle.std.specs.List.{flat_map}
use Rattle.std.specs.Map.Iter.{deref_pair}
use Rattle.tp_answers.specs.OverviewTexts.{holder_view}
use Rattle.tp_session.specs.Session.{worker_holders}
use Rattle.tp_session.proofs.acts.add_workers.Given as goal

abbrev pub invariant-loop-name : goal.invariant-loop-name
invariant-loop-name l =
    map holder_view l.holders.items ≡ map holder_view l.fn.holders.items ++ flat_map (worker_holders l.store) (map deref_pair l.yielded)
