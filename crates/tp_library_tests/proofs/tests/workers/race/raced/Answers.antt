use Rattle.std.proofs.lemmas.List.Elements.{All-append, All-weaker}
use Rattle.tp_manager.specs.Shown.{IsOf}
use Rattle.tp_workers.specs.Free.{IsFreePass}
use Rattle.tp_library_tests.proofs.tests.workers.race.raced.Goals as goal

pub accounted-account-requires-clause-own : goal.accounted-account-requires-clause-own
accounted-account-requires-clause-own g c =
    let Ours = IsOf c.args.manager.now in
    let Free = IsFreePass c.args.manager.now in
    All-append Ours c.shift-counts.new.clients.0 _ (All-weaker Free Ours (λ p is. is.own) c.shift-counts.new.clients.0 c.shift-counts.ensures.clients_free)
    (All-append Ours c.drain-drained.new.passes _ (All-weaker Free Ours (λ p is. is.own) c.drain-drained.new.passes c.drain-drained.ensures.free)
    (All-weaker Free Ours (λ p is. is.own) c.shift-counts.new.killers.0 c.shift-counts.ensures.killers_free))
