use Rattle.std.proofs.Common.{[]}
use Rattle.tp_model.specs.declared.trace.StepKind.TheVariants as kinds
use Rattle.tp_model.proofs.Bridges.{found_later}
use Rattle.tp_rule.specs.Steps.{unchanged}
use Rattle.tp_rule.proofs.Reading.{grew_begins}
use Rattle.tp_library_tests.proofs.tests.rule.shows_aborted.Goals as goal

pub returns-clause-work : goal.returns-clause-work
returns-clause-work c = λ yes. let shown = c.shows_request.ensures.there c.if-not-shows_request.false in
    (shown.0, found_later _ _ (grew_begins kinds.Load unchanged [] _ _ c.load_unit.ensures.grew) c.args.row shown.0 shown.1, shown.2)
