use Rattle.std.proofs.Common.{◌∙◌, [], ap, rules}
use mathlib.Core.List.{IsPrefix}
use Rattle.tp_model.specs.declared.trace.StepKind.TheVariants as kinds
use Rattle.tp_model.proofs.Bridges.{begins_trans}
use Rattle.tp_rule.specs.Steps.{with_spare}
use Rattle.tp_rule.specs.Views.{seen_by}
use Rattle.tp_rule.proofs.Reading.{grew_begins}
use Rattle.tp_model.specs.declared.types.Element.{Element}
use Rattle.tp_rule.proofs.Working.{claimed_work}
use Rattle.tp_library_tests.proofs.tests.rule.claim.Goals as goal
use Rattle.tp_library_tests.proofs.tests.rule.claim.Goals.{After-shows_request}

pub returns-in-Ok-clause-work : goal.returns-in-Ok-clause-work
returns-in-Ok-clause-work c = λ _. let shown = c.shows_request.ensures.there c.if-not-shows_request.false in let looked = c.shows_request.ensures.looked in
    let work = claimed_work _ _ c.args.unit c.args.row 1 shown.0 c.shows_request.ensures.one.0 c.in-Ok.ensures.hit shown.1 (search rules) in (work.0, ap (λ (x : Element). x.root) work.1 ∙ shown.3)

-- what was seen before
since : (c : After-shows_request) → IsPrefix (seen_by c.args.seat.now) (seen_by c.shows_request.new.seat)
since c = begins_trans _ _ _ (grew_begins kinds.UnitChoice (with_spare c.args.unit) [] _ _ c.choose_unit.ensures.chooses) c.shows_request.ensures.later

pub returns-then-not-shows_request-clause-later : goal.returns-then-not-shows_request-clause-later
returns-then-not-shows_request-clause-later c = since (goal.at.returns-then-not-shows_request-clause-later c).After-shows_request

pub returns-in-Ok-clause-later : goal.returns-in-Ok-clause-later
returns-in-Ok-clause-later c = begins_trans _ _ _ (since (goal.at.returns-in-Ok-clause-later c).After-shows_request) (grew_begins _ _ _ _ _ c.in-Ok.ensures.hit)

pub returns-in-Err-clause-later : goal.returns-in-Err-clause-later
returns-in-Err-clause-later c = begins_trans _ _ _ (since (goal.at.returns-in-Err-clause-later c).After-shows_request) (grew_begins _ _ _ _ _ c.in-Err.ensures.miss.0)
