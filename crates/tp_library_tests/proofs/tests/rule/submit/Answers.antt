use Rattle.std.proofs.Common.{◌≡◌, ◌≤◌, ap, sym, subst, ◌∙◌, arith}
use Rattle.tp_rule.specs.Steps.{tail_before}
use Rattle.tp_rule.specs.Views.{hand_of}
use Rattle.tp_rule.specs.declared.view.Hand.{Hand}
use Rattle.tp_library_tests.proofs.tests.rule.submit.Goals as goal

pub publish-requires-clause-cleared : goal.publish-requires-clause-cleared
publish-requires-clause-cleared c = λ i low high. let none : (hand_of c.store_draft_body.new.seat).passed_to ≡ 0 = ap (λ (z : Hand). z.passed_to) c.store_draft_body.ensures.view.hand_is ∙ c.requires.passed in absurd (omega arith)

pub publish-requires-clause-tail : goal.publish-requires-clause-tail
publish-requires-clause-tail c = subst (λ (z : Hand). c.args.tail ≤ tail_before 1 z) (sym c.store_draft_body.ensures.view.hand_is) c.requires.tail
