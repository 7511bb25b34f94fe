use Rattle.std.proofs.Common.{◌≡◌, ◌∙◌, suc, ◌+◌, ◌-◌, ◌<◌, ap, arith}
use Rattle.tp_rule.specs.declared.view.View.{View}
use Rattle.tp_rule.specs.Tables.{table_limits}
use Rattle.tp_rule.specs.Views.{fresh_from}
use Rattle.tp_rule.specs.Steps.{rest_of}
use Rattle.tp_library_tests.proofs.tests.rule.pass.Goals as goal

pub returns-clause-left : goal.returns-clause-left
returns-clause-left c = let small : c.args.number < 3 = c.requires.left.0 in let count : 3 - c.args.number ≡ suc (3 - (c.args.number + 1)) = omega arith in
    ap (λ (v : View). v.hands) c.hand_out.ensures.keeps ∙ ap rest_of (c.requires.left.1 ∙ ap (fresh_from (table_limits c.args.words.now) c.args.number) count)
