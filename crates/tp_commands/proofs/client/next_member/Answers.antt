use Rattle.std.proofs.Common.{◌≤◌, ◌<◌, Option, Some, None, IfSome, MatchOption}
use Rattle.tp_model.specs.declared.types.Look.{Look}
use Rattle.tp_model.specs.Steps.{rows_of}
use Rattle.tp_manager.specs.Bounds.{family_steps}
use Rattle.tp_manager.specs.Lists.{NextOfFamily, NoneOfFamily}
use Rattle.tp_commands.proofs.Finds.{member_inside}
use Rattle.tp_commands.proofs.client.next_member.Goals as goal

pub returns-clause-inside : goal.returns-clause-inside
returns-clause-inside c = go c.family.result c.family.ensures.answer
  where
    go : (o : Option Look) → MatchOption o (NoneOfFamily c.args.root c.args.from c.args.client.now c.family.new.pass) (λ look. NextOfFamily c.args.manager.now.limits c.args.root c.args.from look c.args.client.now c.family.new.pass)
        → IfSome o (λ look. (c.args.from ≤ look.element.id) × (look.element.id < rows_of c.args.manager.now.limits))
    go None says = tt
    go (Some look) says = member_inside c.args.manager.now.limits (family_steps c.args.manager.now.limits) c.args.root c.args.from look c.args.client.now c.family.new.pass c.family.ensures.own.1 c.family.ensures.follows says
