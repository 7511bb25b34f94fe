use Rattle.std.proofs.Common.{refl, inl}
use Rattle.tp_manager.proofs.Calls.CallSteps.{acted_by}
use Rattle.tp_manager.proofs.manager.Shared.first_head.Goals as goal

pub returns-clause-acted : goal.returns-clause-acted
returns-clause-acted c = acted_by _ _ _ _ c.requires.steady.steady refl c.load_head.ensures.grew

pub returns-clause-bare : goal.returns-clause-bare
returns-clause-bare c = λ empty i low high. (c.load_head.ensures.none empty).none _ _ i (inl (c.args.part, (c.requires.part, refl, c.requires.row.2))) c.requires.row.0 low high
