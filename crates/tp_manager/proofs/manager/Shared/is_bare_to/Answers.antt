use Rattle.std.proofs.Common.{refl, inl, rules}
use Rattle.tp_manager.proofs.manager.Shared.is_bare_to.Goals as goal

pub returns-clause-bare : goal.returns-clause-bare
returns-clause-bare c = λ yes. (
  c.head_at.ensures.acted,
  λ i low high. (c.head_at.ensures.none (search rules)).none _ _ i (inl (c.args.part, (c.requires.part, refl, refl))) c.requires.row.0 low high,
)
