use Rattle.std.proofs.Common.{inr, arith}
use Rattle.tp_store.proofs.store.Store.hand_out.Goals as goal

pub returns-in_default-checked_add-2-clause-short : goal.returns-in_default-checked_add-2-clause-short
returns-in_default-checked_add-2-clause-short c = λ _. inr (c.args.id, c.in-Waiting.attempts, c.args.element.now, c.requires.there, c.in-Waiting.is, (let h = c.in_default-checked_add-2.ensures in omega arith))
