use Rattle.std.proofs.Common.{max, ◌≤◌, ◌≡◌, ℕ, arith}
use Rattle.std.proofs.lemmas.Bool.Decides.{nat_tests}
use Rattle.tp_journal.proofs.sealing.longer.Goals as goal

no-more : (a b m r : ℕ) → r ≡ max a b → m ≡ b → m ≤ r
no-more a b m r is same = grind (arith, nat_tests)

pub returns-in-Some-clause-end : goal.returns-in-Some-clause-end
returns-in-Some-clause-end c = λ m e. no-more c.args.count c.in-Some.end m c.max.result c.max.ensures ((rw c.in-Some.is at c.in_ok-end.ensures.one) m e)

pub returns-in-None-clause-end : goal.returns-in-None-clause-end
returns-in-None-clause-end c = λ m e. absurd ((rw c.in-None.is at c.in_ok-end.ensures.none) m e)
