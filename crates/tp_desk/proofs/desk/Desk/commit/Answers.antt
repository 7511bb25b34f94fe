use Rattle.std.proofs.Common.{refl}
use Rattle.tp_desk.proofs.Keeping.{committed, emptied, finishes}
use Rattle.tp_desk.proofs.desk.Desk.commit.Goals as goal

pub returns-clause-steady : goal.returns-clause-steady
returns-clause-steady g c =
    let answer = rw c.as_slice.ensures.value at c.commit-outcome.ensures.answer in
    emptied _ _ _ _ _ _ _ _ _ (committed _ _ _ _ _ _ _ _ _ _ _ c.commit-outcome.result c.requires.steady c.requires.prepared c.commit-outcome.ensures.follows answer c.settle.ensures.registers)
    c.settle.ensures.behaviour refl c.settle.ensures.clear c.commit-outcome.ensures.free

pub returns-clause-answer : goal.returns-clause-answer
returns-clause-answer g c =
    finishes _ _ _ _ _ _ _ _ _ _ c.commit-outcome.result c.requires.steady c.requires.prepared (rw c.as_slice.ensures.value at c.commit-outcome.ensures.answer) c.settle.ensures.registers
