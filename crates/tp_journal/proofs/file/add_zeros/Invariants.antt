use Rattle.tp_journal.proofs.file.add_zeros.Given as goal

abbrev pub decreases-loop-left : goal.decreases-loop-left
decreases-loop-left l = l.left
