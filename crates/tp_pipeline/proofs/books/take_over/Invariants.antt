use Rattle.std.proofs.Common.{◌≡◌, length}
use Rattle.tp_pipeline.proofs.books.take_over.Given as goal

abbrev pub invariant-loop-place : goal.invariant-loop-place
invariant-loop-place l = record { kept : length l.roots ≡ length l.fn.roots }
