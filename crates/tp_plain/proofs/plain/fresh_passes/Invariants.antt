use Rattle.std.proofs.Common.{◌≡◌, map}
use Rattle.std.specs.List.{range_with_len}
use Rattle.tp_plain.specs.OneThread.{fresh_pass}
use Rattle.tp_plain.proofs.plain.fresh_passes.Given as goal

abbrev pub invariant-loop-pass : goal.invariant-loop-pass
invariant-loop-pass l = l.passes.items ≡ map (fresh_pass l.rows) (range_with_len 0 l.pass)
