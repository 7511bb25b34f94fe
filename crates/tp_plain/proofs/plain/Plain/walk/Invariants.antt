use Rattle.std.proofs.Common.{◌≡◌, ◌≤◌, length}
use Rattle.tp_plain.specs.Walks.{walk_for}
use Rattle.tp_plain.proofs.plain.Plain.walk.Given as goal

abbrev pub invariant-loop-past : goal.invariant-loop-past
invariant-loop-past l =
    record {
      so_far : l.gone.items ≡ walk_for l.self l.root l._past;
      few : length l.gone.items ≤ l._past;
    }
