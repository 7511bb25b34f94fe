use Rattle.std.proofs.Common.{◌≡◌, map, take, drop, ◌++◌}
use Rattle.tp_plain.specs.Noted.{noted_event}
use Rattle.tp_plain.specs.Looks.{look_after}
use Rattle.tp_plain.proofs.looks.apply.Given as goal

-- those so far are changed, and the others are as they were
abbrev pub invariant-loop-look : goal.invariant-loop-look
invariant-loop-look l = l.looks ≡ map (look_after l.limit (noted_event l.note)) (take l.look-index l.initial.looks) ++ drop l.look-index l.initial.looks
