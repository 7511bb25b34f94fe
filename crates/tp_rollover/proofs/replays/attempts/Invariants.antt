use Rattle.std.proofs.Common.{◌≡◌, ◌-◌, ◌*◌, length}
use Rattle.tp_rollover.specs.Anew.{attempts_made}
use Rattle.tp_rollover.specs.Bounds.{AllMake, attempt_steps}
use Rattle.tp_rollover.specs.Lone.{AreLone, lone}
use Rattle.tp_rollover.proofs.replays.attempts.Given as goal

abbrev pub invariant-loop-time : goal.invariant-loop-time
invariant-loop-time l = record {
  are_lone : AreLone l.manager l.keeper l.passes;
  given : l.keeper.given ≡ l.initial.keeper.given;
  made : AllMake (l._time * attempt_steps l.manager.limits l.initial.keeper.given) l.initial.keeper l.initial.passes l.keeper l.passes;
  goes_on : attempts_made (length l.initial.passes) l.kept l.id l.times (l.initial.from, lone l.manager l.initial.keeper l.initial.passes)
      ≡ attempts_made (length l.initial.passes) l.kept l.id (l.times - l._time) (l.from, lone l.manager l.keeper l.passes);
}
