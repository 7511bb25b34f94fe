use Rattle.std.proofs.Common.{◌≡◌, ◌-◌, ◌*◌, length}
use Rattle.tp_rollover.specs.Anew.{renewed}
use Rattle.tp_rollover.specs.Bounds.{AllMake, replay_steps}
use Rattle.tp_rollover.specs.Lone.{AreLone, lone}
use Rattle.tp_rollover.proofs.replays.rounds.Given as goal

abbrev pub invariant-loop-round : goal.invariant-loop-round
invariant-loop-round l = record {
  are_lone : AreLone l.manager l.keeper l.passes;
  given : l.keeper.given ≡ l.initial.keeper.given;
  made : AllMake (replay_steps l.manager.limits l.initial.keeper.given (l._round * l.manager.limits.attempts) l._round) l.initial.keeper l.initial.passes l.keeper l.passes;
  goes_on : renewed (length l.initial.passes) l.kept l.id l.manager.limits.attempts l.times (l.initial.from, lone l.manager l.initial.keeper l.initial.passes)
      ≡ renewed (length l.initial.passes) l.kept l.id l.manager.limits.attempts (l.times - l._round) (l.from, lone l.manager l.keeper l.passes);
}
