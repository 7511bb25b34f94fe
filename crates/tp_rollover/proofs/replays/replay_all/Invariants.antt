use Rattle.std.proofs.Common.{◌≡◌, ◌*◌, drop, length, take}
use Rattle.tp_rollover.specs.Anew.{all_replayed}
use Rattle.tp_rollover.specs.Bounds.{AllMake, most_replay_steps, replays_for}
use Rattle.tp_rollover.specs.Lone.{AreLone, lone}
use Rattle.tp_rollover.proofs.replays.replay_all.Given as goal

abbrev pub invariant-loop-place : goal.invariant-loop-place
invariant-loop-place l = record {
  are_lone : AreLone l.manager l.keeper l.passes;
  given : l.keeper.given ≡ l.initial.keeper.given;
  made : AllMake (l.place * most_replay_steps l.manager.limits l.initial.keeper.given) l.initial.keeper l.initial.passes l.keeper l.passes;
  told : AllMake (replays_for l.manager.limits l.initial.keeper.given (take l.place l.survivors)) l.initial.keeper l.initial.passes l.keeper l.passes;
  goes_on : all_replayed (length l.initial.passes) l.kept l.manager.limits.attempts l.survivors l.moved (0, lone l.manager l.initial.keeper l.initial.passes)
      ≡ all_replayed (length l.initial.passes) l.kept l.manager.limits.attempts (drop l.place l.survivors) (drop l.place l.moved) (l.from, lone l.manager l.keeper l.passes);
}
