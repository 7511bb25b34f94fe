use Rattle.std.proofs.Common.{◌≡◌, ◌-◌, ◌++◌, map, replicate, take}
use Rattle.tp_rollover.specs.Anew.{survivor_draft, filler}
use Rattle.tp_rollover.proofs.groups.drafts_of.Given as goal

abbrev pub invariant-loop-place : goal.invariant-loop-place
invariant-loop-place l = l.drafts ≡ map survivor_draft (take l.place l.group) ++ replicate (4 - l.place) filler
