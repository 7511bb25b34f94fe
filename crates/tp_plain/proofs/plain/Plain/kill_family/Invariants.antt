use Rattle.std.proofs.Common.{◌≡◌, ◌≤◌, length, take}
use Rattle.tp_plain.specs.Computed.{with_kills}
use Rattle.tp_plain.specs.Walks.{walk_of}
use Rattle.tp_plain.proofs.Cancels.{ids_in}
use Rattle.tp_plain.proofs.plain.Plain.kill_family.Given as goal

-- what was unsettled of the walk so far is killed, and counted
abbrev pub invariant-loop-id : goal.invariant-loop-id
invariant-loop-id l =
    record {
      state : l.self ≡ with_kills l.initial.self l.caller (ids_in l.initial.self l.root (take l.id-index (walk_of l.initial.self l.root)));
      count : l.killed ≡ length (ids_in l.initial.self l.root (take l.id-index (walk_of l.initial.self l.root)));
      few : l.killed ≤ l.id-index;
    }
