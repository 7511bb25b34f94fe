use Rattle.std.proofs.Common.{◌≡◌, ◌≤◌, length, take}
use Rattle.tp_session.proofs.server_acts.outputs.Given as goal

abbrev pub invariant-loop-draft : goal.invariant-loop-draft
invariant-loop-draft l = record {
  few : length l.drafts ≤ 4;
  made : l.outputs.items ≡ take l.draft-index l.drafts;
}
