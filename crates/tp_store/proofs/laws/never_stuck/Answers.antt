use Rattle.tp_store.proofs.Progress.{aborts_held, collects_replies, commits_held, hands_out, kills_alive, outputs_wait, requeues_parked, submits_wait, takes_waiting}
use Rattle.tp_store.proofs.laws.never_stuck.Goals as goal

pub returns : goal.returns
returns c = record {
  submit = submits_wait;
  take = takes_waiting;
  collect = collects_replies;
  handed = hands_out;
  commit = commits_held;
  outputs = outputs_wait;
  abort = aborts_held;
  requeue = requeues_parked;
  kill = kills_alive;
}
