use Rattle.std.proofs.Common.{◌≡◌, None, take}
use Rattle.tp_plain.specs.OneThread.{pass_at}
use Rattle.tp_reference.specs.PlainClient.{with_collected}
use Rattle.tp_reference.proofs.client_acts.collect_all.Given as goal

-- those so far are taken
abbrev pub invariant-loop-reply : goal.invariant-loop-reply
invariant-loop-reply l = record {
  taken : l.plain ≡ with_collected l.fn.plain (take l.reply-index l.replies);
  free : (pass_at l.plain 0).holding ≡ None;
  limits : l.plain.limits ≡ l.fn.plain.limits;
}
