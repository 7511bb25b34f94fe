use Rattle.std.proofs.Common.{◌∙◌, sym}
use Rattle.tp_reference.specs.PlainClient.{reply_shown}
use Rattle.tp_reference.proofs.ListingLemmas.{picked_none, picked_more}
use Rattle.tp_reference.proofs.client_acts.replies.Goals as goal

pub loop-id-init : goal.loop-id-init
loop-id-init c = c.new-found.ensures.items ∙ sym (picked_none (reply_shown c.args.root) c.args.plain.now)

pub loop-id-preserved : goal.loop-id-preserved
loop-id-preserved c = rw (picked_more (reply_shown c.args.root) c.args.plain.now c.loop-id.id, ← c.loop-id.invariant, ← c.reply_at.ensures) c.in_ok-push_some.ensures
