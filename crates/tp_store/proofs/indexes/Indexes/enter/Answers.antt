use Rattle.tp_store.proofs.Groupings.{undone}
use Rattle.tp_store.proofs.indexes.Indexes.enter.Goals as goal

pub returns-in-Err-clause-err : goal.returns-in-Err-clause-err
returns-in-Err-clause-err c = let k = c.requires.known in let b = c.in-Err.ensures.err in let l = c.leave.ensures in record {
  queue = undone _ _ _ _ _ _ k.queue b.queue l.queue;
  reply = undone _ _ _ _ _ _ k.reply b.reply l.reply;
  owned = undone _ _ _ _ _ _ k.owned b.owned l.owned;
  family = undone _ _ _ _ _ _ k.family b.family l.family;
  alive = undone _ _ _ _ _ _ k.alive b.alive l.alive;
}
