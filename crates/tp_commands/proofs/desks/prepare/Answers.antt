use Rattle.std.proofs.Common.{rules}
use Rattle.tp_commands.proofs.desks.prepare.Goals as goal

pub returns-in-Ok-clause-tells : goal.returns-in-Ok-clause-tells
returns-in-Ok-clause-tells g c = record {
  in_hand = search rules;
  unprepared = search rules;
  prepared = c.in-Ok.ensures.ready.2;
  drafts = c.prepare.new.self.drafts.items;
  made = c.in-Ok.ensures.made;
  work = c.in-Ok.ensures.ready.1;
  pass = c.in-Ok.ensures.ready.0;
  server = search rules;
}
