use Rattle.std.proofs.Common.{rules, arith}
use Rattle.tp_script.specs.Script.{settings_view}
use Rattle.tp_script.proofs.GrammarLemmas.{begins_at}
use Rattle.tp_script.proofs.head.Head.begin_at.Goals as goal

pub returns : goal.returns
returns c = record { gives = begins_at (settings_view c.args.self.now.settings) c.args.self.now.servers.items c.args.place c.args.k c.args.v c.index_mut.result.now c.begin.new.self c.begin.result (omega arith) (search rules) c.begin.ensures.gives }
