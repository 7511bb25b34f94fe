use Rattle.std.proofs.Common.{◌+◌, ◌++◌, map}
use Rattle.tp_store.specs.declared.element.TheConstants.{LAST_STAGE}
use Rattle.tp_session.specs.Dumps.{element_lines, over_line, settled_below}
use Rattle.tp_session.proofs.DumpLemmas.{and_last}
use Rattle.tp_session.proofs.dumps.Dump.add_store.Goals as goal

pub returns : goal.returns
returns c = let s = c.args.store.now in
    and_last c.add_all_settled.result (element_lines s) ((map over_line s.ended) ++ (settled_below (LAST_STAGE + 1) s.tally.stages)) c.args.self.now c.add_all_elements.new.self c.add_all_settled.new.self c.in_ok-add_all_elements.ensures (and_last c.add_all_settled.result (map over_line s.ended) (settled_below (LAST_STAGE + 1) s.tally.stages) c.add_all_elements.new.self c.add_over.new.self c.add_all_settled.new.self c.in_ok-add_over.ensures c.add_all_settled.ensures)
