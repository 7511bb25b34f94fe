use Rattle.std.proofs.Common.{◌∙◌, ◌++◌, ap}
use Rattle.std.specs.Prelude.{codes, string_bytes}
use Rattle.tp_session.specs.Dumps.{and_lines, dump_lines}
use Rattle.tp_session.proofs.DumpLemmas.{dump_bytes_are}
use Rattle.tp_session.proofs.session.Session.dumped.Goals as goal

pub returns-clause-text : goal.returns-clause-text
returns-clause-text c =
    let text = ap (λ d. d.text) (c.dump.view_is ∙ c.in_ok-add_session.ensures ∙ ap (λ d. and_lines (dump_lines c.args.self.now) d) c.new-dump.ensures) in
    dump_bytes_are c.args.self.now (string_bytes c.push_str.new.self) (c.in_ok-push_str.ensures.bytes ∙ ap (λ t. t ++ codes "restore\n") text)
