use Rattle.std.proofs.Common.{◌∙◌, ◌++◌, ap, arith}
use Rattle.std.proofs.lemmas.Bool.Decides.{nat_tests}
use Rattle.tp_kept.specs.Lines.{shut}
use Rattle.tp_kept.proofs.LinesLemmas.{puts_more, puts_shut}
use Rattle.tp_kept.proofs.lines.put_byte.Goals as goal

pub returns-in_ok-shut-clause-put : goal.returns-in_ok-shut-clause-put
returns-in_ok-shut-clause-put c = puts_shut c.args.byte c.args.line.now.items c.args.ready.now.items c.clear.new.self.items c.shut.new.ready.items c.if-byte-eq10.true c.requires.plain c.clear.ensures.items (c.in_ok-shut.ensures ∙ ap (λ l. c.args.ready.now.items ++ shut l) c.as_slice.ensures.value)

pub returns-in_ok-push-clause-put : goal.returns-in_ok-push-clause-put
returns-in_ok-push-clause-put c = puts_more c.args.byte c.args.line.now.items c.args.ready.now.items c.push.new.self.items (grind (arith, nat_tests, c.if-byte-eq10.false)) (grind (arith, nat_tests, c.if-len-lt-MAX_KEPT.true, c.in_ok-push.ensures.items, c.len.ensures, c.put_down.ensures))

pub returns-else-len-lt-MAX_KEPT-clause-put : goal.returns-else-len-lt-MAX_KEPT-clause-put
returns-else-len-lt-MAX_KEPT-clause-put c = puts_more c.args.byte c.args.line.now.items c.args.ready.now.items c.args.line.now.items (grind (arith, nat_tests, c.if-byte-eq10.false)) (grind (arith, nat_tests, c.if-len-lt-MAX_KEPT.false, c.len.ensures))
