use Rattle.std.proofs.Common.{arith, subst, sym, take}
use Rattle.std.proofs.lemmas.Grind.{take_at_read}
use Rattle.std.proofs.lemmas.List.{take_all}
use Rattle.tp_kept.specs.Lines.{Puts}
use Rattle.tp_kept.proofs.LinesLemmas.{puts_none, puts_then}
use Rattle.tp_kept.proofs.lines.put.Goals as goal

pub loop-byte-init : goal.loop-byte-init
loop-byte-init c = record { short = c.requires.short; plain = c.requires.plain; puts = puts_none c.args.line.now.items c.args.ready.now.items }

pub loop-byte-preserved : goal.loop-byte-preserved
loop-byte-preserved c = record {
  short = c.in_ok-put_byte.ensures.short;
  plain = c.in_ok-put_byte.ensures.plain;
  puts = subst (λ bs. Puts bs c.args.line.now.items c.args.ready.now.items c.put_byte.new.line.items c.put_byte.new.ready.items) (sym (take_at_read c.args.bytes.now c.loop-byte.byte-index 0 c.loop-byte-test.true).1)
      (puts_then (take c.loop-byte.byte-index c.args.bytes.now) _ c.args.line.now.items c.args.ready.now.items c.loop-byte.line.items c.loop-byte.ready.items c.put_byte.new.line.items c.put_byte.new.ready.items c.loop-byte.invariant.puts c.in_ok-put_byte.ensures.put);
}

pub returns-clause-put : goal.returns-clause-put
returns-clause-put c =
    subst (λ bs. Puts bs c.args.line.now.items c.args.ready.now.items c.loop-byte.line.items c.loop-byte.ready.items) (take_all c.loop-byte.byte-index c.args.bytes.now (omega (arith, c.loop-byte-test.false))) c.loop-byte.invariant.puts
