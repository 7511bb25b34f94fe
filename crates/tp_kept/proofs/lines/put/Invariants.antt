use Rattle.std.proofs.Common.{◌≤◌, All, take, vec_len}
use Rattle.tp_kept.specs.Lines.{IsTheirs, Puts}
use Rattle.tp_wire.specs.declared.reading.TheConstants.{MAX_KEPT}
use Rattle.tp_kept.proofs.lines.put.Given as goal

-- the bytes so far
abbrev pub invariant-loop-byte : goal.invariant-loop-byte
invariant-loop-byte l = record {
  short : vec_len l.line ≤ MAX_KEPT;
  plain : All IsTheirs l.line.items;
  puts : Puts (take l.byte-index l.bytes) l.fn.line.items l.fn.ready.items l.line.items l.ready.items;
}
