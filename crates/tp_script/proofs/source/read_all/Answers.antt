use Rattle.std.proofs.Common.{◌≡◌, ◌+◌, ◌-◌, ◌<◌, ◌≤◌, ◌++◌, ◌∙◌, length, take, arith, ap}
use Rattle.std.proofs.lemmas.List.{length-take, length-append, length-replicate}
use Rattle.std.proofs.lemmas.Grind.{common_steps}
use Rattle.std.specs.Io.KnownBytes.{Consumes}
use Rattle.tp_script.specs.declared.source.TheConstants.{MAX_SCRIPT_BYTES}
use Rattle.tp_script.proofs.Devices.{read_ended, read_past, read_more}
use Rattle.tp_script.proofs.source.read_all.Goals as goal

pub returns-then-n-eq0-clause-bytes : goal.returns-then-n-eq0-clause-bytes
returns-then-n-eq0-clause-bytes g c =
    let asked : length c.read.new.buffer ≡ c.min-room.result = grind (arith, common_steps, c.read.auto.buffer, length-replicate) in
    let some : 0 < c.min-room.result = omega (arith, c.loop.invariant.short) in
    read_ended MAX_SCRIPT_BYTES _ _ _ c.loop.read.items _ c.loop.invariant.bytes c.in_ok-n.ensures.bytes.0 (omega (arith, length-take c.in_ok-n.n c.read.new.buffer)) (c.in_ok-n.ensures.bytes.1 c.if-n-eq0.true (omega (arith, asked, some))) (omega (arith, c.loop.invariant.short, c.loop.read.ok.0))

pub returns-then-len-gt-MAX_SCRIPT_BYTES-clause-bytes : goal.returns-then-len-gt-MAX_SCRIPT_BYTES-clause-bytes
returns-then-len-gt-MAX_SCRIPT_BYTES-clause-bytes g c =
    let grown : c.extend_from_slice.new.self.items ≡ c.loop.read.items ++ take c.in_ok-n.n c.read.new.buffer = grind (arith, common_steps, c.in_ok-extend_from_slice.ensures.items) in
    let all : Consumes (g.S.Source.rest c.args.source.now) (g.S.Source.rest c.read.new.self) c.extend_from_slice.new.self.items = rw grown (read_more _ _ _ _ _ c.loop.invariant.bytes c.in_ok-n.ensures.bytes.0) in
    let asked : length c.read.new.buffer ≡ c.min-room.result = grind (arith, common_steps, c.read.auto.buffer, length-replicate) in
    let room : c.min-room.result ≤ 65537 - length c.loop.read.items = omega (arith, c.loop.read.ok.0) in
    read_past MAX_SCRIPT_BYTES _ _ _ all (omega (arith, asked, room, c.in_ok-n.ensures.count, ap length grown, length-append c.loop.read.items (take c.in_ok-n.n c.read.new.buffer), length-take c.in_ok-n.n c.read.new.buffer))

pub loop-preserved : goal.loop-preserved
loop-preserved g c =
    let grown : c.extend_from_slice.new.self.items ≡ c.loop.read.items ++ take c.in_ok-n.n c.read.new.buffer = grind (arith, common_steps, c.in_ok-extend_from_slice.ensures.items) in
    let longer : length c.extend_from_slice.new.self.items ≡ length c.loop.read.items + c.in_ok-n.n =
    ap length grown ∙ (length-append c.loop.read.items (take c.in_ok-n.n c.read.new.buffer) ∙ ap (λ z. length c.loop.read.items + z) (omega (arith, length-take c.in_ok-n.n c.read.new.buffer, c.in_ok-n.ensures.count))) in
    record {
      bytes = rw grown (read_more _ _ _ _ _ c.loop.invariant.bytes c.in_ok-n.ensures.bytes.0);
      short = omega arith;
      reserved = omega (arith, c.loop.invariant.reserved, c.in_ok-extend_from_slice.ensures.capacity);
      some = omega (arith, longer, c.loop.invariant.some, c.if-n-eq0.false, c.loop.read.ok.0, c.extend_from_slice.new.self.ok.0);
      once = omega arith;
    }
