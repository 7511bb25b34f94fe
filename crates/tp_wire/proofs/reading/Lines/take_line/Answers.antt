use Rattle.std.proofs.Common.{arith, drop, take, refl, sym}
use Rattle.std.proofs.lemmas.List.{drop_all, take_rest}
use Rattle.tp_wire.proofs.HeardLemmas.{ends_behind, no_end}
use Rattle.tp_wire.proofs.reading.Lines.take_line.Goals as goal

pub returns-in_ok-keep-in-Some-clause-takes : goal.returns-in_ok-keep-in-Some-clause-takes
returns-in_ok-keep-in-Some-clause-takes c =
    let found = rw (c.deref.ensures.value, take_rest c.args.self.now.chunk.items c.args.self.now.at, c.in-Some.is) at c.line_end.ensures in
    let ends = ends_behind c.args.self.now.chunk.items c.args.self.now.at c.in-Some.place (sym found) in
    record {
      bytes = take c.in-Some.place (drop c.args.self.now.at c.args.self.now.chunk.items);
      in_line = ends.in_line;
      taken = ends.parts;
      kept = rw (c.deref.ensures.value, take_rest c.args.self.now.chunk.items c.args.self.now.at) at c.in_ok-keep-in-Some.ensures.kept;
    }

pub returns-in_ok-keep-in-None-clause-takes : goal.returns-in_ok-keep-in-None-clause-takes
returns-in_ok-keep-in-None-clause-takes c =
    let found = rw (c.deref.ensures.value, take_rest c.args.self.now.chunk.items c.args.self.now.at, c.in-None.is) at c.line_end.ensures in
    record {
      bytes = drop c.args.self.now.at c.args.self.now.chunk.items;
      in_line = no_end (drop c.args.self.now.at c.args.self.now.chunk.items) (sym found);
      taken = (refl, drop_all c.len-self.result c.args.self.now.chunk.items (omega (arith, c.len-self.ensures, c.args.self.now.chunk.ok.0)));
      kept = rw (c.deref.ensures.value, take_rest c.args.self.now.chunk.items c.args.self.now.at) at c.in_ok-keep-in-None.ensures.kept;
    }
