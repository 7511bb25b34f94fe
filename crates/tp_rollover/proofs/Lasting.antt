-- A space that keeps its memory is enough again.
use Rattle.std.proofs.Common.{arith}
use Rattle.tp_rollover.specs.Space.{SpaceLasts}

pub lasts : SpaceLasts
lasts l k old new has stays =
    let s = has.survey in
    let r = has.restore in
    let t = stays.survey in
    let u = stays.restore in
    record {
      survey = record {
        ids = (let a = s.ids in let b = t.ids in omega (arith, a, b));
        found = (let a = s.found in let b = t.found in omega (arith, a, b));
      };
      restore = record {
        moved = (let a = r.moved in let b = u.moved in omega (arith, a, b));
        families = (let a = r.families in let b = u.families in omega (arith, a, b));
        new_roots = (let a = r.new_roots in let b = u.new_roots in omega (arith, a, b));
        old_roots = (let a = r.old_roots in let b = u.old_roots in omega (arith, a, b));
      };
    }
