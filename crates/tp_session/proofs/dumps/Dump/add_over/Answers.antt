use Rattle.std.proofs.Common.{◌∙◌, arith, sym}
use Rattle.std.proofs.lemmas.Option.{slice_get_within}
use Rattle.tp_session.proofs.DumpLemmas.{over_more}
use Rattle.tp_session.proofs.dumps.Dump.add_over.Goals as goal

pub loop-k-preserved : goal.loop-k-preserved
loop-k-preserved c =
    let is = sym c.over.ensures ∙ c.in-Some.is in
    record {
      within = omega (arith, slice_get_within c.args.store.now.ended c.loop-k.k c.in-Some.root is);
      told = over_more c.args.store.now.ended c.loop-k.k c.in-Some.root c.args.self.now c.loop-k.self c.add.new.self is c.loop-k.invariant.told c.in_ok-add-in-Some.ensures;
    }
