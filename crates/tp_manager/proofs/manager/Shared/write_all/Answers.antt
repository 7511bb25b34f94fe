use Rattle.std.proofs.Common.{◌≡◌, List, length, take, rules, arith, refl, sym, ◌∙◌, subst, length-take}
use Rattle.tp_model.specs.declared.types.Element.{Element}
use Rattle.tp_model.specs.declared.types.Limits.{Limits}
use Rattle.std.proofs.lemmas.List.Elements.{All-more}
use Rattle.tp_model.specs.Births.{IsWhole, outputs}
use Rattle.tp_model.proofs.Outputs.{length-outputs}
use Rattle.tp_rule.specs.Tables.{table_limits}
use Rattle.tp_rule.specs.Views.{view_of}
use Rattle.tp_manager.specs.Drafts.{Wrote}
use Rattle.tp_manager.proofs.Rows.Drafts.{outs_next, wrote_none, wrote_then}
use Rattle.tp_manager.proofs.manager.Shared.write_all.Goals as goal

pub write_one-requires-clause-next : goal.write_one-requires-clause-next
write_one-requires-clause-next c =
    let w = c.loop-i.invariant.wrote in let d = w.run.0 in let e = w.run.1 in let r = c.requires.room in let i = c.loop-i-test.true in
    let count : length (outputs c.args.unit c.args.root c.args.first (take c.loop-i.i c.args.drafts.now)) ≡ c.loop-i.i = length-outputs c.args.unit c.args.root c.args.first (take c.loop-i.i c.args.drafts.now) ∙ omega (arith, length-take c.loop-i.i c.args.drafts.now) in
    let first = c.requires.next in let room = r.0 in let all = r.1 in
    (omega arith, omega arith, omega arith)

pub loop-i-init : goal.loop-i-init
loop-i-init c = record {
  same = refl;
  whole = λ k d less. absurd (omega arith);
  wrote = wrote_none (table_limits c.args.self.now.words) (view_of c.args.seat.now) c.requires.steady.steady;
}

pub loop-i-preserved : goal.loop-i-preserved
loop-i-preserved c = let l : Limits = table_limits c.args.self.now.words in record {
  same = search rules;
  whole = All-more IsWhole c.args.drafts.now c.loop-i.i c.index-drafts-i.result c.loop-i-test.true c.loop-i.invariant.whole (rw (← c.index-drafts-i.is) c.write_one.ensures.whole);
  wrote = subst (λ (xs : List Element). Wrote l xs (view_of c.args.seat.now) (view_of c.write_one.new.seat)) (sym (outs_next c.args.unit c.args.root c.args.first c.args.drafts.now c.loop-i.i c.index-drafts-i.result c.loop-i-test.true c.index-drafts-i.is))
      (wrote_then l _ _ (view_of c.args.seat.now) (view_of c.loop-i.seat) (view_of c.write_one.new.seat) c.loop-i.invariant.wrote c.write_one.ensures.wrote);
}
