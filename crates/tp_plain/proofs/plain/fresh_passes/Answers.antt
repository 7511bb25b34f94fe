use Rattle.std.proofs.Common.{◌∙◌, ◌++◌, [], ◌∷◌, sym, ap, arith}
use Rattle.std.proofs.lemmas.List.FromFn.{map-range_with_len_more}
use Rattle.tp_plain.specs.OneThread.{fresh_pass}
use Rattle.tp_plain.proofs.plain.fresh_passes.Goals as goal

pub loop-pass-preserved : goal.loop-pass-preserved
loop-pass-preserved c = c.in_ok-push.ensures.items ∙ (ap (λ xs. xs ++ fresh_pass c.args.rows c.loop-pass.pass ∷ []) c.loop-pass.invariant ∙ sym (map-range_with_len_more (fresh_pass c.args.rows) 0 c.loop-pass.pass c.loop-pass.pass (omega arith)))
