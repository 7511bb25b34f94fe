use Rattle.tp_rule.specs.declared.view.Known.TheVariants.{RowHead}
use Rattle.tp_rule.specs.Views.{view_of}
use Rattle.tp_rule.specs.Steps.{Knows, MayBeBorn}
use Rattle.std.proofs.Common.{refl, subst, sym, ◌∙◌}
use Rattle.tp_manager.proofs.Calls.CallSteps.{acted_by}
use Rattle.tp_manager.proofs.manager.Shared.head_at.Goals as goal

pub returns-clause-acted : goal.returns-clause-acted
returns-clause-acted c = acted_by _ _ _ _ c.requires.steady.steady refl c.load_head.ensures.grew

pub returns-clause-told : goal.returns-clause-told
returns-clause-told c = let e = c.load_head.ensures in record {
  born = e.born;
  draft = e.draft;
  knows = e.knows;
  ahead = λ stage root u is none. let w = view_of c.load_head.new.seat in let a = acted_by _ _ _ _ c.requires.steady.steady refl e.grew in
      subst (λ l. MayBeBorn l w.seen c.args.row) (c.requires.steady.steady.pass.1 ∙ sym a.walk.steady.pass.1) (e.grew.ahead c.args.row stage root u (subst (λ z. Knows w (RowHead c.args.row z)) is e.knows) none);
}
