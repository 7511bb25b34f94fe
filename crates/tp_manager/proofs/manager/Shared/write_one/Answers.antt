use Rattle.std.proofs.Common.{[], ◌∷◌, sym, ◌∙◌, subst}
use Rattle.tp_model.specs.declared.types.Element.{Element}
use Rattle.tp_rule.specs.Tables.{table_limits}
use Rattle.tp_rule.specs.Views.{view_of}
use Rattle.tp_manager.specs.Drafts.{Wrote, output}
use Rattle.tp_manager.proofs.Rows.Submits.{draft_is, draft_wrote}
use Rattle.tp_manager.proofs.manager.Shared.write_one.Goals as goal

pub returns-clause-wrote : goal.returns-clause-wrote
returns-clause-wrote c = let l = table_limits c.args.self.now.words in let v = view_of c.args.seat.now in let a = view_of c.store_draft_body.new.seat in let w = view_of c.store_draft_head.new.seat in
    subst (λ (e : Element). Wrote l (e ∷ []) v w)
    (draft_is l c.body.result c.stage.result c.args.root c.args.unit v a w c.requires.steady.steady c.store_draft_body.ensures.view c.store_draft_head.ensures.view c.requires.next.1 c.args.row (sym c.requires.next.0)
    ∙ (λ i. output c.args.unit c.args.root c.args.row (record { stage = c.stage.ensures.value i; body = c.body.ensures.value i })))
    (draft_wrote l c.body.result c.stage.result c.args.root c.args.unit v a w c.requires.steady.steady c.store_draft_body.ensures.view c.store_draft_head.ensures.view c.requires.next.1)
