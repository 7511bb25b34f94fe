use Rattle.std.proofs.Common.{◌≡◌, ap, sym, ◌∙◌, refl, arith}
use Rattle.tp_model.specs.declared.types.Limits.{Limits}
use Rattle.tp_model.specs.declared.trace.StepKind.TheVariants as kinds
use Rattle.tp_model.specs.Steps.{block_first}
use Rattle.tp_rule.specs.Tables.{table_limits}
use Rattle.tp_rule.specs.Views.{view_of}
use Rattle.tp_manager.proofs.Calls.Passes.{drawn_risen}
use Rattle.tp_manager.proofs.Calls.CallSteps.{acted_by}
use Rattle.tp_manager.proofs.manager.Shared.blocks_end.Goals as goal

pub returns-clause-told : goal.returns-clause-told
returns-clause-told c = let l : Limits = table_limits c.args.self.now.words in
    let spare : l.spare ≡ c.args.self.now.places.limits.spare = ap (λ (z : Limits). z.spare) c.args.self.now.same in
    let first : c.block_first.result ≡ block_first l c.load_drawn-found.result = c.block_first.ensures.first ∙ ap (λ (z : Limits). block_first z c.load_drawn-found.result) (sym c.args.self.now.same) in
    let inside = c.load_drawn-found.ensures.inside in let some = c.if-self-eq0.false in (
      omega arith,
      acted_by l kinds.Load _ _ c.requires.steady.steady refl c.load_drawn-found.ensures.grew,
      omega arith,
      omega arith,
      λ i low high. c.load_drawn-found.ensures.none i (omega arith) high,
    )

pub returns-clause-risen : goal.returns-clause-risen
returns-clause-risen c = drawn_risen (view_of c.args.seat.now) c.args.drawn.now c.load_drawn-found.result c.requires.drawn c.load_drawn-found.ensures.rises
