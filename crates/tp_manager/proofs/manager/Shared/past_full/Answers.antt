use Rattle.std.proofs.Common.{◌≡◌, ⊎_elim, inl, inr, ap, ◌∙◌, rules, arith}
use Rattle.tp_model.specs.declared.types.Limits.{Limits}
use Rattle.tp_rule.specs.Views.{SeatShown, view_of}
use Rattle.tp_rule.specs.Tables.{table_limits}
use Rattle.tp_manager.proofs.Calls.CallSteps.{acted_few, acted_then, looked_few, looked_then, remembers_kind}
use Rattle.tp_manager.proofs.Claims.Behind.{finished_sought, nothing_past}
use Rattle.tp_manager.specs.Bounds.{looks_if}
use Rattle.tp_manager.proofs.manager.Shared.past_full.Goals as goal

pub finish_parts-requires-clause-steady : goal.finish_parts-requires-clause-steady
finish_parts-requires-clause-steady c = record { own = search rules; steady = c.past_aside-end.ensures.few.walk.steady }

pub finish_parts-requires-clause-remembers : goal.finish_parts-requires-clause-remembers
finish_parts-requires-clause-remembers c = remembers_kind c.args.stage c.args.lows.now _ _ _ _ _ c.past_aside-end.ensures.few.walk c.requires.remembers

pub finish_parts-requires-clause-rose : goal.finish_parts-requires-clause-rose
finish_parts-requires-clause-rose c = c.past_aside-end.ensures.rose

pub returns-then-tried-clause-goes : goal.returns-then-tried-clause-goes
returns-then-tried-clause-goes c = nothing_past (table_limits c.args.self.now.words) c.args.stage c.args.from _ c.args.lows.now (view_of c.args.seat.now) c.requires.from c.requires.steady.steady

pub returns-clause-goes : goal.returns-clause-goes
returns-clause-goes c = let l : Limits = table_limits c.args.self.now.words in let first : looks_if c.args.tried.now ≡ 0 = ap looks_if c.if-tried.false in let a = c.past_aside-end.ensures in let f = c.finish_parts.ensures in let up = a.part.0 in record {
  part = a.part;
  left = a.left;
  others = f.others;
  rises = f.rises;
  rests = λ q low high. inl (f.finished q low high);
  few = looked_few l _ _ _ _ (omega arith) (looked_then l _ _ _ _ _ a.few f.few);
  told = ⊎_elim
      (λ t. inl (t.0, ap (λ (z : SeatShown). view_of z) (f.none t.0 ∙ t.1)))
      (λ looks. inr (finished_sought l c.args.stage _ c.args.from c.past_aside-end.result c.finish_parts.new.lows _ _ c.requires.stage.0 c.args.self.now.words.places.valid.rows.0 f.remembers f.finished
      (acted_few l _ _ _ _ (omega arith) (acted_then l _ _ _ _ _ looks f.few)))) a.acted;
}
