use Rattle.std.proofs.Common.{◌≡◌, ◌+◌, ◌*◌, List, sym, refl, ◌∙◌, ap, arith, rules, subst}
use Rattle.tp_model.specs.declared.types.Limits.{Limits}
use Rattle.tp_model.specs.declared.event.Event.{Event}
use Rattle.tp_rule.specs.Tables.{table_limits}
use Rattle.tp_rule.specs.Views.{seen_by, view_of}
use Rattle.tp_manager.specs.Bounds.{look_steps}
use Rattle.tp_manager.specs.Together.{account_below}
use Rattle.tp_manager.proofs.Calls.CallSteps.{looked_begins, looked_few, looked_none, looked_then}
use Rattle.tp_manager.proofs.Accounts.RowCounts.{squeezed}
use Rattle.tp_manager.proofs.Rows.Seeks.{rows_more}
use Rattle.tp_manager.proofs.manager.Shared.count_rows.Goals as goal

pub loop-row-init : goal.loop-row-init
loop-row-init c = let l : Limits = table_limits c.args.self.now.words in record {
  same = refl;
  inside = omega arith;
  looked = looked_few l 0 _ _ _ (omega arith) (looked_none l (view_of c.args.seat.now) c.requires.steady.steady);
  few = c.no_account-account.ensures.within;
  counted = λ _. c.no_account-account.ensures.none l.attempts (seen_by c.args.seat.now);
}

pub loop-row-preserved : goal.loop-row-preserved
loop-row-preserved c = let l : Limits = table_limits c.args.self.now.words in let i = c.loop-row.invariant in let row = c.loop-row.row in let s = look_steps l in let next = c.count_row.new.row in record {
  same = search rules;
  inside = c.count_row.ensures.on.inside;
  looked = looked_few l (row * s + s) (next * s) _ _ (rows_more row next s c.count_row.ensures.on.on) (looked_then l (row * s) s _ _ _ i.looked c.count_row.ensures.looked);
  few = c.count_row.ensures.few;
  counted = λ e.
      let m : seen_by c.loop-row.seat ≡ seen_by c.args.seat.now = squeezed (seen_by c.args.seat.now) (seen_by c.loop-row.seat) (seen_by c.count_row.new.seat) (looked_begins l (row * s) _ _ i.looked) (looked_begins l s _ _ c.count_row.ensures.looked) e in
      subst (λ (h : List Event). c.count_row.new.account ≡ account_below l h next) m (c.count_row.ensures.counted (i.counted m ∙ ap (λ (h : List Event). account_below l h row) (sym m)) (e ∙ sym m));
}
