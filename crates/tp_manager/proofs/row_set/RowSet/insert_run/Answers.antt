use Rattle.std.proofs.Common.{inl, inr, ⊎_elim, arith}
use Rattle.tp_manager.proofs.row_set.RowSet.insert_run.Goals as goal

pub returns : goal.returns
returns c = λ i. let all = c.loop-row-test.false in let e = c.loop-row.invariant.1 i in (
  λ h. ⊎_elim (λ old. inl old) (λ new. inr new.0) (e.0 h),
  λ t. ⊎_elim (λ old. e.1 (inl old)) (λ new. e.1 (inr (new, let high = new.1 in omega arith))) t,
)
