use Rattle.std.proofs.Common.{◌≡◌, true, sym, ◌∙◌}
use Rattle.std.specs.Prelude.{Err, Ok, OnOk, Result, is_ok}
use Rattle.tp_images.proofs.late.cancel_at_work.Goals as goal

-- what is so of a result that is fine
of_ok : {T E : Type 0} (r : Result T E) (P : Type 0) → is_ok r ≡ true → OnOk r P → P
of_ok (Ok x) P fine p = p
of_ok (Err e) P fine p = absurd cc

pub commit-requires-clause-prepared : goal.commit-requires-clause-prepared
commit-requires-clause-prepared g c = (of_ok c.prepare.result _ (sym c.is_ok.ensures.value ∙ c.if-is_ok.true) c.prepare.ensures.ready).2
