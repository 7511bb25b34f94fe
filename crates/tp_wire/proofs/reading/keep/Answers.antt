use Rattle.std.proofs.Common.{◌≡◌, ◌∙◌, arith, List, ℕ}
use Rattle.std.specs.Prelude.{OnOk, Result, Ok, Err, if◌then◌else◌}
use Rattle.std.specs.Result.{is_ok}
use Rattle.tp_wire.specs.declared.reading.TheConstants.{MAX_KEPT}
use Rattle.tp_wire.proofs.HeardLemmas.{kept_more}
use Rattle.tp_wire.proofs.reading.keep.Goals as goal

if_ok : {T E : Type 0} (r : Result T E) (xs ys zs all : List ℕ) → xs ≡ if is_ok r then ys else zs → ys ≡ all → OnOk r (xs ≡ all)
if_ok (Ok x) xs ys zs all p q = p ∙ q
if_ok (Err e) xs ys zs all p q = tt

pub returns-clause-kept : goal.returns-clause-kept
returns-clause-kept c =
    if_ok c.extend_from_slice.result _ _ _ _ c.extend_from_slice.ensures.items (kept_more MAX_KEPT c.min.result c.args.line.now.items c.args.bytes.now (omega (arith, c.min.ensures, c.len-room.ensures, c.args.line.now.ok.0)) (omega (arith, c.requires.short, c.args.line.now.ok.0)))
