-- The outputs that drafts become.
use Rattle.std.proofs.Common.{◌≡◌, ℕ, zero, suc, ◌+◌, ◌<◌, Some, List, [], ◌∷◌, ◌++◌, length, take, slice_index_or, refl, ap, arith, add-zero}
use Rattle.tp_model.specs.Drafts.{DraftView}
use Rattle.tp_model.specs.Births.{outputs}

-- one draft more
pub outputs_more : (u root id : ℕ) (ds : List DraftView) (i : ℕ) (d : DraftView) → i < length ds → d ≡ slice_index_or ds i d
    → outputs u root id (take (suc i) ds) ≡ outputs u root id (take i ds) ++ record { id = id + i; stage = d.stage; root = root; body = d.body; by = Some u } ∷ []
outputs_more u root id [] i d less is = absurd (omega arith)
outputs_more u root id (x ∷ ds) zero d less is = rw (is, add-zero) refl
outputs_more u root id (x ∷ ds) (suc i) d less is =
    let rest = outputs_more u root (id + 1) ds i d (omega arith) is in
    let same : id + 1 + i ≡ id + suc i = omega arith in
    ap (λ r. record { id = id; stage = x.stage; root = root; body = x.body; by = Some u } ∷ r) (rw same at rest)

pub length-outputs : (u root id : ℕ) (ds : List DraftView) → length (outputs u root id ds) ≡ length ds
length-outputs u root id [] = refl
length-outputs u root id (d ∷ ds) = ap suc (length-outputs u root (id + 1) ds)
