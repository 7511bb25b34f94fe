-- A fold that goes on where another one ended, proved.
use Rattle.std.proofs.Common.{ℕ, List, [], ◌∷◌, ◌++◌, refl, sym, subst}
use Rattle.tp_server.specs.Behaviour.{Behaviour, Done, Folds}
use Rattle.tp_server.specs.Onward.{FoldsGoOn}

module _ (b : Behaviour) (end : List ℕ) (rest : List Done) where
  parts : (start : List ℕ) (first : List Done) → Folds b start (first ++ rest) end → (middle : List ℕ) × Folds b start first middle × Folds b middle rest end
  parts start [] f = (start, refl, f)
  parts start (d ∷ first) f = let t = parts f.0 first f.2 in (t.0, (f.0, f.1, t.1), t.2)

  whole : (start middle : List ℕ) (first : List Done) → Folds b start first middle → Folds b middle rest end → Folds b start (first ++ rest) end
  whole start middle [] f g = subst (λ s. Folds b s rest end) (sym f) g
  whole start middle (d ∷ first) f g = (f.0, f.1, whole f.0 middle first f.2 g)

pub folds_go_on : FoldsGoOn
folds_go_on b start end first rest = (λ f. parts b end rest start first f, λ t. whole b end rest start t.0 first t.1 t.2)
