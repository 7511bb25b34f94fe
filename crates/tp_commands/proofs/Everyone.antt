-- All passes that a keeper gave out.
use Rattle.std.proofs.Common.{◌≡◌, ℕ, ◌+◌, List, [], ◌∷◌, sym, ◌∙◌, ap, length}
use Rattle.std.proofs.lemmas.List.{length-map}
use Rattle.tp_manager.specs.Accounts.{AreAll, AreNumberedFrom}
use Rattle.tp_manager.specs.Shown.{KeeperShown, PassShown, numbers}

-- others with the same numbers
from_same : (c : ℕ) (ps qs : List PassShown) → numbers qs ≡ numbers ps → AreNumberedFrom c ps → AreNumberedFrom c qs
from_same c [] [] same all = tt
from_same c [] (q ∷ qs) same all = absurd cc
from_same c (p ∷ ps) [] same all = absurd cc
from_same c (p ∷ ps) (q ∷ qs) same all = (first (numbers qs) (numbers ps) same ∙ all.0, from_same (c + 1) ps qs (rest (numbers qs) (numbers ps) same) all.1)
  where
    first : (xs ys : List ℕ) → q.number ∷ xs ≡ p.number ∷ ys → q.number ≡ p.number
    first xs ys e = cc

    rest : (xs ys : List ℕ) → q.number ∷ xs ≡ p.number ∷ ys → xs ≡ ys
    rest xs ys e = cc

pub all_same : (keeper : KeeperShown) (ps qs : List PassShown) → numbers qs ≡ numbers ps → AreAll keeper ps → AreAll keeper qs
all_same keeper ps qs same all =
    (sym (length-map qs (λ (p : PassShown). p.number)) ∙ (ap length same ∙ (length-map ps (λ (p : PassShown). p.number) ∙ all.0)), from_same 0 ps qs same all.1)

-- and as many of them given out
pub all_kept : (keeper keeper' : KeeperShown) (ps qs : List PassShown) → numbers qs ≡ numbers ps → keeper'.given ≡ keeper.given → AreAll keeper ps → AreAll keeper' qs
all_kept keeper keeper' ps qs same given all = let these = all_same keeper ps qs same all in (these.0 ∙ sym given, these.1)
