-- The first four of a list.
use Rattle.std.proofs.Common.{◌≡◌, All, List, ◌∷◌, subst}
use Rattle.std.proofs.lemmas.List.Elements.{All-cons, All-head, All-tail}

module _ {X : Type 0} (P : X → Type 0) (xs ys zs us vs : List X) (a b c d : X) (one : xs ≡ a ∷ ys) (two : ys ≡ b ∷ zs) (three : zs ≡ c ∷ us) (four : us ≡ d ∷ vs) (all : All P xs) where
  in_ys : All P ys
  in_ys = All-tail P a ys (subst (All P) one all)

  in_zs : All P zs
  in_zs = All-tail P b zs (subst (All P) two in_ys)

  in_us : All P us
  in_us = All-tail P c us (subst (All P) three in_zs)

  pub each_of_four : P a × P b × P c × P d
  each_of_four = (All-head P a ys (subst (All P) one all), All-head P b zs (subst (All P) two in_ys), All-head P c us (subst (All P) three in_zs), All-head P d vs (subst (All P) four in_us))

  -- with four others in their place
  pub four_again : (a' b' c' d' : X) → P a' × P b' × P c' × P d' → All P (a' ∷ (b' ∷ (c' ∷ (d' ∷ vs))))
  four_again a' b' c' d' (p, q, r, s) =
      All-cons P a' (b' ∷ (c' ∷ (d' ∷ vs))) p (All-cons P b' (c' ∷ (d' ∷ vs)) q (All-cons P c' (d' ∷ vs) r (All-cons P d' vs s (All-tail P d vs (subst (All P) four in_us)))))
