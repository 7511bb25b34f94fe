-- What desks leave, and whose they were.
use Rattle.std.proofs.Common.{◌≡◌, ℕ, zero, suc, ◌<◌, List, [], ◌∷◌, ◌++◌, Option, Some, inl, inr, refl, sym, ◌∙◌, ap, subst, arith, length, map, get_or, set, slice_set}
use Rattle.std.specs.List.{swap}
use Rattle.std.specs.declared.alloc.Global.{Global}
use Rattle.std.specs.declared.dyn_box.DynBox.{DynBox}
use Rattle.std.proofs.lemmas.List.{length-map, get_or-map, ext_get_or, map-append, map-set}
use Rattle.std.proofs.lemmas.Bool.Decides.{eqb_tells}
use Rattle.std.proofs.lemmas.List.Edits.{length-swap, swapped_from_swap}
use Rattle.tp_server.specs.Behaviour.{Behaviour}
use Rattle.tp_server.specs.Pending.{Pending}
use Rattle.tp_manager.specs.Shown.{PassShown, numbers}
use Rattle.tp_commands.specs.declared.place.Place.{Place}
use Rattle.tp_commands.specs.Places.{AllLeft, AllLie, IsLeft, all_firsts, first_of, firsts, workers}

-- ---- lists

-- one in place of another that looks the same
pub map_set_same : {A B : Type 0} (f : A → B) (xs : List A) (i : ℕ) (x d : A) → i < length xs → f x ≡ f (get_or xs i d) → map f (slice_set xs i x) ≡ map f xs
map_set_same f [] i x d within same = absurd (omega (arith, within))
map_set_same f (y ∷ ys) zero x d within same = ap (λ z. z ∷ map f ys) same
map_set_same f (y ∷ ys) (suc i) x d within same = ap (λ zs. f y ∷ zs) (map_set_same f ys i x d (omega (arith, within)) same)

pub map_swap : {A B : Type 0} (f : A → B) (xs : List A) (i j : ℕ) → i < length xs → j < length xs → map f (swap xs i j) ≡ swap (map f xs) i j
map_swap f [] i j within also = refl
map_swap f (x ∷ xs) i j within also =
    map-set f (set (x ∷ xs) i (get_or (x ∷ xs) j x)) j (get_or (x ∷ xs) i x)
    ∙ (ap (λ ys. set ys j (f (get_or (x ∷ xs) i x))) (map-set f (x ∷ xs) i (get_or (x ∷ xs) j x))
    ∙ (ap (λ y. set (set (map f (x ∷ xs)) i y) j (f (get_or (x ∷ xs) i x))) (sym (get_or-map f (x ∷ xs) j x (f x) also))
    ∙ ap (λ y. set (set (map f (x ∷ xs)) i (get_or (map f (x ∷ xs)) j (f x))) j y) (sym (get_or-map f (x ∷ xs) i x (f x) within))))

-- two that change places twice are where they were
pub swap_back : {A : Type 0} (xs : List A) (i j : ℕ) → i < length xs → j < length xs → swap (swap xs i j) i j ≡ xs
swap_back [] i j within also = refl
swap_back {A} (x ∷ xs) i j within also =
    ext_get_or x twice (x ∷ xs) (length-swap once i j ∙ length-swap (x ∷ xs) i j) each
  where
    once : List A
    once = swap (x ∷ xs) i j

    twice : List A
    twice = swap once i j

    each : (k : ℕ) → k < length twice → get_or twice k x ≡ get_or (x ∷ xs) k x
    each k less =
        let first = swapped_from_swap (x ∷ xs) (swap (x ∷ xs) i j) i j x within also refl in
        let long = length-swap (x ∷ xs) i j in
        let second = swapped_from_swap (swap (x ∷ xs) i j) (swap (swap (x ∷ xs) i j) i j) i j x (omega (arith, long, within)) (omega (arith, long, also)) refl in
        elim (eqb_tells k i) [
          | inl p ↦ subst (λ n. get_or (swap (swap (x ∷ xs) i j) i j) n x ≡ get_or (x ∷ xs) n x) (sym p.1) (second.0 ∙ first.1)
          | inr p ↦ elim (eqb_tells k j) [
            | inl q ↦ subst (λ n. get_or (swap (swap (x ∷ xs) i j) i j) n x ≡ get_or (x ∷ xs) n x) (sym q.1) (second.1 ∙ first.0)
            | inr q ↦ second.2 k p.1 q.1 ∙ first.2 k p.1 q.1
          ]
        ]

-- whatever came between them, if it kept what f shows
pub kept_between : {A B : Type 0} (f : A → B) (xs ys zs : List A) (i j : ℕ) → i < length xs → j < length xs → ys ≡ swap xs i j → length zs ≡ length ys → map f zs ≡ map f ys → map f (swap zs i j) ≡ map f xs
kept_between f xs ys zs i j within also is long same =
    let all : length zs ≡ length xs = long ∙ (ap length is ∙ length-swap xs i j) in
    let mapped = length-map xs f in
    map_swap f zs i j (omega (arith, all, within)) (omega (arith, all, also))
    ∙ (ap (λ l. swap l i j) (same ∙ (ap (map f) is ∙ map_swap f xs i j within also))
    ∙ swap_back (map f xs) i j (omega (arith, mapped, within)) (omega (arith, mapped, also)))

-- a part in the middle that shows the same
pub same_within : {A B : Type 0} (f : A → B) (xs front rest here back ys : List A) → xs ≡ front ++ rest → rest ≡ here ++ back → map f ys ≡ map f here → map f (front ++ (ys ++ back)) ≡ map f xs
same_within f xs front rest here back ys whole part same =
    map-append f front (ys ++ back)
    ∙ (ap (λ zs. map f front ++ zs) (map-append f ys back ∙ (ap (λ zs. zs ++ map f back) same ∙ (sym (map-append f here back) ∙ ap (map f) (sym part))))
    ∙ (sym (map-append f front rest) ∙ ap (map f) (sym whole)))

-- two parts that show the same
pub same_parts : {A B : Type 0} (f : A → B) (xs front back ys zs : List A) → xs ≡ front ++ back → map f ys ≡ map f front → map f zs ≡ map f back → map f (ys ++ zs) ≡ map f xs
same_parts f xs front back ys zs whole first second =
    map-append f ys zs ∙ (ap (λ us. us ++ map f zs) first ∙ (ap (λ us. map f front ++ us) second ∙ (sym (map-append f front back) ∙ ap (map f) (sym whole))))

-- one desk more that begins
more_firsts : {X : Type 0} {F : X → Type 0} (ps : List PassShown) (ss : List (DynBox X Global F)) (p : PassShown) (s : DynBox X Global F)
    → length ps ≡ length ss → all_firsts (ps ++ p ∷ []) (ss ++ s ∷ []) ≡ all_firsts ps ss ++ Some (p, s) ∷ []
more_firsts [] [] p s long = refl
more_firsts [] (y ∷ ss) p s long = absurd (omega (arith, long))
more_firsts (x ∷ ps) [] p s long = absurd (omega (arith, long))
more_firsts (x ∷ ps) (y ∷ ss) p s long = ap (λ zs. Some (x, y) ∷ zs) (more_firsts ps ss p s (omega (arith, long)))

pub firsts_more : {X : Type 0} {F : X → Type 0} (ps : List PassShown) (ss : List (DynBox X Global F)) (os : List (Place X F)) (p : PassShown) (s : DynBox X Global F) (o : Place X F)
    → length ps ≡ length ss → firsts os ≡ all_firsts ps ss → first_of o ≡ Some (p, s) → firsts (os ++ o ∷ []) ≡ all_firsts (ps ++ p ∷ []) (ss ++ s ∷ [])
firsts_more ps ss os p s o long same one =
    map-append first_of os (o ∷ []) ∙ (ap (λ zs. zs ++ first_of o ∷ []) same ∙ (ap (λ z. all_firsts ps ss ++ z ∷ []) one ∙ sym (more_firsts ps ss p s long)))

-- ---- what was left

module _ {X : Type 0} {F : X → Type 0} (behaviour : DynBox X Global F → Behaviour) (registers : DynBox X Global F → List ℕ) (pending : DynBox X Global F → Option Pending) where
  abbrev Box : Type 0
  Box = DynBox X Global F

  -- the servers' passes among all
  pub workers_are : (n : ℕ) (client : PassShown) (ws rs : List PassShown) → length ws ≡ n → workers n (client ∷ (ws ++ rs)) ≡ ws
  workers_are zero client [] rs long = refl
  workers_are zero client (w ∷ ws) rs long = absurd (omega (arith, long))
  workers_are (suc n) client [] rs long = absurd (omega (arith, long))
  workers_are (suc n) client (w ∷ ws) rs long = ap (λ zs. w ∷ zs) (workers_are n client ws rs (omega (arith, long)))

  module _ (olds : List PassShown) (client client' : PassShown) (others ws rs qs rs' : List PassShown) (ss ts : List Box) (fs : List (Option (PassShown × Box)))
      (all : olds ≡ client ∷ others) (parts : others ≡ ws ++ rs) (long : length ws ≡ length ss) (began : fs ≡ all_firsts ws ss) (left : AllLeft behaviour registers fs qs ts) where
    left_of : AllLeft behaviour registers (all_firsts ws ss) qs ts
    left_of = subst (λ zs. AllLeft behaviour registers zs qs ts) began left
