-- Where the folds of boxes' work began, as lists.
use Rattle.std.proofs.Common.{◌≡◌, ℕ, ◌+◌, zero, suc, List, [], ◌∷◌, ◌++◌, refl, sym, ◌∙◌, ap, subst, length, set, take, drop, zip, Some, ◌<◌, arith}
use Rattle.std.specs.Prelude.{slice_get}
use Rattle.std.specs.declared.alloc.Global.{Global}
use Rattle.std.specs.declared.dyn_box.DynBox.{DynBox}
use Rattle.std.proofs.Math.Numerals.{suc-eq-add-one}
use Rattle.std.proofs.lemmas.List.{length-map, map-append, map-set, take_more}
use Rattle.std.proofs.lemmas.Option.{get_or_from_slice_get, slice_get_within}
use Rattle.tp_manager.specs.Shown.{PassShown}
use Rattle.tp_crew.specs.CrewPasses.{desks_in}
use Rattle.tp_crew.specs.declared.fold_start.FoldStart.{FoldStart}
use Rattle.tp_crew.specs.Folds.{BeginsFold}
use Rattle.tp_crew.specs.FoldStarts.{begun}

module _ {A : Type 0} where
  next : (xs : List A) (k : ℕ) (x : A) → slice_get xs (suc k) ≡ Some x → slice_get (drop 1 xs) k ≡ Some x
  next [] k x e = absurd cc
  next (y ∷ ys) k x e = e

  behind_first : (xs : List A) (k : ℕ) (x : A) → slice_get xs (k + 1) ≡ Some x → slice_get (drop 1 xs) k ≡ Some x
  behind_first xs k x e = next xs k x (ap (slice_get xs) (suc-eq-add-one k) ∙ e)

  in_front : (xs : List A) (n k : ℕ) (x : A) → k < n → slice_get xs k ≡ Some x → slice_get (take n xs) k ≡ Some x
  in_front xs zero k x less e = absurd (omega (arith, less))
  in_front [] (suc n) k x less e = absurd cc
  in_front (y ∷ ys) (suc n) zero x less e = e
  in_front (y ∷ ys) (suc n) (suc k) x less e = in_front ys n k x (omega (arith, less)) e

  one_more : (xs : List A) (k : ℕ) (x : A) → slice_get xs k ≡ Some x → take (k + 1) xs ≡ take k xs ++ x ∷ []
  one_more xs k x e = take_more xs k x (slice_get_within xs k x e) ∙ ap (λ (y : A). take k xs ++ y ∷ []) (get_or_from_slice_get xs k x x e)

-- the desk's pass of the box at place k
pub desk_at : (ps : List PassShown) (n k : ℕ) (p : PassShown) → k < n → slice_get ps (k + 1) ≡ Some p → slice_get (desks_in n ps) k ≡ Some p
desk_at ps n k p less e = in_front (drop 1 ps) n k p less (behind_first ps k p e)

beside : {A B : Type 0} (xs : List A) (ys : List B) (k : ℕ) (x : A) (y : B) → slice_get xs k ≡ Some x → slice_get ys k ≡ Some y
    → slice_get (zip xs ys) k ≡ Some (x, y)
beside [] ys k x y e f = absurd cc
beside (a ∷ xs) [] k x y e f = absurd cc
beside (a ∷ xs) (b ∷ ys) zero x y e f = cc
beside (a ∷ xs) (b ∷ ys) (suc k) x y e f = beside xs ys k x y e f

zip_all : {A B : Type 0} (xs : List A) (ys : List B) → take (length ys) (zip xs ys) ≡ zip (take (length ys) xs) ys
zip_all [] [] = refl
zip_all (a ∷ xs) [] = refl
zip_all [] (b ∷ ys) = refl
zip_all {A = A} {B = B} (a ∷ xs) (b ∷ ys) = ap (λ (l : List (A × B)). (a, b) ∷ l) (zip_all xs ys)

module _ {X : Type 0} {F : X → Type 0} (ps : List PassShown) (us : List (DynBox X Global F)) where
  -- the fold of one box more begins
  pub begun_more : (starts : List (FoldStart X F)) (s : FoldStart X F) (k : ℕ) → begun starts ≡ take k (zip (drop 1 ps) us)
      → slice_get ps (k + 1) ≡ Some s.pass.value → slice_get us k ≡ Some s.server.value
      → begun (starts ++ s ∷ []) ≡ take (k + 1) (zip (drop 1 ps) us)
  begun_more starts s k so_far pass server =
      let both = beside (drop 1 ps) us k s.pass.value s.server.value (behind_first ps k s.pass.value pass) server in
      let it : PassShown × DynBox X Global F = (s.pass.value, s.server.value) in
      map-append (λ (s : FoldStart X F). (s.pass.value, s.server.value)) starts (s ∷ [])
      ∙ (ap (λ (l : List (PassShown × DynBox X Global F)). l ++ it ∷ []) so_far ∙ sym (one_more (zip (drop 1 ps) us) k it both))

  pub begun_all : (starts : List (FoldStart X F)) → begun starts ≡ take (length us) (zip (drop 1 ps) us) → begun starts ≡ zip (desks_in (length us) ps) us
  begun_all starts all = all ∙ zip_all (drop 1 ps) us

-- one fold begins in place k
pub begins : {X : Type 0} {F : X → Type 0} (starts : List (FoldStart X F)) (k : ℕ) (ps : List PassShown) (u : DynBox X Global F) (s : FoldStart X F)
    → slice_get ps (k + 1) ≡ Some s.pass.value → s.server.value ≡ u → BeginsFold k u ps (begun starts) (begun (set starts k s))
begins {X = X} {F = F} starts k ps u s pass server =
    let shown : FoldStart X F → PassShown × DynBox X Global F = λ s. (s.pass.value, s.server.value) in
    record { pass = s.pass.value; pass_is = pass; folds_are = map-set shown starts k s ∙ ap (λ (v : DynBox X Global F). set (begun starts) k (s.pass.value, v)) server }

-- all folds begin anew, one after another: those before place k have begun, and the others are as they were
begin_step : {A : Type 0} (zs bs : List A) (k : ℕ) (z : A) → slice_get zs k ≡ Some z → k < length bs → set (take k zs ++ drop k bs) k z ≡ take (suc k) zs ++ drop (suc k) bs
begin_step [] bs k z at less = absurd cc
begin_step (x ∷ zs) [] k z at less = absurd (omega (arith, less))
begin_step (x ∷ zs) (b ∷ bs) zero z at less = cc
begin_step {A = A} (x ∷ zs) (b ∷ bs) (suc k) z at less = ap (λ (l : List A). x ∷ l) (begin_step zs bs k z at (omega (arith, less)))

drop_all : {A : Type 0} (xs : List A) (k : ℕ) → length xs ≡ k → drop k xs ≡ []
drop_all {A = A} [] k e = subst (λ (n : ℕ). drop {A = A} n [] ≡ []) e refl
drop_all {A = A} (x ∷ xs) k e = subst (λ (n : ℕ). drop n (x ∷ xs) ≡ []) e (drop_all xs (length xs) refl)

append_none : {A : Type 0} (xs : List A) → xs ++ [] ≡ xs
append_none [] = refl
append_none {A = A} (x ∷ xs) = ap (λ (l : List A). x ∷ l) (append_none xs)

pub begun_long : {X : Type 0} {F : X → Type 0} (starts : List (FoldStart X F)) → length (begun starts) ≡ length starts
begun_long {X = X} {F = F} starts = length-map starts (λ (s : FoldStart X F). (s.pass.value, s.server.value))

module _ {X : Type 0} {F : X → Type 0} (ps : List PassShown) (us : List (DynBox X Global F)) (bs : List (PassShown × DynBox X Global F)) where
  pub begin_more : (k : ℕ) (u : DynBox X Global F) (old new : List (PassShown × DynBox X Global F)) → slice_get us k ≡ Some u → k < length bs
      → old ≡ take k (zip (drop 1 ps) us) ++ drop k bs → BeginsFold k u ps old new
      → new ≡ take (k + 1) (zip (drop 1 ps) us) ++ drop (k + 1) bs
  begin_more k u old new server less so_far begins =
      let it : PassShown × DynBox X Global F = (begins.pass, u) in
      let both = beside (drop 1 ps) us k begins.pass u (behind_first ps k begins.pass begins.pass_is) server in
      let step = begin_step (zip (drop 1 ps) us) bs k it both less in
      begins.folds_are ∙ (ap (λ (l : List (PassShown × DynBox X Global F)). set l k it) so_far
      ∙ (step ∙ ap (λ (n : ℕ). take n (zip (drop 1 ps) us) ++ drop n bs) (suc-eq-add-one k)))

  pub begin_end : (k : ℕ) (all : List (PassShown × DynBox X Global F)) → k ≡ length us → length bs ≡ k → all ≡ take k (zip (drop 1 ps) us) ++ drop k bs
      → all ≡ zip (desks_in (length us) ps) us
  begin_end k all last long is =
      is ∙ (ap (λ (l : List (PassShown × DynBox X Global F)). take k (zip (drop 1 ps) us) ++ l) (drop_all bs k long)
      ∙ (append_none (take k (zip (drop 1 ps) us)) ∙ (ap (λ (n : ℕ). take n (zip (drop 1 ps) us)) last ∙ zip_all (drop 1 ps) us)))
