-- An id in the places of an index, as it goes from a group to another.
use Rattle.std.proofs.Common.{◌≡◌, ◌==◌, ◌&&◌, ◌||◌, ℕ, Bool, true, false, not, inl, inr, Option, refl, sym, ◌∙◌, ap, subst, arith}
use Rattle.std.proofs.lemmas.Bool.Decides.{nat_tests}
use Rattle.tp_store.specs.Elements.{is_group}
use Rattle.tp_store.specs.Indexes.{has}
use Rattle.tp_store.specs.Indexing.{Places, IsIn, HasBegun, HasEntered, HasLeft, HasSame}

-- numbers that a test calls equal are
pub same_number : (m n : ℕ) → (m == n) ≡ true → m ≡ n
same_number m n h = grind (arith, nat_tests)

left_again : (h here t f : Bool) → (here ≡ true → h ≡ f) → (h && not (here && (t && not f))) ≡ h
left_again true false t f e = refl
left_again false false t f e = refl
left_again true true true true e = refl
left_again true true true false e = sym (e refl)
left_again true true false f e = refl
left_again false true t f e = refl

undone_entry : (h here t f : Bool) → (here ≡ true → h ≡ f) → ((h || (here && t)) && not (here && (t && not f))) ≡ h
undone_entry true here t f e = left_again true here t f e
undone_entry false false t f e = refl
undone_entry false true true true e = sym (e refl)
undone_entry false true true false e = refl
undone_entry false true false f e = refl

moved_over : (h here t f : Bool) → (here ≡ true → h ≡ f) → (here ≡ true → ((h || (here && t)) && not (here && (f && not t))) ≡ t)
moved_over h false t f e = λ no. absurd cc
moved_over h true t f e = λ _. go h f t (e refl)
  where
    go : (h f t : Bool) → h ≡ f → ((h || t) && not (f && not t)) ≡ t
    go true true true e = refl
    go true true false e = refl
    go false false true e = refl
    go false false false e = refl
    go true false t e = absurd cc
    go false true t e = absurd cc

stays : (h here t f : Bool) → here ≡ false → ((h || (here && t)) && not (here && (f && not t))) ≡ h
stays true here t f e = rw e refl
stays false here t f e = rw e refl

module _ (id : ℕ) (from to : Option ℕ) (old mid new : Places) (known : IsIn id from old) where
  at_id : (g i : ℕ) → (id == i) ≡ true → has old g i ≡ is_group g from
  at_id g i here = subst (λ j. has old g j ≡ is_group g from) (same_number id i here) (known g)

  -- what was begun is undone
  pub undone : HasBegun id to old mid → HasLeft id to from mid new → HasSame old new
  undone (inl same) left = λ g i. (left g i ∙ (ap (λ b. b && not (id == i && (is_group g to && not (is_group g from)))) (same g i) ∙ left_again _ _ _ _ (at_id g i)))
  undone (inr entered) left = λ g i. (left g i ∙ (ap (λ b. b && not (id == i && (is_group g to && not (is_group g from)))) (entered g i) ∙ undone_entry _ _ _ _ (at_id g i)))

  -- an id that has entered a group and left the one before stands there alone
  pub gone_over : HasEntered id to old mid → HasLeft id from to mid new → IsIn id to new
  gone_over entered left = λ g. (left g id ∙ (ap (λ b. b && not (id == id && (is_group g from && not (is_group g to)))) (entered g id) ∙ moved_over _ _ _ _ (at_id g id) (itself id)))
    where
      itself : (n : ℕ) → (n == n) ≡ true
      itself n = grind (arith, nat_tests)

  -- and the other ids stand where they stood
  pub others_stay : HasEntered id to old mid → HasLeft id from to mid new → (g i : ℕ) → (id == i) ≡ false → has new g i ≡ has old g i
  others_stay entered left g i apart = left g i ∙ (ap (λ b. b && not (id == i && (is_group g from && not (is_group g to)))) (entered g i) ∙ stays _ _ _ _ apart)
