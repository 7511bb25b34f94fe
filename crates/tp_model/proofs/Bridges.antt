-- What one more event makes of what was born, of the claims of units, and of the events of a pass.
use Rattle.std.proofs.Common.{◌≡◌, ◌≢◌, ◌⊎◌, ℕ, ◌+◌, ◌<◌, ◌≤◌, ◌==◌, cond, nat_lt, Bool, true, false, Option, Some, None, List, [], ◌∷◌, ◌++◌, length, refl, sym, ◌∙◌, ap, subst, inl, inr, ⊎_elim, append_assoc, arith}
use Rattle.std.proofs.lemmas.Bool.{eq-eqb, ne_eqb}
use Rattle.std.proofs.lemmas.Bool.Decides.{eqb_tells, nat_tests}
use Rattle.std.proofs.lemmas.List.Elements.{filter-append}
use Rattle.std.specs.List.{find}
use Rattle.std.specs.Option.{option_or}
use mathlib.Core.List.{IsPrefix}
use Rattle.tp_model.specs.declared.types.Element.{Element}
use Rattle.tp_model.specs.declared.types.Limits.{Limits}
use Rattle.tp_model.specs.declared.types.Status.TheVariants.{Waiting, Held, Parked, Killed}
use Rattle.tp_model.specs.declared.event.Event.{Event}
use Rattle.tp_model.specs.declared.event.Event.TheVariants.{Enqueue, Claim, Commit, Abort, Kill, Requeue}
use Rattle.tp_model.specs.History.{In, here, there, births, born, element_of, IsBorn, IsUnborn, UnitClaim, claim_by, claim_of, IsClaim, IsUnused, UnitEnd, Committed, Aborted, end_by, end_of, first_id, status_of, pass_of, events_by}
use Rattle.tp_model.specs.Words.{ClaimWord, FreeWord, TakenWord, KilledWord, AgainWord, claim_word, taken_status, word_status}
use Rattle.tp_model.specs.Steps.{MayUse, IsOutput, AreOutputs, IsKillable, IsParked, Step, IsLegal}
use Rattle.tp_model.proofs.Lists.{option_or-none, option_or-some, first-kept, first-snoc, if_same, if_other, some_if}
use Rattle.tp_model.proofs.Histories.{element_of-kept, element_of-snoc}
use Rattle.tp_model.proofs.WordProofs.{status_by_words}

module _ {A : Type 0} where
  pub in_left : {a : A} {xs : List A} (ys : List A) → In a xs → In a (xs ++ ys)
  in_left ys here = here
  in_left ys (there p) = there (in_left ys p)

  pub in_right : {a : A} (xs : List A) {ys : List A} → In a ys → In a (xs ++ ys)
  in_right [] p = p
  in_right (x ∷ xs) p = there (in_right xs p)

  pub in_either : {a : A} (xs ys : List A) → In a (xs ++ ys) → In a xs ⊎ In a ys
  in_either [] ys p = inr p
  in_either (x ∷ xs) ys here = inl here
  in_either (x ∷ xs) ys (there p) = ⊎_elim (λ q. inl (there q)) (λ q. inr q) (in_either xs ys p)

  pub in_none : {a : A} → In a [] → ⊥
  in_none p = elim p [ ]

  pub in_cons : {a b : A} {xs : List A} → In a (b ∷ xs) → (a ≡ b) ⊎ In a xs
  in_cons here = inl refl
  in_cons (there p) = inr p

  pub in_here : {a b : A} (xs : List A) → a ≡ b → In a (b ∷ xs)
  in_here {a} xs e = subst (λ z. In a (z ∷ xs)) e here

  pub in_one : {a b : A} → In a (b ∷ []) → a ≡ b
  in_one p = ⊎_elim (λ e. e) (λ q. absurd (in_none q)) (in_cons p)

  pub append_nil : (xs : List A) → xs ++ [] ≡ xs
  append_nil [] = refl
  append_nil (x ∷ xs) = ap (λ l. x ∷ l) (append_nil xs)

-- histories that begin with one

pub begins_refl : (h : List Event) → IsPrefix h h
begins_refl h = ([], append_nil h)

pub begins_more : (a h : List Event) (e : Event) → IsPrefix a h → IsPrefix a (h ++ e ∷ [])
begins_more a h e b = (b.0 ++ e ∷ [], sym (append_assoc a b.0 (e ∷ [])) ∙ ap (λ l. l ++ e ∷ []) b.1)

pub begins_trans : (a b c : List Event) → IsPrefix a b → IsPrefix b c → IsPrefix a c
begins_trans a b c x y = (x.0 ++ y.0, sym (append_assoc a x.0 y.0) ∙ (ap (λ l. l ++ y.0) x.1 ∙ y.1))

-- the events of a pass

pub by_own : (c : ℕ) (h : List Event) (e : Event) → pass_of e ≡ c → events_by c (h ++ e ∷ []) ≡ events_by c h ++ e ∷ []
by_own c h e is = filter-append (λ x. pass_of x == c) h (e ∷ []) ∙ ap (λ l. events_by c h ++ l) (ap (λ b. cond b (e ∷ []) []) (eq-eqb (pass_of e) c is))

pub by_other : (c : ℕ) (h : List Event) (e : Event) → pass_of e ≢ c → events_by c (h ++ e ∷ []) ≡ events_by c h
by_other c h e not = filter-append (λ x. pass_of x == c) h (e ∷ []) ∙ (ap (λ l. events_by c h ++ l) (ap (λ b. cond b (e ∷ []) []) (ne_eqb (pass_of e) c not)) ∙ append_nil (events_by c h))

-- births

pub find_in : (i : ℕ) (xs : List Element) (x : Element) → find (λ (y : Element). y.id == i) xs ≡ Some x → In x xs × (x.id ≡ i)
find_in i [] x e = absurd cc
find_in i (y ∷ ys) x e =
    elim (eqb_tells y.id i) [
      | inl p ↦ let s : Some y ≡ Some x = sym (if_same y.id i (Some y) (find (λ (z : Element). z.id == i) ys) p.1) ∙ e in let same : y ≡ x = cc in (subst (λ z. In z (y ∷ ys)) same here, ap (λ (z : Element). z.id) (sym same) ∙ p.1)
      | inr p ↦ let t = find_in i ys x (sym (if_other y.id i (Some y) (find (λ (z : Element). z.id == i) ys) p.1) ∙ e) in (there t.0, t.1)
    ]

pub find_none : (i : ℕ) (xs : List Element) → ((x : Element) → In x xs → x.id ≢ i) → find (λ (y : Element). y.id == i) xs ≡ None
find_none i [] no_one = refl
find_none i (y ∷ ys) no_one = if_other y.id i (Some y) (find (λ (z : Element). z.id == i) ys) (no_one y here) ∙ find_none i ys (λ x p. no_one x (there p))

pub element_of-id : (h : List Event) (i : ℕ) (x : Element) → element_of h i ≡ Some x → x.id ≡ i
element_of-id h i x e = (find_in i (born h) x e).1

pub is_born : (h : List Event) (i : ℕ) (x : Element) → element_of h i ≡ Some x → IsBorn h x
is_born h i x e = ap (element_of h) (element_of-id h i x e) ∙ e

pub born_at : (h : List Event) (i : ℕ) (x : Element) → IsBorn h x → x.id ≡ i → element_of h i ≡ Some x
born_at h i x e is = ap (element_of h) (sym is) ∙ e

-- an element that is born is not unborn
pub not_unborn : (h : List Event) (i : ℕ) (x : Element) → IsUnborn h i → IsBorn h x → x.id ≡ i → ⊥
not_unborn h i x none is at = let q : Some x ≡ None = sym (born_at h i x is at) ∙ none in cc

pub born_stays : (x : Element) (h m : List Event) → IsBorn h x → IsBorn (h ++ m) x
born_stays x h m p = element_of-kept h m x.id x p

pub born_later : (h g : List Event) → IsPrefix h g → (x : Element) → IsBorn h x → IsBorn g x
born_later h g b x p = subst (λ l. IsBorn l x) b.1 (born_stays x h b.0 p)

pub found_later : (h g : List Event) → IsPrefix h g → (i : ℕ) (x : Element) → element_of h i ≡ Some x → element_of g i ≡ Some x
found_later h g b i x p = subst (λ l. element_of l i ≡ Some x) b.1 (element_of-kept h b.0 i x p)

pub taking_later : (h g : List Event) → IsPrefix h g → (u : ℕ) (t : UnitClaim) → claim_of h u ≡ Some t → claim_of g u ≡ Some t
taking_later h g b u t p = subst (λ l. claim_of l u ≡ Some t) b.1 (first-kept (claim_by u) h b.0 t p)

pub born_either : (x : Element) (h : List Event) (e : Event) → IsBorn (h ++ e ∷ []) x → IsBorn h x ⊎ In x (births e)
born_either x h e p = ⊎_elim (λ q. inl q) (λ q. inr (find_in x.id (births e) x q.1).0) (option_or-some (element_of h x.id) _ x (sym (element_of-snoc h e x.id) ∙ p))

pub unborn_before : (h : List Event) (e : Event) (i : ℕ) → IsUnborn (h ++ e ∷ []) i → IsUnborn h i
unborn_before h e i p = (option_or-none (element_of h i) _ (sym (element_of-snoc h e i) ∙ p)).0

pub unborn_still : (h : List Event) (e : Event) (i : ℕ) → IsUnborn h i → ((x : Element) → In x (births e) → x.id ≢ i) → IsUnborn (h ++ e ∷ []) i
unborn_still h e i p others = element_of-snoc h e i ∙ (ap (λ o. option_or o (find (λ (y : Element). y.id == i) (births e))) p ∙ find_none i (births e) others)

pub born_or_not : (h : List Event) (i : ℕ) → ((x : Element) × IsBorn h x × (x.id ≡ i)) ⊎ IsUnborn h i
born_or_not h i = go (element_of h i) refl
  where
    go : (o : Option Element) → element_of h i ≡ o → ((x : Element) × IsBorn h x × (x.id ≡ i)) ⊎ IsUnborn h i
    go None e = inr e
    go (Some x) e = inl (x, is_born h i x e, element_of-id h i x e)

-- each output has an id from the first on
pub outputs_place : (l : Limits) (h : List Event) (c u root id : ℕ) (outs : List Element) → AreOutputs l h c u root id outs → (x : Element) → In x outs → (id ≤ x.id) × (x.id < id + length outs) × IsOutput l h c u root x.id x
outputs_place l h c u root id [] are x p = absurd (in_none p)
outputs_place l h c u root id (y ∷ ys) are x p = ⊎_elim
    (λ same. let at : x.id ≡ id = ap (λ (z : Element). z.id) same ∙ are.0.place in (omega arith, omega arith, subst (λ z. IsOutput l h c u root z.id z) (sym same) (subst (λ j. IsOutput l h c u root j y) (sym are.0.place) are.0)))
    (λ q. let t = outputs_place l h c u root (id + 1) ys are.1 x q in let a = t.0 in let b = t.1 in (omega arith, omega arith, t.2)) (in_cons p)

-- what an event makes is in rows that its pass may use, and was not born
pub births_of : (l : Limits) (h : List Event) (e : Event) (x : Element) → Step l h e → In x (births e) → MayUse l h (pass_of e) x.id × IsUnborn h x.id
births_of l h (Enqueue c y) x step p = subst (λ (z : Element). MayUse l h c z.id × IsUnborn h z.id) (sym (in_one p)) (step.row, step.unborn)
births_of l h (Claim c u i n) x step p = absurd (in_none p)
births_of l h (Commit c u outs) x step p = let t = (outputs_place l h c u step.item.root (first_id outs) outs step.outputs x p).2 in (t.row, t.unborn)
births_of l h (Abort c u) x step p = absurd (in_none p)
births_of l h (Kill c i) x step p = absurd (in_none p)
births_of l h (Requeue c i k) x step p = absurd (in_none p)

-- claims of units

pub claim_kept : (h g : List Event) (c u i n : ℕ) → IsClaim h c u i n → IsClaim (h ++ g) c u i n
claim_kept h g c u i n p = first-kept (claim_by u) h g _ p

pub claim_later : (h g : List Event) → IsPrefix h g → (c u i n : ℕ) → IsClaim h c u i n → IsClaim g c u i n
claim_later h g b c u i n p = subst (λ l. IsClaim l c u i n) b.1 (claim_kept h b.0 c u i n p)

claim_is : (u : ℕ) (e : Event) (t : UnitClaim) → claim_by u e ≡ Some t → Claim t.pass u t.item t.attempt ≡ e
claim_is u (Enqueue c y) t p = absurd cc
claim_is u (Claim c v i n) t p = let q = some_if v u (record { pass = c; item = i; attempt = n }) t p in
    ap (λ (r : UnitClaim). Claim r.pass u r.item r.attempt) (sym q.1) ∙ ap (λ z. Claim c z i n) (sym q.0)
claim_is u (Commit c v outs) t p = absurd cc
claim_is u (Abort c v) t p = absurd cc
claim_is u (Kill c i) t p = absurd cc
claim_is u (Requeue c i k) t p = absurd cc

pub claim_either : (h : List Event) (e : Event) (c u i n : ℕ) → IsClaim (h ++ e ∷ []) c u i n → IsClaim h c u i n ⊎ (Claim c u i n ≡ e)
claim_either h e c u i n p = ⊎_elim (λ q. inl q) (λ q. inr (claim_is u e _ q.1)) (option_or-some (claim_of h u) (claim_by u e) _ (sym (first-snoc (claim_by u) h e) ∙ p))

claim_by-none : (u : ℕ) (e : Event) → ((c i n : ℕ) → Claim c u i n ≢ e) → claim_by u e ≡ None
claim_by-none u (Enqueue c y) others = refl
claim_by-none u (Claim c v i n) others = if_other v u _ None (λ same. others c i n (ap (λ z. Claim c z i n) (sym same)))
claim_by-none u (Commit c v outs) others = refl
claim_by-none u (Abort c v) others = refl
claim_by-none u (Kill c i) others = refl
claim_by-none u (Requeue c i k) others = refl

pub unused_still : (h : List Event) (e : Event) (u : ℕ) → IsUnused h u → ((c i n : ℕ) → Claim c u i n ≢ e) → IsUnused (h ++ e ∷ []) u
unused_still h e u p others = first-snoc (claim_by u) h e ∙ (ap (λ o. option_or o (claim_by u e)) p ∙ claim_by-none u e others)

pub new_claim : (h : List Event) (c u i n : ℕ) → IsUnused h u → IsClaim (h ++ Claim c u i n ∷ []) c u i n
new_claim h c u i n p = first-snoc (claim_by u) h (Claim c u i n) ∙ (ap (λ o. option_or o (claim_by u (Claim c u i n))) p ∙ if_same u u _ None refl)

-- statuses by the two words

pub status_free : (l : Limits) (h : List Event) (i : ℕ) → IsLegal l h → claim_word h i ≡ FreeWord → status_of l.attempts h i ≡ Waiting 0
status_free l h i legal is = status_by_words l h i legal ∙ ap (word_status l.attempts h) is

pub status_taken : (l : Limits) (h : List Event) (i n u : ℕ) {r : ℕ} → IsLegal l h → claim_word h i ≡ TakenWord n u r → status_of l.attempts h i ≡ taken_status l.attempts n u (end_of h u)
status_taken l h i n u legal is = status_by_words l h i legal ∙ ap (word_status l.attempts h) is

pub status_killed : (l : Limits) (h : List Event) (i n u : ℕ) {r : ℕ} → IsLegal l h → claim_word h i ≡ KilledWord n u r → status_of l.attempts h i ≡ Killed
status_killed l h i n u legal is = status_by_words l h i legal ∙ ap (word_status l.attempts h) is

pub status_again : (l : Limits) (h : List Event) (i r : ℕ) → IsLegal l h → claim_word h i ≡ AgainWord r → status_of l.attempts h i ≡ Waiting 0
status_again l h i r legal is = status_by_words l h i legal ∙ ap (word_status l.attempts h) is

-- the element of an Enqueue is born by it
pub new_birth : (h : List Event) (c : ℕ) (y : Element) → IsUnborn h y.id → IsBorn (h ++ Enqueue c y ∷ []) y
new_birth h c y none = element_of-snoc h (Enqueue c y) y.id ∙ (ap (λ o. option_or o (find (λ (z : Element). z.id == y.id) (y ∷ []))) none ∙ if_same y.id y.id (Some y) None refl)

-- where an element waits by its claim word, it had fewer attempts than are allowed
pub waits_below : (limit : ℕ) (h : List Event) (w : ClaimWord) (m : ℕ) → 1 ≤ limit → word_status limit h w ≡ Waiting m → m < limit
waits_below limit h FreeWord m some e = let z : 0 ≡ m = cc in omega arith
waits_below limit h (TakenWord n u r) m some e = taken (end_of h u) e
  where
    go : (b : Bool) → nat_lt n limit ≡ b → cond b (Waiting n) (Parked n) ≡ Waiting m → m < limit
    go true less at = let z : n ≡ m = cc in let below : n < limit = grind (arith, nat_tests) in omega arith
    go false l e = absurd cc

    taken : (x : Option UnitEnd) → taken_status limit n u x ≡ Waiting m → m < limit
    taken None e = absurd cc
    taken (Some (Committed f k)) e = absurd cc
    taken (Some Aborted) e = go (nat_lt n limit) refl e
waits_below limit h (KilledWord n u r) m some e = absurd cc
waits_below limit h (AgainWord r) m some e = let z : 0 ≡ m = cc in omega arith

-- what a claim word says where nobody holds its element, it says in each longer history
pub word_stays : (limit : ℕ) (h g : List Event) (w : ClaimWord) → IsPrefix h g → ((u n : ℕ) → word_status limit h w ≢ Held u n) → word_status limit g w ≡ word_status limit h w
word_stays limit h g FreeWord b not = refl
word_stays limit h g (TakenWord n u r) b not = go (end_of h u) refl
  where
    go : (x : Option UnitEnd) → end_of h u ≡ x → taken_status limit n u (end_of g u) ≡ taken_status limit n u (end_of h u)
    go None e = absurd (not u n (ap (taken_status limit n u) e))
    go (Some x) e = ap (taken_status limit n u) (sym (ap (λ l. end_of l u) b.1) ∙ (first-kept (end_by u) h b.0 x e ∙ sym e))
word_stays limit h g (KilledWord n u r) b not = refl
word_stays limit h g (AgainWord r) b not = refl

pub waits_later : (limit : ℕ) (h g : List Event) (w : ClaimWord) (m : ℕ) → IsPrefix h g → word_status limit h w ≡ Waiting m → word_status limit g w ≡ Waiting m
waits_later limit h g w m b e = word_stays limit h g w b (λ u n is. absurd cc) ∙ e

pub killable_later : (limit : ℕ) (h g : List Event) (w : ClaimWord) → IsPrefix h g → IsKillable (word_status limit h w) → IsKillable (word_status limit g w)
killable_later limit h g w b free = subst IsKillable (sym (word_stays limit h g w b (λ u n is. subst IsKillable is free))) free

pub parked_later : (limit : ℕ) (h g : List Event) (w : ClaimWord) → IsPrefix h g → IsParked (word_status limit h w) → IsParked (word_status limit g w)
parked_later limit h g w b parked = (parked.0, word_stays limit h g w b (λ u n is. (let e : Parked parked.0 ≡ Held u n = sym parked.1 ∙ is in absurd cc)) ∙ parked.1)

-- a unit that has ended stays ended so
pub end_stays : (h g : List Event) (u : ℕ) (x : UnitEnd) → IsPrefix h g → end_of h u ≡ Some x → end_of g u ≡ Some x
end_stays h g u x b e = sym (ap (λ l. end_of l u) b.1) ∙ first-kept (end_by u) h b.0 x e
