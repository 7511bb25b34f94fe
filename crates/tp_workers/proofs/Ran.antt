-- What workers of a list did, and parts of the list.
use Rattle.std.proofs.Common.{◌≡◌, ℕ, ◌+◌, ◌≤◌, ◌<◌, ◌^◌, List, [], ◌∷◌, ◌++◌, refl, sym, ◌∙◌, ap, ap₂, subst, arith, length, length-append, get_or, slice_set, sum_by, All, zip}
use denote.Ref.{MutBor}
use denote.Param.Members.{Shared}
use Rattle.std.proofs.lemmas.List.Sums.{sum_by-cons, sum_by-append}
use Rattle.std.proofs.lemmas.List.Elements.{All-cons, All-head, All-nil, All-tail, All-weaker}
use Rattle.tp_workers.specs.declared.tally.Shift.{Shift}
use Rattle.tp_workers.specs.Tally.{empty_shift, plus, total}
use Rattle.tp_workers.specs.Ran.{Accepts, MayRun, RanAll, RanEach, Runs}
use Rattle.tp_workers.proofs.Counts.{none_plus, plus_assoc, plus_none, total_plus}

pub RanAll-one : {T : Type 0} (R : T → Shift → T → Type 0) (x y : T) (s : Shift) → R x s y → RanAll R (x ∷ []) s (y ∷ [])
RanAll-one R x y s h = (s, empty_shift, h, refl, sym (plus_none s))

pub RanAll-append : {T : Type 0} (R : T → Shift → T → Type 0) (xs : List T) (s : Shift) (ys : List T) (xs' : List T) (t : Shift) (ys' : List T) → RanAll R xs s ys → RanAll R xs' t ys' → RanAll R (xs ++ xs') (plus s t) (ys ++ ys')
RanAll-append R [] s [] xs' t ys' h k = subst (λ u. RanAll R xs' u ys') (sym (ap (λ v. plus v t) h ∙ none_plus t)) k
RanAll-append R [] s (y ∷ ys) xs' t ys' h k = absurd h
RanAll-append R (x ∷ xs) s [] xs' t ys' h k = absurd h
RanAll-append R (x ∷ xs) s (y ∷ ys) xs' t ys' h k =
    (h.0, plus h.1 t, h.2, RanAll-append R xs h.1 ys xs' t ys' h.3 k, ap (λ v. plus v t) h.4 ∙ plus_assoc h.0 h.1 t)

-- what each counts at most, all count at most
pub RanAll-bounded : {T : Type 0} (R : T → Shift → T → Type 0) (most : T → ℕ) → ((x : T) (s : Shift) (y : T) → R x s y → total s ≤ most x) → (xs : List T) (s : Shift) (ys : List T) → RanAll R xs s ys → total s ≤ sum_by most xs
RanAll-bounded R most each [] s [] h = omega (arith, ap total h)
RanAll-bounded R most each [] s (y ∷ ys) h = absurd h
RanAll-bounded R most each (x ∷ xs) s [] h = absurd h
RanAll-bounded R most each (x ∷ xs) s (y ∷ ys) h =
    let e : total s ≡ total h.0 + total h.1 = ap total h.4 ∙ total_plus h.0 h.1 in
    omega (arith, each x h.0 y h.2, RanAll-bounded R most each xs h.1 ys h.3, sum_by-cons most x xs)

all_front : {T : Type 0} (P : T → Type 0) (xs ys : List T) → All P (xs ++ ys) → All P xs
all_front P [] ys h = All-nil P
all_front P (x ∷ xs) ys h = All-cons P x xs (All-head P x (xs ++ ys) h) (all_front P xs ys (All-tail P x (xs ++ ys) h))

all_back : {T : Type 0} (P : T → Type 0) (xs ys : List T) → All P (xs ++ ys) → All P ys
all_back P [] ys h = h
all_back P (x ∷ xs) ys h = all_back P xs ys (All-tail P x (xs ++ ys) h)

-- lists side by side, in parts
pub zip_append : {T U : Type 0} (xs us : List T) (ys vs : List U) → length xs ≡ length ys → zip (xs ++ us) (ys ++ vs) ≡ zip xs ys ++ zip us vs
zip_append [] us [] vs e = refl
zip_append [] us (y ∷ ys) vs e = absurd (omega (arith, e))
zip_append (x ∷ xs) us [] vs e = absurd (omega (arith, e))
zip_append (x ∷ xs) us (y ∷ ys) vs e = ap (λ l. (x, y) ∷ l) (zip_append xs us ys vs (omega (arith, e)))

module _ {T U : Type 0} (R : T × U → Shift → T × U → Type 0) where
  pub each_single : (xs : List T) (ys : List U) (x dx : T) (y dy : U) (s : Shift) → length xs ≡ 1 → length xs ≡ length ys
      → R (get_or xs 0 dx, get_or ys 0 dy) s (x, y) → RanEach R xs ys s (slice_set xs 0 x) (slice_set ys 0 y)
  each_single [] ys x dx y dy s one e h = absurd (omega (arith, one))
  each_single (a ∷ []) [] x dx y dy s one e h = absurd (omega (arith, e))
  each_single (a ∷ []) (b ∷ []) x dx y dy s one e h = record { ran = RanAll-one R (a, b) (x, y) s h; on_kept = refl; by_kept = refl }
  each_single (a ∷ []) (b ∷ c ∷ ys) x dx y dy s one e h = absurd (omega (arith, e))
  each_single (a ∷ c ∷ xs) ys x dx y dy s one e h = absurd (omega (arith, one))

  pub each_append : (xs us : List T) (ys vs : List U) (xs' us' : List T) (ys' vs' : List U) (s t : Shift) → length xs ≡ length ys
      → RanEach R xs ys s xs' ys' → RanEach R us vs t us' vs' → RanEach R (xs ++ us) (ys ++ vs) (plus s t) (xs' ++ us') (ys' ++ vs')
  each_append xs us ys vs xs' us' ys' vs' s t e a b = record {
    ran = rw (zip_append xs us ys vs e, zip_append xs' us' ys' vs' (a.on_kept ∙ (e ∙ sym a.by_kept))) (RanAll-append R _ s _ _ t _ a.ran b.ran);
    on_kept = omega (arith, length-append xs us, length-append xs' us', a.on_kept, b.on_kept);
    by_kept = omega (arith, length-append ys vs, length-append ys' vs', a.by_kept, b.by_kept);
  }

module _ {F T U : Type 0} (g : Shared F (MutBor T × (MutBor U × (ℕ × Unit {0}))) (Shift × (MutBor T × (MutBor U × Unit {0})))) (run : F) where
  module _ (on front back : List T) (by front_by back_by : List U) (o : on ≡ front ++ back) (b : by ≡ front_by ++ back_by) (e : length front ≡ length front_by) (m : MayRun g run on by) where
    parts : zip on by ≡ zip front front_by ++ zip back back_by
    parts = ap₂ zip o b ∙ zip_append front back front_by back_by e

    all_parts : All (Accepts g run) (zip front front_by ++ zip back back_by)
    all_parts = subst (All (Accepts g run)) parts m.accepts

    both_sums : sum_by m.most (zip front front_by) + sum_by m.most (zip back back_by) < 2 ^ 32
    both_sums = omega (arith, m.fits, ap (sum_by m.most) parts, sum_by-append m.most (zip front front_by) (zip back back_by))

    -- both parts of lists that may run may run
    pub may_first : MayRun g run front front_by
    may_first = record {
      paired = e;
      accepts = all_front (Accepts g run) (zip front front_by) (zip back back_by) all_parts;
      most = m.most;
      bounded = m.bounded;
      fits = omega (arith, both_sums);
    }

    pub may_second : MayRun g run back back_by
    may_second = record {
      paired = omega (arith, m.paired, ap length o, length-append front back, ap length b, length-append front_by back_by, e);
      accepts = all_back (Accepts g run) (zip front front_by) (zip back back_by) all_parts;
      most = m.most;
      bounded = m.bounded;
      fits = omega (arith, both_sums);
    }

    -- what both parts count fits together
    pub both_fit : (front' back' : List T) (front_by' back_by' : List U) (s t : Shift)
        → RanEach (Runs g run) front front_by s front' front_by' → RanEach (Runs g run) back back_by t back' back_by' → total s + total t < 2 ^ 32
    both_fit front' back' front_by' back_by' s t one two =
        omega (arith, both_sums, RanAll-bounded _ m.most m.bounded _ s _ one.ran, RanAll-bounded _ m.most m.bounded _ t _ two.ran)

  pub first_accepts : (xs : List T) (ys : List U) (dx : T) (dy : U) → length xs ≡ 1 → MayRun g run xs ys → Accepts g run (get_or xs 0 dx, get_or ys 0 dy)
  first_accepts [] ys dx dy one m = absurd (omega (arith, one))
  first_accepts (x ∷ xs) [] dx dy one m = absurd (omega (arith, m.paired))
  first_accepts (x ∷ xs) (y ∷ ys) dx dy one m = All-head (Accepts g run) (x, y) (zip xs ys) m.accepts

  -- what is known of a call is known of the worker
  pub ran_as : (Q : T × U → Shift → T × U → Type 0) → ((p p' : MutBor T) (q q' : MutBor U) (n : ℕ) (s : Shift) → g.post run (p, (q, (n, tt))) (s, (p', (q', tt))) → Q (p.now, q.now) s (p'.now, q'.now))
      → (x : T × U) (s : Shift) (y : T × U) → Runs g run x s y → Q x s y
  ran_as Q known x s y r =
      let before : (r.on.now, r.by.now) ≡ x = ap₂ (λ a b. (a, b)) r.on_is r.by_is in
      let after : (r.on_after.now, r.by_after.now) ≡ y = ap₂ (λ a b. (a, b)) r.on_left r.by_left in
      subst (λ a. Q a s y) before (subst (Q (r.on.now, r.by.now) s) after (known r.on r.on_after r.by r.by_after r.number s r.call))

  -- workers of which this is so may run, where each counts at most so much
  pub may_run : (P : T × U → Type 0) (most : T × U → ℕ) → ((p : MutBor T) (q : MutBor U) (n : ℕ) → P (p.now, q.now) → g.pre run (p, (q, (n, tt))))
      → ((p p' : MutBor T) (q q' : MutBor U) (n : ℕ) (s : Shift) → g.post run (p, (q, (n, tt))) (s, (p', (q', tt))) → total s ≤ most (p.now, q.now))
      → (on : List T) (by : List U) → length on ≡ length by → All P (zip on by) → sum_by most (zip on by) < 2 ^ 32 → MayRun g run on by
  may_run P most accepts bounded on by paired all fits = record {
    paired = paired;
    accepts = All-weaker P (Accepts g run) (λ x holds p q n is also. accepts p q n (subst P (sym (ap₂ (λ a b. (a, b)) is also)) holds)) (zip on by) all;
    most = most;
    bounded = ran_as (λ x s y. total s ≤ most x) bounded;
    fits = fits;
  }
