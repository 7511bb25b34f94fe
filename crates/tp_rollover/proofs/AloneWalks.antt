-- Walks through one family: there is one that goes through the whole of it, and Aborts and Kills change it in nothing.
use Rattle.std.proofs.Common.{◌≡◌, ◌⊎◌, ℕ, nat_lt, Bool, true, false, cond, if◌then◌else◌, Option, Some, None, List, [], ◌∷◌, ◌++◌, refl, sym, ◌∙◌, ap, subst, inl, inr, ⊎_elim, append_assoc, arith}
use Rattle.std.proofs.lemmas.Bool.Decides.{eqb_tells}
use Rattle.std.specs.Option.{option_or}
use Rattle.tp_model.specs.declared.types.Status.{Status}
use Rattle.tp_model.specs.declared.types.Status.TheVariants.{Waiting, Held, Consumed, Parked, Killed}
use Rattle.tp_model.specs.declared.event.Event.{Event}
use Rattle.tp_model.specs.declared.event.Event.TheVariants.{Abort, Kill}
use Rattle.tp_model.specs.History.{In, here, there, Aborted, Committed, UnitEnd, aborted, end_by, end_of, status_of}
use Rattle.tp_model.specs.Orders.{IsReached, IsWalk, LeadsTo}
use Rattle.tp_model.proofs.Bridges.{append_nil, in_cons, in_left, in_none}
use Rattle.tp_model.proofs.Histories.{status_of-snoc}
use Rattle.tp_model.proofs.Lists.{first-snoc, if_other, if_same}

-- an event that ends something: an Abort, or a Kill
abbrev pub IsEnding : ℕ → Event → Type 0
IsEnding c e = ((u : ℕ) × (e ≡ Abort c u)) ⊎ ((i : ℕ) × (e ≡ Kill c i))

abbrev pub AreEndings : ℕ → List Event → Type 0
AreEndings c es = (e : Event) → In e es → IsEnding c e

-- what they leave

aborted_back : (limit v u : ℕ) (st : Status) → aborted limit v st ≡ Consumed u → st ≡ Consumed u
aborted_back limit v u (Waiting m) e = e
aborted_back limit v u (Held w m) e =
    elim (eqb_tells v w) [
      | inl p ↦ absurd (go (nat_lt m limit) (sym (if_same v w (if nat_lt m limit then Waiting m else Parked m) (Held w m) p.1) ∙ e))
      | inr p ↦ sym (if_other v w (if nat_lt m limit then Waiting m else Parked m) (Held w m) p.1) ∙ e
    ]
  where
    go : (b : Bool) → cond b (Waiting m) (Parked m) ≡ Consumed u → ⊥
    go true is = cc
    go false is = cc
aborted_back limit v u (Consumed w) e = e
aborted_back limit v u (Parked m) e = e
aborted_back limit v u Killed e = e

consumed_one_back : (limit c i u : ℕ) (h : List Event) (e : Event) → IsEnding c e → status_of limit (h ++ e ∷ []) i ≡ Consumed u → status_of limit h i ≡ Consumed u
consumed_one_back limit c i u h e (inl a) is =
    let at : status_of limit (h ++ Abort c a.0 ∷ []) i ≡ Consumed u = subst (λ z. status_of limit (h ++ z ∷ []) i ≡ Consumed u) a.1 is in
    aborted_back limit a.0 u (status_of limit h i) (sym (status_of-snoc limit h (Abort c a.0) i) ∙ at)
consumed_one_back limit c i u h e (inr k) is =
    let at : status_of limit (h ++ Kill c k.0 ∷ []) i ≡ Consumed u = subst (λ z. status_of limit (h ++ z ∷ []) i ≡ Consumed u) k.1 is in
    let now = sym (status_of-snoc limit h (Kill c k.0) i) ∙ at in
    elim (eqb_tells k.0 i) [
      | inl p ↦ absurd (let clash : Killed ≡ Consumed u = sym (if_same k.0 i Killed (status_of limit h i) p.1) ∙ now in cc)
      | inr p ↦ sym (if_other k.0 i Killed (status_of limit h i) p.1) ∙ now
    ]

committed_one_back : (c u f m : ℕ) (h : List Event) (e : Event) → IsEnding c e → end_of (h ++ e ∷ []) u ≡ Some (Committed f m) → end_of h u ≡ Some (Committed f m)
committed_one_back c u f m h e (inl a) is =
    let at : end_of (h ++ Abort c a.0 ∷ []) u ≡ Some (Committed f m) = subst (λ z. end_of (h ++ z ∷ []) u ≡ Some (Committed f m)) a.1 is in
    go (end_of h u) (sym (first-snoc (end_by u) h (Abort c a.0)) ∙ at)
  where
    none : (o : Option UnitEnd) → o ≡ Some (Committed f m) → o ≡ Some Aborted ⊎ (o ≡ None) → ⊥
    none o e (inl p) = let clash : Some Aborted ≡ Some (Committed f m) = sym p ∙ e in cc
    none o e (inr p) = let clash : None ≡ Some (Committed f m) = sym p ∙ e in cc

    by : Some Aborted ≡ end_by u (Abort c a.0) ⊎ (None ≡ end_by u (Abort c a.0))
    by = elim (eqb_tells a.0 u) [ inl p ↦ inl (sym (if_same a.0 u (Some Aborted) None p.1)) | inr p ↦ inr (sym (if_other a.0 u (Some Aborted) None p.1)) ]

    go : (o : Option UnitEnd) → option_or o (end_by u (Abort c a.0)) ≡ Some (Committed f m) → o ≡ Some (Committed f m)
    go None q = absurd (none (end_by u (Abort c a.0)) q (⊎_elim (λ p. inl (sym p)) (λ p. inr (sym p)) by))
    go (Some x) q = q
committed_one_back c u f m h e (inr k) is =
    let at : end_of (h ++ Kill c k.0 ∷ []) u ≡ Some (Committed f m) = subst (λ z. end_of (h ++ z ∷ []) u ≡ Some (Committed f m)) k.1 is in
    go (end_of h u) (sym (first-snoc (end_by u) h (Kill c k.0)) ∙ at)
  where
    go : (o : Option UnitEnd) → option_or o None ≡ Some (Committed f m) → o ≡ Some (Committed f m)
    go None q = absurd (let e : None ≡ Some (Committed f m) = q in cc)
    go (Some x) q = q

-- what leads on after them did before them
pub leads_back : (limit c : ℕ) (h es : List Event) (i j : ℕ) → AreEndings c es → LeadsTo limit (h ++ es) i j → LeadsTo limit h i j
leads_back limit c h [] i j all t = subst (λ z. LeadsTo limit z i j) (append_nil h) t
leads_back limit c h (e ∷ es) i j all t =
    let later = leads_back limit c (h ++ e ∷ []) es i j (λ x p. all x (there p)) (subst (λ z. LeadsTo limit z i j) (sym (append_assoc h (e ∷ []) es)) t) in
    record {
      unit = later.unit;
      consumed = consumed_one_back limit c i later.unit h e (all e here) later.consumed;
      first = later.first;
      count = later.count;
      ended = committed_one_back c later.unit later.first later.count h e (all e here) later.ended;
      low = later.low;
      high = later.high;
    }

module _ (limit root : ℕ) where
  -- where the same leads on, the walks are the same
  module _ (h g : List Event) (on : (i j : ℕ) → LeadsTo limit h i j → LeadsTo limit g i j) (back : (i j : ℕ) → LeadsTo limit g i j → LeadsTo limit h i j) where
    reached_alike : (gone : List ℕ) (j : ℕ) → IsReached limit h root gone j → IsReached limit g root gone j
    reached_alike gone j (inl same) = inl same
    reached_alike gone j (inr t) = inr (t.0, t.1, on t.0 j t.2)

    pub reached_back : (gone : List ℕ) (j : ℕ) → IsReached limit g root gone j → IsReached limit h root gone j
    reached_back gone j (inl same) = inl same
    reached_back gone j (inr t) = inr (t.0, t.1, back t.0 j t.2)

    pub walk_alike : (gone ids : List ℕ) → IsWalk limit h root gone ids → IsWalk limit g root gone ids
    walk_alike gone [] w = tt
    walk_alike gone (i ∷ ids) w = (
      record {
        reached = reached_alike gone i w.0.reached;
        fresh = w.0.fresh;
        least = λ j r out. w.0.least j (reached_back gone j r) out;
      },
      walk_alike (gone ++ i ∷ []) ids w.1,
    )

  module _ (h : List Event) where
    -- no element of it is one from which it went on before
    pub walk_apart : (gone ids : List ℕ) → IsWalk limit h root gone ids → (j : ℕ) → In j ids → ¬ In j gone
    walk_apart gone [] w j p = absurd (in_none p)
    walk_apart gone (i ∷ ids) w j p =
        let later = walk_apart (gone ++ i ∷ []) ids w.1 j in
        ⊎_elim (λ same. λ q. w.0.fresh (subst (λ z. In z gone) same q)) (λ r. λ q. later r (in_left (i ∷ []) q)) (in_cons p)

    -- each that it has come to is one from which it went on
    abbrev pub IsWhole : List ℕ → Type 0
    IsWhole gone = (j : ℕ) → IsReached limit h root gone j → In j gone

    pub walk_same : (gone xs ys : List ℕ) → IsWalk limit h root gone xs → IsWalk limit h root gone ys → IsWhole (gone ++ xs) → IsWhole (gone ++ ys) → xs ≡ ys
    walk_same gone [] [] w v a b = refl
    walk_same gone [] (y ∷ ys) w v a b = absurd (v.0.fresh (subst IsWhole (append_nil gone) a y v.0.reached))
    walk_same gone (x ∷ xs) [] w v a b = absurd (w.0.fresh (subst IsWhole (append_nil gone) b x w.0.reached))
    walk_same gone (x ∷ xs) (y ∷ ys) w v a b =
        let low = w.0.least y v.0.reached v.0.fresh in
        let high = v.0.least x w.0.reached w.0.fresh in
        let same : y ≡ x = omega arith in
        let rest : xs ≡ ys = walk_same (gone ++ x ∷ []) xs ys w.1 (subst (λ z. IsWalk limit h root (gone ++ z ∷ []) ys) same v.1)
        (subst IsWhole (sym (append_assoc gone (x ∷ []) xs)) a)
        (subst IsWhole (sym (append_assoc gone (x ∷ []) ys)) (subst (λ z. IsWhole (gone ++ z ∷ ys)) same b)) in
        ap (λ zs. x ∷ zs) rest ∙ ap (λ z. z ∷ ys) (sym same)
