-- Legal histories, and what they keep.
use Rattle.std.proofs.Common.{◌≡◌, ◌≢◌, ◌⊎◌, ℕ, zero, suc, slice_index_or, ◌+◌, ◌<◌, ◌≤◌, ◌==◌, Option, Some, None, List, [], ◌∷◌, ◌++◌, refl, sym, ◌∙◌, ap, subst, inl, inr, append_assoc, arith}
use Rattle.std.proofs.lemmas.List.{append-nil}
use Rattle.std.proofs.lemmas.List.Folds.{find-append}
use Rattle.std.proofs.lemmas.List.Sums.{fold-append}
use Rattle.std.specs.List.{find, Contains}
use Rattle.std.proofs.lemmas.List.Elements.{Contains-append_cases}
use Rattle.std.specs.Option.{option_or}
use Rattle.tp_model.specs.declared.types.Element.{Element}
use Rattle.tp_model.specs.declared.types.Limits.{Limits}
use Rattle.tp_model.specs.declared.types.Status.{Status}
use Rattle.tp_model.specs.declared.types.Status.TheVariants.{Waiting, Held, Consumed, Parked, Killed}
use Rattle.tp_model.specs.declared.event.Event.{Event}
use Rattle.tp_model.specs.declared.event.Event.TheVariants.{Enqueue, Claim, Commit, Abort, Kill, Requeue}
use Rattle.tp_model.specs.History.{births, born, element_of, UnitClaim, claim_by, claim_of, end_by, end_of, first_id, committed, aborted, status_after, status_of, IsSettled}
use Rattle.tp_model.specs.Steps.{AreOutputs, IsOpen, IsKillable, Step, IsLegal}
use Rattle.tp_model.proofs.Lists.{cut_of_snoc, middle_not_nil, option_or-none, option_or-some, first-snoc, if_same, if_other, some_if, none_if}

module _ (l : Limits) where
  pub legal_empty : IsLegal l []
  legal_empty = record { each = λ before e after same. absurd (middle_not_nil before e after same) }

  -- a history that a legal one begins with is legal
  pub legal_start : (h g : List Event) → IsLegal l (h ++ g) → IsLegal l h
  legal_start h g legal =
      record { each = λ before e after same. legal.each before e (after ++ g) (sym (append_assoc before (e ∷ after) g) ∙ ap (λ (x : List Event). x ++ g) same) }

  -- the event at a place of a legal history was a step there
  pub legal_at : (h : List Event) (e : Event) (g : List Event) → IsLegal l (h ++ e ∷ g) → Step l h e
  legal_at h e g legal = legal.each h e g refl

  -- a step from a legal history gives a legal one
  pub legal_more : (h : List Event) (e : Event) → IsLegal l h → Step l h e → IsLegal l (h ++ e ∷ [])
  legal_more h e legal step = record { each = each }
    where
      each : (before : List Event) (x : Event) (after : List Event) → before ++ x ∷ after ≡ h ++ e ∷ [] → Step l before x
      each before x after same =
          elim (cut_of_snoc before x after h e same) [
            | inl p ↦ rw (p.0, p.1) step
            | inr p ↦ legal.each before x p.0 p.1
          ]

  -- what each step keeps holds along a legal history
  pub along : (P : List Event → Type 0) → ((h : List Event) (e : Event) → IsLegal l h → Step l h e → P h → P (h ++ e ∷ []))
      → (h g : List Event) → IsLegal l (h ++ g) → P h → P (h ++ g)
  along P each h [] legal p = rw (append-nil h) p
  along P each h (e ∷ g) legal p =
      let grow : (h ++ e ∷ []) ++ g ≡ h ++ e ∷ g = append_assoc h (e ∷ []) g in
      let start : IsLegal l h = legal_start h (e ∷ g) legal in
      let more : P (h ++ e ∷ []) = each h e start (legal_at h e g legal) p in
      subst P grow (along P each (h ++ e ∷ []) g (rw grow legal) more)

  -- what holds at first and is kept by each step holds of each legal history
  pub by_steps : (P : List Event → Type 0) → P [] → ((h : List Event) (e : Event) → IsLegal l h → Step l h e → P h → P (h ++ e ∷ [])) → (h : List Event) → IsLegal l h → P h
  by_steps P start each h legal = along P each [] h legal start

pub born-append : (h g : List Event) → born (h ++ g) ≡ born h ++ born g
born-append [] g = refl
born-append (e ∷ h) g = rw (born-append h g) (sym (append_assoc (births e) (born h) (born g)))

pub element_of-append : (h g : List Event) (i : ℕ) → element_of (h ++ g) i ≡ option_or (element_of h i) (element_of g i)
element_of-append h g i = rw (born-append h g) (find-append (λ (e : Element). e.id == i) (born h) (born g))

pub element_of-kept : (h g : List Event) (i : ℕ) (e : Element) → element_of h i ≡ Some e → element_of (h ++ g) i ≡ Some e
element_of-kept h g i e is = element_of-append h g i ∙ ap (λ (o : Option Element). option_or o (element_of g i)) is

pub status_of-snoc : (limit : ℕ) (h : List Event) (e : Event) (i : ℕ) → status_of limit (h ++ e ∷ []) i ≡ status_after limit i (status_of limit h i) e
status_of-snoc limit h e i = fold-append (status_after limit i) (Waiting 0) h (e ∷ [])

-- the unit was claimed by this event, or was open before it, which does not end it
pub open_before : (h : List Event) (e : Event) (u : ℕ) (t : UnitClaim) → IsOpen (h ++ e ∷ []) u t
    → (claim_by u e ≡ Some t) ⊎ (IsOpen h u t × (end_by u e ≡ None))
open_before h e u t is =
    let ends = option_or-none (end_of h u) (end_by u e) (sym (first-snoc (end_by u) h e) ∙ is.unfinished) in
    elim (option_or-some (claim_of h u) (claim_by u e) t (sym (first-snoc (claim_by u) h e) ∙ is.claimed)) [
      | inl p ↦ inr (record { claimed = p; unfinished = ends.0 }, ends.1)
      | inr p ↦ inl p.1
    ]

-- an open unit holds the element that it claimed
abbrev pub OpenHolds : Limits → List Event → Type 0
OpenHolds l h = (u : ℕ) (t : UnitClaim) → IsOpen h u t → status_of l.attempts h t.item ≡ Held u t.attempt

-- an open unit that the step leaves open holds its element after it, and so does one that the step claims
holds_after : (l : Limits) (h : List Event) (e : Event) → Step l h e → OpenHolds l h → (u : ℕ) (t : UnitClaim)
    → (claim_by u e ≡ Some t) ⊎ (IsOpen h u t × (end_by u e ≡ None))
    → status_after l.attempts t.item (status_of l.attempts h t.item) e ≡ Held u t.attempt
holds_after l h (Enqueue c e) step old u t (inl p) = absurd (cc (p))
holds_after l h (Enqueue c e) step old u t (inr p) = old u t p.0
holds_after l h (Claim c v j n) step old u t (inl p) =
    let q = some_if v u (record { pass = c; item = j; attempt = n }) t p in
    rw (← q.1) (if_same j j (Held v n) (status_of l.attempts h j) refl ∙ ap (λ w. Held w n) q.0)
holds_after l h (Claim c v j n) step old u t (inr p) =
    let held = old u t p.0 in
    let waits = step.waits in
    let other : j ≢ t.item = λ same. let at = ap (status_of l.attempts h) same in cc in
    if_other j t.item (Held v n) (status_of l.attempts h t.item) other ∙ held
holds_after l h (Commit c v outs) step old u t (inl p) = absurd (cc (p))
holds_after l h (Commit c v outs) step old u t (inr p) =
    ap (committed v) (old u t p.0) ∙ if_other v u (Consumed u) (Held u t.attempt) (none_if v u _ p.1)
holds_after l h (Abort c v) step old u t (inl p) = absurd (cc (p))
holds_after l h (Abort c v) step old u t (inr p) =
    ap (aborted l.attempts v) (old u t p.0) ∙ if_other v u _ (Held u t.attempt) (none_if v u _ p.1)
holds_after l h (Kill c j) step old u t (inl p) = absurd (cc (p))
holds_after l h (Requeue c j k) step old u t (inl p) = absurd (cc (p))
holds_after l h (Kill c j) step old u t (inr p) =
    let held = old u t p.0 in
    let other : j ≢ t.item = λ same. let free = step.free in rw (same, held) at free in
    if_other j t.item Killed (status_of l.attempts h t.item) other ∙ held
holds_after l h (Requeue c j k) step old u t (inr p) =
    let held = old u t p.0 in
    let other : j ≢ t.item = λ same. let at = ap (status_of l.attempts h) same in let parked = step.parked.1 in cc in
    if_other j t.item (Waiting 0) (status_of l.attempts h t.item) other ∙ held

-- in a legal history each open unit holds the element that it claimed
pub open_holds : (l : Limits) (h : List Event) → IsLegal l h → OpenHolds l h
open_holds l h legal = by_steps l (OpenHolds l) (λ u t is. absurd (cc (is.claimed))) more h legal
  where
    more : (h : List Event) (e : Event) → IsLegal l h → Step l h e → OpenHolds l h → OpenHolds l (h ++ e ∷ [])
    more h e legal step old u t is = status_of-snoc l.attempts h e t.item ∙ holds_after l h e step old u t (open_before h e u t is)

-- a step leaves a settled status
pub settled_after : (l : Limits) (h : List Event) (e : Event) → Step l h e → (i : ℕ) (s : Status) → IsSettled s → status_of l.attempts h i ≡ s → status_after l.attempts i s e ≡ s
settled_after l h (Enqueue c e) step i s settled is = refl
settled_after l h (Claim c v j n) step i s settled is =
    let waits = step.waits in
    if_other j i (Held v n) s (λ same. let at : status_of l.attempts h j ≡ s = ap (status_of l.attempts h) same ∙ is in subst IsSettled (sym at ∙ waits) settled)
settled_after l h (Commit c v outs) step i (Consumed u) settled is = refl
settled_after l h (Commit c v outs) step i Killed settled is = refl
settled_after l h (Abort c v) step i (Consumed u) settled is = refl
settled_after l h (Abort c v) step i Killed settled is = refl
settled_after l h (Kill c j) step i s settled is =
    if_other j i Killed s (λ same. let at : status_of l.attempts h j ≡ s = ap (status_of l.attempts h) same ∙ is in not_both s settled (subst IsKillable at step.free))
  where
    not_both : (s : Status) → IsSettled s → IsKillable s → ⊥
    not_both (Consumed u) settled free = free
    not_both Killed settled free = free
    not_both (Waiting n) settled free = settled
    not_both (Held u n) settled free = settled
    not_both (Parked n) settled free = settled
settled_after l h (Requeue c j k) step i s settled is =
    if_other j i (Waiting 0) s (λ same. let at : status_of l.attempts h j ≡ s = ap (status_of l.attempts h) same ∙ is in subst IsSettled (sym at ∙ step.parked.1) settled)
settled_after l h e step i (Waiting n) settled is = absurd settled
settled_after l h e step i (Held u n) settled is = absurd settled
settled_after l h e step i (Parked n) settled is = absurd settled

-- a settled element keeps its status
pub settled_stays : (l : Limits) (h g : List Event) (i : ℕ) (s : Status) → IsSettled s → IsLegal l (h ++ g) → status_of l.attempts h i ≡ s → status_of l.attempts (h ++ g) i ≡ s
settled_stays l h g i s settled legal is = along l (λ x. status_of l.attempts x i ≡ s) more h g legal is
  where
    more : (h : List Event) (e : Event) → IsLegal l h → Step l h e → status_of l.attempts h i ≡ s → status_of l.attempts (h ++ e ∷ []) i ≡ s
    more h e legal step is = status_of-snoc l.attempts h e i ∙ (ap (λ x. status_after l.attempts i x e) is ∙ settled_after l h e step i s settled is)

-- Each id is born once.

only_one : (x e : Element) (k : ℕ) → k < 1 → slice_index_or (x ∷ []) k e ≡ e → x ≡ e
only_one x e zero less is = is
only_one x e (suc k) less is = absurd (omega arith)

none_there : (e : Element) → Contains [] e → ⊥
none_there e there = let less = there.1 in omega arith

outputs_found : (l : Limits) (h : List Event) (c u root id : ℕ) (outs : List Element) (e : Element) → AreOutputs l h c u root id outs → Contains outs e
    → (id ≤ e.id) × (element_of h e.id ≡ None) × (find (λ (x : Element). x.id == e.id) outs ≡ Some e)
outputs_found l h c u root id [] e are there = absurd (none_there e there)
outputs_found l h c u root id (o ∷ os) e are there =
    elim (Contains-append_cases (o ∷ []) os e there) [
      | inl here ↦
          let same : o ≡ e = only_one o e here.0 here.1 here.2 in
          let place : e.id ≡ id = ap (λ (x : Element). x.id) (sym same) ∙ are.0.place in (
            omega arith,
            rw place are.0.unborn,
            if_same o.id e.id (Some o) (find (λ (x : Element). x.id == e.id) os) (ap (λ (x : Element). x.id) same) ∙ ap Some same,
          )
      | inr later ↦
          let rest = outputs_found l h c u root (id + 1) os e are.1 later in
          let place = are.0.place in
          let least = rest.0 in (
            omega arith,
            rest.1,
            if_other o.id e.id (Some o) (find (λ (x : Element). x.id == e.id) os) (λ same. omega arith) ∙ rest.2,
          )
    ]

-- an element that an event makes was not born before, and is found in it
pub new_found : (l : Limits) (h : List Event) (e : Event) → Step l h e → (x : Element) → Contains (births e) x → (element_of h x.id ≡ None) × (find (λ (y : Element). y.id == x.id) (births e) ≡ Some x)
new_found l h (Enqueue c e) step x there =
    let same : e ≡ x = only_one e x there.0 there.1 there.2 in
    (rw (← same) step.unborn, if_same e.id x.id (Some e) None (ap (λ (y : Element). y.id) same) ∙ ap Some same)
new_found l h (Claim c u i n) step x there = absurd (none_there x there)
new_found l h (Commit c u outs) step x there =
    let found = outputs_found l h c u step.item.root (first_id outs) outs x step.outputs there in (found.1, found.2)
new_found l h (Abort c u) step x there = absurd (none_there x there)
new_found l h (Kill c i) step x there = absurd (none_there x there)
new_found l h (Requeue c i k) step x there = absurd (none_there x there)

pub element_of-snoc : (h : List Event) (e : Event) (i : ℕ) → element_of (h ++ e ∷ []) i ≡ option_or (element_of h i) (find (λ (y : Element). y.id == i) (births e))
element_of-snoc h e i = element_of-append h (e ∷ []) i ∙ ap (λ xs. option_or (element_of h i) (find (λ (y : Element). y.id == i) xs)) (append-nil (births e))

pub born-snoc : (h : List Event) (e : Event) → born (h ++ e ∷ []) ≡ born h ++ births e
born-snoc h e = born-append h (e ∷ []) ∙ ap (λ xs. born h ++ xs) (append-nil (births e))

pub born_once : (l : Limits) (h : List Event) → IsLegal l h → (e : Element) → Contains (born h) e → element_of h e.id ≡ Some e
born_once l h legal = by_steps l (λ x. (e : Element) → Contains (born x) e → element_of x e.id ≡ Some e) (λ e there. absurd (none_there e there)) more h legal
  where
    more : (h : List Event) (x : Event) → IsLegal l h → Step l h x → ((e : Element) → Contains (born h) e → element_of h e.id ≡ Some e) → (e : Element) → Contains (born (h ++ x ∷ [])) e → element_of (h ++ x ∷ []) e.id ≡ Some e
    more h x legal step old e there =
        elim (Contains-append_cases (born h) (births x) e (rw (born-snoc h x) at there)) [
          | inl before ↦ element_of-kept h (x ∷ []) e.id e (old e before)
          | inr now ↦ let found = new_found l h x step e now in element_of-snoc h x e.id ∙ rw (found.0) found.1
        ]

-- an element that was not born waits, untaken
pub unborn_after : (l : Limits) (h : List Event) (e : Event) → Step l h e → (i : ℕ) → element_of h i ≡ None → status_after l.attempts i (Waiting 0) e ≡ Waiting 0
unborn_after l h (Enqueue c e) step i none = refl
unborn_after l h (Claim c u j n) step i none = if_other j i (Held u n) (Waiting 0) (λ same. let born = step.born in let at = ap (element_of h) same in cc)
unborn_after l h (Commit c u outs) step i none = refl
unborn_after l h (Abort c u) step i none = refl
unborn_after l h (Kill c j) step i none = if_other j i Killed (Waiting 0) (λ same. let born = step.born in let at = ap (element_of h) same in cc)
unborn_after l h (Requeue c j k) step i none = if_other j i (Waiting 0) (Waiting 0) (λ same. let born = step.born in let at = ap (element_of h) same in cc)

pub unborn_waits : (l : Limits) (h : List Event) → IsLegal l h → (i : ℕ) → element_of h i ≡ None → status_of l.attempts h i ≡ Waiting 0
unborn_waits l h legal i = by_steps l (λ x. element_of x i ≡ None → status_of l.attempts x i ≡ Waiting 0) (λ none. refl) more h legal
  where
    more : (h : List Event) (e : Event) → IsLegal l h → Step l h e → (element_of h i ≡ None → status_of l.attempts h i ≡ Waiting 0) → element_of (h ++ e ∷ []) i ≡ None → status_of l.attempts (h ++ e ∷ []) i ≡ Waiting 0
    more h e legal step old none =
        let before : element_of h i ≡ None = (option_or-none (element_of h i) _ (sym (element_of-snoc h e i) ∙ none)).0 in
        status_of-snoc l.attempts h e i ∙ (ap (λ s. status_after l.attempts i s e) (old before) ∙ unborn_after l h e step i before)
