-- What a history of the model says of a store, and how an event goes on with it.
use Rattle.std.proofs.Common.{◌≡◌, ◌≢◌, ◌⊎◌, inl, inr, ◌==◌, ◌≤◌, ◌<◌, ◌+◌, ◌*◌, ◌%◌, ℕ, Bool, true, false, nat_lt, cond, Option, Some, None, List, [], ◌∷◌, ◌++◌, refl, sym, ◌∙◌, ap, subst, arith}
use Rattle.std.specs.List.{find}
use Rattle.std.specs.Option.{option_or}
use Rattle.std.proofs.lemmas.Nat.{mod-mul-add}
use Rattle.std.proofs.lemmas.Bool.Decides.{nat_tests}
use Rattle.tp_model.specs.History.{births, claim_by, claim_of, element_of, end_of, rounds, rounds_after, status_after, status_of, UnitClaim, UnitEnd, Committed, Aborted}
use Rattle.tp_model.specs.Steps.{IsLegal, IsOpen, Step}
use Rattle.tp_model.specs.Words.{ClaimWord, FreeWord, TakenWord, KilledWord, AgainWord, claim_word, taken_status, word_status}
use Rattle.tp_model.specs.declared.event.Event.{Event}
use Rattle.tp_model.specs.declared.event.Event.TheVariants as event
use Rattle.tp_model.specs.declared.types.Element.{Element as ModelElement}
use Rattle.tp_model.specs.declared.types.Limits.{Limits as ModelLimits}
use Rattle.tp_model.specs.declared.types.Status.TheVariants as model
use Rattle.tp_model.proofs.Lists.{first-snoc, if_other, option_or-none, option_or-some}
use Rattle.tp_model.proofs.Histories.{by_steps, element_of-kept, element_of-snoc, legal_more, status_of-snoc, unborn_after, unborn_waits}
use Rattle.tp_model.proofs.Later.{claim_taken}
use Rattle.tp_model.proofs.WordProofs.{rounds-snoc, status_by_words}
use Rattle.tp_store.specs.declared.element.Element.{Element}
use Rattle.tp_store.specs.declared.element.Status.TheVariants.{Waiting}
use Rattle.tp_store.specs.Elements.{element_at, put}
use Rattle.tp_store.specs.Modelled.{as_element, as_status, row, Tells}
use Rattle.tp_store.specs.State.{State, with_change}
use Rattle.tp_store.proofs.Changing.{with_units}
use Rattle.tp_store.proofs.Looking.{put_looks}

-- ---- of the model alone

-- a held element is that which its open unit claimed
pub held_open : (l : ModelLimits) (h : List Event) → IsLegal l h → (i u n : ℕ) → status_of l.attempts h i ≡ model.Held u n → (t : UnitClaim) × IsOpen h u t × (t.item ≡ i)
held_open l h legal i u n held = go (claim_word h i) refl (sym (status_by_words l h i legal) ∙ held)
  where
    taken : (m v r : ℕ) → claim_word h i ≡ TakenWord m v r → (x : Option UnitEnd) → end_of h v ≡ x → taken_status l.attempts m v x ≡ model.Held u n → (t : UnitClaim) × IsOpen h u t × (t.item ≡ i)
    taken m v r is None ended same =
        let unit : v ≡ u = cc in
        let t = claim_taken l h i m v legal is in
        (t.0, subst (λ w. IsOpen h w t.0) unit (record { claimed = t.1; unfinished = ended }), t.2)
    taken m v r is (Some (Committed f k)) ended same = absurd cc
    taken m v r is (Some Aborted) ended same = gave (nat_lt m l.attempts) same
      where
        gave : (b : Bool) → cond b (model.Waiting m) (model.Parked m) ≡ model.Held u n → (t : UnitClaim) × IsOpen h u t × (t.item ≡ i)
        gave true same = absurd cc
        gave false same = absurd cc

    go : (w : ClaimWord) → claim_word h i ≡ w → word_status l.attempts h w ≡ model.Held u n → (t : UnitClaim) × IsOpen h u t × (t.item ≡ i)
    go FreeWord is same = absurd cc
    go (TakenWord m v r) is same = taken m v r is (end_of h v) refl same
    go (KilledWord m v r) is same = absurd cc
    go (AgainWord r) is same = absurd cc

-- an element that was not born has no round
unborn_rounds : (l : ModelLimits) (h : List Event) → IsLegal l h → (i : ℕ) → element_of h i ≡ None → rounds h i ≡ 0
unborn_rounds l h legal i = by_steps l (λ x. element_of x i ≡ None → rounds x i ≡ 0) (λ none. refl) more h legal
  where
    same : (h : List Event) (e : Event) → Step l h e → element_of h i ≡ None → rounds_after i 0 e ≡ 0
    same h (event.Enqueue c y) step none = refl
    same h (event.Claim c u j n) step none = refl
    same h (event.Commit c u outs) step none = refl
    same h (event.Abort c u) step none = refl
    same h (event.Kill c j) step none = refl
    same h (event.Requeue c j k) step none = if_other j i (0 + 1) 0 (λ same. let born = step.born in let at = ap (element_of h) same in cc)

    more : (h : List Event) (e : Event) → IsLegal l h → Step l h e → (element_of h i ≡ None → rounds h i ≡ 0) → element_of (h ++ e ∷ []) i ≡ None → rounds (h ++ e ∷ []) i ≡ 0
    more h e legal step old none =
        let before : element_of h i ≡ None = (option_or-none (element_of h i) _ (sym (element_of-snoc h e i) ∙ none)).0 in
        rounds-snoc h e i ∙ (ap (λ k. rounds_after i k e) (old before) ∙ same h e step before)

-- two rows with different ids are different
pub rows_apart : (a b c d r : ℕ) → c < r → d < r → a * r + c ≡ b * r + d → c ≡ d
rows_apart a b c d r low high same = sym (mod-mul-add a r c low) ∙ (ap (λ x. x % r) same ∙ mod-mul-add b r d high)

-- ---- of the store

-- an id of a part
pub record IsIn (rows next i : ℕ) : Type 0 where
  pub part : ℕ
  pub id : ℕ
  pub place : i ≡ part * rows + id
  pub low : id < next

-- a legal history says of each element what it is, and knows no number that wasn't drawn
pub record Knows (l : ModelLimits) (h : List Event) (s : State) : Type 0 where
  pub legal : IsLegal l h
  pub tells : (id : ℕ) (e : Element) → element_at id s.elements ≡ Some e → Tells l h id e
  pub stage : (id : ℕ) (e : Element) → element_at id s.elements ≡ Some e → 1 ≤ e.stage
  pub rows : (i : ℕ) (x : ModelElement) → element_of h i ≡ Some x → IsIn l.rows s.next i
  pub units : (v : ℕ) → s.units < v → claim_of h v ≡ None

-- of fewer elements too
pub knows_fewer : (l : ModelLimits) (h : List Event) (s t : State) → ((id : ℕ) (e : Element) → element_at id t.elements ≡ Some e → element_at id s.elements ≡ Some e) → t.next ≡ s.next → t.units ≡ s.units → Knows l h s → Knows l h t
knows_fewer l h s t known next units k = record {
  legal = k.legal;
  tells = λ id e found. k.tells id e (known id e found);
  stage = λ id e found. k.stage id e (known id e found);
  rows = λ i x is. let r = k.rows i x is in record { part = r.part; id = r.id; place = r.place; low = let low = r.low in omega arith };
  units = λ v high. k.units v (omega arith);
}

-- no element is in the row of an id that wasn't drawn
pub fresh_row : (l : ModelLimits) (h : List Event) (s : State) → Knows l h s → (part id : ℕ) → s.next ≤ l.rows → s.next ≤ id → id < l.rows → element_of h (part * l.rows + id) ≡ None
fresh_row l h s k part id room high low = go (element_of h (part * l.rows + id)) refl
  where
    go : (x : Option ModelElement) → element_of h (part * l.rows + id) ≡ x → element_of h (part * l.rows + id) ≡ None
    go None h = h
    go (Some x) is =
        let r = k.rows (part * l.rows + id) x is in
        let below = r.low in
        let same : id ≡ r.id = rows_apart part r.part id r.id l.rows low (omega arith) r.place in
        absurd (omega arith)

-- an event makes of an element the second one
pub record IsNext (l : ModelLimits) (ev : Event) (id : ℕ) (old new : Element) : Type 0 where
  pub contents : new ≡ record old { status = new.status; rounds = new.rounds; earlier = new.earlier }
  pub status : status_after l.attempts (row l.rows old.by id) (as_status old.stage old.status) ev ≡ as_status old.stage new.status
  pub rounds : rounds_after (row l.rows old.by id) old.rounds ev ≡ new.rounds

-- or it is born
pub record IsBornIn (l : ModelLimits) (h : List Event) (ev : Event) (id : ℕ) (e : Element) : Type 0 where
  pub unborn : element_of h (row l.rows e.by id) ≡ None
  pub born : find (λ (y : ModelElement). y.id == row l.rows e.by id) (births ev) ≡ Some (as_element l.rows id e)
  pub waits : e.status ≡ Waiting 0
  pub rounds : e.rounds ≡ 0
  pub stage : 1 ≤ e.stage

abbrev pub Advances : ModelLimits → List Event → Event → State → ℕ → Element → Type 0
Advances l h ev s id e = ((d : Element) × (element_at id s.elements ≡ Some d) × IsNext l ev id d e) ⊎ IsBornIn l h ev id e

module _ (l : ModelLimits) (h : List Event) (s : State) (k : Knows l h s) (ev : Event) (step : Step l h ev) where
  tells_next : (id : ℕ) (d e : Element) → element_at id s.elements ≡ Some d → IsNext l ev id d e → Tells l (h ++ ev ∷ []) id e
  tells_next id d e found n = subst (Tells l (h ++ ev ∷ []) id) (sym n.contents) (record {
    contents = element_of-kept h (ev ∷ []) (row l.rows d.by id) (as_element l.rows id d) t.contents;
    status = status_of-snoc l.attempts h ev (row l.rows d.by id) ∙ (ap (λ x. status_after l.attempts (row l.rows d.by id) x ev) t.status ∙ n.status);
    rounds = rounds-snoc h ev (row l.rows d.by id) ∙ (ap (λ x. rounds_after (row l.rows d.by id) x ev) t.rounds ∙ n.rounds);
  })
    where
      t : Tells l h id d
      t = k.tells id d found

  rounds_born : (i : ℕ) → element_of h i ≡ None → rounds_after i 0 ev ≡ 0
  rounds_born i none = go ev step
    where
      go : (e : Event) → Step l h e → rounds_after i 0 e ≡ 0
      go (event.Enqueue c y) step = refl
      go (event.Claim c u j n) step = refl
      go (event.Commit c u outs) step = refl
      go (event.Abort c u) step = refl
      go (event.Kill c j) step = refl
      go (event.Requeue c j m) step = if_other j i (0 + 1) 0 (λ same. let born = step.born in let at = ap (element_of h) same in cc)

  tells_born : (id : ℕ) (e : Element) → IsBornIn l h ev id e → Tells l (h ++ ev ∷ []) id e
  tells_born id e b = record {
    contents = element_of-snoc h ev i ∙ (ap (λ x. option_or x (find (λ (y : ModelElement). y.id == i) (births ev))) b.unborn ∙ b.born);
    status = status_of-snoc l.attempts h ev i ∙ (ap (λ x. status_after l.attempts i x ev) (unborn_waits l h k.legal i b.unborn) ∙ (unborn_after l h ev step i b.unborn ∙ sym (ap (as_status e.stage) b.waits)));
    rounds = rounds-snoc h ev i ∙ (ap (λ x. rounds_after i x ev) (unborn_rounds l h k.legal i b.unborn) ∙ (rounds_born i b.unborn ∙ sym b.rounds));
  }
    where
      i : ℕ
      i = row l.rows e.by id

  pub knows_step : (t : State) → s.next ≤ t.next → s.units ≤ t.units
      → ((id : ℕ) (e : Element) → element_at id t.elements ≡ Some e → Advances l h ev s id e)
      → ((i : ℕ) (x : ModelElement) → find (λ (y : ModelElement). y.id == i) (births ev) ≡ Some x → IsIn l.rows t.next i)
      → ((v : ℕ) → t.units < v → claim_by v ev ≡ None) → Knows l (h ++ ev ∷ []) t
  knows_step t next units each born claims = record {
    legal = legal_more l h ev k.legal step;
    tells = λ id e found. tells id e (each id e found);
    stage = λ id e found. stage id e (each id e found);
    rows = λ i x is. rows i x (option_or-some (element_of h i) (find (λ (y : ModelElement). y.id == i) (births ev)) x (sym (element_of-snoc h ev i) ∙ is));
    units = λ v high. first-snoc (claim_by v) h ev ∙ (ap (λ x. option_or x (claim_by v ev)) (k.units v (omega arith)) ∙ claims v high);
  }
    where
      tells : (id : ℕ) (e : Element) → Advances l h ev s id e → Tells l (h ++ ev ∷ []) id e
      tells id e (inl (d, found, n)) = tells_next id d e found n
      tells id e (inr b) = tells_born id e b

      stage : (id : ℕ) (e : Element) → Advances l h ev s id e → 1 ≤ e.stage
      stage id e (inl (d, found, n)) = subst (λ (x : Element). 1 ≤ x.stage) (sym n.contents) (k.stage id d found)
      stage id e (inr b) = b.stage

      rows : (i : ℕ) (x : ModelElement) → (element_of h i ≡ Some x) ⊎ ((element_of h i ≡ None) × (find (λ (y : ModelElement). y.id == i) (births ev) ≡ Some x)) → IsIn l.rows t.next i
      rows i x (inl old) = let r = k.rows i x old in record { part = r.part; id = r.id; place = r.place; low = let low = r.low in omega arith }
      rows i x (inr new) = born i x new.1

  -- an event that no element is born by, and that changes one
  pub knows_change : (units id : ℕ) (old new : Element) → element_at id s.elements ≡ Some old → s.units ≤ units → IsNext l ev id old new
      → ((q : ℕ) (d : Element) → element_at q s.elements ≡ Some d → id ≢ q → IsNext l ev q d d)
      → births ev ≡ [] → ((v : ℕ) → units < v → claim_by v ev ≡ None) → Knows l (h ++ ev ∷ []) (with_units units (with_change id old new s))
  knows_change units id old new found more next others none claims = knows_step (with_units units (with_change id old new s)) (omega arith) more (λ q e there. go q e there (id == q) refl) (λ i x is. absurd (let no = rw none at is in cc)) claims
    where
      as_number : (m n : ℕ) → (m == n) ≡ true → m ≡ n
      as_number m n h = grind (arith, nat_tests)

      apart : (m n : ℕ) → (m == n) ≡ false → m ≢ n
      apart m n h e = absurd (grind (arith, nat_tests))

      go : (q : ℕ) (e : Element) → element_at q (put id new s.elements) ≡ Some e → (b : Bool) → (id == q) ≡ b → Advances l h ev s q e
      go q e there true h =
          let place = as_number id q h in
          let both : Some new ≡ Some e = sym (put_looks id new s.elements q ∙ rw h refl) ∙ there in
          let same : new ≡ e = cc in
          inl (old, subst (λ i. element_at i s.elements ≡ Some old) place found, subst (λ i. IsNext l ev i old e) place (subst (IsNext l ev id old) same next))
      go q e there false h =
          let was : element_at q s.elements ≡ Some e = sym (put_looks id new s.elements q ∙ rw h refl) ∙ there in
          inl (e, was, others q e was (apart id q h))
