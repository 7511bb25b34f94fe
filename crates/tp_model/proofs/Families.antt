-- A family that is settled stays so, and nothing is born in it.
use Rattle.std.proofs.Common.{◌≡◌, ◌≢◌, ℕ, suc, ◌-◌, ◌≤◌, ◌==◌, cond, Bool, true, false, Some, None, List, [], ◌∷◌, ◌++◌, filter, refl, sym, ◌∙◌, ap, subst, ⊎_elim, inl, inr, arith}
use Rattle.std.proofs.lemmas.Bool.{eqb-true, eq-eqb, ne_eqb}
use Rattle.std.proofs.lemmas.List.Elements.{All-nil, All-cons, filter-append, Contains-append_right}
use Rattle.std.specs.List.{All, Contains}
use Rattle.tp_model.specs.declared.types.Element.{Element}
use Rattle.tp_model.specs.declared.types.Limits.{Limits}
use Rattle.tp_model.specs.declared.types.Status.TheVariants.{Waiting, Held}
use Rattle.tp_model.specs.declared.event.Event.{Event}
use Rattle.tp_model.specs.declared.event.Event.TheVariants.{Enqueue, Claim, Commit, Abort, Kill, Requeue}
use Rattle.tp_model.specs.History.{In, here, there, births, born, element_of, IsBorn, UnitClaim, claim_by, claim_of, first_id, status_of, IsSettled}
use Rattle.tp_model.specs.Families.{family, IsSettledFamily, WorksOn, NeverWorkedOn, SettledFamilyStays}
use Rattle.tp_model.specs.Steps.{IsServerStage, IsOpen, Step, IsLegal}
use Rattle.tp_model.proofs.Lists.{option_or-some, first-snoc, some_if}
use Rattle.tp_model.proofs.Histories.{along, by_steps, legal_at, legal_start, open_holds, born-snoc, born_once, element_of-kept, settled_after, status_of-snoc}
use Rattle.tp_model.proofs.LawProofs.{claimed_item}
use Rattle.tp_model.proofs.Bridges.{append_nil, find_in, in_one, in_none, in_cons, in_here, born_either, is_born, element_of-id, outputs_place}

-- lists and what they have

in_contains : {A : Type 0} (xs : List A) (x : A) → In x xs → Contains xs x
in_contains [] x q = absurd (in_none q)
in_contains (y ∷ xs) x here = (0, omega arith, refl)
in_contains (y ∷ xs) x (there q) = Contains-append_right (y ∷ []) xs x (in_contains xs x q)

all_in : {A : Type 0} (P : A → Type 0) (xs : List A) (x : A) → All P xs → In x xs → P x
all_in P [] x all q = absurd (in_none q)
all_in P (y ∷ xs) x all here = all 0 x (omega arith)
all_in P (y ∷ xs) x all (there q) = all_in P xs x (λ k d less. all (suc k) d (omega arith)) q

in_all : {A : Type 0} (P : A → Type 0) (xs : List A) → ((x : A) → In x xs → P x) → All P xs
in_all P [] each = All-nil P
in_all P (x ∷ xs) each = All-cons P x xs (each x here) (in_all P xs (λ y p. each y (there p)))

pub in_filter : {A : Type 0} (p : A → Bool) (xs : List A) (x : A) → In x (filter p xs) → In x xs × (p x ≡ true)
in_filter p [] x q = absurd (in_none q)
in_filter {A} p (y ∷ xs) x q = go (in_filter p xs x) (p y) refl q
  where
    go : (In x (filter p xs) → In x xs × (p x ≡ true)) → (b : Bool) → p y ≡ b → In x (cond b (y ∷ filter p xs) (filter p xs)) → In x (y ∷ xs) × (p x ≡ true)
    go rest true is r = ⊎_elim (λ same. (in_here xs same, ap p same ∙ is)) (λ s. let t = rest s in (there t.0, t.1)) (in_cons r)
    go rest false is r = let t = rest r in (there t.0, t.1)

-- what passes is kept
pub contains_filter : {A : Type 0} (p : A → Bool) (xs : List A) (x : A) → p x ≡ true → In x xs → In x (filter p xs)
contains_filter {A} p [] x is q = absurd (in_none q)
contains_filter {A} p (y ∷ xs) x is here = subst (λ b. In x (cond b (x ∷ filter p xs) (filter p xs))) (sym is) here
contains_filter {A} p (y ∷ xs) x is (there q) = go (p y) (contains_filter p xs x is q)
  where
    go : (b : Bool) → In x (filter p xs) → In x (cond b (y ∷ filter p xs) (filter p xs))
    go true r = there r
    go false r = r

filter_nothing : (root : ℕ) (xs : List Element) → ((x : Element) → In x xs → x.root ≢ root) → filter (λ (e : Element). e.root == root) xs ≡ []
filter_nothing root [] none = refl
filter_nothing root (x ∷ xs) none = let rest = filter (λ (e : Element). e.root == root) xs in
    ap (λ b. cond b (x ∷ rest) rest) (ne_eqb x.root root (none x here)) ∙ filter_nothing root xs (λ y p. none y (there p))

-- what a unit claimed is of a server's stage

module _ (l : Limits) where
  staged_after : (h : List Event) (e : Event) → Step l h e → (u : ℕ) (t : UnitClaim) → claim_by u e ≡ Some t → (x : Element) × (element_of h t.item ≡ Some x) × IsServerStage x.stage
  staged_after h (Enqueue c x) step u t is = absurd (cc (is))
  staged_after h (Claim c v i n) step u t is =
      let q = some_if v u (record { pass = c; item = i; attempt = n }) t is in
      (step.item, ap (element_of h) (ap (λ (t : UnitClaim). t.item) (sym q.1)) ∙ step.born, step.stage)
  staged_after h (Commit c v outs) step u t is = absurd (cc (is))
  staged_after h (Abort c v) step u t is = absurd (cc (is))
  staged_after h (Kill c i) step u t is = absurd (cc (is))
  staged_after h (Requeue c i k) step u t is = absurd (cc (is))

  claimed_staged : (h : List Event) → IsLegal l h → (u : ℕ) (t : UnitClaim) → claim_of h u ≡ Some t → (x : Element) × (element_of h t.item ≡ Some x) × IsServerStage x.stage
  claimed_staged h legal = by_steps l (λ y. (u : ℕ) (t : UnitClaim) → claim_of y u ≡ Some t → (x : Element) × (element_of y t.item ≡ Some x) × IsServerStage x.stage) (λ u t is. absurd (cc (is))) more h legal
    where
      more : (h : List Event) (e : Event) → IsLegal l h → Step l h e → ((u : ℕ) (t : UnitClaim) → claim_of h u ≡ Some t → (x : Element) × (element_of h t.item ≡ Some x) × IsServerStage x.stage)
          → (u : ℕ) (t : UnitClaim) → claim_of (h ++ e ∷ []) u ≡ Some t → (x : Element) × (element_of (h ++ e ∷ []) t.item ≡ Some x) × IsServerStage x.stage
      more h e legal step old u t is =
          elim (option_or-some (claim_of h u) (claim_by u e) t (sym (first-snoc (claim_by u) h e) ∙ is)) [
            | inl before ↦ let x = old u t before in (x.0, element_of-kept h (e ∷ []) t.item x.0 x.1, x.2)
            | inr now ↦ let x = staged_after h e step u t now.1 in (x.0, element_of-kept h (e ∷ []) t.item x.0 x.1, x.2)
          ]

  -- each born element of the family that is no reply is consumed or killed
  abbrev pub AllSettled : List Event → ℕ → Type 0
  AllSettled h root = (x : Element) → IsBorn h x → x.root ≡ root → x.stage ≢ 15 → IsSettled (status_of l.attempts h x.id)

  pub each_settled : (h : List Event) (root : ℕ) → IsSettledFamily l.attempts h root → AllSettled h root
  each_settled h root all x is same not =
      all_in (λ (e : Element). e.stage ≢ 15 → IsSettled (status_of l.attempts h e.id)) (family h root) x all
      (contains_filter (λ (e : Element). e.root == root) (born h) x (eq-eqb x.root root same) (find_in x.id (born h) x is).0) not

  pub all_settled : (h : List Event) (root : ℕ) → IsLegal l h → AllSettled h root → IsSettledFamily l.attempts h root
  all_settled h root legal each =
      in_all (λ (e : Element). e.stage ≢ 15 → IsSettled (status_of l.attempts h e.id)) (family h root)
      (λ x p not. let t = in_filter (λ (e : Element). e.root == root) (born h) x p in each x (born_once l h legal x (in_contains (born h) x t.0)) (eqb-true x.root root t.1) not)

  -- a unit that is open holds an unsettled element of its family
  open_unsettled : (h : List Event) (u : ℕ) (t : UnitClaim) (y : Element) (root : ℕ) → IsLegal l h → IsOpen h u t → element_of h t.item ≡ Some y → y.root ≡ root → AllSettled h root → ⊥
  open_unsettled h u t y root legal opened is same settled =
      let s = claimed_staged h legal u t opened.claimed in
      let one : s.0 ≡ y = let a = s.1 in cc in
      let high : s.0.stage ≤ 14 = s.2.1 in
      let id : y.id ≡ t.item = element_of-id h t.item y is in
      let held : status_of l.attempts h y.id ≡ Held u t.attempt = ap (status_of l.attempts h) id ∙ open_holds l h legal u t opened in
      subst IsSettled held (settled y (is_born h t.item y is) same (λ reply. let at : s.0.stage ≡ 15 = ap (λ (e : Element). e.stage) one ∙ reply in omega arith))

  -- nothing is born in a family that is settled
  closed : (h : List Event) (e : Event) (root : ℕ) (r : Element) → IsLegal l h → Step l h e → element_of h root ≡ Some r → AllSettled h root → (x : Element) → In x (births e) → x.root ≢ root
  closed h (Enqueue c y) root r legal step there_is settled x p same =
      let id : y.id ≡ root = sym step.root ∙ (ap (λ (z : Element). z.root) (sym (in_one p)) ∙ same) in
      let q : Some r ≡ None = sym there_is ∙ (ap (element_of h) (sym id) ∙ step.unborn) in absurd cc
  closed h (Claim c u i n) root r legal step there_is settled x p same = in_none p
  closed h (Commit c u outs) root r legal step there_is settled x p same =
      let o = (outputs_place l h c u step.item.root (first_id outs) outs step.outputs x p).2 in
      open_unsettled h u step.taking step.item root legal step.open_unit step.taken (sym o.root_is ∙ same) settled
  closed h (Abort c u) root r legal step there_is settled x p same = in_none p
  closed h (Kill c i) root r legal step there_is settled x p same = in_none p
  closed h (Requeue c i k) root r legal step there_is settled x p same = in_none p

  -- it stays settled
  settled_on : (h : List Event) (e : Event) (root : ℕ) (r : Element) → IsLegal l h → Step l h e → element_of h root ≡ Some r → AllSettled h root → AllSettled (h ++ e ∷ []) root
  settled_on h e root r legal step there_is settled x is same not =
      ⊎_elim
      (λ old. let s = settled x old same not in
      subst IsSettled (sym (status_of-snoc l.attempts h e x.id ∙ settled_after l h e step x.id (status_of l.attempts h x.id) s refl)) s)
      (λ new. absurd (closed h e root r legal step there_is settled x new same))
      (born_either x h e is)

  -- what a later history has of it
  pub record Since (h : List Event) (root : ℕ) (z : List Event) : Type 0 where
    pub request : Element
    pub there_is : element_of z root ≡ Some request
    pub settled : AllSettled z root
    pub same : family z root ≡ family h root

  pub settled_since : (h g : List Event) (root : ℕ) (r : Element) → IsLegal l (h ++ g) → element_of h root ≡ Some r → AllSettled h root → Since h root (h ++ g)
  settled_since h g root r legal there_is settled = along l (Since h root) more h g legal (record { request = r; there_is = there_is; settled = settled; same = refl })
    where
      more : (z : List Event) (e : Event) → IsLegal l z → Step l z e → Since h root z → Since h root (z ++ e ∷ [])
      more z e legal step s =
          let test : Element → Bool = λ (x : Element). x.root == root in
          record {
            request = s.request;
            there_is = element_of-kept z (e ∷ []) root s.request s.there_is;
            settled = settled_on z e root s.request legal step s.there_is s.settled;
            same =
                ap (filter test) (born-snoc z e)
                ∙ (filter-append test (born z) (births e)
                ∙ (ap (λ xs. family z root ++ xs) (filter_nothing root (births e) (closed z e root s.request legal step s.there_is s.settled))
                ∙ (append_nil (family z root) ∙ s.same)));
          }

pub settled_family_stays : SettledFamilyStays
settled_family_stays l h g root legal begins request settled =
    let s = settled_since l h begins.0 root request.0 (rw begins.1 legal) request.1 (each_settled l h root settled) in
    subst (λ z. IsSettledFamily l.attempts z root × (family z root ≡ family h root)) begins.1 (all_settled l (h ++ begins.0) root (rw begins.1 legal) s.settled, s.same)

-- what has no place after a history in which the family is settled
works_not : (l : Limits) (mid after : List Event) (root : ℕ) → IsLegal l mid → AllSettled l mid root → (e : Event) → Step l mid e → WorksOn (mid ++ e ∷ after) root e → ⊥
works_not l mid after root legal settled (Enqueue c y) step works = works
works_not l mid after root legal settled (Claim c u i n) step works =
    let kept = element_of-kept mid (Claim c u i n ∷ after) i step.item step.born in
    let one : step.item ≡ works.0 = let w = works.1 in cc in
    let high : step.item.stage ≤ 14 = step.stage.1 in
    let id : step.item.id ≡ i = element_of-id mid i step.item step.born in
    let waits : status_of l.attempts mid step.item.id ≡ Waiting (n - 1) = ap (status_of l.attempts mid) id ∙ step.waits in
    subst IsSettled waits (settled step.item (is_born mid i step.item step.born) (ap (λ (z : Element). z.root) one ∙ works.2) (λ reply. omega arith))
works_not l mid after root legal settled (Commit c u outs) step works =
    let item : step.taking.item ≡ works.0 = claimed_item mid (Commit c u outs ∷ after) u step.taking works.0 step.open_unit.claimed works.1 in
    let kept = element_of-kept mid (Commit c u outs ∷ after) step.taking.item step.item step.taken in
    let found : element_of (mid ++ Commit c u outs ∷ after) step.taking.item ≡ Some works.2.0 = ap (element_of (mid ++ Commit c u outs ∷ after)) item ∙ works.2.1 in
    let one : step.item ≡ works.2.0 = cc in
    open_unsettled l mid u step.taking step.item root legal step.open_unit step.taken (ap (λ (z : Element). z.root) one ∙ works.2.2) settled
works_not l mid after root legal settled (Abort c u) step works = works
works_not l mid after root legal settled (Kill c i) step works = works
works_not l mid after root legal settled (Requeue c i k) step works = works

pub never_worked_on : NeverWorkedOn
never_worked_on l h between after e root legal request settled =
    let mid = h ++ between in
    let before : IsLegal l mid = legal_start l mid (e ∷ after) legal in
    works_not l mid after root before (settled_since l h between root request.0 before request.1 (each_settled l h root settled)).settled e (legal_at l mid e after legal)
