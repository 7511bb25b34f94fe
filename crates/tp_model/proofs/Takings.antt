-- The consumed elements are those that the passes took, each of them by one pass alone and once.
use Rattle.std.proofs.Common.{◌≡◌, ◌≢◌, ℕ, ◌+◌, ◌<◌, ◌==◌, cond, nat_lt, Bool, true, false, Option, Some, None, List, [], ◌∷◌, ◌++◌, refl, sym, ◌∙◌, ap, subst, ⊎_elim, append_assoc, arith}
use Rattle.std.proofs.lemmas.Bool.{eq-eqb, ne_eqb, eqb-true}
use Rattle.std.proofs.lemmas.List.Elements.{filter-append, filter_map-append}
use Rattle.std.proofs.lemmas.List.Sums.{sum_by-cons, sum_by-append}
use Rattle.std.specs.List.{cons_option, filter_map}
use Rattle.std.specs.Option.{option_or, option_map, option_and_then}
use Rattle.tp_model.specs.declared.types.Element.{Element}
use Rattle.tp_model.specs.declared.types.Limits.{Limits}
use Rattle.tp_model.specs.declared.types.Status.{Status}
use Rattle.tp_model.specs.declared.types.Status.TheVariants.{Waiting, Held, Consumed, Parked, Killed}
use Rattle.tp_model.specs.declared.event.Event.{Event}
use Rattle.tp_model.specs.declared.event.Event.TheVariants.{Enqueue, Claim, Commit, Abort, Kill, Requeue}
use Rattle.tp_model.specs.Accounts.{ConsumedIsTaken, TakenIsConsumed, IsTakenOnce, taken_of, times}
use Rattle.tp_model.specs.Counts.{is_consumed, taken_by}
use Rattle.tp_model.specs.History.{In, here, there, element_of, IsBorn, UnitClaim, claim_by, claim_of, UnitEnd, Committed, Aborted, end_by, end_of, committed, status_of, pass_of, events_by}
use Rattle.tp_model.specs.Laws.{item_of}
use Rattle.tp_model.specs.Steps.{IsLegal, MayCommit}
use Rattle.tp_model.specs.Words.{ClaimWord, FreeWord, TakenWord, KilledWord, AgainWord, claim_word, taken_status, word_status}
use Rattle.tp_model.proofs.Bridges.{in_left, in_right, in_none, in_cons, is_born, element_of-id}
use Rattle.tp_model.proofs.Families.{in_filter, contains_filter}
use Rattle.tp_model.proofs.Histories.{legal_at, legal_start, open_holds}
use Rattle.tp_model.proofs.Later.{claim_taken, claims_inside, ends_by}
use Rattle.tp_model.proofs.LawProofs.{consumed_once, settled_from}
use Rattle.tp_model.proofs.Lists.{first-kept, if_same, option_or-some, some_if}
use Rattle.tp_model.proofs.WordProofs.{status_by_words}

-- lists

-- what is in a list stands between two parts of it
cut_at : {A : Type 0} (xs : List A) (x : A) → In x xs → (before : List A) × (after : List A) × (before ++ x ∷ after ≡ xs)
cut_at [] x p = absurd (in_none p)
cut_at (y ∷ xs) x p = ⊎_elim
    (λ same. ([], xs, ap (λ z. z ∷ xs) same))
    (λ q. let t = cut_at xs x q in (y ∷ t.0, t.1, ap (λ zs. y ∷ zs) t.2)) (in_cons p)

-- what f gives of a list comes from something in it
in_filter_map : {A B : Type 0} (f : A → Option B) (xs : List A) (y : B) → In y (filter_map f xs) → (x : A) × In x xs × (f x ≡ Some y)
in_filter_map f [] y p = absurd (in_none p)
in_filter_map {A} {B} f (x ∷ xs) y p = go (in_filter_map f xs y) (f x) refl p
  where
    go : (In y (filter_map f xs) → (z : A) × In z xs × (f z ≡ Some y)) → (o : Option B) → f x ≡ o → In y (cons_option o (filter_map f xs)) → (z : A) × In z (x ∷ xs) × (f z ≡ Some y)
    go rest None is q = let t = rest q in (t.0, there t.1, t.2)
    go rest (Some z) is q = ⊎_elim (λ same. (x, here, is ∙ ap Some (sym same))) (λ r. let t = rest r in (t.0, there t.1, t.2)) (in_cons q)

-- and what f gives of something in it is there
given_there : {A B : Type 0} (f : A → Option B) (xs : List A) (x : A) (y : B) → In x xs → f x ≡ Some y → In y (filter_map f xs)
given_there f [] x y p is = absurd (in_none p)
given_there {A} {B} f (z ∷ xs) x y p is = ⊎_elim
    (λ same. subst (λ o. In y (cons_option o (filter_map f xs))) (sym (ap f (sym same) ∙ is)) here)
    (λ q. go (f z) (given_there f xs x y q is)) (in_cons p)
  where
    go : (o : Option B) → In y (filter_map f xs) → In y (cons_option o (filter_map f xs))
    go None q = q
    go (Some w) q = there q

times_append : (x : Element) (xs ys : List Element) → times x (xs ++ ys) ≡ times x xs + times x ys
times_append x xs ys = sum_by-append (λ (e : Element). cond (e.id == x.id) 1 0) xs ys

abbrev one_if : Bool → ℕ
one_if test = cond test 1 0

-- where nothing that f gives has the id of x, it stands there no time
no_times : (x : Element) (f : Event → Option Element) (xs : List Event) → ((e : Event) → In e xs → (y : Element) → f e ≡ Some y → y.id ≢ x.id) → times x (filter_map f xs) ≡ 0
no_times x f [] none = refl
no_times x f (e ∷ xs) none = go (no_times x f xs (λ e p. none e (there p))) (f e) refl
  where
    go : times x (filter_map f xs) ≡ 0 → (o : Option Element) → f e ≡ o → times x (cons_option o (filter_map f xs)) ≡ 0
    go rest None is = rest
    go rest (Some y) is =
        let one = sum_by-cons (λ (z : Element). cond (z.id == x.id) 1 0) y (filter_map f xs) in
        let off : one_if (y.id == x.id) ≡ 0 = ap one_if (ne_eqb y.id x.id (none e here y is)) in
        omega arith

-- a unit that a pass claimed is claimed among its own events

claimer_of : (u : ℕ) (e : Event) (t : UnitClaim) → claim_by u e ≡ Some t → pass_of e ≡ t.pass
claimer_of u (Enqueue c y) t is = absurd cc
claimer_of u (Claim c v i n) t is = ap (λ (r : UnitClaim). r.pass) (some_if v u (record { pass = c; item = i; attempt = n }) t is).1
claimer_of u (Commit c v outs) t is = absurd cc
claimer_of u (Abort c v) t is = absurd cc
claimer_of u (Kill c i) t is = absurd cc
claimer_of u (Requeue c i k) t is = absurd cc

pub own_claim : (h : List Event) (u : ℕ) (t : UnitClaim) → claim_of h u ≡ Some t → claim_of (events_by t.pass h) u ≡ Some t
own_claim [] u t is = absurd cc
own_claim (e ∷ h) u t is = ⊎_elim
    (λ p. let rest = events_by t.pass h in
    ap (λ b. claim_of (cond b (e ∷ rest) rest) u) (eq-eqb (pass_of e) t.pass (claimer_of u e t p)) ∙ ap (λ o. option_or o (claim_of rest u)) p)
    (λ p. go (pass_of e == t.pass) p.0 (own_claim h u t p.1))
    (option_or-some (claim_by u e) (claim_of h u) t is)
  where
    go : (b : Bool) → claim_by u e ≡ None → claim_of (events_by t.pass h) u ≡ Some t → claim_of (cond b (e ∷ events_by t.pass h) (events_by t.pass h)) u ≡ Some t
    go true none later = ap (λ o. option_or o (claim_of (events_by t.pass h) u)) none ∙ later
    go false none later = later

-- what a pass's event took

-- this event of pass d is a Commit of a unit that claimed y, which is born and consumed
pub record IsTaking (l : Limits) (h : List Event) (d : ℕ) (e : Event) (y : Element) : Type 0 where
  pub unit : ℕ
  pub outs : List Element
  pub commit : e ≡ Commit d unit outs
  pub item : item_of h unit ≡ Some y.id
  pub born : IsBorn h y
  pub status : status_of l.attempts h y.id ≡ Consumed unit

taking : (l : Limits) (before : List Event) (e : Event) (after : List Event) → IsLegal l (before ++ e ∷ after) → (y : Element)
    → taken_by (events_by (pass_of e) (before ++ e ∷ after)) (before ++ e ∷ after) e ≡ Some y → IsTaking l (before ++ e ∷ after) (pass_of e) e y
taking l before (Enqueue c z) after legal y is = absurd (cc (is))
taking l before (Claim c u i n) after legal y is = absurd (cc (is))
taking l before (Commit c u outs) after legal y is =
    let h = before ++ Commit c u outs ∷ after in
    let may : MayCommit l before c u outs = legal_at l before (Commit c u outs) after legal in
    let t = may.taking in
    let kept : claim_of h u ≡ Some t = first-kept (claim_by u) before (Commit c u outs ∷ after) t may.open_unit.claimed in
    let own : claim_of (events_by c h) u ≡ Some t = subst (λ d. claim_of (events_by d h) u ≡ Some t) may.own (own_claim h u t kept) in
    let found : element_of h t.item ≡ Some y = sym (ap (option_and_then (λ (t : UnitClaim). element_of h t.item)) own) ∙ is in
    let id : y.id ≡ t.item = element_of-id h t.item y found in
    let held = open_holds l before (legal_start l before (Commit c u outs ∷ after) legal) u t may.open_unit in
    let stays = settled_from l before (Commit c u outs) after t.item (Consumed u) tt legal (ap (committed u) held ∙ if_same u u (Consumed u) (Held u t.attempt) refl) in
    record {
      unit = u;
      outs = outs;
      commit = refl;
      item = ap (option_map (λ (t : UnitClaim). t.item)) kept ∙ ap Some (sym id);
      born = is_born h t.item y found;
      status = ap (status_of l.attempts h) id ∙ stays;
    }
taking l before (Abort c u) after legal y is = absurd (cc (is))
taking l before (Kill c i) after legal y is = absurd (cc (is))
taking l before (Requeue c i k) after legal y is = absurd (cc (is))

took : (l : Limits) (h : List Event) → IsLegal l h → (d : ℕ) (e : Event) (y : Element) → In e h → pass_of e ≡ d → taken_by (events_by d h) h e ≡ Some y → IsTaking l h d e y
took l h legal d e y p own = subst (λ d. taken_by (events_by d h) h e ≡ Some y → IsTaking l h d e y) own
    (λ is.
    let cut = cut_at h e p in
    subst (λ z. IsTaking l z (pass_of e) e y) cut.2 (taking l cut.0 e cut.1 (subst (IsLegal l) (sym cut.2) legal) y (subst (λ z. taken_by (events_by (pass_of e) z) z e ≡ Some y) (sym cut.2) is)))

-- no two Commits are of one element
once_at : (l : Limits) (h : List Event) → IsLegal l h → (before between after : List Event) (c d u v i : ℕ) (outs more : List Element)
    → (before ++ Commit c u outs ∷ between) ++ Commit d v more ∷ after ≡ h → item_of h u ≡ Some i → item_of h v ≡ Some i → ⊥
once_at l h legal before between after c d u v i outs more is one two =
    consumed_once l before between after c d u v i outs more (subst (IsLegal l) (sym is) legal)
    (subst (λ z. item_of z u ≡ Some i) (sym is) one) (subst (λ z. item_of z v ≡ Some i) (sym is) two)

-- a consumed element was claimed by a unit that committed

consumed_unit : (s : Status) → is_consumed s ≡ true → (u : ℕ) × (s ≡ Consumed u)
consumed_unit (Waiting n) is = absurd cc
consumed_unit (Held u n) is = absurd cc
consumed_unit (Consumed u) is = (u, refl)
consumed_unit (Parked n) is = absurd cc
consumed_unit Killed is = absurd cc

committed_by : (h : List Event) (u f m : ℕ) → end_of h u ≡ Some (Committed f m) → (c : ℕ) × (outs : List Element) × In (Commit c u outs) h
committed_by [] u f m p = absurd cc
committed_by (e ∷ h) u f m p = ⊎_elim
    (λ q. let t = ends_by u e (Committed f m) q in (t.0, t.1, subst (λ z. In z (e ∷ h)) t.2 here))
    (λ q. let t = committed_by h u f m q.1 in (t.0, t.1, there t.2))
    (option_or-some (end_by u e) (end_of h u) (Committed f m) p)

-- its unit's end
abbrev IsCommitted : List Event → ℕ → Type 0
IsCommitted h u = (f : ℕ) × (m : ℕ) × (end_of h u ≡ Some (Committed f m))

consumed_word : (limit : ℕ) (h : List Event) (w : ClaimWord) (u : ℕ) → word_status limit h w ≡ Consumed u → ((n : ℕ) × (r : ℕ) × (w ≡ TakenWord n u r)) × IsCommitted h u
consumed_word limit h FreeWord u is = absurd cc
consumed_word limit h (TakenWord n v r) u is = go (end_of h v) refl is
  where
    neither : (b : Bool) → cond b (Waiting n) (Parked n) ≡ Consumed u → ⊥
    neither true at = cc
    neither false at = cc

    go : (o : Option UnitEnd) → end_of h v ≡ o → taken_status limit n v o ≡ Consumed u → ((m : ℕ) × (k : ℕ) × (TakenWord n v r ≡ TakenWord m u k)) × IsCommitted h u
    go None ends at = absurd cc
    go (Some (Committed f m)) ends at = let same : v ≡ u = cc in ((n, r, ap (λ z. TakenWord n z r) same), (f, m, ap (end_of h) (sym same) ∙ ends))
    go (Some Aborted) ends at = absurd (neither (nat_lt n limit) at)
consumed_word limit h (KilledWord n v r) u is = absurd cc
consumed_word limit h (AgainWord r) u is = absurd cc

-- each element is taken by the one Commit of the unit that claimed it

module _ (l : Limits) (h : List Event) (legal : IsLegal l h) (x : Element) (before after : List Event) (c u : ℕ) (outs : List Element)
    (cut : before ++ Commit c u outs ∷ after ≡ h) (item : item_of h u ≡ Some x.id) where
  -- what pass d took before or after that Commit is another element
  others_before : (d : ℕ) (e : Event) → In e (events_by d before) → (y : Element) → taken_by (events_by d h) h e ≡ Some y → y.id ≢ x.id
  others_before d e p y is same =
      let q = in_filter (λ z. pass_of z == d) before e p in
      let t = took l h legal d e y (subst (In e) cut (in_left (Commit c u outs ∷ after) q.0)) (eqb-true (pass_of e) d q.1) is in
      let k = cut_at before e q.0 in
      let whole : (k.0 ++ Commit d t.unit t.outs ∷ k.1) ++ Commit c u outs ∷ after ≡ h =
      ap (λ z. (k.0 ++ z ∷ k.1) ++ Commit c u outs ∷ after) (sym t.commit) ∙ (ap (λ z. z ++ Commit c u outs ∷ after) k.2 ∙ cut) in
      once_at l h legal k.0 k.1 after d c t.unit u x.id t.outs outs whole (t.item ∙ ap Some same) item

  others_after : (d : ℕ) (e : Event) → In e (events_by d after) → (y : Element) → taken_by (events_by d h) h e ≡ Some y → y.id ≢ x.id
  others_after d e p y is same =
      let q = in_filter (λ z. pass_of z == d) after e p in
      let t = took l h legal d e y (subst (In e) cut (in_right before (there q.0))) (eqb-true (pass_of e) d q.1) is in
      let k = cut_at after e q.0 in
      let whole : (before ++ Commit c u outs ∷ k.0) ++ Commit d t.unit t.outs ∷ k.1 ≡ h =
      ap (λ z. (before ++ Commit c u outs ∷ k.0) ++ z ∷ k.1) (sym t.commit)
      ∙ (append_assoc before (Commit c u outs ∷ k.0) (e ∷ k.1) ∙ (ap (λ z. before ++ Commit c u outs ∷ z) k.2 ∙ cut)) in
      once_at l h legal before k.0 k.1 c d u t.unit x.id outs t.outs whole item (t.item ∙ ap Some same)

  parts_by : (d : ℕ) → events_by d h ≡ events_by d before ++ (cond (c == d) (Commit c u outs ∷ []) [] ++ events_by d after)
  parts_by d = ap (events_by d) (sym cut) ∙ (filter-append (λ z. pass_of z == d) before (Commit c u outs ∷ after) ∙ ap (λ z. events_by d before ++ z) (go (c == d)))
    where
      go : (b : Bool) → cond b (Commit c u outs ∷ events_by d after) (events_by d after) ≡ cond b (Commit c u outs ∷ []) [] ++ events_by d after
      go true = refl
      go false = refl

  -- so that all that counts is that Commit
  times_by : (d : ℕ) → times x (taken_of h d) ≡ times x (filter_map (taken_by (events_by d h) h) (cond (c == d) (Commit c u outs ∷ []) []))
  times_by d =
      let f = taken_by (events_by d h) h in
      let one = cond (c == d) (Commit c u outs ∷ []) [] in
      let list : taken_of h d ≡ filter_map f (events_by d before) ++ (filter_map f one ++ filter_map f (events_by d after)) =
      ap (filter_map f) (parts_by d) ∙ (filter_map-append f (events_by d before) (one ++ events_by d after)
      ∙ ap (λ z. filter_map f (events_by d before) ++ z) (filter_map-append f one (events_by d after))) in
      let sum = ap (times x) list in
      let first = times_append x (filter_map f (events_by d before)) (filter_map f one ++ filter_map f (events_by d after)) in
      let second = times_append x (filter_map f one) (filter_map f (events_by d after)) in
      let none = no_times x f (events_by d before) (others_before d) in
      let nothing = no_times x f (events_by d after) (others_after d) in
      omega arith

  alone_by : (d : ℕ) → d ≢ c → times x (taken_of h d) ≡ 0
  alone_by d not = times_by d ∙ ap (λ b. times x (filter_map (taken_by (events_by d h) h) (cond b (Commit c u outs ∷ []) []))) (ne_eqb c d (λ same. not (sym same)))

  once_by : taken_by (events_by c h) h (Commit c u outs) ≡ Some x → times x (taken_of h c) ≡ 1
  once_by is =
      times_by c
      ∙ (ap (λ b. times x (filter_map (taken_by (events_by c h) h) (cond b (Commit c u outs ∷ []) []))) (eq-eqb c c refl)
      ∙ (ap (λ o. times x (cons_option o [])) is
      ∙ ap (λ b. 0 + cond b 1 0) (eq-eqb x.id x.id refl)))

taken_at : (l : Limits) (h : List Event) → IsLegal l h → (x : Element) → IsBorn h x → (c u : ℕ) (outs : List Element) (t : UnitClaim) → In (Commit c u outs) h
    → claim_of h u ≡ Some t → t.item ≡ x.id → t.pass ≡ c → IsTakenOnce l h x
taken_at l h legal x is_there c u outs t commits claims of_x pass =
    record {
      pass = c;
      given = subst (λ d. d < l.parts) pass (claims_inside l h legal u t claims).0;
      taken = given_there (taken_by (events_by c h) h) (events_by c h) (Commit c u outs) x (contains_filter (λ z. pass_of z == c) h (Commit c u outs) (eq-eqb c c refl) commits) takes;
      once = once_by l h legal x cut.0 cut.1 c u outs cut.2 item takes;
      alone = alone_by l h legal x cut.0 cut.1 c u outs cut.2 item;
    }
  where
    cut : (before : List Event) × (after : List Event) × (before ++ Commit c u outs ∷ after ≡ h)
    cut = cut_at h (Commit c u outs) commits

    own : claim_of (events_by c h) u ≡ Some t
    own = subst (λ d. claim_of (events_by d h) u ≡ Some t) pass (own_claim h u t claims)

    item : item_of h u ≡ Some x.id
    item = ap (option_map (λ (t : UnitClaim). t.item)) claims ∙ ap Some of_x

    takes : taken_by (events_by c h) h (Commit c u outs) ≡ Some x
    takes = ap (option_and_then (λ (t : UnitClaim). element_of h t.item)) own ∙ (ap (element_of h) of_x ∙ is_there)

-- a unit that committed was claimed by the pass of its Commit
own_commit : (l : Limits) (h : List Event) → IsLegal l h → (c u : ℕ) (outs : List Element) (t : UnitClaim) → In (Commit c u outs) h → claim_of h u ≡ Some t → t.pass ≡ c
own_commit l h legal c u outs t commits claims =
    let cut = cut_at h (Commit c u outs) commits in
    let may : MayCommit l cut.0 c u outs = legal_at l cut.0 (Commit c u outs) cut.1 (subst (IsLegal l) (sym cut.2) legal) in
    let kept : claim_of h u ≡ Some may.taking = ap (λ z. claim_of z u) (sym cut.2) ∙ first-kept (claim_by u) cut.0 (Commit c u outs ∷ cut.1) may.taking may.open_unit.claimed in
    let both : Some may.taking ≡ Some t = sym kept ∙ claims in
    let same : may.taking ≡ t = cc in
    ap (λ (t : UnitClaim). t.pass) (sym same) ∙ may.own

pub consumed_is_taken : ConsumedIsTaken
consumed_is_taken l h x legal is =
    let s = consumed_unit (status_of l.attempts h x.id) is.consumed in
    let w = consumed_word l.attempts h (claim_word h x.id) s.0 (sym (status_by_words l h x.id legal) ∙ s.1) in
    let t = claim_taken l h x.id w.0.0 s.0 legal w.0.2 in
    let k = committed_by h s.0 w.1.0 w.1.1 w.1.2 in
    taken_at l h legal x is.born k.0 s.0 k.1 t.0 k.2 t.1 t.2 (own_commit l h legal k.0 s.0 k.1 t.0 k.2 t.1)

pub taken_is_consumed : TakenIsConsumed
taken_is_consumed l h c x legal p =
    let t = in_filter_map (taken_by (events_by c h) h) (events_by c h) x p in
    let q = in_filter (λ z. pass_of z == c) h t.0 t.1 in
    let k = took l h legal c t.0 x q.0 (eqb-true (pass_of t.0) c q.1) t.2 in
    record { born = k.born; consumed = ap is_consumed k.status }
