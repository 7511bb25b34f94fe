-- What a step leaves of the heads in a pass's areas.
use Rattle.std.proofs.Common.{◌≡◌, ◌⊎◌, ◌≢◌, ℕ, ◌<◌, ◌≤◌, ◌+◌, List, [], ◌∷◌, ◌++◌, get_or, sym, refl, ap, ◌∙◌, subst, inl, inr, ⊎_elim, arith, Some, None}
use Rattle.tp_model.specs.declared.event.Event.{Event}
use Rattle.tp_model.specs.declared.types.Element.{Element}
use Rattle.tp_model.specs.declared.types.Limits.{Limits}
use Rattle.tp_model.specs.History.{Committed, In, births, end_of}
use Rattle.tp_model.specs.Passes.{IsOwnArea}
use Rattle.tp_model.proofs.Bridges.{in_either, in_none, in_one}
use Rattle.tp_rule.specs.Places.{head_place}
use Rattle.tp_rule.specs.Words.{head_bits}
use Rattle.tp_rule.specs.Rule.{AreasHold, NamesUnit}
use Rattle.tp_rule.specs.declared.view.Hand.{Hand}
use Rattle.tp_rule.proofs.Storing.{SameRow}

module _ (k : Limits) where
  -- the rows of the areas of the pass have the heads and bodies that they had
  abbrev pub AreSame : Hand → List ℕ → List ℕ → Type 0
  AreSame a ws ws' = (first end i : ℕ) → IsOwnArea k a.number a.blocks first end → first ≤ i → i < end → SameRow ws ws' i

  -- how the pass a, with the words ws after h, became b with the words ws' after h'
  pub record Became (h h' : List Event) (ws ws' : List ℕ) (a b : Hand) : Type 0 where
    -- its areas are as they were, and its run ends where it did
    pub own : (first end : ℕ) → IsOwnArea k b.number b.blocks first end → IsOwnArea k a.number a.blocks first end
    pub top : b.next + b.left ≡ a.next + a.left
    pub passed : (b.passed_from ≡ a.passed_from) × (b.passed_to ≡ a.passed_to)
    -- each head there is as it was, or isn't empty, and names no undecided unit but in a draft of the open one
    pub heads : (first end i : ℕ) → IsOwnArea k b.number b.blocks first end → first ≤ i → i < end
        → (get_or ws' (head_place i) 0 ≡ get_or ws (head_place i) 0)
        ⊎ ((get_or ws' (head_place i) 0 ≢ 0) × ((stage root u : ℕ) → NamesUnit ws' i stage root u → (b.first_draft ≤ i) × (i < b.next) × (b.open_unit ≡ Some u) × ((from count : ℕ) → ¬ (end_of h' u ≡ Some (Committed from count)))))
    pub undecided : (u : ℕ) → end_of h' u ≡ None → end_of h u ≡ None
    -- what is committed was so, or the heads that named it are of its outputs
    pub committed : (i u from count : ℕ) → end_of h' u ≡ Some (Committed from count)
        → (end_of h u ≡ Some (Committed from count)) ⊎ ((a.first_draft ≤ i → i < a.next → a.open_unit ≡ Some u → (from ≤ i) × (i < from + count)) × (end_of h u ≡ None))
    -- what was a draft of the open unit is one, where that is undecided
    pub drafts : (i u : ℕ) → a.first_draft ≤ i → i < a.next → a.open_unit ≡ Some u → end_of h' u ≡ None → (b.first_draft ≤ i) × (i < b.next) × (b.open_unit ≡ Some u)
    -- and before each element that it made now no head is empty
    pub made : (first end i : ℕ) (e : Event) (x : Element) → IsOwnArea k b.number b.blocks first end → first ≤ i → i < end → In e b.mine → In x (births e) → end ≤ x.id
        → In e a.mine ⊎ (get_or ws' (head_place i) 0 ≢ 0)

  pub areas_on : (h h' : List Event) (ws ws' : List ℕ) (a b : Hand) → Became h h' ws ws' a b → AreasHold k h ws a → AreasHold k h' ws' b
  areas_on h h' ws ws' a b g r = record {
    last = λ first end own. let high = r.last first end (g.own first end own) in let top = g.top in omega arith;
    decided = λ first end i stage root u own low high named un. ⊎_elim
        (λ same. let d = r.decided first end i stage root u (g.own first end own) low high (named.0, ap head_bits (sym same) ∙ named.1) (g.undecided u un) in g.drafts i u d.0 d.1 d.2 un)
        (λ new. let t = new.1 stage root u named in (t.0, t.1, t.2)) (g.heads first end i own low high);
    output = λ first end i stage root u from count own low high named is. ⊎_elim
        (λ same. let old : NamesUnit ws i stage root u = (named.0, ap head_bits (sym same) ∙ named.1) in let mine = g.own first end own in ⊎_elim
        (λ was. r.output first end i stage root u from count mine low high old was)
        (λ now. let d = r.decided first end i stage root u mine low high old now.1 in now.0 d.0 d.1 d.2) (g.committed i u from count is))
        (λ new. absurd ((new.1 stage root u named).3 from count is)) (g.heads first end i own low high);
    cleared = λ first end i own away low high. ⊎_elim
        (λ same. ⊎_elim (λ some. inl (λ none. some (sym same ∙ none))) (λ t. let from = t.0 in let to = t.1 in let same_from = g.passed.0 in let same_to = g.passed.1 in inr (omega arith, omega arith))
        (r.cleared first end i (g.own first end own) (λ at. away (at ∙ sym g.top)) low high))
        (λ new. inl new.0) (g.heads first end i own low high);
    headed = λ first end i e x own low high p made past. ⊎_elim
        (λ old. ⊎_elim (λ same z. r.headed first end i e x (g.own first end own) low high old made past (sym same ∙ z)) (λ new. new.0) (g.heads first end i own low high))
        (λ now. now) (g.made first end i e x own low high p made past);
  }

  -- of a pass whose rows are as they were, and which itself is, but for its trace
  pub areas_kept : (h h' : List Event) (ws ws' : List ℕ) (a : Hand) → ((u : ℕ) → end_of h' u ≡ None → end_of h u ≡ None)
      → ((i u from count : ℕ) → end_of h' u ≡ Some (Committed from count) → (end_of h u ≡ Some (Committed from count)) ⊎ ((a.first_draft ≤ i → i < a.next → a.open_unit ≡ Some u → (from ≤ i) × (i < from + count)) × (end_of h u ≡ None))) → AreSame a ws ws' → AreasHold k h ws a → AreasHold k h' ws' a
  areas_kept h h' ws ws' a undecided committed same r = areas_on h h' ws ws' a a (record {
    own = λ first end own. own;
    top = refl;
    passed = (refl, refl);
    heads = λ first end i own low high. inl (same first end i own low high).0;
    undecided = undecided;
    committed = committed;
    drafts = λ i u low high is _. (low, high, is);
    made = λ first end i e x own low high p made past. inl p;
  }) r

  -- its heads there are as they were
  abbrev pub SameHeads : Hand → List ℕ → List ℕ → Type 0
  SameHeads a ws ws' = (first end i : ℕ) → IsOwnArea k a.number a.blocks first end → first ≤ i → i < end → get_or ws' (head_place i) 0 ≡ get_or ws (head_place i) 0

  -- of a pass that made nothing new
  pub areas_event : (h h' : List Event) (ws ws' : List ℕ) (a b : Hand) → ((u from count : ℕ) → end_of h' u ≡ Some (Committed from count) → end_of h u ≡ Some (Committed from count)) → ((first end : ℕ) → IsOwnArea k b.number b.blocks first end → IsOwnArea k a.number a.blocks first end) → b.next + b.left ≡ a.next + a.left → (b.passed_from ≡ a.passed_from) × (b.passed_to ≡ a.passed_to)
      → SameHeads a ws ws' → ((u : ℕ) → end_of h' u ≡ None → end_of h u ≡ None)
      → ((i u : ℕ) → a.first_draft ≤ i → i < a.next → a.open_unit ≡ Some u → end_of h' u ≡ None → (b.first_draft ≤ i) × (i < b.next) × (b.open_unit ≡ Some u))
      → ((d : Event) (x : Element) → In d b.mine → In x (births d) → In d a.mine) → AreasHold k h ws a → AreasHold k h' ws' b
  areas_event h h' ws ws' a b committed own top passed same undecided drafts made r = areas_on h h' ws ws' a b (record {
    own = own;
    top = top;
    passed = passed;
    heads = λ first end i o low high. inl (same first end i (own first end o) low high);
    undecided = undecided;
    committed = λ i u from count is. inl (committed u from count is);
    drafts = drafts;
    made = λ first end i d x o low high p is past. inl (made d x p is);
  }) r

-- what a pass made before an event without births is all that it made
pub made_before : (mine : List Event) (e : Event) → births e ≡ [] → (d : Event) (x : Element) → In d (mine ++ e ∷ []) → In x (births d) → In d mine
made_before mine e none d x p made = ⊎_elim (λ q. q) (λ q. absurd (in_none (subst (In x) none (subst (λ z. In x (births z)) (in_one q) made)))) (in_either mine (e ∷ []) p)
