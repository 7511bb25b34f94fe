-- Which rows are whose: no row is of two passes' areas, and what is born in a block of a pass is that pass's.
use Rattle.std.proofs.Common.{◌≡◌, ℕ, suc, ◌+◌, ◌*◌, ◌<◌, ◌≤◌, ◌==◌, List, [], ◌∷◌, ◌++◌, sym, ap, ◌∙◌, subst, inl, inr, ⊎_elim, arith, suc-mul, mul-le-mul_right, Some, None}
use Rattle.std.proofs.lemmas.Bool.Decides.{eqb_tells}
use Rattle.std.proofs.lemmas.List.Folds.{find-append}
use Rattle.std.specs.List.{find}
use mathlib.Core.List.{IsPrefix}
use mathlib.Core.Option.{some}
use lib.ListN.{get_elem?}
use Rattle.atomic_table.specs.Table.{State}
use Rattle.tp_model.specs.declared.event.Event.{Event}
use Rattle.tp_model.specs.declared.types.Element.{Element}
use Rattle.tp_model.specs.declared.types.Limits.{Limits}
use Rattle.tp_model.specs.History.{In, there, IsUnborn, births, born, element_of, events_by, pass_of}
use Rattle.tp_model.specs.Passes.{Ascend, IsOwnArea, IsRun}
use Rattle.tp_model.specs.Steps.{IsBlock, IsBlockFor, IsLegal, IsPart, IsRowOf, IsRowOfBlock, MayUse, Step, block_first, rows_of}
use Rattle.tp_model.proofs.Areas.{area_inside, ascend_in, ascend_wider, block_after, block_inside, one_block, own_area, part_inside}
use Rattle.tp_model.proofs.Blocks.{blocks_apart}
use Rattle.tp_model.proofs.Bridges.{births_of, born_at, born_or_not, found_later, in_cons, in_here, in_none}
use Rattle.tp_model.proofs.Lists.{if_other, if_same, option_or-none}
use Rattle.tp_rule.specs.Rule.{HandHolds, Owners, Rule, drawn_in}
use Rattle.tp_rule.specs.declared.view.Hand.{Hand}
use Rattle.tp_rule.specs.declared.view.View.{View}

abbrev pub S : Type 0
S = State (Unit {0}) View

-- an event of a history, and those before and after it
split_at : (h : List Event) (e : Event) → In e h → (before : List Event) × (after : List Event) × (before ++ e ∷ after ≡ h)
split_at [] e p = absurd (in_none p)
split_at (d ∷ h) e p = ⊎_elim (λ same. ([], h, ap (λ z. z ∷ h) same)) (λ q. let t = split_at h e q in (d ∷ t.0, t.1, ap (λ z. d ∷ z) t.2)) (in_cons p)

-- each event of a legal history came where it might
pub stepped : (l : Limits) (h : List Event) (e : Event) → IsLegal l h → In e h → (before : List Event) × Step l before e
stepped l h e legal p = let t = split_at h e p in (t.0, legal.each t.0 e t.1 t.2)

-- it is among those of its pass
pub in_own : (h : List Event) (c : ℕ) (e : Event) → In e h → pass_of e ≡ c → In e (events_by c h)
in_own [] c e p is = absurd (in_none p)
in_own (d ∷ h) c e p is =
    elim (eqb_tells (pass_of d) c) [
      | inl q ↦ subst (In e) (sym (if_same (pass_of d) c (d ∷ events_by c h) (events_by c h) q.1)) (⊎_elim (λ same. in_here (events_by c h) same) (λ r. there (in_own h c e r is)) (in_cons p))
      | inr q ↦ subst (In e) (sym (if_other (pass_of d) c (d ∷ events_by c h) (events_by c h) q.1)) (⊎_elim (λ same. absurd (q.1 (ap pass_of (sym same) ∙ is))) (λ r. in_own h c e r is) (in_cons p))
    ]

-- what is among those of a pass is one of its
pub own_in : (h : List Event) (c : ℕ) (e : Event) → In e (events_by c h) → In e h × (pass_of e ≡ c)
own_in [] c e p = absurd (in_none p)
own_in (d ∷ h) c e p =
    elim (eqb_tells (pass_of d) c) [
      | inl q ↦ ⊎_elim (λ same. (in_here h same, ap pass_of same ∙ q.1)) (λ r. let t = own_in h c e r in (there t.0, t.1)) (in_cons (subst (In e) (if_same (pass_of d) c (d ∷ events_by c h) (events_by c h) q.1) p))
      | inr q ↦ let t = own_in h c e (subst (In e) (if_other (pass_of d) c (d ∷ events_by c h) (events_by c h) q.1) p) in (there t.0, t.1)
    ]

-- who makes an element is one of the passes
pub made_by : (l : Limits) (h : List Event) (e : Event) (x : Element) → IsLegal l h → In e h → In x (births e) → pass_of e < l.parts
made_by l h e x legal p made = let t = stepped l h e legal p in ⊎_elim (λ row. row.0) (λ u. u.0) (births_of l t.0 e x t.1 made).0

-- what an event made is born
made_born : (h : List Event) (e : Event) (x : Element) → In e h → In x (births e) → IsUnborn h x.id → ⊥
made_born [] e x p made none = in_none p
made_born (d ∷ h) e x p made none = let t = option_or-none (find (λ (y : Element). y.id == x.id) (births d)) (element_of h x.id) (sym (find-append (λ (y : Element). y.id == x.id) (births d) (born h)) ∙ none) in
    ⊎_elim (λ same. is_there (births d) (subst (λ z. In x (births z)) same made) t.0) (λ q. made_born h e x q made t.1) (in_cons p)
  where
    is_there : (xs : List Element) → In x xs → find (λ (y : Element). y.id == x.id) xs ≡ None → ⊥
    is_there [] q is = in_none q
    is_there (y ∷ ys) q is =
        elim (eqb_tells y.id x.id) [
          | inl s ↦ (let z : Some y ≡ None = sym (if_same y.id x.id (Some y) (find (λ (z : Element). z.id == x.id) ys) s.1) ∙ is in absurd cc)
          | inr s ↦ ⊎_elim (λ same. s.1 (ap (λ (z : Element). z.id) (sym same))) (λ r. is_there ys r (sym (if_other y.id x.id (Some y) (find (λ (z : Element). z.id == x.id) ys) s.1) ∙ is)) (in_cons q)
        ]

-- what isn't born later isn't born before
pub unborn_earlier : (h g : List Event) (i : ℕ) → IsPrefix h g → IsUnborn g i → IsUnborn h i
unborn_earlier h g i begins none = ⊎_elim (λ t. let p = found_later h g begins i t.0 (born_at h i t.0 t.1 t.2) in let q : Some t.0 ≡ None = sym p ∙ none in absurd cc) (λ un. un) (born_or_not h i)

module _ (k : Limits) where
  -- what is born in each block that the pass has drawn is its own
  abbrev pub AreBlocksFor : List Event → Hand → Type 0
  AreBlocksFor h a = (b : ℕ) → In b a.blocks → IsBlockFor k h a.number b

  -- the blocks of the pass are its alone
  abbrev pub IsDrawer : Owners → Hand → Type 0
  IsDrawer owner a = (b : ℕ) → In b a.blocks → owner.drawer b ≡ a.number

  in_part : (c first end i : ℕ) → IsPart k c first end → first ≤ i → i < end → IsRowOf k c i
  in_part c first end i part low high = (part.0, subst (λ z. z ≤ i) part.1 low, subst (λ z. i < z) part.2 high)

  in_block : (b first end i : ℕ) → IsBlock k b first end → first ≤ i → i < end → IsRowOfBlock k b i
  in_block b first end i block low high = (block.0, subst (λ z. z ≤ i) block.1 low, subst (λ z. i < z) block.2 high)

  -- a row of areas of two passes is of one pass
  pub own_apart : (owner : Owners) (a b : Hand) (first end first' end' i : ℕ) → IsDrawer owner a → IsDrawer owner b → IsOwnArea k a.number a.blocks first end → IsOwnArea k b.number b.blocks first' end'
      → first ≤ i → i < end → first' ≤ i → i < end' → a.number ≡ b.number
  own_apart owner a b first end first' end' i mine theirs own own' low high low' high' = ⊎_elim
      (λ s. let r = in_part a.number first end i s low high in ⊎_elim
      (λ t. let q = in_part b.number first' end' i t low' high' in blocks_apart k.rows a.number b.number i r.1 r.2 q.1 q.2)
      (λ t. absurd (let inside = part_inside k a.number i r in let behind = (block_inside k t.0 i (in_block t.0 first' end' i t.2 low' high')).0 in omega arith)) own')
      (λ s. let r = in_block s.0 first end i s.2 low high in ⊎_elim
      (λ t. absurd (let inside = part_inside k b.number i (in_part b.number first' end' i t low' high') in let behind = (block_inside k s.0 i r).0 in omega arith))
      (λ t. let same = one_block k s.0 t.0 i r (in_block t.0 first' end' i t.2 low' high') in sym (mine s.0 s.1) ∙ (ap owner.drawer same ∙ theirs t.0 t.1)) own') own

  -- a pass may use the rows of its areas
  pub own_may : (h : List Event) (a : Hand) (first end i : ℕ) → a.number < k.parts → AreBlocksFor h a → IsOwnArea k a.number a.blocks first end → first ≤ i → i < end → MayUse k h a.number i
  own_may h a first end i given for own low high = ⊎_elim
      (λ s. inl (in_part a.number first end i s low high))
      (λ s. inr (given, s.0, in_block s.0 first end i s.2 low high, for s.0 s.1)) own

  -- and a spare row of them is in a block that it has drawn
  pub own_spares : (c : ℕ) (blocks : List ℕ) (first end i b : ℕ) → IsOwnArea k c blocks first end → first ≤ i → i < end → IsRowOfBlock k b i → In b blocks
  own_spares c blocks first end i b own low high row = ⊎_elim
      (λ s. absurd (let inside = part_inside k c i (in_part c first end i s low high) in let behind = (block_inside k b i row).0 in omega arith))
      (λ s. subst (λ z. In z blocks) (one_block k s.0 b i (in_block s.0 first end i s.2 low high) row) s.1) own

  pub own_inside : (c : ℕ) (blocks : List ℕ) (first end : ℕ) → IsOwnArea k c blocks first end → end ≤ rows_of k
  own_inside c blocks first end own = area_inside k first end (own_area k c blocks first end own)

  -- an area of a pass is drawn
  pub own_drawn : (c n : ℕ) (blocks : List ℕ) (first end : ℕ) → Ascend 0 n blocks → IsOwnArea k c blocks first end → end ≤ block_first k n
  own_drawn c n blocks first end up own = ⊎_elim
      (λ s. let below : c < k.parts = s.0 in let at : end ≡ c * k.rows + k.rows = s.2 in let all : suc c * k.rows ≤ k.parts * k.rows = mul-le-mul_right k.rows below in omega (arith, suc-mul c k.rows))
      (λ s. let t = ascend_in 0 n blocks s.0 up s.1 in let below = t.1 in let at = s.2.2 in omega arith) own

  -- the rule has it that what is born in a block of a pass is its own
  pub blocks_for : (s : S) (r : Rule k s) (j : ℕ) (v : View) (a : Hand) → get_elem? s.views j ≡ some v → In a v.hands → AreBlocksFor r.history a
  blocks_for s r j v a at p b has e x there_is made row = let h = r.history in let t = r.complete (pass_of e) (made_by k h e x r.world.legal there_is made) in let seat = r.seats t.0 t.1 t.3 in let hold = seat.hands t.2 t.4 in
      let own : In e t.2.mine = subst (In e) (sym hold.mine) (in_own h t.2.number e there_is (sym t.5)) in
      sym t.5 ∙ (sym (seat.draws t.2 t.4 b (hold.spares e x b own made row)) ∙ (r.seats j v at).draws a p b has)

  -- the pass's own event leaves it so
  pub blocks_for_own : (h : List Event) (e : Event) (a : Hand) → pass_of e ≡ a.number → AreBlocksFor h a → AreBlocksFor (h ++ e ∷ []) a
  blocks_for_own h e a own for b has = block_after k h e a.number b (for b has) (λ x made row. own)

  -- the run of a pass that is as its seat knows it
  pub run_of : (h : List Event) (ws : List ℕ) (a : Hand) → drawn_in k ws ≤ k.spare → AreBlocksFor h a → HandHolds k h ws a → IsRun k h a.number a.blocks a.next a.left
  run_of h ws a top for r = let count = r.rows.counted in let low = r.rows.begins in let end = r.rows.ends in record {
    drawn = ascend_wider 0 (drawn_in k ws) k.spare a.blocks top r.blocks;
    first = r.first;
    end = r.end;
    own = r.area;
    begins = omega arith;
    ends = r.rows.ends;
    unborn = λ i l m. r.rows.unborn i (omega arith) m;
    usable = λ i l m. own_may h a r.first r.end i r.given for r.area (omega arith) (omega arith);
  }

  -- no block is born in that isn't drawn
  pub undrawn_for : (h : List Event) (c b : ℕ) → ((i : ℕ) → IsRowOfBlock k b i → IsUnborn h i) → IsBlockFor k h c b
  undrawn_for h c b none e x there_is made row = absurd (made_born h e x there_is made (none x.id row))
