-- Where an element may be born yet: behind an empty head and behind a draft of an undecided unit its pass made nothing.
use Rattle.std.proofs.Common.{◌≡◌, ◌≢◌, ℕ, zero, suc, ◌+◌, ◌-◌, ◌*◌, ◌/◌, ◌<◌, ◌≤◌, List, get_or, sym, ◌∙◌, subst, inl, inr, ⊎_elim, arith, Some, None, refl, mul-zero}
use mathlib.Core.Logic.{dite}
use native.Mathlib.Decide.{dec_le}
use Rattle.tp_model.specs.declared.event.Event.{Event}
use Rattle.tp_model.specs.declared.types.Element.{Element}
use Rattle.tp_model.specs.declared.types.Limits.{Limits}
use Rattle.tp_model.specs.History.{Committed, In, births, end_of}
use Rattle.tp_model.specs.Passes.{IsOwnArea}
use Rattle.tp_model.specs.Steps.{IsArea, block_first, part_rows, rows_of}
use Rattle.tp_model.proofs.Areas.{area_inside, one_area, own_area}
use Rattle.tp_model.proofs.Bridges.{births_of}
use Rattle.tp_rule.proofs.PlaceLemmas.{block_area, part_area}
use Rattle.tp_rule.specs.Places.{head_place}
use Rattle.tp_rule.specs.declared.packing.Head.TheVariants.{Filled}
use Rattle.tp_rule.specs.Rule.{AtSeat, HandHolds, NamesUnit, Rule, StillSo, drawn_in}
use Rattle.tp_rule.specs.Steps.{IsAreaBy, Made, MayBeBorn}
use Rattle.tp_rule.specs.declared.view.Hand.{Hand}
use Rattle.tp_rule.specs.declared.view.Known.TheVariants.{RowHead}
use Rattle.tp_rule.proofs.Owning.{S, in_own, made_by, stepped}
use Rattle.tp_rule.proofs.Storing.{has_full}
use Rattle.tp_rule.proofs.Tellings.{none_behind}

-- each row is in an area
row_area : (k : Limits) (i : ℕ) → i < rows_of k → (first : ℕ) × (end : ℕ) × IsArea k first end × (first ≤ i) × (i < end)
row_area k i there = dite (dec_le (part_rows k) i)
    (λ spare. let t = block_area k i (part_rows k) refl there spare in (t.0, part_rows k + ((i - part_rows k) / 8 + 1) * 8, t.1, t.2, t.3))
    (λ part. let t = part_area k i (has_rows k.rows k.parts i (omega arith)) (omega arith) in (t.0, (i / k.rows + 1) * k.rows, t.1, t.2, t.3))
  where
    has_rows : (rows parts i : ℕ) → i < parts * rows → 1 ≤ rows
    has_rows zero parts i less = absurd (omega (arith, mul-zero parts))
    has_rows (suc rows) parts i less = omega arith

module _ (k : Limits) (s : S) (r : Rule k s) where
  abbrev h : List Event
  h = r.history

  -- a pass is as the rule has it
  abbrev Hold : Hand → Type 0
  Hold a = HandHolds k h s.words a

  holds_at : (P : Hand → Type 0) → AtSeat P s.views → (a : Hand) × P a × Hold a
  holds_at P t = (t.2, t.5, (r.seats t.0 t.1 t.3).hands t.2 t.4)

  -- the pass that made an element is one of them
  maker : (c : ℕ) (x : Element) → Made h c x → (a : Hand) × (a.number ≡ c) × Hold a
  maker c x m = holds_at (λ (a : Hand). a.number ≡ c) (r.complete c (subst (λ d. d < k.parts) m.2 (made_by k h m.0 x r.world.legal m.1 m.3)))

  -- its own event is among those that it remembers
  its_own : (a : Hand) (x : Element) → Hold a → (m : Made h a.number x) → In m.0 a.mine
  its_own a x hold m = subst (In m.0) (sym hold.mine) (in_own h a.number m.0 m.1 m.2)

  -- what is seen to be an area of a pass is its own
  its_area : (a : Hand) (first end : ℕ) → Hold a → IsAreaBy k h a.number first end → IsOwnArea k a.number a.blocks first end
  its_area a first end hold by = ⊎_elim (λ part. inl part)
      (λ t. let low = subst (λ z. z ≤ t.2.id) t.1.1 t.4 in let high = subst (λ z. t.2.id < z) t.1.2 t.5 in inr (t.0, hold.spares t.3.0 t.2 t.0 (its_own a t.2 hold t.3) t.3.3 (t.1.0, low, high), t.1)) by

  -- and so is that of each element that it made
  pub its_row : (a : Hand) (x : Element) → Hold a → (m : Made h a.number x) → (first : ℕ) × (end : ℕ) × IsOwnArea k a.number a.blocks first end × (x.id < end)
  its_row a x hold m = let t = stepped k h m.0 r.world.legal m.1 in ⊎_elim
      (λ row. (a.number * k.rows, a.number * k.rows + k.rows, inl (hold.given, refl, refl), subst (λ d. x.id < d * k.rows + k.rows) m.2 row.2))
      (λ u. (block_first k u.1, block_first k u.1 + 8, inr (u.1, hold.spares m.0 x u.1 (its_own a x hold m) m.3 u.2, (u.2.0, refl, refl)), u.2.2))
      (births_of k t.0 m.0 x t.1 m.3).0

  -- where no element of a pass is behind an area of its, none of the pass whose area it is seen to be is
  last_of : (i : ℕ) → ((a : Hand) (first end : ℕ) (e : Event) (x : Element) → Hold a → IsOwnArea k a.number a.blocks first end → first ≤ i → i < end → Made h a.number x → In e a.mine → In x (births e) → x.id < end)
      → (c first end : ℕ) (x : Element) → IsAreaBy k h c first end → first ≤ i → i < end → Made h c x → x.id < end
  last_of i last c first end x by low high m = let t = maker c x m in let a : Hand = t.0 in let is = t.1 in let own : Made h a.number x = subst (λ d. Made h d x) (sym is) m in
      last a first end own.0 x t.2 (its_area a first end t.2 (subst (λ d. IsAreaBy k h d first end) (sym is) by)) low high own (its_own a x t.2 own) own.3

  -- a row with an empty head
  pub ahead_empty : (i : ℕ) → get_or s.words (head_place i) 0 ≡ 0 → MayBeBorn k h i
  ahead_empty i nothing = record {
    none = λ first end j area low later high. none_behind k h s.words r.world first end i j area low later high nothing;
    last = last_of i (λ a first end e x hold own low high m p made. dite (dec_le end x.id) (λ past. absurd (hold.areas.headed first end i e x own low high p made past nothing)) (λ not. omega arith));
  }

  module _ (i stage root u : ℕ) (named : NamesUnit s.words i stage root u) where
    full : get_or s.words (head_place i) 0 ≢ 0
    full = has_full s.words i (Filled stage root (Some u)) (λ e. cc) named.1

    -- a pass has the area of the row
    its_pass : (first end : ℕ) → IsArea k first end → first ≤ i → i < end → (a : Hand) × Hold a × IsOwnArea k a.number a.blocks first end
    its_pass first end area low high = ⊎_elim
        (λ t. let p = holds_at (λ (a : Hand). a.number ≡ t.0) (r.complete t.0 t.1.0) in (p.0, p.2, inl (subst (λ c. (c < k.parts) × (first ≡ c * k.rows) × (end ≡ c * k.rows + k.rows)) (sym p.1) t.1)))
        (λ t. dite (dec_le (drawn_in k s.words) t.0)
        (λ bare. let top = area_inside k first end area in let at = t.1.1 in absurd (full (r.world.bare i (omega arith) (omega arith))))
        (λ not. let p = holds_at (λ (a : Hand). In t.0 a.blocks) (r.drawers t.0 (omega arith)) in (p.0, p.2, inr (t.0, p.1, t.1)))) area

    -- an output of a committed unit
    output_of : i < rows_of k → (from count : ℕ) → end_of h u ≡ Some (Committed from count) → (from ≤ i) × (i < from + count)
    output_of there from count is = let area = row_area k i there in let p = its_pass area.0 area.1 area.2 area.3 area.4 in
        p.1.areas.output area.0 area.1 i stage root u from count p.2 area.3 area.4 named is

    module _ (undecided : end_of h u ≡ None) where
      -- the area of the row is the last of its pass's, and ends with its run
      run_end : (a : Hand) (first end : ℕ) → Hold a → IsOwnArea k a.number a.blocks first end → first ≤ i → i < end → (end ≡ a.next + a.left) × (a.first_draft ≤ i)
      run_end a first end hold own low high = let d = hold.areas.decided first end i stage root u own low high named undecided in let from = d.0 in let to = d.1 in let begins = hold.rows.begins in let ends = hold.rows.ends in
          let same = one_area k first end hold.first hold.end i (own_area k a.number a.blocks first end own) (own_area k a.number a.blocks hold.first hold.end hold.area) low high (omega arith) (omega arith) in (same.1 ∙ sym ends, from)

      -- a draft of an undecided unit
      ahead_draft : MayBeBorn k h i
      ahead_draft = record {
        none = λ first end j area low later high. let p = its_pass first end area low (omega arith) in let e = run_end p.0 first end p.1 p.2 low (omega arith) in let top = e.0 in let from = e.1 in
            p.1.rows.unborn j (omega arith) (omega arith);
        last = last_of i (λ a first end e x hold own low high m p made. let top = (run_end a first end hold own low high).0 in let at = its_row a x hold m in let most = hold.areas.last at.0 at.1 at.2 in let below = at.3 in omega arith);
      }

  -- a row whose head is known
  module _ (i stage root u : ℕ) (still : StillSo k s.words (RowHead i (Filled stage root (Some u)))) where
    named_by : NamesUnit s.words i stage root u
    named_by = (still.1, still.2 (λ e. cc))

    pub ahead : end_of h u ≡ None → MayBeBorn k h i
    ahead undecided = ahead_draft i stage root u named_by undecided

    pub output : (from count : ℕ) → end_of h u ≡ Some (Committed from count) → (from ≤ i) × (i < from + count)
    output from count is = output_of i stage root u named_by still.0 from count is
