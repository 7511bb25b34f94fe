-- The rows of parts and of spare blocks, and who may use them.
use Rattle.std.proofs.Common.{◌≡◌, ℕ, suc, ◌+◌, ◌*◌, ◌<◌, ◌≤◌, List, [], ◌∷◌, ◌++◌, refl, sym, ◌∙◌, ap, subst, inl, inr, ⊎_elim, arith, suc-mul, mul-le-mul_right}
use mathlib.Core.List.{IsPrefix}
use Rattle.tp_model.specs.declared.types.Element.{Element}
use Rattle.tp_model.specs.declared.types.Limits.{Limits}
use Rattle.tp_model.specs.declared.event.Event.{Event}
use Rattle.tp_model.specs.History.{In, births, pass_of}
use Rattle.tp_model.specs.Passes.{Ascend, IsOwnArea, IsRun}
use Rattle.tp_model.specs.Steps.{IsArea, IsBlockFor, IsLegal, IsPart, IsRowOf, IsRowOfBlock, MayUse, Step, part_rows, rows_of}
use Rattle.tp_model.proofs.Blocks.{blocks_apart}
use Rattle.tp_model.proofs.Bridges.{births_of, in_cons, in_either, in_left, in_none, in_one}
use Rattle.tp_model.proofs.Histories.{by_steps}

-- numbers that ascend

pub ascend_in : (low high : ℕ) (ns : List ℕ) (n : ℕ) → Ascend low high ns → In n ns → (low ≤ n) × (n < high)
ascend_in low high [] n up p = absurd (in_none p)
ascend_in low high (m ∷ ns) n up p =
    let from : low ≤ m = up.0 in let to : m < high = up.1 in
    ⊎_elim (λ same. (omega arith, omega arith)) (λ q. let t = ascend_in (m + 1) high ns n up.2 q in let past = t.0 in (omega arith, t.1)) (in_cons p)

pub ascend_wider : (low high higher : ℕ) (ns : List ℕ) → high ≤ higher → Ascend low high ns → Ascend low higher ns
ascend_wider low high higher [] more up = tt
ascend_wider low high higher (m ∷ ns) more up = let to : m < high = up.1 in (up.0, omega arith, ascend_wider (m + 1) high higher ns more up.2)

pub ascend_more : (low n : ℕ) (ns : List ℕ) → low ≤ n → Ascend low n ns → Ascend low (n + 1) (ns ++ n ∷ [])
ascend_more low n [] from up = (from, omega arith, tt)
ascend_more low n (m ∷ ns) from up = let to : m < n = up.1 in (up.0, omega arith, ascend_more (m + 1) n ns (omega arith) up.2)

module _ (l : Limits) where
  -- where rows are

  pub part_inside : (c i : ℕ) → IsRowOf l c i → i < part_rows l
  part_inside c i row =
      let below : c < l.parts = row.0 in
      let last : i < c * l.rows + l.rows = row.2 in
      let all : suc c * l.rows ≤ l.parts * l.rows = mul-le-mul_right l.rows below in
      omega (arith, suc-mul c l.rows)

  pub block_inside : (b i : ℕ) → IsRowOfBlock l b i → (part_rows l ≤ i) × (i < rows_of l)
  block_inside b i row = let below = row.0 in let low = row.1 in let high = row.2 in (omega arith, omega arith)

  pub use_inside : (h : List Event) (c i : ℕ) → MayUse l h c i → i < rows_of l
  use_inside h c i may = ⊎_elim (λ row. let inside = part_inside c i row in omega arith) (λ t. (block_inside t.1 i t.2).1) may

  -- no row is of two blocks
  pub one_block : (b d i : ℕ) → IsRowOfBlock l b i → IsRowOfBlock l d i → b ≡ d
  one_block b d i first second = let low = first.1 in let high = first.2 in let low' = second.1 in let high' = second.2 in omega arith

  -- a row of a part is its pass's alone
  pub part_alone : (h : List Event) (c d i : ℕ) → IsRowOf l c i → MayUse l h d i → d ≡ c
  part_alone h c d i row may = ⊎_elim (λ other. blocks_apart l.rows d c i other.1 other.2 row.1 row.2)
      (λ t. absurd (let inside = part_inside c i row in let behind = (block_inside t.1 i t.2).0 in omega arith)) may

  -- areas

  pub own_area : (c : ℕ) (blocks : List ℕ) (first end : ℕ) → IsOwnArea l c blocks first end → IsArea l first end
  own_area c blocks first end own = ⊎_elim (λ part. inl (c, part)) (λ t. inr (t.0, t.2)) own

  pub area_inside : (first end : ℕ) → IsArea l first end → end ≤ rows_of l
  area_inside first end area = ⊎_elim
      (λ t. let below : t.0 < l.parts = t.1.0 in let at : end ≡ t.0 * l.rows + l.rows = t.1.2 in let all : suc t.0 * l.rows ≤ l.parts * l.rows = mul-le-mul_right l.rows below in omega (arith, suc-mul t.0 l.rows))
      (λ t. let below = t.1.0 in let at = t.1.2 in omega arith) area

  row_of_part : (c first end i : ℕ) → IsPart l c first end → first ≤ i → i < end → IsRowOf l c i
  row_of_part c first end i part low high = (part.0, subst (λ z. z ≤ i) part.1 low, subst (λ z. i < z) part.2 high)

  -- no row is of two areas
  pub one_area : (first end first' end' i : ℕ) → IsArea l first end → IsArea l first' end' → first ≤ i → i < end → first' ≤ i → i < end' → (first ≡ first') × (end ≡ end')
  one_area first end first' end' i area area' low high low' high' = ⊎_elim
      (λ s. ⊎_elim
      (λ t. let a = row_of_part s.0 first end i s.1 low high in let b = row_of_part t.0 first' end' i t.1 low' high' in let same : s.0 ≡ t.0 = blocks_apart l.rows s.0 t.0 i a.1 a.2 b.1 b.2 in
      (s.1.1 ∙ (ap (λ z. z * l.rows) same ∙ sym t.1.1), s.1.2 ∙ (ap (λ z. z * l.rows + l.rows) same ∙ sym t.1.2)))
      (λ t. absurd (let inside = part_inside s.0 i (row_of_part s.0 first end i s.1 low high) in let at = t.1.1 in omega arith)) area')
      (λ s. ⊎_elim
      (λ t. absurd (let inside = part_inside t.0 i (row_of_part t.0 first' end' i t.1 low' high') in let at = s.1.1 in omega arith))
      (λ t. let from = s.1.1 in let to = s.1.2 in let from' = t.1.1 in let to' = t.1.2 in let same : s.0 ≡ t.0 = omega arith in (omega arith, omega arith)) area') area

  -- who made what is born in a block

  pub block_before : (h g : List Event) (c b : ℕ) → IsPrefix h g → IsBlockFor l g c b → IsBlockFor l h c b
  block_before h g c b begins all e x there_is = all e x (subst (λ z. In e z) begins.1 (in_left begins.0 there_is))

  pub block_after : (h : List Event) (e : Event) (c b : ℕ) → IsBlockFor l h c b → ((x : Element) → In x (births e) → IsRowOfBlock l b x.id → pass_of e ≡ c) → IsBlockFor l (h ++ e ∷ []) c b
  block_after h e c b old new d x there_is made row = ⊎_elim (λ p. old d x p made row)
      (λ p. let same : d ≡ e = in_one p in ap pass_of same ∙ new x (subst (λ z. In x (births z)) same made) row) (in_either h (e ∷ []) there_is)
