-- What a store to one word leaves of the others.
use Rattle.std.proofs.Common.{◌≡◌, ◌≢◌, ◌⊎◌, inl, inr, ⊎_elim, ℕ, ◌+◌, ◌<◌, ◌≤◌, List, length, set, get_or, sym, refl, ap, ◌∙◌, subst, arith, get_or-set_other, get_or-set_same, Option, Some, None}
use mathlib.Core.Logic.{dite}
use native.Mathlib.Decide.{ℕ_discrete}
use Rattle.tp_model.specs.declared.types.Element.{Element}
use Rattle.tp_model.specs.declared.types.Limits.{Limits}
use Rattle.tp_model.specs.declared.types.TheConstants.{BODY_WORDS}
use Rattle.tp_model.specs.Steps.{IsArea, block_first, rows_of}
use Rattle.tp_rule.specs.Places.{Word, HeadWord, BodyWord, ClaimWord, UnitWord, MarkWord, DrawnWord, IsThere, head_place, body_place, mark_place, place_of, size_of}
use Rattle.tp_rule.specs.Words.{IsFitHead, head_bits, pack_head, tail_bits}
use Rattle.tp_rule.specs.declared.packing.Head.{Head}
use Rattle.tp_rule.specs.declared.packing.Head.TheVariants.{Empty, Void, Filled}
use Rattle.tp_rule.proofs.PlaceLemmas.{places_differ, places_inside}
use Rattle.tp_rule.specs.Rule.{HasHead, HasStage, HasTail, HaveStage, Holds, IsUnwritten, StillSo, drawn_in}
use Rattle.tp_rule.specs.declared.view.Known.{Known}
use Rattle.tp_rule.specs.declared.view.Known.TheVariants.{RowHead, RowTail, PartMark, MarkAbove, BlocksDrawn}

-- the row whose element the word is about, beside its claim
abbrev pub body_row : Word → Option ℕ
body_row (HeadWord i) = Some i
body_row (BodyWord i j) = Some i
body_row (ClaimWord i) = None
body_row (UnitWord u) = None
body_row (MarkWord s p) = None
body_row DrawnWord = None

-- the head and the body of row i are the same
abbrev pub SameRow : List ℕ → List ℕ → ℕ → Type 0
SameRow ws ws' i = (get_or ws' (head_place i) 0 ≡ get_or ws (head_place i) 0) × ((j : ℕ) → j < BODY_WORDS → get_or ws' (body_place i j) 0 ≡ get_or ws (body_place i j) 0)

pub holds_same : (ws ws' : List ℕ) (x : Element) → SameRow ws ws' x.id → Holds ws x → Holds ws' x
holds_same ws ws' x s h = let whole = h.2 in (ap head_bits s.0 ∙ h.0, λ j less. s.1 j (omega arith) ∙ h.1 j less, whole)

-- a head that isn't empty isn't packed as 0
pub full_head : (head : Head) → head ≢ Empty → pack_head head ≡ 0 → ⊥
full_head Empty some e = some refl
full_head Void some e = omega arith
full_head (Filled stage root by) some e = omega arith

-- nor is one that is there
pub has_full : (ws : List ℕ) (i : ℕ) (head : Head) → head ≢ Empty → HasHead ws i head → get_or ws (head_place i) 0 ≢ 0
has_full ws i head some is zero = full_head head some (sym is ∙ ap head_bits zero)

-- a head of a stage stays so, where it does if it isn't empty
pub stage_kept : (ws ws' : List ℕ) (stage i : ℕ) → (get_or ws (head_place i) 0 ≢ 0 → get_or ws' (head_place i) 0 ≡ get_or ws (head_place i) 0) → HasStage ws stage i → HasStage ws' stage i
stage_kept ws ws' stage i kept s = (s.0, s.1, s.2, ap head_bits (kept (has_full ws i (Filled stage s.0 s.1) (λ q. cc) s.3)) ∙ s.3)

-- and so do those right before a pass's next row
pub tail_same : (ws ws' : List ℕ) (first end next rest tail stage : ℕ) → next + rest ≡ end → ((i : ℕ) → first ≤ i → i < end → get_or ws' (head_place i) 0 ≡ get_or ws (head_place i) 0) → HasTail ws first next tail stage → HasTail ws' first next tail stage
tail_same ws ws' first end next rest tail stage top same old j low up = let t = old j low up in (t.0, stage_kept ws ws' stage j (λ _. same j t.0 (omega arith)) t.1)

-- the number x is a head of this stage
abbrev pub IsStageWord : ℕ → ℕ → Type 0
IsStageWord stage x = (root : ℕ) × (by : Option ℕ) × IsFitHead (Filled stage root by) × (head_bits x ≡ pack_head (Filled stage root by))

-- the rows of its run before row i have heads of the same
abbrev pub TailBefore : List ℕ → ℕ → ℕ → Type 0
TailBefore ws x i = (stage : ℕ) → IsStageWord stage x → (j : ℕ) → j < i → i ≤ j + tail_bits x → HasStage ws stage j

-- the head x of row i may be stored: none is there, those before it in its area aren't empty or it is void, and its row is
-- in no block that isn't drawn
pub record MayHead (l : Limits) (ws : List ℕ) (x i : ℕ) : Type 0 where
  pub empty : get_or ws (head_place i) 0 ≡ 0
  pub full : x ≢ pack_head Void → (first end j : ℕ) → IsArea l first end → first ≤ i → i < end → first ≤ j → j < i → get_or ws (head_place j) 0 ≢ 0
  pub drawn : i < block_first l (drawn_in l ws)
  pub tail : TailBefore ws x i

-- the head of row i is empty or void
abbrev pub IsBare : List ℕ → ℕ → Type 0
IsBare ws i = (get_or ws (head_place i) 0 ≡ 0) ⊎ (get_or ws (head_place i) 0 ≡ pack_head Void)

-- the number x may be stored at the word w: a head where it may be, no mark and no counter falls, and no word of a body is in
-- a block that isn't drawn
pub record MayStore (l : Limits) (ws : List ℕ) (w : Word) (x : ℕ) : Type 0 where
  pub head : (i : ℕ) → w ≡ HeadWord i → MayHead l ws x i
  pub mark : (s p : ℕ) → w ≡ MarkWord s p → get_or ws (mark_place l s p) 0 ≤ x
  pub count : w ≡ DrawnWord → (drawn_in l ws ≤ x) × (x ≤ l.spare)
  pub word : (i j : ℕ) → w ≡ BodyWord i j → i < block_first l (drawn_in l ws)

-- a claim and a unit's word may always be stored
pub may_claim : (l : Limits) (ws : List ℕ) (i x : ℕ) → MayStore l ws (ClaimWord i) x
may_claim l ws i x = record { head = λ j e. absurd cc; mark = λ s p e. absurd cc; count = λ e. absurd cc; word = λ j n e. absurd cc }

pub may_unit : (l : Limits) (ws : List ℕ) (u x : ℕ) → MayStore l ws (UnitWord u) x
may_unit l ws u x = record { head = λ j e. absurd cc; mark = λ s p e. absurd cc; count = λ e. absurd cc; word = λ j n e. absurd cc }

module _ (l : Limits) where
  -- two words are the same or not
  pub same_or_other : {P : Type 0} (v w : Word) → IsThere l v → IsThere l w → (v ≡ w → P) → (v ≢ w → P) → P
  same_or_other v w a b same other = dite (ℕ_discrete (place_of l v) (place_of l w)) (λ e. same (places_differ l v w a b e)) (λ n. other (λ e. n (ap (place_of l) e)))

  -- a store to the word w, of the number x
  module _ (ws : List ℕ) (w : Word) (x : ℕ) (at : IsThere l w) where
    -- leaves every other word
    pub left : (v : Word) → IsThere l v → v ≢ w → get_or (set ws (place_of l w) x) (place_of l v) 0 ≡ get_or ws (place_of l v) 0
    left v there other = get_or-set_other ws (place_of l w) (place_of l v) x 0 (λ e. other (places_differ l v w there at e))

    -- so a store that isn't to the counter of drawn blocks leaves that
    pub drawn_left : w ≢ DrawnWord → (b : ℕ) → b < drawn_in l (set ws (place_of l w) x) → b < drawn_in l ws
    drawn_left other b below = let same = left DrawnWord tt (λ e. other (sym e)) in omega arith

    pub stored : length ws ≡ size_of l → get_or (set ws (place_of l w) x) (place_of l w) 0 ≡ x
    stored wide = get_or-set_same ws (place_of l w) x 0 (subst (λ n. place_of l w < n) (sym wide) (places_inside l w at))

    -- and so every row of which w says nothing
    pub row_left : (i : ℕ) → i < rows_of l → body_row w ≢ Some i → SameRow ws (set ws (place_of l w) x) i
    row_left i there other = (
      left (HeadWord i) there (λ e. other (sym (ap body_row e))),
      λ j less. left (BodyWord i j) (there, less) (λ e. other (sym (ap body_row e))),
    )

    -- a head that isn't empty stays, if no head is stored but over an empty one
    pub heads_kept : ((i : ℕ) → w ≡ HeadWord i → get_or ws (head_place i) 0 ≡ 0) → (i : ℕ) → i < rows_of l → get_or ws (head_place i) 0 ≢ 0 → get_or (set ws (place_of l w) x) (head_place i) 0 ≡ get_or ws (head_place i) 0
    heads_kept empty i there some = same_or_other (HeadWord i) w there at (λ e. absurd (some (empty i (sym e)))) (λ other. left (HeadWord i) there other)

    module _ (wide : length ws ≡ size_of l) (may : MayStore l ws w x) where
      -- a head of a stage stays so
      pub stage_left : (stage i : ℕ) → i < rows_of l → HasStage ws stage i → HasStage (set ws (place_of l w) x) stage i
      stage_left stage i there s = stage_kept ws (set ws (place_of l w) x) stage i (heads_kept (λ j e. (may.head j e).empty) i there) s

      -- and so do those of each head's run
      pub tails_after : ((i stage : ℕ) → i < rows_of l → HasStage ws stage i → HaveStage ws stage i (tail_bits (get_or ws (head_place i) 0)))
          → (i stage : ℕ) → i < rows_of l → HasStage (set ws (place_of l w) x) stage i → HaveStage (set ws (place_of l w) x) stage i (tail_bits (get_or (set ws (place_of l w) x) (head_place i) 0))
      tails_after old i stage there s j low up = same_or_other (HeadWord i) w there at
          (λ e. let now : get_or (set ws (place_of l w) x) (head_place i) 0 ≡ x = ap (λ z. get_or (set ws (place_of l w) x) (place_of l z) 0) e ∙ stored wide in dite (ℕ_discrete j i)
          (λ same. subst (HasStage (set ws (place_of l w) x) stage) (sym same) s)
          (λ apart. stage_left stage j (omega arith) ((may.head i (sym e)).tail stage (s.0, s.1, s.2, ap head_bits (sym now) ∙ s.3) j (omega arith) (subst (λ z. i ≤ j + tail_bits z) now up))))
          (λ other. let same = left (HeadWord i) there other in
          stage_left stage j (omega arith) (old i stage there (s.0, s.1, s.2, ap head_bits (sym same) ∙ s.3) j low (subst (λ z. i ≤ j + tail_bits z) same up)))

      -- the counter of drawn blocks doesn't fall, nor rise above the number of blocks
      pub drawn_rises : drawn_in l ws ≤ drawn_in l (set ws (place_of l w) x)
      drawn_rises = same_or_other DrawnWord w tt at
          (λ e. let up = (may.count (sym e)).0 in let now : drawn_in l (set ws (place_of l w) x) ≡ x = ap (λ z. get_or (set ws (place_of l w) x) (place_of l z) 0) e ∙ stored wide in omega arith)
          (λ other. let same = left DrawnWord tt other in omega arith)

      pub drawn_inside : drawn_in l ws ≤ l.spare → drawn_in l (set ws (place_of l w) x) ≤ l.spare
      drawn_inside inside = same_or_other DrawnWord w tt at
          (λ e. let top = (may.count (sym e)).1 in let now : drawn_in l (set ws (place_of l w) x) ≡ x = ap (λ z. get_or (set ws (place_of l w) x) (place_of l z) 0) e ∙ stored wide in omega arith)
          (λ other. let same = left DrawnWord tt other in omega arith)

      -- what was found in words that stay or rise is still so
      pub still_left : (known : Known) → StillSo l ws known → StillSo l (set ws (place_of l w) x) known
      still_left (RowHead i head) t = (t.0, t.1, λ some. ap head_bits (heads_kept (λ j e. (may.head j e).empty) i t.0 (has_full ws i head some (t.2 some))) ∙ t.2 some)
      still_left (RowTail i stage run) t = let there = t.0 in (there, λ j low up. stage_left stage j (omega arith) (t.1 j low up))
      still_left (PartMark s p n) t = let low : n ≤ get_or ws (mark_place l s p) 0 = t.1 in (
        t.0,
        same_or_other (MarkWord s p) w t.0 at
            (λ e. let up = may.mark s p (sym e) in let now : get_or (set ws (place_of l w) x) (mark_place l s p) 0 ≡ x = ap (λ z. get_or (set ws (place_of l w) x) (place_of l z) 0) e ∙ stored wide in omega arith)
            (λ other. let same = left (MarkWord s p) t.0 other in omega arith),
      )
      still_left (MarkAbove s p n) t = let low : n < get_or ws (mark_place l s p) 0 = t.1 in (
        t.0,
        same_or_other (MarkWord s p) w t.0 at
            (λ e. let up = may.mark s p (sym e) in let now : get_or (set ws (place_of l w) x) (mark_place l s p) 0 ≡ x = ap (λ z. get_or (set ws (place_of l w) x) (place_of l z) 0) e ∙ stored wide in omega arith)
            (λ other. let same = left (MarkWord s p) t.0 other in omega arith),
      )
      still_left (BlocksDrawn n) t = let low : n ≤ drawn_in l ws = t in let up = drawn_rises in omega arith

      -- the rows of blocks that aren't drawn have empty heads
      pub bare_after : ((i : ℕ) → block_first l (drawn_in l ws) ≤ i → i < rows_of l → get_or ws (head_place i) 0 ≡ 0)
          → (i : ℕ) → block_first l (drawn_in l (set ws (place_of l w) x)) ≤ i → i < rows_of l → get_or (set ws (place_of l w) x) (head_place i) 0 ≡ 0
      bare_after bare i low there = let up = drawn_rises in same_or_other (HeadWord i) w there at
          (λ e. let inside = (may.head i (sym e)).drawn in absurd (omega arith))
          (λ other. left (HeadWord i) there other ∙ bare i (omega arith) there)

      -- and no word of their bodies is stored
      pub unwritten_after : ((i : ℕ) → block_first l (drawn_in l ws) ≤ i → i < rows_of l → IsUnwritten ws i)
          → (i : ℕ) → block_first l (drawn_in l (set ws (place_of l w) x)) ≤ i → i < rows_of l → IsUnwritten (set ws (place_of l w) x) i
      unwritten_after old i low there j few = let up = drawn_rises in same_or_other (BodyWord i j) w (there, few) at
          (λ e. let inside = may.word i j (sym e) in absurd (omega arith))
          (λ other. left (BodyWord i j) (there, few) other ∙ old i (omega arith) there j few)

      -- and after an empty head in an area there are only empty and void ones
      pub behind_after : (first end i j : ℕ) → IsArea l first end → end ≤ rows_of l → first ≤ i → i ≤ j → j < end → (get_or ws (head_place i) 0 ≡ 0 → IsBare ws j)
          → get_or (set ws (place_of l w) x) (head_place i) 0 ≡ 0 → IsBare (set ws (place_of l w) x) j
      behind_after first end i j area top low later high old zero = let there_i : i < rows_of l = omega arith in let there_j : j < rows_of l = omega arith in dite (ℕ_discrete i j)
          (λ same. inl (ap (λ z. get_or (set ws (place_of l w) x) (head_place z) 0) (sym same) ∙ zero))
          (λ apart. same_or_other (HeadWord j) w there_j at
          (λ e. let now = same_head i there_i (λ q. apart (head_row i j (sym q ∙ sym e))) in dite (ℕ_discrete x (pack_head Void))
          (λ void. inr (ap (λ z. get_or (set ws (place_of l w) x) (place_of l z) 0) e ∙ (stored wide ∙ void)))
          (λ not. absurd ((may.head j (sym e)).full not first end i area (omega arith) high low (omega arith) (sym now ∙ zero))))
          (λ other. let same = left (HeadWord j) there_j other in ⊎_elim (λ z. inl (same ∙ z)) (λ z. inr (same ∙ z)) (old (was_empty i there_i zero))))
        where
          head_row : (n m : ℕ) → HeadWord n ≡ HeadWord m → n ≡ m
          head_row n m e = cc

          same_head : (n : ℕ) → n < rows_of l → (w ≢ HeadWord n) → get_or (set ws (place_of l w) x) (head_place n) 0 ≡ get_or ws (head_place n) 0
          same_head n there other = left (HeadWord n) there (λ e. other (sym e))

          was_empty : (n : ℕ) → n < rows_of l → get_or (set ws (place_of l w) x) (head_place n) 0 ≡ 0 → get_or ws (head_place n) 0 ≡ 0
          was_empty n there none = same_or_other (HeadWord n) w there at (λ e. (may.head n (sym e)).empty) (λ other. sym (left (HeadWord n) there other) ∙ none)
