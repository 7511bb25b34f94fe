-- What the words say of a history that goes on by one event.
use Rattle.std.proofs.Common.{◌≡◌, ◌≢◌, ℕ, suc, ◌+◌, ◌*◌, ◌<◌, ◌≤◌, suc-mul, mul-le-mul_right, List, [], ◌∷◌, ◌++◌, set, get_or, slice_index, sym, refl, ap, ◌∙◌, subst, inl, inr, ⊎_elim, arith, length-set, Option, Some, None}
use mathlib.Core.Logic.{dite}
use native.Mathlib.Decide.{ℕ_discrete}
use Rattle.tp_model.specs.declared.event.Event.{Event}
use Rattle.tp_model.specs.declared.types.Element.{Element}
use Rattle.tp_model.specs.declared.types.Limits.{Limits}
use Rattle.tp_model.specs.History.{Aborted, Committed, In, IsSettled, IsUnborn, UnitEnd, births, element_of, end_of, status_of}
use mathlib.Core.List.{IsPrefix}
use Rattle.tp_model.specs.Steps.{IsArea, IsLegal, rows_of}
use Rattle.tp_model.specs.Words.{ClaimWord, claim_word, claim_word_after}
use Rattle.tp_model.proofs.Areas.{area_inside}
use Rattle.tp_model.proofs.Bridges.{born_at, born_either, born_or_not, element_of-id, end_stays, found_later, in_none, is_born, unborn_before}
use Rattle.tp_model.proofs.LawProofs.{settled_stay}
use Rattle.tp_model.proofs.Later.{births_inside}
use Rattle.tp_model.proofs.WordProofs.{claim_word-snoc, end_of-snoc}
use Rattle.tp_rule.specs.Places.{Word, HeadWord, BodyWord, ClaimWord as ClaimOf, UnitWord, MarkWord, DrawnWord, IsThere, head_place, mark_place, place_of}
use Rattle.tp_rule.specs.declared.bits.TheConstants.{HEAD_TAIL}
use Rattle.tp_rule.specs.Words.{IsFitClaim, IsFitHead, IsFitUnit, head_bits, head_of, pack_claim, pack_head, pack_unit, tail_bits, unit_bits, unit_tail_bits}
use Rattle.tp_rule.specs.declared.packing.Head.{Head}
use Rattle.tp_rule.specs.declared.packing.Head.TheVariants.{Empty, Void, Filled}
use Rattle.tp_rule.specs.Rule.{AreCommitted, Concerns, HasHead, HeadTold, IsAside, IsFinished, IsInside, IsOther, IsUseless, MarkHolds, StillSo, WordIs, World}
use Rattle.tp_rule.specs.Steps.{AreFinishedFor, Found, IsLow, IsFinishedFor, IsSo}
use Rattle.tp_rule.specs.declared.view.Known.{Known}
use Rattle.tp_rule.specs.declared.view.Known.TheVariants.{RowHead, RowTail, PartMark, MarkAbove, BlocksDrawn}
use Rattle.tp_rule.proofs.Births.{MadeBy, by_unit}
use Rattle.tp_rule.proofs.Storing.{MayStore, bare_after, behind_after, drawn_inside, full_head, has_full, heads_kept, left, tails_after, same_or_other, stored, unwritten_after}
use Rattle.tp_rule.proofs.Units.{decide}

-- what is committed stays so
pub still_committed : (h g : List Event) (u run : ℕ) → IsPrefix h g → AreCommitted h u run → AreCommitted g u run
still_committed h g u run begins old w less up = let t = old w less up in (t.0, t.1, end_stays h g w (Committed t.0 t.1) begins t.2)

-- a head's word holds the head
pub head_told : (a b : Head) → IsFitHead a → IsFitHead b → pack_head a ≡ pack_head b → a ≡ b
head_told Empty Empty f g e = refl
head_told Empty Void f g e = absurd (omega arith)
head_told Empty (Filled s r b) f g e = absurd (omega arith)
head_told Void Empty f g e = absurd (omega arith)
head_told Void Void f g e = refl
head_told Void (Filled s r b) f g e = absurd (omega arith)
head_told (Filled s r b) Empty f g e = absurd (omega arith)
head_told (Filled s r b) Void f g e = absurd (omega arith)
head_told (Filled s r None) (Filled t q None) f g e = let a : s ≤ 15 = f.1 in let b : t ≤ 15 = g.1 in let c : r ≤ 65535 = f.2 in let d : q ≤ 65535 = g.2 in
    let x : s ≡ t = omega arith in let y : r ≡ q = omega arith in (λ i. Filled (x i) (y i) None)
head_told (Filled s r None) (Filled t q (Some v)) f g e = let a : s ≤ 15 = f.1 in let b : t ≤ 15 = g.1 in let c : r ≤ 65535 = f.2 in let d : q ≤ 65535 = g.2 in absurd (omega arith)
head_told (Filled s r (Some u)) (Filled t q None) f g e = let a : s ≤ 15 = f.1 in let b : t ≤ 15 = g.1 in let c : r ≤ 65535 = f.2 in let d : q ≤ 65535 = g.2 in absurd (omega arith)
head_told (Filled s r (Some u)) (Filled t q (Some v)) f g e = let a : s ≤ 15 = f.1 in let b : t ≤ 15 = g.1 in let c : r ≤ 65535 = f.2 in let d : q ≤ 65535 = g.2 in
    let x : s ≡ t = omega arith in let y : r ≡ q = omega arith in let z : u ≡ v = omega arith in (λ i. Filled (x i) (y i) (Some (z i)))

-- a head is below the run
pub head_small : (head : Head) → IsFitHead head → pack_head head < HEAD_TAIL
head_small Empty f = omega arith
head_small Void f = omega arith
head_small (Filled s r None) f = let a : s ≤ 15 = f.1 in let b : r ≤ 65535 = f.2 in omega arith
head_small (Filled s r (Some u)) f = let a : s ≤ 15 = f.1 in let b : r ≤ 65535 = f.2 in let c : u + 1 ≤ 65535 = f.3 in omega arith

-- so it can be told from that, and the other way round
bits_beside : (p m : ℕ) → p < HEAD_TAIL → head_bits (p + HEAD_TAIL * m) ≡ p
bits_beside p m small = omega arith

tail_beside : (p m : ℕ) → p < HEAD_TAIL → tail_bits (p + HEAD_TAIL * m) ≡ m
tail_beside p m small = omega arith

alone_bits : (p : ℕ) → p < HEAD_TAIL → head_bits p ≡ p
alone_bits p small = omega arith

alone_tail : (p : ℕ) → p < HEAD_TAIL → tail_bits p ≡ 0
alone_tail p small = omega arith

pub bits_with : (head : Head) (m : ℕ) → IsFitHead head → head_bits (pack_head head + HEAD_TAIL * m) ≡ pack_head head
bits_with head m fit = bits_beside (pack_head head) m (head_small head fit)

pub tail_with : (head : Head) (m : ℕ) → IsFitHead head → tail_bits (pack_head head + HEAD_TAIL * m) ≡ m
tail_with head m fit = tail_beside (pack_head head) m (head_small head fit)

pub bits_alone : (head : Head) → IsFitHead head → head_bits (pack_head head) ≡ pack_head head
bits_alone head fit = alone_bits (pack_head head) (head_small head fit)

pub tail_alone : (head : Head) → IsFitHead head → tail_bits (pack_head head) ≡ 0
tail_alone head fit = alone_tail (pack_head head) (head_small head fit)

-- the stage of an element with this head
head_stage : (stage root : ℕ) (by : Option ℕ) (x : Element) → Filled stage root by ≡ head_of x → x.stage ≡ stage
head_stage stage root by x e = cc

-- what is below a number of rows is one, too
pub inside_below : (k : Limits) (p n m : ℕ) → n ≤ m → IsInside k p m → IsInside k p n
inside_below k p n m le inside = (λ part. let top = inside.0 part in omega arith, λ spare. let top = inside.1 spare in omega arith)

-- and they are among all rows
pub inside_rows : (k : Limits) (p n : ℕ) → p ≤ k.parts → IsInside k p n → p * k.rows + n ≤ rows_of k
inside_rows k p n there inside = dite (ℕ_discrete p k.parts)
    (λ same. let top = inside.1 same in let first : p * k.rows ≡ k.parts * k.rows = ap (λ z. z * k.rows) same in omega arith)
    (λ other. let top = inside.0 other in let all : suc p * k.rows ≤ k.parts * k.rows = mul-le-mul_right k.rows (omega arith) in omega (arith, suc-mul p k.rows))

module _ (k : Limits) (h : List Event) (ws : List ℕ) (world : World k h ws) where
  pub found : (word : ℕ) → Found k h word (get_or ws word 0)
  found word = λ w there is. subst (λ z. WordIs h w (get_or ws z 0)) (sym is) (world.tells w there)

  -- a head that was found before, and wasn't empty, is that of the element that is born in the row
  pub recall : (i : ℕ) (head : Head) (x : Element) → StillSo k ws (RowHead i head) → head ≢ Empty → element_of h i ≡ Some x → head ≡ head_of x
  recall i head x still some p = let t = world.tells (HeadWord i) still.0 in head_told head t.head still.1 t.fit (sym (still.2 some) ∙ t.packed) ∙ t.born x p

  -- the head of a born element is one that a word can hold
  pub born_fit : (i : ℕ) (x : Element) → element_of h i ≡ Some x → IsFitHead (head_of x)
  born_fit i x p = let id = element_of-id h i x p in let t = world.tells (HeadWord x.id) (births_inside k h world.legal x (is_born h i x p)) in subst IsFitHead (t.born x (is_born h i x p)) t.fit

  -- in a finished row no element is anything but consumed or killed
  over_finished : (i : ℕ) → i < rows_of k → IsFinished k h ws i → (x : Element) → element_of h i ≡ Some x → IsSettled (status_of k.attempts h i)
  over_finished i there f x p = ⊎_elim (λ s. s.2) (λ d. absurd (not_born d.0 d.1 d.2 d.3.0 d.3.1 d.4)) f
    where
      named : (stage root u : ℕ) (y : Element) → Filled stage root (Some u) ≡ head_of y → y.by ≡ Some u
      named stage root u y e = cc

      apart : (u : ℕ) (m : MadeBy k h i u) → end_of h u ≡ Some Aborted → ⊥
      apart u m gone = let q : Some (Committed m.from m.count) ≡ Some Aborted = sym m.committed ∙ gone in absurd cc

      not_born : (stage root u : ℕ) → IsFitHead (Filled stage root (Some u)) → HasHead ws i (Filled stage root (Some u)) → end_of h u ≡ Some Aborted → ⊥
      not_born stage root u fit is gone = let t = world.tells (HeadWord i) there in
          let same : Filled stage root (Some u) ≡ head_of x = head_told (Filled stage root (Some u)) t.head fit t.fit (sym is ∙ t.packed) ∙ t.born x p in
          apart u (by_unit k h world.legal i x u p (named stage root u x same)) gone

  -- an element whose row has a head of no use to kind s is of a stage that it isn't about
  aside_not : (s i : ℕ) → i < rows_of k → IsAside ws s i → (x : Element) → element_of h i ≡ Some x → ¬ Concerns s x.stage
  aside_not s i there a x p = let t = world.tells (HeadWord i) there in
      subst (IsOther s) (head_told a.0 t.head a.1 t.fit (sym a.2 ∙ t.packed) ∙ t.born x p) a.3

  -- so in a row of no use to kind s no element that it is about is anything else
  pub over : (s i : ℕ) → i < rows_of k → IsUseless k s h ws i → IsFinishedFor k s h i
  over s i there u x p c = ⊎_elim (λ f. over_finished i there f x p) (λ a. absurd (aside_not s i there a x p c)) u

  -- and so in all rows below a mark that was found
  pub over_below : (s p n : ℕ) → StillSo k ws (PartMark s p n) → AreFinishedFor k s h p n
  over_below s p n t i low high = let room = t.0 in let m = world.marks s p room in let le : n ≤ get_or ws (mark_place k s p) 0 = t.1 in let top = m.inside in
      let all = inside_rows k p (get_or ws (mark_place k s p) 0) room.2 top in over s i (omega arith) (m.below i low (omega arith))

  -- nothing is born in a row without a head
  pub empty_unborn : (i : ℕ) → i < rows_of k → get_or ws (head_place i) 0 ≡ 0 → IsUnborn h i
  empty_unborn i there zero = ⊎_elim
      (λ t. let told = world.tells (HeadWord i) there in absurd (full_head (head_of t.0) (λ q. cc) (ap pack_head (sym (told.born t.0 (born_at h i t.0 t.1 t.2))) ∙ (sym told.packed ∙ ap head_bits zero))))
      (λ none. none) (born_or_not h i)

  -- nor in a void row
  void_unborn : (i : ℕ) → i < rows_of k → get_or ws (head_place i) 0 ≡ pack_head Void → IsUnborn h i
  void_unborn i there void = ⊎_elim
      (λ t. let told = world.tells (HeadWord i) there in let head : told.head ≡ Void = head_told told.head Void told.fit tt (sym told.packed ∙ ap head_bits void) in
      let e : Void ≡ head_of t.0 = sym head ∙ told.born t.0 (born_at h i t.0 t.1 t.2) in absurd cc)
      (λ none. none) (born_or_not h i)

  -- nor after an empty one in its area
  pub none_behind : (first end i j : ℕ) → IsArea k first end → first ≤ i → i ≤ j → j < end → get_or ws (head_place i) 0 ≡ 0 → IsUnborn h j
  none_behind first end i j area low later high zero = let top = area_inside k first end area in ⊎_elim (empty_unborn j (omega arith)) (void_unborn j (omega arith)) (world.behind first end i j area low later high zero)

  -- no mark is above its rows
  pub low_below : (s p n : ℕ) → StillSo k ws (PartMark s p n) → IsLow k s h p n
  low_below s p n t = (inside_below k p n (get_or ws (mark_place k s p) 0) t.1 (world.marks s p t.0).inside, over_below s p n t)

  -- what a seat knows of words that stay is so
  pub so_now : (x : Known) → StillSo k ws x → IsSo k h x
  so_now (RowHead i head) still = λ some x p. recall i head x still some p
  so_now (RowTail i stage run) still = λ j low up x p. let there = still.0 in let s = still.1 j low up in let told = world.tells (HeadWord j) (omega arith) in
      head_stage stage s.0 s.1 x (head_told (Filled stage s.0 s.1) told.head s.2 told.fit (sym s.3 ∙ told.packed) ∙ told.born x p)
  so_now (PartMark s p n) still = low_below s p n still
  so_now (MarkAbove s p n) still = let low : n < get_or ws (mark_place k s p) 0 = still.1 in inside_below k p (n + 1) (get_or ws (mark_place k s p) 0) (omega arith) (world.marks s p still.0).inside
  so_now (BlocksDrawn n) still = let top = world.drawn in omega arith

-- a head of no use isn't empty
pub other_full : (s : ℕ) (head : Head) → IsOther s head → head ≢ Empty
other_full s Empty o e = o
other_full s Void o e = absurd cc
other_full s (Filled stage root by) o e = absurd cc

-- a finished row stays finished
pub finished_later : (k : Limits) (h h' : List Event) (ws ws' : List ℕ) (i : ℕ) → IsPrefix h h' → IsLegal k h' → (get_or ws (head_place i) 0 ≢ 0 → get_or ws' (head_place i) 0 ≡ get_or ws (head_place i) 0) → IsFinished k h ws i → IsFinished k h' ws' i
finished_later k h h' ws ws' i begins legal kept f = ⊎_elim
    (λ s. inl (s.0, found_later h h' begins i s.0 s.1, subst IsSettled (sym (settled_stay k h h' i legal begins s.2)) s.2))
    (λ d. inr (d.0, d.1, d.2, (d.3.0, ap head_bits (kept (has_full ws i (Filled d.0 d.1 (Some d.2)) (λ q. cc) d.3.1)) ∙ d.3.1), end_stays h h' d.2 Aborted begins d.4)) f

-- and a row of no use to kind s stays so
pub useless_later : (k : Limits) (s : ℕ) (h h' : List Event) (ws ws' : List ℕ) (i : ℕ) → IsPrefix h h' → IsLegal k h' → (get_or ws (head_place i) 0 ≢ 0 → get_or ws' (head_place i) 0 ≡ get_or ws (head_place i) 0) → IsUseless k s h ws i → IsUseless k s h' ws' i
useless_later k s h h' ws ws' i begins legal kept u = ⊎_elim
    (λ f. inl (finished_later k h h' ws ws' i begins legal kept f))
    (λ a. inr (a.0, a.1, ap head_bits (kept (has_full ws i a.0 (other_full s a.0 a.3) a.2)) ∙ a.2, a.3)) u

module _ (h : List Event) (e : Event) where
  -- an element that is born in row i is so already, or is born now
  pub row_either : (i : ℕ) (x : Element) {P : Type 0} → element_of (h ++ e ∷ []) i ≡ Some x → (element_of h i ≡ Some x → P) → (In x (births e) → x.id ≡ i → P) → P
  row_either i x p old new = let id = element_of-id (h ++ e ∷ []) i x p in ⊎_elim (λ b. old (born_at h i x b id)) (λ q. new q id) (born_either x h e (is_born (h ++ e ∷ []) i x p))

  pub head_later : (i n : ℕ) → ((x : Element) → In x (births e) → x.id ≡ i → (head_bits n ≡ pack_head (head_of x)) × IsFitHead (head_of x)) → HeadTold h i n → HeadTold (h ++ e ∷ []) i n
  head_later i n new old = record {
    head = old.head;
    packed = old.packed;
    fit = old.fit;
    bare = old.bare;
    born = λ x p. row_either i x p (old.born x) (λ q id. let t = new x q id in head_told old.head (head_of x) old.fit t.1 (sym old.packed ∙ t.0));
    draft = λ un. old.draft (unborn_before h e i un);
  }

  pub body_later : (i n : ℕ) (part : Element → ℕ) → ((x : Element) → In x (births e) → x.id ≡ i → n ≡ part x) → ((x : Element) → element_of h i ≡ Some x → n ≡ part x) → (x : Element) → element_of (h ++ e ∷ []) i ≡ Some x → n ≡ part x
  body_later i n part new old x p = row_either i x p (old x) (new x)

  pub claim_later : (i n : ℕ) → claim_word_after i (claim_word h i) e ≡ claim_word h i → WordIs h (ClaimOf i) n → WordIs (h ++ e ∷ []) (ClaimOf i) n
  claim_later i n same old = let now = sym (claim_word-snoc h e i ∙ same) in (old.0 ∙ ap pack_claim now, subst IsFitClaim now old.1)

  pub claim_now : (i n : ℕ) (w : ClaimWord) → claim_word_after i (claim_word h i) e ≡ w → n ≡ pack_claim w → IsFitClaim w → WordIs (h ++ e ∷ []) (ClaimOf i) n
  claim_now i n w is at fit = let now = sym (claim_word-snoc h e i ∙ is) in (at ∙ ap pack_claim now, subst IsFitClaim now fit)

  pub unit_later : (u n : ℕ) → decide u (end_of h u) e ≡ end_of h u → WordIs h (UnitWord u) n → WordIs (h ++ e ∷ []) (UnitWord u) n
  unit_later u n same old = let now = sym (end_of-snoc h e u ∙ same) in record {
    packed = old.packed ∙ ap pack_unit now;
    fit = subst IsFitUnit now old.fit;
    bare = λ none. old.bare (now ∙ none);
    before = still_committed h (h ++ e ∷ []) u (unit_tail_bits n) (e ∷ [], refl) old.before;
  }

  pub unit_now : (u n : ℕ) (w : Option UnitEnd) → decide u (end_of h u) e ≡ w → unit_bits n ≡ pack_unit w → IsFitUnit w → w ≢ None → AreCommitted h u (unit_tail_bits n) → WordIs (h ++ e ∷ []) (UnitWord u) n
  unit_now u n w is at fit some before = let now = sym (end_of-snoc h e u ∙ is) in record {
    packed = at ∙ ap pack_unit now;
    fit = subst IsFitUnit now fit;
    bare = λ none. absurd (some (now ∙ none));
    before = still_committed h (h ++ e ∷ []) u (unit_tail_bits n) (e ∷ [], refl) before;
  }

  -- a word that says nothing of what an event without births changes
  pub told_later : births e ≡ [] → (w : Word) (n : ℕ) → ((i : ℕ) → w ≡ ClaimOf i → claim_word_after i (claim_word h i) e ≡ claim_word h i) → ((u : ℕ) → w ≡ UnitWord u → decide u (end_of h u) e ≡ end_of h u) → WordIs h w n → WordIs (h ++ e ∷ []) w n
  told_later none (HeadWord i) n claims units old = head_later i n (λ x q. absurd (in_none (subst (In x) none q))) old
  told_later none (BodyWord i j) n claims units old = body_later i n (λ x. slice_index x.body j) (λ x q. absurd (in_none (subst (In x) none q))) old
  told_later none (ClaimOf i) n claims units old = claim_later i n (claims i refl) old
  told_later none (UnitWord u) n claims units old = unit_later u n (units u refl) old
  told_later none (MarkWord s p) n claims units old = tt
  told_later none DrawnWord n claims units old = tt

-- the words after a store to w, which may be made: it says what is now so, and so do the others
pub world_stored : (k : Limits) (h h' : List Event) (ws : List ℕ) (w : Word) (x : ℕ) → World k h ws → IsLegal k h' → IsPrefix h h' → IsThere k w → WordIs h' w x → ((v : Word) → IsThere k v → v ≢ w → WordIs h' v (get_or ws (place_of k v) 0))
    → MayStore k ws w x → ((s p : ℕ) → w ≡ MarkWord s p → MarkHolds k s h' (set ws (place_of k w) x) p x) → World k h' (set ws (place_of k w) x)
world_stored k h h' ws w x world legal begins at now rest may mark = record {
  legal = legal;
  wide = length-set ws (place_of k w) x ∙ world.wide;
  tells = λ v there. same_or_other k v w there at
      (λ same. subst (λ z. WordIs h' z (get_or (set ws (place_of k w) x) (place_of k z) 0)) (sym same) (subst (WordIs h' w) (sym (stored k ws w x at world.wide)) now))
      (λ other. subst (WordIs h' v) (sym (left k ws w x at v there other)) (rest v there other));
  marks = λ s p there. same_or_other k (MarkWord s p) w there at
      (λ same. subst (MarkHolds k s h' (set ws (place_of k w) x) p) (sym (ap (λ z. get_or (set ws (place_of k w) x) (place_of k z) 0) same ∙ stored k ws w x at world.wide)) (mark s p (sym same)))
      (λ other. let old = world.marks s p there in let top = old.inside in subst (MarkHolds k s h' (set ws (place_of k w) x) p) (sym (left k ws w x at (MarkWord s p) there other)) record {
        inside = top;
        below = λ i low high. useless_later k s h h' ws (set ws (place_of k w) x) i begins legal (heads_kept k ws w x at (λ j e. (may.head j e).empty) i (let all = inside_rows k p (get_or ws (mark_place k s p) 0) there.2 top in omega arith)) (old.below i low high);
      });
  drawn = drawn_inside k ws w x at world.wide may world.drawn;
  bare = bare_after k ws w x at world.wide may world.bare;
  unwritten = unwritten_after k ws w x at world.wide may world.unwritten;
  tails = tails_after k ws w x at world.wide may world.tails;
  behind = λ first end i j area low later high. behind_after k ws w x at world.wide may first end i j area (area_inside k first end area) low later high (world.behind first end i j area low later high);
}
