-- The ids that a manager's passes give, in the order in which they go on, ascend.
use Rattle.std.proofs.Common.{◌≡◌, ◌≢◌, ◌⊎◌, ℕ, zero, suc, ◌+◌, ◌-◌, ◌*◌, ◌<◌, ◌≤◌, ◌&&◌, if◌then◌else◌, nat_le, nat_lt, Bool, true, false, Option, Some, None, List, inl, inr, ⊎_elim, refl, sym, ◌∙◌, ap, subst, arith, slice_index_or}
use Rattle.std.proofs.lemmas.Bool.{and_parts, leb-true}
use Rattle.std.proofs.Math.Nat.{mul-le-mul_right}
use Rattle.std.proofs.lemmas.Bool.Decides.{eqb_tells, nat_tests}
use Rattle.tp_model.specs.declared.types.Limits.{Limits}
use Rattle.tp_model.specs.declared.types.TheConstants.{BLOCK_ROWS}
use Rattle.tp_model.specs.Steps.{block_first}
use Rattle.std.proofs.lemmas.List.FromFn.{get_or-map-range_with_len}
use Rattle.tp_plain.specs.declared.pass_state.PassState.{PassState}
use Rattle.tp_plain.specs.OneThread.{State, fresh_pass, no_pass, draws_block, first_row, pass_at, ready, start}
use Rattle.tp_plain.specs.Reached.{IsReachable}
use Rattle.tp_plain.proofs.Rooms.{run_below}
use Rattle.tp_rollover.specs.Anew.{drawer, first_from, found_at, has_left, last_below, least_units, next_pass, start_at, units_unclaimed, would_draw}
use Rattle.tp_rollover.specs.declared.places.Cursor.{Cursor}
use Rattle.tp_rollover.proofs.Acts.{Uses}

-- ---- which pass is next

pub first_is : (holds : ℕ → Bool) (from n c : ℕ) → first_from holds from n ≡ Some c → (from ≤ c) × (c < from + n) × (holds c ≡ true)
first_is holds from zero c is = absurd cc
first_is holds from (suc n) c is = go (first_is holds (from + 1) n c) (holds from) refl is
  where
    go : (first_from holds (from + 1) n ≡ Some c → (from + 1 ≤ c) × (c < from + 1 + n) × (holds c ≡ true)) → (b : Bool) → holds from ≡ b → (if b then Some from else first_from holds (from + 1) n) ≡ Some c → (from ≤ c) × (c < from + suc n) × (holds c ≡ true)
    go more true at is = let same : from ≡ c = cc in (omega arith, omega arith, ap holds (sym same) ∙ at)
    go more false at is = let t = more is in let low = t.0 in let high = t.1 in (omega arith, omega arith, t.2)

pub last_is : (holds : ℕ → Bool) (n c : ℕ) → last_below holds n ≡ Some c → (c < n) × (holds c ≡ true)
last_is holds zero c is = absurd cc
last_is holds (suc n) c is = go (last_is holds n c) (holds n) refl is
  where
    go : (last_below holds n ≡ Some c → (c < n) × (holds c ≡ true)) → (b : Bool) → holds n ≡ b → (if b then Some n else last_below holds n) ≡ Some c → (c < suc n) × (holds c ≡ true)
    go more true at is = let same : n ≡ c = cc in (omega arith, ap holds (sym same) ∙ at)
    go more false at is = let t = more is in let high = t.0 in (omega arith, t.1)

from_on : (p at home : ℕ) → at ≤ start_at p at home
from_on p at home = go (nat_lt at home && nat_lt home p) refl
  where
    go : (b : Bool) → (nat_lt at home && nat_lt home p) ≡ b → at ≤ (if b then home else at)
    go true is = let less = leb-true (suc at) home (and_parts (nat_lt at home) (nat_lt home p) is).0 in omega arith
    go false is = omega arith

module _ (p : ℕ) (s : State) (rows units : ℕ) (kept : List Bool) where
  draws_so : (c : ℕ) → last_below (would_draw kept s rows units) p ≡ Some c → (c < p) × ((pass_at s c).left < rows)
  draws_so c is =
      let t = last_is (would_draw kept s rows units) p c is in
      (t.0, leb-true (suc (pass_at s c).left) rows (and_parts (nat_lt (pass_at s c).left rows) (nat_le (least_units kept units c) (units_unclaimed s c)) t.1).0)

  drawer_is : (o : Option ℕ) (c : ℕ) → drawer kept p s rows units o ≡ Some c → (c < p) × ((o ≡ Some c) ⊎ ((pass_at s c).left < rows))
  drawer_is None c is = let t = draws_so c is in (t.0, inr t.1)
  drawer_is (Some d) c is = go (nat_lt d p && nat_le (least_units kept units d) (units_unclaimed s d)) refl is
    where
      go : (b : Bool) → (nat_lt d p && nat_le (least_units kept units d) (units_unclaimed s d)) ≡ b → (if b then Some d else last_below (would_draw kept s rows units) p) ≡ Some c → (c < p) × ((Some d ≡ Some c) ⊎ ((pass_at s c).left < rows))
      go true at is = let same : d ≡ c = cc in (subst (λ n. n < p) same (leb-true (suc d) p (and_parts (nat_lt d p) (nat_le (least_units kept units d) (units_unclaimed s d)) at).0), inl is)
      go false at is = let t = draws_so c is in (t.0, inr t.1)

-- it goes on in a part, or in spare blocks
pub data Chosen (p : ℕ) (s : State) (rows : ℕ) (cursor : Cursor) (c : ℕ) (cursor' : Cursor) : Type 0 where
  in_part : cursor.at ≤ c → c < p → rows ≤ (pass_at s c).left → cursor' ≡ record { at = c; block = cursor.block; kept = cursor.kept } → Chosen p s rows cursor c cursor'
  in_block : c < p → (cursor.block ≡ Some c) ⊎ ((pass_at s c).left < rows) → cursor' ≡ record { at = p; block = Some c; kept = cursor.kept } → Chosen p s rows cursor c cursor'

pub chosen : (p : ℕ) (s : State) (home rows units : ℕ) (cursor : Cursor) (c : ℕ) (cursor' : Cursor) → next_pass p s home rows units cursor ≡ Some (c, cursor') → Chosen p s rows cursor c cursor'
chosen p s home rows units cursor c cursor' is =
    go (first_from (has_left cursor.kept s rows units) from (p - from)) (drawer cursor.kept p s rows units cursor.block) refl refl is
  where
    from : ℕ
    from = start_at p cursor.at home

    go : (a b : Option ℕ) → first_from (has_left cursor.kept s rows units) from (p - from) ≡ a → drawer cursor.kept p s rows units cursor.block ≡ b → found_at a b p cursor ≡ Some (c, cursor') → Chosen p s rows cursor c cursor'
    go (Some d) b first draw is =
        let pair : ℕ × Cursor = (d, record { at = d; block = cursor.block; kept = cursor.kept }) in
        let got : ℕ × Cursor = (c, cursor') in
        let same : pair ≡ got = cc in
        let t = first_is (has_left cursor.kept s rows units) from (p - from) d first in
        let low = t.0 in let high = t.1 in let on = from_on p cursor.at home in
        let room = leb-true rows (pass_at s d).left (and_parts (nat_le rows (pass_at s d).left) (nat_le (least_units cursor.kept units d) (units_unclaimed s d)) t.2).0 in
        subst (λ (z : ℕ × Cursor). Chosen p s rows cursor z.0 z.1) same (in_part (omega arith) (omega arith) room refl)
    go None (Some d) first draw is =
        let pair : ℕ × Cursor = (d, record { at = p; block = Some d; kept = cursor.kept }) in
        let got : ℕ × Cursor = (c, cursor') in
        let same : pair ≡ got = cc in
        let t = drawer_is p s rows units cursor.kept cursor.block d draw in
        subst (λ (z : ℕ × Cursor). Chosen p s rows cursor z.0 z.1) same (in_block t.0 t.1 refl)
    go None None first draw is = absurd cc

pub chosen_pass : {p : ℕ} {s : State} {rows : ℕ} {cursor : Cursor} {c : ℕ} {cursor' : Cursor} → Chosen p s rows cursor c cursor' → c < p
chosen_pass (in_part low inside room is) = inside
chosen_pass (in_block inside how is) = inside

-- ---- what holds of all rows that are used from now on: none is below this one

pub record Climbs (p : ℕ) (s : State) (cursor : Cursor) (low : ℕ) : Type 0 where
  pub parts : (c : ℕ) → cursor.at ≤ c → c < p → (c * s.limits.rows ≤ (pass_at s c).next) × ((pass_at s c).next + (pass_at s c).left ≡ c * s.limits.rows + s.limits.rows)
  pub part : cursor.at < p → low ≤ (pass_at s cursor.at).next
  pub no_block : cursor.at < p → cursor.block ≡ None
  pub undrawn : low ≤ block_first s.limits s.drawn
  pub block : (c : ℕ) → cursor.block ≡ Some c → low ≤ (pass_at s c).next

later_part : (a b n : ℕ) → a < b → a * n + n ≤ b * n
later_part a b n less = let e : a + 1 ≤ b = omega arith in let f : (a + 1) * n ≤ b * n = mul-le-mul_right n e in omega (arith, f)

module _ (p : ℕ) (s t : State) (k : ℕ) (cursor : Cursor) (c : ℕ) (cursor' : Cursor) (low : ℕ) (reached : IsReachable s) (many : p ≤ s.limits.parts) (climbs : Climbs p s cursor low) (uses : Uses s t c k) where
  abbrev Goes : Cursor → Type 0
  Goes cur = (low ≤ first_row s c k) × Climbs p t cur (first_row s c k + k)

  same_rows : t.limits.rows ≡ s.limits.rows
  same_rows = ap (λ (l : Limits). l.rows) uses.limits

  same_block : (n : ℕ) → block_first t.limits n ≡ block_first s.limits n
  same_block n = ap (λ (l : Limits). block_first l n) uses.limits

  -- without a new block
  undrawn_next : draws_block s c k ≡ false → first_row s c k ≡ (pass_at s c).next
  undrawn_next still = ap (λ b. if b then block_first s.limits s.drawn else (pass_at s c).next) still

  undrawn_left : draws_block s c k ≡ false → (ready s c k).left ≡ (pass_at s c).left
  undrawn_left still = ap (λ b. if b then BLOCK_ROWS else (pass_at s c).left) still

  undrawn_same : draws_block s c k ≡ false → t.drawn ≡ s.drawn
  undrawn_same still = uses.drawn ∙ ap (λ b. if b then s.drawn + 1 else s.drawn) still

  -- with one
  drawn_next : draws_block s c k ≡ true → first_row s c k ≡ block_first s.limits s.drawn
  drawn_next new = ap (λ b. if b then block_first s.limits s.drawn else (pass_at s c).next) new

  drawn_left : draws_block s c k ≡ true → (ready s c k).left ≡ BLOCK_ROWS
  drawn_left new = ap (λ b. if b then BLOCK_ROWS else (pass_at s c).left) new

  drawn_more : draws_block s c k ≡ true → t.drawn ≡ s.drawn + 1
  drawn_more new = uses.drawn ∙ ap (λ b. if b then s.drawn + 1 else s.drawn) new

  -- in a part
  in_its_part : cursor.at ≤ c → c < p → k ≤ (pass_at s c).left → Goes (record { at = c; block = cursor.block; kept = cursor.kept })
  in_its_part on inside room = (
    first,
    record {
      parts = parts;
      part = λ less. (let a = uses.next in omega arith);
      no_block = λ less. climbs.no_block at_less;
      undrawn = (let n = next_is in let same = same_block t.drawn in let d = undrawn_same still in let e = ap (block_first s.limits) d in let f = ends.1 in let g = later_part c s.limits.parts s.limits.rows (omega arith) in omega arith);
      block = λ d is. absurd (let none = climbs.no_block at_less in cc);
    },
  )
    where
      still : draws_block s c k ≡ false
      still = ap (λ b. b && nat_lt s.drawn s.limits.spare) (not_less (pass_at s c).left k room)
        where
          not_less : (a b : ℕ) → b ≤ a → nat_lt a b ≡ false
          not_less a b le = grind (arith, nat_tests)

      at_less : cursor.at < p
      at_less = omega arith

      ends : (c * s.limits.rows ≤ (pass_at s c).next) × ((pass_at s c).next + (pass_at s c).left ≡ c * s.limits.rows + s.limits.rows)
      ends = climbs.parts c on inside

      at_part : (cursor.at ≡ c) ⊎ (cursor.at < c)
      at_part = ⊎_elim (λ q. inl q.1) (λ q. inr (let not : cursor.at ≢ c = q.1 in omega arith)) (eqb_tells cursor.at c)

      next_is : first_row s c k ≡ (pass_at s c).next
      next_is = undrawn_next still

      left_is : (ready s c k).left ≡ (pass_at s c).left
      left_is = undrawn_left still

      first : low ≤ first_row s c k
      first =
          let low_at = climbs.part at_less in let n = next_is in
          ⊎_elim (λ same. let e = ap (λ n. (pass_at s n).next) same in omega arith)
          (λ less. let there = climbs.parts cursor.at (omega arith) at_less in let a = there.1 in let b = ends.0 in let d = later_part cursor.at c s.limits.rows less in omega arith) at_part

      parts : (d : ℕ) → c ≤ d → d < p → (d * t.limits.rows ≤ (pass_at t d).next) × ((pass_at t d).next + (pass_at t d).left ≡ d * t.limits.rows + t.limits.rows)
      parts d from below = elim (eqb_tells d c) [
        | inl q ↦
            let same = q.1 in let e = ap (λ n. (pass_at t n).next) same in let f = ap (λ n. (pass_at t n).left) same in let g = ap (λ n. n * t.limits.rows) same in let n = next_is in let m = left_is in
            let h = ap (λ n. c * n) same_rows in let r = same_rows in let a = uses.next in let b = uses.left in let u = ends.0 in let v = ends.1 in (omega arith, omega arith)
        | inr q ↦
            let was = climbs.parts d (omega arith) below in
            let o = uses.others d q.1 in let h = ap (λ n. d * n) same_rows in let r = same_rows in let a = o.0 in let b = o.1 in let u = was.0 in let v = was.1 in (omega arith, omega arith)
      ]

  -- in spare blocks
  in_a_block : c < p → (cursor.block ≡ Some c) ⊎ ((pass_at s c).left < k) → Goes (record { at = p; block = Some c; kept = cursor.kept })
  in_a_block inside how = go (draws_block s c k) refl
    where
      at_c : (d : ℕ) → Some c ≡ Some d → (pass_at t d).next ≡ first_row s c k + k
      at_c d is = let same : c ≡ d = cc in ap (λ n. (pass_at t n).next) (sym same) ∙ uses.next

      on : low ≤ first_row s c k → first_row s c k + k ≤ block_first t.limits t.drawn → Goes (record { at = p; block = Some c; kept = cursor.kept })
      on first end = (
        first,
        record {
          parts = λ d from below. absurd (omega (arith, from, below));
          part = λ less. absurd (omega (arith, less));
          no_block = λ less. absurd (omega (arith, less));
          undrawn = end;
          block = λ d is. (let e = at_c d is in omega arith);
        },
      )

      go : (b : Bool) → draws_block s c k ≡ b → Goes (record { at = p; block = Some c; kept = cursor.kept })
      go true new =
          let a = drawn_next new in let b = drawn_left new in let d = drawn_more new in let e = same_block t.drawn in let f = ap (block_first s.limits) d in
          let room = uses.room in let u = climbs.undrawn in on (omega arith) (omega arith)
      go false still =
          let a = undrawn_next still in let b = undrawn_left still in let d = undrawn_same still in let e = same_block t.drawn in let f = ap (block_first s.limits) d in
          let room = uses.room in
          let run = run_below s.limits s.history s.drawn c (pass_at s c).next (pass_at s c).left (reached.fits c (omega arith)).run in
          on (⊎_elim (λ is. let low_at = climbs.block c is in omega arith) (λ short. absurd (omega (arith, short, a, b, room))) how) (omega arith)

  pub goes_up : Chosen p s k cursor c cursor' → Goes cursor'
  goes_up (in_part on inside room is) = subst Goes (sym is) (in_its_part on inside room)
  goes_up (in_block inside how is) = subst Goes (sym is) (in_a_block inside how)

-- at the start
pub start_climbs : (k : Limits) (p : ℕ) (kept : List Bool) → p ≤ k.parts → Climbs p (start k) (record { at = 0; block = None; kept = kept }) 0
start_climbs k p kept many = record {
  parts = λ c from below. (let is = fresh c (omega arith) in let a = ap (λ (z : PassState). z.next) is in let b = ap (λ (z : PassState). z.left) is in (omega arith, omega arith));
  part = λ less. omega arith;
  no_block = λ less. refl;
  undrawn = omega arith;
  block = λ c is. absurd (cc (is));
}
  where
    fresh : (c : ℕ) → c < k.parts → pass_at (start k) c ≡ fresh_pass k.rows c
    fresh c inside = get_or-map-range_with_len (fresh_pass k.rows) 0 k.parts c c no_pass inside (omega arith)

-- ---- a pass that is to hold an element keeps a unit

-- it has the units for it, beside the one that it keeps
pub chosen_units : (p : ℕ) (s : State) (home rows units : ℕ) (cursor : Cursor) (c : ℕ) (cursor' : Cursor) → next_pass p s home rows units cursor ≡ Some (c, cursor')
    → (least_units cursor.kept units c ≤ units_unclaimed s c) × (cursor'.kept ≡ cursor.kept)
chosen_units p s home rows units cursor c cursor' is =
    go (first_from (has_left cursor.kept s rows units) from (p - from)) (drawer cursor.kept p s rows units cursor.block) refl refl is
  where
    from : ℕ
    from = start_at p cursor.at home

    last : (d : ℕ) → last_below (would_draw cursor.kept s rows units) p ≡ Some d → least_units cursor.kept units d ≤ units_unclaimed s d
    last d at = leb-true (least_units cursor.kept units d) (units_unclaimed s d) (and_parts (nat_lt (pass_at s d).left rows) (nat_le (least_units cursor.kept units d) (units_unclaimed s d)) (last_is (would_draw cursor.kept s rows units) p d at).1).1

    drawing : (o : Option ℕ) (d : ℕ) → drawer cursor.kept p s rows units o ≡ Some d → least_units cursor.kept units d ≤ units_unclaimed s d
    drawing None d at = last d at
    drawing (Some e) d at = on (nat_lt e p && nat_le (least_units cursor.kept units e) (units_unclaimed s e)) refl at
      where
        on : (b : Bool) → (nat_lt e p && nat_le (least_units cursor.kept units e) (units_unclaimed s e)) ≡ b → (if b then Some e else last_below (would_draw cursor.kept s rows units) p) ≡ Some d → least_units cursor.kept units d ≤ units_unclaimed s d
        on true is at = let same : e ≡ d = cc in
            subst (λ n. least_units cursor.kept units n ≤ units_unclaimed s n) same (leb-true (least_units cursor.kept units e) (units_unclaimed s e) (and_parts (nat_lt e p) (nat_le (least_units cursor.kept units e) (units_unclaimed s e)) is).1)
        on false is at = last d at

    go : (a b : Option ℕ) → first_from (has_left cursor.kept s rows units) from (p - from) ≡ a → drawer cursor.kept p s rows units cursor.block ≡ b → found_at a b p cursor ≡ Some (c, cursor')
        → (least_units cursor.kept units c ≤ units_unclaimed s c) × (cursor'.kept ≡ cursor.kept)
    go (Some d) b first draw is =
        let pair : ℕ × Cursor = (d, record { at = d; block = cursor.block; kept = cursor.kept }) in
        let got : ℕ × Cursor = (c, cursor') in
        let same : pair ≡ got = cc in
        subst (λ (z : ℕ × Cursor). (least_units cursor.kept units z.0 ≤ units_unclaimed s z.0) × (z.1.kept ≡ cursor.kept)) same (leb-true (least_units cursor.kept units d) (units_unclaimed s d) (and_parts (nat_le rows (pass_at s d).left) (nat_le (least_units cursor.kept units d) (units_unclaimed s d)) (first_is (has_left cursor.kept s rows units) from (p - from) d first).2).1, refl)
    go None (Some d) first draw is =
        let pair : ℕ × Cursor = (d, record { at = p; block = Some d; kept = cursor.kept }) in
        let got : ℕ × Cursor = (c, cursor') in
        let same : pair ≡ got = cc in
        subst (λ (z : ℕ × Cursor). (least_units cursor.kept units z.0 ≤ units_unclaimed s z.0) × (z.1.kept ≡ cursor.kept)) same (drawing cursor.block d draw, refl)
    go None None first draw is = absurd cc

-- each pass that is to hold one has a unit for it
abbrev pub HasKept : List Bool → State → Type 0
HasKept kept s = (c : ℕ) → slice_index_or kept c false ≡ true → (pass_at s c).claimed < s.limits.units

pub kept_more : (kept : List Bool) (s t : State) (c : ℕ) → t.limits ≡ s.limits → HasKept kept s → least_units kept 1 c ≤ units_unclaimed s c → (pass_at t c).claimed ≡ (pass_at s c).claimed + 1
    → ((d : ℕ) → d ≢ c → (pass_at t d).claimed ≡ (pass_at s d).claimed) → HasKept kept t
kept_more kept s t c limits has units own others d is = elim (eqb_tells d c) [
  | inl e ↦
      let same = e.1 in
      let two : least_units kept 1 c ≡ 2 = ap (λ b. if b then 2 else 1) (ap (λ n. slice_index_or kept n false) (sym same) ∙ is) in
      let n = ap (λ (l : Limits). l.units) limits in
      let at = ap (λ n. (pass_at t n).claimed) same in
      omega arith
  | inr e ↦ let o = others d e.1 in let h = has d is in let n = ap (λ (l : Limits). l.units) limits in omega arith
]

pub kept_same : (kept : List Bool) (s t : State) → t.limits ≡ s.limits → HasKept kept s → ((d : ℕ) → (pass_at t d).claimed ≡ (pass_at s d).claimed) → HasKept kept t
kept_same kept s t limits has same d is = let o = same d in let h = has d is in let n = ap (λ (l : Limits). l.units) limits in omega arith
