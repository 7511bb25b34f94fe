-- The steps of scans that start at the marks.
use Rattle.std.proofs.Common.{◌≡◌, ℕ, zero, suc, ◌+◌, ◌-◌, ◌*◌, ◌<◌, ◌≤◌, List, [], length, set, slice_index, slice_set, refl, sym, ap, ◌∙◌, subst, arith, suc-mul, mul-le-mul_right}
use Rattle.std.proofs.Math.Nat.{add-mul}
use mathlib.Core.Logic.{dite}
use native.Mathlib.Decide.{dec_le, ℕ_discrete}
use Rattle.std.proofs.lemmas.List.{get_or-set_same, get_or-set_other}
use Rattle.tp_model.specs.declared.types.Limits.{Limits}
use Rattle.tp_model.specs.declared.types.TheConstants.{BLOCK_ROWS}
use Rattle.tp_rule.specs.Steps.{IsLow}
use Rattle.tp_rule.specs.declared.view.View.{View}
use Rattle.tp_rule.specs.Rule.{IsInside}
use Rattle.tp_manager.specs.Shown.{AllRise, NoneFalls, marks_of}
use Rattle.tp_manager.specs.Bounds.{claim_next_steps_left, claim_steps_left, drawn_steps, error_steps, listed_steps, listing_steps_left, low_sum, marked_steps, seek_steps, rows_left, scan_steps, spare_left, try_steps, unit_looks}
use Rattle.tp_manager.specs.CallSteps.{IsKnown, Steady}
use Rattle.tp_manager.specs.Finds.{parts_walk}
use Rattle.tp_manager.specs.UnitsSeen.{RemembersUnits}
use Rattle.tp_manager.specs.declared.streak.Streak.{Streak}
use Rattle.tp_manager.specs.Marks.{IsBehind, MayRemember, Recalls, Remembers, RemembersAll, RemembersGaps, RisesAt}
use Rattle.tp_manager.proofs.Marks.Raises.{low_any}
use Rattle.tp_manager.proofs.Marks.Useless.{may_inside}

module _ (l : Limits) (lows : List ℕ) where
  is_inside : (c : ℕ) (v : View) → v.limits ≡ l → IsKnown l v → Remembers c v lows → (p : ℕ) → 0 < slice_index lows p → IsInside l p (slice_index lows p)
  is_inside c v at low r p some = may_inside l c v p (slice_index lows p) low (subst (λ (z : Limits). MayRemember z c v p (slice_index lows p)) at (r p some))

  -- no mark that is remembered is above its part
  pub lows_inside : (c : ℕ) (v : View) → v.limits ≡ l → IsKnown l v → Remembers c v lows → (p : ℕ) → p < l.parts → slice_index lows p ≤ l.rows
  lows_inside c v at low r p part = dite (dec_le 1 (slice_index lows p)) (λ some. (is_inside c v at low r p some).0 (λ same. omega arith)) (λ none. omega arith)

  -- nor that of the spare rows above these
  pub low_spare : (c : ℕ) (v : View) → v.limits ≡ l → IsKnown l v → Remembers c v lows → slice_index lows l.parts ≤ BLOCK_ROWS * l.spare
  low_spare c v at low r = dite (dec_le 1 (slice_index lows l.parts)) (λ some. (is_inside c v at low r l.parts some).1 refl) (λ none. omega arith)

  module _ (t k : ℕ) where
    -- one part more
    pub scan_next : (n : ℕ) → scan_steps l t k lows n + (k + (l.rows - slice_index lows n) * t) ≤ scan_steps l t k lows (n + 1)
    scan_next n = let next : suc n ≡ n + 1 = omega arith in subst (λ z. scan_steps l t k lows n + (k + (l.rows - slice_index lows n) * t) ≤ scan_steps l t k lows z) next (omega arith)

    pub scan_rises : (n m : ℕ) → n ≤ m → scan_steps l t k lows n ≤ scan_steps l t k lows m
    scan_rises n zero le = let none : n ≡ 0 = omega arith in subst (λ z. scan_steps l t k lows z ≤ 0) (sym none) (omega arith)
    scan_rises n (suc m) le = dite (dec_le n m) (λ less. let rest = scan_rises n m less in omega arith)
        (λ not. let same : n ≡ suc m = omega arith in subst (λ z. scan_steps l t k lows z ≤ scan_steps l t k lows (suc m)) (sym same) (omega arith))

    -- each part counts
    pub scan_apart : (n m : ℕ) → n ≤ m → scan_steps l t k lows n + k * (m - n) ≤ scan_steps l t k lows m
    scan_apart n zero le = let none : n ≡ 0 = omega arith in subst (λ z. scan_steps l t k lows z + k * (0 - z) ≤ 0) (sym none) (omega arith)
    scan_apart n (suc m) le = dite (dec_le n m)
        (λ less. let rest = scan_apart n m less in let one : suc m - n ≡ suc (m - n) = omega arith in let more : k * suc (m - n) ≡ k * (m - n) + k = omega arith in
        subst (λ z. scan_steps l t k lows n + k * z ≤ scan_steps l t k lows (suc m)) (sym one) (omega arith))
        (λ not. let same : n ≡ suc m = omega arith in subst (λ z. scan_steps l t k lows z + k * (suc m - z) ≤ scan_steps l t k lows (suc m)) (sym same) (let none : suc m - suc m ≡ 0 = omega arith in subst (λ z. scan_steps l t k lows (suc m) + k * z ≤ scan_steps l t k lows (suc m)) (sym none) (omega arith)))

    -- and the rows that the first of them has left
    pub scan_left : (n m : ℕ) → n < m → scan_steps l t k lows n + (k * (m - n) + (l.rows - slice_index lows n) * t) ≤ scan_steps l t k lows m
    scan_left n m less = let next = scan_next n in let rest = scan_apart (n + 1) m (omega arith) in let one : m - n ≡ suc (m - (n + 1)) = omega arith in let more : k * suc (m - (n + 1)) ≡ k * (m - (n + 1)) + k = omega arith in
        subst (λ z. scan_steps l t k lows n + (k * z + (l.rows - slice_index lows n) * t) ≤ scan_steps l t k lows m) (sym one) (omega arith)

    module _ (inside : (p : ℕ) → p < l.parts → slice_index lows p ≤ l.rows) where
      sum_few : (n : ℕ) → n ≤ l.parts → low_sum lows n ≤ n * l.rows
      sum_few zero le = omega arith
      sum_few (suc n) le = let rest = sum_few n (omega arith) in let one = inside n le in omega (arith, suc-mul n l.rows)

      -- all parts: the rows that are left, and what each part costs
      pub scan_sum : (n : ℕ) → n ≤ l.parts → scan_steps l t k lows n ≤ (n * l.rows - low_sum lows n) * t + k * n
      scan_sum zero le = omega arith
      scan_sum (suc n) le =
          let rest = scan_sum n (omega arith) in let one = inside n le in let few = sum_few n (omega arith) in let wide = suc-mul n l.rows in
          let both = add-mul (n * l.rows - low_sum lows n) (l.rows - slice_index lows n) t in
          let all : suc n * l.rows - low_sum lows (suc n) ≡ (n * l.rows - low_sum lows n) + (l.rows - slice_index lows n) = omega arith in
          let parts : k * suc n ≡ k * n + k = omega arith in
          subst (λ z. scan_steps l t k lows (suc n) ≤ z * t + k * suc n) (sym all) (omega arith)

      -- what is left, in the parts and in the spare blocks
      pub left_split : (low_sum lows l.parts ≤ l.parts * l.rows) → slice_index lows l.parts ≤ BLOCK_ROWS * l.spare
          → rows_left l lows * t ≡ (l.parts * l.rows - low_sum lows l.parts) * t + (BLOCK_ROWS * l.spare - slice_index lows l.parts) * t
      left_split few top = let all : rows_left l lows ≡ (l.parts * l.rows - low_sum lows l.parts) + (BLOCK_ROWS * l.spare - slice_index lows l.parts) = omega arith in
          ap (λ n. n * t) all ∙ add-mul (l.parts * l.rows - low_sum lows l.parts) (BLOCK_ROWS * l.spare - slice_index lows l.parts) t

    -- without marks
    pub scan_most : (n : ℕ) → scan_steps l t k lows n ≤ n * (k + l.rows * t)
    scan_most zero = omega arith
    scan_most (suc n) = let rest = scan_most n in let one : (l.rows - slice_index lows n) * t ≤ l.rows * t = mul-le-mul_right t (omega arith) in omega (arith, suc-mul n (k + l.rows * t))

  -- a listing, and a claim
  module _ (c : ℕ) (v : View) (at : v.limits ≡ l) (low : IsKnown l v) (r : Remembers c v lows) where
    pub listing_few : marked_steps l seek_steps lows ≤ listing_steps_left l lows
    listing_few = let inside = lows_inside c v at low r in let t = seek_steps in let all = scan_sum t 3 inside l.parts (omega arith) in
        let split = left_split t 3 inside (sum_few t 3 inside l.parts (omega arith)) (low_spare c v at low r) in omega arith

    pub claim_few : 1 + marked_steps l try_steps lows ≤ claim_steps_left l lows
    claim_few = let inside = lows_inside c v at low r in let t = try_steps in let all = scan_sum t 3 inside l.parts (omega arith) in
        let split = left_split t 3 inside (sum_few t 3 inside l.parts (omega arith)) (low_spare c v at low r) in omega arith

    pub next_few : 1 + (2 * scan_steps l try_steps 3 lows l.parts + (2 * drawn_steps l.spare + BLOCK_ROWS * l.spare * try_steps)) ≤ claim_next_steps_left l lows
    next_few = let inside = lows_inside c v at low r in let all = scan_sum try_steps 3 inside l.parts (omega arith) in omega arith

-- what a look at the spare blocks costs, where this many of their rows are below the mark, and most where none is
pub spare_rises : (l : Limits) (t n m : ℕ) → n ≤ m → spare_left l t m ≤ spare_left l t n
spare_rises l t n m le = let few : (BLOCK_ROWS * l.spare - m) * t ≤ (BLOCK_ROWS * l.spare - n) * t = mul-le-mul_right t (omega arith) in omega arith

-- all rows, where no mark is known
pub marked_most : (l : Limits) (t : ℕ) (lows : List ℕ) → marked_steps l t lows ≤ l.parts * (3 + l.rows * t) + spare_left l t 0
marked_most l t lows = let all = scan_most l lows t 3 l.parts in let less = spare_rises l t 0 (slice_index lows l.parts) (omega arith) in omega arith

-- a walk over the rows that are left, and looks at units before it
scan_both : (l : Limits) (lows : List ℕ) (n : ℕ) → scan_steps l listed_steps 2 lows n + scan_steps l unit_looks 1 lows n ≤ scan_steps l seek_steps 3 lows n
scan_both l lows zero = omega arith
scan_both l lows (suc n) = let rest = scan_both l lows n in omega arith

-- each part counts twice
parts_few : (l : Limits) (lows : List ℕ) (n : ℕ) → 2 * n ≤ scan_steps l listed_steps 2 lows n
parts_few l lows zero = omega arith
parts_few l lows (suc n) = let rest = parts_few l lows n in omega arith

-- looks at heads up to a part, at units, and the walk from there on
pub heads_before : (l : Limits) (lows : List ℕ) (p : ℕ) → p < l.parts
    → (p + (l.rows - slice_index lows p)) + (scan_steps l unit_looks 1 lows l.parts + (parts_walk l lows p + spare_left l error_steps (slice_index lows l.parts))) ≤ marked_steps l seek_steps lows
heads_before l lows p less = let both = scan_both l lows l.parts in let few = parts_few l lows p in let next = scan_next l lows listed_steps 2 p in let all = scan_rises l lows listed_steps 2 (p + 1) l.parts (omega arith) in omega arith

-- or at all heads and at units, and a walk over the spare blocks
pub bare_before : (l : Limits) (lows : List ℕ) → 0 < l.parts → l.parts + (1 + (scan_steps l unit_looks 1 lows l.parts + spare_left l error_steps (slice_index lows l.parts))) ≤ marked_steps l seek_steps lows
bare_before l lows some = let both = scan_both l lows l.parts in let few = parts_few l lows l.parts in omega arith

-- by the limits and the marks that a caller sees
pub listing_shown : (l k : Limits) (lows lows' : List ℕ) (n : ℕ) → l ≡ k → lows ≡ lows' → n ≤ listing_steps_left l lows → n ≤ listing_steps_left k lows'
listing_shown l k lows lows' n same shown le = subst (λ (z : Limits × List ℕ). n ≤ listing_steps_left z.0 z.1) (λ i. (same i, shown i)) le

pub claim_shown : (l k : Limits) (lows lows' : List ℕ) (n : ℕ) → l ≡ k → lows ≡ lows' → n ≤ claim_steps_left l lows → n ≤ claim_steps_left k lows'
claim_shown l k lows lows' n same shown le = subst (λ (z : Limits × List ℕ). n ≤ claim_steps_left z.0 z.1) (λ i. (same i, shown i)) le

pub next_shown : (l k : Limits) (lows lows' : List ℕ) (n : ℕ) → l ≡ k → lows ≡ lows' → n ≤ claim_next_steps_left l lows → n ≤ claim_next_steps_left k lows'
next_shown l k lows lows' n same shown le = subst (λ (z : Limits × List ℕ). n ≤ claim_next_steps_left z.0 z.1) (λ i. (same i, shown i)) le

pub rises_then : (a b c : List ℕ) → NoneFalls a b → NoneFalls b c → NoneFalls a c
rises_then a b c r t p = let up = r p in let on = t p in omega arith

pub rises_at_then : (p : ℕ) (a b c : List ℕ) → RisesAt p a b → RisesAt p b c → RisesAt p a c
rises_at_then p a b c r t = (rises_then a b c r.0 t.0, λ q other. t.1 q other ∙ r.1 q other)

-- where there are spare blocks their counter is loaded once
pub drawn_one : (spare : ℕ) → 0 < spare → drawn_steps spare ≡ 1
drawn_one zero some = absurd (omega arith)
drawn_one (suc spare) some = refl

-- the marks of other kinds stay as they are
pub rises_in : (lows : List (List ℕ)) (row : List ℕ) (c : ℕ) → c < length lows → NoneFalls (marks_of lows c) row → AllRise lows (set lows c row)
rises_in lows row c inside rises d p = dite (ℕ_discrete d c)
    (λ same. subst (λ z. slice_index (marks_of lows z) p ≤ slice_index (marks_of (set lows c row) z) p) (sym same) (subst (λ z. slice_index (marks_of lows c) p ≤ slice_index z p) (sym (get_or-set_same lows c row [] inside)) (rises p)))
    (λ other. subst (λ z. slice_index (marks_of lows d) p ≤ slice_index z p) (sym (get_or-set_other lows c d row [] other)) (omega arith))

-- nor do parts that are finished
pub behind_rises : (l : Limits) (c n : ℕ) (lows lows' : List ℕ) (v : View) → Steady l v → Remembers c v lows' → NoneFalls lows lows' → IsBehind l lows n → IsBehind l lows' n
behind_rises l c n lows lows' v s r rises b = (b.0, λ p less. let part = b.0 in let up = rises p in let inside = lows_inside l lows' c v s.pass.1 s.known r p (omega arith) in let is = b.1 p less in omega arith)

pub remembers_in : {gaps : List (List ℕ)} {begins units : List ℕ} {streak : Streak} (l : Limits) (lows : List (List ℕ)) (row : List ℕ) (c : ℕ) (v : View) → c < length lows → Steady l v → NoneFalls (marks_of lows c) row → Remembers c v row → Recalls v lows gaps begins units streak → Recalls v (set lows c row) gaps begins units streak
remembers_in {gaps} {begins} {units} {streak} l lows row c v inside s rises one all = record {
  marks = λ d. dite (ℕ_discrete d c)
      (λ same. subst (λ z. Remembers z v (marks_of (set lows c row) z)) (sym same) (subst (Remembers c v) (sym (get_or-set_same lows c row [] inside)) one))
      (λ other. subst (Remembers d v) (sym (get_or-set_other lows c d row [] other)) (all.marks d));
  gaps = all.gaps;
  behind = λ d. dite (ℕ_discrete d c)
      (λ same. subst (λ z. IsBehind v.limits (marks_of (set lows c row) z) (slice_index begins z)) (sym same)
      (subst (λ z. IsBehind v.limits z (slice_index begins c)) (sym (get_or-set_same lows c row [] inside))
      (subst (λ (z : Limits). IsBehind z row (slice_index begins c)) (sym s.pass.1) (behind_rises l c (slice_index begins c) (marks_of lows c) row v s one rises (subst (λ (z : Limits). IsBehind z (marks_of lows c) (slice_index begins c)) s.pass.1 (all.behind c))))))
      (λ other. subst (λ z. IsBehind v.limits z (slice_index begins d)) (sym (get_or-set_other lows c d row [] other)) (all.behind d));
  committed = all.committed;
  streak = all.streak;
}

-- nor do the gaps
pub recalls_in : {lows : List (List ℕ)} {begins units : List ℕ} {streak : Streak} (gaps : List (List ℕ)) (row : List ℕ) (c : ℕ) (v : View) → c < length gaps → RemembersGaps c v row → Recalls v lows gaps begins units streak → Recalls v lows (set gaps c row) begins units streak
recalls_in gaps row c v inside one all = record {
  marks = all.marks;
  gaps = λ d. dite (ℕ_discrete d c)
      (λ same. subst (λ z. RemembersGaps z v (marks_of (set gaps c row) z)) (sym same) (subst (RemembersGaps c v) (sym (get_or-set_same gaps c row [] inside)) one))
      (λ other. subst (RemembersGaps d v) (sym (get_or-set_other gaps c d row [] other)) (all.gaps d));
  behind = all.behind;
  committed = all.committed;
  streak = all.streak;
}

-- more is remembered of units
pub units_in : {lows gaps : List (List ℕ)} {begins units : List ℕ} {streak : Streak} (counts : List ℕ) (v : View) → RemembersUnits v counts → Recalls v lows gaps begins units streak → Recalls v lows gaps begins counts streak
units_in counts v more all = record { marks = all.marks; gaps = all.gaps; behind = all.behind; committed = more; streak = all.streak }

-- nor do the parts behind which claims of them begin
pub begins_in : {gaps : List (List ℕ)} {units : List ℕ} {streak : Streak} (l : Limits) (lows : List (List ℕ)) (row begins : List ℕ) (n c : ℕ) (v : View) → c < length lows → c < length begins → v.limits ≡ l → IsBehind l row n → Recalls v (set lows c row) gaps begins units streak → Recalls v (set lows c row) gaps (slice_set begins c n) units streak
begins_in l lows row begins n c v inside within at one all = record {
  marks = all.marks;
  gaps = all.gaps;
  behind = λ d. dite (ℕ_discrete d c)
      (λ same. subst (λ z. IsBehind v.limits (marks_of (set lows c row) z) (slice_index (slice_set begins c n) z)) (sym same)
      (subst (λ z. IsBehind v.limits z (slice_index (slice_set begins c n) c)) (sym (get_or-set_same lows c row [] inside))
      (subst (IsBehind v.limits row) (sym (get_or-set_same begins c n 0 within)) (subst (λ (z : Limits). IsBehind z row n) (sym at) one))))
      (λ other. subst (IsBehind v.limits (marks_of (set lows c row) d)) (sym (get_or-set_other begins c d n 0 other)) (all.behind d));
  committed = all.committed;
  streak = all.streak;
}

-- what is remembered of a mark is so in what was seen
pub low_is : (l : Limits) (v : View) (lows : List (List ℕ)) (c p n : ℕ) → Steady l v → RemembersAll v lows → n ≡ slice_index (marks_of lows c) p → IsLow l c v.seen p n
low_is l v lows c p n s all is = subst (IsLow l c v.seen p) (sym is) (low_any l c v p (marks_of lows c) s (all c))
