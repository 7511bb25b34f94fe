-- How many steps a look for work in turn makes by what is born in each row.
use Rattle.std.proofs.Common.{◌≡◌, ◌⊎◌, ℕ, zero, suc, ◌+◌, ◌-◌, ◌*◌, ◌<◌, ◌≤◌, Bool, true, false, cond, nat_lt, List, slice_index, refl, ap, subst, inl, inr, ⊎_elim, arith}
use Rattle.std.proofs.lemmas.Bool.Decides.{nat_tests}
use mathlib.Core.Logic.{dite}
use native.Mathlib.Decide.{dec_le}
use Rattle.tp_model.specs.declared.types.Limits.{Limits}
use Rattle.tp_model.specs.declared.types.TheConstants.{BLOCK_ROWS}
use Rattle.tp_model.specs.declared.trace.TraceEntry.{TraceEntry}
use Rattle.tp_model.specs.Steps.{part_rows}
use Rattle.tp_rule.specs.declared.view.View.{View}
use Rattle.tp_manager.specs.Bounds.{drawn_steps}
use Rattle.tp_manager.specs.RowSteps.{lean_claim_next_steps, lean_turn_steps, sum_left, sum_rows, try_steps_at, until}
use Rattle.tp_manager.specs.CallSteps.{Steady, Stepped, StepsTo}
use Rattle.tp_manager.specs.Leans.{IsLean, IsLeanAmong, IsLeanAt, IsLeanWithin, span_steps, within}
use Rattle.tp_manager.specs.Shown.{NoneFalls}
use Rattle.tp_manager.proofs.Claims.Leans.{after_self, lean_few, lean_made, lean_none, lean_then, left_near, left_next, left_rises, steps_less, sum_apart, sum_less, sum_most, sum_near, until_is, until_less, until_most}

-- rows of a window

in_window : (from to : ℕ) (f : ℕ → ℕ) (i : ℕ) → from ≤ i → i < to → f i ≤ within from to f i
in_window from to f i low high = go (nat_lt i from) refl (until_is to f i high)
  where
    go : (b : Bool) → nat_lt i from ≡ b → f i ≤ until to f i → f i ≤ cond b 0 (until to f i)
    go true is le = let below : i < from = grind (arith, nat_tests) in absurd (omega arith)
    go false is le = le

window_most : (from to : ℕ) (f : ℕ → ℕ) (i : ℕ) → within from to f i ≤ f i
window_most from to f i = go (nat_lt i from) (until_most to f i)
  where
    go : (b : Bool) → until to f i ≤ f i → cond b 0 (until to f i) ≤ f i
    go true le = omega arith
    go false le = le

window_none : (from to : ℕ) (f : ℕ → ℕ) (i : ℕ) → (i < from) ⊎ (to ≤ i) → ◌≡◌ {A = ℕ} (within from to f i) 0
window_none from to f i out = go (nat_lt i from) refl (nat_lt i to) refl
  where
    go : (b : Bool) → nat_lt i from ≡ b → (d : Bool) → nat_lt i to ≡ d → ◌≡◌ {A = ℕ} (cond b 0 (cond d (f i) 0)) 0
    go true is d at = refl
    go false is true at = let low : from ≤ i = grind (arith, nat_tests) in let high : i < to = grind (arith, nat_tests) in absurd (⊎_elim (λ p. omega arith) (λ p. omega arith) out)
    go false is false at = refl

window_less : (from to : ℕ) (f g : ℕ → ℕ) → ((i : ℕ) → f i ≤ g i) → (i : ℕ) → within from to f i ≤ within from to g i
window_less from to f g le i = go (nat_lt i from) (until_less to f g le i)
  where
    go : (b : Bool) → until to f i ≤ until to g i → cond b 0 (until to f i) ≤ cond b 0 (until to g i)
    go true one = omega arith
    go false one = one

-- a wider window
window_wider : (from to from' to' : ℕ) (f : ℕ → ℕ) → from' ≤ from → to ≤ to' → (i : ℕ) → within from to f i ≤ within from' to' f i
window_wider from to from' to' f low high i = dite (dec_le from i)
    (λ a. dite (dec_le (i + 1) to)
    (λ b. let x = window_most from to f i in let y = in_window from' to' f i (omega arith) (omega arith) in omega arith)
    (λ b. let none = window_none from to f i (inr (omega arith)) in omega arith))
    (λ a. let none = window_none from to f i (inl (omega arith)) in omega arith)

-- the rows from one on, and those before it
window_both : (from to : ℕ) (f : ℕ → ℕ) (i : ℕ) → within from to f i + within 0 from f i ≤ f i
window_both from to f i = dite (dec_le from i)
    (λ a. let none = window_none 0 from f i (inr a) in let most = window_most from to f i in omega arith)
    (λ a. let none = window_none from to f i (inl (omega arith)) in let most = window_most 0 from f i in omega arith)

-- sums of two

rows_both : (f g k : ℕ → ℕ) → ((i : ℕ) → f i + g i ≤ k i) → (i n : ℕ) → sum_rows f i n + sum_rows g i n ≤ sum_rows k i n
rows_both f g k le i zero = omega arith
rows_both f g k le i (suc n) = let rest = rows_both f g k le i n in let one = le (i + n) in omega arith

module _ (l : Limits) where
  left_both : (f g k : ℕ → ℕ) (lows : List ℕ) → ((i : ℕ) → f i + g i ≤ k i) → (n : ℕ) → sum_left l f lows n + sum_left l g lows n ≤ sum_left l k lows n
  left_both f g k lows le zero = omega arith
  left_both f g k lows le (suc n) = let rest = left_both f g k lows le n in let one = rows_both f g k le (n * l.rows + slice_index lows n) (l.rows - slice_index lows n) in omega arith

  -- by higher marks fewer rows are left
  left_fall : (f : ℕ → ℕ) (lows lows' : List ℕ) → NoneFalls lows lows' → (n : ℕ) → sum_left l f lows' n ≤ sum_left l f lows n
  left_fall f lows lows' up zero = omega arith
  left_fall f lows lows' up (suc n) = let rest = left_fall f lows lows' up n in let a : ℕ = slice_index lows n in let b : ℕ = slice_index lows' n in let rise : a ≤ b = up n in
      dite (dec_le b l.rows)
      (λ inside. let all = sum_apart f (n * l.rows + b) (l.rows - b) (n * l.rows + l.rows) 0 (n * l.rows + a) (l.rows - a) (omega arith) (omega arith) (omega arith) in omega arith)
      (λ out. let none : l.rows - b ≡ 0 = omega arith in let zero_rows : sum_rows f (n * l.rows + b) (l.rows - b) ≡ sum_rows f (n * l.rows + b) 0 = ap (sum_rows f (n * l.rows + b)) none in omega arith)

  module _ (stage : ℕ) where
    -- steps at some rows of a window
    pub lean_span : (k j m most first rows from to : ℕ) (v w : View) → k ≤ most → first ≤ j → j + m ≤ first + rows → from ≤ j → (j + m ≤ to) ⊎ (m ≡ 0) → IsLeanAt l stage k j m v w → IsLeanWithin l stage most first rows from to v w
    lean_span k j m most first rows from to v w le low high from_on top a = lean_few l _ _ v w
        (λ p h. let f = try_steps_at stage p h in
        let own = sum_near f (within from to f) j m (λ i under over. in_window from to f i (omega arith) (⊎_elim (λ t. omega arith) (λ none. absurd (omega arith)) top)) in
        let all = sum_apart (within from to f) j m (j + m) 0 first rows low (omega arith) (omega arith) in omega arith) a

    -- or at none
    pub lean_nowhere : (k j m most first rows from to : ℕ) (v w : View) → k ≤ most → m ≡ 0 → IsLeanAt l stage k j m v w → IsLeanWithin l stage most first rows from to v w
    lean_nowhere k j m most first rows from to v w le none a = lean_few l _ _ v w (λ p h. omega arith) (subst (λ z. IsLeanAt l stage k j z v w) none a)

    -- none, at no row
    pub within_none : (i m from to : ℕ) (v : View) → IsLeanWithin l stage 0 i m from to v v
    within_none i m from to v = lean_few l (λ p h. 0) _ v v (λ p h. omega arith) (lean_none l v)

    -- with others before them
    pub lean_late : (k i m k' most from to : ℕ) (ms : List TraceEntry) (v w x : View) → k + k' ≤ most → Stepped l k ms v w → IsLeanWithin l stage k' i m from to w x → IsLeanWithin l stage most i m from to v x
    lean_late k i m k' most from to ms v w x le a b = lean_then l (λ p h. k) _ _ v w x
        (λ p q h begins after. let less = sum_most (within from to (try_steps_at stage q h)) (within from to (try_steps_at stage p h)) (window_less from to _ _ (λ r. steps_less stage p q h r begins after)) i m in omega arith)
        (lean_made l k ms v w a) b

    pub among_start : (k n from to : ℕ) (lows : List ℕ) (v : View) → IsLeanAmong l stage k lows n from to v v
    among_start k n from to lows v = lean_few l (λ p h. 0) _ v v (λ p h. omega arith) (lean_none l v)

    -- fewer parts
    pub among_parts : (k n most m from to : ℕ) (lows : List ℕ) (v w : View) → k ≤ most → n ≤ m → IsLeanAmong l stage k lows n from to v w → IsLeanAmong l stage most lows m from to v w
    among_parts k n most m from to lows v w le up a = lean_few l _ _ v w (λ p h. let less = left_rises l lows (within from to (try_steps_at stage p h)) n m up in omega arith) a

    -- one part more
    pub among_part : (k n k' most low from to row end : ℕ) (lows : List ℕ) (v w x : View) → k + k' ≤ most → low ≡ slice_index lows n → from ≤ row → end ≤ to
        → IsLeanAmong l stage k lows n from to v w → IsLeanWithin l stage k' (n * l.rows + low) (l.rows - low) row end w x → IsLeanAmong l stage most lows (n + 1) from to v x
    among_part k n k' most low from to row end lows v w x le same behind before a b = lean_then l _ _ _ v w x
        (λ p q h begins after. let f = try_steps_at stage p h in let i : ℕ = n * l.rows + slice_index lows n in let m : ℕ = l.rows - slice_index lows n in
        let less = sum_most (within row end (try_steps_at stage q h)) (within row end f) (window_less row end _ _ (λ r. steps_less stage p q h r begins after)) i m in
        let wide = sum_most (within row end f) (within from to f) (window_wider row end from to f behind before) i m in let next = left_next l lows (within from to f) n in omega arith)
        a (subst (λ z. IsLeanWithin l stage k' (n * l.rows + z) (l.rows - z) row end w x) same b)

    -- rows of the spare blocks alone
    pub span_spare : (lows : List ℕ) (drawn from to : ℕ) (v w : View) → IsLeanWithin l stage (drawn_steps l.spare) (part_rows l) (BLOCK_ROWS * drawn) from to v w → IsLean l (span_steps l stage lows drawn from to) v w
    span_spare lows drawn from to v w a = lean_few l _ _ v w (λ p h. omega arith) a

    -- rows of the parts alone, in a window that is no wider
    pub span_parts : (lows : List ℕ) (drawn from mid to : ℕ) (v w : View) → mid ≤ to → IsLeanAmong l stage (3 * l.parts) lows l.parts from mid v w → IsLean l (span_steps l stage lows drawn from to) v w
    span_parts lows drawn from mid to v w le a = lean_few l _ _ v w
        (λ p h. let f = try_steps_at stage p h in let wide = left_near l lows (within from mid f) (within from to f) l.parts (λ j _. window_wider from mid from to f (omega arith) le j) in omega arith) a

    -- and of both
    pub span_both : (lows : List ℕ) (drawn from mid to : ℕ) (v w x : View) → from ≤ mid → mid ≤ to → IsLeanAmong l stage (3 * l.parts) lows l.parts from mid v w → IsLeanWithin l stage (drawn_steps l.spare) (part_rows l) (BLOCK_ROWS * drawn) mid to w x → IsLean l (span_steps l stage lows drawn from to) v x
    span_both lows drawn from mid to v w x up le a b = lean_then l _ _ _ v w x
        (λ p q h begins after. let f = try_steps_at stage p h in let g = try_steps_at stage q h in let wide = left_near l lows (within from mid f) (within from to f) l.parts (λ j _. window_wider from mid from to f (omega arith) le j) in
        let less = sum_most (within mid to g) (within mid to f) (window_less mid to g f (λ r. steps_less stage p q h r begins after)) (part_rows l) (BLOCK_ROWS * drawn) in
        let own = sum_most (within mid to f) (within from to f) (window_wider mid to from to f up (omega arith)) (part_rows l) (BLOCK_ROWS * drawn) in omega arith) a b

    -- the rows from one on, and then those before it
    pub turn_lean : (lows lows' : List ℕ) (drawn drawn' from to : ℕ) (v w x : View) → NoneFalls lows lows' → drawn ≤ drawn' → IsLean l (span_steps l stage lows drawn from to) v w → IsLean l (span_steps l stage lows' drawn' 0 from) w x → IsLean l (lean_turn_steps l stage lows drawn') v x
    turn_lean lows lows' drawn drawn' from to v w x up more a b = lean_then l _ _ _ v w x
        (λ p q h begins after. let f = try_steps_at stage p h in let g = try_steps_at stage q h in let less : (r : ℕ) → g r ≤ f r = λ r. steps_less stage p q h r begins after in
        let old = left_near l lows' (within 0 from g) (within 0 from f) l.parts (λ j _. window_less 0 from g f less j) in let fall = left_fall (within 0 from f) lows lows' up l.parts in
        let parts = left_both (within from to f) (within 0 from f) f lows (window_both from to f) l.parts in
        let first = sum_less (within from to f) (part_rows l) (BLOCK_ROWS * drawn) (BLOCK_ROWS * drawn') (omega arith) in
        let rest = sum_most (within 0 from g) (within 0 from f) (window_less 0 from g f less) (part_rows l) (BLOCK_ROWS * drawn') in
        let spare = rows_both (within from to f) (within 0 from f) f (window_both from to f) (part_rows l) (BLOCK_ROWS * drawn') in omega arith) a b

    -- or those alone
    pub turn_early : (lows : List ℕ) (drawn from to : ℕ) (v w : View) → IsLean l (span_steps l stage lows drawn from to) v w → IsLean l (lean_turn_steps l stage lows drawn) v w
    turn_early lows drawn from to v w a = lean_few l _ _ v w
        (λ p h. let f = try_steps_at stage p h in let parts = left_near l lows (within from to f) f l.parts (λ j _. window_most from to f j) in
        let spare = sum_most (within from to f) f (window_most from to f) (part_rows l) (BLOCK_ROWS * drawn) in omega arith) a

-- a claim in turn: the choice of a unit, and the look
pub next_lean : (l k : Limits) (stage drawn : ℕ) (lows lows' : List ℕ) (ms : List TraceEntry) (v w y : View) → l ≡ k → lows ≡ lows' → Stepped l 1 ms v w → IsLean l (lean_turn_steps l stage lows drawn) w y → Steady l y
    → StepsTo (lean_claim_next_steps k stage lows' drawn v.seen y.seen) v y
next_lean l k stage drawn lows lows' ms v w y same shown first scan steady = subst (λ (z : Limits × List ℕ). StepsTo (lean_claim_next_steps z.0 stage z.1 drawn v.seen y.seen) v y) (λ i. (same i, shown i))
    ((lean_then l (λ a h. 1) (lean_turn_steps l stage lows drawn) (lean_claim_next_steps l stage lows drawn) v w y
    (λ p q h begins after. let f = try_steps_at stage q h in let g = try_steps_at stage p h in let less : (r : ℕ) → f r ≤ g r = λ r. steps_less stage p q h r begins after in
    let parts = left_near l lows f g l.parts (λ r _. less r) in let spare = sum_most f g less (part_rows l) (BLOCK_ROWS * drawn) in omega arith)
    (lean_made l 1 ms v w first) scan).few y.seen (after_self l y steady))
