-- Which pass is next, read off the passes.
use Rattle.std.proofs.Common.{◌≡◌, ℕ, zero, suc, ◌+◌, ◌-◌, ◌<◌, ◌≤◌, nat_le, nat_lt, Bool, true, false, None, Some, List, [], ◌∷◌, ◌++◌, length, map, get_or, slice_index_or, cond, refl, sym, ◌∙◌, ap, arith}
use Rattle.std.proofs.lemmas.Bool.{and_from, and_left, and_right, le-leb, le-ltb, lt-leb, lt-ltb}
use Rattle.tp_model.specs.declared.types.Limits.{Limits}
use Rattle.tp_model.specs.declared.event.Event.{Event}
use Rattle.tp_plain.specs.declared.pass_state.PassState.{PassState}
use Rattle.tp_plain.specs.OneThread.{State, no_pass, pass_at}
use Rattle.tp_manager.specs.Calls.{claims_in}
use Rattle.tp_manager.specs.Shown.{PassShown}
use Rattle.tp_rollover.specs.Thread.{state_of, thread_of}
use Rattle.tp_rollover.specs.Anew.{drawer, first_from, found_at, has_left, last_below, next_pass, least_units, start_at, units_unclaimed, would_draw}
use Rattle.tp_rollover.specs.declared.places.Cursor.{Cursor}

-- a search upward
module _ (holds : ℕ → Bool) (at len : ℕ) where
  pub first_hit : at < len → holds at ≡ true → first_from holds at (len - at) ≡ Some at
  first_hit less is =
      ap (first_from holds at) (let e : len - at ≡ suc (len - (at + 1)) = omega arith in e)
      ∙ ap (λ b. cond b (Some at) (first_from holds (at + 1) (len - (at + 1)))) is

  pub first_miss : at < len → holds at ≡ false → first_from holds at (len - at) ≡ first_from holds (at + 1) (len - (at + 1))
  first_miss less is =
      ap (first_from holds at) (let e : len - at ≡ suc (len - (at + 1)) = omega arith in e)
      ∙ ap (λ b. cond b (Some at) (first_from holds (at + 1) (len - (at + 1)))) is

  pub first_end : len ≤ at → first_from holds at (len - at) ≡ None
  first_end past = ap (first_from holds at) (let e : len - at ≡ zero = omega arith in e)

-- a search downward
module _ (holds : ℕ → Bool) (at n : ℕ) where
  pub last_hit : n ≡ suc at → holds at ≡ true → last_below holds n ≡ Some at
  last_hit next is = ap (last_below holds) next ∙ ap (λ b. cond b (Some at) (last_below holds at)) is

  pub last_miss : n ≡ suc at → holds at ≡ false → last_below holds n ≡ last_below holds at
  last_miss next is = ap (last_below holds) next ∙ ap (λ b. cond b (Some at) (last_below holds at)) is

pub from_pass : (ps : List PassShown) (rest : List PassState) (c : ℕ) (d : PassShown) → c < length ps → slice_index_or (map state_of ps ++ rest) c no_pass ≡ state_of (get_or ps c d)
from_pass [] rest c d less = absurd (omega (arith, less))
from_pass (p ∷ ps) rest zero d less = refl
from_pass (p ∷ ps) rest (suc c) d less = from_pass ps rest c d (omega (arith, less))

-- what is left to a pass
module _ (l : Limits) (ps : List PassShown) (h : List Event) (c : ℕ) (p : PassShown) (is : p ≡ get_or ps c p) (kept : List Bool) (rows units r u least : ℕ) (is_least : least ≡ least_units kept units c) (less : c < length ps) (rows_are : r ≡ p.left) (units_are : claims_in p.mine + u ≡ l.units) where
  at_pass : pass_at (thread_of l ps h) c ≡ state_of p
  at_pass = from_pass ps _ c p less ∙ ap state_of (sym is)

  left_is : (pass_at (thread_of l ps h) c).left ≡ r
  left_is = ap (λ s. s.left) at_pass ∙ sym rows_are

  pub left_units : units_unclaimed (thread_of l ps h) c ≡ u
  left_units = ap (λ s. l.units - s.claimed) at_pass ∙ omega arith

  pub has_both : rows ≤ r → least ≤ u → has_left kept (thread_of l ps h) rows units c ≡ true
  has_both a b = and_from (nat_le rows (pass_at (thread_of l ps h) c).left) (nat_le (least_units kept units c) (units_unclaimed (thread_of l ps h) c)) (le-leb rows _ (let e = left_is in omega (arith, e, a))) (le-leb (least_units kept units c) _ (let e = left_units in omega (arith, e, b, is_least)))

  pub few_rows : r < rows → has_left kept (thread_of l ps h) rows units c ≡ false
  few_rows a = and_left (nat_le rows (pass_at (thread_of l ps h) c).left) (nat_le (least_units kept units c) (units_unclaimed (thread_of l ps h) c)) (lt-leb rows _ (let e = left_is in omega (arith, e, a)))

  pub few_units : u < least → has_left kept (thread_of l ps h) rows units c ≡ false
  few_units a = and_right (nat_le rows (pass_at (thread_of l ps h) c).left) (nat_le (least_units kept units c) (units_unclaimed (thread_of l ps h) c)) (lt-leb (least_units kept units c) _ (let e = left_units in omega (arith, e, a, is_least)))

  pub draws_here : r < rows → least ≤ u → would_draw kept (thread_of l ps h) rows units c ≡ true
  draws_here a b = and_from (nat_lt (pass_at (thread_of l ps h) c).left rows) (nat_le (least_units kept units c) (units_unclaimed (thread_of l ps h) c)) (lt-ltb _ rows (let e = left_is in omega (arith, e, a))) (le-leb (least_units kept units c) _ (let e = left_units in omega (arith, e, b, is_least)))

  pub enough_rows : rows ≤ r → would_draw kept (thread_of l ps h) rows units c ≡ false
  enough_rows a = and_left (nat_lt (pass_at (thread_of l ps h) c).left rows) (nat_le (least_units kept units c) (units_unclaimed (thread_of l ps h) c)) (le-ltb _ rows (let e = left_is in omega (arith, e, a)))

  pub draws_not : u < least → would_draw kept (thread_of l ps h) rows units c ≡ false
  draws_not a = and_right (nat_lt (pass_at (thread_of l ps h) c).left rows) (nat_le (least_units kept units c) (units_unclaimed (thread_of l ps h) c)) (lt-leb (least_units kept units c) _ (let e = left_units in omega (arith, e, a, is_least)))

-- the pass that goes on in spare blocks
module _ (kept : List Bool) (p : ℕ) (s : State) (rows units c : ℕ) where
  pub drawer_past : p ≤ c → drawer kept p s rows units (Some c) ≡ last_below (would_draw kept s rows units) p
  drawer_past past = ap (λ b. cond b (Some c) (last_below (would_draw kept s rows units) p)) (and_left (nat_lt c p) (nat_le (least_units kept units c) (units_unclaimed s c)) (le-ltb c p past))

  pub drawer_used : units_unclaimed s c < least_units kept units c → drawer kept p s rows units (Some c) ≡ last_below (would_draw kept s rows units) p
  drawer_used used = ap (λ b. cond b (Some c) (last_below (would_draw kept s rows units) p)) (and_right (nat_lt c p) (nat_le (least_units kept units c) (units_unclaimed s c)) (lt-leb (least_units kept units c) (units_unclaimed s c) used))

  pub drawer_on : c < p → least_units kept units c ≤ units_unclaimed s c → drawer kept p s rows units (Some c) ≡ Some c
  drawer_on less enough = ap (λ b. cond b (Some c) (last_below (would_draw kept s rows units) p)) (and_from (nat_lt c p) (nat_le (least_units kept units c) (units_unclaimed s c)) (lt-ltb c p less) (le-leb (least_units kept units c) (units_unclaimed s c) enough))

-- the next pass
module _ (p : ℕ) (s : State) (home rows units : ℕ) (cursor : Cursor) (from : ℕ) (begins : from ≡ start_at p cursor.at home) where
  from_here : next_pass p s home rows units cursor ≡ found_at (first_from (has_left cursor.kept s rows units) from (p - from)) (drawer cursor.kept p s rows units cursor.block) p cursor
  from_here = ap (λ f. found_at (first_from (has_left cursor.kept s rows units) f (p - f)) (drawer cursor.kept p s rows units cursor.block) p cursor) (sym begins)

  pub next_first : (c : ℕ) → Some c ≡ first_from (has_left cursor.kept s rows units) from (p - from) → next_pass p s home rows units cursor ≡ Some (c, record { at = c; block = cursor.block; kept = cursor.kept })
  next_first c is = from_here ∙ ap (λ o. found_at o (drawer cursor.kept p s rows units cursor.block) p cursor) (sym is)

  pub next_drawn : (c : ℕ) → None ≡ first_from (has_left cursor.kept s rows units) from (p - from) → Some c ≡ drawer cursor.kept p s rows units cursor.block → next_pass p s home rows units cursor ≡ Some (c, record { at = p; block = Some c; kept = cursor.kept })
  next_drawn c none is = from_here ∙ (ap (λ o. found_at o (drawer cursor.kept p s rows units cursor.block) p cursor) (sym none) ∙ ap (λ o. found_at None o p cursor) (sym is))

  pub next_full : None ≡ first_from (has_left cursor.kept s rows units) from (p - from) → None ≡ drawer cursor.kept p s rows units cursor.block → next_pass p s home rows units cursor ≡ None
  next_full none is = from_here ∙ (ap (λ o. found_at o (drawer cursor.kept p s rows units cursor.block) p cursor) (sym none) ∙ ap (λ o. found_at None o p cursor) (sym is))
