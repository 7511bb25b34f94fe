-- Runs of requests among the births, and what a turn of births leaves.
use Rattle.std.proofs.Common.{◌≡◌, ℕ, zero, suc, ◌+◌, ◌-◌, ◌*◌, ◌<◌, ◌≤◌, ◌++◌, nat_le, nat_lt, All, Bool, true, false, cond, Option, Some, None, Result, Ok, Err, OnOk, List, [], ◌∷◌, drop, length, slice_index_or, take, refl, sym, ◌∙◌, ap, subst, arith, length-append}
use Rattle.std.proofs.Math.Nat.{mul-add}
use Rattle.std.proofs.lemmas.Bool.{and_from, and_left, eq-eqb, le-leb, le-ltb}
use Rattle.std.proofs.lemmas.List.{get_or-set_same, length-take-le}
use Rattle.std.specs.Option.{option_and_then}
use Rattle.std.specs.Result.{IsErrAnd}
use Rattle.tp_model.specs.declared.types.Limits.{Limits}
use Rattle.tp_model.specs.declared.types.Refusal.TheVariants as refusal
use Rattle.tp_model.specs.declared.types.TheConstants.{BLOCK_ROWS}
use Rattle.tp_plain.specs.declared.pass_state.PassState.{PassState}
use Rattle.tp_plain.specs.Computed.{has_room, is_server_stage, with_request}
use Rattle.tp_plain.specs.OneThread.{State, draws_block, first_row, no_pass, pass_at, ready, used_up}
use Rattle.tp_manager.specs.Bounds.{gather_steps, submit_steps}
use Rattle.tp_manager.specs.Shown.{KeeperShown, PassShown}
use Rattle.tp_rollover.specs.Anew.{Bearing, Placing, born_from, carrier_by, given, has_left, home_of, named_in, next_born, next_pass, placed_by, root_or_group, group_born, start_at, submitted, units_unclaimed}
use Rattle.tp_rollover.specs.Bounds.{AllMake, bear_steps, commit_on_steps, gathered}
use Rattle.tp_rollover.specs.Lone.{Agrees}
use Rattle.tp_rollover.specs.Runs.{BearsOn, StaysInPart, named_root, newly, roots_born}
use Rattle.tp_rollover.specs.declared.births.Family.{Family}
use Rattle.tp_rollover.specs.declared.births.Group.{Group}
use Rattle.tp_rollover.specs.declared.moved.Moved.{Moved}
use Rattle.tp_rollover.specs.declared.places.Cursor.{Cursor}
use Rattle.tp_rollover.specs.declared.stops.Stop.{Stop}
use Rattle.tp_rollover.specs.declared.stops.Stop.TheVariants as stops
use Rattle.tp_rollover.specs.declared.survivors.Survivor.{Survivor}
use Rattle.tp_rollover.proofs.BirthsAll.{born_more}
use Rattle.tp_rollover.proofs.BirthsPlaces.{first_hit, next_first}
use Rattle.tp_rollover.proofs.BirthsSteps.{share, up}

-- ---- rows that are left

there_is : (passes : List PassState) (c : ℕ) → 1 ≤ (slice_index_or passes c no_pass).left → c < length passes
there_is [] c some = absurd (omega (arith, some))
there_is (p ∷ passes) zero some = omega arith
there_is (p ∷ passes) (suc c) some = let e = there_is passes c some in omega (arith, e)

same_state : (x y : ℕ × State) → Some x ≡ Some y → x.1 ≡ y.1
same_state x y e = cc

-- a pass that submits has one less
module _ (s : State) (c stage : ℕ) (body : List ℕ) where
  left_after : (k : ℕ) → suc k ≤ (pass_at s c).left → k ≤ (pass_at (with_request s c stage body) c).left
  left_after k some =
      let set : pass_at (with_request s c stage body) c ≡ used_up (ready s c 1) 1 = get_or-set_same s.passes c (used_up (ready s c 1) 1) no_pass (there_is s.passes c (omega (arith, some))) in
      let none : draws_block s c 1 ≡ false = and_left (nat_lt (pass_at s c).left 1) (nat_lt s.drawn s.limits.spare) (le-ltb (pass_at s c).left 1 (omega (arith, some))) in
      let left : (ready s c 1).left ≡ (pass_at s c).left = ap (λ b. cond b BLOCK_ROWS (pass_at s c).left) none in
      let now : (pass_at (with_request s c stage body) c).left ≡ (ready s c 1).left - 1 = ap (λ (p : PassState). p.left) set in
      omega (arith, some, left, now)

  submitted_is : (id : ℕ) (s' : State) → submitted c stage body s ≡ Some (id, s') → s' ≡ with_request s c stage body
  submitted_is id s' e = go (is_server_stage stage) (has_room s c 1) e
    where
      go : (a b : Bool) → given (cond a (cond b (Ok (first_row s c 1), with_request s c stage body) (Err refusal.Full, s)) (Err refusal.BadStage, s)) ≡ Some (id, s') → s' ≡ with_request s c stage body
      go true true e = sym (same_state (first_row s c 1, with_request s c stage body) (id, s') e)
      go true false e = absurd cc
      go false b e = absurd cc

  pub left_next : (k id : ℕ) (s' : State) → suc k ≤ (pass_at s c).left → submitted c stage body s ≡ Some (id, s') → k ≤ (pass_at s' c).left
  left_next k id s' some e = subst (λ t. k ≤ (pass_at t c).left) (sym (submitted_is id s' e)) (left_after k some)

-- ---- a run

-- as many are named as were born
pub roots_long : (c : ℕ) (roots : List Survivor) (x y : List Moved × State) → roots_born c roots x ≡ Some y → length y.0 ≡ length x.0 + length roots
roots_long c [] x y e = let f : length x.0 ≡ length y.0 = same x y e in omega (arith, f)
  where
    same : (x y : List Moved × State) → Some x ≡ Some y → length x.0 ≡ length y.0
    same x y e = cc
roots_long c (s ∷ roots) x y e = go (submitted c s.root_stage s.root_body x.1) (λ t f. roots_long c roots (x.0 ++ named_root s t.0 ∷ [], t.1) y f) e
  where
    go : (o : Option (ℕ × State)) → ((t : ℕ × State) → roots_born c roots (x.0 ++ named_root s t.0 ∷ [], t.1) ≡ Some y → length y.0 ≡ length (x.0 ++ named_root s t.0 ∷ []) + length roots)
        → option_and_then (λ (t : ℕ × State). roots_born c roots (x.0 ++ named_root s t.0 ∷ [], t.1)) o ≡ Some y → length y.0 ≡ length x.0 + suc (length roots)
    go None rest e = absurd cc
    go (Some t) rest e = let f = rest t e in let g = length-append x.0 (named_root s t.0 ∷ []) in omega (arith, f, g)

module _ (l : Limits) (p : ℕ) (cursor : Cursor) (families : List Family) (inside : cursor.at < p) where
  abbrev bears : State → Bearing
  bears s = record { placing = record { manager = s; cursor = cursor }; families = families }

  -- the pass in whose part births go on is next again
  next_is : (s : State) (home : ℕ) → start_at p cursor.at home ≡ cursor.at → 1 ≤ (pass_at s cursor.at).left → next_pass p s home 1 0 cursor ≡ Some (cursor.at, cursor)
  next_is s home begins some =
      let holds : has_left cursor.kept s 1 0 cursor.at ≡ true = and_from (nat_le 1 (pass_at s cursor.at).left) (nat_le 0 (units_unclaimed s cursor.at)) (le-leb 1 (pass_at s cursor.at).left some) (le-leb 0 (units_unclaimed s cursor.at) (omega arith)) in
      next_first p s home 1 0 cursor cursor.at (sym begins) cursor.at (sym (first_hit (has_left cursor.kept s 1 0) cursor.at p inside holds))

  -- what one of them leaves
  abbrev made_root : ℕ × State → Option (Group × Bearing)
  made_root made = Some (record { root = made.0; first = made.0; count = 1 }, bears made.1)

  born_is : (one : Survivor) (rest : List Survivor) (s : State) → StaysInPart l p cursor.at families one → 1 ≤ (pass_at s cursor.at).left
      → next_born l p (one ∷ rest) (bears s) ≡ option_and_then made_root (submitted cursor.at one.root_stage one.root_body s)
  born_is one rest s on some =
      let home = home_of l one.id in
      let call : ℕ × Cursor → Option (ℕ × Placing) = λ next. option_and_then (λ (made : ℕ × State). Some (placed_by next.1 made)) (submitted next.0 one.root_stage one.root_body s) in
      let both : ℕ × Placing → Option ((ℕ × ℕ) × Placing) = λ made. Some ((made.0, made.0), made.1) in
      let then : (ℕ × ℕ) × Placing → Option (Group × Bearing) = root_or_group l p one (one ∷ rest) families in
      ap (λ c. option_and_then then (carrier_by p one home c (bears s).placing)) on.unborn
      ∙ (ap (λ o. option_and_then then (option_and_then both (option_and_then call o))) (next_is s home on.here some)
      ∙ go (submitted cursor.at one.root_stage one.root_body s))
    where
      go : (o : Option (ℕ × State)) → option_and_then (root_or_group l p one (one ∷ rest) families) (option_and_then (λ (made : ℕ × Placing). Some ((made.0, made.0), made.1)) (option_and_then (λ (made : ℕ × State). Some (placed_by cursor made)) o))
          ≡ option_and_then made_root o
      go None = refl
      go (Some made) = ap (λ b. cond b (made_root made) (group_born l p one (one ∷ rest) families (made.0, made.0) (placed_by cursor made).1)) (eq-eqb one.id one.root on.root)

  abbrev behind : ℕ → List Survivor → List Moved × State → Option (List Moved × State)
  behind n rest x = born_from l p n rest x.0 (bears x.1)

  one_of_run : (one : Survivor) (rest : List Survivor) (k n : ℕ) (moved : List Moved) (s : State) → StaysInPart l p cursor.at families one → 1 ≤ (pass_at s cursor.at).left
      → ((id : ℕ) (s' : State) → submitted cursor.at one.root_stage one.root_body s ≡ Some (id, s')
      → behind (k + n) rest (moved ++ named_root one id ∷ [], s') ≡ option_and_then (behind n (drop k rest)) (roots_born cursor.at (take k rest) (moved ++ named_root one id ∷ [], s')))
      → born_from l p (suc (k + n)) (one ∷ rest) moved (bears s) ≡ option_and_then (behind n (drop k rest)) (roots_born cursor.at (one ∷ take k rest) (moved, s))
  one_of_run one rest k n moved s on some goes =
      ap (option_and_then (λ (born : Group × Bearing). born_from l p (k + n) (drop born.0.count (one ∷ rest)) (moved ++ named_in born.0 (one ∷ rest)) born.1)) (born_is one rest s on some)
      ∙ go (submitted cursor.at one.root_stage one.root_body s) refl
    where
      go : (o : Option (ℕ × State)) → submitted cursor.at one.root_stage one.root_body s ≡ o
          → option_and_then (λ (born : Group × Bearing). born_from l p (k + n) (drop born.0.count (one ∷ rest)) (moved ++ named_in born.0 (one ∷ rest)) born.1) (option_and_then made_root o)
          ≡ option_and_then (behind n (drop k rest)) (option_and_then (λ (made : ℕ × State). roots_born cursor.at (take k rest) (moved ++ named_root one made.0 ∷ [], made.1)) o)
      go None is = refl
      go (Some made) is = goes made.0 made.1 is

  pub born_run : (k n : ℕ) (rest : List Survivor) (moved : List Moved) (s : State) → k ≤ length rest → k ≤ (pass_at s cursor.at).left → All (StaysInPart l p cursor.at families) (take k rest)
      → born_from l p (k + n) rest moved (bears s) ≡ option_and_then (behind n (drop k rest)) (roots_born cursor.at (take k rest) (moved, s))
  born_run zero n rest moved s less left on = ap (λ m. born_from l p m rest moved (bears s)) (let e : zero + n ≡ n = omega arith in e)
  born_run (suc k) n [] moved s less left on = absurd (omega (arith, less))
  born_run (suc k) n (one ∷ rest) moved s less left on =
      ap (λ m. born_from l p m (one ∷ rest) moved (bears s)) (let e : suc k + n ≡ suc (k + n) = omega arith in e)
      ∙ one_of_run one rest k n moved s (on 0 one (omega arith)) (omega (arith, left))
      (λ id s' e. born_run k n rest (moved ++ named_root one id ∷ []) s' (omega (arith, less)) (left_next s cursor.at one.root_stage one.root_body k id s' left e) (λ i d in_run. on (suc i) d (omega (arith, in_run))))

  module _ (rest : List Survivor) (count : ℕ) (some : 1 ≤ count) (within : count ≤ length rest) (s s' : State) (left : count ≤ (pass_at s cursor.at).left) (on : All (StaysInPart l p cursor.at families) (take count rest)) (moved moved' : List Moved) where
    run_long : roots_born cursor.at (take count rest) (moved, s) ≡ Some (moved', s') → length moved' ≡ length moved + count
    run_long e = let f = roots_long cursor.at (take count rest) (moved, s) (moved', s') e in let g = length-take-le count rest within in omega (arith, f, g)

    pub run_bears : {A : Type 0} (result : Result A Stop) → Agrees result (λ x. (moved', s')) (roots_born cursor.at (take count rest) (moved, s)) → BearsOn l p rest moved moved' (bears s) (bears s') result
    run_bears (Ok x) e = record {
      turns = count;
      count = count;
      few = omega arith;
      some = some;
      inside = within;
      many = run_long e;
      same = λ n. born_run count n rest moved s within left on ∙ ap (option_and_then (behind n (drop count rest))) e;
    }
    run_bears (Err stops.NoMemory) e = tt
    run_bears (Err stops.Full) e = record {
      turns = count;
      few = within;
      none = λ n. born_run count n rest moved s within left on ∙ ap (option_and_then (behind n (drop count rest))) e;
    }
    run_bears (Err stops.Unequal) e = record {
      turns = count;
      few = within;
      none = λ n. born_run count n rest moved s within left on ∙ ap (option_and_then (behind n (drop count rest))) e;
    }

-- ---- a turn

-- where nothing is computed
short_bears : (A : Type 0) {X : Type 0} (l : Limits) (p : ℕ) (rest : List Survivor) (moved moved' : List Moved) (b b' : Bearing) (why : Stop) (value : X → Group × Bearing) → 1 ≤ length rest → Agrees (Err why) value (next_born l p rest b)
    → BearsOn {A = A} l p rest moved moved' b b' (Err why)
short_bears A l p rest moved moved' b b' stops.NoMemory value some none = tt
short_bears A l p [] moved moved' b b' stops.Full value some none = absurd (omega (arith, some))
short_bears A l p (s ∷ rest) moved moved' b b' stops.Full value some none = record {
  turns = 1;
  few = some;
  none = λ n. ap (λ m. born_from l p m (s ∷ rest) moved b) (let e : 1 + n ≡ suc n = omega arith in e)
      ∙ ap (option_and_then (λ (born : Group × Bearing). born_from l p n (drop born.0.count (s ∷ rest)) (moved ++ named_in born.0 (s ∷ rest)) born.1)) none;
}
short_bears A l p [] moved moved' b b' stops.Unequal value some none = absurd (omega (arith, some))
short_bears A l p (s ∷ rest) moved moved' b b' stops.Unequal value some none = record {
  turns = 1;
  few = some;
  none = λ n. ap (λ m. born_from l p m (s ∷ rest) moved b) (let e : 1 + n ≡ suc n = omega arith in e)
      ∙ ap (option_and_then (λ (born : Group × Bearing). born_from l p n (drop born.0.count (s ∷ rest)) (moved ++ named_in born.0 (s ∷ rest)) born.1)) none;
}

pub group_short : (A : Type 0) {X : Type 0} (l : Limits) (p : ℕ) (rest : List Survivor) (moved moved' : List Moved) (b b' : Bearing) (r : Result A Stop) (why : Stop) (value : X → Group × Bearing) → 1 ≤ length rest → IsErrAnd r (λ e. e ≡ why)
    → Agrees (Err why) value (next_born l p rest b) → BearsOn l p rest moved moved' b b' r
group_short A l p rest moved moved' b b' (Ok x) why value some is none = absurd is
group_short A l p rest moved moved' b b' (Err e) why value some is none = short_bears A l p rest moved moved' b b' e value some (subst (λ z. Agrees (Err z) value (next_born l p rest b)) (sym is) none)

pub group_bears : {A : Type 0} (l : Limits) (p : ℕ) (rest : List Survivor) (moved moved' : List Moved) (b b' : Bearing) (result : Result A Stop) (g : Group) → next_born l p rest b ≡ Some (g, b') → 1 ≤ length rest → 1 ≤ g.count → g.count ≤ length rest
    → Agrees result (λ x. moved') (Some (moved ++ named_in g rest)) → OnOk result (length moved' ≡ length moved + g.count) → BearsOn l p rest moved moved' b b' result
group_bears l p rest moved moved' b b' (Ok x) g born left some inside named many = record {
  turns = 1;
  count = g.count;
  few = some;
  some = some;
  inside = inside;
  many = many;
  same = λ n. ap (λ m. born_from l p m rest moved b) (let e : 1 + n ≡ suc n = omega arith in e)
      ∙ (born_more l p n rest moved b b' g left born ∙ ap (λ ms. born_from l p n (drop g.count rest) ms b') (names moved' (moved ++ named_in g rest) named));
}
  where
    names : (ms ns : List Moved) → Some ns ≡ Some ms → ns ≡ ms
    names ms ns e = cc
group_bears l p rest moved moved' b b' (Err stops.NoMemory) g born left some inside named many = tt
group_bears l p rest moved moved' b b' (Err stops.Full) g born left some inside named many = absurd cc
group_bears l p rest moved moved' b b' (Err stops.Unequal) g born left some inside named many = absurd cc

-- ---- steps

-- a run takes no more than each by itself
run_cost : (l : Limits) (q n : ℕ) → 1 ≤ n → gathered l q (n * submit_steps l) ≤ n * bear_steps l q 1
run_cost l q n some =
    let g = gather_steps l q in
    let e = share n g (submit_steps l) some in
    let f = mul-add n (g + submit_steps l) (commit_on_steps l q 2) in
    let same : n * bear_steps l q 1 ≡ n * ((g + submit_steps l) + commit_on_steps l q 2) = ap (λ x. n * x) (let x : bear_steps l q 1 ≡ (g + submit_steps l) + commit_on_steps l q 2 = omega arith in x) in
    omega (arith, e, f, same)

module _ (l : Limits) (q : ℕ) (k k' : KeeperShown) (ps qs : List PassShown) (rest : List Survivor) (moved moved' : List Moved) (n : ℕ) (inside : n ≤ length rest) where
  -- so many were born in a turn
  pub turn_made : {A : Type 0} (result : Result A Stop) → OnOk result (length moved' ≡ length moved + n) → AllMake (n * bear_steps l q 1) k ps k' qs → AllMake (newly rest moved moved' result * bear_steps l q 1) k ps k' qs
  turn_made (Ok x) many made = subst (λ m. AllMake (m * bear_steps l q 1) k ps k' qs) (omega (arith, many)) made
  turn_made (Err e) many made = up l q n (length rest) k k' ps qs inside made

  pub run_takes : 1 ≤ n → AllMake (gathered l q (length (take n rest) * submit_steps l)) k ps k' qs → AllMake (n * bear_steps l q 1) k ps k' qs
  run_takes some made =
      let known = subst (λ m. AllMake (gathered l q (m * submit_steps l)) k ps k' qs) (length-take-le n rest inside) made in
      more (gathered l q (n * submit_steps l)) (n * bear_steps l q 1) (run_cost l q n some) known
    where
      more : (a b : ℕ) → a ≤ b → AllMake a k ps k' qs → AllMake b k ps k' qs
      more a b less made = omega (arith, less, made)

pub run_many : {A : Type 0} (c n : ℕ) (rest : List Survivor) (moved moved' : List Moved) (s s' : State) (result : Result A Stop) → n ≤ length rest → Agrees result (λ x. (moved', s')) (roots_born c (take n rest) (moved, s)) → OnOk result (length moved' ≡ length moved + n)
run_many c n rest moved moved' s s' (Ok x) within e = let f = roots_long c (take n rest) (moved, s) (moved', s') e in let g = length-take-le n rest within in omega (arith, f, g)
run_many c n rest moved moved' s s' (Err why) within e = tt
