-- Each round of a drain that claims something uses a unit of work, and there are this many units and no more.
use Rattle.std.proofs.Common.{◌≡◌, ℕ, zero, suc, ◌+◌, ◌-◌, ◌*◌, ◌<◌, ◌≤◌, ◌||◌, nat_lt, Bool, true, false, List, [], ◌∷◌, length, Option, Some, None, Result, Ok, Err, slice_set, refl, sym, ◌∙◌, ap, subst, arith}
use Rattle.std.specs.Prelude.{slice_get, sum_by, if◌then◌else◌}
use Rattle.std.proofs.lemmas.Bool.{ltb-true}
use Rattle.std.proofs.lemmas.List.{length-set}
use Rattle.std.proofs.lemmas.List.Sums.{sum_by-cons, sum_by-set}
use Rattle.std.proofs.Math.Nat.{suc-mul}
use Rattle.tp_model.specs.Drafts.{DraftView}
use Rattle.tp_model.specs.declared.types.Claimed.{Claimed}
use Rattle.tp_model.specs.declared.types.Claimed.TheVariants as claimed
use Rattle.tp_model.specs.declared.types.Limits.{Limits}
use Rattle.tp_model.specs.declared.types.Look.{Look}
use Rattle.tp_model.specs.declared.types.Outcome.{Outcome}
use Rattle.tp_model.specs.declared.types.Outcome.TheVariants as outcome
use Rattle.tp_model.specs.declared.types.Work.{Work}
use Rattle.tp_model.specs.History.{Aborted, Committed, UnitEnd, end_of}
use Rattle.tp_plain.specs.declared.pass_state.PassState.{PassState}
use Rattle.tp_plain.specs.Computed.{abort_at, abort_of, claim_found, claim_next_found, commit_at, commit_of, has_room, next_waiting, unit_in_hand}
use Rattle.tp_plain.specs.OneThread as thread
use Rattle.tp_plain.specs.OneThread.{no_pass, pass_at, turn_of_pass}
use Rattle.tp_server.specs.declared.recipe.Recipe.{Recipe}
use Rattle.tp_server.specs.declared.recipe.Declined.{Declined}
use Rattle.tp_server.specs.Effect.{Effect, effect_of}
use Rattle.tp_server.specs.declared.order.Order.{Order}
use Rattle.tp_server.specs.declared.order.Order.TheVariants.{LeastFirst, InTurn}
use Rattle.tp_script.specs.Script.{ServerView}
use Rattle.tp_reference.specs.declared.plain_desk.PlainDesk.{PlainDesk}
use Rattle.tp_reference.specs.PlainDesks.{DeskAnswered, claim_in_order, committed_as, takes_part, settle, settle_with, turn_as, turn_by}
use Rattle.tp_reference.specs.PlainReport.{ReportState, has_claimed, most_rounds, round_below, round_of, round_turn, drain_rounds, worker}
use Rattle.tp_reference.specs.DrainEnds.{DrainsEnd}

-- how many units of work were begun
abbrev begun : PassState → ℕ
begun p = p.claimed

-- how many are left to a pass that may begin this many, and to all passes
abbrev left_of : ℕ → PassState → ℕ
left_of units p = units - begun p

abbrev units_left : ℕ → List PassState → ℕ
units_left units passes = sum_by (left_of units) passes

-- k units fewer at least are left
record Spends (k : ℕ) (m m' : thread.State) : Type 0 where
  pub limits : m'.limits ≡ m.limits
  pub passes : length m'.passes ≡ length m.passes
  pub left : k + units_left m.limits.units m'.passes ≤ units_left m.limits.units m.passes

spends_none : (m : thread.State) → Spends 0 m m
spends_none m = record { limits = refl; passes = refl; left = omega arith }

spends_fewer : (j k : ℕ) (m m' : thread.State) → j ≤ k → Spends k m m' → Spends j m m'
spends_fewer j k m m' fewer s = let left = s.left in record { limits = s.limits; passes = s.passes; left = omega arith }

spends_on : (j k : ℕ) (m m' m'' : thread.State) → Spends j m m' → Spends k m' m'' → Spends (j + k) m m''
spends_on j k m m' m'' a b =
    let x = a.left in
    let y : k + units_left m.limits.units m''.passes ≤ units_left m.limits.units m'.passes = subst (λ (l : Limits). k + units_left l.units m''.passes ≤ units_left l.units m'.passes) a.limits b.left in
    record { limits = b.limits ∙ a.limits; passes = b.passes ∙ a.passes; left = omega arith }

-- one pass goes on, and begins k units that are left to it
spends_set : (k : ℕ) (m m' : thread.State) (c : ℕ) (p : PassState) → m'.limits ≡ m.limits → m'.passes ≡ slice_set m.passes c p → c < length m.passes
    → k + left_of m.limits.units p ≡ left_of m.limits.units (pass_at m c) → Spends k m m'
spends_set k m m' c p same set there fewer = record {
  limits = same;
  passes = ap length set ∙ length-set m.passes c p;
  left =
      let sums = sum_by-set (left_of m.limits.units) m.passes c p no_pass there in
      let now : units_left m.limits.units m'.passes ≡ units_left m.limits.units (slice_set m.passes c p) = ap (units_left m.limits.units) set in
      omega (arith, sums, now, fewer);
}

module _ (m : thread.State) (c : ℕ) (there : c < length m.passes) where
  -- a pass that begins none
  stays_at : (m' : thread.State) (p : PassState) → m'.limits ≡ m.limits → m'.passes ≡ slice_set m.passes c p → begun p ≡ begun (pass_at m c) → Spends 0 m m'
  stays_at m' p same set is = spends_set 0 m m' c p same set there (omega (arith, is))

  -- an abort
  abort_spends : (u : ℕ) (how : Option UnitEnd) → Spends 0 m (abort_at m c u how).1
  abort_spends u None = stays_at (abort_at m c u None).1 _ refl refl refl
  abort_spends u (Some (Committed first count)) = stays_at (abort_at m c u (Some (Committed first count))).1 _ refl refl refl
  abort_spends u (Some Aborted) = stays_at (abort_at m c u (Some Aborted)).1 _ refl refl refl

  gives_up : Spends 0 m (abort_of m c).1
  gives_up = abort_spends (unit_in_hand m c) (end_of m.history (unit_in_hand m c))

  -- a commit
  commit_at_spends : (u : ℕ) (drafts : List DraftView) (how : Option UnitEnd) → Spends 0 m (commit_at m c u drafts how).1
  commit_at_spends u drafts None = stays_at (commit_at m c u drafts None).1 _ refl refl refl
  commit_at_spends u drafts (Some (Committed first count)) = stays_at (commit_at m c u drafts (Some (Committed first count))).1 _ refl refl refl
  commit_at_spends u drafts (Some Aborted) = stays_at (commit_at m c u drafts (Some Aborted)).1 _ refl refl refl

  commit_spends : (drafts : List DraftView) → Spends 0 m (commit_of m c drafts).1
  commit_spends drafts = go (has_room m c (length drafts))
    where
      go : (b : Bool) → Spends 0 m (if b then commit_at m c (unit_in_hand m c) drafts (end_of m.history (unit_in_hand m c)) else (outcome.Full, (abort_of m c).1)).1
      go true = commit_at_spends (unit_in_hand m c) drafts (end_of m.history (unit_in_hand m c))
      go false = gives_up

  -- a claim
  abbrev taken : Claimed → ℕ
  taken (claimed.Work w) = 1
  taken claimed.Idle = 0
  taken claimed.NoUnit = 0

  begins : (m' : thread.State) (p : PassState) → begun (pass_at m c) < m.limits.units → m'.limits ≡ m.limits → m'.passes ≡ slice_set m.passes c p → begun p ≡ begun (pass_at m c) + 1 → Spends 1 m m'
  begins m' p room same set is = spends_set 1 m m' c p same set there (omega (arith, is, room))

  least_spends : (o : Option Look) → begun (pass_at m c) < m.limits.units → let r = claim_found m c o in Spends (taken r.0) m r.1
  least_spends None room = spends_none m
  least_spends (Some look) room = begins (claim_found m c (Some look)).1 _ room refl refl refl

  next_spends : (stage : ℕ) (o : Option Look) → begun (pass_at m c) < m.limits.units → let r = claim_next_found m c stage o in Spends (taken r.0) m r.1
  next_spends stage None room = spends_none m
  next_spends stage (Some look) room = begins (claim_next_found m c stage (Some look)).1 _ room refl refl refl

  claim_spends : (order : Order) (stage : ℕ) → let r = claim_in_order order m c stage in Spends (taken r.0) m r.1
  claim_spends LeastFirst stage = go (nat_lt (pass_at m c).claimed m.limits.units) refl
    where
      go : (b : Bool) → nat_lt (pass_at m c).claimed m.limits.units ≡ b → let r = (if b then claim_found m c (next_waiting m 0 stage) else (claimed.NoUnit, m)) in Spends (taken r.0) m r.1
      go true is = least_spends (next_waiting m 0 stage) (ltb-true _ _ is)
      go false is = spends_none m
  claim_spends InTurn stage = go (nat_lt (pass_at m c).claimed m.limits.units) refl
    where
      go : (b : Bool) → nat_lt (pass_at m c).claimed m.limits.units ≡ b → let r = (if b then claim_next_found m c stage (next_waiting m (turn_of_pass m c stage) stage) else (claimed.NoUnit, m)) in Spends (taken r.0) m r.1
      go true is = next_spends stage (next_waiting m (turn_of_pass m c stage) stage) (ltb-true _ _ is)
      go false is = spends_none m

-- what is done with work begins no unit
module _ (m : thread.State) (c : ℕ) (there : c < length m.passes) (work : Work) (d : PlainDesk) where
  committed_spends : (effect : Effect) (r : Outcome × thread.State) → Spends 0 m r.1 → Spends 0 m (committed_as work effect r d).manager
  committed_spends effect (outcome.Committed first count, t) s = s
  committed_spends effect (outcome.Lost, t) s = s
  committed_spends effect (outcome.Full, t) s = s

  settle_spends : (r : Result Effect Declined) → Spends 0 m (settle_with work r c m d).manager
  settle_spends (Ok effect) = committed_spends effect (commit_of m c effect.drafts) (commit_spends m c there effect.drafts)
  settle_spends (Err why) = gives_up m c there

-- a turn begins a unit where it claims
abbrev counts : Bool → ℕ
counts true = 1
counts false = 0

counts_few : (b : Bool) → counts b ≤ 1
counts_few true = omega arith
counts_few false = omega arith

counts_or : (a b : Bool) → counts (a || b) ≤ counts a + counts b
counts_or true b = omega arith
counts_or false b = omega arith

module _ (m : thread.State) (c : ℕ) (there : c < length m.passes) (recipe : Recipe) (d : PlainDesk) where
  turn_as_spends : (r : Claimed × thread.State) → Spends (taken m c there r.0) m r.1 → let done = turn_as recipe c r d in Spends (counts (has_claimed done.answer)) m done.manager
  turn_as_spends (claimed.Work work, t) s =
      let done = settle recipe work c t d in
      let at : c < length t.passes = let long = s.passes in omega (arith, long, there) in
      spends_fewer (counts (has_claimed done.answer)) (1 + 0) m done.manager (let few = counts_few (has_claimed done.answer) in omega arith)
      (spends_on 1 0 m t done.manager s (settle_spends t c at work d (effect_of recipe d.registers work.element)))
  turn_as_spends (claimed.Idle, t) s = s
  turn_as_spends (claimed.NoUnit, t) s = s

  turn_spends : (order : Order) → let done = turn_by order recipe c m d in Spends (counts (has_claimed done.answer)) m done.manager
  turn_spends order = turn_as_spends (claim_in_order order m c recipe.stage) (claim_spends m c there order recipe.stage)

-- a round
module _ (order : Order) (servers : List ServerView) where
  free_spends : (server : ServerView) (desk : PlainDesk) (i : ℕ) (s : ReportState) → worker i < length s.manager.passes → let r = round_turn order (Some server) (Some desk) i s in Spends (counts r.0) s.manager r.1.manager
  free_spends server desk i s there = go (takes_part s.manager (worker i) desk)
    where
      done : DeskAnswered
      done = turn_by order server.recipe (worker i) s.manager desk

      go : (b : Bool) → let r : Bool × ReportState = (if b then (has_claimed done.answer, record { manager = done.manager; desks = slice_set s.desks i done.desk }) else (false, s)) in Spends (counts r.0) s.manager r.1.manager
      go true = turn_spends s.manager (worker i) there server.recipe desk order
      go false = spends_none s.manager

  one_spends : (a : Option ServerView) (b : Option PlainDesk) (i : ℕ) (s : ReportState) → worker i < length s.manager.passes → let r = round_turn order a b i s in Spends (counts r.0) s.manager r.1.manager
  one_spends (Some server) (Some desk) i s there = free_spends server desk i s there
  one_spends (Some server) None i s there = spends_none s.manager
  one_spends None b i s there = spends_none s.manager

  below_spends : (n : ℕ) (s : ReportState) → n < length s.manager.passes → let r = round_below order servers n s in Spends (counts r.0) s.manager r.1.manager
  unfolding round_below
  below_spends zero s there = spends_none s.manager
  below_spends (suc i) s there =
      let before = round_below order servers i s in
      let turn = round_turn order (slice_get servers i) (slice_get before.1.desks i) i before.1 in
      let first = below_spends i s (omega arith) in
      let at : worker i < length before.1.manager.passes = let long = first.passes in omega (arith, long, there) in
      spends_fewer (counts (before.0 || turn.0)) (counts before.0 + counts turn.0) s.manager turn.1.manager (counts_or before.0 turn.0)
      (spends_on (counts before.0) (counts turn.0) s.manager before.1.manager turn.1.manager first (one_spends (slice_get servers i) (slice_get before.1.desks i) i before.1 at))

  -- rounds, one after another
  pub no_more : (n : ℕ) (s t : ReportState) → round_of order servers s ≡ (false, t) → drain_rounds order servers (suc n) s ≡ t
  unfolding drain_rounds
  no_more n s t is = rw is refl

  pub one_more : (n : ℕ) (s t : ReportState) → round_of order servers s ≡ (true, t) → drain_rounds order servers (suc n) s ≡ drain_rounds order servers n t
  unfolding drain_rounds
  one_more n s t is = rw is refl

  pub none_yet : (s : ReportState) → drain_rounds order servers 0 s ≡ s
  unfolding drain_rounds
  none_yet s = refl

  -- no more are left than all have
  all_left : (units : ℕ) (passes : List PassState) → units_left units passes ≤ length passes * units
  all_left units [] = omega arith
  all_left units (p ∷ ps) =
      let rest = all_left units ps in
      let more : length (p ∷ ps) * units ≡ length ps * units + units = suc-mul (length ps) units in
      let sum : units_left units (p ∷ ps) ≡ left_of units p + units_left units ps = sum_by-cons (left_of units) p ps in
      omega (arith, rest, more, sum)

  -- there is a pass for each server
  abbrev IsFit : ReportState → Type 0
  IsFit s = length servers < length s.manager.passes

  -- fewer units are left than n
  abbrev IsEnough : ℕ → ReportState → Type 0
  IsEnough n s = units_left s.manager.limits.units s.manager.passes < n

  abbrev Ends : ℕ → ReportState → Type 0
  Ends n s = (k : ℕ) × (k < n) × (round_of order servers (drain_rounds order servers k s) ≡ (false, drain_rounds order servers n s))

  ends_by : (n : ℕ) (s : ReportState) → IsFit s → IsEnough (suc n) s → ((t : ReportState) → IsFit t → IsEnough n t → Ends n t) → (r : Bool × ReportState) → round_of order servers s ≡ r → Ends (suc n) s
  ends_by n s fit many later (false, t) is = (0, omega arith, ap (round_of order servers) (none_yet s) ∙ (is ∙ ap (λ (z : ReportState). (false, z)) (sym (no_more n s t is))))
  ends_by n s fit many later (true, t) is =
      let one : Spends 1 s.manager t.manager = subst (λ (r : Bool × ReportState). Spends (counts r.0) s.manager r.1.manager) is (below_spends (length servers) s fit) in
      let long = one.passes in
      let fewer = one.left in
      let same : units_left t.manager.limits.units t.manager.passes ≡ units_left s.manager.limits.units t.manager.passes = ap (λ (l : Limits). units_left l.units t.manager.passes) one.limits in
      let rest = later t (omega (arith, long, fit)) (omega (arith, same, fewer, many)) in
      (suc rest.0, let less = rest.1 in omega (arith, less), ap (round_of order servers) (one_more rest.0 s t is) ∙ (rest.2 ∙ ap (λ (z : ReportState). (false, z)) (sym (one_more n s t is))))

  ends : (n : ℕ) (s : ReportState) → IsFit s → IsEnough n s → Ends n s
  ends zero s fit many = absurd (omega (arith, many))
  ends (suc n) s fit many = ends_by n s fit many (ends n) (round_of order servers s) refl

mul_le : (a b n : ℕ) → a ≤ b → a * n ≤ b * n
mul_le zero b n few = omega arith
mul_le (suc a) zero n few = absurd (omega (arith, few))
mul_le (suc a) (suc b) n few =
    let rest = mul_le a b n (omega (arith, few)) in
    let x = suc-mul a n in
    let y = suc-mul b n in
    omega (arith, rest, x, y)

pub drains_end : DrainsEnd
drains_end order servers s enough few =
    let most = all_left order servers s.manager.limits.units s.manager.passes in
    let fewer = mul_le (length s.manager.passes) s.manager.limits.parts s.manager.limits.units few in
    let t = ends order servers (most_rounds s.manager.limits) s enough (omega (arith, most, fewer)) in
    record { before = t.0; few = t.1; dry = t.2 }
