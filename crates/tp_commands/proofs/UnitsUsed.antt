-- A turn that claims an element uses up a unit of its pass; nothing else in a drain does.
use Rattle.std.proofs.Common.{◌≡◌, ℕ, zero, suc, ◌+◌, ◌≤◌, ◌||◌, Bool, true, false, List, [], ◌∷◌, ◌++◌, map, Some, inl, inr, refl, ap, arith}
use Rattle.std.specs.Prelude.{slice_get, slice_set}
use Rattle.std.specs.List.{AllZip}
use Rattle.std.proofs.lemmas.List.Sums.{sum_by-append, sum_by-cons}
use Rattle.tp_model.specs.declared.types.Limits.{Limits}
use Rattle.tp_manager.specs.Accounts.{Attends}
use Rattle.tp_manager.specs.Calls.{claims_in}
use Rattle.tp_manager.specs.Shown.{KeeperShown, ManagerShown, PassShown}
use Rattle.tp_server.specs.declared.order.Order.{Order}
use Rattle.tp_server.specs.declared.turned.Turned.{Turned}
use Rattle.tp_server.specs.declared.turned.Turned.TheVariants as turneds
use Rattle.tp_workers.specs.Tally.{claimed_in_all, turn_count}
use Rattle.tp_workers.proofs.Turns.{turn_claims, turn_room}
use Rattle.tp_commands.specs.Acting.{PlaceShown, TurnsAt}
use Rattle.tp_commands.specs.Drains.{Turn, TurnTaken, turn_claimed}
use Rattle.tp_commands.specs.Scenes.{Scene, passes_in}
use Rattle.tp_commands.specs.Units.{all_units_left, units_left_to}

-- how many elements a turn claimed
abbrev pub count : Bool → ℕ
count true = 1
count false = 0

pub count_or : (a b : Bool) → count (a || b) ≤ count a + count b
count_or true b = omega arith
count_or false b = omega arith

counted : (t : Turned) → count (turn_claimed t) ≡ claimed_in_all (turn_count t)
counted turneds.Idle = refl
counted turneds.NoUnit = refl
counted (turneds.Done unit element first outputs) = refl
counted (turneds.Refused element why) = refl
counted (turneds.Lost element) = refl
counted (turneds.Full element) = refl

module _ (l : Limits) where
  turn_uses : (order : Order) (t : Turned) (p q : PlaceShown) → TurnsAt order l t p q → count (turn_claimed t) + units_left_to l q.desk.pass ≡ units_left_to l p.desk.pass
  turn_uses order t p q f =
      let more = turn_claims order l p.desk.behaviour p.desk.registers p.desk.pass q.desk.pass t q.desk.registers f.turn.answer in
      let room = turn_room order l p.desk.behaviour p.desk.registers p.desk.pass q.desk.pass t q.desk.registers f.turn.answer in
      let is = counted t in
      omega (arith, more, room, is)

  abbrev pass_of : PlaceShown → PassShown
  pass_of p = p.desk.pass

  -- one place went on
  set_uses : (n : ℕ) (ps : List PlaceShown) (i : ℕ) (p q : PlaceShown) → slice_get ps i ≡ Some p → n + units_left_to l (pass_of q) ≡ units_left_to l (pass_of p)
      → n + all_units_left l (map pass_of (slice_set ps i q)) ≡ all_units_left l (map pass_of ps)
  set_uses n [] i p q at one = absurd cc
  set_uses n (x ∷ ps) zero p q at one =
      let same : x ≡ p = cc in
      let is = ap (λ z. units_left_to l (pass_of z)) same in
      let before = sum_by-cons (units_left_to l) (pass_of x) (map pass_of ps) in
      let after = sum_by-cons (units_left_to l) (pass_of q) (map pass_of ps) in
      omega (arith, is, before, after, one)
  set_uses n (x ∷ ps) (suc i) p q at one =
      let rest = set_uses n ps i p q at one in
      let before = sum_by-cons (units_left_to l) (pass_of x) (map pass_of ps) in
      let after = sum_by-cons (units_left_to l) (pass_of x) (map pass_of (slice_set ps i q)) in
      omega (arith, rest, before, after)

  -- passes that have looked have used up none
  looks_use : (n : ℕ) (h : List _) (ps qs : List PassShown) → AllZip (Attends n h) ps qs → all_units_left l qs ≡ all_units_left l ps
  looks_use n h [] [] zip = refl
  looks_use n h [] (q ∷ qs) zip = absurd zip
  looks_use n h (p ∷ ps) [] zip = absurd zip
  looks_use n h (p ∷ ps) (q ∷ qs) zip =
      let one = ap claims_in zip.0.quiet.mine in
      let rest = looks_use n h ps qs zip.1 in
      let before = sum_by-cons (units_left_to l) p ps in
      let after = sum_by-cons (units_left_to l) q qs in
      omega (arith, one, rest, before, after)

  abbrev in_scene : Scene → ℕ
  in_scene s = all_units_left l (passes_in s)

  parts : (s : Scene) → in_scene s ≡ units_left_to l s.client + (all_units_left l (map pass_of s.places) + all_units_left l s.racers)
  parts s =
      let first = sum_by-cons (units_left_to l) s.client (map pass_of s.places ++ s.racers) in
      let rest = sum_by-append (units_left_to l) (map pass_of s.places) s.racers in
      omega (arith, first, rest)

module _ (order : Order) (m : ManagerShown) (at : ℕ) (keeper keeper' : KeeperShown) (old new : Scene) (c : Bool) where
  abbrev l : Limits
  l = m.limits

  taken_uses : TurnTaken order m at keeper old c keeper' new → count c + all_units_left l (passes_in new) ≡ all_units_left l (passes_in old)
  taken_uses t =
      let one = turn_uses l order t.turned t.turns.old t.turns.new t.turns.turns in
      let set = set_uses l (count (turn_claimed t.turned)) old.places at t.turns.old t.turns.new t.turns.there one in
      let places = ap (λ ps. all_units_left l (map (pass_of l) ps)) t.turns.others in
      let client = ap (units_left_to l) t.others.client in
      let racers = ap (all_units_left l) t.others.racers in
      let is = ap count t.claimed_is in
      let looked = looks_use l _ _ (passes_in t.done) (passes_in new) t.gathered.gathers.passes in
      let before = parts l old in
      let after = parts l t.done in
      omega (arith, set, places, client, racers, is, looked, before, after)

  pub turn_left : Turn order m at keeper old c keeper' new → count c + all_units_left l (passes_in new) ≡ all_units_left l (passes_in old)
  turn_left (inl t) = taken_uses t
  turn_left (inr t) =
      let is = ap count t.claimed_is in
      let same = ap (λ s. all_units_left l (passes_in s)) t.same in
      omega (arith, is, same)
