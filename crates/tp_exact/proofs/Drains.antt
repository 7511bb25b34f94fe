-- A drain, turn by turn, where nobody else acts.
use Rattle.std.proofs.Common.{◌≡◌, ℕ, zero, suc, ◌+◌, ◌-◌, ◌<◌, ◌≤◌, ◌||◌, ◌&&◌, not, Bool, true, false, List, [], ◌∷◌, ◌++◌, length, map, slice_index_or, Option, Some, None, inl, inr, refl, sym, ◌∙◌, ap, subst, arith}
use Rattle.std.specs.Prelude.{is_some, slice_get, if◌then◌else◌}
use Rattle.std.specs.List.{AllZip}
use Rattle.std.proofs.lemmas.Bool.{cases_lt}
use Rattle.std.proofs.lemmas.Bool.Decides.{eqb_tells}
use Rattle.std.proofs.lemmas.List.{length-append, length-map}
use Rattle.std.proofs.lemmas.List.FromFn.{length-map-range_with_len}
use Rattle.tp_model.specs.declared.types.Limits.{Limits}
use Rattle.tp_model.specs.History.{In, here, there}
use Rattle.tp_plain.specs.declared.pass_state.PassState.{PassState}
use Rattle.tp_plain.specs.OneThread as thread
use Rattle.tp_plain.specs.OneThread.{fresh_pass, no_pass}
use Rattle.tp_manager.specs.Accounts.{AreNumberedFrom}
use Rattle.tp_manager.specs.Shown.{KeeperShown, ManagerShown, PassShown}
use Rattle.tp_server.specs.declared.order.Order.{Order}
use Rattle.tp_server.specs.declared.turned.Turned.{Turned}
use Rattle.tp_server.specs.declared.turned.Turned.TheVariants as turneds
use Rattle.tp_report.specs.Answer.{answer_text, line}
use Rattle.tp_report.specs.declared.answer.Answer.TheVariants as answer
use Rattle.tp_report.specs.declared.answer.ServerAnswer.TheVariants as told
use Rattle.tp_script.specs.Script.{ServerView}
use Rattle.tp_commands.specs.Acting.{PlaceShown, is_free}
use Rattle.tp_commands.specs.Drains.{Drains, NoTurn, Round, RoundsClaim, TurnTaken, TurnsBelow, turn_claimed}
use Rattle.tp_commands.specs.Scenes.{Scene, passes_in}
use Rattle.tp_reference.specs.declared.plain_desk.PlainDesk.{PlainDesk}
use Rattle.tp_reference.specs.PlainDesks as desks
use Rattle.tp_reference.specs.PlainDesks.{DeskAnswered, claim_in_order, has_open, turn_by}
use Rattle.tp_reference.specs.PlainReport as plain
use Rattle.tp_reference.specs.PlainReport.{ReportState, drain_of, most_rounds, round_below, round_of, round_turn, drain_rounds, with_acted, worker}
use Rattle.tp_reference.proofs.DrainEnds.{drains_end, no_more, none_yet, one_more}
use Rattle.tp_rollover.specs.Thread.{not_given, state_of, thread_of}
use Rattle.tp_exact.specs.Stands.{IsFor, IsForDesk, IsServedBy, StandsAsComputed}
use Rattle.tp_exact.proofs.Commands.{zip_at}
use Rattle.tp_exact.proofs.Desks.{pass_here}
use Rattle.tp_exact.proofs.Places.{acts_at, at_worker, kept_turned, leads_at, parted, pass_at_place, passes}
use Rattle.tp_exact.proofs.Scenes.{looks, together}
use Rattle.tp_exact.proofs.Turns.{turned_so}

-- what is claimed is told alike
same_claimed : (t : Turned) → turn_claimed t ≡ plain.has_claimed (told.Turned t)
same_claimed turneds.Idle = refl
same_claimed turneds.NoUnit = refl
same_claimed (turneds.Done unit element first count) = refl
same_claimed (turneds.Refused element why) = refl
same_claimed (turneds.Lost element) = refl
same_claimed (turneds.Full element) = refl

none_of : {A : Type 0} (o : Option A) → not (is_some o) ≡ true → o ≡ None
none_of None e = refl
none_of (Some x) e = absurd cc

both_true : (a b : Bool) → a && b ≡ true → (a ≡ true) × (b ≡ true)
both_true true b e = (refl, e)
both_true false b e = absurd cc

-- two lists side by side are as long as each other
pub beside_long : {A B : Type 0} (R : A → B → Type 0) (xs : List A) (ys : List B) → AllZip R xs ys → length ys ≡ length xs
beside_long R [] [] zip = refl
beside_long R [] (y ∷ ys) zip = absurd zip
beside_long R (x ∷ xs) [] zip = absurd zip
beside_long R (x ∷ xs) (y ∷ ys) zip = ap suc (beside_long R xs ys zip.1)

-- passes with the numbers from a on, all below k
numbered_below : (k a : ℕ) (ps : List PassShown) → a ≤ k → AreNumberedFrom a ps → ((p : PassShown) → In p ps → p.number < k) → a + length ps ≤ k
numbered_below k a [] few from below = omega arith
numbered_below k a (p ∷ ps) few from below =
    let one : p.number < k = below p here in
    let is = from.0 in
    let rest = numbered_below k (a + 1) ps (omega (arith, one, is)) from.1 (λ q at. below q (there at)) in
    omega (arith, rest)

not_given_long : (l : Limits) (n : ℕ) → length (not_given l n) ≡ l.parts - n
not_given_long l n = length-map-range_with_len (fresh_pass l.rows) n (l.parts - n)

module _ (servers : List ServerView) (order : Order) (m : ManagerShown) where
  abbrev l : Limits
  l = m.limits

  abbrev Is : KeeperShown → Scene → ReportState → Type 0
  Is keeper scene s = StandsAsComputed servers l keeper keeper.seen scene s

  -- ---- a turn

  -- whether a desk is free
  free_same : (keeper : KeeperShown) (old : Scene) (s : ReportState) (at : ℕ) (p : PlaceShown) (d : PlainDesk) → Is keeper old s → slice_get old.places at ≡ Some p → IsFor p d → desks.takes_part s.manager (worker at) d ≡ is_free p
  free_same keeper old s at p d stands found is =
      let parts = parted old.places at p found in
      let state : slice_index_or (map state_of (passes_in old) ++ not_given l (length (passes_in old))) (worker at) no_pass ≡ state_of p.desk.pass
      = ap (λ ps. slice_index_or (map state_of ps ++ not_given l (length (passes_in old))) (worker at) no_pass) (pass_at_place old at p parts)
      ∙ pass_here (old.client ∷ passes parts.front) (passes parts.back ++ old.racers) p.desk.pass (not_given l (length (passes_in old))) (worker at) (at_worker old at p parts) in
      let opened : has_open s.manager (worker at) ≡ is_some p.desk.work
      = ap (λ (t : thread.State). has_open t (worker at)) stands.manager ∙ (ap (λ (x : PassState). is_some x.holding) state ∙ is.desk.open_is) in
      ap (λ b. not b && not (has_open s.manager (worker at))) is.dropped ∙ ap (λ b. not p.is_dropped && not b) opened

  abbrev Turns : ℕ → KeeperShown → Scene → Bool → ReportState → Type 0
  Turns at keeper' new b s = let r = round_turn order (slice_get servers at) (slice_get s.desks at) at s in (b ≡ r.0) × Is keeper' new r.1

  -- the turn at a place, computed
  abbrev by_free : Bool → DeskAnswered → ℕ → ReportState → Bool × ReportState
  by_free b done at s = if b then (plain.has_claimed done.answer, with_acted s at done) else (false, s)

  computed : (at : ℕ) (s : ReportState) (server : ServerView) (d : PlainDesk) (b : Bool) → slice_get servers at ≡ Some server → slice_get s.desks at ≡ Some d → desks.takes_part s.manager (worker at) d ≡ b
      → round_turn order (slice_get servers at) (slice_get s.desks at) at s ≡ by_free b (turn_by order server.recipe (worker at) s.manager d) at s
  computed at s server d b named desk_is free =
      ap (λ o. round_turn order o (slice_get s.desks at) at s) named
      ∙ (ap (λ o. round_turn order (Some server) o at s) desk_is
      ∙ ap (λ c. by_free c (turn_by order server.recipe (worker at) s.manager d) at s) free)

  taken : (at : ℕ) (keeper keeper' : KeeperShown) (old new : Scene) (b : Bool) (s : ReportState) → Is keeper old s → TurnTaken order m at keeper old b keeper' new → Turns at keeper' new b s
  taken at keeper keeper' old new b s stands t =
      let p : PlaceShown = t.turns.old in
      let q : PlaceShown = t.turns.new in
      let did = t.turns.turns in
      let d = zip_at IsFor old.places s.desks at p stands.desks t.turns.there in
      let by = zip_at IsServedBy old.places servers at p stands.served t.turns.there in
      let only = looks m keeper keeper' t.done new t.gathered in
      let after = together m keeper keeper' t.done new t.gathered in
      let acts = acts_at servers l keeper keeper' keeper.seen keeper'.seen old t.done new s at p q stands t.turns.there t.turns.others t.others.client t.others.racers only after in
      let free = both_true (not p.is_dropped) (not (is_some p.desk.work)) t.turns.free in
      let done : DeskAnswered = turn_by order by.0.recipe (worker at) s.manager d.0 in
      let law = turned_so by.0.recipe l keeper keeper' (passes_in old) (passes_in new) keeper.seen keeper'.seen (worker at) p.desk q.desk d.0 acts did.limits d.2.desk by.2.behaviour by.2.stage order t.turned (none_of p.desk.work free.1) did.turn did.none_left in
      let same = ap (λ (x : thread.State). turn_by order by.0.recipe (worker at) x d.0) (sym stands.manager) in
      let answered : told.Turned t.turned ≡ done.answer = law.0 ∙ ap (λ (x : DeskAnswered). x.answer) same in
      let manager : thread_of l (passes_in new) keeper'.seen ≡ done.manager = law.1 ∙ ap (λ (x : DeskAnswered). x.manager) same in
      let is : IsFor q done.desk = record {
        desk = subst (λ (x : DeskAnswered). IsForDesk q.desk x.desk) same law.2;
        dropped = kept_turned d.0 by.0.recipe (worker at) (claim_in_order order s.manager (worker at) by.0.recipe.stage) ∙ (d.2.dropped ∙ sym did.kept);
      } in
      let stands' = leads_at servers l keeper keeper' keeper.seen keeper'.seen old t.done new s at p q stands t.turns.there t.turns.others t.others.client t.others.racers only after by.0 d.0 done by.1 d.1 did.turn.behaviour_is by.2 manager is in
      subst (λ (r : Bool × ReportState). (b ≡ r.0) × Is keeper' new r.1) (sym (computed at s by.0 d.0 true by.1 d.1 (free_same keeper old s at p d.0 stands t.turns.there d.2 ∙ t.turns.free)))
      (t.claimed_is ∙ (same_claimed t.turned ∙ ap plain.has_claimed answered), stands')

  none : (at : ℕ) (keeper keeper' : KeeperShown) (old new : Scene) (b : Bool) (s : ReportState) → Is keeper old s → NoTurn at keeper old b keeper' new → Turns at keeper' new b s
  none at keeper keeper' old new b s stands t =
      let p : PlaceShown = t.busy.old in
      let d = zip_at IsFor old.places s.desks at p stands.desks t.busy.there in
      let by = zip_at IsServedBy old.places servers at p stands.served t.busy.there in
      subst (λ (r : Bool × ReportState). (b ≡ r.0) × Is keeper' new r.1) (sym (computed at s by.0 d.0 false by.1 d.1 (free_same keeper old s at p d.0 stands t.busy.there d.2 ∙ t.busy.busy)))
      (t.claimed_is, subst (λ k. Is k new s) (sym t.kept) (subst (λ z. Is keeper z s) (sym t.same) stands))

  -- ---- a round

  below : (n : ℕ) (keeper keeper' : KeeperShown) (old new : Scene) (b : Bool) (s : ReportState) → Is keeper old s → TurnsBelow order m n keeper old b keeper' new
      → let r = round_below order servers n s in (b ≡ r.0) × Is keeper' new r.1
  unfolding round_below
  below zero keeper keeper' old new b s stands t = (t.0, subst (λ k. Is k new s) (sym t.1) (subst (λ z. Is keeper z s) (sym t.2) stands))
  below (suc n) keeper keeper' old new b s stands t =
      let before = below n keeper t.0 old t.1 t.2 s stands t.4 in
      let first : Bool × ReportState = round_below order servers n s in
      let one : Turns n keeper' new t.3 first.1 = elim t.5 [
        | inl x ↦ taken n t.0 keeper' t.1 new t.3 first.1 before.1 x
        | inr x ↦ none n t.0 keeper' t.1 new t.3 first.1 before.1 x
      ] in
      (t.6 ∙ (ap (λ c. c || t.3) before.0 ∙ ap (λ c. first.0 || c) one.0), one.1)

  round_so : (keeper keeper' : KeeperShown) (old new : Scene) (b : Bool) (s : ReportState) → Is keeper old s → Round order m keeper old b keeper' new
      → (b ≡ (round_of order servers s).0) × Is keeper' new (round_of order servers s).1
  round_so keeper keeper' old new b s stands t =
      let long : length servers ≡ length old.places = beside_long IsServedBy old.places servers stands.served in
      below (length servers) keeper keeper' old new b s stands (subst (λ k. TurnsBelow order m k keeper old b keeper' new) (sym long) t)

  -- ---- rounds

  abbrev After : ℕ → ReportState → ReportState → Type 0
  After n s t = ((k : ℕ) → drain_rounds order servers (n + k) s ≡ drain_rounds order servers k t) × ((j : ℕ) → j < n → (round_of order servers (drain_rounds order servers j s)).0 ≡ true)

  pair_is : (r : Bool × ReportState) (b : Bool) → b ≡ r.0 → r ≡ (b, r.1)
  pair_is r b is = ap (λ c. (c, r.1)) (sym is)

  claimed : (n : ℕ) (keeper keeper' : KeeperShown) (old new : Scene) (s : ReportState) → Is keeper old s → RoundsClaim order m n keeper old keeper' new → (t : ReportState) × Is keeper' new t × After n s t
  claimed zero keeper keeper' old new s stands t = (s, subst (λ k. Is k new s) (sym t.0) (subst (λ z. Is keeper z s) (sym t.1) stands), ((λ k. ap (λ j. drain_rounds order servers j s) (omega arith)), λ j less. absurd (omega (arith, less))))
  claimed (suc n) keeper keeper' old new s stands t =
      let before = claimed n keeper t.0 old t.1 s stands t.2 in
      let u : ReportState = before.0 in
      let one = round_so t.0 keeper' t.1 new true u before.1 t.3 in
      let next : ReportState = (round_of order servers u).1 in
      let on : (k : ℕ) → drain_rounds order servers (suc n + k) s ≡ drain_rounds order servers k next = λ k. (
      let more : suc n + k ≡ n + suc k = omega arith in
      ap (λ j. drain_rounds order servers j s) more ∙ (before.2.0 (suc k) ∙ one_more order servers k u next (pair_is (round_of order servers u) true one.0))) in (
        next,
        one.1,
        (
          on,
          λ j less. elim (eqb_tells j n) [
            | inl same ↦ (
                let is : drain_rounds order servers j s ≡ u =
                ap (λ i. drain_rounds order servers i s) (let e = same.1 in omega (arith, e)) ∙ (before.2.0 0 ∙ none_yet order servers u) in
                ap (λ (z : ReportState). (round_of order servers z).0) is ∙ sym one.0)
            | inr other ↦ before.2.1 j (let e = other.1 in omega (arith, less, e))
          ],
        ),
      )

  -- ---- a drain

  enough : (keeper : KeeperShown) (old : Scene) (s : ReportState) → Is keeper old s → (length servers < length s.manager.passes) × (length s.manager.passes ≤ s.manager.limits.parts)
  enough keeper old s stands =
      let ps : List PassShown = passes_in old in
      let few : 0 + length ps ≤ l.parts = numbered_below l.parts 0 ps (omega arith) stands.together.all.1 (λ p at. (stands.together.each p at).shows.given) in
      let long : length servers ≡ length old.places = beside_long IsServedBy old.places servers stands.served in
      let places = length-map old.places (λ (p : PlaceShown). p.desk.pass) in
      let behind = length-append (map (λ (p : PlaceShown). p.desk.pass) old.places) old.racers in
      let states = length-map ps state_of in
      let whole = length-append (map state_of ps) (not_given l (length ps)) in
      let rest = not_given_long l (length ps) in
      let same = ap (λ (x : thread.State). length x.passes) stands.manager in
      let limits = ap (λ (x : thread.State). x.limits.parts) stands.manager in
      (omega (arith, few, long, places, behind, states, whole, rest, same), omega (arith, few, states, whole, rest, same, limits))

  pub drained : (keeper keeper' : KeeperShown) (old new : Scene) (text : List ℕ) (s : ReportState) → Is keeper old s → Drains order m keeper old text keeper' new
      → (text ≡ line (answer_text answer.Drained)) × Is keeper' new (drain_of order servers s)
  drained keeper keeper' old new text s stands t =
      let n : ℕ = t.rounds in
      let before = claimed n keeper t.kept old t.between s stands t.claiming in
      let u : ReportState = before.0 in
      let last = round_so t.kept keeper' t.between new false u before.1 t.last in
      let fit = enough keeper old s stands in
      let dry = drains_end order servers s fit.0 fit.1 in
      let most : ℕ = most_rounds s.manager.limits in
      let few : n < most = elim (cases_lt n most) [
        | inl less ↦ less
        | inr past ↦ (
            let yes = before.2.1 dry.before (let less = dry.few in omega (arith, less, past)) in
            let clash : false ≡ true = sym (ap (λ (r : Bool × ReportState). r.0) dry.dry) ∙ yes in
            absurd cc)
      ] in
      let k : ℕ = most - suc n in
      let is : most ≡ n + suc k = omega (arith, few) in
      let same : drain_of order servers s ≡ (round_of order servers u).1 =
      ap (λ j. drain_rounds order servers j s) is ∙ (before.2.0 (suc k) ∙ no_more order servers k u (round_of order servers u).1 (pair_is (round_of order servers u) false last.0)) in
      (t.text_is, subst (λ z. Is keeper' new z) (sym same) last.1)
