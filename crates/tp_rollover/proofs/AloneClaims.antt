-- A claim where nobody else acts.
use Rattle.std.proofs.Common.{◌≡◌, ◌≢◌, ℕ, ◌+◌, ◌-◌, ◌*◌, ◌<◌, ◌≤◌, Some, None, List, [], ◌∷◌, ◌++◌, length, slice_index, slice_set, refl, sym, ◌∙◌, ap, subst, inl, inr, ⊎_elim, arith}
use Rattle.std.proofs.lemmas.Bool.{le-ltb}
use Rattle.std.proofs.lemmas.Bool.Decides.{eqb_tells}
use Rattle.std.proofs.lemmas.Grind.{get_or-set_at}
use Rattle.std.proofs.lemmas.List.{ext_get_or, get_or-set_other, length-set}
use Rattle.std.proofs.lemmas.List.FromFn.{get_or-map-range_with_len, length-map-range_with_len}
use Rattle.tp_model.specs.declared.types.Claimed.{Claimed}
use Rattle.tp_model.specs.declared.types.Claimed.TheVariants as claimed
use Rattle.tp_model.specs.declared.types.Element.{Element}
use Rattle.tp_model.specs.declared.types.Limits.{Limits}
use Rattle.tp_model.specs.declared.types.Look.{Look}
use Rattle.tp_model.specs.declared.types.Status.TheVariants.{Waiting, Held}
use Rattle.tp_model.specs.declared.types.Work.{Work}
use Rattle.tp_model.specs.declared.event.Event.{Event}
use Rattle.tp_model.specs.declared.event.Event.TheVariants.{Claim}
use Rattle.tp_model.specs.History.{IsBorn, element_of, status_of}
use Rattle.tp_model.specs.Steps.{Step}
use Rattle.tp_model.proofs.Lists.{if_other}
use Rattle.tp_model.proofs.Bridges.{born_either, found_later, in_none}
use Rattle.tp_model.proofs.Histories.{status_of-snoc}
use Rattle.tp_plain.specs.declared.pass_state.PassState.{PassState}
use Rattle.tp_plain.specs.OneThread.{IsPlainBefore, State, Waits, next_unit, pass_at, having_taken, turn_of_pass}
use Rattle.tp_plain.specs.Computed.{claim_next_of_stage, claim_of_stage, next_waiting, with_claimed, work_on}
use Rattle.tp_plain.proofs.Computations.{claim_idle, claim_next_idle, claim_next_works, claim_works}
use Rattle.tp_manager.specs.Calls.{Claims, FoundNone, FoundNoneBefore, IsQuiet, IsWaiting, Opens, claims_in, opening}
use Rattle.tp_manager.specs.Shown.{KeeperShown, PassShown}
use Rattle.tp_rollover.specs.Thread.{Alone, drawn_of, state_of, thread_of, turns_in}
use Rattle.tp_rollover.specs.AloneLaws.{AloneClaim, AloneClaimNext}
use Rattle.tp_rollover.proofs.AloneApart.{end_is, number_is, seen_is}
use Rattle.tp_rollover.proofs.AloneFirsts.{first_waits, none_waits}
use Rattle.tp_rollover.proofs.AlonePoints.{opens, point_one, point_quiet}
use Rattle.tp_rollover.proofs.AloneSubmits.{both, same_quiet}
use Rattle.tp_rollover.proofs.AloneThreads.{claims_more, drawn_stays, leaves, pass_is, quiet_leaves, step_of, was}

claim_none : (s : State) (c stage : ℕ) → s.limits.units ≤ (pass_at s c).claimed → claim_of_stage s c stage ≡ (claimed.NoUnit, s)
claim_none s c stage used = rw (le-ltb (pass_at s c).claimed s.limits.units used) refl

claim_next_none : (s : State) (c stage : ℕ) → s.limits.units ≤ (pass_at s c).claimed → claim_next_of_stage s c stage ≡ (claimed.NoUnit, s)
claim_next_none s c stage used = rw (le-ltb (pass_at s c).claimed s.limits.units used) refl

-- no id of a circle comes before itself
not_itself : (from i : ℕ) → ¬ IsPlainBefore from i i
not_itself from i = ⊎_elim (λ p. (let less = p.1 in omega arith)) (λ p. ⊎_elim (λ low. (let under = p.0 in omega arith)) (λ less. omega arith) p.1)

same_work : (w : Work) (u k : ℕ) → w.unit ≡ u → w.attempt ≡ k → let v : Work = record { unit = u; element = w.element; attempt = k } in w ≡ v
same_work w u k a b = ap (λ v. record { unit = v; element = w.element; attempt = w.attempt }) a ∙ ap (λ m. record { unit = u; element = w.element; attempt = m }) b

module _ (l : Limits) (keeper keeper' : KeeperShown) (olds news : List PassShown) (h h' : List Event) (n c : ℕ) (old new : PassShown) (a : Alone l keeper keeper' olds news h h' n c old new) (stage : ℕ) where
  abbrev before : State
  before = was l keeper keeper' olds news h h' n c old new a

  abbrev used : PassState
  used = pass_at before c

  pub used_is : used ≡ state_of old
  used_is = pass_is l keeper keeper' olds news h h' n c old new a

  pub claimed_is : used.claimed ≡ claims_in old.mine
  claimed_is = ap (λ (x : PassState). x.claimed) used_is

  not_waiting : (e : Element) (m : ℕ) → Waits before stage e m → IsWaiting (status_of l.attempts h e.id)
  not_waiting e m w = (m, w.waits)

  -- a point at which an element of the stage that waits at h would not
  idle : IsQuiet old new → FoundNone l stage old new → (e : Element) (m : ℕ) → ¬ Waits before stage e m
  idle quiet none e m w =
      point_quiet l keeper keeper' olds news h h' n c old new a (λ g. ¬ IsWaiting (status_of l.attempts g e.id))
      (none e (found_later h (opening old new) (opens l keeper keeper' olds news h h' n c old new a) e.id e w.born) w.stage_is) quiet (not_waiting e m w)

  module _ (work : Work) (says : Opens l stage work old new) where
    abbrev event : Event
    event = Claim c work.unit work.element.id work.attempt

    made : new.mine ≡ old.mine ++ event ∷ []
    made = says.adds.mine ∙ ap (λ d. old.mine ++ Claim d work.unit work.element.id work.attempt ∷ []) (number_is l keeper keeper' olds news h h' n c old new a)

    last : h' ≡ h ++ event ∷ []
    last = end_is l keeper keeper' olds news h h' n c old new a (event ∷ []) made

    step : Step l h event
    step = step_of l keeper keeper' olds news h h' n c old new a event last

    pub born : element_of h work.element.id ≡ Some work.element
    born =
        let there : IsBorn (h ++ event ∷ []) work.element = subst (λ g. IsBorn g work.element) (seen_is l keeper keeper' olds news h h' n c old new a (event ∷ []) made) says.is_born in
        ⊎_elim (λ p. p) (λ p. absurd (in_none p)) (born_either work.element h event there)

    pub waits : Waits before stage work.element (work.attempt - 1)
    waits = record { born = born; stage_is = says.of_stage; waits = step.waits }

    abbrev pub look : Look
    look = record { element = work.element; status = Waiting (work.attempt - 1) }

    pub room : used.claimed < l.units
    room = let x = says.room in let y = claimed_is in omega arith

    again : (work.attempt - 1) + 1 ≡ work.attempt
    again = let some = step.attempt in omega arith

    unit_is : work.unit ≡ next_unit before c
    unit_is =
        says.unit_is ∙ (ap (λ d. d * l.units + claims_in old.mine) (number_is l keeper keeper' olds news h h' n c old new a) ∙ ap (λ k. c * l.units + k) (sym claimed_is))

    pub work_is : work ≡ work_on before c look
    work_is = same_work work (next_unit before c) ((work.attempt - 1) + 1) unit_is (sym again)

    module _ (from : ℕ) (first : FoundNoneBefore l stage from work.element.id old new) where
      -- no other one that waited comes before it
      none_before : (e : Element) (m : ℕ) → Waits before stage e m → ¬ IsPlainBefore from work.element.id e.id
      none_before e m w less =
          let other : work.element.id ≢ e.id = λ same. not_itself from work.element.id (subst (IsPlainBefore from work.element.id) (sym same) less) in
          let at = first e (found_later h (opening old new) (opens l keeper keeper' olds news h h' n c old new a) e.id e w.born) w.stage_is less in
          let still : status_of l.attempts (h ++ event ∷ []) e.id ≡ Waiting m =
          status_of-snoc l.attempts h event e.id ∙ (if_other work.element.id e.id (Held work.unit work.attempt) (status_of l.attempts h e.id) other ∙ w.waits) in
          ⊎_elim (λ q. q (not_waiting e m w)) (λ q. q (m, still))
          (point_one l keeper keeper' olds news h h' n c old new a (λ g. ¬ IsWaiting (status_of l.attempts g e.id)) at event made)

      pub next : next_waiting before from stage ≡ Some look
      next = first_waits before from stage a.before.legal work.element (work.attempt - 1) waits none_before

    module _ (turns : List ℕ) (turned : turns_in new.from ≡ turns) where
      now : state_of new ≡ having_taken before c (work_on before c look) turns
      now =
          let x : claims_in new.mine ≡ used.claimed + 1 = ap claims_in made ∙ (claims_more old.mine (event ∷ []) ∙ ap (λ k. k + 1) (sym claimed_is)) in
          let y : new.next ≡ used.next = says.run.0 ∙ sym (ap (λ (p : PassState). p.next) used_is) in
          let z : new.left ≡ used.left = says.run.1 ∙ sym (ap (λ (p : PassState). p.left) used_is) in
          let w : new.open_unit ≡ Some (next_unit before c) = says.open_unit ∙ ap (λ u. Some u) unit_is in
          let t = turned in
          cc

      pub left : thread_of l news h' ≡ with_claimed before c look turns
      left =
          let ends : h' ≡ h ++ Claim c (next_unit before c) work.element.id ((work.attempt - 1) + 1) ∷ [] =
          last ∙ (ap (λ u. h ++ Claim c u work.element.id work.attempt ∷ []) unit_is ∙ ap (λ k. h ++ Claim c (next_unit before c) work.element.id k ∷ []) (sym again)) in
          leaves l keeper keeper' olds news h h' n c old new a _ _ (drawn_of olds) ends now (drawn_stays l keeper keeper' olds news h h' n c old new a says.run.2)

      pub takes : let p : Claimed × State = (claimed.Work (work_on before c look), with_claimed before c look turns) in (claimed.Work work, thread_of l news h') ≡ p
      takes = both (claimed.Work work) (claimed.Work (work_on before c look)) (thread_of l news h') (with_claimed before c look turns) (ap (λ w. claimed.Work w) work_is) left

-- an idle claim
module _ (l : Limits) (keeper keeper' : KeeperShown) (olds news : List PassShown) (h h' : List Event) (n c : ℕ) (old new : PassShown) (a : Alone l keeper keeper' olds news h h' n c old new) (turn : new.from ≡ old.from) (stage from : ℕ) where
  pub idle_leaves : (says : Claims l stage old new claimed.Idle) → (next_waiting (was l keeper keeper' olds news h h' n c old new a) from stage ≡ None) × (thread_of l news h' ≡ was l keeper keeper' olds news h h' n c old new a)
      × ((pass_at (was l keeper keeper' olds news h h' n c old new a) c).claimed < l.units)
  idle_leaves says =
      let at = claimed_is l keeper keeper' olds news h h' n c old new a stage in
      let room = says.0 in (
        none_waits (was l keeper keeper' olds news h h' n c old new a) from stage a.before.legal (idle l keeper keeper' olds news h h' n c old new a stage says.1 says.3),
        quiet_leaves l keeper keeper' olds news h h' n c old new a turn says.1,
        omega arith,
      )

  pub full : claims_in old.mine ≡ l.units → l.units ≤ (pass_at (was l keeper keeper' olds news h h' n c old new a) c).claimed
  full used = let at = claimed_is l keeper keeper' olds news h h' n c old new a stage in omega arith

pub alone_claim : AloneClaim
alone_claim stage l keeper keeper' olds news h h' n c old new (claimed.Work work) a turn says =
    let before : State = was l keeper keeper' olds news h h' n c old new a in
    let first : FoundNoneBefore l stage 0 work.element.id old new = λ x born staged less. says.first x born staged (⊎_elim (λ p. p.1) (λ p. absurd (let low = p.0 in omega arith)) less) in
    let same : turns_in new.from ≡ (pass_at before c).turns = ap turns_in turn ∙ sym (ap (λ (p : PassState). p.turns) (used_is l keeper keeper' olds news h h' n c old new a stage)) in
    takes l keeper keeper' olds news h h' n c old new a stage work says.opens (pass_at before c).turns same
    ∙ sym (claim_works before c stage (look l keeper keeper' olds news h h' n c old new a stage work says.opens) (room l keeper keeper' olds news h h' n c old new a stage work says.opens)
    (next l keeper keeper' olds news h h' n c old new a stage work says.opens 0 first))
alone_claim stage l keeper keeper' olds news h h' n c old new claimed.Idle a turn says =
    let t = idle_leaves l keeper keeper' olds news h h' n c old new a turn stage 0 says in
    ap (λ t. (claimed.Idle, t)) t.1 ∙ sym (claim_idle (was l keeper keeper' olds news h h' n c old new a) c stage t.2 t.0)
alone_claim stage l keeper keeper' olds news h h' n c old new claimed.NoUnit a turn says =
    ap (λ t. (claimed.NoUnit, t)) (quiet_leaves l keeper keeper' olds news h h' n c old new a turn (same_quiet old new says.1))
    ∙ sym (claim_none (was l keeper keeper' olds news h h' n c old new a) c stage (full l keeper keeper' olds news h h' n c old new a turn stage 0 says.0))

-- where the next claim in turn begins, and where it begins after one that took an element

turn_is : (from : List ℕ) (stage : ℕ) → stage < 16 → slice_index (turns_in from) stage ≡ slice_index from stage
turn_is from stage less = get_or-map-range_with_len (slice_index from) 0 16 stage stage 0 less (omega arith)

turned : (old new : List ℕ) (stage id : ℕ) → stage < 16 → slice_index new stage ≡ id → ((other : ℕ) → ¬ (other ≡ stage) → slice_index new other ≡ slice_index old other)
    → turns_in new ≡ slice_set (turns_in old) stage id
turned old new stage id less at others = ext_get_or 0 (turns_in new) (slice_set (turns_in old) stage id)
    (length-map-range_with_len (slice_index new) 0 16 ∙ (sym (length-map-range_with_len (slice_index old) 0 16) ∙ sym (length-set (turns_in old) stage id)))
    (λ i there. let in_it : i < 16 = subst (λ n. i < n) (length-map-range_with_len (slice_index new) 0 16) there in
    let long : length (turns_in old) ≡ 16 = length-map-range_with_len (slice_index old) 0 16 in
    get_or-map-range_with_len (slice_index new) 0 16 i i 0 in_it (omega arith)
    ∙ elim (eqb_tells i stage) [
      | inl p ↦ ap (slice_index new) p.1 ∙ (at ∙ sym (get_or-set_at (turns_in old) stage i id 0 p.1 (rw long less)))
      | inr p ↦ others i p.1 ∙ (sym (turn_is old i in_it) ∙ sym (get_or-set_other (turns_in old) stage i id 0 (λ same. p.1 same)))
    ])

pub alone_claim_next : AloneClaimNext
alone_claim_next stage l keeper keeper' olds news h h' n c old new (claimed.Work work) a server says =
    let before : State = was l keeper keeper' olds news h h' n c old new a in
    let is : (pass_at before c).turns ≡ turns_in old.from = ap (λ (p : PassState). p.turns) (used_is l keeper keeper' olds news h h' n c old new a stage) in
    let few : stage < 16 = let top = server.1 in omega arith in
    let at : slice_index old.from stage ≡ turn_of_pass before c stage = sym (ap (λ ts. slice_index ts stage) is ∙ turn_is old.from stage few) in
    let first : FoundNoneBefore l stage (turn_of_pass before c stage) work.element.id old new = subst (λ k. FoundNoneBefore l stage k work.element.id old new) at says.first in
    let same : turns_in new.from ≡ slice_set (pass_at before c).turns stage (work.element.id + 1) =
    turned old.from new.from stage (work.element.id + 1) few says.turn says.others ∙ ap (λ ts. slice_set ts stage (work.element.id + 1)) (sym is) in
    takes l keeper keeper' olds news h h' n c old new a stage work says.opens (slice_set (pass_at before c).turns stage (work.element.id + 1)) same
    ∙ sym (claim_next_works before c stage (look l keeper keeper' olds news h h' n c old new a stage work says.opens)
    (room l keeper keeper' olds news h h' n c old new a stage work says.opens)
    (next l keeper keeper' olds news h h' n c old new a stage work says.opens (turn_of_pass before c stage) first))
alone_claim_next stage l keeper keeper' olds news h h' n c old new claimed.Idle a server says =
    let before : State = was l keeper keeper' olds news h h' n c old new a in
    let t = idle_leaves l keeper keeper' olds news h h' n c old new a says.1 stage (turn_of_pass before c stage) says.0 in
    ap (λ t. (claimed.Idle, t)) t.1 ∙ sym (claim_next_idle before c stage t.2 t.0)
alone_claim_next stage l keeper keeper' olds news h h' n c old new claimed.NoUnit a server says =
    let turn : new.from ≡ old.from = ap (λ (p : PassShown). p.from) says.1 in
    ap (λ t. (claimed.NoUnit, t)) (quiet_leaves l keeper keeper' olds news h h' n c old new a turn (same_quiet old new says.1))
    ∙ sym (claim_next_none (was l keeper keeper' olds news h h' n c old new a) c stage (full l keeper keeper' olds news h h' n c old new a turn stage 0 says.0))
