-- A command on a desk that is one call of the manager, where nobody else acts.
use Rattle.std.proofs.Common.{◌≡◌, ℕ, zero, suc, Bool, true, false, List, [], ◌∷◌, ◌++◌, length, map, slice_index_or, Option, Some, None, refl, sym, ◌∙◌, ap, subst, arith, Result, Ok, Err}
use Rattle.std.specs.Prelude.{IfSome, is_some, if◌then◌else◌}
use Rattle.tp_model.specs.declared.types.Claimed.{Claimed}
use Rattle.tp_model.specs.declared.types.Claimed.TheVariants as claimeds
use Rattle.tp_model.specs.declared.types.Ended.{Ended}
use Rattle.tp_model.specs.declared.types.Ended.TheVariants as endeds
use Rattle.tp_model.specs.declared.types.Limits.{Limits}
use Rattle.tp_model.specs.declared.types.Refusal.{Refusal}
use Rattle.tp_model.specs.declared.types.Refusal.TheVariants as refusals
use Rattle.tp_model.specs.declared.types.Work.{Work}
use Rattle.tp_model.specs.declared.event.Event.{Event}
use Rattle.tp_model.specs.Steps.{IsServerStage}
use Rattle.tp_plain.specs.declared.pass_state.PassState.{PassState}
use Rattle.tp_plain.specs.Computed.{abort_of}
use Rattle.tp_plain.specs.OneThread as thread
use Rattle.tp_plain.specs.OneThread.{no_pass, pass_at}
use Rattle.tp_server.specs.declared.recipe.Recipe.{Recipe}
use Rattle.tp_server.specs.Pending.{Pending}
use Rattle.tp_manager.specs.Bounds.{abort_steps}
use Rattle.tp_manager.specs.Calls.{AnswersAbort, Follows}
use Rattle.tp_manager.specs.Shown.{KeeperShown, PassShown}
use Rattle.tp_server.specs.declared.order.Order.{Order}
use Rattle.tp_server.specs.declared.order.Order.TheVariants as orders
use Rattle.tp_server.specs.declared.turned.Turned.TheVariants as turneds
use Rattle.tp_desk.specs.Orders.{ClaimsBy, steps_by}
use Rattle.tp_desk.specs.Given.{ClaimsGiven, GivenFails, given_steps}
use Rattle.tp_desk.specs.Turns.{EndsOpen}
use Rattle.tp_report.specs.declared.answer.ServerAnswer.{ServerAnswer}
use Rattle.tp_report.specs.declared.answer.ServerAnswer.TheVariants as told
use Rattle.tp_commands.specs.Acting.{AbortsAt, ClaimsAt, DeskShown, DropsAt, TellsAbort, TellsClaim, TellsDrop, TakesAt, TellsTake}
use Rattle.tp_reference.specs.declared.plain_desk.PlainDesk.{PlainDesk}
use Rattle.tp_reference.specs.PlainDesks.{DeskAnswered, abort_step, abort_work, aborted_as, claim_in_order, claim_step, claimed_as, drop_step, after_giving_up, has_open, work_in_hand, nothing_done, with_drop, claim_given, given_as, take_step}
use Rattle.tp_rollover.specs.Thread.{Alone, not_given, state_of, thread_of}
use Rattle.tp_rollover.proofs.AloneAborts.{alone_abort}
use Rattle.tp_rollover.proofs.AloneClaims.{alone_claim, alone_claim_next}
use Rattle.tp_exact.specs.Acts.{Acts}
use Rattle.tp_exact.specs.Stands.{IsForDesk}
use Rattle.tp_exact.proofs.Parts.{idle}
use Rattle.tp_exact.proofs.Takes.{gives}

-- the state of a pass stands at its place
pub pass_here : (front back : List PassShown) (p : PassShown) (rest : List PassState) (c : ℕ) → length front ≡ c → slice_index_or (map state_of (front ++ p ∷ back) ++ rest) c no_pass ≡ state_of p
pass_here [] back p rest zero at = refl
pass_here [] back p rest (suc c) at = absurd (omega (arith, at))
pass_here (q ∷ qs) back p rest zero at = absurd (omega (arith, at))
pass_here (q ∷ qs) back p rest (suc c) at = pass_here qs back p rest c (omega (arith, at))

module _ (recipe : Recipe) (l : Limits) (keeper keeper' : KeeperShown) (olds news : List PassShown) (h h' : List Event) (c : ℕ) (old new : DeskShown) (d : PlainDesk)
    (a : Acts l keeper keeper' olds news h h' c old.pass new.pass) (limits : new.pass.limits ≡ l) (is : IsForDesk old d) where
  abbrev pub m : thread.State
  m = thread_of l olds h

  abbrev pub Exact : ServerAnswer → DeskAnswered → Type 0
  Exact answer done = (answer ≡ done.answer) × (thread_of l news h' ≡ done.manager) × IsForDesk new done.desk

  holds : (pass_at m c).holding ≡ old.pass.open_unit
  holds = ap (λ (p : PassState). p.holding) (ap (λ ps. slice_index_or (map state_of ps ++ not_given l (length olds)) c no_pass) a.olds_are ∙ pass_here a.front a.back old.pass (not_given l (length olds)) c a.place)

  pub open_so : has_open m c ≡ is_some old.work
  open_so = ap (λ (o : Option ℕ). is_some o) holds ∙ is.open_is

  pub hand_so : work_in_hand m c d ≡ old.work
  hand_so = ap (λ (o : Option ℕ). if is_some o then d.taken else None) holds ∙ is.work

  alone : (n : ℕ) → Follows n old.pass new.pass → Alone l keeper keeper' olds news h h' n c old.pass new.pass
  alone n f = record { before = a.before; front = a.front; back = a.back; olds_are = a.olds_are; place = a.place; limits = limits; follows = f; others = a.others; after = a.after }

  -- nothing was done
  pub same : (answer : ServerAnswer) → new ≡ old → Exact answer (nothing_done answer m d)
  same answer none = (refl, idle l keeper keeper' olds news h h' c old.pass new.pass a (ap (λ (x : DeskShown). x.pass) none), subst (λ x. IsForDesk x d) (sym none) is)

  -- ---- claims

  pub claims_none : (new.pass.open_unit ≡ None) → new.work ≡ None → new.registers ≡ old.registers → IsForDesk new d
  claims_none shut none registers = record {
    registers = is.registers ∙ sym registers;
    work = ap (λ (o : Option ℕ). if is_some o then d.taken else None) shut ∙ sym none;
    open_is = ap (λ (o : Option ℕ). is_some o) shut ∙ sym (ap (λ (o : Option Work). is_some o) none);
    prepared = λ some. (let clash : false ≡ true = sym (ap (λ (o : Option Work). is_some o) none) ∙ some in absurd cc);
  }

  shut_of : (o : Option ℕ) → is_some o ≡ false → o ≡ None
  shut_of None none = refl
  shut_of (Some u) none = absurd cc

  pub was_shut : old.work ≡ None → old.pass.open_unit ≡ None
  was_shut none = shut_of old.pass.open_unit (is.open_is ∙ ap (λ (o : Option Work). is_some o) none)

  module _ (server : IsServerStage recipe.stage) (stage : old.behaviour.stage ≡ recipe.stage) where
    law_by : (order : Order) (claimed : Claimed) → ClaimsAt order l claimed old new → (claimed, thread_of l news h') ≡ claim_in_order order m c recipe.stage
    law_by orders.LeastFirst claimed f = alone_claim recipe.stage l keeper keeper' olds news h h' (steps_by orders.LeastFirst l) c old.pass new.pass claimed (alone (steps_by orders.LeastFirst l) f.follows) f.turn
        (subst (λ s. ClaimsBy orders.LeastFirst l s old.pass new.pass claimed) stage f.answer)
    law_by orders.InTurn claimed f = alone_claim_next recipe.stage l keeper keeper' olds news h h' (steps_by orders.InTurn l) c old.pass new.pass claimed (alone (steps_by orders.InTurn l) f.follows) server
        (subst (λ s. ClaimsBy orders.InTurn l s old.pass new.pass claimed) stage f.answer)

    done_by : (order : Order) (claimed : Claimed) → ClaimsAt order l claimed old new → claimed_as (claimed, thread_of l news h') d ≡ claim_step order recipe c m d
    done_by order claimed f =
        ap (λ r. claimed_as r d) (law_by order claimed f)
        ∙ sym (ap (λ (b : Bool). if b then nothing_done told.Busy m d else claimed_as (claim_in_order order m c recipe.stage) d) (open_so ∙ ap (λ (o : Option Work). is_some o) f.idle))

    opened : (order : Order) (work : Work) → ClaimsAt order l (claimeds.Work work) old new → new.pass.open_unit ≡ Some work.unit
    opened orders.LeastFirst work f = f.answer.opens.open_unit
    opened orders.InTurn work f = f.answer.opens.open_unit

    idle_shut : (order : Order) → ClaimsAt order l claimeds.Idle old new → new.pass.open_unit ≡ None
    idle_shut orders.LeastFirst f = f.answer.1.open_unit ∙ was_shut f.idle
    idle_shut orders.InTurn f = f.answer.0.1.open_unit ∙ was_shut f.idle

    used_shut : (order : Order) → ClaimsAt order l claimeds.NoUnit old new → new.pass.open_unit ≡ None
    used_shut orders.LeastFirst f = ap (λ (p : PassShown). p.open_unit) f.answer.1 ∙ was_shut f.idle
    used_shut orders.InTurn f = ap (λ (p : PassShown). p.open_unit) f.answer.1 ∙ was_shut f.idle

    work_told : (element unit attempt : ℕ) (work : Work) → element ≡ work.element.id → unit ≡ work.unit → attempt ≡ work.attempt → told.Work element unit attempt ≡ told.Work work.element.id work.unit work.attempt
    work_told element unit attempt work x y z = cc

    pub claims : (order : Order) (answer : ServerAnswer) → TellsClaim order l old answer new → Exact answer (claim_step order recipe c m d)
    claims order (told.Work element unit attempt) t =
        let f = t.1 in
        let shown = opened order t.0 f in
        subst (Exact (told.Work element unit attempt)) (done_by order (claimeds.Work t.0) f) (
          work_told element unit attempt t.0 t.2 t.3 t.4,
          refl,
          record {
            registers = is.registers ∙ sym f.server.1;
            work = ap (λ (o : Option ℕ). if is_some o then Some t.0 else None) shown ∙ sym f.work;
            open_is = ap (λ (o : Option ℕ). is_some o) shown ∙ sym (ap (λ (o : Option Work). is_some o) f.work);
            prepared = λ some. sym (ap (λ (o : Option Pending). is_some o) f.unprepared);
          },
        )
    claims order (told.Turned turneds.Idle) t = subst (Exact (told.Turned turneds.Idle)) (done_by order claimeds.Idle t) (refl, refl, claims_none (idle_shut order t) t.work t.server.1)
    claims order (told.Turned turneds.NoUnit) t = subst (Exact (told.Turned turneds.NoUnit)) (done_by order claimeds.NoUnit t) (refl, refl, claims_none (used_shut order t) t.work t.server.1)
    claims order told.Busy t =
        let busy : is_some old.work ≡ true = t.0 in
        subst (Exact told.Busy) (sym (ap (λ (b : Bool). if b then nothing_done told.Busy m d else claimed_as (claim_in_order order m c recipe.stage) d) (open_so ∙ busy))) (same told.Busy t.1)
    claims order other t = absurd t

    given_other : (id : ℕ) (why : Refusal) (t : thread.State) → ¬ (why ≡ refusals.NoUnit) → given_as id (Err why, t) d ≡ nothing_done (told.NotTaken id why) t d
    given_other id refusals.NoUnit t not = absurd (not refl)
    given_other id other t not = refl

    takes_by : (id : ℕ) (r : Result Work Refusal) → TakesAt l id r old new → given_as id (r, thread_of l news h') d ≡ take_step recipe id c m d
    takes_by id r f =
        ap (λ z. given_as id z d) (gives l keeper keeper' olds news h h' (given_steps l) c old.pass new.pass (alone (given_steps l) f.follows) f.turn recipe.stage id server r (subst (λ s. ClaimsGiven l s id old.pass new.pass r) stage f.answer))
        ∙ sym (ap (λ (b : Bool). if b then nothing_done told.Busy m d else given_as id (claim_given recipe.stage c id m) d) (open_so ∙ ap (λ (o : Option Work). is_some o) f.idle))

    failed_shut : (id : ℕ) (why : Refusal) → TakesAt l id (Err why) old new → new.pass.open_unit ≡ None
    failed_shut id why f = go why f.answer
      where
        go : (w : Refusal) → GivenFails l old.behaviour.stage id old.pass new.pass w → new.pass.open_unit ≡ None
        go refusals.NoUnit says = ap (λ (p : PassShown). p.open_unit) says.1 ∙ was_shut f.idle
        go refusals.NotThere says = says.1.open_unit ∙ was_shut f.idle
        go refusals.BadStage says = says.1.open_unit ∙ was_shut f.idle
        go refusals.NotWaiting says = says.1.open_unit ∙ was_shut f.idle
        go other says = absurd says

    pub takes : (id : ℕ) (answer : ServerAnswer) → TellsTake l id old answer new → Exact answer (take_step recipe id c m d)
    takes id (told.Work element unit attempt) t =
        let f = t.1 in
        let shown : new.pass.open_unit ≡ Some t.0.unit = f.answer.0.open_unit in
        subst (Exact (told.Work element unit attempt)) (takes_by id (Ok t.0) f) (
          work_told element unit attempt t.0 t.2 t.3 t.4,
          refl,
          record {
            registers = is.registers ∙ sym f.server.1;
            work = ap (λ (o : Option ℕ). if is_some o then Some t.0 else None) shown ∙ sym f.work;
            open_is = ap (λ (o : Option ℕ). is_some o) shown ∙ sym (ap (λ (o : Option Work). is_some o) f.work);
            prepared = λ some. sym (ap (λ (o : Option Pending). is_some o) f.unprepared);
          },
        )
    takes id (told.Turned turneds.NoUnit) f = subst (Exact (told.Turned turneds.NoUnit)) (takes_by id (Err refusals.NoUnit) f) (refl, refl, claims_none (failed_shut id refusals.NoUnit f) f.work f.server.1)
    takes id (told.NotTaken element why) t =
        let f = t.2 in
        subst (Exact (told.NotTaken element why)) (sym (given_other id why (thread_of l news h') t.1) ∙ takes_by id (Err why) f)
        (ap (λ i. told.NotTaken i why) t.0, refl, claims_none (failed_shut id why f) f.work f.server.1)
    takes id told.Busy t =
        subst (Exact told.Busy) (sym (ap (λ (b : Bool). if b then nothing_done told.Busy m d else given_as id (claim_given recipe.stage c id m) d) (open_so ∙ t.0))) (same told.Busy t.1)
    takes id other t = absurd t

  -- ---- the end of a unit

  cleared_for : new.pass.open_unit ≡ None → new.work ≡ None → new.registers ≡ old.registers → (e : PlainDesk) → e.registers ≡ d.registers → IsForDesk new e
  cleared_for shut none registers e kept = record {
    registers = kept ∙ (is.registers ∙ sym registers);
    work = ap (λ (o : Option ℕ). if is_some o then e.taken else None) shut ∙ sym none;
    open_is = ap (λ (o : Option ℕ). is_some o) shut ∙ sym (ap (λ (o : Option Work). is_some o) none);
    prepared = λ some. (let clash : false ≡ true = sym (ap (λ (o : Option Work). is_some o) none) ∙ some in absurd cc);
  }

  pub closed : (ended : Ended) → AnswersAbort old.pass new.pass ended → new.pass.open_unit ≡ None
  closed endeds.Aborted ends = ends.1.open_unit
  closed endeds.AlreadyAborted ends = ends.1.open_unit

  aborts_by : (ended : Ended) (element : ℕ) (f : AbortsAt ended element old new) → aborted_as f.work (ended, thread_of l news h') d ≡ abort_step c m d
  aborts_by ended element f =
      ap (λ r. aborted_as f.work r d) (alone_abort l keeper keeper' olds news h h' abort_steps c old.pass new.pass ended (alone abort_steps f.follows) f.turn f.answer)
      ∙ ap (λ o. abort_work o c m d) (sym (hand_so ∙ f.in_hand))

  pub aborts : (answer : ServerAnswer) → TellsAbort old answer new → Exact answer (abort_step c m d)
  aborts (told.Aborted element) f = subst (Exact (told.Aborted element)) (aborts_by endeds.Aborted element f) (ap (λ i. told.Aborted i) f.element_is, refl, cleared_for (closed endeds.Aborted f.answer) f.none_left f.server.1 (aborted_as f.work (endeds.Aborted, thread_of l news h') d).desk refl)
  aborts (told.AlreadyAborted element) f = subst (Exact (told.AlreadyAborted element)) (aborts_by endeds.AlreadyAborted element f) (ap (λ i. told.AlreadyAborted i) f.element_is, refl, cleared_for (closed endeds.AlreadyAborted f.answer) f.none_left f.server.1 (aborted_as f.work (endeds.AlreadyAborted, thread_of l news h') d).desk refl)
  aborts told.NoneOpen t = subst (Exact told.NoneOpen) (ap (λ o. abort_work o c m d) (sym (hand_so ∙ t.0))) (same told.NoneOpen t.1)
  aborts other t = absurd t

  given_by : (o : Option ℕ) → old.pass.open_unit ≡ o → EndsOpen o old.pass new.pass → IfSome o (λ _. Follows abort_steps old.pass new.pass) → new.pass.from ≡ old.pass.from → (thread_of l news h' ≡ after_giving_up m c) × (new.pass.open_unit ≡ None)
  given_by (Some u) at ends follows turn = (
    ap (λ r. r.1) (alone_abort l keeper keeper' olds news h h' abort_steps c old.pass new.pass ends.0 (alone abort_steps follows) turn ends.1)
        ∙ sym (ap (λ (b : Bool). if b then (abort_of m c).1 else m) (ap (λ (o : Option ℕ). is_some o) (holds ∙ at))),
    closed ends.0 ends.1,
  )
  given_by None at none follows turn = (
    idle l keeper keeper' olds news h h' c old.pass new.pass a none ∙ sym (ap (λ (b : Bool). if b then (abort_of m c).1 else m) (ap (λ (o : Option ℕ). is_some o) (holds ∙ at))),
    ap (λ (p : PassShown). p.open_unit) none ∙ at,
  )

  -- what a desk gives up before all end
  pub gives_up : DropsAt old new → (thread_of l news h' ≡ after_giving_up m c) × IsForDesk new d × (new.pass.open_unit ≡ None)
  gives_up f =
      let t = given_by old.pass.open_unit refl f.gives_up f.follows f.turn in
      (t.0, claims_none t.1 f.none_left f.server.1, t.1)

  pub drops : (answer : ServerAnswer) → TellsDrop old answer new → Exact answer (drop_step c m d)
  drops told.Dropped f =
      let t = given_by old.pass.open_unit refl f.gives_up f.follows f.turn in
      (refl, t.0, cleared_for t.1 f.none_left f.server.1 (with_drop d) refl)
  drops other t = absurd t
