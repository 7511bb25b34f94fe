-- Work that a desk prepares and commits, and turns, where nobody else acts.
use Rattle.std.proofs.Common.{◌≡◌, ℕ, Bool, true, false, List, Option, Some, None, Ok, Err, refl, sym, ◌∙◌, ap, subst}
use Rattle.std.specs.Prelude.{IfSome, IsSome, is_some, if◌then◌else◌}
use Rattle.tp_model.specs.declared.types.Claimed.{Claimed}
use Rattle.tp_model.specs.declared.types.Claimed.TheVariants as claimeds
use Rattle.tp_model.specs.declared.types.Ended.{Ended}
use Rattle.tp_model.specs.declared.types.Ended.TheVariants as endeds
use Rattle.tp_model.specs.declared.types.Element.{Element}
use Rattle.tp_model.specs.declared.types.Limits.{Limits}
use Rattle.tp_model.specs.declared.types.Outcome.{Outcome}
use Rattle.tp_model.specs.declared.types.Outcome.TheVariants as outcomes
use Rattle.tp_model.specs.declared.types.Work.{Work}
use Rattle.tp_model.specs.declared.event.Event.{Event}
use Rattle.tp_model.specs.Drafts.{DraftView}
use Rattle.tp_model.specs.Passes.{IsPassView}
use Rattle.tp_model.specs.Steps.{IsServerStage}
use Rattle.tp_plain.specs.Computed.{abort_of}
use Rattle.tp_plain.specs.OneThread as thread
use Rattle.tp_server.specs.declared.recipe.Declined.{Declined}
use Rattle.tp_server.specs.declared.recipe.Recipe.{Recipe}
use Rattle.tp_server.specs.Behaviour.{Allows, Behaviour, IsMade, behaviour_of}
use Rattle.tp_server.specs.Effect.{Effect, effect_of}
use Rattle.tp_server.specs.Pending.{Pending}
use Rattle.tp_manager.specs.Bounds.{commit_steps}
use Rattle.tp_manager.specs.Calls.{AnswersAbort, Follows, Settles}
use Rattle.tp_manager.specs.Shown.{KeeperShown, PassShown, view_in}
use Rattle.tp_server.specs.declared.order.Order.{Order}
use Rattle.tp_server.specs.declared.order.Order.TheVariants as orders
use Rattle.tp_server.specs.declared.turned.Turned.{Turned}
use Rattle.tp_server.specs.declared.turned.Turned.TheVariants as turneds
use Rattle.tp_desk.specs.Orders.{ClaimsBy, KeepsTurn, steps_by}
use Rattle.tp_desk.specs.Turns.{Works, WorksOff, turn_steps}
use Rattle.tp_report.specs.declared.answer.ServerAnswer.{ServerAnswer}
use Rattle.tp_report.specs.declared.answer.ServerAnswer.TheVariants as told
use Rattle.tp_workers.specs.Desks.{TakesTurn}
use Rattle.tp_commands.specs.Acting.{DeskShown, PreparesAt, TellsCommit, TellsPrepare, TellsTurn, WorksOffAt, place_of_desk}
use Rattle.tp_reference.specs.declared.plain_desk.PlainDesk.{PlainDesk}
use Rattle.tp_reference.specs.PlainDesks.{DeskAnswered, claim_in_order, commit_step, commit_work, committed_as, work_in_hand, nothing_done, prepare_step, prepare_with, prepare_work, settle, settle_with, settled_desk, turn_as, turn_by, turn_step}
use Rattle.tp_rollover.specs.Thread.{Alone, HasSeen, thread_of}
use Rattle.tp_rollover.proofs.AloneAborts.{alone_abort}
use Rattle.tp_rollover.proofs.AloneClaims.{alone_claim, alone_claim_next}
use Rattle.tp_rollover.proofs.AloneCommits.{alone_commit}
use Rattle.tp_exact.specs.Acts.{Acts}
use Rattle.tp_exact.specs.Stands.{IsForDesk}
use Rattle.tp_exact.proofs.Desks.{Exact, claims_none, hand_so, open_so, same, was_shut}
use Rattle.tp_exact.proofs.Halves.{draws_off, first_half, goes_later, half, last_half}
use Rattle.tp_exact.proofs.Parts.{Went, idle, went_by}

-- ---- what a recipe allows

same_effect : (recipe : Recipe) (behaviour : Behaviour) (registers : List ℕ) (x : Element) (effect : Effect) → behaviour ≡ behaviour_of recipe → Allows behaviour registers x (Ok effect) → effect_of recipe registers x ≡ Ok effect
same_effect recipe behaviour registers x effect is (heard, allowed) = subst (λ (b : Behaviour). b.effect registers x heard ≡ Ok effect) is allowed

same_reason : (recipe : Recipe) (behaviour : Behaviour) (registers : List ℕ) (x : Element) (why : Declined) → behaviour ≡ behaviour_of recipe → Allows behaviour registers x (Err why) → effect_of recipe registers x ≡ Err why
same_reason recipe behaviour registers x why is (heard, allowed) = subst (λ (b : Behaviour). b.effect registers x heard ≡ Err why) is allowed

made_effect : (recipe : Recipe) (behaviour : Behaviour) (registers : List ℕ) (x : Element) (pending : Option Pending) (drafts : List DraftView) → behaviour ≡ behaviour_of recipe → IsMade behaviour registers x pending drafts → (effect : Effect) × (effect_of recipe registers x ≡ Ok effect)
made_effect recipe behaviour registers x None drafts is made = absurd made
made_effect recipe behaviour registers x (Some p) drafts is (same, allowed) =
    let effect : Effect = record { registers = p.registers; drafts = drafts } in
    (effect, same_effect recipe behaviour registers x effect is allowed)

-- ---- the answers of work that is worked off

done_told : (work : Work) (unit element first count : ℕ) (now : thread.State) (left after : List ℕ) (d : PlainDesk) → unit ≡ work.unit → element ≡ work.element.id → left ≡ after
    → settled_desk (turneds.Done work.unit work.element.id first count) now after d ≡ settled_desk (turneds.Done unit element first count) now left d
done_told work unit element first count now left after d a b is = rw (a, b, is) refl

lost_told : (work : Work) (element : ℕ) (now : thread.State) (left after : List ℕ) (d : PlainDesk) → element ≡ work.element.id → left ≡ after
    → settled_desk (turneds.Lost work.element.id) now after d ≡ settled_desk (turneds.Lost element) now left d
lost_told work element now left after d b is = rw (b, is) refl

full_told : (work : Work) (element : ℕ) (now : thread.State) (left after : List ℕ) (d : PlainDesk) → element ≡ work.element.id → left ≡ after
    → settled_desk (turneds.Full work.element.id) now after d ≡ settled_desk (turneds.Full element) now left d
full_told work element now left after d b is = rw (b, is) refl

refused_told : (work : Work) (element : ℕ) (why : Declined) (was now : thread.State) (left after : List ℕ) (d : PlainDesk) → element ≡ work.element.id → left ≡ after → was ≡ now
    → settled_desk (turneds.Refused work.element.id why) was after d ≡ settled_desk (turneds.Refused element why) now left d
refused_told work element why was now left after d b is same = rw (b, is, same) refl

module _ (recipe : Recipe) (l : Limits) (keeper keeper' : KeeperShown) (olds news : List PassShown) (h h' : List Event) (c : ℕ) (d : PlainDesk) where
  -- a commit or an abort, and what is computed
  module _ (old new : PassShown) (a : Acts l keeper keeper' olds news h h' c old new) (limits : new.limits ≡ l) (n : ℕ) (follows : Follows n old new) (turn : new.from ≡ old.from) (work : Work) (behaviour : Behaviour) (registers left : List ℕ)
      (is : behaviour ≡ behaviour_of recipe) (begins : d.registers ≡ registers) where
    abbrev was : thread.State
    was = thread_of l olds h

    abbrev now : thread.State
    now = thread_of l news h'

    whole : Alone l keeper keeper' olds news h h' n c old new
    whole = record { before = a.before; front = a.front; back = a.back; olds_are = a.olds_are; place = a.place; limits = limits; follows = follows; others = a.others; after = a.after }

    by_effect : (effect : Effect) (outcome : Outcome) → Allows behaviour registers work.element (Ok effect) → Settles effect.drafts old new outcome → settle recipe work c was d ≡ committed_as work effect (outcome, now) d
    by_effect effect outcome allowed settles =
        ap (λ r. settle_with work r c was d) (ap (λ rs. effect_of recipe rs work.element) begins ∙ same_effect recipe behaviour registers work.element effect is allowed)
        ∙ ap (λ r. committed_as work effect r d) (sym (alone_commit effect.drafts l keeper keeper' olds news h h' n c old new outcome whole turn settles))

    pub offs : (turned : Turned) → WorksOff behaviour registers work old new turned left → settle recipe work c was d ≡ settled_desk turned now left d
    offs turneds.Idle off = absurd off
    offs turneds.NoUnit off = absurd off
    offs (turneds.Done unit element first count) (u, e, (effect, allowed, settles, left_is)) =
        by_effect effect (outcomes.Committed first count) allowed settles ∙ done_told work unit element first count now left effect.registers d u e left_is
    offs (turneds.Lost element) (e, (effect, allowed, settles, left_is)) = by_effect effect outcomes.Lost allowed settles ∙ lost_told work element now left d.registers d e (left_is ∙ sym begins)
    offs (turneds.Full element) (e, (effect, allowed, settles, left_is)) = by_effect effect outcomes.Full allowed settles ∙ full_told work element now left d.registers d e (left_is ∙ sym begins)
    offs (turneds.Refused element why) (e, (allowed, (ended, ends)), left_is) =
        ap (λ r. settle_with work r c was d) (ap (λ rs. effect_of recipe rs work.element) begins ∙ same_reason recipe behaviour registers work.element why is allowed)
        ∙ refused_told work element why (abort_of was c).1 now left d.registers d e (left_is ∙ sym begins) (ap (λ r. r.1) (sym (alone_abort l keeper keeper' olds news h h' n c old new ended whole turn ends)))

-- then no unit is open
settled_shut : (drafts : List DraftView) (p q : PassShown) (outcome : Outcome) → Settles drafts p q outcome → q.open_unit ≡ None
settled_shut drafts p q (outcomes.Committed first count) says = says.closes.open_unit
settled_shut drafts p q outcomes.Lost says = says.1.open_unit
settled_shut drafts p q outcomes.Full says = says.2.1.open_unit

ended_shut : (p q : PassShown) (ended : Ended) → AnswersAbort p q ended → q.open_unit ≡ None
ended_shut p q endeds.Aborted ends = ends.1.open_unit
ended_shut p q endeds.AlreadyAborted ends = ends.1.open_unit

off_shut : (behaviour : Behaviour) (registers : List ℕ) (work : Work) (p q : PassShown) (turned : Turned) (left : List ℕ) → WorksOff behaviour registers work p q turned left → q.open_unit ≡ None
off_shut behaviour registers work p q turneds.Idle left off = absurd off
off_shut behaviour registers work p q turneds.NoUnit left off = absurd off
off_shut behaviour registers work p q (turneds.Done unit element first count) left (a, b, (effect, allowed, settles, is)) = settled_shut effect.drafts p q (outcomes.Committed first count) settles
off_shut behaviour registers work p q (turneds.Refused element why) left (a, (allowed, (ended, ends)), is) = ended_shut p q ended ends
off_shut behaviour registers work p q (turneds.Lost element) left (a, (effect, allowed, settles, is)) = settled_shut effect.drafts p q outcomes.Lost settles
off_shut behaviour registers work p q (turneds.Full element) left (a, (effect, allowed, settles, is)) = settled_shut effect.drafts p q outcomes.Full settles

-- a turn that claimed an element keeps the rows and blocks of its pass until it works that off
opened_went : (order : Order) (l : Limits) (behaviour : Behaviour) (registers left : List ℕ) (p q : PassShown) (turned : Turned) (w : Works order l behaviour registers p q turned left) → Went p w.between
opened_went orders.LeastFirst l behaviour registers left p q turned w = went_by (steps_by orders.LeastFirst l) p w.between w.claims w.takes.opens.run.2
opened_went orders.InTurn l behaviour registers left p q turned w = went_by (steps_by orders.InTurn l) p w.between w.claims w.takes.opens.run.2

between_shows : (order : Order) (l : Limits) (behaviour : Behaviour) (registers left : List ℕ) (p q : PassShown) (turned : Turned) (w : Works order l behaviour registers p q turned left) → HasSeen l w.between.seen w.between
between_shows order l behaviour registers left p q turned w = record { limits = w.limits; seen = refl; shows = subst (λ (k : Limits). IsPassView k (view_in w.between)) w.limits w.claims.shows }

module _ (recipe : Recipe) (l : Limits) (keeper keeper' : KeeperShown) (olds news : List PassShown) (h h' : List Event) (c : ℕ) (old new : DeskShown) (d : PlainDesk)
    (a : Acts l keeper keeper' olds news h h' c old.pass new.pass) (limits : new.pass.limits ≡ l) (is : IsForDesk old d) (serves : old.behaviour ≡ behaviour_of recipe) where
  abbrev s : thread.State
  s = thread_of l olds h

  abbrev t : thread.State
  t = thread_of l news h'

  abbrev So : ServerAnswer → DeskAnswered → Type 0
  So answer done = Exact recipe l keeper keeper' olds news h h' c old new d a limits is answer done

  in_hand_is : (o : Option Work) → old.work ≡ o → work_in_hand s c d ≡ o
  in_hand_is o at = hand_so recipe l keeper keeper' olds news h h' c old new d a limits is ∙ at

  -- nothing is in hand any more
  emptied : new.pass.open_unit ≡ None → new.work ≡ None → (e : PlainDesk) → e.registers ≡ new.registers → IsForDesk new e
  emptied shut none e registers = record {
    registers = registers;
    work = ap (λ (o : Option ℕ). if is_some o then e.taken else None) shut ∙ sym none;
    open_is = ap (λ (o : Option ℕ). is_some o) shut ∙ sym (ap (λ (o : Option Work). is_some o) none);
    prepared = λ some. (let clash : false ≡ true = sym (ap (λ (o : Option Work). is_some o) none) ∙ some in absurd cc);
  }

  -- ---- a commit, and a prepare

  worked : (turned : Turned) (f : WorksOffAt l turned old new) → So (told.Turned turned) (settle recipe f.work c s d)
  worked turned f =
      subst (So (told.Turned turned)) (sym (offs recipe l keeper keeper' olds news h h' c d old.pass new.pass a limits (commit_steps l 4) f.follows f.turn f.work old.behaviour old.registers new.registers serves is.registers turned f.answer))
      (refl, refl, emptied (off_shut old.behaviour old.registers f.work old.pass new.pass turned new.registers f.answer) f.none_left (settled_desk turned t new.registers d).desk refl)

  pub commits : (answer : ServerAnswer) → TellsCommit l old answer new → So answer (commit_step recipe c s d)
  commits (told.Turned turned) f = subst (So (told.Turned turned)) (ap (λ o. commit_work recipe o c s d) (sym (in_hand_is (Some f.work) f.in_hand))) (worked turned f)
  commits told.NoneOpen f = subst (So told.NoneOpen) (ap (λ o. commit_work recipe o c s d) (sym (in_hand_is None f.0))) (same recipe l keeper keeper' olds news h h' c old new d a limits is told.NoneOpen f.1)
  commits other f = absurd f

  prepare_at : (o : Option Work) (b : Bool) → old.work ≡ o → d.is_prepared ≡ b → (work : Work) → o ≡ Some work
      → prepare_step recipe c s d ≡ (if b then nothing_done told.Busy s d else prepare_with work (effect_of recipe d.registers work.element) c s d)
  prepare_at o b at prepared work some =
      ap (λ o. prepare_work recipe o c s d) (in_hand_is (Some work) (at ∙ some)) ∙ ap (λ (b : Bool). if b then nothing_done told.Busy s d else prepare_with work (effect_of recipe d.registers work.element) c s d) prepared

  unprepared_is : IsSome old.work → old.pending ≡ None → d.is_prepared ≡ false
  unprepared_is some none = is.prepared some ∙ ap (λ (o : Option Pending). is_some o) none

  ready : (f : PreparesAt old new) (o : Option Work) → old.work ≡ o → IsSome o → IfSome o (λ work. IsMade old.behaviour old.registers work.element new.pending f.drafts) → So told.Ready (prepare_step recipe c s d)
  ready f None at some made = absurd cc
  ready f (Some work) at some made =
      let effect = made_effect recipe old.behaviour old.registers work.element new.pending f.drafts serves made in
      let computed = prepare_at (Some work) false at (unprepared_is f.in_hand f.unprepared) work refl
      ∙ ap (λ r. prepare_with work r c s d) (ap (λ rs. effect_of recipe rs work.element) is.registers ∙ effect.1) in
      let open_same : new.pass.open_unit ≡ old.pass.open_unit = ap (λ (p : PassShown). p.open_unit) f.pass in
      let work_same : is_some new.work ≡ is_some old.work = ap (λ (o : Option Work). is_some o) f.work in
      subst (So told.Ready) (sym computed) (
        refl,
        idle l keeper keeper' olds news h h' c old.pass new.pass a f.pass,
        record {
          registers = is.registers ∙ sym f.server.1;
          work = ap (λ (o : Option ℕ). if is_some o then d.taken else None) open_same ∙ (is.work ∙ sym f.work);
          open_is = ap (λ (o : Option ℕ). is_some o) open_same ∙ (is.open_is ∙ sym work_same);
          prepared = λ some. sym f.prepared;
        },
      )

  declined_at : (element : ℕ) (why : Declined) (f : WorksOffAt l (turneds.Refused element why) old new) → prepare_with f.work (effect_of recipe d.registers f.work.element) c s d ≡ settle recipe f.work c s d
  declined_at element why f =
      let reason = ap (λ rs. effect_of recipe rs f.work.element) is.registers ∙ same_reason recipe old.behaviour old.registers f.work.element why serves f.answer.1.0 in
      ap (λ r. prepare_with f.work r c s d) reason ∙ sym (ap (λ r. settle_with f.work r c s d) reason)

  some_work : (work : Work) → old.work ≡ Some work → IsSome old.work
  some_work work at = ap (λ (o : Option Work). is_some o) at

  busy : (o : Option Work) → old.work ≡ o → IsSome o → IsSome old.pending → new ≡ old → So told.Busy (prepare_step recipe c s d)
  busy None at some pending none = absurd cc
  busy (Some work) at some pending none =
      subst (So told.Busy) (sym (prepare_at (Some work) true at (is.prepared (some_work work at) ∙ pending) work refl)) (same recipe l keeper keeper' olds news h h' c old new d a limits is told.Busy none)

  pub prepares : (answer : ServerAnswer) → TellsPrepare l old answer new → So answer (prepare_step recipe c s d)
  prepares told.Ready f = ready f old.work refl f.in_hand f.made
  prepares (told.Turned (turneds.Refused element why)) f =
      let computed = prepare_at (Some f.1.work) false f.1.in_hand (unprepared_is (some_work f.1.work f.1.in_hand) f.0) f.1.work refl ∙ declined_at element why f.1 in
      subst (So (told.Turned (turneds.Refused element why))) (sym computed) (worked (turneds.Refused element why) f.1)
  prepares told.Busy f = busy old.work refl f.0 f.1 f.2
  prepares told.NoneOpen f = subst (So told.NoneOpen) (ap (λ o. prepare_work recipe o c s d) (sym (in_hand_is None f.0))) (same recipe l keeper keeper' olds news h h' c old new d a limits is told.NoneOpen f.1)
  prepares other f = absurd f

  -- ---- a turn

  module _ (server : IsServerStage recipe.stage) where
    stage_is : old.behaviour.stage ≡ recipe.stage
    stage_is = ap (λ (b : Behaviour). b.stage) serves

    claim_law : (order : Order) (n : ℕ) (mids : List PassShown) (k : KeeperShown) (g : List Event) (mid : PassShown) (claimed : Claimed) → Acts l keeper k olds mids h g c old.pass mid → mid.limits ≡ l → Follows n old.pass mid → KeepsTurn order old.pass mid
        → ClaimsBy order l old.behaviour.stage old.pass mid claimed → (claimed, thread_of l mids g) ≡ claim_in_order order s c recipe.stage
    claim_law orders.LeastFirst n mids k g mid claimed acts lim follows keeps says =
        alone_claim recipe.stage l keeper k olds mids h g n c old.pass mid claimed (record { before = acts.before; front = acts.front; back = acts.back; olds_are = acts.olds_are; place = acts.place; limits = lim; follows = follows; others = acts.others; after = acts.after })
        keeps (subst (λ z. ClaimsBy orders.LeastFirst l z old.pass mid claimed) stage_is says)
    claim_law orders.InTurn n mids k g mid claimed acts lim follows keeps says =
        alone_claim_next recipe.stage l keeper k olds mids h g n c old.pass mid claimed (record { before = acts.before; front = acts.front; back = acts.back; olds_are = acts.olds_are; place = acts.place; limits = lim; follows = follows; others = acts.others; after = acts.after })
        server (subst (λ z. ClaimsBy orders.InTurn l z old.pass mid claimed) stage_is says)

    still_shut : (order : Order) → old.work ≡ None → ClaimsBy order l old.behaviour.stage old.pass new.pass claimeds.Idle → new.pass.open_unit ≡ None
    still_shut orders.LeastFirst none says = says.1.open_unit ∙ was_shut recipe l keeper keeper' olds news h h' c old new d a limits is none
    still_shut orders.InTurn none says = says.0.1.open_unit ∙ was_shut recipe l keeper keeper' olds news h h' c old new d a limits is none

    used_up : (order : Order) → old.work ≡ None → ClaimsBy order l old.behaviour.stage old.pass new.pass claimeds.NoUnit → new.pass.open_unit ≡ None
    used_up orders.LeastFirst none says = ap (λ (p : PassShown). p.open_unit) says.1 ∙ was_shut recipe l keeper keeper' olds news h h' c old new d a limits is none
    used_up orders.InTurn none says = ap (λ (p : PassShown). p.open_unit) says.1 ∙ was_shut recipe l keeper keeper' olds news h h' c old new d a limits is none

    -- an element was claimed, and this became of it
    works : (order : Order) (turned : Turned) → new.work ≡ None → Works order l old.behaviour old.registers old.pass new.pass turned new.registers → So (told.Turned turned) (turn_by order recipe c s d)
    works order turned none w =
        let went = opened_went order l old.behaviour old.registers new.registers old.pass new.pass turned w in
        let shows = between_shows order l old.behaviour old.registers new.registers old.pass new.pass turned w in
        let rest = goes_later (commit_steps l 4) w.between new.pass w.ends (draws_off old.behaviour old.registers w.work w.between new.pass turned new.registers w.off) in
        let mids = half l keeper keeper' olds news h h' c old.pass w.between new.pass a went shows rest in
        let first = first_half l keeper keeper' olds news h h' c old.pass w.between new.pass a went shows rest in
        let last = last_half l keeper keeper' olds news h h' c old.pass w.between new.pass a went shows rest in
        let claim = claim_law order (steps_by order l) mids keeper w.between.seen w.between (claimeds.Work w.work) first w.limits w.claims w.keeps_turn w.takes in
        let off = offs recipe l keeper keeper' mids news w.between.seen h' c d w.between new.pass last limits (commit_steps l 4) w.ends w.same_turn w.work old.behaviour old.registers new.registers serves is.registers turned w.off in
        subst (So (told.Turned turned)) (sym (ap (λ r. turn_as recipe c r d) (sym claim) ∙ off))
        (refl, refl, emptied (off_shut old.behaviour old.registers w.work w.between new.pass turned new.registers w.off) none (settled_desk turned t new.registers d).desk refl)

    pub turned_so : (order : Order) (turned : Turned) → old.work ≡ None → TakesTurn order l (place_of_desk old) turned (place_of_desk new) → new.work ≡ None → So (told.Turned turned) (turn_by order recipe c s d)
    turned_so order turneds.Idle none f none_left =
        subst (So (told.Turned turneds.Idle)) (ap (λ r. turn_as recipe c r d) (claim_law order (turn_steps order l) news keeper' h' new.pass claimeds.Idle a limits f.follows f.keeps_turn f.answer.0))
        (refl, refl, claims_none recipe l keeper keeper' olds news h h' c old new d a limits is (still_shut order none f.answer.0) none_left f.answer.1)
    turned_so order turneds.NoUnit none f none_left =
        subst (So (told.Turned turneds.NoUnit)) (ap (λ r. turn_as recipe c r d) (claim_law order (turn_steps order l) news keeper' h' new.pass claimeds.NoUnit a limits f.follows f.keeps_turn f.answer.0))
        (refl, refl, claims_none recipe l keeper keeper' olds news h h' c old new d a limits is (used_up order none f.answer.0) none_left f.answer.1)
    turned_so order (turneds.Done unit element first count) none f none_left = works order (turneds.Done unit element first count) none_left f.answer
    turned_so order (turneds.Refused element why) none f none_left = works order (turneds.Refused element why) none_left f.answer
    turned_so order (turneds.Lost element) none f none_left = works order (turneds.Lost element) none_left f.answer
    turned_so order (turneds.Full element) none f none_left = works order (turneds.Full element) none_left f.answer

    pub turns : (answer : ServerAnswer) → TellsTurn l old answer new → So answer (turn_step recipe c s d)
    turns (told.Turned turned) f =
        let open_is = open_so recipe l keeper keeper' olds news h h' c old new d a limits is ∙ ap (λ (o : Option Work). is_some o) f.0 in
        subst (So (told.Turned turned)) (sym (ap (λ (b : Bool). if b then nothing_done told.Busy s d else turn_by orders.LeastFirst recipe c s d) open_is)) (turned_so orders.LeastFirst turned f.0 f.1 f.2)
    turns told.Busy f =
        subst (So told.Busy) (sym (ap (λ (b : Bool). if b then nothing_done told.Busy s d else turn_by orders.LeastFirst recipe c s d) (open_so recipe l keeper keeper' olds news h h' c old new d a limits is ∙ f.0)))
        (same recipe l keeper keeper' olds news h h' c old new d a limits is told.Busy f.1)
    turns other f = absurd f
