-- A command on the desk at one of the places, between two looks together.
use Rattle.std.proofs.Common.{◌≡◌, ℕ, zero, suc, Bool, true, false, List, [], ◌∷◌, ◌++◌, length, map, Option, Some, None, Result, Ok, Err, refl, sym, ◌∙◌, ap, subst, arith}
use Rattle.std.specs.Prelude.{slice_get, slice_set, if◌then◌else◌}
use Rattle.std.specs.List.{AllZip}
use Rattle.tp_model.specs.declared.types.Claimed.{Claimed}
use Rattle.tp_model.specs.declared.types.Claimed.TheVariants as claimeds
use Rattle.tp_model.specs.declared.types.Ended.{Ended}
use Rattle.tp_model.specs.declared.types.Ended.TheVariants as endeds
use Rattle.tp_model.specs.declared.types.Limits.{Limits}
use Rattle.tp_model.specs.declared.types.Outcome.{Outcome}
use Rattle.tp_model.specs.declared.types.Outcome.TheVariants as outcomes
use Rattle.tp_model.specs.declared.types.Refusal.{Refusal}
use Rattle.tp_model.specs.declared.types.Refusal.TheVariants as refusals
use Rattle.tp_model.specs.declared.types.Work.{Work}
use Rattle.tp_model.specs.declared.event.Event.{Event}
use Rattle.tp_plain.specs.Computed.{abort_of, commit_of}
use Rattle.tp_plain.specs.OneThread as thread
use Rattle.tp_server.specs.declared.recipe.Declined.{Declined}
use Rattle.tp_server.specs.declared.recipe.Recipe.{Recipe}
use Rattle.tp_server.specs.Behaviour.{Behaviour}
use Rattle.tp_server.specs.Effect.{Effect, effect_of}
use Rattle.tp_manager.specs.Shown.{KeeperShown, ManagerShown, PassShown}
use Rattle.tp_server.specs.declared.order.Order.{Order}
use Rattle.tp_server.specs.declared.order.Order.TheVariants as orders
use Rattle.tp_server.specs.declared.turned.Turned.TheVariants as turneds
use Rattle.tp_report.specs.declared.answer.ServerAnswer.{ServerAnswer}
use Rattle.tp_report.specs.declared.answer.ServerAnswer.TheVariants as told
use Rattle.tp_report.specs.Answer.{line, named_text}
use Rattle.tp_script.specs.Script.{HeadView, ServerView}
use Rattle.tp_script.specs.declared.script.Command.TheVariants as command
use Rattle.tp_script.specs.declared.script.DeskAct.{DeskAct}
use Rattle.tp_script.specs.declared.script.DeskAct.TheVariants as acts
use Rattle.tp_commands.specs.Acting.{DeskShown, Does, DoesUnless, PlaceShown, TellsClaim, is_drop}
use Rattle.tp_commands.specs.Scenes.{Scene, passes_in}
use Rattle.tp_commands.specs.Told.{ServerLine}
use Rattle.tp_reference.specs.declared.plain_desk.PlainDesk.{PlainDesk}
use Rattle.tp_reference.specs.PlainDesks.{DeskAnswered, abort_work, aborted_as, claim_in_order, claim_given, claimed_as, commit_work, committed_as, does, does_unless_dropped, given_as, has_open, work_in_hand, nothing_done, prepare_with, prepare_work, settle_with, turn_as}
use Rattle.tp_reference.specs.PlainReport.{ReportState, command_step, desk_at, with_acted, worker}
use Rattle.tp_rollover.specs.Thread.{AreTogether, Stays, thread_of}
use Rattle.tp_exact.specs.Acts.{Acts}
use Rattle.tp_exact.specs.Desks.{FollowsRecipe}
use Rattle.tp_exact.specs.Stands.{IsFor, IsServedBy, SceneOnlyLooks, StandsAsComputed}
use Rattle.tp_exact.proofs.Commands.{scene_passes, served_all, still_all, zip_at}
use Rattle.tp_exact.proofs.DeskActs.{exact_desk}
use Rattle.tp_exact.proofs.Parts.{idle}

-- ---- what no command on a desk changes

claim_behaves : (order : Order) (l : Limits) (old new : DeskShown) (answer : ServerAnswer) → TellsClaim order l old answer new → new.behaviour ≡ old.behaviour
claim_behaves order l old new (told.Work element unit attempt) f = f.1.server.0
claim_behaves order l old new (told.Turned turneds.Idle) f = f.server.0
claim_behaves order l old new (told.Turned turneds.NoUnit) f = f.server.0
claim_behaves order l old new told.Busy f = ap (λ (x : DeskShown). x.behaviour) f.1
claim_behaves order l old new other f = absurd f

-- its server does the same
behaves : (l : Limits) (act : DeskAct) (old new : DeskShown) (answer : ServerAnswer) → Does l act old answer new → new.behaviour ≡ old.behaviour
behaves l acts.Turn old new (told.Turned turned) f = f.1.behaviour_is
behaves l acts.Turn old new told.Busy f = ap (λ (x : DeskShown). x.behaviour) f.1
behaves l acts.Turn old new other f = absurd f
behaves l acts.Claim old new answer f = claim_behaves orders.LeastFirst l old new answer f
behaves l acts.Next old new answer f = claim_behaves orders.InTurn l old new answer f
behaves l (acts.Take id) old new (told.Work element unit attempt) f = f.1.server.0
behaves l (acts.Take id) old new (told.Turned turneds.NoUnit) f = f.server.0
behaves l (acts.Take id) old new (told.NotTaken element why) f = f.2.server.0
behaves l (acts.Take id) old new told.Busy f = ap (λ (x : DeskShown). x.behaviour) f.1
behaves l (acts.Take id) old new other f = absurd f
behaves l acts.Prepare old new told.Ready f = f.server.0
behaves l acts.Prepare old new (told.Turned (turneds.Refused element why)) f = f.1.behaviour_is
behaves l acts.Prepare old new told.Busy f = ap (λ (x : DeskShown). x.behaviour) f.2
behaves l acts.Prepare old new told.NoneOpen f = ap (λ (x : DeskShown). x.behaviour) f.1
behaves l acts.Prepare old new other f = absurd f
behaves l acts.Commit old new (told.Turned turned) f = f.behaviour_is
behaves l acts.Commit old new told.NoneOpen f = ap (λ (x : DeskShown). x.behaviour) f.1
behaves l acts.Commit old new other f = absurd f
behaves l acts.Abort old new (told.Aborted element) f = f.server.0
behaves l acts.Abort old new (told.AlreadyAborted element) f = f.server.0
behaves l acts.Abort old new told.NoneOpen f = ap (λ (x : DeskShown). x.behaviour) f.1
behaves l acts.Abort old new other f = absurd f
behaves l acts.Drop old new told.Dropped f = f.server.0
behaves l acts.Drop old new other f = absurd f

-- a computed desk is dropped by a drop alone
module _ (d : PlainDesk) where
  abbrev Kept : DeskAnswered → Type 0
  Kept done = done.desk.is_dropped ≡ d.is_dropped

  kept_either : (b : Bool) (x y : DeskAnswered) → Kept x → Kept y → Kept (if b then x else y)
  kept_either true x y p q = p
  kept_either false x y p q = q

  kept_claimed : (r : Claimed × thread.State) → Kept (claimed_as r d)
  kept_claimed (claimeds.Work work, m) = refl
  kept_claimed (claimeds.Idle, m) = refl
  kept_claimed (claimeds.NoUnit, m) = refl

  kept_given : (id : ℕ) (r : Result Work Refusal × thread.State) → Kept (given_as id r d)
  kept_given id (Ok work, m) = refl
  kept_given id (Err refusals.NoUnit, m) = refl
  kept_given id (Err other, m) = refl

  kept_committed : (work : Work) (effect : Effect) (r : Outcome × thread.State) → Kept (committed_as work effect r d)
  kept_committed work effect (outcomes.Committed first count, m) = refl
  kept_committed work effect (outcomes.Lost, m) = refl
  kept_committed work effect (outcomes.Full, m) = refl

  kept_settled : (work : Work) (r : Result Effect Declined) (c : ℕ) (m : thread.State) → Kept (settle_with work r c m d)
  kept_settled work (Ok effect) c m = kept_committed work effect (commit_of m c effect.drafts)
  kept_settled work (Err why) c m = refl

  pub kept_turned : (recipe : Recipe) (c : ℕ) (r : Claimed × thread.State) → Kept (turn_as recipe c r d)
  kept_turned recipe c (claimeds.Work work, m) = kept_settled work (effect_of recipe d.registers work.element) c m
  kept_turned recipe c (claimeds.Idle, m) = refl
  kept_turned recipe c (claimeds.NoUnit, m) = refl

  kept_prepared : (work : Work) (r : Result Effect Declined) (c : ℕ) (m : thread.State) → Kept (prepare_with work r c m d)
  kept_prepared work (Ok effect) c m = refl
  kept_prepared work (Err why) c m = refl

  kept_aborted : (work : Work) (r : Ended × thread.State) → Kept (aborted_as work r d)
  kept_aborted work (endeds.Aborted, m) = refl
  kept_aborted work (endeds.AlreadyAborted, m) = refl

  kept_prepare : (recipe : Recipe) (o : Option Work) (c : ℕ) (m : thread.State) → Kept (prepare_work recipe o c m d)
  kept_prepare recipe None c m = refl
  kept_prepare recipe (Some work) c m =
      kept_either d.is_prepared (nothing_done told.Busy m d) (prepare_with work (effect_of recipe d.registers work.element) c m d) refl (kept_prepared work (effect_of recipe d.registers work.element) c m)

  kept_commit : (recipe : Recipe) (o : Option Work) (c : ℕ) (m : thread.State) → Kept (commit_work recipe o c m d)
  kept_commit recipe None c m = refl
  kept_commit recipe (Some work) c m = kept_settled work (effect_of recipe d.registers work.element) c m

  kept_abort : (o : Option Work) (c : ℕ) (m : thread.State) → Kept (abort_work o c m d)
  kept_abort None c m = refl
  kept_abort (Some work) c m = kept_aborted work (abort_of m c)

  drops_alone : (recipe : Recipe) (act : DeskAct) (c : ℕ) (m : thread.State) → d.is_dropped ≡ false → (does recipe act c m d).desk.is_dropped ≡ is_drop act
  drops_alone recipe acts.Turn c m not =
      kept_either (has_open m c) (nothing_done told.Busy m d) (turn_as recipe c (claim_in_order orders.LeastFirst m c recipe.stage) d) refl (kept_turned recipe c (claim_in_order orders.LeastFirst m c recipe.stage)) ∙ not
  drops_alone recipe acts.Claim c m not =
      kept_either (has_open m c) (nothing_done told.Busy m d) (claimed_as (claim_in_order orders.LeastFirst m c recipe.stage) d) refl (kept_claimed (claim_in_order orders.LeastFirst m c recipe.stage)) ∙ not
  drops_alone recipe acts.Next c m not =
      kept_either (has_open m c) (nothing_done told.Busy m d) (claimed_as (claim_in_order orders.InTurn m c recipe.stage) d) refl (kept_claimed (claim_in_order orders.InTurn m c recipe.stage)) ∙ not
  drops_alone recipe (acts.Take id) c m not =
      kept_either (has_open m c) (nothing_done told.Busy m d) (given_as id (claim_given recipe.stage c id m) d) refl (kept_given id (claim_given recipe.stage c id m)) ∙ not
  drops_alone recipe acts.Prepare c m not = kept_prepare recipe (work_in_hand m c d) c m ∙ not
  drops_alone recipe acts.Commit c m not = kept_commit recipe (work_in_hand m c d) c m ∙ not
  drops_alone recipe acts.Abort c m not = kept_abort (work_in_hand m c d) c m ∙ not
  drops_alone recipe acts.Drop c m not = refl

-- ---- lists with one place changed

-- a list in three parts, and the list with another one at that place
pub record Parted {A : Type 0} (xs : List A) (i : ℕ) (x : A) : Type 0 where
  pub front : List A
  pub back : List A
  pub whole : xs ≡ front ++ x ∷ back
  pub long : length front ≡ i
  pub set : (y : A) → slice_set xs i y ≡ front ++ y ∷ back

pub parted : {A : Type 0} (xs : List A) (i : ℕ) (x : A) → slice_get xs i ≡ Some x → Parted xs i x
parted [] i x is = absurd cc
parted (z ∷ xs) zero x is = let same : z ≡ x = cc in record { front = []; back = xs; whole = ap (λ w. w ∷ xs) same; long = refl; set = λ y. refl }
parted (z ∷ xs) (suc i) x is =
    let rest = parted xs i x is in
    record { front = z ∷ rest.front; back = rest.back; whole = ap (λ ys. z ∷ ys) rest.whole; long = ap suc rest.long; set = λ y. ap (λ ys. z ∷ ys) (rest.set y) }

zip_set : {A B : Type 0} (R : A → B → Type 0) (xs : List A) (ys : List B) (i : ℕ) (x : A) (y : B) → AllZip R xs ys → R x y → AllZip R (slice_set xs i x) (slice_set ys i y)
zip_set R [] [] i x y a r = a
zip_set R [] (z ∷ ys) i x y a r = absurd a
zip_set R (w ∷ xs) [] i x y a r = absurd a
zip_set R (w ∷ xs) (z ∷ ys) zero x y a r = (r, a.1)
zip_set R (w ∷ xs) (z ∷ ys) (suc i) x y a r = (a.0, zip_set R xs ys i x y a.1 r)

pub zip_beside : {A B : Type 0} (R : A → B → Type 0) (xs : List A) (ys : List B) (i : ℕ) (x : A) (y : B) → AllZip R xs ys → slice_get ys i ≡ Some y → R x y → AllZip R (slice_set xs i x) ys
zip_beside R [] [] i x y a is r = a
zip_beside R [] (z ∷ ys) i x y a is r = absurd a
zip_beside R (w ∷ xs) [] i x y a is r = absurd a
zip_beside R (w ∷ xs) (z ∷ ys) zero x y a is r = let same : z ≡ y = cc in (subst (λ v. R x v) (sym same) r, a.1)
zip_beside R (w ∷ xs) (z ∷ ys) (suc i) x y a is r = (a.0, zip_beside R xs ys i x y a.1 is r)

-- ---- the desk at a place

abbrev pub passes : List PlaceShown → List PassShown
passes ps = map (λ p. p.desk.pass) ps

passes_parted : (front : List PlaceShown) (p : PlaceShown) (back : List PlaceShown) (rs : List PassShown) → passes (front ++ p ∷ back) ++ rs ≡ passes front ++ p.desk.pass ∷ (passes back ++ rs)
passes_parted [] p back rs = refl
passes_parted (q ∷ front) p back rs = ap (λ xs. q.desk.pass ∷ xs) (passes_parted front p back rs)

passes_long : (ps : List PlaceShown) → length (passes ps) ≡ length ps
passes_long [] = refl
passes_long (p ∷ ps) = ap suc (passes_long ps)

-- what such a command is served by
as_server : (act : DeskAct) (p : PlaceShown) (server : ServerView) → IsServedBy p server → FollowsRecipe act server.recipe p.desk.behaviour
as_server acts.Turn p server is = is.behaviour
as_server acts.Prepare p server is = is.behaviour
as_server acts.Commit p server is = is.behaviour
as_server acts.Claim p server is = ap (λ (b : Behaviour). b.stage) is.behaviour
as_server acts.Next p server is = ap (λ (b : Behaviour). b.stage) is.behaviour
as_server (acts.Take id) p server is = ap (λ (b : Behaviour). b.stage) is.behaviour
as_server acts.Abort p server is = ap (λ (b : Behaviour). b.stage) is.behaviour
as_server acts.Drop p server is = ap (λ (b : Behaviour). b.stage) is.behaviour

-- the pass of the desk at a place, among all
pub pass_at_place : (old : Scene) (at : ℕ) (p : PlaceShown) (parts : Parted old.places at p) → passes_in old ≡ (old.client ∷ passes parts.front) ++ p.desk.pass ∷ (passes parts.back ++ old.racers)
pass_at_place old at p parts = ap (λ xs. old.client ∷ xs) (ap (λ ps. passes ps ++ old.racers) parts.whole ∙ passes_parted parts.front p parts.back old.racers)

pub at_worker : (old : Scene) (at : ℕ) (p : PlaceShown) (parts : Parted old.places at p) → length (old.client ∷ passes parts.front) ≡ worker at
at_worker old at p parts = let e : length (passes parts.front) ≡ at = passes_long parts.front ∙ parts.long in omega arith

-- one place went on from p to q, and the passes of all others have done nothing but look
module _ (servers : List ServerView) (l : Limits) (keeper keeper' : KeeperShown) (h h' : List Event) (old new next : Scene) (s : ReportState) (at : ℕ) (p q : PlaceShown) (stands : StandsAsComputed servers l keeper h old s) (there : slice_get old.places at ≡ Some p)
    (places : new.places ≡ slice_set old.places at q) (client : new.client ≡ old.client) (racers : new.racers ≡ old.racers) (looks : SceneOnlyLooks new next) (after : AreTogether l keeper' (passes_in next) h') where
  abbrev parts : Parted old.places at p
  parts = parted old.places at p there

  abbrev behind : List PassShown
  behind = passes parts.back ++ old.racers

  before_is : passes_in old ≡ (old.client ∷ passes parts.front) ++ p.desk.pass ∷ behind
  before_is = pass_at_place old at p parts

  after_is : passes_in new ≡ (old.client ∷ passes parts.front) ++ q.desk.pass ∷ behind
  after_is =
      ap (λ x. x ∷ (passes new.places ++ new.racers)) client
      ∙ (ap (λ rs. old.client ∷ (passes new.places ++ rs)) racers
      ∙ (ap (λ ps. old.client ∷ (passes ps ++ old.racers)) (places ∙ parts.set q)
      ∙ ap (λ xs. old.client ∷ xs) (passes_parted parts.front q parts.back old.racers)))

  pub acts_at : Acts l keeper keeper' (passes_in old) (passes_in next) h h' (worker at) p.desk.pass q.desk.pass
  acts_at = record {
    before = stands.together;
    front = old.client ∷ passes parts.front;
    back = behind;
    olds_are = before_is;
    place = at_worker old at p parts;
    others = subst (λ ps. AllZip Stays ps (passes_in next)) after_is (scene_passes new next looks);
    after = after;
  }

  -- what is computed of this desk, and what it leaves
  pub leads_at : (server : ServerView) (d : PlainDesk) (done : DeskAnswered) → slice_get servers at ≡ Some server → slice_get s.desks at ≡ Some d → q.desk.behaviour ≡ p.desk.behaviour → IsServedBy p server
      → thread_of l (passes_in next) h' ≡ done.manager → IsFor q done.desk → StandsAsComputed servers l keeper' h' next (with_acted s at done)
  leads_at server d done named here same served manager is = record {
    together = after;
    manager = sym manager;
    desks = still_all new.places next.places (slice_set s.desks at done.desk) looks.places (subst (λ ps. AllZip IsFor ps (slice_set s.desks at done.desk)) (sym places) (zip_set IsFor old.places s.desks at q done.desk stands.desks is));
    served = served_all new.places next.places servers looks.places (subst (λ ps. AllZip IsServedBy ps servers) (sym places) (zip_beside IsServedBy old.places servers at q server stands.served named (record { behaviour = same ∙ served.behaviour; stage = served.stage })));
  }

  abbrev Answers : ServerAnswer → DeskAnswered → Type 0
  Answers answer done = (answer ≡ done.answer) × (thread_of l (passes_in next) h' ≡ done.manager) × IsFor q done.desk

  -- the answer is the computed one
  pub answers_at : (act : DeskAct) (server : ServerView) (d : PlainDesk) (answer : ServerAnswer) → IsServedBy p server → IsFor p d → (b : Bool) → p.is_dropped ≡ b → DoesUnless b l act p answer q
      → Answers answer (does_unless_dropped server.recipe act (worker at) s.manager d) × (q.desk.behaviour ≡ p.desk.behaviour)
  answers_at act server d answer served is true dropped did =
      let gone : d.is_dropped ≡ true = is.dropped ∙ dropped in
      let computed = ap (λ (b : Bool). if b then nothing_done told.Ended s.manager d else does server.recipe act (worker at) s.manager d) gone in (
        subst (Answers answer) (sym computed) (
          did.0,
          idle l keeper keeper' (passes_in old) (passes_in next) h h' (worker at) p.desk.pass q.desk.pass acts_at (ap (λ (x : PlaceShown). x.desk.pass) did.1) ∙ sym stands.manager,
          subst (λ x. IsFor x d) (sym did.1) is,
        ),
        ap (λ (x : PlaceShown). x.desk.behaviour) did.1,
      )
  answers_at act server d answer served is false dropped did =
      let there_still : d.is_dropped ≡ false = is.dropped ∙ dropped in
      let law = exact_desk act server.recipe l keeper keeper' (passes_in old) (passes_in next) h h' (worker at) p.desk q.desk answer d served.stage (as_server act p server served) did.1 acts_at is.desk did.0 in
      let done : DeskAnswered = does server.recipe act (worker at) (thread_of l (passes_in old) h) d in
      let so : Answers answer done = (law.0, law.1, record { desk = law.2; dropped = drops_alone d server.recipe act (worker at) (thread_of l (passes_in old) h) there_still ∙ sym did.3 }) in
      let computed = ap (λ (b : Bool). if b then nothing_done told.Ended s.manager d else does server.recipe act (worker at) s.manager d) there_still in
      (subst (Answers answer) (ap (λ m. does server.recipe act (worker at) m d) (sym stands.manager) ∙ sym computed) so, behaves l act p.desk q.desk answer did.0)

-- a command on a desk, and its line
pub at_desk : (m : ManagerShown) (head : HeadView) (act : DeskAct) (at : ℕ) (keeper keeper' : KeeperShown) (h h' : List Event) (old new next : Scene) (text : List ℕ) (s : ReportState) → StandsAsComputed head.servers m.limits keeper h old s
    → ServerLine m head.servers act at old text new → SceneOnlyLooks new next → AreTogether m.limits keeper' (passes_in next) h'
    → let step = command_step head.servers (command.Desk at act) s in (text ≡ step.0) × StandsAsComputed head.servers m.limits keeper' h' next step.1
at_desk m head act at keeper keeper' h h' old new next text s stands t looks after =
    let p : PlaceShown = t.does.old in
    let q : PlaceShown = t.does.new in
    let racers = t.others.racers in
    let d = zip_at IsFor old.places s.desks at p stands.desks t.does.there in
    let served = zip_at IsServedBy old.places head.servers at p stands.served t.does.there in
    let same : served.0 ≡ t.server = same_some served.0 t.server (sym served.1 ∙ t.named) in
    let is_served : IsServedBy p t.server = subst (λ v. IsServedBy p v) same served.2 in
    let so = answers_at head.servers m.limits keeper keeper' h h' old new next s at p q stands t.does.there t.does.others t.others.client racers looks after act t.server d.0 t.answer is_served d.2 p.is_dropped refl t.does.does in
    let done : DeskAnswered = does_unless_dropped t.server.recipe act (worker at) s.manager d.0 in
    let computed : command_step head.servers (command.Desk at act) s ≡ (line (named_text t.server.name done.answer), with_acted s at done)
    = ap (λ o. desk_at o (slice_get s.desks at) at act s) t.named ∙ ap (λ o. desk_at (Some t.server) o at act s) d.1 in
    subst (λ (r : List ℕ × ReportState). (text ≡ r.0) × StandsAsComputed head.servers m.limits keeper' h' next r.1) (sym computed) (
      t.text_is ∙ ap (λ x. line (named_text t.server.name x)) so.0.0,
      leads_at head.servers m.limits keeper keeper' h h' old new next s at p q stands t.does.there t.does.others t.others.client racers looks after t.server d.0 done t.named d.1 so.1 is_served so.0.1 so.0.2,
    )
  where
    same_some : {A : Type 0} (x y : A) → Some x ≡ Some y → x ≡ y
    same_some x y e = cc
