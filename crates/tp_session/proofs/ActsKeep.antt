-- What workers and servers do leaves them fit.
use Rattle.std.proofs.Common.{◌≡◌, ◌∙◌, ◌+◌, ℕ, zero, suc, Bool, true, false, nat_le, if◌then◌else◌, is_some, Option, Some, None, Result, Ok, Err, List, [], ◌∷◌, length, map, refl, arith}
use Rattle.std.specs.Prelude.{⊤, slice_set}
use Rattle.std.specs.List.{AllByRecursion, list_all}
use Rattle.std.proofs.lemmas.List.{length-set}
use Rattle.tp_model.specs.Drafts.{DraftView}
use Rattle.tp_model.specs.declared.types.Element.{Element as ModelElement}
use Rattle.tp_model.specs.declared.types.TheConstants.{MAX_STAGE}
use Rattle.tp_server.specs.Check.{check_of, is_between, is_output, is_word}
use Rattle.tp_server.specs.Effect.{draft_of, Effect, effect_with, key_in, register_after}
use Rattle.tp_server.specs.declared.recipe.BadRecipe.{BadRecipe}
use Rattle.tp_server.specs.declared.recipe.BadRecipe.TheVariants.{BadOutput, BadRegisters, BadStage as BadRecipeStage, BadWord}
use Rattle.tp_server.specs.declared.order.Order.{Order}
use Rattle.tp_server.specs.declared.order.Order.TheVariants.{LeastFirst, InTurn}
use Rattle.tp_server.specs.declared.recipe.Declined.{Declined}
use Rattle.tp_server.specs.declared.recipe.Output.{Output}
use Rattle.tp_server.specs.declared.recipe.Recipe.{Recipe}
use Rattle.tp_store.specs.Calls.{abort_of, claim_from_of, claim_of, commit_of, take_of}
use Rattle.tp_store.specs.Elements.{element_at}
use Rattle.tp_store.specs.Runs.{Abort as AbortCall, Claim as ClaimCall, ClaimFrom, Commit as CommitCall, Take as TakeCall}
use Rattle.tp_store.specs.State.{State}
use Rattle.tp_store.specs.declared.answers.Ended.{Ended}
use Rattle.tp_store.specs.declared.answers.Ended.TheVariants as ended
use Rattle.tp_store.specs.declared.answers.Outcome.{Outcome}
use Rattle.tp_store.specs.declared.answers.Outcome.TheVariants as outcomes
use Rattle.tp_store.specs.declared.answers.Refusal.{Refusal}
use Rattle.tp_store.specs.declared.answers.Refusal.TheVariants.{BadStage}
use Rattle.tp_store.specs.declared.answers.Work.{Work}
use Rattle.tp_store.specs.declared.element.Element.{Element}
use Rattle.tp_store.proofs.Finding.{at_most, both}
use Rattle.tp_answers.specs.declared.told.Told.{Told}
use Rattle.tp_answers.specs.declared.told.Told.TheVariants as told
use Rattle.tp_lines.specs.declared.line.Act.{Act}
use Rattle.tp_lines.specs.declared.line.Act.TheVariants as acts
use Rattle.tp_session.specs.Drains.{Round, round, rounds, takes_part, turn_in_round}
use Rattle.tp_session.specs.Hands.{hand_of, held_of}
use Rattle.tp_session.specs.Retold.{IsDrawn, IsFitServer}
use Rattle.tp_session.specs.Servers.{abort_by, aborted_as, claim_by, claim_in_order, claimed_as, cleared, commit_by, committed_as, declined, drop_by, effect_on, for_recipe, given_up, goes_on, if_held, is_other_stage, nothing_done, prepare_by, prepare_held, prepare_with, server_acts, server_does, Served, settle_held, settle_with, take_by, taken_as, turn_as, turn_by}
use Rattle.tp_session.specs.State.{ServerView}
use Rattle.tp_session.specs.Workers.{aborted, aborts, claimed, claimed_next, claims, claims_next, committed, commits, taken, takes_id, Worked, worker_does}
use Rattle.tp_session.specs.declared.hand.Hand.{Hand}
use Rattle.tp_session.specs.declared.worker.Worker.{Worker}
use Rattle.tp_session.proofs.SaidParts.{AreStages, IsGoodAct}
use Rattle.tp_session.proofs.StoreGrows.{claim_from_out, claim_out, drawn_later, Grows, grows_both, grows_call, grows_none, Holds, IsOut, IsOutOrNone, take_out}

-- ---- workers

-- what was done, and what is in hand behind it
pub record Works (s : State) (done : Worked) : Type 0 where
  pub grows : Grows s done.store
  pub drawn : IsDrawn done.store done.worker.hand

module _ (s : State) (holds : Holds s) (w : Worker) (drawn : IsDrawn s w.hand) where
  claims_so : (done : Result (Option Work) Refusal × State) → IsOutOrNone done → Grows s done.1 → Works s (claimed done.0 done.1 w)
  claims_so (Ok (Some work), t) out grows = record { grows = grows; drawn = out }
  claims_so (Ok None, t) out grows = record { grows = grows; drawn = drawn_later s t w.hand grows drawn }
  claims_so (Err why, t) out grows = record { grows = grows; drawn = drawn_later s t w.hand grows drawn }

  claims_next_so : (done : Result (Option Work) Refusal × State) → IsOutOrNone done → Grows s done.1 → Works s (claimed_next done.0 done.1 w)
  claims_next_so (Ok (Some work), t) out grows = record { grows = grows; drawn = out }
  claims_next_so (Ok None, t) out grows = record { grows = grows; drawn = drawn_later s t w.hand grows drawn }
  claims_next_so (Err why, t) out grows = record { grows = grows; drawn = drawn_later s t w.hand grows drawn }

  takes_so : (id : ℕ) (done : Result Work Refusal × State) → IsOut done → Grows s done.1 → Works s (taken id done.0 done.1 w)
  takes_so id (Ok work, t) out grows = record { grows = grows; drawn = out }
  takes_so id (Err why, t) out grows = record { grows = grows; drawn = drawn_later s t w.hand grows drawn }

  committed_so : (h : Hand) (done : Result Outcome Refusal × State) → Grows s done.1 → Works s (committed h done.0 done.1 w)
  committed_so h (Ok (outcomes.Committed first count), t) grows = record { grows = grows; drawn = tt }
  committed_so h (Ok outcomes.Lost, t) grows = record { grows = grows; drawn = tt }
  committed_so h (Err why, t) grows = record { grows = grows; drawn = tt }

  aborted_so : (h : Hand) (done : Result Ended Refusal × State) → Grows s done.1 → Works s (aborted h done.0 done.1 w)
  aborted_so h (Ok ended.Aborted, t) grows = record { grows = grows; drawn = tt }
  aborted_so h (Ok ended.AlreadyAborted, t) grows = record { grows = grows; drawn = tt }
  aborted_so h (Err why, t) grows = record { grows = grows; drawn = tt }

  still : (what : Told) → Works s (record { told = what; worker = w; store = s })
  still what = record { grows = grows_none s holds; drawn = drawn }

  idle : (b : Bool) (does : Worked) → Works s does → Works s (if b then record { told = told.Busy; worker = w; store = s } else does)
  idle true does so = still told.Busy
  idle false does so = so

  commits_so : (drafts : List DraftView) (hand : Option Hand) → AreStages drafts → Works s (commits drafts hand w s)
  commits_so drafts None fit = still told.NoneOpen
  commits_so drafts (Some h) fit = committed_so h (commit_of h.id h.unit drafts s) (grows_call (CommitCall h.id h.unit drafts) s holds fit)

  aborts_so : (hand : Option Hand) → Works s (aborts hand w s)
  aborts_so None = still told.NoneOpen
  aborts_so (Some h) = aborted_so h (abort_of h.id h.unit s) (grows_call (AbortCall h.id h.unit) s holds tt)

  pub worker_keeps : (act : Act) → IsGoodAct act → Works s (worker_does act w s)
  worker_keeps acts.Claim fit = idle (is_some w.hand) (claims w s) (claims_so (claim_of w.stage s) (claim_out s holds.sound w.stage) (grows_call (ClaimCall w.stage) s holds tt))
  worker_keeps acts.Next fit = idle (is_some w.hand) (claims_next w s) (claims_next_so (claim_from_of w.stage w.from s) (claim_from_out s holds.sound w.stage w.from) (grows_call (ClaimFrom w.stage w.from) s holds tt))
  worker_keeps (acts.Take id) fit = idle (is_some w.hand) (takes_id id w s) (takes_so id (take_of id s) (take_out s holds.sound id) (grows_call (TakeCall id) s holds tt))
  worker_keeps (acts.Commit drafts) fit = commits_so drafts.items w.hand fit
  worker_keeps acts.Abort fit = aborts_so w.hand
  worker_keeps acts.Turn fit = still told.NoneOpen
  worker_keeps acts.Prepare fit = still told.NoneOpen
  worker_keeps acts.Drop fit = still told.NoneOpen

-- ---- servers

-- a fit server with a good recipe
pub record IsGoodServer (s : State) (v : ServerView) : Type 0 where
  pub fit : IsFitServer s v
  pub recipe : check_of v.recipe ≡ Ok tt

-- what it did, and what it is behind it
pub record Serves (s : State) (v : ServerView) (done : Served) : Type 0 where
  pub grows : Grows s done.store
  pub name : done.server.name ≡ v.name
  pub good : IsGoodServer done.store done.server

-- the outputs of a good recipe are of stages that there are
outputs_staged : (word : ℕ) (e : ModelElement) (after : ℕ) (outputs : List Output) → list_all is_output outputs ≡ true → AreStages (map (draft_of word e after) outputs)
outputs_staged word e after [] is = tt
outputs_staged word e after (o ∷ os) is =
    let parts = both (is_output o) (list_all is_output os) is in
    let bounds = both (nat_le 1 o.stage) _ parts.0 in
    let low = at_most 1 o.stage bounds.0 in let high = at_most o.stage _ bounds.1 in
    ((low, omega arith), outputs_staged word e after os parts.1)

abbrev checked : Bool → Bool → Bool → Bool → Result (Unit {0}) BadRecipe
checked a b c d = if a then (if b then (if c then (if d then Ok tt else Err BadWord) else Err BadOutput) else Err BadRegisters) else Err BadRecipeStage

good_outputs : (recipe : Recipe) → check_of recipe ≡ Ok tt → list_all is_output recipe.outputs.items ≡ true
good_outputs recipe is = go (is_between 1 MAX_STAGE recipe.stage) (is_between 1 64 recipe.registers) (list_all is_output recipe.outputs.items) (is_word recipe.word) is
  where
    go : (a b c d : Bool) → checked a b c d ≡ Ok tt → c ≡ true
    go true true true d is = refl
    go true true false d is = absurd cc
    go true false c d is = absurd cc
    go false b c d is = absurd cc

-- ---- what becomes of work

module _ (s : State) (holds : Holds s) (v : ServerView) (long : length v.registers ≡ v.recipe.registers) (recipe : check_of v.recipe ≡ Ok tt) where
  -- with these registers and nothing in hand
  clear_so : (t : State) (registers : List ℕ) (is_dropped : Bool) → length registers ≡ v.recipe.registers → IsGoodServer t (record v { registers = registers; hand = None; is_prepared = false; is_dropped = is_dropped })
  clear_so t registers is_dropped same = record {
    fit = record { registers = same; drawn = tt; prepared = λ h. absurd cc; dropped = λ h. refl };
    recipe = recipe;
  }

  cleared_so : (t : State) (what : Told) → Grows s t → Serves s v (nothing_done what (cleared v) t)
  cleared_so t what grows = record { grows = grows; name = refl; good = clear_so t v.registers v.is_dropped long }

  server_committed_so : (h : Hand) (registers : List ℕ) (done : Result Outcome Refusal × State) → length registers ≡ v.recipe.registers → Grows s done.1 → Serves s v (committed_as h registers done.0 done.1 v)
  server_committed_so h registers (Ok (outcomes.Committed first count), t) same grows = record { grows = grows; name = refl; good = clear_so t registers v.is_dropped same }
  server_committed_so h registers (Ok outcomes.Lost, t) same grows = cleared_so t (told.Lost h.id) grows
  server_committed_so h registers (Err why, t) same grows = cleared_so t (told.Lost h.id) grows

  declined_so : (h : Hand) (why : Declined) → Serves s v (declined h why v s)
  declined_so h why = cleared_so (abort_of h.id h.unit s).1 (told.Declined h.id why) (grows_call (AbortCall h.id h.unit) s holds tt)

  settles_so : (h : Hand) (e : ModelElement) (r : Result ℕ Declined) → Serves s v (settle_with h (effect_with v.recipe v.registers e r) v s)
  settles_so h e (Err why) = declined_so h why
  settles_so h e (Ok after) =
      let drafts = map (draft_of v.recipe.word e after) v.recipe.outputs.items in
      server_committed_so h (slice_set v.registers (key_in e.body) after) (commit_of h.id h.unit drafts s) (length-set v.registers (key_in e.body) after ∙ long)
      (grows_call (CommitCall h.id h.unit drafts) s holds (outputs_staged v.recipe.word e after v.recipe.outputs.items (good_outputs v.recipe recipe)))

  pub settle_so : (h : Hand) (e : Element) → Serves s v (settle_with h (effect_on v e) v s)
  settle_so h e = settles_so h (for_recipe e.body) (register_after v.recipe v.registers (for_recipe e.body))

  pub held_so : (h : Hand) (x : Option Element) → Serves s v (settle_held h x v s)
  held_so h None = cleared_so s (told.Lost h.id) (grows_none s holds)
  held_so h (Some e) = settle_so h e

  aborted_server_so : (h : Hand) (done : Result Ended Refusal × State) → Grows s done.1 → Serves s v (aborted_as h done.0 done.1 v)
  aborted_server_so h (Ok ended.Aborted, t) grows = cleared_so t (told.Aborted h.id) grows
  aborted_server_so h (Ok ended.AlreadyAborted, t) grows = cleared_so t (told.Already h.id) grows
  aborted_server_so h (Err why, t) grows = cleared_so t (told.Already h.id) grows

  pub abort_so : (h : Hand) → Serves s v (abort_by h v s)
  abort_so h = aborted_server_so h (abort_of h.id h.unit s) (grows_call (AbortCall h.id h.unit) s holds tt)

  drop_grows : (hand : Option Hand) → Grows s (given_up hand s)
  drop_grows None = grows_none s holds
  drop_grows (Some h) = grows_call (AbortCall h.id h.unit) s holds tt

  pub drop_so : Serves s v (drop_by v s)
  drop_so = record { grows = drop_grows v.hand; name = refl; good = clear_so (given_up v.hand s) v.registers true long }

  prepares_with : (h : Hand) (r : Result Effect Declined) → IsDrawn s v.hand → v.hand ≡ Some h → v.is_dropped ≡ false → Serves s v (prepare_with h r v s)
  prepares_with h (Ok f) drawn has alive = record {
    grows = grows_none s holds;
    name = refl;
    good = record {
      fit = record { registers = long; drawn = drawn; prepared = λ p. rw has refl; dropped = λ d. absurd (let no_drop = alive in cc) };
      recipe = recipe;
    };
  }
  prepares_with h (Err why) drawn has alive = declined_so h why

  pub prepare_so : (h : Hand) (x : Option Element) → IsDrawn s v.hand → v.hand ≡ Some h → v.is_dropped ≡ false → Serves s v (prepare_held h x v s)
  prepare_so h None drawn has alive = cleared_so s (told.Lost h.id) (grows_none s holds)
  prepare_so h (Some e) drawn has alive = prepares_with h (effect_on v e) drawn has alive

-- ---- what servers do

from_there : (s t : State) (v w : ServerView) (done : Served) → Grows s t → w.name ≡ v.name → Serves t w done → Serves s v done
from_there s t v w done grows named serves = record { grows = grows_both s t done.store grows serves.grows; name = serves.name ∙ named; good = serves.good }

module _ (s : State) (holds : Holds s) (v : ServerView) (good : IsGoodServer s v) where
  later : (t : State) → Grows s t → IsGoodServer t v
  later t grows = record {
    fit = record { registers = good.fit.registers; drawn = drawn_later s t v.hand grows good.fit.drawn; prepared = good.fit.prepared; dropped = good.fit.dropped };
    recipe = good.recipe;
  }

  rests : (what : Told) (t : State) → Grows s t → Serves s v (nothing_done what v t)
  rests what t grows = record { grows = grows; name = refl; good = later t grows }

  -- a turn leaves nothing in hand
  turn_with : (order : Order) (done : Result (Option Work) Refusal × State) → Grows s done.1 → Serves s v (turn_as order done.0 done.1 v)
  turn_with LeastFirst (Ok (Some w), t) grows = from_there s t v (cleared v) (turn_as LeastFirst (Ok (Some w)) t v) grows refl (settle_so t grows.holds (cleared v) good.fit.registers good.recipe (hand_of w) w.element)
  turn_with InTurn (Ok (Some w), t) grows = from_there s t v (cleared (goes_on InTurn w.id v)) (turn_as InTurn (Ok (Some w)) t v) grows refl (settle_so t grows.holds (cleared (goes_on InTurn w.id v)) good.fit.registers good.recipe (hand_of w) w.element)
  turn_with order (Ok None, t) grows = rests told.Idle t grows
  turn_with order (Err why, t) grows = rests told.Idle t grows

  claim_grows : (order : Order) → Grows s (claim_in_order order v s).1
  claim_grows LeastFirst = grows_call (ClaimCall v.recipe.stage) s holds tt
  claim_grows InTurn = grows_call (ClaimFrom v.recipe.stage v.from) s holds tt

  claim_is_out : (order : Order) → IsOutOrNone (claim_in_order order v s)
  claim_is_out LeastFirst = claim_out s holds.sound v.recipe.stage
  claim_is_out InTurn = claim_from_out s holds.sound v.recipe.stage v.from

  pub turn_so : (order : Order) → Serves s v (turn_by order v s)
  turn_so order = turn_with order (claim_in_order order v s) (claim_grows order)

  module _ (alive : v.is_dropped ≡ false) where
    -- with this in hand
    has_hand : (t : State) (h : Hand) (from : ℕ) → IsDrawn t (Some h) → IsGoodServer t (record v { hand = Some h; is_prepared = false; from = from })
    has_hand t h from drawn = record {
      fit = record { registers = good.fit.registers; drawn = drawn; prepared = λ p. refl; dropped = λ d. absurd (let alive_still = alive in cc) };
      recipe = good.recipe;
    }

    claim_with : (order : Order) (done : Result (Option Work) Refusal × State) → IsOutOrNone done → Grows s done.1 → Serves s v (claimed_as order done.0 done.1 v)
    claim_with LeastFirst (Ok (Some w), t) out grows = record { grows = grows; name = refl; good = has_hand t (hand_of w) v.from out }
    claim_with InTurn (Ok (Some w), t) out grows = record { grows = grows; name = refl; good = has_hand t (hand_of w) (w.id + 1) out }
    claim_with order (Ok None, t) out grows = rests told.Idle t grows
    claim_with order (Err why, t) out grows = rests told.Idle t grows

    take_with : (id : ℕ) (done : Result Work Refusal × State) → IsOut done → Grows s done.1 → Serves s v (taken_as id done.0 done.1 v)
    take_with id (Ok w, t) out grows = record { grows = grows; name = refl; good = has_hand t (hand_of w) v.from out }
    take_with id (Err why, t) out grows = rests (told.NotTaken id why) t grows

    unless : (b : Bool) (what : Told) (does : Served) → Serves s v does → Serves s v (if b then nothing_done what v s else does)
    unless true what does so = rests what s (grows_none s holds)
    unless false what does so = so

    takes : (id : ℕ) → Serves s v (take_by id v s)
    takes id = unless (is_other_stage v.recipe.stage (element_at id s.elements)) (told.NotTaken id BadStage) (taken_as id (take_of id s).0 (take_of id s).1 v) (take_with id (take_of id s) (take_out s holds.sound id) (grows_call (TakeCall id) s holds tt))

    claims_in : (order : Order) → Serves s v (claim_by order v s)
    claims_in order = claim_with order (claim_in_order order v s) (claim_is_out order) (claim_grows order)

    none_open : Serves s v (nothing_done told.NoneOpen v s)
    none_open = rests told.NoneOpen s (grows_none s holds)

    prepares : (hand : Option Hand) → v.hand ≡ hand → Serves s v (if_held prepare_by hand v s)
    prepares None has = none_open
    prepares (Some h) has = unless v.is_prepared told.Busy (prepare_held h (held_of h s) v s) (prepare_so s holds v good.fit.registers good.recipe h (held_of h s) good.fit.drawn has alive)

    commits_in : (hand : Option Hand) → Serves s v (if_held commit_by hand v s)
    commits_in None = none_open
    commits_in (Some h) = held_so s holds v good.fit.registers good.recipe h (held_of h s)

    aborts_in : (hand : Option Hand) → Serves s v (if_held abort_by hand v s)
    aborts_in None = none_open
    aborts_in (Some h) = abort_so s holds v good.fit.registers good.recipe h

    acts_so : (act : Act) → Serves s v (server_acts act v s)
    acts_so acts.Claim = unless (is_some v.hand) told.Busy (claim_by LeastFirst v s) (claims_in LeastFirst)
    acts_so acts.Next = unless (is_some v.hand) told.Busy (claim_by InTurn v s) (claims_in InTurn)
    acts_so (acts.Take id) = unless (is_some v.hand) told.Busy (take_by id v s) (takes id)
    acts_so acts.Turn = unless (is_some v.hand) told.Busy (turn_by LeastFirst v s) (turn_so LeastFirst)
    acts_so acts.Prepare = prepares v.hand refl
    acts_so (acts.Commit drafts) = commits_in v.hand
    acts_so acts.Abort = aborts_in v.hand
    acts_so acts.Drop = drop_so s holds v good.fit.registers good.recipe

  pub server_keeps : (act : Act) → Serves s v (server_does act v s)
  server_keeps act = go v.is_dropped refl
    where
      go : (b : Bool) → v.is_dropped ≡ b → Serves s v (if b then nothing_done told.Ended v s else server_acts act v s)
      go true is = rests told.Ended s (grows_none s holds)
      go false is = acts_so is act

-- ---- drains

-- the same servers, by their names
abbrev pub AreSameNames : List ServerView → List ServerView → Type 0
AreSameNames [] [] = ⊤
AreSameNames (v ∷ vs) (w ∷ ws) = (w.name ≡ v.name) × AreSameNames vs ws
AreSameNames vs ws = ⊥

abbrev pub AreGoodServers : State → List ServerView → Type 0
AreGoodServers s vs = AllByRecursion (IsGoodServer s) vs

pub all_later : (s t : State) (vs : List ServerView) → Holds s → Grows s t → AreGoodServers s vs → AreGoodServers t vs
all_later s t [] holds grows all = tt
all_later s t (v ∷ vs) holds grows all = (later s holds v all.0 t grows, all_later s t vs holds grows all.1)

-- what a round leaves
pub record Drains (s : State) (vs : List ServerView) (r : Round) : Type 0 where
  pub grows : Grows s r.store
  pub names : AreSameNames vs r.servers
  pub good : AreGoodServers r.store r.servers

turn_in : (order : Order) (s : State) (holds : Holds s) (v : ServerView) → IsGoodServer s v → Serves s v (turn_in_round order v s)
turn_in order s holds v good = go (takes_part v)
  where
    go : (b : Bool) → Serves s v (if b then turn_by order v s else nothing_done told.Idle v s)
    go true = turn_so s holds v good order
    go false = rests s holds v good told.Idle s (grows_none s holds)

pub round_keeps : (order : Order) (vs : List ServerView) (s : State) → Holds s → AreGoodServers s vs → Drains s vs (round order vs s)
round_keeps order [] s holds all = record { grows = grows_none s holds; names = tt; good = tt }
round_keeps order (v ∷ vs) s holds all =
    let t = turn_in_round order v s in
    let one = turn_in order s holds v all.0 in
    let rest = round_keeps order vs t.store one.grows.holds (all_later s t.store vs holds one.grows all.1) in
    record {
      grows = grows_both s t.store (round order vs t.store).store one.grows rest.grows;
      names = (one.name, rest.names);
      good = (later t.store one.grows.holds t.server one.good (round order vs t.store).store rest.grows, rest.good);
    }

pub names_still : (vs : List ServerView) → AreSameNames vs vs
names_still [] = tt
names_still (v ∷ vs) = (refl, names_still vs)

pub names_both : (us vs ws : List ServerView) → AreSameNames us vs → AreSameNames vs ws → AreSameNames us ws
names_both [] [] [] one two = tt
names_both (u ∷ us) (v ∷ vs) (w ∷ ws) one two = (two.0 ∙ one.0, names_both us vs ws one.1 two.1)
names_both [] [] (w ∷ ws) one two = absurd two
names_both [] (v ∷ vs) ws one two = absurd one
names_both (u ∷ us) [] ws one two = absurd one
names_both (u ∷ us) (v ∷ vs) [] one two = absurd two

pub rounds_keep : (order : Order) (n : ℕ) (vs : List ServerView) (s : State) → Holds s → AreGoodServers s vs → Drains s vs (rounds order n vs s)
unfolding rounds
rounds_keep order zero vs s holds all = record { grows = grows_none s holds; names = names_still vs; good = all }
rounds_keep order (suc n) vs s holds all =
    let r = round order vs s in
    let one = round_keeps order vs s holds all in
    go r one r.took (rounds_keep order n r.servers r.store one.grows.holds one.good)
  where
    go : (r : Round) → Drains s vs r → (b : Bool) → Drains r.store r.servers (rounds order n r.servers r.store) → Drains s vs (if b then rounds order n r.servers r.store else r)
    go r one true more = record {
      grows = grows_both s r.store (rounds order n r.servers r.store).store one.grows more.grows;
      names = names_both vs r.servers (rounds order n r.servers r.store).servers one.names more.names;
      good = more.good;
    }
    go r one false more = one
