-- What a command on a server is answered, and what its desk did for it. `old` is what the desk shows before
-- the command, and `new` what it shows after it.
use Rattle.std.specs.Prelude.{◌≡◌, ℕ, Bool, true, false, List, [], ◌∷◌, Option, Some, None, Result, Ok, Err}
use Rattle.std.specs.Prelude.{MatchResult, IfSome, IsSome, ◌&&◌, not, is_some, slice_get, slice_set}
use Rattle.std.specs.Option.{option_map}
use Rattle.std.specs.declared.alloc.Global.{Global}
use Rattle.std.specs.declared.dyn_box.DynBox.{DynBox}
use Rattle.tp_model.specs.Drafts.{DraftView}
use Rattle.tp_model.specs.declared.types.Claimed.{Claimed}
use Rattle.tp_model.specs.declared.types.Claimed.TheVariants as claimeds
use Rattle.tp_model.specs.declared.types.Ended.{Ended}
use Rattle.tp_model.specs.declared.types.Ended.TheVariants as endeds
use Rattle.tp_model.specs.declared.types.Limits.{Limits}
use Rattle.tp_model.specs.declared.types.Refusal.{Refusal}
use Rattle.tp_model.specs.declared.types.Refusal.TheVariants as refusals
use Rattle.tp_model.specs.declared.types.Work.{Work}
use Rattle.tp_server.specs.Behaviour.{Behaviour, IsMade}
use Rattle.tp_server.specs.Pending.{Pending}
use Rattle.tp_manager.specs.Bounds.{abort_steps, commit_steps}
use Rattle.tp_manager.specs.Calls.{AnswersAbort, Follows}
use Rattle.tp_manager.specs.Shown.{PassShown}
use Rattle.tp_desk.specs.declared.aside.Aside.{Aside}
use Rattle.tp_desk.specs.declared.desk.Desk.{Desk}
use Rattle.tp_server.specs.declared.order.Order.{Order}
use Rattle.tp_server.specs.declared.order.Order.TheVariants as orders
use Rattle.tp_server.specs.declared.turned.Turned.{Turned}
use Rattle.tp_server.specs.declared.turned.Turned.TheVariants as turneds
use Rattle.tp_desk.specs.InHand.{IsDeskSteady, work_of}
use Rattle.tp_desk.specs.Given.{ClaimsGiven, given_steps}
use Rattle.tp_desk.specs.Orders.{ClaimsBy, KeepsTurn, steps_by}
use Rattle.tp_desk.specs.Steady.{shown}
use Rattle.tp_desk.specs.Turns.{EndsOpen, WorksOff}
use Rattle.tp_report.specs.declared.answer.ServerAnswer.{ServerAnswer}
use Rattle.tp_report.specs.declared.answer.ServerAnswer.TheVariants as told
use Rattle.tp_workers.specs.Desks.{TakesTurn}
use Rattle.tp_workers.specs.Desks as workers
use Rattle.tp_script.specs.declared.script.DeskAct.{DeskAct}
use Rattle.tp_script.specs.declared.script.DeskAct.TheVariants as acts
use Rattle.tp_commands.specs.declared.place.Place.{Place}
use Rattle.tp_model.specs.declared.types.TheConstants.{MAX_OUTPUTS}

-- ---- what is shown

-- a desk shows what its pass and its server show, and the work that it has in hand
pub record DeskShown : Type 0 where
  pub pass : PassShown
  pub behaviour : Behaviour
  pub registers : List ℕ
  pub pending : Option Pending
  pub work : Option Work

-- a place shows its desk, what its pass and its registers were as that began, and whether it was dropped
pub record PlaceShown : Type 0 where
  pub desk : DeskShown
  pub began : Option (PassShown × List ℕ)
  pub is_dropped : Bool

-- the desk is steady: its registers are the fold of what it has committed since it began
abbrev pub IsSteadyPlace : PlaceShown → Type 0
IsSteadyPlace p = IfSome p.began (λ began. let d = p.desk in
    (drafts : List DraftView) × IsDeskSteady d.behaviour d.registers d.pending began.1 began.0 d.pass d.work
    drafts)

-- what was laid aside
abbrev pub work_in : {X : Type 0} {F : X → Type 0} → Option (Aside X F) → Option Work
work_in None = None
work_in (Some aside) = aside.work

module _ {X : Type 0} {F : X → Type 0} (behaviour : DynBox X Global F → Behaviour)
    (registers : DynBox X Global F → List ℕ) (pending : DynBox X Global F → Option Pending) where
  -- a desk that begins
  abbrev pub new_place : PassShown → DynBox X Global F → PlaceShown
  new_place pass server = record {
    desk = record {
      pass = pass;
      behaviour = behaviour server;
      registers = registers server;
      pending = pending server;
      work = None;
    };
    began = Some (pass, registers server);
    is_dropped = false;
  }

  -- one for each pass and its server
  abbrev pub new_places : List PassShown → List (DynBox X Global F) → List PlaceShown
  new_places (p ∷ ps) (s ∷ ss) = new_place p s ∷ new_places ps ss
  new_places ps ss = []

  -- a desk that lies aside
  abbrev pub place_shown : PassShown → DynBox X Global F → Place X F → PlaceShown
  place_shown pass server place = record {
    desk = record {
      pass = pass;
      behaviour = behaviour server;
      registers = registers server;
      pending = pending server;
      work = work_in place.aside;
    };
    began = option_map (λ a. (a.first_pass.value, registers a.first_server.value)) place.aside;
    is_dropped = place.is_dropped;
  }

  -- all of them
  abbrev pub places_shown : List PassShown → List (DynBox X Global F) → List (Place X F) → List PlaceShown
  places_shown (p ∷ ps) (s ∷ ss) (o ∷ os) = place_shown p s o ∷ places_shown ps ss os
  places_shown ps ss os = []

-- the desk at work. Where no box is in sight, a server's members are named of a pair.
module _ {X : Type 0} {F : X → Type 0} (behaviour : (x : X) × F x → Behaviour) (registers : (x : X) × F x
    → List ℕ)
    (pending : (x : X) × F x → Option Pending) where
  abbrev pub desk_shown : Desk X F → DeskShown
  desk_shown d = record {
    pass = d.pass.now;
    behaviour = shown behaviour d.server.now;
    registers = shown registers d.server.now;
    pending = shown pending d.server.now;
    work = d.work;
  }

-- ---- what is done

-- what a pass and its server show of a desk
abbrev pub place_of_desk : DeskShown → workers.DeskPlace
place_of_desk d = record { pass = d.pass; behaviour = d.behaviour; registers = d.registers }

-- the server is as it was
abbrev pub IsSameServer : DeskShown → DeskShown → Type 0
IsSameServer old new = (new.behaviour ≡ old.behaviour) × (new.registers ≡ old.registers)

-- a turn
abbrev pub TellsTurn : Limits → DeskShown → ServerAnswer → DeskShown → Type 0
TellsTurn l old (told.Turned turned) new =
    (old.work ≡ None) × TakesTurn orders.LeastFirst l (place_of_desk old) turned (place_of_desk new)
    × (new.work ≡ None)
TellsTurn l old told.Busy new = IsSome old.work × (new ≡ old)
TellsTurn l old other new = ⊥

-- a claim in this order that had this answer; nothing is prepared
pub record ClaimsAt (order : Order) (l : Limits) (claimed : Claimed) (old new : DeskShown) : Type 0 where
  pub idle : old.work ≡ None
  pub follows : Follows (steps_by order l) old.pass new.pass
  pub turn : KeepsTurn order old.pass new.pass
  pub answer : ClaimsBy order l old.behaviour.stage old.pass new.pass claimed
  pub work : new.work ≡ work_of claimed
  pub server : IsSameServer old new
  pub unprepared : new.pending ≡ None

abbrev pub TellsClaim : Order → Limits → DeskShown → ServerAnswer → DeskShown → Type 0
TellsClaim order l old (told.Work element unit attempt) new = (work : Work)
    × ClaimsAt order l (claimeds.Work work) old new
    × (element ≡ work.element.id) × (unit ≡ work.unit) × (attempt ≡ work.attempt)
TellsClaim order l old (told.Turned turneds.Idle) new = ClaimsAt order l claimeds.Idle old new
TellsClaim order l old (told.Turned turneds.NoUnit) new = ClaimsAt order l claimeds.NoUnit old new
TellsClaim order l old told.Busy new = IsSome old.work × (new ≡ old)
TellsClaim order l old other new = ⊥

-- a claim of the element with this id that came to this; nothing is prepared
pub record TakesAt (l : Limits) (id : ℕ) (taken : Result Work Refusal) (old new : DeskShown) : Type 0 where
  pub idle : old.work ≡ None
  pub follows : Follows (given_steps l) old.pass new.pass
  pub turn : new.pass.from ≡ old.pass.from
  pub answer : ClaimsGiven l old.behaviour.stage id old.pass new.pass taken
  pub work : MatchResult taken (λ work. new.work ≡ Some work) (λ _. new.work ≡ None)
  pub server : IsSameServer old new
  pub unprepared : new.pending ≡ None

abbrev pub TellsTake : Limits → ℕ → DeskShown → ServerAnswer → DeskShown → Type 0
TellsTake l id old (told.Work element unit attempt) new = (work : Work) × TakesAt l id (Ok work) old new
    × (element ≡ work.element.id) × (unit ≡ work.unit) × (attempt ≡ work.attempt)
TellsTake l id old (told.Turned turneds.NoUnit) new = TakesAt l id (Err refusals.NoUnit) old new
TellsTake l id old (told.NotTaken element why) new =
    (element ≡ id) × ¬ (why ≡ refusals.NoUnit) × TakesAt l id (Err why) old new
TellsTake l id old told.Busy new = IsSome old.work × (new ≡ old)
TellsTake l id old other new = ⊥

-- the work in hand came to this, and nothing is in hand any more
pub record WorksOffAt (l : Limits) (turned : Turned) (old new : DeskShown) : Type 0 where
  pub work : Work
  pub in_hand : old.work ≡ Some work
  pub follows : Follows (commit_steps l MAX_OUTPUTS) old.pass new.pass
  pub turn : new.pass.from ≡ old.pass.from
  pub answer : WorksOff old.behaviour old.registers work old.pass new.pass turned new.registers
  pub none_left : new.work ≡ None
  pub behaviour_is : new.behaviour ≡ old.behaviour

-- the work in hand, which wasn't prepared, is prepared now
pub record PreparesAt (old new : DeskShown) : Type 0 where
  pub in_hand : IsSome old.work
  pub unprepared : old.pending ≡ None
  pub prepared : IsSome new.pending
  pub drafts : List DraftView
  pub made : IfSome old.work (λ work. IsMade old.behaviour old.registers work.element new.pending drafts)
  pub work : new.work ≡ old.work
  pub pass : new.pass ≡ old.pass
  pub server : IsSameServer old new

-- a prepare, which gives up what the server declines
abbrev pub TellsPrepare : Limits → DeskShown → ServerAnswer → DeskShown → Type 0
TellsPrepare l old told.Ready new = PreparesAt old new
TellsPrepare l old (told.Turned (turneds.Refused element why)) new =
    (old.pending ≡ None) × WorksOffAt l (turneds.Refused element why) old new
TellsPrepare l old told.Busy new = IsSome old.work × IsSome old.pending × (new ≡ old)
TellsPrepare l old told.NoneOpen new = (old.work ≡ None) × (new ≡ old)
TellsPrepare l old other new = ⊥

-- a commit, of work that is prepared first where it wasn't
abbrev pub TellsCommit : Limits → DeskShown → ServerAnswer → DeskShown → Type 0
TellsCommit l old (told.Turned turned) new = WorksOffAt l turned old new
TellsCommit l old told.NoneOpen new = (old.work ≡ None) × (new ≡ old)
TellsCommit l old other new = ⊥

-- an abort of the unit that holds this element, with this answer
pub record AbortsAt (ended : Ended) (element : ℕ) (old new : DeskShown) : Type 0 where
  pub work : Work
  pub in_hand : old.work ≡ Some work
  pub element_is : element ≡ work.element.id
  pub follows : Follows abort_steps old.pass new.pass
  pub turn : new.pass.from ≡ old.pass.from
  pub answer : AnswersAbort old.pass new.pass ended
  pub none_left : new.work ≡ None
  pub server : IsSameServer old new

abbrev pub TellsAbort : DeskShown → ServerAnswer → DeskShown → Type 0
TellsAbort old (told.Aborted element) new = AbortsAt endeds.Aborted element old new
TellsAbort old (told.AlreadyAborted element) new = AbortsAt endeds.AlreadyAborted element old new
TellsAbort old told.NoneOpen new = (old.work ≡ None) × (new ≡ old)
TellsAbort old other new = ⊥

-- a drop gives up what is in hand
pub record DropsAt (old new : DeskShown) : Type 0 where
  pub gives_up : EndsOpen old.pass.open_unit old.pass new.pass
  pub follows : IfSome old.pass.open_unit (λ _. Follows abort_steps old.pass new.pass)
  pub turn : new.pass.from ≡ old.pass.from
  pub none_left : new.work ≡ None
  pub server : IsSameServer old new

abbrev pub TellsDrop : DeskShown → ServerAnswer → DeskShown → Type 0
TellsDrop old told.Dropped new = DropsAt old new
TellsDrop old other new = ⊥

-- what a desk was asked
abbrev pub Does : Limits → DeskAct → DeskShown → ServerAnswer → DeskShown → Type 0
Does l acts.Turn old a new = TellsTurn l old a new
Does l acts.Claim old a new = TellsClaim orders.LeastFirst l old a new
Does l acts.Next old a new = TellsClaim orders.InTurn l old a new
Does l (acts.Take id) old a new = TellsTake l id old a new
Does l acts.Prepare old a new = TellsPrepare l old a new
Does l acts.Commit old a new = TellsCommit l old a new
Does l acts.Abort old a new = TellsAbort old a new
Does l acts.Drop old a new = TellsDrop old a new

-- whether it is dropped by that
abbrev pub is_drop : DeskAct → Bool
is_drop acts.Drop = true
is_drop other = false

-- it did so, unless it was dropped before
abbrev pub DoesUnless : Bool → Limits → DeskAct → PlaceShown → ServerAnswer → PlaceShown → Type 0
DoesUnless true l act old a new = (a ≡ told.Ended) × (new ≡ old)
DoesUnless false l act old a new =
    Does l act old.desk a new.desk × (new.desk.pass.limits ≡ l) × (new.began ≡ old.began)
    × (new.is_dropped ≡ is_drop act)

abbrev pub DoesAt : Limits → DeskAct → PlaceShown → ServerAnswer → PlaceShown → Type 0
DoesAt l act old a new = DoesUnless old.is_dropped l act old a new

-- the desk at one of the places did so, and the others are as they were
pub record DoesIn (l : Limits) (act : DeskAct) (at : ℕ)
    (olds : List PlaceShown) (a : ServerAnswer) (news : List PlaceShown) : Type 0 where
  pub old : PlaceShown
  pub there : slice_get olds at ≡ Some old
  pub new : PlaceShown
  pub does : DoesAt l act old a new
  pub others : news ≡ slice_set olds at new

-- ---- a turn in a drain

-- whether a desk takes part: it wasn't dropped, and has nothing in hand
abbrev pub is_free : PlaceShown → Bool
is_free p = not p.is_dropped && not (is_some p.desk.work)

-- the desk took a turn, whose claim was in this order, and has nothing in hand
pub record TurnsAt (order : Order) (l : Limits) (turned : Turned) (old new : PlaceShown) : Type 0 where
  pub turn : TakesTurn order l (place_of_desk old.desk) turned (place_of_desk new.desk)
  pub limits : new.desk.pass.limits ≡ l
  pub none_left : new.desk.work ≡ None
  pub began : new.began ≡ old.began
  pub kept : new.is_dropped ≡ old.is_dropped

-- so did the desk at one of the places, which was free, and the others are as they were
pub record TurnsIn (order : Order) (l : Limits) (at : ℕ)
    (olds : List PlaceShown) (turned : Turned) (news : List PlaceShown) : Type 0 where
  pub old : PlaceShown
  pub there : slice_get olds at ≡ Some old
  pub free : is_free old ≡ true
  pub new : PlaceShown
  pub turns : TurnsAt order l turned old new
  pub others : news ≡ slice_set olds at new

-- the desk at one of the places wasn't free, and all are as they were
pub record StaysIn (at : ℕ) (olds news : List PlaceShown) : Type 0 where
  pub old : PlaceShown
  pub there : slice_get olds at ≡ Some old
  pub busy : is_free old ≡ false
  pub same : news ≡ olds

-- ---- the end

-- the desk gave up what it had in hand, if it had something
pub record GivesUpAt (l : Limits) (old new : PlaceShown) : Type 0 where
  pub drops : DropsAt old.desk new.desk
  pub limits : new.desk.pass.limits ≡ l
  pub began : new.began ≡ old.began
  pub kept : new.is_dropped ≡ old.is_dropped

-- so did the desk at one of the places, and the others are as they were
pub record GivesUpIn (l : Limits) (at : ℕ) (olds news : List PlaceShown) : Type 0 where
  pub old : PlaceShown
  pub there : slice_get olds at ≡ Some old
  pub new : PlaceShown
  pub gives_up : GivesUpAt l old new
  pub others : news ≡ slice_set olds at new

-- a desk is ended: what it had in hand is given up, and its registers stay
pub record EndsDesk (old : PlaceShown) (pass : PassShown) (registers : List ℕ) : Type 0 where
  pub gives_up : EndsOpen old.desk.pass.open_unit old.desk.pass pass
  pub follows : IfSome old.desk.pass.open_unit (λ _. Follows abort_steps old.desk.pass pass)
  pub turn : pass.from ≡ old.desk.pass.from
  pub same : registers ≡ old.desk.registers

-- so it is of each, for lists that are as long as each other
abbrev pub AllEnded : List PlaceShown → List PassShown → List (List ℕ) → Type 0
AllEnded [] [] [] = Unit {0}
AllEnded (o ∷ os) (p ∷ ps) (r ∷ rs) = EndsDesk o p r × AllEnded os ps rs
AllEnded os ps rs = ⊥
