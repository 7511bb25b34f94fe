-- What keeper and passes show where all have looked together, the state of the manager of one thread that
-- they make, and what it is that one pass called while no other did.
use Rattle.std.specs.Prelude.{◌≡◌, ℕ, ◌-◌, ◌*◌, ◌<◌, ◌≤◌, None, List, [], ◌∷◌, ◌++◌, length, map, slice_index}
use Rattle.std.specs.List.{AllZip, range_with_len}
use mathlib.Core.List.{IsPrefix}
use Rattle.tp_model.specs.declared.types.Limits.{Limits}
use Rattle.tp_model.specs.declared.event.Event.{Event}
use Rattle.tp_model.specs.History.{In, events_by}
use Rattle.tp_model.specs.Passes.{IsPassView}
use Rattle.tp_model.specs.Steps.{IsLegal}
use Rattle.tp_plain.specs.declared.pass_state.PassState.{PassState}
use Rattle.tp_plain.specs.OneThread.{State, fresh_pass}
use Rattle.tp_manager.specs.Accounts.{AreAll}
use Rattle.tp_manager.specs.Calls.{Follows, IsQuiet, claims_in}
use Rattle.tp_manager.specs.Shown.{KeeperShown, PassShown, turn_of, view_in}

-- for each stage the row at which the next claim in turn begins
abbrev pub turns_in : List ℕ → List ℕ
turns_in from = map (slice_index from) (range_with_len 0 16)

-- what a pass has used, as the manager of one thread keeps it
abbrev pub state_of : PassShown → PassState
state_of p = record {
  next = p.next;
  left = p.left;
  claimed = claims_in p.mine;
  holding = p.open_unit;
  turns = turns_in p.from;
}

-- how many spare blocks are drawn, as the first of the passes knows
abbrev pub drawn_of : List PassShown → ℕ
drawn_of [] = 0
drawn_of (p ∷ ps) = p.seen_blocks

-- the passes that aren't given out
abbrev pub not_given : Limits → ℕ → List PassState
not_given l given = map (fresh_pass l.rows) (range_with_len given (l.parts - given))

-- the manager of one thread that these passes are, after this history
abbrev pub thread_of : Limits → List PassShown → List Event → State
thread_of l passes h = record {
  limits = l;
  history = h;
  passes = map state_of passes ++ not_given l (length passes);
  drawn = drawn_of passes;
}

-- this many spare blocks are drawn: each of these passes knows of all of them, and each is one pass's
pub record AreDrawn (drawn : ℕ) (passes : List PassShown) : Type 0 where
  pub seen : (p : PassShown) → In p passes → p.seen_blocks ≡ drawn
  pub inside : (p : PassShown) (b : ℕ) → In p passes → In b p.blocks → b < drawn
  pub owned : (b : ℕ) → b < drawn → (p : PassShown) × In p passes × In b p.blocks
  pub once : (p q : PassShown) (b : ℕ) → In p passes → In q passes → In b p.blocks → In b q.blocks
      → p.number ≡ q.number

-- a pass has seen this history, of a manager with these limits
pub record HasSeen (l : Limits) (h : List Event) (p : PassShown) : Type 0 where
  pub limits : p.limits ≡ l
  pub seen : p.seen ≡ h
  pub shows : IsPassView l (view_in p)

-- these are all passes that the keeper gave out; they have all seen this legal history, in which nobody else
-- has an event; and the spare blocks that are drawn are theirs
pub record AreTogether (l : Limits) (keeper : KeeperShown) (passes : List PassShown) (h : List Event)
    : Type 0 where
  pub legal : IsLegal l h
  pub all : AreAll keeper passes
  pub each : (p : PassShown) → In p passes → HasSeen l h p
  pub others : (c : ℕ) → keeper.given ≤ c → events_by c h ≡ []
  pub drawn : AreDrawn (drawn_of passes) passes

-- a pass has done nothing but look
pub record Stays (old new : PassShown) : Type 0 where
  pub number : new.number ≡ old.number
  pub quiet : IsQuiet old new
  pub sees : IsPrefix old.seen new.seen
  pub drawn : old.seen_blocks ≤ new.seen_blocks
  pub turn : new.from ≡ old.from

-- all were together, pass c made a call of at most n steps, and all were together again, with nothing done by
-- any other pass
pub record Alone (l : Limits) (keeper keeper' : KeeperShown) (olds news : List PassShown) (h h' : List Event)
    (n c : ℕ) (old new : PassShown) : Type 0 where
  pub before : AreTogether l keeper olds h
  pub front : List PassShown
  pub back : List PassShown
  pub olds_are : olds ≡ front ++ old ∷ back
  pub place : length front ≡ c
  pub limits : new.limits ≡ l
  pub follows : Follows n old new
  pub others : AllZip Stays (front ++ new ∷ back) news
  pub after : AreTogether l keeper' news h'

-- a pass that was handed out, and has done nothing but look
pub record IsFresh (l : Limits) (p : PassShown) : Type 0 where
  pub mine : p.mine ≡ []
  pub open_unit : p.open_unit ≡ None
  pub next : p.next ≡ p.number * l.rows
  pub left : p.left ≡ l.rows
  pub blocks : p.blocks ≡ []
  pub turn : (stage : ℕ) → turn_of p stage ≡ 0
