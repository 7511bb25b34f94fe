-- Passes that look together, on their way. In each definition l are the table's limits.
use Rattle.std.specs.Prelude.{◌≡◌, ℕ, ◌+◌, ◌-◌, ◌*◌, ◌<◌, ◌≤◌, All, List, [], ◌∷◌, ◌++◌, length, map}
use Rattle.std.specs.Prelude.{slice_index_or, slice_set, Some}
use Rattle.std.specs.List.{AllZip}
use mathlib.Core.List.{IsPrefix}
use Rattle.atomic_table.specs.Seated.{TableId}
use Rattle.tp_model.specs.declared.types.Account.{Account}
use Rattle.tp_model.specs.declared.types.Counts.{Counts}
use Rattle.tp_model.specs.declared.types.Limits.{Limits}
use Rattle.tp_model.specs.declared.types.Status.{Status}
use Rattle.tp_model.specs.Accounts.{account_among, account_of, all_in, elements_below, one_more}
use Rattle.tp_model.specs.declared.event.Event.{Event}
use Rattle.tp_model.specs.declared.trace.StepKind.TheVariants as kinds
use Rattle.tp_model.specs.History.{In, events_by}
use Rattle.tp_model.specs.Passes.{AreEnded, Ascend, IsOwnOpen, IsRun}
use Rattle.tp_rule.specs.Steps.{Knows, noted}
use Rattle.tp_rule.specs.declared.view.Known.{Known}
use Rattle.tp_rule.specs.declared.view.Known.TheVariants.{BlocksDrawn}
use Rattle.tp_rule.specs.Views.{fresh_from, hand}
use Rattle.tp_rule.specs.declared.view.Hand.{Hand}
use Rattle.tp_rule.specs.declared.view.View.{View}
use Rattle.tp_manager.specs.Accounts.{AreNumberedFrom, Attends}
use Rattle.tp_manager.specs.Bounds.{first_steps, kept_steps, led_steps, lead_steps}
use Rattle.tp_manager.specs.Shown.{PassShown, steps_in}
use Rattle.tp_manager.specs.CallSteps.{Acted, IsKnown}
use Rattle.tp_manager.specs.BetweenCalls.{RemembersDrawn, untraced}
use Rattle.tp_model.specs.declared.types.TheConstants.{STAGES}

-- the pass is of this table
pub record IsAt (table : TableId) (l : Limits) (p : PassShown) : Type 0 where
  pub table_is : p.table ≡ table
  pub limits_are : p.limits ≡ l

-- the passes of a seat, however many, were there at one look, after which this was seen; nothing else changed
pub record LooksOn (l : Limits) (h : List Event) (v w : View) : Type 0 where
  pub seen : w.seen ≡ h
  pub limits : w.limits ≡ l
  pub hands : w.hands ≡ map (noted kinds.Load h) v.hands
  pub mine : (a : Hand) → In a w.hands → a.mine ≡ events_by a.number h
  pub open_own : (a : Hand) → In a w.hands → (u : ℕ) → a.open_unit ≡ Some u → IsOwnOpen h a.number u
  pub ended : (a : Hand) → In a w.hands → AreEnded h a.number a.open_unit
  pub run : (a : Hand) → In a w.hands → IsRun l h a.number a.blocks a.next a.left
  pub known : IsKnown l w
  pub knows : (x : Known) → Knows v x → Knows w x

-- a pass was there as all looked together, in at most n steps
pub record Joins (table : TableId) (l : Limits) (n : ℕ) (h : List Event) (old new : PassShown) : Type 0 where
  pub attends : Attends n h old new
  pub at : IsAt table l new

-- the first pass looked together with those of another seat and with these: v and w are its view before and
-- after, v' and w' that of the other seat
pub record LooksWith (table : TableId) (l : Limits) (n : ℕ) (v w v' w' : View)
    (olds news : List PassShown) : Type 0 where
  pub first : Acted l (lead_steps n) v w
  pub others : LooksOn l w.seen v' w'
  pub passes : AllZip (Joins table l led_steps w.seen) olds news

-- the first pass, those of another seat and these are all passes of the table, and those of the other seat
-- have done nothing
pub record AreAllPasses (l : Limits) (v v' : View) (passes : List PassShown) : Type 0 where
  pub few : length passes + 1 ≤ l.parts
  pub first : (hand v).number ≡ 0
  pub passes_are : AreNumberedFrom 1 passes
  pub others : untraced v'.hands ≡ fresh_from l (length passes + 1) (l.parts - (length passes + 1))

-- the passes of a seat, however many, have looked this many times, and have done nothing else
pub record HasLookedOn (l : Limits) (n : ℕ) (h : List Event) (v w : View) : Type 0 where
  pub seen : w.seen ≡ h
  pub limits : w.limits ≡ l
  pub hands : untraced w.hands ≡ untraced v.hands
  pub mine : (a : Hand) → In a w.hands → a.mine ≡ events_by a.number h
  pub known : IsKnown l w
  pub steps : steps_in w.hands ≡ steps_in v.hands + n * length v.hands

-- the first pass looked together with those of another seat, which had seen no more, and with these: the
-- first in at most f steps, those of the other seat in k each, and these in at most j each
pub record GathersWith (table : TableId) (l : Limits) (f k j : ℕ) (v w v' w' : View)
    (olds news : List PassShown) : Type 0 where
  pub first : Acted l f v w
  pub others : HasLookedOn l k w.seen v' w'
  pub saw : IsPrefix v'.seen w.seen
  pub passes : AllZip (Joins table l j w.seen) olds news

-- the first of n passes looked together with those of another seat and with these, counted the rows by
-- itself, and looked together with them again: nothing has happened meanwhile, so all have seen the history
-- whose account it is
pub record CountsWith (table : TableId) (l : Limits) (n : ℕ) (v w v' w' : View)
    (olds news : List PassShown) (account : Account) : Type 0 where
  pub gathered : GathersWith table l (first_steps l n) kept_steps (2 * led_steps) v w v' w' olds news
  pub account_is : account ≡ account_of l.attempts w.seen

-- a pass by its number, and the spare blocks that it has drawn
pub record Lot : Type 0 where
  pub number : ℕ
  pub blocks : List ℕ

abbrev pub lot_of : Hand → Lot
lot_of a = record { number = a.number; blocks = a.blocks }

abbrev pub lot_shown : PassShown → Lot
lot_shown p = record { number = p.number; blocks = p.blocks }

-- those of the first pass, of the passes of another seat, and of these
abbrev pub lots : View → View → List PassShown → List Lot
lots v v' passes = lot_of (hand v) ∷ (map lot_of v'.hands ++ map lot_shown passes)

-- every pass of the table is among them
abbrev pub AreEvery : Limits → List Lot → Type 0
AreEvery l xs = (c : ℕ) → c < l.parts → (x : Lot) × In x xs × (x.number ≡ c)

-- n spare blocks are drawn: each that one of these passes has drawn is one of them, and no other pass's, and
-- where these are every pass of the table, each of them is one that a pass has drawn
pub record AreLots (l : Limits) (n : ℕ) (xs : List Lot) : Type 0 where
  pub below : (x : Lot) → In x xs → Ascend 0 n x.blocks
  pub alone : (x y : Lot) (b : ℕ) → In x xs → In y xs → In b x.blocks → In b y.blocks → x.number ≡ y.number
  pub all : AreEvery l xs → (b : ℕ) → b < n → (x : Lot) × In x xs × In b x.blocks

-- the first pass and another seat, w and w' by now, have found n blocks drawn, no fewer than either knew
-- before
pub record FoundDrawn (n : ℕ) (v w v' w' : View) : Type 0 where
  pub first : RemembersDrawn w n
  pub others : RemembersDrawn w' n
  pub rises : (m : ℕ) → Knows v (BlocksDrawn m) → m ≤ n
  pub others_rise : (m : ℕ) → Knows v' (BlocksDrawn m) → m ≤ n

-- and so has each of these passes
abbrev pub HaveFound : ℕ → List PassShown → Type 0
HaveFound n [] = Unit {0}
HaveFound n (p ∷ ps) = (p.seen_blocks ≡ n) × HaveFound n ps

-- at most n elements are counted, in all and in each of the 15 stages
pub record IsWithin (n : ℕ) (account : Account) : Type 0 where
  pub total : all_in account.total ≤ n
  pub stages : All (λ c. all_in c ≤ n) account.stages
  pub wide : length account.stages ≡ STAGES

-- no element of a kind is counted
abbrev pub no_counts : Counts
no_counts = record { waiting = 0; held = 0; consumed = 0; parked = 0; killed = 0 }

-- the account with one more element of this stage and status
abbrev pub with_one : ℕ → Status → Account → Account
with_one stage status a = record {
  total = one_more status a.total;
  stages = slice_set a.stages (stage - 1) (one_more status (slice_index_or a.stages (stage - 1) no_counts));
}

-- the account of the elements in the rows below n after the history h
abbrev pub account_below : Limits → List Event → ℕ → Account
account_below l h n = account_among l.attempts h (elements_below h n)

-- whether the elements of the rows below n were counted, if nothing has happened since v
abbrev pub HasCounted : Limits → ℕ → View → View → Account → Type 0
HasCounted l n v w a = w.seen ≡ v.seen → a ≡ account_below l v.seen n
