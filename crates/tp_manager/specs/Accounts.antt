-- What an account answers, and what passes that gather leave.
use Rattle.std.specs.Prelude.{◌≡◌, ℕ, ◌+◌, ◌<◌, ◌≤◌, List, [], ◌∷◌, length}
use Rattle.std.specs.List.{AllZip}
use mathlib.Core.List.{IsPrefix}
use Rattle.tp_model.specs.declared.types.Account.{Account}
use Rattle.tp_model.specs.declared.types.Limits.{Limits}
use Rattle.tp_model.specs.declared.event.Event.{Event}
use Rattle.tp_model.specs.Accounts.{account_of}
use Rattle.tp_model.specs.History.{In, events_by}
use Rattle.tp_model.specs.Passes.{Ascend}
use Rattle.tp_model.specs.Steps.{IsLegal}
use Rattle.tp_manager.specs.Bounds.{account_steps}
use Rattle.tp_manager.specs.Calls.{Follows, HasLooked, IsQuiet, steps_of}
use Rattle.tp_manager.specs.Shown.{KeeperShown, PassShown}

-- these passes have the numbers c, c + 1, ..
abbrev pub AreNumberedFrom : ℕ → List PassShown → Type 0
AreNumberedFrom c [] = Unit {0}
AreNumberedFrom c (p ∷ ps) = (p.number ≡ c) × AreNumberedFrom (c + 1) ps

-- these are all passes that the keeper gave out, in order of number
abbrev pub AreAll : KeeperShown → List PassShown → Type 0
AreAll keeper passes = (length passes ≡ keeper.given) × AreNumberedFrom 0 passes

-- a pass has looked, in at most n steps, has done nothing else, and has then seen h. Its own events are those
-- of h with its number, as always (`Follows`)
pub record Attends (n : ℕ) (h : List Event) (old new : PassShown) : Type 0 where
  pub seen : new.seen ≡ h
  pub follows : Follows n old new
  pub looks : HasLooked old new
  pub quiet : IsQuiet old new
  pub turn : new.from ≡ old.from

-- the steps of all these passes
abbrev pub steps_together : List PassShown → List PassShown → ℕ
steps_together [] news = 0
steps_together (old ∷ olds) [] = 0
steps_together (old ∷ olds) (new ∷ news) = length (steps_of old new) + steps_together olds news

-- how many spare blocks these passes have drawn, all together
abbrev pub blocks_together : List PassShown → ℕ
blocks_together [] = 0
blocks_together (p ∷ ps) = length p.blocks + blocks_together ps

-- n spare blocks are drawn: each of these passes has found this many, and they are those that these passes
-- have drawn, each of them one pass alone, and once
pub record HaveDrawn (n : ℕ) (passes : List PassShown) : Type 0 where
  pub found : (p : PassShown) → In p passes → p.seen_blocks ≡ n
  pub below : (p : PassShown) → In p passes → Ascend 0 n p.blocks
  pub all : (b : ℕ) → b < n → (p : PassShown) × In p passes × In b p.blocks
  pub alone : (p q : PassShown) (b : ℕ) → In p passes → In q passes → In b p.blocks → In b q.blocks
      → p.number ≡ q.number
  pub total : blocks_together passes ≡ n

-- in at most n steps each the keeper and all passes have seen one and the same legal history, which begins
-- with what each had seen; nobody else has an event in it; and all have found how many spare blocks are drawn
pub record Gathers (l : Limits) (n : ℕ) (keeper keeper' : KeeperShown)
    (olds news : List PassShown) : Type 0 where
  pub legal : IsLegal l keeper'.seen
  pub begins : IsPrefix keeper.seen keeper'.seen
  pub passes : AllZip (Attends n keeper'.seen) olds news
  pub others : (c : ℕ) → keeper.given ≤ c → events_by c keeper'.seen ≡ []
  pub drawn : ℕ
  pub blocks : HaveDrawn drawn news

-- they have gathered, and the answer is the account of what they have seen
pub record Accounts (l : Limits) (keeper keeper' : KeeperShown) (olds news : List PassShown)
    (account : Account) : Type 0 where
  pub gathers : Gathers l (account_steps l (length olds)) keeper keeper' olds news
  pub account_is : account ≡ account_of l.attempts keeper'.seen
