-- One pass made several calls between two looks together: after each of these, all could have looked
-- together.
use Rattle.std.specs.Prelude.{◌≡◌, ◌⊎◌, ℕ, ◌<◌, ◌≤◌, List, ◌∷◌, ◌++◌, length, map}
use Rattle.std.specs.List.{AllZip}
use mathlib.Core.List.{IsPrefix}
use Rattle.tp_model.specs.declared.types.Claimed.TheVariants as claimeds
use Rattle.tp_model.specs.declared.types.Limits.{Limits}
use Rattle.tp_model.specs.declared.types.Outcome.{Outcome}
use Rattle.tp_model.specs.declared.types.Work.{Work}
use Rattle.tp_model.specs.Drafts.{DraftView}
use Rattle.tp_plain.specs.Computed.{claim_of_stage, commit_of}
use Rattle.tp_manager.specs.Calls.{Follows, Settles, Takes}
use Rattle.tp_model.specs.declared.event.Event.{Event}
use Rattle.tp_model.specs.History.{In}
use Rattle.tp_manager.specs.Shown.{KeeperShown, PassShown}
use Rattle.tp_rollover.specs.Thread.{AreTogether, HasSeen, Stays, thread_of}

-- the pass as if it had seen this
abbrev pub as_seen : List Event → ℕ → PassShown → PassShown
as_seen h drawn p = record p { seen = h; seen_blocks = drawn }

-- a pass made calls: it has the same number, has seen no less, and the blocks that it drew are none of those
-- that it had seen drawn
pub record Goes (old new : PassShown) : Type 0 where
  pub number : new.number ≡ old.number
  pub sees : IsPrefix old.seen new.seen
  pub kept : (b : ℕ) → In b old.blocks → In b new.blocks
  pub later : (b : ℕ) → In b new.blocks → In b old.blocks ⊎ (old.seen_blocks ≤ b)
  pub drawn : old.seen_blocks ≤ new.seen_blocks

-- all were together, the pass old went on to new and then to last, nobody else did anything, and all were
-- together again
pub record Between (l : Limits) (keeper keeper' : KeeperShown) (olds news : List PassShown)
    (h h' : List Event)
    (old new last : PassShown) : Type 0 where
  pub before : AreTogether l keeper olds h
  pub front : List PassShown
  pub back : List PassShown
  pub olds_are : olds ≡ front ++ old ∷ back
  pub first : Goes old new
  pub shown : HasSeen l new.seen new
  -- it has seen drawn what it has drawn
  pub below : (b : ℕ) → In b new.blocks → b < new.seen_blocks
  pub rest : Goes new last
  pub others : AllZip Stays (front ++ last ∷ back) news
  pub after : AreTogether l keeper' news h'

-- all could have looked together after new
abbrev pub AloneMiddle : Type 0
AloneMiddle =
    (l : Limits) (keeper keeper' : KeeperShown) (olds news : List PassShown) (h h' : List Event)
    (old new last : PassShown)
    → (b : Between l keeper keeper' olds news h h' old new last)
    → let front = map (as_seen new.seen new.seen_blocks) b.front in
    let back = map (as_seen new.seen new.seen_blocks) b.back in
    let mids = front ++ new ∷ back in
    AreTogether l keeper mids new.seen × AllZip Stays (b.front ++ new ∷ b.back) mids
    × AllZip Stays (front ++ last ∷ back) news

-- a claim that takes work, and after it a commit, with no look together between them: as by a desk's turn
abbrev pub AloneTurn : Type 0
AloneTurn =
    (l : Limits) (keeper keeper' : KeeperShown) (olds news : List PassShown) (h h' : List Event)
    (old new last : PassShown)
    → (b : Between l keeper keeper' olds news h h' old new last)
    → (n k c stage : ℕ) (work : Work) (drafts : List DraftView) (outcome : Outcome)
    → length b.front ≡ c → Follows n old new → Follows k new last → last.limits ≡ l
    → new.from ≡ old.from → last.from ≡ new.from → Takes l stage work old new
    → Settles drafts new last outcome
    → let claimed = claim_of_stage (thread_of l olds h) c stage in
    (claimed.0 ≡ claimeds.Work work) × ((outcome, thread_of l news h') ≡ commit_of claimed.1 c drafts)
