-- An abort where nobody else acts.
use Rattle.std.proofs.Common.{◌≡◌, ℕ, Option, Some, None, List, [], ◌∷◌, ◌++◌, refl, sym, ◌∙◌, ap, subst, arith}
use Rattle.tp_model.specs.declared.types.Ended.TheVariants as ended
use Rattle.tp_model.specs.declared.types.Limits.{Limits}
use Rattle.tp_model.specs.declared.event.Event.{Event}
use Rattle.tp_model.specs.declared.event.Event.TheVariants.{Abort}
use Rattle.tp_model.specs.History.{Aborted, Committed, UnitEnd, end_of}
use Rattle.tp_model.proofs.Later.{abort_ends}
use Rattle.tp_plain.specs.declared.pass_state.PassState.{PassState}
use Rattle.tp_plain.specs.OneThread.{State, freed, moved, pass_at, with_pass}
use Rattle.tp_plain.specs.Computed.{abort_of}
use Rattle.tp_plain.proofs.Computations.{abort_already, abort_goes}
use Rattle.tp_manager.specs.Calls.{Adds, Closes, EndedByOther, KeepsRun, Loses, claims_in}
use Rattle.tp_manager.specs.Shown.{KeeperShown, PassShown}
use Rattle.tp_rollover.specs.Thread.{Alone, drawn_of, state_of, thread_of, turns_in}
use Rattle.tp_rollover.specs.AloneLaws.{AloneAbort}
use Rattle.tp_rollover.proofs.AloneApart.{end_is, number_is, old_seen, seen_is}
use Rattle.tp_rollover.proofs.AloneThreads.{claims_more, drawn_stays, leaves, pass_is, step_of, was}
use Rattle.tp_model.proofs.Bridges.{append_nil}

module _ (l : Limits) (keeper keeper' : KeeperShown) (olds news : List PassShown) (h h' : List Event) (n c : ℕ) (old new : PassShown) (a : Alone l keeper keeper' olds news h h' n c old new) (turn : new.from ≡ old.from) (u : ℕ) (closes : Closes u old new) where
  abbrev before : State
  before = was l keeper keeper' olds news h h' n c old new a

  abbrev used : PassState
  used = pass_at before c

  used_is : used ≡ state_of old
  used_is = pass_is l keeper keeper' olds news h h' n c old new a

  pub in_hand : used.holding ≡ Some u
  in_hand = ap (λ (x : PassState). x.holding) used_is ∙ closes.was_open

  -- another pass has aborted the unit
  pub lost_unit : Loses u old new → end_of h u ≡ Some Aborted
  lost_unit loses = go (end_of h u) refl
    where
      seen : new.seen ≡ h
      seen = seen_is l keeper keeper' olds news h h' n c old new a [] (loses.0 ∙ sym (append_nil old.mine)) ∙ append_nil h

      by_other : EndedByOther old.number u h
      by_other = subst (EndedByOther old.number u) seen loses.1

      go : (x : Option UnitEnd) → end_of h u ≡ x → end_of h u ≡ Some Aborted
      go None is = absurd (abort_ends h by_other.0 u by_other.1 is)
      go (Some (Committed f k)) is =
          let was_seen = old_seen l keeper keeper' olds news h h' n c old new a in
          absurd ((was_seen.shows.open_own u closes.was_open).uncommitted f k (ap (λ g. end_of g u) was_seen.seen ∙ is))
      go (Some Aborted) is = is

  module _ (keeps : KeepsRun old new) where
    freed_is : claims_in new.mine ≡ claims_in old.mine → state_of new ≡ freed used
    freed_is x =
        let k : claims_in new.mine ≡ used.claimed = x ∙ sym (ap (λ (p : PassState). p.claimed) used_is) in
        let y : new.next ≡ used.next = keeps.0 ∙ sym (ap (λ (p : PassState). p.next) used_is) in
        let z : new.left ≡ used.left = keeps.1 ∙ sym (ap (λ (p : PassState). p.left) used_is) in
        let w = closes.open_unit in
        let t : turns_in new.from ≡ used.turns = ap turns_in turn ∙ sym (ap (λ (p : PassState). p.turns) used_is) in
        cc

    module _ (adds : Adds (Abort old.number u) old new) where
      made : new.mine ≡ old.mine ++ Abort c u ∷ []
      made = adds.mine ∙ ap (λ d. old.mine ++ Abort d u ∷ []) (number_is l keeper keeper' olds news h h' n c old new a)

      last : h' ≡ h ++ Abort c u ∷ []
      last = end_is l keeper keeper' olds news h h' n c old new a (Abort c u ∷ []) made

      pub undecided : end_of h u ≡ None
      undecided = (step_of l keeper keeper' olds news h h' n c old new a (Abort c u) last).open_unit.unfinished

      pub aborted_leaves : thread_of l news h' ≡ moved before (Abort c u) c (freed used)
      aborted_leaves =
          leaves l keeper keeper' olds news h h' n c old new a (h ++ Abort c u ∷ []) (freed used) (drawn_of olds) last
          (freed_is (ap claims_in made ∙ (claims_more old.mine (Abort c u ∷ []) ∙ omega arith))) (drawn_stays l keeper keeper' olds news h h' n c old new a keeps.2)

      pub aborts : (ended.Aborted, thread_of l news h') ≡ abort_of before c
      aborts = ap (λ t. (ended.Aborted, t)) aborted_leaves ∙ sym (abort_goes before c u in_hand undecided)

    module _ (loses : Loses u old new) where
      pub lost_leaves : thread_of l news h' ≡ with_pass before c (freed used)
      lost_leaves =
          leaves l keeper keeper' olds news h h' n c old new a h (freed used) (drawn_of olds)
          (end_is l keeper keeper' olds news h h' n c old new a [] (loses.0 ∙ sym (append_nil old.mine)) ∙ append_nil h)
          (freed_is (ap claims_in loses.0)) (drawn_stays l keeper keeper' olds news h h' n c old new a keeps.2)

      pub already : (ended.AlreadyAborted, thread_of l news h') ≡ abort_of before c
      already = ap (λ t. (ended.AlreadyAborted, t)) lost_leaves ∙ sym (abort_already before c u in_hand (lost_unit loses))

pub alone_abort : AloneAbort
alone_abort l keeper keeper' olds news h h' n c old new ended.Aborted a turn says = aborts l keeper keeper' olds news h h' n c old new a turn says.0 says.1 says.2 says.3
alone_abort l keeper keeper' olds news h h' n c old new ended.AlreadyAborted a turn says = already l keeper keeper' olds news h h' n c old new a turn says.0 says.1 says.2 says.3
