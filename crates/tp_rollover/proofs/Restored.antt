-- What was described and stands again, and the kills, make a rollover.
use Rattle.std.proofs.Common.{◌≡◌, ℕ, ◌+◌, ◌<◌, List, [], ◌∷◌, ◌++◌, inl, refl, sym, ap, subst, append_assoc, arith}
use Rattle.tp_model.specs.declared.types.Limits.{Limits}
use Rattle.tp_model.specs.declared.types.Status.{Status}
use Rattle.tp_model.specs.declared.types.Status.TheVariants.{Waiting, Held, Consumed, Parked, Killed}
use Rattle.tp_model.specs.declared.event.Event.{Event}
use Rattle.tp_model.specs.declared.event.Event.TheVariants.{Abort, Kill}
use Rattle.tp_model.specs.History.{In, here, status_of, there}
use Rattle.tp_model.specs.Steps.{IsLegal}
use Rattle.tp_model.proofs.Bridges.{append_nil}
use Rattle.tp_model.proofs.Histories.{element_of-kept, legal_more}
use Rattle.tp_plain.proofs.Kills.{may_abort, may_kill_after}
use Rattle.tp_rollover.specs.Checks.{AscendFrom}
use Rattle.tp_rollover.specs.Finding.{StandsLiving}
use Rattle.tp_rollover.specs.Laws.{RestoredIsRolledOver}
use Rattle.tp_rollover.specs.Rolls.{ends, kills}
use Rattle.tp_rollover.specs.Survivors.{IsLiving}
use Rattle.tp_rollover.specs.declared.moved.Moved.{Moved}
use Rattle.tp_rollover.proofs.Assembly.{all_living, rolled}
use Rattle.tp_rollover.proofs.Burying.{end_of_one, kills_next, legal_apart, not_first, others_stay}

module _ (l : Limits) (c : ℕ) (inside : c < l.parts) where
  -- one can be killed
  one_legal : (h : List Event) (i : ℕ) → IsLegal l h → StandsLiving l.attempts i h → IsLegal l (h ++ end_of_one l.attempts c h i)
  one_legal h i legal live = go (status_of l.attempts h i) refl live.living
    where
      go : (s : Status) → status_of l.attempts h i ≡ s → IsLiving s → IsLegal l (h ++ (ends c s ++ Kill c i ∷ []))
      go (Waiting n) is lives = legal_more l h (Kill c i) legal (record { pass = inside; item = live.item; born = live.born; free = rw is tt })
      go (Held u n) is lives = subst (IsLegal l) (append_assoc h (Abort c u ∷ []) (Kill c i ∷ []))
          (legal_more l (h ++ Abort c u ∷ []) (Kill c i) (legal_more l h (Abort c u) legal (may_abort l h c i u n inside legal is)) (may_kill_after l h c i u n live.item inside live.born is))
      go (Consumed u) is lives = absurd lives
      go (Parked n) is lives = legal_more l h (Kill c i) legal (record { pass = inside; item = live.item; born = live.born; free = rw is tt })
      go Killed is lives = absurd lives

  -- so all of them can be, in their order
  kills_legal : (low : ℕ) (h : List Event) (ms : List Moved) → IsLegal l h → AscendFrom (λ m. m.old) low ms → ((m : Moved) → In m ms → StandsLiving l.attempts m.old h) → IsLegal l (h ++ kills l.attempts h c ms)
  kills_legal low h [] legal up live = subst (IsLegal l) (sym (append_nil h)) legal
  kills_legal low h (m ∷ ms) legal up live =
      let apart = legal_apart l h legal in
      let next = h ++ end_of_one l.attempts c h m.old in
      let rest = kills_legal (m.old + 1) next ms (one_legal h m.old legal (live m here)) up.1
      (λ x p. (let one = live x (there p) in record {
        item = one.item;
        born = element_of-kept h (end_of_one l.attempts c h m.old) x.old one.item one.born;
        living = subst IsLiving (sym (others_stay l.attempts c m.old h apart x.old (not_first m ms x up.1 p))) one.living;
      })) in
      subst (IsLegal l) (kills_next l.attempts h c m ms apart up.1) rest

pub restored_rolls : RestoredIsRolledOver
restored_rolls l k h g survivors moved limits same legal new_legal found again =
    let live = all_living l k h g survivors moved found again in
    let killed = kills_legal l 0 (let some = limits.parts.0 in omega (arith, some)) 0 h moved legal live.once live.each in
    rolled l k h (h ++ kills l.attempts h 0 moved) g survivors moved same killed new_legal found again
    (record { given_up = []; own = inl refl; killed = sym (ap (λ z. z ++ kills l.attempts z 0 moved) (append_nil h)) })
