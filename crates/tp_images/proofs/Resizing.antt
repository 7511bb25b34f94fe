-- What a pass consumes that resizes by the manager's own calls.
use Rattle.std.proofs.Common.{◌≡◌, ◌<◌, ℕ, true, nat_lt, inl, inr, List, [], ◌∷◌, Option, Some, None, refl, sym, ap, subst, count_by, arith}
use Rattle.std.proofs.lemmas.Bool.Decides.{leb_tells}
use Rattle.tp_model.specs.Drafts.{DraftView}
use Rattle.tp_model.specs.declared.types.Claimed.{Claimed}
use Rattle.tp_model.specs.declared.types.Element.{Element}
use Rattle.tp_model.specs.declared.event.Event.TheVariants.{Abort}
use Rattle.tp_model.specs.declared.types.Ended.{Ended}
use Rattle.tp_model.specs.declared.types.Ended.TheVariants.{Aborted, AlreadyAborted}
use Rattle.tp_model.specs.declared.types.Limits.{Limits}
use Rattle.tp_model.specs.declared.types.Outcome.{Outcome}
use Rattle.tp_model.specs.declared.types.Outcome.TheVariants as outcomes
use Rattle.tp_model.specs.declared.types.Work.{Work}
use Rattle.tp_server.specs.Pending.{Pending}
use Rattle.tp_manager.specs.Calls.{AnswersAbort, Claims, Follows, Settles}
use Rattle.tp_manager.specs.Shown.{PassShown}
use Rattle.tp_desk.specs.InHand.{IsDeskSteady, work_of}
use Rattle.tp_desk.specs.Serving.{AreUnitsEnded, gained}
use Rattle.tp_desk.specs.Turns.{registers_left}
use Rattle.tp_server.specs.declared.order.Order.TheVariants as orders
use Rattle.tp_desk.proofs.Keeping.{claimed, committed, emptied, gives_up, leaves}
use Rattle.tp_desk.proofs.Serves.{ended_none, serves_none}
use Rattle.tp_workers.specs.Gains.{commits_in, is_commit}
use Rattle.tp_workers.proofs.Events.{counted_one}
use Rattle.tp_images.specs.Pictures.{picture_bytes, smaller, spaceless}

-- with this work in hand, or none, since it showed the first
abbrev pub Resizing : PassShown → PassShown → Option Work → Type 0
Resizing first pass work = IsDeskSteady spaceless [] None [] first pass work []

pub begins : (p : PassShown) → p.open_unit ≡ None → Resizing p p None
begins p free = record {
  serves = serves_none spaceless [] p;
  in_hand = record { open_unit = free; unprepared = refl };
  ended = subst (λ (o : Option ℕ). AreUnitsEnded o (gained p.mine p.mine) p.seen) (sym free) (ended_none p);
}

pub claims : (f p q : PassShown) (l : Limits) (n : ℕ) (answer : Claimed) → Resizing f p None → Follows n p q → Claims l 2 p q answer → Resizing f q (work_of answer)
claims f p q l n answer s follows says = claimed spaceless [] None [] f p q None [] l orders.LeastFirst n 2 answer refl s follows says

pub aborts : (f p q : PassShown) (w : Work) (n : ℕ) (ended : Ended) → Resizing f p (Some w) → Follows n p q → AnswersAbort p q ended → q.open_unit ≡ None → Resizing f q None
aborts f p q w n ended s follows says free =
    let up = gives_up p q ended says in
    emptied spaceless spaceless [] [] [] f q None [] (leaves spaceless [] None [] f p (Some w) [] s n up.0 q follows up.1 up.2) refl refl refl free

-- an abort adds no commit
pub aborts_commits : (p q : PassShown) (ended : Ended) → AnswersAbort p q ended → commits_in q ≡ commits_in p
aborts_commits p q Aborted (u, closes, keeps, adds) = omega (arith, counted_one is_commit p.mine q.mine (Abort p.number u) 0 adds.mine refl)
aborts_commits p q AlreadyAborted (u, closes, keeps, loses) = ap (count_by is_commit) loses.0

has_bytes : (n : ℕ) → 0 < n → nat_lt 0 n ≡ true
has_bytes n some = elim (leb_tells 1 n) [
  | inl p ↦ p.0
  | inr p ↦ let high = p.1 in absurd (omega (arith, some, high))
]

-- a commit of the smaller picture, whatever its answer
pub commits : (f p q : PassShown) (w : Work) (n : ℕ) (drafts : List DraftView) (outcome : Outcome) → Resizing f p (Some w) → 0 < picture_bytes w.element → drafts ≡ smaller w.element ∷ []
    → Follows n p q → Settles drafts p q outcome → q.open_unit ≡ None → Resizing f q None
commits f p q w n drafts outcome s some are follows says free =
    let made : Pending = record { prepared_for = w.element; registers = [] } in
    let ready : IsDeskSteady spaceless [] (Some made) [] f p (Some w) drafts = record {
      serves = s.serves;
      in_hand = record {
        open_unit = s.in_hand.open_unit;
        claimed = s.in_hand.claimed;
        is_born = s.in_hand.is_born;
        prepared = λ is. (refl, ([], rw (are, has_bytes (picture_bytes w.element) some) refl));
      };
      ended = s.ended;
    } in
    emptied spaceless spaceless [] [] [] f q None []
    (committed spaceless [] [] (Some made) [] f p q (Some w) drafts n outcome ready refl follows says (left w.element outcome)) refl refl refl free
  where
    left : (x : Element) (o : Outcome) → Some [] ≡ registers_left o [] (Some (record { prepared_for = x; registers = [] }))
    left x (outcomes.Committed first count) = refl
    left x outcomes.Lost = refl
    left x outcomes.Full = refl
