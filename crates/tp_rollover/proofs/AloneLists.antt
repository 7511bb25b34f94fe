-- The listings where nobody else acts.
use Rattle.std.proofs.Common.{◌≡◌, ◌≢◌, ℕ, zero, suc, ◌+◌, ◌-◌, ◌<◌, ◌≤◌, ◌==◌, ◌&&◌, Bool, true, false, cond, Option, Some, None, List, refl, sym, ◌∙◌, ap, subst, inl, inr, arith}
use Rattle.std.specs.List.{find, range_with_len}
use Rattle.std.proofs.lemmas.Bool.{and_from, and_parts, eq-eqb, eqb-true}
use Rattle.std.proofs.lemmas.Bool.Decides.{eqb_tells}
use Rattle.tp_model.specs.declared.types.Element.{Element}
use Rattle.tp_model.specs.declared.types.Limits.{Limits}
use Rattle.tp_model.specs.declared.types.Status.{Status}
use Rattle.tp_model.specs.declared.types.Status.TheVariants.{Waiting, Held, Consumed, Parked, Killed}
use Rattle.tp_model.specs.declared.event.Event.{Event}
use Rattle.tp_model.specs.Counts.{is_parked, is_waiting}
use Rattle.tp_model.specs.History.{element_of, status_of}
use Rattle.tp_model.specs.Steps.{IsParked, rows_of}
use Rattle.tp_model.proofs.Bridges.{element_of-id, found_later}
use Rattle.tp_plain.specs.OneThread.{State}
use Rattle.tp_manager.specs.Calls.{IsQuiet, IsWaiting, opening}
use Rattle.tp_manager.specs.Lists.{AllKilled, HasError, HasReply, NextError, NextReply, NoneParked}
use Rattle.tp_manager.specs.Shown.{KeeperShown, PassShown}
use Rattle.tp_rollover.specs.Thread.{Alone, thread_of}
use Rattle.tp_plain.specs.Listings.{error_found, next_error_of, next_reply_of, reply_found}
use Rattle.tp_rollover.specs.AloneLaws.{AloneError, AloneReply}
use Rattle.tp_rollover.proofs.AlonePoints.{opens, point_quiet}
use Rattle.tp_rollover.proofs.AloneSubmits.{both}
use Rattle.tp_rollover.proofs.AloneThreads.{quiet_leaves, was}

-- the first number of a range that passes a test

pub found_none : (test : ℕ → Bool) (a n : ℕ) → ((i : ℕ) → a ≤ i → i < a + n → test i ≡ false) → find test (range_with_len a n) ≡ None
found_none test a zero none = refl
found_none test a (suc n) none = ap (λ b. cond b (Some a) (find test (range_with_len (a + 1) n))) (none a (omega arith) (omega arith)) ∙ found_none test (a + 1) n (λ i low high. none i (omega arith) (omega arith))

pub found_first : (test : ℕ → Bool) (a n id : ℕ) → a ≤ id → id < a + n → test id ≡ true → ((i : ℕ) → a ≤ i → i < id → test i ≡ false) → find test (range_with_len a n) ≡ Some id
found_first test a zero id low high is none = absurd (omega arith)
found_first test a (suc n) id low high is none =
    elim (eqb_tells a id) [
      | inl p ↦ ap (λ b. cond b (Some a) (find test (range_with_len (a + 1) n))) (ap test p.1 ∙ is) ∙ ap (λ i. Some i) p.1
      | inr p ↦
          let apart : a ≢ id = p.1 in
          ap (λ b. cond b (Some a) (find test (range_with_len (a + 1) n))) (none a (omega arith) (omega arith))
          ∙ found_first test (a + 1) n id (omega arith) (omega arith) is (λ i more less. none i (omega arith) less)
    ]

pub not_true : (b : Bool) → (b ≡ true → ⊥) → b ≡ false
not_true true not = absurd (not refl)
not_true false not = refl

waiting_is : (st : Status) → is_waiting st ≡ true → IsWaiting st
waiting_is (Waiting n) is = (n, refl)
waiting_is (Held u n) is = absurd cc
waiting_is (Consumed u) is = absurd cc
waiting_is (Parked n) is = absurd cc
waiting_is Killed is = absurd cc

parked_is : (st : Status) → is_parked st ≡ true → IsParked st
parked_is (Waiting n) is = absurd cc
parked_is (Held u n) is = absurd cc
parked_is (Consumed u) is = absurd cc
parked_is (Parked n) is = (n, refl)
parked_is Killed is = absurd cc

-- what the tests say

pub reply_is : (root : ℕ) (st : Status) (o : Option Element) → reply_found root st o ≡ true → (x : Element) × (o ≡ Some x) × (x.stage ≡ 15) × (x.root ≡ root) × IsWaiting st
reply_is root st None is = absurd cc
reply_is root st (Some x) is =
    let p = and_parts (x.stage == 15) ((x.root == root) && is_waiting st) is in
    let q = and_parts (x.root == root) (is_waiting st) p.1 in
    (x, refl, eqb-true x.stage 15 p.0, eqb-true x.root root q.0, waiting_is st q.1)

error_is : (st : Status) (o : Option Element) → error_found st o ≡ true → (x : Element) × (o ≡ Some x) × IsParked st
error_is st None is = absurd cc
error_is st (Some x) is = (x, refl, parked_is st is)

module _ (l : Limits) (keeper keeper' : KeeperShown) (olds news : List PassShown) (h h' : List Event) (n c : ℕ) (old new : PassShown) (a : Alone l keeper keeper' olds news h h' n c old new) (quiet : IsQuiet old new) where
  abbrev status : ℕ → Status
  status i = status_of l.attempts h i

  pub born_open : (i : ℕ) (x : Element) → element_of h i ≡ Some x → element_of (opening old new) x.id ≡ Some x
  born_open i x is = found_later h (opening old new) (opens l keeper keeper' olds news h h' n c old new a) x.id x (ap (element_of h) (element_of-id h i x is) ∙ is)

  module _ (root from : ℕ) where
    abbrev reply : ℕ → Bool
    reply i = reply_found root (status i) (element_of h i)

    pub no_reply : (Ids : ℕ → Type 0) → AllKilled l root Ids old new → (i : ℕ) → Ids i → reply i ≡ false
    no_reply Ids killed i in_ids = not_true (reply i) (λ is.
        let t = reply_is root (status i) (element_of h i) is in
        let at : (t.0).id ≡ i = element_of-id h i t.0 t.1 in
        let gone = point_quiet l keeper keeper' olds news h h' n c old new a (λ g. status_of l.attempts g (t.0).id ≡ Killed) (killed t.0 (born_open i t.0 t.1) (t.2, t.3) (subst Ids (sym at) in_ids)) quiet in
        let clash : Waiting t.4.0 ≡ Killed = sym t.4.1 ∙ (ap status (sym at) ∙ gone) in
        cc)

    is_reply : (id : ℕ) → HasReply l root id h → reply id ≡ true
    is_reply id has =
        let x : Element = has.0 in
        ap (reply_found root (status id)) has.1
        ∙ and_from (x.stage == 15) ((x.root == root) && is_waiting (status id)) (eq-eqb x.stage 15 has.2.0) (and_from (x.root == root) (is_waiting (status id)) (eq-eqb x.root root has.2.1) (ap is_waiting has.3.1))

    replies : (id : ℕ) → id < rows_of l → NextReply l root from id old new → next_reply_of (was l keeper keeper' olds news h h' n c old new a) root from ≡ Some id
    replies id inside says =
        let low = says.from_on in
        found_first reply from (rows_of l - from) id low (omega arith) (is_reply id (point_quiet l keeper keeper' olds news h h' n c old new a (HasReply l root id) says.waits quiet))
        (λ i more less. no_reply (λ j. (from ≤ j) × (j < id)) says.before i (more, less))

    no_replies : AllKilled l root (λ i. from ≤ i) old new → next_reply_of (was l keeper keeper' olds news h h' n c old new a) root from ≡ None
    no_replies killed = found_none reply from (rows_of l - from) (λ i low high. no_reply (λ j. from ≤ j) killed i low)

  module _ (from : ℕ) where
    abbrev error : ℕ → Bool
    error i = error_found (status i) (element_of h i)

    no_error : (Ids : ℕ → Type 0) → NoneParked l Ids old new → (i : ℕ) → Ids i → error i ≡ false
    no_error Ids none i in_ids = not_true (error i) (λ is.
        let t = error_is (status i) (element_of h i) is in
        let at : (t.0).id ≡ i = element_of-id h i t.0 t.1 in
        let not = point_quiet l keeper keeper' olds news h h' n c old new a (λ g. ¬ IsParked (status_of l.attempts g (t.0).id)) (none t.0 (born_open i t.0 t.1) (subst Ids (sym at) in_ids)) quiet in
        not (subst (λ j. IsParked (status j)) (sym at) t.2))

    is_error : (id : ℕ) → HasError l id h → error id ≡ true
    is_error id has = ap (error_found (status id)) has.1 ∙ ap is_parked has.2.1

    errors : (id : ℕ) → id < rows_of l → NextError l from id old new → next_error_of (was l keeper keeper' olds news h h' n c old new a) from ≡ Some id
    errors id inside says =
        let low = says.from_on in
        found_first error from (rows_of l - from) id low (omega arith) (is_error id (point_quiet l keeper keeper' olds news h h' n c old new a (HasError l id) says.parked quiet))
        (λ i more less. no_error (λ j. (from ≤ j) × (j < id)) says.before i (more, less))

    no_errors : NoneParked l (λ i. from ≤ i) old new → next_error_of (was l keeper keeper' olds news h h' n c old new a) from ≡ None
    no_errors none = found_none error from (rows_of l - from) (λ i low high. no_error (λ j. from ≤ j) none i low)

pub alone_reply : AloneReply
alone_reply root from l keeper keeper' olds news h h' n c old new None a turn says =
    let s : State = was l keeper keeper' olds news h h' n c old new a in
    both None (next_reply_of s root from) (thread_of l news h') s (sym (no_replies l keeper keeper' olds news h h' n c old new a says.0 root from says.2)) (quiet_leaves l keeper keeper' olds news h h' n c old new a turn says.0)
alone_reply root from l keeper keeper' olds news h h' n c old new (Some id) a turn says =
    let s : State = was l keeper keeper' olds news h h' n c old new a in
    both (Some id) (next_reply_of s root from) (thread_of l news h') s (sym (replies l keeper keeper' olds news h h' n c old new a says.0 root from id says.1 says.2)) (quiet_leaves l keeper keeper' olds news h h' n c old new a turn says.0)

pub alone_error : AloneError
alone_error from l keeper keeper' olds news h h' n c old new None a turn says =
    let s : State = was l keeper keeper' olds news h h' n c old new a in
    both None (next_error_of s from) (thread_of l news h') s (sym (no_errors l keeper keeper' olds news h h' n c old new a says.0 from says.2)) (quiet_leaves l keeper keeper' olds news h h' n c old new a turn says.0)
alone_error from l keeper keeper' olds news h h' n c old new (Some id) a turn says =
    let s : State = was l keeper keeper' olds news h h' n c old new a in
    both (Some id) (next_error_of s from) (thread_of l news h') s (sym (errors l keeper keeper' olds news h h' n c old new a says.0 from id says.1 says.2)) (quiet_leaves l keeper keeper' olds news h h' n c old new a turn says.0)
