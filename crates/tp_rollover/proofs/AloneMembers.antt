-- The next element of a request, and the next reply that is collected, where nobody else acts.
use Rattle.std.proofs.Common.{◌≡◌, ◌≢◌, ◌⊎◌, ℕ, ◌-◌, ◌<◌, ◌==◌, ◌&&◌, Bool, true, false, Option, Some, None, List, [], ◌∷◌, ◌++◌, Ok, refl, sym, ◌∙◌, ap, subst, ⊎_elim, arith}
use Rattle.std.specs.Option.{option_and_then}
use Rattle.std.specs.Result.{result_ok}
use Rattle.std.proofs.lemmas.Bool.{and_from, eq-eqb, eqb-true}
use Rattle.tp_model.specs.declared.types.Element.{Element}
use Rattle.tp_model.specs.declared.types.Limits.{Limits}
use Rattle.tp_model.specs.declared.types.Look.{Look}
use Rattle.tp_model.specs.declared.types.Status.{Status}
use Rattle.tp_model.specs.declared.types.Status.TheVariants.{Waiting, Killed}
use Rattle.tp_model.specs.declared.event.Event.{Event}
use Rattle.tp_model.specs.declared.event.Event.TheVariants.{Kill}
use Rattle.tp_model.specs.Counts.{is_waiting}
use Rattle.tp_model.specs.History.{element_of, status_of}
use Rattle.tp_model.specs.Steps.{IsKillable, Step, rows_of}
use Rattle.tp_model.proofs.Bridges.{element_of-id, found_later, is_born}
use Rattle.tp_model.proofs.Histories.{status_of-snoc}
use Rattle.tp_model.proofs.Later.{births_inside}
use Rattle.tp_model.proofs.Lists.{if_other}
use Rattle.tp_model.proofs.Replies.{reply_stands}
use Rattle.tp_plain.specs.Computed.{collect_next_found, collect_next_of, collect_of, family_of, read_of}
use Rattle.tp_plain.specs.Listings.{member_found, next_member_of, next_reply_of, reply_found}
use Rattle.tp_plain.specs.OneThread.{State}
use Rattle.tp_plain.proofs.Computations.{read_shows}
use Rattle.tp_manager.specs.Calls.{IsLook, IsQuiet, opening}
use Rattle.tp_manager.specs.Lists.{CollectsNext, NextOfFamily, NoneOfFamily}
use Rattle.tp_manager.specs.Shown.{KeeperShown, PassShown}
use Rattle.tp_rollover.specs.Thread.{Alone, thread_of}
use Rattle.tp_rollover.specs.AloneLaws.{AloneCollectNext, AloneFamily}
use Rattle.tp_rollover.proofs.AloneApart.{end_is, number_is, seen_is}
use Rattle.tp_rollover.proofs.AloneLists.{born_open, found_first, found_none, no_reply, not_true, reply_is}
use Rattle.tp_rollover.proofs.AlonePoints.{opens, point_one, point_quiet}
use Rattle.tp_rollover.proofs.AloneReleases.{alone_collect}
use Rattle.tp_rollover.proofs.AloneSubmits.{both}
use Rattle.tp_rollover.proofs.AloneThreads.{quiet_leaves, step_of, was}

member_is : (root : ℕ) (o : Option Element) → member_found root o ≡ true → (x : Element) × (o ≡ Some x) × (x.root ≡ root)
member_is root None is = absurd cc
member_is root (Some x) is = (x, refl, eqb-true x.root root is)

reply_so : (root : ℕ) (st : Status) (x : Element) → x.stage ≡ 15 → x.root ≡ root → is_waiting st ≡ true → reply_found root st (Some x) ≡ true
reply_so root st x stage same waits = and_from (x.stage == 15) ((x.root == root) && is_waiting st) (eq-eqb x.stage 15 stage) (and_from (x.root == root) (is_waiting st) (eq-eqb x.root root same) waits)

module _ (l : Limits) (keeper keeper' : KeeperShown) (olds news : List PassShown) (h h' : List Event) (n c : ℕ) (old new : PassShown) (a : Alone l keeper keeper' olds news h h' n c old new) where
  abbrev before : State
  before = was l keeper keeper' olds news h h' n c old new a

  abbrev status : ℕ → Status
  status i = status_of l.attempts h i

  -- where the next element is

  module _ (quiet : IsQuiet old new) (root from : ℕ) where
    abbrev member : ℕ → Bool
    member i = member_found root (element_of h i)

    followed : (look : Look) → NextOfFamily l root from look old new → family_of before root from ≡ Some look
    followed look says =
        let id = look.element.id in
        let at = point_quiet l keeper keeper' olds news h h' n c old new a (IsLook l id look) says.looks quiet in
        let inside : id < rows_of l = births_inside l h a.before.legal look.element (is_born h id look.element at.0) in
        let low = says.from_on in
        let is : member id ≡ true = ap (member_found root) at.0 ∙ eq-eqb look.element.root root says.root_is in
        let next : next_member_of before root from ≡ Some id = found_first member from (rows_of l - from) id low (omega arith) is
        (λ i more less. not_true (member i) (λ yes_is.
        let t = member_is root (element_of h i) yes_is in
        let same : (t.0).id ≡ i = element_of-id h i t.0 t.1 in
        let least = says.least t.0 (born_open l keeper keeper' olds news h h' n c old new a quiet i t.0 t.1) t.2 (omega arith) in
        omega arith)) in
        ap (option_and_then (λ i. result_ok (read_of before i))) next ∙ ap (result_ok) (read_shows before id look at.0 at.1)

    followed_none : NoneOfFamily root from old new → family_of before root from ≡ None
    followed_none none =
        let next : next_member_of before root from ≡ None = found_none member from (rows_of l - from)
        (λ i low high. not_true (member i) (λ yes_is.
        let t = member_is root (element_of h i) yes_is in
        let same : (t.0).id ≡ i = element_of-id h i t.0 t.1 in
        none t.0 (born_open l keeper keeper' olds news h h' n c old new a quiet i t.0 t.1) t.2 (omega arith))) in
        ap (option_and_then (λ i. result_ok (read_of before i))) next

  -- the next reply

  module _ (turn : new.from ≡ old.from) (root : ℕ) where
    abbrev reply : ℕ → Bool
    reply i = reply_found root (status i) (element_of h i)

    killable_waits : (st : Status) → IsKillable st → (st ≡ Waiting 0) ⊎ (st ≡ Killed) → is_waiting st ≡ true
    killable_waits st may stands = ⊎_elim (λ waits. ap is_waiting waits) (λ killed. absurd (subst IsKillable killed may)) stands

    module _ (x : Element) (says : CollectsNext l root x old new) where
      made : new.mine ≡ old.mine ++ Kill c x.id ∷ []
      made = says.collects.adds.mine ∙ ap (λ d. old.mine ++ Kill d x.id ∷ []) (number_is l keeper keeper' olds news h h' n c old new a)

      one : (Ok x, thread_of l news h') ≡ collect_of before c x.id
      one = alone_collect x.id l keeper keeper' olds news h h' n c old new (Ok x) a turn says.collects

      step : Step l h (Kill c x.id)
      step = step_of l keeper keeper' olds news h h' n c old new a (Kill c x.id) (end_is l keeper keeper' olds news h h' n c old new a (Kill c x.id ∷ []) made)

      born : element_of h x.id ≡ Some x
      born =
          let seen = seen_is l keeper keeper' olds news h h' n c old new a (Kill c x.id ∷ []) made in
          let now : element_of (h ++ Kill c x.id ∷ []) x.id ≡ Some x = ap (λ z. element_of z x.id) (sym seen) ∙ says.collects.is_born in
          let kept : element_of (h ++ Kill c x.id ∷ []) x.id ≡ Some step.item = found_later h (h ++ Kill c x.id ∷ []) (Kill c x.id ∷ [], refl) x.id step.item step.born in
          step.born ∙ (sym kept ∙ now)

      is : reply x.id ≡ true
      is = ap (reply_found root (status x.id)) born
          ∙ reply_so root (status x.id) x says.collects.is_reply says.root_is
          (killable_waits (status x.id) step.free (reply_stands l h a.before.legal x.id x born says.collects.is_reply))

      -- each lesser one was killed before
      lesser : (i : ℕ) → i < x.id → reply i ≡ false
      lesser i less = not_true (reply i) (λ yes_is.
          let t = reply_is root (status i) (element_of h i) yes_is in
          let at : (t.0).id ≡ i = element_of-id h i t.0 t.1 in
          let opened = found_later h (opening old new) (opens l keeper keeper' olds news h h' n c old new a) (t.0).id t.0 (ap (element_of h) at ∙ t.1) in
          let killed = says.before t.0 opened (t.2, t.3) (omega arith) in
          let apart : x.id ≢ (t.0).id = λ same. omega arith in
          let gone : status (t.0).id ≡ Killed = ⊎_elim (λ p. p)
          (λ p. sym (status_of-snoc l.attempts h (Kill c x.id) (t.0).id ∙ if_other x.id (t.0).id Killed (status (t.0).id) apart) ∙ p)
          (point_one l keeper keeper' olds news h h' n c old new a (λ g. status_of l.attempts g (t.0).id ≡ Killed) killed (Kill c x.id) made) in
          let clash : Waiting t.4.0 ≡ Killed = sym t.4.1 ∙ (ap status (sym at) ∙ gone) in
          cc)

      collected : (Some x, thread_of l news h') ≡ collect_next_of before c root
      collected =
          let inside : x.id < rows_of l = births_inside l h a.before.legal x (is_born h x.id x born) in
          let next : next_reply_of before root 0 ≡ Some x.id = found_first reply 0 (rows_of l - 0) x.id (omega arith) (omega arith) is (λ i low less. lesser i less) in
          ap (λ t. (result_ok t.0, t.1)) one ∙ sym (ap (collect_next_found before c) next)

pub alone_family : AloneFamily
alone_family root from l keeper keeper' olds news h h' n c old new None a turn says =
    let s : State = was l keeper keeper' olds news h h' n c old new a in
    both None (family_of s root from) (thread_of l news h') s (sym (followed_none l keeper keeper' olds news h h' n c old new a says.0 root from says.1)) (quiet_leaves l keeper keeper' olds news h h' n c old new a turn says.0)
alone_family root from l keeper keeper' olds news h h' n c old new (Some look) a turn says =
    let s : State = was l keeper keeper' olds news h h' n c old new a in
    both (Some look) (family_of s root from) (thread_of l news h') s (sym (followed l keeper keeper' olds news h h' n c old new a says.0 root from look says.1)) (quiet_leaves l keeper keeper' olds news h h' n c old new a turn says.0)

pub alone_collect_next : AloneCollectNext
alone_collect_next root l keeper keeper' olds news h h' n c old new None a turn says =
    let s : State = was l keeper keeper' olds news h h' n c old new a in
    let none : next_reply_of s root 0 ≡ None = found_none (λ i. reply_found root (status_of l.attempts h i) (element_of h i)) 0 (rows_of l - 0)
    (λ i low high. no_reply l keeper keeper' olds news h h' n c old new a says.0 root 0 (λ j. Unit {0}) says.1 i tt) in
    ap (λ t. (None, t)) (quiet_leaves l keeper keeper' olds news h h' n c old new a turn says.0) ∙ sym (ap (collect_next_found s c) none)
alone_collect_next root l keeper keeper' olds news h h' n c old new (Some x) a turn says = collected l keeper keeper' olds news h h' n c old new a turn root x says
