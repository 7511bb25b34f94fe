-- What a client's calls add to its pass.
use Rattle.std.proofs.Common.{◌≡◌, ℕ, count_by, ◌+◌, ◌<◌, List, [], ◌∷◌, ◌++◌, Result, Ok, Err, inl, inr, refl, sym, ◌∙◌, ap, subst, arith, suc, zero-add, append_assoc, append-nil, length, drop, get_or}
use Rattle.std.proofs.Math.Seq.{drop-cons}
use Rattle.std.proofs.lemmas.List.Elements.{Contains-append_left, Contains-append_right, Contains-push}
use Rattle.tp_model.specs.declared.event.Event.{Event}
use Rattle.tp_model.specs.declared.event.Event.TheVariants.{Enqueue}
use Rattle.tp_model.specs.declared.types.Limits.{Limits}
use Rattle.tp_model.specs.declared.types.Refusal.{Refusal}
use Rattle.tp_manager.specs.Calls.{SubmitRefused}
use Rattle.tp_manager.specs.Shown.{PassShown}
use Rattle.tp_model.specs.Births.{request}
use Rattle.tp_workers.specs.declared.tally.Shift.{Shift}
use Rattle.tp_workers.specs.Calling.{MadeCalls}
use Rattle.tp_workers.specs.Clients.{IsSubmitOf, Submitting, SubmitsFirst, SubmitsOnce, submitting}
use Rattle.tp_workers.specs.Gains.{GainsOnly, enqueues_in, is_enqueue}
use Rattle.tp_workers.specs.Tally.{plus, submit_count, total}
use Rattle.tp_workers.proofs.Calling.{called_gains, called_keeps, called_more, called_total}
use Rattle.tp_workers.proofs.Events.{counted_one}
use Rattle.tp_workers.proofs.Gains.{gains_none, gains_one, gains_then, gains_weaker}

pub one_submit : (r : Result ℕ Refusal) → total (submit_count r) ≡ 1
one_submit (Ok id) = refl
one_submit (Err why) = refl

-- a submit that is refused makes no event
refused_adds_nothing : (stage : ℕ) (p q : PassShown) (why : Refusal) → SubmitRefused stage p q why → q.mine ≡ p.mine
refused_adds_nothing stage p q why (inl no_stage) = ap (λ (s : PassShown). s.mine) no_stage.2
refused_adds_nothing stage p q why (inr full) = ap (λ (s : PassShown). s.mine) full.2.same

module _ (l : Limits) (stage : ℕ) where
  submitted_once : (body : List ℕ) (p : PassShown) (r : Result ℕ Refusal) (q : PassShown) → SubmitsOnce l stage body p r q → (submit_count r).submitted + enqueues_in p ≡ enqueues_in q
  submitted_once body p (Ok id) q h = counted_one is_enqueue p.mine q.mine _ 1 h.told.adds.mine refl
  submitted_once body p (Err why) q h = zero-add (enqueues_in p) ∙ ap (count_by is_enqueue) (sym (refused_adds_nothing stage p q why h.told))

  gained_once : (body : List ℕ) (p : PassShown) (r : Result ℕ Refusal) (q : PassShown) → SubmitsOnce l stage body p r q → GainsOnly (IsSubmitOf stage (body ∷ [])) p q
  gained_once body p (Ok id) q h =
      gains_one (IsSubmitOf stage (body ∷ [])) p q (Enqueue p.number (request id stage body)) h.told.adds.mine (body, Contains-push [] body, p.number, id, refl)
  gained_once body p (Err why) q h = gains_none (IsSubmitOf stage (body ∷ [])) p q (refused_adds_nothing stage p q why h.told)

  -- of the bodies that were left some were submitted, and the pass made Enqueues of these alone
  pub record Did (x y : Submitting) : Type 0 where
    pub bodies : List (List ℕ)
    pub left : x.left ≡ bodies ++ y.left
    pub number : y.pass.number ≡ x.pass.number
    pub open_unit : y.pass.open_unit ≡ x.pass.open_unit
    pub gains : GainsOnly (IsSubmitOf stage bodies) x.pass y.pass

  did_none : (x : Submitting) → Did x x
  did_none x = record { bodies = []; left = refl; number = refl; open_unit = refl; gains = gains_none (IsSubmitOf stage []) x.pass x.pass refl }

  did_then : (x y z : Submitting) → Did x y → Did y z → Did x z
  did_then x y z a b =
      let Both : Event → Type 0 = IsSubmitOf stage (a.bodies ++ b.bodies) in
      let one : GainsOnly Both x.pass y.pass = gains_weaker (IsSubmitOf stage a.bodies) Both x.pass y.pass (λ e is. (is.0, Contains-append_left a.bodies b.bodies is.0 is.1, is.2, is.3, is.4)) a.gains in
      let two : GainsOnly Both y.pass z.pass = gains_weaker (IsSubmitOf stage b.bodies) Both y.pass z.pass (λ e is. (is.0, Contains-append_right a.bodies b.bodies is.0 is.1, is.2, is.3, is.4)) b.gains in
      record {
        bodies = a.bodies ++ b.bodies;
        left = a.left ∙ (ap (λ (xs : List (List ℕ)). a.bodies ++ xs) b.left ∙ sym (append_assoc a.bodies b.bodies z.left));
        number = b.number ∙ a.number;
        open_unit = b.open_unit ∙ a.open_unit;
        gains = gains_then Both x.pass y.pass z.pass one two;
      }

  did_once : (x : Submitting) (r : Result ℕ Refusal) (y : Submitting) → SubmitsFirst l stage x r y → Did x y
  did_once x r y h = record { bodies = h.body ∷ []; left = h.first; number = h.call.follows.number; open_unit = h.call.open_unit; gains = gained_once h.body x.pass r y.pass h.call }

  pub total_submits : (n : ℕ) (x y : Submitting) (s : Shift) → MadeCalls (SubmitsFirst l stage) submit_count n x s y → total s ≡ n
  total_submits n x y s h = called_total (SubmitsFirst l stage) submit_count one_submit n x y s h

  pub submits_counted : (n : ℕ) (x y : Submitting) (s : Shift) → MadeCalls (SubmitsFirst l stage) submit_count n x s y → s.submitted + enqueues_in x.pass ≡ enqueues_in y.pass
  submits_counted n x y s h =
      called_gains (SubmitsFirst l stage) submit_count (λ (c : Shift). c.submitted) (λ (z : Submitting). enqueues_in z.pass) refl (λ a b. refl)
      (λ x r y one. submitted_once one.body x.pass r y.pass one.call) n x y s h

  pub submits_did : (n : ℕ) (x y : Submitting) (s : Shift) → MadeCalls (SubmitsFirst l stage) submit_count n x s y → Did x y
  submits_did n x y s h = called_keeps (SubmitsFirst l stage) submit_count Did did_none did_then did_once n x y s h

  -- all bodies were submitted
  pub submits_gained : (n : ℕ) (bodies : List (List ℕ)) (p q : PassShown) (s : Shift) → MadeCalls (SubmitsFirst l stage) submit_count n (submitting bodies p) s (submitting [] q) → GainsOnly (IsSubmitOf stage bodies) p q
  submits_gained n bodies p q s h =
      let did : Did (submitting bodies p) (submitting [] q) = submits_did n (submitting bodies p) (submitting [] q) s h in
      subst (λ (xs : List (List ℕ)). GainsOnly (IsSubmitOf stage xs) p q) (sym (did.left ∙ append-nil did.bodies)) did.gains

  -- one body more: k of them were submitted, and now the next
  pub submits_more : (bodies : List (List ℕ)) (k : ℕ) (d : List ℕ) (p q q' : PassShown) (r : Result ℕ Refusal) (s t u : Shift) → k < length bodies
      → MadeCalls (SubmitsFirst l stage) submit_count k (submitting bodies p) s (submitting (drop k bodies) q)
      → SubmitsOnce l stage (get_or bodies k d) q r q' → t ≡ submit_count r → u ≡ plus s t
      → MadeCalls (SubmitsFirst l stage) submit_count (k + 1) (submitting bodies p) u (submitting (drop (k + 1) bodies) q')
  submits_more bodies k d p q q' r s t u inside h call is both =
      let after : ◌≡◌ {A = ℕ} (suc k) (k + 1) = omega arith in
      let next : drop k bodies ≡ get_or bodies k d ∷ drop (k + 1) bodies = subst (λ (n : ℕ). drop k bodies ≡ get_or bodies k d ∷ drop n bodies) after (drop-cons bodies k d inside) in
      called_more (SubmitsFirst l stage) submit_count k r (submitting bodies p) (submitting (drop k bodies) q) (submitting (drop (k + 1) bodies) q') s t u h
      (record { body = get_or bodies k d; first = next; call = call }) is both
