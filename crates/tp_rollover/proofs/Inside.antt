-- What a claim leaves in hand, and where what is born lies.
use Rattle.std.proofs.Common.{◌≡◌, ℕ, ◌+◌, ◌<◌, ◌≤◌, ◌==◌, cond, if◌then◌else◌, is_none, is_some, nat_lt, IsSome, Bool, true, false, Option, Some, None, Ok, Err, List, [], ◌∷◌, ◌++◌, inl, inr, length, refl, sym, ◌∙◌, ap, subst, arith}
use Rattle.std.proofs.lemmas.Bool.Decides.{eqb_tells}
use Rattle.std.proofs.lemmas.List.{get_or-set_same}
use Rattle.tp_model.specs.Births.{outputs, request}
use Rattle.tp_model.specs.Drafts.{DraftView}
use Rattle.tp_model.specs.declared.types.Element.{Element}
use Rattle.tp_model.specs.declared.types.Limits.{Limits}
use Rattle.tp_model.specs.declared.types.Look.{Look}
use Rattle.tp_model.specs.declared.types.Outcome.TheVariants as outcome
use Rattle.tp_model.specs.declared.types.Refusal.TheVariants as refusal
use Rattle.tp_model.specs.declared.types.Status.{Status}
use Rattle.tp_model.specs.declared.types.Status.TheVariants.{Waiting, Held, Consumed, Parked, Killed}
use Rattle.tp_model.specs.declared.types.Work.{Work}
use Rattle.tp_model.specs.declared.event.Event.{Event}
use Rattle.tp_model.specs.declared.event.Event.TheVariants.{Commit, Enqueue}
use Rattle.tp_model.specs.History.{Aborted, Committed, In, UnitEnd, births, end_of, here, element_of, pass_of, there}
use Rattle.tp_model.specs.Steps.{IsLegal, rows_of}
use Rattle.tp_model.proofs.Areas.{use_inside}
use Rattle.tp_model.proofs.Bridges.{births_of}
use Rattle.tp_model.proofs.Histories.{legal_at}
use Rattle.tp_plain.specs.Computed.{abort_of, claim_id_at, claim_id_found, claim_id_of, commit_at, commit_of, has_room, is_server_stage, unit_in_hand, with_claimed, with_request, work_on}
use Rattle.tp_plain.specs.OneThread.{State, made_of, first_row, no_pass, pass_at, having_taken}
use Rattle.tp_plain.specs.declared.pass_state.PassState.{PassState}
use Rattle.tp_rollover.specs.Anew.{first_given, given, if_free, submitted}

-- ---- a claim leaves a unit in hand

module _ (s t : State) (c i : ℕ) (w : Work) (inside : c < length s.passes) where
  busy_at : (e : Element) (st : Status) → (Ok w, t) ≡ claim_id_at s c e st → IsSome (pass_at t c).holding
  busy_at e (Waiting n) is =
      let look : Look = record { element = e; status = Waiting n } in
      let used : PassState = having_taken s c (work_on s c look) (pass_at s c).turns in
      let same : t ≡ with_claimed s c look (pass_at s c).turns = ap (λ x. x.1) is in
      let own : pass_at (with_claimed s c look (pass_at s c).turns) c ≡ used = get_or-set_same s.passes c used no_pass inside in
      subst (λ (z : State). IsSome (pass_at z c).holding) (sym same) (subst (λ (p : PassState). IsSome p.holding) (sym own) refl)
  busy_at e (Held u n) is = let q : Ok w ≡ Err refusal.NotWaiting = ap (λ x. x.0) is in absurd cc
  busy_at e (Consumed u) is = let q : Ok w ≡ Err refusal.NotWaiting = ap (λ x. x.0) is in absurd cc
  busy_at e (Parked n) is = let q : Ok w ≡ Err refusal.NotWaiting = ap (λ x. x.0) is in absurd cc
  busy_at e Killed is = let q : Ok w ≡ Err refusal.NotWaiting = ap (λ x. x.0) is in absurd cc

  busy_staged : (e : Element) (st : Status) (b : Bool) → (Ok w, t) ≡ (if b then (Err refusal.BadStage, s) else claim_id_at s c e st) → IsSome (pass_at t c).holding
  busy_staged e st true is = let q : Ok w ≡ Err refusal.BadStage = ap (λ x. x.0) is in absurd cc
  busy_staged e st false is = busy_at e st is

  busy_found : (o : Option Element) → (Ok w, t) ≡ claim_id_found s c i o → IsSome (pass_at t c).holding
  busy_found None is = let q : Ok w ≡ Err refusal.NotThere = ap (λ x. x.0) is in absurd cc
  busy_found (Some e) is = busy_staged e _ (e.stage == 15) is

  busy_tried : (o : Option Element) (b : Bool) → (Ok w, t) ≡ (if b then claim_id_found s c i o else (Err refusal.NoUnit, s)) → IsSome (pass_at t c).holding
  busy_tried o false is = let q : Ok w ≡ Err refusal.NoUnit = ap (λ x. x.0) is in absurd cc
  busy_tried o true is = busy_found o is

  pub claim_busy : (Ok w, t) ≡ claim_id_of s c i → IsSome (pass_at t c).holding
  claim_busy is = busy_tried (element_of s.history i) (nat_lt (pass_at s c).claimed s.limits.units) is

-- ---- a pass that has nothing in hand

module _ {A : Type 0} (s : State) (c : ℕ) (made : Option A) where
  taken_some : (o : Option ℕ) → is_some o ≡ true → (if is_none o then made else None) ≡ None
  taken_some None some = absurd cc
  taken_some (Some u) some = refl

pub is_nothing : (o : Option ℕ) → is_some o ≡ false → o ≡ None
is_nothing None is = refl
is_nothing (Some u) is = absurd cc

-- ---- what is born lies in a row

module _ (l : Limits) where
  births_below : (h : List Event) (e : Event) (x : Element) → IsLegal l (h ++ e ∷ []) → In x (births e) → x.id < rows_of l
  births_below h e x legal p = use_inside l h (pass_of e) x.id (births_of l h e x (legal_at l h e [] legal) p).0

  module _ (s t : State) (c stage : ℕ) (body : List ℕ) (id : ℕ) where
    same_id : (x y : ℕ × State) → Some x ≡ Some y → x ≡ y
    same_id x y e = cc

    abbrev made : ℕ × State
    made = (first_row s c 1, with_request s c stage body)

    abbrev got : ℕ × State
    got = (id, t)

    request_below : IsLegal l t.history → got ≡ made → id < rows_of l
    request_below legal is =
        let legal' = subst (λ (x : State). IsLegal l x.history) (ap (λ (x : ℕ × State). x.1) is) legal in
        subst (λ n. n < rows_of l) (sym (ap (λ (x : ℕ × State). x.0) is)) (births_below s.history (Enqueue c (request (first_row s c 1) stage body)) (request (first_row s c 1) stage body) legal' here)

    pub submitted_below : IsLegal l t.history → submitted c stage body s ≡ Some (id, t) → id < rows_of l
    submitted_below legal e = go (is_server_stage stage) (has_room s c 1) e
      where
        go : (a b : Bool) → given (cond a (cond b (Ok (first_row s c 1), with_request s c stage body) (Err refusal.Full, s)) (Err refusal.BadStage, s)) ≡ Some (id, t) → id < rows_of l
        go true true e = request_below legal (sym (same_id made got e))
        go true false e = absurd cc
        go false b e = absurd cc

  last_output : (u root row : ℕ) (d : DraftView) (ds : List DraftView) → (x : Element) × In x (outputs u root row (d ∷ ds)) × (x.id + 1 ≡ row + length (d ∷ ds))
  last_output u root row d [] = (record { id = row; stage = d.stage; root = root; body = d.body; by = Some u }, here, refl)
  last_output u root row d (e ∷ ds) = let t = last_output u root (row + 1) e ds in let same = t.2 in (t.0, there t.1, omega (arith, same))

  module _ (s t : State) (c : ℕ) (drafts : List DraftView) (first : ℕ) (legal : IsLegal l t.history) (some : 1 ≤ length drafts) where
    outputs_below : (u : ℕ) (ds : List DraftView) → ds ≡ drafts → (before : List Event) (root row : ℕ) → IsLegal l (before ++ Commit c u (outputs u root row ds) ∷ []) → row + length drafts ≤ rows_of l
    outputs_below u [] same before root row legal' = let e = ap length same in absurd (omega (arith, e, some))
    outputs_below u (d ∷ ds) same before root row legal' =
        let x = last_output u root row d ds in
        let e = ap length same in
        let at = x.2 in
        let below = births_below before (Commit c u (outputs u root row (d ∷ ds))) x.0 legal' x.1 in
        omega (arith, e, at, below)

    same_given : (x y : ℕ × State) → Some x ≡ Some y → x ≡ y
    same_given x y e = cc

    abbrev row : ℕ
    row = first_row s c (length drafts)

    row_is : (if length drafts == 0 then 0 else row) ≡ row
    row_is = elim (eqb_tells (length drafts) 0) [
      | inl p ↦ let none = p.1 in absurd (omega (arith, none, some))
      | inr p ↦ ap (λ b. if b then 0 else row) p.0
    ]

    abbrev found : ℕ × State
    found = (first, t)

    commit_is : (u : ℕ) (z : State) → z.history ≡ s.history ++ Commit c u (made_of s c u drafts) ∷ []
        → first_given (outcome.Committed (if length drafts == 0 then 0 else row) (length drafts), z) ≡ Some found → first + length drafts ≤ rows_of l
    commit_is u z history e =
        let made : ℕ × State = (if length drafts == 0 then 0 else row, z) in
        let same : made ≡ found = same_given made found e in
        let legal' = subst (λ h. IsLegal l h) (sym (ap (λ (x : ℕ × State). x.1.history) same) ∙ history) legal in
        subst (λ n. n + length drafts ≤ rows_of l) (sym row_is ∙ ap (λ (x : ℕ × State). x.0) same) (outputs_below u drafts refl s.history _ row legal')

    commit_below : (u : ℕ) (o : Option UnitEnd) → first_given (commit_at s c u drafts o) ≡ Some (first, t) → first + length drafts ≤ rows_of l
    commit_below u None e = commit_is u _ refl e
    commit_below u (Some (Committed a b)) e = commit_is u _ refl e
    commit_below u (Some Aborted) e = absurd cc

    pub committed_below : first_given (commit_of s c drafts) ≡ Some (first, t) → first + length drafts ≤ rows_of l
    committed_below e = go (has_room s c (length drafts)) e
      where
        go : (b : Bool) → first_given (if b then commit_at s c (unit_in_hand s c) drafts (end_of s.history (unit_in_hand s c)) else (outcome.Full, (abort_of s c).1)) ≡ Some (first, t) → first + length drafts ≤ rows_of l
        go true e = commit_below (unit_in_hand s c) (end_of s.history (unit_in_hand s c)) e
        go false e = absurd cc
