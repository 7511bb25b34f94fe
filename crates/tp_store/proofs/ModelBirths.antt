-- The births of the model that calls are.
use Rattle.std.proofs.Common.{◌≡◌, ◌≢◌, ◌⊎◌, inl, inr, ◌==◌, ◌≤◌, ◌<◌, ◌+◌, ◌*◌, ℕ, zero, suc, Bool, true, false, cond, Option, Some, List, [], ◌∷◌, ◌++◌, length, slice_get, refl, sym, ◌∙◌, ap, subst, arith}
use Rattle.std.specs.List.{AllByRecursion, find}
use Rattle.std.proofs.lemmas.Bool.Decides.{nat_tests}
use Rattle.tp_model.specs.Drafts.{DraftView}
use Rattle.tp_model.specs.History.{births, element_of, first_id, UnitClaim}
use Rattle.tp_model.specs.Steps.{AreOutputs, IsBody, IsOpen, MayCommit, MayEnqueue}
use Rattle.tp_model.specs.declared.event.Event.{Event}
use Rattle.tp_model.specs.declared.event.Event.TheVariants as event
use Rattle.tp_model.specs.declared.types.Element.{Element as ModelElement}
use Rattle.tp_model.specs.declared.types.Limits.{Limits as ModelLimits}
use Rattle.tp_model.specs.declared.types.TheConstants.{MAX_OUTPUTS}
use Rattle.tp_model.proofs.Lists.{if_other, if_same}
use Rattle.tp_model.proofs.Later.{claims_inside}
use Rattle.tp_store.specs.declared.births.Origin.{Origin}
use Rattle.tp_store.specs.declared.element.Element.{Element}
use Rattle.tp_store.specs.declared.element.Status.TheVariants.{Held, Consumed}
use Rattle.tp_store.specs.declared.element.TheConstants.{REPLY_STAGE}
use Rattle.tp_store.specs.Calls.{is_server_stage, of_client, of_unit}
use Rattle.tp_store.specs.Elements.{element_at, put, standing}
use Rattle.tp_store.specs.Modelled.{as_element, as_status, HasRoom, outputs, part_of, row}
use Rattle.tp_store.specs.Soundness.{IsSound}
use Rattle.tp_store.specs.State.{State, made, with_births, with_change}
use Rattle.tp_store.proofs.Changing.{all_found, index_below}
use Rattle.tp_store.proofs.Knowing.{Advances, fresh_row, held_open, IsBornIn, IsIn, IsNext, Knows, knows_step}
use Rattle.tp_store.proofs.Looking.{put_looks}
use Rattle.tp_store.proofs.Telling.{not_committed, one_held, server_stage, some_stage}

as_number : (m n : ℕ) → (m == n) ≡ true → m ≡ n
as_number m n h = grind (arith, nat_tests)

apart : (m n : ℕ) → (m == n) ≡ false → m ≢ n
apart m n h e = absurd (grind (arith, nat_tests))

-- a pass has one unit
own_pass : (units c u : ℕ) → units ≡ 1 → c * units ≤ u → u < c * units + units → c ≡ u
own_pass units c u one low high = let a = rw one at low in let b = rw one at high in omega arith

-- ---- the outputs, one by one

module _ (rows : ℕ) (from : Origin) where
  pub outputs_there : (id : ℕ) (ds : List DraftView) (n : ℕ) (d : DraftView) → slice_get ds n ≡ Some d → find (λ (y : ModelElement). y.id == row rows from.by (id + n)) (outputs rows id from ds) ≡ Some (as_element rows (id + n) (made from d))
  outputs_there id [] n d at = absurd (let low = index_below [] n d at in omega arith)
  outputs_there id (x ∷ ds) zero d at = if_same (row rows from.by id) (row rows from.by (id + 0)) _ _ (ap (row rows from.by) same) ∙ ap Some (ap (λ i. as_element rows i (made from x)) same ∙ ap (λ (y : DraftView). as_element rows (id + 0) (made from y)) that)
    where
      same : id ≡ id + 0
      same = omega arith

      that : x ≡ d
      that = let h : Some x ≡ Some d = at in cc
  outputs_there id (x ∷ ds) (suc n) d at = if_other (row rows from.by id) (row rows from.by (id + suc n)) _ _ (λ e. omega arith) ∙ subst (λ i. find (λ (y : ModelElement). y.id == row rows from.by i) (outputs rows (id + 1) from ds) ≡ Some (as_element rows i (made from d))) (omega arith) (outputs_there (id + 1) ds n d at)

  pub outputs_found : (id : ℕ) (ds : List DraftView) (i : ℕ) (x : ModelElement) → find (λ (y : ModelElement). y.id == i) (outputs rows id from ds) ≡ Some x → (n : ℕ) × (n < length ds) × (i ≡ part_of from.by * rows + (id + n))
  outputs_found id [] i x h = absurd cc
  outputs_found id (d ∷ ds) i x h = go (λ g. outputs_found (id + 1) ds i x g) (row rows from.by id == i) refl h
    where
      go : (find (λ (y : ModelElement). y.id == i) (outputs rows (id + 1) from ds) ≡ Some x → (n : ℕ) × (n < length ds) × (i ≡ part_of from.by * rows + ((id + 1) + n))) → (b : Bool) → (row rows from.by id == i) ≡ b → cond b (Some (as_element rows id (made from d))) (find (λ (y : ModelElement). y.id == i) (outputs rows (id + 1) from ds)) ≡ Some x → (n : ℕ) × (n < length (d ∷ ds)) × (i ≡ part_of from.by * rows + (id + n))
      go on true here same = let place = as_number (row rows from.by id) i here in (0, omega arith, omega arith)
      go on false here same = let r = on same in let low = r.1 in let place = r.2 in (r.0 + 1, omega arith, omega arith)

  length_outputs : (id : ℕ) (ds : List DraftView) → length (outputs rows id from ds) ≡ length ds
  length_outputs id [] = refl
  length_outputs id (d ∷ ds) = let more = length_outputs (id + 1) ds in omega arith

all_at : (P : DraftView → Type 0) (ds : List DraftView) (n : ℕ) (d : DraftView) → AllByRecursion P ds → slice_get ds n ≡ Some d → P d
all_at P [] n d all at = absurd (let low = index_below [] n d at in omega arith)
all_at P (x ∷ ds) zero d all at = subst P (let h : Some x ≡ Some d = at in cc) all.0
all_at P (x ∷ ds) (suc n) d all at = all_at P ds n d all.1 at

module _ (l : ModelLimits) (h : List Event) (s : State) (sound : IsSound s) (room : HasRoom l s) (k : Knows l h s) where
  -- the birth of one element, in the row of the next id
  new_born : (ev : Event) (from : Origin) (ds : List DraftView) (n : ℕ) (d : DraftView) → s.next + length ds ≤ l.rows → slice_get ds n ≡ Some d → 1 ≤ d.stage
      → find (λ (y : ModelElement). y.id == row l.rows from.by (s.next + n)) (births ev) ≡ Some (as_element l.rows (s.next + n) (made from d)) → IsBornIn l h ev (s.next + n) (made from d)
  new_born ev from ds n d fits at stage born = record {
    unborn = fresh_row l h s k (part_of from.by) (s.next + n) room.rows (omega arith) (let low = index_below ds n d at in omega arith);
    born = born;
    waits = refl;
    rounds = refl;
    stage = stage;
  }

  -- ---- a submit

  pub knows_submitted : (stage : ℕ) (body : List ℕ) (owner : Option ℕ) → is_server_stage stage ≡ true → IsBody body → s.next + 1 ≤ l.rows
      → Knows l (h ++ event.Enqueue 0 (as_element l.rows s.next (made (of_client s.next owner) (record { stage = stage; body = body }))) ∷ []) (with_births (of_client s.next owner) (record { stage = stage; body = body } ∷ []) s)
  knows_submitted stage body owner server whole fits = knows_step l h s k ev may t (omega arith) (omega arith) (λ q e found. go q e (all_found from s.next ds s.elements q e found)) born (λ v high. refl)
    where
      from : Origin
      from = of_client s.next owner

      d : DraftView
      d = record { stage = stage; body = body }

      ds : List DraftView
      ds = d ∷ []

      t : State
      t = with_births from ds s

      x : ModelElement
      x = as_element l.rows s.next (made from d)

      ev : Event
      ev = event.Enqueue 0 x

      stages : (n : ℕ) → is_server_stage n ≡ true → (1 ≤ n) × (n ≢ REPLY_STAGE)
      stages n server = (grind (arith, nat_tests), λ same. absurd (grind (arith, nat_tests)))

      may : MayEnqueue l h 0 x
      may = record {
        row = inl (let parts = room.parts in omega arith, omega arith, omega arith);
        unborn = fresh_row l h s k 0 s.next room.rows (omega arith) (omega arith);
        stage = server_stage stage (stages stage server).0 (stages stage server).1;
        body = whole;
        root = omega arith;
        by = refl;
      }

      go : (q : ℕ) (e : Element) → (element_at q s.elements ≡ Some e) ⊎ ((n : ℕ) × (d : DraftView) × (slice_get ds n ≡ Some d) × (q ≡ s.next + n) × (e ≡ made from d)) → Advances l h ev s q e
      go q e (inl was) = inl (e, was, record { contents = refl; status = refl; rounds = refl })
      go q e (inr (n, c, at, place, is)) = inr (rw (is, place) (new_born ev from ds n c fits at (low n c at) (outputs_there l.rows from s.next ds n c at)))
        where
          low : (n : ℕ) (c : DraftView) → slice_get ds n ≡ Some c → 1 ≤ c.stage
          low n c at = all_at (λ y. 1 ≤ y.stage) ds n c ((stages stage server).0, tt) at

      born : (i : ℕ) (y : ModelElement) → find (λ (y : ModelElement). y.id == i) (births ev) ≡ Some y → IsIn l.rows t.next i
      born i y is = let f = outputs_found l.rows from s.next ds i y is in record { part = 0; id = s.next + f.0; place = f.2; low = let low = f.1 in omega arith }

  -- ---- a commit

  module _ (id unit n : ℕ) (e : Element) (ds : List DraftView) (found : element_at id s.elements ≡ Some e) (held : e.status ≡ Held unit n) (server : e.stage ≢ REPLY_STAGE) (few : length ds ≤ MAX_OUTPUTS) (whole : AllByRecursion (λ d. (1 ≤ d.stage) × IsBody d.body) ds) (fits : s.next + length ds ≤ l.rows) (parts : unit + 1 < l.parts) where
    from : Origin
    from = of_unit unit e

    -- outputs from an id on
    may_outputs : (i : ℕ) (cs : List DraftView) → AllByRecursion (λ d. (1 ≤ d.stage) × IsBody d.body) cs → s.next ≤ i → i + length cs ≤ l.rows → (place : ℕ) → place ≡ (unit + 1) * l.rows + i
        → AreOutputs l h (unit + 1) (unit + 1) e.root place (outputs l.rows i (of_unit unit e) cs)
    may_outputs i [] whole low high place is = tt
    may_outputs i (d ∷ cs) whole low high place is = (
      record {
        place = sym is;
        row = inl (parts, omega arith, omega arith);
        unborn = rw is (fresh_row l h s k (unit + 1) i room.rows low (omega arith));
        stage = some_stage d.stage whole.0.0;
        body = whole.0.1;
        by = refl;
        root_is = refl;
      },
      may_outputs (i + 1) cs whole.1 (omega arith) (omega arith) (place + 1) (omega arith),
    )

    first_outputs : (cs : List DraftView) → AllByRecursion (λ d. (1 ≤ d.stage) × IsBody d.body) cs → s.next + length cs ≤ l.rows → AreOutputs l h (unit + 1) (unit + 1) e.root (first_id (outputs l.rows s.next (of_unit unit e) cs)) (outputs l.rows s.next (of_unit unit e) cs)
    first_outputs [] whole high = tt
    first_outputs (d ∷ cs) whole high = may_outputs s.next (d ∷ cs) whole (omega arith) high (row l.rows (Some unit) s.next) refl

    taking : (t : UnitClaim) × IsOpen h (unit + 1) t × (t.item ≡ row l.rows e.by id)
    taking = held_open l h k.legal (row l.rows e.by id) (unit + 1) n ((k.tells id e found).status ∙ ap (as_status e.stage) held)

    may_commit : MayCommit l h (unit + 1) (unit + 1) (outputs l.rows s.next (of_unit unit e) ds)
    may_commit = record {
      taking = taking.0;
      open_unit = taking.1;
      own = own;
      item = as_element l.rows id e;
      taken = ap (element_of h) taking.2 ∙ (k.tells id e found).contents;
      few = rw (length_outputs l.rows (of_unit unit e) s.next ds) few;
      outputs = first_outputs ds whole fits;
    }
      where
        own : taking.0.pass ≡ unit + 1
        own = let inside = claims_inside l h k.legal (unit + 1) taking.0 taking.1.claimed in own_pass l.units taking.0.pass (unit + 1) room.units inside.1 inside.2

    pub knows_committed : Knows l (h ++ event.Commit (unit + 1) (unit + 1) (outputs l.rows s.next (of_unit unit e) ds) ∷ []) (with_change id e (standing (Consumed unit) e) (with_births (of_unit unit e) ds s))
    knows_committed = knows_step l h s k ev may_commit t (omega arith) (omega arith) (λ q d there. at_id q d there (id == q) refl) born (λ v high. refl)
      where
        ev : Event
        ev = event.Commit (unit + 1) (unit + 1) (outputs l.rows s.next (of_unit unit e) ds)

        b : State
        b = with_births (of_unit unit e) ds s

        new : Element
        new = standing (Consumed unit) e

        t : State
        t = with_change id e new b

        not_number : (m n : ℕ) → m ≢ n → (m == n) ≡ false
        not_number m n h = grind (arith, nat_tests)

        here : IsNext l ev id e new
        here = record { contents = refl; status = rw (held, not_number e.stage REPLY_STAGE server) (if_same (unit + 1) (unit + 1) _ _ refl); rounds = refl }

        others : (q : ℕ) (d : Element) → id ≢ q → (element_at q s.elements ≡ Some d) ⊎ ((n : ℕ) × (c : DraftView) × (slice_get ds n ≡ Some c) × (q ≡ s.next + n) × (d ≡ made (of_unit unit e) c)) → Advances l h ev s q d
        others q d other (inl was) = inl (d, was, record { contents = refl; status = not_committed (unit + 1) (as_status d.stage d.status) (one_held l h s sound room k id q unit n e d found was held other); rounds = refl })
        others q d other (inr (m, c, at, place, is)) = inr (rw (is, place) (new_born ev (of_unit unit e) ds m c fits at (all_at (λ d. (1 ≤ d.stage) × IsBody d.body) ds m c whole at).0 (outputs_there l.rows (of_unit unit e) s.next ds m c at)))

        at_id : (q : ℕ) (d : Element) → element_at q (put id new b.elements) ≡ Some d → (c : Bool) → (id == q) ≡ c → Advances l h ev s q d
        at_id q d there true h =
            let place = as_number id q h in
            let both : Some new ≡ Some d = sym (put_looks id new b.elements q ∙ rw h refl) ∙ there in
            let same : new ≡ d = cc in
            inl (e, subst (λ i. element_at i s.elements ≡ Some e) place found, subst (λ i. IsNext l ev i e d) place (subst (IsNext l ev id e) same here))
        at_id q d there false h = others q d (apart id q h) (all_found (of_unit unit e) s.next ds s.elements q d (sym (put_looks id new b.elements q ∙ rw h refl) ∙ there))

        born : (i : ℕ) (y : ModelElement) → find (λ (y : ModelElement). y.id == i) (births ev) ≡ Some y → IsIn l.rows t.next i
        born i y is = let f = outputs_found l.rows (of_unit unit e) s.next ds i y is in record { part = unit + 1; id = s.next + f.0; place = f.2; low = let low = f.1 in omega arith }
