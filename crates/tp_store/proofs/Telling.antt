-- The events of the model that calls are, one by one.
use Rattle.std.proofs.Common.{◌≡◌, ◌≢◌, ◌≤◌, ◌<◌, ◌+◌, ℕ, Bool, true, false, nat_lt, nat_le, cond, Option, Some, None, List, [], ◌∷◌, ◌++◌, refl, sym, ◌∙◌, ap, arith}
use Rattle.std.proofs.lemmas.Bool.Decides.{nat_tests}
use Rattle.tp_model.specs.History.{aborted, committed, UnitClaim}
use Rattle.tp_model.specs.Steps.{IsKillable, IsOpen, IsServerStage, IsStage, IsUnitOf, MayAbort, MayClaim, MayKill, MayRequeue}
use Rattle.tp_model.specs.declared.event.Event.{Event}
use Rattle.tp_model.specs.declared.event.Event.TheVariants as event
use Rattle.tp_model.specs.declared.types.Limits.{Limits as ModelLimits}
use Rattle.tp_model.specs.declared.types.Status.{Status as ModelStatus}
use Rattle.tp_model.specs.declared.types.Status.TheVariants as model
use Rattle.tp_model.proofs.Lists.{if_other, if_same}
use Rattle.tp_model.proofs.Later.{claims_inside}
use Rattle.tp_store.specs.declared.element.Element.{Element}
use Rattle.tp_store.specs.declared.element.Status.{Status}
use Rattle.tp_store.specs.declared.element.Status.TheVariants.{Waiting, Held, Parked}
use Rattle.tp_store.specs.declared.element.TheConstants.{MAX_ROUNDS, REPLY_STAGE}
use Rattle.tp_store.specs.Calls.{again, give_up, given_up}
use Rattle.tp_store.specs.Elements.{element_at, standing}
use Rattle.tp_store.specs.Modelled.{as_element, as_stage, as_status, HasRoom, part_of, row}
use Rattle.tp_store.specs.Soundness.{IsSound}
use Rattle.tp_store.specs.State.{State, with_change}
use Rattle.tp_store.proofs.Changing.{with_units}
use Rattle.tp_store.proofs.Knowing.{held_open, Knows, knows_change, rows_apart}

pub server_stage : (stage : ℕ) → 1 ≤ stage → stage ≢ REPLY_STAGE → IsServerStage (as_stage stage)
server_stage stage low server = go (nat_le stage 15) refl
  where
    at_most : (m n : ℕ) → nat_le m n ≡ true → m ≤ n
    at_most m n h = grind (arith, nat_tests)

    go : (b : Bool) → nat_le stage 15 ≡ b → IsServerStage (as_stage stage)
    go true h = let most = at_most stage 15 h in rw h (low, omega arith)
    go false h = rw h (omega arith, omega arith)

pub some_stage : (stage : ℕ) → 1 ≤ stage → IsStage (as_stage stage)
some_stage stage low = go (nat_le stage 15) refl
  where
    at_most : (m n : ℕ) → nat_le m n ≡ true → m ≤ n
    at_most m n h = grind (arith, nat_tests)

    go : (b : Bool) → nat_le stage 15 ≡ b → IsStage (as_stage stage)
    go true h = let most = at_most stage 15 h in rw h (low, omega arith)
    go false h = rw h (omega arith, omega arith)

-- what no such unit holds stays at its end
not_aborted : (limit u : ℕ) (x : ModelStatus) → ((m : ℕ) → x ≢ model.Held u m) → aborted limit u x ≡ x
not_aborted limit u (model.Held v m) other = if_other u v _ (model.Held v m) (λ same. other m (ap (λ w. model.Held w m) (sym same)))
not_aborted limit u (model.Waiting n) other = refl
not_aborted limit u (model.Consumed v) other = refl
not_aborted limit u (model.Parked n) other = refl
not_aborted limit u model.Killed other = refl

pub not_committed : (u : ℕ) (x : ModelStatus) → ((m : ℕ) → x ≢ model.Held u m) → committed u x ≡ x
not_committed u (model.Held v m) other = if_other u v _ (model.Held v m) (λ same. other m (ap (λ w. model.Held w m) (sym same)))
not_committed u (model.Waiting n) other = refl
not_committed u (model.Consumed v) other = refl
not_committed u (model.Parked n) other = refl
not_committed u model.Killed other = refl

module _ (l : ModelLimits) (h : List Event) (s : State) (sound : IsSound s) (room : HasRoom l s) (k : Knows l h s) where
  -- two elements in one row are one
  one_row : (a b : Option ℕ) (id q : ℕ) (e d : Element) → element_at id s.elements ≡ Some e → element_at q s.elements ≡ Some d → row l.rows a id ≡ row l.rows b q → id ≡ q
  one_row a b id q e d found there same =
      let low = (sound.each id e found).drawn in
      let high = (sound.each q d there).drawn in
      let rows = room.rows in
      rows_apart (part_of a) (part_of b) id q l.rows (omega arith) (omega arith) same

  -- and one unit holds no two
  pub one_held : (id q u n : ℕ) (e d : Element) → element_at id s.elements ≡ Some e → element_at q s.elements ≡ Some d → e.status ≡ Held u n → id ≢ q → (m : ℕ) → as_status d.stage d.status ≢ model.Held (u + 1) m
  one_held id q u n e d found there held apart m same =
      let one = held_open l h k.legal (row l.rows e.by id) (u + 1) n ((k.tells id e found).status ∙ ap (as_status e.stage) held) in
      let two = held_open l h k.legal (row l.rows d.by q) (u + 1) m ((k.tells q d there).status ∙ same) in
      let claims : Some one.0 ≡ Some two.0 = sym one.1.claimed ∙ two.1.claimed in
      let items : one.0.item ≡ two.0.item = (let t : one.0 ≡ two.0 = cc in ap (λ (t : UnitClaim). t.item) t) in
      apart (one_row e.by d.by id q e d found there (sym one.2 ∙ (items ∙ two.2)))

  apart_row : (id q : ℕ) (e d : Element) → element_at id s.elements ≡ Some e → element_at q s.elements ≡ Some d → id ≢ q → row l.rows e.by id ≢ row l.rows d.by q
  apart_row id q e d found there apart same = apart (one_row e.by d.by id q e d found there same)

  -- a unit takes an element
  pub knows_taken : (id n : ℕ) (e : Element) → element_at id s.elements ≡ Some e → e.status ≡ Waiting n → e.stage ≢ REPLY_STAGE → s.units + 1 < l.parts
      → Knows l (h ++ event.Claim (s.units + 1) (s.units + 1) (row l.rows e.by id) (n + 1) ∷ []) (with_units (s.units + 1) (with_change id e (standing (Held s.units (n + 1)) e) s))
  knows_taken id n e found waits server parts = knows_change l h s k ev may (s.units + 1) id e (standing (Held s.units (n + 1)) e) found (omega arith)
      (record { contents = refl; status = if_same i i _ _ refl; rounds = refl })
      (λ q d there apart. record { contents = refl; status = if_other i (row l.rows d.by q) _ _ (apart_row id q e d found there apart); rounds = refl })
      refl
      (λ v high. if_other (s.units + 1) v _ None (λ same. omega arith))
    where
      i : ℕ
      i = row l.rows e.by id

      ev : Event
      ev = event.Claim (s.units + 1) (s.units + 1) i (n + 1)

      own : IsUnitOf l (s.units + 1) (s.units + 1)
      own = rw room.units (parts, omega arith, omega arith)

      alone : (v : ℕ) (t : UnitClaim) → t.pass ≡ s.units + 1 → ¬ IsOpen h v t
      alone v t pass is =
          let inside = rw room.units at (claims_inside l h k.legal v t is.claimed) in
          let low = inside.1 in
          let none = k.units v (omega arith) in
          let some = is.claimed in
          cc

      may : MayClaim l h (s.units + 1) (s.units + 1) i (n + 1)
      may = record {
        unit = own;
        unused = k.units (s.units + 1) (omega arith);
        alone = alone;
        item = as_element l.rows id e;
        born = (k.tells id e found).contents;
        stage = server_stage e.stage (k.stage id e found) server;
        attempt = omega arith;
        waits = (k.tells id e found).status ∙ (ap (as_status e.stage) waits ∙ ap model.Waiting (omega arith));
      }

  -- an attempt is given up
  pub knows_given : (id u n : ℕ) (e : Element) → element_at id s.elements ≡ Some e → e.status ≡ Held u n → Knows l (h ++ event.Abort 0 (u + 1) ∷ []) (give_up id e n s)
  knows_given id u n e found held = knows_change l h s k (event.Abort 0 (u + 1)) may s.units id e (standing (given_up s.limits.attempts n) e) found (omega arith)
      (record { contents = refl; status = status; rounds = refl })
      (λ q d there apart. record { contents = refl; status = not_aborted l.attempts (u + 1) (as_status d.stage d.status) (one_held id q u n e d found there held apart); rounds = refl })
      refl
      (λ v high. refl)
    where
      may : MayAbort l h 0 (u + 1)
      may =
          let one = held_open l h k.legal (row l.rows e.by id) (u + 1) n ((k.tells id e found).status ∙ ap (as_status e.stage) held) in
          record { pass = let parts = room.parts in omega arith; taking = one.0; open_unit = one.1 }

      status : aborted l.attempts (u + 1) (as_status e.stage e.status) ≡ as_status e.stage (given_up s.limits.attempts n)
      status = rw held (if_same (u + 1) (u + 1) _ _ refl ∙ (rw room.attempts (go (nat_lt n s.limits.attempts))))
        where
          go : (b : Bool) → cond b (model.Waiting n) (model.Parked n) ≡ as_status e.stage (cond b (Waiting n) (Parked n))
          go true = refl
          go false = refl

  -- a waiting or parked element is killed, or a reply is taken away
  pub knows_killed : (units id : ℕ) (e : Element) (status : Status) → element_at id s.elements ≡ Some e → s.units ≤ units → IsKillable (as_status e.stage e.status) → as_status e.stage status ≡ model.Killed
      → Knows l (h ++ event.Kill 0 (row l.rows e.by id) ∷ []) (with_units units (with_change id e (standing status e) s))
  knows_killed units id e status found more free killed = knows_change l h s k (event.Kill 0 i) may units id e (standing status e) found more
      (record { contents = refl; status = if_same i i _ _ refl ∙ sym killed; rounds = refl })
      (λ q d there apart. record { contents = refl; status = if_other i (row l.rows d.by q) _ _ (apart_row id q e d found there apart); rounds = refl })
      refl
      (λ v high. refl)
    where
      i : ℕ
      i = row l.rows e.by id

      may : MayKill l h 0 i
      may = record { pass = let parts = room.parts in omega arith; item = as_element l.rows id e; born = (k.tells id e found).contents; free = rw (k.tells id e found).status free }

  -- a parked element has another round
  pub knows_requeued : (id n : ℕ) (e : Element) → element_at id s.elements ≡ Some e → e.status ≡ Parked n → e.rounds + 1 ≤ MAX_ROUNDS
      → Knows l (h ++ event.Requeue 0 (row l.rows e.by id) (e.rounds + 1) ∷ []) (with_change id e (again n e) s)
  knows_requeued id n e found parked few = knows_change l h s k (event.Requeue 0 i (e.rounds + 1)) may s.units id e (again n e) found (omega arith)
      (record { contents = refl; status = if_same i i _ _ refl; rounds = if_same i i _ _ refl })
      (λ q d there apart. record { contents = refl; status = if_other i (row l.rows d.by q) _ _ (apart_row id q e d found there apart); rounds = if_other i (row l.rows d.by q) _ _ (apart_row id q e d found there apart) })
      refl
      (λ v high. refl)
    where
      i : ℕ
      i = row l.rows e.by id

      may : MayRequeue l h 0 i (e.rounds + 1)
      may = record {
        pass = let parts = room.parts in omega arith;
        item = as_element l.rows id e;
        born = (k.tells id e found).contents;
        parked = (n, (k.tells id e found).status ∙ ap (as_status e.stage) parked);
        next = ap (λ x. x + 1) (sym (k.tells id e found).rounds);
        few = few;
      }
