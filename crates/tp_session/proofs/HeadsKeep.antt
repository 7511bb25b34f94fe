-- Lines of a head that tell of no store and of no hand leave good sessions.
use Rattle.std.proofs.Common.{◌≡◌, ◌∙◌, ◌<◌, ℕ, [], ◌∷◌, ◌++◌, Bool, true, false, nat_lt, if◌then◌else◌, is_none, is_some, Option, Some, None, Result, Ok, Err, refl, arith}
use Rattle.std.specs.Prelude.{⊤, length, slice_get, slice_set}
use Rattle.std.proofs.lemmas.Bool.Decides.{nat_tests}
use Rattle.std.proofs.lemmas.List.{length-replicate, length-set}
use Rattle.tp_script.specs.declared.fault.LineFault.{LineFault}
use Rattle.tp_script.specs.declared.fault.LineFault.TheVariants.{BadLimits, BadName, BadNumber, BadRecipe}
use Rattle.tp_script.specs.declared.script.TheConstants.{MAX_SERVERS}
use Rattle.tp_lines.specs.Names.{NameView}
use Rattle.tp_lines.specs.declared.line.HeadLine.{HeadLine}
use Rattle.tp_lines.specs.declared.line.HeadLine.TheVariants as head
use Rattle.tp_store.specs.Runs.{SetLimits}
use Rattle.tp_store.specs.declared.store.Limits.{Limits}
use Rattle.tp_session.specs.Heads.{Change, changed_at, changed_place, ended_as, from_set, limited, new_server, new_worker, server_changed, server_from, set, Set, with_drop, with_prepared, with_server, with_start}
use Rattle.tp_session.specs.Clients.{registered, renewed}
use Rattle.tp_session.specs.Retold.{tells_drawn}
use Rattle.tp_session.specs.Roles.{client_at, is_of_worker, is_taken, server_at, with_client, with_worker, worker_at}
use Rattle.tp_session.specs.State.{ServerView, SessionState}
use Rattle.tp_session.specs.declared.worker.Worker.{Worker}
use Rattle.tp_session.proofs.ActsKeep.{IsGoodServer}
use Rattle.tp_session.proofs.ClientsKeep.{free_of, none_from, or_false, registered_so, renewed_so}
use Rattle.tp_session.proofs.CommandsKeep.{worker_parts}
use Rattle.tp_session.proofs.SaidParts.{IsGoodHead}
use Rattle.tp_session.proofs.SessionParts.{get_all, good_client, good_new_server, good_new_worker, good_servers, good_store, good_worker, IsFree, IsGood, set_all, set_names}
use Rattle.tp_session.proofs.StoreGrows.{grows_call, grows_none}

abbrev pub KeepsSet : Set → Type 0
KeepsSet (Ok t) = IsGood t
KeepsSet (Err fault) = ⊤

below : (m n : ℕ) → nat_lt m n ≡ true → m < n
below m n h = grind (arith, nat_tests)

module _ (s : SessionState) (good : IsGood s) where
  limits_keep : (limits : Limits) → KeepsSet (limited limits s)
  limits_keep limits = good_store s _ good (grows_call (SetLimits limits) s.store good.store tt)

  -- a server is changed so that it is fit, and has its name
  abbrev Changed : ServerView → Result ServerView LineFault → Type 0
  Changed v (Ok w) = IsGoodServer s.store w × (w.name ≡ v.name)
  Changed v (Err fault) = ⊤

  changed_keeps : (name : NameView) (change : Change) → ((v : ServerView) → IsGoodServer s.store v → Changed v (change v)) → KeepsSet (server_changed name change s)
  changed_keeps name change ok = at_place (server_at name s)
    where
      changed : (place : ℕ) (v : ServerView) → slice_get s.servers place ≡ Some v → (r : Result ServerView LineFault) → Changed v r → KeepsSet (with_server place r s)
      changed place v is (Ok w) so = good_servers s s.store (slice_set s.servers place w) good (grows_none s.store good.store) (set_names s.servers place v w is so.1) (set_all (IsGoodServer s.store) s.servers place w good.servers so.0)
      changed place v is (Err fault) so = tt

      at_server : (place : ℕ) (v : Option ServerView) → slice_get s.servers place ≡ v → KeepsSet (changed_at place v change s)
      at_server place None is = tt
      at_server place (Some v) is = changed place v is (change v) (ok v (get_all (IsGoodServer s.store) s.servers place v good.servers is))

      at_place : (place : Option ℕ) → KeepsSet (changed_place place change s)
      at_place None = tt
      at_place (Some place) = at_server place (slice_get s.servers place) refl

  starts : (k value : ℕ) (v : ServerView) → IsGoodServer s.store v → Changed v (with_start k value v)
  starts k value v fit = go (nat_lt k (length v.registers))
    where
      go : (b : Bool) → Changed v (if b then Ok (record v { registers = slice_set v.registers k value }) else Err BadRecipe)
      go true = (record { fit = record { registers = length-set v.registers k value ∙ fit.fit.registers; drawn = fit.fit.drawn; prepared = fit.fit.prepared; dropped = fit.fit.dropped }; recipe = fit.recipe }, refl)
      go false = tt

  prepares : (v : ServerView) → IsGoodServer s.store v → Changed v (with_prepared v)
  prepares v fit = go (is_some v.hand) refl
    where
      go : (b : Bool) → is_some v.hand ≡ b → Changed v (if b then Ok (record v { is_prepared = true }) else Err BadName)
      go true is = (record { fit = record { registers = fit.fit.registers; drawn = fit.fit.drawn; prepared = λ h. is; dropped = fit.fit.dropped }; recipe = fit.recipe }, refl)
      go false is = tt

  drops : (v : ServerView) → IsGoodServer s.store v → Changed v (with_drop v)
  drops v fit = go (is_none v.hand) refl
    where
      go : (b : Bool) → is_none v.hand ≡ b → Changed v (if b then Ok (record v { is_dropped = true }) else Err BadName)
      go true is = (record { fit = record { registers = fit.fit.registers; drawn = fit.fit.drawn; prepared = fit.fit.prepared; dropped = λ h. is }; recipe = fit.recipe }, refl)
      go false is = tt

  goes_from : (id : ℕ) (v : ServerView) → IsGoodServer s.store v → Changed v (server_from id v)
  goes_from id v fit = (record { fit = record { registers = fit.fit.registers; drawn = fit.fit.drawn; prepared = fit.fit.prepared; dropped = fit.fit.dropped }; recipe = fit.recipe }, refl)

  -- a name that nobody has
  untaken : (name : NameView) → is_taken name s ≡ false → IsFree s.servers s.workers name × (client_at name s ≡ None)
  untaken name is = let parts = or_false (is_of_worker name s) (is_some (client_at name s)) is in (free_of name s parts.0, none_from (client_at name s) parts.1)

  pub set_keeps : (l : HeadLine) → IsGoodHead l → tells_drawn l ≡ false → KeepsSet (set l s)
  set_keeps (head.Limit n) fit plain = limits_keep _
  set_keeps (head.Max n) fit plain = limits_keep _
  set_keeps (head.Keep n) fit plain = limits_keep _
  set_keeps (head.Server line) fit plain = go (is_taken line.name s) refl
    where
      room : IsFree s.servers s.workers line.name × (client_at line.name s ≡ None) → (b : Bool) → nat_lt (length s.servers) MAX_SERVERS ≡ b → KeepsSet (if b then Ok (record s { servers = s.servers ++ new_server line ∷ [] }) else Err BadLimits)
      room free true few = good_new_server s (new_server line) good (record { fit = record { registers = length-replicate line.recipe.registers 0; drawn = tt; prepared = λ h. absurd cc; dropped = λ h. absurd cc }; recipe = fit }) free.0.0 free.0.1 free.1 (below (length s.servers) MAX_SERVERS few)
      room free false few = tt

      go : (b : Bool) → is_taken line.name s ≡ b → KeepsSet (if b then Err BadName else if nat_lt (length s.servers) MAX_SERVERS then Ok (record s { servers = s.servers ++ new_server line ∷ [] }) else Err BadLimits)
      go true is = tt
      go false is = room (untaken line.name is) (nat_lt (length s.servers) MAX_SERVERS) refl
  set_keeps (head.Start name k value) fit plain = changed_keeps name (with_start k value) (starts k value)
  set_keeps (head.Worker name stage) fit plain = go (is_taken name s) refl
    where
      go : (b : Bool) → is_taken name s ≡ b → KeepsSet (if b then Err BadName else Ok (with_worker name (new_worker stage) s))
      go true is = tt
      go false is = let free = untaken name is in good_new_worker s name (new_worker stage) good free.0.0 free.1 tt
  set_keeps (head.Register name) fit plain = go (is_of_worker name s) refl
    where
      go : (b : Bool) → is_of_worker name s ≡ b → KeepsSet (if b then Err BadName else Ok (registered name s))
      go true is = tt
      go false is = registered_so s good name (free_of name s is) (client_at name s)
  set_keeps (head.Renew name) fit plain = go (is_of_worker name s) refl
    where
      go : (b : Bool) → is_of_worker name s ≡ b → KeepsSet (if b then Err BadName else Ok (renewed name s))
      go true is = tt
      go false is = renewed_so s good name (free_of name s is) (client_at name s) refl
  set_keeps (head.Numbers next units owners) fit plain = absurd cc
  set_keeps (head.Element id e) fit plain = absurd cc
  set_keeps (head.Over root) fit plain = absurd cc
  set_keeps (head.Settled stage consumed killed) fit plain = absurd cc
  set_keeps (head.Hand name id unit tries) fit plain = absurd cc
  set_keeps (head.Prepared name) fit plain = changed_keeps name with_prepared prepares
  set_keeps (head.Dropped name) fit plain = changed_keeps name with_drop drops
  set_keeps (head.From name id) fit plain = go (worker_at name s) refl
    where
      go : (w : Option Worker) → worker_at name s ≡ w → KeepsSet (from_set name id w s)
      go None is = changed_keeps name (server_from id) (goes_from id)
      go (Some w) is = let parts = worker_parts s good name w is in good_worker s name w (record w { from = id }) good is parts.1 parts.0
  set_keeps (head.Ended name how) fit plain = go (worker_at name s) refl
    where
      go : (w : Option Worker) → worker_at name s ≡ w → KeepsSet (ended_as name how w s)
      go None is = tt
      go (Some w) is = once (is_none w.end)
        where
          once : (b : Bool) → KeepsSet (if b then Ok (with_worker name (record w { end = Some how }) s) else Err BadName)
          once true = let parts = worker_parts s good name w is in good_worker s name w (record w { end = Some how }) good is parts.1 parts.0
          once false = tt
  set_keeps (head.Client name c) fit plain = go (is_taken name s) refl
    where
      known : IsFree s.servers s.workers name → (b : Bool) → nat_lt c.owner s.owners ≡ b → KeepsSet (if b then Ok (with_client name c s) else Err BadNumber)
      known free true low = good_client s name c s.owners good free.0 free.1 (below c.owner s.owners low) (omega arith)
      known free false low = tt

      go : (b : Bool) → is_taken name s ≡ b → KeepsSet (if b then Err BadName else if nat_lt c.owner s.owners then Ok (with_client name c s) else Err BadNumber)
      go true is = tt
      go false is = known (untaken name is).0 (nat_lt c.owner s.owners) refl
