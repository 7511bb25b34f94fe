-- Commands leave good sessions.
use Rattle.std.proofs.Common.{◌≡◌, ℕ, Bool, true, false, if◌then◌else◌, Option, Some, None, Ok, Err, List, [], ◌∷◌, refl}
use Rattle.std.specs.Prelude.{⊤, slice_get, slice_set}
use Rattle.tp_script.specs.declared.fault.LineFault.TheVariants.{BadName, Syntax}
use Rattle.tp_server.specs.declared.order.Order.{Order}
use Rattle.tp_lines.specs.Names.{NameView}
use Rattle.tp_lines.specs.declared.line.Act.{Act}
use Rattle.tp_lines.specs.declared.line.Act.TheVariants as acts
use Rattle.tp_store.specs.Calls.{collect_of}
use Rattle.tp_store.specs.Elements.{Entry}
use Rattle.tp_store.specs.Runs.{Collect}
use Rattle.tp_store.specs.State.{State}
use Rattle.tp_session.specs.Drains.{rounds}
use Rattle.tp_session.specs.Requests.{with_collected}
use Rattle.tp_session.specs.Roles.{put, server_at, worker_at}
use Rattle.tp_session.specs.Said.{Step}
use Rattle.tp_session.specs.Servers.{gives_outputs, server_does}
use Rattle.tp_session.specs.Session.{act_by, at_server, drain_step, leave_by, served as served_step, server_step, worked}
use Rattle.tp_session.specs.State.{ServerView, SessionState, with_store}
use Rattle.tp_session.specs.Workers.{is_of_server, worker_does}
use Rattle.tp_session.specs.declared.drains.TheConstants.{MAX_ROUNDS_OF_DRAIN}
use Rattle.tp_session.specs.declared.worker.Worker.{Worker}
use Rattle.tp_session.specs.Retold.{IsDrawn}
use Rattle.tp_session.proofs.ActsKeep.{all_later, IsGoodServer, rounds_keep, server_keeps, worker_keeps}
use Rattle.tp_session.proofs.RolesKeep.{named_so}
use Rattle.tp_session.proofs.SaidParts.{IsGoodAct}
use Rattle.tp_session.proofs.ServersBack.{AreOthers}
use Rattle.tp_session.proofs.SessionParts.{get_all, good_left, good_servers, good_store, good_worker, IsGood, set_all, set_names}
use Rattle.tp_session.proofs.StoreGrows.{Grows, grows_both, grows_call, grows_none, Holds}

-- what a step leaves is good
abbrev pub Keeps : Step → Type 0
Keeps (Ok (text, t)) = IsGood t
Keeps (Err fault) = ⊤

-- ---- replies that are collected

pub collected_grows : (replies : List Entry) (t : State) → Holds t → Grows t (with_collected replies t)
collected_grows [] t holds = grows_none t holds
collected_grows (e ∷ es) t holds =
    let one = grows_call (Collect e.0) t holds tt in
    grows_both t (collect_of e.0 t).1 (with_collected es (collect_of e.0 t).1) one (collected_grows es (collect_of e.0 t).1 one.holds)

-- ---- drains

pub drain_keeps : (order : Order) (s : SessionState) → IsGood s → Keeps (drain_step order s)
drain_keeps order s good =
    let d = rounds_keep order MAX_ROUNDS_OF_DRAIN s.servers s.store good.store good.servers in
    good_servers s (rounds order MAX_ROUNDS_OF_DRAIN s.servers s.store).store (rounds order MAX_ROUNDS_OF_DRAIN s.servers s.store).servers good d.grows d.names d.good

-- ---- what workers and servers do

module _ (s : SessionState) (good : IsGood s) (name : NameView) where
  pub worker_parts : (w : Worker) → worker_at name s ≡ Some w → AreOthers name s.servers × IsDrawn s.store w.hand
  worker_parts w is = named_so (λ name. AreOthers name s.servers) (λ (w : Worker). IsDrawn s.store w.hand) name w s.workers good.workers is

  served : (act : Act) (place : ℕ) (v : Option ServerView) → slice_get s.servers place ≡ v → Keeps (server_step place v act s)
  served act place None is = tt
  served act place (Some v) is = go (gives_outputs act)
    where
      fit : IsGoodServer s.store v
      fit = get_all (IsGoodServer s.store) s.servers place v good.servers is

      left : IsGood (record s { servers = slice_set s.servers place (server_does act v s.store).server; store = (server_does act v s.store).store })
      left =
          let done = server_does act v s.store in
          let serves = server_keeps s.store good.store v fit act in
          good_servers s done.store (slice_set s.servers place done.server) good serves.grows (set_names s.servers place v done.server is serves.name) (set_all (IsGoodServer done.store) s.servers place done.server (all_later s.store done.store s.servers good.store serves.grows good.servers) serves.good)

      go : (b : Bool) → Keeps (if b then Err Syntax else served_step place (server_does act v s.store) s)
      go true = tt
      go false = left

  pub act_keeps : (act : Act) → IsGoodAct act → (w : Option Worker) → worker_at name s ≡ w → Keeps (act_by name act w s)
  act_keeps act fit None is = at (server_at name s)
    where
      at : (place : Option ℕ) → Keeps (at_server place act s)
      at None = tt
      at (Some place) = served act place (slice_get s.servers place) refl
  act_keeps act fit (Some w) is = go (is_of_server act)
    where
      left : IsGood (record (with_store (worker_does act w s.store).store s) { workers = put name (worker_does act w s.store).worker s.workers })
      left =
          let done = worker_does act w s.store in
          let parts = worker_parts w is in
          let works = worker_keeps s.store good.store w parts.1 act fit in
          good_worker (with_store done.store s) name w done.worker (good_store s done.store good works.grows) is works.drawn parts.0

      go : (b : Bool) → Keeps (if b then Err BadName else worked name (worker_does act w s.store) s)
      go true = tt
      go false = left

  pub leave_keeps : (w : Option Worker) → worker_at name s ≡ w → Keeps (leave_by name w s)
  leave_keeps None is = tt
  leave_keeps (Some w) is =
      let parts = worker_parts w is in
      let works = worker_keeps s.store good.store w parts.1 acts.Abort tt in
      good_left (with_store (worker_does acts.Abort w s.store).store s) name (good_store s (worker_does acts.Abort w s.store).store good works.grows)
