-- A dump makes the same session.
use Rattle.std.proofs.Common.{◌≡◌, ◌∙◌, ℕ, ◌+◌, nat_lt, true, false, Option, Some, None, List, [], ◌∷◌, ◌++◌, map, length, refl, sym, ap, subst, arith}
use Rattle.std.specs.Prelude.{codes}
use Rattle.std.specs.List.{AllByRecursion, flat_map}
use Rattle.std.proofs.lemmas.Bool.Decides.{nat_tests}
use Rattle.std.proofs.lemmas.List.{append-nil}
use Rattle.tp_answers.specs.Answer.{answer_text, line}
use Rattle.tp_answers.specs.declared.answer.Answer.TheVariants as answer
use Rattle.tp_lines.specs.HeadTexts.{head_text}
use Rattle.tp_lines.specs.Names.{NameView}
use Rattle.tp_lines.specs.declared.line.ClientNote.{ClientNote}
use Rattle.tp_lines.specs.declared.line.HeadLine.TheVariants as head
use Rattle.tp_store.specs.Calls.{alive_in}
use Rattle.tp_store.specs.State.{State, start}
use Rattle.tp_session.specs.Dumps.{client_line, dump_lines, first_lines, other_lines, server_lines, store_lines, worker_lines}
use Rattle.tp_session.specs.Retold.{DumpMakesTheSame, IsDrawn, IsFit, IsFitClient, IsFitServer, IsFitWorker}
use Rattle.tp_session.specs.Session.{has_begun, lines_step}
use Rattle.tp_session.specs.State.{ServerView, SessionState, begin, with_store}
use Rattle.tp_session.specs.declared.hand.Hand.{Hand}
use Rattle.tp_session.specs.declared.phase.Phase.{Phase}
use Rattle.tp_session.specs.declared.phase.Phase.TheVariants.{InHead, Restoring, Begun}
use Rattle.tp_session.specs.declared.worker.Worker.{Worker}
use Rattle.tp_session.proofs.Lasts.{goes_on_from_lines}
use Rattle.tp_session.proofs.Replay.{all_heard, at, IsHeard, Leads, leads_both, restored, Step}
use Rattle.tp_session.proofs.RolesBack.{clients_back, good, knowing, workers_back, working}
use Rattle.tp_session.proofs.ServersBack.{servers_back, so_far}
use Rattle.tp_session.proofs.StoreBack.{numbered, numbers_taken, store_told, told_ok}

none_less : (n : ℕ) → nat_lt n 0 ≡ false
none_less n = grind (arith, nat_tests)

-- ---- the numbers of a store are there before its elements

drawn_early : (s : State) (hand : Option Hand) → IsDrawn s hand → IsDrawn (numbered s) hand
drawn_early s None drawn = tt
drawn_early s (Some h) drawn = drawn

servers_early : (s : State) (vs : List ServerView) → AllByRecursion (IsFitServer s) vs → AllByRecursion (IsFitServer (numbered s)) vs
servers_early s [] fit = tt
servers_early s (v ∷ vs) fit = (record { registers = fit.0.registers; drawn = drawn_early s v.hand fit.0.drawn; prepared = fit.0.prepared; dropped = fit.0.dropped }, servers_early s vs fit.1)

-- a session with the numbers of its store, and nothing in it
abbrev bare : SessionState → SessionState
bare s = with_store (numbered s.store) s

workers_early : (s : SessionState) (ws : List (NameView × Worker)) → AllByRecursion (IsFitWorker s) ws → AllByRecursion (IsFitWorker (bare s)) ws
workers_early s [] fit = tt
workers_early s ((name, w) ∷ ws) fit = ((fit.0.0, drawn_early s.store w.hand fit.0.1), workers_early s ws fit.1)

clients_early : (s : SessionState) (cs : List (NameView × ClientNote)) → AllByRecursion (IsFitClient s) cs → AllByRecursion (IsFitClient (bare s)) cs
clients_early s [] fit = tt
clients_early s ((name, c) ∷ cs) fit = (fit.0, clients_early s cs fit.1)

-- ---- the whole

module _ (s : SessionState) (fit : IsFit s) where
  -- with these settings
  abbrev set_so : ℕ → ℕ → ℕ → SessionState
  set_so attempts most keep = with_store (start (record { most = most; keep = keep; attempts = attempts })) begin

  numbers : Step (head.Numbers s.store.next s.store.units s.owners) (set_so s.store.limits.attempts s.store.limits.most s.store.limits.keep) (so_far (numbered s.store) s.owners [])
  numbers p =
      let go = numbers_taken s.store in
      rw (none_less s.owners) (told_ok _ (at p (record (set_so s.store.limits.attempts s.store.limits.most s.store.limits.keep) { owners = s.owners })) go.0 ∙ ap (λ t. good (at p (so_far t s.owners []))) go.1)

  first : Leads (first_lines s) begin (so_far (numbered s.store) s.owners [])
  first =
      let a = begin.store.limits in
      let b = s.store.limits in
      (set_so b.attempts a.most a.keep, (λ p. refl), (set_so b.attempts b.most a.keep, (λ p. refl), (set_so b.attempts b.most b.keep, (λ p. refl), (so_far (numbered s.store) s.owners [], numbers, refl))))

  others : Leads (other_lines s.servers s.workers s.clients s.store) (so_far (numbered s.store) s.owners []) (knowing s s.clients)
  others =
      let bare_servers = so_far (numbered s.store) s.owners s.servers in
      let bare_clients = knowing (bare s) s.clients in
      let bare_workers = working (bare s) s.workers in
      leads_both (flat_map server_lines s.servers) (flat_map worker_lines s.workers ++ (map client_line s.clients ++ store_lines s.store)) (so_far (numbered s.store) s.owners []) bare_servers (knowing s s.clients) (servers_back (numbered s.store) s.owners [] s.servers (servers_early s.store s.servers fit.servers) fit.apart (let few = fit.few in omega arith))
      (leads_both (flat_map worker_lines s.workers) (map client_line s.clients ++ store_lines s.store) bare_servers bare_workers (knowing s s.clients) (workers_back (bare s) [] s.workers (workers_early s s.workers fit.workers) fit.workers_sorted)
      (leads_both (map client_line s.clients) (store_lines s.store) bare_workers bare_clients (knowing s s.clients) (clients_back (bare s) [] s.clients (clients_early s s.clients fit.clients) fit.clients_sorted)
      (store_told s.store bare_clients fit.store refl)))

  whole : Leads (dump_lines s) begin (knowing s s.clients)
  whole = leads_both (first_lines s) (other_lines s.servers s.workers s.clients s.store) begin (so_far (numbered s.store) s.owners []) (knowing s s.clients) first others

-- ---- `restore` ends it

-- what is told of it, and what it leaves
abbrev alive_again : SessionState → List ℕ × SessionState
alive_again t = (line (answer_text (answer.Restored (alive_in t.store))), at Begun t)

last_line : (n : ℕ) (p : Phase) (t : SessionState) → has_begun p ≡ false → (let behind = lines_step n (codes "restore" ∷ []) (at p t) in ([] ++ behind.0, behind.1)) ≡ alive_again t
last_line n p t head = ap (λ r. (r.0 ++ [], r.1)) (restored (n + 1) p t head) ∙ ap (λ text. (text, at Begun t)) (append-nil (alive_again t).0)

restores : (n : ℕ) (before : List ℕ × SessionState) (t : SessionState) → IsHeard before t → (let behind = lines_step n (codes "restore" ∷ []) before.1 in (before.0 ++ behind.0, behind.1)) ≡ alive_again t
restores n before t heard = subst (λ b. (let behind = lines_step n (codes "restore" ∷ []) b.1 in (b.0 ++ behind.0, behind.1)) ≡ alive_again t) (sym heard.is) (last_line n heard.phase t heard.goes_on)

begun_so : (s : SessionState) (p : Phase) → s.phase ≡ p → has_begun p ≡ true → at Begun s ≡ s
begun_so s InHead same is = absurd cc
begun_so s Restoring same is = absurd cc
begun_so s Begun same is = ap (λ p. at p s) (sym same)

pub dump_makes_the_same : DumpMakesTheSame
dump_makes_the_same s fit is_begun lines_fit =
    let dump = map head_text (dump_lines s) in
    goes_on_from_lines 0 dump (codes "restore" ∷ []) begin
    ∙ (restores (0 + length dump) (lines_step 0 dump begin) (knowing s s.clients) (all_heard 0 (dump_lines s) InHead begin (knowing s s.clients) refl lines_fit (whole s fit))
    ∙ ap (λ t. ((alive_again s).0, t)) (begun_so s s.phase refl is_begun))
