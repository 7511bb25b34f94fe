-- Each session is fit whose head tells neither of elements nor of hands.
use Rattle.std.proofs.Common.{◌≡◌, ◌≤◌, ◌<◌, ◌+◌, ◌-◌, ◌^◌, ◌==◌, ℕ, Bool, true, false, if◌then◌else◌, Option, Some, None, Result, Ok, Err, List, [], ◌∷◌, length, refl, ap, arith}
use Rattle.std.specs.Ordering.{nat_cmp}
use Rattle.std.specs.BTreeMap.{is_at}
use Rattle.std.specs.List.{AllByRecursion}
use Rattle.std.specs.Map.{keys_of}
use Rattle.std.proofs.lemmas.Bool.Decides.{nat_tests}
use Rattle.std.proofs.lemmas.List.Elements.{All-from_recursion}
use Rattle.std.proofs.lemmas.Map.Entries.{length-keys_of}
use Rattle.std.proofs.lemmas.Map.Keys.{sorted_head, sorted_tail}
use Rattle.std.proofs.lemmas.Map.Views.{length-le_from_below}
use Rattle.tp_script.specs.declared.fault.LineFault.{LineFault}
use Rattle.tp_script.specs.declared.fault.LineFault.TheVariants.{Order}
use Rattle.tp_answers.specs.Answer.{answer_text}
use Rattle.tp_answers.specs.declared.answer.Answer.TheVariants as answer
use Rattle.tp_answers.specs.declared.told.Told.TheVariants as told
use Rattle.tp_answers.specs.ToldTexts.{named_text}
use Rattle.tp_session.specs.Hands.{is_in_hand}
use Rattle.tp_lines.specs.Tags.{tag_in, tagged_said}
use Rattle.tp_lines.specs.declared.line.Act.{Act}
use Rattle.tp_lines.specs.declared.line.Fence.{Fence}
use Rattle.tp_lines.specs.Names.{NameView, name_cmp}
use Rattle.tp_lines.specs.declared.line.ClientNote.{ClientNote}
use Rattle.tp_lines.specs.declared.line.Command.{Command}
use Rattle.tp_lines.specs.declared.line.Command.TheVariants as commands
use Rattle.tp_lines.specs.declared.line.HeadLine.{HeadLine}
use Rattle.tp_lines.specs.declared.line.HeadLine.TheVariants as head
use Rattle.tp_lines.specs.declared.line.Line.{Line}
use Rattle.tp_lines.specs.declared.line.Line.TheVariants as lines
use Rattle.tp_store.specs.declared.counts.Counts.{Counts}
use Rattle.tp_store.specs.Elements.{Entry, element_at}
use Rattle.tp_store.specs.Runs.{Cancel, Kill, Release, Requeue, Submit}
use Rattle.tp_store.specs.Shelves.{AreSorted}
use Rattle.tp_store.specs.Soundness.{IsSound}
use Rattle.tp_store.specs.State.{State}
use Rattle.tp_store.proofs.Accounted.{start_accounted}
use Rattle.tp_store.proofs.Finding.{later}
use Rattle.tp_store.proofs.Leading.{start_sound}
use Rattle.tp_store.proofs.Retold.{tellable_back}
use Rattle.tp_session.specs.Heads.{and_waits, attempts_set, awaits_restore, keep_set, most_set, set, Set, worker_set}
use Rattle.tp_session.specs.Retold.{IsFit, IsFitClient, IsFitServer, IsFitStore, IsFitWorker, SessionsAreFit, tells_drawn, tells_of}
use Rattle.tp_session.specs.Requests.{all_of}
use Rattle.tp_session.specs.Roles.{server_at, worker_at}
use Rattle.tp_session.specs.Said.{just, Step}
use Rattle.tp_session.specs.Session.{act_by, balance_at, balance_by, begun, does, head_step, is_in_order, join_by, last_as, late_step, line_step, lines_step, or_refused, quietly, fenced_by, read_step_of, said_step, told_set, with_tag}
use Rattle.tp_session.specs.State.{begin, ServerView, SessionState}
use Rattle.tp_session.specs.declared.phase.Phase.{Phase}
use Rattle.tp_session.specs.declared.phase.Phase.TheVariants.{InHead, Restoring, Begun}
use Rattle.tp_session.specs.declared.worker.Worker.{Worker}
use Rattle.tp_store.specs.declared.group.Group.TheVariants.{Replies}
use Rattle.tp_store.specs.declared.element.Element.{Element}
use Rattle.tp_session.proofs.ActsKeep.{AreGoodServers}
use Rattle.tp_session.proofs.ClientsKeep.{forget_keeps, last_keeps, receive_keeps, register_keeps, renew_keeps, send_keeps}
use Rattle.tp_session.proofs.CommandsKeep.{act_keeps, collected_grows, drain_keeps, Keeps, leave_keeps}
use Rattle.tp_session.proofs.HeadsKeep.{KeepsSet, set_keeps}
use Rattle.tp_session.proofs.SaidParts.{IsGoodAct, IsGoodCommand, IsGoodHead, IsGoodLine, tagged_good}
use Rattle.tp_session.proofs.ServersBack.{none_passes}
use Rattle.tp_session.proofs.SessionParts.{ClientsSo, good_store, IsGood, WorkersSo}
use Rattle.tp_session.proofs.StoreGrows.{grows_call, Holds}
use Rattle.std.specs.Str.{bytes_eq}
use Rattle.std.specs.Prelude.{slice_get}
use Rattle.std.specs.List.Sorted.{IsStrictlySortedBy}
use Rattle.tp_session.proofs.Replay.{at}

good_at : (p : Phase) (s : SessionState) → IsGood s → IsGood (at p s)
good_at p s good = record { store = good.store; few = good.few; apart = good.apart; servers = good.servers; workers_sorted = good.workers_sorted; workers = good.workers; clients_sorted = good.clients_sorted; clients = good.clients }

module _ (s : SessionState) (good : IsGood s) where
  either_step : (b : Bool) (one two : List ℕ) → Keeps (if b then just one s else just two s)
  either_step true one two = good
  either_step false one two = good

  balance_keeps : (k : ℕ) (place : Option ℕ) → Keeps (balance_at k place s)
  balance_keeps k None = tt
  balance_keeps k (Some place) = go (slice_get s.servers place)
    where
      go : (v : Option ServerView) → Keeps (balance_by k v s)
      go None = tt
      go (Some v) = good

  last_named_keeps : (name : NameView) (w : Option Worker) → Keeps (last_as name w s)
  last_named_keeps name (Some w) = good
  last_named_keeps name None = last_keeps s good name

  fenced_keeps : (name : NameView) (fence : Fence) (act : Act) → IsGoodAct act → (w : Option Worker) → worker_at name s ≡ w → Keeps (fenced_by name fence act w s)
  fenced_keeps name fence act fit None is = tt
  fenced_keeps name fence act fit (Some w) is = go (is_in_hand fence w.hand) (act_keeps s good name act fit (Some w) is)
    where
      go : (b : Bool) → Keeps (act_by name act (Some w) s) → Keeps (if b then act_by name act (Some w) s else just (named_text name told.Other) s)
      go true so = so
      go false so = good

  does_keeps : (c : Command) → IsGoodCommand c → Keeps (does c s)
  does_keeps (commands.Submit stage body) fit = good_store s _ good (grows_call (Submit stage body None) s.store good.store tt)
  does_keeps (commands.Kill id) fit = good_store s _ good (grows_call (Kill id) s.store good.store tt)
  does_keeps (commands.Cancel root) fit = good_store s _ good (grows_call (Cancel root) s.store good.store tt)
  does_keeps (commands.Requeue id) fit = good_store s _ good (grows_call (Requeue id) s.store good.store tt)
  does_keeps (commands.Release id) fit = good_store s _ good (grows_call (Release id) s.store good.store tt)
  does_keeps (commands.Collect root) fit = good_store s _ good (collected_grows (all_of (Replies root) s) s.store good.store)
  does_keeps commands.Account fit = either_step (s.store.tally.total.held == 0) (answer_text (answer.Account s.store.tally.total)) (answer_text answer.Busy)
  does_keeps (commands.Drain order) fit = drain_keeps order s good
  does_keeps (commands.Balance name k) fit = balance_keeps k (server_at name s)
  does_keeps (commands.Act name act) fit = act_keeps s good name act fit (worker_at name s) refl
  does_keeps (commands.Leave name) fit = leave_keeps s good name (worker_at name s) refl
  does_keeps (commands.Fenced name fence act) fit = fenced_keeps name fence act fit (worker_at name s) refl
  does_keeps (commands.Send name epoch number stage body) fit = send_keeps s good name epoch number stage body
  does_keeps (commands.Receive name epoch number root note) fit = receive_keeps s good name epoch number root note
  does_keeps (commands.Last name) fit = last_named_keeps name (worker_at name s)
  does_keeps (commands.Forget name) fit = forget_keeps s good name
  does_keeps (commands.Read id) fit = good
  does_keeps (commands.Reply root) fit = good
  does_keeps (commands.Family root) fit = good
  does_keeps commands.Errors fit = good
  does_keeps commands.Count fit = good
  does_keeps commands.Depth fit = good
  does_keeps (commands.List stage from) fit = good
  does_keeps commands.Holds fit = good
  does_keeps commands.Dump fit = good
  does_keeps commands.Restore fit = good
  does_keeps (commands.Sum k) fit = good

  begun_keeps : (step : Step) → Keeps step → Keeps (begun step)
  begun_keeps (Ok (text, t)) so = good_at Begun t so
  begun_keeps (Err fault) so = tt

  command_keeps : (b : Bool) (c : Command) → IsGoodCommand c → Keeps (if b then begun (does c s) else Err Order)
  command_keeps true c fit = begun_keeps (does c s) (does_keeps c fit)
  command_keeps false c fit = tt

  quiet_keeps : (w : Bool) (r : Set) → KeepsSet r → Keeps (quietly (and_waits w r))
  quiet_keeps true (Ok t) so = good_at Restoring t so
  quiet_keeps false (Ok t) so = so
  quiet_keeps w (Err fault) so = tt

  joined_keeps : (name : NameView) (r : Set) → KeepsSet r → Keeps (join_by name r)
  joined_keeps name (Ok t) so = so
  joined_keeps name (Err fault) so = tt

  told_keeps : (l : HeadLine) (r : Set) → KeepsSet r → Keeps (told_set l r)
  told_keeps l (Ok t) so = so
  told_keeps l (Err fault) so = tt

  late_keeps : (l : HeadLine) → IsGoodHead l → tells_drawn l ≡ false → Keeps (late_step l s)
  late_keeps (head.Worker name stage) fit plain = joined_keeps name (worker_set name stage s) (set_keeps s good (head.Worker name stage) tt refl)
  late_keeps (head.Register name) fit plain = register_keeps s good name
  late_keeps (head.Renew name) fit plain = renew_keeps s good name
  late_keeps (head.Limit n) fit plain = told_keeps (head.Limit n) (attempts_set n s) (set_keeps s good (head.Limit n) tt refl)
  late_keeps (head.Max n) fit plain = told_keeps (head.Max n) (most_set n s) (set_keeps s good (head.Max n) tt refl)
  late_keeps (head.Keep n) fit plain = told_keeps (head.Keep n) (keep_set n s) (set_keeps s good (head.Keep n) tt refl)
  late_keeps (head.Server line) fit plain = tt
  late_keeps (head.Start name k value) fit plain = tt
  late_keeps (head.Numbers next units owners) fit plain = tt
  late_keeps (head.Element id e) fit plain = tt
  late_keeps (head.Over root) fit plain = tt
  late_keeps (head.Settled stage consumed killed) fit plain = tt
  late_keeps (head.Hand name id unit tries) fit plain = tt
  late_keeps (head.Prepared name) fit plain = tt
  late_keeps (head.Dropped name) fit plain = tt
  late_keeps (head.From name id) fit plain = tt
  late_keeps (head.Ended name how) fit plain = tt
  late_keeps (head.Client name c) fit plain = tt

  head_keeps : (p : Phase) (l : HeadLine) → IsGoodHead l → tells_drawn l ≡ false → Keeps (head_step p l s)
  head_keeps Begun l fit plain = late_keeps l fit plain
  head_keeps InHead l fit plain = quiet_keeps (awaits_restore l) (set l s) (set_keeps s good l fit plain)
  head_keeps Restoring l fit plain = quiet_keeps (awaits_restore l) (set l s) (set_keeps s good l fit plain)

  said_keeps : (l : Line) → IsGoodLine l → tells_of (Ok l) ≡ false → Keeps (said_step l s)
  said_keeps lines.Nothing fit plain = good
  said_keeps (lines.Head l) fit plain = head_keeps s.phase l fit plain
  said_keeps (lines.Do c) fit plain = command_keeps (is_in_order s.phase c) c fit
  said_keeps lines.Version fit plain = good

  read_keeps : (r : Result Line LineFault) → ((l : Line) → r ≡ Ok l → IsGoodLine l) → tells_of r ≡ false → Keeps (read_step_of r s)
  read_keeps (Ok l) fit plain = said_keeps l (fit l refl) plain
  read_keeps (Err fault) fit plain = tt

  refused_keeps : (n : ℕ) (step : Step) → Keeps step → IsGood (or_refused n s step).1
  refused_keeps n (Ok (text, t)) so = so
  refused_keeps n (Err fault) so = good

  tagged_keeps : (t : Option (List ℕ)) (done : List ℕ × SessionState) → IsGood done.1 → IsGood (with_tag t done).1
  tagged_keeps None done so = so
  tagged_keeps (Some tag) done so = so

  line_keeps : (n : ℕ) (bytes : List ℕ) → tells_of (tagged_said bytes) ≡ false → IsGood (line_step n bytes s).1
  line_keeps n bytes plain = tagged_keeps (tag_in bytes) (or_refused n s (read_step_of (tagged_said bytes) s)) (refused_keeps n (read_step_of (tagged_said bytes) s) (read_keeps (tagged_said bytes) (tagged_good bytes).is plain))

lines_keep : (past : ℕ) (ls : List (List ℕ)) (s : SessionState) → AllByRecursion (λ l. tells_of (tagged_said l) ≡ false) ls → IsGood s → IsGood (lines_step past ls s).1
lines_keep past [] s plain good = good
lines_keep past (l ∷ ls) s plain good = lines_keep (past + 1) ls (line_step (past + 1) l s).1 plain.1 (line_keeps s good (past + 1) l plain.0)

sorted_names : IsStrictlySortedBy name_cmp []
unfolding IsStrictlySortedBy
sorted_names = tt

begin_good : IsGood begin
begin_good = record {
  store = record { sound = start_sound begin.store.limits; account = λ few. start_accounted 1 (omega arith) begin.store.limits };
  few = omega arith;
  apart = tt;
  servers = tt;
  workers_sorted = sorted_names;
  workers = tt;
  clients_sorted = sorted_names;
  clients = tt;
}

-- ---- what is good is fit

all_below : (n : ℕ) (es : List Entry) → AreSorted es → ((id : ℕ) (e : Element) → element_at id es ≡ Some e → id < n) → AllByRecursion (λ k. k < n) (keys_of es)
all_below n [] sorted all = tt
all_below n (x ∷ es) sorted all = (all x.0 x.1 (rw (itself x.0) refl), all_below n es (sorted_tail nat_cmp x.0 (keys_of es) sorted) (λ id e found. all id e (rw (past id x.0 (later id x.0 e es found (sorted_head nat_cmp x.0 (keys_of es) sorted))) found)))
  where
    itself : (n : ℕ) → is_at (nat_cmp n) n ≡ true
    itself n = grind (arith, nat_tests)

    past : (q k : ℕ) → k < q → is_at (nat_cmp q) k ≡ false
    past q k h = grind (arith, nat_tests)

few_elements : (s : State) → IsSound s → length s.elements ≤ s.next
few_elements s sound =
    let most = length-le_from_below s.next (keys_of s.elements) sound.sorted (All-from_recursion (λ k. k < s.next) (keys_of s.elements) (all_below s.next s.elements sound.sorted (λ id e found. (sound.each id e found).drawn))) in
    let same = length-keys_of s.elements in
    omega arith

fit_store : (s : State) → Holds s → s.next < 2 ^ 64 - 1 → IsFitStore s
fit_store s holds few =
    let account = holds.account few in
    let go = tellable_back s (record { sound = holds.sound; account = account }) few in
    let none = account.settled.none 0 (omega arith) in
    record {
      taken = go.0;
      back = go.1;
      stages = account.told.long;
      none = ap (λ (c : Counts). c.consumed) none;
      none_killed = ap (λ (c : Counts). c.killed) none;
      few = let h = few_elements s holds.sound in omega arith;
    }

fit_servers : (s : State) (vs : List ServerView) → AreGoodServers s vs → AllByRecursion (IsFitServer s) vs
fit_servers s [] all = tt
fit_servers s (v ∷ vs) all = (all.0.fit, fit_servers s vs all.1)

fit_workers : (s : SessionState) (ws : List (NameView × Worker)) → WorkersSo s.store s.servers ws → AllByRecursion (IsFitWorker s) ws
fit_workers s [] all = tt
fit_workers s ((name, w) ∷ ws) all = ((none_passes (λ v. bytes_eq v.name.letters name.letters) s.servers all.0.0, all.0.1), fit_workers s ws all.1)

fit_clients : (s : SessionState) (cs : List (NameView × ClientNote)) → ClientsSo s.servers s.workers s.owners cs → AllByRecursion (IsFitClient s) cs
fit_clients s [] all = tt
fit_clients s ((name, c) ∷ cs) all = ((none_passes (λ v. bytes_eq v.name.letters name.letters) s.servers all.0.0.0, all.0.0.1, all.0.1), fit_clients s cs all.1)

pub sessions_are_fit : SessionsAreFit
sessions_are_fit all plain few = go (lines_step 0 all begin).1 (lines_keep 0 all begin plain begin_good) few
  where
    go : (s : SessionState) → IsGood s → s.store.next < 2 ^ 64 - 1 → IsFit s
    go s good few = record {
      store = fit_store s.store good.store few;
      few = good.few;
      apart = good.apart;
      servers = fit_servers s.store s.servers good.servers;
      workers_sorted = good.workers_sorted;
      workers = fit_workers s s.workers good.workers;
      clients_sorted = good.clients_sorted;
      clients = fit_clients s s.clients good.clients;
    }
