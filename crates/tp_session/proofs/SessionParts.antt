-- What is so of each session, and that it stays so as its parts change.
use Rattle.std.proofs.Common.{◌≡◌, ◌∙◌, ◌≤◌, ◌<◌, ◌+◌, ℕ, zero, suc, Bool, true, false, Some, None, List, [], ◌∷◌, ◌++◌, length, refl, sym, ap, subst, arith}
use Rattle.std.specs.Prelude.{slice_get, slice_set}
use Rattle.std.specs.BTreeMap.{is_at}
use Rattle.std.specs.List.{AllByRecursion}
use Rattle.std.specs.Str.{bytes_eq}
use Rattle.std.specs.Cmp.Lexicographic.{bytes_decides}
use Rattle.tp_script.specs.declared.script.TheConstants.{MAX_SERVERS}
use Rattle.tp_lines.specs.Names.{NameView, name_cmp}
use Rattle.tp_lines.specs.declared.line.ClientNote.{ClientNote}
use Rattle.tp_store.specs.State.{State}
use Rattle.tp_session.specs.Retold.{AreInOrder, AreNamedApart, IsDrawn}
use Rattle.tp_session.specs.Roles.{named, put, without}
use Rattle.tp_session.specs.State.{ServerView, SessionState, with_store}
use Rattle.tp_session.specs.declared.worker.Worker.{Worker}
use Rattle.tp_session.proofs.ActsKeep.{all_later, AreGoodServers, AreSameNames, IsGoodServer, names_still}
use Rattle.tp_session.proofs.RolesKeep.{all_apart, AllSo, apart_from_named, none_after_put, none_without, put_so, put_sorted, same_from, tested, without_so, without_sorted}
use Rattle.tp_session.proofs.ServersBack.{AreOthers}
use Rattle.tp_session.proofs.StoreGrows.{drawn_later, Grows, Holds}

abbrev pub WorkersSo : State → List ServerView → List (NameView × Worker) → Type 0
WorkersSo store vs ws = AllSo (λ name. AreOthers name vs) (λ (w : Worker). IsDrawn store w.hand) ws

abbrev pub IsFree : List ServerView → List (NameView × Worker) → NameView → Type 0
IsFree vs ws name = AreOthers name vs × (named name ws ≡ None)

abbrev pub ClientsSo : List ServerView → List (NameView × Worker) → ℕ → List (NameView × ClientNote) → Type 0
ClientsSo vs ws owners cs = AllSo (IsFree vs ws) (λ (c : ClientNote). c.owner < owners) cs

-- each session is so
pub record IsGood (s : SessionState) : Type 0 where
  pub store : Holds s.store
  pub few : length s.servers ≤ MAX_SERVERS
  pub apart : AreNamedApart s.servers
  pub servers : AreGoodServers s.store s.servers
  pub workers_sorted : AreInOrder s.workers
  pub workers : WorkersSo s.store s.servers s.workers
  pub clients_sorted : AreInOrder s.clients
  pub clients : ClientsSo s.servers s.workers s.owners s.clients

-- ---- servers of the same names

pub same_length : (vs ws : List ServerView) → AreSameNames vs ws → length ws ≡ length vs
same_length [] [] same = refl
same_length (v ∷ vs) (w ∷ ws) same = let h = same_length vs ws same.1 in omega arith
same_length [] (w ∷ ws) same = absurd same
same_length (v ∷ vs) [] same = absurd same

pub others_same : (name : NameView) (vs ws : List ServerView) → AreSameNames vs ws → AreOthers name vs → AreOthers name ws
others_same name [] [] same all = tt
others_same name (v ∷ vs) (w ∷ ws) same all = (subst (λ n. bytes_eq n.letters name.letters ≡ false) (sym same.0) all.0, others_same name vs ws same.1 all.1)
others_same name [] (w ∷ ws) same all = absurd same
others_same name (v ∷ vs) [] same all = absurd same

-- the name of the first one is none of these
abbrev IsNoneOf : NameView → List ServerView → Type 0
IsNoneOf name vs = AllByRecursion (λ w. bytes_eq name.letters w.name.letters ≡ false) vs

none_of_same : (name : NameView) (vs ws : List ServerView) → AreSameNames vs ws → IsNoneOf name vs → IsNoneOf name ws
none_of_same name [] [] same all = tt
none_of_same name (v ∷ vs) (w ∷ ws) same all = (subst (λ n. bytes_eq name.letters n.letters ≡ false) (sym same.0) all.0, none_of_same name vs ws same.1 all.1)
none_of_same name [] (w ∷ ws) same all = absurd same
none_of_same name (v ∷ vs) [] same all = absurd same

pub apart_same : (vs ws : List ServerView) → AreSameNames vs ws → AreNamedApart vs → AreNamedApart ws
apart_same [] [] same all = tt
apart_same (v ∷ vs) (w ∷ ws) same all = (subst (λ n. IsNoneOf n ws) (sym same.0) (none_of_same v.name vs ws same.1 all.0), apart_same vs ws same.1 all.1)
apart_same [] (w ∷ ws) same all = absurd same
apart_same (v ∷ vs) [] same all = absurd same

pub workers_same : (s t : State) (vs us : List ServerView) (ws : List (NameView × Worker)) → Grows s t → AreSameNames vs us → WorkersSo s vs ws → WorkersSo t us ws
workers_same s t vs us [] grows same all = tt
workers_same s t vs us (e ∷ ws) grows same all = ((others_same e.0 vs us same all.0.0, drawn_later s t e.1.hand grows all.0.1), workers_same s t vs us ws grows same all.1)

pub clients_same : (vs us : List ServerView) (ws xs : List (NameView × Worker)) (owners more : ℕ) (cs : List (NameView × ClientNote)) → AreSameNames vs us → ((q : NameView) → named q ws ≡ None → named q xs ≡ None) → owners ≤ more → ClientsSo vs ws owners cs → ClientsSo us xs more cs
clients_same vs us ws xs owners more [] same still least all = tt
clients_same vs us ws xs owners more (e ∷ cs) same still least all = (((others_same e.0 vs us same all.0.0.0, still e.0 all.0.0.1), let low = all.0.1 in omega arith), clients_same vs us ws xs owners more cs same still least all.1)

-- ---- what changes

-- the store alone
pub good_store : (s : SessionState) (t : State) → IsGood s → Grows s.store t → IsGood (with_store t s)
good_store s t good grows = record {
  store = grows.holds;
  few = good.few;
  apart = good.apart;
  servers = all_later s.store t s.servers good.store grows good.servers;
  workers_sorted = good.workers_sorted;
  workers = workers_same s.store t s.servers s.servers s.workers grows (names_still s.servers) good.workers;
  clients_sorted = good.clients_sorted;
  clients = good.clients;
}

-- a worker that was there
pub good_worker : (s : SessionState) (name : NameView) (old w : Worker) → IsGood s → named name s.workers ≡ Some old → IsDrawn s.store w.hand → AreOthers name s.servers → IsGood (record s { workers = put name w s.workers })
good_worker s name old w good is drawn others = record {
  store = good.store;
  few = good.few;
  apart = good.apart;
  servers = good.servers;
  workers_sorted = put_sorted name w s.workers good.workers_sorted;
  workers = put_so (λ name. AreOthers name s.servers) (λ (w : Worker). IsDrawn s.store w.hand) name w s.workers others drawn good.workers;
  clients_sorted = good.clients_sorted;
  clients = clients_same s.servers s.servers s.workers (put name w s.workers) s.owners s.owners s.clients (names_still s.servers) (λ q none. none_after_put q name w s.workers (apart_from_named q name old s.workers none is) none) (omega arith) good.clients;
}

-- a worker that is new
pub good_new_worker : (s : SessionState) (name : NameView) (w : Worker) → IsGood s → AreOthers name s.servers → named name s.clients ≡ None → IsDrawn s.store w.hand → IsGood (record s { workers = put name w s.workers })
good_new_worker s name w good others none drawn = record {
  store = good.store;
  few = good.few;
  apart = good.apart;
  servers = good.servers;
  workers_sorted = put_sorted name w s.workers good.workers_sorted;
  workers = put_so (λ name. AreOthers name s.servers) (λ (w : Worker). IsDrawn s.store w.hand) name w s.workers others drawn good.workers;
  clients_sorted = good.clients_sorted;
  clients = still s.clients (all_apart name s.clients none) good.clients;
}
  where
    turned : (q : NameView) → is_at (name_cmp name) q ≡ false → is_at (name_cmp q) name ≡ false
    turned q apart = go (is_at (name_cmp q) name) refl
      where
        go : (b : Bool) → is_at (name_cmp q) name ≡ b → b ≡ false
        go true h = absurd (let same : is_at (name_cmp name) q ≡ true = subst (λ n. is_at (name_cmp n) q ≡ true) (same_from q name h) (tested q q ∙ (bytes_decides q.letters q.letters).1 refl) in cc)
        go false h = refl

    still : (cs : List (NameView × ClientNote)) → AllByRecursion (λ e. is_at (name_cmp name) e.0 ≡ false) cs → ClientsSo s.servers s.workers s.owners cs → ClientsSo s.servers (put name w s.workers) s.owners cs
    still [] apart all = tt
    still (e ∷ cs) apart all = (((all.0.0.0, none_after_put e.0 name w s.workers (turned e.0 apart.0) all.0.0.1), all.0.1), still cs apart.1 all.1)

-- a worker that leaves
pub good_left : (s : SessionState) (name : NameView) → IsGood s → IsGood (record s { workers = without name s.workers })
good_left s name good = record {
  store = good.store;
  few = good.few;
  apart = good.apart;
  servers = good.servers;
  workers_sorted = without_sorted name s.workers good.workers_sorted;
  workers = without_so (λ name. AreOthers name s.servers) (λ (w : Worker). IsDrawn s.store w.hand) name s.workers good.workers;
  clients_sorted = good.clients_sorted;
  clients = clients_same s.servers s.servers s.workers (without name s.workers) s.owners s.owners s.clients (names_still s.servers) (λ q none. none_without q name s.workers none) (omega arith) good.clients;
}

-- other servers of the same names, over a store behind
pub good_servers : (s : SessionState) (t : State) (vs : List ServerView) → IsGood s → Grows s.store t → AreSameNames s.servers vs → AreGoodServers t vs → IsGood (record s { servers = vs; store = t })
good_servers s t vs good grows same all = record {
  store = grows.holds;
  few = let long = same_length s.servers vs same in let few = good.few in omega arith;
  apart = apart_same s.servers vs same good.apart;
  servers = all;
  workers_sorted = good.workers_sorted;
  workers = workers_same s.store t s.servers vs s.workers grows same good.workers;
  clients_sorted = good.clients_sorted;
  clients = clients_same s.servers vs s.workers s.workers s.owners s.owners s.clients same (λ q none. none) (omega arith) good.clients;
}

-- one server of them
pub set_names : (vs : List ServerView) (k : ℕ) (v w : ServerView) → slice_get vs k ≡ Some v → w.name ≡ v.name → AreSameNames vs (slice_set vs k w)
set_names [] zero v w is same = absurd cc
set_names [] (suc k) v w is same = absurd cc
set_names (u ∷ vs) zero v w is same = let first : u ≡ v = cc in (same ∙ ap (λ (x : ServerView). x.name) (sym first), names_still vs)
set_names (u ∷ vs) (suc k) v w is same = (refl, set_names vs k v w is same)

pub set_all : (P : ServerView → Type 0) (vs : List ServerView) (k : ℕ) (w : ServerView) → AllByRecursion P vs → P w → AllByRecursion P (slice_set vs k w)
set_all P [] zero w all so = tt
set_all P [] (suc k) w all so = tt
set_all P (u ∷ vs) zero w all so = (so, all.1)
set_all P (u ∷ vs) (suc k) w all so = (all.0, set_all P vs k w all.1 so)

pub get_all : (P : ServerView → Type 0) (vs : List ServerView) (k : ℕ) (v : ServerView) → AllByRecursion P vs → slice_get vs k ≡ Some v → P v
get_all P [] zero v all is = absurd cc
get_all P [] (suc k) v all is = absurd cc
get_all P (u ∷ vs) zero v all is = let first : u ≡ v = cc in subst P first all.0
get_all P (u ∷ vs) (suc k) v all is = get_all P vs k v all.1 is

-- a server more
pub good_new_server : (s : SessionState) (v : ServerView) → IsGood s → IsGoodServer s.store v → AreOthers v.name s.servers → named v.name s.workers ≡ None → named v.name s.clients ≡ None → length s.servers < MAX_SERVERS → IsGood (record s { servers = s.servers ++ v ∷ [] })
good_new_server s v good fit others no_worker no_client few = record {
  store = good.store;
  few = let long = one_longer s.servers in omega arith;
  apart = one_apart s.servers others good.apart;
  servers = one_more s.servers good.servers;
  workers_sorted = good.workers_sorted;
  workers = workers_so s.workers (all_apart v.name s.workers no_worker) good.workers;
  clients_sorted = good.clients_sorted;
  clients = clients_so s.clients (all_apart v.name s.clients no_client) good.clients;
}
  where
    one_longer : (vs : List ServerView) → length (vs ++ v ∷ []) ≡ length vs + 1
    one_longer [] = refl
    one_longer (u ∷ vs) = let h = one_longer vs in omega arith

    one_more : (vs : List ServerView) → AreGoodServers s.store vs → AreGoodServers s.store (vs ++ v ∷ [])
    one_more [] all = (fit, tt)
    one_more (u ∷ vs) all = (all.0, one_more vs all.1)

    none_more : (name : NameView) (vs : List ServerView) → bytes_eq name.letters v.name.letters ≡ false → IsNoneOf name vs → IsNoneOf name (vs ++ v ∷ [])
    none_more name [] apart all = (apart, tt)
    none_more name (u ∷ vs) apart all = (all.0, none_more name vs apart all.1)

    one_apart : (vs : List ServerView) → AreOthers v.name vs → AreNamedApart vs → AreNamedApart (vs ++ v ∷ [])
    one_apart [] others all = (tt, tt)
    one_apart (u ∷ vs) others all = (none_more u.name vs others.0 all.0, one_apart vs others.1 all.1)

    others_more : (name : NameView) (vs : List ServerView) → bytes_eq v.name.letters name.letters ≡ false → AreOthers name vs → AreOthers name (vs ++ v ∷ [])
    others_more name [] apart all = (apart, tt)
    others_more name (u ∷ vs) apart all = (all.0, others_more name vs apart all.1)

    workers_so : (ws : List (NameView × Worker)) → AllByRecursion (λ e. is_at (name_cmp v.name) e.0 ≡ false) ws → WorkersSo s.store s.servers ws → WorkersSo s.store (s.servers ++ v ∷ []) ws
    workers_so [] apart all = tt
    workers_so (e ∷ ws) apart all = ((others_more e.0 s.servers (sym (tested v.name e.0) ∙ apart.0) all.0.0, all.0.1), workers_so ws apart.1 all.1)

    clients_so : (cs : List (NameView × ClientNote)) → AllByRecursion (λ e. is_at (name_cmp v.name) e.0 ≡ false) cs → ClientsSo s.servers s.workers s.owners cs → ClientsSo (s.servers ++ v ∷ []) s.workers s.owners cs
    clients_so [] apart all = tt
    clients_so (e ∷ cs) apart all = (((others_more e.0 s.servers (sym (tested v.name e.0) ∙ apart.0) all.0.0.0, all.0.0.1), all.0.1), clients_so cs apart.1 all.1)

-- a client's note, and so many clients
pub good_client : (s : SessionState) (name : NameView) (c : ClientNote) (owners : ℕ) → IsGood s → AreOthers name s.servers → named name s.workers ≡ None → c.owner < owners → s.owners ≤ owners → IsGood (record s { clients = put name c s.clients; owners = owners })
good_client s name c owners good others none low least = record {
  store = good.store;
  few = good.few;
  apart = good.apart;
  servers = good.servers;
  workers_sorted = good.workers_sorted;
  workers = good.workers;
  clients_sorted = put_sorted name c s.clients good.clients_sorted;
  clients = put_so (IsFree s.servers s.workers) (λ (c : ClientNote). c.owner < owners) name c s.clients (others, none) low (clients_same s.servers s.servers s.workers s.workers s.owners owners s.clients (names_still s.servers) (λ q none. none) least good.clients);
}

pub good_forgotten : (s : SessionState) (name : NameView) → IsGood s → IsGood (record s { clients = without name s.clients })
good_forgotten s name good = record {
  store = good.store;
  few = good.few;
  apart = good.apart;
  servers = good.servers;
  workers_sorted = good.workers_sorted;
  workers = good.workers;
  clients_sorted = without_sorted name s.clients good.clients_sorted;
  clients = without_so (IsFree s.servers s.workers) (λ (c : ClientNote). c.owner < s.owners) name s.clients good.clients;
}
