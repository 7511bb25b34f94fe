-- The lines of workers and clients, told again in the order of their names.
use Rattle.std.proofs.Common.{◌≡◌, ◌∙◌, ◌==◌, ◌<◌, nat_lt, ℕ, Bool, true, false, if◌then◌else◌, Option, Some, None, Ok, List, [], ◌∷◌, ◌++◌, map, refl, sym, ap, subst, append_assoc, arith}
use Rattle.std.specs.Ordering.{is_eq, ordering_reverse}
use Rattle.std.specs.declared.cmp.Ordering.{Ordering}
use Rattle.std.specs.declared.cmp.Ordering.TheVariants.{Less, Equal, Greater}
use Rattle.std.specs.BTreeMap.{is_at}
use Rattle.std.specs.Cmp.{IsTotalOrder}
use Rattle.std.specs.Cmp.Lexicographic.{on_texts}
use Rattle.std.specs.List.{AllByRecursion, flat_map}
use Rattle.std.specs.Map.{keys_of}
use Rattle.std.proofs.lemmas.Bool.Decides.{nat_tests}
use Rattle.std.proofs.lemmas.List.{append-nil}
use Rattle.std.proofs.lemmas.Map.Keys.{sorted_head, sorted_tail}
use Rattle.std.proofs.lemmas.Map.Text.{is_eq-slice_cmp}
use Rattle.tp_lines.specs.Names.{NameView, name_cmp}
use Rattle.tp_lines.specs.declared.line.ClientNote.{ClientNote}
use Rattle.tp_lines.specs.declared.line.HeadLine.TheVariants as head
use Rattle.tp_lines.specs.declared.line.UnitEnd.{UnitEnd}
use Rattle.tp_session.specs.Dumps.{client_line, ended_lines, from_lines, hand_lines, worker_lines}
use Rattle.tp_session.specs.Heads.{new_worker, Set}
use Rattle.tp_session.specs.Retold.{AreInOrder, IsDrawn, IsFitClient, IsFitWorker}
use Rattle.tp_session.specs.Roles.{named, put, server_at}
use Rattle.tp_session.specs.State.{SessionState}
use Rattle.tp_session.specs.declared.hand.Hand.{Hand}
use Rattle.tp_session.specs.declared.phase.Phase.{Phase}
use Rattle.tp_session.specs.declared.phase.Phase.TheVariants.{InHead}
use Rattle.tp_session.specs.declared.worker.Worker.{Worker}
use Rattle.tp_session.proofs.Replay.{at, Leads, leads_both, leads_one, Step}
use Rattle.tp_session.proofs.ServersBack.{same_name}

below : (m n : ℕ) → m < n → nat_lt m n ≡ true
below m n h = grind (arith, nat_tests)

as_number : (m n : ℕ) → (m == n) ≡ true → m ≡ n
as_number m n h = grind (arith, nat_tests)

-- ---- names in order

pub names_total : IsTotalOrder name_cmp
names_total = on_texts (λ (n : NameView). n.letters)

pub behind : (a b : NameView) → name_cmp a b ≡ Less → name_cmp b a ≡ Greater
behind a b h = names_total.antisymm b a ∙ ap ordering_reverse h

pub itself : (a : NameView) → is_at (name_cmp a) a ≡ true
itself a = is_eq-slice_cmp a.letters a.letters ∙ same_name a

equal_itself : (a : NameView) → name_cmp a a ≡ Equal
equal_itself a = go (name_cmp a a) (itself a)
  where
    go : (o : Ordering) → is_eq o ≡ true → o ≡ Equal
    go Less h = absurd cc
    go Equal h = refl
    go Greater h = absurd cc

pub apart : (a b : NameView) → name_cmp a b ≡ Less → is_at (name_cmp b) a ≡ false
apart a b h = rw (behind a b h) refl

module _ {A : Type 0} where
  below_last : (k name : NameView) (x : A) (pre rest : List (NameView × A)) → AllByRecursion (λ y. name_cmp k y ≡ Less) (keys_of (pre ++ (name, x) ∷ rest)) → name_cmp k name ≡ Less
  below_last k name x [] rest all = all.0
  below_last k name x (y ∷ pre) rest all = below_last k name x pre rest all.1

  -- one behind all others
  pub put_last : (name : NameView) (x z : A) (pre rest : List (NameView × A)) → AreInOrder (pre ++ (name, x) ∷ rest) → put name z pre ≡ pre ++ (name, z) ∷ []
  put_last name x z [] rest sorted = refl
  put_last name x z (y ∷ pre) rest sorted = rw (behind y.0 name (below_last y.0 name x pre rest (sorted_head name_cmp y.0 (keys_of (pre ++ (name, x) ∷ rest)) sorted))) (ap (λ ys. y ∷ ys) (put_last name x z pre rest (sorted_tail name_cmp y.0 (keys_of (pre ++ (name, x) ∷ rest)) sorted)))

  pub none_before : (name : NameView) (x : A) (pre rest : List (NameView × A)) → AreInOrder (pre ++ (name, x) ∷ rest) → named name pre ≡ None
  none_before name x [] rest sorted = refl
  none_before name x (y ∷ pre) rest sorted = rw (apart y.0 name (below_last y.0 name x pre rest (sorted_head name_cmp y.0 (keys_of (pre ++ (name, x) ∷ rest)) sorted))) (none_before name x pre rest (sorted_tail name_cmp y.0 (keys_of (pre ++ (name, x) ∷ rest)) sorted))

  -- the last one
  pub last_named : (name : NameView) (x z : A) (pre rest : List (NameView × A)) → AreInOrder (pre ++ (name, x) ∷ rest) → named name (pre ++ (name, z) ∷ []) ≡ Some z
  last_named name x z [] rest sorted = rw (itself name) refl
  last_named name x z (y ∷ pre) rest sorted = rw (apart y.0 name (below_last y.0 name x pre rest (sorted_head name_cmp y.0 (keys_of (pre ++ (name, x) ∷ rest)) sorted))) (last_named name x z pre rest (sorted_tail name_cmp y.0 (keys_of (pre ++ (name, x) ∷ rest)) sorted))

  pub put_again : (name : NameView) (x z w : A) (pre rest : List (NameView × A)) → AreInOrder (pre ++ (name, x) ∷ rest) → put name w (pre ++ (name, z) ∷ []) ≡ pre ++ (name, w) ∷ []
  put_again name x z w [] rest sorted = rw (equal_itself name) refl
  put_again name x z w (y ∷ pre) rest sorted = rw (behind y.0 name (below_last y.0 name x pre rest (sorted_head name_cmp y.0 (keys_of (pre ++ (name, x) ∷ rest)) sorted))) (ap (λ ys. y ∷ ys) (put_again name x z w pre rest (sorted_tail name_cmp y.0 (keys_of (pre ++ (name, x) ∷ rest)) sorted)))

abbrev pub good : SessionState → Set
good s = Ok s

module _ (s : SessionState) where
  -- ---- workers

  -- its servers, these workers, and no client
  abbrev pub working : List (NameView × Worker) → SessionState
  working ws = record { store = s.store; servers = s.servers; workers = ws; clients = []; owners = s.owners; phase = InHead }

  module _ (pre rest : List (NameView × Worker)) (name : NameView) (w : Worker) (new : server_at name s ≡ None) (sorted : AreInOrder (pre ++ (name, w) ∷ rest)) where
    -- how the last one stands
    abbrev standing : Option Hand → ℕ → Option UnitEnd → Worker
    standing hand from end = record { stage = w.stage; hand = hand; from = from; end = end }

    abbrev stands : Option Hand → ℕ → Option UnitEnd → SessionState
    stands hand from end = working (pre ++ (name, standing hand from end) ∷ [])

    begins : Step (head.Worker name w.stage) (working pre) (stands None 0 None)
    begins p = rw (new, none_before name w pre rest sorted) (ap (λ ws. good (at p (working ws))) (put_last name w (new_worker w.stage) pre rest sorted))

    put_so : (x z : Worker) (p : Phase) → good (at p (working (put name z (pre ++ (name, x) ∷ [])))) ≡ good (at p (working (pre ++ (name, z) ∷ [])))
    put_so x z p = ap (λ ws. good (at p (working ws))) (put_again name w x z pre rest sorted)

    goes_on : (from : ℕ) → Leads (from_lines name from) (stands None 0 None) (stands None from None)
    goes_on from = go (from == 0) refl
      where
        go : (b : Bool) → (from == 0) ≡ b → Leads (if b then [] else head.From name from ∷ []) (stands None 0 None) (stands None from None)
        go true is = ap (λ n. stands None n None) (sym (as_number from 0 is))
        go false is = leads_one (head.From name from) (stands None 0 None) (stands None from None) (λ p. rw (last_named name w (standing None 0 None) pre rest sorted) (put_so (standing None 0 None) (standing None from None) p))

    holds : (hand : Option Hand) (from : ℕ) → IsDrawn s.store hand → Leads (hand_lines name hand) (stands None from None) (stands hand from None)
    holds None from drawn = refl
    holds (Some h) from drawn = leads_one (head.Hand name h.id h.unit h.tries) (stands None from None) (stands (Some h) from None) (λ p. rw (below h.id s.store.next drawn.0, below h.unit s.store.units drawn.1, last_named name w (standing None from None) pre rest sorted) (put_so (standing None from None) (standing (Some h) from None) p))

    ends : (hand : Option Hand) (from : ℕ) (end : Option UnitEnd) → Leads (ended_lines name end) (stands hand from None) (stands hand from end)
    ends hand from None = refl
    ends hand from (Some how) = leads_one (head.Ended name how) (stands hand from None) (stands hand from (Some how)) (λ p. rw (last_named name w (standing hand from None) pre rest sorted) (put_so (standing hand from None) (standing hand from (Some how)) p))

    worker_back : IsDrawn s.store w.hand → Leads (worker_lines (name, w)) (working pre) (working (pre ++ (name, w) ∷ []))
    worker_back drawn = (
      stands None 0 None,
      begins,
      leads_both (from_lines name w.from ++ hand_lines name w.hand) (ended_lines name w.end) (stands None 0 None) (stands w.hand w.from None) (working (pre ++ (name, w) ∷ []))
          (leads_both (from_lines name w.from) (hand_lines name w.hand) (stands None 0 None) (stands None w.from None) (stands w.hand w.from None) (goes_on w.from) (holds w.hand w.from drawn))
          (ends w.hand w.from w.end),
    )

  pub workers_back : (pre ws : List (NameView × Worker)) → AllByRecursion (IsFitWorker s) ws → AreInOrder (pre ++ ws) → Leads (flat_map worker_lines ws) (working pre) (working (pre ++ ws))
  workers_back pre [] fit sorted = ap working (sym (append-nil pre))
  workers_back pre ((name, w) ∷ ws) fit sorted =
      leads_both (worker_lines (name, w)) (flat_map worker_lines ws) (working pre) (working (pre ++ (name, w) ∷ [])) (working (pre ++ (name, w) ∷ ws)) (worker_back pre ws name w fit.0.0 sorted fit.0.1)
      (subst (λ xs. Leads (flat_map worker_lines ws) (working (pre ++ (name, w) ∷ [])) (working xs)) (append_assoc pre ((name, w) ∷ []) ws) (workers_back (pre ++ (name, w) ∷ []) ws fit.1 (subst AreInOrder (sym (append_assoc pre ((name, w) ∷ []) ws)) sorted)))

  -- ---- clients

  -- its servers and workers, and these clients
  abbrev pub knowing : List (NameView × ClientNote) → SessionState
  knowing cs = record { store = s.store; servers = s.servers; workers = s.workers; clients = cs; owners = s.owners; phase = InHead }

  client_back : (pre rest : List (NameView × ClientNote)) (name : NameView) (c : ClientNote) → IsFitClient s (name, c) → AreInOrder (pre ++ (name, c) ∷ rest) → Step (head.Client name c) (knowing pre) (knowing (pre ++ (name, c) ∷ []))
  client_back pre rest name c fit sorted p = rw (fit.0, fit.1, none_before name c pre rest sorted, below c.owner s.owners fit.2) (ap (λ cs. good (at p (knowing cs))) (put_last name c c pre rest sorted))

  pub clients_back : (pre cs : List (NameView × ClientNote)) → AllByRecursion (IsFitClient s) cs → AreInOrder (pre ++ cs) → Leads (map client_line cs) (knowing pre) (knowing (pre ++ cs))
  clients_back pre [] fit sorted = ap knowing (sym (append-nil pre))
  clients_back pre ((name, c) ∷ cs) fit sorted =
      (knowing (pre ++ (name, c) ∷ []), client_back pre cs name c fit.0 sorted, subst (λ xs. Leads (map client_line cs) (knowing (pre ++ (name, c) ∷ [])) (knowing xs)) (append_assoc pre ((name, c) ∷ []) cs) (clients_back (pre ++ (name, c) ∷ []) cs fit.1 (subst AreInOrder (sym (append_assoc pre ((name, c) ∷ []) cs)) sorted)))
