-- The lines of servers, told again.
use Rattle.std.proofs.Common.{◌≡◌, ◌==◌, ◌≤◌, ◌<◌, ◌+◌, nat_lt, ℕ, Bool, true, false, if◌then◌else◌, is_none, is_some, Option, Some, None, Ok, List, [], ◌∷◌, ◌++◌, length, refl, sym, ap, subst, append_assoc, arith}
use Rattle.std.specs.Prelude.{position, replicate, slice_get}
use Rattle.std.specs.List.{AllByRecursion, flat_map, position_or_len}
use Rattle.std.specs.Str.{bytes_eq}
use Rattle.std.specs.Cmp.Lexicographic.{bytes_decides}
use Rattle.std.proofs.lemmas.Bool.Decides.{nat_tests}
use Rattle.std.proofs.lemmas.List.{append-nil}
use Rattle.std.proofs.Math.Seq.{set-append_seam}
use Rattle.tp_script.specs.declared.script.TheConstants.{MAX_SERVERS}
use Rattle.tp_lines.specs.Lines.{ServerLineView}
use Rattle.tp_lines.specs.Names.{NameView}
use Rattle.tp_lines.specs.declared.line.HeadLine.TheVariants as head
use Rattle.tp_store.specs.State.{State}
use Rattle.tp_session.specs.Dumps.{dropped_lines, from_lines, hand_lines, prepared_lines, server_lines, standing_lines, start_lines}
use Rattle.tp_session.specs.Heads.{Change, new_server, server_changed, server_from, server_has, with_drop, with_prepared, with_start}
use Rattle.tp_session.specs.Retold.{AreNamedApart, IsDrawn, IsFitServer}
use Rattle.tp_session.specs.State.{ServerView, SessionState}
use Rattle.tp_session.specs.declared.hand.Hand.{Hand}
use Rattle.tp_session.specs.declared.phase.Phase.{Phase}
use Rattle.tp_session.specs.declared.phase.Phase.TheVariants.{InHead}
use Rattle.tp_session.proofs.Replay.{at, Leads, leads_both, leads_one, Step}

-- ---- places

below : (m n : ℕ) → m < n → nat_lt m n ≡ true
below m n h = grind (arith, nat_tests)

not_less : (n : ℕ) → nat_lt n n ≡ false
not_less n = grind (arith, nat_tests)

pub length_last : {A : Type 0} (xs : List A) (x : A) → length (xs ++ x ∷ []) ≡ length xs + 1
length_last [] x = refl
length_last (y ∷ xs) x = let h = length_last xs x in omega arith

module _ {A : Type 0} (p : A → Bool) where
  all_past : (xs : List A) → AllByRecursion (λ x. p x ≡ false) xs → position_or_len p xs ≡ length xs
  all_past [] all = refl
  all_past (x ∷ xs) all = let h = all_past xs all.1 in rw all.0 (omega arith)

  pub none_passes : (xs : List A) → AllByRecursion (λ x. p x ≡ false) xs → position p xs ≡ None
  none_passes xs all = rw (all_past xs all, not_less (length xs)) refl

  first_past : (xs : List A) (x : A) (ys : List A) → AllByRecursion (λ x. p x ≡ false) xs → p x ≡ true → position_or_len p (xs ++ x ∷ ys) ≡ length xs
  first_past [] x ys all is = rw is refl
  first_past (y ∷ xs) x ys all is = let h = first_past xs x ys all.1 is in rw all.0 (omega arith)

  pub last_passes : (xs : List A) (x : A) → AllByRecursion (λ x. p x ≡ false) xs → p x ≡ true → position p (xs ++ x ∷ []) ≡ Some (length xs)
  last_passes xs x all is = rw (first_past xs x [] all is, length_last xs x, below (length xs) (length xs + 1) (omega arith)) refl

pub get_last : {A : Type 0} (xs : List A) (x : A) → slice_get (xs ++ x ∷ []) (length xs) ≡ Some x
get_last [] x = refl
get_last (y ∷ xs) x = get_last xs x

-- ---- the last server

-- none of these has this name
abbrev pub AreOthers : NameView → List ServerView → Type 0
AreOthers name vs = AllByRecursion (λ v. bytes_eq v.name.letters name.letters ≡ false) vs

pub same_name : (name : NameView) → bytes_eq name.letters name.letters ≡ true
same_name name = (bytes_decides name.letters name.letters).1 refl

last_changed : (pre : List ServerView) (v w : ServerView) (change : Change) (s : SessionState) → s.servers ≡ pre ++ v ∷ [] → AreOthers v.name pre → change v ≡ Ok w → server_changed v.name change s ≡ Ok (record s { servers = pre ++ w ∷ [] })
last_changed pre v w change s is others done = rw (is, last_passes (λ x. bytes_eq x.name.letters v.name.letters) pre v others (same_name v.name), get_last pre v, done) (ap (λ vs. Ok (record s { servers = vs })) (set-append_seam pre v [] w))

-- a server with the name, the kind and the recipe of this one, that stands so
abbrev pub like : ServerView → List ℕ → Option Hand → Bool → Bool → ℕ → ServerView
like v registers hand is_prepared is_dropped from = record {
  name = v.name;
  kind = v.kind;
  recipe = v.recipe;
  registers = registers;
  hand = hand;
  is_prepared = is_prepared;
  is_dropped = is_dropped;
  from = from;
}

module _ (store : State) (owners : ℕ) where
  -- these servers, and nothing more
  abbrev pub so_far : List ServerView → SessionState
  so_far vs = record { store = store; servers = vs; workers = []; clients = []; owners = owners; phase = InHead }

  begins : (pre : List ServerView) (line : ServerLineView) → AreOthers line.name pre → length pre < MAX_SERVERS → Step (head.Server line) (so_far pre) (so_far (pre ++ new_server line ∷ []))
  begins pre line others few p = rw (none_passes (λ v. bytes_eq v.name.letters line.name.letters) pre others, below (length pre) MAX_SERVERS few) refl

  module _ (pre : List ServerView) (v : ServerView) (others : AreOthers v.name pre) where
    changes : (w x : ServerView) (change : Change) → w.name ≡ v.name → change w ≡ Ok x → (p : Phase) → server_changed v.name change (at p (so_far (pre ++ w ∷ []))) ≡ Ok (at p (so_far (pre ++ x ∷ [])))
    changes w x change named done p = subst (λ n. server_changed n change (at p (so_far (pre ++ w ∷ []))) ≡ Ok (at p (so_far (pre ++ x ∷ [])))) named (last_changed pre w x change (at p (so_far (pre ++ w ∷ []))) refl (subst (λ n. AreOthers n pre) (sym named) others) done)

    -- ---- registers

    abbrev fresh : List ℕ → SessionState
    fresh registers = so_far (pre ++ like v registers None false false 0 ∷ [])

    start_one : (done : List ℕ) (x : ℕ) (rest : List ℕ) → Step (head.Start v.name (length done) x) (fresh (done ++ 0 ∷ rest)) (fresh (done ++ x ∷ rest))
    start_one done x rest = changes (like v (done ++ 0 ∷ rest) None false false 0) (like v (done ++ x ∷ rest) None false false 0) (with_start (length done) x) refl (rw (inside done) (ap (λ rs. Ok (like v rs None false false 0)) (set-append_seam done 0 rest x)))
      where
        longer : (xs : List ℕ) → length xs < length (xs ++ 0 ∷ rest)
        longer [] = omega arith
        longer (y ∷ xs) = let h = longer xs in omega arith

        inside : (xs : List ℕ) → nat_lt (length xs) (length (xs ++ 0 ∷ rest)) ≡ true
        inside xs = below (length xs) (length (xs ++ 0 ∷ rest)) (longer xs)

    as_number : (m n : ℕ) → (m == n) ≡ true → m ≡ n
    as_number m n h = grind (arith, nat_tests)

    starts : (done values : List ℕ) → Leads (start_lines v.name (length done) values) (fresh (done ++ replicate (length values) 0)) (fresh (done ++ values))
    starts done [] = refl
    starts done (x ∷ xs) = go (x == 0) refl (starts (done ++ x ∷ []) xs)
      where
        go : (b : Bool) → (x == 0) ≡ b → Leads (start_lines v.name (length (done ++ x ∷ [])) xs) (fresh ((done ++ x ∷ []) ++ replicate (length xs) 0)) (fresh ((done ++ x ∷ []) ++ xs)) → Leads ((if b then [] else head.Start v.name (length done) x ∷ []) ++ start_lines v.name (length done + 1) xs) (fresh (done ++ 0 ∷ replicate (length xs) 0)) (fresh (done ++ x ∷ xs))
        go b is rest = with_first b is (rw (length_last done x, append_assoc done (x ∷ []) (replicate (length xs) 0), append_assoc done (x ∷ []) xs) at rest)
          where
            with_first : (b : Bool) → (x == 0) ≡ b → Leads (start_lines v.name (length done + 1) xs) (fresh (done ++ x ∷ replicate (length xs) 0)) (fresh (done ++ x ∷ xs)) → Leads ((if b then [] else head.Start v.name (length done) x ∷ []) ++ start_lines v.name (length done + 1) xs) (fresh (done ++ 0 ∷ replicate (length xs) 0)) (fresh (done ++ x ∷ xs))
            with_first true is rest = subst (λ n. Leads (start_lines v.name (length done + 1) xs) (fresh (done ++ n ∷ replicate (length xs) 0)) (fresh (done ++ x ∷ xs))) (as_number x 0 is) rest
            with_first false is rest = (fresh (done ++ x ∷ replicate (length xs) 0), start_one done x (replicate (length xs) 0), rest)

    -- ---- how it stands

    abbrev stands : List ℕ → Option Hand → Bool → Bool → ℕ → SessionState
    stands registers hand is_prepared is_dropped from = so_far (pre ++ like v registers hand is_prepared is_dropped from ∷ [])

    goes_on : (registers : List ℕ) (from : ℕ) → Leads (from_lines v.name from) (stands registers None false false 0) (stands registers None false false from)
    goes_on registers from = go (from == 0) refl
      where
        go : (b : Bool) → (from == 0) ≡ b → Leads (if b then [] else head.From v.name from ∷ []) (stands registers None false false 0) (stands registers None false false from)
        go true is = ap (λ n. stands registers None false false n) (sym (as_number from 0 is))
        go false is = leads_one (head.From v.name from) (stands registers None false false 0) (stands registers None false false from) (changes (like v registers None false false 0) (like v registers None false false from) (server_from from) refl refl)

    holds : (registers : List ℕ) (hand : Option Hand) (from : ℕ) → IsDrawn store hand → Leads (hand_lines v.name hand) (stands registers None false false from) (stands registers hand false false from)
    holds registers None from drawn = refl
    holds registers (Some h) from drawn = leads_one (head.Hand v.name h.id h.unit h.tries) (stands registers None false false from) (stands registers (Some h) false false from) (λ p. rw (below h.id store.next drawn.0, below h.unit store.units drawn.1) (changes (like v registers None false false from) (like v registers (Some h) false false from) (server_has h) refl refl p))

    prepares : (registers : List ℕ) (hand : Option Hand) (is_prepared : Bool) (from : ℕ) → (is_prepared ≡ true → is_some hand ≡ true) → Leads (prepared_lines v.name is_prepared) (stands registers hand false false from) (stands registers hand is_prepared false from)
    prepares registers hand false from with_hand = refl
    prepares registers hand true from with_hand = leads_one (head.Prepared v.name) (stands registers hand false false from) (stands registers hand true false from) (changes (like v registers hand false false from) (like v registers hand true false from) with_prepared refl (rw (with_hand refl) refl))

    drops : (registers : List ℕ) (hand : Option Hand) (is_prepared is_dropped : Bool) (from : ℕ) → (is_dropped ≡ true → is_none hand ≡ true) → Leads (dropped_lines v.name is_dropped) (stands registers hand is_prepared false from) (stands registers hand is_prepared is_dropped from)
    drops registers hand is_prepared false from without_hand = refl
    drops registers hand is_prepared true from without_hand = leads_one (head.Dropped v.name) (stands registers hand is_prepared false from) (stands registers hand is_prepared true from) (changes (like v registers hand is_prepared false from) (like v registers hand is_prepared true from) with_drop refl (rw (without_hand refl) refl))

    standing : IsFitServer store v → Leads (standing_lines v) (stands v.registers None false false 0) (so_far (pre ++ v ∷ []))
    standing fit =
        let at_from = stands v.registers None false false v.from in
        let with_hand = stands v.registers v.hand false false v.from in
        let with_work = stands v.registers v.hand v.is_prepared false v.from in
        let blank = stands v.registers None false false 0 in
        leads_both (from_lines v.name v.from ++ hand_lines v.name v.hand ++ prepared_lines v.name v.is_prepared) (dropped_lines v.name v.is_dropped) blank with_work (so_far (pre ++ v ∷ []))
        (leads_both (from_lines v.name v.from ++ hand_lines v.name v.hand) (prepared_lines v.name v.is_prepared) blank with_hand with_work
        (leads_both (from_lines v.name v.from) (hand_lines v.name v.hand) blank at_from with_hand (goes_on v.registers v.from) (holds v.registers v.hand v.from fit.drawn))
        (prepares v.registers v.hand v.is_prepared v.from fit.prepared))
        (drops v.registers v.hand v.is_prepared v.is_dropped v.from fit.dropped)

    server_back : IsFitServer store v → length pre < MAX_SERVERS → Leads (server_lines v) (so_far pre) (so_far (pre ++ v ∷ []))
    server_back fit few =
        let first = begins pre (record { name = v.name; kind = v.kind; recipe = v.recipe }) others few in
        (fresh (replicate v.recipe.registers 0), first, leads_both (start_lines v.name 0 v.registers) (standing_lines v) (fresh (replicate v.recipe.registers 0)) (fresh v.registers) (so_far (pre ++ v ∷ [])) (subst (λ n. Leads (start_lines v.name 0 v.registers) (fresh (replicate n 0)) (fresh v.registers)) fit.registers (starts [] v.registers)) (standing fit))

  -- ---- all of them

  others_before : (pre : List ServerView) (v : ServerView) (vs : List ServerView) → AreNamedApart (pre ++ v ∷ vs) → AreOthers v.name pre
  others_before [] v vs apart = tt
  others_before (x ∷ pre) v vs apart = (first pre apart.0, others_before pre v vs apart.1)
    where
      first : (ys : List ServerView) → AllByRecursion (λ w. bytes_eq x.name.letters w.name.letters ≡ false) (ys ++ v ∷ vs) → bytes_eq x.name.letters v.name.letters ≡ false
      first [] all = all.0
      first (y ∷ ys) all = first ys all.1

  pub servers_back : (pre vs : List ServerView) → AllByRecursion (IsFitServer store) vs → AreNamedApart (pre ++ vs) → length pre + length vs ≤ MAX_SERVERS → Leads (flat_map server_lines vs) (so_far pre) (so_far (pre ++ vs))
  servers_back pre [] fit apart few = ap so_far (sym (append-nil pre))
  servers_back pre (v ∷ vs) fit apart few =
      leads_both (server_lines v) (flat_map server_lines vs) (so_far pre) (so_far (pre ++ v ∷ [])) (so_far (pre ++ v ∷ vs)) (server_back pre v (others_before pre v vs apart) fit.0 (omega arith))
      (subst (λ ws. Leads (flat_map server_lines vs) (so_far (pre ++ v ∷ [])) (so_far ws)) (append_assoc pre (v ∷ []) vs) (servers_back (pre ++ v ∷ []) vs fit.1 (subst AreNamedApart (sym (append_assoc pre (v ∷ []) vs)) apart) (let h = length_last pre v in omega arith)))
