-- The elements of a request, listed where nobody else acts.
use Rattle.std.proofs.Common.{◌≡◌, ℕ, ◌+◌, ◌-◌, ◌==◌, Bool, true, List, [], ◌∷◌, Option, Some, None, Result, Ok, Err, refl, sym, ◌∙◌, ap, ⊎_elim, arith}
use Rattle.std.specs.Prelude.{is_some}
use Rattle.std.specs.Option.{option_and_then}
use Rattle.std.specs.Result.{result_ok}
use Rattle.tp_model.specs.declared.types.Element.{Element}
use Rattle.tp_model.specs.declared.types.Limits.{Limits}
use Rattle.tp_model.specs.declared.types.Look.{Look}
use Rattle.tp_model.specs.declared.types.Refusal.{Refusal}
use Rattle.tp_model.specs.declared.event.Event.{Event}
use Rattle.tp_model.specs.History.{element_of}
use Rattle.tp_model.specs.Steps.{rows_of}
use Rattle.tp_model.proofs.Bridges.{element_of-id}
use Rattle.tp_plain.specs.Computed.{family_of, read_found, read_of}
use Rattle.tp_plain.specs.Listings.{member_found, next_member_of}
use Rattle.tp_plain.specs.Looks.{look_at}
use Rattle.tp_plain.specs.OneThread.{State}
use Rattle.tp_manager.specs.Bounds.{family_steps}
use Rattle.tp_manager.specs.Shown.{KeeperShown, PassShown}
use Rattle.tp_rollover.specs.Thread.{thread_of}
use Rattle.tp_rollover.proofs.AloneMembers.{alone_family}
use Rattle.tp_commands.specs.Asked.{TellsFamily}
use Rattle.tp_reference.specs.PlainClient.{client, member_in, picked, picked_of}
use Rattle.tp_exact.specs.Acts.{Acts}
use Rattle.tp_exact.proofs.Parts.{Went, first_part, idle, last_part, middle, seen_by, went_by, went_none, went_on, whole}
use Rattle.tp_exact.proofs.Picks.{at, is_picked, none_from, past_all, picks, picks_all, some_from}
use Rattle.tp_exact.proofs.Replies.{some_tested, tests_some}

module _ (root : ℕ) (s : State) where
  abbrev pub member_at : ℕ → Bool
  member_at i = member_found root (element_of s.history i)

  same_at : (i : ℕ) (o : Option Element) → member_found root o ≡ is_some (picked (member_in root) (read_found s o))
  same_at i None = refl
  same_at i (Some e) = tests_some (e.root == root) (look_at s.limits.attempts s.history e)

  pub member_same : (i : ℕ) → member_at i ≡ is_some (at (member_in root) s i)
  member_same i = same_at i (element_of s.history i)

  pub member_is : (i : ℕ) (look : Look) → read_of s i ≡ Ok look → is_some (at (member_in root) s i) ≡ true → at (member_in root) s i ≡ Some look
  member_is i look read some =
      let is : at (member_in root) s i ≡ picked (member_in root) (Ok look) = ap (picked (member_in root)) read in
      is ∙ some_tested (look.element.root == root) look (sym (ap is_some is) ∙ some)

  -- a read shows the element with the id that was asked for
  read_id : (i : ℕ) (o : Option Element) (look : Look) → element_of s.history i ≡ o → read_found s o ≡ Ok look → look.element.id ≡ i
  read_id i None look is read = absurd cc
  read_id i (Some e) look is read =
      let same : look_at s.limits.attempts s.history e ≡ look = cc in
      ap (λ (k : Look). k.element.id) (sym same) ∙ element_of-id s.history i e is

  ok_is : (r : Result Look Refusal) (look : Look) → result_ok r ≡ Some look → r ≡ Ok look
  ok_is (Ok x) look is = let same : x ≡ look = cc in ap (λ z. Ok z) same
  ok_is (Err why) look is = absurd cc

  -- what was found is the next one
  some_of : (from : ℕ) (o : Option ℕ) (look : Look) → option_and_then (λ i. result_ok (read_of s i)) o ≡ Some look → (o ≡ Some look.element.id) × (read_of s look.element.id ≡ Ok look)
  some_of from None look is = absurd cc
  some_of from (Some i) look is =
      let read : read_of s i ≡ Ok look = ok_is (read_of s i) look is in
      let id : look.element.id ≡ i = read_id i (element_of s.history i) look refl read in
      (ap (λ j. Some j) (sym id), ap (read_of s) id ∙ read)

  pub family_some : (from : ℕ) (look : Look) → family_of s root from ≡ Some look → (next_member_of s root from ≡ Some look.element.id) × (read_of s look.element.id ≡ Ok look)
  family_some from look is = some_of from (next_member_of s root from) look is

  none_read : (r : Result Look Refusal) → is_some (picked (member_in root) r) ≡ true → result_ok r ≡ None → ⊥
  none_read (Ok x) some none = absurd cc
  none_read (Err why) some none = absurd cc

  none_of : (from : ℕ) (o : Option ℕ) → next_member_of s root from ≡ o → option_and_then (λ i. result_ok (read_of s i)) o ≡ None → o ≡ None
  none_of from None is none = refl
  none_of from (Some i) is none =
      absurd (none_read (read_of s i) (is_picked (member_in root) s member_at member_same (rows_of s.limits) from i is) none)

  pub family_none : (from : ℕ) → family_of s root from ≡ None → next_member_of s root from ≡ None
  family_none from none = none_of from (next_member_of s root from) refl none

pub members_go : (l : Limits) (root from : ℕ) (old : PassShown) (found : List Look) (new : PassShown) → TellsFamily l root from old found new → Went old new
members_go l root from old [] new t = ⊎_elim (λ f. went_by (family_steps l) old new f.0.follows f.1.run.2) (λ none. went_none old new none.1) t
members_go l root from old (look ∷ rest) new t =
    let f = t.1 in
    went_on old t.0 new (went_by (family_steps l) old t.0 f.0.follows f.1.run.2) (members_go l root (look.element.id + 1) t.0 rest new t.2)

module _ (l : Limits) (keeper' : KeeperShown) (news : List PassShown) (h' : List Event) (root : ℕ) (new : PassShown) where
  members_are : (found : List Look) (from : ℕ) (keeper : KeeperShown) (olds : List PassShown) (h : List Event) (old : PassShown) → Acts l keeper keeper' olds news h h' client old new → TellsFamily l root from old found new
      → (found ≡ picks (member_in root) (thread_of l olds h) from (rows_of l - from)) × (thread_of l news h' ≡ thread_of l olds h)
  members_are [] from keeper olds h old a t = ⊎_elim
      (λ f.
      let s : State = thread_of l olds h in
      let law = alone_family root from l keeper keeper' olds news h h' (family_steps l) client old new None (whole l keeper keeper' olds news h h' client (family_steps l) old new a f.0) f.0.turn (f.1, f.3) in
      (sym (none_from (member_in root) s (member_at root s) (member_same root s) (rows_of l) from (family_none root s from (sym (ap (λ p. p.0) law)))), ap (λ p. p.1) law))
      (λ none. (sym (past_all (member_in root) (thread_of l olds h) (rows_of l) from none.0), idle l keeper keeper' olds news h h' client old new a none.1))
      t
  members_are (look ∷ rest) from keeper olds h old a t =
      let s : State = thread_of l olds h in
      let mid : PassShown = t.0 in
      let f = t.1 in
      let n : ℕ = family_steps l in
      let first = went_by n old mid f.0.follows f.1.run.2 in
      let shows = seen_by l n old mid f.0 in
      let on = members_go l root (look.element.id + 1) mid rest new t.2 in
      let mids : List PassShown = middle l keeper keeper' olds news h h' client old mid new a first shows on in
      let one = first_part l keeper keeper' olds news h h' client old mid new a first shows on in
      let law = alone_family root from l keeper keeper olds mids h mid.seen n client old mid (Some look) (whole l keeper keeper olds mids h mid.seen client n old mid one f.0) f.0.turn (f.1, f.3) in
      let found = family_some root s from look (sym (ap (λ p. p.0) law)) in
      let still : thread_of l mids mid.seen ≡ s = ap (λ p. p.1) law in
      let later = members_are rest (look.element.id + 1) keeper mids mid.seen mid (last_part l keeper keeper' olds news h h' client old mid new a first shows on) t.2 in
      let is : at (member_in root) s look.element.id ≡ Some look =
      member_is root s look.element.id look found.1 (is_picked (member_in root) s (member_at root s) (member_same root s) (rows_of l) from look.element.id found.0) in (
        ap (λ xs. look ∷ xs) (later.0 ∙ ap (λ (m : State). picks (member_in root) m (look.element.id + 1) (rows_of l - (look.element.id + 1))) still)
            ∙ sym (some_from (member_in root) s (member_at root s) (member_same root s) (rows_of l) from look.element.id look found.0 is),
        later.1 ∙ still,
      )

  pub all_members : (found : List Look) (keeper : KeeperShown) (olds : List PassShown) (h : List Event) (old : PassShown) → Acts l keeper keeper' olds news h h' client old new → TellsFamily l root 0 old found new
      → (found ≡ picked_of (member_in root) (thread_of l olds h)) × (thread_of l news h' ≡ thread_of l olds h)
  all_members found keeper olds h old a t =
      let r = members_are found 0 keeper olds h old a t in
      let all : rows_of l - 0 ≡ rows_of l = omega arith in
      (r.0 ∙ (ap (picks (member_in root) (thread_of l olds h) 0) all ∙ sym (picks_all (member_in root) (thread_of l olds h))), r.1)
