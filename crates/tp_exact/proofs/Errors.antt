-- The parked elements, listed where nobody else acts.
use Rattle.std.proofs.Common.{◌≡◌, ℕ, ◌+◌, ◌-◌, ◌<◌, Bool, true, false, List, [], ◌∷◌, Option, Some, None, refl, sym, ◌∙◌, ap, subst, ⊎_elim, arith}
use Rattle.std.specs.Prelude.{is_some, if◌then◌else◌}
use Rattle.tp_model.specs.declared.types.Element.{Element}
use Rattle.tp_model.specs.declared.types.Limits.{Limits}
use Rattle.tp_model.specs.declared.event.Event.{Event}
use Rattle.tp_model.specs.Counts.{is_parked}
use Rattle.tp_model.specs.History.{element_of, status_of}
use Rattle.tp_model.specs.Steps.{IsLegal, rows_of}
use Rattle.tp_model.proofs.Bridges.{element_of-id, found_later, is_born}
use Rattle.tp_model.proofs.Later.{births_inside}
use Rattle.tp_plain.specs.Computed.{read_found}
use Rattle.tp_plain.specs.Listings.{error_found}
use Rattle.tp_plain.specs.OneThread.{State}
use Rattle.tp_manager.specs.Bounds.{next_error_steps}
use Rattle.tp_manager.specs.Lists.{NextError}
use Rattle.tp_manager.specs.Shown.{KeeperShown, PassShown}
use Rattle.tp_rollover.specs.Thread.{thread_of}
use Rattle.tp_rollover.proofs.AloneLists.{alone_error}
use Rattle.tp_commands.specs.Asked.{Called, TellsErrors}
use Rattle.tp_reference.specs.PlainClient.{client, parked_in, picked, picked_of}
use Rattle.tp_exact.specs.Acts.{Acts}
use Rattle.tp_exact.proofs.Parts.{Went, first_part, idle, last_part, middle, seen_by, went_by, went_none, went_on, whole}
use Rattle.tp_exact.proofs.Picks.{at, is_picked, none_from, past_all, picks, picks_all, some_from}

-- what is picked is what the test finds
module _ (s : State) where
  abbrev pub parked_at : ℕ → Bool
  parked_at i = error_found (status_of s.limits.attempts s.history i) (element_of s.history i)

  error_at : (i : ℕ) (o : Option Element) → element_of s.history i ≡ o → error_found (status_of s.limits.attempts s.history i) o ≡ is_some (picked parked_in (read_found s o))
  error_at i None is = refl
  error_at i (Some e) is = ap (λ j. is_parked (status_of s.limits.attempts s.history j)) (sym (element_of-id s.history i e is)) ∙ tests_some (is_parked (status_of s.limits.attempts s.history e.id))
    where
      tests_some : (b : Bool) → b ≡ is_some (if b then Some e.id else None)
      tests_some true = refl
      tests_some false = refl

  pub error_same : (i : ℕ) → parked_at i ≡ is_some (at parked_in s i)
  error_same i = error_at i (element_of s.history i) refl

  error_value : (i : ℕ) (o : Option Element) → element_of s.history i ≡ o → is_some (picked parked_in (read_found s o)) ≡ true → picked parked_in (read_found s o) ≡ Some i
  error_value i None is some = absurd cc
  error_value i (Some e) is some = go (is_parked (status_of s.limits.attempts s.history e.id)) some
    where
      go : (b : Bool) → is_some (if b then Some e.id else None) ≡ true → (if b then Some e.id else None) ≡ Some i
      go true t = ap (λ j. Some j) (element_of-id s.history i e is)
      go false t = absurd cc

  pub error_is : (i : ℕ) → is_some (at parked_in s i) ≡ true → at parked_in s i ≡ Some i
  error_is i some = error_value i (element_of s.history i) refl some

-- an element that was found parked has a row
error_inside : (l : Limits) (n from id : ℕ) (old new : PassShown) → Called l n old new → NextError l from id old new → id < rows_of l
error_inside l n from id old new f next =
    let at = next.parked in
    let x : Element = at.2.0 in
    let legal : IsLegal l new.seen = subst (λ (z : Limits). IsLegal z new.seen) f.limits f.follows.shows.legal in
    let born = found_later at.0 new.seen at.1.seen id x at.2.1 in
    subst (λ i. i < rows_of l) (element_of-id new.seen id x born) (births_inside l new.seen legal x (is_born new.seen id x born))

-- listing changes nothing but what is seen
pub errors_go : (l : Limits) (from : ℕ) (old : PassShown) (ids : List ℕ) (new : PassShown) → TellsErrors l from old ids new → Went old new
errors_go l from old [] new t = ⊎_elim (λ f. went_by (next_error_steps l) old new f.0.follows f.1.run.2) (λ none. went_none old new none.1) t
errors_go l from old (id ∷ rest) new t =
    let f = t.1 in
    went_on old t.0 new (went_by (next_error_steps l) old t.0 f.called.follows f.quiet.run.2) (errors_go l (id + 1) t.0 rest new t.2)

module _ (l : Limits) (keeper keeper' : KeeperShown) (news : List PassShown) (h' : List Event) (new : PassShown) where
  pub errors_are : (ids : List ℕ) (from : ℕ) (keeper0 : KeeperShown) (olds : List PassShown) (h : List Event) (old : PassShown) → Acts l keeper0 keeper' olds news h h' client old new → TellsErrors l from old ids new
      → (ids ≡ picks parked_in (thread_of l olds h) from (rows_of l - from)) × (thread_of l news h' ≡ thread_of l olds h)
  errors_are [] from keeper0 olds h old a t = ⊎_elim
      (λ f.
      let s : State = thread_of l olds h in
      let law = alone_error from l keeper0 keeper' olds news h h' (next_error_steps l) client old new None (whole l keeper0 keeper' olds news h h' client (next_error_steps l) old new a f.0) f.0.turn (f.1, tt, f.3) in
      (sym (none_from parked_in s (parked_at s) (error_same s) (rows_of l) from (sym (ap (λ p. p.0) law))), ap (λ p. p.1) law))
      (λ none. (sym (past_all parked_in (thread_of l olds h) (rows_of l) from none.0), idle l keeper0 keeper' olds news h h' client old new a none.1))
      t
  errors_are (id ∷ rest) from keeper0 olds h old a t =
      let s : State = thread_of l olds h in
      let mid : PassShown = t.0 in
      let f = t.1 in
      let n : ℕ = next_error_steps l in
      let first = went_by n old mid f.called.follows f.quiet.run.2 in
      let shows = seen_by l n old mid f.called in
      let on = errors_go l (id + 1) mid rest new t.2 in
      let mids : List PassShown = middle l keeper0 keeper' olds news h h' client old mid new a first shows on in
      let one = first_part l keeper0 keeper' olds news h h' client old mid new a first shows on in
      let law = alone_error from l keeper0 keeper0 olds mids h mid.seen n client old mid (Some id) (whole l keeper0 keeper0 olds mids h mid.seen client n old mid one f.called) f.called.turn (f.quiet, error_inside l n from id old mid f.called f.next, f.next) in
      let found = sym (ap (λ p. p.0) law) in
      let still : thread_of l mids mid.seen ≡ s = ap (λ p. p.1) law in
      let later = errors_are rest (id + 1) keeper0 mids mid.seen mid (last_part l keeper0 keeper' olds news h h' client old mid new a first shows on) t.2 in
      let is : at parked_in s id ≡ Some id = error_is s id (is_picked parked_in s (parked_at s) (error_same s) (rows_of l) from id found) in (
        ap (λ xs. id ∷ xs) (later.0 ∙ ap (λ (m : State). picks parked_in m (id + 1) (rows_of l - (id + 1))) still)
            ∙ sym (some_from parked_in s (parked_at s) (error_same s) (rows_of l) from id id found is),
        later.1 ∙ still,
      )

  pub all_errors : (ids : List ℕ) (keeper0 : KeeperShown) (olds : List PassShown) (h : List Event) (old : PassShown) → Acts l keeper0 keeper' olds news h h' client old new → TellsErrors l 0 old ids new
      → (ids ≡ picked_of parked_in (thread_of l olds h)) × (thread_of l news h' ≡ thread_of l olds h)
  all_errors ids keeper0 olds h old a t =
      let r = errors_are ids 0 keeper0 olds h old a t in
      let all : rows_of l - 0 ≡ rows_of l = omega arith in
      (r.0 ∙ (ap (picks parked_in (thread_of l olds h) 0) all ∙ sym (picks_all parked_in (thread_of l olds h))), r.1)
