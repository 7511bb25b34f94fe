-- The replies to a request, listed where nobody else acts.
use Rattle.std.proofs.Common.{◌≡◌, ℕ, ◌+◌, ◌-◌, ◌<◌, ◌==◌, ◌&&◌, Bool, true, false, List, [], ◌∷◌, Option, Some, None, Ok, refl, sym, ◌∙◌, ap, subst, ⊎_elim, arith}
use Rattle.std.specs.Prelude.{is_some, if◌then◌else◌}
use Rattle.tp_model.specs.declared.types.Element.{Element}
use Rattle.tp_model.specs.declared.types.Limits.{Limits}
use Rattle.tp_model.specs.declared.types.Look.{Look}
use Rattle.tp_model.specs.declared.event.Event.{Event}
use Rattle.tp_model.specs.Counts.{is_waiting}
use Rattle.tp_model.specs.History.{element_of, status_of}
use Rattle.tp_model.specs.Steps.{IsLegal, rows_of}
use Rattle.tp_model.proofs.Bridges.{element_of-id, found_later, is_born}
use Rattle.tp_model.proofs.Later.{births_inside}
use Rattle.tp_plain.specs.Computed.{read_found, read_of}
use Rattle.tp_plain.specs.Listings.{next_reply_of, reply_found}
use Rattle.tp_plain.specs.OneThread.{State}
use Rattle.tp_manager.specs.Bounds.{read_steps, reply_steps}
use Rattle.tp_manager.specs.Lists.{NextReply}
use Rattle.tp_manager.specs.Shown.{KeeperShown, PassShown}
use Rattle.tp_rollover.specs.Thread.{HasSeen, thread_of}
use Rattle.tp_rollover.proofs.AloneLists.{alone_reply}
use Rattle.tp_rollover.proofs.AloneLooks.{alone_read}
use Rattle.tp_commands.specs.Asked.{Called, FindsReply, TellsReplies}
use Rattle.tp_reference.specs.PlainClient.{client, is_reply, picked, picked_of, reply_shown}
use Rattle.tp_exact.specs.Acts.{Acts}
use Rattle.tp_exact.proofs.Parts.{Went, first_part, idle, last_part, middle, seen_by, went_by, went_none, went_on, whole}
use Rattle.tp_exact.proofs.Picks.{at, is_picked, none_from, past_all, picks, picks_all, some_from}

-- whether something is there, by a test
pub tests_some : {A : Type 0} (b : Bool) (x : A) → b ≡ is_some (if b then Some x else None)
tests_some true x = refl
tests_some false x = refl

pub some_tested : {A : Type 0} (b : Bool) (x : A) → is_some (if b then Some x else None) ≡ true → (if b then Some x else None) ≡ Some x
some_tested true x t = refl
some_tested false x t = absurd cc

and_group : (a b c : Bool) → (a && (b && c)) ≡ ((a && b) && c)
and_group true b c = refl
and_group false b c = refl

-- what is picked is what the test finds
module _ (root : ℕ) (s : State) where
  abbrev pub reply_at : ℕ → Bool
  reply_at i = reply_found root (status_of s.limits.attempts s.history i) (element_of s.history i)

  same_at : (i : ℕ) (o : Option Element) → element_of s.history i ≡ o → reply_found root (status_of s.limits.attempts s.history i) o ≡ is_some (picked (reply_shown root) (read_found s o))
  same_at i None is = refl
  same_at i (Some e) is =
      ap (λ j. (e.stage == 15) && ((e.root == root) && is_waiting (status_of s.limits.attempts s.history j))) (sym (element_of-id s.history i e is))
      ∙ (and_group (e.stage == 15) (e.root == root) (is_waiting (status_of s.limits.attempts s.history e.id))
      ∙ tests_some (((e.stage == 15) && (e.root == root)) && is_waiting (status_of s.limits.attempts s.history e.id)) e)

  pub reply_same : (i : ℕ) → reply_at i ≡ is_some (at (reply_shown root) s i)
  reply_same i = same_at i (element_of s.history i) refl

  pub reply_value : (i : ℕ) (look : Look) → read_of s i ≡ Ok look → is_some (at (reply_shown root) s i) ≡ true → at (reply_shown root) s i ≡ Some look.element
  reply_value i look read some =
      let is : at (reply_shown root) s i ≡ picked (reply_shown root) (Ok look) = ap (picked (reply_shown root)) read in
      is ∙ some_tested (is_reply root look) look.element (sym (ap is_some is) ∙ some)

-- a reply that was found waiting has a row
pub reply_inside : (l : Limits) (n root from id : ℕ) (old new : PassShown) → Called l n old new → NextReply l root from id old new → id < rows_of l
reply_inside l n root from id old new f next =
    let at = next.waits in
    let x : Element = at.2.0 in
    let legal : IsLegal l new.seen = subst (λ (z : Limits). IsLegal z new.seen) f.limits f.follows.shows.legal in
    let born = found_later at.0 new.seen at.1.seen id x at.2.1 in
    subst (λ i. i < rows_of l) (element_of-id new.seen id x born) (births_inside l new.seen legal x (is_born new.seen id x born))

-- listing changes nothing but what is seen
to_reply : (l : Limits) (root from : ℕ) (e : Element) (old new : PassShown) (f : FindsReply l root from e old new) → Went old f.between
to_reply l root from e old new f = went_by (reply_steps l) old f.between f.called.follows f.quiet.run.2

from_reply : (l : Limits) (root from : ℕ) (e : Element) (old new : PassShown) (f : FindsReply l root from e old new) → Went f.between new
from_reply l root from e old new f = went_by (read_steps l) f.between new f.read.0.follows f.read.1.run.2

over_reply : (l : Limits) (root from : ℕ) (e : Element) (old new : PassShown) → FindsReply l root from e old new → Went old new
over_reply l root from e old new f = went_on old f.between new (to_reply l root from e old new f) (from_reply l root from e old new f)

pub replies_go : (l : Limits) (root from : ℕ) (old : PassShown) (found : List Element) (new : PassShown) → TellsReplies l root from old found new → Went old new
replies_go l root from old [] new t = ⊎_elim (λ f. went_by (reply_steps l) old new f.0.follows f.1.run.2) (λ none. went_none old new none.1) t
replies_go l root from old (e ∷ rest) new t =
    went_on old t.0 new (over_reply l root from e old t.0 t.1) (replies_go l root (e.id + 1) t.0 rest new t.2)

-- one reply that was found, and read
module _ (l : Limits) (keeper keeper' : KeeperShown) (olds news : List PassShown) (h h' : List Event) (old new : PassShown) (a : Acts l keeper keeper' olds news h h' client old new)
    (root from : ℕ) (e : Element) (f : FindsReply l root from e old new) where
  abbrev s : State
  s = thread_of l olds h

  abbrev shows : HasSeen l f.between.seen f.between
  shows = seen_by l (reply_steps l) old f.between f.called

  abbrev mids : List PassShown
  mids = middle l keeper keeper' olds news h h' client old f.between new a (to_reply l root from e old new f) shows (from_reply l root from e old new f)

  one : Acts l keeper keeper olds mids h f.between.seen client old f.between
  one = first_part l keeper keeper' olds news h h' client old f.between new a (to_reply l root from e old new f) shows (from_reply l root from e old new f)

  two : Acts l keeper keeper' mids news f.between.seen h' client f.between new
  two = last_part l keeper keeper' olds news h h' client old f.between new a (to_reply l root from e old new f) shows (from_reply l root from e old new f)

  still : thread_of l mids f.between.seen ≡ s
  still =
      let law = alone_reply root from l keeper keeper olds mids h f.between.seen (reply_steps l) client old f.between (Some e.id) (whole l keeper keeper olds mids h f.between.seen client (reply_steps l) old f.between one f.called) f.called.turn
      (f.quiet, reply_inside l (reply_steps l) root from e.id old f.between f.called f.next, f.next) in
      ap (λ p. p.1) law

  pub reply_found_here : next_reply_of s root from ≡ Some e.id
  reply_found_here =
      let law = alone_reply root from l keeper keeper olds mids h f.between.seen (reply_steps l) client old f.between (Some e.id) (whole l keeper keeper olds mids h f.between.seen client (reply_steps l) old f.between one f.called) f.called.turn
      (f.quiet, reply_inside l (reply_steps l) root from e.id old f.between f.called f.next, f.next) in
      sym (ap (λ p. p.0) law)

  pub reply_read_here : read_of s e.id ≡ Ok f.look
  reply_read_here =
      let law = alone_read e.id l keeper keeper' mids news f.between.seen h' (read_steps l) client f.between new (Ok f.look) (whole l keeper keeper' mids news f.between.seen h' client (read_steps l) f.between new two f.read.0) f.read.0.turn (f.read.1, f.read.3) in
      ap (λ (m : State). read_of m e.id) (sym still) ∙ sym (ap (λ p. p.0) law)

  pub reply_leaves : thread_of l news h' ≡ s
  reply_leaves =
      let law = alone_read e.id l keeper keeper' mids news f.between.seen h' (read_steps l) client f.between new (Ok f.look) (whole l keeper keeper' mids news f.between.seen h' client (read_steps l) f.between new two f.read.0) f.read.0.turn (f.read.1, f.read.3) in
      ap (λ p. p.1) law ∙ still

module _ (l : Limits) (keeper' : KeeperShown) (news : List PassShown) (h' : List Event) (root : ℕ) (new : PassShown) where
  replies_are : (found : List Element) (from : ℕ) (keeper : KeeperShown) (olds : List PassShown) (h : List Event) (old : PassShown) → Acts l keeper keeper' olds news h h' client old new → TellsReplies l root from old found new
      → (found ≡ picks (reply_shown root) (thread_of l olds h) from (rows_of l - from)) × (thread_of l news h' ≡ thread_of l olds h)
  replies_are [] from keeper olds h old a t = ⊎_elim
      (λ f.
      let s : State = thread_of l olds h in
      let law = alone_reply root from l keeper keeper' olds news h h' (reply_steps l) client old new None (whole l keeper keeper' olds news h h' client (reply_steps l) old new a f.0) f.0.turn (f.1, tt, f.3) in
      (sym (none_from (reply_shown root) s (reply_at root s) (reply_same root s) (rows_of l) from (sym (ap (λ p. p.0) law))), ap (λ p. p.1) law))
      (λ none. (sym (past_all (reply_shown root) (thread_of l olds h) (rows_of l) from none.0), idle l keeper keeper' olds news h h' client old new a none.1))
      t
  replies_are (e ∷ rest) from keeper olds h old a t =
      let s : State = thread_of l olds h in
      let mid : PassShown = t.0 in
      let f = t.1 in
      let first = over_reply l root from e old mid f in
      let shows = seen_by l (read_steps l) f.between mid f.read.0 in
      let on = replies_go l root (e.id + 1) mid rest new t.2 in
      let mids : List PassShown = middle l keeper keeper' olds news h h' client old mid new a first shows on in
      let one = first_part l keeper keeper' olds news h h' client old mid new a first shows on in
      let found = reply_found_here l keeper keeper olds mids h mid.seen old mid one root from e f in
      let still = reply_leaves l keeper keeper olds mids h mid.seen old mid one root from e f in
      let read = reply_read_here l keeper keeper olds mids h mid.seen old mid one root from e f in
      let later = replies_are rest (e.id + 1) keeper mids mid.seen mid (last_part l keeper keeper' olds news h h' client old mid new a first shows on) t.2 in
      let is : at (reply_shown root) s e.id ≡ Some e =
      reply_value root s e.id f.look read (is_picked (reply_shown root) s (reply_at root s) (reply_same root s) (rows_of l) from e.id found) ∙ ap (λ x. Some x) f.shows in (
        ap (λ xs. e ∷ xs) (later.0 ∙ ap (λ (m : State). picks (reply_shown root) m (e.id + 1) (rows_of l - (e.id + 1))) still)
            ∙ sym (some_from (reply_shown root) s (reply_at root s) (reply_same root s) (rows_of l) from e.id e found is),
        later.1 ∙ still,
      )

  pub all_replies : (found : List Element) (keeper : KeeperShown) (olds : List PassShown) (h : List Event) (old : PassShown) → Acts l keeper keeper' olds news h h' client old new → TellsReplies l root 0 old found new
      → (found ≡ picked_of (reply_shown root) (thread_of l olds h)) × (thread_of l news h' ≡ thread_of l olds h)
  all_replies found keeper olds h old a t =
      let r = replies_are found 0 keeper olds h old a t in
      let all : rows_of l - 0 ≡ rows_of l = omega arith in
      (r.0 ∙ (ap (picks (reply_shown root) (thread_of l olds h) 0) all ∙ sym (picks_all (reply_shown root) (thread_of l olds h))), r.1)
