-- The replies to a request, taken one after another where nobody else acts.
use Rattle.std.proofs.Common.{◌≡◌, ℕ, ◌+◌, ◌-◌, ◌<◌, ◌≤◌, ◌==◌, ◌&&◌, Bool, true, false, cond, List, [], ◌∷◌, Option, Some, None, Result, Ok, Err, refl, sym, ◌∙◌, ap, subst, ⊎_elim, arith}
use Rattle.std.specs.Prelude.{if◌then◌else◌}
use Rattle.std.specs.Option.{option_or}
use Rattle.std.specs.Result.{result_ok}
use Rattle.std.proofs.lemmas.Bool.{eq-eqb}
use Rattle.std.proofs.lemmas.Bool.Decides.{eqb_tells}
use Rattle.tp_model.specs.declared.types.Element.{Element}
use Rattle.tp_model.specs.declared.types.Limits.{Limits}
use Rattle.tp_model.specs.declared.types.Refusal.{Refusal}
use Rattle.tp_model.specs.declared.types.Refusal.TheVariants as refusal
use Rattle.tp_model.specs.declared.types.Status.{Status}
use Rattle.tp_model.specs.declared.types.Status.TheVariants.{Killed}
use Rattle.tp_model.specs.declared.event.Event.{Event}
use Rattle.tp_model.specs.declared.event.Event.TheVariants.{Kill}
use Rattle.tp_model.specs.Counts.{is_killed, is_waiting}
use Rattle.tp_model.specs.History.{element_of, status_of}
use Rattle.tp_model.specs.Steps.{rows_of}
use Rattle.tp_model.proofs.Bridges.{element_of-id}
use Rattle.tp_model.proofs.Histories.{element_of-snoc, status_of-snoc}
use Rattle.tp_plain.specs.Computed.{collect_at, collect_found, collect_next_found, collect_next_of, collect_of, read_found}
use Rattle.tp_plain.specs.Listings.{next_reply_of}
use Rattle.tp_plain.specs.Looks.{look_at}
use Rattle.tp_plain.specs.OneThread.{State, extended}
use Rattle.tp_manager.specs.Bounds.{collect_next_steps}
use Rattle.tp_manager.specs.Calls.{IsWaiting}
use Rattle.tp_manager.specs.Shown.{KeeperShown, PassShown}
use Rattle.tp_rollover.specs.Thread.{thread_of}
use Rattle.tp_rollover.proofs.AloneLists.{reply_is}
use Rattle.tp_rollover.proofs.AloneMembers.{alone_collect_next}
use Rattle.tp_commands.specs.Asked.{TellsCollected}
use Rattle.tp_reference.specs.PlainClient.{client, picked, replies_of, reply_shown, with_collected}
use Rattle.tp_exact.specs.Acts.{Acts}
use Rattle.tp_exact.proofs.Parts.{Went, first_part, last_part, middle, seen_by, went_by, went_on, whole}
use Rattle.tp_exact.proofs.Picks.{at, is_picked, none_before, none_from, passed, picks, picks_alike, picks_all, picks_some, some_from}
use Rattle.tp_exact.proofs.Replies.{reply_at, reply_same, reply_value}

or_none : {A : Type 0} (o : Option A) → option_or o None ≡ o
or_none None = refl
or_none (Some x) = refl

dead : {A : Type 0} (b : Bool) (x : A) → (if b && false then Some x else None) ≡ None
dead true x = refl
dead false x = refl

-- after the kill of an element its reply isn't picked any more, and any other is as before
module _ (root : ℕ) (s : State) (i : ℕ) where
  abbrev gone : State
  gone = extended s (Kill client i)

  born_same : (j : ℕ) → element_of gone.history j ≡ element_of s.history j
  born_same j = element_of-snoc s.history (Kill client i) j ∙ or_none (element_of s.history j)

  -- what is picked of an element with this status
  abbrev so : Element → Status → Option Element
  so x st = if ((x.stage == 15) && (x.root == root)) && is_waiting st then Some x else None

  after : (j : ℕ) (o : Option Element) → element_of s.history j ≡ o → (b : Bool) → (i == j) ≡ b → picked (reply_shown root) (read_found gone o) ≡ (if b then None else picked (reply_shown root) (read_found s o))
  after j None is true same = refl
  after j None is false same = refl
  after j (Some x) is b same =
      let st : Status = status_of s.limits.attempts s.history x.id in
      let here : (i == x.id) ≡ b = ap (λ k. i == k) (element_of-id s.history j x is) ∙ same in
      ap (so x) (status_of-snoc s.limits.attempts s.history (Kill client i) x.id ∙ ap (λ (c : Bool). if c then Killed else st) here) ∙ go b
    where
      go : (c : Bool) → so x (if c then Killed else status_of s.limits.attempts s.history x.id) ≡ (if c then None else so x (status_of s.limits.attempts s.history x.id))
      go true = dead ((x.stage == 15) && (x.root == root)) x
      go false = refl

  at_then : (j : ℕ) (b : Bool) → (i == j) ≡ b → at (reply_shown root) gone j ≡ (if b then None else at (reply_shown root) s j)
  at_then j b same = ap (λ o. picked (reply_shown root) (read_found gone o)) (born_same j) ∙ after j (element_of s.history j) refl b same

  pub at_killed : at (reply_shown root) gone i ≡ None
  at_killed = at_then i true (eq-eqb i i refl)

  pub at_other : (j : ℕ) → ¬ (i ≡ j) → at (reply_shown root) gone j ≡ at (reply_shown root) s j
  at_other j other = ⊎_elim (λ t. absurd (other t.1)) (λ t. at_then j false t.0) (eqb_tells i j)

-- a collect of a reply that waits
collect_waits : (s : State) (c i : ℕ) (x : Element) → element_of s.history i ≡ Some x → x.stage ≡ 15 → IsWaiting (status_of s.limits.attempts s.history i) → collect_of s c i ≡ (Ok x, extended s (Kill c i))
collect_waits s c i x born reply waits = ap (collect_found s c i) born
    ∙ (ap (λ b. cond {A = Result Element Refusal × State} b (collect_at s c i x (is_killed (status_of s.limits.attempts s.history i))) (Err refusal.BadStage, s)) (eq-eqb x.stage 15 reply)
    ∙ ap (λ st. collect_at s c i x (is_killed st)) waits.1)

-- what the next collect does
module _ (root : ℕ) (s : State) where
  -- the reply that it finds
  found_so : (i : ℕ) → next_reply_of s root 0 ≡ Some i → (x : Element) × (element_of s.history i ≡ Some x) × (collect_of s client i ≡ (Ok x, extended s (Kill client i)))
  found_so i f =
      let all : rows_of s.limits - 0 ≡ rows_of s.limits = omega arith in
      let some = is_picked (reply_shown root) s (reply_at root s) (reply_same root s) (rows_of s.limits) 0 i f in
      let r = reply_is root (status_of s.limits.attempts s.history i) (element_of s.history i) (reply_same root s i ∙ some) in
      (r.0, r.1, collect_waits s client i r.0 r.1 r.2 r.4)

  none_of : (m : State) (o : Option ℕ) → next_reply_of s root 0 ≡ o → (None, m) ≡ collect_next_found s client o → (o ≡ None) × (m ≡ s)
  none_of m None f is = (refl, ap (λ p. p.1) is)
  none_of m (Some i) f is =
      let t = found_so i f in
      let clash : None ≡ Some t.0 = ap (λ p. p.0) is ∙ ap (λ r. result_ok r.0) t.2 in
      absurd cc

  pub collects_none : (m : State) → (None, m) ≡ collect_next_of s client root → (next_reply_of s root 0 ≡ None) × (m ≡ s)
  collects_none m is = none_of m (next_reply_of s root 0) refl is

  some_of : (m : State) (e : Element) (o : Option ℕ) → next_reply_of s root 0 ≡ o → (Some e, m) ≡ collect_next_found s client o → (o ≡ Some e.id) × (m ≡ (collect_of s client e.id).1) × (m ≡ extended s (Kill client e.id)) × (element_of s.history e.id ≡ Some e)
  some_of m e None f is = let clash : Some e ≡ None = ap (λ p. p.0) is in absurd cc
  some_of m e (Some i) f is =
      let t = found_so i f in
      let found : Some e ≡ Some t.0 = ap (λ p. p.0) is ∙ ap (λ r. result_ok r.0) t.2 in
      let same : e ≡ t.0 = cc in
      let born : element_of s.history i ≡ Some e = t.1 ∙ ap (λ x. Some x) (sym same) in
      let id : i ≡ e.id = sym (element_of-id s.history i e born) in
      let now : m ≡ (collect_of s client i).1 = ap (λ p. p.1) is in
      (ap (λ j. Some j) id, now ∙ ap (λ j. (collect_of s client j).1) id, now ∙ (ap (λ r. r.1) t.2 ∙ ap (λ j. extended s (Kill client j)) id), subst (λ j. element_of s.history j ≡ Some e) id born)

  pub collects_some : (m : State) (e : Element) → (Some e, m) ≡ collect_next_of s client root → (next_reply_of s root 0 ≡ Some e.id) × (m ≡ (collect_of s client e.id).1) × (m ≡ extended s (Kill client e.id)) × (element_of s.history e.id ≡ Some e)
  collects_some m e is = some_of m e (next_reply_of s root 0) refl is

  -- what is picked there
  pub at_so : (e : Element) → next_reply_of s root 0 ≡ Some e.id → element_of s.history e.id ≡ Some e → at (reply_shown root) s e.id ≡ Some e
  at_so e f born =
      let some = is_picked (reply_shown root) s (reply_at root s) (reply_same root s) (rows_of s.limits) 0 e.id f in
      reply_value root s e.id (look_at s.limits.attempts s.history e) (ap (read_found s) born) some

  pub inside_so : (e : Element) → next_reply_of s root 0 ≡ Some e.id → e.id < rows_of s.limits
  inside_so e f = let high = (picks_some (reply_shown root) s (reply_at root s) (reply_same root s) 0 (rows_of s.limits - 0) e.id f).1 in omega arith

  -- the replies are that one, and those of the state behind it
  pub one_less : (e : Element) → e.id < rows_of s.limits → next_reply_of s root 0 ≡ Some e.id → at (reply_shown root) s e.id ≡ Some e → replies_of root s ≡ e ∷ replies_of root (extended s (Kill client e.id))
  one_less e inside f is =
      let rows : ℕ = rows_of s.limits in
      let m : State = extended s (Kill client e.id) in
      let all : rows - 0 ≡ rows = omega arith in
      let whole : (e.id + 1) + (rows - (e.id + 1)) ≡ rows = omega arith in
      let rest : ℕ = rows - (e.id + 1) in
      let from : 0 + (e.id + 1) ≡ e.id + 1 = omega arith in
      let none : (j : ℕ) → 0 ≤ j → j < 0 + (e.id + 1) → at (reply_shown root) m j ≡ None =
      λ j low less. ⊎_elim (λ t. ap (at (reply_shown root) m) (sym t.1) ∙ at_killed root s e.id)
      (λ t. at_other root s e.id j t.1 ∙ none_before (reply_shown root) s (reply_at root s) (reply_same root s) 0 (rows - 0) e.id f j (omega arith) (let apart = t.1 in omega (arith, less, apart)))
      (eqb_tells e.id j) in
      let later : picks (reply_shown root) m 0 rows ≡ picks (reply_shown root) s (e.id + 1) rest =
      ap (picks (reply_shown root) m 0) (sym whole) ∙ (passed (reply_shown root) m (e.id + 1) 0 rest none ∙ (ap (λ a. picks (reply_shown root) m a rest) from)
      ∙ picks_alike (reply_shown root) s m rest (e.id + 1) (λ j low. at_other root s e.id j (λ same. omega (arith, same, low)))) in
      picks_all (reply_shown root) s ∙ (ap (picks (reply_shown root) s 0) (sym all)
      ∙ (some_from (reply_shown root) s (reply_at root s) (reply_same root s) rows 0 e.id e f is ∙ ap (λ xs. e ∷ xs) (sym later ∙ sym (picks_all (reply_shown root) m))))

-- a pass that takes replies goes on
collected_go : (l : Limits) (root : ℕ) (old : PassShown) (found : List Element) (new : PassShown) → TellsCollected l root old found new → Went old new
collected_go l root old [] new t = went_by (collect_next_steps l) old new t.0.follows t.2.0.run.2
collected_go l root old (e ∷ rest) new t = went_on old t.0 new (went_by (collect_next_steps l) old t.0 t.1.follows t.3.collects.run.2) (collected_go l root t.0 rest new t.4)

module _ (l : Limits) (keeper' : KeeperShown) (news : List PassShown) (h' : List Event) (root : ℕ) (new : PassShown) where
  pub all_collected : (found : List Element) (keeper : KeeperShown) (olds : List PassShown) (h : List Event) (old : PassShown) → Acts l keeper keeper' olds news h h' client old new → TellsCollected l root old found new
      → (found ≡ replies_of root (thread_of l olds h)) × (thread_of l news h' ≡ with_collected (thread_of l olds h) (replies_of root (thread_of l olds h)))
  all_collected [] keeper olds h old a t =
      let s : State = thread_of l olds h in
      let n : ℕ = collect_next_steps l in
      let law = alone_collect_next root l keeper keeper' olds news h h' n client old new None (whole l keeper keeper' olds news h h' client n old new a t.0) t.0.turn t.2 in
      let r = collects_none root s (thread_of l news h') law in
      let all : rows_of l - 0 ≡ rows_of l = omega arith in
      let none : replies_of root s ≡ [] = picks_all (reply_shown root) s ∙ (ap (picks (reply_shown root) s 0) (sym all) ∙ none_from (reply_shown root) s (reply_at root s) (reply_same root s) (rows_of l) 0 r.0) in
      (sym none, r.1 ∙ ap (with_collected s) (sym none))
  all_collected (e ∷ rest) keeper olds h old a t =
      let s : State = thread_of l olds h in
      let n : ℕ = collect_next_steps l in
      let mid : PassShown = t.0 in
      let first = went_by n old mid t.1.follows t.3.collects.run.2 in
      let shows = seen_by l n old mid t.1 in
      let on = collected_go l root mid rest new t.4 in
      let mids : List PassShown = middle l keeper keeper' olds news h h' client old mid new a first shows on in
      let one = first_part l keeper keeper' olds news h h' client old mid new a first shows on in
      let law = alone_collect_next root l keeper keeper olds mids h mid.seen n client old mid (Some e) (whole l keeper keeper olds mids h mid.seen client n old mid one t.1) t.1.turn t.3 in
      let m : State = thread_of l mids mid.seen in
      let r = collects_some root s m e law in
      let later = all_collected rest keeper mids mid.seen mid (last_part l keeper keeper' olds news h h' client old mid new a first shows on) t.4 in
      let all : rows_of l - 0 ≡ rows_of l = omega arith in
      let is : at (reply_shown root) s e.id ≡ Some e = at_so root s e r.0 r.3 in
      let inside : e.id < rows_of l = inside_so root s e r.0 in
      let less : replies_of root s ≡ e ∷ rest =
      one_less root s e inside r.0 is ∙ ap (λ xs. e ∷ xs) (ap (replies_of root) (sym r.2) ∙ sym later.0) in
      let now : with_collected m rest ≡ with_collected s (e ∷ rest) = ap (λ (z : State). with_collected z rest) r.1 in
      (sym less, later.1 ∙ (ap (with_collected m) (sym later.0) ∙ (now ∙ ap (with_collected s) (sym less))))
