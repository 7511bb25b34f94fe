-- How the elements stand, counted by reads where nobody else acts.
use Rattle.std.proofs.Common.{◌≡◌, ℕ, zero, suc, ◌+◌, List, Result, Ok, Err, refl, sym, ◌∙◌, ap, arith}
use Rattle.tp_model.specs.declared.types.Counts.{Counts}
use Rattle.tp_model.specs.declared.types.Limits.{Limits}
use Rattle.tp_model.specs.declared.types.Look.{Look}
use Rattle.tp_model.specs.declared.types.Refusal.{Refusal}
use Rattle.tp_model.specs.declared.event.Event.{Event}
use Rattle.tp_plain.specs.Computed.{read_of}
use Rattle.tp_plain.specs.OneThread.{State}
use Rattle.tp_manager.specs.Bounds.{read_steps}
use Rattle.tp_manager.specs.Shown.{KeeperShown, PassShown}
use Rattle.tp_report.specs.declared.answer.Answer.{Answer}
use Rattle.tp_report.specs.declared.answer.Answer.TheVariants as answer
use Rattle.tp_rollover.specs.AloneLaws.{ReadAnswers}
use Rattle.tp_rollover.specs.Thread.{HasSeen, thread_of}
use Rattle.tp_rollover.proofs.AloneLooks.{alone_read}
use Rattle.tp_commands.specs.Asked.{Called, TellsCount, TellsRead, with_read}
use Rattle.tp_reference.specs.PlainClient.{client, count_read, counts_below}
use Rattle.tp_reference.proofs.ListingLemmas.{counts_more, counts_none}
use Rattle.tp_exact.specs.Acts.{Acts}
use Rattle.tp_exact.proofs.Parts.{Went, first_part, idle, last_part, middle, old_shows, seen_by, went_by, went_none, went_on, whole}

-- one read
module _ (l : Limits) (keeper keeper' : KeeperShown) (olds news : List PassShown) (h h' : List Event) (old new : PassShown) (a : Acts l keeper keeper' olds news h h' client old new) (id : ℕ) where
  pub by_read : (r : Result Look Refusal) → Called l (read_steps l) old new → ReadAnswers id l old new r → (r ≡ read_of (thread_of l olds h) id) × (thread_of l news h' ≡ thread_of l olds h)
  by_read r f says =
      let law = alone_read id l keeper keeper' olds news h h' (read_steps l) client old new r (whole l keeper keeper' olds news h h' client (read_steps l) old new a f) f.turn says in
      (ap (λ p. p.0) law, ap (λ p. p.1) law)

  pub read_one : (x : Answer) → TellsRead l id old new x → (r : Result Look Refusal) × ((c : Counts) → with_read x c ≡ count_read r c) × (r ≡ read_of (thread_of l olds h) id) × (thread_of l news h' ≡ thread_of l olds h)
  read_one (answer.Read look) t = let law = by_read (Ok look) t.0 (t.1, t.3) in (Ok look, λ c. refl, law.0, law.1)
  read_one (answer.Refused why) t = let law = by_read (Err why) t.0 (t.1, t.3) in (Err why, λ c. refl, law.0, law.1)
  read_one other t = absurd t.3

-- counting changes nothing but what is seen
pub counts_go : (l : Limits) (n : ℕ) (old : PassShown) (c : Counts) (new : PassShown) → HasSeen l old.seen old → TellsCount l n old c new → Went old new × HasSeen l new.seen new
counts_go l zero old c new shows t = (went_none old new t.1, rw t.1 shows)
counts_go l (suc id) old c new shows t =
    let before = counts_go l id old t.0 t.1 shows t.3 in
    (went_on old t.1 new before.0 (went_by (read_steps l) t.1 new t.4.0.follows t.4.1.run.2), seen_by l (read_steps l) t.1 new t.4.0)

module _ (l : Limits) (keeper : KeeperShown) (olds : List PassShown) (h : List Event) (old : PassShown) where
  abbrev s : State
  s = thread_of l olds h

  pub counts_are : (n : ℕ) (keeper' : KeeperShown) (news : List PassShown) (h' : List Event) (c : Counts) (new : PassShown) → Acts l keeper keeper' olds news h h' client old new → TellsCount l n old c new
      → (c ≡ counts_below s n) × (thread_of l news h' ≡ s)
  counts_are zero keeper' news h' c new a t = (t.0 ∙ sym (counts_none s), idle l keeper keeper' olds news h h' client old new a t.1)
  counts_are (suc id) keeper' news h' c new a t =
      let mid : PassShown = t.1 in
      let go = counts_go l id old t.0 mid (old_shows l keeper keeper' olds news h h' client old new a) t.3 in
      let on = went_by (read_steps l) mid new t.4.0.follows t.4.1.run.2 in
      let mids : List PassShown = middle l keeper keeper' olds news h h' client old mid new a go.0 go.1 on in
      let before = counts_are id keeper mids mid.seen t.0 mid (first_part l keeper keeper' olds news h h' client old mid new a go.0 go.1 on) t.3 in
      let read = read_one l keeper keeper' mids news mid.seen h' mid new (last_part l keeper keeper' olds news h h' client old mid new a go.0 go.1 on) id t.2 t.4 in
      let is : read.0 ≡ read_of s id = read.2 ∙ ap (λ (m : State). read_of m id) before.1 in
      let more : suc id ≡ id + 1 = omega arith in
      let next : counts_below s (suc id) ≡ count_read (read_of s id) (counts_below s id) = ap (counts_below s) more ∙ counts_more s id in (
        t.5 ∙ (read.1 t.0 ∙ (ap (λ r. count_read r t.0) is ∙ (ap (count_read (read_of s id)) before.0 ∙ sym next))),
        read.3 ∙ before.1,
      )
