-- Clients' commands leave good sessions.
use Rattle.std.proofs.Common.{◌≡◌, ◌≤◌, ◌<◌, ◌+◌, ◌||◌, ℕ, Bool, true, false, cond, nat_lt, not, if◌then◌else◌, is_some, Option, Some, None, Result, Ok, Err, List, [], ◌∷◌, length, refl, arith}
use Rattle.std.specs.Prelude.{position}
use Rattle.std.specs.List.{AllByRecursion, position_or_len}
use Rattle.std.specs.Str.{bytes_eq}
use Rattle.std.proofs.lemmas.Bool.Decides.{nat_tests}
use Rattle.tp_script.specs.declared.fault.LineFault.TheVariants.{BadName}
use Rattle.tp_answers.specs.Answer.{answer_text, line}
use Rattle.tp_answers.specs.NoteTexts.{registered_text}
use Rattle.tp_answers.specs.declared.answer.Answer.TheVariants as answer
use Rattle.tp_lines.specs.Names.{NameView}
use Rattle.tp_lines.specs.declared.line.ClientNote.{ClientNote}
use Rattle.tp_store.specs.Calls.{collect_of, submit_of}
use Rattle.tp_store.specs.Elements.{Entry, element_at}
use Rattle.tp_store.specs.Listing.{first_of}
use Rattle.tp_store.specs.declared.group.Group.TheVariants.{Owned, Replies}
use Rattle.tp_store.specs.Runs.{Collect, Submit}
use Rattle.tp_store.specs.State.{State}
use Rattle.tp_store.specs.declared.answers.Refusal.{Refusal}
use Rattle.tp_store.specs.declared.answers.Refusal.TheVariants.{NotThere}
use Rattle.tp_store.specs.declared.element.Element.{Element}
use Rattle.tp_session.specs.Clients.{differs, epoch_of, forget_by, forget_step, is_of_epoch, is_own_at, last_by, new_note, next_epoch, of_client, of_note, receive_by, receive_found, receive_in, receive_next, receive_step, received_as, register_step, registered, registered_as, renew_step, renewed, renewed_as, send_again, send_by, send_in, send_step, sent_as, standing_of, with_send}
use Rattle.tp_session.specs.Roles.{client_at, is_of_worker, put, server_at, worker_at}
use Rattle.tp_session.specs.Said.{just, Step}
use Rattle.tp_session.specs.State.{SessionState, with_store}
use Rattle.tp_session.specs.declared.standing.Standing.{Standing}
use Rattle.tp_session.specs.declared.standing.Standing.TheVariants.{Next, Again, Before, Behind}
use Rattle.tp_session.proofs.CommandsKeep.{Keeps}
use Rattle.tp_session.proofs.RolesKeep.{named_so}
use Rattle.tp_session.proofs.SessionParts.{good_client, good_forgotten, good_store, IsFree, IsGood}
use Rattle.tp_session.proofs.StoreGrows.{Grows, grows_call}

-- ---- names that nobody has

pub or_false : (a b : Bool) → (a || b) ≡ false → (a ≡ false) × (b ≡ false)
or_false true b h = absurd cc
or_false false b h = (refl, h)

pub none_from : {A : Type 0} (x : Option A) → is_some x ≡ false → x ≡ None
none_from None h = refl
none_from (Some x) h = absurd cc

module _ {A : Type 0} (p : A → Bool) where
  all_false : (xs : List A) → length xs ≤ position_or_len p xs → AllByRecursion (λ x. p x ≡ false) xs
  all_false [] least = tt
  all_false (x ∷ xs) least = go (p x) refl least (all_false xs)
    where
      go : (b : Bool) → p x ≡ b → length (x ∷ xs) ≤ cond (not b) (1 + position_or_len p xs) 0 → (length xs ≤ position_or_len p xs → AllByRecursion (λ x. p x ≡ false) xs) → AllByRecursion (λ x. p x ≡ false) (x ∷ xs)
      go true h least on = absurd (omega arith)
      go false h least on = (h, on (omega arith))

  pub none_all : (xs : List A) → position p xs ≡ None → AllByRecursion (λ x. p x ≡ false) xs
  none_all xs none = go (nat_lt (position_or_len p xs) (length xs)) refl none
    where
      least : (m n : ℕ) → nat_lt m n ≡ false → n ≤ m
      least m n h = grind (arith, nat_tests)

      go : (b : Bool) → nat_lt (position_or_len p xs) (length xs) ≡ b → cond b (Some (position_or_len p xs)) None ≡ None → AllByRecursion (λ x. p x ≡ false) xs
      go true h none = absurd cc
      go false h none = all_false xs (least (position_or_len p xs) (length xs) h)

pub free_of : (name : NameView) (s : SessionState) → is_of_worker name s ≡ false → IsFree s.servers s.workers name
free_of name s is =
    let parts = or_false (is_some (server_at name s)) (is_some (worker_at name s)) is in
    (none_all (λ v. bytes_eq v.name.letters name.letters) s.servers (none_from (server_at name s) parts.0), none_from (worker_at name s) parts.1)

module _ (s : SessionState) (good : IsGood s) (name : NameView) where
  of_client_keeps : (does : ClientNote → SessionState → Step) → ((c : ClientNote) → c.owner < s.owners → IsFree s.servers s.workers name → Keeps (does c s)) → Keeps (of_client name does s)
  of_client_keeps does keep = go (is_of_worker name s) refl
    where
      noted : (c : Option ClientNote) → client_at name s ≡ c → IsFree s.servers s.workers name → Keeps (of_note c does s)
      noted None is free = good
      noted (Some c) is free = keep c (named_so (IsFree s.servers s.workers) (λ (c : ClientNote). c.owner < s.owners) name c s.clients good.clients is).1 free

      go : (b : Bool) → is_of_worker name s ≡ b → Keeps (if b then Err BadName else of_note (client_at name s) does s)
      go true is = tt
      go false is = noted (client_at name s) refl (free_of name s is)

  pub forget_keeps : Keeps (forget_step name s)
  forget_keeps = of_client_keeps (forget_by name) (λ c low free. good_forgotten s name good)

  pub last_keeps : Keeps (of_client name (last_by name) s)
  last_keeps = of_client_keeps (last_by name) (λ c low free. good)

  -- its note is another, over a store behind
  noted_so : (t : State) (c : ClientNote) → Grows s.store t → c.owner < s.owners → IsFree s.servers s.workers name → IsGood (record (with_store t s) { clients = put name c s.clients })
  noted_so t c grows low free = good_client (with_store t s) name c s.owners (good_store s t good grows) free.0 free.1 low (omega arith)

  epoch_keeps : (b : Bool) (step : Step) → Keeps step → Keeps (if b then step else just (answer_text answer.Fenced) s)
  epoch_keeps true step so = so
  epoch_keeps false step so = good

  again_keeps : (number : ℕ) (b : Bool) (c : ClientNote) → Keeps (send_again name number b c s)
  again_keeps number true c = good
  again_keeps number false c = good

  pub send_keeps : (epoch : Option ℕ) (number stage : ℕ) (body : List ℕ) → Keeps (send_step name epoch number stage body s)
  send_keeps epoch number stage body = of_client_keeps (send_in name epoch number stage body) (λ c low free. epoch_keeps (is_of_epoch epoch c) (send_by name number stage body (standing_of number c.sent) c s) (by c low free (standing_of number c.sent)))
    where
      sent : (c : ClientNote) → c.owner < s.owners → IsFree s.servers s.workers name → (done : Result ℕ Refusal × State) → Grows s.store done.1 → Keeps (sent_as name number stage body c done.0 done.1 s)
      sent c low free (Ok id, t) grows = noted_so t (with_send number id stage body c) grows low free
      sent c low free (Err why, t) grows = good_store s t good grows

      by : (c : ClientNote) → c.owner < s.owners → IsFree s.servers s.workers name → (how : Standing) → Keeps (send_by name number stage body how c s)
      by c low free Next = sent c low free (submit_of stage body (Some c.owner) s.store) (grows_call (Submit stage body (Some c.owner)) s.store good.store tt)
      by c low free Again = again_keeps number (differs stage body c) c
      by c low free Before = good
      by c low free Behind = good

  pub receive_keeps : (epoch : Option ℕ) (number : ℕ) (root : Option ℕ) (note : Option NameView) → Keeps (receive_step name epoch number root note s)
  receive_keeps epoch number root note = of_client_keeps (receive_in name epoch number root note) (λ c low free. epoch_keeps (is_of_epoch epoch c) (receive_by name number root note (standing_of number c.received) c s) (by c low free (standing_of number c.received)))
    where
      received : (id : ℕ) (c : ClientNote) → c.owner < s.owners → IsFree s.servers s.workers name → (done : Result Element Refusal × State) → Grows s.store done.1 → Keeps (received_as name number id c done.0 done.1 s)
      received id c low free (Ok e, t) grows = noted_so t (record c { received = number; reply = id; root = e.root; body = e.body }) grows low free
      received id c low free (Err why, t) grows = good

      found : (c : ClientNote) → c.owner < s.owners → IsFree s.servers s.workers name → (x : Option Entry) → Keeps (receive_found name number c x s)
      found c low free None = good
      found c low free (Some e) = received e.0 c low free (collect_of e.0 s.store) (grows_call (Collect e.0) s.store good.store tt)

      next : (c : ClientNote) → c.owner < s.owners → IsFree s.servers s.workers name → (root : Option ℕ) → Keeps (receive_next name number root c s)
      next c low free None = found c low free (first_of (Owned c.owner) 0 s.store.elements)
      next c low free (Some root) = own (is_own_at c.owner root (element_at root s.store.elements)) (found c low free (first_of (Replies root) 0 s.store.elements))
        where
          own : (b : Bool) → Keeps (receive_found name number c (first_of (Replies root) 0 s.store.elements) s) → Keeps (if b then receive_found name number c (first_of (Replies root) 0 s.store.elements) s else just (answer_text (answer.Refused NotThere)) s)
          own true so = so
          own false so = good

      by : (c : ClientNote) → c.owner < s.owners → IsFree s.servers s.workers name → (how : Standing) → Keeps (receive_by name number root note how c s)
      by c low free Next = next (record c { note = note }) low free root
      by c low free Again = good
      by c low free Before = good
      by c low free Behind = good

  pub registered_so : IsFree s.servers s.workers name → (c : Option ClientNote) → IsGood (registered_as c name s)
  registered_so free None = good_client s name (new_note s.owners) (s.owners + 1) good free.0 free.1 (omega arith) (omega arith)
  registered_so free (Some c) = good

  pub register_keeps : Keeps (register_step name s)
  register_keeps = go (is_of_worker name s) refl
    where
      go : (b : Bool) → is_of_worker name s ≡ b → Keeps (if b then Err BadName else Ok (line (registered_text name (epoch_of (client_at name s))), registered name s))
      go true is = tt
      go false is = registered_so (free_of name s is) (client_at name s)

  pub renewed_so : IsFree s.servers s.workers name → (c : Option ClientNote) → client_at name s ≡ c → IsGood (renewed_as c name s)
  renewed_so free None is = registered_so free (client_at name s)
  renewed_so free (Some c) is = good_client s name (record c { epoch = c.epoch + 1 }) s.owners good free.0 free.1 (named_so (IsFree s.servers s.workers) (λ (c : ClientNote). c.owner < s.owners) name c s.clients good.clients is).1 (omega arith)

  pub renew_keeps : Keeps (renew_step name s)
  renew_keeps = go (is_of_worker name s) refl
    where
      go : (b : Bool) → is_of_worker name s ≡ b → Keeps (if b then Err BadName else Ok (line (registered_text name (next_epoch (client_at name s))), renewed name s))
      go true is = tt
      go false is = renewed_so (free_of name s is) (client_at name s) refl
