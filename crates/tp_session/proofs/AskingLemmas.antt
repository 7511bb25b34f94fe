-- Lines that only ask change nothing.
use Rattle.std.proofs.Common.{◌≡◌, ◌∙◌, ◌==◌, ◌≤◌, ◌&&◌, arith, ℕ, ◌+◌, Bool, true, false, cond, List, [], ◌∷◌, ◌++◌, Option, Some, None, Result, Ok, Err, refl, sym, ap, subst, ◌⊎◌, inl, inr}
use Rattle.std.specs.Prelude.{if◌then◌else◌, is_none, is_some, nat_le, slice_get}
use Rattle.std.specs.Option.{option_or}
use Rattle.std.specs.Ordering.{is_eq}
use Rattle.std.specs.BTreeMap.{is_at}
use Rattle.std.specs.Map.{keys_of}
use Rattle.std.specs.declared.cmp.Ordering.{Ordering}
use Rattle.std.specs.declared.cmp.Ordering.TheVariants.{Less, Equal, Greater}
use Rattle.std.proofs.lemmas.Bool.{le-leb}
use Rattle.std.proofs.lemmas.Map.Keys.{sorted_head, sorted_tail}
use Rattle.tp_lines.specs.Names.{NameView, name_cmp}
use Rattle.tp_lines.specs.Tags.{tag_in, tagged_said}
use Rattle.tp_lines.specs.declared.line.Act.{Act}
use Rattle.tp_lines.specs.declared.line.Act.TheVariants as acts
use Rattle.tp_lines.specs.declared.line.ClientNote.{ClientNote}
use Rattle.tp_lines.specs.declared.line.Command.{Command}
use Rattle.tp_lines.specs.declared.line.Command.TheVariants as commands
use Rattle.tp_lines.specs.declared.line.Line.{Line}
use Rattle.tp_lines.specs.declared.line.Line.TheVariants as lines
use Rattle.tp_script.specs.declared.fault.LineFault.{LineFault}
use Rattle.tp_script.specs.declared.fault.LineFault.TheVariants.{BadName, Order}
use Rattle.tp_store.specs.Calls.{claim_first, is_server_stage}
use Rattle.tp_store.specs.Elements.{Entry, first_in, is_group, queue_of}
use Rattle.tp_store.specs.State.{State}
use Rattle.tp_store.specs.declared.answers.Refusal.TheVariants.{BadStage}
use Rattle.tp_answers.specs.declared.told.Told.{Told}
use Rattle.tp_answers.specs.declared.told.Told.TheVariants as told
use Rattle.tp_session.specs.Asking.{act_asks, asks, gets_none, line_asks, only_asks, said_asks}
use Rattle.tp_session.specs.Clients.{last_by, of_note}
use Rattle.tp_session.specs.Lasting.{AskingChangesNothing}
use Rattle.tp_session.specs.Retold.{AreInOrder}
use Rattle.tp_session.specs.Roles.{client_at, is_of_worker, named, put, server_at, worker_at}
use Rattle.tp_session.specs.Said.{Step}
use Rattle.tp_session.specs.Session.{act_by, balance_at, balance_by, begun, command_step, does, has_begun, is_in_order, last_as, line_step, or_refused, read_step_of, with_tag, worked}
use Rattle.tp_session.specs.State.{ServerView, SessionState}
use Rattle.tp_session.specs.Workers.{claimed, claimed_next, claims, claims_next, unchanged, worker_does}
use Rattle.tp_session.specs.declared.phase.Phase.{Phase}
use Rattle.tp_session.specs.declared.phase.Phase.TheVariants.{InHead, Restoring, Begun}
use Rattle.tp_session.specs.declared.worker.Worker.{Worker}
use Rattle.tp_session.proofs.RolesKeep.{IsBelow, below_more}

-- ---- commands that only tell

abbrev answered : List ℕ → SessionState → Step
answered text s = Ok (text, s)

abbrev left_of : SessionState → Step → SessionState
left_of s (Ok (text, left)) = left
left_of s (Err fault) = s

same : (told text : List ℕ) (s left : SessionState) → answered told s ≡ answered text left → left ≡ s
same told text s left is = sym (ap (left_of s) is)

either : (b : Bool) (told other text : List ℕ) (s left : SessionState) → (if b then answered told s else answered other s) ≡ answered text left → left ≡ s
either true told other text s left is = same told text s left is
either false told other text s left is = same other text s left is

of_server : (k : ℕ) (v : Option ServerView) (s left : SessionState) (text : List ℕ) → balance_by k v s ≡ Ok (text, left) → left ≡ s
of_server k None s left text is = absurd cc
of_server k (Some v) s left text is = same _ text s left is

of_place : (k : ℕ) (place : Option ℕ) (s left : SessionState) (text : List ℕ) → balance_at k place s ≡ Ok (text, left) → left ≡ s
of_place k None s left text is = absurd cc
of_place k (Some place) s left text is = of_server k (slice_get s.servers place) s left text is

of_noted : (name : NameView) (c : Option ClientNote) (s left : SessionState) (text : List ℕ) → of_note c (last_by name) s ≡ Ok (text, left) → left ≡ s
of_noted name None s left text is = same _ text s left is
of_noted name (Some c) s left text is = same _ text s left is

unless_worker : (b : Bool) (step : Step) (s left : SessionState) (text : List ℕ) → (step ≡ Ok (text, left) → left ≡ s) → (if b then Err BadName else step) ≡ Ok (text, left) → left ≡ s
unless_worker true step s left text done is = absurd cc
unless_worker false step s left text done is = done is

of_worker : (name : NameView) (w : Option Worker) (s left : SessionState) (text : List ℕ) → last_as name w s ≡ Ok (text, left) → left ≡ s
of_worker name (Some w) s left text is = same _ text s left is
of_worker name None s left text is =
    unless_worker (is_of_worker name s) (of_note (client_at name s) (last_by name) s) s left text (of_noted name (client_at name s) s left text) is

-- ---- a worker that stands as it did

module _ {A : Type 0} where
  none_ahead : (name : NameView) (es : List (NameView × A)) → IsBelow name (keys_of es) → named name es ≡ None
  none_ahead name [] below = refl
  none_ahead name (e ∷ es) below = rw below.0 (none_ahead name es below.1)

  pub put_same : (name : NameView) (x : A) (es : List (NameView × A)) → AreInOrder es → named name es ≡ Some x → put name x es ≡ es
  put_same name x [] sorted is = absurd cc
  put_same name x (e ∷ es) sorted is = go (put_same name x es (sorted_tail name_cmp e.0 (keys_of es) sorted)) (name_cmp name e.0) refl is
    where
      go : (named name es ≡ Some x → put name x es ≡ es) → (o : Ordering) → name_cmp name e.0 ≡ o → named name (e ∷ es) ≡ Some x → put name x (e ∷ es) ≡ e ∷ es
      go on Less c is =
          let none : named name es ≡ None = none_ahead name es (below_more name e.0 es c (sorted_head name_cmp e.0 (keys_of es) sorted)) in
          absurd (nothing (sym none ∙ tail c is))
        where
          tail : name_cmp name e.0 ≡ Less → named name (e ∷ es) ≡ Some x → named name es ≡ Some x
          tail c is = subst (λ o. cond (is_eq o) (Some e.1) (named name es) ≡ Some x) c is

          nothing : None ≡ Some x → ⊥
          nothing none = cc
      go on Equal c is = rw c (ap (λ v. (e.0, v) ∷ es) (found c is))
        where
          found : name_cmp name e.0 ≡ Equal → named name (e ∷ es) ≡ Some x → x ≡ e.1
          found c is = cc
      go on Greater c is = rw c (ap (λ l. e ∷ l) (on (tail c is)))
        where
          tail : name_cmp name e.0 ≡ Greater → named name (e ∷ es) ≡ Some x → named name es ≡ Some x
          tail c is = subst (λ o. cond (is_eq o) (Some e.1) (named name es) ≡ Some x) c is

-- ---- a claim where nothing waits

none_from : (q from : ℕ) (es : List Entry) → first_in queue_of q 0 es ≡ None → first_in queue_of q from es ≡ None
none_from q from [] is = refl
none_from q from (e ∷ es) is = go (λ none. none_from q from es none) (nat_le from e.0) refl (is_group q (queue_of e.1)) refl is
  where
    of_all : {g : Bool} → is_group q (queue_of e.1) ≡ g → (nat_le 0 e.0 && is_group q (queue_of e.1)) ≡ g
    of_all of = ap (λ b. b && is_group q (queue_of e.1)) (le-leb 0 e.0 (omega arith)) ∙ of

    go : (first_in queue_of q 0 es ≡ None → first_in queue_of q from es ≡ None) → (b : Bool) → nat_le from e.0 ≡ b → (g : Bool) → is_group q (queue_of e.1) ≡ g → first_in queue_of q 0 (e ∷ es) ≡ None → first_in queue_of q from (e ∷ es) ≡ None
    go rest b at true of is = absurd (nothing (subst (λ g. cond g (Some e) (first_in queue_of q 0 es) ≡ None) (of_all of) is))
      where
        nothing : Some e ≡ None → ⊥
        nothing is = cc
    go rest true at false of is = rw (at, of) (rest (subst (λ g. cond g (Some e) (first_in queue_of q 0 es) ≡ None) (of_all of) is))
    go rest false at false of is = rw at (rest (subst (λ g. cond g (Some e) (first_in queue_of q 0 es) ≡ None) (of_all of) is))

finds : (w : Worker) (s : State) → first_in queue_of w.stage 0 s.elements ≡ None → claims w s ≡ unchanged told.Idle w s
finds w s none = go (is_server_stage w.stage)
  where
    go : (b : Bool) → (let done = if b then claim_first (first_in queue_of w.stage 0 s.elements) s else (Err BadStage, s) in claimed done.0 done.1 w) ≡ unchanged told.Idle w s
    go true = rw none refl
    go false = refl

finds_next : (w : Worker) (s : State) → first_in queue_of w.stage 0 s.elements ≡ None → claims_next w s ≡ unchanged told.Idle w s
finds_next w s none = go (is_server_stage w.stage)
  where
    go : (b : Bool) → (let done = if b then claim_first (option_or (first_in queue_of w.stage w.from s.elements) (first_in queue_of w.stage 0 s.elements)) s else (Err BadStage, s) in claimed_next done.0 done.1 w) ≡ unchanged told.Idle w s
    go true = rw (none_from w.stage w.from s.elements none, none) refl
    go false = refl

-- such a worker stands as it did
abbrev working : SessionState → List (NameView × Worker) → SessionState
working s ws = record s { workers = ws }

stands : (t : Told) (name : NameView) (w : Worker) (s left : SessionState) (text : List ℕ) → AreInOrder s.workers → worker_at name s ≡ Some w → worked name (unchanged t w s.store) s ≡ Ok (text, left) → left ≡ s
stands t name w s left text sorted at is = sym (ap (left_of s) is) ∙ ap (working s) (put_same name w s.workers sorted at)

claim_told : (act : Act) → act ≡ acts.Claim ⊎ act ≡ acts.Next → (w : Worker) (s : State) → gets_none (Some w) s ≡ true → (t : Told) × worker_does act w s ≡ unchanged t w s
claim_told act which w s none = by which (is_some w.hand) refl (first_in queue_of w.stage 0 s.elements) refl
  where
    by : act ≡ acts.Claim ⊎ act ≡ acts.Next → (h : Bool) → is_some w.hand ≡ h → (f : Option Entry) → first_in queue_of w.stage 0 s.elements ≡ f → (t : Told) × worker_does act w s ≡ unchanged t w s
    by (inl claim) true hand f first = (told.Busy, rw (claim, hand) refl)
    by (inr next) true hand f first = (told.Busy, rw (next, hand) refl)
    by which false hand (Some e) first = absurd (never (subst (λ f. is_none f ≡ true) first (subst (λ h. (if h then true else is_none (first_in queue_of w.stage 0 s.elements)) ≡ true) hand none)))
      where
        never : false ≡ true → ⊥
        never is = cc
    by (inl claim) false hand None first = (told.Idle, rw (claim, hand) (finds w s first))
    by (inr next) false hand None first = (told.Idle, rw (next, hand) (finds_next w s first))

claims_left : (act : Act) → act ≡ acts.Claim ⊎ act ≡ acts.Next → (name : NameView) (found : Option Worker) (s left : SessionState) (text : List ℕ) → AreInOrder s.workers → worker_at name s ≡ found → gets_none found s.store ≡ true → act_by name act found s ≡ Ok (text, left) → left ≡ s
claims_left act which name None s left text sorted at none is = absurd cc
claims_left act which name (Some w) s left text sorted at none is =
    let done = claim_told act which w s.store none in
    stands done.0 name w s left text sorted at (sym (ap (λ d. worked name d s) done.1) ∙ (sym (by which) ∙ is))
  where
    by : act ≡ acts.Claim ⊎ act ≡ acts.Next → act_by name act (Some w) s ≡ worked name (worker_does act w s.store) s
    by (inl claim) = rw claim refl
    by (inr next) = rw next refl

act_left : (act : Act) (name : NameView) (s left : SessionState) (text : List ℕ) → AreInOrder s.workers → act_asks name act s ≡ true → act_by name act (worker_at name s) s ≡ Ok (text, left) → left ≡ s
act_left acts.Claim name s left text sorted asks is = claims_left acts.Claim (inl refl) name (worker_at name s) s left text sorted refl asks is
act_left acts.Next name s left text sorted asks is = claims_left acts.Next (inr refl) name (worker_at name s) s left text sorted refl asks is
act_left other name s left text sorted asks is = absurd cc

-- ---- commands, and lines

command_left : (c : Command) (s left : SessionState) (text : List ℕ) → AreInOrder s.workers → asks c s ≡ true → does c s ≡ Ok (text, left) → left ≡ s
command_left (commands.Act name act) s left text sorted asks is = act_left act name s left text sorted asks is
command_left (commands.Read id) s left text sorted asks is = same _ text s left is
command_left (commands.Reply root) s left text sorted asks is = same _ text s left is
command_left (commands.Family root) s left text sorted asks is = same _ text s left is
command_left commands.Errors s left text sorted asks is = same _ text s left is
command_left commands.Count s left text sorted asks is = same _ text s left is
command_left commands.Depth s left text sorted asks is = same _ text s left is
command_left (commands.List stage from) s left text sorted asks is = same _ text s left is
command_left commands.Account s left text sorted asks is = either (s.store.tally.total.held == 0) _ _ text s left is
command_left commands.Holds s left text sorted asks is = same _ text s left is
command_left commands.Dump s left text sorted asks is = same _ text s left is
command_left (commands.Sum k) s left text sorted asks is = same _ text s left is
command_left (commands.Balance name k) s left text sorted asks is = of_place k (server_at name s) s left text is
command_left (commands.Last name) s left text sorted asks is = of_worker name (worker_at name s) s left text is
command_left other s left text sorted asks is = absurd cc

is_begun : (p : Phase) → has_begun p ≡ true → p ≡ Begun
is_begun Begun is = refl
is_begun other is = absurd cc

abbrev begins : SessionState → SessionState
begins s = record s { phase = Begun }

abbrev in_phase : SessionState → Phase → SessionState
in_phase s p = record s { phase = p }

begun_left : (n : ℕ) (c : Command) (s : SessionState) → s.phase ≡ Begun → (step : Step) → ((text : List ℕ) (left : SessionState) → step ≡ Ok (text, left) → left ≡ s) → (or_refused n s (begun step)).1 ≡ s
begun_left n c s phase (Ok (text, left)) stays = ap begins (stays text left refl) ∙ ap (in_phase s) (sym phase)
begun_left n c s phase (Err fault) stays = refl

in_order_left : (n : ℕ) (c : Command) (s : SessionState) → s.phase ≡ Begun → ((text : List ℕ) (left : SessionState) → does c s ≡ Ok (text, left) → left ≡ s) → (or_refused n s (command_step c s)).1 ≡ s
in_order_left n c s phase stays = go (is_in_order s.phase c)
  where
    go : (b : Bool) → (or_refused n s (if b then begun (does c s) else Err Order)).1 ≡ s
    go true = begun_left n c s phase (does c s) stays
    go false = refl

said_left : (n : ℕ) (r : Result Line LineFault) (s : SessionState) → AreInOrder s.workers → s.phase ≡ Begun → said_asks r s ≡ true → (or_refused n s (read_step_of r s)).1 ≡ s
said_left n (Err fault) s sorted phase asks = refl
said_left n (Ok lines.Nothing) s sorted phase asks = refl
said_left n (Ok lines.Version) s sorted phase asks = refl
said_left n (Ok (lines.Do c)) s sorted phase asks = in_order_left n c s phase (λ text left is. command_left c s left text sorted asks is)
said_left n (Ok (lines.Head l)) s sorted phase asks = absurd cc

tag_left : (t : Option (List ℕ)) (done : List ℕ × SessionState) → (with_tag t done).1 ≡ done.1
tag_left None done = refl
tag_left (Some tag) done = refl

pub asking_changes_nothing : AskingChangesNothing
asking_changes_nothing n bytes s sorted asks = tag_left (tag_in bytes) (or_refused n s (read_step_of (tagged_said bytes) s)) ∙ go (has_begun s.phase) refl asks
  where
    go : (b : Bool) → has_begun s.phase ≡ b → (if b then said_asks (tagged_said bytes) s else false) ≡ true → (or_refused n s (read_step_of (tagged_said bytes) s)).1 ≡ s
    go true begun asks = said_left n (tagged_said bytes) s sorted (is_begun s.phase begun) asks
    go false begun asks = absurd cc
