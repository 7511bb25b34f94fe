-- The history of a run has no elements but those that are there, and those of requests that are over.
use Rattle.std.proofs.Common.{◌≡◌, ◌⊎◌, inl, inr, ◌==◌, ◌<◌, ◌+◌, ℕ, zero, suc, Bool, true, false, nat_lt, cond, Option, Some, None, Result, Ok, Err, List, [], ◌∷◌, ◌++◌, length, slice_get, filter, refl, sym, ◌∙◌, ap, subst, append_assoc, arith}
use Rattle.std.specs.List.{find}
use Rattle.std.specs.Option.{option_map}
use Rattle.std.proofs.lemmas.Bool.Decides.{nat_tests}
use Rattle.tp_model.specs.Drafts.{DraftView}
use Rattle.tp_model.specs.Families.{ComesFrom}
use Rattle.tp_model.specs.History.{born, element_of, status_of}
use Rattle.tp_model.specs.declared.event.Event.{Event}
use Rattle.tp_model.specs.declared.types.Element.{Element as ModelElement}
use Rattle.tp_model.specs.declared.types.Limits.{Limits as ModelLimits}
use Rattle.tp_model.specs.declared.types.Status.TheVariants as model
use Rattle.tp_model.proofs.Bridges.{append_nil}
use Rattle.tp_model.proofs.Descents.{family_is_tree}
use Rattle.tp_model.proofs.Histories.{born-append, element_of-append}
use Rattle.tp_model.proofs.Lists.{option_or-some}
use Rattle.tp_store.specs.declared.answers.Cancelled.{Cancelled}
use Rattle.tp_store.specs.declared.answers.Ended.{Ended}
use Rattle.tp_store.specs.declared.answers.Ended.TheVariants as ended
use Rattle.tp_store.specs.declared.answers.Refusal.{Refusal}
use Rattle.tp_store.specs.declared.answers.Released.{Released}
use Rattle.tp_store.specs.declared.answers.Work.{Work}
use Rattle.tp_store.specs.declared.element.Element.{Element}
use Rattle.tp_store.specs.declared.element.Status.{Status}
use Rattle.tp_store.specs.declared.element.Status.TheVariants.{Waiting, Held, Consumed, Parked, Killed}
use Rattle.tp_store.specs.declared.element.TheConstants.{REPLY_STAGE}
use Rattle.tp_store.specs.Calls.{abort_of, alive_in, cancel_of, claim_from_of, claim_of, collect_of, commit_at, consumed, is_open, is_server_stage, of_client, of_unit, release_of, requeue_of, submit_of, take_of}
use Rattle.tp_store.specs.Changes.{Follows, IsForgotten, Remains}
use Rattle.tp_store.specs.Elements.{Entry, element_at, is_held_by}
use Rattle.tp_store.specs.Ends.{is_over}
use Rattle.tp_store.specs.Modelled.{aborted, all_cancelled, all_killed, as_element, as_status, claimed, collected, committed, events, FamiliesAreTrees, HaveRoom, history, IsHistory, IsParent, IsThere, killed_as, killed_at, limits_for, outputs, released, requeued, row, RunsAreHistories, submitted, taken}
use Rattle.tp_store.specs.Runs.{after, Call, Submit, Claim, ClaimFrom, Take, Commit, Abort, Release, Kill, Cancel, Requeue, Collect, SetLimits, run}
use Rattle.tp_store.specs.Soundness.{IsSound}
use Rattle.tp_store.specs.State.{made, State, start}
use Rattle.tp_store.proofs.ModelBirths.{outputs_found, outputs_there}
use Rattle.tp_store.proofs.Leading.{calls_follow, start_sound}
use Rattle.tp_store.proofs.Following.{held_is}
use Rattle.tp_store.proofs.Lasts.{over_still}
use Rattle.tp_store.proofs.Overs.{differ}
use Rattle.tp_store.proofs.Progress.{outputs_wait, submits_wait}
use Rattle.tp_store.proofs.Recording.{knows_start, records_run}

-- ---- most calls make no elements

none_taken : (rows : ℕ) (r : Result Work Refusal) → born (taken rows r) ≡ []
none_taken rows (Ok w) = refl
none_taken rows (Err why) = refl

none_claimed : (rows : ℕ) (r : Result (Option Work) Refusal) → born (claimed rows r) ≡ []
none_claimed rows (Ok (Some w)) = refl
none_claimed rows (Ok None) = refl
none_claimed rows (Err why) = refl

none_aborted : (unit : ℕ) (r : Result Ended Refusal) → born (aborted unit r) ≡ []
none_aborted unit (Ok ended.Aborted) = refl
none_aborted unit (Ok ended.AlreadyAborted) = refl
none_aborted unit (Err why) = refl

none_released : (r : Result Released Refusal) → born (released r) ≡ []
none_released (Ok x) = refl
none_released (Err why) = refl

none_killed : (rows id : ℕ) (e : Element) (status : Status) → born (killed_as rows id e status) ≡ []
none_killed rows id e (Waiting n) = refl
none_killed rows id e (Held u n) = refl
none_killed rows id e (Consumed u) = refl
none_killed rows id e (Parked n) = refl
none_killed rows id e Killed = refl

none_killed_at : (rows id : ℕ) (x : Option Element) → born (killed_at rows id x) ≡ []
none_killed_at rows id None = refl
none_killed_at rows id (Some e) = none_killed rows id e e.status

none_all_killed : (rows : ℕ) (es : List Entry) → born (all_killed rows es) ≡ []
none_all_killed rows [] = refl
none_all_killed rows (e ∷ es) = born-append (killed_as rows e.0 e.1 e.1.status) (all_killed rows es) ∙ (ap (λ xs. xs ++ born (all_killed rows es)) (none_killed rows e.0 e.1 e.1.status) ∙ none_all_killed rows es)

none_cancelled : (rows root : ℕ) (s : State) (r : Result Cancelled Refusal) → born (all_cancelled rows root s r) ≡ []
none_cancelled rows root s (Ok answer) = none_all_killed rows (filter (is_open root) s.elements)
none_cancelled rows root s (Err why) = refl

none_requeued : (rows id : ℕ) (x : Option Element) (r : Result ℕ Refusal) → born (requeued rows id x r) ≡ []
none_requeued rows id (Some e) (Ok n) = refl
none_requeued rows id (Some e) (Err why) = refl
none_requeued rows id None r = refl

none_collected : (rows id : ℕ) (r : Result Element Refusal) → born (collected rows id r) ≡ []
none_collected rows id (Ok e) = refl
none_collected rows id (Err why) = refl

-- ---- and what the others make is there behind them

draft_at : (ds : List DraftView) (n : ℕ) → n < length ds → (d : DraftView) × (slice_get ds n ≡ Some d)
draft_at [] n low = absurd (omega arith)
draft_at (d ∷ ds) zero low = (d, refl)
draft_at (d ∷ ds) (suc n) low = draft_at ds n (omega arith)

below_true : (m n : ℕ) → nat_lt m n ≡ true → m < n
below_true m n h = grind (arith, nat_tests)

-- what is born in a call is there
abbrev pub AreThere : ModelLimits → List Event → State → Type 0
AreThere l evs t = (i : ℕ) (x : ModelElement) → find (λ (y : ModelElement). y.id == i) (born evs) ≡ Some x → IsThere l t x

module _ (l : ModelLimits) (s : State) (sound : IsSound s) where
  no_births : (evs : List Event) (t : State) → born evs ≡ [] → AreThere l evs t
  no_births evs t none i x is = absurd (let no = rw none at is in cc)

  there_submitted : (stage : ℕ) (body : List ℕ) (owner : Option ℕ) → AreThere l (submitted l.rows stage body owner (submit_of stage body owner s).0) (submit_of stage body owner s).1
  there_submitted stage body owner = go (is_server_stage stage) (nat_lt (alive_in s) s.limits.most) refl refl
    where
      one : ModelElement
      one = as_element l.rows s.next (made (of_client s.next owner) (record { stage = stage; body = body }))

      only : (i : ℕ) (x : ModelElement) (b : Bool) → cond b (Some one) None ≡ Some x → x ≡ one
      only i x true h = let same : Some one ≡ Some x = h in cc
      only i x false h = absurd cc

      go : (p q : Bool) → is_server_stage stage ≡ p → nat_lt (alive_in s) s.limits.most ≡ q → AreThere l (submitted l.rows stage body owner (submit_of stage body owner s).0) (submit_of stage body owner s).1
      go false q server room = rw server (no_births [] s refl)
      go true false server room = rw (server, room) (no_births [] s refl)
      go true true server room =
          let waits = rw (server, room) at (submits_wait s stage body owner sound server (below_true (alive_in s) s.limits.most room)).1 in
          rw (server, room) (λ i x is. record { id = s.next; one = made (of_client s.next owner) (record { stage = stage; body = body }); found = waits; is = only i x (one.id == i) is })

  there_committed : (id unit : ℕ) (drafts : List DraftView) (x : Option Element) → element_at id s.elements ≡ x → AreThere l (committed l.rows unit x drafts (commit_at id unit x drafts s).0) (commit_at id unit x drafts s).1
  there_committed id unit drafts None is = no_births [] s refl
  there_committed id unit drafts (Some e) is = go (is_held_by unit e.status) refl
    where
      outs : List ModelElement
      outs = outputs l.rows s.next (of_unit unit e) drafts

      waits : (n : ℕ) → e.status ≡ Held unit n → is_held_by unit e.status ≡ true → (k : ℕ) (d : DraftView) → slice_get drafts k ≡ Some d → element_at (s.next + k) (commit_at id unit (Some e) drafts s).1.elements ≡ Some (made (of_unit unit e) d)
      waits n held by k d at = rw is at (outputs_wait s id unit n e drafts k d sound (record { found = is; held = held }) at)

      go : (c : Bool) → is_held_by unit e.status ≡ c → AreThere l (committed l.rows unit (Some e) drafts (commit_at id unit (Some e) drafts s).0) (commit_at id unit (Some e) drafts s).1
      go false held = rw held (no_births [] s refl)
      go true held = rw held (λ i x found. one i x (rw (append_nil outs) at found))
        where
          one : (i : ℕ) (x : ModelElement) → find (λ (y : ModelElement). y.id == i) outs ≡ Some x → IsThere l (consumed id unit e drafts s) x
          one i x found =
              let f = outputs_found l.rows (of_unit unit e) s.next drafts i x found in
              let d = draft_at drafts f.0 f.1 in
              let n = held_is s sound unit e.status held in
              let there = outputs_there l.rows (of_unit unit e) s.next drafts f.0 d.0 d.1 in
              let same : Some x ≡ Some (as_element l.rows (s.next + f.0) (made (of_unit unit e) d.0)) = sym (rw f.2 at found) ∙ there in
              record { id = s.next + f.0; one = made (of_unit unit e) d.0; found = rw held at (waits n.0 n.1 held f.0 d.0 d.1); is = cc }

  none_from : (call : Call) → born (events l.rows call s) ≡ [] → AreThere l (events l.rows call s) (after call s)
  none_from call none = no_births (events l.rows call s) (after call s) none

  there_after : (call : Call) → AreThere l (events l.rows call s) (after call s)
  there_after (Submit stage body owner) = there_submitted stage body owner
  there_after (Commit id unit drafts) = there_committed id unit drafts (element_at id s.elements) refl
  there_after (Claim stage) = none_from (Claim stage) (none_claimed l.rows (claim_of stage s).0)
  there_after (ClaimFrom stage from) = none_from (ClaimFrom stage from) (none_claimed l.rows (claim_from_of stage from s).0)
  there_after (Take id) = none_from (Take id) (none_taken l.rows (take_of id s).0)
  there_after (Abort id unit) = none_from (Abort id unit) (none_aborted unit (abort_of id unit s).0)
  there_after (Release id) = none_from (Release id) (none_released (release_of id s).0)
  there_after (Kill id) = none_from (Kill id) (none_killed_at l.rows id (element_at id s.elements))
  there_after (Cancel root) = none_from (Cancel root) (none_cancelled l.rows root s (cancel_of root s).0)
  there_after (Requeue id) = none_from (Requeue id) (none_requeued l.rows id (element_at id s.elements) (requeue_of id s).0)
  there_after (SetLimits limits) = none_from (SetLimits limits) refl
  there_after (Collect id) = none_from (Collect id) (none_collected l.rows id (collect_of id s).0)

-- ---- runs

-- each element of the history is there, or its request has come and is over
abbrev pub IsWhole : ModelLimits → List Event → State → Type 0
IsWhole l h s = (i : ℕ) (x : ModelElement) → element_of h i ≡ Some x → IsThere l s x ⊎ ((x.root < s.next) × (is_over x.root s.elements ≡ true))

whole_after : (l : ModelLimits) (h evs : List Event) (s t : State) → IsSound s → IsSound t → Follows s t → AreThere l evs t → IsWhole l h s → IsWhole l (h ++ evs) t
whole_after l h evs s t sound fit follows there whole i x is = go (option_or-some (element_of h i) (element_of evs i) x (sym (element_of-append h evs i) ∙ is))
  where
    still : IsThere l s x → IsThere l t x ⊎ ((x.root < t.next) × (is_over x.root t.elements ≡ true))
    still was = at (follows.stays was.id was.one was.found)
      where
        root_is : x.root ≡ was.one.root
        root_is = ap (λ (y : ModelElement). y.root) was.is

        low : was.one.root < t.next
        low = let a = (sound.each was.id was.one was.found).drawn in let b = (sound.each was.id was.one was.found).root in let c = follows.next in omega arith

        at : Remains t was.id was.one ⊎ IsForgotten t was.id was.one → IsThere l t x ⊎ ((x.root < t.next) × (is_over x.root t.elements ≡ true))
        at (inl r) = inl (record { id = was.id; one = r.now; found = r.found; is = was.is ∙ sym (ap (as_element l.rows was.id) r.goes.contents) })
        at (inr gone) = inr (rw root_is (low, gone.over))

    go : (element_of h i ≡ Some x) ⊎ ((element_of h i ≡ None) × (element_of evs i ≡ Some x)) → IsThere l t x ⊎ ((x.root < t.next) × (is_over x.root t.elements ≡ true))
    go (inr new) = inl (there i x new.1)
    go (inl old) = before (whole i x old)
      where
        before : IsThere l s x ⊎ ((x.root < s.next) × (is_over x.root s.elements ≡ true)) → IsThere l t x ⊎ ((x.root < t.next) × (is_over x.root t.elements ≡ true))
        before (inl was) = still was
        before (inr over) = inr (let a = follows.next in let b = over.0 in omega arith, over_still s t x.root sound fit follows over.0 over.1)

whole_run : (l : ModelLimits) (calls : List Call) (h : List Event) (s : State) → IsSound s → IsWhole l h s → IsWhole l (h ++ history l.rows calls s) (run calls s)
whole_run l [] h s sound whole = subst (λ g. IsWhole l g s) (sym (append_nil h)) whole
whole_run l (call ∷ calls) h s sound whole =
    let led = calls_follow call s sound in
    let one = whole_after l h (events l.rows call s) s (after call s) sound led.0 led.1 (there_after l s sound call) whole in
    let all = whole_run l calls (h ++ events l.rows call s) (after call s) led.0 one in
    subst (λ g. IsWhole l g (run calls (after call s))) (append_assoc h (events l.rows call s) (history l.rows calls (after call s))) all

pub runs_are_histories : RunsAreHistories
runs_are_histories limits calls l fit room =
    let k = records_run l calls [] (start limits) (start_sound limits) fit room (knows_start l limits) in
    let w = whole_run l calls [] (start limits) (start_sound limits) (λ i x is. absurd cc) in
    record { legal = k.legal; tells = k.tells; whole = λ i x is. forget_low x (w i x is) }
  where
    forget_low : (x : ModelElement) → IsThere l (run calls (start limits)) x ⊎ ((x.root < (run calls (start limits)).next) × (is_over x.root (run calls (start limits)).elements ≡ true)) → IsThere l (run calls (start limits)) x ⊎ (is_over x.root (run calls (start limits)).elements ≡ true)
    forget_low x (inl there) = inl there
    forget_low x (inr over) = inr over.1

pub have_room : HaveRoom
have_room s = record { rows = omega arith; parts = omega arith; units = refl; attempts = refl }

-- ---- families

-- what a status of the model says of that of the store
consumed_there : (stage : ℕ) (x : Status) (u : ℕ) → as_status stage x ≡ model.Consumed (u + 1) → x ≡ Consumed u
consumed_there stage (Consumed v) u h = go (stage == REPLY_STAGE) h
  where
    go : (b : Bool) → cond b model.Killed (model.Consumed (v + 1)) ≡ model.Consumed (u + 1) → Consumed v ≡ Consumed u
    go true h = absurd cc
    go false h = let same : v + 1 ≡ u + 1 = cc in ap Consumed (omega arith)
consumed_there stage (Waiting n) u h = absurd cc
consumed_there stage (Held v n) u h = absurd cc
consumed_there stage (Parked n) u h = absurd cc
consumed_there stage Killed u h = absurd cc

module _ (l : ModelLimits) (h : List Event) (s : State) (is : IsHistory l h s) (id : ℕ) (e : Element) (live : is_over e.root s.elements ≡ false) where
  of_client_there : (by : Option ℕ) → row l.rows by id ≡ e.root → option_map (λ u. u + 1) by ≡ None → (e.root ≡ id) × (by ≡ None)
  of_client_there None place none = (omega arith, refl)
  of_client_there (Some u) place none = absurd cc

  parent_there : (u : ℕ) (c : ComesFrom l.attempts h (as_element l.rows id e)) → u + 1 ≡ c.unit → IsParent s u e.root
  parent_there u c unit = go (is.whole c.parent.id c.parent c.born)
    where
      go : IsThere l s c.parent ⊎ (is_over c.parent.root s.elements ≡ true) → IsParent s u e.root
      go (inr over) = differ live (subst (λ r. is_over r s.elements ≡ true) c.root over)
      go (inl p) = record {
        id = p.id;
        one = p.one;
        found = p.found;
        root_is = sym (ap (λ (x : ModelElement). x.root) p.is) ∙ c.root;
        consumed = consumed_there p.one.stage p.one.status u (sym (is.tells p.id p.one p.found).status ∙ (ap (λ (x : ModelElement). status_of l.attempts h x.id) (sym p.is) ∙ (c.consumed ∙ ap model.Consumed (sym unit))));
      }

  by_unit : (c : ComesFrom l.attempts h (as_element l.rows id e)) (by : Option ℕ) → option_map (λ u. u + 1) by ≡ Some c.unit → (u : ℕ) × (by ≡ Some u) × IsParent s u e.root
  by_unit c None same = absurd cc
  by_unit c (Some u) same = let unit : u + 1 ≡ c.unit = cc in (u, refl, parent_there u c unit)

  tree : element_at id s.elements ≡ Some e → ((e.root ≡ id) × (e.by ≡ None)) ⊎ ((u : ℕ) × (e.by ≡ Some u) × IsParent s u e.root)
  tree found = go (family_is_tree l h (as_element l.rows id e) is.legal (is.tells id e found).contents)
    where
      go : ((row l.rows e.by id ≡ e.root) × (option_map (λ u. u + 1) e.by ≡ None)) ⊎ ComesFrom l.attempts h (as_element l.rows id e) → ((e.root ≡ id) × (e.by ≡ None)) ⊎ ((u : ℕ) × (e.by ≡ Some u) × IsParent s u e.root)
      go (inl client) = inl (of_client_there e.by client.0 client.1)
      go (inr c) = inr (by_unit c e.by c.by)

pub families_are_trees : FamiliesAreTrees
families_are_trees limits calls id e fit found live =
    let s = run calls (start limits) in
    let l = limits_for s in
    tree l (history l.rows calls (start limits)) s (runs_are_histories limits calls l fit (have_room s)) id e live found
