-- What is left where a claimed element is given up or committed, and where it is given a round.
use Rattle.std.proofs.Common.{◌≡◌, ◌≢◌, ℕ, zero, suc, ◌+◌, ◌<◌, ◌≤◌, ◌==◌, if◌then◌else◌, nat_lt, Bool, true, false, All, Option, Some, None, Ok, Err, List, [], ◌∷◌, length, slice_index_or, refl, sym, ◌∙◌, ap, subst, arith}
use Rattle.std.proofs.lemmas.Bool.{leb-true}
use Rattle.std.proofs.lemmas.List.{get_or-set_other, get_or-set_same}
use Rattle.std.specs.List.{find}
use Rattle.std.specs.Option.{option_or}
use Rattle.tp_model.specs.Births.{IsWhole, outputs}
use Rattle.tp_model.specs.Drafts.{DraftView}
use Rattle.tp_model.specs.declared.types.Element.{Element}
use Rattle.tp_model.specs.declared.types.Look.{Look}
use Rattle.tp_model.specs.declared.types.Outcome.TheVariants as outcome
use Rattle.tp_model.specs.declared.types.Refusal.TheVariants as refusal
use Rattle.tp_model.specs.declared.types.Status.{Status}
use Rattle.tp_model.specs.declared.types.Status.TheVariants.{Waiting, Held, Consumed, Parked, Killed}
use Rattle.tp_model.specs.declared.types.Work.{Work}
use Rattle.tp_model.specs.declared.event.Event.{Event}
use Rattle.tp_model.specs.declared.event.Event.TheVariants.{Abort, Claim, Commit, Requeue}
use Rattle.tp_model.specs.History.{aborted, claim_of, committed, element_of, end_of, rounds}
use Rattle.tp_model.proofs.Bridges.{element_of-id, new_claim}
use Rattle.tp_model.proofs.Histories.{element_of-snoc, status_of-snoc}
use Rattle.tp_model.proofs.Lists.{if_other, if_same}
use Rattle.tp_model.proofs.WordProofs.{rounds-snoc}
use Rattle.tp_plain.specs.Computed.{abort_of, claim_id_of, commit_of, has_room, requeue_at, requeue_found, requeue_of, with_claimed}
use Rattle.tp_plain.specs.Looks.{is_held_by, looks_after_all}
use Rattle.tp_plain.specs.OneThread.{HasPlainRoom, State, extended, made_of, moved, first_row, next_unit, no_pass, pass_at, ready, root_of, freed_after_use, having_taken, with_draw}
use Rattle.tp_plain.specs.Reached.{IsReachable}
use Rattle.tp_plain.specs.declared.pass_state.PassState.{PassState}
use Rattle.tp_model.specs.declared.types.Ended.TheVariants as ended
use Rattle.tp_plain.specs.OneThread.{freed}
use Rattle.tp_plain.proofs.Claims.{reached_claim}
use Rattle.tp_plain.proofs.Commits.{held_claimed, left_by_commit}
use Rattle.tp_plain.proofs.Computations.{abort_goes, commit_goes}
use Rattle.tp_model.specs.declared.types.Ended.{Ended}
use Rattle.tp_plain.proofs.Requeues.{may_requeue, requeue_leaves}
use Rattle.tp_plain.proofs.Given.{served, waits_there}
use Rattle.tp_plain.proofs.UnitEnds.{abort_leaves, aborted_of, held_undecided}
use Rattle.tp_plain.proofs.PassStates.{fits_ready}
use Rattle.tp_rollover.specs.Anew.{attempted, born_by, first_given, given, requeued}
use Rattle.tp_rollover.specs.Holds.{status_in}
use Rattle.tp_rollover.proofs.Idling.{AreIdle, and_then_some, free_made, same_some}
use Rattle.tp_rollover.proofs.Acts.{Claimed, Uses, claimed_so, none_more}

default_same : {A : Type 0} (xs : List A) (i : ℕ) (d e : A) → i < length xs → slice_index_or xs i d ≡ slice_index_or xs i e
default_same [] i d e less = absurd (omega (arith, less))
default_same (x ∷ xs) zero d e less = refl
default_same (x ∷ xs) (suc i) d e less = default_same xs i d e (omega (arith, less))

-- element i was claimed and given up
pub record Attempted (s t : State) (c i : ℕ) : Type 0 where
  pub reached : IsReachable t
  pub limits : t.limits ≡ s.limits
  pub tries : ℕ
  pub was : status_in s i ≡ Waiting tries
  pub is : status_in t i ≡ (if nat_lt (tries + 1) s.limits.attempts then Waiting (tries + 1) else Parked (tries + 1))
  pub others : (j : ℕ) → j ≢ i → status_in t j ≡ status_in s j
  pub elements : (j : ℕ) → element_of t.history j ≡ element_of s.history j
  pub rounds_are : (j : ℕ) → rounds t.history j ≡ rounds s.history j
  pub claimed : (pass_at t c).claimed ≡ (pass_at s c).claimed + 1
  pub claims : (d : ℕ) → d ≢ c → (pass_at t d).claimed ≡ (pass_at s d).claimed

-- pass c claimed element i, and committed it with these drafts
pub record Borne (s t : State) (c i : ℕ) (drafts : List DraftView) (first : ℕ) : Type 0 where
  pub uses : Uses s t c (length drafts)
  pub unit : ℕ
  pub tries : ℕ
  pub item : Element
  pub taken : element_of s.history i ≡ Some item
  pub was : status_in s i ≡ Waiting tries
  pub is : status_in t i ≡ Consumed unit
  pub others : (j : ℕ) → j ≢ i → status_in t j ≡ status_in s j
  pub elements : (j : ℕ) → element_of t.history j ≡ option_or (element_of s.history j) (find (λ (y : Element). y.id == j) (outputs unit item.root first drafts))
  pub unborn : (j : ℕ) → first ≤ j → j < first + length drafts → element_of s.history j ≡ None
  pub rounds_are : (j : ℕ) → rounds t.history j ≡ rounds s.history j
  pub claimed : (pass_at t c).claimed ≡ (pass_at s c).claimed + 1

-- behind a claim
module _ (s s1 : State) (c i : ℕ) (reached : IsReachable s) (is_pass : c < s.limits.parts) (free : (pass_at s c).holding ≡ None) (claimed : Claimed s s1 c i) where
  abbrev unit : ℕ
  unit = next_unit s c

  abbrev look : Look
  look = record { element = claimed.item; status = Waiting claimed.tries }

  abbrev after : State
  after = with_claimed s c look (pass_at s c).turns

  abbrev event : Event
  event = Claim c unit claimed.item.id (claimed.tries + 1)

  abbrev used : PassState
  used = having_taken s c (record { unit = unit; element = claimed.item; attempt = claimed.tries + 1 }) (pass_at s c).turns

  id : claimed.item.id ≡ i
  id = element_of-id s.history i claimed.item claimed.taken

  within : c < length s.passes
  within = rw reached.passes is_pass

  own : pass_at after c ≡ used
  own = get_or-set_same s.passes c used no_pass within

  reached_after : IsReachable after
  reached_after = reached_claim s c claimed.item.stage look reached is_pass (served s i reached.legal claimed.item claimed.taken claimed.served) (waits_there s i reached.legal claimed.item claimed.taken claimed.tries claimed.was) claimed.room free (pass_at s c).turns

  hand : (pass_at after c).holding ≡ Some unit
  hand = ap (λ (z : PassState). z.holding) own

  held : status_in after i ≡ Held unit (claimed.tries + 1)
  held = status_of-snoc s.limits.attempts s.history event i ∙ if_same claimed.item.id i (Held unit (claimed.tries + 1)) (status_in s i) id

  others : (j : ℕ) → j ≢ i → status_in after j ≡ status_in s j
  others j not = status_of-snoc s.limits.attempts s.history event j ∙ if_other claimed.item.id j (Held unit (claimed.tries + 1)) (status_in s j) (λ same. not (sym same ∙ id))

  elements : (j : ℕ) → element_of after.history j ≡ element_of s.history j
  elements j = element_of-snoc s.history event j ∙ none_more (element_of s.history j)

  rounds_same : (j : ℕ) → rounds after.history j ≡ rounds s.history j
  rounds_same j = rounds-snoc s.history event j

  unused : claim_of s.history unit ≡ None
  unused = let room = claimed.room in (reached.fits c is_pass).unclaimed unit (omega arith) (omega arith)

  undecided : end_of after.history unit ≡ None
  undecided = held_undecided s.limits after.history i unit (claimed.tries + 1) reached_after.legal held

  none_held : (j n : ℕ) → status_in s j ≡ Held unit n → ⊥
  none_held j n is = let t = held_claimed s.limits s.history j unit n reached.legal is in let a = t.1 in let b = unused in cc

  root_is : root_of after.history unit ≡ claimed.item.root
  root_is = rw (new_claim s.history c unit claimed.item.id (claimed.tries + 1) unused, ap (element_of after.history) id ∙ (elements i ∙ claimed.taken)) refl

  the_look : (x : Look) × (find (λ (l : Look). is_held_by unit l.status) (looks_after_all s.limits.attempts after.history) ≡ Some x)
  the_look = go (find (λ (l : Look). is_held_by unit l.status) (looks_after_all s.limits.attempts after.history)) refl
    where
      go : (o : Option Look) → find (λ (l : Look). is_held_by unit l.status) (looks_after_all s.limits.attempts after.history) ≡ o → (x : Look) × (o ≡ Some x)
      go None is = absurd (let gone = aborted_of after (looks_after_all s.limits.attempts after.history) reached_after refl c unit is_pass hand is in let no = undecided in cc)
      go (Some x) is = (x, refl)

  -- ---- and it is given up
  aborted_there : abort_of after c ≡ (ended.Aborted, moved after (Abort c unit) c (freed (pass_at after c)))
  aborted_there = abort_goes after c unit hand undecided

  reached_given : IsReachable (moved after (Abort c unit) c (freed (pass_at after c)))
  reached_given =
      (abort_leaves after.limits after.history after.passes after.drawn (looks_after_all s.limits.attempts after.history) c reached_after refl is_pass (pass_at after c)
      (default_same after.passes c no_pass (pass_at after c) (rw (reached_after.passes) is_pass)) unit hand the_look.0 the_look.1).0

  -- the others are left as they were
  aborted_other : (limit u : ℕ) (st : Status) → ((n : ℕ) → st ≢ Held u n) → aborted limit u st ≡ st
  aborted_other limit u (Waiting n) not = refl
  aborted_other limit u (Held v n) not = if_other u v (if nat_lt n limit then Waiting n else Parked n) (Held v n) (λ same. not n (ap (λ k. Held k n) (sym same)))
  aborted_other limit u (Consumed v) not = refl
  aborted_other limit u (Parked n) not = refl
  aborted_other limit u Killed not = refl

  committed_other : (u : ℕ) (st : Status) → ((n : ℕ) → st ≢ Held u n) → committed u st ≡ st
  committed_other u (Waiting n) not = refl
  committed_other u (Held v n) not = if_other u v (Consumed v) (Held v n) (λ same. not n (ap (λ k. Held k n) (sym same)))
  committed_other u (Consumed v) not = refl
  committed_other u (Parked n) not = refl
  committed_other u Killed not = refl

  none_after : (j : ℕ) → j ≢ i → (n : ℕ) → status_in after j ≢ Held unit n
  none_after j not n is = none_held j n (sym (others j not) ∙ is)

  abbrev given_up : State
  given_up = moved after (Abort c unit) c (freed (pass_at after c))

  given_is : status_in given_up i ≡ (if nat_lt (claimed.tries + 1) s.limits.attempts then Waiting (claimed.tries + 1) else Parked (claimed.tries + 1))
  given_is =
      status_of-snoc s.limits.attempts after.history (Abort c unit) i
      ∙ (ap (aborted s.limits.attempts unit) held
      ∙ if_same unit unit (if nat_lt (claimed.tries + 1) s.limits.attempts then Waiting (claimed.tries + 1) else Parked (claimed.tries + 1)) (Held unit (claimed.tries + 1)) refl)

  own_given : pass_at given_up c ≡ freed (pass_at after c)
  own_given = get_or-set_same after.passes c (freed (pass_at after c)) no_pass (rw (reached_after.passes) is_pass)

  other_given : (d : ℕ) → d ≢ c → pass_at given_up d ≡ pass_at s d
  other_given d not = get_or-set_other after.passes c d (freed (pass_at after c)) no_pass not ∙ get_or-set_other s.passes c d used no_pass not

  pub attempted_then : Attempted s given_up c i
  attempted_then = record {
    reached = reached_given;
    limits = refl;
    tries = claimed.tries;
    was = claimed.was;
    is = given_is;
    others = λ j not. status_of-snoc s.limits.attempts after.history (Abort c unit) j ∙ (aborted_other s.limits.attempts unit (status_in after j) (none_after j not) ∙ others j not);
    elements = λ j. element_of-snoc after.history (Abort c unit) j ∙ (none_more (element_of after.history j) ∙ elements j);
    rounds_are = λ j. rounds-snoc after.history (Abort c unit) j ∙ rounds_same j;
    claimed = ap (λ (z : PassState). z.claimed) own_given ∙ ap (λ (z : PassState). z.claimed) own;
    claims = λ d not. ap (λ (z : PassState). z.claimed) (other_given d not);
  }

  -- ---- or it is committed
  module _ (drafts : List DraftView) (whole : All IsWhole drafts) (few : length drafts ≤ 4) where
    abbrev outs : List Element
    outs = outputs unit claimed.item.root (first_row s c (length drafts)) drafts

    ready_next : first_row after c (length drafts) ≡ first_row s c (length drafts)
    ready_next = rw own refl

    ready_left : (ready after c (length drafts)).left ≡ (ready s c (length drafts)).left
    ready_left = rw own refl

    drawn_same : (with_draw after c (length drafts)).drawn ≡ (with_draw s c (length drafts)).drawn
    drawn_same = rw own refl

    made_is : made_of after c unit drafts ≡ outs
    made_is = rw (root_is, ready_next) refl

    abbrev done : State
    done = moved (with_draw after c (length drafts)) (Commit c unit (made_of after c unit drafts)) c (freed_after_use (ready after c (length drafts)) (length drafts))

    own_done : pass_at done c ≡ freed_after_use (ready after c (length drafts)) (length drafts)
    own_done = get_or-set_same after.passes c (freed_after_use (ready after c (length drafts)) (length drafts)) no_pass (rw (reached_after.passes) is_pass)

    other_done : (d : ℕ) → d ≢ c → pass_at done d ≡ pass_at s d
    other_done d not = get_or-set_other after.passes c d (freed_after_use (ready after c (length drafts)) (length drafts)) no_pass not ∙ get_or-set_other s.passes c d used no_pass not

    commit_is : HasPlainRoom after c (length drafts) → commit_of after c drafts ≡ (outcome.Committed (if length drafts == 0 then 0 else first_row after c (length drafts)) (length drafts), done)
    commit_is room = commit_goes after c unit drafts hand undecided room

    reached_done : HasPlainRoom after c (length drafts) → IsReachable done
    reached_done room =
        let left = left_by_commit after (looks_after_all s.limits.attempts after.history) c reached_after refl is_pass unit the_look.0 the_look.1 drafts whole few hand room in
        subst IsReachable left.3.after left.0

    unborn_rows : HasPlainRoom after c (length drafts) → (j : ℕ) → first_row s c (length drafts) ≤ j → j < first_row s c (length drafts) + length drafts → element_of s.history j ≡ None
    unborn_rows room j low high =
        let a = ready_left in
        (fits_ready s c (length drafts) reached is_pass).run.unborn j low (omega arith)

    pub committed_then : HasPlainRoom after c (length drafts) → Borne s done c i drafts (first_row s c (length drafts))
    committed_then room = record {
      uses = record {
        reached = reached_done room;
        limits = refl;
        room = (let a = ready_left in omega arith);
        next = ap (λ (z : PassState). z.next) own_done ∙ ap (λ n. n + length drafts) ready_next;
        left = ap (λ (z : PassState). z.left + length drafts) own_done ∙ (omega arith ∙ ready_left);
        drawn = drawn_same;
        others = λ d not. (ap (λ (z : PassState). z.next) (other_done d not), ap (λ (z : PassState). z.left) (other_done d not));
        claims = λ d not. ap (λ (z : PassState). z.claimed) (other_done d not);
      };
      unit = unit;
      tries = claimed.tries;
      item = claimed.item;
      taken = claimed.taken;
      was = claimed.was;
      is = status_of-snoc s.limits.attempts after.history (Commit c unit (made_of after c unit drafts)) i ∙ (ap (committed unit) held ∙ if_same unit unit (Consumed unit) (Held unit (claimed.tries + 1)) refl);
      others = λ j not. status_of-snoc s.limits.attempts after.history (Commit c unit (made_of after c unit drafts)) j ∙ (committed_other unit (status_in after j) (none_after j not) ∙ others j not);
      elements = λ j. element_of-snoc after.history (Commit c unit (made_of after c unit drafts)) j
          ∙ (ap (λ o. option_or o (find (λ (y : Element). y.id == j) (made_of after c unit drafts))) (elements j) ∙ ap (λ ys. option_or (element_of s.history j) (find (λ (y : Element). y.id == j) ys)) made_is);
      unborn = unborn_rows room;
      rounds_are = λ j. rounds-snoc after.history (Commit c unit (made_of after c unit drafts)) j ∙ rounds_same j;
      claimed = ap (λ (z : PassState). z.claimed) own_done ∙ ap (λ (z : PassState). z.claimed) own;
    }

pub attempted_so : (s : State) (c i : ℕ) (t : State) → IsReachable s → c < s.limits.parts → AreIdle s → attempted c i s ≡ Some t → Attempted s t c i
attempted_so s c i t reached is_pass idle is =
    let x = and_then_some (λ (claimed : Work × State). Some (abort_of claimed.1 c).1) (given (claim_id_of s c i)) t (free_made s c _ t is) in
    let claimed = claimed_so s c i x.0.0 x.0.1 x.1 in
    let there = aborted_there s x.0.1 c i reached is_pass (idle c) claimed in
    let at : (abort_of (after s x.0.1 c i reached is_pass (idle c) claimed) c).1 ≡ t = subst (λ (z : State). (abort_of z c).1 ≡ t) (sym claimed.same) (same_some _ t x.2) in
    subst (λ (z : State). Attempted s z c i) (sym (ap (λ (y : Ended × State). y.1) there) ∙ at) (attempted_then s x.0.1 c i reached is_pass (idle c) claimed)

pub born_so : (s : State) (c i : ℕ) (drafts : List DraftView) (first : ℕ) (t : State) → IsReachable s → c < s.limits.parts → AreIdle s → All IsWhole drafts → 1 ≤ length drafts → length drafts ≤ 4
    → born_by c i drafts s ≡ Some (first, t) → Borne s t c i drafts first × (first ≡ first_row s c (length drafts))
born_so s c i drafts first t reached is_pass idle whole some few is =
    let x = and_then_some (λ (claimed : Work × State). first_given (commit_of claimed.1 c drafts)) (given (claim_id_of s c i)) (first, t) (free_made s c _ (first, t) is) in
    let claimed = claimed_so s c i x.0.0 x.0.1 x.1 in
    at claimed (subst (λ (z : State). first_given (commit_of z c drafts) ≡ Some (first, t)) (sym claimed.same) x.2)
  where
    at : {s1 : State} (claimed : Claimed s s1 c i) → first_given (commit_of (after s s1 c i reached is_pass (idle c) claimed) c drafts) ≡ Some (first, t) → Borne s t c i drafts first × (first ≡ first_row s c (length drafts))
    at {s1 = s1} claimed got = go (has_room s' c (length drafts)) refl
      where
        s' : State
        s' = after s s1 c i reached is_pass (idle c) claimed

        row : ℕ
        row = if length drafts == 0 then 0 else first_row s' c (length drafts)

        row_is : row ≡ first_row s c (length drafts)
        row_is = if_other (length drafts) 0 0 (first_row s' c (length drafts)) (λ same. omega (arith, same, some)) ∙ ready_next s s1 c i reached is_pass (idle c) claimed drafts whole few

        go : (b : Bool) → has_room s' c (length drafts) ≡ b → Borne s t c i drafts first × (first ≡ first_row s c (length drafts))
        go false room = absurd (let q : first_given (commit_of s' c drafts) ≡ None = rw room refl in let r = sym q ∙ got in cc)
        go true room =
            let fits = leb-true (length drafts) (ready s' c (length drafts)).left room in
            let both : ℕ × State = (row, done s s1 c i reached is_pass (idle c) claimed drafts whole few) in
            let got' : ℕ × State = (first, t) in
            let same : both ≡ got' = same_some both got' (sym (ap first_given (commit_is s s1 c i reached is_pass (idle c) claimed drafts whole few fits)) ∙ got) in
            let is : first ≡ first_row s c (length drafts) = sym (ap (λ (z : ℕ × State). z.0) same) ∙ row_is in
            (subst (λ f. Borne s t c i drafts f) (sym is) (subst (λ (z : State). Borne s z c i drafts (first_row s c (length drafts))) (ap (λ (z : ℕ × State). z.1) same) (committed_then s s1 c i reached is_pass (idle c) claimed drafts whole few fits)), is)

-- ---- a further round

pub record Renewed (s t : State) (i : ℕ) : Type 0 where
  pub reached : IsReachable t
  pub limits : t.limits ≡ s.limits
  pub tries : ℕ
  pub was : status_in s i ≡ Parked tries
  pub is : status_in t i ≡ Waiting 0
  pub others : (j : ℕ) → j ≢ i → status_in t j ≡ status_in s j
  pub elements : (j : ℕ) → element_of t.history j ≡ element_of s.history j
  pub more : rounds t.history i ≡ rounds s.history i + 1
  pub rounds_are : (j : ℕ) → j ≢ i → rounds t.history j ≡ rounds s.history j
  pub passes : t.passes ≡ s.passes

module _ (s : State) (c i : ℕ) (reached : IsReachable s) (is_pass : c < s.limits.parts) where
  renewed_then : (e : Element) (n : ℕ) → element_of s.history i ≡ Some e → status_in s i ≡ Parked n → rounds s.history i < 3 → Renewed s (extended s (Requeue c i (rounds s.history i + 1))) i
  renewed_then e n there is few =
      let event : Event = Requeue c i (rounds s.history i + 1) in
      let step = may_requeue s c i (rounds s.history i) n e is_pass there is refl few in
      record {
        reached = (requeue_leaves s (looks_after_all s.limits.attempts s.history) c i (rounds s.history i + 1) reached refl step).0;
        limits = refl;
        tries = n;
        was = is;
        is = status_of-snoc s.limits.attempts s.history event i ∙ if_same i i (Waiting 0) (status_in s i) refl;
        others = λ j not. status_of-snoc s.limits.attempts s.history event j ∙ if_other i j (Waiting 0) (status_in s j) (λ same. not (sym same));
        elements = λ j. element_of-snoc s.history event j ∙ none_more (element_of s.history j);
        passes = refl;
        more = rounds-snoc s.history event i ∙ if_same i i (rounds s.history i + 1) (rounds s.history i) refl;
        rounds_are = λ j not. rounds-snoc s.history event j ∙ if_other i j (rounds s.history j + 1) (rounds s.history j) (λ same. not (sym same));
      }

  pub renewed_so : (t : State) → requeued c i s ≡ Some t → Renewed s t i
  renewed_so t is =
      let x = and_then_some (λ (done : ℕ × State). Some done.1) (given (requeue_of s c i)) t is in
      subst (λ (z : State). Renewed s z i) (same_some x.0.1 t x.2) (found (element_of s.history i) refl x.0 x.1)
    where
      at : (e : Element) → element_of s.history i ≡ Some e → (st : Status) (x : ℕ × State) → status_in s i ≡ st → given (requeue_at s c i (rounds s.history i) st) ≡ Some x → Renewed s x.1 i
      at e there (Waiting n) x stands is = absurd cc
      at e there (Held u n) x stands is = absurd cc
      at e there (Consumed u) x stands is = absurd cc
      at e there (Parked n) x stands is = go (nat_lt (rounds s.history i) 3) refl is
        where
          go : (b : Bool) → nat_lt (rounds s.history i) 3 ≡ b → given (if b then (Ok (rounds s.history i + 1), extended s (Requeue c i (rounds s.history i + 1))) else (Err refusal.NoRound, s)) ≡ Some x → Renewed s x.1 i
          go true less is = subst (λ (z : ℕ × State). Renewed s z.1 i) (same_some _ x is) (renewed_then e n there stands (leb-true (suc (rounds s.history i)) 3 less))
          go false less is = absurd cc
      at e there Killed x stands is = absurd cc

      found : (o : Option Element) → element_of s.history i ≡ o → (x : ℕ × State) → given (requeue_found s c i o) ≡ Some x → Renewed s x.1 i
      found None there x is = absurd cc
      found (Some e) there x is = at e there (status_in s i) x refl is
