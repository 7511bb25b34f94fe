-- What is computed of a pass that gives up what it has in hand.
use Rattle.std.proofs.Common.{◌≡◌, ℕ, ◌<◌, ◌≤◌, nat_lt, cond, if◌then◌else◌, is_some, Bool, true, false, Option, Some, None, List, [], ◌∷◌, ◌++◌, length, get_or, unwrap_or, inl, inr, refl, sym, ◌∙◌, ap, subst, arith}
use Rattle.std.proofs.lemmas.Bool.Decides.{eqb_tells}
use Rattle.std.proofs.lemmas.List.{get_or-set_same}
use Rattle.tp_model.specs.declared.types.Limits.{Limits}
use Rattle.tp_model.specs.declared.types.Status.{Status}
use Rattle.tp_model.specs.declared.types.Status.TheVariants.{Waiting, Held, Consumed, Parked, Killed}
use Rattle.tp_model.specs.declared.event.Event.{Event}
use Rattle.tp_model.specs.declared.event.Event.TheVariants.{Abort}
use Rattle.tp_model.specs.History.{Aborted, Committed, UnitEnd, aborted, end_of, here, status_of}
use Rattle.tp_model.specs.Passes.{IsOwnOpen}
use Rattle.tp_model.specs.Steps.{IsLegal}
use Rattle.tp_model.proofs.Bridges.{append_nil}
use Rattle.tp_model.proofs.Histories.{element_of-kept, open_holds, status_of-snoc}
use Rattle.tp_model.proofs.Lists.{if_other, if_same}
use Rattle.tp_plain.specs.Computed.{abort_at, abort_of}
use Rattle.tp_plain.specs.OneThread.{State, freed, no_pass, pass_at}
use Rattle.tp_plain.specs.declared.pass_state.PassState.{PassState}
use Rattle.tp_manager.specs.Bounds.{abort_steps}
use Rattle.tp_manager.specs.Shown.{KeeperShown, ManagerShown, PassShown}
use Rattle.tp_rollover.specs.Thread.{AreTogether, not_given, thread_of}
use Rattle.tp_rollover.specs.Bounds.{gathered, give_up_steps}
use Rattle.tp_rollover.specs.Closing.{AreMovedLiving, Buries, hand_given_up}
use Rattle.tp_rollover.specs.Lone.{AreLone, lone}
use Rattle.tp_rollover.specs.Rolls.{IsGivenUp, kills}
use Rattle.tp_rollover.specs.Survivors.{IsLiving}
use Rattle.tp_rollover.specs.declared.moved.Moved.{Moved}
use Rattle.tp_rollover.proofs.BirthsPlaces.{from_pass}

-- ---- the first of the passes

module _ (l : Limits) (ps : List PassShown) (h : List Event) (c : ℕ) (p : PassShown) (less : c < length ps) where
  pub hand_is : (pass_at (thread_of l ps h) c).holding ≡ (get_or ps c p).open_unit
  hand_is = ap (λ (z : PassState). z.holding) (from_pass ps (not_given l (length ps)) c p less)

  in_hand : is_some (pass_at (thread_of l ps h) c).holding ≡ is_some (get_or ps c p).open_unit
  in_hand = ap (λ (z : PassState). is_some z.holding) (from_pass ps (not_given l (length ps)) c p less)

  pub gives_open : is_some (get_or ps c p).open_unit ≡ true → hand_given_up c (thread_of l ps h) ≡ (abort_of (thread_of l ps h) c).1
  gives_open some = ap (λ b. cond b (abort_of (thread_of l ps h) c).1 (thread_of l ps h)) (in_hand ∙ some)

pub steps_open : (l : Limits) (q : ℕ) (ps : List PassShown) (p : PassShown) → 1 ≤ length ps → is_some (get_or ps 0 p).open_unit ≡ true → give_up_steps l q ps ≡ gathered l q abort_steps
steps_open l q [] p some open_is = absurd (omega (arith, some))
steps_open l q (x ∷ ps) p some open_is = ap (λ b. cond b (gathered l q abort_steps) 0) open_is

-- ---- over the manager of one thread

module _ (s : State) (c : ℕ) where
  free_at : (u : ℕ) (x : Option UnitEnd) → c < length s.passes → (pass_at (abort_at s c u x).1 c).holding ≡ None
  free_at u None inside = ap (λ (z : PassState). z.holding) (get_or-set_same s.passes c (freed (pass_at s c)) no_pass inside)
  free_at u (Some (Committed a b)) inside = ap (λ (z : PassState). z.holding) (get_or-set_same s.passes c (freed (pass_at s c)) no_pass inside)
  free_at u (Some Aborted) inside = ap (λ (z : PassState). z.holding) (get_or-set_same s.passes c (freed (pass_at s c)) no_pass inside)

  free_after : (o : Option ℕ) → (pass_at s c).holding ≡ o → c < length s.passes → (pass_at (hand_given_up c s) c).holding ≡ None
  free_after None is inside = ap (λ b. (pass_at (cond b (abort_of s c).1 s) c).holding) (ap is_some is) ∙ is
  free_after (Some u) is inside = ap (λ b. (pass_at (cond b (abort_of s c).1 s) c).holding) (ap is_some is) ∙ free_at (unwrap_or (pass_at s c).holding 0) (end_of s.history (unwrap_or (pass_at s c).holding 0)) inside

  pub none_left : c < length s.passes → (pass_at (hand_given_up c s) c).holding ≡ None
  none_left inside = free_after (pass_at s c).holding refl inside

  -- its history goes on by an abort, if by anything
  pub record GivesUp (h' : List Event) : Type 0 where
    pub events : List Event
    pub own : IsGivenUp s.limits.attempts s.history c events
    pub is : h' ≡ s.history ++ events

  module _ (legal : IsLegal s.limits s.history) (own : (u : ℕ) → (pass_at s c).holding ≡ Some u → IsOwnOpen s.history c u) where
    gives_at : (u : ℕ) → IsOwnOpen s.history c u → (x : Option UnitEnd) → end_of s.history u ≡ x → GivesUp (abort_at s c u x).1.history
    gives_at u mine None is = record {
      events = Abort c u ∷ [];
      own = inr (mine.item, u, mine.attempt, open_holds s.limits s.history legal u (record { pass = c; item = mine.item; attempt = mine.attempt }) (record { claimed = mine.claimed; unfinished = is }), refl);
      is = refl;
    }
    gives_at u mine (Some (Committed a b)) is = absurd (mine.uncommitted a b is)
    gives_at u mine (Some Aborted) is = record { events = []; own = inl refl; is = sym (append_nil s.history) }

    gives_for : (o : Option ℕ) → (pass_at s c).holding ≡ o → GivesUp (hand_given_up c s).history
    gives_for None is = record { events = []; own = inl refl; is = ap (λ b. (cond b (abort_of s c).1 s).history) (ap is_some is) ∙ sym (append_nil s.history) }
    gives_for (Some u) is =
        let done : (hand_given_up c s).history ≡ (abort_at s c u (end_of s.history u)).1.history =
        ap (λ b. (cond b (abort_of s c).1 s).history) (ap is_some is) ∙ ap (λ o. (abort_at s c (unwrap_or o 0) (end_of s.history (unwrap_or o 0))).1.history) is in
        subst GivesUp (sym done) (gives_at u (own u is) (end_of s.history u) refl)

    pub gives : GivesUp (hand_given_up c s).history
    gives = gives_for (pass_at s c).holding refl

-- ---- the first pass's own

first_own : (l : Limits) (keeper : KeeperShown) (ps : List PassShown) (h : List Event) → AreTogether l keeper ps h → 1 ≤ length ps → (u : ℕ) → (pass_at (thread_of l ps h) 0).holding ≡ Some u → IsOwnOpen h 0 u
first_own l keeper [] h together some u hand = absurd (omega (arith, some))
first_own l keeper (p ∷ ps) h together some u hand =
    let one = together.each p here in
    subst (λ z. IsOwnOpen z 0 u) one.seen (subst (λ c. IsOwnOpen p.seen c u) together.all.1.0 (one.shows.open_own u hand))

pub given_first : (m : ManagerShown) (keeper keeper' : KeeperShown) (ps qs : List PassShown) → AreLone m keeper ps → 1 ≤ length ps → lone m keeper' qs ≡ hand_given_up 0 (lone m keeper ps) → GivesUp (lone m keeper ps) 0 keeper'.seen
given_first m keeper keeper' ps qs is some given =
    subst (GivesUp (lone m keeper ps) 0) (sym (ap (λ (s : State). s.history) given))
    (gives (lone m keeper ps) 0 is.together.legal (first_own m.limits keeper ps keeper.seen is.together some))

-- ---- what was alive still is

aborted_lives : (limit u : ℕ) (st : Status) → IsLiving st → IsLiving (aborted limit u st)
aborted_lives limit u (Waiting n) lives = tt
aborted_lives limit u (Held v n) lives = elim (eqb_tells u v) [
  | inl p ↦ subst IsLiving (sym (if_same u v (if nat_lt n limit then Waiting n else Parked n) (Held v n) p.1)) (either (nat_lt n limit))
  | inr p ↦ subst IsLiving (sym (if_other u v (if nat_lt n limit then Waiting n else Parked n) (Held v n) p.1)) tt
]
  where
    either : (b : Bool) → IsLiving (cond b (Waiting n) (Parked n))
    either true = tt
    either false = tt
aborted_lives limit u (Consumed v) lives = absurd lives
aborted_lives limit u (Parked n) lives = tt
aborted_lives limit u Killed lives = absurd lives

pub live_on : (limit c : ℕ) (h es : List Event) (ms : List Moved) → IsGivenUp limit h c es → AreMovedLiving limit h ms → AreMovedLiving limit (h ++ es) ms
live_on limit c h es ms (inl none) live = subst (λ z. AreMovedLiving limit z ms) (sym (ap (λ z. h ++ z) none ∙ append_nil h)) live
live_on limit c h es ms (inr t) live = subst (λ z. AreMovedLiving limit (h ++ z) ms) (sym t.4) (record {
  each = λ m p. (let one = live.each m p in record {
    item = one.item;
    born = element_of-kept h (Abort c t.1 ∷ []) m.old one.item one.born;
    living = subst IsLiving (sym (status_of-snoc limit h (Abort c t.1) m.old)) (aborted_lives limit t.1 (status_of limit h m.old) one.living);
  });
  once = live.once;
})

-- the end of the old manager
pub burial : (limit c : ℕ) (h h1 h2 es : List Event) (ms : List Moved) → IsGivenUp limit h c es → h1 ≡ h ++ es → h2 ≡ h1 ++ kills limit h1 c ms → Buries limit c h h2 ms
burial limit c h h1 h2 es ms own first second = record { given_up = es; own = own; killed = second ∙ ap (λ z. z ++ kills limit z c ms) first }
