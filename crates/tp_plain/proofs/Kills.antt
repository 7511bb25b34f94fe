-- What a kill leaves.
use Rattle.std.proofs.Common.{◌≡◌, ℕ, ◌<◌, nat_lt, Bool, true, false, cond, if◌then◌else◌, Some, None, List, [], ◌∷◌, ◌++◌, map, refl, ◌∙◌, ap, subst, inl, inr}
use Rattle.std.proofs.lemmas.Bool.Decides.{eqb_tells}
use Rattle.tp_model.specs.declared.types.Element.{Element}
use Rattle.tp_model.specs.declared.types.Limits.{Limits}
use Rattle.tp_model.specs.declared.types.Look.{Look}
use Rattle.tp_plain.specs.declared.pass_state.PassState.{PassState}
use Rattle.tp_model.specs.declared.types.Status.TheVariants.{Waiting, Held, Parked}
use Rattle.tp_model.specs.declared.event.Event.{Event}
use Rattle.tp_model.specs.declared.event.Event.TheVariants.{Enqueue, Claim, Commit, Abort, Kill, Requeue}
use Rattle.tp_model.specs.History.{In, births, born, element_of, claim_by, aborted, status_of, pass_of}
use Rattle.tp_model.specs.Steps.{IsKillable, Step, IsLegal}
use Rattle.tp_plain.specs.OneThread.{State, pass_at, extended}
use Rattle.tp_plain.specs.Reached.{IsWithoutUnit, PassFits, IsReachable}
use Rattle.tp_plain.specs.Looks.{look_at, look_after}
use Rattle.tp_model.proofs.Lists.{first-snoc, if_same}
use Rattle.tp_model.proofs.Bridges.{in_none, unborn_still}
use Rattle.tp_model.proofs.Histories.{legal_more, element_of-kept, open_before, status_of-snoc}
use Rattle.tp_plain.proofs.PassStates.{fits_other}
use Rattle.tp_plain.proofs.Claims.{looks_changed}
use Rattle.tp_plain.proofs.Rooms.{run_quiet}
use Rattle.tp_plain.proofs.UnitEnds.{held_undecided}
use Rattle.tp_plain.proofs.Commits.{held_claimed}

-- an event that makes and claims nothing leaves what a pass with an empty hand has used
fits_quiet : (l : Limits) (h : List Event) (drawn : ℕ) (e : Event) (c : ℕ) (used : PassState) → births e ≡ [] → ((u : ℕ) → claim_by u e ≡ None) → PassFits l h drawn c used → used.holding ≡ None → PassFits l (h ++ e ∷ []) drawn c used
fits_quiet l h drawn e c used none unclaimed fits free =
    record {
      run = run_quiet l h drawn c used.next used.left fits.run e none;
      claimed = fits.claimed;
      unclaimed = λ u low high. first-snoc (claim_by u) h e ∙ rw (fits.unclaimed u low high) (unclaimed u);
      holding = λ u t is own. elim (open_before h e u t is) [ inl by ↦ absurd (let no = unclaimed u in cc) | inr old ↦ fits.holding u t old.0 own ];
      held = λ u hand whole. absurd (cc);
    }

reached_quiet : (s : State) (e : Event) (c : ℕ) → IsReachable s → Step s.limits s.history e → births e ≡ [] → ((u : ℕ) → claim_by u e ≡ None) → pass_of e ≡ c → (pass_at s c).holding ≡ None → IsReachable (extended s e)
reached_quiet s e c reached step none unclaimed by free =
    record {
      limits = reached.limits;
      legal = legal_more s.limits s.history e reached.legal step;
      passes = reached.passes;
      fits = fits;
      apart = reached.apart;
      drawn = reached.drawn;
      undrawn = λ i low. unborn_still s.history e i (reached.undrawn i low) (λ x p same. nothing x p);
    }
  where
    nothing : (x : Element) → In x (births e) → ⊥
    nothing x p = in_none (subst (λ xs. In x xs) none p)

    fits : (d : ℕ) → d < s.limits.parts → PassFits s.limits (s.history ++ e ∷ []) s.drawn d (pass_at s d)
    fits d is_pass =
        elim (eqb_tells d c) [
          | inl p ↦ fits_quiet s.limits s.history s.drawn e d (pass_at s d) none unclaimed (reached.fits d is_pass) (ap (λ k. (pass_at s k).holding) p.1 ∙ free)
          | inr p ↦ fits_other s.limits s.history s.drawn e step d (pass_at s d) is_pass (λ same. p.1 (same ∙ by)) (reached.fits d is_pass) (λ x there_is low high. nothing x there_is)
        ]

-- what a quiet event leaves
pub mark_leaves : (s : State) (looks : List Look) (e : Event) → IsReachable s → looks ≡ map (look_at s.limits.attempts s.history) (born s.history) → Step s.limits s.history e → IsWithoutUnit s e
    → IsReachable (extended s e) × (map (look_after s.limits.attempts e) looks ≡ map (look_at s.limits.attempts (s.history ++ e ∷ [])) (born (s.history ++ e ∷ [])))
mark_leaves s looks (Enqueue c e) reached agree step quiet = absurd quiet
mark_leaves s looks (Claim c u i n) reached agree step quiet = absurd quiet
mark_leaves s looks (Commit c u outs) reached agree step quiet = absurd quiet
mark_leaves s looks (Requeue c i k) reached agree step quiet = absurd quiet
mark_leaves s looks (Abort c u) reached agree step quiet =
    (reached_quiet s (Abort c u) c reached step refl (λ v. refl) refl quiet.1, looks_changed s.limits s.history (Abort c u) looks refl reached.legal step agree)
mark_leaves s looks (Kill c i) reached agree step quiet =
    (reached_quiet s (Kill c i) c reached step refl (λ v. refl) refl quiet.1, looks_changed s.limits s.history (Kill c i) looks refl reached.legal step agree)

-- the unit that holds an element may be aborted, by anyone
pub may_abort : (l : Limits) (h : List Event) (c i u n : ℕ) → c < l.parts → IsLegal l h → status_of l.attempts h i ≡ Held u n → Step l h (Abort c u)
may_abort l h c i u n given legal is =
    let t = held_claimed l h i u n legal is in
    record { pass = given; taking = t.0; open_unit = record { claimed = t.1; unfinished = held_undecided l h i u n legal is } }

-- and then the element may be killed
pub may_kill_after : (l : Limits) (h : List Event) (c i u n : ℕ) (e : Element) → c < l.parts → element_of h i ≡ Some e → status_of l.attempts h i ≡ Held u n → Step l (h ++ Abort c u ∷ []) (Kill c i)
may_kill_after l h c i u n e given born is =
    let now : status_of l.attempts (h ++ Abort c u ∷ []) i ≡ (if nat_lt n l.attempts then Waiting n else Parked n) =
    status_of-snoc l.attempts h (Abort c u) i ∙ (ap (aborted l.attempts u) is ∙ if_same u u (if nat_lt n l.attempts then Waiting n else Parked n) (Held u n) refl) in
    record { pass = given; item = e; born = element_of-kept h (Abort c u ∷ []) i e born; free = rw now (either (nat_lt n l.attempts)) }
  where
    either : (b : Bool) → IsKillable (cond b (Waiting n) (Parked n))
    either true = tt
    either false = tt
