-- What Plain keeps of rounds, and what a requeue leaves.
use Rattle.std.proofs.Common.{◌≡◌, ℕ, suc, ◌+◌, ◌<◌, ◌≤◌, nat_lt, Bool, true, false, cond, Result, Ok, Err, arith, Some, List, [], ◌∷◌, ◌++◌, length, map, slice_index_or, slice_set, replicate, refl, sym, ◌∙◌, ap, subst, inl, inr}
use Rattle.std.proofs.lemmas.Bool.{le-leb}
use Rattle.std.proofs.lemmas.Bool.Decides.{eqb_tells, nat_tests}
use Rattle.std.proofs.lemmas.List.{get_or_read, get_or-set_same, get_or-set_other, length-set, get_or-replicate, length-replicate}
use Rattle.tp_model.specs.declared.types.Element.{Element}
use Rattle.tp_model.specs.declared.types.Limits.{Limits}
use Rattle.tp_model.specs.declared.types.Look.{Look}
use Rattle.tp_model.specs.declared.event.Event.{Event}
use Rattle.tp_model.specs.declared.event.Event.TheVariants.{Enqueue, Claim, Commit, Abort, Kill, Requeue}
use Rattle.tp_model.specs.History.{born, element_of, rounds, rounds_after, status_of}
use Rattle.tp_model.specs.declared.types.Refusal.{Refusal}
use Rattle.tp_model.specs.declared.types.Refusal.TheVariants as refusal
use Rattle.tp_model.specs.declared.types.Status.TheVariants.{Parked}
use Rattle.tp_model.proofs.Bridges.{element_of-id, in_none, is_born, unborn_still}
use Rattle.tp_model.proofs.Later.{births_inside}
use Rattle.tp_plain.specs.Computed.{requeue_of}
use Rattle.tp_model.specs.Steps.{Step, rows_of}
use Rattle.tp_model.proofs.Lists.{if_same, if_other}
use Rattle.tp_model.proofs.Histories.{legal_more, open_before}
use Rattle.tp_model.proofs.WordProofs.{rounds-snoc}
use Rattle.tp_plain.specs.declared.pass_state.PassState.{PassState}
use Rattle.tp_plain.specs.Looks.{KeepsRounds, look_after, look_at}
use Rattle.tp_plain.specs.OneThread.{State, extended, pass_at}
use Rattle.tp_plain.specs.Reached.{IsWithoutUnit, IsReachable, PassFits}
use Rattle.tp_model.proofs.Lists.{first-snoc}
use Rattle.tp_model.specs.History.{claim_by}
use Rattle.tp_plain.proofs.Claims.{looks_changed}
use Rattle.tp_plain.proofs.PassStates.{open_after, whole_before}
use Rattle.tp_plain.proofs.Rooms.{run_quiet}

pub rounds_fresh : (l : Limits) → KeepsRounds l [] (replicate (rows_of l) 0)
rounds_fresh l = record { as_many = length-replicate (rows_of l) 0; each = λ i less. get_or-replicate (rows_of l) i 0 0 less }

-- an event that gives no round leaves them
pub rounds_kept : (l : Limits) (h : List Event) (e : Event) (kept : List ℕ) → ((i : ℕ) → rounds_after i (rounds h i) e ≡ rounds h i) → KeepsRounds l h kept → KeepsRounds l (h ++ e ∷ []) kept
rounds_kept l h e kept same k = record { as_many = k.as_many; each = λ i less. k.each i less ∙ sym (rounds-snoc h e i ∙ same i) }

pub rounds_enqueue : (l : Limits) (h : List Event) (c : ℕ) (x : Element) (kept : List ℕ) → KeepsRounds l h kept → KeepsRounds l (h ++ Enqueue c x ∷ []) kept
rounds_enqueue l h c x kept k = rounds_kept l h (Enqueue c x) kept (λ i. refl) k

pub rounds_claim : (l : Limits) (h : List Event) (c u i n : ℕ) (kept : List ℕ) → KeepsRounds l h kept → KeepsRounds l (h ++ Claim c u i n ∷ []) kept
rounds_claim l h c u i n kept k = rounds_kept l h (Claim c u i n) kept (λ j. refl) k

pub rounds_commit : (l : Limits) (h : List Event) (c u : ℕ) (outs : List Element) (kept : List ℕ) → KeepsRounds l h kept → KeepsRounds l (h ++ Commit c u outs ∷ []) kept
rounds_commit l h c u outs kept k = rounds_kept l h (Commit c u outs) kept (λ i. refl) k

pub rounds_abort : (l : Limits) (h : List Event) (c u : ℕ) (kept : List ℕ) → KeepsRounds l h kept → KeepsRounds l (h ++ Abort c u ∷ []) kept
rounds_abort l h c u kept k = rounds_kept l h (Abort c u) kept (λ i. refl) k

pub rounds_quiet : (s : State) (e : Event) (kept : List ℕ) → IsWithoutUnit s e → KeepsRounds s.limits s.history kept → KeepsRounds s.limits (s.history ++ e ∷ []) kept
rounds_quiet s (Enqueue c x) kept quiet k = absurd quiet
rounds_quiet s (Claim c u i n) kept quiet k = absurd quiet
rounds_quiet s (Commit c u outs) kept quiet k = absurd quiet
rounds_quiet s (Abort c u) kept quiet k = rounds_kept s.limits s.history (Abort c u) kept (λ i. refl) k
rounds_quiet s (Kill c i) kept quiet k = rounds_kept s.limits s.history (Kill c i) kept (λ j. refl) k
rounds_quiet s (Requeue c i r) kept quiet k = absurd quiet

-- a requeue gives one
pub rounds_given : (l : Limits) (h : List Event) (c i r : ℕ) (kept : List ℕ) → i < rows_of l → r ≡ rounds h i + 1 → KeepsRounds l h kept → KeepsRounds l (h ++ Requeue c i r ∷ []) (slice_set kept i r)
rounds_given l h c i r kept there next k = record { as_many = length-set kept i r ∙ k.as_many; each = each }
  where
    each : (j : ℕ) → j < rows_of l → slice_index_or (slice_set kept i r) j 0 ≡ rounds (h ++ Requeue c i r ∷ []) j
    each j less =
        elim (eqb_tells j i) [
          | inl p ↦ let within : i < length kept = rw k.as_many there in
              rw (p.1) (get_or-set_same kept i r 0 within ∙ (next ∙ sym (rounds-snoc h (Requeue c i r) i ∙ if_same i i (rounds h i + 1) (rounds h i) refl)))
          | inr p ↦ get_or-set_other kept i j r 0 p.1 ∙ (k.each j less ∙ sym (rounds-snoc h (Requeue c i r) j ∙ if_other i j (rounds h j + 1) (rounds h j) (λ same. p.1 (sym same))))
        ]

-- a requeue leaves what a pass has used, whatever it has in its hand
fits_requeue : (l : Limits) (h : List Event) (drawn c i r d : ℕ) (used : PassState) → PassFits l h drawn d used → PassFits l (h ++ Requeue c i r ∷ []) drawn d used
fits_requeue l h drawn c i r d used fits =
    let e : Event = Requeue c i r in
    record {
      run = run_quiet l h drawn d used.next used.left fits.run e refl;
      claimed = fits.claimed;
      unclaimed = λ u low high. first-snoc (claim_by u) h e ∙ rw (fits.unclaimed u low high) refl;
      holding = λ u t is own. elim (open_before h e u t is) [ inl by ↦ absurd (cc (by)) | inr old ↦ fits.holding u t old.0 own ];
      held = λ u hand whole. (let old = fits.held u hand (whole_before h e u whole) in (old.0, open_after h e u old.0 old.1 refl, old.2));
    }

pub requeue_leaves : (s : State) (looks : List Look) (c i r : ℕ) → IsReachable s → looks ≡ map (look_at s.limits.attempts s.history) (born s.history) → Step s.limits s.history (Requeue c i r)
    → IsReachable (extended s (Requeue c i r)) × (map (look_after s.limits.attempts (Requeue c i r)) looks ≡ map (look_at s.limits.attempts (s.history ++ Requeue c i r ∷ [])) (born (s.history ++ Requeue c i r ∷ [])))
requeue_leaves s looks c i r reached agree step = (
  record {
    limits = reached.limits;
    legal = legal_more s.limits s.history (Requeue c i r) reached.legal step;
    passes = reached.passes;
    fits = λ d is_pass. fits_requeue s.limits s.history s.drawn c i r d (pass_at s d) (reached.fits d is_pass);
    apart = reached.apart;
    drawn = reached.drawn;
    undrawn = λ j low. unborn_still s.history (Requeue c i r) j (reached.undrawn j low) (λ x p same. in_none p);
  },
  looks_changed s.limits s.history (Requeue c i r) looks refl reached.legal step agree,
)

-- a parked element that has a round left may be given it
pub may_requeue : (s : State) (c i r n : ℕ) (e : Element) → c < s.limits.parts → element_of s.history i ≡ Some e → status_of s.limits.attempts s.history i ≡ Parked n → r ≡ rounds s.history i → r < 3 → Step s.limits s.history (Requeue c i (r + 1))
may_requeue s c i r n e given born is at few = record { pass = given; item = e; born = born; parked = (n, is); next = ap (λ z. z + 1) at; few = (let most : r + 1 ≤ 3 = omega arith in most) }

module _ (s : State) (c i r n : ℕ) (e : Element) (born_is : element_of s.history i ≡ Some e) (is : status_of s.limits.attempts s.history i ≡ Parked n) (at : r ≡ rounds s.history i) where
  pub requeue_goes : r < 3 → requeue_of s c i ≡ (Ok (r + 1), extended s (Requeue c i (r + 1)))
  requeue_goes few = rw (at, born_is, is) (rw (le-leb (suc (rounds s.history i)) 3 (let less : rounds s.history i < 3 = omega arith in less)) refl)

  pub requeue_over : 3 ≤ r → requeue_of s c i ≡ (Err refusal.NoRound, s)
  requeue_over many = rw (born_is, is) (go (nat_lt (rounds s.history i) 3) refl)
    where
      go : (b : Bool) → nat_lt (rounds s.history i) 3 ≡ b → cond {A = Result ℕ Refusal × State} b (Ok (rounds s.history i + 1), extended s (Requeue c i (rounds s.history i + 1))) (Err refusal.NoRound, s) ≡ (Err refusal.NoRound, s)
      go true less = let below : rounds s.history i < 3 = grind (arith, nat_tests) in absurd (omega arith)
      go false less = refl

-- the round that was read is the one that the history says
pub round_read : (l : Limits) (h : List Event) (kept : List ℕ) (i r : ℕ) → KeepsRounds l h kept → i < rows_of l → r ≡ slice_index_or kept i r → r ≡ rounds h i
round_read l h kept i r k there read = get_or_read kept i r (rw k.as_many there) read 0 ∙ k.each i there

pub row_inside : (s : State) (i : ℕ) (e : Element) → IsReachable s → element_of s.history i ≡ Some e → i < rows_of s.limits
row_inside s i e reached born_is = let id = element_of-id s.history i e born_is in subst (λ z. z < rows_of s.limits) id (births_inside s.limits s.history reached.legal e (is_born s.history i e born_is))
