-- What each pass has used stays what the history says, whoever moves.
use Rattle.std.proofs.Common.{◌≡◌, ◌≢◌, ℕ, suc, ◌+◌, ◌*◌, ◌<◌, ◌≤◌, ◌==◌, nat_lt, Bool, true, false, cond, if◌then◌else◌, Some, None, List, [], ◌∷◌, ◌++◌, length, slice_index_or, slice_set, refl, sym, ◌∙◌, ap, subst, inl, inr, arith}
use Rattle.std.proofs.lemmas.Bool.{and_parts, leb-true}
use Rattle.std.proofs.lemmas.Bool.Decides.{eqb_tells}
use Rattle.std.proofs.lemmas.List.{get_or-set_same, get_or-set_other, length-set, set-get_or, set-set}
use Rattle.std.proofs.lemmas.List.FromFn.{get_or-map-range_with_len, length-map-range_with_len}
use Rattle.std.specs.Option.{option_or}
use Rattle.tp_model.specs.declared.types.Element.{Element}
use Rattle.tp_model.specs.declared.types.Limits.{Limits}
use Rattle.tp_model.specs.declared.types.TheConstants.{BLOCK_ROWS}
use Rattle.tp_plain.specs.declared.pass_state.PassState.{PassState}
use Rattle.tp_model.specs.declared.event.Event.{Event}
use Rattle.tp_model.specs.declared.event.Event.TheVariants.{Enqueue, Claim, Commit, Abort, Kill, Requeue}
use Rattle.tp_model.specs.History.{In, births, UnitClaim, claim_by, claim_of, Aborted, end_by, end_of, pass_of}
use Rattle.tp_model.specs.Steps.{AreLimits, IsServerStage, IsBody, IsOpen, Step, block_first}
use Rattle.tp_model.specs.Births.{request}
use Rattle.tp_plain.specs.OneThread.{State, start, fresh_pass, no_pass, pass_at, moved, with_pass, draws_block, ready, first_row, with_draw, used_up, HasPlainRoom}
use Rattle.tp_plain.specs.Reached.{PassFits, IsReachable, RunFits}
use Rattle.tp_model.proofs.Areas.{one_area}
use Rattle.tp_model.proofs.Lists.{first-snoc, first-kept, option_or-None, if_same, if_other}
use Rattle.tp_model.proofs.Blocks.{blocks_apart, claimer, no_claim}
use Rattle.tp_model.proofs.Bridges.{in_none, in_one, unborn_still}
use Rattle.tp_model.proofs.Histories.{legal_empty, legal_more, open_before}
use Rattle.tp_plain.proofs.Rooms.{may_use, no_birth_of, run_area, run_below, run_kept, run_used, run_wider}

-- a unit of another pass stays open unless it is aborted
not_ended : (l : Limits) (h : List Event) (e : Event) → Step l h e → (u : ℕ) (t : UnitClaim) → IsOpen h u t → t.pass ≢ pass_of e → option_or (end_of h u) (end_by u e) ≢ Some Aborted → end_by u e ≡ None
not_ended l h (Enqueue c e) step u t is other whole = refl
not_ended l h (Claim c v i n) step u t is other whole = refl
not_ended l h (Commit c v outs) step u t is other whole =
    if_other v u _ None (λ same. let claimed = step.open_unit.claimed in let mine = is.claimed in let at = ap (claim_of h) same in let own = step.own in
    let same_taking : step.taking ≡ t = cc in other (sym (ap (λ (t : UnitClaim). t.pass) same_taking) ∙ own))
not_ended l h (Abort c v) step u t is other whole =
    if_other v u _ None (λ same. whole (ap (λ o. option_or o (if v == u then Some Aborted else None)) is.unfinished ∙ if_same v u (Some Aborted) None same))
not_ended l h (Kill c i) step u t is other whole = refl
not_ended l h (Requeue c i k) step u t is other whole = refl

pub open_after : (h : List Event) (e : Event) (u : ℕ) (t : UnitClaim) → IsOpen h u t → end_by u e ≡ None → IsOpen (h ++ e ∷ []) u t
open_after h e u t is none =
    record {
      claimed = first-kept (claim_by u) h (e ∷ []) t is.claimed;
      unfinished = first-snoc (end_by u) h e ∙ (ap (option_or (end_of h u)) none ∙ (option_or-None (end_of h u) ∙ is.unfinished));
    }

-- an Abort stands from then on
pub whole_before : (h : List Event) (e : Event) (u : ℕ) → end_of (h ++ e ∷ []) u ≢ Some Aborted → end_of h u ≢ Some Aborted
whole_before h e u whole is = whole (first-kept (end_by u) h (e ∷ []) Aborted is)

-- an event of another pass, which makes nothing in the area of the run, leaves what a pass has used
pub fits_other : (l : Limits) (h : List Event) (drawn : ℕ) (e : Event) → Step l h e → (c : ℕ) (used : PassState) → c < l.parts → c ≢ pass_of e → (fits : PassFits l h drawn c used)
    → ((x : Element) → In x (births e) → fits.run.first ≤ x.id → x.id < used.next + used.left → ⊥) → PassFits l (h ++ e ∷ []) drawn c used
fits_other l h drawn e step c used is_pass other fits clear =
    record {
      run = run_kept l h drawn c used.next used.left fits.run e clear;
      claimed = fits.claimed;
      unclaimed = λ u low high. first-snoc (claim_by u) h e ∙ rw (fits.unclaimed u low high) (no_claim l h e step u (λ unit. other (blocks_apart l.units c (pass_of e) u (omega arith) high unit.1 unit.2)));
      holding = λ u t is own. elim (open_before h e u t is) [ inl by ↦ absurd (other (sym own ∙ (claimer l h e step u t by).1)) | inr old ↦ fits.holding u t old.0 own ];
      held = λ u hand whole.
          (let old = fits.held u hand (whole_before h e u whole) in
          let none : end_by u e ≡ None = not_ended l h e step u old.0 old.1 (λ same. other (sym old.2 ∙ same)) (λ is. whole (first-snoc (end_by u) h e ∙ is)) in
          (old.0, open_after h e u old.0 old.1 none, old.2));
    }

-- where a run of a pass ends
abbrev pub end_at : PassState → ℕ
end_at used = used.next + used.left

-- a run that goes on ends where it did, as those of the other passes do
pub ends_still : (s : State) (c : ℕ) (used : PassState) → c < length s.passes → end_at used ≡ end_at (pass_at s c) → (d : ℕ) → end_at (slice_index_or (slice_set s.passes c used) d no_pass) ≡ end_at (pass_at s d)
ends_still s c used there ends d =
    elim (eqb_tells d c) [
      | inl p ↦ rw (p.1, get_or-set_same s.passes c used no_pass there) ends
      | inr p ↦ ap end_at (get_or-set_other s.passes c d used no_pass p.1)
    ]

-- after one event of pass c, which made something in its run alone
pub reached_moved : (s : State) (e : Event) (c : ℕ) (used : PassState) → IsReachable s → Step s.limits s.history e → pass_of e ≡ c → c < s.limits.parts
    → PassFits s.limits (s.history ++ e ∷ []) s.drawn c used → end_at used ≡ end_at (pass_at s c)
    → ((x : Element) → In x (births e) → ((pass_at s c).next ≤ x.id) × (x.id < end_at (pass_at s c))) → IsReachable (moved s e c used)
reached_moved s e c used reached step by is_pass own ends inside =
    record {
      limits = reached.limits;
      legal = legal_more s.limits s.history e reached.legal step;
      passes = length-set s.passes c used ∙ reached.passes;
      fits = fits;
      apart = λ a b in_a in_b same. reached.apart a b in_a in_b (sym (ends_still s c used there ends a) ∙ (same ∙ ends_still s c used there ends b));
      drawn = reached.drawn;
      undrawn = λ i low. unborn_still s.history e i (reached.undrawn i low) (λ x p same. let there_is = (inside x p).1 in let below = run_below s.limits s.history s.drawn c old.next old.left run in omega arith);
    }
  where
    there : c < length s.passes
    there = rw reached.passes is_pass

    old : PassState
    old = pass_at s c

    run : RunFits s.limits s.history s.drawn c old.next old.left
    run = (reached.fits c is_pass).run

    clear : (d : ℕ) (in_parts : d < s.limits.parts) → d ≢ c → (x : Element) → In x (births e) → (reached.fits d in_parts).run.first ≤ x.id → x.id < end_at (pass_at s d) → ⊥
    clear d in_parts other x p low high =
        let other_run = (reached.fits d in_parts).run in
        let begins = run.begins in
        let from = (inside x p).0 in
        let same = one_area s.limits run.first (end_at old) other_run.first (end_at (pass_at s d)) x.id (run_area s.limits s.history s.drawn c old.next old.left run)
        (run_area s.limits s.history s.drawn d (pass_at s d).next (pass_at s d).left other_run) (omega arith) (inside x p).1 low high in
        other (reached.apart d c in_parts is_pass (sym same.1))

    fits : (d : ℕ) → d < s.limits.parts → PassFits s.limits (s.history ++ e ∷ []) s.drawn d (slice_index_or (slice_set s.passes c used) d no_pass)
    fits d in_parts =
        elim (eqb_tells d c) [
          | inl p ↦ rw (p.1, get_or-set_same s.passes c used no_pass there) own
          | inr p ↦ rw (get_or-set_other s.passes c d used no_pass p.1) (fits_other s.limits s.history s.drawn e step d (pass_at s d) in_parts (λ same. p.1 (same ∙ by)) (reached.fits d in_parts) (clear d in_parts p.1))
        ]

-- a pass that drew a block

-- the state in which pass c has drawn the block that it needs for k rows
abbrev pub after_draw : State → ℕ → ℕ → State
after_draw s c k = with_pass (with_draw s c k) c (ready s c k)

module _ (s : State) (c k : ℕ) (reached : IsReachable s) (is_pass : c < s.limits.parts) where
  there : c < length s.passes
  there = rw reached.passes is_pass

  pub reached_ready : IsReachable (after_draw s c k)
  reached_ready = go (draws_block s c k) refl
    where
      old : PassState
      old = pass_at s c

      next_block : PassState
      next_block = record old { next = block_first s.limits s.drawn; left = BLOCK_ROWS }

      drawn_state : State
      drawn_state = record { limits = s.limits; history = s.history; passes = slice_set s.passes c next_block; drawn = s.drawn + 1 }

      by_draw : s.drawn < s.limits.spare → IsReachable drawn_state
      by_draw less =
          record {
            limits = reached.limits;
            legal = reached.legal;
            passes = length-set s.passes c next_block ∙ reached.passes;
            fits = fits;
            apart = apart;
            drawn = omega arith;
            undrawn = λ i low. reached.undrawn i (omega arith);
          }
        where
          own : PassFits s.limits s.history (s.drawn + 1) c next_block
          own = let fit = reached.fits c is_pass in record {
            run = record {
              first = block_first s.limits s.drawn;
              area = inr (s.drawn, omega arith, (less, refl, refl));
              begins = omega arith;
              unborn = λ i low high. reached.undrawn i low;
              alone = λ e x p made low high. absurd (no_birth_of s.history e x (reached.undrawn x.id low) p made);
            };
            claimed = fit.claimed;
            unclaimed = fit.unclaimed;
            holding = fit.holding;
            held = fit.held;
          }

          wider : (d : ℕ) → d < s.limits.parts → PassFits s.limits s.history (s.drawn + 1) d (pass_at s d)
          wider d in_parts = let fit = reached.fits d in_parts in record {
            run = run_wider s.limits s.history s.drawn d (pass_at s d).next (pass_at s d).left fit.run (s.drawn + 1) (omega arith);
            claimed = fit.claimed;
            unclaimed = fit.unclaimed;
            holding = fit.holding;
            held = fit.held;
          }

          fits : (d : ℕ) → d < s.limits.parts → PassFits s.limits s.history (s.drawn + 1) d (pass_at drawn_state d)
          fits d in_parts =
              elim (eqb_tells d c) [
                | inl p ↦ rw (p.1, get_or-set_same s.passes c next_block no_pass there) own
                | inr p ↦ rw (get_or-set_other s.passes c d next_block no_pass p.1) (wider d in_parts)
              ]

          below : (d : ℕ) → d < s.limits.parts → end_at (pass_at s d) ≤ block_first s.limits s.drawn
          below d in_parts = run_below s.limits s.history s.drawn d (pass_at s d).next (pass_at s d).left (reached.fits d in_parts).run

          at_c : (d : ℕ) → d ≡ c → end_at (pass_at drawn_state d) ≡ block_first s.limits s.drawn + BLOCK_ROWS
          at_c d same = rw (same, get_or-set_same s.passes c next_block no_pass there) refl

          elsewhere : (d : ℕ) → d ≢ c → end_at (pass_at drawn_state d) ≡ end_at (pass_at s d)
          elsewhere d other = ap end_at (get_or-set_other s.passes c d next_block no_pass other)

          apart : (a b : ℕ) → a < s.limits.parts → b < s.limits.parts → end_at (pass_at drawn_state a) ≡ end_at (pass_at drawn_state b) → a ≡ b
          apart a b in_a in_b same =
              elim (eqb_tells a c) [
                | inl p ↦ elim (eqb_tells b c) [
                  | inl q ↦ p.1 ∙ sym q.1
                  | inr q ↦ absurd (let one = at_c a p.1 in let two = elsewhere b q.1 in let low = below b in_b in omega arith)
                ]
                | inr p ↦ elim (eqb_tells b c) [
                  | inl q ↦ absurd (let one = elsewhere a p.1 in let two = at_c b q.1 in let low = below a in_a in omega arith)
                  | inr q ↦ reached.apart a b in_a in_b (sym (elsewhere a p.1) ∙ (same ∙ elsewhere b q.1))
                ]
              ]

      go : (b : Bool) → draws_block s c k ≡ b
          → IsReachable (record { limits = s.limits; history = s.history; passes = slice_set s.passes c (record { next = cond b (block_first s.limits s.drawn) old.next; left = cond b BLOCK_ROWS old.left; claimed = old.claimed; holding = old.holding; turns = old.turns }); drawn = cond b (s.drawn + 1) s.drawn })
      go true is = by_draw (leb-true (suc s.drawn) s.limits.spare (and_parts (nat_lt old.left k) (nat_lt s.drawn s.limits.spare) is).1)
      go false is = rw (set-get_or s.passes c no_pass) reached

  pub ready_at : pass_at (after_draw s c k) c ≡ ready s c k
  ready_at = get_or-set_same s.passes c (ready s c k) no_pass there

  pub fits_ready : PassFits s.limits s.history (with_draw s c k).drawn c (ready s c k)
  fits_ready = subst (λ (x : PassState). PassFits s.limits s.history (with_draw s c k).drawn c x) ready_at (reached_ready.fits c is_pass)

  -- after one event of the pass, for which it drew the block
  pub reached_used : (e : Event) (used : PassState) → Step s.limits s.history e → pass_of e ≡ c → PassFits s.limits (s.history ++ e ∷ []) (with_draw s c k).drawn c used
      → end_at used ≡ end_at (ready s c k) → ((x : Element) → In x (births e) → ((ready s c k).next ≤ x.id) × (x.id < end_at (ready s c k))) → IsReachable (moved (with_draw s c k) e c used)
  reached_used e used step by own ends inside =
      subst (λ ps. IsReachable (record { limits = s.limits; history = s.history ++ e ∷ []; passes = ps; drawn = (with_draw s c k).drawn })) (set-set s.passes c (ready s c k) used)
      (reached_moved (after_draw s c k) e c used reached_ready step by is_pass own (ends ∙ ap end_at (sym ready_at)) (λ x p. subst (λ (y : PassState). (y.next ≤ x.id) × (x.id < end_at y)) (sym ready_at) (inside x p)))

-- a pass may submit where it has a row
pub may_submit : (s : State) (c stage : ℕ) (body : List ℕ) → IsReachable s → c < s.limits.parts → IsServerStage stage → IsBody body → HasPlainRoom s c 1
    → Step s.limits s.history (Enqueue c (request (first_row s c 1) stage body))
may_submit s c stage body reached is_pass good whole room =
    let run = (fits_ready s c 1 reached is_pass).run in
    let at = first_row s c 1 in
    record {
      row = may_use s.limits s.history (with_draw s c 1).drawn c at (ready s c 1).left run is_pass at (omega arith) (omega arith);
      unborn = run.unborn at (omega arith) (omega arith);
      stage = good;
      body = whole;
      root = refl;
      by = refl;
    }

pub fits_submit : (l : Limits) (h : List Event) (drawn c : ℕ) (e : Element) (used : PassState) → PassFits l h drawn c used → 1 ≤ used.left → e.id ≡ used.next
    → PassFits l (h ++ Enqueue c e ∷ []) drawn c (used_up used 1)
fits_submit l h drawn c e used fits room place =
    record {
      run = run_used l h drawn c used.next used.left fits.run 1 room (Enqueue c e) refl (λ x p. let same = ap (λ (z : Element). z.id) (in_one p) in omega arith);
      claimed = fits.claimed;
      unclaimed = λ u low high. first-snoc (claim_by u) h (Enqueue c e) ∙ rw (fits.unclaimed u low high) refl;
      holding = λ u t is own. elim (open_before h (Enqueue c e) u t is) [ inl by ↦ absurd (cc (by)) | inr old ↦ fits.holding u t old.0 own ];
      held = λ u hand whole. (let old = fits.held u hand (whole_before h (Enqueue c e) u whole) in (old.0, open_after h (Enqueue c e) u old.0 old.1 refl, old.2));
    }

-- two parts that end together are one
one_part : (l : Limits) (c d : ℕ) → 1 ≤ l.rows → c * l.rows + l.rows ≡ d * l.rows + l.rows → c ≡ d
one_part l c d some same = blocks_apart l.rows c d (c * l.rows) (omega arith) (omega arith) (omega arith) (omega arith)

-- a pass that has done nothing, before anything happened
fits_fresh : (l : Limits) (c : ℕ) → c < l.parts → PassFits l [] 0 c (fresh_pass l.rows c)
fits_fresh l c is_pass =
    record {
      run = record { first = c * l.rows; area = inl (is_pass, refl, refl); begins = omega arith; unborn = λ i low high. refl; alone = λ e x p made low high. absurd (in_none p) };
      claimed = omega arith;
      unclaimed = λ u low high. refl;
      holding = λ u t is own. absurd (let claimed = is.claimed in cc);
      held = λ u hand whole. absurd (cc (hand));
    }

pub start_reached : (l : Limits) → AreLimits l → IsReachable (start l)
start_reached l limits =
    record {
      limits = limits;
      legal = legal_empty l;
      passes = length-map-range_with_len (fresh_pass l.rows) 0 l.parts;
      fits = λ c is_pass. rw (fresh c is_pass) (fits_fresh l c is_pass);
      apart = λ c d in_c in_d same. one_part l c d (limits.rows.0) (sym (ap end_at (fresh c in_c)) ∙ (same ∙ ap end_at (fresh d in_d)));
      drawn = omega arith;
      undrawn = λ i low. refl;
    }
  where
    fresh : (c : ℕ) → c < l.parts → pass_at (start l) c ≡ fresh_pass l.rows c
    fresh c is_pass = get_or-map-range_with_len (fresh_pass l.rows) 0 l.parts c c no_pass is_pass (omega arith)
