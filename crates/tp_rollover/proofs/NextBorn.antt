-- What the next pass submits or bears.
use Rattle.std.proofs.Common.{◌≡◌, ℕ, ◌+◌, ◌≤◌, All, Some, List, length, inl, inr, sym, ◌∙◌, ap, subst, arith}
use Rattle.std.proofs.lemmas.Bool.Decides.{eqb_tells}
use Rattle.std.specs.Option.{option_and_then}
use Rattle.tp_model.specs.Births.{IsWhole}
use Rattle.tp_model.specs.Drafts.{DraftView}
use Rattle.tp_plain.specs.OneThread.{State, pass_at}
use Rattle.tp_plain.specs.Reached.{IsReachable}
use Rattle.tp_rollover.specs.Anew.{Placing, born_by, born_next, next_pass, placed_by, submitted, submitted_next}
use Rattle.tp_rollover.specs.declared.places.Cursor.{Cursor}
use Rattle.tp_rollover.proofs.Acts.{Submitted, submitted_so}
use Rattle.tp_rollover.proofs.Endings.{Borne, born_so}
use Rattle.tp_rollover.proofs.Climbing.{Climbs, chosen, chosen_pass, goes_up, HasKept, chosen_units, kept_more, kept_same}
use Rattle.tp_rollover.proofs.Idling.{AreIdle, and_then_some, born_idle, same_some, submit_idle}

-- the next pass submits
pub record SentNext (p : ℕ) (s : State) (cursor : Cursor) (low : ℕ) (stage : ℕ) (body : List ℕ) (y : ℕ × Placing) : Type 0 where
  pub pass : ℕ
  pub idle : AreIdle y.1.manager
  pub sent : Submitted s y.1.manager pass stage body y.0
  pub low_is : low ≤ y.0
  pub climbs : Climbs p y.1.manager y.1.cursor (y.0 + 1)
  pub keeps : HasKept cursor.kept s → HasKept y.1.cursor.kept y.1.manager
  pub same_kept : y.1.cursor.kept ≡ cursor.kept

-- or bears
pub record BornNext (p : ℕ) (s : State) (cursor : Cursor) (low : ℕ) (carrier : ℕ) (drafts : List DraftView) (y : ℕ × Placing) : Type 0 where
  pub pass : ℕ
  pub idle : AreIdle y.1.manager
  pub borne : Borne s y.1.manager pass carrier drafts y.0
  pub low_is : low ≤ y.0
  pub climbs : Climbs p y.1.manager y.1.cursor (y.0 + length drafts)
  pub keeps : HasKept cursor.kept s → HasKept y.1.cursor.kept y.1.manager
  pub same_kept : y.1.cursor.kept ≡ cursor.kept

module _ (p : ℕ) (b : Placing) (low : ℕ) (reached : IsReachable b.manager) (idle : AreIdle b.manager) (many : p ≤ b.manager.limits.parts) (climbs : Climbs p b.manager b.cursor low) where
  pub sent_next : (stage : ℕ) (body : List ℕ) (home : ℕ) (y : ℕ × Placing) → length body ≡ 4 → submitted_next p stage body home b ≡ Some y → SentNext p b.manager b.cursor low stage body y
  sent_next stage body home y whole is =
      let next = and_then_some (λ (next : ℕ × Cursor). option_and_then (λ (made : ℕ × State). Some (placed_by next.1 made)) (submitted next.0 stage body b.manager)) (next_pass p b.manager home 1 0 b.cursor) y is in
      let made = and_then_some (λ (made : ℕ × State). Some (placed_by next.0.1 made)) (submitted next.0.0 stage body b.manager) y next.2 in
      let how = chosen p b.manager home 1 0 b.cursor next.0.0 next.0.1 next.1 in
      let kept = chosen_units p b.manager home 1 0 b.cursor next.0.0 next.0.1 next.1 in
      let inside = chosen_pass how in
      let sent = submitted_so b.manager next.0.0 reached (omega arith) stage body made.0.0 made.0.1 whole made.1 in
      let up = goes_up p b.manager made.0.1 1 b.cursor next.0.0 next.0.1 low reached many climbs sent.uses how in
      let same = sent.id_is in
      let low' = up.0 in
      subst (λ (z : ℕ × Placing). SentNext p b.manager b.cursor low stage body z) (same_some (placed_by next.0.1 made.0) y made.2) (record {
        pass = next.0.0;
        idle = submit_idle b.manager next.0.0 stage body made.0.0 made.0.1 made.1 idle;
        sent = sent;
        low_is = omega arith;
        climbs = subst (λ n. Climbs p made.0.1 next.0.1 (n + 1)) (sym same) up.1;
        keeps = λ has. subst (λ ks. HasKept ks made.0.1) (sym kept.1) (kept_same b.cursor.kept b.manager made.0.1 sent.uses.limits has (λ d. elim (eqb_tells d next.0.0) [
          | inl e ↦ ap (λ n. (pass_at made.0.1 n).claimed) e.1 ∙ (sent.claimed ∙ ap (λ n. (pass_at b.manager n).claimed) (sym e.1))
          | inr e ↦ sent.uses.claims d e.1
        ]));
        same_kept = kept.1;
      })

  pub next_born_so : (drafts : List DraftView) (carrier home : ℕ) (y : ℕ × Placing) → All IsWhole drafts → 1 ≤ length drafts → length drafts ≤ 4 → born_next p drafts carrier home b ≡ Some y → BornNext p b.manager b.cursor low carrier drafts y
  next_born_so drafts carrier home y whole some few is =
      let next = and_then_some (λ (next : ℕ × Cursor). option_and_then (λ (made : ℕ × State). Some (placed_by next.1 made)) (born_by next.0 carrier drafts b.manager)) (next_pass p b.manager home (length drafts) 1 b.cursor) y is in
      let made = and_then_some (λ (made : ℕ × State). Some (placed_by next.0.1 made)) (born_by next.0.0 carrier drafts b.manager) y next.2 in
      let how = chosen p b.manager home (length drafts) 1 b.cursor next.0.0 next.0.1 next.1 in
      let kept = chosen_units p b.manager home (length drafts) 1 b.cursor next.0.0 next.0.1 next.1 in
      let inside = chosen_pass how in
      let borne = born_so b.manager next.0.0 carrier drafts made.0.0 made.0.1 reached (omega arith) idle whole some few made.1 in
      let up = goes_up p b.manager made.0.1 (length drafts) b.cursor next.0.0 next.0.1 low reached many climbs borne.0.uses how in
      let same = borne.1 in
      let low' = up.0 in
      subst (λ (z : ℕ × Placing). BornNext p b.manager b.cursor low carrier drafts z) (same_some (placed_by next.0.1 made.0) y made.2) (record {
        pass = next.0.0;
        idle = born_idle b.manager next.0.0 carrier drafts made.0.0 made.0.1 made.1 idle;
        borne = borne.0;
        low_is = omega arith;
        climbs = subst (λ n. Climbs p made.0.1 next.0.1 (n + length drafts)) (sym same) up.1;
        keeps = λ has. subst (λ ks. HasKept ks made.0.1) (sym kept.1) (kept_more b.cursor.kept b.manager made.0.1 next.0.0 borne.0.uses.limits has kept.0 borne.0.claimed borne.0.uses.claims);
        same_kept = kept.1;
      })
