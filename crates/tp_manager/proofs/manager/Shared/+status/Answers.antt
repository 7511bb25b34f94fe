use Rattle.std.proofs.Common.{◌≡◌, ◌≢◌, ◌+◌, ◌-◌, ◌<◌, ◌≤◌, ℕ, sym, ◌∙◌, ap, arith, rules, subst, refl}
use Rattle.tp_model.specs.declared.types.Limits.{Limits}
use Rattle.tp_model.specs.declared.trace.StepKind.TheVariants as kinds
use Rattle.tp_model.specs.Words.{TakenWord, claim_word}
use Rattle.tp_model.proofs.Bridges.{status_again, status_free, status_killed}
use Rattle.tp_model.proofs.Later.{unit_inside}
use Rattle.tp_rule.specs.Words.{claim_value, unit_value}
use Rattle.tp_rule.specs.Tables.{table_limits}
use Rattle.tp_rule.specs.Views.{seen_by, view_of}
use Rattle.tp_rule.proofs.Reading.{grew_begins}
use Rattle.tp_manager.specs.Bounds.{retry_steps}
use Rattle.tp_manager.specs.Looks.{IsEnough}
use Rattle.tp_manager.specs.CallSteps.{Looked}
use Rattle.tp_manager.proofs.Calls.CallSteps.{acted_by, looked, looked_none, looked_few, looked_then, looked_begins}
use Rattle.tp_manager.proofs.Rows.Looks.{claim_is, held_yet, consumed_now, returned}
use Rattle.tp_manager.proofs.Kills.Tries.{enough_next, enough_some}
use Rattle.tp_manager.proofs.manager.Shared.+status.Goals as goal
use Rattle.tp_manager.proofs.manager.Shared.+status.Goals.{status_from-In-Taken, status_from-After-load_unit, status_from-After-load_claim-again}

taken : (t : ℕ) (c : status_from-In-Taken t) → claim_word (seen_by c.args.seat.now) c.args.row ≡ TakenWord c.in-Taken.attempt c.in-Taken.unit c.in-Taken.round
taken t c = sym c.requires.found.0 ∙ ap claim_value c.in-Taken.is

enough : (t : ℕ) (c : status_from-In-Taken t) → IsEnough (table_limits c.args.self.now.words) c.args.left (TakenWord c.in-Taken.attempt c.in-Taken.unit c.in-Taken.round)
enough t c = subst (λ w. IsEnough (table_limits c.args.self.now.words) c.args.left (claim_value w)) c.in-Taken.is c.requires.enough

some : (t : ℕ) (c : status_from-In-Taken t) → 1 ≤ c.args.left
some t c = enough_some (table_limits c.args.self.now.words) c.args.self.now.words.places.valid (seen_by c.args.seat.now) c.args.row c.args.left (TakenWord c.in-Taken.attempt c.in-Taken.unit c.in-Taken.round) c.requires.steady.steady.shows.legal (taken t c) (enough t c)

one : (t : ℕ) (c : status_from-After-load_unit t) → Looked (table_limits c.args.self.now.words) 1 (view_of c.args.seat.now) (view_of c.load_unit.new.seat)
one t c = looked _ 1 _ _ (acted_by _ kinds.Load _ _ c.requires.steady.steady refl c.load_unit.ensures.grew)

two : (t : ℕ) (c : status_from-After-load_claim-again t) → Looked (table_limits c.args.self.now.words) 1 (view_of c.args.seat.now) (view_of c.load_unit.new.seat) → Looked (table_limits c.args.self.now.words) 2 (view_of c.args.seat.now) (view_of c.load_claim-again.new.seat)
two t c o = looked_then _ 1 1 _ _ _ o (looked _ 1 _ _ (acted_by _ kinds.Load _ _ o.walk.steady refl c.load_claim-again.ensures.grew))

pub status_from-load_unit-requires-clause-unit : goal.status_from-load_unit-requires-clause-unit
status_from-load_unit-requires-clause-unit t c = unit_inside (table_limits c.args.self.now.words) (seen_by c.args.seat.now) c.args.row c.in-Taken.attempt c.in-Taken.unit c.requires.steady.steady.shows.legal (taken t (goal.at.status_from-load_unit-requires-clause-unit t c).In-Taken)

pub status_from-overflow_sub-left : goal.status_from-overflow_sub-left
status_from-overflow_sub-left t c = some t (goal.at.status_from-overflow_sub-left t c).In-Taken

pub status_from-status_again-requires : goal.status_from-status_again-requires
status_from-status_again-requires t c = let at = goal.at.status_from-status_again-requires t c in let i = at.In-Taken in let s = some t i in let b = two t at.After-load_claim-again (one t at.After-load_unit) in let again = c.load_claim-again.ensures in
    let differs : c.load_claim-again.result.tells ≢ c.args.claim.tells = search rules in
    let not : claim_word (seen_by c.load_claim-again.new.seat) c.args.row ≢ TakenWord c.in-Taken.attempt c.in-Taken.unit c.in-Taken.round = λ same. differs (claim_is c.load_claim-again.result.tells c.in-Taken.attempt c.in-Taken.unit c.in-Taken.round (again.claim ∙ same) ∙ sym c.in-Taken.is) in (
      search rules,
      (
        record { own = search rules; steady = b.walk.steady },
        (
          c.requires.row,
          (
            (again.claim, again.fits),
            subst (IsEnough (table_limits c.args.self.now.words) (c.args.left - 1)) (sym again.claim)
                (enough_next (table_limits c.args.self.now.words) c.args.self.now.words.places.valid (seen_by c.args.seat.now) (seen_by c.load_claim-again.new.seat) c.requires.steady.steady.shows.legal b.walk.steady.shows.legal (looked_begins _ 2 _ _ b) c.args.row c.args.left (TakenWord c.in-Taken.attempt c.in-Taken.unit c.in-Taken.round) (taken t i) (λ n u r z. cc) not (enough t i)),
          ),
        ),
      ),
    )

pub status_from-returns-then-ne-clause-looked : goal.status_from-returns-then-ne-clause-looked
status_from-returns-then-ne-clause-looked t c = let at = goal.at.status_from-returns-then-ne-clause-looked t c in let s = some t at.In-Taken in
    looked_few _ (2 + retry_steps (c.args.left - 1)) (retry_steps c.args.left) _ _ (omega arith) (looked_then _ 2 (retry_steps (c.args.left - 1)) _ _ _ (two t at.After-load_claim-again (one t at.After-load_unit)) c.status_again.ensures.looked)

pub status_from-returns-in-Free-clause-status : goal.status_from-returns-in-Free-clause-status
status_from-returns-in-Free-clause-status t c = sym (status_free (table_limits c.args.self.now.words) _ c.args.row c.requires.steady.steady.shows.legal (sym c.requires.found.0 ∙ ap claim_value c.in-Free.is))

pub status_from-returns-in-Killed-clause-status : goal.status_from-returns-in-Killed-clause-status
status_from-returns-in-Killed-clause-status t c = sym (status_killed (table_limits c.args.self.now.words) _ c.args.row _ _ c.requires.steady.steady.shows.legal (sym c.requires.found.0 ∙ ap claim_value c.in-Killed.is))

pub status_from-returns-in-Again-clause-status : goal.status_from-returns-in-Again-clause-status
status_from-returns-in-Again-clause-status t c = sym (status_again (table_limits c.args.self.now.words) _ c.args.row c.in-Again.round c.requires.steady.steady.shows.legal (sym c.requires.found.0 ∙ ap claim_value c.in-Again.is))

pub status_from-returns-in-Again-clause-looked : goal.status_from-returns-in-Again-clause-looked
status_from-returns-in-Again-clause-looked t c = looked_few _ 0 (retry_steps c.args.left) _ _ (omega arith) (looked_none _ _ c.requires.steady.steady)

pub status_from-returns-in-Free-clause-looked : goal.status_from-returns-in-Free-clause-looked
status_from-returns-in-Free-clause-looked t c = looked_few _ 0 (retry_steps c.args.left) _ _ (omega arith) (looked_none _ _ c.requires.steady.steady)

pub status_from-returns-in-Killed-clause-looked : goal.status_from-returns-in-Killed-clause-looked
status_from-returns-in-Killed-clause-looked t c = looked_few _ 0 (retry_steps c.args.left) _ _ (omega arith) (looked_none _ _ c.requires.steady.steady)

pub status_from-returns-in-Undecided-clause-looked : goal.status_from-returns-in-Undecided-clause-looked
status_from-returns-in-Undecided-clause-looked t c = let at = goal.at.status_from-returns-in-Undecided-clause-looked t c in let s = some t at.In-Taken in looked_few _ 1 (retry_steps c.args.left) _ _ (omega arith) (one t at.After-load_unit)

pub status_from-returns-in-Committed-clause-looked : goal.status_from-returns-in-Committed-clause-looked
status_from-returns-in-Committed-clause-looked t c = let at = goal.at.status_from-returns-in-Committed-clause-looked t c in let s = some t at.In-Taken in looked_few _ 1 (retry_steps c.args.left) _ _ (omega arith) (one t at.After-load_unit)

pub status_from-returns-in-Undecided-clause-status : goal.status_from-returns-in-Undecided-clause-status
status_from-returns-in-Undecided-clause-status t c = let at = goal.at.status_from-returns-in-Undecided-clause-status t c in let o = one t at.After-load_unit in
    held_yet (table_limits c.args.self.now.words) _ _ o.walk.steady.shows.legal (looked_begins _ 1 _ _ o) c.args.row _ _ (taken t at.In-Taken) (sym (ap unit_value c.in-Undecided.is) ∙ c.load_unit.ensures.end)

pub status_from-returns-in-Committed-clause-status : goal.status_from-returns-in-Committed-clause-status
status_from-returns-in-Committed-clause-status t c = let at = goal.at.status_from-returns-in-Committed-clause-status t c in let o = one t at.After-load_unit in
    consumed_now (table_limits c.args.self.now.words) _ _ o.walk.steady.shows.legal (looked_begins _ 1 _ _ o) c.args.row _ _ _ _ (taken t at.In-Taken) (sym (ap unit_value c.in-Committed.is) ∙ c.load_unit.ensures.end)

pub status_from-returns-then-attempt-self-clause-looked : goal.status_from-returns-then-attempt-self-clause-looked
status_from-returns-then-attempt-self-clause-looked t c = let at = goal.at.status_from-returns-then-attempt-self-clause-looked t c in let s = some t at.In-Taken in looked_few _ 2 (retry_steps c.args.left) _ _ (omega arith) (two t at.After-load_claim-again (one t at.After-load_unit))

pub status_from-returns-then-attempt-self-clause-status : goal.status_from-returns-then-attempt-self-clause-status
status_from-returns-then-attempt-self-clause-status t c = let at = goal.at.status_from-returns-then-attempt-self-clause-status t c in let o = one t at.After-load_unit in let b = two t at.After-load_claim-again o in let l : Limits = table_limits c.args.self.now.words in
    let same : c.load_claim-again.result.tells ≡ c.args.claim.tells = search rules in
    (returned l (seen_by c.load_unit.new.seat) (seen_by c.load_claim-again.new.seat) b.walk.steady.shows.legal (grew_begins _ _ _ _ _ c.load_claim-again.ensures.grew) c.args.row c.in-Taken.attempt c.in-Taken.unit
    (sym c.load_unit.ensures.end ∙ ap unit_value c.in-Aborted.is) (sym c.load_claim-again.ensures.claim ∙ (ap claim_value same ∙ ap claim_value c.in-Taken.is))).0
    (subst (λ (z : Limits). c.in-Taken.attempt < z.attempts) (sym c.args.self.now.same) c.if-attempt-self.true)

pub status_from-returns-else-attempt-self-clause-looked : goal.status_from-returns-else-attempt-self-clause-looked
status_from-returns-else-attempt-self-clause-looked t c = let at = goal.at.status_from-returns-else-attempt-self-clause-looked t c in let s = some t at.In-Taken in looked_few _ 2 (retry_steps c.args.left) _ _ (omega arith) (two t at.After-load_claim-again (one t at.After-load_unit))

pub status_from-returns-else-attempt-self-clause-status : goal.status_from-returns-else-attempt-self-clause-status
status_from-returns-else-attempt-self-clause-status t c = let at = goal.at.status_from-returns-else-attempt-self-clause-status t c in let o = one t at.After-load_unit in let b = two t at.After-load_claim-again o in let l : Limits = table_limits c.args.self.now.words in
    let same : c.load_claim-again.result.tells ≡ c.args.claim.tells = search rules in
    (returned l (seen_by c.load_unit.new.seat) (seen_by c.load_claim-again.new.seat) b.walk.steady.shows.legal (grew_begins _ _ _ _ _ c.load_claim-again.ensures.grew) c.args.row c.in-Taken.attempt c.in-Taken.unit
    (sym c.load_unit.ensures.end ∙ ap unit_value c.in-Aborted.is) (sym c.load_claim-again.ensures.claim ∙ (ap claim_value same ∙ ap claim_value c.in-Taken.is))).1
    (subst (λ (z : Limits). z.attempts ≤ c.in-Taken.attempt) (sym c.args.self.now.same) c.if-attempt-self.false)
