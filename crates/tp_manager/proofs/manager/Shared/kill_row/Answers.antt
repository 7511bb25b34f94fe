use Rattle.std.proofs.Common.{◌≡◌, ◌≤◌, ℕ, sym, ◌∙◌, ap, refl, arith, subst}
use Rattle.tp_model.specs.declared.trace.StepKind.TheVariants as kinds
use Rattle.tp_model.specs.declared.types.Limits.{Limits}
use Rattle.tp_model.specs.Steps.{tries}
use Rattle.tp_model.specs.Words.{ClaimWord, FreeWord, TakenWord, KilledWord, AgainWord}
use Rattle.tp_model.proofs.Bridges.{found_later}
use Rattle.tp_rule.specs.Words.{claim_value}
use Rattle.tp_rule.specs.Tables.{table_limits}
use Rattle.tp_rule.specs.Views.{seen_by, view_of}
use Rattle.tp_rule.proofs.Reading.{grew_begins}
use Rattle.tp_manager.specs.Bounds.{slay_from, slay_steps}
use Rattle.tp_manager.specs.Kills.{FailsIn, KillsIn}
use Rattle.tp_manager.specs.Looks.{IsEnough}
use Rattle.tp_manager.specs.CallSteps.{Looked}
use Rattle.tp_manager.proofs.Calls.CallSteps.{acted_by, looked}
use Rattle.tp_manager.proofs.Kills.OneKill.{match_map, kills_after, fails_after}
use Rattle.tp_manager.proofs.Kills.Tries.{enough_first}
use Rattle.tp_manager.proofs.manager.Shared.kill_row.Goals as goal
use Rattle.tp_manager.proofs.manager.Shared.kill_row.Goals.{After-load_claim-claim}

one : (c : After-load_claim-claim) → Looked (table_limits c.args.self.now.words) 1 (view_of c.args.seat.now) (view_of c.load_claim-claim.new.seat)
one c = looked _ 1 _ _ (acted_by _ kinds.Load _ _ c.requires.steady.steady refl c.load_claim-claim.ensures.grew)

-- the attempts that the code counts are those of the table's limits
tries_are : (l k : Limits) → l ≡ k → (n : ℕ) → n ≡ tries k.attempts → n ≡ tries l.attempts
tries_are l k same n is = is ∙ ap (λ (z : Limits). tries z.attempts) (sym same)

-- from no claim are there more steps than from one that was never taken
slay_most : (left : ℕ) (w : ClaimWord) → slay_from left w ≤ slay_from left FreeWord
slay_most left FreeWord = omega arith
slay_most left (TakenWord n u r) = omega arith
slay_most left (KilledWord n u r) = omega arith
slay_most left (AgainWord r) = omega arith

pub kill_from-requires-clause-steady : goal.kill_from-requires-clause-steady
kill_from-requires-clause-steady c = record { own = c.load_claim-claim.ensures.same ∙ c.requires.steady.own; steady = (one (goal.at.kill_from-requires-clause-steady c).After-load_claim-claim).walk.steady }

pub kill_from-requires-clause-row : goal.kill_from-requires-clause-row
kill_from-requires-clause-row c = let b = c.requires.row.1 in (c.requires.row.0, (b.0, found_later _ _ (grew_begins _ _ _ _ _ c.load_claim-claim.ensures.grew) c.args.row b.0 b.1))

pub kill_from-requires-clause-enough : goal.kill_from-requires-clause-enough
kill_from-requires-clause-enough c = let l : Limits = table_limits c.args.self.now.words in let o = one (goal.at.kill_from-requires-clause-enough c).After-load_claim-claim in
    subst (λ n. IsEnough l n (claim_value c.load_claim-claim.result.tells)) (sym (tries_are l c.args.self.now.places.limits c.args.self.now.same c.tries.result c.tries.ensures))
    (subst (IsEnough l (tries l.attempts)) (sym c.load_claim-claim.ensures.claim) (enough_first l c.args.self.now.words.places.valid (seen_by c.load_claim-claim.new.seat) c.args.row o.walk.steady.shows.legal))

pub returns-clause-told : goal.returns-clause-told
returns-clause-told c = let l : Limits = table_limits c.args.self.now.words in let a = one (goal.at.returns-clause-told c).After-load_claim-claim in let left : ℕ = c.tries.result in let word = claim_value c.load_claim-claim.result.tells in
    let v = view_of c.args.seat.now in let w = view_of c.load_claim-claim.new.seat in let y = view_of c.kill_from.new.seat in let e = tries_are l c.args.self.now.places.limits c.args.self.now.same c.tries.result c.tries.ensures in let most = slay_most left word in
    match_map (λ count. KillsIn l (slay_from left word) c.args.row left count w y) (λ count. KillsIn l (slay_steps l) c.args.row (tries l.attempts) count v y) (λ r. FailsIn l (slay_from left word) c.args.row left r w y) (λ r. FailsIn l (slay_steps l) c.args.row (tries l.attempts) r v y) c.kill_from.result
    (kills_after l 1 (slay_from left word) (slay_steps l) c.args.row left (tries l.attempts) v w y a e (omega arith)) (fails_after l 1 (slay_from left word) (slay_steps l) c.args.row left (tries l.attempts) v w y a e (omega arith)) c.kill_from.ensures.told
