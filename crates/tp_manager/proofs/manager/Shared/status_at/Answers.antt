use Rattle.std.proofs.Common.{◌≡◌, ℕ, sym, subst, refl, ap, ◌∙◌}
use Rattle.tp_model.specs.declared.types.Limits.{Limits}
use Rattle.tp_model.specs.declared.trace.StepKind.TheVariants as kinds
use Rattle.tp_model.specs.Steps.{tries}
use Rattle.tp_rule.specs.Words.{claim_value}
use Rattle.tp_rule.specs.Tables.{table_limits}
use Rattle.tp_rule.specs.Views.{seen_by, view_of}
use Rattle.tp_manager.specs.Bounds.{retry_steps}
use Rattle.tp_manager.specs.Looks.{IsEnough}
use Rattle.tp_manager.specs.CallSteps.{Acted, Looked}
use Rattle.tp_manager.proofs.Calls.CallSteps.{acted_by, acted_then}
use Rattle.tp_manager.proofs.Kills.Tries.{enough_first}
use Rattle.tp_manager.proofs.manager.Shared.status_at.Goals as goal
use Rattle.tp_manager.proofs.manager.Shared.status_at.Goals.{After-load_claim-claim}

-- the attempts that the code counts are those of the table's limits
tries_are : (l k : Limits) → l ≡ k → (n : ℕ) → n ≡ tries k.attempts → n ≡ tries l.attempts
tries_are l k same n is = is ∙ ap (λ (z : Limits). tries z.attempts) (sym same)

tried : (l k : Limits) → l ≡ k → (n : ℕ) → n ≡ tries k.attempts → (P : ℕ → Type 0) → P (tries l.attempts) → P n
tried l k same n is P p = subst P (sym (tries_are l k same n is)) p

one : (c : After-load_claim-claim) → Acted (table_limits c.args.self.now.words) 1 (view_of c.args.seat.now) (view_of c.load_claim-claim.new.seat)
one c = acted_by _ kinds.Load _ _ c.requires.steady.steady refl c.load_claim-claim.ensures.grew

pub status_from-requires-clause-steady : goal.status_from-requires-clause-steady
status_from-requires-clause-steady c = record { own = c.load_claim-claim.ensures.same ∙ c.requires.steady.own; steady = (one (goal.at.status_from-requires-clause-steady c).After-load_claim-claim).walk.steady }

pub status_from-requires-clause-enough : goal.status_from-requires-clause-enough
status_from-requires-clause-enough c = let l : Limits = table_limits c.args.self.now.words in let o = one (goal.at.status_from-requires-clause-enough c).After-load_claim-claim in
    tried l c.args.self.now.places.limits c.args.self.now.same c.tries.result c.tries.ensures (λ n. IsEnough l n (claim_value c.load_claim-claim.result.tells)) (subst (IsEnough l (tries l.attempts)) (sym c.load_claim-claim.ensures.claim) (enough_first l c.args.self.now.words.places.valid (seen_by c.load_claim-claim.new.seat) c.args.row o.walk.steady.shows.legal))

pub returns-clause-acted : goal.returns-clause-acted
returns-clause-acted c = let l : Limits = table_limits c.args.self.now.words in let o = one (goal.at.returns-clause-acted c).After-load_claim-claim in
    acted_then l 1 (retry_steps (tries l.attempts)) _ _ _ o (subst (λ n. Looked l (retry_steps n) (view_of c.load_claim-claim.new.seat) (view_of c.status_from.new.seat)) (tries_are l c.args.self.now.places.limits c.args.self.now.same c.tries.result c.tries.ensures) c.status_from.ensures.looked)
