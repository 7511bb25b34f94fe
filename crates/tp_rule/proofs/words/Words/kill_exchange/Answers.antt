use Rattle.std.proofs.Common.{rules, ◌≡◌, ◌∙◌, sym, ap, subst}
use Rattle.tp_model.specs.declared.types.Limits.{Limits}
use Rattle.tp_model.specs.declared.trace.StepKind.TheVariants as kinds
use Rattle.tp_rule.specs.Places.{ClaimWord}
use Rattle.tp_rule.specs.Words.{IsFitClaim, claim_value, pack_claim}
use Rattle.tp_rule.specs.Doors.{key_of}
use Rattle.tp_rule.specs.Rule.{WordIs}
use Rattle.tp_rule.specs.Views.{seen_by, view_of}
use Rattle.tp_rule.specs.Steps.{Misses, AllowsKill}
use Rattle.tp_rule.proofs.Killing.{kills_go}
use Rattle.tp_rule.proofs.Reading.{missed_told}
use Rattle.tp_rule.proofs.words.Words.kill_exchange.Goals as goal
use Rattle.tp_rule.proofs.words.Words.kill_exchange.Goals.{Else-was-alive}

pub compare_exchange-was-requires-clause-permits : goal.compare_exchange-was-requires-clause-permits
compare_exchange-was-requires-clause-permits c = let keyed : c.args.self.now.places.limits ≡ key_of c.args.self.now.table = search rules in
    kills_go _ _ _ _ _ c.args.row (claim_value c.args.found.tells) c.requires.one.0 (search rules) (search rules) c.requires.row.1 c.requires.fits
    (subst (λ (l : Limits). AllowsKill l c.args.seat.now.view.seen (claim_value c.args.found.tells)) keyed c.requires.found) (search rules) (search rules)

misses : (c : Else-was-alive) → Misses kinds.KillExchange (view_of c.args.seat.now) c.claim-word.result c.compare_exchange-was.result (view_of c.compare_exchange-was.new.seat)
misses c = c.compare_exchange-was.ensures.told.1 c.if-was-alive.false

says : (c : Else-was-alive) → WordIs (seen_by c.compare_exchange-was.new.seat) (ClaimWord c.args.row) c.compare_exchange-was.result
says c = missed_told kinds.KillExchange _ _ _ (ClaimWord c.args.row) _ _ c.requires.one.1 c.requires.row.0 c.claim-word.ensures.place (misses c)

pub read-requires : goal.read-requires
read-requires c = let t = says (goal.at.read-requires c).Else-was-alive in (_, t.1, t.0)

pub returns-clause-miss : goal.returns-clause-miss
returns-clause-miss c = let at = (goal.at.returns-clause-miss c).Else-was-alive in let t = says at in let now = c.read.ensures.of_pack _ t.1 t.0 in (
  (misses at).0,
  (λ same. c.if-was-alive.false (t.0 ∙ (ap pack_claim (sym now ∙ same) ∙ sym c.word-alive.ensures))),
  now,
  subst IsFitClaim (sym now) t.1,
)
