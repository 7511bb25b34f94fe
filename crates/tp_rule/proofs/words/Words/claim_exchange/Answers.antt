use Rattle.std.proofs.Common.{rules, ◌≡◌, ◌∙◌, sym, ap, subst}
use Rattle.tp_model.specs.declared.types.Limits.{Limits}
use Rattle.tp_model.specs.declared.trace.StepKind.TheVariants as kinds
use Rattle.tp_rule.specs.Places.{ClaimWord}
use Rattle.tp_rule.specs.Words.{IsFitClaim, claim_value, pack_claim}
use Rattle.tp_rule.specs.Doors.{key_of}
use Rattle.tp_rule.specs.Rule.{WordIs}
use Rattle.tp_rule.specs.Views.{seen_by, view_of}
use Rattle.tp_rule.specs.Steps.{Misses, AllowsClaim}
use Rattle.tp_rule.proofs.Claiming.{claims_go}
use Rattle.tp_rule.proofs.Reading.{missed_told}
use Rattle.tp_rule.proofs.words.Words.claim_exchange.Goals as goal
use Rattle.tp_rule.proofs.words.Words.claim_exchange.Goals.{Else-was-free}

pub compare_exchange-was-requires-clause-permits : goal.compare_exchange-was-requires-clause-permits
compare_exchange-was-requires-clause-permits c = let keyed : c.args.self.now.places.limits ≡ key_of c.args.self.now.table = search rules in
    claims_go _ _ _ _ _ c.args.row c.args.unit c.args.attempt (claim_value c.args.found.tells) (search rules) c.requires.one.0 (search rules) (search rules) (search rules) c.requires.row.1 c.requires.spare.0 c.requires.none_open
    c.requires.fits (subst (λ (l : Limits). AllowsClaim l c.args.seat.now.view.seen (claim_value c.args.found.tells) c.args.attempt) keyed c.requires.found) (search rules) (search rules)

misses : (c : Else-was-free) → Misses kinds.ClaimExchange (view_of c.args.seat.now) c.claim-word.result c.compare_exchange-was.result (view_of c.compare_exchange-was.new.seat)
misses c = c.compare_exchange-was.ensures.told.1 c.if-was-free.false

says : (c : Else-was-free) → WordIs (seen_by c.compare_exchange-was.new.seat) (ClaimWord c.args.row) c.compare_exchange-was.result
says c = missed_told kinds.ClaimExchange _ _ _ (ClaimWord c.args.row) _ _ c.requires.one.1 c.requires.row.0 c.claim-word.ensures.place (misses c)

pub read-requires : goal.read-requires
read-requires c = let t = says (goal.at.read-requires c).Else-was-free in (_, t.1, t.0)

pub returns-clause-miss : goal.returns-clause-miss
returns-clause-miss c = let at = (goal.at.returns-clause-miss c).Else-was-free in let t = says at in let now = c.read.ensures.of_pack _ t.1 t.0 in (
  (misses at).0,
  (λ same. c.if-was-free.false (t.0 ∙ (ap pack_claim (sym now ∙ same) ∙ sym c.word-free.ensures))),
  now,
  subst IsFitClaim (sym now) t.1,
)
