use Rattle.std.proofs.Common.{◌≡◌, ◌≢◌, rules, sym, ◌∙◌, ap, subst, Some}
use Rattle.tp_model.specs.declared.trace.StepKind.TheVariants as kinds
use Rattle.tp_rule.specs.Steps.{LosesUnit}
use Rattle.tp_rule.specs.Places.{UnitWord}
use Rattle.tp_rule.specs.Rule.{WordIs}
use Rattle.tp_rule.specs.Views.{seen_by, view_of}
use Rattle.tp_rule.proofs.Deciding.{aborts_go}
use Rattle.tp_rule.proofs.Reading.{found_told}
use Rattle.tp_rule.proofs.words.Words.abort_exchange.Goals as goal
use Rattle.tp_rule.proofs.words.Words.abort_exchange.Goals.{Else-was-eq-UNIT_UNDECIDED}

pub compare_exchange-was-requires-clause-permits : goal.compare_exchange-was-requires-clause-permits
compare_exchange-was-requires-clause-permits c =
    aborts_go _ _ _ c.args.unit c.requires.one.0 (search rules) c.requires.open_unit c.requires.unit.0 (search rules) (search rules)

decided : (c : Else-was-eq-UNIT_UNDECIDED) → c.compare_exchange-was.result ≢ 0
decided c = search rules

says : (c : Else-was-eq-UNIT_UNDECIDED) → WordIs (seen_by c.compare_exchange-was.new.seat) (UnitWord c.args.unit) c.compare_exchange-was.result
says c = found_told _ _ _ (UnitWord c.args.unit) _ _ c.requires.one.1 c.requires.unit.1 c.unit-word.ensures.place (c.compare_exchange-was.ensures.told.5 (decided c))

pub read-requires : goal.read-requires
read-requires c = let t = says (goal.at.read-requires c).Else-was-eq-UNIT_UNDECIDED in (_, t.fit, t.packed)

pub returns-clause-miss : goal.returns-clause-miss
returns-clause-miss c = let at = (goal.at.returns-clause-miss c).Else-was-eq-UNIT_UNDECIDED in let t = says at in let now = c.read.ensures.of_pack _ t.fit t.packed in let told = c.compare_exchange-was.ensures.told in
    let same : c.compare_exchange-was.ensures.told.0 ≡ c.args.unit = search rules in record {
      ended = λ none. decided at (t.bare (sym now ∙ none));
      found_is = now;
      own = λ held. subst (λ u. LosesUnit kinds.AbortExchange (view_of c.args.seat.now) u (view_of c.compare_exchange-was.new.seat)) same (told.3 (decided at) (held ∙ ap Some (sym same)));
      other = λ none. told.4 (decided at) none;
    }
