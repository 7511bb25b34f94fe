use Rattle.std.proofs.Common.{◌-◌, ◌+◌, arith, length, take, subst, get_or, ◌≤◌, List, ℕ}
use Rattle.std.specs.Prelude.{All}
use Rattle.std.proofs.lemmas.List.{take_all}
use Rattle.tp_journal.specs.Text.{IsSet, IsText}
use Rattle.tp_journal.proofs.Seals.{slice-rest}
use Rattle.tp_journal.proofs.Damages.{IsZero, all-zero, back-told, elsewhere-told, front-told, not-told}
use Rattle.tp_journal.proofs.damage.is_told_at.Goals as goal

pub returns-then-used_len-gt0-clause-damaged : goal.returns-then-used_len-gt0-clause-damaged
returns-then-used_len-gt0-clause-damaged c = λ is.
    let back = slice-rest (c.args.at + 1) c.args.rest.now in
    back-told c.args.begin.now c.args.rest.now c.args.at c.used_len.result c.requires.0 c.requires.1 c.if-rest-at-ne-END.false c.if-rest-at-ne10.false (subst (λ (l : List ℕ). c.used_len.result ≤ length l) back c.used_len.ensures.inside) (omega (arith, c.if-used_len-gt0.true)) (subst (λ (l : List ℕ). IsSet (get_or l (c.used_len.result - 1) 0)) back (c.used_len.ensures.last (omega (arith, c.if-used_len-gt0.true))))

pub returns-then-text_len-front-clause-damaged : goal.returns-then-text_len-front-clause-damaged
returns-then-text_len-front-clause-damaged c = λ _.
    front-told c.args.begin.now c.args.rest.now c.args.at c.requires.0 c.requires.1 c.if-rest-at-ne-END.false c.if-rest-at-ne10.false
    (subst IsText (take_all c.text_len.result (take (c.args.at - 1) c.args.rest.now) (omega (arith, c.if-text_len-front.true))) c.text_len.ensures.set)

pub returns-clause-damaged : goal.returns-clause-damaged
returns-clause-damaged c = λ is. elsewhere-told c.args.begin.now c.args.rest.now c.args.at c.requires.0 c.requires.1 c.if-rest-at-ne-END.false c.if-rest-at-ne10.false (c.begins_elsewhere.ensures.told is)

pub returns-clause-whole : goal.returns-clause-whole
returns-clause-whole c = λ is d here.
    not-told c.args.begin.now c.args.rest.now d c.args.at here c.text_len.result
    (subst (All IsZero) (slice-rest (c.args.at + 1) c.args.rest.now) (all-zero c.used_len.result _ c.if-used_len-gt0.false c.used_len.ensures.zeros))
    c.text_len.ensures.inside c.if-text_len-front.false c.text_len.ensures.next (c.begins_elsewhere.ensures.untold is)
