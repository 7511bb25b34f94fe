use Rattle.std.proofs.Common.{◌-◌, drop, length, take}
use Rattle.tp_journal.proofs.EndWords.{elsewhere-found, told-other, told-some, told-space, unlike}
use Rattle.tp_journal.proofs.Seals.{slice-rest}
use Rattle.tp_journal.proofs.ends.begins_elsewhere.Goals as goal

pub returns-then-at-eq0-clause-untold : goal.returns-then-at-eq0-clause-untold
returns-then-at-eq0-clause-untold c = λ _ e. told-some c.args.front.now c.args.begin.now c.if-front-lt-DIGEST.false e c.last_digits-at.result c.last_digits-at.ensures.inside c.last_digits-at.ensures.digits c.last_digits-at.ensures.before c.if-at-eq0.true

pub returns-then-words-at-ne32-clause-untold : goal.returns-then-words-at-ne32-clause-untold
returns-then-words-at-ne32-clause-untold c = λ _ e. c.if-words-at-ne32.true (told-space c.args.front.now c.args.begin.now c.if-front-lt-DIGEST.false e c.last_digits-at.result c.last_digits-at.ensures.inside c.last_digits-at.ensures.digits c.last_digits-at.ensures.before)

pub returns-clause-told : goal.returns-clause-told
returns-clause-told c = λ is.
    let said = take (length c.args.front.now - 65) c.args.front.now in
    let same = rw (slice-rest c.last_digits-at.result said) at c.ne.ensures in
    elsewhere-found c.args.front.now c.args.begin.now c.if-front-lt-DIGEST.false c.last_digits-at.result c.last_digits-at.ensures.inside c.last_digits-at.ensures.digits c.if-at-eq0.false c.if-words-at-ne32.false ((unlike (drop c.last_digits-at.result said) c.args.begin.now c.ne.result same).0 is)

pub returns-clause-untold : goal.returns-clause-untold
returns-clause-untold c = λ is e.
    let said = take (length c.args.front.now - 65) c.args.front.now in
    let same = rw (slice-rest c.last_digits-at.result said) at c.ne.ensures in
    told-other c.args.front.now c.args.begin.now c.if-front-lt-DIGEST.false e c.last_digits-at.result c.last_digits-at.ensures.inside c.last_digits-at.ensures.digits c.last_digits-at.ensures.before ((unlike (drop c.last_digits-at.result said) c.args.begin.now c.ne.result same).1 is)
