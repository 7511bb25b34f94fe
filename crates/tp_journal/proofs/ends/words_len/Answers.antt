use Rattle.std.proofs.Common.{length, arith}
use Rattle.tp_journal.proofs.EndLines.{not_both}
use Rattle.tp_journal.proofs.EndWords.{words-first, words-found, words-run}
use Rattle.tp_journal.proofs.Seals.{slice-rest, starts-test}
use Rattle.tp_journal.proofs.ends.words_len.Goals as goal

pub returns-then-not-starts_with-clause-none : goal.returns-then-not-starts_with-clause-none
returns-then-not-starts_with-clause-none c = λ _ n w.
    not_both c.starts_with.result c.if-not-starts_with.true ((starts-test c.args.line.now c.args.first.now c.starts_with.result c.starts_with.ensures.value).1 (words-first c.args.line.now c.args.first.now n w))

pub returns-then-count-rest-clause-none : goal.returns-then-count-rest-clause-none
returns-then-count-rest-clause-none c = λ _ n w.
    let is = slice-rest (length c.args.first.now) c.args.line.now in
    let run = words-run c.args.line.now c.args.first.now n w c.digits-count.result (rw is at c.digits-count.ensures.inside) (rw is at c.digits-count.ensures.digits) (rw is at c.digits-count.ensures.next) in
    omega (arith, run.0, rw is at c.if-count-rest.true)

pub returns-then-rest-count-ne32-clause-none : goal.returns-then-rest-count-ne32-clause-none
returns-then-rest-count-ne32-clause-none c = λ _ n w.
    let is = slice-rest (length c.args.first.now) c.args.line.now in
    let run = words-run c.args.line.now c.args.first.now n w c.digits-count.result (rw is at c.digits-count.ensures.inside) (rw is at c.digits-count.ensures.digits) (rw is at c.digits-count.ensures.next) in
    (rw is at c.if-rest-count-ne32.true) run.1

pub returns-clause-some : goal.returns-clause-some
returns-clause-some c =
    let is = slice-rest (length c.args.first.now) c.args.line.now in
    words-found c.args.line.now c.args.first.now c.digits-count.result ((starts-test c.args.line.now c.args.first.now c.starts_with.result c.starts_with.ensures.value).0 c.if-not-starts_with.false) (rw is at c.if-count-rest.false) (rw is at c.digits-count.ensures.digits) (rw is at c.if-rest-count-ne32.false)
