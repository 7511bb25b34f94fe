use Rattle.std.proofs.Common.{◌≡◌, arith, ap, length, refl, take, drop, ◌∙◌}
use Rattle.tp_journal.specs.Reading.{AreWords}
use Rattle.tp_journal.specs.Text.{end_first, end_last}
use Rattle.tp_journal.proofs.EndLines.{not_both}
use Rattle.tp_journal.proofs.EndWords.{end-found, end-last, end-words}
use Rattle.tp_journal.proofs.Seals.{slice-rest, starts-test}
use Rattle.tp_journal.proofs.ends.end_at.Goals as goal

pub returns-in_default-clause-none : goal.returns-in_default-clause-none
returns-in_default-clause-none c = λ end e. (rw (slice-rest c.args.at c.args.text.now, c.deref.ensures.value ∙ c.in_ok-first.ensures) at (c.in_default.ensures.none refl)) _ (end-words c.args.text.now c.args.at c.requires.at end e)

pub returns-then-starts_with-clause-some : goal.returns-then-starts_with-clause-some
returns-then-starts_with-clause-some c =
    let text = c.args.text.now in
    let line = slice-rest c.args.at text in
    let words : AreWords (drop c.args.at text) (end_first c.args.at) c.in-Some.words = rw (line, c.deref.ensures.value ∙ c.in_ok-first.ensures) at c.in-Some.ensures.some in
    let last : c.deref-2.result.now ≡ end_last (take c.args.at text) (take c.in-Some.words (drop c.args.at text)) = c.deref-2.ensures.value ∙ (rw line at (c.in_ok-last.ensures (take c.args.at text) c.requires.hashed)) in
    let test = starts-test (drop c.in-Some.words (drop c.args.at text)) c.deref-2.result.now c.starts_with.result (rw (line, slice-rest c.in-Some.words (drop c.args.at text)) at c.starts_with.ensures.value) in
    let long : c.len.result ≡ length (end_last (take c.args.at text) (take c.in-Some.words (drop c.args.at text))) = omega (arith, c.len.ensures, c.deref-2.ensures.len, ap length last) in
    rw long (end-found text c.args.at c.requires.at c.in-Some.words words (rw last at (test.0 c.if-starts_with.true)))

pub returns-then-starts_with-clause-one : goal.returns-then-starts_with-clause-one
returns-then-starts_with-clause-one c = λ m e.
    let text = c.args.text.now in
    let line = slice-rest c.args.at text in
    let words : AreWords (drop c.args.at text) (end_first c.args.at) c.in-Some.words = rw (line, c.deref.ensures.value ∙ c.in_ok-first.ensures) at c.in-Some.ensures.some in
    let last : c.deref-2.result.now ≡ end_last (take c.args.at text) (take c.in-Some.words (drop c.args.at text)) = c.deref-2.ensures.value ∙ (rw line at (c.in_ok-last.ensures (take c.args.at text) c.requires.hashed)) in
    omega (arith, c.len.ensures, c.deref-2.ensures.len, ap length last, (end-last text c.args.at c.requires.at m e c.in-Some.words words).1)

pub returns-clause-none : goal.returns-clause-none
returns-clause-none c = λ m e.
    let text = c.args.text.now in
    let line = slice-rest c.args.at text in
    let words : AreWords (drop c.args.at text) (end_first c.args.at) c.in-Some.words = rw (line, c.deref.ensures.value ∙ c.in_ok-first.ensures) at c.in-Some.ensures.some in
    let last : c.deref-2.result.now ≡ end_last (take c.args.at text) (take c.in-Some.words (drop c.args.at text)) = c.deref-2.ensures.value ∙ (rw line at (c.in_ok-last.ensures (take c.args.at text) c.requires.hashed)) in
    let test = starts-test (drop c.in-Some.words (drop c.args.at text)) c.deref-2.result.now c.starts_with.result (rw (line, slice-rest c.in-Some.words (drop c.args.at text)) at c.starts_with.ensures.value) in
    not_both c.starts_with.result c.if-starts_with.false (test.1 (rw last ((end-last text c.args.at c.requires.at m e c.in-Some.words words).0)))
