use Rattle.std.proofs.Common.{◌≡◌, ◌∙◌, ◌==◌, ◌+◌, ◌++◌, ℕ, Bool, List, [], ◌∷◌, arith, length, inl, refl, true, false, ap, subst, sym}
use Rattle.std.specs.Prelude.{if◌then◌else◌, nat_lt}
use Rattle.std.proofs.lemmas.Bool.{eqb-true}
use Rattle.tp_kept.specs.Kept.{counted_behind, talk}
use Rattle.tp_kept.specs.Lines.{downs}
use Rattle.tp_kept.specs.Lives.{goes_on}
use Rattle.tp_kept.specs.declared.taking.TheConstants.{MOST_ASKED}
use Rattle.tp_session.specs.Conversed.{step_of}
use Rattle.tp_kept.proofs.LivesLemmas.{goes_none}
use Rattle.tp_kept.proofs.kept.Kept.take.Goals as goal

pub returns-in_default-put-clause-keeps : goal.returns-in_default-put-clause-keeps
returns-in_default-put-clause-keeps g c = λ e. (c.requires.ready.kept e).keeps

pub returns-then-is_empty-clause-keeps : goal.returns-then-is_empty-clause-keeps
returns-then-is_empty-clause-keeps g c = λ e. (c.requires.ready.kept e).keeps

-- no line has ended
none_of : (l : List ℕ) → (length l == 0) ≡ true → l ≡ []
none_of [] h = refl
none_of (x ∷ xs) h = absurd (omega (arith, eqb-true (length (x ∷ xs)) 0 h))

either : (b : Bool) → (if b then true else true) ≡ true
either true = refl
either false = refl

pub returns-then-is_empty-clause-takes : goal.returns-then-is_empty-clause-takes
returns-then-is_empty-clause-takes g c =
    let old = c.args.self.now in
    let put = c.in-Ok.ensures.put in
    let none : c.put.new.ready.items ≡ [] = sym c.as_slice-ended.ensures.value ∙ none_of c.as_slice-ended.result.now (sym c.is_empty.ensures ∙ c.if-is_empty.true) in
    let added : put.added ≡ [] = sym (put.lines_are ∙ ap (λ l. l ++ put.added) c.new-lines.ensures.items) ∙ none in
    record {
      added = [];
      whole = inl refl;
      follows = λ more. put.follows more ∙ ap (λ a. a ++ downs c.put.new.line.items more) added;
      leads = sym (goes_none (talk old));
      counted = ap (λ w. if w then old.counted else (old.counted + old.asked) + 0) (sym (either (nat_lt old.asked MOST_ASKED)));
      answers = none;
    }

pub returns-clause-takes : goal.returns-clause-takes
returns-clause-takes g c =
    let old = c.args.self.now in
    let put = c.in-Ok.ensures.put in
    let is : c.as_slice-ended.result.now ≡ put.added = c.as_slice-ended.ensures.value ∙ (put.lines_are ∙ ap (λ l. l ++ put.added) c.new-lines.ensures.items) in
    record {
      added = put.added;
      whole = put.ended.1;
      follows = λ more. put.follows more ∙ ap (λ line. put.added ++ downs line.items more) (sym c.answer.ensures.line);
      leads = c.in_ok-answers.ensures.leads ∙ ap (λ l. goes_on l (talk old)) is;
      counted = c.in_ok-answers.ensures.counted ∙ ap (λ l. counted_behind l old) is;
      answers = c.in_ok-answers.ensures.answers ∙ ap (λ l. (step_of (old.counted + old.asked) l old.session).0) is;
    }
