use Rattle.std.proofs.Common.{ap, ◌≡◌, ◌+◌, ◌∙◌, rules, arith}
use Rattle.tp_manager.specs.Shown.{PassShown}
use Rattle.tp_manager.proofs.Accounts.Closing.{from_places, number_at}
use Rattle.tp_manager.proofs.manager.Keeper.has_all.Goals as goal

pub returns-clause-yes : goal.returns-clause-yes
returns-clause-yes c = λ _. (
  search rules,
  from_places 0 c.args.passes.now (λ k d less. let all = c.loop-place-test.false in let none : k ≡ 0 + k = omega arith in c.loop-place.invariant k d (omega arith) ∙ none),
)

pub returns-then-from-place-clause-no : goal.returns-then-from-place-clause-no
returns-then-from-place-clause-no c = λ _ all. let a = number_at 0 c.args.passes.now c.loop-place.place c.index-passes-place.result all.1 c.loop-place-test.true in let none : 0 + c.loop-place.place ≡ c.loop-place.place = omega arith in absurd (c.if-from-place.true (c.from-in-loop-place.ensures ∙ (c.number.ensures ∙ (ap (λ (p : PassShown). p.number) c.index-passes-place.is ∙ (a ∙ none)))))
