use Rattle.std.proofs.Common.{rules, ◌≡◌, ◌∙◌, length, refl, subst, sym}
use Rattle.std.proofs.lemmas.List.{with_items_is}
use Rattle.std.specs.Arc.{arc_value}
use Rattle.tp_manager.specs.Accounts.{Accounts}
use Rattle.covetrivet_c.proofs.home.Home.account.Goals as goal

pub returns : goal.returns
returns c =
    let old = c.args.self.now in let call = c.account in let keeper = call.new.self in
    let given : length old.passes.items ≡ old.keeper.given = search rules in
    let long = call.ensures.all.0 ∙ (call.ensures.keeper.1 ∙ sym given) in
    let of_it = subst (λ m. Accounts m.limits old.keeper keeper c.deref_mut.result.now call.new.passes call.result)
    c.deref-2.ensures call.ensures.account in
    let told = subst (λ ps. Accounts (arc_value old.manager).limits old.keeper keeper ps call.new.passes call.result)
    c.deref_mut.ensures.value of_it in
    let all = subst (λ ps. Accounts (arc_value old.manager).limits old.keeper keeper old.passes.items ps call.result)
    (sym (with_items_is old.passes call.new.passes (long ∙ sym old.passes.ok.0))) told in
    record { answer = ((refl, refl), all) }
