use Rattle.std.proofs.Common.{◌∙◌, refl, subst, sym}
use Rattle.std.proofs.lemmas.List.{with_items_is}
use Rattle.tp_manager.specs.Accounts.{Accounts}
use Rattle.tp_crew.proofs.CrewLemmas.{looked_free, next_steady, steady_looked}
use Rattle.tp_crew.proofs.crew.Crew.account.Goals as goal

pub returns-clause-steady : goal.returns-clause-steady
returns-clause-steady g c =
    let old = c.args.self.now in
    let long = c.account.ensures.all.0 ∙ (c.account.ensures.keeper.1 ∙ sym c.requires.steady.managed.all.0) in
    let told = subst (λ ps. Accounts old.managed.manager.limits old.managed.keeper c.account.new.self ps c.account.new.passes c.account.result) c.deref_mut.ensures.value c.account.ensures.account in
    next_steady _ _ _ old _ c.account.new.passes old.boxes.items c.requires.steady refl refl refl
    (with_items_is old.managed.passes c.account.new.passes (long ∙ sym old.managed.passes.ok.0)) refl
    c.account.ensures.keeper.0 c.account.ensures.all long
    (looked_free old.managed.manager _ _ old.managed.passes.items c.account.new.passes told.gathers.passes c.requires.steady.free c.account.ensures.own)
    refl c.requires.steady.clear
    (steady_looked _ _ _ old _ _ c.account.new.passes c.requires.steady told.gathers.passes)

pub returns-clause-account : goal.returns-clause-account
returns-clause-account g c =
    let old = c.args.self.now in
    let long = c.account.ensures.all.0 ∙ (c.account.ensures.keeper.1 ∙ sym c.requires.steady.managed.all.0) in
    let told = subst (λ ps. Accounts old.managed.manager.limits old.managed.keeper c.account.new.self ps c.account.new.passes c.account.result) c.deref_mut.ensures.value c.account.ensures.account in
    subst (λ ps. Accounts old.managed.manager.limits old.managed.keeper c.account.new.self old.managed.passes.items ps c.account.result)
    (sym (with_items_is old.managed.passes c.account.new.passes (long ∙ sym old.managed.passes.ok.0))) told
