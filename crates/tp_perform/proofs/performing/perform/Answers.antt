use Rattle.std.proofs.Common.{◌≡◌, ◌∙◌, length, subst, sym}
use Rattle.tp_commands.specs.Places.{workers}
use Rattle.tp_commands.specs.Told.{AllLeftAt}
use Rattle.tp_perform.proofs.StandLemmas.{leads_both}
use Rattle.tp_perform.proofs.performing.perform.Goals as goal

pub returns-in-Ok-clause-left : goal.returns-in-Ok-clause-left
returns-in-Ok-clause-left g c =
    let r = c.perform_all-done.ensures.went in
    let many : length c.args.held.now.servers.items ≡ length c.take_account-account.new.held.servers.items = c.requires.held.each_server ∙ sym c.take_account-account.ensures.held.each_server in (
      r.before,
      r.after,
      r.was,
      r.done,
      subst (λ n. AllLeftAt (λ b. (goal.Server-dyn g (b.vtable, b.value)).behaviour b.value) (λ b. (goal.Server-dyn g (b.vtable, b.value)).registers b.value) r.after.scene.places (workers n c.end_held.new.held.managed.passes.items) c.end_held.new.held.servers.items) (sym many)
          (c.end_held.ensures.left r.after (r.began ∙ (sym c.close_desks.ensures.began ∙ sym c.take_account-account.ensures.began))),
    )

pub returns-in-Err-clause-left : goal.returns-in-Err-clause-left
returns-in-Err-clause-left g c =
    let r = c.perform_all-done.ensures.went in
    let many : length c.args.held.now.servers.items ≡ length c.take_account-account.new.held.servers.items = c.requires.held.each_server ∙ sym c.take_account-account.ensures.held.each_server in (
      r.before,
      r.after,
      r.was,
      r.done,
      subst (λ n. AllLeftAt (λ b. (goal.Server-dyn g (b.vtable, b.value)).behaviour b.value) (λ b. (goal.Server-dyn g (b.vtable, b.value)).registers b.value) r.after.scene.places (workers n c.end_held.new.held.managed.passes.items) c.end_held.new.held.servers.items) (sym many)
          (c.end_held.ensures.left r.after (r.began ∙ (sym c.close_desks.ensures.began ∙ sym c.take_account-account.ensures.began))),
    )

pub returns-in-Ok-clause-told : goal.returns-in-Ok-clause-told
returns-in-Ok-clause-told g c =
    let one = leads_both (λ b. (goal.Server-dyn g (b.vtable, b.value)).behaviour b.value) (λ b. (goal.Server-dyn g (b.vtable, b.value)).registers b.value) (λ b. (goal.Server-dyn g (b.vtable, b.value)).pending b.value) _ _ c.args.held.now c.perform_all-done.new.held c.close_desks.new.held c.in-Ok.ensures.told c.close_desks.ensures.closes in
    let two = leads_both (λ b. (goal.Server-dyn g (b.vtable, b.value)).behaviour b.value) (λ b. (goal.Server-dyn g (b.vtable, b.value)).registers b.value) (λ b. (goal.Server-dyn g (b.vtable, b.value)).pending b.value) _ _ c.args.held.now c.close_desks.new.held c.take_account-account.new.held one c.take_account-account.ensures.counts in
    let closed = two.leads.1 in
    record {
      before = two.before;
      after = closed.0;
      was = two.was;
      leads = (
        closed.1.0,
        closed.1.1,
        closed.1.2,
        record { closed = two.leads.0; closes = closed.2; counted = two.after; counts = two.leads.2; ends = c.end_held.ensures.ends two.after two.is },
      );
    }
