use Rattle.std.proofs.Common.{◌≡◌, ◌⊎◌, ◌++◌, List, ℕ, inl, inr, ⊎_elim, length, replicate, sym, ap, arith, subst, ◌∙◌}
use Rattle.tp_journal.specs.Text.{IsAtRest, IsSealed}
use Rattle.tp_journal.proofs.Moments.{started, weakened}
use Rattle.tp_journal.specs.declared.recovery.TheConstants.{STEP}
use Rattle.tp_journal.proofs.Texts.{made-length, made-rest}
use Rattle.tp_journal.proofs.recovery.make.Goals as goal

pub returns-in-Ok-clause-stands : goal.returns-in-Ok-clause-stands
returns-in-Ok-clause-stands g c =
    let text = c.args.text.now in
    let file = g.D.Device.seen c.renew.new.device in
    let text_is : c.in_ok-text.text.items ≡ text = c.in_ok-text.ensures.items_if_clones_equal (λ x y is. is) in
    let seen : file ≡ text ++ replicate 1048576 0 = c.in-Ok.ensures.seen ∙ c.deref.ensures.value ∙ c.in_ok-file.ensures in
    let len : c.len.result ≡ length file = omega (arith, c.len.ensures, c.deref.ensures.len, ap length c.in-Ok.ensures.seen) in
    record {
      at_rest = subst (λ (t : List ℕ). IsAtRest t file) (sym text_is) (made-rest text file 1048576 c.requires.text seen);
      is_sealed = subst IsSealed (sym text_is) c.requires.sealed;
      len_is = len;
      durable = λ f left. c.in-Ok.ensures.durable f left ∙ sym c.in-Ok.ensures.seen;
    }

pub returns-in-Ok-clause-any_moment : goal.returns-in-Ok-clause-any_moment
returns-in-Ok-clause-any_moment g c =
    let text = c.args.text.now in
    let old = g.D.Device.may_leave c.args.device.now in
    weakened g.D.Device.moment g.D.Device.left_since c.args.device.now c.renew.new.device (λ f. old f ⊎ (f ≡ c.deref.result.now)) (λ f. old f ⊎ IsAtRest text f) c.renew.ensures.any_moment
    (λ f left. ⊎_elim (λ was. inl was) (λ is. inr (made-rest text f 1048576 c.requires.text (is ∙ c.deref.ensures.value ∙ c.in_ok-file.ensures))) left)

pub returns-clause-any_moment : goal.returns-clause-any_moment
returns-clause-any_moment g c =
    let text = c.args.text.now in
    let old = g.D.Device.may_leave c.args.device.now in
    weakened g.D.Device.moment g.D.Device.left_since c.args.device.now c.renew.new.device (λ f. old f ⊎ (f ≡ c.deref.result.now)) (λ f. old f ⊎ IsAtRest text f) c.renew.ensures.any_moment
    (λ f left. ⊎_elim (λ was. inl was) (λ is. inr (made-rest text f 1048576 c.requires.text (is ∙ c.deref.ensures.value ∙ c.in_ok-file.ensures))) left)

pub returns-in_err-text-clause-any_moment : goal.returns-in_err-text-clause-any_moment
returns-in_err-text-clause-any_moment g c =
    let d = c.args.device.now in
    started g.D.Device.moment g.D.Device.left_since d _ (λ f left. inl (g.met.D.Device.only_now d f left))

pub returns-in-Ok-clause-len : goal.returns-in-Ok-clause-len
returns-in-Ok-clause-len g c =
    let long = made-length c.args.text.now c.in_ok-file.file.items STEP c.in_ok-file.ensures in
    c.len.ensures ∙ (c.in_ok-file.file.ok.0 ∙ long)
