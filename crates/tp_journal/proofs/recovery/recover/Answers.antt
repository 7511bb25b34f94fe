use Rattle.std.proofs.Common.{◌⊎◌, inl, inr, ⊎_elim, take}
use Rattle.tp_journal.specs.Journal.{LeavesRecovered}
use Rattle.tp_journal.specs.Text.{IsAtRest, text_of}
use Rattle.tp_journal.proofs.Kept.{front-text, recovered-of}
use Rattle.tp_journal.proofs.Moments.{weakened}
use Rattle.tp_journal.proofs.Texts.{text-is_text}
use Rattle.tp_journal.proofs.recovery.recover.Goals as goal

pub make-requires-2-clause-text : goal.make-requires-2-clause-text
make-requires-2-clause-text g c =
    let bytes = c.args.bytes.now in
    front-text (text_of bytes) (take c.in_ok-count.count bytes) (text-is_text bytes) c.in_ok-count.ensures.sealed.front

pub returns-in_err-found-2-clause-any_moment : goal.returns-in_err-found-2-clause-any_moment
returns-in_err-found-2-clause-any_moment g c =
    let bytes = c.args.bytes.now in
    let text = take c.in_ok-count.count bytes in
    let old = g.D.Device.may_leave c.args.device.now in
    let is = recovered-of bytes (g.D.Device.seen c.args.device.now) c.in_ok-count.count c.requires.seen c.in_ok-count.ensures.inside c.in_ok-count.ensures.sealed c.in_ok-count.ensures.whole in
    weakened g.D.Device.moment g.D.Device.left_since c.args.device.now c.make-2.new.device (λ f. old f ⊎ IsAtRest text f) (LeavesRecovered (g.D.Device.seen c.args.device.now) old) c.make-2.ensures.any_moment
    (λ f left. ⊎_elim (λ was. inl was) (λ rest. inr (text, is, rest)) left)

pub returns-clause-any_moment : goal.returns-clause-any_moment
returns-clause-any_moment g c =
    let bytes = c.args.bytes.now in
    let text = take c.in_ok-count.count bytes in
    let old = g.D.Device.may_leave c.args.device.now in
    let is = recovered-of bytes (g.D.Device.seen c.args.device.now) c.in_ok-count.count c.requires.seen c.in_ok-count.ensures.inside c.in_ok-count.ensures.sealed c.in_ok-count.ensures.whole in
    weakened g.D.Device.moment g.D.Device.left_since c.args.device.now c.make-2.new.device (λ f. old f ⊎ IsAtRest text f) (LeavesRecovered (g.D.Device.seen c.args.device.now) old) c.make-2.ensures.any_moment
    (λ f left. ⊎_elim (λ was. inl was) (λ rest. inr (text, is, rest)) left)
