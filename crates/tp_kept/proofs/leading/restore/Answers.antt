use Rattle.std.proofs.Common.{◌∙◌, ◌+◌, ◌++◌, ap, sym}
use Rattle.tp_session.specs.Session.{line_step}
use Rattle.tp_wire.specs.Heard.{heard}
use Rattle.tp_kept.proofs.LeadLemmas.{one_more, one_step}
use Rattle.tp_kept.proofs.leading.restore.Goals as goal

pub loop-number-preserved : goal.loop-number-preserved
loop-number-preserved c =
    let all = heard c.args.lines.now in
    let k = c.loop-number.number in
    let inv = c.loop-number.invariant in
    let next = c.in-Some.ensures.some in
    let more = one_more all (heard c.loop-number.rest.now) (heard c.in-Some.others.now) k c.in-Some.line.now inv.few inv.parts next.0 in
    let step = one_step all k c.in-Some.line.now c.args.session.now c.loop-number.session inv.few more.front inv.left in
    record {
      whole = next.1;
      few = more.few;
      parts = more.parts;
      left = ap (λ t. t.1) c.in_ok-text.ensures ∙ sym (ap (λ t. t.1) step);
      told = c.in_ok-extend_from_slice.ensures.items ∙ (ap (λ w. c.loop-number.told.items ++ w) (c.as_slice.ensures.value ∙ ap (λ t. t.0) c.in_ok-text.ensures) ∙ (ap (λ w. w ++ (line_step (k + 1) c.in-Some.line.now c.loop-number.session).0) inv.told ∙ sym (ap (λ t. t.0) step)));
    }
