use Rattle.std.proofs.Common.{◌∙◌, [], ◌∷◌, ◌++◌, ap, sym}
use Rattle.std.proofs.lemmas.List.{take_rest}
use Rattle.tp_kept.specs.Lines.{is_own}
use Rattle.tp_kept.proofs.LinesLemmas.{given_end, given_other, given_own}
use Rattle.tp_kept.proofs.lines.given.Goals.{then-not-is_own+in_ok-extend_from_slice+in_ok-push, else-not-is_own}
use Rattle.tp_kept.proofs.lines.given.Goals as goal

pub loop-place-preserved : goal.loop-place-preserved
loop-place-preserved c =
    let found = sym c.line_end.ensures ∙ c.in-Some.is in
    simp take_rest (rw c.split_at.ensures.back (elim c.if-not-is_own.branch [
      | then-not-is_own+in_ok-extend_from_slice+in_ok-push w ↦
          given_other c.args.text.now c.loop-place.lines.items c.loop-place.rest.now c.in-Some.place found c.loop-place.invariant c.if-not-is_own.lines.items
          (ap (λ l. is_own l) (sym c.split_at.ensures.front) ∙ (sym c.is_own.ensures ∙ w.if-not-is_own.true)) (ap (λ v. v.items) w.lines-is ∙ (w.in_ok-push.ensures.items ∙ ap (λ l. l ++ 10 ∷ []) (w.in_ok-extend_from_slice.ensures.items ∙ ap (λ l. c.loop-place.lines.items ++ l) c.split_at.ensures.front)))
      | else-not-is_own w ↦
          given_own c.args.text.now c.loop-place.lines.items c.loop-place.rest.now c.in-Some.place found c.loop-place.invariant c.if-not-is_own.lines.items
          (ap (λ l. is_own l) (sym c.split_at.ensures.front) ∙ (sym c.is_own.ensures ∙ w.if-not-is_own.false)) (ap (λ v. v.items) w.lines-is)
    ]))

pub returns : goal.returns
returns c = given_end c.args.text.now c.loop-place.lines.items c.loop-place.rest.now (sym c.line_end.ensures ∙ c.in_default.is) c.loop-place.invariant
