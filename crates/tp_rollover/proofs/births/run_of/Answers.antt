use Rattle.std.proofs.Common.{All, [], ◌∷◌, get_or, length, subst, sym, take, arith}
use Rattle.std.proofs.lemmas.List.Elements.{All-append, All-cons}
use Rattle.tp_rollover.specs.Runs.{StaysInPart}
use Rattle.tp_rollover.specs.declared.survivors.Survivor.{Survivor}
use Rattle.tp_rollover.proofs.BirthsGroups.{blank}
use Rattle.tp_rollover.proofs.Lists.{take_more}
use Rattle.tp_rollover.proofs.births.run_of.Goals as goal

pub loop-place-preserved : goal.loop-place-preserved
loop-place-preserved c =
    let i = c.loop-place.place in
    let one : Survivor = get_or c.args.rest.now i blank in
    let On : Survivor → Type 0 = StaysInPart c.args.limits (length c.args.passes.now) c.args.at c.args.families.now in
    subst (All On) (sym (take_more c.args.rest.now i blank (omega arith)))
    (All-append On (take i c.args.rest.now) (one ∷ []) c.loop-place.invariant (All-cons On one [] (c.goes_on.ensures c.if-not-goes_on.false) (λ k d less. absurd (omega (arith, less)))))
