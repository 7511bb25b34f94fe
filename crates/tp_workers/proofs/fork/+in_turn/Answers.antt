use Rattle.std.proofs.Common.{rules, ◌≡◌, ◌∙◌, ◌++◌, length, sym, subst}
use Rattle.tp_workers.specs.Ran.{RanEach, Runs}
use Rattle.tp_workers.proofs.Ran.{both_fit, each_append, each_single, first_accepts, may_first, may_second}
use Rattle.tp_workers.proofs.fork.+in_turn.Goals as goal

pub run_one-requires : goal.run_one-requires
run_one-requires g t c =
    record { accepts = first_accepts g.F.Fn c.args.run.now c.args.on.now c.args.by.now c.index-on-0.result c.index-by-0.result (search rules) c.requires.may_run }

pub returns-then-on-eq1 : goal.returns-then-on-eq1
returns-then-on-eq1 g t c = record {
  ran = each_single (Runs g.F.Fn c.args.run.now) c.args.on.now c.args.by.now c.run_one.new.on c.index-on-0.result c.run_one.new.by c.index-by-0.result c.run_one.result (search rules) c.requires.may_run.paired c.run_one.ensures.ran;
}

pub in_turn-a-requires : goal.in_turn-a-requires
in_turn-a-requires g t c κs within =
    let same : length c.split_at_mut-front.result.0.now ≡ length c.split_at_mut-front_by.result.0.now = c.split_at_mut-front.ensures.front_len ∙ sym c.split_at_mut-front_by.ensures.front_len in
    (search rules, (within.0, (within.1.0, (within.1.1, may_first g.F.Fn c.args.run.now _ _ _ _ _ _ c.split_at_mut-front.ensures.value c.split_at_mut-front_by.ensures.value same c.requires.may_run))))

pub in_turn-b-requires : goal.in_turn-b-requires
in_turn-b-requires g t c κs within =
    let same : length c.split_at_mut-front.result.0.now ≡ length c.split_at_mut-front_by.result.0.now = c.split_at_mut-front.ensures.front_len ∙ sym c.split_at_mut-front_by.ensures.front_len in
    (search rules, (within.0, (within.1.0, (within.1.1, may_second g.F.Fn c.args.run.now _ _ _ _ _ _ c.split_at_mut-front.ensures.value c.split_at_mut-front_by.ensures.value same c.requires.may_run))))

pub plus-requires : goal.plus-requires
plus-requires g t c =
    let same : length c.split_at_mut-front.result.0.now ≡ length c.split_at_mut-front_by.result.0.now = c.split_at_mut-front.ensures.front_len ∙ sym c.split_at_mut-front_by.ensures.front_len in
    both_fit g.F.Fn c.args.run.now _ _ _ _ _ _ c.split_at_mut-front.ensures.value c.split_at_mut-front_by.ensures.value same c.requires.may_run _ _ _ _ _ _ c.in_turn-a.ensures.ran c.in_turn-b.ensures.ran

pub returns : goal.returns
returns g t c =
    let R = Runs g.F.Fn c.args.run.now in
    let same : length c.split_at_mut-front.result.0.now ≡ length c.split_at_mut-front_by.result.0.now = c.split_at_mut-front.ensures.front_len ∙ sym c.split_at_mut-front_by.ensures.front_len in
    let on_new = c.in_turn-a.new.on ++ c.in_turn-b.new.on in
    let by_new = c.in_turn-a.new.by ++ c.in_turn-b.new.by in
    let joined = each_append R _ _ _ _ _ _ _ _ _ _ same c.in_turn-a.ensures.ran c.in_turn-b.ensures.ran in
    let counted = subst (λ s. RanEach R (c.split_at_mut-front.result.0.now ++ c.split_at_mut-front.result.1.now) (c.split_at_mut-front_by.result.0.now ++ c.split_at_mut-front_by.result.1.now) s on_new by_new) (sym c.plus.ensures) joined in
    let known = subst (λ xs. RanEach R xs (c.split_at_mut-front_by.result.0.now ++ c.split_at_mut-front_by.result.1.now) c.plus.result on_new by_new) (sym c.split_at_mut-front.ensures.value) counted in
    record { ran = subst (λ ys. RanEach R c.args.on.now ys c.plus.result on_new by_new) (sym c.split_at_mut-front_by.ensures.value) known }
