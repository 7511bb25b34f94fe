use Rattle.std.proofs.Common.{rules, ◌≡◌, ◌≤◌, ◌∙◌, ◌++◌, ap, arith, length, length-append, sym, subst}
use Rattle.std.proofs.Math.Nat.{min-eq_left}
use Rattle.tp_workers.specs.Ran.{RanEach, Runs}
use Rattle.tp_workers.proofs.Ran.{both_fit, each_append, each_single, first_accepts, may_first, may_second}
use Rattle.tp_workers.proofs.Told.{told_append, told_single}
use Rattle.tp_workers.proofs.fork.+fork.Goals as goal

pub fork-run_one-counts-requires : goal.fork-run_one-counts-requires
fork-run_one-counts-requires g t c =
    record { accepts = first_accepts g.F.Fn c.args.run.now c.args.on.now c.args.by.now c.index-on-0.result c.index-by-0.result (search rules) c.requires.may_run }

pub fork-returns-then-on-eq1 : goal.fork-returns-then-on-eq1
fork-returns-then-on-eq1 g t c = record {
  ran = each_single (Runs g.F.Fn c.args.run.now) c.args.on.now c.args.by.now c.run_one-counts.new.on c.index-on-0.result c.run_one-counts.new.by c.index-by-0.result c.run_one-counts.result (search rules) c.requires.may_run.paired c.run_one-counts.ensures.ran;
  told = told_single (Runs g.F.Fn c.args.run.now) c.args.on.now c.args.by.now c.run_one-counts.new.on c.index-on-0.result c.run_one-counts.new.by c.index-by-0.result c.args.told.now c.tell.new.told c.run_one-counts.result (search rules) c.requires.may_run.paired c.tell.ensures.kept c.tell.ensures.told c.run_one-counts.ensures.ran;
}

pub fork-halves-requires-clause-front_may : goal.fork-halves-requires-clause-front_may
fork-halves-requires-clause-front_may g t c κs within =
    let same : length c.split_at_mut-front.result.0.now ≡ length c.split_at_mut-front_by.result.0.now = c.split_at_mut-front.ensures.front_len ∙ sym c.split_at_mut-front_by.ensures.front_len in
    may_first g.F.Fn c.args.run.now _ _ _ _ _ _ c.split_at_mut-front.ensures.value c.split_at_mut-front_by.ensures.value same c.requires.may_run

pub fork-halves-requires-clause-back_may : goal.fork-halves-requires-clause-back_may
fork-halves-requires-clause-back_may g t c κs within =
    let same : length c.split_at_mut-front.result.0.now ≡ length c.split_at_mut-front_by.result.0.now = c.split_at_mut-front.ensures.front_len ∙ sym c.split_at_mut-front_by.ensures.front_len in
    may_second g.F.Fn c.args.run.now _ _ _ _ _ _ c.split_at_mut-front.ensures.value c.split_at_mut-front_by.ensures.value same c.requires.may_run

pub fork-plus-requires : goal.fork-plus-requires
fork-plus-requires g t c =
    let same : length c.split_at_mut-front.result.0.now ≡ length c.split_at_mut-front_by.result.0.now = c.split_at_mut-front.ensures.front_len ∙ sym c.split_at_mut-front_by.ensures.front_len in
    both_fit g.F.Fn c.args.run.now _ _ _ _ _ _ c.split_at_mut-front.ensures.value c.split_at_mut-front_by.ensures.value same c.requires.may_run _ _ _ _ _ _ c.halves.ensures.front_ran c.halves.ensures.back_ran

pub fork-returns : goal.fork-returns
fork-returns g t c =
    let R = Runs g.F.Fn c.args.run.now in
    let same : length c.split_at_mut-front.result.0.now ≡ length c.split_at_mut-front_by.result.0.now = c.split_at_mut-front.ensures.front_len ∙ sym c.split_at_mut-front_by.ensures.front_len in
    let on_new = c.halves.new.front.0 ++ c.halves.new.back.0 in
    let by_new = c.halves.new.front.1.0 ++ c.halves.new.back.1.0 in
    let joined = each_append R _ _ _ _ _ _ _ _ _ _ same c.halves.ensures.front_ran c.halves.ensures.back_ran in
    let counted = subst (λ s. RanEach R (c.split_at_mut-front.result.0.now ++ c.split_at_mut-front.result.1.now) (c.split_at_mut-front_by.result.0.now ++ c.split_at_mut-front_by.result.1.now) s on_new by_new) (sym c.plus.ensures) joined in
    let known = subst (λ xs. RanEach R xs (c.split_at_mut-front_by.result.0.now ++ c.split_at_mut-front_by.result.1.now) c.plus.result on_new by_new) (sym c.split_at_mut-front.ensures.value) counted in
    let places = c.args.told.now in
    let told_new = c.halves.new.front.1.1.0 ++ c.halves.new.back.1.1.0 in
    let front_told = c.split_at_mut-front_told.result.0.now in
    let back_told = c.split_at_mut-front_told.result.1.now in
    let split : length (front_told ++ back_told) ≡ length (c.split_at_mut-front.result.0.now ++ c.split_at_mut-front.result.1.now)
    → length front_told ≡ length c.split_at_mut-front.result.0.now =
    λ long.
    let front = c.split_at_mut-front.ensures in
    let as_many : length places ≡ length c.args.on.now =
    ap length c.split_at_mut-front_told.ensures.value ∙ (long ∙ sym (ap length front.value)) in
    let within : length c.split_at_mut-front.result.0.now ≤ length places = omega (arith, as_many, front.front_len, ap length front.value, length-append c.split_at_mut-front.result.0.now c.split_at_mut-front.result.1.now) in
    c.split_at_mut-front_told.ensures.front_len ∙ (c.min.ensures ∙ (min-eq_left (subst (λ n. n ≤ length places) front.front_len within) ∙ sym front.front_len)) in
    let each = told_append R _ _ _ _ _ _ _ _ _ _ _ _ _ _ same split c.halves.ensures.front_ran c.halves.ensures.front_told c.halves.ensures.back_told in
    record {
      ran = subst (λ ys. RanEach R c.args.on.now ys c.plus.result on_new by_new) (sym c.split_at_mut-front_by.ensures.value) known;
      told = rw (c.plus.ensures, c.split_at_mut-front.ensures.value, c.split_at_mut-front_by.ensures.value, c.split_at_mut-front_told.ensures.value) each;
    }
