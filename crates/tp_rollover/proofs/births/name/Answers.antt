use Rattle.std.proofs.Common.{◌≡◌, ℕ, ◌+◌, ◌++◌, [], ◌∷◌, get_or, length, take, ap, sym, ◌∙◌, append_assoc, length-append, arith, rules}
use Rattle.tp_rollover.specs.declared.moved.Moved.{Moved}
use Rattle.tp_rollover.specs.Anew.{named}
use Rattle.tp_rollover.proofs.BirthsGroups.{blank, named_more}
use Rattle.tp_rollover.proofs.births.name.Goals as goal

pub loop-place-preserved : goal.loop-place-preserved
loop-place-preserved c =
    let g = c.args.group in
    let i = c.loop-place.place in
    let before = c.args.moved.now.items in
    let one : ℕ → Moved = λ n. record { old = (get_or c.args.rest.now i blank).id; new = n; old_root = (get_or c.args.rest.now i blank).root; new_root = g.root; holder = (get_or c.args.rest.now i blank).holder } in
    let pushed : c.push.new.self.items ≡ c.loop-place.moved.items ++ one c.after.result ∷ [] = search rules in
    record {
      named = pushed
          ∙ (ap (λ n. c.loop-place.moved.items ++ one n ∷ []) c.after.ensures
          ∙ (ap (λ ms. ms ++ one (g.first + i) ∷ []) c.loop-place.invariant.named
          ∙ (append_assoc before (named g.root g.first (take i c.args.rest.now)) (one (g.first + i) ∷ [])
          ∙ ap (λ ms. before ++ ms) (sym (named_more g.root g.first c.args.rest.now i blank (omega arith))))));
      many = (let long = length-append c.loop-place.moved.items (one c.after.result ∷ []) in let so_far = c.loop-place.invariant.many in ap length pushed ∙ omega (arith, long, so_far));
      space = (let more = c.push.ensures.capacity in let so_far = c.loop-place.invariant.space in omega (arith, more, so_far));
    }

pub returns-clause-many : goal.returns-clause-many
returns-clause-many c =
    let many = c.loop-place.invariant.many in
    omega (arith, many)
