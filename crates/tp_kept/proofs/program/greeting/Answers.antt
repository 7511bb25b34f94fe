use Rattle.std.proofs.Common.{◌≡◌, IfOk, rules, string_bytes, subst, sym}
use Rattle.tp_kept.specs.Kept.{recovered_text}
use Rattle.tp_kept.proofs.program.greeting.Goals as goal

pub returns-then-cut-eq0 : goal.returns-then-cut-eq0
returns-then-cut-eq0 c = subst (λ n. IfOk c.format.result (λ text. string_bytes text ≡ recovered_text n c.args.recovered)) (sym c.if-cut-eq0.true) (search rules)
