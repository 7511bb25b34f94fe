use Rattle.std.proofs.Common.{◌≡◌, ◌∙◌, ◌++◌, ap, append_assoc, length, map, subst, sym}
use Rattle.std.specs.Prelude.{OnOk, if◌then◌else◌, []}
use Rattle.std.proofs.lemmas.List.{length-map}
use Rattle.std.proofs.lemmas.Result.{on_ok_weaker}
use Rattle.tp_script.specs.Script.{head_view, server_view}
use Rattle.tp_commands.specs.Ending.{final_lines}
use Rattle.tp_perform.specs.Performed.{closing_text, finals_of}
use Rattle.tp_perform.proofs.scripts.add_end.Goals as goal

pub returns-then-has_race-clause-told : goal.returns-then-has_race-clause-told
returns-then-has_race-clause-told g c =
    let is = sym c.has_race.ensures ∙ c.if-has_race.true in
    subst (λ b. OnOk c.add_account.result (c.add_account.new.told.items ≡ c.args.told.now.items ++ ((if b then [] else finals_of (head_view c.args.script.now.head) (map (λ b. (goal.Server-dyn g (b.vtable, b.value)).registers b.value) c.args.servers.now)) ++ closing_text c.args.account))) (sym is) c.add_account.ensures.told

pub returns-clause-told : goal.returns-clause-told
returns-clause-told g c =
    let is = sym c.has_race.ensures ∙ c.if-has_race.false in
    let servers : length c.args.servers.now ≡ length (head_view c.args.script.now.head).servers = c.requires.all ∙ sym (length-map c.args.script.now.head.servers.items server_view) in
    let finals = c.in_ok-add_finals.ensures.told ∙ ap (λ n. c.args.told.now.items ++ final_lines (head_view c.args.script.now.head).servers (map (λ b. (goal.Server-dyn g (b.vtable, b.value)).registers b.value) c.args.servers.now) n) servers in
    subst (λ b. OnOk c.add_account-2.result (c.add_account-2.new.told.items ≡ c.args.told.now.items ++ ((if b then [] else finals_of (head_view c.args.script.now.head) (map (λ b. (goal.Server-dyn g (b.vtable, b.value)).registers b.value) c.args.servers.now)) ++ closing_text c.args.account))) (sym is)
    (on_ok_weaker c.add_account-2.result (λ told. told ∙ (ap (λ t. t ++ closing_text c.args.account) finals ∙ append_assoc c.args.told.now.items _ (closing_text c.args.account))) c.add_account-2.ensures.told)
