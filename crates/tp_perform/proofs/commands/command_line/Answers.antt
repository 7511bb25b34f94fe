use Rattle.std.proofs.Common.{◌≡◌, ◌∙◌, ◌<◌, ap, arith, get_or, length, refl, subst, sym}
use Rattle.std.specs.Vec.{with_item, with_items}
use Rattle.std.specs.List.{refill}
use Rattle.std.specs.Prelude.{IfOk, string_bytes}
use Rattle.std.proofs.lemmas.Result.{IfOk-weaker}
use Rattle.tp_report.specs.Answer.{answer_text, line}
use Rattle.tp_report.specs.declared.answer.Answer.TheVariants as answer
use Rattle.tp_script.specs.declared.script.Command.TheVariants as command
use Rattle.tp_commands.specs.Places.{workers}
use Rattle.tp_commands.specs.Registers.{TellsBalance, register_sum}
use Rattle.tp_commands.proofs.Lies.{lie_servers}
use Rattle.tp_commands.proofs.Shows.{shown_sum}
use Rattle.tp_commands.specs.Told.{units_held}
use Rattle.tp_commands.proofs.Everyone.{all_same}
use Rattle.tp_commands.proofs.LineTellings.{balance_told}
use Rattle.tp_perform.proofs.ActLemmas.{at_of, client_did, command_did, held_of, places_many, refilled, steady_in}
use Rattle.tp_perform.proofs.LeftLemmas.{began_refilled}
use Rattle.tp_perform.proofs.StandLemmas.{stand_there}
use Rattle.tp_perform.proofs.commands.command_line.Goals as goal

pub desk_in-requires-clause-as_many : goal.desk_in-requires-clause-as_many
desk_in-requires-clause-as_many g c = ap length c.as_mut_slice-in-Desk-2.ensures.value ∙ places_many (λ b. (goal.Server-dyn g (b.vtable, b.value)).behaviour b.value) (λ b. (goal.Server-dyn g (b.vtable, b.value)).registers b.value) (λ b. (goal.Server-dyn g (b.vtable, b.value)).pending b.value) c.args.head.now c.args.held.now c.requires.held

pub bounds-deref-server : goal.bounds-deref-server
bounds-deref-server g c =
    let within = rw c.in-Balance.is at c.requires.in_range in
    omega (arith, within, places_many (λ b. (goal.Server-dyn g (b.vtable, b.value)).behaviour b.value) (λ b. (goal.Server-dyn g (b.vtable, b.value)).registers b.value) (λ b. (goal.Server-dyn g (b.vtable, b.value)).pending b.value) c.args.head.now c.args.held.now c.requires.held, ap length c.deref.ensures.0, c.args.head.now.servers.ok.0)

pub bounds-deref-server-in-Balance : goal.bounds-deref-server-in-Balance
bounds-deref-server-in-Balance g c =
    let within = rw c.in-Balance.is at c.requires.in_range in
    omega (arith, within, places_many (λ b. (goal.Server-dyn g (b.vtable, b.value)).behaviour b.value) (λ b. (goal.Server-dyn g (b.vtable, b.value)).registers b.value) (λ b. (goal.Server-dyn g (b.vtable, b.value)).pending b.value) c.args.head.now c.args.held.now c.requires.held, ap length c.deref.ensures.0, c.args.head.now.servers.ok.0)

pub sum-sum-requires : goal.sum-sum-requires
sum-sum-requires g c =
    ap length c.as_slice.ensures.value ∙ (lie_servers (λ b. (goal.Server-dyn g (b.vtable, b.value)).behaviour b.value) (λ b. (goal.Server-dyn g (b.vtable, b.value)).registers b.value) (λ b. (goal.Server-dyn g (b.vtable, b.value)).pending b.value) (workers (length c.args.held.now.servers.items) c.args.held.now.managed.passes.items) c.args.held.now.servers.items c.args.held.now.places.items c.requires.held.ready.lie ∙ sym (ap length c.as_slice-in-Sum.ensures.value))

pub returns-in-Client-clause-does : goal.returns-in-Client-clause-does
returns-in-Client-clause-does g c =
    rw c.in-Client.is (IfOk-weaker c.client_line.result _ _ (λ text tells. client_did (λ b. (goal.Server-dyn g (b.vtable, b.value)).behaviour b.value) (λ b. (goal.Server-dyn g (b.vtable, b.value)).registers b.value) (λ b. (goal.Server-dyn g (b.vtable, b.value)).pending b.value) c.args.head.now c.client_line.new.client c.args.held.now (record { managed = record { manager = c.args.held.now.managed.manager; keeper = c.args.held.now.managed.keeper; passes = with_item c.args.held.now.managed.passes 0 c.client_line.new.client }; servers = c.args.held.now.servers; places = c.args.held.now.places }) c.requires.held refl refl refl refl refl
    c.in-Client.act (string_bytes text) c.index_mut.result.now c.index_mut.ensures.value tells) c.client_line.ensures.tells)

pub returns-in-Desk-clause-held : goal.returns-in-Desk-clause-held
returns-in-Desk-clause-held g c =
    let e = c.desk_in.ensures in
    let n = c.desk_in.new in
    let ps = c.desk_in.auto.passes ∙ ap length c.as_mut_slice.ensures.value in
    let ss = c.desk_in.auto.servers ∙ ap length c.as_mut_slice-in-Desk.ensures.value in
    let os = c.desk_in.auto.places ∙ ap length c.as_mut_slice-in-Desk-2.ensures.value in
    let all = all_same c.args.held.now.managed.keeper c.args.held.now.managed.passes.items n.passes (rw c.as_mut_slice.ensures.value at e.numbered) c.requires.held.managed.all in
    held_of (λ b. (goal.Server-dyn g (b.vtable, b.value)).behaviour b.value) (λ b. (goal.Server-dyn g (b.vtable, b.value)).registers b.value) (λ b. (goal.Server-dyn g (b.vtable, b.value)).pending b.value) c.args.head.now c.args.held.now (record { managed = record { manager = c.args.held.now.managed.manager; keeper = c.args.held.now.managed.keeper; passes = with_items c.args.held.now.managed.passes c.desk_in.new.passes }; servers = with_items c.args.held.now.servers c.desk_in.new.servers; places = record { items = refill (length c.args.held.now.places.items) c.args.held.now.places.items c.desk_in.new.places } }) n.passes n.servers n.places c.requires.held refl (refilled _ _ _ c.args.held.now.managed.passes.ok.0 ps) (refilled _ _ _ c.args.held.now.servers.ok.0 ss) (refilled _ _ _ refl os) c.requires.held.managed.keeper all e.ready
    ps ss (ap (λ k. units_held k n.passes) ss ∙ (rw (c.as_mut_slice.ensures.value, c.as_mut_slice-in-Desk.ensures.value) at e.held))

pub returns-in-Desk-clause-began : goal.returns-in-Desk-clause-began
returns-in-Desk-clause-began g c =
    let os = c.desk_in.auto.places ∙ ap length c.as_mut_slice-in-Desk-2.ensures.value in
    began_refilled (λ b. (goal.Server-dyn g (b.vtable, b.value)).behaviour b.value) (λ b. (goal.Server-dyn g (b.vtable, b.value)).registers b.value) (λ b. (goal.Server-dyn g (b.vtable, b.value)).pending b.value) c.args.held.now.places.items c.desk_in.new.places _ (refilled _ _ _ refl os) (rw c.as_mut_slice-in-Desk-2.ensures.value at c.desk_in.ensures.began)

pub returns-in-Desk-clause-does : goal.returns-in-Desk-clause-does
returns-in-Desk-clause-does g c =
    let n = c.desk_in.new in
    let ps = c.desk_in.auto.passes ∙ ap length c.as_mut_slice.ensures.value in
    let ss = c.desk_in.auto.servers ∙ ap length c.as_mut_slice-in-Desk.ensures.value in
    let os = c.desk_in.auto.places ∙ ap length c.as_mut_slice-in-Desk-2.ensures.value in
    rw c.in-Desk.is (IfOk-weaker c.desk_in.result _ _ (λ text t. command_did (λ b. (goal.Server-dyn g (b.vtable, b.value)).behaviour b.value) (λ b. (goal.Server-dyn g (b.vtable, b.value)).registers b.value) (λ b. (goal.Server-dyn g (b.vtable, b.value)).pending b.value) c.args.head.now (command.Desk c.in-Desk.server c.in-Desk.act) c.args.held.now (record { managed = record { manager = c.args.held.now.managed.manager; keeper = c.args.held.now.managed.keeper; passes = with_items c.args.held.now.managed.passes c.desk_in.new.passes }; servers = with_items c.args.held.now.servers c.desk_in.new.servers; places = record { items = refill (length c.args.held.now.places.items) c.args.held.now.places.items c.desk_in.new.places } }) (string_bytes text) refl refl t.0 t.1
    (rw (c.as_mut_slice.ensures.value, c.as_mut_slice-in-Desk.ensures.value, c.as_mut_slice-in-Desk-2.ensures.value) at t.2) t.3
    (at_of (λ b. (goal.Server-dyn g (b.vtable, b.value)).behaviour b.value) (λ b. (goal.Server-dyn g (b.vtable, b.value)).registers b.value) (λ b. (goal.Server-dyn g (b.vtable, b.value)).pending b.value) (record { managed = record { manager = c.args.held.now.managed.manager; keeper = c.args.held.now.managed.keeper; passes = with_items c.args.held.now.managed.passes c.desk_in.new.passes }; servers = with_items c.args.held.now.servers c.desk_in.new.servers; places = record { items = refill (length c.args.held.now.places.items) c.args.held.now.places.items c.desk_in.new.places } }) n.passes n.servers n.places t.1 (refilled _ _ _ c.args.held.now.managed.passes.ok.0 ps) (refilled _ _ _ c.args.held.now.servers.ok.0 ss) (refilled _ _ _ refl os) t.4)
    (steady_in (λ b. (goal.Server-dyn g (b.vtable, b.value)).behaviour b.value) (λ b. (goal.Server-dyn g (b.vtable, b.value)).registers b.value) (λ b. (goal.Server-dyn g (b.vtable, b.value)).pending b.value) c.args.held.now.managed.manager n.passes n.servers n.places t.1 c.desk_in.ensures.ready t.4)) c.desk_in.ensures.tells)

pub returns-in-Balance-clause-does : goal.returns-in-Balance-clause-does
returns-in-Balance-clause-does g c =
    let l = stand_there (λ b. (goal.Server-dyn g (b.vtable, b.value)).behaviour b.value) (λ b. (goal.Server-dyn g (b.vtable, b.value)).registers b.value) (λ b. (goal.Server-dyn g (b.vtable, b.value)).pending b.value) c.args.head.now c.args.held.now c.requires.held in
    let s = l.0.scene in
    let range = rw c.in-Balance.is at c.requires.in_range in
    let within : c.in-Balance.server < length c.args.head.now.servers.items = omega (arith, range, c.args.head.now.servers.ok.0) in
    let inside : c.in-Balance.server < length c.args.held.now.places.items = omega (arith, within, places_many (λ b. (goal.Server-dyn g (b.vtable, b.value)).behaviour b.value) (λ b. (goal.Server-dyn g (b.vtable, b.value)).registers b.value) (λ b. (goal.Server-dyn g (b.vtable, b.value)).pending b.value) c.args.head.now c.args.held.now c.requires.held) in
    let told = subst (λ xs. IfOk c.balance_line.result (λ text. TellsBalance (string_bytes c.index.result.now.name) c.in-Balance.k ((goal.Server-dyn g ((get_or c.args.held.now.servers.items c.in-Balance.server c.index-in-Balance.result.now).vtable, (get_or c.args.held.now.servers.items c.in-Balance.server c.index-in-Balance.result.now).value)).registers (get_or c.args.held.now.servers.items c.in-Balance.server c.index-in-Balance.result.now).value) (get_or xs c.in-Balance.server c.index-deref-server.result).is_dropped (string_bytes text))) c.deref.ensures.0
    (subst (λ b. IfOk c.balance_line.result (λ text. TellsBalance (string_bytes c.index.result.now.name) c.in-Balance.k ((goal.Server-dyn g (b.vtable, b.value)).registers b.value) (get_or c.deref.result.now c.in-Balance.server c.index-deref-server.result).is_dropped (string_bytes text))) c.index-in-Balance.ensures c.balance_line.ensures.text) in
    rw c.in-Balance.is (IfOk-weaker c.balance_line.result _ _ (λ text tells. command_did (λ b. (goal.Server-dyn g (b.vtable, b.value)).behaviour b.value) (λ b. (goal.Server-dyn g (b.vtable, b.value)).registers b.value) (λ b. (goal.Server-dyn g (b.vtable, b.value)).pending b.value) c.args.head.now (command.Balance c.in-Balance.server c.in-Balance.k) c.args.held.now c.args.held.now (string_bytes text) refl refl s s l.1.scene tells l.1.scene
    (steady_in (λ b. (goal.Server-dyn g (b.vtable, b.value)).behaviour b.value) (λ b. (goal.Server-dyn g (b.vtable, b.value)).registers b.value) (λ b. (goal.Server-dyn g (b.vtable, b.value)).pending b.value) c.args.held.now.managed.manager c.args.held.now.managed.passes.items c.args.held.now.servers.items c.args.held.now.places.items s c.requires.held.ready l.1.scene))
    (balance_told c.balance_line.result string_bytes s s (λ b. (goal.Server-dyn g (b.vtable, b.value)).behaviour b.value) (λ b. (goal.Server-dyn g (b.vtable, b.value)).registers b.value) (λ b. (goal.Server-dyn g (b.vtable, b.value)).pending b.value) (workers (length c.args.held.now.servers.items) c.args.held.now.managed.passes.items) c.args.held.now.servers.items c.args.held.now.places.items c.args.head.now.servers.items c.in-Balance.server c.in-Balance.k s.client c.index-in-Balance.result.now c.index-deref-server.result c.index.result.now
    within inside c.requires.held.ready.lie c.index.ensures (sym l.1.scene.1) refl told))

pub returns-in-Sum-clause-does : goal.returns-in-Sum-clause-does
returns-in-Sum-clause-does g c =
    let l = stand_there (λ b. (goal.Server-dyn g (b.vtable, b.value)).behaviour b.value) (λ b. (goal.Server-dyn g (b.vtable, b.value)).registers b.value) (λ b. (goal.Server-dyn g (b.vtable, b.value)).pending b.value) c.args.head.now c.args.held.now c.requires.held in
    let s = l.0.scene in
    let is : c.sum-sum.result ≡ register_sum c.in-Sum.k s.places =
    (rw (c.as_slice.ensures.value, c.as_slice-in-Sum.ensures.value) at c.sum-sum.ensures) ∙ (shown_sum (λ b. (goal.Server-dyn g (b.vtable, b.value)).behaviour b.value) (λ b. (goal.Server-dyn g (b.vtable, b.value)).registers b.value) (λ b. (goal.Server-dyn g (b.vtable, b.value)).pending b.value) c.in-Sum.k (workers (length c.args.held.now.servers.items) c.args.held.now.managed.passes.items) c.args.held.now.servers.items c.args.held.now.places.items c.requires.held.ready.lie ∙ ap (register_sum c.in-Sum.k) (sym l.1.scene.1)) in
    rw c.in-Sum.is (IfOk-weaker c.line.result _ _ (λ text told. command_did (λ b. (goal.Server-dyn g (b.vtable, b.value)).behaviour b.value) (λ b. (goal.Server-dyn g (b.vtable, b.value)).registers b.value) (λ b. (goal.Server-dyn g (b.vtable, b.value)).pending b.value) c.args.head.now (command.Sum c.in-Sum.k) c.args.held.now c.args.held.now (string_bytes text) refl refl s s l.1.scene (told ∙ ap (λ n. line (answer_text (answer.Sum c.in-Sum.k n))) is, refl) l.1.scene
    (steady_in (λ b. (goal.Server-dyn g (b.vtable, b.value)).behaviour b.value) (λ b. (goal.Server-dyn g (b.vtable, b.value)).registers b.value) (λ b. (goal.Server-dyn g (b.vtable, b.value)).pending b.value) c.args.held.now.managed.manager c.args.held.now.managed.passes.items c.args.held.now.servers.items c.args.held.now.places.items s c.requires.held.ready l.1.scene)) c.line.ensures.text)
