use Rattle.std.proofs.Common.{◌≡◌, ◌+◌, ap, arith, ◌∙◌, length, refl, List, ℕ, map}
use Rattle.std.proofs.lemmas.Result.{on_err_weaker, on_ok_weaker}
use mathlib.Core.Logic.{inl, inr}
use Rattle.tp_report.proofs.Devices.{Appends-then, always_err, front_none, front_then}
use Rattle.tp_commands.proofs.Pushes.{extended, renamed}
use Rattle.tp_server.specs.Behaviour.{Behaviour, behaviour_of}
use Rattle.tp_commands.specs.contracts.boxes.put.{dyn-1-ghosts}
use denote.Param.Object.{read_made}
use Rattle.tp_perform.proofs.scripts.serve.OwnLists.{own-1, lawful-own-1}
use Rattle.tp_perform.proofs.scripts.serve.Hidden.{sends-own-1}
use Rattle.tp_perform.proofs.scripts.serve.Goals.{in-Eager+in_ok-eager-in-Eager+in_ok-new-in-Eager+in_ok-put-in-Eager, in-Lazy+in_ok-lazy-in-Lazy+in_ok-new-in-Lazy+in_ok-put-in-Lazy}
use Rattle.tp_script.specs.Passes.{racing}
use Rattle.tp_script.specs.Script.{head_view}
use Rattle.tp_script.specs.declared.script.ScriptServer.{ScriptServer}
use Rattle.tp_perform.specs.Performed.{IsNewInMemory, limits_of}
use Rattle.tp_perform.proofs.BeginLemmas.{all_made, as_many, begins, enough, has_room, is_held}
use Rattle.tp_perform.proofs.scripts.serve.Goals as goal

pub loop-server-preserved : goal.loop-server-preserved
loop-server-preserved g c = record {
  behaviours = elim c.match-server.branch [
    | in-Eager+in_ok-eager-in-Eager+in_ok-new-in-Eager+in_ok-put-in-Eager w ↦
        extended {B = Behaviour} (λ s. behaviour_of s.recipe) _ _ (((dyn-1-ghosts (own-1, lawful-own-1, sends-own-1)).0.entry (inl tt)).1.behaviour w.in_ok-eager-in-Eager.field-0) c.deref-server-items.result.now c.loop-server.server-index c.server-item.result
        (renamed {B = Behaviour} _ _ _ _ _ (ap (λ v. map (λ server. ((dyn-1-ghosts (own-1, lawful-own-1, sends-own-1)).0.entry server.vtable).1.behaviour server.value) v.items) w.servers-is) w.in_ok-put-in-Eager.ensures.behaviours (read_made (dyn-1-ghosts (own-1, lawful-own-1, sends-own-1)).0 ((dyn-1-ghosts (own-1, lawful-own-1, sends-own-1)).0.entry (inl tt)) (inl tt) refl _ (λ j y. j.1.behaviour y) w.into_dyn_box.result.vtable w.into_dyn_box.result.value w.in_ok-new-in-Eager.field-0.value w.into_dyn_box.ensures.1 ∙ ap (λ v. ((dyn-1-ghosts (own-1, lawful-own-1, sends-own-1)).0.entry (inl tt)).1.behaviour v) w.in_ok-new-in-Eager.ensures.ok))
        c.loop-server.invariant.behaviours c.loop-server-test.true (w.in_ok-eager-in-Eager.ensures.behaviour ∙ ap (λ s. behaviour_of s.recipe) c.server-item.is)
    | in-Lazy+in_ok-lazy-in-Lazy+in_ok-new-in-Lazy+in_ok-put-in-Lazy w ↦
        extended {B = Behaviour} (λ s. behaviour_of s.recipe) _ _ (((dyn-1-ghosts (own-1, lawful-own-1, sends-own-1)).0.entry (inr (inl tt))).1.behaviour w.in_ok-lazy-in-Lazy.field-0) c.deref-server-items.result.now c.loop-server.server-index c.server-item.result
        (renamed {B = Behaviour} _ _ _ _ _ (ap (λ v. map (λ server. ((dyn-1-ghosts (own-1, lawful-own-1, sends-own-1)).0.entry server.vtable).1.behaviour server.value) v.items) w.servers-is) w.in_ok-put-in-Lazy.ensures.behaviours (read_made (dyn-1-ghosts (own-1, lawful-own-1, sends-own-1)).0 ((dyn-1-ghosts (own-1, lawful-own-1, sends-own-1)).0.entry (inr (inl tt))) (inr (inl tt)) refl _ (λ j y. j.1.behaviour y) w.into_dyn_box-in_ok-new-in-Lazy.result.vtable w.into_dyn_box-in_ok-new-in-Lazy.result.value w.in_ok-new-in-Lazy.field-0.value w.into_dyn_box-in_ok-new-in-Lazy.ensures.1 ∙ ap (λ v. ((dyn-1-ghosts (own-1, lawful-own-1, sends-own-1)).0.entry (inr (inl tt))).1.behaviour v) w.in_ok-new-in-Lazy.ensures.ok))
        c.loop-server.invariant.behaviours c.loop-server-test.true (w.in_ok-lazy-in-Lazy.ensures.behaviour ∙ ap (λ s. behaviour_of s.recipe) c.server-item.is)
  ];
  registers = elim c.match-server.branch [
    | in-Eager+in_ok-eager-in-Eager+in_ok-new-in-Eager+in_ok-put-in-Eager w ↦
        extended {B = List ℕ} (λ s. s.registers) _ _ (((dyn-1-ghosts (own-1, lawful-own-1, sends-own-1)).0.entry (inl tt)).1.registers w.in_ok-eager-in-Eager.field-0) c.deref-server-items.result.now c.loop-server.server-index c.server-item.result
        (renamed {B = List ℕ} _ _ _ _ _ (ap (λ v. map (λ server. ((dyn-1-ghosts (own-1, lawful-own-1, sends-own-1)).0.entry server.vtable).1.registers server.value) v.items) w.servers-is) w.in_ok-put-in-Eager.ensures.registers (read_made (dyn-1-ghosts (own-1, lawful-own-1, sends-own-1)).0 ((dyn-1-ghosts (own-1, lawful-own-1, sends-own-1)).0.entry (inl tt)) (inl tt) refl _ (λ j y. j.1.registers y) w.into_dyn_box.result.vtable w.into_dyn_box.result.value w.in_ok-new-in-Eager.field-0.value w.into_dyn_box.ensures.1 ∙ ap (λ v. ((dyn-1-ghosts (own-1, lawful-own-1, sends-own-1)).0.entry (inl tt)).1.registers v) w.in_ok-new-in-Eager.ensures.ok))
        c.loop-server.invariant.registers c.loop-server-test.true (w.in_ok-eager-in-Eager.ensures.registers ∙ ap (λ s. s.registers) c.server-item.is)
    | in-Lazy+in_ok-lazy-in-Lazy+in_ok-new-in-Lazy+in_ok-put-in-Lazy w ↦
        extended {B = List ℕ} (λ s. s.registers) _ _ (((dyn-1-ghosts (own-1, lawful-own-1, sends-own-1)).0.entry (inr (inl tt))).1.registers w.in_ok-lazy-in-Lazy.field-0) c.deref-server-items.result.now c.loop-server.server-index c.server-item.result
        (renamed {B = List ℕ} _ _ _ _ _ (ap (λ v. map (λ server. ((dyn-1-ghosts (own-1, lawful-own-1, sends-own-1)).0.entry server.vtable).1.registers server.value) v.items) w.servers-is) w.in_ok-put-in-Lazy.ensures.registers (read_made (dyn-1-ghosts (own-1, lawful-own-1, sends-own-1)).0 ((dyn-1-ghosts (own-1, lawful-own-1, sends-own-1)).0.entry (inr (inl tt))) (inr (inl tt)) refl _ (λ j y. j.1.registers y) w.into_dyn_box-in_ok-new-in-Lazy.result.vtable w.into_dyn_box-in_ok-new-in-Lazy.result.value w.in_ok-new-in-Lazy.field-0.value w.into_dyn_box-in_ok-new-in-Lazy.ensures.1 ∙ ap (λ v. ((dyn-1-ghosts (own-1, lawful-own-1, sends-own-1)).0.entry (inr (inl tt))).1.registers v) w.in_ok-new-in-Lazy.ensures.ok))
        c.loop-server.invariant.registers c.loop-server-test.true (w.in_ok-lazy-in-Lazy.ensures.registers ∙ ap (λ s. s.registers) c.server-item.is)
  ];
  clear = elim c.match-server.branch [
    | in-Eager+in_ok-eager-in-Eager+in_ok-new-in-Eager+in_ok-put-in-Eager w ↦
        rw (w.servers-is) (w.in_ok-put-in-Eager.ensures.clear c.loop-server.invariant.clear ((read_made (dyn-1-ghosts (own-1, lawful-own-1, sends-own-1)).0 ((dyn-1-ghosts (own-1, lawful-own-1, sends-own-1)).0.entry (inl tt)) (inl tt) refl _ (λ j y. j.1.pending y) w.into_dyn_box.result.vtable w.into_dyn_box.result.value w.in_ok-new-in-Eager.field-0.value w.into_dyn_box.ensures.1 ∙ ap (λ v. ((dyn-1-ghosts (own-1, lawful-own-1, sends-own-1)).0.entry (inl tt)).1.pending v) w.in_ok-new-in-Eager.ensures.ok) ∙ w.in_ok-eager-in-Eager.ensures.unprepared))
    | in-Lazy+in_ok-lazy-in-Lazy+in_ok-new-in-Lazy+in_ok-put-in-Lazy w ↦
        rw (w.servers-is) (w.in_ok-put-in-Lazy.ensures.clear c.loop-server.invariant.clear ((read_made (dyn-1-ghosts (own-1, lawful-own-1, sends-own-1)).0 ((dyn-1-ghosts (own-1, lawful-own-1, sends-own-1)).0.entry (inr (inl tt))) (inr (inl tt)) refl _ (λ j y. j.1.pending y) w.into_dyn_box-in_ok-new-in-Lazy.result.vtable w.into_dyn_box-in_ok-new-in-Lazy.result.value w.in_ok-new-in-Lazy.field-0.value w.into_dyn_box-in_ok-new-in-Lazy.ensures.1 ∙ ap (λ v. ((dyn-1-ghosts (own-1, lawful-own-1, sends-own-1)).0.entry (inr (inl tt))).1.pending v) w.in_ok-new-in-Lazy.ensures.ok) ∙ w.in_ok-lazy-in-Lazy.ensures.unprepared))
  ];
}

pub returns-in_err-eager-in-Eager-clause-front : goal.returns-in_err-eager-in-Eager-clause-front
returns-in_err-eager-in-Eager-clause-front g c = always_err c.from_residual.result (inl (front_none _ _))

pub returns-in_err-new-in-Eager-clause-front : goal.returns-in_err-new-in-Eager-clause-front
returns-in_err-new-in-Eager-clause-front g c = always_err c.from_residual-in_err-new-in-Eager.result (inl (front_none _ _))

pub returns-in_err-put-in-Eager-clause-front : goal.returns-in_err-put-in-Eager-clause-front
returns-in_err-put-in-Eager-clause-front g c = always_err c.from_residual-in_err-put-in-Eager.result (inl (front_none _ _))

pub returns-in_err-lazy-in-Lazy-clause-front : goal.returns-in_err-lazy-in-Lazy-clause-front
returns-in_err-lazy-in-Lazy-clause-front g c = always_err c.from_residual-in_err-lazy-in-Lazy.result (inl (front_none _ _))

pub returns-in_err-new-in-Lazy-clause-front : goal.returns-in_err-new-in-Lazy-clause-front
returns-in_err-new-in-Lazy-clause-front g c = always_err c.from_residual-in_err-new-in-Lazy.result (inl (front_none _ _))

pub returns-in_err-put-in-Lazy-clause-front : goal.returns-in_err-put-in-Lazy-clause-front
returns-in_err-put-in-Lazy-clause-front g c = always_err c.from_residual-in_err-put-in-Lazy.result (inl (front_none _ _))

pub first_places-places-requires-clause-enough : goal.first_places-places-requires-clause-enough
first_places-places-requires-clause-enough g c =
    let new : IsNewInMemory (limits_of (head_view c.args.script.now.head) (racing c.args.script.now.acts.items)) c.in-Ok.managed = (record { managed = c.in-Ok.ensures.managed; limits = c.in-Ok.ensures.limits ∙ c.limits_of.ensures ∙ ap (λ k. limits_of (head_view c.args.script.now.head) k) c.racers-racers.ensures.value; seen = c.in-Ok.ensures.seen; free = c.in-Ok.ensures.free; new = c.in-Ok.ensures.new }) in
    let behaviours = all_made {B = Behaviour} (λ (x : ScriptServer). behaviour_of x.recipe) _ c.deref-server-items.result.now _ c.loop-server.server-index c.loop-server.invariant.behaviours (omega (arith, c.loop-server-test.false)) c.deref-server-items.ensures.value in
    let begun = all_made {B = List ℕ} (λ (x : ScriptServer). x.registers) _ c.deref-server-items.result.now _ c.loop-server.server-index c.loop-server.invariant.registers (omega (arith, c.loop-server-test.false)) c.deref-server-items.ensures.value in
    rw (c.as_slice.ensures.value, c.as_slice-2.ensures.value) (enough c.args.script.now.head (racing c.args.script.now.acts.items) c.in-Ok.managed (length c.loop-server.servers.items) new (as_many _ _ c.loop-server.servers.items c.args.script.now.head.servers.items behaviours))

pub first_places-places-requires-clause-few : goal.first_places-places-requires-clause-few
first_places-places-requires-clause-few g c =
    let new : IsNewInMemory (limits_of (head_view c.args.script.now.head) (racing c.args.script.now.acts.items)) c.in-Ok.managed = (record { managed = c.in-Ok.ensures.managed; limits = c.in-Ok.ensures.limits ∙ c.limits_of.ensures ∙ ap (λ k. limits_of (head_view c.args.script.now.head) k) c.racers-racers.ensures.value; seen = c.in-Ok.ensures.seen; free = c.in-Ok.ensures.free; new = c.in-Ok.ensures.new }) in
    let behaviours = all_made {B = Behaviour} (λ (x : ScriptServer). behaviour_of x.recipe) _ c.deref-server-items.result.now _ c.loop-server.server-index c.loop-server.invariant.behaviours (omega (arith, c.loop-server-test.false)) c.deref-server-items.ensures.value in
    let begun = all_made {B = List ℕ} (λ (x : ScriptServer). x.registers) _ c.deref-server-items.result.now _ c.loop-server.server-index c.loop-server.invariant.registers (omega (arith, c.loop-server-test.false)) c.deref-server-items.ensures.value in
    omega (arith, ap length c.as_slice-2.ensures.value, as_many _ _ c.loop-server.servers.items c.args.script.now.head.servers.items behaviours, c.args.script.now.head.servers.ok.0, c.args.script.now.head.few_servers)

pub perform-requires-clause-held : goal.perform-requires-clause-held
perform-requires-clause-held g c κs lives =
    let new : IsNewInMemory (limits_of (head_view c.args.script.now.head) (racing c.args.script.now.acts.items)) c.in-Ok.managed = (record { managed = c.in-Ok.ensures.managed; limits = c.in-Ok.ensures.limits ∙ c.limits_of.ensures ∙ ap (λ k. limits_of (head_view c.args.script.now.head) k) c.racers-racers.ensures.value; seen = c.in-Ok.ensures.seen; free = c.in-Ok.ensures.free; new = c.in-Ok.ensures.new }) in
    let behaviours = all_made {B = Behaviour} (λ (x : ScriptServer). behaviour_of x.recipe) _ c.deref-server-items.result.now _ c.loop-server.server-index c.loop-server.invariant.behaviours (omega (arith, c.loop-server-test.false)) c.deref-server-items.ensures.value in
    let begun = all_made {B = List ℕ} (λ (x : ScriptServer). x.registers) _ c.deref-server-items.result.now _ c.loop-server.server-index c.loop-server.invariant.registers (omega (arith, c.loop-server-test.false)) c.deref-server-items.ensures.value in
    let lie = rw (c.as_slice.ensures.value, c.as_slice-2.ensures.value) at c.first_places-places.ensures.lie in
    let shown = rw (c.as_slice.ensures.value, c.as_slice-2.ensures.value) at c.first_places-places.ensures.shown in
    is_held (λ b. ((dyn-1-ghosts (own-1, lawful-own-1, sends-own-1)).0.entry b.vtable).1.behaviour b.value) (λ b. ((dyn-1-ghosts (own-1, lawful-own-1, sends-own-1)).0.entry b.vtable).1.registers b.value) (λ b. ((dyn-1-ghosts (own-1, lawful-own-1, sends-own-1)).0.entry b.vtable).1.pending b.value) c.args.script.now.head (racing c.args.script.now.acts.items) (record { managed = c.in-Ok.managed; servers = c.loop-server.servers; places = c.first_places-places.result }) new behaviours begun lie shown

pub perform-requires-clause-room : goal.perform-requires-clause-room
perform-requires-clause-room g c κs lives =
    let new : IsNewInMemory (limits_of (head_view c.args.script.now.head) (racing c.args.script.now.acts.items)) c.in-Ok.managed = (record { managed = c.in-Ok.ensures.managed; limits = c.in-Ok.ensures.limits ∙ c.limits_of.ensures ∙ ap (λ k. limits_of (head_view c.args.script.now.head) k) c.racers-racers.ensures.value; seen = c.in-Ok.ensures.seen; free = c.in-Ok.ensures.free; new = c.in-Ok.ensures.new }) in
    let behaviours = all_made {B = Behaviour} (λ (x : ScriptServer). behaviour_of x.recipe) _ c.deref-server-items.result.now _ c.loop-server.server-index c.loop-server.invariant.behaviours (omega (arith, c.loop-server-test.false)) c.deref-server-items.ensures.value in
    let begun = all_made {B = List ℕ} (λ (x : ScriptServer). x.registers) _ c.deref-server-items.result.now _ c.loop-server.server-index c.loop-server.invariant.registers (omega (arith, c.loop-server-test.false)) c.deref-server-items.ensures.value in
    let lie = rw (c.as_slice.ensures.value, c.as_slice-2.ensures.value) at c.first_places-places.ensures.lie in
    let shown = rw (c.as_slice.ensures.value, c.as_slice-2.ensures.value) at c.first_places-places.ensures.shown in
    has_room (λ b. ((dyn-1-ghosts (own-1, lawful-own-1, sends-own-1)).0.entry b.vtable).1.behaviour b.value) (λ b. ((dyn-1-ghosts (own-1, lawful-own-1, sends-own-1)).0.entry b.vtable).1.registers b.value) (λ b. ((dyn-1-ghosts (own-1, lawful-own-1, sends-own-1)).0.entry b.vtable).1.pending b.value) c.args.script.now.head (racing c.args.script.now.acts.items) (record { managed = c.in-Ok.managed; servers = c.loop-server.servers; places = c.first_places-places.result }) new behaviours begun lie shown

pub returns-in_err-account-clause-front : goal.returns-in_err-account-clause-front
returns-in_err-account-clause-front g c =
    let new : IsNewInMemory (limits_of (head_view c.args.script.now.head) (racing c.args.script.now.acts.items)) c.in-Ok.managed = (record { managed = c.in-Ok.ensures.managed; limits = c.in-Ok.ensures.limits ∙ c.limits_of.ensures ∙ ap (λ k. limits_of (head_view c.args.script.now.head) k) c.racers-racers.ensures.value; seen = c.in-Ok.ensures.seen; free = c.in-Ok.ensures.free; new = c.in-Ok.ensures.new }) in
    let behaviours = all_made {B = Behaviour} (λ (x : ScriptServer). behaviour_of x.recipe) _ c.deref-server-items.result.now _ c.loop-server.server-index c.loop-server.invariant.behaviours (omega (arith, c.loop-server-test.false)) c.deref-server-items.ensures.value in
    let begun = all_made {B = List ℕ} (λ (x : ScriptServer). x.registers) _ c.deref-server-items.result.now _ c.loop-server.server-index c.loop-server.invariant.registers (omega (arith, c.loop-server-test.false)) c.deref-server-items.ensures.value in
    let lie = rw (c.as_slice.ensures.value, c.as_slice-2.ensures.value) at c.first_places-places.ensures.lie in
    let shown = rw (c.as_slice.ensures.value, c.as_slice-2.ensures.value) at c.first_places-places.ensures.shown in
    let part = c.in_err-account.ensures.front in
    always_err c.from_residual-in_err-account.result (inr (inl (record { first = part.before; begins = begins (λ b. ((dyn-1-ghosts (own-1, lawful-own-1, sends-own-1)).0.entry b.vtable).1.behaviour b.value) (λ b. ((dyn-1-ghosts (own-1, lawful-own-1, sends-own-1)).0.entry b.vtable).1.registers b.value) (λ b. ((dyn-1-ghosts (own-1, lawful-own-1, sends-own-1)).0.entry b.vtable).1.pending b.value) c.args.script.now.head (racing c.args.script.now.acts.items) (record { managed = c.in-Ok.managed; servers = c.loop-server.servers; places = c.first_places-places.result }) new behaviours begun lie shown part.before part.was; last = part.after; acts = part.leads })))

pub returns-clause-told : goal.returns-clause-told
returns-clause-told g c =
    let new : IsNewInMemory (limits_of (head_view c.args.script.now.head) (racing c.args.script.now.acts.items)) c.in-Ok.managed = (record { managed = c.in-Ok.ensures.managed; limits = c.in-Ok.ensures.limits ∙ c.limits_of.ensures ∙ ap (λ k. limits_of (head_view c.args.script.now.head) k) c.racers-racers.ensures.value; seen = c.in-Ok.ensures.seen; free = c.in-Ok.ensures.free; new = c.in-Ok.ensures.new }) in
    let behaviours = all_made {B = Behaviour} (λ (x : ScriptServer). behaviour_of x.recipe) _ c.deref-server-items.result.now _ c.loop-server.server-index c.loop-server.invariant.behaviours (omega (arith, c.loop-server-test.false)) c.deref-server-items.ensures.value in
    let begun = all_made {B = List ℕ} (λ (x : ScriptServer). x.registers) _ c.deref-server-items.result.now _ c.loop-server.server-index c.loop-server.invariant.registers (omega (arith, c.loop-server-test.false)) c.deref-server-items.ensures.value in
    let lie = rw (c.as_slice.ensures.value, c.as_slice-2.ensures.value) at c.first_places-places.ensures.lie in
    let shown = rw (c.as_slice.ensures.value, c.as_slice-2.ensures.value) at c.first_places-places.ensures.shown in
    let told = c.in_ok-account.ensures.told in
    on_ok_weaker c.write_end.result (λ done. record {
      first = told.before;
      begins = begins (λ b. ((dyn-1-ghosts (own-1, lawful-own-1, sends-own-1)).0.entry b.vtable).1.behaviour b.value) (λ b. ((dyn-1-ghosts (own-1, lawful-own-1, sends-own-1)).0.entry b.vtable).1.registers b.value) (λ b. ((dyn-1-ghosts (own-1, lawful-own-1, sends-own-1)).0.entry b.vtable).1.pending b.value) c.args.script.now.head (racing c.args.script.now.acts.items) (record { managed = c.in-Ok.managed; servers = c.loop-server.servers; places = c.first_places-places.result }) new behaviours begun lie shown told.before told.was;
      text = told.leads.0;
      last = told.after;
      acts = told.leads.1;
      account = c.in_ok-account.account;
      registers = map (λ b. ((dyn-1-ghosts (own-1, lawful-own-1, sends-own-1)).0.entry b.vtable).1.registers b.value) c.perform.new.held.servers.items;
      ends = told.leads.3;
      told = Appends-then (g.W.Sink.contents c.args.writer.now) (g.W.Sink.contents c.perform.new.writer) (g.W.Sink.contents c.write_end.new.writer) told.leads.0 _ told.leads.2 (rw c.as_slice-3.ensures.value at done);
    }) c.write_end.ensures.told

pub returns-clause-front : goal.returns-clause-front
returns-clause-front g c =
    let new : IsNewInMemory (limits_of (head_view c.args.script.now.head) (racing c.args.script.now.acts.items)) c.in-Ok.managed = (record { managed = c.in-Ok.ensures.managed; limits = c.in-Ok.ensures.limits ∙ c.limits_of.ensures ∙ ap (λ k. limits_of (head_view c.args.script.now.head) k) c.racers-racers.ensures.value; seen = c.in-Ok.ensures.seen; free = c.in-Ok.ensures.free; new = c.in-Ok.ensures.new }) in
    let behaviours = all_made {B = Behaviour} (λ (x : ScriptServer). behaviour_of x.recipe) _ c.deref-server-items.result.now _ c.loop-server.server-index c.loop-server.invariant.behaviours (omega (arith, c.loop-server-test.false)) c.deref-server-items.ensures.value in
    let begun = all_made {B = List ℕ} (λ (x : ScriptServer). x.registers) _ c.deref-server-items.result.now _ c.loop-server.server-index c.loop-server.invariant.registers (omega (arith, c.loop-server-test.false)) c.deref-server-items.ensures.value in
    let lie = rw (c.as_slice.ensures.value, c.as_slice-2.ensures.value) at c.first_places-places.ensures.lie in
    let shown = rw (c.as_slice.ensures.value, c.as_slice-2.ensures.value) at c.first_places-places.ensures.shown in
    let told = c.in_ok-account.ensures.told in
    on_err_weaker c.write_end.result (λ done. inr (inr (record {
      first = told.before;
      begins = begins (λ b. ((dyn-1-ghosts (own-1, lawful-own-1, sends-own-1)).0.entry b.vtable).1.behaviour b.value) (λ b. ((dyn-1-ghosts (own-1, lawful-own-1, sends-own-1)).0.entry b.vtable).1.registers b.value) (λ b. ((dyn-1-ghosts (own-1, lawful-own-1, sends-own-1)).0.entry b.vtable).1.pending b.value) c.args.script.now.head (racing c.args.script.now.acts.items) (record { managed = c.in-Ok.managed; servers = c.loop-server.servers; places = c.first_places-places.result }) new behaviours begun lie shown told.before told.was;
      text = told.leads.0;
      last = told.after;
      acts = told.leads.1;
      account = c.in_ok-account.account;
      registers = map (λ b. ((dyn-1-ghosts (own-1, lawful-own-1, sends-own-1)).0.entry b.vtable).1.registers b.value) c.perform.new.held.servers.items;
      ends = told.leads.3;
      told = front_then (g.W.Sink.contents c.args.writer.now) (g.W.Sink.contents c.perform.new.writer) (g.W.Sink.contents c.write_end.new.writer) told.leads.0 _ told.leads.2 (rw c.as_slice-3.ensures.value at done);
    }))) c.write_end.ensures.front
