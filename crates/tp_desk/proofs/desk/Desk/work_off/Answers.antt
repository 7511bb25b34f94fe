use Rattle.std.proofs.Common.{rules, ◌∙◌}
use Rattle.tp_desk.proofs.Asking.{asks_declined, asks_settled, in_hand_born}
use Rattle.tp_desk.proofs.Steps.{works_off}
use Rattle.tp_desk.proofs.desk.Desk.work_off.Goals as goal

pub returns-in-Ok-clause-answer : goal.returns-in-Ok-clause-answer
returns-in-Ok-clause-answer g c =
    let box = c.args.self.now.server.now in
    let server = goal.Server-dyn g (box.vtable, box.value) in
    rw c.settled.ensures (works_off (server.behaviour box.value) (server.registers box.value) c.args.work _ _ c.commit.result _ (search rules))

pub returns-in-Err-clause-asked : goal.returns-in-Err-clause-asked
returns-in-Err-clause-asked g c =
    let first = c.args.self.now.server.now in
    let last = c.prepare.new.self.server.now in
    let before = goal.Server-dyn g (first.vtable, first.value) in
    let after = goal.Server-dyn g (last.vtable, last.value) in
    let born = in_hand_born _ _ _ _ _ _ _ _ _ c.args.work _ c.requires.steady c.requires.taken c.in-Err.ensures.follows in
    asks_declined (before.asked first.value) (after.asked last.value) c.prepare.new.self.pass.now.seen (before.registers first.value) c.args.self.now.work c.args.work c.requires.taken born c.prepare.ensures.asked

pub returns-in-Ok-clause-asked : goal.returns-in-Ok-clause-asked
returns-in-Ok-clause-asked g c =
    let first = c.args.self.now.server.now in
    let middle = c.prepare.new.self.server.now in
    let last = c.commit.new.self.server.now in
    let before = goal.Server-dyn g (first.vtable, first.value) in
    let between = goal.Server-dyn g (middle.vtable, middle.value) in
    let after = goal.Server-dyn g (last.vtable, last.value) in
    let ready = c.in-Ok.ensures.ready in
    let taken = ready.1 ∙ c.requires.taken in
    let born = in_hand_born _ _ _ _ _ _ _ _ _ c.args.work _ c.in-Ok.ensures.steady taken c.commit.ensures.follows in
    rw c.settled.ensures (asks_settled (before.asked first.value) (after.asked last.value) (between.asked middle.value) (before.behaviour first.value) c.prepare.new.self.drafts.items
    c.commit.new.self.pass.now.seen (before.registers first.value) (between.registers middle.value) (after.registers last.value) c.args.self.now.work c.args.work (between.pending middle.value)
    c.commit.result c.requires.taken ready.2 c.in-Ok.ensures.made born c.commit.ensures.registers c.prepare.ensures.asked c.commit.ensures.asked)
