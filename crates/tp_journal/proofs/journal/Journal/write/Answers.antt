use Rattle.std.proofs.Common.{◌++◌, List, ℕ, length, sym, ap, subst, ◌∙◌}
use Rattle.tp_journal.specs.Text.{HasTorn, IsAtRest, text_of}
use Rattle.tp_journal.proofs.Moments.{then_on, weakened}
use Rattle.tp_journal.proofs.Texts.{rest-own, rest-text, torn-none}
use Rattle.tp_journal.proofs.journal.Journal.write.Goals as goal

pub returns-in_err-make_room-clause-any_moment : goal.returns-in_err-make_room-clause-any_moment
returns-in_err-make_room-clause-any_moment g c =
    let text = text_of (g.D.Device.seen c.args.self.now.device) in
    weakened g.D.Device.moment g.D.Device.left_since c.args.self.now.device c.make_room.new.device (IsAtRest text) (HasTorn text c.args.bytes.now) c.make_room.ensures.any_moment (λ f rest. torn-none text c.args.bytes.now f rest)

pub put-requires-2-clause-rest : goal.put-requires-2-clause-rest
put-requires-2-clause-rest g c =
    rest-own (text_of (g.D.Device.seen c.args.self.now.device)) (g.D.Device.seen c.make_room.new.device) c.in_ok-make_room.ensures.rest

pub put-requires-2-clause-end : goal.put-requires-2-clause-end
put-requires-2-clause-end g c =
    c.requires.settled.end ∙ sym (ap length (rest-text (text_of (g.D.Device.seen c.args.self.now.device)) (g.D.Device.seen c.make_room.new.device) c.in_ok-make_room.ensures.rest))

pub returns-clause-rest : goal.returns-clause-rest
returns-clause-rest g c =
    let text = text_of (g.D.Device.seen c.args.self.now.device) in
    subst (λ (t : List ℕ). IsAtRest (t ++ c.args.bytes.now) (g.D.Device.seen c.put-2.new.device)) (rest-text text (g.D.Device.seen c.make_room.new.device) c.in_ok-make_room.ensures.rest) c.in_ok-put-2.ensures.rest

pub returns-clause-any_moment : goal.returns-clause-any_moment
returns-clause-any_moment g c =
    let text = text_of (g.D.Device.seen c.args.self.now.device) in
    let P = HasTorn text c.args.bytes.now in
    let room = weakened g.D.Device.moment g.D.Device.left_since c.args.self.now.device c.make_room.new.device (IsAtRest text) P c.make_room.ensures.any_moment (λ f rest. torn-none text c.args.bytes.now f rest) in
    let same = rest-text text (g.D.Device.seen c.make_room.new.device) c.in_ok-make_room.ensures.rest in
    then_on g.D.Device.moment g.D.Device.left_since c.args.self.now.device c.make_room.new.device c.put-2.new.device P (HasTorn (text_of (g.D.Device.seen c.make_room.new.device)) c.args.bytes.now) room c.put-2.ensures.any_moment
    (λ f torn. subst (λ (t : List ℕ). HasTorn t c.args.bytes.now f) same torn)

pub returns-in_err-put-2-clause-any_moment : goal.returns-in_err-put-2-clause-any_moment
returns-in_err-put-2-clause-any_moment g c =
    let text = text_of (g.D.Device.seen c.args.self.now.device) in
    let P = HasTorn text c.args.bytes.now in
    let room = weakened g.D.Device.moment g.D.Device.left_since c.args.self.now.device c.make_room.new.device (IsAtRest text) P c.make_room.ensures.any_moment (λ f rest. torn-none text c.args.bytes.now f rest) in
    let same = rest-text text (g.D.Device.seen c.make_room.new.device) c.in_ok-make_room.ensures.rest in
    then_on g.D.Device.moment g.D.Device.left_since c.args.self.now.device c.make_room.new.device c.put-2.new.device P (HasTorn (text_of (g.D.Device.seen c.make_room.new.device)) c.args.bytes.now) room c.put-2.ensures.any_moment
    (λ f torn. subst (λ (t : List ℕ). HasTorn t c.args.bytes.now f) same torn)
