use Rattle.std.proofs.Common.{Ok, false, ◌≡◌, sym, ◌∙◌, ap}
use Rattle.tp_store.specs.Ends.{ended_in, is_over}
use Rattle.tp_store.specs.State.{State}
use Rattle.tp_store.proofs.Striking.{cancel_is, cancelled_as}
use Rattle.tp_store.proofs.store.Store.cancel.Goals as goal

pub returns-clause-answer : goal.returns-clause-answer
returns-clause-answer c =
    let s : State = record { limits = c.self.inside.limits; next = c.self.inside.next; units = c.self.inside.units; elements = c.self.inside.shelf; tally = c.self.inside.tally; ended = c.self.inside.ended.items } in
    let live : is_over c.args.root c.self.inside.shelf ≡ false = sym c.is_over.ensures ∙ c.if-is_over.false in
    let is = cancel_is c.args.root s c.in-Some.element (sym c.get.ensures ∙ c.in-Some.is) c.in-None.is live in
    let noted = c.note_end.ensures ∙ ap (ended_in c.args.root c.kill_open-killed.new.shelf) c.reserve.ensures.items in
    rw (← c.self.view_is) (
      ap (λ n. Ok (record { killed = n })) c.kill_open-killed.ensures.count ∙ sym (ap (λ p. p.0) is),
      cancelled_as c.args.root s c.kill_open-killed.new.shelf c.forget.new.shelf c.kill_open-killed.new.tally c.note_end.new.ended.items c.forget.new.ended.items c.kill_open-killed.ensures.kills noted c.forget.ensures.forgets ∙ sym (ap (λ p. p.1) is),
    )
