use Rattle.tp_store.specs.Elements.{owned_of, queue_of, reply_of}
use Rattle.tp_store.proofs.Finding.{found_is}
use Rattle.tp_store.proofs.shelf.Shelf.first.Goals as goal

pub returns-in-Queue-clause-first : goal.returns-in-Queue-clause-first
returns-in-Queue-clause-first c = rw (← c.self.view_is, c.in-Queue.is) (found_is (λ j. queue_of) _ _ _ _ c.self.invariant.sorted c.self.invariant.fits c.self.invariant.queue _ c.first_waiting.ensures.first)

pub returns-in-Replies-clause-first : goal.returns-in-Replies-clause-first
returns-in-Replies-clause-first c = rw (← c.self.view_is, c.in-Replies.is) (found_is (λ j. reply_of) _ _ _ _ c.self.invariant.sorted c.self.invariant.fits c.self.invariant.reply _ c.found.ensures.first)

pub returns-in-Owned-clause-first : goal.returns-in-Owned-clause-first
returns-in-Owned-clause-first c = rw (← c.self.view_is, c.in-Owned.is) (found_is (λ j. owned_of) _ _ _ _ c.self.invariant.sorted c.self.invariant.fits c.self.invariant.owned _ c.found-in-Owned.ensures.first)
