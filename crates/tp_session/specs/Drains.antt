-- Drains: the servers take turns in rounds until nothing is left for them.
use Rattle.std.specs.Prelude.{ℕ, zero, suc, ◌&&◌, ◌||◌, not, Bool, true, false, is_none, if◌then◌else◌, List, [], ◌∷◌}
use Rattle.tp_server.specs.declared.order.Order.{Order}
use Rattle.tp_store.specs.State.{State}
use Rattle.tp_answers.specs.declared.told.Told.{Told}
use Rattle.tp_answers.specs.declared.told.Told.TheVariants as told
use Rattle.tp_session.specs.Servers.{Served, nothing_done, turn_by}
use Rattle.tp_session.specs.State.{ServerView}

-- what a round left, and whether a server took an element in it
pub record Round : Type 0 where
  pub took : Bool
  pub servers : List ServerView
  pub store : State

-- a server that wasn't dropped and has nothing in hand takes part
abbrev pub takes_part : ServerView → Bool
takes_part v = not v.is_dropped && is_none v.hand

abbrev pub turn_in_round : Order → ServerView → State → Served
turn_in_round order v s = if takes_part v then turn_by order v s else nothing_done told.Idle v s

-- a turn that isn't idle took an element
abbrev pub has_taken : Told → Bool
has_taken told.Idle = false
has_taken something = true

abbrev pub with_turn : Served → Round → Round
with_turn t rest = record rest { took = has_taken t.told || rest.took; servers = t.server ∷ rest.servers }

-- each server takes one turn, in their order
abbrev pub round : Order → List ServerView → State → Round
round order [] s = record { took = false; servers = []; store = s }
round order (v ∷ vs) s = let t = turn_in_round order v s in with_turn t (round order vs t.store)

-- rounds, one after another, until nothing is taken in one, and this many at most
unfoldable pub rounds : Order → ℕ → List ServerView → State → Round
rounds order zero vs s = record { took = true; servers = vs; store = s }
rounds order (suc n) vs s =
    let r = round order vs s in if r.took then rounds order n r.servers r.store else r
