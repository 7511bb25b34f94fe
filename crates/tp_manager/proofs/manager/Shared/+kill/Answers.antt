use Rattle.std.proofs.Common.{◌≡◌, ◌+◌, ◌-◌, ◌<◌, ◌≤◌, ℕ, List, [], ◌++◌, sym, ◌∙◌, arith, refl, rules, subst, length-append}
use Rattle.tp_model.specs.declared.trace.StepKind.TheVariants as kinds
use Rattle.tp_model.specs.declared.types.Limits.{Limits}
use Rattle.tp_model.specs.declared.event.Event.{Event}
use Rattle.tp_model.specs.Steps.{AreLimits, IsLegal}
use Rattle.tp_model.specs.Words.{claim_word}
use Rattle.tp_model.proofs.Bridges.{found_later}
use Rattle.tp_rule.specs.declared.packing.Claim.{Claim}
use Rattle.tp_rule.specs.Words.{claim_value}
use Rattle.tp_rule.specs.Tables.{table_limits}
use Rattle.tp_rule.specs.Views.{seen_by, view_of}
use Rattle.tp_manager.specs.Bounds.{slay_from}
use Rattle.tp_manager.specs.Kills.{Freed, takers}
use Rattle.tp_manager.specs.Looks.{IsEnough}
use Rattle.tp_manager.proofs.Calls.CallSteps.{acted_by, looked, walked_begins}
use Rattle.tp_manager.proofs.Kills.OneKill.{allows_alive, freed_looked, freed_look, freed_few, freed_then, freed_slain, slain_by, slain_few}
use Rattle.tp_manager.proofs.Kills.Tries.{enough_next, enough_some, fewer_last, fewer_next}
use Rattle.tp_manager.proofs.manager.Shared.+kill.Goals as goal
use Rattle.tp_manager.proofs.manager.Shared.+kill.Goals.{kill_from-In-Err-kill_exchange}

-- there is an attempt left where a unit is in the way
some : (l : Limits) → AreLimits l → (h : List Event) (i left : ℕ) (x : Claim) → IsLegal l h → claim_value x ≡ claim_word h i → IsEnough l left (claim_value x) → takers (claim_value x) ≤ left
some l fair h i left x legal found e = enough_some l fair h i left (claim_value x) legal (sym found) e

pub kill_from-kill_exchange-requires-clause-row : goal.kill_from-kill_exchange-requires-clause-row
kill_from-kill_exchange-requires-clause-row t c = let f = c.in-Ok.ensures.told.3 in let b = c.requires.row.1 in (c.requires.row.0, (b.0, found_later _ _ (walked_begins _ _ _ _ _ f.gained.walk) c.args.row b.0 b.1))

pub kill_from-overflow_sub-left : goal.kill_from-overflow_sub-left
kill_from-overflow_sub-left t c = let l : Limits = table_limits c.args.self.now.words in
    subst (λ n. n ≤ c.args.left) (sym c.takers_in.ensures) (some l c.args.self.now.words.places.valid (seen_by c.args.seat.now) c.args.row c.args.left c.args.claim.tells c.requires.steady.steady.shows.legal c.requires.found.0 c.requires.enough)

pub kill_from-returns-in-Err-clause-told : goal.kill_from-returns-in-Err-clause-told
kill_from-returns-in-Err-clause-told t c = let l : Limits = table_limits c.args.self.now.words in let w = claim_value c.args.claim.tells in let told = c.in-Err.ensures.told in
    let less = some l c.args.self.now.words.places.valid (seen_by c.args.seat.now) c.args.row c.args.left c.args.claim.tells c.requires.steady.steady.shows.legal c.requires.found.0 c.requires.enough in
    ([], omega arith, freed_few l (takers w) (slay_from c.args.left w) _ _ _ _ (omega arith) (freed_looked l (takers w) c.args.row _ _ told.0), told.1)

pub kill_from-returns-in-Ok-kill_exchange-clause-told : goal.kill_from-returns-in-Ok-kill_exchange-clause-told
kill_from-returns-in-Ok-kill_exchange-clause-told t c = let l : Limits = table_limits c.args.self.now.words in let w = claim_value c.args.claim.tells in let told = c.in-Ok.ensures.told in let low = told.2 in
    let less = some l c.args.self.now.words.places.valid (seen_by c.args.seat.now) c.args.row c.args.left c.args.claim.tells c.requires.steady.steady.shows.legal c.requires.found.0 c.requires.enough in
    let few = fewer_last l (seen_by c.args.seat.now) c.args.row c.args.left w c.requires.steady.steady.shows.legal (sym c.requires.found.0) (allows_alive l (seen_by c.loosen.new.seat) w told.4) less in
    (told.0, told.1, omega arith, slain_few l (takers w + 1) (slay_from c.args.left w) _ _ _ _ few (slain_by l (takers w) c.args.row told.0 _ _ _ told.3 c.in-Ok-kill_exchange.ensures.hit))

so_far : (t : ℕ) (c : kill_from-In-Err-kill_exchange t) → Freed (table_limits c.args.self.now.words) (takers (claim_value c.args.claim.tells) + 1) c.args.row c.in-Ok.ensures.told.0 (view_of c.args.seat.now) (view_of c.kill_exchange.new.seat)
so_far t c = let l : Limits = table_limits c.args.self.now.words in let f = c.in-Ok.ensures.told.3 in
    freed_look l (takers (claim_value c.args.claim.tells)) 1 c.args.row _ _ _ _ f (looked l 1 _ _ (acted_by l kinds.KillExchange (view_of c.loosen.new.seat) (view_of c.kill_exchange.new.seat) f.gained.walk.steady refl c.in-Err-kill_exchange.ensures.miss.0))

-- this many steps are left for the next claim
fewer : (t : ℕ) (c : kill_from-In-Err-kill_exchange t) → (takers (claim_value c.args.claim.tells) + 1) + slay_from (c.args.left - takers (claim_value c.args.claim.tells)) (claim_value c.in-Err-kill_exchange.now.tells) ≤ slay_from c.args.left (claim_value c.args.claim.tells)
fewer t c = let l : Limits = table_limits c.args.self.now.words in let w = claim_value c.args.claim.tells in let f = so_far t c in let miss = c.in-Err-kill_exchange.ensures.miss in
    let less = some l c.args.self.now.words.places.valid (seen_by c.args.seat.now) c.args.row c.args.left c.args.claim.tells c.requires.steady.steady.shows.legal c.requires.found.0 c.requires.enough in
    fewer_next l (seen_by c.args.seat.now) (seen_by c.kill_exchange.new.seat) c.requires.steady.steady.shows.legal f.gained.walk.steady.shows.legal (walked_begins l _ _ _ _ f.gained.walk) c.args.row c.args.left w (claim_value c.in-Err-kill_exchange.now.tells) (sym c.requires.found.0) miss.2 (allows_alive l (seen_by c.loosen.new.seat) w c.in-Ok.ensures.told.4) miss.1 less

pub kill_from-kill_again-requires : goal.kill_from-kill_again-requires
kill_from-kill_again-requires t c = let l : Limits = table_limits c.args.self.now.words in let at = goal.at.kill_from-kill_again-requires t c in let w = claim_value c.args.claim.tells in let f = so_far t at.In-Err-kill_exchange in let b = c.requires.row.1 in
    let few = fewer t at.In-Err-kill_exchange in let miss = c.in-Err-kill_exchange.ensures.miss in let begins = walked_begins l _ _ _ _ f.gained.walk in (
      (let lower : slay_from (c.args.left - c.takers_in.result) (claim_value c.in-Err-kill_exchange.now.tells) < slay_from c.args.left w = subst (λ n. slay_from (c.args.left - n) (claim_value c.in-Err-kill_exchange.now.tells) < slay_from c.args.left w) (sym c.takers_in.ensures) (omega arith) in omega arith),
      (
        record { own = search rules; steady = f.gained.walk.steady },
        (
          (c.requires.row.0, (b.0, found_later _ _ begins c.args.row b.0 b.1)),
          (
            (miss.2, miss.3),
            (
              f.gained.open_unit c.requires.free,
              subst (λ n. IsEnough l (c.args.left - n) (claim_value c.in-Err-kill_exchange.now.tells)) (sym c.takers_in.ensures) (subst (IsEnough l (c.args.left - takers w)) (sym miss.2)
                  (enough_next l c.args.self.now.words.places.valid (seen_by c.args.seat.now) (seen_by c.kill_exchange.new.seat) c.requires.steady.steady.shows.legal f.gained.walk.steady.shows.legal begins c.args.row c.args.left w (sym c.requires.found.0) (allows_alive l (seen_by c.loosen.new.seat) w c.in-Ok.ensures.told.4) (λ same. miss.1 (miss.2 ∙ same)) c.requires.enough)),
            ),
          ),
        ),
      ),
    )

pub kill_from-returns-in-Ok-kill_again-clause-told : goal.kill_from-returns-in-Ok-kill_again-clause-told
kill_from-returns-in-Ok-kill_again-clause-told t c = let l : Limits = table_limits c.args.self.now.words in let at = goal.at.kill_from-returns-in-Ok-kill_again-clause-told t c in let w = claim_value c.args.claim.tells in let z = claim_value c.in-Err-kill_exchange.now.tells in
    let f = so_far t at.In-Err-kill_exchange in let few = fewer t at.In-Err-kill_exchange in let is = c.takers_in.ensures in let told = c.in-Ok.ensures.told in let more = c.in-Ok-kill_again.ensures.told in let a = told.1 in let b = more.1 in let low = told.2 in let high = more.2 in
    let less = some l c.args.self.now.words.places.valid (seen_by c.args.seat.now) c.args.row c.args.left c.args.claim.tells c.requires.steady.steady.shows.legal c.requires.found.0 c.requires.enough in
    let enough = subst (λ n. (takers w + 1) + slay_from (c.args.left - n) z ≤ slay_from c.args.left w) (sym is) few in (
      told.0 ++ more.0,
      omega (arith, length-append told.0 more.0),
      omega arith,
      slain_few l ((takers w + 1) + slay_from (c.args.left - c.takers_in.result) z) (slay_from c.args.left w) _ _ _ _ enough (freed_slain l (takers w + 1) (slay_from (c.args.left - c.takers_in.result) z) c.args.row told.0 more.0 _ _ _ f more.3),
    )

pub kill_from-returns-in-Err-kill_again-clause-told : goal.kill_from-returns-in-Err-kill_again-clause-told
kill_from-returns-in-Err-kill_again-clause-told t c = let l : Limits = table_limits c.args.self.now.words in let at = goal.at.kill_from-returns-in-Err-kill_again-clause-told t c in let w = claim_value c.args.claim.tells in let z = claim_value c.in-Err-kill_exchange.now.tells in
    let f = so_far t at.In-Err-kill_exchange in let few = fewer t at.In-Err-kill_exchange in let is = c.takers_in.ensures in let told = c.in-Ok.ensures.told in let more = c.in-Err-kill_again.ensures.told in let a = told.1 in let b = more.1 in let low = told.2 in
    let less = some l c.args.self.now.words.places.valid (seen_by c.args.seat.now) c.args.row c.args.left c.args.claim.tells c.requires.steady.steady.shows.legal c.requires.found.0 c.requires.enough in
    let enough = subst (λ n. (takers w + 1) + slay_from (c.args.left - n) z ≤ slay_from c.args.left w) (sym is) few in (
      told.0 ++ more.0,
      omega (arith, length-append told.0 more.0),
      freed_few l ((takers w + 1) + slay_from (c.args.left - c.takers_in.result) z) (slay_from c.args.left w) _ _ _ _ enough (freed_then l (takers w + 1) (slay_from (c.args.left - c.takers_in.result) z) c.args.row told.0 more.0 _ _ _ f more.2),
      more.3,
    )
