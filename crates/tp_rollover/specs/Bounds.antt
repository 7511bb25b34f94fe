-- How many atomic steps a rollover makes at most, by the bounds of the calls that it makes. l are the limits
-- of the manager whose passes make them.
use Rattle.std.specs.Prelude.{◌≡◌, ℕ, zero, suc, ◌+◌, ◌*◌, ◌≤◌, List, [], ◌∷◌, if◌then◌else◌, is_some, length}
use Rattle.tp_model.specs.declared.types.Limits.{Limits}
use Rattle.tp_model.specs.declared.types.Status.{Status}
use Rattle.tp_model.specs.declared.types.Status.TheVariants.{Waiting, Held, Parked}
use Rattle.tp_model.specs.declared.types.TheConstants.{MAX_ROUNDS}
use Rattle.tp_model.specs.declared.event.Event.{Event}
use Rattle.tp_model.specs.Counts.{counts}
use Rattle.tp_model.specs.History.{rounds, status_of}
use Rattle.tp_model.specs.Steps.{rows_of, tries}
use Rattle.tp_manager.specs.Bounds.{abort_steps, account_steps, claim_id_steps, commit_steps, gather_steps}
use Rattle.tp_manager.specs.Bounds.{kill_steps, read_steps, requeue_steps, rounds_steps, submit_steps}
use Rattle.tp_manager.specs.Shown.{KeeperShown, PassShown}
use Rattle.tp_rollover.specs.declared.moved.Moved.{Moved}
use Rattle.tp_rollover.specs.declared.survivors.Survivor.{Survivor}

-- the steps that these passes have made since they were given out: a trace has an entry for each
abbrev pub steps_made : List PassShown → ℕ
steps_made [] = 0
steps_made (p ∷ ps) = length p.trace + steps_made ps

-- a pass has made at most n steps
abbrev pub PassMakes : ℕ → PassShown → PassShown → Type 0
PassMakes n old new = length new.trace ≤ length old.trace + n

-- these passes have, all together
abbrev pub PassesMake : ℕ → List PassShown → List PassShown → Type 0
PassesMake n olds news = steps_made news ≤ steps_made olds + n

-- the steps that all passes of a keeper have made, those that aren't given out too
abbrev pub made_by_all : KeeperShown → List PassShown → ℕ
made_by_all keeper passes = steps_made passes + keeper.steps

-- at most n more, all together
abbrev pub AllMake : ℕ → KeeperShown → List PassShown → KeeperShown → List PassShown → Type 0
AllMake n keeper olds keeper' news = made_by_all keeper' news ≤ made_by_all keeper olds + n

-- how many elements are alive or held after this history
abbrev pub alive_after : ℕ → List Event → ℕ
alive_after limit h = (counts limit h).waiting + (counts limit h).parked + (counts limit h).held

-- how many attempts an element with this status has had in its round
abbrev pub attempts_had : Status → ℕ
attempts_had (Waiting n) = n
attempts_had (Held u n) = n
attempts_had (Parked n) = n
attempts_had other = 0

-- in all its rounds, where this many are allowed in each
abbrev pub tries_had : ℕ → List Event → ℕ → ℕ
tries_had limit h i = attempts_had (status_of limit h i) + rounds h i * limit

-- how many all of these have had after this history, by their ids in the new manager
abbrev pub all_tries : ℕ → List Event → List Moved → ℕ
all_tries limit g [] = 0
all_tries limit g (m ∷ ms) = tries_had limit g m.new + all_tries limit g ms

-- and how many further rounds
abbrev pub all_rounds : List Event → List Moved → ℕ
all_rounds g [] = 0
all_rounds g (m ∷ ms) = rounds g m.new + all_rounds g ms

-- the search for n that are alive reads each row, and none where nothing is alive
abbrev pub search_steps : Limits → ℕ → ℕ
search_steps l zero = 0
search_steps l (suc n) = rows_of l * read_steps l

-- an element that is alive is read, its root, and how many rounds it had
abbrev pub describe_steps : Limits → ℕ
describe_steps l = read_steps l + read_steps l + rounds_steps

-- a call of so many steps, after which q passes gather
abbrev pub gathered : Limits → ℕ → ℕ → ℕ
gathered l q n = n + gather_steps l q

-- a carrier is claimed, and committed with n drafts
abbrev pub commit_on_steps : Limits → ℕ → ℕ → ℕ
commit_on_steps l q n = gathered l q claim_id_steps + gathered l q (commit_steps l n)

-- n elements of a family are born together: a copy of the root is submitted, claimed, and committed with them
-- and one that carries the family on
abbrev pub bear_steps : Limits → ℕ → ℕ → ℕ
bear_steps l q n = gathered l q (submit_steps l) + commit_on_steps l q (n + 1)

-- an attempt that is given up
abbrev pub attempt_steps : Limits → ℕ → ℕ
attempt_steps l q = gathered l q claim_id_steps + gathered l q abort_steps

-- so many attempts and further rounds
abbrev pub replay_steps : Limits → ℕ → ℕ → ℕ → ℕ
replay_steps l q attempts further = attempts * attempt_steps l q + further * gathered l q requeue_steps

-- what these have had after this history, by their ids in the new manager
abbrev pub replays_of : Limits → ℕ → List Event → List Moved → ℕ
replays_of l q g moved = replay_steps l q (all_tries l.attempts g moved) (all_rounds g moved)

-- an element is claimed by the pass that is to hold it
abbrev pub hold_steps : Limits → ℕ → ℕ
hold_steps l q = gathered l q claim_id_steps

-- if one is
abbrev pub hold_of : Limits → ℕ → Survivor → ℕ
hold_of l q s = if is_some s.holder then hold_steps l q else 0

-- it can have had so many attempts in its round, with the one in hand, and so many further rounds
abbrev pub IsWithinLimits : Limits → Survivor → Type 0
IsWithinLimits l s = (attempts_had s.status + (if is_some s.holder then 1 else 0) ≤ l.attempts)
    × (s.rounds ≤ MAX_ROUNDS)

-- and all that are held
abbrev pub holds_for : Limits → ℕ → List Survivor → ℕ
holds_for l q [] = 0
holds_for l q (s ∷ ss) = hold_of l q s + holds_for l q ss

-- what was described of one, and of all of them
abbrev pub replay_of : Limits → ℕ → Survivor → ℕ
replay_of l q s = replay_steps l q (attempts_had s.status + s.rounds * l.attempts) s.rounds

abbrev pub replays_for : Limits → ℕ → List Survivor → ℕ
replays_for l q [] = 0
replays_for l q (s ∷ ss) = replay_of l q s + replays_for l q ss

-- all that an element can have had
abbrev pub most_replay_steps : Limits → ℕ → ℕ
most_replay_steps l q = replay_steps l q (tries l.attempts) MAX_ROUNDS

-- a new element is compared with what was described: it is read, how many rounds it had, and its root
abbrev pub compare_steps : Limits → ℕ
compare_steps l = read_steps l + rounds_steps + read_steps l

-- what the q new passes make for each, with all that it can have had
abbrev pub renewal_steps : Limits → ℕ → ℕ
renewal_steps l q = bear_steps l q 1 + most_replay_steps l q

-- the p old passes find n elements alive: an account, the search, each is described, and they gather
abbrev pub survey_steps : Limits → ℕ → ℕ → ℕ
survey_steps l p n = account_steps l p + (search_steps l n + n * describe_steps l) + gather_steps l p

-- the first of them gives up what it has in hand, if it has something
abbrev pub give_up_steps : Limits → ℕ → List PassShown → ℕ
give_up_steps l p [] = 0
give_up_steps l p (q ∷ qs) = if is_some q.open_unit then gathered l p abort_steps else 0

-- and with the kills of them, after which they gather once more
abbrev pub old_steps : Limits → ℕ → ℕ → ℕ
old_steps l p n = survey_steps l p n + (n * kill_steps l + gather_steps l p)

-- the q new passes gather before n elements are born; once these are there: an account, each is compared,
-- and they gather
abbrev pub check_steps : Limits → ℕ → ℕ → ℕ
check_steps l q n = gather_steps l q + (account_steps l q + n * compare_steps l + gather_steps l q)

-- and at most for n elements in all: these are born and replayed, and those
abbrev pub most_new_steps : Limits → ℕ → ℕ → ℕ
most_new_steps l q n = n * renewal_steps l q + check_steps l q n

-- with the attempts and rounds that they have had after this history
abbrev pub new_steps : Limits → ℕ → List Event → List Moved → ℕ
new_steps l q g moved = (length moved * bear_steps l q 1 + replays_of l q g moved)
    + check_steps l q (length moved)

-- and by what was described of these, up to where those are claimed that are held
abbrev pub unheld_steps : Limits → ℕ → List Survivor → ℕ
unheld_steps l q survivors = (length survivors * bear_steps l q 1 + replays_for l q survivors)
    + check_steps l q (length survivors)

-- a manager that is made for n elements gives its passes out before, by a step each
abbrev pub most_successor_steps : Limits → ℕ → ℕ
most_successor_steps l n = l.parts + most_new_steps l l.parts n

abbrev pub successor_steps : Limits → List Event → List Moved → ℕ
successor_steps l g moved = l.parts + new_steps l l.parts g moved

-- in round numbers, with A attempts in a round and S spare blocks, for each element: what the old passes
-- make, and what q new ones do, which gather after each call, or each run of requests by one pass
pub record PerElement (l : Limits) (q : ℕ) : Type 0 where
  pub old : describe_steps l + kill_steps l ≡ 24 * l.attempts + 24
  pub new : bear_steps l q 1 + compare_steps l ≡ 16 * l.attempts + 2 * l.spare + 44 + 3 * gather_steps l q
  pub replay : (attempts further : ℕ) → replay_steps l q attempts further
      ≡ (11 + 2 * gather_steps l q) * attempts + (5 + gather_steps l q) * further
  pub most : renewal_steps l q + compare_steps l
      ≡ 60 * l.attempts + 2 * l.spare + 59 + (8 * l.attempts + 6) * gather_steps l q
