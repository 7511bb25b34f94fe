-- How many atomic steps the calls make at most. Each is what the call can need, and no more.
use Rattle.std.specs.Prelude.{◌≡◌, ℕ, zero, suc, ◌+◌, ◌-◌, ◌*◌, ◌≤◌, ◌==◌, if◌then◌else◌, Bool, List}
use Rattle.std.specs.Prelude.{slice_index, sum_by}
use Rattle.tp_model.specs.declared.types.Element.{Element}
use Rattle.tp_model.specs.declared.types.Limits.{Limits}
use Rattle.tp_model.specs.Steps.{AreLimits, part_rows, rows_of, tries, changes}
use Rattle.tp_model.specs.Words.{ClaimWord, FreeWord, TakenWord, KilledWord, AgainWord}
use Rattle.tp_model.specs.declared.types.TheConstants.{BLOCK_ROWS, BODY_WORDS, MAX_ROUNDS, REPLY_STAGE}

-- the words of an element's body
abbrev pub body_steps : ℕ
body_steps = BODY_WORDS

-- a spare block: each exchange of the counter of drawn blocks that fails finds it higher
abbrev pub draw_steps : Limits → ℕ
draw_steps l = l.spare

-- a client's element in the next row: its body, and its head
abbrev pub next_steps : ℕ
next_steps = body_steps + 1

abbrev pub submit_steps : Limits → ℕ
submit_steps l = draw_steps l + next_steps

-- the drafts of k outputs, each a body and a head
abbrev pub draft_steps : ℕ → ℕ
draft_steps k = (body_steps + 1) * k

-- those, and the unit's word
abbrev pub close_steps : ℕ → ℕ
close_steps k = draft_steps k + 1

-- room for k rows: a spare block, and the heads of the rows that are left behind, which are fewer
abbrev pub room_steps : Limits → ℕ → ℕ
room_steps l k = draw_steps l + (k - 1)

abbrev pub commit_steps : Limits → ℕ → ℕ
commit_steps l k = room_steps l k + close_steps k

-- the unit's word
abbrev pub abort_steps : ℕ
abort_steps = 1

-- a look that is made or not
abbrev pub looks_if : Bool → ℕ
looks_if made = if made then 1 else 0

-- whether an element is born in a row: its head, and the word of the unit that the head names
abbrev pub birth_steps : ℕ
birth_steps = 2

-- while an element was found taken by units that were aborted since, their words and its claim: for this many
-- attempts
abbrev pub retry_steps : ℕ → ℕ
retry_steps attempts = 2 * attempts

-- the status of an element: its claim, and for each attempt in all rounds the word of the unit and the claim
-- again
abbrev pub status_steps : Limits → ℕ
status_steps l = 1 + retry_steps (tries l.attempts)

abbrev pub read_steps : Limits → ℕ
read_steps l = birth_steps + body_steps + status_steps l

-- how often an element can still be found untaken in its round, from this claim on: once in each round
abbrev pub untaken_left : ClaimWord → ℕ
untaken_left FreeWord = MAX_ROUNDS + 1
untaken_left (TakenWord n u r) = MAX_ROUNDS - r
untaken_left (KilledWord n u r) = 0
untaken_left (AgainWord r) = MAX_ROUNDS + 1 - r

-- the kill of an element whose claim was found, with this many attempts left: for each the unit's word and
-- the claim, and the claim where it is found untaken
abbrev pub slay_from : ℕ → ClaimWord → ℕ
slay_from left word = retry_steps left + untaken_left word

-- the kill of an element that is born: its claim, and those
abbrev pub slay_steps : Limits → ℕ
slay_steps l = 1 + slay_from (tries l.attempts) FreeWord

abbrev pub kill_steps : Limits → ℕ
kill_steps l = birth_steps + slay_steps l

-- another round of an element that is born: its claim, the word of its unit, and the exchange
abbrev pub renew_steps : ℕ
renew_steps = 3

abbrev pub requeue_steps : ℕ
requeue_steps = birth_steps + renew_steps

-- how many rounds an element had: whether it is born, and its claim
abbrev pub rounds_steps : ℕ
rounds_steps = birth_steps + 1

-- the release of an element that is born: its claim, and the word of the unit that took it
abbrev pub free_steps : ℕ
free_steps = 2

abbrev pub release_steps : ℕ
release_steps = birth_steps + free_steps

-- the collection of a reply that is born: its claim, its body, and the exchange
abbrev pub take_steps : ℕ
take_steps = 1 + body_steps + 1

abbrev pub collect_steps : ℕ
collect_steps = birth_steps + take_steps

-- the load of the counter of drawn blocks, where there are this many spare blocks
abbrev pub drawn_steps : ℕ → ℕ
drawn_steps zero = 0
drawn_steps (suc spare) = 1

-- what a cancel makes at an element: its head, the kill, and the word of the unit that consumed it
abbrev pub end_steps : Limits → ℕ
end_steps l = 1 + slay_steps l + 1

-- and at this many
abbrev pub ends_steps : Limits → ℕ → ℕ
ends_steps l n = n * end_steps l

-- at this one: a reply shows by its head that it is one
abbrev pub end_steps_at : Limits → Element → ℕ
end_steps_at l x = if x.stage == REPLY_STAGE then 1 else end_steps l

-- and at each of these
abbrev pub each_end_steps : Limits → List Element → ℕ
each_end_steps l xs = sum_by (end_steps_at l) xs

-- whether the root of a family is a client's element: its head
abbrev pub root_steps : ℕ
root_steps = 1

-- in a family of this many elements: that, and those
abbrev pub family_cancel_steps : Limits → ℕ → ℕ
family_cancel_steps l n = root_steps + ends_steps l n

-- in a family of these elements
abbrev pub lean_cancel_steps : Limits → List Element → ℕ
lean_cancel_steps l xs = root_steps + each_end_steps l xs

abbrev pub cancel_steps : Limits → ℕ
cancel_steps l = family_cancel_steps l (rows_of l)

-- a look at an element and its status: whether it is born, and those
abbrev pub look_steps : Limits → ℕ
look_steps l = birth_steps + status_steps l

-- what a listing makes at a row: whether an element is born there, its claim, the word of the unit that took
-- it, and the claim again
abbrev pub error_steps : ℕ
error_steps = birth_steps + 3

-- in a part it makes besides a look before the mark, where there are rows, and is counted with each
abbrev pub listed_steps : ℕ
listed_steps = error_steps + 1

-- before it walks it looks at the words of the part's units, once and so often for each row
abbrev pub unit_looks : ℕ
unit_looks = 1

-- all of this, which is counted with a spare row too
abbrev pub seek_steps : ℕ
seek_steps = listed_steps + unit_looks

-- in a part: the one look, the mark, those at every row, and the exchange of the mark
abbrev pub find_steps : Limits → ℕ
find_steps l = 2 + l.rows * seek_steps + 1

-- a scan of the spare blocks that begins at their mark, with t steps at each row: that load, the mark, those
-- at every row but the n below the mark, and the exchange of the mark
abbrev pub spare_left : Limits → ℕ → ℕ → ℕ
spare_left l t n = 3 * drawn_steps l.spare + (BLOCK_ROWS * l.spare - n) * t

-- in every part, and in the spare blocks
abbrev pub listing_steps : Limits → ℕ
listing_steps l = l.parts * find_steps l + spare_left l seek_steps 0

-- a walk that looks for replies at this many elements: the claim of each, and the word of the unit that took
-- it or its head
abbrev pub stride_steps : ℕ
stride_steps = 2

abbrev pub walk_steps : ℕ → ℕ
walk_steps n = n * stride_steps

-- in a family of this many elements: that, and those
abbrev pub family_reply_steps : ℕ → ℕ
family_reply_steps n = root_steps + walk_steps n

abbrev pub reply_steps : Limits → ℕ
reply_steps l = family_reply_steps (rows_of l)

-- the next element of a family of this many: that, and the look at it
abbrev pub family_look_steps : Limits → ℕ → ℕ
family_look_steps l n = family_reply_steps n + read_steps l

abbrev pub family_steps : Limits → ℕ
family_steps l = family_look_steps l (rows_of l)

-- the collection of the next reply in a family of this many: a walk and a collection for each one that
-- another was quicker to take, and once more
abbrev pub one_take_steps : ℕ → ℕ
one_take_steps n = walk_steps n + collect_steps

abbrev pub takes_steps : ℕ → ℕ
takes_steps n = (n + 1) * one_take_steps n

abbrev pub family_collect_steps : ℕ → ℕ
family_collect_steps n = root_steps + takes_steps n

-- where it walks this many times
abbrev pub lean_collect_steps : ℕ → ℕ → ℕ
lean_collect_steps n walks = root_steps + walks * one_take_steps n

abbrev pub collect_next_steps : Limits → ℕ
collect_next_steps l = family_collect_steps (rows_of l)

abbrev pub next_error_steps : Limits → ℕ
next_error_steps l = listing_steps l

-- what a claim makes at a row: whether an element is born there, its claim, the word of its unit, the body,
-- and the exchange
abbrev pub try_steps : ℕ
try_steps = birth_steps + 2 + body_steps + 1

-- what a claim makes in a part: the same look, its mark, those at every row, and the exchange of the mark
abbrev pub part_steps : Limits → ℕ
part_steps l = 2 + l.rows * try_steps + 1

-- the choice of a unit, and those in every part and in the spare blocks
abbrev pub claim_steps : Limits → ℕ
claim_steps l = 1 + (l.parts * part_steps l + spare_left l try_steps 0)

-- a claim of a given element that is born: its claim, the word of the unit that took it, its body, and the
-- exchange
abbrev pub claim_row_steps : ℕ
claim_row_steps = 2 + body_steps + 1

-- the choice of a unit, whether the element is born, and those
abbrev pub claim_id_steps : ℕ
claim_id_steps = 1 + birth_steps + claim_row_steps

-- a pass that remembers marks looks at no row below them. In the first n parts this many rows are
abbrev pub low_sum : List ℕ → ℕ → ℕ
low_sum lows zero = 0
low_sum lows (suc n) = low_sum lows n + slice_index lows n

-- a scan of the first n parts, with t steps at each row that isn't below these marks, and k for each part
abbrev pub scan_steps : Limits → ℕ → ℕ → List ℕ → ℕ → ℕ
scan_steps l t k lows zero = 0
scan_steps l t k lows (suc n) = scan_steps l t k lows n + (k + (l.rows - slice_index lows n) * t)

-- and of all rows that are not below these marks, or those of the spare rows
abbrev pub marked_steps : Limits → ℕ → List ℕ → ℕ
marked_steps l t lows = scan_steps l t 3 lows l.parts + spare_left l t (slice_index lows l.parts)

-- this many are not below the marks of all parts and of the spare rows
abbrev pub rows_left : Limits → List ℕ → ℕ
rows_left l lows = rows_of l - low_sum lows (suc l.parts)

-- so a claim, by the marks of its stage, and a listing, by those of replies or of all other stages
abbrev pub claim_steps_left : Limits → List ℕ → ℕ
claim_steps_left l lows = 1 + rows_left l lows * try_steps + 3 * l.parts + 3 * drawn_steps l.spare

abbrev pub listing_steps_left : Limits → List ℕ → ℕ
listing_steps_left l lows = rows_left l lows * seek_steps + 3 * l.parts + 3 * drawn_steps l.spare

-- a claim in turn goes through the parts, and to the spare blocks, twice, and comes to each row once
abbrev pub circle_steps : Limits → ℕ → ℕ
circle_steps l rows = 3 * l.parts + drawn_steps l.spare + rows * try_steps

abbrev pub claim_next_steps : Limits → ℕ
claim_next_steps l = 1 + (6 * l.parts + 2 * drawn_steps l.spare + rows_of l * try_steps)

-- and by the marks of its stage: it goes at most twice through the rows of the parts that are not below them
abbrev pub claim_next_steps_left : Limits → List ℕ → ℕ
claim_next_steps_left l lows = 1 + (2 * ((part_rows l - low_sum lows l.parts) * try_steps) + 6 * l.parts
    + 2 * drawn_steps l.spare + BLOCK_ROWS * l.spare * try_steps)

-- a meeting: the first joins, looks and parts, and the second is there at the look
abbrev pub meet_steps : ℕ
meet_steps = 3

abbrev pub met_steps : ℕ
met_steps = 1

-- a receipt: a load that cuts it off. Who follows it joins it, and looks
abbrev pub receipt_steps : ℕ
receipt_steps = 1

abbrev pub follow_steps : ℕ
follow_steps = 2

-- n passes look together: the first meets each other one, and then all others at once
abbrev pub lead_steps : ℕ → ℕ
lead_steps n = meet_steps * n

-- each other one is met, joins those before it, looks with all, and parts from them
abbrev pub led_steps : ℕ
led_steps = 4

-- all passes look together, n that are given out and those that aren't
abbrev pub together_steps : Limits → ℕ → ℕ
together_steps l n = lead_steps n + led_steps * (n - 1) + met_steps * (l.parts - n)

-- all passes gather: the first meets the keeper's seat, and then all look together
abbrev pub gather_steps : Limits → ℕ → ℕ
gather_steps l n = meet_steps + met_steps * (l.parts - n) + together_steps l n

-- of these the first of n passes makes this many, and each one that isn't given out this many
abbrev pub gather_first : ℕ → ℕ
gather_first n = meet_steps + lead_steps n

abbrev pub gather_kept : ℕ
gather_kept = met_steps + met_steps

-- an account by n passes: they gather, the first looks at every row, and all look together again
abbrev pub account_steps : Limits → ℕ → ℕ
account_steps l n = gather_steps l n + rows_of l * look_steps l + together_steps l n

-- of these the first makes this many, and each one that isn't given out this many
abbrev pub first_steps : Limits → ℕ → ℕ
first_steps l n = gather_first n + rows_of l * look_steps l + lead_steps n

abbrev pub kept_steps : ℕ
kept_steps = gather_kept + met_steps

-- the bounds as round numbers over the limits
pub record RoundBounds (l : Limits) : Type 0 where
  pub submit : submit_steps l ≤ 6 + l.spare
  pub claim : claim_steps l ≤ rows_of l * 9 + 3 * l.parts + 1 + 3 * drawn_steps l.spare
  pub claim_next : claim_next_steps l ≤ rows_of l * 9 + 6 * l.parts + 1 + 2 * drawn_steps l.spare
  pub claim_id : claim_id_steps ≤ 10
  pub claim_left : (lows : List ℕ)
      → claim_steps_left l lows ≤ rows_left l lows * 9 + 3 * l.parts + 1 + 3 * drawn_steps l.spare
  pub listing_left : (lows : List ℕ)
      → listing_steps_left l lows ≤ rows_left l lows * 7 + 3 * l.parts + 3 * drawn_steps l.spare
  pub commit : (k : ℕ) → commit_steps l k ≤ 6 * k + 3 + l.spare
  pub abort : abort_steps ≤ 2
  pub kill : kill_steps l ≤ 4 * changes l.attempts + 8
  pub requeue : requeue_steps ≤ 8
  pub release : release_steps ≤ 4
  pub collect : collect_steps ≤ 8
  pub cancel : (n : ℕ) → family_cancel_steps l n ≤ n * (8 * l.attempts + 7) + 1
  pub read : read_steps l ≤ 2 * changes l.attempts + 10
  pub reply : (n : ℕ) → family_reply_steps n ≤ 2 * n + 1
  pub family : (n : ℕ) → family_look_steps l n ≤ 2 * n + 2 * changes l.attempts + 11
  pub next_error : next_error_steps l ≤ rows_of l * 7 + 3 * l.parts + 3 * drawn_steps l.spare
  pub meet : meet_steps ≤ 3
  pub follow : receipt_steps + follow_steps ≤ 3
  pub gather : (n : ℕ) → 1 ≤ n → n ≤ l.parts → gather_steps l n + 1 ≡ 5 * n + 2 * l.parts
  pub account : AreLimits l → (n : ℕ) → n ≤ l.parts
      → account_steps l n ≤ rows_of l * (2 * changes l.attempts + 10) + 2 * l.parts
