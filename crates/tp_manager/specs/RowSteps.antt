-- What a claim makes at each row, by what is born there. In each definition a is what was seen before the
-- claim, and h what is seen after it.
use Rattle.std.specs.Prelude.{ℕ, zero, suc, ◌+◌, ◌-◌, ◌*◌, ◌==◌, if◌then◌else◌, nat_lt, Bool, false, List}
use Rattle.std.specs.Prelude.{Option, Some, None, slice_index, count_by}
use Rattle.tp_model.specs.declared.types.Claimed.{Claimed}
use Rattle.tp_model.specs.declared.types.Claimed.TheVariants.{NoUnit, Idle, Work}
use Rattle.tp_model.specs.declared.types.Element.{Element}
use Rattle.tp_model.specs.declared.types.Limits.{Limits}
use Rattle.tp_model.specs.declared.types.TheConstants.{BLOCK_ROWS}
use Rattle.tp_model.specs.declared.event.Event.{Event}
use Rattle.tp_model.specs.declared.event.Event.TheVariants.{Claim, Kill, Requeue}
use Rattle.tp_model.specs.History.{element_of}
use Rattle.tp_model.specs.Steps.{block_first, part_rows}
use Rattle.tp_manager.specs.Bounds.{birth_steps, body_steps, drawn_steps}

-- whether an event changes the claim of element i: a unit takes it, it is killed, or it is given another
-- round
abbrev pub changes_claim : ℕ → Event → Bool
changes_claim i (Claim c u j n) = j == i
changes_claim i (Kill c j) = j == i
changes_claim i (Requeue c j r) = j == i
changes_claim i other = false

-- how often it has changed
abbrev pub claim_changes : List Event → ℕ → ℕ
claim_changes h i = count_by (changes_claim i) h

-- what a claim makes at an element of its stage: whether it is born, its claim, and the word of its unit; and
-- its body and the exchange, unless that claim has stayed the same
abbrev pub own_steps : Bool → ℕ
own_steps same = birth_steps + 2 + (if same then 0 else body_steps + 1)

-- at a row where this is born: at an element of another stage its head; where none is born, that head and the
-- word of a unit that it may name
abbrev pub try_steps_of : ℕ → Bool → Option Element → ℕ
try_steps_of stage same None = birth_steps
try_steps_of stage same (Some x) = if x.stage == stage then own_steps same else 1

-- and at row i
abbrev pub try_steps_at : ℕ → List Event → List Event → ℕ → ℕ
try_steps_at stage a h i = try_steps_of stage (claim_changes a i == claim_changes h i) (element_of h i)

-- f at each of n rows from row i on
abbrev pub sum_rows : (ℕ → ℕ) → ℕ → ℕ → ℕ
sum_rows f i zero = 0
sum_rows f i (suc n) = sum_rows f i n + f (i + n)

-- f before row `end`, and nothing from there on
abbrev pub until : ℕ → (ℕ → ℕ) → ℕ → ℕ
until end f i = if nat_lt i end then f i else 0

-- f at each row of the first n parts that is not below these marks
abbrev pub sum_left : Limits → (ℕ → ℕ) → List ℕ → ℕ → ℕ
sum_left l f lows zero = 0
sum_left l f lows (suc n) = sum_left l f lows n
    + sum_rows f (n * l.rows + slice_index lows n) (l.rows - slice_index lows n)

-- and at each spare row that is not
abbrev pub sum_spare : Limits → (ℕ → ℕ) → List ℕ → ℕ
sum_spare l f lows = sum_rows f (part_rows l + slice_index lows l.parts)
    (BLOCK_ROWS * l.spare - slice_index lows l.parts)

-- how many of the first n parts have rows that are not
abbrev pub parts_left : Limits → List ℕ → ℕ → ℕ
parts_left l lows zero = 0
parts_left l lows (suc n) = parts_left l lows n + (if slice_index lows n == l.rows then 0 else 1)

-- so a look for work before row `end`: at each of those rows, at each part that has one, and at the last part
abbrev pub lean_scan_steps : Limits → ℕ → List ℕ → ℕ → List Event → List Event → ℕ
lean_scan_steps l stage lows end a h = let f = until end (try_steps_at stage a h) in
    sum_left l f lows l.parts + sum_spare l f lows + 3 * (parts_left l lows l.parts + 1)
    + 3 * drawn_steps l.spare

-- and a claim of the stage that came to this, where so many spare blocks were found drawn: it looks at no row
-- behind those, nor behind that of the element that it takes
abbrev pub lean_claim_steps : Limits → ℕ → List ℕ → ℕ → Claimed → List Event → List Event → ℕ
lean_claim_steps l stage lows drawn NoUnit a h = 0
lean_claim_steps l stage lows drawn Idle a h = 1 + lean_scan_steps l stage lows (block_first l drawn) a h
lean_claim_steps l stage lows drawn (Work work) a h =
    1 + lean_scan_steps l stage lows (work.element.id + 1) a h

-- a look for work in turn, where so many spare blocks were found drawn: it comes to each of those rows once,
-- and to all rows of these blocks, but to each part twice
abbrev pub lean_turn_steps : Limits → ℕ → List ℕ → ℕ → List Event → List Event → ℕ
lean_turn_steps l stage lows drawn a h = let f = try_steps_at stage a h in
    sum_left l f lows l.parts + sum_rows f (part_rows l) (BLOCK_ROWS * drawn) + 6 * l.parts
    + 2 * drawn_steps l.spare

-- and a claim in turn
abbrev pub lean_claim_next_steps : Limits → ℕ → List ℕ → ℕ → List Event → List Event → ℕ
lean_claim_next_steps l stage lows drawn a h = 1 + lean_turn_steps l stage lows drawn a h
