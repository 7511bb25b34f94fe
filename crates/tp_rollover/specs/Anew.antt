-- What was described is made anew in a manager where nobody else acts: which pass makes which element, what
-- it is called there, and what is left, computed. `None`: the manager is full before all is there. p are how
-- many passes act.
use Rattle.std.specs.Prelude.{ℕ, zero, suc, ◌+◌, ◌-◌, ◌/◌, ◌==◌, ◌&&◌, ◌++◌, Bool, false, true, min}
use Rattle.std.specs.Prelude.{Option, Some, None, is_none, Result, Ok, Err, List, [], ◌∷◌, drop, length}
use Rattle.std.specs.Prelude.{if◌then◌else◌, map, max, nat_le, nat_lt, replicate, slice_index_or}
use Rattle.std.specs.Prelude.{slice_set, take}
use Rattle.std.specs.List.{fold}
use Rattle.std.specs.Option.{option_and_then}
use Rattle.tp_model.specs.Drafts.{DraftView}
use Rattle.tp_model.specs.Steps.{rows_of}
use Rattle.tp_model.specs.declared.types.Limits.{Limits}
use Rattle.tp_model.specs.declared.types.TheConstants.{MAX_PASSES}
use Rattle.tp_model.specs.declared.types.Outcome.{Outcome}
use Rattle.tp_model.specs.declared.types.Outcome.TheVariants.{Committed}
use Rattle.tp_model.specs.declared.types.Refusal.{Refusal}
use Rattle.tp_plain.specs.Computed.{abort_of, claim_id_of, commit_of, requeue_of, submit_of}
use Rattle.tp_plain.specs.OneThread.{State, pass_at}
use Rattle.tp_rollover.specs.Bounds.{attempts_had}
use Rattle.tp_rollover.specs.declared.births.Family.{Family}
use Rattle.tp_rollover.specs.declared.births.Group.{Group}
use Rattle.tp_rollover.specs.declared.moved.Moved.{Moved}
use Rattle.tp_rollover.specs.declared.places.Cursor.{Cursor}
use Rattle.tp_rollover.specs.declared.survivors.Survivor.{Survivor}

-- ---- calls

-- what a call has given, and what it left, unless it was refused
abbrev pub given : {A : Type 0} → Result A Refusal × State → Option (A × State)
given (Ok x, s) = Some (x, s)
given (Err why, s) = None

-- the same of a commit: the id of the first output
abbrev pub first_given : Outcome × State → Option (ℕ × State)
first_given (Committed first count, s) = Some (first, s)
first_given (other, s) = None

-- pass c submits a request
abbrev pub submitted : ℕ → ℕ → List ℕ → State → Option (ℕ × State)
submitted c stage body s = given (submit_of s c stage body)

-- where pass c has nothing in hand
abbrev pub if_free : {A : Type 0} → ℕ → State → Option A → Option A
if_free c s made = if is_none (pass_at s c).holding then made else None

-- pass c claims the carrier and commits it with these drafts
abbrev pub born_by : ℕ → ℕ → List DraftView → State → Option (ℕ × State)
born_by c carrier drafts s =
    if_free c s (option_and_then (λ claimed. first_given (commit_of claimed.1 c drafts))
    (given (claim_id_of s c carrier)))

-- pass c claims the element and gives it up
abbrev pub attempted : ℕ → ℕ → State → Option State
attempted c id s = if_free c s (option_and_then (λ claimed. Some (abort_of claimed.1 c).1)
    (given (claim_id_of s c id)))

-- pass c gives the element another round
abbrev pub requeued : ℕ → ℕ → State → Option State
requeued c id s = option_and_then (λ done. Some done.1) (given (requeue_of s c id))

-- ---- which pass is next

-- how many units are left to pass c
abbrev pub units_unclaimed : State → ℕ → ℕ
units_unclaimed s c = s.limits.units - (pass_at s c).claimed

-- the passes, with one more that is to hold an element
abbrev pub with_holder : Option ℕ → List Bool → List Bool
with_holder None kept = kept
with_holder (Some c) kept = if nat_lt c (length kept) then slice_set kept c true else kept

-- which passes are to hold one of these: each of them keeps a unit for it
abbrev pub kept_for : List Survivor → List Bool
kept_for survivors = fold (λ kept s. with_holder s.holder kept) (replicate MAX_PASSES false) survivors

-- how many units pass c has to have left, to use so many and keep the one
abbrev pub least_units : List Bool → ℕ → ℕ → ℕ
least_units kept zero c = 0
least_units kept (suc n) c = if slice_index_or kept c false then suc n + 1 else suc n

-- so many rows and units are left to pass c
abbrev pub has_left : List Bool → State → ℕ → ℕ → ℕ → Bool
has_left kept s rows units c =
    nat_le rows (pass_at s c).left && nat_le (least_units kept units c) (units_unclaimed s c)

-- it has the units, and too few rows, so that it draws a spare block
abbrev pub would_draw : List Bool → State → ℕ → ℕ → ℕ → Bool
would_draw kept s rows units c =
    nat_lt (pass_at s c).left rows && nat_le (least_units kept units c) (units_unclaimed s c)

-- the first of n numbers from this one on of which that holds
abbrev pub first_from : (ℕ → Bool) → ℕ → ℕ → Option ℕ
first_from holds from zero = None
first_from holds from (suc n) = if holds from then Some from else first_from holds (from + 1) n

-- the last of the numbers below n of which that holds
abbrev pub last_below : (ℕ → Bool) → ℕ → Option ℕ
last_below holds zero = None
last_below holds (suc n) = if holds n then Some n else last_below holds n

-- the pass that goes on in spare blocks: the one that did, as long as it has the units, or else the last one
-- that would draw
abbrev pub drawer : List Bool → ℕ → State → ℕ → ℕ → Option ℕ → Option ℕ
drawer kept p s rows units None = last_below (would_draw kept s rows units) p
drawer kept p s rows units (Some c) =
    if nat_lt c p && nat_le (least_units kept units c) (units_unclaimed s c)
    then Some c else last_below (would_draw kept s rows units) p

-- in which pass's part the elements of a pass go on: in its own, unless parts behind it are in use
abbrev pub start_at : ℕ → ℕ → ℕ → ℕ
start_at p at home = if nat_lt at home && nat_lt home p then home else at

-- the pass was found in whose part there is room, or else the one in spare blocks
abbrev pub found_at : Option ℕ → Option ℕ → ℕ → Cursor → Option (ℕ × Cursor)
found_at (Some c) drawing p cursor = Some (c, record { at = c; block = cursor.block; kept = cursor.kept })
found_at None (Some c) p cursor = Some (c, record { at = p; block = Some c; kept = cursor.kept })
found_at None None p cursor = None

-- the pass that makes so many elements next, with so many units, and how far the passes are used then
abbrev pub next_pass : ℕ → State → ℕ → ℕ → ℕ → Cursor → Option (ℕ × Cursor)
next_pass p s home rows units cursor =
    let from = start_at p cursor.at home in
    found_at (first_from (has_left cursor.kept s rows units) from (p - from))
    (drawer cursor.kept p s rows units cursor.block) p cursor

-- ---- births

-- the manager, and how far its passes are used
pub record Placing : Type 0 where
  pub manager : State
  pub cursor : Cursor

-- and the families, while elements are born
pub record Bearing : Type 0 where
  pub placing : Placing
  pub families : List Family

-- a family of which this many elements are to be born, and nothing is
abbrev pub unborn : ℕ → Family
unborn n = record { carrier = None; left = n }

-- the family of a root
abbrev pub family_at : List Family → ℕ → Family
family_at families root = slice_index_or families root (unborn 0)

-- with one more element of its family
abbrev pub family_counted : List Family → Survivor → List Family
family_counted families s = slice_set families s.root (unborn ((family_at families s.root).left + 1))

-- the highest root
abbrev pub highest_root : List Survivor → ℕ
highest_root survivors = fold (λ n s. max n s.root) 0 survivors

-- the families of all roots, in a manager with these limits
abbrev pub families_of : Limits → List Survivor → List Family
families_of l survivors =
    fold family_counted (replicate (min (highest_root survivors + 1) (rows_of l)) (unborn 0)) survivors

-- the pass in whose part a row lies, or as many as there are parts for a spare one
abbrev pub home_of : Limits → ℕ → ℕ
home_of l id = min (id / max l.rows 1) l.parts

-- how many of at most n of these are neighbours of this one, of its family and in the part of its pass
abbrev pub neighbours : Limits → Survivor → ℕ → List Survivor → ℕ
neighbours l first zero rest = 0
neighbours l first (suc n) [] = 0
neighbours l first (suc n) (s ∷ rest) =
    if s.root == first.root && home_of l s.id == home_of l first.id
    then neighbours l first n rest + 1 else 0

-- how many of them are born together at most: four neighbours
abbrev pub neighbours_in : Limits → List Survivor → ℕ
neighbours_in l [] = 0
neighbours_in l (s ∷ rest) = neighbours l s 4 (s ∷ rest)

-- how many are, where this many of the family are left: one less than four, where more are left, so that
-- another one carries the family on
abbrev pub group_size : Limits → List Survivor → ℕ → ℕ
group_size l rest left = let n = neighbours_in l rest in if n == 4 && nat_lt 4 left then 3 else n

-- what is born with the others to carry the family on
abbrev pub filler : DraftView
filler = record { stage = 1; body = replicate 4 0 }

abbrev pub survivor_draft : Survivor → DraftView
survivor_draft s = record { stage = s.stage; body = s.body }

abbrev pub drafts_of : List Survivor → Bool → List DraftView
drafts_of group more = map survivor_draft group ++ (if more then filler ∷ [] else [])

-- what a pass has made, which was next
abbrev pub placed_by : Cursor → ℕ × State → ℕ × Placing
placed_by cursor made = (made.0, record { manager = made.1; cursor = cursor })

-- a request is submitted by the next pass
abbrev pub submitted_next : ℕ → ℕ → List ℕ → ℕ → Placing → Option (ℕ × Placing)
submitted_next p stage body home b =
    option_and_then (λ next. option_and_then (λ made. Some (placed_by next.1 made))
    (submitted next.0 stage body b.manager)) (next_pass p b.manager home 1 0 b.cursor)

-- these drafts are born of the carrier, by the next pass: the id of the first
abbrev pub born_next : ℕ → List DraftView → ℕ → ℕ → Placing → Option (ℕ × Placing)
born_next p drafts carrier home b =
    option_and_then (λ next. option_and_then (λ made. Some (placed_by next.1 made))
    (born_by next.0 carrier drafts b.manager)) (next_pass p b.manager home (length drafts) 1 b.cursor)

-- the root of a family, and the element of which its next ones are born: both are a copy of the root, where
-- there is none yet
abbrev pub carrier_by : ℕ → Survivor → ℕ → Option (ℕ × ℕ) → Placing → Option ((ℕ × ℕ) × Placing)
carrier_by p s home (Some carrier) b = Some (carrier, b)
carrier_by p s home None b =
    option_and_then (λ made. Some ((made.0, made.0), made.1))
    (submitted_next p s.root_stage s.root_body home b)

-- the first of these and its neighbours are born, of a family with this root and carrier
abbrev pub group_born : Limits → ℕ → Survivor → List Survivor → List Family → ℕ × ℕ → Placing
    → Option (Group × Bearing)
group_born l p s rest families has b =
    let left = (family_at families s.root).left in
    let count = group_size l rest left in
    option_and_then (λ born. Some (
      record { root = has.0; first = born.0; count = count },
      record {
        placing = born.1;
        families = slice_set families s.root
            (record { carrier = Some (has.0, born.0 + count); left = left - count });
      },
    ))
    (born_next p (drafts_of (take count rest) (nat_lt count left)) has.1 (home_of l s.id) b)

-- a root is born by itself, and another element with its neighbours
abbrev pub root_or_group : Limits → ℕ → Survivor → List Survivor → List Family → (ℕ × ℕ) × Placing
    → Option (Group × Bearing)
root_or_group l p s rest families has =
    if s.id == s.root
    then Some (
      record { root = has.0.0; first = has.0.0; count = 1 },
      record { placing = has.1; families = families },
    )
    else group_born l p s rest families has.0 has.1

-- the first of these is born
abbrev pub next_born : Limits → ℕ → List Survivor → Bearing → Option (Group × Bearing)
next_born l p [] b = None
next_born l p (s ∷ rest) b =
    option_and_then (root_or_group l p s (s ∷ rest) b.families)
    (carrier_by p s (home_of l s.id) (family_at b.families s.root).carrier b.placing)

-- what these are called, of which the first has this id
abbrev pub named : ℕ → ℕ → List Survivor → List Moved
named root id [] = []
named root id (s ∷ rest) =
    record { old = s.id; new = id; old_root = s.root; new_root = root; holder = s.holder }
    ∷ named root (id + 1) rest

abbrev pub named_in : Group → List Survivor → List Moved
named_in group rest = named group.root group.first (take group.count rest)

-- in at most n groups these are born, behind those that are named
abbrev pub born_from : Limits → ℕ → ℕ → List Survivor → List Moved → Bearing → Option (List Moved × State)
born_from l p zero rest moved b = Some (moved, b.placing.manager)
born_from l p (suc n) [] moved b = Some (moved, b.placing.manager)
born_from l p (suc n) (s ∷ rest) moved b =
    option_and_then (λ born. born_from l p n (drop born.0.count (s ∷ rest))
    (moved ++ named_in born.0 (s ∷ rest)) born.1)
    (next_born l p (s ∷ rest) b)

-- all of them are, which were in a manager with these limits
abbrev pub all_born : Limits → ℕ → List Survivor → State → Option (List Moved × State)
all_born l p survivors s = born_from l p (length survivors) survivors [] (record {
  placing = record { manager = s; cursor = record { at = 0; block = None; kept = kept_for survivors } };
  families = families_of l survivors;
})

-- ---- attempts and rounds

-- the element is claimed and given up n times, by the passes from this one on that have a unit for it
abbrev pub attempts_made : ℕ → List Bool → ℕ → ℕ → ℕ × State → Option (ℕ × State)
attempts_made p kept id zero x = Some x
attempts_made p kept id (suc n) x =
    option_and_then (λ c. option_and_then (λ after. attempts_made p kept id n (c, after))
    (attempted c id x.1))
    (first_from (has_left kept x.1 0 1) x.0 (p - x.0))

-- it is given n rounds of all attempts
abbrev pub renewed : ℕ → List Bool → ℕ → ℕ → ℕ → ℕ × State → Option (ℕ × State)
renewed p kept id limit zero x = Some x
renewed p kept id limit (suc n) x =
    option_and_then
    (λ done. option_and_then (λ after. renewed p kept id limit n (done.0, after)) (requeued 0 id done.1))
    (attempts_made p kept id limit x)

-- it is given what was described
abbrev pub replayed : ℕ → List Bool → ℕ → Survivor → ℕ → ℕ × State → Option (ℕ × State)
replayed p kept limit s id x =
    option_and_then (attempts_made p kept id (attempts_had s.status)) (renewed p kept id limit s.rounds x)

-- and so is each, under its new id
abbrev pub all_replayed : ℕ → List Bool → ℕ → List Survivor → List Moved → ℕ × State → Option State
all_replayed p kept limit [] moved x = Some x.1
all_replayed p kept limit (s ∷ survivors) [] x = None
all_replayed p kept limit (s ∷ survivors) (m ∷ moved) x =
    option_and_then (all_replayed p kept limit survivors moved) (replayed p kept limit s m.new x)

-- ---- units

-- pass c claims the element
abbrev pub claimed_for : ℕ → ℕ → State → Option State
claimed_for c id s = option_and_then (λ claimed. Some claimed.1) (given (claim_id_of s c id))

-- the pass that is to hold the element, if one is, claims it: one of the p passes, which has nothing in hand
abbrev pub held_by : ℕ → Option ℕ → ℕ → State → Option State
held_by p None id s = Some s
held_by p (Some c) id s = if nat_lt c p && is_none (pass_at s c).holding then claimed_for c id s else None

-- and so each, in their order, under its new id
abbrev pub all_held : ℕ → List Survivor → List Moved → State → Option State
all_held p [] moved s = Some s
all_held p (one ∷ survivors) [] s = None
all_held p (one ∷ survivors) (m ∷ moved) s =
    option_and_then (all_held p survivors moved) (held_by p one.holder m.new s)

-- ---- all of it

-- What each is called, in their order, and what the manager is before any of them is held. They were in one
-- with these limits.
abbrev pub made_unheld : Limits → ℕ → List Survivor → State → Option (List Moved × State)
made_unheld l p survivors s =
    option_and_then (λ born. option_and_then (λ done. Some (born.0, done))
    (all_replayed p (kept_for survivors) s.limits.attempts survivors born.0 (0, born.1)))
    (all_born l p survivors s)

-- and once they are, what it is then
abbrev pub made_anew : Limits → ℕ → List Survivor → State → Option (List Moved × State)
made_anew l p survivors s =
    option_and_then
    (λ made. option_and_then (λ done. Some (made.0, done)) (all_held p survivors made.0 made.1))
    (made_unheld l p survivors s)
