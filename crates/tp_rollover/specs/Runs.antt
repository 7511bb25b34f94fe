-- Requests that one pass submits one after another, with no look together between them.
use Rattle.std.specs.Prelude.{◌≡◌, ℕ, ◌+◌, ◌-◌, ◌≤◌, Option, Some, None, Result, Ok, Err, List, [], ◌∷◌, ◌++◌}
use Rattle.std.specs.Prelude.{drop, length}
use Rattle.std.specs.Option.{option_and_then}
use Rattle.tp_model.specs.declared.types.Limits.{Limits}
use Rattle.tp_model.specs.declared.types.Refusal.{Refusal}
use Rattle.tp_plain.specs.OneThread.{State}
use Rattle.tp_manager.specs.Bounds.{submit_steps}
use Rattle.tp_manager.specs.Calls.{Follows}
use Rattle.tp_manager.specs.Shown.{PassShown}
use Rattle.tp_rollover.specs.AloneLaws.{SubmitAnswers}
use Rattle.tp_rollover.specs.Anew.{Bearing, born_from, family_at, home_of, start_at, submitted}
use Rattle.tp_rollover.specs.declared.births.Family.{Family}
use Rattle.tp_rollover.specs.declared.moved.Moved.{Moved}
use Rattle.tp_rollover.specs.declared.stops.Stop.{Stop}
use Rattle.tp_rollover.specs.declared.stops.Stop.TheVariants.{NoMemory}
use Rattle.tp_rollover.specs.declared.survivors.Survivor.{Survivor}

-- what a request is called that was submitted
abbrev pub named_root : Survivor → ℕ → Moved
named_root s id = record { old = s.id; new = id; old_root = s.root; new_root = id; holder = s.holder }

-- pass c submits copies of these, one after another, behind those that are named
abbrev pub roots_born : ℕ → List Survivor → List Moved × State → Option (List Moved × State)
roots_born c [] x = Some x
roots_born c (s ∷ rest) x =
    option_and_then (λ made. roots_born c rest (x.0 ++ named_root s made.0 ∷ [], made.1))
    (submitted c s.root_stage s.root_body x.1)

-- a pass was to submit a copy of this one's root, with this answer
pub record RootSubmitted (l : Limits) (s : Survivor) (answer : Result ℕ Refusal) (old new : PassShown)
    : Type 0 where
  pub limits : new.limits ≡ l
  pub turn : new.from ≡ old.from
  pub follows : Follows (submit_steps l) old new
  pub says : SubmitAnswers s.root_stage s.root_body old new answer

-- it has submitted all these, which are called so
abbrev pub SubmitsAll : Limits → List Survivor → List Moved → PassShown → PassShown → Type 0
SubmitsAll l [] [] old new = new ≡ old
SubmitsAll l [] (m ∷ names) old new = ⊥
SubmitsAll l (s ∷ rest) [] old new = ⊥
SubmitsAll l (s ∷ rest) (m ∷ names) old new = (middle : PassShown) × RootSubmitted l s (Ok m.new) old middle
    × (m ≡ named_root s m.new) × SubmitsAll l rest names middle new

-- all are named behind the others
pub record RunsThrough (l : Limits) (roots : List Survivor) (moved moved' : List Moved) (old new : PassShown)
    : Type 0 where
  pub names : List Moved
  pub named : moved' ≡ moved ++ names
  pub all : SubmitsAll l roots names old new

-- some were submitted, and the next one was refused
pub record RunsShort (l : Limits) (roots : List Survivor) (old new : PassShown) : Type 0 where
  pub done : List Survivor
  pub next : Survivor
  pub rest : List Survivor
  pub roots_are : roots ≡ done ++ next ∷ rest
  pub names : List Moved
  pub middle : PassShown
  pub all : SubmitsAll l done names old middle
  pub why : Refusal
  pub refused : RootSubmitted l next (Err why) middle new

-- what a run of them leaves
abbrev pub SubmitsRun : {A : Type 0} → Limits → List Survivor → List Moved → List Moved → PassShown
    → PassShown
    → Result A Stop → Type 0
SubmitsRun l roots moved moved' old new (Ok x) = RunsThrough l roots moved moved' old new
SubmitsRun l roots moved moved' old new (Err NoMemory) = Unit {0}
SubmitsRun l roots moved moved' old new (Err other) = RunsShort l roots old new

-- this is a request of a family of which nothing is there, and it goes on in the part of pass `at`
pub record StaysInPart (l : Limits) (p at : ℕ) (families : List Family) (s : Survivor) : Type 0 where
  pub root : s.id ≡ s.root
  pub unborn : (family_at families s.root).carrier ≡ None
  pub here : start_at p at (home_of l s.id) ≡ at

-- the births have gone on with the first of these, in some turns
pub record GoesFurther (l : Limits) (p : ℕ) (rest : List Survivor) (moved moved' : List Moved)
    (b b' : Bearing) : Type 0 where
  pub turns : ℕ
  pub count : ℕ
  pub few : turns ≤ count
  pub some : 1 ≤ count
  pub inside : count ≤ length rest
  pub many : length moved' ≡ length moved + count
  pub same : (n : ℕ) → born_from l p (turns + n) rest moved b ≡ born_from l p n (drop count rest) moved' b'

-- in some turns it shows that the manager is full
pub record ComesShort (l : Limits) (p : ℕ) (rest : List Survivor) (moved : List Moved) (b : Bearing)
    : Type 0 where
  pub turns : ℕ
  pub few : turns ≤ length rest
  pub none : (n : ℕ) → born_from l p (turns + n) rest moved b ≡ None

-- what a turn of births leaves
abbrev pub BearsOn : {A : Type 0} → Limits → ℕ → List Survivor → List Moved → List Moved → Bearing → Bearing
    → Result A Stop → Type 0
BearsOn l p rest moved moved' b b' (Ok x) = GoesFurther l p rest moved moved' b b'
BearsOn l p rest moved moved' b b' (Err NoMemory) = Unit {0}
BearsOn l p rest moved moved' b b' (Err other) = ComesShort l p rest moved b

-- how many of those that are left were born, or all of them where the births stopped
abbrev pub newly : {A : Type 0} → List Survivor → List Moved → List Moved → Result A Stop → ℕ
newly rest moved moved' (Ok x) = length moved' - length moved
newly rest moved moved' (Err stop) = length rest
