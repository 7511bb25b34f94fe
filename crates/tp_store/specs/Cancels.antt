-- What a cancel does to the elements of its request, one after another.
use Rattle.std.specs.Prelude.{ℕ, ◌==◌, ◌&&◌, not, Bool, if◌then◌else◌, Some, List, [], ◌∷◌}
use Rattle.tp_store.specs.declared.element.TheConstants.{REPLY_STAGE}
use Rattle.tp_store.specs.declared.element.Status.TheVariants.{Killed}
use Rattle.tp_store.specs.Counting.{TallyView, tallied}
use Rattle.tp_store.specs.Elements.{Entry, alive_of, is_in_from, put, standing}

-- the elements, and how many there are of each kind
pub record Counted : Type 0 where
  pub elements : List Entry
  pub tally : TallyView

-- it is killed
abbrev pub struck : Entry → Counted → Counted
struck e k = record {
  elements = put e.0 (standing Killed e.1) k.elements;
  tally = tallied e.1.stage (Some e.1.status) Killed k.tally;
}

-- but for a reply
abbrev pub struck_if_open : Entry → Counted → Counted
struck_if_open e k = if e.1.stage == REPLY_STAGE then k else struck e k

-- each of these is killed
abbrev pub strike_all : List Entry → Counted → Counted
strike_all [] k = k
strike_all (e ∷ es) k = strike_all es (struck e k)

-- whether work on a request's element goes on that is no reply, from this id on
abbrev pub is_open_from : ℕ → ℕ → Entry → Bool
is_open_from root from e = is_in_from alive_of root from e && not (e.1.stage == REPLY_STAGE)
