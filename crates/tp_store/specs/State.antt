-- A store as what is in it.
use Rattle.std.specs.Prelude.{ℕ, ◌+◌, Some, List, [], ◌∷◌, length}
use Rattle.tp_model.specs.Drafts.{DraftView}
use Rattle.tp_store.specs.declared.element.Element.{Element}
use Rattle.tp_store.specs.declared.element.Status.TheVariants.{Waiting}
use Rattle.tp_store.specs.declared.store.Limits.{Limits}
use Rattle.tp_store.specs.declared.births.Origin.{Origin}
use Rattle.tp_store.specs.Counting.{TallyView, no_tally, tallied, tallied_births}
use Rattle.tp_store.specs.Elements.{Entry, put}
use Rattle.tp_store.specs.Ends.{ended_in, forget}
use Rattle.tp_store.specs.declared.ends.TheConstants.{FORGET_STEPS}

-- what is in a store: the next id and the next unit, the elements in the order of their births, how many
-- there were of each kind, and the requests that are over and not forgotten yet, in the order of their ends
pub record State : Type 0 where
  pub limits : Limits
  pub next : ℕ
  pub units : ℕ
  pub elements : List Entry
  pub tally : TallyView
  pub ended : List ℕ

-- a store of nothing
abbrev pub start : Limits → State
start limits = record { limits = limits; next = 0; units = 0; elements = []; tally = no_tally; ended = [] }

-- ---- births

-- the element that a draft becomes
abbrev pub made : Origin → DraftView → Element
made from d = record {
  root = from.root;
  by = from.by;
  owner = from.owner;
  body = d.body;
  status = Waiting 0;
  stage = d.stage;
  rounds = 0;
  earlier = 0;
}

-- these are put at the ids from this one on
abbrev pub put_all : ℕ → Origin → List DraftView → List Entry → List Entry
put_all id from [] elements = elements
put_all id from (d ∷ ds) elements = put_all (id + 1) from ds (put id (made from d) elements)

-- these are born
abbrev pub with_births : Origin → List DraftView → State → State
with_births from drafts s = record s {
  next = s.next + length drafts;
  elements = put_all s.next from drafts s.elements;
  tally = tallied_births drafts s.tally;
}

-- ---- changes

-- the element with this id, which was the first one, is the second
abbrev pub with_change : ℕ → Element → Element → State → State
with_change id before after s = record s {
  elements = put id after s.elements;
  tally = tallied before.stage (Some before.status) after.status s.tally;
}

-- other limits hold
abbrev pub with_limits : Limits → State → State
with_limits limits s = record s { limits = limits }

-- ---- ends

-- a request is noted as the last that ended, where it is over now
abbrev pub with_end : ℕ → State → State
with_end root s = record s { ended = ended_in root s.elements s.ended }

-- the first requests that ended are forgotten step by step, where more have ended than are kept
abbrev pub swept : State → State
swept s =
    let left = forget FORGET_STEPS s.limits.keep (record { elements = s.elements; ended = s.ended }) in
    record s { elements = left.elements; ended = left.ended }
