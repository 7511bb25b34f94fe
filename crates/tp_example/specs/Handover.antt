-- What a producer's receipts say, and when a consumer finds nothing.
use Rattle.std.specs.Prelude.{◌≡◌, ℕ, List, [], ◌∷◌, ◌++◌}
use Rattle.tp_model.specs.declared.event.Event.{Event}
use Rattle.tp_model.specs.declared.event.Event.TheVariants.{Enqueue}
use Rattle.tp_model.specs.Births.{request}
use Rattle.tp_manager.specs.Observed.{TakenSince}
use Rattle.tp_manager.specs.Receipts.{IsReceiptOf, ReceiptShown}
use Rattle.tp_manager.specs.Shown.{ManagerShown}

-- a client has just submitted a request of this stage
pub record HasRequested (stage : ℕ) (seen : List Event) : Type 0 where
  pub before : List Event
  pub client : ℕ
  pub id : ℕ
  pub body : List ℕ
  pub last : seen ≡ before ++ Enqueue client (request id stage body) ∷ []

-- the first receipt says of which manager all are; each later one was left right after a request of stage 1
abbrev pub MaySend : List ReceiptShown → ReceiptShown → Type 0
MaySend [] receipt = Unit {0}
MaySend (first ∷ more) receipt = (receipt.table ≡ first.table) × HasRequested 1 receipt.seen

-- the first of these receipts is of this manager
abbrev pub AreOf : ManagerShown → List ReceiptShown → Type 0
AreOf m [] = ⊥
AreOf m (first ∷ more) = IsReceiptOf m first

-- a request of stage 1 was submitted, and then claimed or killed
pub record WasTaken (seen : List Event) : Type 0 where
  pub from : List Event
  pub requested : HasRequested 1 from
  pub taken : TakenSince requested.id from seen
