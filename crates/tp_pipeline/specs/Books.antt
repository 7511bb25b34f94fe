-- What the pipeline's books say, over one manager after another. The first arguments say of a box what its
-- server shows: its behaviour, and the registers of its committed work.
use Rattle.std.specs.Prelude.{◌≡◌, ℕ, ◌+◌, List, Some, length, slice_get, slice_index}
use Rattle.std.specs.List.{sum_by}
use Rattle.std.specs.declared.alloc.Global.{Global}
use Rattle.std.specs.declared.dyn_box.DynBox.{DynBox}
use Rattle.tp_model.specs.declared.types.Element.{Element}
use Rattle.tp_server.specs.Behaviour.{Behaviour}
use Rattle.tp_crew.specs.Careers.{Career, HasCome, Stint, consumed_in}
use Rattle.tp_crew.specs.declared.crew.Crew.{Crew}
use Rattle.tp_pipeline.specs.Payments.{payment_amount, charger, shipper, payment_validator}

-- a register: the charger's takings and its count, and the count of the others
abbrev pub takings_in : List ℕ → ℕ
takings_in registers = slice_index registers 0

abbrev pub charges_in : List ℕ → ℕ
charges_in registers = slice_index registers 1

abbrev pub count_in : List ℕ → ℕ
count_in registers = slice_index registers 0

-- each payment counts as one
abbrev pub one_payment : Element → ℕ
one_payment payment = 1

module _ {X : Type 0} {F : X → Type 0} where
  -- the crew has four boxes, and no client
  pub record IsStaffed (c : Crew X F) : Type 0 where
    pub boxes : length c.boxes.items ≡ 4
    pub clients : c.clients ≡ 0

module _ {X : Type 0} {F : X → Type 0} (behaviour : DynBox X Global F → Behaviour)
    (registers : DynBox X Global F → List ℕ) where
  -- the crew goes on, in its manager or in the next one: what its boxes did before and since is one career
  pub record CrewGoesOn (old new : Crew X F) : Type 0 where
    pub come : (k : ℕ) (u : DynBox X Global F) (stints : List Stint)
        → HasCome behaviour registers k u stints old
        → (more : List Stint) × HasCome behaviour registers k u more new

  -- Box u has become w in stints over one manager after another. Its registers say what all payments that it
  -- has consumed in them come to, each once.
  pub record HasWorked (u w : DynBox X Global F) : Type 0 where
    pub stints : List Stint
    pub career : Career behaviour registers stints u w
    pub validated : (ceiling : ℕ) → behaviour u ≡ payment_validator ceiling
        → count_in (registers w) ≡ count_in (registers u) + sum_by one_payment (consumed_in stints)
    pub takings : behaviour u ≡ charger
        → takings_in (registers w) ≡ takings_in (registers u) + sum_by payment_amount (consumed_in stints)
    pub charges : behaviour u ≡ charger
        → charges_in (registers w) ≡ charges_in (registers u) + sum_by one_payment (consumed_in stints)
    pub shipped : behaviour u ≡ shipper
        → count_in (registers w) ≡ count_in (registers u) + sum_by one_payment (consumed_in stints)

  -- each of the first boxes has become the one at its place among the second
  abbrev pub HaveWorked : List (DynBox X Global F) → List (DynBox X Global F) → Type 0
  HaveWorked us ws = (k : ℕ) (u : DynBox X Global F) → slice_get us k ≡ Some u
      → (w : DynBox X Global F) × (slice_get ws k ≡ Some w) × HasWorked u w
