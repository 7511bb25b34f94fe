-- What is told of all together: how many elements there are, registers, and who holds what.
use Rattle.std.specs.Prelude.{ℕ, ◌+◌, ◌==◌, ◌&&◌, Bool, if◌then◌else◌, List, [], Option, Some, None}
use Rattle.std.specs.Prelude.{codes, decimal}
use Rattle.std.specs.List.{flat_map}
use Rattle.tp_store.specs.declared.counts.Counts.{Counts}
use Rattle.tp_script.specs.Fault.{◌<>◌}
use Rattle.tp_lines.specs.Names.{NameView}
use Rattle.tp_answers.specs.declared.overviews.Depth.{Depth}
use Rattle.tp_answers.specs.declared.overviews.Holder.{Holder}

-- ---- how many there are

-- how many elements have each status
abbrev pub counts_text : Counts → List ℕ
counts_text c = codes "waiting " <> decimal c.waiting <> codes " held " <> decimal c.held
    <> codes " consumed " <> decimal c.consumed <> codes " parked " <> decimal c.parked <> codes " killed "
    <> decimal c.killed

-- all that were born: each of them has one of the statuses
abbrev pub born_of : Counts → ℕ
born_of c = c.waiting + c.held + (c.consumed + c.parked + c.killed)

-- how many were born, and how many have each status
abbrev pub account_text : Counts → List ℕ
account_text c = codes "account born " <> decimal (born_of c) <> codes " " <> counts_text c

-- a stage in which nothing waits, is held or is parked
abbrev pub is_empty : Depth → Bool
is_empty d = (d.waiting == 0) && (d.held == 0) && (d.parked == 0)

-- how many elements of a stage wait, are held and are parked; nothing where there are none
abbrev pub depth_text : Depth → List ℕ
depth_text d = if is_empty d then [] else codes " " <> decimal d.stage <> codes ":" <> decimal d.waiting
    <> codes ":" <> decimal d.held <> codes ":" <> decimal d.parked

-- the stages in which there is anything
abbrev pub depths_text : List Depth → List ℕ
depths_text depths = codes "depth" <> flat_map depth_text depths

-- ---- registers

-- a register of a server
abbrev pub balance_text : NameView → ℕ → Option ℕ → List ℕ
balance_text name k (Some value) =
    codes "balance " <> name.letters <> codes " " <> decimal k <> codes " " <> decimal value
balance_text name k None = codes "balance " <> name.letters <> codes " " <> decimal k <> codes " none"

-- a register's sum over all servers
abbrev pub sum_text : ℕ → ℕ → List ℕ
sum_text k sum = codes "sum " <> decimal k <> codes " " <> decimal sum

-- the registers of a server at the end
abbrev pub final_text : NameView → List ℕ → List ℕ
final_text name registers =
    (codes "final " <> name.letters) <> flat_map (λ v. codes " " <> decimal v) registers

-- ---- who holds what

-- who has taken an element, the element, the unit that took it, and the attempt where it holds it still
pub record HolderView : Type 0 where
  pub name : NameView
  pub id : ℕ
  pub unit : ℕ
  pub attempt : Option ℕ

abbrev pub holder_view : Holder → HolderView
holder_view h = record { name = h.name.now; id = h.id; unit = h.unit; attempt = h.attempt }

abbrev pub attempt_text : Option ℕ → List ℕ
attempt_text (Some attempt) = decimal attempt
attempt_text None = codes "lost"

abbrev pub holder_text : HolderView → List ℕ
holder_text h = codes " " <> h.name.letters <> codes ":" <> decimal h.id <> codes ":" <> decimal h.unit
    <> codes ":" <> attempt_text h.attempt

abbrev pub holds_text : List HolderView → List ℕ
holds_text holders = codes "holds" <> flat_map holder_text holders
