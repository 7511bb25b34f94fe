-- What becomes of the indexes where an element goes from some groups to others.
use Rattle.std.specs.Prelude.{◌≡◌, ◌⊎◌, ℕ, ◌==◌, ◌&&◌, ◌||◌, not, Bool, Option, List}
use Rattle.tp_store.specs.declared.element.Groups.{Groups}
use Rattle.tp_store.specs.declared.indexes.Indexes.{Indexes}
use Rattle.tp_store.specs.Elements.{is_group}
use Rattle.tp_store.specs.Indexes.{gains, has}

-- the places of an index
abbrev pub Places : Type 0
Places = List (ℕ × ℕ)

-- an id stands in this group, and in no other
abbrev pub IsIn : ℕ → Option ℕ → Places → Type 0
IsIn id group places = (g : ℕ) → has places g id ≡ is_group g group

-- an id stands in this group too
abbrev pub HasEntered : ℕ → Option ℕ → Places → Places → Type 0
HasEntered id group old new = (g i : ℕ) → has new g i ≡ (has old g i || (id == i && is_group g group))

-- an id has left a group, unless it goes over into that
abbrev pub HasLeft : ℕ → Option ℕ → Option ℕ → Places → Places → Type 0
HasLeft id from to old new = (g i : ℕ) → has new g i
    ≡ (has old g i && not (id == i && (is_group g from && not (is_group g to))))

-- the same ids stand in the same groups
abbrev pub HasSame : Places → Places → Type 0
HasSame old new = (g i : ℕ) → has new g i ≡ has old g i

-- it has entered it, or nothing has changed
abbrev pub HasBegun : ℕ → Option ℕ → Places → Places → Type 0
HasBegun id group old new = HasSame old new ⊎ HasEntered id group old new

-- all of these, of each index

pub record StandsIn (id : ℕ) (groups : Groups) (x : Indexes) : Type 0 where
  pub queue : IsIn id groups.queue x.queues
  pub reply : IsIn id groups.reply x.replies
  pub owned : IsIn id groups.owned x.owned
  pub family : IsIn id groups.family x.families
  pub alive : IsIn id groups.alive x.alive

pub record HaveEntered (id : ℕ) (groups : Groups) (old new : Indexes) : Type 0 where
  pub queue : HasEntered id groups.queue old.queues new.queues
  pub reply : HasEntered id groups.reply old.replies new.replies
  pub owned : HasEntered id groups.owned old.owned new.owned
  pub family : HasEntered id groups.family old.families new.families
  pub alive : HasEntered id groups.alive old.alive new.alive

pub record HaveBegun (id : ℕ) (groups : Groups) (old new : Indexes) : Type 0 where
  pub queue : HasBegun id groups.queue old.queues new.queues
  pub reply : HasBegun id groups.reply old.replies new.replies
  pub owned : HasBegun id groups.owned old.owned new.owned
  pub family : HasBegun id groups.family old.families new.families
  pub alive : HasBegun id groups.alive old.alive new.alive

pub record HaveLeft (id : ℕ) (from to : Groups) (old new : Indexes) : Type 0 where
  pub queue : HasLeft id from.queue to.queue old.queues new.queues
  pub reply : HasLeft id from.reply to.reply old.replies new.replies
  pub owned : HasLeft id from.owned to.owned old.owned new.owned
  pub family : HasLeft id from.family to.family old.families new.families
  pub alive : HasLeft id from.alive to.alive old.alive new.alive

pub record HaveSame (old new : Indexes) : Type 0 where
  pub queue : HasSame old.queues new.queues
  pub reply : HasSame old.replies new.replies
  pub owned : HasSame old.owned new.owned
  pub family : HasSame old.families new.families
  pub alive : HasSame old.alive new.alive

-- whether it stands in one more group of some index
abbrev pub gains_any : Groups → Groups → Bool
gains_any from to = gains from.queue to.queue || (gains from.reply to.reply || (gains from.owned to.owned
    || (gains from.family to.family || gains from.alive to.alive)))
