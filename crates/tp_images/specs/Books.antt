-- What is to hold of the pictures that were delivered.
use Rattle.std.specs.Prelude.{◌≡◌, ℕ, ◌+◌, List, length, slice_index}
use Rattle.std.specs.List.{sum_by}
use Rattle.tp_model.specs.declared.types.Element.{Element}
use Rattle.tp_images.specs.Pictures.{picture_bytes}

-- the notifier's two registers
abbrev pub notices_in : List ℕ → ℕ
notices_in registers = slice_index registers 0

abbrev pub bytes_in : List ℕ → ℕ
bytes_in registers = slice_index registers 1

-- each picture is one notice
abbrev pub one_notice : Element → ℕ
one_notice picture = 1

-- Each of these pictures was counted once, with its bytes, and no other was.
pub record CountsAll (before after : List ℕ) (pictures : List Element) : Type 0 where
  pub notices : notices_in after ≡ notices_in before + sum_by one_notice pictures
  pub bytes : bytes_in after ≡ bytes_in before + sum_by picture_bytes pictures
