-- What a writer took.
use Rattle.std.specs.Prelude.{◌≡◌, ℕ, Bool, true, false, List, ◌++◌, Option}
use Rattle.std.specs.Io.KnownBytes.{Appends}

-- the bytes are written up to this rest
abbrev pub IsWrittenUpTo : Option (List ℕ) → Option (List ℕ) → List ℕ → List ℕ → Type 0
IsWrittenUpTo old new bytes rest = (front : List ℕ) × (bytes ≡ front ++ rest) × Appends old new front

-- a prefix of the bytes is written
abbrev pub AppendsFront : Option (List ℕ) → Option (List ℕ) → List ℕ → Type 0
AppendsFront old new bytes = (rest : List ℕ) × IsWrittenUpTo old new bytes rest

-- the bytes are written, or a prefix of them where the writer has failed
abbrev pub AppendsUnlessFailed : Bool → Option (List ℕ) → Option (List ℕ) → List ℕ → Type 0
AppendsUnlessFailed false old new bytes = Appends old new bytes
AppendsUnlessFailed true old new bytes = AppendsFront old new bytes
