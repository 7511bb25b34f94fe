-- The places of the words.
use Rattle.std.proofs.Common.{◌≡◌, ℕ, ◌+◌, ◌*◌, ◌-◌, ◌/◌, ◌<◌, ◌≤◌, ap, inl, inr, arith, refl}
use Rattle.std.proofs.Math.Nat.{div-lt_iff_lt-mul, div-mul-le_self, lt-div-mul-add}
use Rattle.tp_model.specs.declared.types.Limits.{Limits}
use Rattle.tp_model.specs.Steps.{IsArea, block_first, part_rows, rows_of}
use Rattle.tp_rule.specs.Places.{HeadWord, BodyWord, ClaimWord, UnitWord, MarkWord, DrawnWord, PlacesDiffer, PlacesInside}

pub places_differ : PlacesDiffer
places_differ l (HeadWord i) (HeadWord j) a b e = let same : i ≡ j = omega arith in ap HeadWord same
places_differ l (HeadWord i) (BodyWord j m) a b e = absurd (omega arith)
places_differ l (HeadWord i) (ClaimWord j) a b e = absurd (omega arith)
places_differ l (HeadWord i) (UnitWord v) a b e = absurd (omega arith)
places_differ l (HeadWord i) (MarkWord t q) a b e = absurd (omega arith)
places_differ l (HeadWord i) DrawnWord a b e = absurd (omega arith)
places_differ l (BodyWord i k) (HeadWord j) a b e = absurd (omega arith)
places_differ l (BodyWord i k) (BodyWord j m) a b e = let row : i ≡ j = omega arith in let word : k ≡ m = omega arith in cc
places_differ l (BodyWord i k) (ClaimWord j) a b e = absurd (omega arith)
places_differ l (BodyWord i k) (UnitWord v) a b e = absurd (omega arith)
places_differ l (BodyWord i k) (MarkWord t q) a b e = absurd (omega arith)
places_differ l (BodyWord i k) DrawnWord a b e = absurd (omega arith)
places_differ l (ClaimWord i) (HeadWord j) a b e = absurd (omega arith)
places_differ l (ClaimWord i) (BodyWord j m) a b e = absurd (omega arith)
places_differ l (ClaimWord i) (ClaimWord j) a b e = let same : i ≡ j = omega arith in ap ClaimWord same
places_differ l (ClaimWord i) (UnitWord v) a b e = absurd (omega arith)
places_differ l (ClaimWord i) (MarkWord t q) a b e = absurd (omega arith)
places_differ l (ClaimWord i) DrawnWord a b e = absurd (omega arith)
places_differ l (UnitWord u) (HeadWord j) a b e = absurd (omega arith)
places_differ l (UnitWord u) (BodyWord j m) a b e = absurd (omega arith)
places_differ l (UnitWord u) (ClaimWord j) a b e = absurd (omega arith)
places_differ l (UnitWord u) (UnitWord v) a b e = let same : u ≡ v = omega arith in ap UnitWord same
places_differ l (UnitWord u) (MarkWord t q) a b e = absurd (omega arith)
places_differ l (UnitWord u) DrawnWord a b e = absurd (omega arith)
places_differ l (MarkWord s p) (HeadWord j) a b e = absurd (omega arith)
places_differ l (MarkWord s p) (BodyWord j m) a b e = absurd (omega arith)
places_differ l (MarkWord s p) (ClaimWord j) a b e = absurd (omega arith)
places_differ l (MarkWord s p) (UnitWord v) a b e = absurd (omega arith)
places_differ l (MarkWord s p) (MarkWord t q) a b e = let kind : s ≡ t = omega arith in let part : p ≡ q = omega arith in cc
places_differ l (MarkWord s p) DrawnWord a b e = absurd (omega arith)
places_differ l DrawnWord (HeadWord j) a b e = absurd (omega arith)
places_differ l DrawnWord (BodyWord j m) a b e = absurd (omega arith)
places_differ l DrawnWord (ClaimWord j) a b e = absurd (omega arith)
places_differ l DrawnWord (UnitWord v) a b e = absurd (omega arith)
places_differ l DrawnWord (MarkWord t q) a b e = absurd (omega arith)
places_differ l DrawnWord DrawnWord a b e = refl

pub places_inside : PlacesInside
places_inside l (HeadWord i) a = omega arith
places_inside l (BodyWord i k) a = omega arith
places_inside l (ClaimWord i) a = omega arith
places_inside l (UnitWord u) a = omega arith
places_inside l (MarkWord s p) a = omega arith
places_inside l DrawnWord a = omega arith

-- the part of a row
pub part_area : (l : Limits) (row : ℕ) → 1 ≤ l.rows → row < part_rows l → (first : ℕ) × IsArea l first ((row / l.rows + 1) * l.rows) × (first ≤ row) × (row < (row / l.rows + 1) * l.rows)
part_area l row some inside =
    let c : ℕ = row / l.rows in let high : row < c * l.rows + l.rows = lt-div-mul-add some in
    (c * l.rows, inl (c, ((div-lt_iff_lt-mul some).1 inside, refl, omega arith)), div-mul-le_self row l.rows, omega arith)

-- the spare block of a row
pub block_area : (l : Limits) (row parts : ℕ) → parts ≡ part_rows l → row < rows_of l → parts ≤ row
    → (first : ℕ) × IsArea l first (parts + ((row - parts) / 8 + 1) * 8) × (first ≤ row) × (row < parts + ((row - parts) / 8 + 1) * 8)
block_area l row parts same inside behind =
    let b : ℕ = (row - parts) / 8 in
    (block_first l b, inr (b, (omega arith, refl, omega arith)), omega arith, omega arith)
