-- Texts, and the files that have them.
use Rattle.std.specs.Prelude.{◌≡◌, ◌⊎◌, ◌≤◌, ℕ, List, [], ◌∷◌, ◌++◌, length, drop, replicate, All, codes}
use Rattle.std.specs.Prelude.{if◌then◌else◌, ◌==◌, ◌||◌, false, true, Bool, decimal}
use Rattle.std.specs.Char.{is_ascii_digit}
use Rattle.tp_journal.specs.Device.{EachMixed}
use Rattle.hex.specs.Hex.{encode_lower}
use Rattle.sha2.specs.Sha256.{sha256}

-- the bytes up to the first 0
abbrev pub text_of : List ℕ → List ℕ
text_of [] = []
text_of (b ∷ bs) = if b == 0 then [] else b ∷ text_of bs

-- a byte is 0
abbrev pub is_zero : ℕ → Bool
is_zero b = b == 0

-- a byte is 0, or ends a batch
abbrev pub is_reserved : ℕ → Bool
is_reserved b = (b == 0) || (b == 23)

abbrev pub IsSet : ℕ → Type 0
IsSet b = is_zero b ≡ false

abbrev pub IsPlain : ℕ → Type 0
IsPlain b = is_reserved b ≡ false

-- no byte is 0
abbrev pub IsText : List ℕ → Type 0
IsText bytes = All IsSet bytes

-- some of the bytes, from the first on
pub record IsFrontOf (bytes front : List ℕ) : Type 0 where
  pub rest : List ℕ
  pub whole : bytes ≡ front ++ rest

-- lines with neither a byte 0 nor the byte that ends a batch
pub record IsBatch (batch : List ℕ) : Type 0 where
  pub plain : All IsPlain batch
  pub front : List ℕ
  pub ends : batch ≡ front ++ 10 ∷ []

-- the first line of a journal
abbrev pub first_line : List ℕ
first_line = codes "# covetrivet journal 4\n"

abbrev pub IsDigit : ℕ → Type 0
IsDigit b = is_ascii_digit b ≡ true

-- what the line says that ends a text: how many bytes that has, and where its last batch begins
abbrev pub end_first : ℕ → List ℕ
end_first count = codes "# " ++ decimal count ++ codes " "

abbrev pub end_words : List ℕ → List ℕ → List ℕ
end_words begin text = end_first (length text) ++ (begin ++ codes " ")

-- behind these words the digest of all before, and the byte that ends a batch
abbrev pub end_last : List ℕ → List ℕ → List ℕ
end_last text words = encode_lower (sha256 (text ++ words)) ++ 23 ∷ 10 ∷ []

unfoldable pub end_line : List ℕ → List ℕ → List ℕ
end_line begin text = end_words begin text ++ end_last text (end_words begin text)

abbrev pub with_end : List ℕ → List ℕ → List ℕ
with_end begin text = text ++ end_line begin text

-- a batch behind a text, and its end
abbrev pub sealed_batch : List ℕ → List ℕ → List ℕ
sealed_batch text batch = batch ++ end_line (decimal (length text)) (text ++ batch)

-- a text, and a batch behind it with its end
abbrev pub with_batch : List ℕ → List ℕ → List ℕ
with_batch text batch = with_end (decimal (length text)) (text ++ batch)

-- a text that has the first line, and after that ends with an end of its own
abbrev pub IsSealed : List ℕ → Type 0
IsSealed text = (text ≡ first_line)
    ⊎ ((begin inner : List ℕ) × All IsDigit begin × IsFrontOf inner first_line × (text ≡ with_end begin inner))

-- the longest front of a text that is sealed
pub record HasSealed (text sealed : List ℕ) : Type 0 where
  pub front : IsFrontOf text sealed
  pub is_sealed : IsSealed sealed
  pub longest : (t : List ℕ) → IsFrontOf text t → IsSealed t → length t ≤ length sealed

-- a file of this text, and of bytes 0 behind it
pub record IsAtRest (text file : List ℕ) : Type 0 where
  pub text_is : IsText text
  pub free : ℕ
  pub file_is : file ≡ text ++ replicate free 0

-- The same as these bytes were written behind the text, which a crash has cut short.
pub record HasTorn (text bytes file : List ℕ) : Type 0 where
  pub free : ℕ
  pub rest : List ℕ
  pub file_is : file ≡ text ++ rest
  pub torn : EachMixed (replicate free 0) bytes rest

-- an end, up to its last two bytes, says that its batch begins elsewhere than at this place
pub record BeginsElsewhere (begin front : List ℕ) : Type 0 where
  pub before : List ℕ
  pub told : List ℕ
  pub digest : List ℕ
  pub split : front ≡ (before ++ 32 ∷ told) ++ digest
  pub digits : All IsDigit told
  pub long : length digest ≡ 65
  pub other : told ≡ begin → ⊥

-- What is behind the sealed text, which ends at this place, is no torn batch: an end of a batch stands in it
-- with nothing missing before it, or with something behind it, or one of a batch that begins elsewhere.
pub record IsDamage (begin rest : List ℕ) : Type 0 where
  pub front : List ℕ
  pub back : List ℕ
  pub split : rest ≡ front ++ 23 ∷ 10 ∷ back
  pub told : (IsText front ⊎ (All (λ b. b ≡ 0) back → ⊥)) ⊎ BeginsElsewhere begin front

-- the longest sealed front of a file's text has so many bytes, and behind it is no torn batch
pub record HasDamage (file : List ℕ) (count : ℕ) : Type 0 where
  pub text : List ℕ
  pub is_longest : HasSealed (text_of file) text
  pub long : length text ≡ count
  pub is_damage : IsDamage (decimal count) (drop count file)

-- what is recovered of a file
abbrev pub IsRecovered : List ℕ → List ℕ → Type 0
IsRecovered file text =
    ((file ≡ []) × (text ≡ first_line))
    ⊎ (HasSealed (text_of file) text × (IsDamage (decimal (length text)) (drop (length text) file) → ⊥))
