-- Reading in pieces.
use Rattle.std.proofs.Common.{◌≡◌, ℕ, ◌+◌, ◌≤◌, List, [], ◌++◌, length, take, Option, Some, None, refl, sym, ap, ◌∙◌, append_assoc, arith}
use Rattle.std.specs.Prelude.{IfSome}
use Rattle.std.proofs.lemmas.List.{append-nil, take_all, take_at, nil_from_length}
use Rattle.std.specs.Io.KnownBytes.{Consumes, IsAtEnd}
use Rattle.tp_script.specs.declared.source.TheConstants.{MAX_SCRIPT_BYTES}

Consumes-then : (a b c : Option (List ℕ)) (xs ys : List ℕ) → Consumes a b xs → Consumes b c ys → Consumes a c (xs ++ ys)
Consumes-then None b c xs ys p q = tt
Consumes-then (Some x) None c xs ys p q = absurd p
Consumes-then (Some x) (Some y) None xs ys p q = absurd q
Consumes-then (Some x) (Some y) (Some z) xs ys p q = p ∙ ap (λ (w : List ℕ). xs ++ w) q ∙ sym (append_assoc xs ys z)

pub Consumes-none : (a : Option (List ℕ)) → Consumes a a []
Consumes-none None = tt
Consumes-none (Some x) = refl

-- what is so while bytes are read
pub record ReadSoFar (old now : Option (List ℕ)) (read : List ℕ) (len room asked_before asked turns : ℕ) : Type 0 where
  pub bytes : Consumes old now read
  pub short : len ≤ MAX_SCRIPT_BYTES
  pub reserved : MAX_SCRIPT_BYTES + 1 ≤ room
  pub some : turns ≤ len
  pub once : asked ≡ asked_before + turns

pub read_more : (a b c : Option (List ℕ)) (read more : List ℕ) → Consumes a b read → Consumes b c more → Consumes a c (read ++ more)
read_more a b c read more p q = Consumes-then a b c read more p q

-- all is read
pub read_ended : (most : ℕ) (a b c : Option (List ℕ)) (read piece : List ℕ) → Consumes a b read → Consumes b c piece → length piece ≡ 0 → IsAtEnd c → length read ≤ most → IfSome a (λ all. read ≡ take (most + 1) all)
read_ended most None b c read piece p q none ended short = tt
read_ended most (Some all) None c read piece p q none ended short = absurd p
read_ended most (Some all) (Some left) None read piece p q none ended short = absurd q
read_ended most (Some all) (Some left) (Some after) read piece p q none ended short =
    let nothing : piece ≡ [] = nil_from_length piece none in
    let whole : all ≡ read = p ∙ ap (λ (w : List ℕ). read ++ w) (q ∙ rw (nothing, ended) refl) ∙ append-nil read in
    rw whole (sym (take_all (most + 1) read (omega arith)))

-- more is read than a script may have
pub read_past : (most : ℕ) (a b : Option (List ℕ)) (read : List ℕ) → Consumes a b read → length read ≡ most + 1 → IfSome a (λ all. read ≡ take (most + 1) all)
read_past most None b read p long = tt
read_past most (Some all) None read p long = absurd p
read_past most (Some all) (Some left) read p long = rw p (sym (take_at read left (most + 1) long))
