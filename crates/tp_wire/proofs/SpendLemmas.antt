-- How often a reader of known bytes is asked.
use Rattle.std.proofs.Common.{◌≡◌, ◌∙◌, ◌==◌, ◌≤◌, ◌+◌, ◌++◌, ℕ, zero, suc, Bool, true, false, not, sym, List, [], ◌∷◌, Option, Some, None, refl, ap, arith, length}
use Rattle.std.specs.Io.KnownBytes.{Consumes}
use Rattle.std.proofs.lemmas.List.{length-append, length-take}
use Rattle.tp_wire.specs.Heard.{ReadsLine}
use Rattle.tp_wire.specs.Reading.{IsLong, Spends, TakesLine, besides, to_come, unused}
use Rattle.tp_wire.specs.declared.reading.Lines.{Lines}
use Rattle.tp_wire.specs.declared.reading.TheConstants.{MAX_KEPT}

-- each time that it was asked it gave a byte, but for so many
abbrev pub Gave : ℕ → Lines → Option (List ℕ) → Lines → Option (List ℕ) → Type 0
Gave n old None new after = Unit {0}
Gave n old (Some before) new None = ⊥
Gave n old (Some before) new (Some after) = old.left + length after ≤ new.left + length before + n

pub spends_none : (l : Lines) (rest : Option (List ℕ)) → Spends 0 l rest l rest
spends_none l None = tt
spends_none l (Some bytes) = omega arith

-- it was asked once more, and gave some bytes or none
pub gave_more : (old cur part new : Lines) (before rest after : Option (List ℕ)) → Gave 0 old before cur rest → part.left ≡ cur.left → new.left + 1 ≡ part.left → unused part ≡ []
    → Consumes (to_come part rest) (to_come new after) [] → 1 ≤ length (unused new) → Gave 0 old before new after
gave_more old cur part new None rest after gave left once used same some = tt
gave_more old cur part new (Some before) None after gave left once used same some = absurd gave
gave_more old cur part new (Some before) (Some rest) None gave left once used same some = absurd same
gave_more old cur part new (Some before) (Some rest) (Some after) gave left once used same some =
    omega (arith, gave, left, once, some, ap length same, length-append (unused part) rest, length-append (unused new) after, ap length used)

pub gave_last : (old cur part new : Lines) (before rest after : Option (List ℕ)) → Gave 0 old before cur rest → part.left ≡ cur.left → new.left + 1 ≡ part.left → unused part ≡ []
    → Consumes (to_come part rest) (to_come new after) [] → Gave 1 old before new after
gave_last old cur part new None rest after gave left once used same = tt
gave_last old cur part new (Some before) None after gave left once used same = absurd gave
gave_last old cur part new (Some before) (Some rest) None gave left once used same = absurd same
gave_last old cur part new (Some before) (Some rest) (Some after) gave left once used same =
    omega (arith, gave, left, once, ap length same, length-append (unused part) rest, length-append (unused new) after, ap length used)

-- a whole line is taken
pub whole_spends : (old cur new : Lines) (before rest : Option (List ℕ)) (kept : List ℕ) → Gave 0 old before cur rest → new.left ≡ cur.left → ReadsLine (to_come old before) (to_come cur rest) kept → TakesLine true cur new
    → Spends 0 old before new rest
whole_spends old cur new None rest kept gave left read took = tt
whole_spends old cur new (Some before) None kept gave left read took = absurd gave
whole_spends old cur new (Some before) (Some rest) kept gave left read took =
    omega (arith, gave, left, ap length read.consumed, ap length took.taken, length-append (unused old) before, length-append (unused cur) rest, length-append (unused new) rest, length-append read.bytes (unused cur ++ rest), length-append took.bytes (10 ∷ unused new))

-- the bytes behind the last line's end are taken, or there are none
pub last_spends : (old new : Lines) (before after : Option (List ℕ)) (kept : List ℕ) (more : Bool) → Gave 1 old before new after → ReadsLine (to_come old before) (to_come new after) kept → (more ≡ true → 1 ≤ length kept)
    → Spends (besides more) old before new after
last_spends old new None after kept more gave read some = tt
last_spends old new (Some before) None kept more gave read some = absurd gave
last_spends old new (Some before) (Some after) kept true gave read some =
    omega (arith, gave, some refl, ap length read.kept_is, length-take MAX_KEPT read.bytes, ap length read.consumed, length-append (unused old) before, length-append (unused new) after, length-append read.bytes (unused new ++ after))
last_spends old new (Some before) (Some after) kept false gave read some =
    omega (arith, gave, ap length read.consumed, length-append (unused old) before, length-append (unused new) after, length-append read.bytes (unused new ++ after))

-- something is kept, as the code tests it
pub some_kept : (n : ℕ) (b more : Bool) → b ≡ not (n == 0) → b ≡ more → more ≡ true → 1 ≤ n
some_kept zero b more is also e = absurd (none_kept (sym is ∙ (also ∙ e)))
  where
    none_kept : false ≡ true → ⊥
    none_kept e = cc
some_kept (suc n) b more is also e = omega arith

-- it may not be asked again
pub gave_long : (old cur : Lines) (before rest : Option (List ℕ)) → Gave 0 old before cur rest → cur.left ≡ 0 → IsLong old before
gave_long old cur None rest gave none = tt
gave_long old cur (Some before) None gave none = absurd gave
gave_long old cur (Some before) (Some rest) gave none = omega (arith, gave, none)

-- ---- several lines

pub spends_then : (n m : ℕ) (a b c : Lines) (x y z : Option (List ℕ)) → n ≤ m → Spends 0 a x b y → Spends n b y c z → Spends m a x c z
spends_then n m a b c None y z few p q = tt
spends_then n m a b c (Some x) None z few p q = absurd p
spends_then n m a b c (Some x) (Some y) None few p q = absurd q
spends_then n m a b c (Some x) (Some y) (Some z) few p q = omega (arith, few, p, q)

-- the same of lines that were told something since
pub spends_same : (n : ℕ) (a b c : Lines) (x y : Option (List ℕ)) → Spends n a x b y → c.left ≡ b.left → unused c ≡ unused b → Spends n a x c y
spends_same n a b c None y p left same = tt
spends_same n a b c (Some x) None p left same = absurd p
spends_same n a b c (Some x) (Some y) p left same = omega (arith, p, left, ap length same, length-append (unused b) y, length-append (unused c) y)

-- ---- in the place of a fault
