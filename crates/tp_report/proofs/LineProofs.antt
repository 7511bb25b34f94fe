-- Lines that are written one after the other.
use Rattle.std.proofs.Common.{◌≡◌, ℕ, ◌+◌, ◌≤◌, zero, suc, List, [], ◌++◌, Option, refl, sym, ap, ◌∙◌, append-nil, append_assoc, arith, subst}
use Rattle.std.specs.Io.KnownBytes.{Appends}
use Rattle.tp_report.specs.Written.{AppendsFront}
use Rattle.tp_report.specs.Lines.{AreLines, IsLine, Writes, WritesFront}
use Rattle.tp_report.proofs.Devices.{Appends-none, Appends-then, front_of, front_then}

-- n lines, and m more
both : (n m : ℕ) (xs ys : List ℕ) → AreLines n xs → AreLines m ys → AreLines (n + m) (xs ++ ys)
both n zero xs ys p q =
    let same : n ≡ n + zero = omega arith in
    subst (λ (k : ℕ). AreLines k (xs ++ ys)) same (subst (λ (l : List ℕ). AreLines n (xs ++ l)) (sym q) (subst (AreLines n) (sym (append-nil xs)) p))
both n (suc m) xs ys p q =
    let more : AreLines (suc (n + m)) (xs ++ ys) = (xs ++ q.0, q.1, both n m xs q.0 p q.2, q.3, ap (λ (l : List ℕ). xs ++ l) q.4 ∙ sym (append_assoc xs q.0 q.1)) in
    let same : suc (n + m) ≡ n + suc m = omega arith in
    subst (λ (k : ℕ). AreLines k (xs ++ ys)) same more

pub no_lines : (a : Option (List ℕ)) → Writes 0 a a
no_lines a = ([], refl, Appends-none a)

pub lines_front : (n most : ℕ) (a b : Option (List ℕ)) → n ≤ most → Writes n a b → WritesFront most a b
lines_front n most a b few w = (n, w.0, few, w.1, front_of a b w.0 [] (w.0, sym (append-nil w.0), w.2))

pub nothing_written : (most : ℕ) (a : Option (List ℕ)) → WritesFront most a a
nothing_written most a = lines_front 0 most a a (omega arith) (no_lines a)

-- a line after n lines
added : (n : ℕ) (front last : List ℕ) → AreLines n front → IsLine last → AreLines (n + 1) (front ++ last)
added n front last lines is =
    let more : AreLines (suc n) (front ++ last) = (front, last, lines, is, refl) in
    let same : suc n ≡ n + 1 = omega arith in
    subst (λ (m : ℕ). AreLines m (front ++ last)) same more

pub line_more : (n : ℕ) (a b c : Option (List ℕ)) (last : List ℕ) → Writes n a b → IsLine last → Appends b c last → Writes (n + 1) a c
line_more n a b c last w is more = (w.0 ++ last, added n w.0 last w.1 is, Appends-then a b c w.0 last w.2 more)

pub line_front : (n most : ℕ) (a b c : Option (List ℕ)) (last : List ℕ) → n + 1 ≤ most → Writes n a b → IsLine last → AppendsFront b c last → WritesFront most a c
line_front n most a b c last few w is front = (n + 1, w.0 ++ last, few, added n w.0 last w.1 is, front_then a b c w.0 last w.2 front)
