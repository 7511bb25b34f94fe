-- What is told: what is written of it, and what isn't yet.
use Rattle.std.proofs.Common.{◌≡◌, ℕ, List, [], ◌++◌, Option, refl, sym, ap, ◌∙◌, append_assoc}
use Rattle.std.specs.Io.KnownBytes.{Appends}
use Rattle.tp_report.specs.Written.{AppendsFront}
use Rattle.tp_report.proofs.Devices.{Appends-none, Appends-then}
use Rattle.tp_wire.specs.Heard.{Tells}

pub told_none : (a : Option (List ℕ)) (answers : List ℕ) → Tells a a answers answers
told_none a answers = ([], Appends-none a, refl)

-- of what was told more is written
pub told_then : (a b c : Option (List ℕ)) (now answers text : List ℕ) → Tells a b answers text → Tells b c now answers → Tells a c now text
told_then a b c now answers text p q = (p.0 ++ q.0, Appends-then a b c p.0 q.0 p.1 q.1, p.2 ∙ ap (λ w. p.0 ++ w) q.2 ∙ sym (append_assoc p.0 q.0 now))

-- more is told
pub told_more : (a b : Option (List ℕ)) (now answers text more : List ℕ) → now ≡ answers ++ more → Tells a b answers text → Tells a b now (text ++ more)
told_more a b now answers text more is p = (p.0, p.1, ap (λ w. w ++ more) p.2 ∙ append_assoc p.0 answers more ∙ ap (λ w. p.0 ++ w) (sym is))

-- a front of what was told is written
pub told_front : (a b c : Option (List ℕ)) (answers text : List ℕ) → Tells a b answers text → AppendsFront b c answers → AppendsFront a c text
told_front a b c answers text p q = (q.0, (p.0 ++ q.1.0, p.2 ∙ ap (λ w. p.0 ++ w) q.1.1 ∙ sym (append_assoc p.0 q.1.0 q.0), Appends-then a b c p.0 q.1.0 p.1 q.1.2))

-- so it is where no more is
pub told_so_far : (a b : Option (List ℕ)) (answers text : List ℕ) → Tells a b answers text → AppendsFront a b text
told_so_far a b answers text p = (answers, (p.0, p.2, p.1))

-- all of it is
pub told_all : (a b c : Option (List ℕ)) (answers text : List ℕ) → Tells a b answers text → Appends b c answers → Appends a c text
told_all a b c answers text p q = rw p.2 (Appends-then a b c p.0 answers p.1 q)

-- more is told, and all of it written, or a front
pub told_with : (a b c : Option (List ℕ)) (answers text more : List ℕ) → Tells a b answers text → Appends b c (answers ++ more) → Appends a c (text ++ more)
told_with a b c answers text more t p = told_all a b c (answers ++ more) (text ++ more) (told_more a b (answers ++ more) answers text more refl t) p

pub told_with_front : (a b c : Option (List ℕ)) (answers text more : List ℕ) → Tells a b answers text → AppendsFront b c (answers ++ more) → AppendsFront a c (text ++ more)
told_with_front a b c answers text more t p = told_front a b c (answers ++ more) (text ++ more) (told_more a b (answers ++ more) answers text more refl t) p
