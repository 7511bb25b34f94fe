-- Writing in pieces.
use Rattle.std.proofs.Common.{ℕ, List, [], ◌++◌, take, drop, Option, Some, None, refl, sym, ap, ◌∙◌, append_assoc}
use Rattle.std.specs.Prelude.{IfSome, OnErr, Result, Ok, Err}
use Rattle.std.proofs.lemmas.List.{append-nil, take-append-drop}
use Rattle.std.specs.Io.KnownBytes.{Appends}
use Rattle.tp_report.specs.Written.{IsWrittenUpTo, AppendsFront}

pub Appends-then : (a b c : Option (List ℕ)) (xs ys : List ℕ) → Appends a b xs → Appends b c ys → Appends a c (xs ++ ys)
Appends-then None b c xs ys p q = tt
Appends-then (Some x) None c xs ys p q = absurd p
Appends-then (Some x) (Some y) None xs ys p q = absurd q
Appends-then (Some x) (Some y) (Some z) xs ys p q = q ∙ ap (λ (w : List ℕ). w ++ ys) p ∙ append_assoc x xs ys

pub Appends-none : (a : Option (List ℕ)) → Appends a a []
Appends-none None = tt
Appends-none (Some x) = sym (append-nil x)

-- one more write
pub written_more : (a b c : Option (List ℕ)) (bytes rest : List ℕ) (n : ℕ) → IsWrittenUpTo a b bytes rest → Appends b c (take n rest) → IsWrittenUpTo a c bytes (drop n rest)
written_more a b c bytes rest n so_far more =
    (so_far.0 ++ take n rest, so_far.1 ∙ ap (λ (w : List ℕ). so_far.0 ++ w) (sym (take-append-drop n rest)) ∙ sym (append_assoc so_far.0 (take n rest) (drop n rest)), Appends-then a b c so_far.0 (take n rest) so_far.2 more)

-- ---- writing one line after the other

pub front_of : (a b : Option (List ℕ)) (bytes rest : List ℕ) → IsWrittenUpTo a b bytes rest → AppendsFront a b bytes
front_of a b bytes rest so_far = (rest, so_far)

-- a whole line more
pub written_line : (a b c : Option (List ℕ)) (bytes line after : List ℕ) → IsWrittenUpTo a b bytes (line ++ after) → Appends b c line → IsWrittenUpTo a c bytes after
written_line a b c bytes line after so_far more =
    (so_far.0 ++ line, so_far.1 ∙ sym (append_assoc so_far.0 line after), Appends-then a b c so_far.0 line so_far.2 more)

-- a prefix of a line more
pub front_more : (a b c : Option (List ℕ)) (bytes line after : List ℕ) → IsWrittenUpTo a b bytes (line ++ after) → AppendsFront b c line → AppendsFront a c bytes
front_more a b c bytes line after so_far more =
    (more.0 ++ after, (so_far.0 ++ more.1.0, so_far.1 ∙ ap (λ (w : List ℕ). so_far.0 ++ (w ++ after)) more.1.1 ∙ ap (λ (w : List ℕ). so_far.0 ++ w) (append_assoc more.1.0 more.0 after) ∙ sym (append_assoc so_far.0 more.1.0 (more.0 ++ after)), Appends-then a b c so_far.0 more.1.0 so_far.2 more.1.2))

pub always_err : {T E P : Type 0} (r : Result T E) → P → OnErr r P
always_err (Ok x) p = tt
always_err (Err e) p = p

-- the last line
pub front_last : (a b c : Option (List ℕ)) (bytes line : List ℕ) → IsWrittenUpTo a b bytes line → AppendsFront b c line → AppendsFront a c bytes
front_last a b c bytes line so_far more =
    let here : IsWrittenUpTo a b bytes (line ++ []) = rw append-nil so_far in
    front_more a b c bytes line [] here more

pub written_last : (a b c : Option (List ℕ)) (bytes line : List ℕ) → IsWrittenUpTo a b bytes line → Appends b c line → Appends a c bytes
written_last a b c bytes line so_far more = rw so_far.1 (Appends-then a b c so_far.0 line so_far.2 more)

pub front_none : (a : Option (List ℕ)) (bytes : List ℕ) → AppendsFront a a bytes
front_none a bytes = (bytes, ([], refl, Appends-none a))

pub if_some : {A : Type 0} (o : Option A) (P : A → Type 0) → ((x : A) → P x) → IfSome o P
if_some None P h = tt
if_some (Some x) P h = h x

-- a prefix of what follows is a prefix of the whole
pub front_then : (a b c : Option (List ℕ)) (xs ys : List ℕ) → Appends a b xs → AppendsFront b c ys → AppendsFront a c (xs ++ ys)
front_then a b c xs ys p q = (q.0, (xs ++ q.1.0, ap (λ (w : List ℕ). xs ++ w) q.1.1 ∙ sym (append_assoc xs q.1.0 q.0), Appends-then a b c xs q.1.0 p q.1.2))
