-- The lines of a dump, put together.
use Rattle.std.proofs.Common.{◌≡◌, ◌∙◌, ℕ, zero, suc, ◌+◌, List, [], ◌∷◌, ◌++◌, Some, refl, sym, ap, append_assoc, arith, length, map, take}
use Rattle.std.specs.Prelude.{slice_get}
use Rattle.std.proofs.lemmas.List.{map-append}
use Rattle.std.specs.Prelude.{OnOk, Result}
use Rattle.std.specs.List.{flat_map}
use Rattle.std.proofs.lemmas.Result.{on_ok_weaker}
use Rattle.std.proofs.lemmas.List.{length-append}
use Rattle.std.proofs.lemmas.Grind.{flat_map-append}
use Rattle.std.specs.Prelude.{codes, false}
use Rattle.tp_answers.specs.Answer.{line}
use Rattle.tp_lines.specs.HeadTexts.{head_text}
use Rattle.tp_lines.specs.declared.line.HeadLine.{HeadLine}
use Rattle.tp_session.specs.Dumps.{DumpSoFar, and_lines, dump_bytes, dump_lines, dumped, over_line}
use Rattle.tp_session.specs.State.{SessionState}

pub and_append : (a b : List HeadLine) (d : DumpSoFar) → and_lines (a ++ b) d ≡ and_lines b (and_lines a d)
and_append a b d =
    let one = dumped d.is_quoted in
    ap (λ t. record { is_quoted = d.is_quoted; text = t; many = d.many + length (a ++ b) }) (ap (λ w. d.text ++ w) (flat_map-append one a b) ∙ sym (append_assoc d.text (flat_map one a) (flat_map one b)))
    ∙ ap (λ n. record { is_quoted = d.is_quoted; text = (d.text ++ flat_map one a) ++ flat_map one b; many = n }) (omega (arith, length-append a b))

-- these, and then those
pub and_then : (a b : List HeadLine) (old mid new : DumpSoFar) → mid ≡ and_lines a old → new ≡ and_lines b mid → new ≡ and_lines (a ++ b) old
and_then a b old mid new p q = q ∙ ap (and_lines b) p ∙ sym (and_append a b old)

-- the same of the last ones, where they were told
pub and_last : {T E : Type 0} (r : Result T E) (a b : List HeadLine) (old mid new : DumpSoFar) → mid ≡ and_lines a old → OnOk r (new ≡ and_lines b mid) → OnOk r (new ≡ and_lines (a ++ b) old)
and_last r a b old mid new p last = on_ok_weaker r (λ q. and_then a b old mid new p q) last

-- one more of the requests that are over

pub take_more : {A : Type 0} (xs : List A) (k : ℕ) (x : A) → slice_get xs k ≡ Some x → take (suc k) xs ≡ take k xs ++ x ∷ []
take_more [] zero x is = absurd cc
take_more [] (suc k) x is = absurd cc
take_more (y ∷ ys) zero x is = cc
take_more (y ∷ ys) (suc k) x is = ap (λ l. y ∷ l) (take_more ys k x is)

next_is : (k : ℕ) (ended : List ℕ) → take (suc k) ended ≡ take (k + 1) ended
next_is k ended = let same : suc k ≡ k + 1 = omega arith in ap (λ n. take n ended) same

pub over_more : (ended : List ℕ) (k root : ℕ) (old mid new : DumpSoFar) → slice_get ended k ≡ Some root → mid ≡ and_lines (map over_line (take k ended)) old → new ≡ and_lines (over_line root ∷ []) mid
    → new ≡ and_lines (map over_line (take (k + 1) ended)) old
over_more ended k root old mid new is p q =
    and_then (map over_line (take k ended)) (over_line root ∷ []) old mid new p q
    ∙ ap (λ ls. and_lines ls old) (sym (map-append over_line (take k ended) (root ∷ [])) ∙ ap (map over_line) (sym (take_more ended k root is) ∙ next_is k ended))

-- ---- the text of all of them

unquoted : (ls : List HeadLine) → flat_map (dumped false) ls ≡ flat_map line (map head_text ls)
unquoted [] = refl
unquoted (l ∷ ls) = ap (λ t. line (head_text l) ++ t) (unquoted ls)

pub dump_bytes_are : (s : SessionState) (text : List ℕ) → text ≡ flat_map (dumped false) (dump_lines s) ++ codes "restore\n" → text ≡ dump_bytes s
dump_bytes_are s text is =
    is ∙ (ap (λ t. t ++ codes "restore\n") (unquoted (dump_lines s)) ∙ sym (flat_map-append line (map head_text (dump_lines s)) (codes "restore" ∷ [])))
