-- Counting the elements row by row.
use Rattle.std.proofs.Common.{◌≡◌, ℕ, zero, suc, ◌+◌, ◌<◌, ◌≤◌, List, [], ◌∷◌, ◌++◌, length, sym, refl, ap, ◌∙◌, subst, arith, Some, length-append}
use mathlib.Core.List.{IsPrefix}
use mathlib.Core.Logic.{dite}
use native.Mathlib.Decide.{dec_le}
use Rattle.tp_model.specs.declared.types.Account.{Account}
use Rattle.tp_model.specs.declared.types.Limits.{Limits}
use Rattle.tp_model.specs.declared.types.Element.{Element}
use Rattle.tp_model.specs.declared.types.Status.{Status}
use Rattle.tp_model.specs.declared.event.Event.{Event}
use Rattle.tp_model.specs.Accounts.{account_among, elements_below}
use Rattle.tp_model.specs.History.{IsUnborn, born, element_of, status_of}
use Rattle.tp_model.specs.Steps.{IsLegal, IsStage}
use Rattle.tp_model.proofs.Bridges.{append_nil, element_of-id, find_in}
use Rattle.tp_model.proofs.RowTallies.{row_empty, row_full}
use Rattle.tp_model.proofs.Stages.{account_last, born_staged}
use Rattle.tp_rule.specs.Words.{head_of}
use Rattle.tp_rule.specs.declared.packing.Head.TheVariants.{Filled}
use Rattle.tp_manager.specs.Looks.{IsBornAs}
use Rattle.tp_manager.specs.Together.{IsWithin, account_below, no_counts, with_one}
use Rattle.tp_manager.specs.declared.row_reads.Birth.{Birth}

-- what is within a bound is within a greater one
pub within_more : (n m : ℕ) (a : Account) → n ≤ m → IsWithin n a → IsWithin m a
within_more n m a le w = record {
  total = let few = w.total in omega arith;
  stages = λ k c less. let few = w.stages k c less in omega arith;
  wide = w.wide;
}

-- the element whose head this is has its stage
same_stage : (x : Element) (b : Birth) → head_of x ≡ Filled b.stage b.root b.by → x.stage ≡ b.stage
same_stage x b e = cc

stage_of : (l : Limits) (h : List Event) (i : ℕ) (x : Element) → IsLegal l h → element_of h i ≡ Some x → IsStage x.stage
stage_of l h i x legal at = born_staged l h legal x (find_in i (born h) x at).0

pub stage_there : (l : Limits) (h : List Event) (i : ℕ) (b : Birth) → IsLegal l h → IsBornAs h i b → IsStage b.stage
stage_there l h i b legal t = subst IsStage (same_stage t.0 b t.2) (stage_of l h i t.0 legal t.1)

-- a row without an element adds nothing
pub none_counted : (l : Limits) (h : List Event) (n : ℕ) → IsUnborn h n → account_below l h n ≡ account_below l h (n + 1)
none_counted l h n none = ap (account_among l.attempts h) (sym (row_empty h n none))

pub none_more : (l : Limits) (h : List Event) (n m : ℕ) → n ≤ m → ((i : ℕ) → n ≤ i → i < m → IsUnborn h i) → account_below l h n ≡ account_below l h m
none_more l h n zero le none = let same : n ≡ zero = omega arith in ap (account_below l h) same
none_more l h n (suc m) le none = dite (dec_le n m)
    (λ less. none_more l h n m less (λ i low high. none i low (omega arith)) ∙ (none_counted l h m (none m less (omega arith)) ∙ ap (account_below l h) (let e : m + 1 ≡ suc m = omega arith in e)))
    (λ not. let same : n ≡ suc m = omega arith in ap (account_below l h) same)

-- and one with an element adds that
pub one_counted : (l : Limits) (h : List Event) (n : ℕ) (b : Birth) (s : Status) (a : Account) → IsLegal l h → IsBornAs h n b → s ≡ status_of l.attempts h n → a ≡ account_below l h n → with_one b.stage s a ≡ account_below l h (n + 1)
one_counted l h n b s a legal t is before =
    let x : Element = t.0 in
    let stands : s ≡ status_of l.attempts h x.id = is ∙ ap (status_of l.attempts h) (sym (element_of-id h n x t.1)) in
    ap (λ z. with_one z s a) (sym (same_stage x b t.2)) ∙ (ap (λ z. with_one x.stage z a) stands
    ∙ (account_last l.attempts h (elements_below h n) x a _ no_counts (stage_of l h n x legal t.1) before refl ∙ ap (account_among l.attempts h) (sym (row_full h n x t.1))))

pub none_left : {A : Type 0} (xs : List A) → length xs ≡ 0 → xs ≡ []
none_left [] e = refl
none_left (x ∷ xs) e = absurd (omega arith)

-- what lies between a list and itself is that list
pub squeezed : (a b c : List Event) → IsPrefix a b → IsPrefix b c → c ≡ a → b ≡ a
squeezed a b c p q same =
    let one = length-append (a ++ p.0) q.0 in
    let two = length-append a p.0 in
    let all : length ((a ++ p.0) ++ q.0) ≡ length a = ap length (ap (λ z. z ++ q.0) p.1 ∙ (q.1 ∙ same)) in
    sym p.1 ∙ (ap (λ z. a ++ z) (none_left p.0 (omega arith)) ∙ append_nil a)
