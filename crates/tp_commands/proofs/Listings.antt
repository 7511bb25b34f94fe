-- Listings and counts that are made of calls, one after another.
use Rattle.std.proofs.Common.{◌≡◌, ℕ, suc, ◌+◌, List, [], ◌∷◌, ◌++◌, refl, sym, ap, subst, arith}
use Rattle.tp_model.specs.declared.types.Counts.{Counts}
use Rattle.tp_model.specs.declared.types.Limits.{Limits}
use Rattle.tp_model.specs.declared.types.Status.{Status}
use Rattle.tp_model.specs.declared.types.Status.TheVariants as status
use Rattle.tp_model.specs.Accounts.{all_in, one_more}
use Rattle.tp_manager.specs.Shown.{PassShown}
use Rattle.tp_report.specs.declared.answer.Answer.{Answer}
use Rattle.tp_commands.specs.Asked.{TellsCount, TellsRead, with_read}

-- lists that grow at their end
module _ {A : Type 0} where
  append_one : (xs : List A) (x : A) (ys : List A) → (xs ++ x ∷ []) ++ ys ≡ xs ++ x ∷ ys
  append_one [] x ys = refl
  append_one (z ∷ xs) x ys = ap (λ zs. z ∷ zs) (append_one xs x ys)

  append_none : (xs : List A) → xs ++ [] ≡ xs
  append_none [] = refl
  append_none (x ∷ xs) = ap (λ zs. x ∷ zs) (append_none xs)

  -- one more was found, after which comes what is found from there on
  pub one_more_found : (Now Next Whole : List A → PassShown → Type 0) (found : List A) (x : A)
      → ((more : List A) (last : PassShown) → Now more last → Whole (found ++ more) last)
      → ((more : List A) (last : PassShown) → Next more last → Now (x ∷ more) last)
      → (more : List A) (last : PassShown) → Next more last → Whole ((found ++ x ∷ []) ++ more) last
  one_more_found Now Next Whole found x so_far one more last rest =
      subst (λ xs. Whole xs last) (sym (append_one found x more)) (so_far (x ∷ more) last (one more last rest))

  -- none after the last
  pub no_more_found : (Now Whole : List A → PassShown → Type 0) (found : List A) (last : PassShown)
      → ((more : List A) (last : PassShown) → Now more last → Whole (found ++ more) last) → Now [] last → Whole found last
  no_more_found Now Whole found last so_far none = subst (λ xs. Whole xs last) (append_none found) (so_far [] last none)

-- one element more is counted
pub one_counted : (s : Status) (c : Counts) → all_in (one_more s c) ≡ all_in c + 1
one_counted (status.Waiting n) c = omega arith
one_counted (status.Held u n) c = omega arith
one_counted (status.Consumed u) c = omega arith
one_counted (status.Parked n) c = omega arith
one_counted status.Killed c = omega arith

-- one read more
pub read_counted : (l : Limits) (id : ℕ) (old mid new : PassShown) (before c : Counts) (a : Answer) → TellsCount l id old before mid → TellsRead l id mid new a → c ≡ with_read a before → TellsCount l (id + 1) old c new
read_counted l id old mid new before c a below read is =
    let same : suc id ≡ id + 1 = omega arith in
    let more : TellsCount l (suc id) old c new = (before, mid, a, below, read, is) in
    subst (λ (n : ℕ). TellsCount l n old c new) same more
