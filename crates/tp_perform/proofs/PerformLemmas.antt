-- What a script asks for, done one act after another.
use Rattle.std.proofs.Common.{◌≡◌, ◌∙◌, ℕ, ◌+◌, ◌<◌, List, [], ◌∷◌, ◌++◌, refl, sym, ap, subst, arith, append-nil, append_assoc, length, take, get_or, inl, inr, Option}
use Rattle.std.specs.Prelude.{IfSome, None, Some, Result, Ok, Err}
use Rattle.std.specs.Io.KnownBytes.{Appends}
use Rattle.std.proofs.lemmas.List.{take_more}
use Rattle.std.proofs.lemmas.List.Sums.{sum_by-cons}
use Rattle.tp_report.specs.Answer.{line}
use Rattle.tp_report.specs.Written.{AppendsFront}
use Rattle.tp_report.specs.declared.fault.Exit.TheVariants as exits
use Rattle.tp_report.specs.declared.fault.Fault.{Fault}
use Rattle.tp_report.specs.declared.fault.Fault.TheVariants as faults
use Rattle.tp_report.proofs.Devices.{front_none}
use Rattle.tp_script.specs.Fault.{refused_text}
use Rattle.tp_script.specs.declared.fault.Refused.{Refused}
use Rattle.tp_script.specs.Passes.{racers, racing}
use Rattle.tp_script.specs.Script.{ScriptView, script_view}
use Rattle.tp_script.specs.declared.head.Act.{Act}
use Rattle.tp_script.specs.declared.head.Head.{Head}
use Rattle.tp_script.specs.declared.whole.Script.{Script}
use Rattle.tp_commands.specs.Scenes.{Stand}
use Rattle.tp_perform.specs.Left.{OrSame}
use Rattle.tp_perform.specs.Standing.{ActTold}
use Rattle.tp_perform.specs.Performed.{ActsDone, ActsTold, Ran, Report, ReportFront}

-- ---- one act more

acts_more : (head : Head) (raced raced' : ℕ) (all : List Act) (a : Act) (old mid new : Stand) (text last : List ℕ) → raced' ≡ raced + racing all
    → ActsTold head raced all old text mid → ActTold head raced' a mid last new → ActsTold head raced (all ++ a ∷ []) old (text ++ last) new
acts_more head raced raced' [] a old mid new text last is so_far one =
    let same : raced' ≡ raced = is ∙ omega arith in
    (last, [], new, subst (λ k. ActTold head k a old last new) same (subst (λ l. ActTold head raced' a l last new) so_far.1 one), (refl, refl), ap (λ t. t ++ last) so_far.0 ∙ sym (append-nil last))
acts_more head raced raced' (b ∷ others) a old mid new text last is so_far one =
    let next : raced' ≡ raced + racers b + racing others = omega (arith, is, sum_by-cons racers b others) in
    (so_far.0, so_far.1 ++ last, so_far.2, so_far.3, acts_more head (raced + racers b) raced' others a so_far.2 mid new so_far.1 last next so_far.4 one, ap (λ t. t ++ last) so_far.5 ∙ append_assoc so_far.0 so_far.1 last)

pub acts_next : (head : Head) (all : List Act) (i raced : ℕ) (d : Act) (old mid new : Stand) (text last : List ℕ) → i < length all → raced ≡ racing (take i all)
    → ActsTold head 0 (take i all) old text mid → ActTold head raced (get_or all i d) mid last new → ActsTold head 0 (take (i + 1) all) old (text ++ last) new
acts_next head all i raced d old mid new text last within is so_far one =
    subst (λ zs. ActsTold head 0 zs old (text ++ last) new) (sym (take_more all i d within)) (acts_more head 0 raced (take i all) (get_or all i d) old mid new text last (omega (arith, is)) so_far one)

-- some were done, and then one more or none
pub acts_done : (s : Script) (i raced : ℕ) (d : Act) (old mid new : Stand) (text : List ℕ) → i < length s.acts.items → raced ≡ racing (take i s.acts.items) → ActsTold s.head 0 (take i s.acts.items) old text mid
    → OrSame (λ a b. (last : List ℕ) × ActTold s.head raced (get_or s.acts.items i d) a last b) mid new → ActsDone s old new (λ t. Unit {0})
acts_done s i raced d old mid new text within is so_far (inl same) = record {
  many = i;
  text = text;
  acts = subst (λ l. ActsTold s.head 0 (take i s.acts.items) old text l) (sym same) so_far;
  told = tt;
}
acts_done s i raced d old mid new text within is so_far (inr one) = record {
  many = i + 1;
  text = text ++ one.0;
  acts = acts_next s.head s.acts.items i raced d old mid new text one.0 within is so_far one.1;
  told = tt;
}

-- ---- the whole run

pub some_weaker : {A : Type 0} (o : Option A) (P Q : A → Type 0) → ((x : A) → P x → Q x) → IfSome o P → IfSome o Q
some_weaker None P Q so p = tt
some_weaker (Some x) P Q so p = so x p

pub ran_done : (read : Result ScriptView Refused) (s : Script) (a b : Option (List ℕ)) → Report s (Appends a b) → read ≡ Ok (script_view s) → Ran (Ok exits.Done) read a b
ran_done read s a b report is = subst (λ r. Ran (Ok exits.Done) r a b) (sym is) (s, refl, report)

pub ran_fault : (read : Result ScriptView Refused) (s : Script) (fault : Fault) (a b : Option (List ℕ)) → (fault ≡ faults.Read → ⊥) → ReportFront s (AppendsFront a b) → read ≡ Ok (script_view s) → Ran (Err fault) read a b
ran_fault read s faults.NoMemory a b other front is = subst (λ r. Ran (Err faults.NoMemory) r a b) (sym is) (inr (s, refl, front))
ran_fault read s faults.Write a b other front is = subst (λ r. Ran (Err faults.Write) r a b) (sym is) (inr (s, refl, front))
ran_fault read s faults.Read a b other front is = absurd (other refl)

pub ran_none : (read : Result ScriptView Refused) (a : Option (List ℕ)) → Ran (Err faults.NoMemory) read a a
ran_none (Ok v) a = inl (front_none a [])
ran_none (Err refused) a = front_none a (line (refused_text refused))
