-- The lines of a head, heard one after another.
use Rattle.std.proofs.Common.{◌≡◌, ◌∙◌, ℕ, ◌+◌, Bool, true, false, List, [], ◌∷◌, ◌++◌, None, Ok, map, refl, sym, ap, subst}
use Rattle.std.specs.Prelude.{codes}
use Rattle.std.specs.List.{AllByRecursion}
use Rattle.tp_answers.specs.Answer.{answer_text, line}
use Rattle.tp_answers.specs.declared.answer.Answer.TheVariants as answer
use Rattle.tp_lines.specs.Grammar.{line_said, line_words, words_said}
use Rattle.tp_lines.specs.HeadTexts.{head_text}
use Rattle.tp_lines.specs.Tags.{tag_in}
use Rattle.tp_lines.specs.Told.{IsFitLine}
use Rattle.tp_lines.specs.declared.line.HeadLine.TheVariants as heads
use Rattle.tp_lines.specs.declared.line.Command.TheVariants as commands
use Rattle.tp_lines.specs.declared.line.HeadLine.{HeadLine}
use Rattle.tp_lines.specs.declared.line.Line.TheVariants as lines
use Rattle.tp_lines.proofs.HeadReads.{told_and_read}
use Rattle.tp_store.specs.Calls.{alive_in}
use Rattle.tp_session.specs.Heads.{and_waits, awaits_restore, set, waiting_for}
use Rattle.tp_session.specs.Session.{has_begun, head_step, line_step, lines_step, quietly}
use Rattle.tp_session.specs.State.{SessionState}
use Rattle.tp_session.specs.declared.phase.Phase.{Phase}
use Rattle.tp_session.specs.declared.phase.Phase.TheVariants.{InHead, Restoring, Begun}
use Rattle.tp_session.proofs.TagLemmas.{step_by}

-- the same session, so far
abbrev pub at : Phase → SessionState → SessionState
at p s = record s { phase = p }

-- a line leads on, however far the session is
abbrev pub Step : HeadLine → SessionState → SessionState → Type 0
Step l s t = (p : Phase) → set l (at p s) ≡ Ok (at p t)

-- so do these, one after another
abbrev pub Leads : List HeadLine → SessionState → SessionState → Type 0
Leads [] s t = s ≡ t
Leads (l ∷ ls) s t = (m : SessionState) × Step l s m × Leads ls m t

pub leads_one : (l : HeadLine) (s t : SessionState) → Step l s t → Leads (l ∷ []) s t
leads_one l s t step = (t, step, refl)

pub leads_both : (xs ys : List HeadLine) (s t u : SessionState) → Leads xs s t → Leads ys t u → Leads (xs ++ ys) s u
leads_both [] ys s t u one two = subst (λ v. Leads ys v u) (sym one) two
leads_both (x ∷ xs) ys s t u one two = (one.0, one.1, leads_both xs ys one.0 t u one.2 two)

-- ---- heard in a head

-- nothing is told, and the head goes on
pub record IsHeard (told : List ℕ × SessionState) (t : SessionState) : Type 0 where
  pub phase : Phase
  pub goes_on : has_begun phase ≡ false
  pub is : told ≡ ([], at phase t)

waits : (w : Bool) (p : Phase) → has_begun p ≡ false → (t : SessionState) → (q : Phase) × (has_begun q ≡ false) × (waiting_for w (at p t) ≡ at q t)
waits true p head t = (Restoring, refl, refl)
waits false p head t = (p, head, refl)

in_head : (p : Phase) (l : HeadLine) (s t : SessionState) → has_begun p ≡ false → Step l s t → head_step p l (at p s) ≡ Ok ([], waiting_for (awaits_restore l) (at p t))
in_head InHead l s t head step = ap (λ r. quietly (and_waits (awaits_restore l) r)) (step InHead)
in_head Restoring l s t head step = ap (λ r. quietly (and_waits (awaits_restore l) r)) (step Restoring)
in_head Begun l s t head step = absurd cc

-- no line of a dump has a tag
untagged : (l : HeadLine) → tag_in (head_text l) ≡ None
untagged (heads.Limit n) = refl
untagged (heads.Max n) = refl
untagged (heads.Keep n) = refl
untagged (heads.Server server) = refl
untagged (heads.Start name k value) = refl
untagged (heads.Worker name stage) = refl
untagged (heads.Register name) = refl
untagged (heads.Renew name) = refl
untagged (heads.Numbers next units owners) = refl
untagged (heads.Element id e) = refl
untagged (heads.Over root) = refl
untagged (heads.Settled stage consumed killed) = refl
untagged (heads.Hand name id unit tries) = refl
untagged (heads.Prepared name) = refl
untagged (heads.Dropped name) = refl
untagged (heads.From name id) = refl
untagged (heads.Ended name how) = refl
untagged (heads.Client name note) = refl

one_heard : (n : ℕ) (p : Phase) (l : HeadLine) (s t : SessionState) → has_begun p ≡ false → IsFitLine l → Step l s t → IsHeard (line_step n (head_text l) (at p s)) t
one_heard n p l s t head fit step =
    let next = waits (awaits_restore l) p head t in
    record { phase = next.0; goes_on = next.1; is = step_by n (head_text l) (at p s) None (untagged l) ∙ rw (told_and_read l fit) (rw (in_head p l s t head step) (ap (λ x. ([], x)) next.2)) }

pub all_heard : (past : ℕ) (ls : List HeadLine) (p : Phase) (s t : SessionState) → has_begun p ≡ false → AllByRecursion IsFitLine ls → Leads ls s t → IsHeard (lines_step past (map head_text ls) (at p s)) t
all_heard past [] p s t head fit leads = record { phase = p; goes_on = head; is = ap (λ x. ([], at p x)) leads }
all_heard past (l ∷ ls) p s t head fit leads =
    let one = one_heard (past + 1) p l s leads.0 head fit.0 leads.1 in
    let rest = all_heard (past + 1) ls one.phase leads.0 t one.goes_on fit.1 leads.2 in
    record { phase = rest.phase; goes_on = rest.goes_on; is = rw one.is rest.is }

-- ---- `restore`

restore_said : line_said (codes "restore") ≡ Ok (lines.Do commands.Restore)
unfolding line_words words_said
restore_said = refl

pub restored : (n : ℕ) (p : Phase) (t : SessionState) → has_begun p ≡ false → line_step n (codes "restore") (at p t) ≡ (line (answer_text (answer.Restored (alive_in t.store))), at Begun t)
restored n InHead t head = step_by n (codes "restore") (at InHead t) None refl ∙ rw restore_said refl
restored n Restoring t head = step_by n (codes "restore") (at Restoring t) None refl ∙ rw restore_said refl
restored n Begun t head = absurd cc
