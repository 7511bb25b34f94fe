-- What is written of a kept session, read after read.
use Rattle.std.proofs.Common.{◌≡◌, ◌∙◌, ℕ, List, [], ◌++◌, Option, Some, None, Ok, Err, refl, sym, ap, subst, append_assoc}
use Rattle.std.specs.Prelude.{IfSome, OnErr, Result}
use Rattle.std.specs.Io.KnownBytes.{Appends, Consumes, IsAtEnd}
use Rattle.tp_journal.specs.declared.device.Device as devices
use Rattle.tp_report.specs.Written.{AppendsFront}
use Rattle.tp_session.specs.Conversed.{step_of}
use Rattle.tp_wire.specs.Heard.{Tells}
use Rattle.tp_wire.proofs.ToldLemmas.{told_all, told_front, told_so_far, told_then}
use Rattle.tp_kept.specs.Kept.{Takes, coming, recovered_text, talk, written_to}
use Rattle.tp_kept.specs.Lines.{downs, ended}
use Rattle.tp_kept.specs.Lives.{Life, answers_of, goes_on}
use Rattle.tp_kept.specs.declared.kept.Kept.{Kept}
use Rattle.tp_kept.proofs.LivesLemmas.{answers_then}

module _ (cut counted : ℕ) where
  -- of all that is written to known bytes a front is, and what is left is answered to those that are left
  abbrev pub TellsLeft : Option (List ℕ) → Life → Option (List ℕ) → Life → Option (List ℕ) → Option (List ℕ) → Type 0
  TellsLeft None first left l before now = Unit {0}
  TellsLeft (Some bytes) first None l before now = ⊥
  TellsLeft (Some bytes) first (Some left) l before now = Tells before now (answers_of left l) (written_to cut counted bytes first)

  -- the front of it alone is written
  pub left_all : (come : Option (List ℕ)) (l : Life) (before now : Option (List ℕ)) → Appends before now (recovered_text cut counted) → TellsLeft come l come l before now
  left_all None l before now wrote = tt
  left_all (Some bytes) l before now wrote = (recovered_text cut counted, wrote, refl)

  pub greeted_front : (come : Option (List ℕ)) (l : Life) (before now : Option (List ℕ)) → AppendsFront before now (recovered_text cut counted) → IfSome come (λ bytes. AppendsFront before now (written_to cut counted bytes l))
  greeted_front None l before now front = tt
  greeted_front (Some bytes) l before now front = told_longer bytes front
    where
      told_longer : (bytes : List ℕ) → AppendsFront before now (recovered_text cut counted) → AppendsFront before now (written_to cut counted bytes l)
      told_longer bytes q = (q.0 ++ answers_of bytes l, (q.1.0, ap (λ w. w ++ answers_of bytes l) q.1.1 ∙ append_assoc q.1.0 q.0 (answers_of bytes l), q.1.2))

  -- after a fault
  pub left_front : (come left : Option (List ℕ)) (first l : Life) (before now : Option (List ℕ)) → TellsLeft come first left l before now → IfSome come (λ bytes. AppendsFront before now (written_to cut counted bytes first))
  left_front None left first l before now tells = tt
  left_front (Some bytes) None first l before now tells = absurd tells
  left_front (Some bytes) (Some b) first l before now tells = told_so_far before now (answers_of b l) (written_to cut counted bytes first) tells

  module _ {D : Type 0} {keeps : devices.Ghosts D} (old new : Kept D keeps) where
    -- bytes were read, taken, and what they were answered was written, or a front of it
    module _ (come : Option (List ℕ)) (first : Life) (rest rest' : Option (List ℕ)) (got text : List ℕ) (before now after : Option (List ℕ))
        (tells : TellsLeft come first (coming old.line.items rest) (talk old) before now) (read : Consumes rest rest' got) (takes : Takes got text old new) where
      answers_are : (more : List ℕ) → answers_of (downs old.line.items (got ++ more)) (talk old) ≡ text ++ answers_of (downs new.line.items more) (talk new)
      answers_are more =
          ap (λ b. answers_of b (talk old)) (takes.follows more) ∙ (answers_then takes.added (downs new.line.items more) (talk old) takes.whole
          ∙ (ap (λ t. t ++ answers_of (downs new.line.items more) (goes_on takes.added (talk old))) (sym takes.answers) ∙ ap (λ l. text ++ answers_of (downs new.line.items more) l) (sym takes.leads)))

      pub left_taken : Appends now after text → TellsLeft come first (coming new.line.items rest') (talk new) before after
      left_taken wrote = by come rest rest' tells read
        where
          by : (come rest rest' : Option (List ℕ)) → TellsLeft come first (coming old.line.items rest) (talk old) before now → Consumes rest rest' got → TellsLeft come first (coming new.line.items rest') (talk new) before after
          by None rest rest' t r = tt
          by (Some bytes) None rest' t r = absurd t
          by (Some bytes) (Some x) None t r = absurd r
          by (Some bytes) (Some x) (Some y) t r =
              told_then before now after (answers_of (downs new.line.items y) (talk new)) (answers_of (downs old.line.items x) (talk old)) (written_to cut counted bytes first) t
              (text, wrote, ap (λ z. answers_of (downs old.line.items z) (talk old)) r ∙ answers_are y)

      pub left_taken_front : AppendsFront now after text → IfSome come (λ bytes. AppendsFront before after (written_to cut counted bytes first))
      left_taken_front front = by come rest rest' tells read
        where
          by : (come rest rest' : Option (List ℕ)) → TellsLeft come first (coming old.line.items rest) (talk old) before now → Consumes rest rest' got → IfSome come (λ bytes. AppendsFront before after (written_to cut counted bytes first))
          by None rest rest' t r = tt
          by (Some bytes) None rest' t r = absurd t
          by (Some bytes) (Some x) None t r = absurd r
          by (Some bytes) (Some x) (Some y) t r =
              told_front before now after (answers_of (downs old.line.items x) (talk old)) (written_to cut counted bytes first) t
              (subst (AppendsFront now after) (sym (ap (λ z. answers_of (downs old.line.items z) (talk old)) r ∙ answers_are y)) (longer (answers_of (downs new.line.items y) (talk new))))
            where
              longer : (more : List ℕ) → AppendsFront now after (text ++ more)
              longer more = (front.0 ++ more, (front.1.0, ap (λ w. w ++ more) front.1.1 ∙ append_assoc front.1.0 front.0 more, front.1.2))

    -- the end was read, and all is told
    module _ (come : Option (List ℕ)) (first : Life) (rest rest' : Option (List ℕ)) (text : List ℕ) (before now after : Option (List ℕ))
        (tells : TellsLeft come first (coming old.line.items rest) (talk old) before now) (read : Consumes rest rest' []) (end : IsAtEnd rest') (is : text ≡ answers_of (ended old.line.items) (talk old)) where
      pub left_over : Appends now after text → IfSome come (λ bytes. Appends before after (written_to cut counted bytes first))
      left_over wrote = by come rest rest' tells read end
        where
          by : (come rest rest' : Option (List ℕ)) → TellsLeft come first (coming old.line.items rest) (talk old) before now → Consumes rest rest' [] → IsAtEnd rest' → IfSome come (λ bytes. Appends before after (written_to cut counted bytes first))
          by None rest rest' t r e = tt
          by (Some bytes) None rest' t r e = absurd t
          by (Some bytes) (Some x) None t r e = absurd r
          by (Some bytes) (Some x) (Some y) t r e =
              told_all before now after (answers_of (downs old.line.items x) (talk old)) (written_to cut counted bytes first) t (subst (Appends now after) (is ∙ ap (λ z. answers_of (downs old.line.items z) (talk old)) (sym (r ∙ e))) wrote)

      pub left_over_front : AppendsFront now after text → IfSome come (λ bytes. AppendsFront before after (written_to cut counted bytes first))
      left_over_front front = by come rest rest' tells read end
        where
          by : (come rest rest' : Option (List ℕ)) → TellsLeft come first (coming old.line.items rest) (talk old) before now → Consumes rest rest' [] → IsAtEnd rest' → IfSome come (λ bytes. AppendsFront before after (written_to cut counted bytes first))
          by None rest rest' t r e = tt
          by (Some bytes) None rest' t r e = absurd t
          by (Some bytes) (Some x) None t r e = absurd r
          by (Some bytes) (Some x) (Some y) t r e =
              told_front before now after (answers_of (downs old.line.items x) (talk old)) (written_to cut counted bytes first) t (subst (AppendsFront now after) (is ∙ ap (λ z. answers_of (downs old.line.items z) (talk old)) (sym (r ∙ e))) front)

-- what holds holds where a call has failed too
pub on_err : {T E P : Type 0} (r : Result T E) → P → OnErr r P
on_err (Ok x) p = tt
on_err (Err e) p = p

pub on_err_weaker : {T E P Q : Type 0} (r : Result T E) → (P → Q) → OnErr r P → OnErr r Q
on_err_weaker (Ok x) f p = tt
on_err_weaker (Err e) f p = f p
