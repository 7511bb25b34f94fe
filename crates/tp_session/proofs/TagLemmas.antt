-- Lines behind tags.
use Rattle.std.proofs.Common.{◌≡◌, ◌∙◌, ℕ, zero, suc, ◌<◌, ◌==◌, Bool, List, [], ◌∷◌, Option, Some, None, Err, if◌then◌else◌, refl, sym, ap, arith, drop, length, nat_le, take, inl, inr, ◌+◌}
use Rattle.std.proofs.lemmas.Bool.{cases_lt, lt-leb}
use Rattle.std.proofs.lemmas.List.{length-take, take_all}
use Rattle.tp_script.specs.LineWords.{◌>>=◌, require}
use Rattle.tp_script.specs.declared.fault.LineFault.TheVariants.{TooLong}
use Rattle.tp_lines.specs.Grammar.{line_said, line_words, words_said}
use Rattle.tp_lines.specs.Tags.{said_behind, tag_in, tag_of, tagged_said, word_in}
use Rattle.tp_lines.specs.declared.grammar.TheConstants.{MAX_LINE}
use Rattle.tp_lines.specs.declared.tags.TheConstants.{MAX_TAG}
use Rattle.tp_wire.specs.declared.reading.TheConstants.{MAX_KEPT}
use Rattle.tp_session.specs.Session.{line_step, or_refused, read_step_of, with_tag}
use Rattle.tp_session.specs.State.{SessionState}

-- what a line does, by its tag and by what stands behind it
pub step_by : (n : ℕ) (bytes : List ℕ) (s : SessionState) (t : Option (List ℕ)) → tag_in bytes ≡ t → line_step n bytes s ≡ with_tag t (or_refused n s (read_step_of (said_behind t bytes) s))
step_by n bytes s t is = ap (λ t. with_tag t (or_refused n s (read_step_of (said_behind t bytes) s))) is

-- lines with one tag, behind which they say the same
pub same_step : (n : ℕ) (a b : List ℕ) (s : SessionState) → tag_in a ≡ tag_in b → ((t : Option (List ℕ)) → said_behind t a ≡ said_behind t b) → line_step n a s ≡ line_step n b s
same_step n a b s tags said = step_by n a s (tag_in b) tags ∙ ap (λ r. with_tag (tag_in b) (or_refused n s (read_step_of r s))) (said (tag_in b))

-- ---- a line that is too long says as much as its front

fewer : (m n : ℕ) (bs : List ℕ) → m < n → take m (take n bs) ≡ take m bs
fewer zero n bs low = refl
fewer (suc m) zero bs low = absurd (omega (arith, low))
fewer (suc m) (suc n) [] low = refl
fewer (suc m) (suc n) (b ∷ bs) low = ap (λ w. b ∷ w) (fewer m n bs (omega (arith, low)))

pub kept_tag : (line : List ℕ) → tag_in (take MAX_KEPT line) ≡ tag_in line
kept_tag [] = refl
kept_tag (b ∷ bs) = ap (λ w. if b == 64 then tag_of (word_in w) else None) (fewer (MAX_TAG + 1) 1023 bs (omega arith))

pub kept_said : (words : (line : List ℕ) → line_words (take MAX_KEPT line) ≡ line_words line) (line : List ℕ) (t : Option (List ℕ)) → said_behind t (take MAX_KEPT line) ≡ said_behind t line
kept_said words line None = ap (λ r. r >>= λ ws. words_said ws) (words line)
kept_said words line (Some tag) = elim (cases_lt MAX_LINE (length line)) [
  | inl long ↦ too_long (take MAX_KEPT line) (omega (arith, length-take MAX_KEPT line, long)) ∙ sym (too_long line long)
  | inr short ↦ ap (said_behind (Some tag)) (take_all MAX_KEPT line (omega (arith, short)))
]
  where
    too_long : (l : List ℕ) → MAX_LINE < length l → said_behind (Some tag) l ≡ Err TooLong
    too_long l long = rw (lt-leb (length l) MAX_LINE long) refl
