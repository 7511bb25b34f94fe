-- A line whose first word is of small letters says what its words say.
use Rattle.std.proofs.Common.{◌≡◌, ℕ, ◌+◌, ◌≤◌, ◌==◌, ◌&&◌, Bool, true, false, Ok, List, ◌∷◌, ◌++◌, length, nat_le, refl, sym, ◌∙◌, inl, inr, arith}
use Rattle.std.specs.List.{list_all}
use Rattle.std.proofs.lemmas.Bool.Decides.{eqb_tells}
use Rattle.tp_lines.specs.Grammar.{line_said, words_said}
use Rattle.tp_lines.specs.HeadTexts.{spaced}
use Rattle.tp_lines.specs.declared.line.HeadLine.{HeadLine}
use Rattle.tp_lines.specs.declared.line.Line.TheVariants as line
use Rattle.tp_lines.proofs.WordReads.{AreWords, by_words, letters_of, room_of, small_word}

-- a first word of small letters
module _ (c : ℕ) (cs : List ℕ) (ws : List (List ℕ)) (ns : List ℕ) (small : list_all (λ b. nat_le 97 b && nat_le b 122) (c ∷ cs) ≡ true) (few : length (c ∷ cs) ≤ 8) (all : AreWords ws ns) (room : 8 + room_of ns ≤ 1023) where
  no_comment : (b : Bool) → (c == 35) ≡ b → b ≡ false
  no_comment false is = refl
  no_comment true is = elim (eqb_tells c 35) [
    | inl p ↦ let low = (letters_of (c ∷ cs) small).0.0 in absurd (omega (arith, low, p.1))
    | inr p ↦ sym is ∙ p.0
  ]

  pub told : (h : HeadLine) → words_said ((c ∷ cs) ∷ ws) ≡ Ok (line.Head h) → line_said ((c ∷ cs) ++ spaced ws) ≡ Ok (line.Head h)
  told h said = by_words c cs ws 8 ns (no_comment (c == 35) refl) (small_word (c ∷ cs) 8 (letters_of (c ∷ cs) small) (omega arith) few) all room ∙ said
