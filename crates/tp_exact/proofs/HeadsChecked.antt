-- Each server of a script's head has a recipe without a fault.
use Rattle.std.proofs.Common.{◌≡◌, ℕ, ◌+◌, ◌==◌, Bool, true, false, List, [], ◌∷◌, ◌++◌, length, Option, Some, None, Result, Ok, Err, nat_le, nat_lt, refl, subst}
use Rattle.std.specs.Prelude.{if◌then◌else◌}
use Rattle.std.proofs.lemmas.List.Elements.{All-nil}
use Rattle.tp_model.specs.declared.types.TheConstants.{MAX_PASSES}
use Rattle.tp_script.specs.declared.fault.LineFault.{LineFault}
use Rattle.tp_script.specs.declared.fault.LineFault.TheVariants as fault
use Rattle.tp_script.specs.declared.fault.Refused.{Refused}
use Rattle.tp_script.specs.declared.head.Act.{Act}
use Rattle.tp_script.specs.declared.head.Said.{Said}
use Rattle.tp_script.specs.declared.head.Said.TheVariants as said
use Rattle.tp_script.specs.declared.source.TheConstants.{MAX_SCRIPT_BYTES}
use Rattle.tp_script.specs.Grammar.{body_words, head_words, line_words}
use Rattle.tp_script.specs.LineWords.{require}
use Rattle.tp_script.specs.Passes.{racers}
use Rattle.tp_script.specs.Script.{ScriptView, passes}
use Rattle.tp_script.specs.Text.{lines}
use Rattle.tp_script.specs.Whole.{at_line, behind_account, in_body_words, in_head_words, line_at, lines_from, no_lines, script, with_act, with_said, words_line}
use Rattle.tp_exact.specs.Programs.{IsChecked}
use Rattle.tp_exact.proofs.Checked.{Good, went, went_to, words_good}

-- ---- a script

module _ (s : ScriptView) (good : Good s.head) where
  abbrev Kept : ScriptView → Type 0
  Kept t = Good t.head

  act_kept : (a : Act) (t : ScriptView) → with_act a s ≡ Ok t → Kept t
  unfolding with_act
  act_kept a t is =
      let b = went (require (nat_le (passes s + racers a) MAX_PASSES) fault.BadLimits) (λ u. Ok (record s { acts = s.acts ++ a ∷ [] })) t is in
      subst Kept (went_to (record s { acts = s.acts ++ a ∷ [] }) t b.2) good

  said_kept : (said : Option Said) (t : ScriptView) → with_said said s ≡ Ok t → Kept t
  said_kept None t is = subst Kept (went_to s t is) good
  said_kept (Some said.Account) t is = subst Kept (went_to (record s { account = true }) t is) good
  said_kept (Some (said.Act a)) t is = act_kept a t is

  behind_kept : (said : Result (Option Said) LineFault) (t : ScriptView) → behind_account said s ≡ Ok t → Kept t
  behind_kept (Ok None) t is = subst Kept (went_to s t is) good
  behind_kept (Ok (Some a)) t is = absurd cc
  behind_kept (Err fault.Syntax) t is = absurd cc
  behind_kept (Err fault.TooLong) t is = absurd cc
  behind_kept (Err fault.BadNumber) t is = absurd cc
  behind_kept (Err fault.BadRecipe) t is = absurd cc
  behind_kept (Err fault.BadName) t is = absurd cc
  behind_kept (Err fault.BadLimits) t is = absurd cc
  behind_kept (Err fault.Order) t is = absurd cc

head_kept : (ws : List (List ℕ)) (s t : ScriptView) → in_head_words ws s ≡ Ok t → Good s.head → Good t.head
head_kept ws s t is good =
    let a = went (head_words ws s.head) (λ said. with_said said.1 (record s { head = said.0 })) t is in
    said_kept (record s { head = a.0.0 }) (words_good ws s.head a.0 a.1 good) a.0.1 t a.2

body_kept : (ws : List (List ℕ)) (s t : ScriptView) → in_body_words ws s ≡ Ok t → Good s.head → Good t.head
body_kept ws s t is good =
    let a = went (body_words ws s.head) (λ said. with_said said s) t is in
    said_kept s good a.0 t a.2

abbrev by_place : Bool → Bool → List (List ℕ) → ScriptView → Result ScriptView LineFault
by_place account first ws s = if account then behind_account (body_words ws s.head) s
    else if first then in_head_words ws s else in_body_words ws s

place_kept : (account first : Bool) (ws : List (List ℕ)) (s t : ScriptView) → by_place account first ws s ≡ Ok t → Good s.head → Good t.head
place_kept true first ws s t is good = behind_kept s good (body_words ws s.head) t is
place_kept false true ws s t is good = head_kept ws s t is good
place_kept false false ws s t is good = body_kept ws s t is good

script_line : (line : List ℕ) (s t : ScriptView) → line_at line s ≡ Ok t → Good s.head → Good t.head
unfolding line_at words_line
script_line line s t is good =
    let ws = went (line_words line) (λ ws. words_line ws s) t is in
    place_kept s.account (length s.acts == 0) ws.0 s t ws.2 good

abbrev whole : ScriptView → Result ScriptView Refused
whole x = Ok x

same_whole : (x y : ScriptView) → whole x ≡ Ok y → x ≡ y
same_whole x y e = cc

-- a line, and then the others
next_good : (n : ℕ) (line : List ℕ) (s t : ScriptView) (others : ScriptView → Result ScriptView Refused) → Good s.head → ((u : ScriptView) → others u ≡ Ok t → Good u.head → Good t.head)
    → (r : Result ScriptView LineFault) → line_at line s ≡ r → at_line n r others ≡ Ok t → Good t.head
next_good n line s t others good rest (Ok u) here is = rest u is (script_line line s u here good)
next_good n line s t others good rest (Err e) here is = absurd cc

lines_good : (n : ℕ) (all : List (List ℕ)) (s t : ScriptView) → lines_from n all s ≡ Ok t → Good s.head → Good t.head
unfolding lines_from
lines_good n [] s t is good = subst (λ (x : ScriptView). Good x.head) (same_whole s t is) good
lines_good n (line ∷ others) s t is good =
    next_good n line s t (λ u. lines_from (n + 1) others u) good (λ u so better. lines_good (n + 1) others u t so better) (line_at line s) refl is

abbrev too_long : Result ScriptView Refused
too_long = Err (record { line = 0; fault = fault.TooLong })

short_good : (b : Bool) (bytes : List ℕ) (t : ScriptView) → (if b then too_long else lines_from 1 (lines bytes) no_lines) ≡ Ok t → Good t.head
short_good true bytes t is = absurd cc
short_good false bytes t is = lines_good 1 (lines bytes) no_lines t is (All-nil IsChecked)

pub script_good : (bytes : List ℕ) (t : ScriptView) → script bytes ≡ Ok t → Good t.head
unfolding script
script_good bytes t is = short_good (nat_lt MAX_SCRIPT_BYTES (length bytes)) bytes t is
