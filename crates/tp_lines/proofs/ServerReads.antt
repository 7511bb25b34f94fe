-- The lines of servers that a dump tells, each read by itself.
use Rattle.std.proofs.Common.{◌≡◌, ℕ, ◌*◌, ◌^◌, ◌<◌, ◌≤◌, ◌&&◌, Ok, List, [], ◌∷◌, ◌++◌, length, map, nat_le, refl, sym, ◌∙◌, ap, subst, arith}
use Rattle.std.specs.Prelude.{codes, decimal, is_ok}
use Rattle.std.specs.List.{list_all}
use Rattle.std.proofs.lemmas.List.{length-map}
use Rattle.tp_model.specs.declared.types.TheConstants.{MAX_OUTPUTS}
use Rattle.tp_server.specs.Check.{check_of}
use Rattle.tp_server.specs.declared.recipe.Output.{Output}
use Rattle.tp_script.specs.LineWords.{act_and_place, has_two_colons, kind_at, number_at, outputs_at, require}
use Rattle.tp_script.specs.ServerLines.{Shape, recipe_at, shape_at}
use Rattle.tp_script.specs.declared.fault.LineFault.TheVariants.{BadRecipe, Syntax}
use Rattle.tp_lines.specs.Grammar.{line_said, words_said}
use Rattle.tp_lines.specs.HeadTexts.{spaced, head_text, kind_text, output_text}
use Rattle.tp_lines.specs.Heads.{head_said}
use Rattle.tp_lines.specs.Lines.{ServerLineView}
use Rattle.tp_lines.specs.Servers.{server_said}
use Rattle.tp_lines.specs.Told.{IsFitServer}
use Rattle.tp_lines.specs.Words.{name_at}
use Rattle.tp_lines.specs.declared.keyword.HeadVerb.TheVariants as verb
use Rattle.tp_lines.specs.declared.line.HeadLine.TheVariants as head
use Rattle.tp_lines.specs.declared.line.Line.TheVariants as line
use Rattle.tp_lines.proofs.Cuts.{and_true, le_true}
use Rattle.tp_lines.proofs.OutputReads.{Deed, act_word, deed, deed_is, kind_reads, kind_word, out_word, outs_are, outs_one, outs_read, outs_words, room_each}
use Rattle.tp_lines.proofs.WordReads.{AreWords, bind_ok, name_ok, name_word, number_ok, number_word, room_of}
use Rattle.tp_lines.proofs.LineReads.{told}

each_room : (os : List Output) → room_of (room_each os) ≤ 63 * length os
each_room [] = omega arith
each_room (o ∷ os) = let r = each_room os in omega (arith, r)

module _ (s : ServerLineView) (it : IsFitServer s) where
  abbrev outs : List Output
  outs = s.recipe.outputs.items

  s64 : s.recipe.stage < 2 ^ 64
  s64 = let h = it.stage in omega (arith, h)

  r64 : s.recipe.registers < 2 ^ 64
  r64 = let h = it.registers in omega (arith, h)

  does : Deed s.recipe.act s.recipe.word
  does = deed s.recipe.act s.recipe.word it.word.0 it.word.1

  abbrev server_places : List ℕ → List (List ℕ) → List (List ℕ)
  server_places act behind = s.name.letters ∷ kind_text s.kind ∷ decimal s.recipe.stage ∷ decimal s.recipe.registers ∷ act ∷ behind

  abbrev act_told : List ℕ
  act_told = act_word s.recipe.act s.recipe.word

  abbrev all_server_places : List (List ℕ)
  all_server_places = server_places act_told (map out_word outs)

  abbrev server_lengths : List ℕ
  server_lengths = 32 ∷ 8 ∷ 20 ∷ 20 ∷ 41 ∷ room_each outs

  server_are_words : AreWords all_server_places server_lengths
  server_are_words = (name_word s.name.letters it.named, (kind_word s.kind, (number_word s.recipe.stage s64, (number_word s.recipe.registers r64, (does.is_word, outs_words outs it.outputs)))))

  abbrev server_said_words : Shape
  server_said_words = record { name = s.name.letters; kind = s.kind; stage = decimal s.recipe.stage; registers = decimal s.recipe.registers; act = s.recipe.act; word = s.recipe.word; outputs = map out_word outs }

  shape_is : shape_at all_server_places ≡ Ok server_said_words
  unfolding shape_at
  shape_is =
      bind_ok (kind_at (kind_text s.kind)) s.kind _ (kind_reads s.kind)
      ∙ (bind_ok (act_and_place act_told) (s.recipe.act, s.recipe.word) _ does.reads
      ∙ bind_ok (require (nat_le (length (map out_word outs)) MAX_OUTPUTS && list_all has_two_colons (map out_word outs)) Syntax) tt _
      (ap (λ b. require b Syntax) (and_true (nat_le (length (map out_word outs)) MAX_OUTPUTS) (list_all has_two_colons (map out_word outs))
      (le_true (length (map out_word outs)) MAX_OUTPUTS (let l = length-map outs out_word in let f = it.few in omega (arith, l, f))) (outs_one outs it.outputs))))

  recipe_is : recipe_at server_said_words ≡ Ok s.recipe
  unfolding recipe_at
  recipe_is =
      bind_ok (number_at 255 (decimal s.recipe.stage)) s.recipe.stage _ (number_ok 255 s.recipe.stage s64 it.stage)
      ∙ (bind_ok (number_at 255 (decimal s.recipe.registers)) s.recipe.registers _ (number_ok 255 s.recipe.registers r64 it.registers)
      ∙ bind_ok (outputs_at (map out_word outs)) outs _ (outs_read outs it.outputs))

  server_is_said : server_said all_server_places ≡ Ok s
  unfolding server_said
  server_is_said =
      bind_ok (shape_at all_server_places) server_said_words _ shape_is
      ∙ (bind_ok (name_at s.name.letters) s.name _ (name_ok s.name it.named)
      ∙ (bind_ok (recipe_at server_said_words) s.recipe _ recipe_is
      ∙ bind_ok (require (is_ok (check_of s.recipe)) BadRecipe) tt _ (ap (λ b. require b BadRecipe) it.good)))

  server_is_read : line_said (codes "server" ++ spaced all_server_places) ≡ Ok (line.Head (head.Server s))
  unfolding words_said
  server_is_read =
      let r = each_room outs in
      let f = it.few in
      told 115 (101 ∷ 114 ∷ 118 ∷ 101 ∷ 114 ∷ []) all_server_places server_lengths refl (omega arith) server_are_words (omega (arith, r, f)) (head.Server s)
      (bind_ok (head_said verb.Server all_server_places) (head.Server s) (λ h. Ok (line.Head h))
      (bind_ok (server_said all_server_places) s (λ x. Ok (head.Server x)) server_is_said))

  abbrev Reads : List ℕ → List (List ℕ) → Type 0
  Reads act behind = line_said (codes "server" ++ spaced (server_places act behind)) ≡ Ok (line.Head (head.Server s))

  pub server_reads : line_said (head_text (head.Server s)) ≡ Ok (line.Head (head.Server s))
  server_reads = subst (λ act. Reads act (map output_text outs)) (sym (deed_is s.recipe.act s.recipe.word)) (subst (Reads act_told) (sym (outs_are outs)) server_is_read)
