-- What a line says: recipes that are good, and outputs of stages that there are.
use Rattle.std.proofs.Common.{◌≡◌, ◌≤◌, ◌==◌, ◌&&◌, ◌+◌, ℕ, Bool, true, false, drop, length, nat_le, if◌then◌else◌, is_ok, Option, Some, None, Result, Ok, Err, List, [], ◌∷◌, refl, subst}
use Rattle.std.specs.Prelude.{codes, find, option_map, ⊤}
use Rattle.std.specs.List.{AllByRecursion, slice_split}
use Rattle.std.specs.Str.{bytes_eq}
use Rattle.std.specs.Str.Parse.{digits_value}
use Rattle.tp_model.specs.Drafts.{DraftView}
use Rattle.tp_model.specs.declared.types.TheConstants.{MAX_ATTEMPTS}
use Rattle.tp_script.specs.declared.fault.LineFault.{LineFault}
use Rattle.tp_script.specs.declared.fault.LineFault.TheVariants.{BadLimits, BadNumber, BadRecipe, Syntax, TooLong}
use Rattle.tp_script.specs.LineWords.{◌>>=◌, known, no_word, number_at, ordinal_at, require, three, two}
use Rattle.tp_script.specs.ServerLines.{recipe_at, shape_at}
use Rattle.tp_script.specs.Commands.{list_words, submit_body, submit_words, SubmitWords}
use Rattle.tp_script.specs.Text.{is_numeral, number}
use Rattle.tp_server.specs.declared.order.Order.TheVariants.{InTurn}
use Rattle.tp_store.proofs.Finding.{at_most, both}
use Rattle.tp_server.specs.Check.{check_of}
use Rattle.tp_server.specs.declared.recipe.Recipe.{Recipe}
use Rattle.tp_store.specs.declared.element.TheConstants.{LAST_STAGE}
use Rattle.tp_lines.specs.Commands.{abort_fenced, abort_said, commit_fenced, commit_of, commit_said, draft_words, drain_said, list_of, receive_of, receive_words, ReceiveWords, send_of, send_words, submit_of}
use Rattle.tp_lines.specs.Fences.{fence_numbers, fence_words, is_fence, long_if, name_if}
use Rattle.tp_lines.specs.Tags.{said_behind, tag_in, tagged_said}
use Rattle.tp_lines.specs.declared.grammar.TheConstants.{MAX_LINE}
use Rattle.tp_lines.specs.Drafts.{draft_at, draft_numbers, drafts_at}
use Rattle.tp_lines.specs.Ends.{end_of, ended_said, ended_words}
use Rattle.tp_lines.specs.Grammar.{keyword_said, line_said, line_words, words_said}
use Rattle.tp_lines.specs.Lines.{ServerLineView}
use Rattle.tp_lines.specs.Heads.{client_said, client_words, element_of, element_words, ElementWords, hand_of, hand_said, keep_said, limit_said, note_of, origin_of, register_said, rounds_at, settled_said, worker_said}
use Rattle.tp_lines.specs.Keyword.{first_words}
use Rattle.tp_lines.specs.Servers.{server_said}
use Rattle.tp_lines.specs.Statuses.{status_of}
use Rattle.tp_lines.specs.Words.{long_at, name_and_number, name_and_two, name_at, one_name, one_number, place_at, short_at, stage_at, three_numbers, worker_stage_at}
use Rattle.tp_lines.specs.declared.line.Act.{Act}
use Rattle.tp_lines.specs.declared.line.Act.TheVariants as act
use Rattle.tp_lines.specs.declared.line.Command.{Command}
use Rattle.tp_lines.specs.declared.line.Command.TheVariants as command
use Rattle.tp_lines.specs.declared.line.HeadLine.{HeadLine}
use Rattle.tp_lines.specs.declared.line.HeadLine.TheVariants as head
use Rattle.tp_lines.specs.declared.line.Line.{Line}
use Rattle.tp_lines.specs.declared.line.Line.TheVariants as line

-- ---- what is so of what is said

abbrev pub AreStages : List DraftView → Type 0
AreStages drafts = AllByRecursion (λ d. (1 ≤ d.stage) × (d.stage ≤ LAST_STAGE)) drafts

abbrev pub IsGoodAct : Act → Type 0
IsGoodAct (act.Commit drafts) = AreStages drafts.items
IsGoodAct other = ⊤

abbrev pub IsGoodCommand : Command → Type 0
IsGoodCommand (command.Act name a) = IsGoodAct a
IsGoodCommand (command.Fenced name fence a) = IsGoodAct a
IsGoodCommand other = ⊤

abbrev pub IsGoodHead : HeadLine → Type 0
IsGoodHead (head.Server server) = check_of server.recipe ≡ Ok tt
IsGoodHead other = ⊤

abbrev pub IsGoodLine : Line → Type 0
IsGoodLine (line.Head h) = IsGoodHead h
IsGoodLine (line.Do c) = IsGoodCommand c
IsGoodLine line.Nothing = ⊤
IsGoodLine line.Version = ⊤

-- where something is read, it is so
pub record Good {A : Type 0} (P : A → Type 0) (read : Result A LineFault) : Type 0 where
  pub is : (x : A) → read ≡ Ok x → P x

good_ok : {A : Type 0} {P : A → Type 0} (x : A) → P x → Good P (Ok x)
good_ok {A} {P} x so = record { is = λ y is. let same : x ≡ y = cc in subst P same so }

good_err : {A : Type 0} {P : A → Type 0} (fault : LineFault) → Good P (Err fault)
good_err fault = record { is = λ y is. absurd cc }

-- one after another
after : {A B : Type 0} {Q : B → Type 0} (read : Result A LineFault) (f : A → Result B LineFault) → ((x : A) → Good Q (f x)) → Good Q (read >>= f)
after (Ok x) f all = all x
after (Err fault) f all = good_err fault

-- by what is so of the first
through : {A B : Type 0} {P : A → Type 0} {Q : B → Type 0} (read : Result A LineFault) (f : A → Result B LineFault) → Good P read → ((x : A) → P x → Good Q (f x)) → Good Q (read >>= f)
through (Ok x) f good all = all x (good.is x refl)
through (Err fault) f good all = good_err fault

needed : {B : Type 0} {Q : B → Type 0} (b : Bool) (fault : LineFault) (f : Unit {0} → Result B LineFault) → (b ≡ true → Good Q (f tt)) → Good Q (require b fault >>= f)
needed true fault f all = all refl
needed false fault f all = good_err fault

-- ---- heads

check_is : (recipe : Recipe) → is_ok (check_of recipe) ≡ true → check_of recipe ≡ Ok tt
check_is recipe is = go (check_of recipe) is
  where
    go : {E : Type 0} (r : Result (Unit {0}) E) → is_ok r ≡ true → r ≡ Ok tt
    go (Ok tt) is = refl
    go (Err why) is = absurd cc

abbrev HasGoodRecipe : ServerLineView → Type 0
HasGoodRecipe s = check_of s.recipe ≡ Ok tt

server_good : (ws : List (List ℕ)) → Good HasGoodRecipe (server_said ws)
unfolding server_said
server_good ws = after (shape_at ws) _ (λ shape. after (name_at shape.name) _ (λ name. after (recipe_at shape) _ (λ recipe. needed (is_ok (check_of recipe)) BadRecipe _ (λ is. good_ok _ (check_is recipe is)))))

of_head : (read : Result HeadLine LineFault) → Good IsGoodHead read → Good IsGoodLine (read >>= λ h. Ok (line.Head h))
of_head read good = through {P = IsGoodHead} read (λ h. Ok (line.Head h)) good (λ h p. good_ok _ p)

of_command : (read : Result Command LineFault) → Good IsGoodCommand read → Good IsGoodLine (read >>= λ c. Ok (line.Do c))
of_command read good = through {P = IsGoodCommand} read (λ c. Ok (line.Do c)) good (λ c p. good_ok _ p)

limit_good : (ws : List (List ℕ)) → Good IsGoodHead (limit_said ws)
unfolding limit_said
limit_good ws = after (one_number ws) _ (λ n. needed (nat_le 1 n && nat_le n MAX_ATTEMPTS) BadLimits _ (λ is. good_ok _ tt))

keep_good : (ws : List (List ℕ)) → Good IsGoodHead (keep_said ws)
unfolding keep_said
keep_good ws = after (one_number ws) _ (λ n. needed (nat_le 1 n) BadLimits _ (λ is. good_ok _ tt))

worker_good : (ws : List (List ℕ)) → Good IsGoodHead (worker_said ws)
unfolding worker_said
worker_good ws = after (two ws) _ (λ w. after (name_at w.0) _ (λ name. after (worker_stage_at w.1) _ (λ stage. good_ok _ tt)))

element_good : (w : ElementWords) → Good IsGoodHead (element_of w)
unfolding element_of
element_good w = after (long_at w.id) _ (λ id. after (place_at w.place) _ (λ place. after (origin_of w) _ (λ origin. after (rounds_at w.rounds) _ (λ rounds. after (status_of w.standing w.numbers) _ (λ status. good_ok _ tt)))))

settled_good : (ws : List (List ℕ)) → Good IsGoodHead (settled_said ws)
unfolding settled_said
settled_good ws = after (three ws) _ (λ w. after (short_at w.0) _ (λ stage. after (long_at w.1) _ (λ consumed. after (long_at w.2) _ (λ killed. good_ok _ tt))))

ended_good : (ws : List (List ℕ)) → Good IsGoodHead (ended_said ws)
unfolding ended_said
ended_good ws = after (ended_words ws) _ (λ w. after (name_at w.0) _ (λ name. after (end_of w.1 w.2) _ (λ how. good_ok _ tt)))

client_good : (ws : List (List ℕ)) → Good IsGoodHead (client_said ws)
unfolding client_said
client_good ws = after (client_words ws) _ (λ w. after (name_at w.name) _ (λ name. after (note_of w) _ (λ note. good_ok _ tt)))

register_good : (ws : List (List ℕ)) → Good IsGoodHead (register_said ws)
register_good [] = good_err Syntax
register_good (name ∷ []) = after (name_at name) _ (λ n. good_ok _ tt)
register_good (name ∷ how ∷ []) = go (bytes_eq how (codes "new"))
  where
    go : (b : Bool) → Good IsGoodHead (if b then (name_at name >>= λ n. Ok (head.Renew n)) else Err Syntax)
    go true = after (name_at name) _ (λ n. good_ok _ tt)
    go false = good_err Syntax
register_good (name ∷ how ∷ w ∷ ws) = good_err Syntax

hand_of_good : (w : List ℕ × List ℕ × List ℕ × List ℕ) → Good IsGoodHead (hand_of w)
unfolding hand_of
hand_of_good (name, id, unit, tries) = after (name_at name) _ (λ n. after (long_at id) _ (λ i. after (long_at unit) _ (λ u. after (short_at tries) _ (λ t. good_ok _ tt))))

hand_good : (ws : List (List ℕ)) → Good IsGoodHead (hand_said ws)
hand_good [] = good_err Syntax
hand_good (name ∷ []) = good_err Syntax
hand_good (name ∷ id ∷ []) = good_err Syntax
hand_good (name ∷ id ∷ unit ∷ []) = hand_of_good (name, id, unit, codes "0")
hand_good (name ∷ id ∷ unit ∷ tries ∷ []) = hand_of_good (name, id, unit, tries)
hand_good (name ∷ id ∷ unit ∷ tries ∷ w ∷ ws) = good_err Syntax

-- ---- commands

number_good : (most : ℕ) (w : List ℕ) → Good (λ n. n ≤ most) (number_at most w)
number_good most w = go (is_numeral w && nat_le (digits_value 10 w) most) refl
  where
    go : (b : Bool) → (is_numeral w && nat_le (digits_value 10 w) most) ≡ b → Good (λ n. n ≤ most) (known (if b then Some (digits_value 10 w) else None) BadNumber)
    go true is = good_ok (digits_value 10 w) (at_most (digits_value 10 w) most (both _ _ is).1)
    go false is = good_err BadNumber

abbrev IsStage : ℕ → Type 0
IsStage n = (1 ≤ n) × (n ≤ LAST_STAGE)

abbrev HasStage : DraftView → Type 0
HasStage d = (1 ≤ d.stage) × (d.stage ≤ LAST_STAGE)

stage_good : (w : List ℕ) → Good IsStage (stage_at w)
unfolding stage_at
stage_good w = through {P = λ n. n ≤ LAST_STAGE} (number_at LAST_STAGE w) _ (number_good LAST_STAGE w) (λ stage low. needed (nat_le 1 stage) BadNumber _ (λ is. good_ok _ (at_most 1 stage is, low)))

numbers_good : (w : SubmitWords) → Good HasStage (draft_numbers w)
unfolding draft_numbers
numbers_good w = through {P = IsStage} (stage_at w.stage) _ (stage_good w.stage) (λ stage fit. after (submit_body w) _ (λ body. good_ok _ fit))

draft_good : (w : List ℕ) → Good HasStage (draft_at w)
unfolding draft_at
draft_good w = after (submit_words (slice_split (λ b. b == 58) w)) _ numbers_good

drafts_good : (ws : List (List ℕ)) → Good AreStages (drafts_at ws)
unfolding drafts_at
drafts_good [] = good_ok [] tt
drafts_good (w ∷ ws) = through {P = HasStage} (draft_at w) _ (draft_good w) (λ first fit. through {P = AreStages} (drafts_at ws) _ (drafts_good ws) (λ others all. good_ok (first ∷ others) (fit, all)))

plain_commit_good : (name : List ℕ) (ws : List (List ℕ)) → Good IsGoodCommand (commit_of name ws)
unfolding commit_of
plain_commit_good name ws = after (draft_words ws) _ (λ w. after (name_at name) _ (λ n. through {P = AreStages} (drafts_at w) _ (drafts_good w) (λ drafts all. good_ok _ all)))

fenced_commit_good : (name fence : List ℕ) (ws : List (List ℕ)) → Good IsGoodCommand (commit_fenced name fence ws)
unfolding commit_fenced
fenced_commit_good name fence ws = after (fence_words fence) _ (λ f. after (draft_words ws) _ (λ w. after (name_at name) _ (λ n. after (fence_numbers f) _ (λ numbers. through {P = AreStages} (drafts_at w) _ (drafts_good w) (λ drafts all. good_ok _ all)))))

commit_good : (ws : List (List ℕ)) → Good IsGoodCommand (commit_said ws)
commit_good [] = good_err Syntax
commit_good (name ∷ []) = plain_commit_good name []
commit_good (name ∷ (fence ∷ drafts)) = go (is_fence fence)
  where
    go : (b : Bool) → Good IsGoodCommand (if b then commit_fenced name fence drafts else commit_of name (fence ∷ drafts))
    go true = fenced_commit_good name fence drafts
    go false = plain_commit_good name (fence ∷ drafts)

abort_good : (ws : List (List ℕ)) → Good IsGoodCommand (abort_said ws)
unfolding abort_fenced
abort_good [] = good_err Syntax
abort_good (name ∷ []) = after (name_at name) _ (λ n. good_ok _ tt)
abort_good (name ∷ fence ∷ []) = after (fence_words fence) _ (λ f. after (name_at name) _ (λ n. after (fence_numbers f) _ (λ numbers. good_ok _ tt)))
abort_good (name ∷ fence ∷ w ∷ ws) = good_err Syntax

submit_good : (w : SubmitWords) → Good IsGoodCommand (submit_of w)
unfolding submit_of
submit_good w = after (short_at w.stage) _ (λ stage. after (submit_body w) _ (λ body. good_ok _ tt))

list_good : (w : List ℕ × List ℕ) → Good IsGoodCommand (list_of w)
unfolding list_of
list_good (stage, from) = after (stage_at stage) _ (λ n. after (long_at from) _ (λ m. good_ok _ tt))

drain_good : (ws : List (List ℕ)) → Good IsGoodCommand (drain_said ws)
drain_good [] = good_ok _ tt
drain_good (w ∷ []) = go (bytes_eq w (codes "next"))
  where
    go : (b : Bool) → Good IsGoodCommand (if b then Ok (command.Drain InTurn) else Err Syntax)
    go true = good_ok _ tt
    go false = good_err Syntax
drain_good (w ∷ v ∷ ws) = good_err Syntax

send_good : (w : (List ℕ × Option (List ℕ)) × List ℕ × SubmitWords) → Good IsGoodCommand (send_of w)
unfolding send_of
send_good (who, number, w) = after (name_at who.0) _ (λ n. after (long_if who.1) _ (λ e. after (ordinal_at number) _ (λ m. after (short_at w.stage) _ (λ stage. after (submit_body w) _ (λ body. good_ok _ tt)))))

receive_good : (w : ReceiveWords) → Good IsGoodCommand (receive_of w)
unfolding receive_of
receive_good w = after (name_at w.name) _ (λ n. after (name_if w.note) _ (λ note. after (long_if w.epoch) _ (λ e. after (ordinal_at w.number) _ (λ m. after (long_if w.root) _ (λ r. good_ok _ tt)))))

-- ---- each first word

rows_good : AllByRecursion (λ row. (ws : List (List ℕ)) → Good IsGoodLine (keyword_said row.1 ws)) first_words
rows_good = (
  (λ ws. of_head _ (limit_good ws)),
  (
    (λ ws. of_head _ (after (one_number ws) _ (λ w. good_ok _ tt))),
    (
      (λ ws. of_head _ (keep_good ws)),
      (
        (λ ws. of_head _ (through {P = HasGoodRecipe} (server_said ws) _ (server_good ws) (λ server p. good_ok _ p))),
        (
          (λ ws. of_head _ (after (name_and_two ws) _ (λ w. good_ok _ tt))),
          (
            (λ ws. of_head _ (worker_good ws)),
            (
              (λ ws. of_head _ (register_good ws)),
              (
                (λ ws. of_head _ (after (three_numbers ws) _ (λ w. good_ok _ tt))),
                (
                  (λ ws. of_head _ (after (element_words ws) _ element_good)),
                  (
                    (λ ws. of_head _ (after (one_number ws) _ (λ w. good_ok _ tt))),
                    (
                      (λ ws. of_head _ (settled_good ws)),
                      (
                        (λ ws. of_head _ (hand_good ws)),
                        (
                          (λ ws. of_head _ (after (one_name ws) _ (λ w. good_ok _ tt))),
                          (
                            (λ ws. of_head _ (after (one_name ws) _ (λ w. good_ok _ tt))),
                            (
                              (λ ws. of_head _ (after (name_and_number ws) _ (λ w. good_ok _ tt))),
                              (
                                (λ ws. of_head _ (ended_good ws)),
                                (
                                  (λ ws. of_head _ (client_good ws)),
                                  (
                                    (λ ws. of_command _ (after (submit_words ws) _ submit_good)),
                                    (
                                      (λ ws. of_command _ (after (one_number ws) _ (λ w. good_ok _ tt))),
                                      (
                                        (λ ws. of_command _ (after (one_number ws) _ (λ w. good_ok _ tt))),
                                        (
                                          (λ ws. of_command _ (after (one_number ws) _ (λ w. good_ok _ tt))),
                                          (
                                            (λ ws. of_command _ (after (one_number ws) _ (λ w. good_ok _ tt))),
                                            (
                                              (λ ws. of_command _ (after (one_number ws) _ (λ w. good_ok _ tt))),
                                              (
                                                (λ ws. of_command _ (after (one_number ws) _ (λ w. good_ok _ tt))),
                                                (
                                                  (λ ws. of_command _ (after (one_number ws) _ (λ w. good_ok _ tt))),
                                                  (
                                                    (λ ws. of_command _ (after (one_number ws) _ (λ w. good_ok _ tt))),
                                                    (
                                                      (λ ws. of_command _ (after (no_word ws) _ (λ w. good_ok _ tt))),
                                                      (
                                                        (λ ws. of_command _ (after (no_word ws) _ (λ w. good_ok _ tt))),
                                                        (
                                                          (λ ws. of_command _ (after (no_word ws) _ (λ w. good_ok _ tt))),
                                                          (
                                                            (λ ws. of_command _ (after (no_word ws) _ (λ w. good_ok _ tt))),
                                                            (
                                                              (λ ws. of_command _ (after (no_word ws) _ (λ w. good_ok _ tt))),
                                                              (
                                                                (λ ws. of_command _ (after (no_word ws) _ (λ w. good_ok _ tt))),
                                                                (
                                                                  (λ ws. of_command _ (after (no_word ws) _ (λ w. good_ok _ tt))),
                                                                  (
                                                                    (λ ws. of_command _ (after (one_name ws) _ (λ w. good_ok _ tt))),
                                                                    (
                                                                      (λ ws. of_command _ (after (one_name ws) _ (λ w. good_ok _ tt))),
                                                                      (
                                                                        (λ ws. of_command _ (after (one_name ws) _ (λ w. good_ok _ tt))),
                                                                        (
                                                                          (λ ws. of_command _ (after (one_name ws) _ (λ w. good_ok _ tt))),
                                                                          (
                                                                            (λ ws. of_command _ (abort_good ws)),
                                                                            (
                                                                              (λ ws. of_command _ (after (one_name ws) _ (λ w. good_ok _ tt))),
                                                                              (
                                                                                (λ ws. of_command _ (after (list_words ws) _ list_good)),
                                                                                (
                                                                                  (λ ws. of_command _ (drain_good ws)),
                                                                                  (
                                                                                    (λ ws. of_command _ (after (one_number ws) _ (λ w. good_ok _ tt))),
                                                                                    (
                                                                                      (λ ws. of_command _ (after (name_and_number ws) _ (λ w. good_ok _ tt))),
                                                                                      (
                                                                                        (λ ws. of_command _ (after (name_and_number ws) _ (λ w. good_ok _ tt))),
                                                                                        (
                                                                                          (λ ws. of_command _ (commit_good ws)),
                                                                                          (
                                                                                            (λ ws. of_command _ (after (one_name ws) _ (λ w. good_ok _ tt))),
                                                                                            (
                                                                                              (λ ws. of_command _ (after (send_words ws) _ send_good)),
                                                                                              (
                                                                                                (λ ws. of_command _ (after (receive_words ws) _ receive_good)),
                                                                                                (
                                                                                                  (λ ws. of_command _ (after (one_name ws) _ (λ w. good_ok _ tt))),
                                                                                                  (
                                                                                                    (λ ws. of_command _ (after (one_name ws) _ (λ w. good_ok _ tt))),
                                                                                                    (
                                                                                                      (λ ws. after (no_word ws) _ (λ w. good_ok _ tt)),
                                                                                                      tt,
                                                                                                    ),
                                                                                                  ),
                                                                                                ),
                                                                                              ),
                                                                                            ),
                                                                                          ),
                                                                                        ),
                                                                                      ),
                                                                                    ),
                                                                                  ),
                                                                                ),
                                                                              ),
                                                                            ),
                                                                          ),
                                                                        ),
                                                                      ),
                                                                    ),
                                                                  ),
                                                                ),
                                                              ),
                                                            ),
                                                          ),
                                                        ),
                                                      ),
                                                    ),
                                                  ),
                                                ),
                                              ),
                                            ),
                                          ),
                                        ),
                                      ),
                                    ),
                                  ),
                                ),
                              ),
                            ),
                          ),
                        ),
                      ),
                    ),
                  ),
                ),
              ),
            ),
          ),
        ),
      ),
    ),
  ),
)

module _ {A : Type 0} (word : List ℕ) (ws : List (List ℕ)) (said : A → Result Line LineFault) where
  found_good : (rows : List (List ℕ × A)) → AllByRecursion (λ row. Good IsGoodLine (said row.1)) rows → Good IsGoodLine (known (option_map (λ (row : List ℕ × A). row.1) (find (λ (row : List ℕ × A). bytes_eq row.0 word) rows)) Syntax >>= said)
  found_good [] all = good_err Syntax
  found_good (row ∷ rows) all = go (bytes_eq row.0 word) refl (found_good rows all.1)
    where
      go : (b : Bool) → bytes_eq row.0 word ≡ b → Good IsGoodLine (known (option_map (λ (row : List ℕ × A). row.1) (find (λ (row : List ℕ × A). bytes_eq row.0 word) rows)) Syntax >>= said) → Good IsGoodLine (known (option_map (λ (row : List ℕ × A). row.1) (find (λ (row : List ℕ × A). bytes_eq row.0 word) (row ∷ rows))) Syntax >>= said)
      go true is on = rw is all.0
      go false is on = rw is on

  all_at : (rows : List (List ℕ × A)) (say : A → List (List ℕ) → Result Line LineFault) → AllByRecursion (λ row. (ws : List (List ℕ)) → Good IsGoodLine (say row.1 ws)) rows → AllByRecursion (λ row. Good IsGoodLine (say row.1 ws)) rows
  all_at [] say all = tt
  all_at (row ∷ rows) say all = (all.0 ws, all_at rows say all.1)

words_good : (ws : List (List ℕ)) → Good IsGoodLine (words_said ws)
unfolding words_said
words_good [] = good_ok line.Nothing tt
words_good (w ∷ ws) = found_good w ws (λ k. keyword_said k ws) first_words (all_at w ws (λ k. keyword_said k ws) first_words keyword_said rows_good)

line_good : (bytes : List ℕ) → Good IsGoodLine (line_said bytes)
line_good bytes = after (line_words bytes) _ words_good

pub tagged_good : (bytes : List ℕ) → Good IsGoodLine (tagged_said bytes)
tagged_good bytes = go (tag_in bytes)
  where
    go : (t : Option (List ℕ)) → Good IsGoodLine (said_behind t bytes)
    go None = line_good bytes
    go (Some tag) = after (require (nat_le (length bytes) MAX_LINE) TooLong) _ (λ u. line_good (drop (length tag + 2) bytes))
