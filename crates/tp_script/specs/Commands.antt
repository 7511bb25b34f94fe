-- The command lines.
use Rattle.std.specs.Prelude.{ℕ, ◌-◌, ◌^◌, List, [], ◌∷◌, Result, Ok, Err, nat_le, codes}
use Rattle.std.specs.Prelude.{if◌then◌else◌}
use Rattle.std.specs.Str.{bytes_eq}
use Rattle.tp_script.specs.declared.fault.LineFault.{LineFault}
use Rattle.tp_script.specs.declared.fault.LineFault.TheVariants.{Syntax, BadNumber, BadName}
use Rattle.tp_script.specs.declared.head.Act.{Act}
use Rattle.tp_script.specs.declared.head.Act.TheVariants as act
use Rattle.tp_script.specs.declared.keyword.Verb.{Verb}
use Rattle.tp_script.specs.declared.keyword.Verb.TheVariants as verb
use Rattle.tp_script.specs.declared.script.Command.{Command}
use Rattle.tp_script.specs.declared.script.Command.TheVariants.{Client, Desk, Balance, Sum}
use Rattle.tp_script.specs.declared.script.ClientAct.TheVariants as client
use Rattle.tp_script.specs.declared.script.DeskAct.TheVariants as desk
use Rattle.tp_script.specs.declared.script.Race.{Race}
use Rattle.tp_model.specs.declared.types.TheConstants.{MAX_PART_ROWS, MAX_PASSES, MAX_STAGE}
use Rattle.tp_script.specs.Script.{HeadView}
use Rattle.tp_script.specs.ServerLines.{server_at}
use Rattle.tp_script.specs.LineWords.{◌>>=◌, require, no_word, one_word, two, number_at}
use Rattle.tp_script.specs.LineWords.{body_numbers, is_name}

-- the server of this name
unfoldable pub server_named : List ℕ → HeadView → Result ℕ LineFault
server_named name s = do
  _ ← require (is_name name) BadName
  server_at name s

-- a server as the one word
unfoldable pub one_server : List (List ℕ) → HeadView → Result ℕ LineFault
one_server ws s = one_word ws >>= λ name. server_named name s

-- an id as the one word
unfoldable pub one_id : List (List ℕ) → Result ℕ LineFault
one_id ws = one_word ws >>= λ id. number_at (2 ^ 32 - 1) id

-- the words of a submit line, each in its place
pub record SubmitWords : Type 0 where
  pub stage : List ℕ
  pub key : List ℕ
  pub amount : List ℕ
  pub word_two : List ℕ
  pub word_three : List ℕ

-- STAGE KEY AMOUNT, with words 2 and 3 of the body after; missing ones are 0
abbrev pub submit_words : List (List ℕ) → Result SubmitWords LineFault
submit_words (stage ∷ key ∷ amount ∷ []) =
    Ok (record { stage = stage; key = key; amount = amount; word_two = codes "0"; word_three = codes "0" })
submit_words (stage ∷ key ∷ amount ∷ word_two ∷ []) =
    Ok (record { stage = stage; key = key; amount = amount; word_two = word_two; word_three = codes "0" })
submit_words (stage ∷ key ∷ amount ∷ word_two ∷ word_three ∷ []) =
    Ok (record { stage = stage; key = key; amount = amount; word_two = word_two; word_three = word_three })
submit_words ws = Err Syntax

-- the body that they say
abbrev pub submit_body : SubmitWords → Result (List ℕ) LineFault
submit_body w = body_numbers (w.key, w.amount, w.word_two, w.word_three)

-- `submit STAGE KEY AMOUNT W2 W3`
unfoldable pub submit_at : SubmitWords → Result Command LineFault
submit_at w = do
  stage ← number_at 255 w.stage
  body ← submit_body w
  Ok (Client (client.Submit stage body))

-- STAGE, and FROM after it; it is 0 where it is missing
abbrev pub list_words : List (List ℕ) → Result (List ℕ × List ℕ) LineFault
list_words (stage ∷ []) = Ok (stage, codes "0")
list_words (stage ∷ from ∷ []) = Ok (stage, from)
list_words ws = Err Syntax

-- `take NAME ID`
unfoldable pub take_at : List ℕ × List ℕ → HeadView → Result Command LineFault
take_at (name, id) s = do
  server ← server_named name s
  id ← number_at (2 ^ 32 - 1) id
  Ok (Desk server (desk.Take id))

-- `balance NAME K`
unfoldable pub balance_at : List ℕ × List ℕ → HeadView → Result Command LineFault
balance_at (name, k) s = do
  server ← server_named name s
  k ← number_at (2 ^ 64 - 1) k
  Ok (Balance server k)

-- the words of a race line, each in its place
pub record RaceWords : Type 0 where
  pub clients : List ℕ
  pub submits : List ℕ
  pub stage : List ℕ
  pub key : List ℕ
  pub amount : List ℕ
  pub killers : List ℕ
  pub turns : List ℕ

-- CLIENTS SUBMITS STAGE KEY AMOUNT KILLERS TURNS
abbrev pub race_words : List (List ℕ) → Result RaceWords LineFault
race_words (clients ∷ submits ∷ stage ∷ key ∷ amount ∷ killers ∷ turns ∷ []) =
    Ok (record {
      clients = clients;
      submits = submits;
      stage = stage;
      key = key;
      amount = amount;
      killers = killers;
      turns = turns;
    })
race_words ws = Err Syntax

-- a stage that clients may submit to
unfoldable pub stage_at : List ℕ → Result ℕ LineFault
stage_at w = do
  stage ← number_at MAX_STAGE w
  _ ← require (nat_le 1 stage) BadNumber
  Ok stage

-- the race that they say
unfoldable pub race_at : RaceWords → Result Race LineFault
race_at w = do
  clients ← number_at (MAX_PASSES - 1) w.clients
  submits ← number_at MAX_PART_ROWS w.submits
  stage ← stage_at w.stage
  key ← number_at (2 ^ 64 - 1) w.key
  amount ← number_at (2 ^ 64 - 1) w.amount
  killers ← number_at (MAX_PASSES - 1) w.killers
  turns ← number_at 10000 w.turns
  Ok (record {
    clients = clients;
    submits = submits;
    stage = stage;
    key = key;
    amount = amount;
    killers = killers;
    turns = turns;
  })

-- `race CLIENTS SUBMITS STAGE KEY AMOUNT KILLERS TURNS`
unfoldable pub race_said : List (List ℕ) → Result Act LineFault
race_said ws = race_words ws >>= λ w. race_at w >>= λ race. Ok (act.Race race)

-- `drain` or `drain next`
abbrev pub drain_at : List (List ℕ) → Result Act LineFault
drain_at [] = Ok act.Drain
drain_at (w ∷ []) = if bytes_eq w (codes "next") then Ok act.DrainNext else Err Syntax
drain_at ws = Err Syntax

-- `rollover`
abbrev pub rollover_at : List (List ℕ) → Result Act LineFault
rollover_at ws = no_word ws >>= λ _. Ok act.Rollover

-- a command of this first word, with the words after it
unfoldable pub command_at : Verb → List (List ℕ) → HeadView → Result Command LineFault
command_at verb.Submit ws s = submit_words ws >>= λ w. submit_at w
command_at verb.Kill ws s = one_id ws >>= λ id. Ok (Client (client.Kill id))
command_at verb.Cancel ws s = one_id ws >>= λ root. Ok (Client (client.Cancel root))
command_at verb.Requeue ws s = one_id ws >>= λ id. Ok (Client (client.Requeue id))
command_at verb.Release ws s = one_id ws >>= λ id. Ok (Client (client.Release id))
command_at verb.Read ws s = one_id ws >>= λ id. Ok (Client (client.Read id))
command_at verb.Reply ws s = one_id ws >>= λ root. Ok (Client (client.Reply root))
command_at verb.Collect ws s = one_id ws >>= λ root. Ok (Client (client.Collect root))
command_at verb.Family ws s = one_id ws >>= λ root. Ok (Client (client.Family root))
command_at verb.Errors ws s = no_word ws >>= λ _. Ok (Client client.Errors)
command_at verb.Count ws s = no_word ws >>= λ _. Ok (Client client.Count)
command_at (verb.Desk act) ws s = one_server ws s >>= λ server. Ok (Desk server act)
command_at verb.Take ws s = two ws >>= λ w. take_at w s
command_at verb.Balance ws s = two ws >>= λ w. balance_at w s
command_at verb.Sum ws s = one_word ws >>= λ w. number_at (2 ^ 64 - 1) w >>= λ k. Ok (Sum k)
