-- The lines that ask for something.
use Rattle.std.specs.Prelude.{ℕ, List, [], ◌∷◌, length, ◌&&◌, nat_le, Option, Some, None, codes, Result, Ok, Err}
use Rattle.std.specs.Prelude.{if◌then◌else◌}
use Rattle.std.specs.List.{list_all}
use Rattle.std.specs.Str.{bytes_eq}
use Rattle.tp_model.specs.declared.types.TheConstants.{MAX_OUTPUTS}
use Rattle.tp_server.specs.declared.order.Order.TheVariants as order
use Rattle.tp_script.specs.declared.fault.LineFault.{LineFault}
use Rattle.tp_script.specs.declared.fault.LineFault.TheVariants.{Syntax}
use Rattle.tp_script.specs.Commands.{SubmitWords, list_words, submit_body, submit_words}
use Rattle.tp_script.specs.Drafts.{is_draft}
use Rattle.tp_script.specs.LineWords.{◌>>=◌, require, no_word, ordinal_at}
use Rattle.tp_lines.specs.declared.keyword.Alone.{Alone}
use Rattle.tp_lines.specs.declared.keyword.Alone.TheVariants as alone
use Rattle.tp_lines.specs.declared.keyword.Deed.{Deed}
use Rattle.tp_lines.specs.declared.keyword.Deed.TheVariants as deed
use Rattle.tp_lines.specs.declared.keyword.OfId.{OfId}
use Rattle.tp_lines.specs.declared.keyword.OfId.TheVariants as of
use Rattle.tp_lines.specs.declared.keyword.Verb.{Verb}
use Rattle.tp_lines.specs.declared.keyword.Verb.TheVariants as verb
use Rattle.tp_lines.specs.declared.line.Act.{Act}
use Rattle.tp_lines.specs.declared.line.Act.TheVariants as act
use Rattle.tp_lines.specs.declared.line.Command.{Command}
use Rattle.tp_lines.specs.declared.line.Command.TheVariants as command
use Rattle.tp_lines.specs.Drafts.{drafts_at}
use Rattle.tp_lines.specs.Fences.{fence_numbers, fence_words, is_fence, long_if, name_if, who_words}
use Rattle.tp_lines.specs.Words.{long_at, name_and_number, name_at, one_name, one_number, short_at, stage_at}

-- a command of an element or a request, by its id
abbrev pub of_id : OfId → ℕ → Command
of_id of.Kill id = command.Kill id
of_id of.Cancel root = command.Cancel root
of_id of.Requeue id = command.Requeue id
of_id of.Release id = command.Release id
of_id of.Read id = command.Read id
of_id of.Reply root = command.Reply root
of_id of.Collect root = command.Collect root
of_id of.Family root = command.Family root

-- a command that stands alone
abbrev pub standing_alone : Alone → Command
standing_alone alone.Errors = command.Errors
standing_alone alone.Count = command.Count
standing_alone alone.Depth = command.Depth
standing_alone alone.Account = command.Account
standing_alone alone.Holds = command.Holds
standing_alone alone.Dump = command.Dump
standing_alone alone.Restore = command.Restore

-- what a server or a worker does, where its line has only its name
abbrev pub deed_of : Deed → Act
deed_of deed.Claim = act.Claim
deed_of deed.Next = act.Next
deed_of deed.Turn = act.Turn
deed_of deed.Prepare = act.Prepare
deed_of deed.Drop = act.Drop

-- `submit STAGE KEY AMOUNT W2 W3`
unfoldable pub submit_of : SubmitWords → Result Command LineFault
submit_of w = do
  stage ← short_at w.stage
  body ← submit_body w
  Ok (command.Submit stage body)

-- `list STAGE FROM`
unfoldable pub list_of : List ℕ × List ℕ → Result Command LineFault
list_of (stage, from) = do
  stage ← stage_at stage
  from ← long_at from
  Ok (command.List stage from)

-- `drain` or `drain next`
abbrev pub drain_said : List (List ℕ) → Result Command LineFault
drain_said [] = Ok (command.Drain order.LeastFirst)
drain_said (w ∷ []) = if bytes_eq w (codes "next") then Ok (command.Drain order.InTurn) else Err Syntax
drain_said ws = Err Syntax

-- OUT.., at most four of two to four colons each
abbrev pub draft_words : List (List ℕ) → Result (List (List ℕ)) LineFault
draft_words drafts =
    require (nat_le (length drafts) MAX_OUTPUTS && list_all is_draft drafts) Syntax >>= λ _. Ok drafts

-- `commit NAME OUT..`
unfoldable pub commit_of : List ℕ → List (List ℕ) → Result Command LineFault
commit_of name drafts = do
  drafts ← draft_words drafts
  name ← name_at name
  drafts ← drafts_at drafts
  Ok (command.Act name (act.Commit (record { items = drafts })))

-- `commit NAME =ID:TRY OUT..`
unfoldable pub commit_fenced : List ℕ → List ℕ → List (List ℕ) → Result Command LineFault
commit_fenced name fence drafts = do
  w ← fence_words fence
  drafts ← draft_words drafts
  name ← name_at name
  fence ← fence_numbers w
  drafts ← drafts_at drafts
  Ok (command.Fenced name fence (act.Commit (record { items = drafts })))

-- either of them
abbrev pub commit_said : List (List ℕ) → Result Command LineFault
commit_said [] = Err Syntax
commit_said (name ∷ []) = commit_of name []
commit_said (name ∷ (fence ∷ drafts)) =
    if is_fence fence then commit_fenced name fence drafts else commit_of name (fence ∷ drafts)

-- `abort NAME =ID:TRY`
unfoldable pub abort_fenced : List ℕ → List ℕ → Result Command LineFault
abort_fenced name fence = do
  w ← fence_words fence
  name ← name_at name
  fence ← fence_numbers w
  Ok (command.Fenced name fence act.Abort)

-- `abort NAME`, or that
abbrev pub abort_said : List (List ℕ) → Result Command LineFault
abort_said (name ∷ fence ∷ []) = abort_fenced name fence
abort_said ws = one_name ws >>= λ name. Ok (command.Act name act.Abort)

-- a name and its epoch, a number, and the words of a `submit` line
unfoldable pub send_words : List (List ℕ) → Result ((List ℕ × Option (List ℕ)) × List ℕ × SubmitWords) LineFault
send_words (name ∷ number ∷ ws) = do
  who ← who_words name
  w ← submit_words ws
  Ok (who, number, w)
send_words ws = Err Syntax

-- `send NAME/EPOCH N STAGE KEY AMOUNT W2 W3`
unfoldable pub send_of : (List ℕ × Option (List ℕ)) × List ℕ × SubmitWords → Result Command LineFault
send_of (who, number, w) = do
  name ← name_at who.0
  epoch ← long_if who.1
  number ← ordinal_at number
  stage ← short_at w.stage
  body ← submit_body w
  Ok (command.Send name epoch number stage body)

-- ROOT, and `note WORD` behind it; each may be missing
abbrev pub receive_rest : List (List ℕ) → Result (Option (List ℕ) × Option (List ℕ)) LineFault
receive_rest [] = Ok (None, None)
receive_rest (root ∷ []) = Ok (Some root, None)
receive_rest (mark ∷ note ∷ []) = if bytes_eq mark (codes "note") then Ok (None, Some note) else Err Syntax
receive_rest (root ∷ mark ∷ note ∷ []) =
    if bytes_eq mark (codes "note") then Ok (Some root, Some note) else Err Syntax
receive_rest ws = Err Syntax

-- the words of a `receive` line, each in its place
pub record ReceiveWords : Type 0 where
  pub name : List ℕ
  pub epoch : Option (List ℕ)
  pub number : List ℕ
  pub root : Option (List ℕ)
  pub note : Option (List ℕ)

unfoldable pub receive_words : List (List ℕ) → Result ReceiveWords LineFault
receive_words (name ∷ number ∷ ws) = do
  who ← who_words name
  rest ← receive_rest ws
  Ok (record { name = who.0; epoch = who.1; number = number; root = rest.0; note = rest.1 })
receive_words ws = Err Syntax

-- `receive NAME/EPOCH N ROOT note WORD`
unfoldable pub receive_of : ReceiveWords → Result Command LineFault
receive_of w = do
  name ← name_at w.name
  note ← name_if w.note
  epoch ← long_if w.epoch
  number ← ordinal_at w.number
  root ← long_if w.root
  Ok (command.Receive name epoch number root note)

-- what a line of this first word asks for, by the words after it
abbrev pub command_said : Verb → List (List ℕ) → Result Command LineFault
command_said (verb.OfId what) ws = one_number ws >>= λ id. Ok (of_id what id)
command_said (verb.Alone what) ws = no_word ws >>= λ _. Ok (standing_alone what)
command_said (verb.Deed what) ws = one_name ws >>= λ name. Ok (command.Act name (deed_of what))
command_said verb.Submit ws = submit_words ws >>= λ w. submit_of w
command_said verb.List ws = list_words ws >>= λ w. list_of w
command_said verb.Drain ws = drain_said ws
command_said verb.Sum ws = one_number ws >>= λ k. Ok (command.Sum k)
command_said verb.Balance ws = name_and_number ws >>= λ w. Ok (command.Balance w.0 w.1)
command_said verb.Take ws = name_and_number ws >>= λ w. Ok (command.Act w.0 (act.Take w.1))
command_said verb.Commit ws = commit_said ws
command_said verb.Abort ws = abort_said ws
command_said verb.Leave ws = one_name ws >>= λ name. Ok (command.Leave name)
command_said verb.Send ws = send_words ws >>= λ w. send_of w
command_said verb.Receive ws = receive_words ws >>= λ w. receive_of w
command_said verb.Last ws = one_name ws >>= λ name. Ok (command.Last name)
command_said verb.Forget ws = one_name ws >>= λ name. Ok (command.Forget name)
