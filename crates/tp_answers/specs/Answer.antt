-- The texts of answers, and the lines of a session's output.
use Rattle.std.specs.Prelude.{◌≡◌, ℕ, List, codes, decimal, map}
use Rattle.tp_script.specs.Fault.{◌<>◌, line_fault_text}
use Rattle.tp_script.specs.declared.fault.LineFault.{LineFault}
use Rattle.tp_answers.specs.declared.answer.Answer.{Answer}
use Rattle.tp_answers.specs.declared.answer.Answer.TheVariants as answer
use Rattle.tp_answers.specs.ElementTexts.{cancelled_text, collected_text, errors_text, family_text}
use Rattle.tp_answers.specs.ElementTexts.{killed_text, list_text, read_text, released_text, replies_text}
use Rattle.tp_answers.specs.ElementTexts.{requeued_text, submitted_text}
use Rattle.tp_answers.specs.NoteTexts.{forgotten_text, last_client_text, last_worker_text, received_text}
use Rattle.tp_answers.specs.NoteTexts.{registered_text, sent_text}
use Rattle.tp_answers.specs.OverviewTexts.{account_text, balance_text, counts_text, depths_text, final_text}
use Rattle.tp_answers.specs.OverviewTexts.{holder_view, holds_text, sum_text}
use Rattle.tp_answers.specs.Refusals.{busy_text, differs_text, fenced_text, gap_text, refusal_text}
use Rattle.tp_answers.specs.ToldTexts.{joined_text, left_text, named_text}
use Rattle.tp_answers.specs.Version.{version_text}

-- a text as a line
abbrev pub line : List ℕ → List ℕ
line text = text <> codes "\n"

-- ---- what belongs to no other topic

-- nothing is left for the servers
abbrev pub drained_text : List ℕ
drained_text = codes "drained"

-- something may be left for them
abbrev pub drained_so_far_text : List ℕ
drained_so_far_text = codes "drained so far"

-- so many elements are alive again
abbrev pub restored_text : ℕ → List ℕ
restored_text many = codes "restored " <> decimal many

-- a faulty line, by its number among all lines
abbrev pub refused_line_text : ℕ → LineFault → List ℕ
refused_line_text number fault =
    codes "refused line " <> decimal number <> codes ": " <> line_fault_text fault

-- ---- all of them

-- the text of an answer
abbrev pub answer_text : Answer → List ℕ
answer_text (answer.Submitted id) = submitted_text id
answer_text (answer.Refused why) = refusal_text why
answer_text (answer.Named name told) = named_text name.now told
answer_text (answer.Replies root replies) = replies_text root replies.now
answer_text (answer.Collected root replies) = collected_text root replies.now
answer_text (answer.Killed id aborted) = killed_text id aborted
answer_text (answer.Cancelled root killed) = cancelled_text root killed
answer_text (answer.Requeued id round) = requeued_text id round
answer_text (answer.Released id unit attempt) = released_text id unit attempt
answer_text (answer.Family root members) = family_text root members.now
answer_text (answer.Read id element) = read_text id element
answer_text (answer.Errors parked) = errors_text parked.now
answer_text (answer.List stage waiting) = list_text stage waiting.now
answer_text (answer.Balance name k value) = balance_text name.now k value
answer_text (answer.Sum k sum) = sum_text k sum
answer_text (answer.Count all) = counts_text all
answer_text (answer.Depth depths) = depths_text depths.now
answer_text (answer.Account all) = account_text all
answer_text answer.Busy = busy_text
answer_text answer.Gap = gap_text
answer_text answer.Fenced = fenced_text
answer_text answer.Differs = differs_text
answer_text answer.Drained = drained_text
answer_text answer.DrainedSoFar = drained_so_far_text
answer_text (answer.Final name registers) = final_text name.now registers.now
answer_text (answer.Joined name) = joined_text name.now
answer_text (answer.Left name told) = left_text name.now told
answer_text (answer.Registered name epoch) = registered_text name.now epoch
answer_text (answer.Sent name number sent) = sent_text name.now number sent
answer_text (answer.Received name number received) = received_text name.now number received
answer_text (answer.LastClient name note) = last_client_text name.now note.now
answer_text (answer.LastWorker name hand end) = last_worker_text name.now hand end
answer_text (answer.Forgotten name) = forgotten_text name.now
answer_text (answer.Holds holders) = holds_text (map holder_view holders.now)
answer_text (answer.Restored many) = restored_text many
answer_text (answer.RefusedLine number fault) = refused_line_text number fault
answer_text answer.Version = version_text

-- the text is the line of an answer
abbrev pub IsLine : List ℕ → Type 0
IsLine text = (a : Answer) × (text ≡ line (answer_text a))
