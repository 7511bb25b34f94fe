-- The outputs of a worker's commit, as its line says them.
use Rattle.std.specs.Prelude.{ℕ, List, [], ◌∷◌, ◌==◌, Result, Ok}
use Rattle.std.specs.List.{slice_split}
use Rattle.tp_model.specs.Drafts.{DraftView}
use Rattle.tp_script.specs.declared.fault.LineFault.{LineFault}
use Rattle.tp_script.specs.Commands.{SubmitWords, submit_body, submit_words}
use Rattle.tp_script.specs.LineWords.{◌>>=◌}
use Rattle.tp_lines.specs.Words.{stage_at}

-- the numbers of a draft
unfoldable pub draft_numbers : SubmitWords → Result DraftView LineFault
draft_numbers w = do
  stage ← stage_at w.stage
  body ← submit_body w
  Ok (record { stage = stage; body = body })

-- STAGE:W0:W1, with words 2 and 3 of the body after; missing ones are 0
unfoldable pub draft_at : List ℕ → Result DraftView LineFault
draft_at w = submit_words (slice_split (λ b. b == 58) w) >>= λ ws. draft_numbers ws

-- one draft after the other
unfoldable pub drafts_at : List (List ℕ) → Result (List DraftView) LineFault
drafts_at [] = Ok []
drafts_at (w ∷ ws) = do
  first ← draft_at w
  others ← drafts_at ws
  Ok (first ∷ others)
