-- The drafts of a worker's commit, one after the other.
use Rattle.std.proofs.Common.{◌≡◌, ℕ, List, [], ◌∷◌, ◌++◌, Result, Ok, Err, refl, sym, ap, ◌∙◌, append_assoc}
use Rattle.std.proofs.lemmas.List.{append-nil}
use Rattle.tp_model.specs.Drafts.{DraftView}
use Rattle.tp_script.specs.declared.fault.LineFault.{LineFault}
use Rattle.tp_script.specs.declared.fault.LineError.{LineError}
use Rattle.tp_script.specs.declared.fault.LineError.TheVariants as errors
use Rattle.tp_script.specs.LineWords.{◌>>=◌}
use Rattle.tp_lines.specs.Drafts.{draft_at, drafts_at}
use Rattle.tp_script.specs.Reading.{Fails}

-- what was read before, and what is still read
abbrev pub with_front : List DraftView → Result (List DraftView) LineFault → Result (List DraftView) LineFault
with_front front read = read >>= λ others. Ok (front ++ others)

regroup : (front : List DraftView) (o : DraftView) (read : Result (List DraftView) LineFault) → with_front front (read >>= λ others. Ok (o ∷ others)) ≡ with_front (front ++ o ∷ []) read
regroup front o (Ok others) = ap (λ (x : List DraftView). Ok x) (sym (append_assoc front (o ∷ []) others))
regroup front o (Err f) = refl

pub drafts_go_on : (front : List DraftView) (w : List ℕ) (ws : List (List ℕ)) (o : DraftView) (all : Result (List DraftView) LineFault) → draft_at w ≡ Ok o → with_front front (drafts_at (w ∷ ws)) ≡ all → with_front (front ++ o ∷ []) (drafts_at ws) ≡ all
unfolding drafts_at
drafts_go_on front w ws o all h so_far =
    let one : with_front front (drafts_at (w ∷ ws)) ≡ with_front (front ++ o ∷ []) (drafts_at ws) = rw h (regroup front o (drafts_at ws)) in
    sym one ∙ so_far

pub drafts_end : (e : LineError) (front : List DraftView) (w : List ℕ) (ws : List (List ℕ)) (all : Result (List DraftView) LineFault) → Fails e (draft_at w) → with_front front (drafts_at (w ∷ ws)) ≡ all → Fails e all
unfolding drafts_at
drafts_end errors.NoMemory front w ws all h so_far = tt
drafts_end (errors.Fault f) front w ws all h so_far =
    let one : with_front front (drafts_at (w ∷ ws)) ≡ Err f = rw h refl in
    sym so_far ∙ one

pub drafts_done : (front : List DraftView) (all : Result (List DraftView) LineFault) → with_front front (drafts_at []) ≡ all → all ≡ Ok front
unfolding drafts_at
drafts_done front all so_far = sym so_far ∙ ap (λ (x : List DraftView). Ok x) (append-nil front)
