-- The lines that a dump tells, each read by itself.
use Rattle.std.proofs.Common.{◌≡◌, ◌≢◌, ℕ, ◌≤◌, ◌==◌, ◌&&◌, true, not, Ok, [], ◌∷◌, nat_le, refl, ◌∙◌, ap, inl, inr, arith}
use Rattle.std.specs.Prelude.{codes, decimal}
use Rattle.std.proofs.lemmas.Bool.Decides.{eqb_tells}
use Rattle.tp_model.specs.declared.types.TheConstants.{MAX_ATTEMPTS}
use Rattle.tp_store.specs.declared.element.TheConstants.{LAST_STAGE, REPLY_STAGE}
use Rattle.tp_script.specs.LineWords.{number_at, require}
use Rattle.tp_script.specs.declared.fault.LineFault.TheVariants.{BadLimits, BadNumber}
use Rattle.tp_lines.specs.Ends.{done_at, end_of, ended_said, ending_at, ending_with}
use Rattle.tp_lines.specs.Grammar.{line_said, words_said}
use Rattle.tp_lines.specs.HeadTexts.{head_text}
use Rattle.tp_lines.specs.Heads as heads
use Rattle.tp_lines.specs.Heads.{ElementWords, ClientWords, head_said}
use Rattle.tp_lines.specs.Names.{NameView}
use Rattle.tp_lines.specs.Told.{IsFitEnd, IsFitLine, IsLong, ToldAndRead}
use Rattle.tp_lines.specs.Words.{long_at, name_and_number, name_and_two, name_at, short_at, stage_at, three_numbers, worker_stage_at}
use Rattle.tp_lines.specs.declared.ends.Ending.TheVariants as ending
use Rattle.tp_lines.specs.declared.keyword.HeadVerb.TheVariants as verb
use Rattle.tp_lines.specs.declared.line.HeadLine.TheVariants as head
use Rattle.tp_lines.specs.declared.line.Line.TheVariants as line
use Rattle.tp_lines.specs.declared.line.UnitEnd.{UnitEnd}
use Rattle.tp_lines.specs.declared.line.UnitEnd.TheVariants as end
use Rattle.tp_lines.proofs.Cuts.{and_true, le_true}
use Rattle.tp_lines.proofs.WordReads.{AreWords, bind_ok, letters_of, long_ok, name_ok, name_word, number_ok, number_word, short_ok, small_word}
use Rattle.tp_lines.proofs.LineReads.{told}
use Rattle.tp_lines.proofs.ElementReads.{client_reads, element_reads}
use Rattle.tp_lines.proofs.ServerReads.{server_reads}

-- ---- settings, and lines of numbers

limit_reads : (n : ℕ) → IsFitLine (head.Limit n) → line_said (head_text (head.Limit n)) ≡ Ok (line.Head (head.Limit n))
unfolding words_said heads.limit_said
limit_reads n fit =
    let low = fit.0 in
    let high = fit.1 in
    let long : IsLong n = omega (arith, high) in
    told 108 (105 ∷ 109 ∷ 105 ∷ 116 ∷ []) (decimal n ∷ []) (20 ∷ []) refl (omega arith) (number_word n long, tt) (omega arith) (head.Limit n)
    (bind_ok (head_said verb.Limit (decimal n ∷ [])) (head.Limit n) (λ h. Ok (line.Head h))
    (bind_ok (long_at (decimal n)) n _ (long_ok n long)
    ∙ bind_ok (require (nat_le 1 n && nat_le n MAX_ATTEMPTS) BadLimits) tt _ (ap (λ b. require b BadLimits) (and_true (nat_le 1 n) (nat_le n MAX_ATTEMPTS) (le_true 1 n low) (le_true n MAX_ATTEMPTS high)))))

max_reads : (n : ℕ) → IsFitLine (head.Max n) → line_said (head_text (head.Max n)) ≡ Ok (line.Head (head.Max n))
unfolding words_said
max_reads n fit =
    told 109 (97 ∷ 120 ∷ []) (decimal n ∷ []) (20 ∷ []) refl (omega arith) (number_word n fit, tt) (omega arith) (head.Max n)
    (bind_ok (head_said verb.Max (decimal n ∷ [])) (head.Max n) (λ h. Ok (line.Head h))
    (bind_ok (long_at (decimal n)) n _ (long_ok n fit)))

keep_reads : (n : ℕ) → IsFitLine (head.Keep n) → line_said (head_text (head.Keep n)) ≡ Ok (line.Head (head.Keep n))
unfolding words_said heads.keep_said
keep_reads n fit =
    told 107 (101 ∷ 101 ∷ 112 ∷ []) (decimal n ∷ []) (20 ∷ []) refl (omega arith) (number_word n fit.1, tt) (omega arith) (head.Keep n)
    (bind_ok (head_said verb.Keep (decimal n ∷ [])) (head.Keep n) (λ h. Ok (line.Head h))
    (bind_ok (long_at (decimal n)) n _ (long_ok n fit.1)
    ∙ bind_ok (require (nat_le 1 n) BadLimits) tt _ (ap (λ b. require b BadLimits) (le_true 1 n fit.0))))

over_reads : (n : ℕ) → IsFitLine (head.Over n) → line_said (head_text (head.Over n)) ≡ Ok (line.Head (head.Over n))
unfolding words_said
over_reads n fit =
    told 111 (118 ∷ 101 ∷ 114 ∷ []) (decimal n ∷ []) (20 ∷ []) refl (omega arith) (number_word n fit, tt) (omega arith) (head.Over n)
    (bind_ok (head_said verb.Over (decimal n ∷ [])) (head.Over n) (λ h. Ok (line.Head h))
    (bind_ok (long_at (decimal n)) n _ (long_ok n fit)))

three_ok : (a b c : ℕ) → IsLong a → IsLong b → IsLong c → three_numbers (decimal a ∷ decimal b ∷ decimal c ∷ []) ≡ Ok (a, b, c)
unfolding three_numbers
three_ok a b c fa fb fc =
    bind_ok (long_at (decimal a)) a _ (long_ok a fa)
    ∙ (bind_ok (long_at (decimal b)) b _ (long_ok b fb)
    ∙ bind_ok (long_at (decimal c)) c _ (long_ok c fc))

three_words : (a b c : ℕ) → IsLong a → IsLong b → IsLong c → AreWords (decimal a ∷ decimal b ∷ decimal c ∷ []) (20 ∷ 20 ∷ 20 ∷ [])
three_words a b c fa fb fc = (number_word a fa, (number_word b fb, (number_word c fc, tt)))

numbers_reads : (a b c : ℕ) → IsFitLine (head.Numbers a b c) → line_said (head_text (head.Numbers a b c)) ≡ Ok (line.Head (head.Numbers a b c))
unfolding words_said
numbers_reads a b c fit =
    told 110 (117 ∷ 109 ∷ 98 ∷ 101 ∷ 114 ∷ 115 ∷ []) (decimal a ∷ decimal b ∷ decimal c ∷ []) (20 ∷ 20 ∷ 20 ∷ []) refl (omega arith) (three_words a b c fit.0 fit.1 fit.2) (omega arith) (head.Numbers a b c)
    (bind_ok (head_said verb.Numbers (decimal a ∷ decimal b ∷ decimal c ∷ [])) (head.Numbers a b c) (λ h. Ok (line.Head h))
    (bind_ok (three_numbers (decimal a ∷ decimal b ∷ decimal c ∷ [])) (a, b, c) _ (three_ok a b c fit.0 fit.1 fit.2)))

settled_reads : (a b c : ℕ) → IsFitLine (head.Settled a b c) → line_said (head_text (head.Settled a b c)) ≡ Ok (line.Head (head.Settled a b c))
unfolding words_said heads.settled_said
settled_reads a b c fit =
    let small = fit.0 in
    let fa : IsLong a = omega (arith, small) in
    told 115 (101 ∷ 116 ∷ 116 ∷ 108 ∷ 101 ∷ 100 ∷ []) (decimal a ∷ decimal b ∷ decimal c ∷ []) (20 ∷ 20 ∷ 20 ∷ []) refl (omega arith) (three_words a b c fa fit.1 fit.2) (omega arith) (head.Settled a b c)
    (bind_ok (head_said verb.Settled (decimal a ∷ decimal b ∷ decimal c ∷ [])) (head.Settled a b c) (λ h. Ok (line.Head h))
    (bind_ok (short_at (decimal a)) a _ (short_ok a small)
    ∙ (bind_ok (long_at (decimal b)) b _ (long_ok b fit.1)
    ∙ bind_ok (long_at (decimal c)) c _ (long_ok c fit.2))))

-- ---- lines of names

renew_reads : (name : NameView) → IsFitLine (head.Renew name) → line_said (head_text (head.Renew name)) ≡ Ok (line.Head (head.Renew name))
unfolding words_said
renew_reads name fit =
    told 114 (101 ∷ 103 ∷ 105 ∷ 115 ∷ 116 ∷ 101 ∷ 114 ∷ []) (name.letters ∷ codes "new" ∷ []) (32 ∷ 8 ∷ []) refl (omega arith) (name_word name.letters fit, (small_word (codes "new") 8 (letters_of (codes "new") refl) (omega arith) (omega arith), tt)) (omega arith) (head.Renew name)
    (bind_ok (head_said verb.Register (name.letters ∷ codes "new" ∷ [])) (head.Renew name) (λ h. Ok (line.Head h))
    (bind_ok (name_at name.letters) name _ (name_ok name fit)))

register_reads : (name : NameView) → IsFitLine (head.Register name) → line_said (head_text (head.Register name)) ≡ Ok (line.Head (head.Register name))
unfolding words_said
register_reads name fit =
    told 114 (101 ∷ 103 ∷ 105 ∷ 115 ∷ 116 ∷ 101 ∷ 114 ∷ []) (name.letters ∷ []) (32 ∷ []) refl (omega arith) (name_word name.letters fit, tt) (omega arith) (head.Register name)
    (bind_ok (head_said verb.Register (name.letters ∷ [])) (head.Register name) (λ h. Ok (line.Head h))
    (bind_ok (name_at name.letters) name _ (name_ok name fit)))

prepared_reads : (name : NameView) → IsFitLine (head.Prepared name) → line_said (head_text (head.Prepared name)) ≡ Ok (line.Head (head.Prepared name))
unfolding words_said
prepared_reads name fit =
    told 112 (114 ∷ 101 ∷ 112 ∷ 97 ∷ 114 ∷ 101 ∷ 100 ∷ []) (name.letters ∷ []) (32 ∷ []) refl (omega arith) (name_word name.letters fit, tt) (omega arith) (head.Prepared name)
    (bind_ok (head_said verb.Prepared (name.letters ∷ [])) (head.Prepared name) (λ h. Ok (line.Head h))
    (bind_ok (name_at name.letters) name _ (name_ok name fit)))

dropped_reads : (name : NameView) → IsFitLine (head.Dropped name) → line_said (head_text (head.Dropped name)) ≡ Ok (line.Head (head.Dropped name))
unfolding words_said
dropped_reads name fit =
    told 100 (114 ∷ 111 ∷ 112 ∷ 112 ∷ 101 ∷ 100 ∷ []) (name.letters ∷ []) (32 ∷ []) refl (omega arith) (name_word name.letters fit, tt) (omega arith) (head.Dropped name)
    (bind_ok (head_said verb.Dropped (name.letters ∷ [])) (head.Dropped name) (λ h. Ok (line.Head h))
    (bind_ok (name_at name.letters) name _ (name_ok name fit)))

start_reads : (name : NameView) (a b : ℕ) → IsFitLine (head.Start name a b) → line_said (head_text (head.Start name a b)) ≡ Ok (line.Head (head.Start name a b))
unfolding words_said name_and_two
start_reads name a b fit =
    told 115 (116 ∷ 97 ∷ 114 ∷ 116 ∷ []) (name.letters ∷ decimal a ∷ decimal b ∷ []) (32 ∷ 20 ∷ 20 ∷ []) refl (omega arith) (name_word name.letters fit.0, (number_word a fit.1, (number_word b fit.2, tt))) (omega arith) (head.Start name a b)
    (bind_ok (head_said verb.Start (name.letters ∷ decimal a ∷ decimal b ∷ [])) (head.Start name a b) (λ h. Ok (line.Head h))
    (bind_ok (name_and_two (name.letters ∷ decimal a ∷ decimal b ∷ [])) (name, a, b) _
    (bind_ok (name_at name.letters) name _ (name_ok name fit.0)
    ∙ (bind_ok (long_at (decimal a)) a _ (long_ok a fit.1)
    ∙ bind_ok (long_at (decimal b)) b _ (long_ok b fit.2)))))

hand_reads : (name : NameView) (a b c : ℕ) → IsFitLine (head.Hand name a b c) → line_said (head_text (head.Hand name a b c)) ≡ Ok (line.Head (head.Hand name a b c))
unfolding words_said heads.hand_of
hand_reads name a b c fit =
    let few = fit.3 in
    let fc : IsLong c = omega (arith, few) in
    told 104 (97 ∷ 110 ∷ 100 ∷ []) (name.letters ∷ decimal a ∷ decimal b ∷ decimal c ∷ []) (32 ∷ 20 ∷ 20 ∷ 20 ∷ []) refl (omega arith) (name_word name.letters fit.0, (number_word a fit.1, (number_word b fit.2, (number_word c fc, tt)))) (omega arith) (head.Hand name a b c)
    (bind_ok (head_said verb.Hand (name.letters ∷ decimal a ∷ decimal b ∷ decimal c ∷ [])) (head.Hand name a b c) (λ h. Ok (line.Head h))
    (bind_ok (name_at name.letters) name _ (name_ok name fit.0)
    ∙ (bind_ok (long_at (decimal a)) a _ (long_ok a fit.1)
    ∙ (bind_ok (long_at (decimal b)) b _ (long_ok b fit.2)
    ∙ bind_ok (short_at (decimal c)) c _ (short_ok c few)))))

from_reads : (name : NameView) (a : ℕ) → IsFitLine (head.From name a) → line_said (head_text (head.From name a)) ≡ Ok (line.Head (head.From name a))
unfolding words_said name_and_number
from_reads name a fit =
    told 102 (114 ∷ 111 ∷ 109 ∷ []) (name.letters ∷ decimal a ∷ []) (32 ∷ 20 ∷ []) refl (omega arith) (name_word name.letters fit.0, (number_word a fit.1, tt)) (omega arith) (head.From name a)
    (bind_ok (head_said verb.From (name.letters ∷ decimal a ∷ [])) (head.From name a) (λ h. Ok (line.Head h))
    (bind_ok (name_and_number (name.letters ∷ decimal a ∷ [])) (name, a) _
    (bind_ok (name_at name.letters) name _ (name_ok name fit.0)
    ∙ bind_ok (long_at (decimal a)) a _ (long_ok a fit.1))))

not_reply : (stage : ℕ) → stage ≢ REPLY_STAGE → not (stage == REPLY_STAGE) ≡ true
not_reply stage other = elim (eqb_tells stage REPLY_STAGE) [
  | inl p ↦ absurd (other p.1)
  | inr p ↦ ap not p.0
]

stage_ok : (stage : ℕ) → 1 ≤ stage → stage ≤ LAST_STAGE → stage ≢ REPLY_STAGE → worker_stage_at (decimal stage) ≡ Ok stage
unfolding worker_stage_at stage_at
stage_ok stage low high other =
    bind_ok (stage_at (decimal stage)) stage _
    (bind_ok (number_at LAST_STAGE (decimal stage)) stage _ (number_ok LAST_STAGE stage (omega (arith, high)) high)
    ∙ bind_ok (require (nat_le 1 stage) BadNumber) tt _ (ap (λ b. require b BadNumber) (le_true 1 stage low)))
    ∙ bind_ok (require (not (stage == REPLY_STAGE)) BadNumber) tt _ (ap (λ b. require b BadNumber) (not_reply stage other))

worker_reads : (name : NameView) (stage : ℕ) → IsFitLine (head.Worker name stage) → line_said (head_text (head.Worker name stage)) ≡ Ok (line.Head (head.Worker name stage))
unfolding words_said heads.worker_said
worker_reads name stage fit =
    let high = fit.2 in
    told 119 (111 ∷ 114 ∷ 107 ∷ 101 ∷ 114 ∷ []) (name.letters ∷ decimal stage ∷ []) (32 ∷ 20 ∷ []) refl (omega arith) (name_word name.letters fit.0, (number_word stage (omega (arith, high)), tt)) (omega arith) (head.Worker name stage)
    (bind_ok (head_said verb.Worker (name.letters ∷ decimal stage ∷ [])) (head.Worker name stage) (λ h. Ok (line.Head h))
    (bind_ok (name_at name.letters) name _ (name_ok name fit.0)
    ∙ bind_ok (worker_stage_at (decimal stage)) stage _ (stage_ok stage fit.1 fit.2 fit.3)))

-- ---- how units ended

done_ok : (id unit first count : ℕ) → IsFitEnd (end.Done id unit first count) → done_at (decimal id ∷ decimal unit ∷ decimal first ∷ decimal count ∷ []) ≡ Ok (end.Done id unit first count)
unfolding done_at
done_ok id unit first count fit =
    bind_ok (long_at (decimal id)) id _ (long_ok id fit.0)
    ∙ (bind_ok (long_at (decimal unit)) unit _ (long_ok unit fit.1)
    ∙ (bind_ok (long_at (decimal first)) first _ (long_ok first fit.2)
    ∙ bind_ok (long_at (decimal count)) count _ (long_ok count fit.3)))

ended_reads : (name : NameView) (how : UnitEnd) → IsFitLine (head.Ended name how) → line_said (head_text (head.Ended name how)) ≡ Ok (line.Head (head.Ended name how))
unfolding words_said ended_said ending_with ending_at
ended_reads name (end.Done id unit first count) fit =
    let f = fit.1 in
    let ws = decimal id ∷ decimal unit ∷ decimal first ∷ decimal count ∷ [] in
    told 101 (110 ∷ 100 ∷ 101 ∷ 100 ∷ []) (name.letters ∷ codes "done" ∷ ws) (32 ∷ 8 ∷ 20 ∷ 20 ∷ 20 ∷ 20 ∷ []) refl (omega arith)
    (name_word name.letters fit.0, (small_word (codes "done") 8 (letters_of (codes "done") refl) (omega arith) (omega arith), (number_word id f.0, (number_word unit f.1, (number_word first f.2, (number_word count f.3, tt)))))) (omega arith) (head.Ended name (end.Done id unit first count))
    (bind_ok (head_said verb.Ended (name.letters ∷ codes "done" ∷ ws)) (head.Ended name (end.Done id unit first count)) (λ h. Ok (line.Head h))
    (bind_ok (name_at name.letters) name _ (name_ok name fit.0)
    ∙ bind_ok (done_at ws) (end.Done id unit first count) _ (done_ok id unit first count f)))
ended_reads name (end.Aborted id) fit =
    told 101 (110 ∷ 100 ∷ 101 ∷ 100 ∷ []) (name.letters ∷ codes "aborted" ∷ decimal id ∷ []) (32 ∷ 8 ∷ 20 ∷ []) refl (omega arith)
    (name_word name.letters fit.0, (small_word (codes "aborted") 8 (letters_of (codes "aborted") refl) (omega arith) (omega arith), (number_word id fit.1, tt))) (omega arith) (head.Ended name (end.Aborted id))
    (bind_ok (head_said verb.Ended (name.letters ∷ codes "aborted" ∷ decimal id ∷ [])) (head.Ended name (end.Aborted id)) (λ h. Ok (line.Head h))
    (bind_ok (name_at name.letters) name _ (name_ok name fit.0)
    ∙ bind_ok (end_of ending.Aborted (decimal id ∷ [])) (end.Aborted id) _ (bind_ok (long_at (decimal id)) id _ (long_ok id fit.1))))
ended_reads name (end.Lost id) fit =
    told 101 (110 ∷ 100 ∷ 101 ∷ 100 ∷ []) (name.letters ∷ codes "lost" ∷ decimal id ∷ []) (32 ∷ 8 ∷ 20 ∷ []) refl (omega arith)
    (name_word name.letters fit.0, (small_word (codes "lost") 8 (letters_of (codes "lost") refl) (omega arith) (omega arith), (number_word id fit.1, tt))) (omega arith) (head.Ended name (end.Lost id))
    (bind_ok (head_said verb.Ended (name.letters ∷ codes "lost" ∷ decimal id ∷ [])) (head.Ended name (end.Lost id)) (λ h. Ok (line.Head h))
    (bind_ok (name_at name.letters) name _ (name_ok name fit.0)
    ∙ bind_ok (end_of ending.Lost (decimal id ∷ [])) (end.Lost id) _ (bind_ok (long_at (decimal id)) id _ (long_ok id fit.1))))

-- ---- all of them

pub told_and_read : ToldAndRead
told_and_read (head.Limit n) fit = limit_reads n fit
told_and_read (head.Max n) fit = max_reads n fit
told_and_read (head.Keep n) fit = keep_reads n fit
told_and_read (head.Server server) fit = server_reads server fit
told_and_read (head.Start name k value) fit = start_reads name k value fit
told_and_read (head.Worker name stage) fit = worker_reads name stage fit
told_and_read (head.Register name) fit = register_reads name fit
told_and_read (head.Renew name) fit = renew_reads name fit
told_and_read (head.Numbers next units owners) fit = numbers_reads next units owners fit
told_and_read (head.Element id element) fit = element_reads id element fit.0 fit.1
told_and_read (head.Over root) fit = over_reads root fit
told_and_read (head.Settled stage consumed killed) fit = settled_reads stage consumed killed fit
told_and_read (head.Hand name id unit tries) fit = hand_reads name id unit tries fit
told_and_read (head.Prepared name) fit = prepared_reads name fit
told_and_read (head.Dropped name) fit = dropped_reads name fit
told_and_read (head.From name id) fit = from_reads name id fit
told_and_read (head.Ended name how) fit = ended_reads name how fit
told_and_read (head.Client name note) fit = client_reads name note fit.0 fit.1
