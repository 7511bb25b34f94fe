-- A journal that has a text, and a text that gets longer.
use Rattle.std.proofs.Common.{◌≡◌, inl, inr, ℕ, ◌<◌, ◌≤◌, ◌^◌, List, [], ◌++◌, decimal, length, take, drop, refl, sym, ◌∙◌, ap, subst, append_assoc}
use Rattle.std.proofs.lemmas.List.Elements.{All-append, All-take}
use Rattle.std.proofs.lemmas.List.{length-take-le, take_at}
use Rattle.sha2.specs.Hashers.{Holds256}
use Rattle.tp_journal.specs.Device.{LeavesOnly, Only}
use Rattle.tp_journal.specs.Journal.{JournalHasText, Stands}
use Rattle.tp_journal.specs.Text.{HasSealed, IsBatch, IsDamage, IsFrontOf, IsRecovered, IsSealed, IsSet, IsText, end_line, first_line, sealed_batch, text_of, with_batch}
use Rattle.tp_journal.specs.declared.journal.Journal.{Journal}
use Rattle.tp_journal.proofs.EndLines.{begun, sealed-text}
use Rattle.tp_journal.proofs.Moments.{started}
use Rattle.tp_journal.proofs.Texts.{rest-text, text-is_text}

pub kept : {D : Type 0} (seen : D → List ℕ) (may_leave : D → List ℕ → Type 0) (text : List ℕ) (journal : Journal D) → Stands seen may_leave text journal.len journal.device → journal.end ≡ length text → Holds256 journal.hasher text → JournalHasText seen may_leave (text_of (seen journal.device)) journal
kept seen may_leave text journal stands end hashed =
    subst (λ (t : List ℕ). JournalHasText seen may_leave t journal) (sym (rest-text text (seen journal.device) stands.at_rest)) (record { stands = stands; end = end; hashed = hashed })

-- nothing was done
pub idle : {D : Type 0} (seen : D → List ℕ) (may_leave : D → List ℕ → Type 0) (moment : D → ℕ) (left_since : D → ℕ → List ℕ → Type 0) (P : List ℕ → Type 0) (d : D)
    → ((c : List ℕ) → left_since d (moment d) c → may_leave d c) → Only (seen d) (may_leave d) → P (seen d) → LeavesOnly moment left_since d d P
idle seen may_leave moment left_since P d only_now durable here = started moment left_since d P (λ f left. subst P (sym (durable f (only_now f left))) here)

pub sealed-front : (text : List ℕ) → IsSealed text → IsFrontOf text first_line
sealed-front text (inl is) = record { rest = []; whole = is }
sealed-front text (inr (begin, inner, digits, front, is)) = record { rest = front.rest ++ end_line begin inner; whole = is ∙ ap (λ (l : List ℕ). l ++ end_line begin inner) front.whole ∙ append_assoc first_line front.rest (end_line begin inner) }

pub appended-text : (text batch bytes : List ℕ) → bytes ≡ sealed_batch text batch → text ++ bytes ≡ with_batch text batch
appended-text text batch bytes is = ap (λ (l : List ℕ). text ++ l) is ∙ sym (append_assoc text batch (end_line (decimal (length text)) (text ++ batch)))

pub appended-sealed : (text batch : List ℕ) → length (text ++ batch) < 2 ^ 64 → IsSealed text → IsSealed (with_batch text batch)
appended-sealed text batch short is =
    let front = sealed-front text is in
    inr (decimal (length text), text ++ batch, begun text batch short, record { rest = front.rest ++ batch; whole = ap (λ (l : List ℕ). l ++ batch) front.whole ∙ append_assoc first_line front.rest batch }, refl)

pub bytes-text : (text batch bytes : List ℕ) → length (text ++ batch) < 2 ^ 64 → IsBatch batch → bytes ≡ sealed_batch text batch → IsText bytes
bytes-text text batch bytes short is same = subst IsText (sym same) (sealed-text batch (decimal (length text)) (text ++ batch) is.plain (begun text batch short) short)

pub replaced-text : (batch first bytes : List ℕ) → first ≡ first_line → bytes ≡ sealed_batch first_line batch → first ++ bytes ≡ with_batch first_line batch
replaced-text batch first bytes first_is is = ap (λ (l : List ℕ). l ++ bytes) first_is ∙ appended-text first_line batch bytes is

pub first_text : IsText first_line
first_text = text-is_text first_line

pub front-text : (text front : List ℕ) → IsText text → IsFrontOf text front → IsText front
front-text text front is f = subst IsText (ap (take (length front)) f.whole ∙ take_at front f.rest (length front) refl) (All-take IsSet (length front) text is)

pub recovered-of : (bytes seen : List ℕ) (count : ℕ) → bytes ≡ seen → count ≤ length bytes → HasSealed (text_of bytes) (take count bytes) → (IsDamage (decimal count) (drop count bytes) → ⊥) → IsRecovered seen (take count bytes)
recovered-of bytes seen count same inside sealed whole =
    subst (λ (file : List ℕ). IsRecovered file (take count bytes)) same (inr (sealed, λ damage. whole (subst (λ (n : ℕ). IsDamage (decimal n) (drop n bytes)) (length-take-le count bytes inside) damage)))

pub replaced-is_text : (batch : List ℕ) → IsBatch batch → length (first_line ++ batch) < 2 ^ 64 → IsText (with_batch first_line batch)
replaced-is_text batch is short =
    subst IsText (appended-text first_line batch (sealed_batch first_line batch) refl) (All-append IsSet first_line (sealed_batch first_line batch) first_text (bytes-text first_line batch (sealed_batch first_line batch) short is refl))
