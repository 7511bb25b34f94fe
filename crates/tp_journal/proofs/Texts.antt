-- Texts, the files that have them, and what a write behind them may leave.
use Rattle.std.proofs.Common.{◌≡◌, inl, ⊎_elim, ℕ, zero, suc, ◌+◌, ◌-◌, ◌<◌, ◌≤◌, List, [], ◌∷◌, ◌++◌, get_or, length, take, drop, replicate, refl, sym, ◌∙◌, ap, subst, arith, append_assoc, length-append, length-drop, take-append-drop}
use Rattle.std.proofs.lemmas.List.Elements.{All-append, All-cons, All-head, All-nil, All-tail}
use Rattle.std.proofs.lemmas.Bool.{cases_eq}
use Rattle.std.proofs.lemmas.Bool.Decides.{nat_tests}
use Rattle.std.proofs.lemmas.List.{append-nil, length-replicate, length-take-le, take_at, drop_at, drop-drop, drop-replicate, replicate-append-replicate}
use Rattle.tp_journal.specs.Device.{EachMixed, HoldsBytes, Mixed}
use Rattle.tp_journal.specs.Text.{HasTorn, IsAtRest, IsSet, IsText, text_of}

pub text-append : (text rest : List ℕ) → IsText text → text_of (text ++ rest) ≡ text ++ text_of rest
text-append [] rest is = refl
text-append (b ∷ text) rest is = rw (All-head IsSet b text is) (ap (λ (l : List ℕ). b ∷ l) (text-append text rest (All-tail IsSet b text is)))

zeros-text : (n : ℕ) → text_of (replicate n 0) ≡ []
zeros-text zero = refl
zeros-text (suc n) = refl

pub rest-text : (text file : List ℕ) → IsAtRest text file → text_of file ≡ text
rest-text text file r = ap text_of r.file_is ∙ text-append text (replicate r.free 0) r.text_is ∙ ap (λ (l : List ℕ). text ++ l) (zeros-text r.free) ∙ append-nil text

-- at rest with a text is at rest with the text that the file has
pub rest-own : (text file : List ℕ) → IsAtRest text file → IsAtRest (text_of file) file
rest-own text file r = subst (λ (t : List ℕ). IsAtRest t file) (sym (rest-text text file r)) r

mixed-none : (n : ℕ) (bytes : List ℕ) → EachMixed (replicate n 0) bytes (replicate n 0)
mixed-none n [] = refl
mixed-none zero (b ∷ bytes) = refl
mixed-none (suc n) (b ∷ bytes) = (inl refl, mixed-none n bytes)

-- nothing of the bytes is there
pub torn-none : (text bytes file : List ℕ) → IsAtRest text file → HasTorn text bytes file
torn-none text bytes file r = record { free = r.free; rest = replicate r.free 0; file_is = r.file_is; torn = mixed-none r.free bytes }

module _ (text bytes file : List ℕ) (at : ℕ) (r : IsAtRest text file) (at_is : at ≡ length text) where
  behind : drop at file ≡ replicate r.free 0
  behind = ap (drop at) r.file_is ∙ drop_at text (replicate r.free 0) at (sym at_is)

  before : take at file ≡ text
  before = ap (take at) r.file_is ∙ take_at text (replicate r.free 0) at (sym at_is)

  pub put-torn : (c : List ℕ) → Mixed at bytes file c → HasTorn text bytes c
  put-torn c mixed = record {
    free = r.free;
    rest = drop at c;
    file_is = sym (take-append-drop at c) ∙ ap (λ (l : List ℕ). l ++ drop at c) (mixed.before ∙ before);
    torn = subst (λ (l : List ℕ). EachMixed l bytes (drop at c)) behind mixed.from_there;
  }

  pub put-done : (new : List ℕ) → IsText bytes → HoldsBytes file at bytes new → IsAtRest (text ++ bytes) new
  put-done new is holds = record {
    text_is = All-append IsSet text bytes r.text_is is;
    free = r.free - length bytes;
    file_is = holds
        ∙ ap (λ (l : List ℕ). l ++ bytes ++ drop (at + length bytes) file) before
        ∙ ap (λ (l : List ℕ). text ++ bytes ++ l) (sym (drop-drop (length bytes) at file) ∙ ap (drop (length bytes)) behind ∙ drop-replicate (length bytes) r.free 0);
  }

pub put-length : (at : ℕ) (bytes file new : List ℕ) → at + length bytes ≤ length file → HoldsBytes file at bytes new → length new ≡ length file
put-length at bytes file new room holds =
    omega (arith, room, ap length holds, length-append (take at file ++ bytes) (drop (at + length bytes) file), length-append (take at file) bytes, length-take-le at file (omega (arith, room)), length-drop (at + length bytes) file)

-- more bytes 0
pub grown-rest : (text file new : List ℕ) (count : ℕ) → IsAtRest text file → new ≡ file ++ replicate count 0 → IsAtRest text new
grown-rest text file new count r is = record {
  text_is = r.text_is;
  free = r.free + count;
  file_is = is ∙ ap (λ (l : List ℕ). l ++ replicate count 0) r.file_is ∙ append_assoc text (replicate r.free 0) (replicate count 0)
      ∙ ap (λ (l : List ℕ). text ++ l) (replicate-append-replicate r.free count 0);
}

pub made-rest : (text file : List ℕ) (count : ℕ) → IsText text → file ≡ text ++ replicate count 0 → IsAtRest text file
made-rest text file count is made = record { text_is = is; free = count; file_is = made }

pub made-length : (text file : List ℕ) (count : ℕ) → file ≡ text ++ replicate count 0 → length file ≡ count + length text
made-length text file count made =
    let all = ap length made in
    let both = length-append text (replicate count 0) in
    let none = length-replicate {A = ℕ} count 0 in
    omega (arith, all, both, none)

pub at_most : (a b : ℕ) → a ≡ b → a ≤ b
at_most a b is = omega (arith, is)

-- ---- where the text ends

pub is_set : (c : ℕ) → (c ≡ 0 → ⊥) → IsSet c
is_set c differs = grind (arith, nat_tests)

text-zero : (b : ℕ) (bs : List ℕ) → b ≡ 0 → text_of (b ∷ bs) ≡ []
text-zero b bs is = rw is refl

text-set : (b : ℕ) (bs : List ℕ) → IsSet b → text_of (b ∷ bs) ≡ b ∷ text_of bs
text-set b bs is = rw is refl

pub text-is_text : (f : List ℕ) → IsText (text_of f)
text-is_text [] = All-nil IsSet
text-is_text (b ∷ bs) = ⊎_elim
    (λ is. subst IsText (sym (text-zero b bs is)) (All-nil IsSet))
    (λ differs. subst IsText (sym (text-set b bs (is_set b differs))) (All-cons IsSet b (text_of bs) (is_set b differs) (text-is_text bs)))
    (cases_eq b 0)

-- a text that another byte than 0 doesn't follow
pub text-found : (f : List ℕ) (p : ℕ) → p ≤ length f → IsText (take p f) → (p < length f → get_or f p 0 ≡ 0) → text_of f ≡ take p f
text-found f zero le is at = text-none f at
  where
    text-none : (f : List ℕ) → (0 < length f → get_or f 0 0 ≡ 0) → text_of f ≡ []
    text-none [] at = refl
    text-none (b ∷ f) at = text-zero b f (at (omega arith))
text-found [] (suc p) le is at = absurd (omega (arith, le))
text-found (b ∷ f) (suc p) le is at =
    text-set b f (All-head IsSet b (take p f) is)
    ∙ ap (λ (l : List ℕ). b ∷ l) (text-found f p (omega (arith, le)) (All-tail IsSet b (take p f) is) (λ lt. at (omega (arith, lt))))

pub rest-length : (text file : List ℕ) → IsAtRest text file → length text ≤ length file
rest-length text file r = omega (arith, ap length r.file_is, length-append text (replicate r.free 0))
