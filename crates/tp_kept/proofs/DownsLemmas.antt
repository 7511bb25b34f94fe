-- Lines as they are put down are answered as they are.
use Rattle.std.proofs.Common.{◌≡◌, ◌∙◌, ◌==◌, ℕ, zero, suc, ◌+◌, ◌≤◌, ◌<◌, Bool, true, false, All, List, [], ◌∷◌, ◌++◌, Err, Ok, refl, sym, ap, arith, append-nil, append_assoc, inl, inr, length, length-append, map, take}
use Rattle.std.specs.Prelude.{◌&&◌, Option, Some, None, Result, drop, if◌then◌else◌, nat_le, nat_lt, position}
use Rattle.std.specs.List.{list_all, position_or_len}
use Rattle.std.proofs.lemmas.Bool.{cases_lt, eqb-true, le-ltb, lt-ltb}
use Rattle.std.proofs.lemmas.Bool.Decides.{nat_tests}
use Rattle.std.proofs.lemmas.List.{drop-map, length-map, length-take, map-append, take-append-le, take-map, take_all}
use Rattle.std.proofs.lemmas.List.Elements.{All-append, All-cons, All-head, All-nil, All-tail}
use Rattle.tp_script.specs.Grammar.{is_comment}
use Rattle.tp_script.specs.Text.{words}
use Rattle.tp_script.specs.LineWords.{◌>>=◌, require}
use Rattle.tp_script.specs.declared.fault.LineFault.{LineFault}
use Rattle.tp_script.specs.declared.fault.LineFault.TheVariants.{Syntax, TooLong}
use Rattle.tp_lines.specs.Grammar.{line_said, line_words, words_said}
use Rattle.tp_lines.specs.Names.{is_in_name}
use Rattle.tp_lines.specs.Tags.{is_tag, said_behind, tag_in, tag_of, up_to, word_in}
use Rattle.tp_lines.specs.declared.tags.TheConstants.{MAX_TAG}
use Rattle.tp_lines.specs.declared.grammar.TheConstants.{MAX_LINE}
use Rattle.tp_wire.specs.Heard.{IsInLine, heard}
use Rattle.tp_wire.specs.declared.reading.TheConstants.{MAX_KEPT}
use Rattle.tp_wire.proofs.HeardLemmas.{heard_last, heard_next}
use Rattle.tp_session.specs.Session.{finals, line_step, lines_step}
use Rattle.tp_session.specs.State.{SessionState}
use Rattle.tp_session.proofs.AttendLemmas.{kept_words}
use Rattle.tp_session.proofs.TagLemmas.{kept_said, kept_tag, same_step}
use Rattle.tp_kept.specs.Laws.{AnswersAsSent}
use Rattle.tp_kept.specs.Lines.{downs, ended, is_ours, longer, put_down, shut}
use Rattle.tp_kept.specs.Lives.{Life, answers_of}

-- ---- a byte that is put down

abbrev is_visible : ℕ → Bool
is_visible b = nat_le 32 b && nat_le b 126

unseen : (b : ℕ) → is_ours b ≡ true → is_visible b ≡ false
unseen b is = grind (arith, nat_tests)

-- it is as visible as it was
visible_same : (b : ℕ) → is_visible (put_down b) ≡ is_visible b
visible_same b = by (is_ours b) refl
  where
    by : (o : Bool) → is_ours b ≡ o → is_visible (put_down b) ≡ is_visible b
    by true is = ap (λ (o : Bool). is_visible (if o then 1 else b)) is ∙ sym (unseen b is)
    by false is = ap (λ (o : Bool). is_visible (if o then 1 else b)) is

-- one that is visible stays
visible_stays : (b : ℕ) → is_visible b ≡ true → put_down b ≡ b
visible_stays b seen = by (is_ours b) refl
  where
    by : (o : Bool) → is_ours b ≡ o → put_down b ≡ b
    by true is = absurd (both (sym (unseen b is) ∙ seen))
      where
        both : false ≡ true → ⊥
        both e = cc
    by false is = ap (λ (o : Bool). if o then 1 else b) is

-- it ends a line as it did
end_same : (b : ℕ) → (b == 10) ≡ false → (put_down b == 10) ≡ false
end_same b is = by (is_ours b) refl
  where
    by : (o : Bool) → is_ours b ≡ o → (put_down b == 10) ≡ false
    by true ours = ap (λ (o : Bool). (if o then 1 else b) == 10) ours
    by false ours = ap (λ (o : Bool). (if o then 1 else b) == 10) ours ∙ is

-- ---- a line

and_true : (x y : Bool) → (x && y) ≡ true → (x ≡ true) × (y ≡ true)
and_true true y e = (refl, e)
and_true false y e = absurd cc

all_same : (m : List ℕ) → list_all is_visible (map put_down m) ≡ list_all is_visible m
all_same [] = refl
all_same (b ∷ bs) = rw (visible_same b, all_same bs) refl

all_stay : (m : List ℕ) → list_all is_visible m ≡ true → map put_down m ≡ m
all_stay [] seen = refl
all_stay (b ∷ bs) seen = let both = and_true (is_visible b) (list_all is_visible bs) seen in rw (visible_stays b both.0, all_stay bs both.1) refl

abbrev faulty : ℕ → Result (List (List ℕ)) LineFault
faulty long = if nat_le long MAX_LINE then Err Syntax else Err TooLong

either : (short : Bool) (rest : Result (List (List ℕ)) LineFault) → (require short TooLong >>= λ a. require false Syntax >>= λ b. rest) ≡ (if short then Err Syntax else Err TooLong)
either true rest = refl
either false rest = refl

unseen_words : (m : List ℕ) → list_all is_visible m ≡ false → line_words m ≡ faulty (length m)
unfolding line_words
unseen_words m is = rw is (either (nat_le (length m) MAX_LINE) (if is_comment m then Ok [] else Ok (words m)))

words_same : (m : List ℕ) → line_words (map put_down m) ≡ line_words m
words_same m = by (list_all is_visible m) refl
  where
    by : (v : Bool) → list_all is_visible m ≡ v → line_words (map put_down m) ≡ line_words m
    by true is = ap line_words (all_stay m is)
    by false is = unseen_words (map put_down m) (all_same m ∙ is) ∙ (ap faulty (length-map m put_down) ∙ sym (unseen_words m is))

-- ---- a tag

-- a byte of a tag is none of ours
unnamed : (b : ℕ) → is_ours b ≡ true → is_in_name b ≡ false
unnamed b is = grind (arith, nat_tests)

named_same : (b : ℕ) → is_in_name (put_down b) ≡ is_in_name b
named_same b = by (is_ours b) refl
  where
    by : (o : Bool) → is_ours b ≡ o → is_in_name (put_down b) ≡ is_in_name b
    by true is = ap (λ (o : Bool). is_in_name (if o then 1 else b)) is ∙ sym (unnamed b is)
    by false is = ap (λ (o : Bool). is_in_name (if o then 1 else b)) is

named_stays : (b : ℕ) → is_in_name b ≡ true → put_down b ≡ b
named_stays b named = by (is_ours b) refl
  where
    by : (o : Bool) → is_ours b ≡ o → put_down b ≡ b
    by true is = absurd (let no : false ≡ true = sym (unnamed b is) ∙ named in cc)
    by false is = ap (λ (o : Bool). if o then 1 else b) is

-- a space and an `@` stay, and nothing becomes one
module _ (c : ℕ) (seen : is_visible c ≡ true) where
  not_ours : (b : ℕ) → is_ours b ≡ true → (b == c) ≡ false
  not_ours b is = by (b == c) refl
    where
      by : (e : Bool) → (b == c) ≡ e → (b == c) ≡ false
      by false is_not = is_not
      by true same = absurd (let no : false ≡ true = sym (unseen b is) ∙ (ap is_visible (eqb-true b c same) ∙ seen) in cc)

  one_not : (1 == c) ≡ false
  one_not = by (1 == c) refl
    where
      by : (e : Bool) → (1 == c) ≡ e → (1 == c) ≡ false
      by false is_not = is_not
      by true same = absurd (let no : false ≡ true = ap is_visible (eqb-true 1 c same) ∙ seen in cc)

  test_same : (b : ℕ) → (put_down b == c) ≡ (b == c)
  test_same b = by (is_ours b) refl
    where
      by : (o : Bool) → is_ours b ≡ o → (put_down b == c) ≡ (b == c)
      by true is = ap (λ (o : Bool). (if o then 1 else b) == c) is ∙ (one_not ∙ sym (not_ours b is))
      by false is = ap (λ (o : Bool). (if o then 1 else b) == c) is

space_same : (w : List ℕ) → position_or_len (λ b. b == 32) (map put_down w) ≡ position_or_len (λ b. b == 32) w
space_same [] = refl
space_same (b ∷ bs) = rw (test_same 32 refl b, space_same bs) refl

place_same : (w : List ℕ) → position (λ b. b == 32) (map put_down w) ≡ position (λ b. b == 32) w
place_same w = rw (space_same w, length-map w put_down) refl

front_same : (place : Option ℕ) (w : List ℕ) → up_to place (map put_down w) ≡ map put_down (up_to place w)
front_same None w = refl
front_same (Some end) w = take-map put_down end w

word_same : (w : List ℕ) → word_in (map put_down w) ≡ map put_down (word_in w)
word_same w = ap (λ place. up_to place (map put_down w)) (place_same w) ∙ front_same (position (λ b. b == 32) w) w

all_named_same : (w : List ℕ) → list_all is_in_name (map put_down w) ≡ list_all is_in_name w
all_named_same [] = refl
all_named_same (b ∷ bs) = rw (named_same b, all_named_same bs) refl

all_named_stay : (w : List ℕ) → list_all is_in_name w ≡ true → map put_down w ≡ w
all_named_stay [] named = refl
all_named_stay (b ∷ bs) named = let both = and_true (is_in_name b) (list_all is_in_name bs) named in rw (named_stays b both.0, all_named_stay bs both.1) refl

is_tag_same : (w : List ℕ) → is_tag (map put_down w) ≡ is_tag w
is_tag_same w = rw (length-map w put_down, all_named_same w) refl

tag_stays : (w : List ℕ) → tag_of (map put_down w) ≡ tag_of w
tag_stays w = by (is_tag w) refl
  where
    by : (b : Bool) → is_tag w ≡ b → tag_of (map put_down w) ≡ tag_of w
    by true is = ap tag_of (all_named_stay w (and_true (nat_le (length w) MAX_TAG) (list_all is_in_name w) (and_true (nat_le 1 (length w)) (nat_le (length w) MAX_TAG && list_all is_in_name w) is).1).1)
    by false is = ap (λ (b : Bool). if b then Some (map put_down w) else None) (is_tag_same w ∙ is) ∙ sym (ap (λ (b : Bool). if b then Some w else None) is)

tag_same : (m : List ℕ) → tag_in (map put_down m) ≡ tag_in m
tag_same [] = refl
tag_same (b ∷ bs) =
    ap (λ (x : Bool). if x then tag_of (word_in (take (MAX_TAG + 1) (map put_down bs))) else None) (test_same 64 refl b)
    ∙ ap (λ (t : Option (List ℕ)). if b == 64 then t else None) (ap (λ w. tag_of (word_in w)) (take-map put_down (MAX_TAG + 1) bs) ∙ (ap tag_of (word_same (take (MAX_TAG + 1) bs)) ∙ tag_stays (word_in (take (MAX_TAG + 1) bs))))

said_same : (m : List ℕ) (t : Option (List ℕ)) → said_behind t (map put_down m) ≡ said_behind t m
said_same m None = ap (λ r. r >>= λ ws. words_said ws) (words_same m)
said_same m (Some tag) =
    ap (λ n. require (nat_le n MAX_LINE) TooLong >>= λ _. line_said (drop (length tag + 2) (map put_down m))) (length-map m put_down)
    ∙ ap (λ r. require (nat_le (length m) MAX_LINE) TooLong >>= λ _. r) (ap line_said (drop-map put_down (length tag + 2) m) ∙ ap (λ r. r >>= λ ws. words_said ws) (words_same (drop (length tag + 2) m)))

-- a line as it is put down
abbrev down : List ℕ → List ℕ
down line = map put_down (take MAX_KEPT line)

step_same : (n : ℕ) (line : List ℕ) (s : SessionState) → line_step n (down line) s ≡ line_step n line s
step_same n line s =
    same_step n (down line) (take MAX_KEPT line) s (tag_same (take MAX_KEPT line)) (said_same (take MAX_KEPT line))
    ∙ same_step n (take MAX_KEPT line) line s (kept_tag line) (kept_said kept_words line)

steps_same : (n : ℕ) (lines : List (List ℕ)) (s : SessionState) → lines_step n (map down lines) s ≡ lines_step n lines s
steps_same n [] s = refl
steps_same n (l ∷ ls) s =
    ap (λ t. (t.0 ++ (lines_step (n + 1) (map down ls) t.1).0, (lines_step (n + 1) (map down ls) t.1).1)) (step_same (n + 1) l s)
    ∙ ap (λ t. ((line_step (n + 1) l s).0 ++ t.0, t.1)) (steps_same (n + 1) ls (line_step (n + 1) l s).1)

-- ---- all lines

longer_is : (p : List ℕ) (b : ℕ) → longer (down p) b ≡ down (p ++ b ∷ [])
longer_is p b = elim (cases_lt (length p) MAX_KEPT) [
  | inl less ↦
      let long : length (down p) < MAX_KEPT = omega (arith, less, length-map (take MAX_KEPT p) put_down, length-take MAX_KEPT p) in
      let whole : take MAX_KEPT (p ++ b ∷ []) ≡ p ++ b ∷ [] = take_all MAX_KEPT (p ++ b ∷ []) (omega (arith, less, length-append p (b ∷ []))) in
      ap (λ (t : Bool). if t then down p ++ put_down b ∷ [] else down p) (lt-ltb (length (down p)) MAX_KEPT long)
      ∙ (ap (λ q. map put_down q ++ put_down b ∷ []) (take_all MAX_KEPT p (omega (arith, less))) ∙ (sym (map-append put_down p (b ∷ [])) ∙ ap (map put_down) (sym whole)))
  | inr all ↦
      let long : MAX_KEPT ≤ length (down p) = omega (arith, all, length-map (take MAX_KEPT p) put_down, length-take MAX_KEPT p) in
      ap (λ (t : Bool). if t then down p ++ put_down b ∷ [] else down p) (le-ltb (length (down p)) MAX_KEPT long)
      ∙ ap (map put_down) (sym (take-append-le MAX_KEPT p (b ∷ []) all))
]

down_in_line : (p : List ℕ) → IsInLine p → IsInLine (map put_down p)
down_in_line [] within = All-nil (λ b. (b == 10) ≡ false)
down_in_line (b ∷ bs) within = All-cons (λ b. (b == 10) ≡ false) (put_down b) (map put_down bs) (end_same b (All-head (λ b. (b == 10) ≡ false) b bs within)) (down_in_line bs (All-tail (λ b. (b == 10) ≡ false) b bs within))

take_in_line : (n : ℕ) (p : List ℕ) → IsInLine p → IsInLine (take n p)
take_in_line zero p within = All-nil (λ b. (b == 10) ≡ false)
take_in_line (suc n) [] within = All-nil (λ b. (b == 10) ≡ false)
take_in_line (suc n) (b ∷ bs) within = All-cons (λ b. (b == 10) ≡ false) b (take n bs) (All-head (λ b. (b == 10) ≡ false) b bs within) (take_in_line n bs (All-tail (λ b. (b == 10) ≡ false) b bs within))

heard_down : (p bs : List ℕ) → IsInLine p → heard (downs (down p) bs) ≡ map down (heard (p ++ bs))
heard_down [] [] within = refl
heard_down (c ∷ cs) [] within =
    heard_next (down (c ∷ cs)) [] (down_in_line (take MAX_KEPT (c ∷ cs)) (take_in_line MAX_KEPT (c ∷ cs) within)) ∙ sym (ap (λ l. map down (heard l)) (append-nil (c ∷ cs)) ∙ ap (map down) (heard_last c cs within))
heard_down p (b ∷ bs) within = by (b == 10) refl (heard_down [] bs (All-nil (λ b. (b == 10) ≡ false))) (λ is. heard_down (p ++ b ∷ []) bs (All-append (λ b. (b == 10) ≡ false) p (b ∷ []) within (All-cons (λ b. (b == 10) ≡ false) b [] is (All-nil (λ b. (b == 10) ≡ false)))))
  where
    by : (t : Bool) → (b == 10) ≡ t → heard (downs [] bs) ≡ map down (heard bs) → ((b == 10) ≡ false → heard (downs (down (p ++ b ∷ [])) bs) ≡ map down (heard ((p ++ b ∷ []) ++ bs))) → heard (downs (down p) (b ∷ bs)) ≡ map down (heard (p ++ b ∷ bs))
    by true is anew on =
        ap (λ (t : Bool). heard (if t then shut (down p) ++ downs [] bs else downs (longer (down p) b) bs)) is
        ∙ (ap heard (append_assoc (down p) (10 ∷ []) (downs [] bs)) ∙ (heard_next (down p) (downs [] bs) (down_in_line (take MAX_KEPT p) (take_in_line MAX_KEPT p within))
        ∙ (ap (λ ls. down p ∷ ls) anew ∙ sym (ap (λ x. map down (heard (p ++ x ∷ bs))) (eqb-true b 10 is) ∙ ap (map down) (heard_next p bs within)))))
    by false is anew on =
        ap (λ (t : Bool). heard (if t then shut (down p) ++ downs [] bs else downs (longer (down p) b) bs)) is
        ∙ (ap (λ l. heard (downs l bs)) (longer_is p b) ∙ (on is ∙ ap (λ l. map down (heard l)) (append_assoc p (b ∷ []) bs)))

pub answers_as_sent : AnswersAsSent
answers_as_sent bytes l =
    ap (λ t. t.0 ++ finals t.1) (ap (λ ls. lines_step l.lines ls l.session) (heard_down [] bytes (All-nil (λ b. (b == 10) ≡ false))) ∙ steps_same l.lines (heard bytes) l.session)
