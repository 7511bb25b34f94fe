-- Lines that are answered one after another.
use Rattle.std.proofs.Common.{◌≡◌, ◌∙◌, ℕ, ◌+◌, ◌<◌, List, [], ◌++◌, Option, Some, None, Err, refl, sym, ap, subst, arith, append-nil, append_assoc, length, take, inl, inr, true, false}
use Rattle.std.specs.Prelude.{IfSome}
use Rattle.std.proofs.lemmas.Bool.{cases_lt, lt-leb}
use Rattle.std.proofs.lemmas.List.{length-take, take_all}
use Rattle.tp_report.specs.Written.{AppendsFront}
use Rattle.tp_script.specs.declared.fault.LineFault.TheVariants.{TooLong}
use Rattle.tp_lines.specs.Grammar.{line_words}
use Rattle.tp_lines.specs.declared.grammar.TheConstants.{MAX_LINE}
use Rattle.tp_wire.specs.Heard.{Next, Tells, heard}
use Rattle.tp_wire.specs.Reading.{to_come, unused}
use Rattle.tp_wire.specs.declared.reading.Lines.{Lines}
use Rattle.tp_wire.specs.declared.reading.TheConstants.{MAX_KEPT}
use Rattle.tp_wire.proofs.ToldLemmas.{told_front, told_more, told_none, told_then}
use Rattle.tp_session.specs.Conversed.{Attends, AttendsFront, Goes, SoFar, step_of}
use Rattle.tp_session.specs.Session.{line_step, lines_step}
use Rattle.tp_session.specs.State.{SessionState}
use Rattle.tp_session.proofs.TagLemmas.{kept_said, kept_tag, same_step}

-- ---- a line that is too long says as much as its front

long_words : (line : List ℕ) → MAX_LINE < length line → line_words line ≡ Err TooLong
unfolding line_words
long_words line long = rw (lt-leb (length line) MAX_LINE long) refl

pub kept_words : (line : List ℕ) → line_words (take MAX_KEPT line) ≡ line_words line
kept_words line = elim (cases_lt MAX_LINE (length line)) [
  | inl long ↦ long_words (take MAX_KEPT line) (omega (arith, length-take MAX_KEPT line, long)) ∙ sym (long_words line long)
  | inr short ↦ ap line_words (take_all MAX_KEPT line (omega (arith, short)))
]

kept_step : (n : ℕ) (kept line : List ℕ) (s : SessionState) → kept ≡ take MAX_KEPT line → line_step n kept s ≡ line_step n line s
kept_step n kept line s is =
    ap (λ l. line_step n l s) is ∙ same_step n (take MAX_KEPT line) line s (kept_tag line) (kept_said kept_words line)

-- ---- one line more

goes_none : (past : ℕ) (a : Option (List ℕ)) (s : SessionState) → Goes past a s [] past a s
goes_none past None s = tt
goes_none past (Some x) s = refl

goes_next : (past n : ℕ) (a b c : Option (List ℕ)) (old mid : SessionState) (text kept : List ℕ) → Goes past a old text n b mid → Next true b kept c
    → Goes past a old (text ++ (line_step (n + 1) kept mid).0) (n + 1) c (line_step (n + 1) kept mid).1
goes_next past n None b c old mid text kept so_far next = tt
goes_next past n (Some x) None c old mid text kept so_far next = absurd so_far
goes_next past n (Some x) (Some y) None old mid text kept so_far next = absurd next.2
goes_next past n (Some x) (Some y) (Some z) old mid text kept so_far next =
    let one = line_step (n + 1) next.0 mid in
    let rest = lines_step (n + 1) (heard z) one.1 in
    so_far ∙ ap (λ ls. (text ++ (lines_step n ls mid).0, (lines_step n ls mid).1)) next.2
    ∙ ap (λ w. (w, rest.1)) (sym (append_assoc text one.0 rest.0))
    ∙ ap (λ t. ((text ++ t.0) ++ (lines_step (n + 1) (heard z) t.1).0, (lines_step (n + 1) (heard z) t.1).1)) (sym (kept_step (n + 1) kept next.0 mid next.1))

goes_end : (past n : ℕ) (a b c : Option (List ℕ)) (old mid : SessionState) (text kept : List ℕ) → Goes past a old text n b mid → Next false b kept c
    → IfSome a (λ bytes. step_of past bytes old ≡ (text, mid))
goes_end past n None b c old mid text kept so_far next = tt
goes_end past n (Some x) None c old mid text kept so_far next = absurd so_far
goes_end past n (Some x) (Some y) None old mid text kept so_far next = absurd next.0
goes_end past n (Some x) (Some y) (Some z) old mid text kept so_far next =
    so_far ∙ ap (λ ls. (text ++ (lines_step n ls mid).0, (lines_step n ls mid).1)) (next.0 ∙ next.1) ∙ ap (λ w. (w, mid)) (append-nil text)

-- ---- and what was told

pub come_same : (old new : Lines) (rest : Option (List ℕ)) → unused new ≡ unused old → to_come new rest ≡ to_come old rest
come_same old new None is = refl
come_same old new (Some bytes) is = ap (λ u. Some (u ++ bytes)) is

pub so_far_none : (past : ℕ) (a w : Option (List ℕ)) (s : SessionState) (prior : List ℕ) → SoFar past a s past a s (λ text. Tells w w prior (prior ++ text))
so_far_none past a w s prior = record {
  text = [];
  goes = goes_none past a s;
  told = subst (Tells w w prior) (sym (append-nil prior)) (told_none w prior);
}

pub so_far_next : (past n : ℕ) (a b b' b'' w x y : Option (List ℕ)) (old mid new : SessionState) (kept answers answers' answers'' prior : List ℕ)
    → SoFar past a old n b mid (λ text. Tells w x answers (prior ++ text)) → Next true b kept b' → Tells x y answers' answers → b'' ≡ b'
    → new ≡ (line_step (n + 1) kept mid).1 → answers'' ≡ answers' ++ (line_step (n + 1) kept mid).0
    → SoFar past a old (n + 1) b'' new (λ text. Tells w y answers'' (prior ++ text))
so_far_next past n a b b' b'' w x y old mid new kept answers answers' answers'' prior so_far next told same leaves more =
    let one = line_step (n + 1) kept mid in
    record {
      text = so_far.text ++ one.0;
      goes = subst (λ left. Goes past a old (so_far.text ++ one.0) (n + 1) left new) (sym same)
          (subst (λ s. Goes past a old (so_far.text ++ one.0) (n + 1) b' s) (sym leaves) (goes_next past n a b b' old mid so_far.text kept so_far.goes next));
      told = subst (Tells w y answers'') (append_assoc prior so_far.text one.0)
          (told_more w y answers'' answers' (prior ++ so_far.text) one.0 more (told_then w x y answers' answers (prior ++ so_far.text) so_far.told told));
    }

attends : (past : ℕ) (a w y : Option (List ℕ)) (old mid : SessionState) (text answers prior : List ℕ) → IfSome a (λ bytes. step_of past bytes old ≡ (text, mid)) → Tells w y answers (prior ++ text)
    → Attends past a old mid (λ t. Tells w y answers (prior ++ t))
attends past None w y old mid text answers prior is told = tt
attends past (Some x) w y old mid text answers prior is told =
    (sym (ap (λ p. p.1) is), subst (λ t. Tells w y answers (prior ++ t)) (sym (ap (λ p. p.0) is)) told)

pub so_far_end : (past n : ℕ) (a b b' w x y : Option (List ℕ)) (old mid : SessionState) (kept answers answers' prior : List ℕ)
    → SoFar past a old n b mid (λ text. Tells w x answers (prior ++ text)) → Next false b kept b' → Tells x y answers' answers → Attends past a old mid (λ text. Tells w y answers' (prior ++ text))
so_far_end past n a b b' w x y old mid kept answers answers' prior so_far next told =
    attends past a w y old mid so_far.text answers' prior (goes_end past n a b b' old mid so_far.text kept so_far.goes next) (told_then w x y answers' answers (prior ++ so_far.text) so_far.told told)

-- a front of a text is one of a longer text
pub front_longer : (a b : Option (List ℕ)) (xs ys : List ℕ) → AppendsFront a b xs → AppendsFront a b (xs ++ ys)
front_longer a b xs ys q = (q.0 ++ ys, (q.1.0, ap (λ w. w ++ ys) q.1.1 ∙ append_assoc q.1.0 q.0 ys, q.1.2))

attends_front : (past n : ℕ) (a b w y : Option (List ℕ)) (old mid : SessionState) (text prior : List ℕ) → Goes past a old text n b mid → AppendsFront w y (prior ++ text)
    → AttendsFront past a old (λ t. AppendsFront w y (prior ++ t))
attends_front past n None b w y old mid text prior goes front = tt
attends_front past n (Some x) None w y old mid text prior goes front = absurd goes
attends_front past n (Some x) (Some z) w y old mid text prior goes front =
    let rest = (step_of n z mid).0 in
    subst (λ t. AppendsFront w y (prior ++ t)) (sym (ap (λ p. p.0) goes)) (subst (λ t. AppendsFront w y t) (append_assoc prior text rest) (front_longer w y (prior ++ text) rest front))

pub so_far_front : (past n : ℕ) (a b w x y : Option (List ℕ)) (old mid : SessionState) (answers prior : List ℕ)
    → SoFar past a old n b mid (λ text. Tells w x answers (prior ++ text)) → AppendsFront x y answers → AttendsFront past a old (λ text. AppendsFront w y (prior ++ text))
so_far_front past n a b w x y old mid answers prior so_far front =
    attends_front past n a b w y old mid so_far.text prior so_far.goes (told_front w x y answers (prior ++ so_far.text) so_far.told front)
