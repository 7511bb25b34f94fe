-- The lines of elements and clients that a dump tells, each read by itself.
use Rattle.std.proofs.Common.{◌≡◌, ℕ, ◌+◌, ◌<◌, ◌≤◌, ◌^◌, ◌==◌, ◌&&◌, Bool, true, false, Option, Some, None, Ok, List, [], ◌∷◌, ◌++◌, length, nat_le, if◌then◌else◌, Result, refl, sym, ◌∙◌, ap, subst, arith}
use Rattle.std.specs.Prelude.{codes, decimal}
use Rattle.std.specs.List.{list_all}
use Rattle.std.specs.Str.{bytes_eq}
use Rattle.std.proofs.lemmas.Bool.{eqb-true}
use Rattle.std.proofs.lemmas.List.{append-nil, length-append}
use Rattle.std.proofs.lemmas.Slice.Eq.{bytes_eq-Decides}
use Rattle.tp_store.specs.declared.element.Element.{Element}
use Rattle.tp_store.specs.declared.element.Status.{Status}
use Rattle.tp_store.specs.declared.element.Status.TheVariants as status
use Rattle.tp_script.specs.Drafts.{colons}
use Rattle.tp_script.specs.LineWords.{◌>>=◌, body_at, number_at, require}
use Rattle.tp_script.specs.declared.fault.LineFault.{LineFault}
use Rattle.tp_script.specs.declared.fault.LineFault.TheVariants.{Syntax}
use Rattle.tp_lines.specs.Grammar.{line_said, words_said}
use Rattle.tp_lines.specs.HeadTexts.{spaced, body_text, head_text, name_text, note_words, number_text, place_text, rounds_text, status_words}
use Rattle.tp_lines.specs.Fences.{name_unless}
use Rattle.tp_lines.specs.Heads as heads
use Rattle.tp_lines.specs.Heads.{ElementWords, ClientWords, head_said}
use Rattle.tp_lines.specs.Names.{NameView, is_name}
use Rattle.tp_lines.specs.Statuses.{held_at, standing_at, standing_with, status_of}
use Rattle.tp_lines.specs.Told.{IsFitElement, IsFitNote, IsFitStatus, IsLong, IsNamed, IsNamedOrNone}
use Rattle.tp_lines.specs.Words.{long_at, name_at, number_unless, place_at}
use Rattle.tp_lines.specs.declared.keyword.HeadVerb.TheVariants as verb
use Rattle.tp_lines.specs.declared.line.ClientNote.{ClientNote}
use Rattle.tp_lines.specs.declared.line.HeadLine.TheVariants as head
use Rattle.tp_lines.specs.declared.line.Line.TheVariants as line
use Rattle.tp_lines.specs.declared.statuses.Standing.{Standing}
use Rattle.tp_lines.specs.declared.statuses.Standing.TheVariants as standing
use Rattle.tp_lines.proofs.BodyReads.{Placed, body_is, no_colon, placed}
use Rattle.tp_lines.proofs.Cuts.{Free, counted, cut, free_more, uncounted, uncut, with_more}
use Rattle.tp_lines.proofs.WordReads.{AreWords, Word, bind_ok, byte_ok, digits_free, letters_of, long_ok, name_ok, name_word, number_word, room_of, small_word, unless_ok, unless_word}
use Rattle.tp_lines.proofs.LineReads.{told}

-- ---- clients

-- a name is no `-`
no_dash : (w : List ℕ) → is_name w ≡ true → (b : Bool) → bytes_eq w (codes "-") ≡ b → b ≡ false
no_dash w named false is = refl
no_dash w named true is = let same : w ≡ codes "-" = (bytes_eq-Decides w (codes "-")).0 is in absurd (let none : is_name (codes "-") ≡ true = subst (λ x. is_name x ≡ true) same named in cc)

named_or_none : (o : Option NameView) → IsNamedOrNone o → name_unless (name_text o) ≡ Ok o
named_or_none None fit = refl
named_or_none (Some name) fit =
    ap (λ (b : Bool). if b then Ok None else (name_at name.letters >>= λ n. Ok (Some n))) (no_dash name.letters fit (bytes_eq name.letters (codes "-")) refl)
    ∙ bind_ok (name_at name.letters) name _ (name_ok name fit)

noted_word : (o : Option NameView) → IsNamedOrNone o → Word 32 (name_text o)
noted_word None fit = record { some = omega arith; free = ((λ e. omega (arith, e)), tt); bytes = ((omega arith, omega arith), tt); short = omega arith }
noted_word (Some name) fit = name_word name.letters fit

module _ (name : NameView) (note : ClientNote) (named : IsNamed name) (fit : IsFitNote note) where
  abbrev client_places : List (List ℕ)
  client_places = name.letters ∷ note_words note

  abbrev client_said_words : ClientWords
  client_said_words = record { name = name.letters; owner = decimal note.owner; sent = decimal note.sent; element = decimal note.element; received = decimal note.received; reply = decimal note.reply; root = decimal note.root; body = body_text note.body; epoch = decimal note.epoch; said = place_text note.sent_stage note.sent_body; note = name_text note.note }

  abbrev said_place : Placed note.sent_stage note.sent_body
  said_place = placed note.sent_stage note.sent_body fit.sent_stage fit.sent_body

  later_words_ok : heads.later_words (decimal note.epoch ∷ place_text note.sent_stage note.sent_body ∷ name_text note.note ∷ []) ≡ Ok (decimal note.epoch, place_text note.sent_stage note.sent_body, name_text note.note)
  later_words_ok = bind_ok (require (colons (place_text note.sent_stage note.sent_body) == 4) Syntax) tt _ (ap (λ n. require (n == 4) Syntax) said_place.colons_are)

  client_words_ok : heads.client_words client_places ≡ Ok client_said_words
  unfolding heads.client_words
  client_words_ok =
      bind_ok (require (colons (body_text note.body) == 3) Syntax) tt _ (ap (λ n. require (n == 3) Syntax) (body_is note.body fit.body).colons_are)
      ∙ bind_ok (heads.later_words (decimal note.epoch ∷ place_text note.sent_stage note.sent_body ∷ name_text note.note ∷ [])) (decimal note.epoch, place_text note.sent_stage note.sent_body, name_text note.note) _ later_words_ok

  sends_ok : heads.sends_of client_said_words ≡ Ok (note.owner, note.sent, note.element)
  unfolding heads.sends_of
  sends_ok =
      bind_ok (long_at (decimal note.owner)) note.owner _ (long_ok note.owner fit.owner)
      ∙ (bind_ok (long_at (decimal note.sent)) note.sent _ (long_ok note.sent fit.sent)
      ∙ bind_ok (long_at (decimal note.element)) note.element _ (long_ok note.element fit.element))

  receives_ok : heads.receives_of client_said_words ≡ Ok (note.received, note.reply, note.root)
  unfolding heads.receives_of
  receives_ok =
      bind_ok (long_at (decimal note.received)) note.received _ (long_ok note.received fit.received)
      ∙ (bind_ok (long_at (decimal note.reply)) note.reply _ (long_ok note.reply fit.reply)
      ∙ bind_ok (long_at (decimal note.root)) note.root _ (long_ok note.root fit.root))

  later_ok : heads.later_of client_said_words ≡ Ok (note.epoch, (note.sent_stage, note.sent_body), note.note)
  unfolding heads.later_of
  later_ok =
      bind_ok (name_unless (name_text note.note)) note.note _ (named_or_none note.note fit.noted)
      ∙ (bind_ok (long_at (decimal note.epoch)) note.epoch _ (long_ok note.epoch fit.epoch)
      ∙ bind_ok (place_at (place_text note.sent_stage note.sent_body)) (note.sent_stage, note.sent_body) _ said_place.reads)

  note_ok : heads.note_of client_said_words ≡ Ok note
  unfolding heads.note_of
  note_ok =
      bind_ok (heads.sends_of client_said_words) (note.owner, note.sent, note.element) _ sends_ok
      ∙ (bind_ok (heads.receives_of client_said_words) (note.received, note.reply, note.root) _ receives_ok
      ∙ (bind_ok (body_at (body_text note.body)) note.body _ (body_is note.body fit.body).reads
      ∙ bind_ok (heads.later_of client_said_words) (note.epoch, (note.sent_stage, note.sent_body), note.note) _ later_ok))

  client_is_said : heads.client_said client_places ≡ Ok (head.Client name note)
  unfolding heads.client_said
  client_is_said =
      bind_ok (heads.client_words client_places) client_said_words _ client_words_ok
      ∙ (bind_ok (name_at name.letters) name _ (name_ok name named)
      ∙ bind_ok (heads.note_of client_said_words) note _ note_ok)

  pub client_reads : line_said (head_text (head.Client name note)) ≡ Ok (line.Head (head.Client name note))
  unfolding words_said
  client_reads =
      told 99 (108 ∷ 105 ∷ 101 ∷ 110 ∷ 116 ∷ []) client_places (32 ∷ 20 ∷ 20 ∷ 20 ∷ 20 ∷ 20 ∷ 20 ∷ 83 ∷ 20 ∷ 104 ∷ 32 ∷ []) refl (omega arith)
      (name_word name.letters named, (number_word note.owner fit.owner, (number_word note.sent fit.sent, (number_word note.element fit.element, (number_word note.received fit.received, (number_word note.reply fit.reply, (number_word note.root fit.root, ((body_is note.body fit.body).word, (number_word note.epoch fit.epoch, (said_place.word, (noted_word note.note fit.noted, tt))))))))))) (omega arith) (head.Client name note)
      (bind_ok (head_said verb.Client client_places) (head.Client name note) (λ h. Ok (line.Head h)) client_is_said)

-- ---- elements

-- how an element stands, as it is told and read
record Stands (s : Status) : Type 0 where
  how : List ℕ
  numbers : List (List ℕ)
  lengths : List ℕ
  standing : Standing
  same : status_words s ≡ how ∷ numbers
  words : AreWords (how ∷ numbers) lengths
  room : room_of lengths ≤ 60
  form : standing_with how numbers ≡ Ok standing
  reads : status_of standing numbers ≡ Ok s

small : (w : List ℕ) → list_all (λ b. nat_le 97 b && nat_le b 122) w ≡ true → 0 < length w → length w ≤ 8 → Word 8 w
small w all some few = small_word w 8 (letters_of w all) some few

byte_word : (n : ℕ) → n ≤ 255 → Word 20 (decimal n)
byte_word n h = number_word n (omega (arith, h))

stands : (s : Status) → IsFitStatus s → Stands s
unfolding standing_with standing_at held_at
stands (status.Waiting n) fit = record { how = codes "waiting"; numbers = decimal n ∷ []; lengths = 8 ∷ 20 ∷ []; standing = standing.Waiting; same = refl; words = (small (codes "waiting") refl (omega arith) (omega arith), (byte_word n fit, tt)); room = omega arith; form = refl; reads = bind_ok (number_at 255 (decimal n)) n _ (byte_ok n fit) }
stands (status.Held unit attempt) fit = record { how = codes "held"; numbers = decimal unit ∷ decimal attempt ∷ []; lengths = 8 ∷ 20 ∷ 20 ∷ []; standing = standing.Held; same = refl; words = (small (codes "held") refl (omega arith) (omega arith), (number_word unit fit.0, (byte_word attempt fit.1, tt))); room = omega arith; form = refl; reads = bind_ok (long_at (decimal unit)) unit _ (long_ok unit fit.0) ∙ bind_ok (number_at 255 (decimal attempt)) attempt _ (byte_ok attempt fit.1) }
stands (status.Consumed unit) fit = record { how = codes "consumed"; numbers = decimal unit ∷ []; lengths = 8 ∷ 20 ∷ []; standing = standing.Consumed; same = refl; words = (small (codes "consumed") refl (omega arith) (omega arith), (number_word unit fit, tt)); room = omega arith; form = refl; reads = bind_ok (long_at (decimal unit)) unit _ (long_ok unit fit) }
stands (status.Parked n) fit = record { how = codes "parked"; numbers = decimal n ∷ []; lengths = 8 ∷ 20 ∷ []; standing = standing.Parked; same = refl; words = (small (codes "parked") refl (omega arith) (omega arith), (byte_word n fit, tt)); room = omega arith; form = refl; reads = bind_ok (number_at 255 (decimal n)) n _ (byte_ok n fit) }
stands status.Killed fit = record { how = codes "killed"; numbers = []; lengths = 8 ∷ []; standing = standing.Killed; same = refl; words = (small (codes "killed") refl (omega arith) (omega arith), tt); room = omega arith; form = refl; reads = refl }

-- ROUNDS, and `:EARLIER` unless that is 0
record Rounds (many earlier : ℕ) : Type 0 where
  word : Word 41 (rounds_text many earlier)
  few : nat_le (colons (rounds_text many earlier)) 1 ≡ true
  reads : heads.rounds_at (rounds_text many earlier) ≡ Ok (many, earlier)

module _ (many earlier : ℕ) (low : many ≤ 255) (small_too : earlier ≤ 255) where
  long_many : many < 2 ^ 64
  long_many = omega (arith, low)

  long_earlier : earlier < 2 ^ 64
  long_earlier = omega (arith, small_too)

  free : Free 58 (decimal many)
  free = digits_free 58 many long_many no_colon

  free_earlier : Free 58 (decimal earlier)
  free_earlier = digits_free 58 earlier long_earlier no_colon

  abbrev alone : List ℕ
  alone = decimal many

  abbrev both : List ℕ
  both = decimal many ++ 58 ∷ decimal earlier

  wide : Word 20 (decimal many) → Word 41 alone
  wide w = let s = w.short in record { some = w.some; free = w.free; bytes = w.bytes; short = omega (arith, s) }

  wide_both : Word 20 (decimal many) → Word 20 (decimal earlier) → Word 41 both
  wide_both a b =
      let l = length-append (decimal many) (58 ∷ decimal earlier) in
      let n = a.short in
      let m = b.short in
      let some = a.some in
      record {
        some = omega (arith, l, some);
        free = free_more 32 (decimal many) (58 ∷ decimal earlier) a.free ((λ e. omega (arith, e)), b.free);
        bytes = with_more 32 126 (decimal many) (58 ∷ decimal earlier) a.bytes ((omega arith, omega arith), b.bytes);
        short = omega (arith, l, n, m);
      }

  abbrev read_as : ℕ → Result (ℕ × ℕ) LineFault
  read_as n = Ok (many, n)

  of_alone : earlier ≡ 0 → read_as 0 ≡ read_as earlier
  of_alone is = ap read_as (sym is)

  rounds_by : (b : Bool) → (earlier == 0) ≡ b → Rounds many earlier
  unfolding rounds_text
  rounds_by true is =
      let same : rounds_text many earlier ≡ alone = ap (λ (b : Bool). decimal many ++ (if b then [] else codes ":" ++ decimal earlier)) is ∙ append-nil (decimal many) in
      record {
        word = subst (Word 41) (sym same) (wide (number_word many long_many));
        few = ap (λ w. nat_le (colons w) 1) same ∙ ap (λ n. nat_le n 1) (uncounted 58 (decimal many) free);
        reads = ap heads.rounds_at same ∙ (ap heads.rounds_of (uncut 58 (decimal many) free) ∙ (bind_ok (number_at 255 (decimal many)) many _ (byte_ok many low) ∙ of_alone (eqb-true earlier 0 is)));
      }
  rounds_by false is =
      let same : rounds_text many earlier ≡ both = ap (λ (b : Bool). decimal many ++ (if b then [] else codes ":" ++ decimal earlier)) is in
      record {
        word = subst (Word 41) (sym same) (wide_both (number_word many long_many) (number_word earlier long_earlier));
        few = ap (λ w. nat_le (colons w) 1) same ∙ ap (λ n. nat_le n 1) (counted 58 (decimal many) (decimal earlier) free ∙ ap (λ n. 1 + n) (uncounted 58 (decimal earlier) free_earlier));
        reads = ap heads.rounds_at same ∙ (ap heads.rounds_of (cut 58 (decimal many) (decimal earlier) free ∙ ap (λ z. decimal many ∷ z) (uncut 58 (decimal earlier) free_earlier)) ∙ (bind_ok (number_at 255 (decimal many)) many _ (byte_ok many low) ∙ bind_ok (number_at 255 (decimal earlier)) earlier _ (byte_ok earlier small_too)));
      }

  rounds_are : Rounds many earlier
  rounds_are = rounds_by (earlier == 0) refl

module _ (id : ℕ) (e : Element) (long : IsLong id) (fit : IsFitElement e) where
  abbrev st : Stands e.status
  st = stands e.status fit.status

  abbrev place : Placed e.stage e.body
  place = placed e.stage e.body fit.stage fit.body

  abbrev rounds : Rounds e.rounds e.earlier
  rounds = rounds_are e.rounds e.earlier fit.rounds fit.earlier

  -- the words, with these behind the rounds
  abbrev element_places : List (List ℕ) → List (List ℕ)
  element_places behind = decimal id ∷ place_text e.stage e.body ∷ decimal e.root ∷ number_text (codes "client") e.by ∷ number_text (codes "nobody") e.owner ∷ rounds_text e.rounds e.earlier ∷ behind

  abbrev all_places : List (List ℕ)
  all_places = element_places (st.how ∷ st.numbers)

  abbrev element_said_words : ElementWords
  element_said_words = record { id = decimal id; place = place_text e.stage e.body; root = decimal e.root; maker = number_text (codes "client") e.by; owner = number_text (codes "nobody") e.owner; rounds = rounds_text e.rounds e.earlier; standing = st.standing; numbers = st.numbers }

  element_words_ok : heads.element_words all_places ≡ Ok element_said_words
  unfolding heads.element_words
  element_words_ok =
      bind_ok (require (colons (place_text e.stage e.body) == 4 && nat_le (colons (rounds_text e.rounds e.earlier)) 1) Syntax) tt _ (ap (λ n. require (n == 4 && nat_le (colons (rounds_text e.rounds e.earlier)) 1) Syntax) place.colons_are ∙ ap (λ b. require b Syntax) rounds.few)
      ∙ bind_ok (standing_with st.how st.numbers) st.standing _ st.form

  origin_ok : heads.origin_of element_said_words ≡ Ok (e.root, e.by, e.owner)
  unfolding heads.origin_of
  origin_ok =
      bind_ok (long_at (decimal e.root)) e.root _ (long_ok e.root fit.root)
      ∙ (bind_ok (number_unless (codes "client") (number_text (codes "client") e.by)) e.by _ (unless_ok 99 (108 ∷ 105 ∷ 101 ∷ 110 ∷ 116 ∷ []) (omega arith) refl e.by fit.by)
      ∙ bind_ok (number_unless (codes "nobody") (number_text (codes "nobody") e.owner)) e.owner _ (unless_ok 110 (111 ∷ 98 ∷ 111 ∷ 100 ∷ 121 ∷ []) (omega arith) refl e.owner fit.owner))

  element_ok : heads.element_of element_said_words ≡ Ok (head.Element id e)
  unfolding heads.element_of
  element_ok =
      bind_ok (long_at (decimal id)) id _ (long_ok id long)
      ∙ (bind_ok (place_at (place_text e.stage e.body)) (e.stage, e.body) _ place.reads
      ∙ (bind_ok (heads.origin_of element_said_words) (e.root, e.by, e.owner) _ origin_ok
      ∙ (bind_ok (heads.rounds_at (rounds_text e.rounds e.earlier)) (e.rounds, e.earlier) _ rounds.reads
      ∙ bind_ok (status_of st.standing st.numbers) e.status _ st.reads)))

  none_word : (w : List ℕ) → list_all (λ b. nat_le 97 b && nat_le b 122) w ≡ true → 0 < length w → length w ≤ 20 → Word 20 w
  none_word w all some few = small_word w 20 (letters_of w all) some few

  all_words : AreWords all_places (20 ∷ 104 ∷ 20 ∷ 20 ∷ 20 ∷ 41 ∷ st.lengths)
  all_words = (
    number_word id long,
    (
      place.word,
      (
        number_word e.root fit.root,
        (
          unless_word 99 (108 ∷ 105 ∷ 101 ∷ 110 ∷ 116 ∷ []) (omega arith) refl (none_word (codes "client") refl (omega arith) (omega arith)) e.by fit.by,
          (
            unless_word 110 (111 ∷ 98 ∷ 111 ∷ 100 ∷ 121 ∷ []) (omega arith) refl (none_word (codes "nobody") refl (omega arith) (omega arith)) e.owner fit.owner,
            (rounds.word, st.words),
          ),
        ),
      ),
    ),
  )

  element_is_read : line_said (codes "element" ++ spaced all_places) ≡ Ok (line.Head (head.Element id e))
  unfolding words_said
  element_is_read =
      let r = st.room in
      told 101 (108 ∷ 101 ∷ 109 ∷ 101 ∷ 110 ∷ 116 ∷ []) all_places (20 ∷ 104 ∷ 20 ∷ 20 ∷ 20 ∷ 41 ∷ st.lengths) refl (omega arith) all_words (omega (arith, r)) (head.Element id e)
      (bind_ok (head_said verb.Element all_places) (head.Element id e) (λ h. Ok (line.Head h))
      (bind_ok (heads.element_words all_places) element_said_words _ element_words_ok ∙ element_ok))

  pub element_reads : line_said (head_text (head.Element id e)) ≡ Ok (line.Head (head.Element id e))
  element_reads = subst (λ behind. line_said (codes "element" ++ spaced (element_places behind)) ≡ Ok (line.Head (head.Element id e))) (sym st.same) element_is_read
