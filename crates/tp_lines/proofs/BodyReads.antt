-- Bodies, and places of elements, as they are told and read.
use Rattle.std.proofs.Common.{◌≡◌, ◌≢◌, ℕ, ◌+◌, ◌<◌, ◌≤◌, ◌^◌, ◌==◌, Ok, List, [], ◌∷◌, ◌++◌, length, ◌-◌, ◌∙◌, ap, arith}
use Rattle.std.specs.Prelude.{decimal}
use Rattle.std.specs.List.{slice_split}
use Rattle.std.proofs.lemmas.List.{length-append}
use Rattle.tp_script.specs.Drafts.{colons}
use Rattle.tp_script.specs.LineWords.{◌>>=◌, body_at, body_numbers, four, number_at}
use Rattle.tp_lines.specs.HeadTexts.{body_text, place_text}
use Rattle.tp_lines.specs.Told.{IsBody64}
use Rattle.tp_lines.specs.Words.{five, place_at, place_numbers, short_at}
use Rattle.tp_lines.proofs.WordReads.{Word, bind_ok, digits_free, long_ok, number_word, short_ok}
use Rattle.tp_lines.proofs.Cuts.{Bytes, counted, cut, digits, free_of, uncounted, uncut, wider, with_more}

pub no_colon : (c : ℕ) → 48 ≤ c → c ≤ 57 → c ≢ 58
no_colon c low high e = omega (arith, high, e)

-- what is known of a body's text
pub record Body (body : List ℕ) : Type 0 where
  pub word : Word 83 (body_text body)
  pub colons_are : colons (body_text body) ≡ 3
  pub reads : body_at (body_text body) ≡ Ok body

-- what is known of the text of a stage and a body
pub record Placed (stage : ℕ) (body : List ℕ) : Type 0 where
  pub word : Word 104 (place_text stage body)
  pub colons_are : colons (place_text stage body) ≡ 4
  pub reads : place_at (place_text stage body) ≡ Ok (stage, body)

module _ (a b c d : ℕ) (fa : a < 2 ^ 64) (fb : b < 2 ^ 64) (fc : c < 2 ^ 64) (fd : d < 2 ^ 64) where
  abbrev body : List ℕ
  body = a ∷ b ∷ c ∷ d ∷ []

  abbrev after_c : List ℕ
  after_c = 58 ∷ decimal d

  abbrev after_b : List ℕ
  after_b = 58 ∷ (decimal c ++ after_c)

  abbrev after_a : List ℕ
  after_a = 58 ∷ (decimal b ++ after_b)

  abbrev text : List ℕ
  text = decimal a ++ after_a

  parts : slice_split (λ x. x == 58) text ≡ decimal a ∷ decimal b ∷ decimal c ∷ decimal d ∷ []
  parts =
      cut 58 (decimal a) _ (digits_free 58 a fa no_colon)
      ∙ ap (λ z. decimal a ∷ z) (cut 58 (decimal b) _ (digits_free 58 b fb no_colon)
      ∙ ap (λ z. decimal b ∷ z) (cut 58 (decimal c) _ (digits_free 58 c fc no_colon)
      ∙ ap (λ z. decimal c ∷ z) (uncut 58 (decimal d) (digits_free 58 d fd no_colon))))

  words_read : body_numbers (decimal a, decimal b, decimal c, decimal d) ≡ Ok body
  unfolding body_numbers
  words_read =
      bind_ok (number_at (2 ^ 64 - 1) (decimal a)) a _ (long_ok a fa)
      ∙ (bind_ok (number_at (2 ^ 64 - 1) (decimal b)) b _ (long_ok b fb)
      ∙ (bind_ok (number_at (2 ^ 64 - 1) (decimal c)) c _ (long_ok c fc)
      ∙ bind_ok (number_at (2 ^ 64 - 1) (decimal d)) d _ (long_ok d fd)))

  colons_three : colons text ≡ 3
  colons_three =
      counted 58 (decimal a) _ (digits_free 58 a fa no_colon)
      ∙ ap (λ n. 1 + n) (counted 58 (decimal b) _ (digits_free 58 b fb no_colon)
      ∙ ap (λ n. 1 + n) (counted 58 (decimal c) _ (digits_free 58 c fc no_colon)
      ∙ ap (λ n. 1 + n) (uncounted 58 (decimal d) (digits_free 58 d fd no_colon))))

  one : (n : ℕ) → n < 2 ^ 64 → Bytes 48 58 (decimal n)
  one n h = wider 48 57 48 58 (decimal n) (omega arith) (omega arith) (digits n h)

  bytes : Bytes 48 58 text
  bytes =
      let b2 = with_more 48 58 (decimal c) after_c (one c fc) ((omega arith, omega arith), one d fd) in
      let b1 = with_more 48 58 (decimal b) after_b (one b fb) ((omega arith, omega arith), b2) in
      with_more 48 58 (decimal a) after_a (one a fa) ((omega arith, omega arith), b1)

  long : (0 < length text) × (length text ≤ 83)
  long =
      let s0 = (number_word a fa).some in
      let s1 = (number_word a fa).short in
      let s2 = (number_word b fb).short in
      let s3 = (number_word c fc).short in
      let s4 = (number_word d fd).short in
      let l1 = length-append (decimal a) after_a in
      let l2 = length-append (decimal b) after_b in
      let l3 = length-append (decimal c) after_c in
      let m1 : length after_a ≡ 1 + length (decimal b ++ after_b) = omega arith in
      let m2 : length after_b ≡ 1 + length (decimal c ++ after_c) = omega arith in
      let m3 : length after_c ≡ 1 + length (decimal d) = omega arith in
      (omega (arith, s0, l1), omega (arith, s1, s2, s3, s4, l1, l2, l3, m1, m2, m3))

  word_of : (most : ℕ) (w : List ℕ) → Bytes 48 58 w → 0 < length w → length w ≤ most → Word most w
  word_of most w all some short = record {
    some = some;
    free = free_of 32 48 58 w (λ c low high e. omega (arith, low, e)) all;
    bytes = wider 48 58 32 126 w (omega arith) (omega arith) all;
    short = short;
  }

  four_is : Body body
  unfolding body_text body_at
  four_is = record {
    word = word_of 83 text bytes long.0 long.1;
    colons_are = colons_three;
    reads = ap (λ ps. four ps >>= λ ws. body_numbers ws) parts ∙ words_read;
  }

  module _ (stage : ℕ) (fs : stage < 2 ^ 16) where
    f64 : stage < 2 ^ 64
    f64 = omega (arith, fs)

    five_parts : slice_split (λ x. x == 58) (decimal stage ++ (58 ∷ text)) ≡ decimal stage ∷ decimal a ∷ decimal b ∷ decimal c ∷ decimal d ∷ []
    five_parts = cut 58 (decimal stage) text (digits_free 58 stage f64 no_colon) ∙ ap (λ z. decimal stage ∷ z) parts

    numbers_read : place_numbers (decimal stage, decimal a, decimal b, decimal c, decimal d) ≡ Ok (stage, body)
    unfolding place_numbers
    numbers_read =
        bind_ok (short_at (decimal stage)) stage _ (short_ok stage fs)
        ∙ bind_ok (body_numbers (decimal a, decimal b, decimal c, decimal d)) body _ words_read

    long_five : (0 < length (decimal stage ++ (58 ∷ text))) × (length (decimal stage ++ (58 ∷ text)) ≤ 104)
    long_five =
        let s0 = (number_word stage f64).some in
        let s1 = (number_word stage f64).short in
        let l1 = length-append (decimal stage) (58 ∷ text) in
        let m1 : length (58 ∷ text) ≡ 1 + length text = omega arith in
        let t = long.1 in
        (omega (arith, s0, l1), omega (arith, s1, l1, m1, t))

    five_is : Placed stage body
    unfolding place_text body_text place_at
    five_is = record {
      word = word_of 104 (decimal stage ++ (58 ∷ text)) (with_more 48 58 (decimal stage) (58 ∷ text) (one stage f64) ((omega arith, omega arith), bytes)) long_five.0 long_five.1;
      colons_are = counted 58 (decimal stage) text (digits_free 58 stage f64 no_colon) ∙ ap (λ n. 1 + n) colons_three;
      reads = ap (λ ps. five ps >>= λ ws. place_numbers ws) five_parts ∙ numbers_read;
    }

pub body_is : (body : List ℕ) → IsBody64 body → Body body
body_is (a ∷ b ∷ c ∷ d ∷ []) fit = four_is a b c d fit.0 fit.1 fit.2 fit.3
body_is [] fit = absurd fit
body_is (a ∷ []) fit = absurd fit
body_is (a ∷ b ∷ []) fit = absurd fit
body_is (a ∷ b ∷ c ∷ []) fit = absurd fit
body_is (a ∷ b ∷ c ∷ d ∷ e ∷ rest) fit = absurd fit

pub placed : (stage : ℕ) (body : List ℕ) → stage < 2 ^ 16 → IsBody64 body → Placed stage body
placed stage (a ∷ b ∷ c ∷ d ∷ []) fs fit = five_is a b c d fit.0 fit.1 fit.2 fit.3 stage fs
placed stage [] fs fit = absurd fit
placed stage (a ∷ []) fs fit = absurd fit
placed stage (a ∷ b ∷ []) fs fit = absurd fit
placed stage (a ∷ b ∷ c ∷ []) fs fit = absurd fit
placed stage (a ∷ b ∷ c ∷ d ∷ e ∷ rest) fs fit = absurd fit
