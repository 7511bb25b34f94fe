-- The words of a server's line, each read by itself: outputs, the act, the kind.
use Rattle.std.proofs.Common.{◌≡◌, ◌≢◌, ℕ, ◌+◌, ◌-◌, ◌^◌, ◌<◌, ◌≤◌, ◌==◌, Bool, true, false, if◌then◌else◌, Ok, Result, List, [], ◌∷◌, ◌++◌, length, map, refl, sym, ◌∙◌, ap, subst, inl, inr, arith}
use Rattle.std.specs.Prelude.{codes, count_by, decimal}
use Rattle.std.specs.List.{list_all, slice_split}
use Rattle.std.specs.Str.{bytes_eq}
use Rattle.std.proofs.lemmas.Bool.Decides.{eqb_tells}
use Rattle.std.proofs.lemmas.Fmt.{decimal_digit}
use Rattle.std.proofs.lemmas.List.{append-nil, length-append}
use Rattle.tp_model.specs.History.{In, here, there}
use Rattle.tp_server.specs.declared.recipe.Act.{Act}
use Rattle.tp_server.specs.declared.recipe.Act.TheVariants as act
use Rattle.tp_server.specs.declared.recipe.AmountFrom.{AmountFrom}
use Rattle.tp_server.specs.declared.recipe.AmountFrom.TheVariants as amounts
use Rattle.tp_server.specs.declared.recipe.KeyFrom.{KeyFrom}
use Rattle.tp_server.specs.declared.recipe.KeyFrom.TheVariants as keys
use Rattle.tp_server.specs.declared.recipe.Output.{Output}
use Rattle.tp_script.specs.LineWords.{◌>>=◌, act_and_place, act_named, amount_at, has_two_colons, key_at, kind_at, number_at, output_at, outputs_at, place_at, three}
use Rattle.tp_script.specs.declared.fault.LineFault.{LineFault}
use Rattle.tp_script.specs.declared.script.Kind.{Kind}
use Rattle.tp_script.specs.declared.script.Kind.TheVariants as kinds
use Rattle.tp_lines.specs.HeadTexts.{act_text, amount_text, deed_text, key_text, kind_text, output_text, word_text}
use Rattle.tp_lines.specs.Told.{IsFitAmount, IsFitKey, IsFitOutput}
use Rattle.tp_lines.proofs.WordReads.{AreWords, Word, bind_ok, digits_free, no_letters, number_ok, number_word, small_word}
use Rattle.tp_lines.proofs.Cuts.{Bytes, Free, and_true, counted, cut, digits, free_more, free_of, uncounted, uncut, with_more}

-- ---- what stands between colons

no_colon : (c : ℕ) → 48 ≤ c → c ≤ 57 → c ≢ 58
no_colon c low high e = omega (arith, high, e)

record Part (w : List ℕ) : Type 0 where
  some : 0 < length w
  no_colon_in : Free 58 w
  no_space_in : Free 32 w
  bytes : Bytes 32 126 w
  short : length w ≤ 20

number_part : (n : ℕ) → n < 2 ^ 64 → Part (decimal n)
number_part n h = let w = number_word n h in record { some = w.some; no_colon_in = digits_free 58 n h no_colon; no_space_in = w.free; bytes = w.bytes; short = w.short }

small_part : (w : List ℕ) → Bytes 97 122 w → 0 < length w → length w ≤ 20 → Part w
small_part w small some short = let it = small_word w 20 small some short in record {
  some = it.some;
  no_colon_in = free_of 58 97 122 w (λ c low high e. omega (arith, low, e)) small;
  no_space_in = it.free;
  bytes = it.bytes;
  short = it.short;
}

same_small : Bytes 97 122 (codes "same")
same_small = ((omega arith, omega arith), ((omega arith, omega arith), ((omega arith, omega arith), ((omega arith, omega arith), tt))))

after_small : Bytes 97 122 (codes "after")
after_small = ((omega arith, omega arith), ((omega arith, omega arith), ((omega arith, omega arith), ((omega arith, omega arith), ((omega arith, omega arith), tt)))))

-- ---- outputs

key_part : (k : KeyFrom) → IsFitKey k → Part (key_text k)
key_part keys.Same fit = small_part (codes "same") same_small (omega arith) (omega arith)
key_part (keys.Fixed n) fit = number_part n fit

amount_part : (a : AmountFrom) → IsFitAmount a → Part (amount_text a)
amount_part amounts.Same fit = small_part (codes "same") same_small (omega arith) (omega arith)
amount_part amounts.After fit = small_part (codes "after") after_small (omega arith) (omega arith)
amount_part (amounts.Fixed n) fit = number_part n fit

abbrev key_by : ℕ → Bool → Result KeyFrom LineFault
key_by n b = if b then Ok keys.Same else (number_at (2 ^ 64 - 1) (decimal n) >>= λ m. Ok (keys.Fixed m))

key_reads : (k : KeyFrom) → IsFitKey k → key_at (key_text k) ≡ Ok k
unfolding key_at
key_reads keys.Same fit = refl
key_reads (keys.Fixed n) fit =
    ap (key_by n) (no_letters (decimal n) 115 (97 ∷ 109 ∷ 101 ∷ []) (omega arith) (digits n fit) (bytes_eq (decimal n) (codes "same")) refl)
    ∙ bind_ok (number_at (2 ^ 64 - 1) (decimal n)) n (λ m. Ok (keys.Fixed m)) (number_ok (2 ^ 64 - 1) n fit (omega (arith, fit)))

abbrev amount_by : ℕ → Bool → Bool → Result AmountFrom LineFault
amount_by n b c = if b then Ok amounts.Same else if c then Ok amounts.After else (number_at (2 ^ 64 - 1) (decimal n) >>= λ m. Ok (amounts.Fixed m))

amount_reads : (a : AmountFrom) → IsFitAmount a → amount_at (amount_text a) ≡ Ok a
unfolding amount_at
amount_reads amounts.Same fit = refl
amount_reads amounts.After fit = refl
amount_reads (amounts.Fixed n) fit =
    ap (λ b. amount_by n b (bytes_eq (decimal n) (codes "after"))) (no_letters (decimal n) 115 (97 ∷ 109 ∷ 101 ∷ []) (omega arith) (digits n fit) (bytes_eq (decimal n) (codes "same")) refl)
    ∙ (ap (amount_by n false) (no_letters (decimal n) 97 (102 ∷ 116 ∷ 101 ∷ 114 ∷ []) (omega arith) (digits n fit) (bytes_eq (decimal n) (codes "after")) refl)
    ∙ bind_ok (number_at (2 ^ 64 - 1) (decimal n)) n (λ m. Ok (amounts.Fixed m)) (number_ok (2 ^ 64 - 1) n fit (omega (arith, fit))))

-- STAGE:KEY:AMOUNT
abbrev pub out_word : Output → List ℕ
out_word o = decimal o.stage ++ (58 ∷ (key_text o.key ++ (58 ∷ amount_text o.amount)))

module _ (o : Output) (fit : IsFitOutput o) where
  f_stage : o.stage < 2 ^ 64
  f_stage = let s = fit.stage in omega (arith, s)

  stage_part : Part (decimal o.stage)
  stage_part = number_part o.stage f_stage

  key : Part (key_text o.key)
  key = key_part o.key fit.key

  amount : Part (amount_text o.amount)
  amount = amount_part o.amount fit.amount

  parts : slice_split (λ b. b == 58) (out_word o) ≡ decimal o.stage ∷ key_text o.key ∷ amount_text o.amount ∷ []
  parts =
      cut 58 (decimal o.stage) _ stage_part.no_colon_in
      ∙ ap (λ z. decimal o.stage ∷ z) (cut 58 (key_text o.key) _ key.no_colon_in
      ∙ ap (λ z. key_text o.key ∷ z) (uncut 58 (amount_text o.amount) amount.no_colon_in))

  colons_are : count_by (λ b. b == 58) (out_word o) ≡ 2
  colons_are =
      counted 58 (decimal o.stage) _ stage_part.no_colon_in
      ∙ ap (λ n. 1 + n) (counted 58 (key_text o.key) _ key.no_colon_in
      ∙ ap (λ n. 1 + n) (uncounted 58 (amount_text o.amount) amount.no_colon_in))

  is_one : has_two_colons (out_word o) ≡ true
  is_one = ap (λ n. n == 2) colons_are

  output_reads : output_at (out_word o) ≡ Ok o
  unfolding output_at
  output_reads =
      bind_ok (three (slice_split (λ b. b == 58) (out_word o))) (decimal o.stage, key_text o.key, amount_text o.amount) _ (ap three parts)
      ∙ (bind_ok (number_at 255 (decimal o.stage)) o.stage _ (number_ok 255 o.stage f_stage fit.stage)
      ∙ (bind_ok (key_at (key_text o.key)) o.key _ (key_reads o.key fit.key)
      ∙ bind_ok (amount_at (amount_text o.amount)) o.amount _ (amount_reads o.amount fit.amount)))

  out_is_word : Word 62 (out_word o)
  out_is_word =
      let l1 = length-append (decimal o.stage) (58 ∷ (key_text o.key ++ (58 ∷ amount_text o.amount))) in
      let l2 = length-append (key_text o.key) (58 ∷ amount_text o.amount) in
      let m1 : length (58 ∷ (key_text o.key ++ (58 ∷ amount_text o.amount))) ≡ 1 + length (key_text o.key ++ (58 ∷ amount_text o.amount)) = omega arith in
      let m2 : length (58 ∷ amount_text o.amount) ≡ 1 + length (amount_text o.amount) = omega arith in
      let a = stage_part.some in let s1 = stage_part.short in let s2 = key.short in let s3 = amount.short in
      record {
        some = omega (arith, l1, a);
        free = free_more 32 (decimal o.stage) _ stage_part.no_space_in (λ e. omega (arith, e), free_more 32 (key_text o.key) _ key.no_space_in (λ e. omega (arith, e), amount.no_space_in));
        bytes = with_more 32 126 (decimal o.stage) _ stage_part.bytes ((omega arith, omega arith), with_more 32 126 (key_text o.key) _ key.bytes ((omega arith, omega arith), amount.bytes));
        short = omega (arith, l1, l2, m1, m2, s1, s2, s3);
      }

abbrev pub room_each : List Output → List ℕ
room_each os = map (λ (o : Output). 62) os

pub outs_words : (os : List Output) → ((o : Output) → In o os → IsFitOutput o) → AreWords (map out_word os) (room_each os)
outs_words [] fit = tt
outs_words (o ∷ os) fit = (out_is_word o (fit o here), outs_words os (λ p at. fit p (there at)))

pub outs_one : (os : List Output) → ((o : Output) → In o os → IsFitOutput o) → list_all has_two_colons (map out_word os) ≡ true
outs_one [] fit = refl
outs_one (o ∷ os) fit = and_true (has_two_colons (out_word o)) (list_all has_two_colons (map out_word os)) (is_one o (fit o here)) (outs_one os (λ p at. fit p (there at)))

pub outs_read : (os : List Output) → ((o : Output) → In o os → IsFitOutput o) → outputs_at (map out_word os) ≡ Ok os
unfolding outputs_at
outs_read [] fit = refl
outs_read (o ∷ os) fit =
    bind_ok (output_at (out_word o)) o _ (output_reads o (fit o here))
    ∙ bind_ok (outputs_at (map out_word os)) os _ (outs_read os (λ p at. fit p (there at)))

-- ---- what a server does

abbrev pub act_word : Act → ℕ → List ℕ
act_word a word = act_text a ++ word_text word

two_is : decimal 2 ≡ codes "2"
two_is = decimal_digit 2 (omega arith)

three_is : decimal 3 ≡ codes "3"
three_is = decimal_digit 3 (omega arith)

act_one : (a : Act) → act_and_place (act_word a 1) ≡ Ok (a, 1)
unfolding act_and_place act_named place_at
act_one act.Add = refl
act_one act.Take = refl
act_one act.Pass = refl

act_two : (a : Act) → act_and_place (act_word a 2) ≡ Ok (a, 2)
unfolding act_and_place act_named place_at
act_two act.Add = ap (λ d. act_and_place (codes "add" ++ (58 ∷ d))) two_is
act_two act.Take = ap (λ d. act_and_place (codes "take" ++ (58 ∷ d))) two_is
act_two act.Pass = ap (λ d. act_and_place (codes "pass" ++ (58 ∷ d))) two_is

act_three : (a : Act) → act_and_place (act_word a 3) ≡ Ok (a, 3)
unfolding act_and_place act_named place_at
act_three act.Add = ap (λ d. act_and_place (codes "add" ++ (58 ∷ d))) three_is
act_three act.Take = ap (λ d. act_and_place (codes "take" ++ (58 ∷ d))) three_is
act_three act.Pass = ap (λ d. act_and_place (codes "pass" ++ (58 ∷ d))) three_is

add_small : Bytes 97 122 (codes "add")
add_small = ((omega arith, omega arith), ((omega arith, omega arith), ((omega arith, omega arith), tt)))

take_small : Bytes 97 122 (codes "take")
take_small = ((omega arith, omega arith), ((omega arith, omega arith), ((omega arith, omega arith), ((omega arith, omega arith), tt))))

pass_small : Bytes 97 122 (codes "pass")
pass_small = ((omega arith, omega arith), ((omega arith, omega arith), ((omega arith, omega arith), ((omega arith, omega arith), tt))))

act_part : (a : Act) → Part (act_text a)
act_part act.Add = small_part (codes "add") add_small (omega arith) (omega arith)
act_part act.Take = small_part (codes "take") take_small (omega arith) (omega arith)
act_part act.Pass = small_part (codes "pass") pass_small (omega arith) (omega arith)

-- a digit behind a colon
act_more : (a : Act) (n : ℕ) → n < 10 → Word 41 (act_text a ++ (58 ∷ decimal n))
act_more a n low =
    let h : n < 2 ^ 64 = omega (arith, low) in
    let p = act_part a in
    let d = number_part n h in
    let l = length-append (act_text a) (58 ∷ decimal n) in
    let m : length (58 ∷ decimal n) ≡ 1 + length (decimal n) = omega arith in
    let s = p.some in let t = p.short in let u = d.short in
    record {
      some = omega (arith, l, s);
      free = free_more 32 (act_text a) _ p.no_space_in (λ e. omega (arith, e), d.no_space_in);
      bytes = with_more 32 126 (act_text a) _ p.bytes ((omega arith, omega arith), d.bytes);
      short = omega (arith, l, m, t, u);
    }

act_alone : (a : Act) → Word 41 (act_text a ++ [])
act_alone a = subst (Word 41) (sym (append-nil (act_text a))) (let p = act_part a in let t = p.short in record { some = p.some; free = p.no_space_in; bytes = p.bytes; short = omega (arith, t) })

pub record Deed (a : Act) (word : ℕ) : Type 0 where
  pub reads : act_and_place (act_word a word) ≡ Ok (a, word)
  pub is_word : Word 41 (act_word a word)

pub deed : (a : Act) (word : ℕ) → 1 ≤ word → word ≤ 3 → Deed a word
deed a word low high = elim (eqb_tells word 1) [
  | inl p ↦ subst (Deed a) (sym p.1) (record { reads = act_one a; is_word = act_alone a })
  | inr p ↦ elim (eqb_tells word 2) [
    | inl q ↦ subst (Deed a) (sym q.1) (record { reads = act_two a; is_word = act_more a 2 (omega arith) })
    | inr q ↦ let last : word ≡ 3 = omega (arith, low, high, p.1, q.1) in subst (Deed a) (sym last) (record { reads = act_three a; is_word = act_more a 3 (omega arith) })
  ]
]

pub kind_reads : (k : Kind) → kind_at (kind_text k) ≡ Ok k
unfolding kind_at
kind_reads kinds.Eager = refl
kind_reads kinds.Lazy = refl

eager_small : Bytes 97 122 (codes "eager")
eager_small = ((omega arith, omega arith), ((omega arith, omega arith), ((omega arith, omega arith), ((omega arith, omega arith), ((omega arith, omega arith), tt)))))

lazy_small : Bytes 97 122 (codes "lazy")
lazy_small = ((omega arith, omega arith), ((omega arith, omega arith), ((omega arith, omega arith), ((omega arith, omega arith), tt))))

-- ---- the same of the words as they are told

pub outs_are : (os : List Output) → map output_text os ≡ map out_word os
unfolding output_text
outs_are [] = refl
outs_are (o ∷ os) = ap (λ z. out_word o ∷ z) (outs_are os)

pub deed_is : (a : Act) (word : ℕ) → deed_text a word ≡ act_word a word
unfolding deed_text
deed_is a word = refl

pub kind_word : (k : Kind) → Word 8 (kind_text k)
kind_word kinds.Eager = small_word (codes "eager") 8 eager_small (omega arith) (omega arith)
kind_word kinds.Lazy = small_word (codes "lazy") 8 lazy_small (omega arith) (omega arith)
