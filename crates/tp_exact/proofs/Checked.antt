-- Each server of a head that was read has a recipe without a fault.
use Rattle.std.proofs.Common.{◌≡◌, ℕ, zero, suc, ◌-◌, ◌^◌, ◌&&◌, Bool, true, false, cond, not, List, [], ◌∷◌, ◌++◌, All, length, Option, Some, None, Result, Ok, Err, nat_le, nat_lt, refl, ap, subst}
use Rattle.std.specs.Prelude.{is_ok, replicate, slice_get, slice_set}
use Rattle.std.proofs.lemmas.List.Elements.{All-append, All-cons, All-head, All-nil, All-set, All-tail}
use Rattle.tp_server.specs.declared.recipe.BadRecipe.{BadRecipe}
use Rattle.tp_server.specs.declared.recipe.Recipe.{Recipe}
use Rattle.tp_server.specs.Check.{check_of}
use Rattle.tp_script.specs.declared.fault.LineFault.{LineFault}
use Rattle.tp_script.specs.declared.fault.LineFault.TheVariants as fault
use Rattle.tp_script.specs.declared.head.Said.{Said}
use Rattle.tp_script.specs.declared.keyword.Keyword.{Keyword}
use Rattle.tp_script.specs.declared.keyword.Keyword.TheVariants as first
use Rattle.tp_script.specs.declared.script.TheConstants.{MAX_SERVERS}
use Rattle.tp_model.specs.declared.types.TheConstants.{MAX_ATTEMPTS, MAX_BLOCKS, MAX_PART_ROWS, MAX_UNITS}
use Rattle.tp_script.specs.Commands.{drain_at, race_said, rollover_at}
use Rattle.tp_script.specs.Grammar.{account_at, act_said, asks, ends_head, head_keyword, head_words, in_head, limit_line, rows_line, setting_at, spare_line, units_line}
use Rattle.tp_script.specs.Keyword.{keyword}
use Rattle.tp_script.specs.LineWords.{◌>>=◌, is_name, known, number_at, one_word, require, three}
use Rattle.tp_script.specs.Script.{HeadView, ServerView}
use Rattle.tp_script.specs.ServerLines.{Shape, begin_at, with_start, new_name, recipe_at, registers_for, server_at, server_line, server_said, shape_at, start_line, with_server}
use Rattle.tp_exact.specs.Programs.{IsChecked}

abbrev pub Good : HeadView → Type 0
Good h = All IsChecked h.servers

-- ---- chains that went through

pub went : {A B : Type 0} (r : Result A LineFault) (f : A → Result B LineFault) (y : B) → (r >>= f) ≡ Ok y → (a : A) × (r ≡ Ok a) × (f a ≡ Ok y)
went (Ok a) f y is = (a, refl, is)
went (Err e) f y is = absurd cc

required : (b : Bool) (e : LineFault) (t : Unit {0}) → require b e ≡ Ok t → b ≡ true
required true e t is = refl
required false e t is = absurd cc

found : {A : Type 0} (o : Option A) (e : LineFault) (a : A) → known o e ≡ Ok a → o ≡ Some a
found (Some x) e a is = let same : x ≡ a = cc in ap (λ z. Some z) same
found None e a is = absurd cc

abbrev pub read_as : {A : Type 0} → A → Result A LineFault
read_as x = Ok x

pub went_to : {A : Type 0} (x y : A) → read_as x ≡ Ok y → x ≡ y
went_to x y is = cc

ok_is : (r : Result (Unit {0}) BadRecipe) → is_ok r ≡ true → r ≡ Ok tt
ok_is (Ok u) is = refl
ok_is (Err e) is = absurd cc

-- ---- lines that leave the servers

rows_good : (w : List ℕ) (s t : HeadView) → rows_line w s ≡ Ok t → Good s → Good t
unfolding rows_line
rows_good w s t is good =
    let a = went (setting_at 1 MAX_PART_ROWS w s) (λ n. Ok (record s { settings = record s.settings { rows = n } })) t is in
    subst Good (went_to (record s { settings = record s.settings { rows = a.0 } }) t a.2) good

units_good : (w : List ℕ) (s t : HeadView) → units_line w s ≡ Ok t → Good s → Good t
unfolding units_line
units_good w s t is good =
    let a = went (setting_at 1 MAX_UNITS w s) (λ n. Ok (record s { settings = record s.settings { units = n } })) t is in
    subst Good (went_to (record s { settings = record s.settings { units = a.0 } }) t a.2) good

limit_good : (w : List ℕ) (s t : HeadView) → limit_line w s ≡ Ok t → Good s → Good t
unfolding limit_line
limit_good w s t is good =
    let a = went (setting_at 1 MAX_ATTEMPTS w s) (λ n. Ok (record s { settings = record s.settings { attempts = n } })) t is in
    subst Good (went_to (record s { settings = record s.settings { attempts = a.0 } }) t a.2) good

spare_good : (w : List ℕ) (s t : HeadView) → spare_line w s ≡ Ok t → Good s → Good t
unfolding spare_line
spare_good w s t is good =
    let a = went (setting_at 0 MAX_BLOCKS w s) (λ n. Ok (record s { settings = record s.settings { spare = n } })) t is in
    subst Good (went_to (record s { settings = record s.settings { spare = a.0 } }) t a.2) good

-- ---- a server more

checked_for : (recipe : Recipe) (registers : List ℕ) → registers_for recipe ≡ Ok registers → check_of recipe ≡ Ok tt
unfolding registers_for
checked_for recipe registers is =
    let a = went (require (is_ok (check_of recipe)) fault.BadRecipe) (λ u. Ok (replicate recipe.registers 0)) registers is in
    ok_is (check_of recipe) (required (is_ok (check_of recipe)) fault.BadRecipe a.0 a.1)

module _ (ws : List (List ℕ)) (s : HeadView) where
  abbrev made : Shape → List ℕ → Recipe → List ℕ → ServerView
  made shape name recipe registers = record { name = name; kind = shape.kind; recipe = recipe; registers = registers }

  abbrev of_recipe : Shape → List ℕ → Recipe → Result ServerView LineFault
  of_recipe shape name recipe = registers_for recipe >>= λ registers. Ok (made shape name recipe registers)

  abbrev in_room : Shape → List ℕ → Recipe → Result ServerView LineFault
  in_room shape name recipe = require (nat_lt (length s.servers) MAX_SERVERS) fault.BadLimits >>= λ u. of_recipe shape name recipe

  abbrev of_name : Shape → List ℕ → Result ServerView LineFault
  of_name shape name = recipe_at shape >>= λ recipe. in_room shape name recipe

  abbrev of_shape : Shape → Result ServerView LineFault
  of_shape shape = new_name shape.name s >>= λ name. of_name shape name

  said_good : (x : ServerView) → server_said ws s ≡ Ok x → IsChecked x
  unfolding server_said
  said_good x is =
      let shape = went (shape_at ws) of_shape x is in
      let name = went (new_name shape.0.name s) (of_name shape.0) x shape.2 in
      let recipe = went (recipe_at shape.0) (in_room shape.0 name.0) x name.2 in
      let room = went (require (nat_lt (length s.servers) MAX_SERVERS) fault.BadLimits) (λ u. of_recipe shape.0 name.0 recipe.0) x recipe.2 in
      let registers = went (registers_for recipe.0) (λ registers. Ok (made shape.0 name.0 recipe.0 registers)) x room.2 in
      let one : IsChecked (made shape.0 name.0 recipe.0 registers.0) = checked_for recipe.0 registers.0 registers.1 in
      subst IsChecked (went_to (made shape.0 name.0 recipe.0 registers.0) x registers.2) one

  server_good : (t : HeadView) → server_line ws s ≡ Ok t → Good s → Good t
  unfolding server_line
  server_good t is good =
      let said = went (server_said ws s) (λ x. Ok (with_server x s)) t is in
      subst Good (went_to (with_server said.0 s) t said.2) (All-append IsChecked s.servers (said.0 ∷ []) good (All-cons IsChecked said.0 [] (said_good said.0 said.1) (All-nil IsChecked)))

-- ---- registers that begin otherwise

good_at : (xs : List ServerView) (i : ℕ) (x : ServerView) → All IsChecked xs → slice_get xs i ≡ Some x → IsChecked x
good_at [] i x good is = absurd cc
good_at (y ∷ xs) zero x good is = let same : y ≡ x = cc in subst IsChecked same (All-head IsChecked y xs good)
good_at (y ∷ xs) (suc i) x good is = good_at xs i x (All-tail IsChecked y xs good) is

begun_good : (k v : ℕ) (x y : ServerView) → with_start k v x ≡ Ok y → IsChecked x → IsChecked y
unfolding with_start
begun_good k v x y is good =
    let a = went (require (nat_lt k (length x.registers)) fault.BadRecipe) (λ u. Ok (record x { registers = slice_set x.registers k v })) y is in
    subst IsChecked (went_to (record x { registers = slice_set x.registers k v }) y a.2) good

begin_good : (place k v : ℕ) (s t : HeadView) → begin_at place k v s ≡ Ok t → Good s → Good t
unfolding begin_at
begin_good place k v s t is good =
    let old = went (known (slice_get s.servers place) fault.BadName) (λ server. with_start k v server >>= λ y. Ok (record s { servers = slice_set s.servers place y })) t is in
    let new = went (with_start k v old.0) (λ y. Ok (record s { servers = slice_set s.servers place y })) t old.2 in
    let there = found (slice_get s.servers place) fault.BadName old.0 old.1 in
    let one = begun_good k v old.0 new.0 new.1 (good_at s.servers place old.0 good there) in
    subst Good (went_to (record s { servers = slice_set s.servers place new.0 }) t new.2) (All-set IsChecked s.servers place new.0 one good)

module _ (name k v : List ℕ) (s : HeadView) where
  abbrev of_number : ℕ → ℕ → Result HeadView LineFault
  of_number place n = number_at (2 ^ 64 - 1) v >>= λ value. begin_at place n value s

  abbrev of_place : ℕ → Result HeadView LineFault
  of_place place = number_at (2 ^ 64 - 1) k >>= λ n. of_number place n

  abbrev of_server : Result HeadView LineFault
  of_server = server_at name s >>= λ place. of_place place

  start_good : (t : HeadView) → start_line (name, k, v) s ≡ Ok t → Good s → Good t
  unfolding start_line
  start_good t is good =
      let called = went (require (is_name name) fault.BadName) (λ u. of_server) t is in
      let place = went (server_at name s) of_place t called.2 in
      let at = went (number_at (2 ^ 64 - 1) k) (of_number place.0) t place.2 in
      let value = went (number_at (2 ^ 64 - 1) v) (λ value. begin_at place.0 at.0 value s) t at.2 in
      begin_good place.0 at.0 value.0 s t value.2 good

-- ---- a line of the head

abbrev Read : Type 0
Read = HeadView × Option Said

in_good : (r : Result HeadView LineFault) (h : HeadView) (t : Read) → in_head r ≡ Ok t → ((s : HeadView) → r ≡ Ok s → Good s) → Good t.0
in_good r h t is good =
    let a = went r (λ s. Ok (s, None)) t is in
    subst (λ (x : Read). Good x.0) (went_to (a.0, None) t a.2) (good a.0 a.1)

ends_good : (said : Result Said LineFault) (h : HeadView) (t : Read) → ends_head h said ≡ Ok t → Good h → Good t.0
ends_good said h t is good =
    let a = went said (λ x. Ok (h, Some x)) t is in
    subst (λ (x : Read). Good x.0) (went_to (h, Some a.0) t a.2) good

keyword_good : (k : Keyword) (ws : List (List ℕ)) (h : HeadView) (t : Read) → head_keyword k ws h ≡ Ok t → Good h → Good t.0
unfolding head_keyword
keyword_good first.Rows ws h t is good = in_good (one_word ws >>= λ w. rows_line w h) h t is (λ s so. let a = went (one_word ws) (λ w. rows_line w h) s so in rows_good a.0 h s a.2 good)
keyword_good first.Units ws h t is good = in_good (one_word ws >>= λ w. units_line w h) h t is (λ s so. let a = went (one_word ws) (λ w. units_line w h) s so in units_good a.0 h s a.2 good)
keyword_good first.Limit ws h t is good = in_good (one_word ws >>= λ w. limit_line w h) h t is (λ s so. let a = went (one_word ws) (λ w. limit_line w h) s so in limit_good a.0 h s a.2 good)
keyword_good first.Spare ws h t is good = in_good (one_word ws >>= λ w. spare_line w h) h t is (λ s so. let a = went (one_word ws) (λ w. spare_line w h) s so in spare_good a.0 h s a.2 good)
keyword_good first.Server ws h t is good = in_good (server_line ws h) h t is (λ s so. server_good ws h s so good)
keyword_good first.Start ws h t is good = in_good (three ws >>= λ w. start_line w h) h t is (λ s so. let a = went (three ws) (λ w. start_line w h) s so in start_good a.0.0 a.0.1 a.0.2 h s a.2 good)
keyword_good (first.Do v) ws h t is good = ends_good (act_said v ws h) h t is good
keyword_good first.Race ws h t is good = ends_good (asks (race_said ws)) h t is good
keyword_good first.Drain ws h t is good = ends_good (asks (drain_at ws)) h t is good
keyword_good first.Rollover ws h t is good = ends_good (asks (rollover_at ws)) h t is good
keyword_good first.Account ws h t is good = ends_good (account_at ws) h t is good

pub words_good : (ws : List (List ℕ)) (h : HeadView) (t : HeadView × Option Said) → head_words ws h ≡ Ok t → Good h → Good t.0
unfolding head_words
words_good [] h t is good = subst (λ (x : Read). Good x.0) (went_to (h, None) t is) good
words_good (w ∷ ws) h t is good = let k = went (known (keyword w) fault.Syntax) (λ k. head_keyword k ws h) t is in keyword_good k.0 ws h t k.2 good
