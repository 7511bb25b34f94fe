-- The worked rollover with units open, computed.
use Rattle.std.proofs.Common.{◌≡◌, ◌≢◌, ◌⊎◌, true, ℕ, suc, Some, None, List, [], ◌∷◌, ◌++◌, refl, sym, ◌∙◌, ap, inl, inr, ⊎_elim, lit<, lit≤}
use Rattle.std.specs.List.{AllZip}
use Rattle.tp_model.specs.declared.types.Element.{Element}
use Rattle.tp_model.specs.declared.types.Status.TheVariants.{Held, Waiting}
use Rattle.tp_model.specs.declared.event.Event.{Event}
use Rattle.tp_model.specs.declared.event.Event.TheVariants.{Enqueue, Claim, Commit, Abort, Kill}
use Rattle.tp_model.specs.Births.{request}
use Rattle.tp_model.specs.Counts.{is_consumed}
use Rattle.tp_model.specs.History.{In, IsBorn, here, there, UnitClaim, born, claim_by, end_by, status_of}
use Rattle.tp_model.specs.Steps.{IsLegal, IsOpen, Step}
use Rattle.tp_model.proofs.Bridges.{find_in}
use Rattle.tp_model.proofs.Histories.{legal_empty, legal_more, open_before}
use Rattle.tp_model.proofs.Lists.{none_if, some_if}
use Rattle.tp_rollover.specs.Checks.{AreFamilies, AreOnly, IsNamed}
use Rattle.tp_rollover.specs.Hands.{holder_of}
use Rattle.tp_rollover.specs.Survivors.{AreSurvivors, IsLiving, IsSurvivor, StandAgain, StandsAgain}
use Rattle.tp_rollover.specs.Worked.{HeldPair, both_in_hand, described_in_hand, in_hand, in_hand_anew, moved_in_hand, over_in_hand, survivor_in_hand, twice, word}
use Rattle.tp_rollover.specs.declared.survivors.Survivor.{Survivor}
use Rattle.tp_rollover.specs.declared.moved.Moved.{Moved}
use Rattle.tp_rollover.proofs.Assembly.{rolled}
use Rattle.tp_rollover.proofs.Worked.{from_each}

-- pass c has no unit open
abbrev NoneOf : ℕ → List Event → Type 0
NoneOf c h = (v : ℕ) (t : UnitClaim) → t.pass ≡ c → ¬ IsOpen h v t

none_yet : (c : ℕ) → NoneOf c []
none_yet c v t own is = (let claimed = is.claimed in cc)

-- an event by which it claims nothing leaves it so
passed : (h : List Event) (c : ℕ) (f : Event) → NoneOf c h → ((v : ℕ) (t : UnitClaim) → t.pass ≡ c → ¬ (claim_by v f ≡ Some t)) → NoneOf c (h ++ f ∷ [])
passed h c f none other v t own is = ⊎_elim (λ p. other v t own p) (λ p. none v t own p.0) (open_before h f v t is)

-- so does a unit that was claimed and then ended
closed : (h : List Event) (c u i n : ℕ) (f : Event) → NoneOf c h → ((v : ℕ) (t : UnitClaim) → ¬ (claim_by v f ≡ Some t)) → ((v : ℕ) → end_by v f ≡ None → u ≢ v)
    → NoneOf c ((h ++ Claim c u i n ∷ []) ++ f ∷ [])
closed h c u i n f none other ends v t own is =
    ⊎_elim (λ p. other v t p)
    (λ p. ⊎_elim (λ q. ends v p.1 (some_if u v (record { pass = c; item = i; attempt = n }) t q).0) (λ q. none v t own q.0) (open_before h (Claim c u i n) v t p.0))
    (open_before (h ++ Claim c u i n ∷ []) f v t is)

-- another pass's claim is none of its
another : (c d u i n : ℕ) → c ≢ d → (v : ℕ) (t : UnitClaim) → t.pass ≡ c → ¬ (claim_by v (Claim d u i n) ≡ Some t)
another c d u i n other v t own is =
    other (sym own ∙ sym (ap (λ (w : UnitClaim). w.pass) (some_if u v (record { pass = d; item = i; attempt = n }) t is).1))

zero_one : ◌≢◌ {A = ℕ} 0 1
zero_one e = cc

one_zero : ◌≢◌ {A = ℕ} 1 0
one_zero e = cc

-- ---- the old manager
abbrev h1 : List Event
h1 = [] ++ Enqueue 0 (request 0 1 (word 4)) ∷ []

abbrev h2 : List Event
h2 = h1 ++ Claim 1 8 0 1 ∷ []

abbrev h3 : List Event
h3 = h2 ++ Commit 1 8 [] ∷ []

abbrev h4 : List Event
h4 = h3 ++ Enqueue 0 (request 1 1 (word 5)) ∷ []

abbrev h5 : List Event
h5 = h4 ++ Claim 1 9 1 1 ∷ []

abbrev h6 : List Event
h6 = h5 ++ Abort 1 9 ∷ []

abbrev h7 : List Event
h7 = h6 ++ Claim 1 10 1 2 ∷ []

abbrev h8 : List Event
h8 = h7 ++ Enqueue 0 (request 2 1 (word 6)) ∷ []

abbrev h9 : List Event
h9 = h8 ++ Claim 0 0 2 1 ∷ []

abbrev h10 : List Event
h10 = h9 ++ Abort 0 0 ∷ []

abbrev h11 : List Event
h11 = h10 ++ Abort 0 10 ∷ []

abbrev h12 : List Event
h12 = h11 ++ Kill 0 1 ∷ []

one_at_1 : NoneOf 1 h1
one_at_1 = passed [] 1 (Enqueue 0 (request 0 1 (word 4))) (none_yet 1) (λ v t own q. absurd cc)

one_at_3 : NoneOf 1 h3
one_at_3 = closed h1 1 8 0 1 (Commit 1 8 []) one_at_1 (λ v t q. absurd cc) (λ v e. none_if 8 v _ e)

one_at_4 : NoneOf 1 h4
one_at_4 = passed h3 1 (Enqueue 0 (request 1 1 (word 5))) one_at_3 (λ v t own q. absurd cc)

one_at_6 : NoneOf 1 h6
one_at_6 = closed h4 1 9 1 1 (Abort 1 9) one_at_4 (λ v t q. absurd cc) (λ v e. none_if 9 v _ e)

zero_at_2 : NoneOf 0 h2
zero_at_2 = passed h1 0 (Claim 1 8 0 1) (passed [] 0 (Enqueue 0 (request 0 1 (word 4))) (none_yet 0) (λ v t own q. absurd cc)) (another 0 1 8 0 1 zero_one)

zero_at_5 : NoneOf 0 h5
zero_at_5 =
    passed h4 0 (Claim 1 9 1 1) (passed h3 0 (Enqueue 0 (request 1 1 (word 5))) (passed h2 0 (Commit 1 8 []) zero_at_2 (λ v t own q. absurd cc)) (λ v t own q. absurd cc)) (another 0 1 9 1 1 zero_one)

zero_at_8 : NoneOf 0 h8
zero_at_8 =
    passed h7 0 (Enqueue 0 (request 2 1 (word 6))) (passed h6 0 (Claim 1 10 1 2) (passed h5 0 (Abort 1 9) zero_at_5 (λ v t own q. absurd cc)) (another 0 1 10 1 2 zero_one)) (λ v t own q. absurd cc)

s1 : Step twice [] (Enqueue 0 (request 0 1 (word 4)))
s1 = record { row = inl (lit< tt, lit≤ tt, lit< tt); unborn = refl; stage = (lit≤ tt, lit≤ tt); body = refl; root = refl; by = refl }

s2 : Step twice h1 (Claim 1 8 0 1)
s2 = record { unit = (lit< tt, lit≤ tt, lit< tt); unused = refl; alone = one_at_1; item = request 0 1 (word 4); born = refl; stage = (lit≤ tt, lit≤ tt); attempt = lit≤ tt; waits = refl }

s3 : Step twice h2 (Commit 1 8 [])
s3 = record { taking = record { pass = 1; item = 0; attempt = 1 }; open_unit = record { claimed = refl; unfinished = refl }; own = refl; item = request 0 1 (word 4); taken = refl; few = lit≤ tt; outputs = tt }

s4 : Step twice h3 (Enqueue 0 (request 1 1 (word 5)))
s4 = record { row = inl (lit< tt, lit≤ tt, lit< tt); unborn = refl; stage = (lit≤ tt, lit≤ tt); body = refl; root = refl; by = refl }

s5 : Step twice h4 (Claim 1 9 1 1)
s5 = record { unit = (lit< tt, lit≤ tt, lit< tt); unused = refl; alone = one_at_4; item = request 1 1 (word 5); born = refl; stage = (lit≤ tt, lit≤ tt); attempt = lit≤ tt; waits = refl }

s6 : Step twice h5 (Abort 1 9)
s6 = record { pass = lit< tt; taking = record { pass = 1; item = 1; attempt = 1 }; open_unit = record { claimed = refl; unfinished = refl } }

s7 : Step twice h6 (Claim 1 10 1 2)
s7 = record { unit = (lit< tt, lit≤ tt, lit< tt); unused = refl; alone = one_at_6; item = request 1 1 (word 5); born = refl; stage = (lit≤ tt, lit≤ tt); attempt = lit≤ tt; waits = refl }

s8 : Step twice h7 (Enqueue 0 (request 2 1 (word 6)))
s8 = record { row = inl (lit< tt, lit≤ tt, lit< tt); unborn = refl; stage = (lit≤ tt, lit≤ tt); body = refl; root = refl; by = refl }

s9 : Step twice h8 (Claim 0 0 2 1)
s9 = record { unit = (lit< tt, lit≤ tt, lit< tt); unused = refl; alone = zero_at_8; item = request 2 1 (word 6); born = refl; stage = (lit≤ tt, lit≤ tt); attempt = lit≤ tt; waits = refl }

s10 : Step twice h9 (Abort 0 0)
s10 = record { pass = lit< tt; taking = record { pass = 0; item = 2; attempt = 1 }; open_unit = record { claimed = refl; unfinished = refl } }

s11 : Step twice h10 (Abort 0 10)
s11 = record { pass = lit< tt; taking = record { pass = 1; item = 1; attempt = 2 }; open_unit = record { claimed = refl; unfinished = refl } }

s12 : Step twice h11 (Kill 0 1)
s12 = record { pass = lit< tt; item = request 1 1 (word 5); born = refl; free = tt }

s13 : Step twice h12 (Kill 0 2)
s13 = record { pass = lit< tt; item = request 2 1 (word 6); born = refl; free = tt }

legal_6 : IsLegal twice h6
legal_6 = legal_more twice h5 _ (legal_more twice h4 _ (legal_more twice h3 _ (legal_more twice h2 _ (legal_more twice h1 _ (legal_more twice [] _ (legal_empty twice) s1) s2) s3) s4) s5) s6

legal_after : IsLegal twice over_in_hand
legal_after =
    legal_more twice h12 _ (legal_more twice h11 _ (legal_more twice h10 _ (legal_more twice h9 _ (legal_more twice h8 _ (legal_more twice h7 _ (legal_more twice h6 _ legal_6 s7) s8) s9) s10) s11) s12) s13

-- ---- the new one
abbrev g1 : List Event
g1 = [] ++ Enqueue 0 (request 0 1 (word 5)) ∷ []

abbrev g2 : List Event
g2 = g1 ++ Enqueue 0 (request 1 1 (word 6)) ∷ []

abbrev g3 : List Event
g3 = g2 ++ Claim 0 0 0 1 ∷ []

abbrev g4 : List Event
g4 = g3 ++ Abort 0 0 ∷ []

abbrev g5 : List Event
g5 = g4 ++ Claim 1 8 0 2 ∷ []

none_anew : (c : ℕ) → NoneOf c g2
none_anew c = passed g1 c (Enqueue 0 (request 1 1 (word 6))) (passed [] c (Enqueue 0 (request 0 1 (word 5))) (none_yet c) (λ v t own q. absurd cc)) (λ v t own q. absurd cc)

one_anew : NoneOf 1 g4
one_anew = passed g3 1 (Abort 0 0) (passed g2 1 (Claim 0 0 0 1) (none_anew 1) (another 1 0 0 0 1 one_zero)) (λ v t own q. absurd cc)

zero_anew : NoneOf 0 g5
zero_anew = passed g4 0 (Claim 1 8 0 2) (closed g2 0 0 0 1 (Abort 0 0) (none_anew 0) (λ v t q. absurd cc) (λ v e. none_if 0 v _ e)) (another 0 1 8 0 2 zero_one)

t1 : Step twice [] (Enqueue 0 (request 0 1 (word 5)))
t1 = record { row = inl (lit< tt, lit≤ tt, lit< tt); unborn = refl; stage = (lit≤ tt, lit≤ tt); body = refl; root = refl; by = refl }

t2 : Step twice g1 (Enqueue 0 (request 1 1 (word 6)))
t2 = record { row = inl (lit< tt, lit≤ tt, lit< tt); unborn = refl; stage = (lit≤ tt, lit≤ tt); body = refl; root = refl; by = refl }

t3 : Step twice g2 (Claim 0 0 0 1)
t3 = record { unit = (lit< tt, lit≤ tt, lit< tt); unused = refl; alone = none_anew 0; item = request 0 1 (word 5); born = refl; stage = (lit≤ tt, lit≤ tt); attempt = lit≤ tt; waits = refl }

t4 : Step twice g3 (Abort 0 0)
t4 = record { pass = lit< tt; taking = record { pass = 0; item = 0; attempt = 1 }; open_unit = record { claimed = refl; unfinished = refl } }

t5 : Step twice g4 (Claim 1 8 0 2)
t5 = record { unit = (lit< tt, lit≤ tt, lit< tt); unused = refl; alone = one_anew; item = request 0 1 (word 5); born = refl; stage = (lit≤ tt, lit≤ tt); attempt = lit≤ tt; waits = refl }

t6 : Step twice g5 (Claim 0 1 1 1)
t6 = record { unit = (lit< tt, lit≤ tt, lit< tt); unused = refl; alone = zero_anew; item = request 1 1 (word 6); born = refl; stage = (lit≤ tt, lit≤ tt); attempt = lit≤ tt; waits = refl }

legal_anew : IsLegal twice in_hand_anew
legal_anew = legal_more twice g5 _ (legal_more twice g4 _ (legal_more twice g3 _ (legal_more twice g2 _ (legal_more twice g1 _ (legal_more twice [] _ (legal_empty twice) t1) t2) t3) t4) t5) t6

-- ---- what is alive
abbrev Described : Element → Type 0
Described x = IsLiving (status_of 2 in_hand x.id) → (s : Survivor) × In s described_in_hand × (s.id ≡ x.id)

each_element : (x : Element) → IsBorn in_hand x → Described x
each_element x is = from_each Described (born in_hand) x
    (λ k. absurd k, (λ k. (survivor_in_hand 1 1 1 5, here, refl), (λ k. (survivor_in_hand 2 0 0 6, there here, refl), tt)))
    (find_in x.id (born in_hand) x is).0

so_described : AreSurvivors twice in_hand described_in_hand
so_described = record {
  each = λ x is alive. each_element x is alive;
  described = λ s p. from_each (IsSurvivor twice in_hand) described_in_hand s (
    record { item = request 1 1 (word 5); born = refl; root = refl; stage = refl; body = refl; stands = (10, 1, refl, refl, refl); rounds_are = refl; request = request 1 1 (word 5); began = refl; root_stage = refl; root_body = refl },
    (record { item = request 2 1 (word 6); born = refl; root = refl; stage = refl; body = refl; stands = (0, 0, refl, refl, refl); rounds_are = refl; request = request 2 1 (word 6); began = refl; root_stage = refl; root_body = refl }, tt),
  ) p;
  once = (lit≤ tt, (lit≤ tt, tt));
}

stand_both : AllZip (StandsAgain twice in_hand_anew) described_in_hand both_in_hand
stand_both = (
  record { named = (refl, refl); holder = refl; item = request 0 1 (word 5); born = refl; root = refl; stage = refl; body = refl; stands = (8, 1, refl, refl, refl); rounds_are = refl; request = request 0 1 (word 5); began = refl; by_client = refl; root_stage = refl; root_body = refl; itself = λ e. refl },
  (record { named = (refl, refl); holder = refl; item = request 1 1 (word 6); born = refl; root = refl; stage = refl; body = refl; stands = (1, 0, refl, refl, refl); rounds_are = refl; request = request 1 1 (word 6); began = refl; by_client = refl; root_stage = refl; root_body = refl; itself = λ e. refl }, tt),
)

-- each is a family of its own, one further in the old manager
abbrev IsNext : Moved → Type 0
IsNext m = m.old_root ≡ suc m.new_root

own_families : AreFamilies both_in_hand
own_families m n p q =
    let a = from_each IsNext both_in_hand m (refl, (refl, tt)) p in
    let b = from_each IsNext both_in_hand n (refl, (refl, tt)) q in
    (λ e. (let f : suc m.new_root ≡ suc n.new_root = sym a ∙ (e ∙ b) in cc), λ e. a ∙ (ap (λ i. suc i) e ∙ sym b))

abbrev Told : Element → Type 0
Told y = IsNamed (λ m. m.new) y.id both_in_hand ⊎ (is_consumed (status_of 2 in_hand_anew y.id) ≡ true)

all_told : AreOnly twice both_in_hand in_hand_anew
all_told y is less = from_each Told (born in_hand_anew) y (inl (moved_in_hand 1 0 1, here, refl), (inl (moved_in_hand 2 1 0, there here, refl), tt)) (find_in y.id (born in_hand_anew) y is).0

stand : StandAgain twice in_hand_anew described_in_hand both_in_hand
stand = record { each = stand_both; once = ((lit≤ tt, (lit≤ tt, tt)), (lit≤ tt, (lit≤ tt, tt))); families = own_families; rest = all_told }

pub pair : HeldPair
pair = record {
  described_so = so_described;
  again = stand;
  over = rolled twice twice in_hand over_in_hand in_hand_anew described_in_hand both_in_hand refl legal_after legal_anew so_described stand
      (record { given_up = Abort 0 0 ∷ []; own = inr (2, 0, 1, refl, refl); killed = refl });
  second = refl;
  third = refl;
  attempt = λ t. (let e : Held 8 1 ≡ Held t.0 2 = t.1 in cc);
  waits = λ t. (let e : Waiting 1 ≡ Held t.0 2 = t.1 in cc);
  other = λ t. (let e : Held 1 2 ≡ Held t.0 2 = t.1 in let v : 1 ≡ t.0 = cc in let f : 0 ≡ 1 = ap (holder_of twice) v ∙ t.2 in cc);
}
