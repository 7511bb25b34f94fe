-- The worked rollover, computed.
use Rattle.std.proofs.Common.{◌≡◌, ◌≢◌, ◌⊎◌, true, ℕ, Some, None, List, [], ◌∷◌, ◌++◌, refl, sym, ◌∙◌, ap, inl, inr, ⊎_elim, lit<, lit≤}
use Rattle.tp_model.specs.declared.types.Element.{Element}
use Rattle.tp_model.specs.declared.types.Status.TheVariants.{Parked, Waiting}
use Rattle.tp_model.specs.declared.event.Event.{Event}
use Rattle.tp_model.specs.declared.event.Event.TheVariants.{Enqueue, Claim, Commit, Abort, Kill}
use Rattle.tp_model.specs.Births.{request}
use Rattle.tp_model.specs.Counts.{is_consumed}
use Rattle.tp_model.specs.History.{In, IsBorn, here, there, UnitClaim, born, claim_by, end_by, status_of}
use Rattle.tp_model.specs.Steps.{IsLegal, IsOpen, Step}
use Rattle.tp_model.proofs.Bridges.{find_in, in_one}
use Rattle.tp_model.proofs.Histories.{legal_empty, legal_more, open_before}
use Rattle.tp_model.proofs.Lists.{none_if, some_if}
use Rattle.std.specs.List.{AllZip}
use Rattle.tp_rollover.specs.Checks.{AreFamilies, AreOnly, IsNamed}
use Rattle.tp_rollover.specs.Survivors.{AreSurvivors, IsLiving, IsSurvivor, StandAgain, StandsAgain}
use Rattle.tp_rollover.specs.Worked.{WorkedPair, anew, before, described, first_moved, worked_output, second_moved, small, survivor, word}
use Rattle.tp_rollover.specs.declared.survivors.Survivor.{Survivor}
use Rattle.tp_rollover.specs.declared.moved.Moved.{Moved}
use Rattle.tp_rollover.proofs.Assembly.{rolled}

-- each of a list, as a product
abbrev pub Each : {A : Type 0} → (A → Type 0) → List A → Type 0
Each P [] = Unit {0}
Each P (x ∷ xs) = P x × Each P xs

pub from_each : {A : Type 0} (P : A → Type 0) (xs : List A) (x : A) → Each P xs → In x xs → P x
from_each P [] x each q = elim q [ ]
from_each P (y ∷ xs) x each here = each.0
from_each P (y ∷ xs) x each (there q) = from_each P xs x each.1 q

-- no unit is open
abbrev NoneOpen : List Event → Type 0
NoneOpen h = (v : ℕ) (t : UnitClaim) → ¬ IsOpen h v t

-- a unit that was claimed and then ended isn't open
closed : (h : List Event) (c u i n : ℕ) (f : Event) → NoneOpen h → ((v : ℕ) (t : UnitClaim) → ¬ (claim_by v f ≡ Some t)) → ((v : ℕ) → end_by v f ≡ None → u ≢ v)
    → NoneOpen ((h ++ Claim c u i n ∷ []) ++ f ∷ [])
closed h c u i n f none other ends v t is =
    ⊎_elim (λ p. other v t p)
    (λ p. ⊎_elim (λ q. ends v p.1 (some_if u v (record { pass = c; item = i; attempt = n }) t q).0) (λ q. none v t q.0) (open_before h (Claim c u i n) v t p.0))
    (open_before (h ++ Claim c u i n ∷ []) f v t is)

abbrev first_event : List Event
first_event = Enqueue 0 (request 0 1 (word 5)) ∷ []

none_at_first : NoneOpen first_event
none_at_first v t is = (let claimed = is.claimed in cc)

first_step : Step small [] (Enqueue 0 (request 0 1 (word 5)))
first_step = record { row = inl (lit< tt, lit≤ tt, lit< tt); unborn = refl; stage = (lit≤ tt, lit≤ tt); body = refl; root = refl; by = refl }

claim_step : Step small first_event (Claim 0 0 0 1)
claim_step = record { unit = (lit< tt, lit≤ tt, lit< tt); unused = refl; alone = λ v t own. none_at_first v t; item = request 0 1 (word 5); born = refl; stage = (lit≤ tt, lit≤ tt); attempt = lit≤ tt; waits = refl }

abbrev claimed_once : List Event
claimed_once = Enqueue 0 (request 0 1 (word 5)) ∷ Claim 0 0 0 1 ∷ []

legal_once : IsLegal small claimed_once
legal_once = legal_more small first_event _ (legal_more small [] _ (legal_empty small) first_step) claim_step

abbrev three : List Element
three = worked_output 1 2 10 ∷ worked_output 2 2 20 ∷ worked_output 3 3 30 ∷ []

abbrev two : List Element
two = worked_output 1 2 20 ∷ worked_output 2 3 30 ∷ []

bear_three : Step small claimed_once (Commit 0 0 three)
bear_three =
    record {
      taking = record { pass = 0; item = 0; attempt = 1 };
      open_unit = record { claimed = refl; unfinished = refl };
      own = refl;
      item = request 0 1 (word 5);
      taken = refl;
      few = lit≤ tt;
      outputs =
          (record { place = refl; row = inl (lit< tt, lit≤ tt, lit< tt); unborn = refl; stage = (lit≤ tt, lit≤ tt); body = refl; by = refl; root_is = refl }, (record { place = refl; row = inl (lit< tt, lit≤ tt, lit< tt); unborn = refl; stage = (lit≤ tt, lit≤ tt); body = refl; by = refl; root_is = refl }, (record { place = refl; row = inl (lit< tt, lit≤ tt, lit< tt); unborn = refl; stage = (lit≤ tt, lit≤ tt); body = refl; by = refl; root_is = refl }, tt)));
    }

bear_two : Step small claimed_once (Commit 0 0 two)
bear_two =
    record {
      taking = record { pass = 0; item = 0; attempt = 1 };
      open_unit = record { claimed = refl; unfinished = refl };
      own = refl;
      item = request 0 1 (word 5);
      taken = refl;
      few = lit≤ tt;
      outputs =
          (record { place = refl; row = inl (lit< tt, lit≤ tt, lit< tt); unborn = refl; stage = (lit≤ tt, lit≤ tt); body = refl; by = refl; root_is = refl }, (record { place = refl; row = inl (lit< tt, lit≤ tt, lit< tt); unborn = refl; stage = (lit≤ tt, lit≤ tt); body = refl; by = refl; root_is = refl }, tt));
    }

none_by_commit : (outs : List Element) → NoneOpen (claimed_once ++ Commit 0 0 outs ∷ [])
none_by_commit outs = closed first_event 0 0 0 1 (Commit 0 0 outs) none_at_first (λ v t q. absurd cc) (λ v e. none_if 0 v _ e)

abbrev with_three : List Event
with_three = claimed_once ++ Commit 0 0 three ∷ []

abbrev with_two : List Event
with_two = claimed_once ++ Commit 0 0 two ∷ []

claim_next : Step small with_three (Claim 0 1 1 1)
claim_next = record { unit = (lit< tt, lit≤ tt, lit< tt); unused = refl; alone = λ v t own. none_by_commit three v t; item = worked_output 1 2 10; born = refl; stage = (lit≤ tt, lit≤ tt); attempt = lit≤ tt; waits = refl }

consume_next : Step small (with_three ++ Claim 0 1 1 1 ∷ []) (Commit 0 1 [])
consume_next = record { taking = record { pass = 0; item = 1; attempt = 1 }; open_unit = record { claimed = refl; unfinished = refl }; own = refl; item = worked_output 1 2 10; taken = refl; few = lit≤ tt; outputs = tt }

abbrev with_consumed : List Event
with_consumed = (with_three ++ Claim 0 1 1 1 ∷ []) ++ Commit 0 1 [] ∷ []

none_by_consume : NoneOpen with_consumed
none_by_consume = closed with_three 0 1 1 1 (Commit 0 1 []) (none_by_commit three) (λ v t q. absurd cc) (λ v e. none_if 1 v _ e)

claim_last : Step small with_consumed (Claim 0 2 3 1)
claim_last = record { unit = (lit< tt, lit≤ tt, lit< tt); unused = refl; alone = λ v t own. none_by_consume v t; item = worked_output 3 3 30; born = refl; stage = (lit≤ tt, lit≤ tt); attempt = lit≤ tt; waits = refl }

park_last : Step small (with_consumed ++ Claim 0 2 3 1 ∷ []) (Abort 0 2)
park_last = record { pass = lit< tt; taking = record { pass = 0; item = 3; attempt = 1 }; open_unit = record { claimed = refl; unfinished = refl } }

legal_before : IsLegal small before
legal_before =
    legal_more small _ _ (legal_more small _ _ (legal_more small _ _ (legal_more small _ _ (legal_more small claimed_once _ legal_once bear_three) claim_next) consume_next) claim_last) park_last

kill_first : Step small before (Kill 0 2)
kill_first = record { pass = lit< tt; item = worked_output 2 2 20; born = refl; free = tt }

kill_second : Step small (before ++ Kill 0 2 ∷ []) (Kill 0 3)
kill_second = record { pass = lit< tt; item = worked_output 3 3 30; born = refl; free = tt }

legal_after : IsLegal small (before ++ Kill 0 2 ∷ Kill 0 3 ∷ [])
legal_after = legal_more small (before ++ Kill 0 2 ∷ []) _ (legal_more small before _ legal_before kill_first) kill_second

claim_anew : Step small with_two (Claim 0 1 2 1)
claim_anew = record { unit = (lit< tt, lit≤ tt, lit< tt); unused = refl; alone = λ v t own. none_by_commit two v t; item = worked_output 2 3 30; born = refl; stage = (lit≤ tt, lit≤ tt); attempt = lit≤ tt; waits = refl }

park_anew : Step small (with_two ++ Claim 0 1 2 1 ∷ []) (Abort 0 1)
park_anew = record { pass = lit< tt; taking = record { pass = 0; item = 2; attempt = 1 }; open_unit = record { claimed = refl; unfinished = refl } }

legal_anew : IsLegal small anew
legal_anew = legal_more small _ _ (legal_more small _ _ (legal_more small claimed_once _ legal_once bear_two) claim_anew) park_anew

abbrev both : List Moved
both = first_moved ∷ second_moved ∷ []

-- an element of the old manager that is alive is described
abbrev Described : Element → Type 0
Described x = IsLiving (status_of 1 before x.id) → (s : Survivor) × In s described × (s.id ≡ x.id)

each_element : (x : Element) → IsBorn before x → Described x
each_element x is = from_each Described (born before) x
    (λ k. absurd k, (λ k. absurd k, (λ k. (survivor 2 2 20 (Waiting 0), here, refl), (λ k. (survivor 3 3 30 (Parked 1), there here, refl), tt))))
    (find_in x.id (born before) x is).0

so_described : AreSurvivors small before described
so_described = record {
  each = λ x is alive. each_element x is alive;
  described = λ s p. from_each (IsSurvivor small before) described s (
    record { item = worked_output 2 2 20; born = refl; root = refl; stage = refl; body = refl; stands = (refl, tt); rounds_are = refl; request = request 0 1 (word 5); began = refl; root_stage = refl; root_body = refl },
    (record { item = worked_output 3 3 30; born = refl; root = refl; stage = refl; body = refl; stands = (refl, tt); rounds_are = refl; request = request 0 1 (word 5); began = refl; root_stage = refl; root_body = refl }, tt),
  ) p;
  once = (lit≤ tt, (lit≤ tt, tt));
}

stand_both : AllZip (StandsAgain small anew) described both
stand_both = (
  record { named = (refl, refl); holder = refl; item = worked_output 1 2 20; born = refl; root = refl; stage = refl; body = refl; stands = (refl, tt); rounds_are = refl; request = request 0 1 (word 5); began = refl; by_client = refl; root_stage = refl; root_body = refl; itself = λ e. absurd cc },
  (record { named = (refl, refl); holder = refl; item = worked_output 2 3 30; born = refl; root = refl; stage = refl; body = refl; stands = (refl, tt); rounds_are = refl; request = request 0 1 (word 5); began = refl; by_client = refl; root_stage = refl; root_body = refl; itself = λ e. absurd cc }, tt),
)

-- both are of the family of 0, in either manager
abbrev OfOne : Moved → Type 0
OfOne m = (m.old_root ≡ 0) × (m.new_root ≡ 0)

one_family : AreFamilies both
one_family m n p q =
    let a = from_each OfOne both m ((refl, refl), ((refl, refl), tt)) p in
    let b = from_each OfOne both n ((refl, refl), ((refl, refl), tt)) q in
    (λ e. a.1 ∙ sym b.1, λ e. a.0 ∙ sym b.0)

-- what is born in the new manager is named, or consumed
abbrev Told : Element → Type 0
Told y = IsNamed (λ m. m.new) y.id both ⊎ (is_consumed (status_of 1 anew y.id) ≡ true)

all_told : AreOnly small both anew
all_told y is less = from_each Told (born anew) y (inr refl, (inl (first_moved, here, refl), (inl (second_moved, there here, refl), tt))) (find_in y.id (born anew) y is).0

stand : StandAgain small anew described both
stand = record { each = stand_both; once = ((lit≤ tt, (lit≤ tt, tt)), (lit≤ tt, (lit≤ tt, tt))); families = one_family; rest = all_told }

pub pair : WorkedPair
pair = record {
  described_so = so_described;
  again = stand;
  over = rolled small small before (before ++ Kill 0 2 ∷ Kill 0 3 ∷ []) anew described both refl legal_after legal_anew so_described stand (record { given_up = []; own = inl refl; killed = refl });
  waits = refl;
  parked = refl;
  counts_before = refl;
  counts_anew = refl;
  left_out = λ r. (let t = r.each (worked_output 3 3 30) refl tt in let one = ap (λ (m : Moved). m.old) (in_one t.1) in let no : 2 ≡ 3 = sym one ∙ t.2 in absurd cc);
}
