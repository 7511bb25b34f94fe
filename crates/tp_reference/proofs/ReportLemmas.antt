-- The report, one command after the other.
use Rattle.std.proofs.Common.{◌≡◌, ℕ, ◌+◌, ◌<◌, ◌≤◌, List, [], ◌++◌, length, drop, get_or, refl, ap, ◌∙◌, add-one, arith, ◌-◌, zero, suc, Bool, true, false, ◌||◌}
use Rattle.std.specs.Prelude.{slice_get}
use Rattle.std.proofs.lemmas.List.{drop_more, drop_all}
use Rattle.tp_script.specs.declared.head.Act.{Act}
use Rattle.tp_script.specs.Script.{ServerView}
use Rattle.tp_server.specs.declared.order.Order.{Order}
use Rattle.tp_plain.specs.OneThread as thread
use Rattle.tp_reference.specs.declared.plain_desk.PlainDesk.{PlainDesk}
use Rattle.tp_reference.specs.PlainDesks.{after_giving_up}
use Rattle.tp_reference.specs.PlainReport.{ReportState, act_step, closing, ended_below, desk_final_line, finals_below, reports, round_below, round_of, round_turn, drain_rounds}

pub reports_more : (servers : List ServerView) (account : Bool) (cs : List Act) (i : ℕ) (c : Act) (s next : ReportState) (line : List ℕ) → i < length cs → act_step servers (get_or cs i c) s ≡ (line, next)
    → reports servers account (drop i cs) s ≡ line ++ reports servers account (drop (i + 1) cs) next
unfolding reports
reports_more servers account cs i c s next line lt step =
    ap (λ (w : List Act). reports servers account w s) (drop_more cs i c lt) ∙ ap (λ (p : List ℕ × ReportState). p.0 ++ reports servers account (drop (i + 1) cs) p.1) step

pub reports_done : (servers : List ServerView) (account : Bool) (cs : List Act) (i : ℕ) (s : ReportState) → length cs ≤ i → reports servers account (drop i cs) s ≡ closing servers account s
unfolding reports
reports_done servers account cs i s le = ap (λ (w : List Act). reports servers account w s) (drop_all i cs le)

-- a round, one desk after the other
pub round_none : (order : Order) (servers : List ServerView) (s : ReportState) → round_below order servers 0 s ≡ (false, s)
unfolding round_below
round_none order servers s = refl

pub round_more : (order : Order) (servers : List ServerView) (i : ℕ) (s mid new : ReportState) (before claimed : Bool) → round_below order servers i s ≡ (before, mid)
    → round_turn order (slice_get servers i) (slice_get mid.desks i) i mid ≡ (claimed, new)
    → round_below order servers (i + 1) s ≡ (before || claimed, new)
unfolding round_below
round_more order servers i s mid new before claimed below turn = rw (add-one i, below, turn) refl

-- rounds that are left
pub rounds_none : (order : Order) (servers : List ServerView) (s : ReportState) → drain_rounds order servers 0 s ≡ s
unfolding drain_rounds
rounds_none order servers s = refl

-- a round that claims nothing is the last one
pub rounds_last : (order : Order) (servers : List ServerView) (n : ℕ) (s new : ReportState) → 0 < n → round_of order servers s ≡ (false, new) → drain_rounds order servers n s ≡ new
unfolding drain_rounds
rounds_last order servers (suc n) s new some round = rw round refl
rounds_last order servers zero s new some round = absurd (omega (arith, some))

-- and after another one are those that are left
pub rounds_next : (order : Order) (servers : List ServerView) (n : ℕ) (s new : ReportState) → 0 < n → round_of order servers s ≡ (true, new) → drain_rounds order servers n s ≡ drain_rounds order servers (n - 1) new
unfolding drain_rounds
rounds_next order servers (suc n) s new some round =
    let less : n ≡ suc n - 1 = omega arith in
    rw round (ap (λ k. drain_rounds order servers k new) less)
rounds_next order servers zero s new some round = absurd (omega (arith, some))

-- the final lines, one after the other
pub finals_none : (servers : List ServerView) (desks : List PlainDesk) → finals_below servers desks 0 ≡ []
unfolding finals_below
finals_none servers desks = refl

pub finals_more : (servers : List ServerView) (desks : List PlainDesk) (i : ℕ)
    → finals_below servers desks (i + 1) ≡ finals_below servers desks i ++ desk_final_line (slice_get servers i) (slice_get desks i)
unfolding finals_below
finals_more servers desks i = rw (add-one i) refl

-- the ends of desks, one after the other
pub ended_none : (m : thread.State) → ended_below m 0 ≡ m
unfolding ended_below
ended_none m = refl

pub ended_more : (m : thread.State) (i : ℕ) → ended_below m (i + 1) ≡ after_giving_up (ended_below m i) (i + 1)
unfolding ended_below
ended_more m i = ap (ended_below m) (add-one i)
