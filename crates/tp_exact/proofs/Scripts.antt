-- A whole script without a race and a rollover.
use Rattle.std.proofs.Common.{◌≡◌, ◌||◌, ◌+◌, ℕ, zero, suc, Bool, true, false, List, [], ◌∷◌, ◌++◌, All, length, take, Option, None, Some, Result, Ok, Err, inl, inr, refl, sym, ◌∙◌, ap, subst, append_assoc}
use Rattle.std.specs.Prelude.{if◌then◌else◌}
use Rattle.std.specs.List.{AllZip, list_any}
use Rattle.std.specs.Io.KnownBytes.{Appends}
use Rattle.tp_model.specs.declared.types.Account.{Account}
use Rattle.tp_model.specs.declared.types.Counts.{Counts}
use Rattle.tp_model.specs.declared.types.Limits.{Limits}
use Rattle.tp_server.specs.declared.order.Order.TheVariants.{InTurn, LeastFirst}
use Rattle.tp_manager.specs.Bounds.{account_steps}
use Rattle.tp_manager.specs.Shown.{KeeperShown, ManagerShown}
use Rattle.tp_rollover.specs.Thread.{AreTogether, Stays, thread_of}
use Rattle.tp_rollover.proofs.AloneIdle.{alone_idle}
use Rattle.tp_report.specs.Answer.{account_text, line}
use Rattle.tp_report.specs.Written.{AppendsFront}
use Rattle.tp_report.specs.declared.fault.Exit.{Exit}
use Rattle.tp_report.specs.declared.fault.Exit.TheVariants as exits
use Rattle.tp_report.specs.declared.fault.Fault.{Fault}
use Rattle.tp_report.specs.declared.fault.Fault.TheVariants as faults
use Rattle.tp_script.specs.Passes.{has_race, racers, racing}
use Rattle.tp_script.specs.Script.{HeadView, ScriptView, ServerView, head_view, script_view}
use Rattle.tp_script.specs.Whole.{script}
use Rattle.tp_script.specs.declared.fault.Refused.{Refused}
use Rattle.tp_script.specs.declared.head.Act.{Act}
use Rattle.tp_script.specs.declared.head.Act.TheVariants as acts
use Rattle.tp_script.specs.declared.head.Head.{Head}
use Rattle.tp_script.specs.declared.whole.Script.{Script}
use Rattle.tp_commands.specs.GivingUp.{GiveUpAll}
use Rattle.tp_commands.specs.Scenes.{Gathered, OnlyPass, Stand, passes_in}
use Rattle.tp_reference.specs.PlainClient.{counts_of}
use Rattle.tp_reference.specs.PlainReport.{ReportState, account_line, act_step, begin, closing, command_step, drain_step, ended_below, finals_below, report_of, report_of_read, reports}
use Rattle.tp_reference.specs.Whole.{is_beyond, is_other}
use Rattle.tp_perform.specs.Standing.{ActTold}
use Rattle.tp_perform.specs.Performed.{ActsTold, Begun, Counts as CountsAll, CountsAtEnd, DesksClose, DesksEnd, Ran, RanFront, Report, ReportFront, ReportPart, closing_text, finals_of}
use Rattle.tp_exact.specs.Programs.{ExactProgram, IsChecked, WritesAs, exit_of}
use Rattle.tp_exact.specs.Stands.{IsServedBy, StandsAsComputed}
use Rattle.tp_exact.proofs.Accounts.{exact_account}
use Rattle.tp_exact.proofs.Begins.{no_racers, none_raced}
use Rattle.tp_exact.proofs.Commands.{served_all, still_all}
use Rattle.tp_exact.proofs.Covered.{exact_command, exact_drain}
use Rattle.tp_exact.proofs.Drains.{beside_long}
use Rattle.tp_exact.proofs.Finals.{exact_finals, registers_left}
use Rattle.tp_exact.proofs.Firsts.{begins_so}
use Rattle.tp_exact.proofs.GivingUps.{below, with_state}
use Rattle.tp_exact.proofs.HeadsChecked.{script_good}
use Rattle.tp_exact.proofs.Scenes.{gathers_in, looks_apart, together_in}

-- what is there stands for a computed state
abbrev Stands : HeadView → Stand → ReportState → Type 0
Stands h z s = StandsAsComputed h.servers z.manager.limits z.keeper z.keeper.seen z.scene s

-- the text is this step's, and what is there stands for the computed state after it
abbrev IsStep : HeadView → Stand → List ℕ → List ℕ × ReportState → Type 0
IsStep h new text step = (text ≡ step.0) × Stands h new step.1

-- acts one after another
abbrev acts_step : List ServerView → List Act → ReportState → List ℕ × ReportState
acts_step vs [] s = ([], s)
acts_step vs (a ∷ others) s =
    let first = act_step vs a s in
    let rest = acts_step vs others first.1 in (first.0 ++ rest.0, rest.1)

-- the report is what they write, and the end
reports_are : (vs : List ServerView) (account : Bool) (all : List Act) (s : ReportState) → reports vs account all s ≡ (acts_step vs all s).0 ++ closing vs account (acts_step vs all s).1
unfolding reports
reports_are vs account [] s = refl
reports_are vs account (a ∷ others) s =
    let step : List ℕ × ReportState = act_step vs a s in
    let rest : List ℕ × ReportState = acts_step vs others step.1 in
    ap (λ t. step.0 ++ t) (reports_are vs account others step.1) ∙ sym (append_assoc step.0 rest.0 (closing vs account rest.1))

-- ---- acts

module _ (head : Head) where
  abbrev h : HeadView
  h = head_view head

  module _ (old new : Stand) (text : List ℕ) (s : ReportState) (is : Stands h old s) where
    reported : (step : List ℕ × ReportState) → (text ≡ step.0) × StandsAsComputed h.servers old.manager.limits new.keeper new.keeper.seen new.scene step.1 → new.manager ≡ old.manager → IsStep h new text step
    reported step so manager = (so.0, subst (λ (m : ManagerShown). StandsAsComputed h.servers m.limits new.keeper new.keeper.seen new.scene step.1) (sym manager) so.1)

    exact_act : (raced : ℕ) (a : Act) → is_other a ≡ false → ActTold head raced a old text new → IsStep h new text (act_step h.servers a s)
    exact_act raced (acts.Command c) covered t =
        let g : Gathered old.manager old.keeper new.keeper t.done.scene new.scene =
        subst (λ (x : ManagerShown × KeeperShown). Gathered x.0 x.1 new.keeper t.done.scene new.scene) (λ i. (t.did.manager i, t.did.keeper i)) t.gathers.gathered in
        reported (command_step h.servers c s) (exact_command c old.manager h old.keeper new.keeper old.scene t.done.scene new.scene text s is t.did.tells g) (t.gathers.manager ∙ t.did.manager)
    exact_act raced (acts.Race plan) covered t = absurd cc
    exact_act raced acts.Drain covered t = reported (drain_step LeastFirst h.servers s) (exact_drain LeastFirst old.manager h old.keeper new.keeper old.scene new.scene text s is t.did) t.manager
    exact_act raced acts.DrainNext covered t = reported (drain_step InTurn h.servers s) (exact_drain InTurn old.manager h old.keeper new.keeper old.scene new.scene text s is t.did) t.manager
    exact_act raced acts.Rollover covered t = absurd cc

  -- one after another
  acts_are : (raced : ℕ) (all : List Act) (old last : Stand) (text : List ℕ) (s : ReportState) → list_any is_other all ≡ false → Stands h old s → ActsTold head raced all old text last → IsStep h last text (acts_step h.servers all s)
  acts_are raced [] old last text s covered is (none, same) = (none, subst (λ z. Stands h z s) (sym same) is)
  acts_are raced (a ∷ others) old last text s covered is (first, rest, between, one, more, whole) =
      let parts = none_raced (is_other a) (list_any is_other others) covered in
      let step : List ℕ × ReportState = act_step h.servers a s in
      let x = exact_act old between first s is raced a parts.0 one in
      let y = acts_are (raced + racers a) others between last rest step.1 parts.1 x.1 more in
      (whole ∙ (ap (λ t. t ++ rest) x.0 ∙ ap (λ t. step.0 ++ t) y.0), y.1)

-- fewer acts are told a prefix of all
acts_fewer : (vs : List ServerView) (n : ℕ) (all : List Act) (s : ReportState) → (rest : List ℕ) × ((acts_step vs all s).0 ≡ (acts_step vs (take n all) s).0 ++ rest)
acts_fewer vs zero all s = ((acts_step vs all s).0, refl)
acts_fewer vs (suc n) [] s = ([], refl)
acts_fewer vs (suc n) (a ∷ others) s =
    let step : List ℕ × ReportState = act_step vs a s in
    let more = acts_fewer vs n others step.1 in
    (more.0, ap (λ t. step.0 ++ t) more.1 ∙ sym (append_assoc step.0 (acts_step vs (take n others) step.1).0 more.0))

covered_fewer : (n : ℕ) (all : List Act) → list_any is_other all ≡ false → list_any is_other (take n all) ≡ false
covered_fewer zero all covered = refl
covered_fewer (suc n) [] covered = refl
covered_fewer (suc n) (a ∷ others) covered =
    let parts = none_raced (is_other a) (list_any is_other others) covered in
    ap (λ b. b || list_any is_other (take n others)) parts.0 ∙ covered_fewer n others parts.1

-- ---- the end

module _ (h : HeadView) where
  abbrev vs : List ServerView
  vs = h.servers

  -- the desks gave up what they had in hand
  abbrev closed : ReportState → ReportState
  closed s = with_state s (ended_below s.manager (length h.servers))

  desks_so : (old new : Stand) (s : ReportState) → Stands h old s → DesksClose old new → Stands h new (closed s)
  desks_so old new s is t =
      let l = old.manager in
      let long : length h.servers ≡ length old.scene.places = beside_long IsServedBy old.scene.places h.servers is.served in
      let all = below h.servers l (length old.scene.places) old.keeper new.keeper old.scene new.scene s is t.did in
      subst (λ (m : ManagerShown). StandsAsComputed h.servers m.limits new.keeper new.keeper.seen new.scene (closed s)) (sym t.manager)
      (subst (λ n. StandsAsComputed h.servers l.limits new.keeper new.keeper.seen new.scene (with_state s (ended_below s.manager n))) (sym long) all)

  -- all passes looked, and nobody did anything
  still : (old new : Stand) (s : ReportState) → Stands h old s → new.manager ≡ old.manager → AreTogether old.manager.limits new.keeper (passes_in new.scene) new.keeper.seen → AllZip Stays (passes_in old.scene) (passes_in new.scene) → AllZip OnlyPass old.scene.places new.scene.places → Stands h new s
  still old new s is manager after stay places =
      let l : Limits = old.manager.limits in
      let apart = looks_apart old.scene.places new.scene.places old.scene.racers new.scene.racers places stay.1 in
      let same : thread_of l (passes_in new.scene) new.keeper.seen ≡ s.manager =
      (alone_idle l old.keeper new.keeper (passes_in old.scene) (passes_in new.scene) old.keeper.seen new.keeper.seen is.together stay after).1 ∙ sym is.manager in
      subst (λ (m : ManagerShown). StandsAsComputed h.servers m.limits new.keeper new.keeper.seen new.scene s) (sym manager) (record {
        together = after;
        manager = sym same;
        desks = still_all old.scene.places new.scene.places s.desks apart.0 is.desks;
        served = served_all old.scene.places new.scene.places h.servers apart.0 is.served;
      })

  counted_so : (old : Stand) (account : Account) (new : Stand) (s : ReportState) → Stands h old s → CountsAll old account new → Stands h new s × (account.total ≡ counts_of s.manager)
  counted_so old account new s is t =
      let m = old.manager in
      let steps : ℕ = account_steps m.limits (length (passes_in old.scene)) in
      let after = together_in steps m old.keeper new.keeper old.scene new.scene t.gathered in
      let stay = gathers_in steps m old.keeper new.keeper old.scene new.scene t.gathered in
      let stands = still old new s is t.manager after stay t.gathered.places in
      let total = exact_account m.limits new.keeper (passes_in new.scene) new.keeper.seen after in
      let same = subst (λ (x : ManagerShown). s.manager ≡ thread_of x.limits (passes_in new.scene) new.keeper.seen) t.manager stands.manager in
      (stands, ap (λ (a : Account). a.total) t.account_is ∙ (total ∙ ap counts_of (sym same)))

  counts_so : (asked : Bool) (old : Stand) (account : Option Account) (new : Stand) (s : ReportState) → Stands h old (closed s) → CountsAtEnd asked old account new → Stands h new (closed s) × (closing_text account ≡ account_line asked (length h.servers) s)
  counts_so false old account new s is t = (subst (λ z. Stands h z (closed s)) (sym t.1) is, ap closing_text t.0)
  counts_so true old None new s is t = absurd t
  counts_so true old (Some account) new s is t =
      let all = counted_so old account new (closed s) is t in
      (all.0, ap (λ (c : Counts). line (account_text c)) all.1)

  finals_are : (last : Stand) (registers : List (List ℕ)) (s : ReportState) → Stands h last s → DesksEnd last registers → finals_of h registers ≡ finals_below h.servers s.desks (length h.servers)
  finals_are last registers s is ends = exact_finals h registers s.desks (registers_left last.scene.places ends.passes registers s.desks ends.ended is.desks)

-- ---- a whole script

-- more could follow
front_longer : (a b : Option (List ℕ)) (x y : List ℕ) → AppendsFront a b x → AppendsFront a b (x ++ y)
front_longer a b x y f = (f.0 ++ y, (f.1.0, ap (λ t. t ++ y) f.1.1 ∙ append_assoc f.1.0 f.0 y, f.1.2))

module _ (s : Script) (covered : list_any is_other s.acts.items ≡ false) (checked : All IsChecked (head_view s.head).servers) where
  abbrev v : ScriptView
  v = script_view s

  abbrev h' : HeadView
  h' = v.head

  first_so : (first : Stand) → Begun h' (racing s.acts.items) first → Stands h' first (begin h')
  first_so first begins = begins_so h' (racing s.acts.items) (no_racers s.acts.items covered).1 first begins checked

  report_so : (Told : List ℕ → Type 0) → Report s Told → Told (report_of v)
  report_so Told r =
      let body = acts_are s.head 0 s.acts.items r.first r.last r.text (begin h') covered (first_so r.first r.begins) r.acts in
      let done : List ℕ × ReportState = acts_step h'.servers s.acts.items (begin h') in
      let close = desks_so h' r.last r.ends.closed done.1 body.1 r.ends.closes in
      let count = counts_so h' s.account r.ends.closed r.account r.ends.counted done.1 close r.ends.counts in
      let finals = finals_are h' r.ends.counted r.registers (closed h' done.1) count.0 r.ends.ends in
      let raceless : has_race s.acts.items ≡ false = (no_racers s.acts.items covered).0 in
      let none : (if has_race s.acts.items then [] else finals_of h' r.registers) ≡ finals_of h' r.registers = ap (λ b. if b then [] else finals_of h' r.registers) raceless in
      let rest = ap (λ t. t ++ closing_text r.account) (none ∙ finals) ∙ ap (λ t. finals_below h'.servers done.1.desks (length h'.servers) ++ t) count.1 in
      subst Told (ap (λ t. t ++ ((if has_race s.acts.items then [] else finals_of h' r.registers) ++ closing_text r.account)) body.0 ∙ (ap (λ t. done.0 ++ t) rest ∙ sym (reports_are h'.servers s.account s.acts.items (begin h')))) r.told

  module _ (before after : Option (List ℕ)) where
    part_so : ReportPart s (AppendsFront before after) → AppendsFront before after (report_of v)
    part_so r =
        let some : List Act = take r.acts.many s.acts.items in
        let body = acts_are s.head 0 some r.first r.last r.acts.text (begin h') (covered_fewer r.acts.many s.acts.items covered) (first_so r.first r.begins) r.acts.acts in
        let few = acts_fewer h'.servers r.acts.many s.acts.items (begin h') in
        let all : List ℕ × ReportState = acts_step h'.servers s.acts.items (begin h') in
        let first : List ℕ = (acts_step h'.servers some (begin h')).0 in
        let behind : List ℕ = closing h'.servers s.account all.1 in
        let is : report_of v ≡ first ++ (few.0 ++ behind) = reports_are h'.servers s.account s.acts.items (begin h') ∙ (ap (λ t. t ++ behind) few.1 ∙ append_assoc first few.0 behind) in
        subst (AppendsFront before after) (sym is) (front_longer before after first (few.0 ++ behind) (subst (AppendsFront before after) body.0 r.acts.told))

    front_so : ReportFront s (AppendsFront before after) → AppendsFront before after (report_of v)
    front_so (inl none) = front_longer before after [] (report_of v) none
    front_so (inr (inl part)) = part_so part
    front_so (inr (inr whole)) = report_so (AppendsFront before after) whole

-- ---- the program

module _ (bytes : List ℕ) (before after : Option (List ℕ)) where
  good_of : (v : ScriptView) → script bytes ≡ Ok v → (s : Script) → script_view s ≡ v → All IsChecked (head_view s.head).servers
  good_of v read s same = subst (λ (x : ScriptView). All IsChecked x.head.servers) (sym same) (script_good bytes v read)

  none_of : (v : ScriptView) → list_any is_other v.acts ≡ false → (s : Script) → script_view s ≡ v → list_any is_other s.acts.items ≡ false
  none_of v covered s same = ap (λ (x : ScriptView). list_any is_other x.acts) same ∙ covered

  ran_front : (v : ScriptView) → script bytes ≡ Ok v → list_any is_other v.acts ≡ false → RanFront v before after → AppendsFront before after (report_of v)
  ran_front v read covered (inl none) = front_longer before after [] (report_of v) none
  ran_front v read covered (inr (s, same, front)) =
      subst (λ (x : ScriptView). AppendsFront before after (report_of x)) same (front_so s (none_of v covered s same) (good_of v read s same) before after front)

  ran_whole : (v : ScriptView) → script bytes ≡ Ok v → list_any is_other v.acts ≡ false → (s : Script) × (script_view s ≡ v) × Report s (Appends before after) → Appends before after (report_of v)
  ran_whole v read covered (s, same, report) =
      subst (λ (x : ScriptView). Appends before after (report_of x)) same (report_so s (none_of v covered s same) (good_of v read s same) (Appends before after) report)

  writes : (outcome : Result Exit Fault) (said : Result ScriptView Refused) → script bytes ≡ said → is_beyond said ≡ false → Ran outcome said before after → WritesAs outcome (exit_of said) (report_of_read said) before after
  writes (Ok exits.Done) (Ok v) read covered ran = (refl, ran_whole v read covered ran)
  writes (Ok exits.Done) (Err refused) read covered ran = absurd ran
  writes (Ok exits.Refused) (Ok v) read covered ran = absurd ran
  writes (Ok exits.Refused) (Err refused) read covered ran = (refl, ran)
  writes (Err faults.Read) (Ok v) read covered ran = ran
  writes (Err faults.Read) (Err refused) read covered ran = ran
  writes (Err faults.NoMemory) (Ok v) read covered ran = ran_front v read covered ran
  writes (Err faults.NoMemory) (Err refused) read covered ran = ran
  writes (Err faults.Write) (Ok v) read covered ran = ran_front v read covered ran
  writes (Err faults.Write) (Err refused) read covered ran = ran

pub exact_program : ExactProgram
exact_program outcome bytes before after covered ran = writes bytes before after outcome (script bytes) refl covered ran
