-- What clients and killers of a race did, by the passes of the race.
use Rattle.std.proofs.Common.{◌≡◌, ℕ, List, [], ◌∷◌, ◌++◌, All, Option, refl, sym, ◌∙◌, ap, subst, length, map, take, drop, replicate}
use Rattle.std.proofs.lemmas.List.Elements.{All-head, All-tail}
use Rattle.std.proofs.Math.Seq.{drop-append_seam, take-append_seam}
use Rattle.tp_manager.specs.Shown.{ManagerShown, PassShown, numbers}
use Rattle.tp_workers.specs.Free.{IsFreePass}
use Rattle.tp_workers.specs.declared.killer.KillJob.{KillJob}
use Rattle.tp_script.specs.declared.script.Race.{Race}
use Rattle.tp_workers.specs.Clients.{JobShown}
use Rattle.tp_commands.specs.Together.{RacersRan, client_job, kill_job}

pub races_ran : (m : ManagerShown) (rows submitted : ℕ) (plan : Race) (racers cs ks cs' ks' : List PassShown) (submits : List JobShown) (kills : List KillJob) (kill : KillJob)
    → cs ≡ take plan.clients racers → ks ≡ drop plan.clients racers → length cs' ≡ plan.clients
    → submits ≡ replicate (length cs) (client_job plan) → kills ≡ replicate (length ks) kill → kill ≡ kill_job rows plan cs
    → RacersRan m submits kills cs ks submitted cs' ks'
    → RacersRan m (replicate (length (take plan.clients racers)) (client_job plan)) (replicate (length (drop plan.clients racers)) (kill_job rows plan (take plan.clients racers)))
    (take plan.clients racers) (drop plan.clients racers) submitted (take plan.clients (cs' ++ ks')) (drop plan.clients (cs' ++ ks'))
races_ran m rows submitted plan racers cs ks cs' ks' submits kills kill front back many all_submits all_kills kill_is ran =
    let one : submits ≡ replicate (length (take plan.clients racers)) (client_job plan) = all_submits ∙ ap (λ xs. replicate (length xs) (client_job plan)) front in
    let two : kills ≡ replicate (length (drop plan.clients racers)) (kill_job rows plan (take plan.clients racers)) =
    all_kills ∙ ((λ i. replicate (length (back i)) (kill_is i)) ∙ ap (λ xs. replicate (length (drop plan.clients racers)) (kill_job rows plan xs)) front) in
    let five : cs' ≡ take plan.clients (cs' ++ ks') = sym (ap (λ n. take n (cs' ++ ks')) (sym many) ∙ take-append_seam cs' ks') in
    let six : ks' ≡ drop plan.clients (cs' ++ ks') = sym (ap (λ n. drop n (cs' ++ ks')) (sym many) ∙ drop-append_seam cs' ks') in
    subst (λ (x : List JobShown × List KillJob × List PassShown × List PassShown × List PassShown × List PassShown). RacersRan m x.0 x.1 x.2 x.3 submitted x.4 x.5) (λ i. (one i, two i, front i, back i, five i, six i)) ran

-- free passes have the same units open: none
pub none_open : (m : ManagerShown) (ps qs : List PassShown) → numbers qs ≡ numbers ps → All (IsFreePass m) ps → All (IsFreePass m) qs → map (λ (p : PassShown). p.open_unit) qs ≡ map (λ (p : PassShown). p.open_unit) ps
none_open m [] [] same old new = refl
none_open m [] (q ∷ qs) same old new = absurd cc
none_open m (p ∷ ps) [] same old new = absurd cc
none_open m (p ∷ ps) (q ∷ qs) same old new =
    let one : q.open_unit ≡ p.open_unit = (All-head (IsFreePass m) q qs new).free ∙ sym (All-head (IsFreePass m) p ps old).free in
    ap (λ (u : Option ℕ). u ∷ map (λ (p : PassShown). p.open_unit) qs) one
    ∙ ap (λ (us : List (Option ℕ)). p.open_unit ∷ us) (none_open m ps qs (rest (numbers qs) (numbers ps) same) (All-tail (IsFreePass m) p ps old) (All-tail (IsFreePass m) q qs new))
  where
    rest : (xs ys : List ℕ) → q.number ∷ xs ≡ p.number ∷ ys → xs ≡ ys
    rest xs ys e = cc
