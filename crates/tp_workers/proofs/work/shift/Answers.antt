use Rattle.std.proofs.Common.{rules, ◌<◌, ◌^◌, ◌∙◌, refl, sym, arith}
use Rattle.tp_workers.specs.Asking.{AsksTurns}
use Rattle.tp_workers.specs.Clients.{ClientRan, IsClientOf}
use Rattle.tp_workers.specs.Desks.{DeskRan, IsDeskOf}
use Rattle.tp_workers.specs.Gains.{commits_in, enqueues_in, kills_in}
use Rattle.tp_workers.specs.Killers.{IsKillerOf, KillerRan}
use Rattle.tp_workers.specs.Sums.{calls_of, size_of_range}
use Rattle.tp_workers.proofs.Ran.{may_run, ran_as}
use Rattle.tp_workers.proofs.Shifts.{all_desk_counts, calls_sum, clients_part, clients_fit, const_fits, desks_part, desks_ready, desks_told, each_as, each_counted, each_gains, each_paired, ids_sum, killers_part, killers_ready, passes_free, same_numbers, same_second, servers_clear, sum_second, turns_all}
use Rattle.tp_workers.proofs.Told.{told_weaker}
use Rattle.tp_workers.proofs.work.shift.Goals as goal

pub fork_three-requires-clause-xs_may : goal.fork_three-requires-clause-xs_may
fork_three-requires-clause-xs_may g c κs within =
    may_run _ _ (IsDeskOf _ _ _ c.args.means.now.manager.now) (λ d. c.args.means.now.plan.turns) (λ p q n ready. (ready, search rules)) (λ p p' q q' n s post. post.2) _ _ c.requires.servers_paired (desks_ready c.args.means.now.manager.now _ _ _ _ _ c.requires.servers_paired c.requires.desks_free c.requires.servers_clear) (let e = const_fits c.args.means.now.plan.turns _ _ c.requires.servers_paired in omega (arith, e, c.requires.turns_fit))

pub fork_three-requires-clause-ys_may : goal.fork_three-requires-clause-ys_may
fork_three-requires-clause-ys_may g c κs within =
    may_run _ _ (λ x. IsClientOf c.args.means.now.manager.now x × (calls_of x.1 < 2 ^ 32)) (λ x. calls_of x.1) (λ p q n ready. (ready, search rules)) (λ p p' q q' n s post. post.1) _ _ c.requires.clients_paired (clients_fit c.args.means.now.manager.now _ _ c.requires.clients_paired c.requires.clients_free c.requires.client_jobs c.requires.counts_fit) (let e = sum_second calls_of _ _ c.requires.clients_paired in omega (arith, e, c.requires.counts_fit))

pub fork_three-requires-clause-zs_may : goal.fork_three-requires-clause-zs_may
fork_three-requires-clause-zs_may g c κs within =
    may_run _ _ (IsKillerOf c.args.means.now.manager.now) (λ x. size_of_range x.1) (λ p q n ready. (ready, search rules)) (λ p p' q q' n s post. post.1) _ _ c.requires.killers_paired (killers_ready c.args.means.now.manager.now _ _ c.requires.killers_paired c.requires.killers_free c.requires.kill_jobs) (let e = sum_second size_of_range _ _ c.requires.killers_paired in omega (arith, e, c.requires.ranges_fit))

pub returns-clause-desks : goal.returns-clause-desks
returns-clause-desks g c =
    each_counted _ _ _ _ _ _ _ c.of_kinds.ensures.desks (desks_part _ _ _ c.args.means.now.manager.now c.args.means.now.plan _ _ _ _ _ (each_as (ran_as _ _ (DeskRan _ _ _ c.args.means.now.manager.now c.args.means.now.plan) (λ p p' q q' n s post. post.0)) _ _ _ _ _ c.fork_three.ensures.xs_ran))

pub returns-clause-each_desk : goal.returns-clause-each_desk
returns-clause-each_desk g c =
    let known = ran_as _ _ (DeskRan _ _ _ c.args.means.now.manager.now c.args.means.now.plan) (λ p p' q q' n s post. post.0) in
    desks_told _ _ _ c.args.means.now.manager.now c.args.means.now.plan _ _ _ _ _ _ _ _ c.of_kinds.ensures.desks
    (each_as known _ _ _ _ _ c.fork_three.ensures.xs_ran)
    (told_weaker _ _ known _ _ _ _ _ _ _ c.fork_three.ensures.xs_told)

pub returns-clause-asked : goal.returns-clause-asked
returns-clause-asked g c =
    let ran = each_as (ran_as _ _ (DeskRan _ _ _ c.args.means.now.manager.now c.args.means.now.plan) (λ p p' q q' n s post. post.0)) _ _ _ _ _ c.fork_three.ensures.xs_ran in
    let counted = c.of_kinds.ensures.desks ∙ sym (all_desk_counts _ _ _ c.args.means.now.manager.now c.args.means.now.plan _ _ _ _ _ ran) in
    each_counted _ _ _ _ _ _ _ counted (each_as (ran_as _ _ (AsksTurns _ _ _ _ c.args.means.now.manager.now c.args.means.now.plan.order) (λ p p' q q' n s post. post.1)) _ _ _ _ _ c.fork_three.ensures.xs_ran)

pub returns-clause-clients : goal.returns-clause-clients
returns-clause-clients g c =
    each_counted _ _ _ _ _ _ _ c.of_kinds.ensures.clients (clients_part c.args.means.now.manager.now _ _ _ _ _ (each_as (ran_as _ _ (ClientRan c.args.means.now.manager.now) (λ p p' q q' n s post. post.0)) _ _ _ _ _ c.fork_three.ensures.ys_ran))

pub returns-clause-killers : goal.returns-clause-killers
returns-clause-killers g c =
    each_counted _ _ _ _ _ _ _ c.of_kinds.ensures.killers (killers_part c.args.means.now.manager.now _ _ _ _ _ (each_as (ran_as _ _ (KillerRan c.args.means.now.manager.now) (λ p p' q q' n s post. post.0)) _ _ _ _ _ c.fork_three.ensures.zs_ran))

pub returns-clause-desks_free : goal.returns-clause-desks_free
returns-clause-desks_free g c = passes_free c.args.means.now.manager.now _ (λ x t y r. r.ready.pass) _ _ _ _ _ c.requires.servers_paired (returns-clause-desks g c)

pub returns-clause-clients_free : goal.returns-clause-clients_free
returns-clause-clients_free g c = passes_free c.args.means.now.manager.now _ (λ x t y r. r.ready.pass) _ _ _ _ _ c.requires.clients_paired (returns-clause-clients g c)

pub returns-clause-killers_free : goal.returns-clause-killers_free
returns-clause-killers_free g c = passes_free c.args.means.now.manager.now _ (λ x t y r. r.ready.pass) _ _ _ _ _ c.requires.killers_paired (returns-clause-killers g c)

pub returns-clause-servers_clear : goal.returns-clause-servers_clear
returns-clause-servers_clear g c = servers_clear c.args.means.now.manager.now _ _ _ _ (λ x t y r. r.ready) _ _ _ _ _ c.requires.servers_paired (returns-clause-desks g c)

pub returns-clause-desks_numbered : goal.returns-clause-desks_numbered
returns-clause-desks_numbered g c = same_numbers c.args.means.now.manager.now _ (λ x t y r. r.leaves.serves.number) _ _ _ _ _ c.requires.servers_paired (returns-clause-desks g c)

pub returns-clause-clients_numbered : goal.returns-clause-clients_numbered
returns-clause-clients_numbered g c = same_numbers c.args.means.now.manager.now _ (λ x t y r. r.number) _ _ _ _ _ c.requires.clients_paired (returns-clause-clients g c)

pub returns-clause-killers_numbered : goal.returns-clause-killers_numbered
returns-clause-killers_numbered g c = same_numbers c.args.means.now.manager.now _ (λ x t y r. r.number) _ _ _ _ _ c.requires.killers_paired (returns-clause-killers g c)

pub returns-clause-clients_same : goal.returns-clause-clients_same
returns-clause-clients_same g c = same_second (ClientRan c.args.means.now.manager.now) (λ x s y r. r.same_job) _ _ _ _ _ c.requires.clients_paired (each_paired _ _ _ _ _ _ c.requires.clients_paired (returns-clause-clients g c)) (returns-clause-clients g c).ran

pub returns-clause-killers_same : goal.returns-clause-killers_same
returns-clause-killers_same g c = same_second (KillerRan c.args.means.now.manager.now) (λ x s y r. r.same_job) _ _ _ _ _ c.requires.killers_paired (each_paired _ _ _ _ _ _ c.requires.killers_paired (returns-clause-killers g c)) (returns-clause-killers g c).ran

pub returns-clause-desks_kept : goal.returns-clause-desks_kept
returns-clause-desks_kept g c = ((returns-clause-desks g c).on_kept, (returns-clause-desks g c).by_kept)

pub returns-clause-clients_kept : goal.returns-clause-clients_kept
returns-clause-clients_kept g c = (returns-clause-clients g c).on_kept

pub returns-clause-killers_kept : goal.returns-clause-killers_kept
returns-clause-killers_kept g c = (returns-clause-killers g c).on_kept

pub returns-clause-done : goal.returns-clause-done
returns-clause-done g c = each_gains _ _ _ _ _ _ (λ s. s.done) commits_in refl (λ a b. refl) (λ x t y r. r.done) c.requires.servers_paired (returns-clause-desks g c)

pub returns-clause-submitted : goal.returns-clause-submitted
returns-clause-submitted g c = each_gains _ _ _ _ _ _ (λ s. s.submitted) enqueues_in refl (λ a b. refl) (λ x t y r. r.submitted) c.requires.clients_paired (returns-clause-clients g c)

pub returns-clause-killed : goal.returns-clause-killed
returns-clause-killed g c = each_gains _ _ _ _ _ _ (λ s. s.killed) kills_in refl (λ a b. refl) (λ x t y r. r.killed) c.requires.killers_paired (returns-clause-killers g c)

pub returns-clause-all_turns : goal.returns-clause-all_turns
returns-clause-all_turns g c = turns_all _ _ _ c.args.means.now.manager.now c.args.means.now.plan _ _ _ _ _ c.requires.servers_paired (returns-clause-desks g c)

pub returns-clause-all_calls : goal.returns-clause-all_calls
returns-clause-all_calls g c = calls_sum c.args.means.now.manager.now _ _ _ _ _ c.requires.clients_paired (returns-clause-clients g c)

pub returns-clause-all_ids : goal.returns-clause-all_ids
returns-clause-all_ids g c = ids_sum c.args.means.now.manager.now _ _ _ _ _ c.requires.killers_paired (returns-clause-killers g c)
