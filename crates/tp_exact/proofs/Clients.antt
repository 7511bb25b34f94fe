-- Each command of the client where nobody else acts.
use Rattle.std.proofs.Common.{◌≡◌, ℕ, List, ◌∙◌, ap}
use Rattle.tp_model.specs.Steps.{rows_of}
use Rattle.tp_plain.specs.OneThread.{State}
use Rattle.tp_report.specs.Answer.{collected_text, counts_text, errors_text, family_text, line, replies_text}
use Rattle.tp_script.specs.declared.script.ClientAct.TheVariants as acts
use Rattle.tp_rollover.specs.Thread.{thread_of}
use Rattle.tp_rollover.proofs.AloneSubmits.{both}
use Rattle.tp_reference.specs.PlainClient.{counts_of, member_in, parked_in, picked_of, replies_of, with_collected}
use Rattle.tp_exact.specs.Client.{ExactClient}
use Rattle.tp_exact.proofs.Calls.{cancels, kills, reads, releases, requeues, submits}
use Rattle.tp_exact.proofs.Errors.{all_errors}
use Rattle.tp_exact.proofs.Replies.{all_replies}
use Rattle.tp_exact.proofs.Families.{all_members}
use Rattle.tp_exact.proofs.Counted.{counts_are}
use Rattle.tp_exact.proofs.Collects.{all_collected}

-- the line of what was found, and the state behind it
listed : {A : Type 0} (told : A → List ℕ) (text : List ℕ) (found xs : A) (m n : State) → text ≡ line (told found) → found ≡ xs → m ≡ n → let p : List ℕ × State = (text, m) in let q : List ℕ × State = (line (told xs), n) in p ≡ q
listed told text found xs m n is same still = both text (line (told xs)) m n (is ∙ ap (λ z. line (told z)) same) still

pub exact_client : ExactClient
exact_client (acts.Submit stage body) l keeper keeper' olds news h h' old new text a t = submits l keeper keeper' olds news h h' old new text a stage body t
exact_client (acts.Kill id) l keeper keeper' olds news h h' old new text a t = kills l keeper keeper' olds news h h' old new text a id t
exact_client (acts.Cancel root) l keeper keeper' olds news h h' old new text a t = cancels l keeper keeper' olds news h h' old new text a root t
exact_client (acts.Requeue id) l keeper keeper' olds news h h' old new text a t = requeues l keeper keeper' olds news h h' old new text a id t
exact_client (acts.Release id) l keeper keeper' olds news h h' old new text a t = releases l keeper keeper' olds news h h' old new text a id t
exact_client (acts.Read id) l keeper keeper' olds news h h' old new text a t = reads l keeper keeper' olds news h h' old new text a id t
exact_client (acts.Reply root) l keeper keeper' olds news h h' old new text a t =
    let s : State = thread_of l olds h in
    let r = all_replies l keeper' news h' root new t.found keeper olds h old a t.tells in
    listed (replies_text root) text t.found (replies_of root s) (thread_of l news h') s t.text_is r.0 r.1
exact_client (acts.Collect root) l keeper keeper' olds news h h' old new text a t =
    let s : State = thread_of l olds h in
    let r = all_collected l keeper' news h' root new t.found keeper olds h old a t.tells in
    listed (collected_text root) text t.found (replies_of root s) (thread_of l news h') (with_collected s (replies_of root s)) t.text_is r.0 r.1
exact_client (acts.Family root) l keeper keeper' olds news h h' old new text a t =
    let s : State = thread_of l olds h in
    let r = all_members l keeper' news h' root new t.found keeper olds h old a t.tells in
    listed (family_text root) text t.found (picked_of (member_in root) s) (thread_of l news h') s t.text_is r.0 r.1
exact_client acts.Errors l keeper keeper' olds news h h' old new text a t =
    let s : State = thread_of l olds h in
    let r = all_errors l keeper keeper' news h' new t.found keeper olds h old a t.tells in
    listed errors_text text t.found (picked_of parked_in s) (thread_of l news h') s t.text_is r.0 r.1
exact_client acts.Count l keeper keeper' olds news h h' old new text a t =
    let s : State = thread_of l olds h in
    let r = counts_are l keeper olds h old (rows_of l) keeper' news h' t.found new a t.tells in
    listed counts_text text t.found (counts_of s) (thread_of l news h') s t.text_is r.0 r.1
