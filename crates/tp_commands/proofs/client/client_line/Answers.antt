use Rattle.std.specs.Prelude.{string_bytes}
use Rattle.tp_commands.proofs.Tellings.{answer_told, found_told, value_told}
use Rattle.tp_commands.proofs.client.client_line.Goals as goal

pub returns-in-Submit-clause-tells : goal.returns-in-Submit-clause-tells
returns-in-Submit-clause-tells c = rw c.in-Submit.is (answer_told c.line.result string_bytes _ _ _ c.submit.result c.submit.ensures.tells c.line.ensures.text)

pub returns-in-Kill-clause-tells : goal.returns-in-Kill-clause-tells
returns-in-Kill-clause-tells c = rw c.in-Kill.is (answer_told c.line-in-Kill.result string_bytes _ _ _ c.kill.result c.kill.ensures.tells c.line-in-Kill.ensures.text)

pub returns-in-Cancel-clause-tells : goal.returns-in-Cancel-clause-tells
returns-in-Cancel-clause-tells c = rw c.in-Cancel.is (answer_told c.line-in-Cancel.result string_bytes _ _ _ c.cancel.result c.cancel.ensures.tells c.line-in-Cancel.ensures.text)

pub returns-in-Requeue-clause-tells : goal.returns-in-Requeue-clause-tells
returns-in-Requeue-clause-tells c = rw c.in-Requeue.is (answer_told c.line-in-Requeue.result string_bytes _ _ _ c.requeue.result c.requeue.ensures.tells c.line-in-Requeue.ensures.text)

pub returns-in-Read-clause-tells : goal.returns-in-Read-clause-tells
returns-in-Read-clause-tells c = rw c.in-Read.is (answer_told c.line-in-Read.result string_bytes _ _ _ c.read.result c.read.ensures.tells c.line-in-Read.ensures.text)

pub returns-in-Reply-clause-tells : goal.returns-in-Reply-clause-tells
returns-in-Reply-clause-tells c = rw c.in-Reply.is (found_told c.replies.result string_bytes _ _ _ _ c.replies.ensures.tells)

pub returns-in-Errors-clause-tells : goal.returns-in-Errors-clause-tells
returns-in-Errors-clause-tells c = rw c.in-Errors.is (found_told c.errors.result string_bytes _ _ _ _ c.errors.ensures.tells)

pub returns-in-Count-clause-tells : goal.returns-in-Count-clause-tells
returns-in-Count-clause-tells c = rw c.in-Count.is (value_told c.line-in-Count.result string_bytes _ _ _ _ c.count.result c.count.ensures.tells c.line-in-Count.ensures.text)

pub returns-in-Release-clause-tells : goal.returns-in-Release-clause-tells
returns-in-Release-clause-tells c = rw c.in-Release.is (answer_told c.line-in-Release.result string_bytes _ _ _ c.release.result c.release.ensures.tells c.line-in-Release.ensures.text)

pub returns-in-Collect-clause-tells : goal.returns-in-Collect-clause-tells
returns-in-Collect-clause-tells c = rw c.in-Collect.is (found_told c.collected.result string_bytes _ _ _ _ c.collected.ensures.tells)

pub returns-in-Family-clause-tells : goal.returns-in-Family-clause-tells
returns-in-Family-clause-tells c = rw c.in-Family.is (found_told c.family.result string_bytes _ _ _ _ c.family.ensures.tells)
