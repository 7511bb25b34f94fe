use Rattle.std.proofs.Common.{◌≡◌, arith}
use Rattle.tp_rule.specs.Views.{hand_of}
use Rattle.tp_library_tests.proofs.tests.rule.output_born_at_exchange.Goals as goal

pub draft_reply-requires-clause-work : goal.draft_reply-requires-clause-work
draft_reply-requires-clause-work o c = c.claim.ensures.work c.if-not-claim.false

pub commit_exchange-requires-clause-cleared : goal.commit_exchange-requires-clause-cleared
commit_exchange-requires-clause-cleared o c = λ i low high. let none : (hand_of c.draft_reply.new.seat).passed_to ≡ 0 = c.draft_reply.ensures.passed in absurd (omega arith)
