use Rattle.std.proofs.Common.{ap, sym, ◌∙◌, ◌≡◌, rules}
use Rattle.tp_model.specs.declared.types.Element.{Element}
use Rattle.tp_rule.specs.Views.{view_of}
use Rattle.tp_rule.specs.declared.view.Hand.{Hand}
use Rattle.tp_rule.proofs.Bodied.{bodied_seen}
use Rattle.tp_rule.proofs.Working.{drafted_work, work_stays}
use Rattle.tp_library_tests.proofs.tests.rule.draft_reply.Goals as goal

pub returns-clause-work : goal.returns-clause-work
returns-clause-work c = let b = c.store_draft_body.ensures.view in let v = view_of c.args.seat.now in let a = view_of c.store_draft_body.new.seat in
    let kept = work_stays v a c.args.unit (bodied_seen b.stores _ v a b.view) (ap (λ (z : Hand). z.number) b.hand_is) (ap (λ (z : Hand). z.drafts) b.hand_is) c.requires.work.0 in
    let root : 0 ≡ kept.0.item.root = sym (ap (λ (x : Element). x.root) kept.1 ∙ c.requires.work.1) in
    drafted_work a (view_of c.store_draft_head.new.seat) 15 0 c.args.unit b.pass.0 kept.0 c.store_draft_head.ensures.view (search rules) root (search rules)
