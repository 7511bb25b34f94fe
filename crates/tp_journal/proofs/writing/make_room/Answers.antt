use Rattle.std.proofs.Common.{ℕ, List, ◌++◌, replicate, sym, ◌∙◌, ap, subst}
use Rattle.tp_journal.specs.Text.{IsAtRest, text_of}
use Rattle.tp_journal.proofs.Moments.{started, goes_on}
use Rattle.tp_journal.proofs.Texts.{grown-rest}
use Rattle.tp_journal.proofs.writing.make_room.Goals as goal

pub returns-in_err-grow-clause-any_moment : goal.returns-in_err-grow-clause-any_moment
returns-in_err-grow-clause-any_moment g c =
    let file = g.D.Device.seen c.args.device.now in
    let P = IsAtRest (text_of file) in
    let crash : (f : List ℕ) → g.D.Device.may_leave c.grow.new.self f → P f = λ f now.
    let from = c.grow.ensures.crash f now in
    grown-rest (text_of file) file f from.2.more c.requires.rest (from.2.is ∙ ap (λ (l : List ℕ). l ++ replicate from.2.more 0) (c.requires.durable from.0 from.1)) in
    let at_start = started g.D.Device.moment g.D.Device.left_since c.args.device.now P (λ f left. subst P (sym (c.requires.durable f (g.met.D.Device.only_now c.args.device.now f left))) c.requires.rest) in
    goes_on g.D.Device.moment g.D.Device.left_since c.args.device.now c.args.device.now c.grow.new.self P _ at_start c.grow.ensures.time crash

pub returns-in_err-sync-clause-any_moment : goal.returns-in_err-sync-clause-any_moment
returns-in_err-sync-clause-any_moment g c =
    let file = g.D.Device.seen c.args.device.now in
    let P = IsAtRest (text_of file) in
    let crash : (f : List ℕ) → g.D.Device.may_leave c.grow.new.self f → P f = λ f now.
    let from = c.grow.ensures.crash f now in
    grown-rest (text_of file) file f from.2.more c.requires.rest (from.2.is ∙ ap (λ (l : List ℕ). l ++ replicate from.2.more 0) (c.requires.durable from.0 from.1)) in
    let at_start = started g.D.Device.moment g.D.Device.left_since c.args.device.now P (λ f left. subst P (sym (c.requires.durable f (g.met.D.Device.only_now c.args.device.now f left))) c.requires.rest) in
    let grown = goes_on g.D.Device.moment g.D.Device.left_since c.args.device.now c.args.device.now c.grow.new.self P _ at_start c.grow.ensures.time crash in
    goes_on g.D.Device.moment g.D.Device.left_since c.args.device.now c.grow.new.self c.sync.new.self P _ grown c.sync.ensures.time (λ f now. crash f (c.sync.ensures.crash f now))

pub returns-clause-any_moment : goal.returns-clause-any_moment
returns-clause-any_moment g c =
    let file = g.D.Device.seen c.args.device.now in
    let P = IsAtRest (text_of file) in
    let crash : (f : List ℕ) → g.D.Device.may_leave c.grow.new.self f → P f = λ f now.
    let from = c.grow.ensures.crash f now in
    grown-rest (text_of file) file f from.2.more c.requires.rest (from.2.is ∙ ap (λ (l : List ℕ). l ++ replicate from.2.more 0) (c.requires.durable from.0 from.1)) in
    let at_start = started g.D.Device.moment g.D.Device.left_since c.args.device.now P (λ f left. subst P (sym (c.requires.durable f (g.met.D.Device.only_now c.args.device.now f left))) c.requires.rest) in
    let grown = goes_on g.D.Device.moment g.D.Device.left_since c.args.device.now c.args.device.now c.grow.new.self P _ at_start c.grow.ensures.time crash in
    goes_on g.D.Device.moment g.D.Device.left_since c.args.device.now c.grow.new.self c.sync.new.self P _ grown c.sync.ensures.time (λ f now. crash f (c.sync.ensures.crash f now))

pub returns-clause-rest : goal.returns-clause-rest
returns-clause-rest g c =
    let file = g.D.Device.seen c.args.device.now in
    grown-rest (text_of file) file (g.D.Device.seen c.sync.new.self) c.args.count c.requires.rest (c.sync.ensures.seen ∙ c.in_ok-grow.ensures.grown)
