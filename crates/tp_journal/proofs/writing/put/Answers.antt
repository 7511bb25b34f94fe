use Rattle.std.proofs.Common.{ℕ, List, ◌++◌, length, sym, ◌∙◌, ap, subst}
use Rattle.tp_journal.specs.Device.{Mixed}
use Rattle.tp_journal.specs.Text.{HasTorn, IsAtRest, text_of}
use Rattle.tp_journal.proofs.Moments.{started, goes_on}
use Rattle.tp_journal.proofs.Texts.{put-done, put-length, put-torn, torn-none}
use Rattle.tp_journal.proofs.writing.put.Goals as goal

pub returns-in_err-write_at-clause-any_moment : goal.returns-in_err-write_at-clause-any_moment
returns-in_err-write_at-clause-any_moment g c =
    let file = g.D.Device.seen c.args.device.now in
    let P = HasTorn (text_of file) c.args.bytes.now in
    let crash : (f : List ℕ) → g.D.Device.may_leave c.write_at.new.self f → P f = λ f now.
    let from = c.write_at.ensures.crash f now in
    put-torn (text_of file) c.args.bytes.now file c.args.end c.requires.rest c.requires.end f (subst (λ (d : List ℕ). Mixed c.args.end c.args.bytes.now d f) (c.requires.durable from.0 from.1) from.2) in
    let at_start = started g.D.Device.moment g.D.Device.left_since c.args.device.now P (λ f left. torn-none (text_of file) c.args.bytes.now f (subst (IsAtRest (text_of file)) (sym (c.requires.durable f (g.met.D.Device.only_now c.args.device.now f left))) c.requires.rest)) in
    goes_on g.D.Device.moment g.D.Device.left_since c.args.device.now c.args.device.now c.write_at.new.self P _ at_start c.write_at.ensures.time crash

pub returns-in_err-sync-clause-any_moment : goal.returns-in_err-sync-clause-any_moment
returns-in_err-sync-clause-any_moment g c =
    let file = g.D.Device.seen c.args.device.now in
    let P = HasTorn (text_of file) c.args.bytes.now in
    let crash : (f : List ℕ) → g.D.Device.may_leave c.write_at.new.self f → P f = λ f now.
    let from = c.write_at.ensures.crash f now in
    put-torn (text_of file) c.args.bytes.now file c.args.end c.requires.rest c.requires.end f (subst (λ (d : List ℕ). Mixed c.args.end c.args.bytes.now d f) (c.requires.durable from.0 from.1) from.2) in
    let at_start = started g.D.Device.moment g.D.Device.left_since c.args.device.now P (λ f left. torn-none (text_of file) c.args.bytes.now f (subst (IsAtRest (text_of file)) (sym (c.requires.durable f (g.met.D.Device.only_now c.args.device.now f left))) c.requires.rest)) in
    let written = goes_on g.D.Device.moment g.D.Device.left_since c.args.device.now c.args.device.now c.write_at.new.self P _ at_start c.write_at.ensures.time crash in
    goes_on g.D.Device.moment g.D.Device.left_since c.args.device.now c.write_at.new.self c.sync.new.self P _ written c.sync.ensures.time (λ f now. crash f (c.sync.ensures.crash f now))

pub returns-clause-any_moment : goal.returns-clause-any_moment
returns-clause-any_moment g c =
    let file = g.D.Device.seen c.args.device.now in
    let P = HasTorn (text_of file) c.args.bytes.now in
    let crash : (f : List ℕ) → g.D.Device.may_leave c.write_at.new.self f → P f = λ f now.
    let from = c.write_at.ensures.crash f now in
    put-torn (text_of file) c.args.bytes.now file c.args.end c.requires.rest c.requires.end f (subst (λ (d : List ℕ). Mixed c.args.end c.args.bytes.now d f) (c.requires.durable from.0 from.1) from.2) in
    let at_start = started g.D.Device.moment g.D.Device.left_since c.args.device.now P (λ f left. torn-none (text_of file) c.args.bytes.now f (subst (IsAtRest (text_of file)) (sym (c.requires.durable f (g.met.D.Device.only_now c.args.device.now f left))) c.requires.rest)) in
    let written = goes_on g.D.Device.moment g.D.Device.left_since c.args.device.now c.args.device.now c.write_at.new.self P _ at_start c.write_at.ensures.time crash in
    goes_on g.D.Device.moment g.D.Device.left_since c.args.device.now c.write_at.new.self c.sync.new.self P _ written c.sync.ensures.time (λ f now. crash f (c.sync.ensures.crash f now))

pub returns-clause-rest : goal.returns-clause-rest
returns-clause-rest g c =
    let file = g.D.Device.seen c.args.device.now in
    subst (IsAtRest (text_of file ++ c.args.bytes.now)) (sym c.sync.ensures.seen)
    (put-done (text_of file) c.args.bytes.now file c.args.end c.requires.rest c.requires.end (g.D.Device.seen c.write_at.new.self) c.requires.text c.in_ok-write_at.ensures.written)

pub returns-clause-same : goal.returns-clause-same
returns-clause-same g c =
    ap length c.sync.ensures.seen ∙ put-length c.args.end c.args.bytes.now (g.D.Device.seen c.args.device.now) (g.D.Device.seen c.write_at.new.self) c.requires.room c.in_ok-write_at.ensures.written
