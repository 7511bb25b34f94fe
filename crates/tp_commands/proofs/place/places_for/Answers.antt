use Rattle.std.proofs.Common.{[], ◌∷◌, Some, take, arith, ◌<◌, length, sym, ◌∙◌, false}
use Rattle.std.proofs.lemmas.List.{take_more, length-take-le}
use Rattle.tp_commands.proofs.Lefts.{firsts_more}
use Rattle.tp_commands.proofs.Lies.{lie_append, lie_passes, lie_servers}
use Rattle.tp_commands.proofs.Shows.{shown_more}
use Rattle.tp_commands.proofs.place.places_for.Goals as goal

pub push-requires : goal.push-requires
push-requires g c =
    let i = c.loop-i.i in
    let ss = c.args.servers.now in
    let inside : i < length ss = c.loop-i-test.true in
    let many = lie_servers (λ b. (goal.Server-dyn g (b.vtable, b.value)).behaviour b.value) (λ b. (goal.Server-dyn g (b.vtable, b.value)).registers b.value) (λ b. (goal.Server-dyn g (b.vtable, b.value)).pending b.value) (take i c.args.passes.now) (take i ss) c.loop-i.places.items c.loop-i.invariant.lie in
    omega (arith, many, length-take-le i ss, inside, c.requires.few)

pub loop-i-preserved : goal.loop-i-preserved
loop-i-preserved g c =
    let i = c.loop-i.i in
    let ps = c.args.passes.now in
    let ss = c.args.servers.now in
    let inside : i < length ss = c.loop-i-test.true in
    let also : i < length ps = omega (arith, inside, c.requires.paired) in
    let alike = lie_passes (λ b. (goal.Server-dyn g (b.vtable, b.value)).behaviour b.value) (λ b. (goal.Server-dyn g (b.vtable, b.value)).registers b.value) (λ b. (goal.Server-dyn g (b.vtable, b.value)).pending b.value) (take i ps) (take i ss) c.loop-i.places.items c.loop-i.invariant.lie
    ∙ sym (lie_servers (λ b. (goal.Server-dyn g (b.vtable, b.value)).behaviour b.value) (λ b. (goal.Server-dyn g (b.vtable, b.value)).registers b.value) (λ b. (goal.Server-dyn g (b.vtable, b.value)).pending b.value) (take i ps) (take i ss) c.loop-i.places.items c.loop-i.invariant.lie) in
    record {
      lie = rw (take_more ps i c.index-passes-i.result also, take_more ss i c.index-servers-i.result inside, c.push.ensures.items, sym c.index-passes-i.is, sym c.index-servers-i.is)
          (lie_append (λ b. (goal.Server-dyn g (b.vtable, b.value)).behaviour b.value) (λ b. (goal.Server-dyn g (b.vtable, b.value)).registers b.value) (λ b. (goal.Server-dyn g (b.vtable, b.value)).pending b.value) (take i ps) (take i ss) c.loop-i.places.items (_ ∷ []) (_ ∷ []) (_ ∷ []) c.loop-i.invariant.lie (c.nothing.ensures.steady, tt));
      shown = rw (take_more ps i c.index-passes-i.result also, take_more ss i c.index-servers-i.result inside, c.push.ensures.items, sym c.index-passes-i.is, sym c.index-servers-i.is)
          (shown_more (λ b. (goal.Server-dyn g (b.vtable, b.value)).behaviour b.value) (λ b. (goal.Server-dyn g (b.vtable, b.value)).registers b.value) (λ b. (goal.Server-dyn g (b.vtable, b.value)).pending b.value) (take i ps) (take i ss) c.loop-i.places.items c.index-passes-i.result c.index-servers-i.result _ c.loop-i.invariant.lie alike c.loop-i.invariant.shown
          (λ j. record {
            desk = record {
              pass = c.index-passes-i.result;
              behaviour = (goal.Server-dyn g (c.index-servers-i.result.vtable, c.index-servers-i.result.value)).behaviour c.index-servers-i.result.value;
              registers = (goal.Server-dyn g (c.index-servers-i.result.vtable, c.index-servers-i.result.value)).registers c.index-servers-i.result.value;
              pending = (goal.Server-dyn g (c.index-servers-i.result.vtable, c.index-servers-i.result.value)).pending c.index-servers-i.result.value;
              work = c.nothing.ensures.work j;
            };
            began = Some (c.nothing.ensures.first_pass j, let b = c.nothing.ensures.first_server j in (goal.Server-dyn g (b.vtable, b.value)).registers b.value);
            is_dropped = false;
          }));
      began = rw (take_more ps i c.index-passes-i.result also, take_more ss i c.index-servers-i.result inside, c.push.ensures.items, sym c.index-passes-i.is, sym c.index-servers-i.is)
          (firsts_more (take i ps) (take i ss) c.loop-i.places.items c.index-passes-i.result c.index-servers-i.result _ alike c.loop-i.invariant.began (λ j. Some (c.nothing.ensures.first_pass j, c.nothing.ensures.first_server j)));
    }
