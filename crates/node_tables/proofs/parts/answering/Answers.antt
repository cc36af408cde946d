use Rattle.std.proofs.Common.{◌≡◌, ℕ, arith, subst}
use Rattle.node_tables.specs.Parts.{AreAnswers}
use Rattle.node_tables.proofs.Flags.{answers_more, no_answers}
use Rattle.node_tables.proofs.parts.answering.Goals as goal

pub loop-m-init : goal.loop-m-init
loop-m-init c = no_answers c.args.h.now c.new-flags.result.items c.new-flags.ensures.items

pub loop-m-preserved : goal.loop-m-preserved
loop-m-preserved c = answers_more c.args.h.now c.loop-m.m c.loop-m.flags.items c.push.new.flags.items c.is_answering.result c.in_ok-push.ensures c.loop-m.invariant c.is_answering.ensures

pub returns : goal.returns
returns c =
    let end : c.loop-m.m ≡ c.args.count = omega (arith, c.loop-m-test.false, c.loop-m.auto.m-end) in
    subst (λ (k : ℕ). AreAnswers c.args.h.now c.loop-m.flags.items k) end c.loop-m.invariant
