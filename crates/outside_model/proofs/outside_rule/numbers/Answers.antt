use Rattle.std.proofs.Common.{arith, sym, ◌∙◌}
use Rattle.outside_model.proofs.Numbered.{begun, one_more, none_more, all_taken}
use Rattle.outside_model.proofs.outside_rule.numbers.Goals as goal
use Rattle.outside_model.proofs.outside_rule.numbers.Goals.{then-is_kept+in_ok-push, else-is_kept}

pub returns : goal.returns
returns c = rw c.from_vec.ensures (all_taken c.args.references.now c.args.first c.args.all _ c.loop-i.i (omega arith) c.loop-i.invariant)

pub loop-i-init : goal.loop-i-init
loop-i-init c = begun c.args.references.now c.args.first c.args.all _ c.new-numbers.ensures.items

pub loop-i-preserved : goal.loop-i-preserved
loop-i-preserved c =
    let all = c.args.all in
    let references = c.args.references.now in
    elim c.if-is_kept.branch [
      | then-is_kept+in_ok-push w ↦ rw (w.numbers-is, w.in_ok-push.ensures) (one_more references c.args.first all c.loop-i.numbers.items c.loop-i.i (omega arith) (omega arith) (sym c.is_kept.ensures ∙ w.if-is_kept.true) c.loop-i.invariant)
      | else-is_kept w ↦ rw w.numbers-is (none_more references c.args.first all c.loop-i.numbers.items c.loop-i.i (sym c.is_kept.ensures ∙ w.if-is_kept.false) c.loop-i.invariant)
    ]
