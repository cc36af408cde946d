use Rattle.std.proofs.Common.{subst, sym}
use Rattle.script.proofs.Standing.{IsReadAs, read_more, read_all}
use Rattle.script.proofs.escapes.unescaped.Goals as goal

pub loop-b-preserved : goal.loop-b-preserved
loop-b-preserved c =
    subst (λ xs. IsReadAs c.args.word.now xs c.in-Some.more.now) (sym c.in_ok-push.ensures)
    (read_more c.args.word.now _ _ _ _ c.loop-b.invariant c.in-Some.ensures)

pub returns : goal.returns
returns c = read_all c.args.word.now _ (subst (IsReadAs c.args.word.now c.loop-b.bytes.items) c.in_default.ensures c.loop-b.invariant)
