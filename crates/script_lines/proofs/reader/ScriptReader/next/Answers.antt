use Rattle.std.proofs.Common.{◌∙◌, arith}
use Rattle.script_lines.proofs.reader.ScriptReader.next.Goals as goal

pub returns-in-Some-clause-comes : goal.returns-in-Some-clause-comes
returns-in-Some-clause-comes g c = λ script lines b. let w = c.loop-next.invariant.within script lines b in c.in-Some.ensures.within script lines w.0 w.1

pub loop-next-preserved : goal.loop-next-preserved
loop-next-preserved g c =
    let v = c.loop-next.invariant in
    record {
      within = λ script lines b. let w = v.within script lines b in c.in_default.ensures.within script lines w.0 w.1;
      bytes = omega (arith, v.bytes, c.turn.ensures.bytes);
      count = omega (arith, v.count, c.turn.ensures.count);
      as_steady = c.turn.ensures.steady ∙ v.as_steady;
      still = λ s. c.turn.ensures.still (v.as_steady ∙ s) ∙ v.still s;
    }
