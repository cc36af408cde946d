use Rattle.std.proofs.Common.{List, ℕ, Option, take, drop, length, ◌++◌, ap, subst, ◌∙◌, arith}
use Rattle.std.specs.Prelude.{IfSome}
use Rattle.std.specs.Option.{option_map}
use Rattle.edge_io.specs.Reads.{Reads}
use Rattle.script_lines.proofs.Taking.{filled, front_kept, at_end}
use Rattle.script_lines.proofs.reader.ScriptReader.fill.Goals as goal

pub returns-clause-within : goal.returns-clause-within
returns-clause-within g c = λ script lines rest w.
    let n = c.in_ok-count.count in
    let reads : Reads n c.read.new.into w.0 = subst (λ (o : Option (List ℕ)). IfSome o (Reads n c.read.new.into)) w.1 c.in_ok-count.ensures.content in
    let t = w.3 in
    let r = c.args.self.now in (
      drop n w.0,
      c.in_ok-count.ensures.left ∙ ap (option_map (drop n)) w.1,
      w.2,
      record {
        spells = filled script lines rest c.args.self.now w.0 (take r.chunk.len (c.read.new.into ++ drop (length c.read.new.into) r.chunk.items)) n t c.requires
            (front_kept r.chunk.items c.read.new.into w.0 r.chunk.len n (omega (arith, c.in_ok-count.ensures.within, c.as_mut_slice.ensures.len)) reads);
        each = t.each;
        last = t.last;
        counted = t.counted;
        sized = t.sized;
        full = t.full;
      },
    )

pub returns-clause-end : goal.returns-clause-end
returns-clause-end g c = λ z l is. at_end _ _ c.in_ok-count.count c.read.new.into c.in_ok-count.ensures.left c.in_ok-count.ensures.content z l is
