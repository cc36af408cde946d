use Rattle.std.specs.Prelude.{map, take, Contains}
use Rattle.worklists.specs.Growth.{Grows, FromOne}
use Rattle.class_form.specs.declared.body.Point.{Point}
use Rattle.program_form.specs.Programs.{Program}
use Rattle.signature_tables.specs.Programs.{IsOfClasses}
use Rattle.signature_tables.specs.Statements.{NamesTexts, statement}
use Rattle.signature_tables.specs.TextPairs.{pair_of}
use Rattle.signature_tables.proofs.naming.push_body.Given as goal

abbrev pub invariant-loop-point : goal.invariant-loop-point
invariant-loop-point l = (p : Program) → IsOfClasses l.h p → Contains p.bodies l.body →
    Grows (map pair_of l.initial.texts.items) (map pair_of l.texts.items) (FromOne (λ (q : Point). NamesTexts l.wanted p (statement l.body q.pc)) (take l.point-index l.point-items))
