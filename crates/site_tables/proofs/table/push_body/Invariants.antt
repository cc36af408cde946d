use Rattle.std.specs.Prelude.{take, Contains}
use Rattle.worklists.specs.Growth.{FromOne}
use Rattle.class_form.specs.declared.body.Point.{Point}
use Rattle.program_form.specs.Programs.{Program}
use Rattle.signature_tables.specs.Programs.{IsOfClasses}
use Rattle.signature_tables.specs.Statements.{statement}
use Rattle.site_tables.specs.Tables.{Adds, IsMadeAt}
use Rattle.site_tables.proofs.table.push_body.Given as goal

abbrev pub invariant-loop-point : goal.invariant-loop-point
invariant-loop-point l = (p : Program) → IsOfClasses l.h p → Contains p.bodies l.body →
    Adds p l.initial.table l.table (FromOne (λ (q : Point). IsMadeAt p (statement l.body q.pc)) (take l.point-index l.point-items))
