use Rattle.std.specs.Prelude.{◌≡◌, take}
use Rattle.worklists.specs.Growth.{FromOne}
use Rattle.program_form.specs.Programs.{Program}
use Rattle.signature_tables.specs.Programs.{IsOfClasses}
use Rattle.site_tables.specs.Tables.{Adds, IsMadeIn}
use Rattle.site_tables.proofs.table.push_bodies.Given as goal

abbrev pub invariant-loop-body : goal.invariant-loop-body
invariant-loop-body l = (p : Program) → IsOfClasses l.h p → p.bodies ≡ l.bodies → Adds p l.initial.table l.table (FromOne (IsMadeIn p) (take l.body-index l.bodies))
