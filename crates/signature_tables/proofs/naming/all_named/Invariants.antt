use Rattle.std.proofs.Common.{◌≡◌, []}
use Rattle.std.specs.Prelude.{map, take}
use Rattle.worklists.specs.Growth.{Grows, FromOne}
use Rattle.program_form.specs.Programs.{Program}
use Rattle.signature_tables.specs.Programs.{IsOfClasses}
use Rattle.signature_tables.specs.Statements.{BodyNames}
use Rattle.signature_tables.specs.TextPairs.{pair_of}
use Rattle.signature_tables.proofs.naming.all_named.Given as goal

abbrev pub invariant-loop-body : goal.invariant-loop-body
invariant-loop-body l = (p : Program) → IsOfClasses l.h p → p.bodies ≡ l.bodies →
    Grows [] (map pair_of l.texts.items) (FromOne (BodyNames l.wanted p) (take l.body-index l.bodies))
