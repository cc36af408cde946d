-- The lines of statements, and their order.
use Rattle.std.specs.Prelude.{◌≡◌, ℕ, Option}
use Rattle.std.specs.declared.cmp.Ordering.{Ordering}
use Rattle.std.specs.Ordering.{nat_cmp, ordering_then}
use Rattle.std.specs.Option.{option_cmp}
use Rattle.slicer_ids.specs.declared.ids.Statement.{Statement}
use Rattle.dep_form.specs.declared.facts.Facts.{Facts}
use Rattle.dep_form.specs.LookUps.{HasLine}
use Rattle.report.specs.declared.reply.LinePlace.{LinePlace}

-- by method, then by line, no line first
abbrev pub place_cmp : LinePlace → LinePlace → Ordering
place_cmp a b = ordering_then (nat_cmp a.method.0 b.method.0) (option_cmp nat_cmp a.line b.line)

module _ (f : Facts) where
  -- the line of the statement
  abbrev pub IsLineOf : Statement → LinePlace → Type 0
  IsLineOf s l = (l.method ≡ s.method) × HasLine f s l.line

  -- a line of one of the statements
  abbrev pub IsLineOfSome : (Statement → Type 0) → LinePlace → Type 0
  IsLineOfSome P l = (s : Statement) × P s × (l.method ≡ s.method) × HasLine f s l.line
