-- Rows that lie in memory.
use Rattle.std.specs.Prelude.{◌≡◌, ℕ, List, Contains, refl}
use Rattle.std.proofs.Common.{◌∙◌}
use Rattle.slicer_ids.specs.declared.ids.ExitId.{ExitId}
use Rattle.slicer_ids.specs.declared.ids.Mode.{Mode}
use Rattle.dep_form.specs.declared.facts.Facts.{Facts}
use Rattle.dep_form.specs.Summaries.{IsRow}
use Rattle.tabulate.specs.declared.table.Table.{Table}
use Rattle.tabulate.specs.declared.own_rows.OwnRows.{OwnRows}

abbrev pub facts_of_rows : OwnRows → Facts
facts_of_rows s = s.facts.now

-- the table is of the mode and has the row
abbrev pub IsRowOf : Table → ExitId → Mode → List ℕ → Type 0
IsRowOf t e mode row = (t.mode ≡ mode) × Contains t.rows (e, row)

-- one of the tables has the row
abbrev pub HasRow : List Table → ExitId → Mode → List ℕ → Type 0
HasRow tables e mode row = (t : Table) × Contains tables t × IsRowOf t e mode row

-- each row of the tables is that of its exit
abbrev pub AreOwnRows : OwnRows → Type 0
AreOwnRows s = (e : ExitId) (mode : Mode) (row : List ℕ) → HasRow s.tables.items e mode row → IsRow (facts_of_rows s) mode e row

-- the rows that there were are there, of the same facts
abbrev pub MoreRows : OwnRows → OwnRows → Type 0
MoreRows x y = (facts_of_rows y ≡ facts_of_rows x) × ((t : Table) → Contains x.tables.items t → Contains y.tables.items t)

abbrev pub HasSurely : OwnRows → ExitId → Mode → Type 0
HasSurely s e mode = (row : List ℕ) × HasRow s.tables.items e mode row

pub more_refl : (x : OwnRows) → MoreRows x x
more_refl x = (refl, λ t c. c)

pub more_trans : (x y z : OwnRows) → MoreRows x y → MoreRows y z → MoreRows x z
more_trans x y z a b = (b.0 ∙ a.0, λ t c. b.1 t (a.1 t c))

pub more_facts : (x y : OwnRows) → MoreRows x y → facts_of_rows y ≡ facts_of_rows x
more_facts x y a = a.0

pub more_surely : (x y : OwnRows) (e : ExitId) (mode : Mode) → MoreRows x y → HasSurely x e mode → HasSurely y e mode
more_surely x y e mode a (row, (t, c, is)) = (row, (t, a.1 t c, is))
