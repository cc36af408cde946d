-- The names of the commands.
use Rattle.std.specs.Prelude.{ℕ, List, codes}
use Rattle.script.specs.declared.keyword.Keyword.{Keyword}
use Rattle.script.specs.declared.keyword.Keyword.TheVariants.{Seed, SeedLine, Reset, Slice, Full, Lines, Expand, ExpandAll, Explain}

abbrev pub name_of : Keyword → List ℕ
name_of Seed = codes "seed"
name_of SeedLine = codes "seedline"
name_of Reset = codes "reset"
name_of Slice = codes "slice"
name_of Full = codes "full"
name_of Lines = codes "lines"
name_of Expand = codes "expand"
name_of ExpandAll = codes "expand-all"
name_of Explain = codes "explain"
