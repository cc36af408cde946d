-- Tables as the parts of facts.
use Rattle.fact_form.specs.FactTables.{Parts}
use Rattle.program_facts.specs.declared.tables.Tables.{Tables}

abbrev pub listed_parts : Tables → Parts
listed_parts t = record { inputs = t.inputs; exits = t.exits; classes = t.classes; methods = t.methods; sites = t.sites; lines = t.lines; accesses = t.accesses; values = t.values }
