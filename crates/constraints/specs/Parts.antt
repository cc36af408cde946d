-- The parts of a system that are made from its tables.
use Rattle.std.specs.Prelude.{◌≡◌, ◌≤◌, ℕ, List, All, map, length}
use Rattle.slicer_ids.specs.Sets.{IsOrderedListOf}
use Rattle.dep_form.specs.Within.{IsWithinSystem}
use Rattle.dep_form.specs.declared.rules.SiteInfo.{SiteInfo}
use Rattle.dep_form.specs.declared.system.System.{System}
use Rattle.program_form.specs.Programs.{Program}
use Rattle.constraint_form.specs.Variables.{Meaning}
use Rattle.constraint_form.specs.Touched.{IsTouch}
use Rattle.constraint_rules.specs.Statements.{IsRuleOf}
use Rattle.signature_tables.specs.declared.type_tables.TypeTables.{TypeTables}
use Rattle.variable_tables.specs.Tables.{thrown_by_call, thrown_by_entry}
use Rattle.variable_tables.specs.declared.tables.VariableTables.{VariableTables}
use Rattle.constraints.specs.Bodies.{MethodRises}
use Rattle.constraints.specs.Calls.{IsKnownCall, AreRulesOf}
use Rattle.constraints.specs.Touches.{TouchRises}
use Rattle.constraints.specs.declared.parts.Parts.{Parts}

-- the parts are those of the program, by the numbers of a system with the tables of variables
pub record ArePartsOf (p : Program) (s : System) (names : List Meaning) (t : VariableTables) (parts : Parts) : Type 0 where
  pub constraints : IsOrderedListOf MethodRises parts.constraints.items (λ c. IsRuleOf p s names c.method c.rule)
  pub thrown : map thrown_by_call parts.calls.items ≡ map thrown_by_entry t.exceptions
  pub calls : All (IsKnownCall p s names) parts.calls.items
  pub rules : AreRulesOf parts.calls.items parts.rules.items
  pub touches : IsOrderedListOf TouchRises parts.touches.items (λ touch. IsTouch p s names touch.place touch.write touch.spot)

-- each number in the parts is that of something
pub record IsWithinParts (parts : Parts) (variables : VariableTables) (sites : List SiteInfo) (types : TypeTables) (fields : ℕ) : Type 0 where
  pub three : 3 ≤ fields
  pub rules : length parts.rules.items ≡ length parts.calls.items
  pub within : IsWithinSystem parts.constraints.items parts.calls.items variables.methods sites parts.touches.items parts.rules.items types.selects fields variables.vars

-- the system has these parts
pub record IsMadeOf (parts : Parts) (variables : VariableTables) (sites : List SiteInfo) (types : TypeTables) (fields : ℕ) (s : System) : Type 0 where
  pub constraints : s.constraints ≡ parts.constraints.items
  pub calls : s.calls ≡ parts.calls.items
  pub methods : s.methods ≡ variables.methods
  pub sites_are : s.sites ≡ sites
  pub subclasses : s.subclasses ≡ types.subclasses
  pub selects : s.selects ≡ types.selects
  pub touches : s.touches ≡ parts.touches.items
  pub rules : s.outside_rules ≡ parts.rules.items
  pub fields_are : s.fields ≡ fields
  pub vars : s.vars ≡ variables.vars
