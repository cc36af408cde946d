-- A method that values are read from.
use Rattle.std.specs.Prelude.{◌≡◌, ◌<◌, ◌^◌, ℕ, List, Option, Some, AllPairs, Contains, length, slice_get}
use Rattle.slicer_ids.specs.declared.ids.SiteId.{SiteId}
use Rattle.class_form.specs.Reaches.{IsReachOf}
use Rattle.class_form.specs.declared.body.Def.{Def}
use Rattle.class_form.specs.declared.body.Def.TheVariants.{Formal, Value, Caught}
use Rattle.class_form.specs.declared.body.Point.{Point}
use Rattle.dep_form.specs.Constraints.{IsMethodVars, SystemHolds}
use Rattle.dep_form.specs.PointsTo.{Has}
use Rattle.dep_form.specs.Solutions.{IsSolutionOf}
use Rattle.dep_form.specs.declared.rules.MethodVars.{MethodVars}
use Rattle.dep_form.specs.declared.rules.Var.{Var}
use Rattle.dep_form.specs.declared.system.System.{System}
use Rattle.method_facts.specs.Calls.{ArePlaced}
use Rattle.value_tables.specs.declared.method.Method.{Method}

-- numbers of variables stand in order of their program counters
abbrev pub AreInOrder : List (ℕ × Var) → Type 0
AreInOrder pairs = AllPairs (λ (a b : ℕ × Var). a.0 < b.0) pairs

-- the method's parts are those of a system, and what is found by halving is in order
pub record IsMethod (x : Method) : Type 0 where
  pub solved : IsSolutionOf x.system.now x.solution.now
  pub vars : IsMethodVars x.system.now x.body.now.method x.vars.now
  pub values : AreInOrder x.vars.now.values
  pub caught : AreInOrder x.vars.now.caught
  pub points : AllPairs (λ (q r : Point). q.pc < r.pc) x.body.now.shape.points
  pub reach : IsReachOf x.body.now.shape x.body.now.reach
  pub placed : ArePlaced x.system.now.calls
  pub few : length x.system.now.calls < 2 ^ 32

-- the variable of a definition
abbrev pub IsVarOf : MethodVars → Def → Var → Type 0
IsVarOf v (Formal i) x = slice_get v.formals i ≡ Some x
IsVarOf v (Value pc) x = Contains v.values (pc, x)
IsVarOf v (Caught h) x = Contains v.caught (h, x)

-- what a variable may be, what the one that was found may be
abbrev pub VarHas : System → Var → SiteId → Type 0
VarHas s v h = SystemHolds s (Has v h)

abbrev pub FoundHas : System → Option Var → SiteId → Type 0
FoundHas s o h = (x : Var) × (o ≡ Some x) × VarHas s x h

-- what is found is a variable of the system
abbrev pub IsWithin : System → Option Var → Type 0
IsWithin s o = (x : Var) → o ≡ Some x → x.0 < s.vars
