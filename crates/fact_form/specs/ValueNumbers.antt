-- What operands and statements may be, by the numbers of sites.
use Rattle.std.specs.Prelude.{◌<◌, ℕ, length}
use Rattle.slicer_ids.specs.declared.ids.SiteId.{SiteId}
use Rattle.slicer_ids.specs.declared.ids.CallId.{CallId}
use Rattle.slicer_ids.specs.declared.ids.Statement.{Statement}
use Rattle.class_form.specs.declared.body.Def.{Def}
use Rattle.dep_form.specs.declared.rules.Var.{Var}
use Rattle.dep_form.specs.declared.call_site.CallSite.{CallSite}
use Rattle.dep_form.specs.declared.system.System.{System}
use Rattle.dep_form.specs.PointsTo.{Has}
use Rattle.dep_form.specs.Constraints.{SystemHolds, ArgumentHas}
use Rattle.program_form.specs.Programs.{Program}
use Rattle.program_form.specs.Statements.{HasOpcode, OperandIs}
use Rattle.program_form.specs.Facts.{ValueOf, variable_of}
use Rattle.program_form.specs.Systems.{VariableNumber, IsCallOf}
use Rattle.program_form.specs.Values.{PassesOn}

-- the operand may be the site: the variable of a definition that holds there may
abbrev pub OperandSite : Program → System → Statement → ℕ → SiteId → Type 0
OperandSite p s t i h = (d : Def) × (x : Var) × OperandIs p t i d × VariableNumber p s (variable_of t.method d) x × SystemHolds s (Has x h)

-- the value of the statement may be the site: what it makes; what it passes on; of a call an argument, or what it throws
pub data ValueSite (p : Program) (s : System) (t : Statement) (h : SiteId) : Type 0 where
  made : {x : Var} → HasOpcode p t (λ op. Unit {0}) → VariableNumber p s (ValueOf t) x → SystemHolds s (Has x h) → ValueSite p s t h
  passed_on : {i : ℕ} → HasOpcode p t (PassesOn i) → OperandSite p s t i h → ValueSite p s t h
  given : {i : ℕ} (c : CallId) {k : CallSite} → IsCallOf s t c k → i < length k.arguments → ArgumentHas s (SystemHolds s) k i h → ValueSite p s t h
  thrown : (c : CallId) {k : CallSite} → IsCallOf s t c k → SystemHolds s (Has k.exception h) → ValueSite p s t h
