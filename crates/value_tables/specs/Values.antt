-- What operands and statements may be, by what a method has.
use Rattle.std.specs.Prelude.{◌≡◌, ◌⊎◌, ◌<◌, ℕ, List, Some, Contains, slice_get}
use Rattle.slicer_ids.specs.declared.ids.CallId.{CallId}
use Rattle.slicer_ids.specs.declared.ids.SiteId.{SiteId}
use Rattle.slicer_ids.specs.declared.ids.Statement.{Statement}
use Rattle.class_form.specs.Reaching.{HoldsAt}
use Rattle.class_form.specs.declared.body.Def.{Def}
use Rattle.class_form.specs.declared.body.Point.{Point}
use Rattle.class_form.specs.declared.body.SlotUse.{SlotUse}
use Rattle.dep_form.specs.declared.call_site.CallSite.{CallSite}
use Rattle.dep_form.specs.declared.rules.Var.{Var}
use Rattle.dep_form.specs.declared.system.System.{System}
use Rattle.method_facts.specs.Calls.{IsCallAt}
use Rattle.program_form.specs.Values.{PassesOn}
use Rattle.worklists.specs.Growth.{FromOne}
use Rattle.value_tables.specs.Methods.{IsVarOf, VarHas}
use Rattle.value_tables.specs.declared.method.Method.{Method}

-- what the variable of a definition may be
abbrev pub DefHas : Method → Def → SiteId → Type 0
DefHas x d h = (v : Var) × IsVarOf x.vars.now d v × VarHas x.system.now v h

-- what a slot may be before an instruction, what an operand may be that uses it
abbrev pub SlotHas : Method → ℕ → ℕ → SiteId → Type 0
SlotHas x pc slot h = (d : Def) × HoldsAt x.body.now.shape pc slot d × DefHas x d h

abbrev pub UseHas : Method → ℕ → ℕ → SlotUse → SiteId → Type 0
UseHas x pc i u h = (u.operand ≡ i) × SlotHas x pc u.slot h

abbrev pub OperandHas : Method → Point → ℕ → SiteId → Type 0
OperandHas x q i = FromOne (UseHas x q.pc i) q.uses

-- what a statement passes on
abbrev pub PassedHas : Method → Point → SiteId → Type 0
PassedHas x q h = (i : ℕ) × PassesOn i q.op × OperandHas x q i h

-- what the variable of a statement's value may be
abbrev pub MadeHas : Method → ℕ → SiteId → Type 0
MadeHas x pc h = (v : Var) × Contains x.vars.now.values (pc, v) × VarHas x.system.now v h

-- what the arguments and the exception of a call may be
abbrev pub CallHas : System → CallSite → SiteId → Type 0
CallHas s k h = FromOne (VarHas s) k.arguments h ⊎ VarHas s k.exception h

abbrev pub CalledHas : System → Statement → SiteId → Type 0
CalledHas s t h = (c : CallId) × (k : CallSite) × IsCallAt s.calls t c × (slice_get s.calls c.0 ≡ Some k) × CallHas s k h

-- what the value of the statement at a point may be
abbrev pub PointHas : Method → Point → SiteId → Type 0
PointHas x q h = MadeHas x q.pc h ⊎ (PassedHas x q h ⊎ CalledHas x.system.now (record { method = x.body.now.method; pc = q.pc }) h)
