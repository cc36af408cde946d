-- The nodes of a program by the numbers of its system: locations by their numbers among those that Mod and Ref trace.
use Rattle.std.specs.Prelude.{◌≡◌, ◌<◌, ℕ, List, Some, Contains, length, slice_get}
use Rattle.slicer_ids.specs.declared.ids.MethodId.{MethodId}
use Rattle.slicer_ids.specs.declared.ids.LocId.{LocId}
use Rattle.slicer_ids.specs.declared.ids.SiteId.{SiteId}
use Rattle.slicer_ids.specs.declared.ids.CallId.{CallId}
use Rattle.slicer_ids.specs.declared.ids.Statement.{Statement}
use Rattle.class_form.specs.declared.types.FieldType.{FieldType}
use Rattle.class_form.specs.declared.types.MethodType.{MethodType}
use Rattle.dep_form.specs.declared.node.Node.{Node as NodeNumber}
use Rattle.dep_form.specs.declared.node.Node.TheVariants.{Formal, HeapIn, Own, Argument, Result, Exception, HeapArg, HeapResult, Return, Thrown, HeapOut}
use Rattle.dep_form.specs.declared.rules.MethodVars.{MethodVars}
use Rattle.dep_form.specs.declared.call_site.CallSite.{CallSite}
use Rattle.dep_form.specs.declared.system.System.{System}
use Rattle.dep_form.specs.declared.effects.ModRef.{ModRef}
use Rattle.dep_form.specs.PointsTo.{Reached, Has, Calls}
use Rattle.dep_form.specs.Constraints.{SystemHolds, IsMethodVars, IsRoot}
use Rattle.program_form.specs.Programs.{Program, TypeOf}
use Rattle.program_form.specs.Statements.{HasOpcode, CallType}
use Rattle.program_form.specs.Nodes.{at}
use Rattle.program_form.specs.Systems.{IsCallOf}
use Rattle.fact_form.specs.EntryCalls.{IsGiven}

-- the location of this number is one that the method, or one that its calls lead to, uses
abbrev pub UsedBy : ModRef → MethodId → LocId → Type 0
UsedBy mr m n = (ls : List LocId) × (slice_get mr.used m.0 ≡ Some ls) × Contains ls n

-- .. defines
abbrev pub ChangedBy : ModRef → MethodId → LocId → Type 0
ChangedBy mr m n = (ls : List LocId) × (slice_get mr.changed m.0 ≡ Some ls) × Contains ls n

-- the call has a result
abbrev pub HasResult : Program → Statement → Type 0
HasResult p t = (m : MethodType) × (u : FieldType) × CallType p t m × (m.result ≡ Some u)

-- the method has a result
abbrev pub IsAnswering : Program → MethodId → Type 0
IsAnswering p m = (t : MethodType) × (u : FieldType) × TypeOf p m t × (t.result ≡ Some u)

-- the nodes of a method, by number. entries are the methods that the root calls
pub data IsNumbered (p : Program) (s : System) (mr : ModRef) (entries : List MethodId) : MethodId → NodeNumber → Type 0 where
  formal : {m : MethodId} {v : MethodVars} {i : ℕ} → SystemHolds s (Reached m) → IsMethodVars s m v → i < length v.formals →
      IsNumbered p s mr entries m (Formal i)
  heap_in : {m : MethodId} {n : LocId} → SystemHolds s (Reached m) → UsedBy mr m n → IsNumbered p s mr entries m (HeapIn n)
  own : {m : MethodId} {pc : ℕ} → SystemHolds s (Reached m) → HasOpcode p (at m pc) (λ op. Unit {0}) → IsNumbered p s mr entries m (Own pc)
  argument : {m : MethodId} {pc i : ℕ} (c : CallId) {k : CallSite} → SystemHolds s (Reached m) → IsCallOf s (at m pc) c k →
      i < length k.arguments → IsNumbered p s mr entries m (Argument pc i)
  result : {m : MethodId} {pc : ℕ} → SystemHolds s (Reached m) → HasResult p (at m pc) → IsNumbered p s mr entries m (Result pc)
  exception : {m : MethodId} {pc : ℕ} (c : CallId) {k : CallSite} {h : SiteId} → SystemHolds s (Reached m) → IsCallOf s (at m pc) c k →
      SystemHolds s (Has k.exception h) → IsNumbered p s mr entries m (Exception pc)
  heap_arg : {m : MethodId} {pc : ℕ} {c : CallId} {k : CallSite} {t : MethodId} {n : LocId} → IsCallOf s (at m pc) c k →
      SystemHolds s (Calls c t) → UsedBy mr t n → IsNumbered p s mr entries m (HeapArg pc n)
  heap_result : {m : MethodId} {pc : ℕ} {c : CallId} {k : CallSite} {t : MethodId} {n : LocId} → IsCallOf s (at m pc) c k →
      SystemHolds s (Calls c t) → ChangedBy mr t n → IsNumbered p s mr entries m (HeapResult pc n)
  returned : {m : MethodId} → SystemHolds s (Reached m) → IsAnswering p m → IsNumbered p s mr entries m Return
  thrown : {m : MethodId} {v : MethodVars} {h : SiteId} → SystemHolds s (Reached m) → IsMethodVars s m v → SystemHolds s (Has v.thrown h) →
      IsNumbered p s mr entries m Thrown
  heap_out : {m : MethodId} {n : LocId} → SystemHolds s (Reached m) → ChangedBy mr m n → IsNumbered p s mr entries m (HeapOut n)
  -- the root's: for each entry call its argument, and the locations that it uses and changes
  root_argument : {r t : MethodId} {k : ℕ} → IsRoot s r → slice_get entries k ≡ Some t → IsGiven s t → IsNumbered p s mr entries r (Argument k 0)
  root_heap_arg : {r t : MethodId} {k : ℕ} {n : LocId} → IsRoot s r → slice_get entries k ≡ Some t → UsedBy mr t n →
      IsNumbered p s mr entries r (HeapArg k n)
  root_heap_result : {r t : MethodId} {k : ℕ} {n : LocId} → IsRoot s r → slice_get entries k ≡ Some t → ChangedBy mr t n →
      IsNumbered p s mr entries r (HeapResult k n)
