-- The edges of a program by number, but for those that locations flow along within a method.
use Rattle.std.specs.Prelude.{◌≡◌, ◌+◌, ℕ, true, false, List, Some, Contains, length, slice_get, Option}
use Rattle.slicer_ids.specs.declared.ids.MethodId.{MethodId}
use Rattle.slicer_ids.specs.declared.ids.LocId.{LocId}
use Rattle.slicer_ids.specs.declared.ids.SiteId.{SiteId}
use Rattle.slicer_ids.specs.declared.ids.CallId.{CallId}
use Rattle.class_form.specs.Opcodes.{IsCall, IsThrow, IsValueReturn}
use Rattle.class_form.specs.declared.class_file.Handler.{Handler}
use Rattle.class_form.specs.declared.body.SlotUse.{SlotUse}
use Rattle.class_form.specs.declared.body.Def.{Def}
use Rattle.class_form.specs.declared.body.Def.TheVariants.{Formal as Argument', Value, Caught}
use Rattle.dep_form.specs.declared.node.Node.{Node as NodeNumber}
use Rattle.dep_form.specs.declared.node.Node.TheVariants.{Formal, HeapIn, Own, Argument, Result, Exception, HeapArg, HeapResult, Return, Thrown, HeapOut}
use Rattle.dep_form.specs.declared.node.Label.{Label}
use Rattle.dep_form.specs.declared.node.Label.TheVariants.{Thin, Base, Call, Return as BackFrom}
use Rattle.dep_form.specs.declared.rules.OutsideRule.{OutsideRule}
use Rattle.dep_form.specs.declared.call_site.CallSite.{CallSite}
use Rattle.dep_form.specs.declared.system.System.{System}
use Rattle.dep_form.specs.PointsTo.{Calls, OutsideAt}
use Rattle.dep_form.specs.Constraints.{SystemHolds, IsRoot}
use Rattle.program_form.specs.Programs.{Program}
use Rattle.program_form.specs.Statements.{HasOpcode, IsCovered, MayLeave}
use Rattle.program_form.specs.Nodes.{at}
use Rattle.program_form.specs.Dependences.{Takes}
use Rattle.program_form.specs.Systems.{IsCallOf}

-- what stands for the value of a definition
pub data IsDefinitionNumber (p : Program) (m : MethodId) : Def → NodeNumber → Type 0 where
  of_formal : {i : ℕ} → IsDefinitionNumber p m (Argument' i) (Formal i)
  of_value : {pc : ℕ} → HasOpcode p (at m pc) (λ op. IsCall op → ⊥) → IsDefinitionNumber p m (Value pc) (Own pc)
  of_call : {pc : ℕ} → HasOpcode p (at m pc) IsCall → IsDefinitionNumber p m (Value pc) (Result pc)
  of_throw : {h pc : ℕ} {e : Handler} → HasOpcode p (at m pc) IsThrow → IsCovered p (at m pc) e → e.handler ≡ h →
      IsDefinitionNumber p m (Caught h) (Own pc)
  of_exception : {h pc : ℕ} {e : Handler} → HasOpcode p (at m pc) IsCall → IsCovered p (at m pc) e → e.handler ≡ h →
      IsDefinitionNumber p m (Caught h) (Exception pc)

-- what takes an operand: the statement's own node, or the argument of a call
pub data IsTakerNumber (p : Program) (m : MethodId) (pc operand : ℕ) : NodeNumber → Type 0 where
  at_own : HasOpcode p (at m pc) (λ op. IsCall op → ⊥) → IsTakerNumber p m pc operand (Own pc)
  at_argument : HasOpcode p (at m pc) IsCall → IsTakerNumber p m pc operand (Argument pc operand)

-- the number of a call, the method and pc of its nodes, and the method called: a call of a statement has its number in the system,
-- those of the root come after these
pub data IsCallNumber (s : System) (entries : List MethodId) : CallId → MethodId → ℕ → MethodId → Type 0 where
  statement : {m : MethodId} {pc : ℕ} {c : CallId} {k : CallSite} {t : MethodId} → IsCallOf s (at m pc) c k → SystemHolds s (Calls c t) →
      IsCallNumber s entries c m pc t
  entry_call : {r : MethodId} {n : ℕ} {c : CallId} {t : MethodId} → IsRoot s r → slice_get entries n ≡ Some t → c.0 ≡ length s.calls + n →
      IsCallNumber s entries c r n t

-- an edge from a node of one method to one of another, or of the same
pub data IsDirect (p : Program) (s : System) (entries : List MethodId) : MethodId → NodeNumber → MethodId → NodeNumber → Label → Type 0 where
  -- from a definition to what takes it: a value that flows, or what an object or array is reached through
  producer : {m : MethodId} {pc : ℕ} {u : SlotUse} {d : Def} {k j : NodeNumber} → Takes p (at m pc) u d → IsDefinitionNumber p m d k →
      IsTakerNumber p m pc u.operand j → u.base ≡ false → IsDirect p s entries m k m j Thin
  base : {m : MethodId} {pc : ℕ} {u : SlotUse} {d : Def} {k j : NodeNumber} → Takes p (at m pc) u d → IsDefinitionNumber p m d k →
      IsTakerNumber p m pc u.operand j → u.base ≡ true → IsDirect p s entries m k m j Base
  -- what is returned, and what is thrown where no handler catches all
  returns : {m : MethodId} {pc : ℕ} → HasOpcode p (at m pc) IsValueReturn → IsDirect p s entries m (Own pc) m Return Thin
  throws : {m : MethodId} {pc : ℕ} → HasOpcode p (at m pc) IsThrow → MayLeave p (at m pc) → IsDirect p s entries m (Own pc) m Thrown Thin
  passes_on : {m : MethodId} {pc : ℕ} → HasOpcode p (at m pc) IsCall → MayLeave p (at m pc) → IsDirect p s entries m (Exception pc) m Thrown Thin
  -- a call that goes outside: each argument flows to the result, and each written one to the call
  to_result : {m : MethodId} {pc i : ℕ} {c : CallId} {k : CallSite} (o : Option SiteId) → IsCallOf s (at m pc) c k →
      SystemHolds s (OutsideAt c o) → IsDirect p s entries m (Argument pc i) m (Result pc) Thin
  to_call : {m : MethodId} {pc i : ℕ} {c : CallId} {k : CallSite} {r : OutsideRule} (o : Option SiteId) → IsCallOf s (at m pc) c k →
      SystemHolds s (OutsideAt c o) → slice_get s.outside_rules c.0 ≡ Some r → Contains r.written i →
      IsDirect p s entries m (Argument pc i) m (Own pc) Thin
  -- the root calls in any order, again and again
  again : {r : MethodId} {k j : ℕ} {n : LocId} → IsRoot s r → IsDirect p s entries r (HeapResult k n) r (HeapArg j n) Thin
  -- into a method that is called, and back
  argument : {c : CallId} {m t : MethodId} {pc i : ℕ} → IsCallNumber s entries c m pc t →
      IsDirect p s entries m (Argument pc i) t (Formal i) (Call c)
  location : {c : CallId} {m t : MethodId} {pc : ℕ} {n : LocId} → IsCallNumber s entries c m pc t →
      IsDirect p s entries m (HeapArg pc n) t (HeapIn n) (Call c)
  answer : {c : CallId} {m t : MethodId} {pc : ℕ} → IsCallNumber s entries c m pc t →
      IsDirect p s entries t Return m (Result pc) (BackFrom c)
  exception : {c : CallId} {m t : MethodId} {pc : ℕ} → IsCallNumber s entries c m pc t →
      IsDirect p s entries t Thrown m (Exception pc) (BackFrom c)
  location_back : {c : CallId} {m t : MethodId} {pc : ℕ} {n : LocId} → IsCallNumber s entries c m pc t →
      IsDirect p s entries t (HeapOut n) m (HeapResult pc n) (BackFrom c)
