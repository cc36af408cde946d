-- The nodes of a method, by the calls that stand in it.
use Rattle.std.specs.Prelude.{◌≡◌, ◌⊎◌, ◌<◌, ℕ, Bool, true, List, Some, Contains, length, nat_lt, slice_get}
use Rattle.slicer_ids.specs.declared.ids.CallId.{CallId}
use Rattle.slicer_ids.specs.declared.ids.LocId.{LocId}
use Rattle.slicer_ids.specs.declared.ids.MethodId.{MethodId}
use Rattle.slicer_ids.specs.declared.ids.SiteId.{SiteId}
use Rattle.slicer_ids.specs.declared.ids.Statement.{Statement}
use Rattle.class_form.specs.Reaching.{IsPoint}
use Rattle.class_form.specs.declared.body.Body.{Body}
use Rattle.class_form.specs.declared.body.Instr.{Instr}
use Rattle.class_form.specs.declared.body.Point.{Point}
use Rattle.dep_form.specs.declared.call_site.CallSite.{CallSite}
use Rattle.dep_form.specs.declared.effects.ModRef.{ModRef}
use Rattle.dep_form.specs.declared.node.Node.{Node}
use Rattle.dep_form.specs.declared.node.Node.TheVariants.{Formal, HeapIn, Own, Argument, Result, Exception, HeapArg, HeapResult, Return, Thrown, HeapOut}
use Rattle.dep_form.specs.declared.rules.MethodVars.{MethodVars}
use Rattle.dep_form.specs.declared.system.System.{System}
use Rattle.dep_form.specs.PointsTo.{Calls, Has}
use Rattle.dep_form.specs.Constraints.{IsMethodVars, SystemHolds}
use Rattle.program_form.specs.Systems.{IsCallOf}
use Rattle.fact_form.specs.EntryCalls.{IsGiven}
use Rattle.fact_form.specs.NodeNumbers.{ChangedBy, UsedBy}

module _ (s : System) (mr : ModRef) where
  -- one of the methods that a call may go to uses, or changes, the location
  abbrev pub IsUsedAt : CallId → LocId → Type 0
  IsUsedAt c n = (t : MethodId) × SystemHolds s (Calls c t) × UsedBy mr t n

  abbrev pub IsChangedAt : CallId → LocId → Type 0
  IsChangedAt c n = (t : MethodId) × SystemHolds s (Calls c t) × ChangedBy mr t n

  -- the nodes of a call, beside its own
  abbrev pub AtCall : CallId → CallSite → ℕ → Bool → Node → Type 0
  AtCall c k pc answers x =
      ((i : ℕ) × (i < length k.arguments) × (x ≡ Argument pc i))
      ⊎ (((answers ≡ true) × (x ≡ Result pc))
      ⊎ (((h : SiteId) × SystemHolds s (Has k.exception h) × (x ≡ Exception pc))
      ⊎ (((n : LocId) × IsUsedAt c n × (x ≡ HeapArg pc n))
      ⊎ ((n : LocId) × IsChangedAt c n × (x ≡ HeapResult pc n)))))

  -- the nodes of a statement; a call has a result where `answers`
  abbrev pub AtStatement : Statement → Bool → Node → Type 0
  AtStatement t answers x =
      (x ≡ Own t.pc) ⊎ ((c : CallId) × (k : CallSite) × IsCallOf s t c k × AtCall c k t.pc answers x)

  -- the nodes of an instruction, where control reaches it. A call leaves its result
  abbrev pub AtInstr : Body → Instr → Node → Type 0
  AtInstr b i x =
      ((t : Point) × IsPoint b.shape i.pc t) × AtStatement (record { method = b.method; pc = i.pc }) (nat_lt 0 i.leaves) x

  -- the nodes before the statements of a method
  abbrev pub AtEntry : MethodId → Node → Type 0
  AtEntry m x =
      ((v : MethodVars) × (i : ℕ) × IsMethodVars s m v × (i < length v.formals) × (x ≡ Formal i))
      ⊎ ((n : LocId) × UsedBy mr m n × (x ≡ HeapIn n))

  -- .. and after them
  abbrev pub AtExit : MethodId → Bool → Node → Type 0
  AtExit m answers x =
      ((answers ≡ true) × (x ≡ Return))
      ⊎ (((v : MethodVars) × (h : SiteId) × IsMethodVars s m v × SystemHolds s (Has v.thrown h) × (x ≡ Thrown))
      ⊎ ((n : LocId) × ChangedBy mr m n × (x ≡ HeapOut n)))

  -- the nodes of a call of the root
  abbrev pub AtEntryCall : ℕ → MethodId → Node → Type 0
  AtEntryCall k t x =
      (IsGiven s t × (x ≡ Argument k 0))
      ⊎ (((n : LocId) × UsedBy mr t n × (x ≡ HeapArg k n))
      ⊎ ((n : LocId) × ChangedBy mr t n × (x ≡ HeapResult k n)))
