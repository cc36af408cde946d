-- Refused calls by the numbers of a system. Cited by private functions alone.
use Rattle.std.specs.Prelude.{◌≡◌, ◌⊎◌, ◌<◌, ℕ, Bool, true, List, Option, Some, None, Contains, MatchOption, slice_get}
use Rattle.slicer_ids.specs.declared.ids.CallId.{CallId}
use Rattle.slicer_ids.specs.declared.ids.MethodId.{MethodId}
use Rattle.slicer_ids.specs.declared.ids.Statement.{Statement}
use Rattle.class_form.specs.Classes.{Declared, IsClass}
use Rattle.class_form.specs.declared.class_file.Attribute.{Attribute}
use Rattle.class_form.specs.declared.class_file.Content.TheVariants.{Code}
use Rattle.class_form.specs.declared.class_file.ClassFile.{ClassFile}
use Rattle.class_form.specs.declared.class_file.CodeBody.{CodeBody}
use Rattle.class_form.specs.declared.class_file.Member.{Member}
use Rattle.dep_form.specs.declared.call_site.CallSite.{CallSite}
use Rattle.dep_form.specs.declared.rules.MethodVars.{MethodVars}
use Rattle.dep_form.specs.declared.system.System.{System}
use Rattle.dep_form.specs.Constraints.{IsCallSite, IsMethodVars, SystemHolds}
use Rattle.dep_form.specs.PointsTo.{Calls, Reached}
use Rattle.call_graph.specs.declared.refusals.Refused.{Refused}
use Rattle.call_graph.specs.declared.refusals.RefusedKind.{RefusedKind}
use Rattle.call_graph.specs.declared.refusals.RefusedKind.TheVariants.{Native, Dynamic, Reflection}
use Rattle.call_graph.specs.Refusals.{RefusedBefore, rank_of}

abbrev pub HasNativeFlag : System → MethodId → Type 0
HasNativeFlag s m = (v : MethodVars) × IsMethodVars s m v × (v.native ≡ true)

-- the attribute is code with this byte at the pc
abbrev pub HasByteAt : ℕ → ℕ → Attribute → Type 0
HasByteAt pc op a = (c : CodeBody) × (a.content ≡ Code c) × (slice_get c.code pc ≡ Some op)

-- the method that stands there has code, and invokedynamic at the pc
abbrev pub IsDynamicIn : List ClassFile → Declared → ℕ → Type 0
IsDynamicIn classes d pc =
    (k : ClassFile) × IsClass classes d.class k × ((m : Member) × (slice_get k.methods d.index ≡ Some m) × ((a : Attribute) × Contains m.attributes a × HasByteAt pc 186 a))

-- .. of the statement
abbrev pub IsDynamicAt : List ClassFile → List Declared → Statement → Type 0
IsDynamicAt classes methods t = (d : Declared) × (slice_get methods t.method.0 ≡ Some d) × IsDynamicIn classes d t.pc

-- why a call is refused
abbrev pub NumberRefuses : List ClassFile → List Declared → System → CallId → CallSite → Statement → RefusedKind → Type 0
NumberRefuses classes methods s c k t Native = (m : MethodId) × SystemHolds s (Calls c m) × HasNativeFlag s m
NumberRefuses classes methods s c k t Dynamic = IsDynamicAt classes methods t
NumberRefuses classes methods s c k t (Reflection n) = k.refused ≡ Some n

-- .. by the call of this number, in a method that is reached
abbrev pub RefusedBy : List ClassFile → List Declared → System → CallId → Refused → Type 0
RefusedBy classes methods s c r =
    (k : CallSite) × IsCallSite s c k × (k.place ≡ Some r.place) × SystemHolds s (Reached r.place.method) × NumberRefuses classes methods s c k r.place r.kind

-- .. by some call
abbrev pub RefusedBySome : List ClassFile → List Declared → System → Refused → Type 0
RefusedBySome classes methods s r = (c : CallId) × RefusedBy classes methods s c r

-- the earlier of two, where there are two; the first one where neither is
abbrev pub IsFirstOf : Option Refused → Option Refused → Option Refused → Type 0
IsFirstOf None b r = r ≡ b
IsFirstOf (Some x) None r = r ≡ Some x
IsFirstOf (Some x) (Some y) r = ((r ≡ Some y) × RefusedBefore y x) ⊎ ((r ≡ Some x) × (RefusedBefore y x → ⊥))

-- the least kind by which a call is refused
abbrev pub IsLeastKind : (RefusedKind → Type 0) → Option RefusedKind → Type 0
IsLeastKind P o = MatchOption o ((k : RefusedKind) → P k → ⊥) (λ k. P k × ((l : RefusedKind) → P l → (l ≡ k) ⊎ (rank_of k < rank_of l)))

-- one of three kinds, by what was found of a call
abbrev pub IsKind : Bool → Bool → Option ℕ → RefusedKind → Type 0
IsKind native dynamic refused Native = native ≡ true
IsKind native dynamic refused Dynamic = dynamic ≡ true
IsKind native dynamic refused (Reflection n) = refused ≡ Some n
