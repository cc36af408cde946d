-- The calls that a system refuses are those that are refused in its program.
use Rattle.std.proofs.Common.{◌≡◌, ◌↔◌, ◌<◌, ℕ, List, Option, Some, All, length, sym, subst}
use Rattle.std.proofs.lemmas.Option.{slice_get_within}
use Rattle.std.proofs.lemmas.List.Elements.{All-contains}
use Rattle.slicer_ids.specs.declared.ids.CallId.{CallId}
use Rattle.slicer_ids.specs.declared.ids.MethodId.{MethodId}
use Rattle.slicer_ids.specs.declared.ids.Statement.{Statement}
use Rattle.class_form.specs.Classes.{Declared, IsMethod}
use Rattle.class_form.specs.ClassRules.{IsClassFile}
use Rattle.class_form.specs.Numbers.{AreMethods, IsThere}
use Rattle.class_form.specs.Opcodes.{IsCall}
use Rattle.class_form.specs.declared.class_file.ClassFile.{ClassFile}
use Rattle.class_form.specs.declared.class_file.Member.{Member}
use Rattle.class_form.proofs.Indices.{index_at, there_at}
use Rattle.dep_form.specs.Constraints.{IsCallSite, SystemHolds}
use Rattle.dep_form.specs.PointsTo.{Calls, Reached}
use Rattle.dep_form.specs.declared.call_site.CallSite.{CallSite}
use Rattle.dep_form.specs.declared.system.System.{System}
use Rattle.program_form.specs.Facts.{Holds}
use Rattle.program_form.specs.Programs.{MethodOf, Program}
use Rattle.program_form.specs.Statements.{HasOpcode}
use Rattle.program_form.specs.Systems.{IsSystemOf}
use Rattle.program_form.specs.Systems as tied
use Rattle.program_code.specs.Codes.{IsProgramOfCode}
use Rattle.call_graph.specs.declared.refusals.Refused.{Refused}
use Rattle.call_graph.specs.declared.refusals.RefusedKind.{RefusedKind}
use Rattle.call_graph.specs.declared.refusals.RefusedKind.TheVariants.{Native, Dynamic, Reflection}
use Rattle.call_graph.specs.Refusals.{IsFirst, IsNativeMethod, IsRefused, Refuses}
use Rattle.call_graph.specs.ByNumber.{HasNativeFlag, NumberRefuses, RefusedBySome}
use Rattle.call_graph.proofs.Dynamic.{dynamic_is}
use Rattle.call_graph.proofs.Earliest.{first_same}
use Rattle.call_graph.proofs.OneNumbering.{one_numbering}

module _ (p : Program) (s : System) (coded : IsProgramOfCode p) (sound : All IsClassFile p.classes) (of : IsSystemOf p s) where
  method_at : (m : MethodId) → m.0 < length p.methods → (d : Declared) × (x : Member) × (name : List ℕ) × (descriptor : List ℕ) × MethodOf p m d x name descriptor
  method_at m lt =
      let d = index_at p.methods m.0 lt in
      let is = All-contains (IsThere (IsMethod p.classes)) p.methods d.0 coded.methods.each (there_at p.methods m.0 d.0 d.1) in
      (d.0, is.0, is.1, is.2, (d.1, is.3))

  native_is : (m : MethodId) → HasNativeFlag s m ↔ IsNativeMethod p m
  native_is m = (
    λ (v, at, flag).
        let o = method_at m (subst (λ n. m.0 < n) of.methods (slice_get_within s.methods m.0 v at)) in
        (o.0, o.1, o.2, o.3, o.4, (of.natives m v o.0 o.1 o.2 o.3 at o.4).0 flag),
    λ (d, x, name, descriptor, method, flag).
        let v = index_at s.methods m.0 (subst (λ n. m.0 < n) (sym of.methods) (slice_get_within p.methods m.0 d method.0)) in
        (v.0, v.1, (of.natives m v.0 d x name descriptor v.1 method).1 flag),
  )

  -- the reasons at a call
  reason_is : (t : Statement) (c : CallId) (k : CallSite) → IsCallSite s c k → k.place ≡ Some t → HasOpcode p t IsCall → (kind : RefusedKind)
      → NumberRefuses p.classes p.methods s c k t kind ↔ Refuses p t kind
  reason_is t c k site place op Native =
      let same : (m : MethodId) → Holds p (Calls t m) ↔ SystemHolds s (Calls c m) = λ m. of.facts (Calls t m) (Calls c m) (tied.calls (k, site, place)) in
      (λ (m, calls, flag). (m, (same m).1 calls, (native_is m).0 flag), λ (m, calls, flag). (m, (same m).0 calls, (native_is m).1 flag))
  reason_is t c k site place op Dynamic = dynamic_is p coded sound t op
  reason_is t c k site place op (Reflection n) = of.refusals t c k n (site, place)

  pub refused_is : (r : Refused) → RefusedBySome p.classes p.methods s r ↔ IsRefused p r
  refused_is r =
      let reached : Holds p (Reached r.place.method) ↔ SystemHolds s (Reached r.place.method) = of.facts (Reached r.place.method) (Reached r.place.method) tied.reached in (
        λ (c, (k, site, place, runs, why)).
            let op = (of.calls r.place).1 (c, (k, site, place)) in
            ((reached.1 runs, op), (reason_is r.place c k site place op r.kind).0 why),
        λ ((runs, op), why).
            let n = (of.calls r.place).0 op in
            (n.0, (n.1.0, n.1.1, n.1.2, reached.0 runs, (reason_is r.place n.0 n.1.0 n.1.1 n.1.2 op r.kind).1 why)),
      )

-- the first by numbers is the first of the program
pub first_of_program : (p : Program) (s : System) (classes : List ClassFile) (methods : List Declared) (o : Option Refused) → p.classes ≡ classes → AreMethods classes methods
    → All IsClassFile p.classes → IsProgramOfCode p → IsSystemOf p s → IsFirst (RefusedBySome classes methods s) o → IsFirst (IsRefused p) o
first_of_program p s classes methods o same are sound coded of f =
    let numbered : methods ≡ p.methods = one_numbering p.classes methods p.methods (subst (λ (ks : List ClassFile). AreMethods ks methods) (sym same) are) coded.methods in
    first_same (RefusedBySome classes methods s) (IsRefused p) o
    (λ r. subst (λ (ks : List ClassFile). RefusedBySome ks methods s r ↔ IsRefused p r) same
    (subst (λ (ms : List Declared). RefusedBySome p.classes ms s r ↔ IsRefused p r) (sym numbered) (refused_is p s coded sound of r))) f
