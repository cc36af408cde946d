-- What stands at a program counter of a body, or of a method.
use Rattle.std.proofs.Common.{◌≡◌, ℕ, Bool, List, AllPairs, Contains, sym, ap, subst, ◌∙◌}
use Rattle.std.specs.Prelude.{◌↔◌, IsTrue}
use Rattle.slicer_ids.specs.Sets.{IsOrderedListOf}
use Rattle.slicer_ids.proofs.GrowingOrder.{reworded}
use Rattle.slicer_ids.specs.declared.ids.MethodId.{MethodId}
use Rattle.class_form.specs.declared.body.Body.{Body}
use Rattle.class_form.specs.declared.body.Instr.{Instr}
use Rattle.signature_tables.specs.Statements.{AreInOrder}
use Rattle.variable_tables.specs.declared.kinds.Kind.{Kind}
use Rattle.variable_tables.specs.Statements.{Rises, IsOfKind, HasKind, BodyHas}
use Rattle.variable_tables.specs.Members.{MethodRises, MethodHas}
use Rattle.variable_tables.proofs.KeyedItems.{one_of_key}

-- whether an instruction of a kind
pub kind_there : (is : List Instr) → AreInOrder is → (kind : Kind) (pc : ℕ) (i : Instr) (r : Bool) → Contains is i → i.pc ≡ pc → IsTrue r ↔ IsOfKind kind i.op → IsTrue r ↔ HasKind kind is pc
kind_there is order kind pc i r among here same = (
  λ t. (i, among, here, same.0 t),
  λ (j, there, place, of).
      same.1 (subst (λ (z : Instr). IsOfKind kind z.op) (one_of_key (λ (z : Instr). z.pc) is order j i there among (place ∙ sym here)) of),
)

-- what the body of a method has, the method has
pub method_has : (bodies : List Body) → AllPairs MethodRises bodies → (kind : Kind) (m : MethodId) (b : Body) (pcs : List ℕ) → Contains bodies b → b.method ≡ m
    → IsOrderedListOf Rises pcs (BodyHas kind b) → IsOrderedListOf Rises pcs (MethodHas kind bodies m)
method_has bodies order kind m b pcs among here o =
    reworded Rises pcs (BodyHas kind b) (MethodHas kind bodies m) (λ pc has. (b, among, here, has))
    (λ pc (a, there, of, has).
    subst (λ (z : Body). BodyHas kind z pc) (one_of_key (λ (z : Body). z.method.0) bodies order a b there among (ap (λ (n : MethodId). n.0) (of ∙ sym here))) has) o
