use Rattle.std.proofs.Common.{Bool, false, sym, subst}
use Rattle.call_graph.specs.ByNumber.{IsKind, IsLeastKind}
use Rattle.call_graph.proofs.LeastKinds.{least_dynamic, least_native}
use Rattle.call_graph.proofs.refusals.kind_of.Goals as goal

pub returns-then-native : goal.returns-then-native
returns-then-native c = least_native c.args.native c.args.dynamic c.args.refused c.if-native.true

pub returns-then-dynamic : goal.returns-then-dynamic
returns-then-dynamic c = least_dynamic c.args.native c.args.dynamic c.args.refused c.if-native.false c.if-dynamic.true

pub returns-else-dynamic : goal.returns-else-dynamic
returns-else-dynamic c = subst (λ (n : Bool). IsLeastKind (IsKind n c.args.dynamic c.args.refused) c.reflection_of.result) (sym c.if-native.false) (subst (λ (d : Bool). IsLeastKind (IsKind false d c.args.refused) c.reflection_of.result) (sym c.if-dynamic.false) c.reflection_of.ensures)
