use Rattle.std.proofs.Common.{◌≡◌, ◌↔◌, ℕ, Bool, Some, sym, subst}
use Rattle.slicer_ids.specs.declared.ids.LocId.{LocId}
use Rattle.input_tables.specs.Uses.{callee_node}
use Rattle.input_tables.proofs.heap.callee_at.Goals as goal

pub returns-then-write : goal.returns-then-write
returns-then-write c = subst (λ (b : Bool). (pc : ℕ) (n : LocId) → (c.changed_at.result ≡ Some (pc, n)) ↔ (c.args.node ≡ callee_node b pc n)) (sym c.if-write.true) c.changed_at.ensures

pub returns-else-write : goal.returns-else-write
returns-else-write c = subst (λ (b : Bool). (pc : ℕ) (n : LocId) → (c.used_at.result ≡ Some (pc, n)) ↔ (c.args.node ≡ callee_node b pc n)) (sym c.if-write.false) c.used_at.ensures
