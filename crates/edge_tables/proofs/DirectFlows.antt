-- What edges a program has, by operands and by all else.
use Rattle.std.proofs.Common.{◌≡◌, ◌⊎◌, ℕ, Bool, true, false, List, Some, inl, inr, refl, sym, ap, subst, ◌∙◌}
use Rattle.slicer_ids.specs.declared.ids.MethodId.{MethodId}
use Rattle.class_form.specs.declared.body.Def.{Def}
use Rattle.class_form.specs.declared.body.SlotUse.{SlotUse}
use Rattle.dep_form.specs.declared.node.Label.{Label}
use Rattle.dep_form.specs.declared.node.Label.TheVariants.{Thin, Base, Call, Return as BackFrom}
use Rattle.dep_form.specs.declared.node.Node.{Node}
use Rattle.dep_form.specs.declared.node.Node.TheVariants.{Argument, Exception, Formal, HeapArg, HeapIn, HeapOut, HeapResult, Own, Result, Return, Thrown}
use Rattle.dep_form.specs.declared.system.System.{System}
use Rattle.program_form.specs.Dependences.{Takes}
use Rattle.program_form.specs.Nodes.{at}
use Rattle.program_form.specs.Programs.{Program}
use Rattle.fact_form.specs.EdgeNumbers.{IsDefinitionNumber, IsDirect, IsTakerNumber}
use Rattle.fact_form.specs.EdgeNumbers as edge
use Rattle.input_tables.specs.Edges.{IsOperandFlow, operand_label}
use Rattle.edge_tables.specs.Calls.{BackFlow, IntoFlow}
use Rattle.edge_tables.specs.Table.{LocalFlow, OtherFlow}

module _ (p : Program) (s : System) (entries : List MethodId) where
  -- what an operand takes, or anything else
  abbrev pub AnyFlow : MethodId → Node → MethodId → Node → Label → Type 0
  AnyFlow a k m j l = ((a ≡ m) × IsOperandFlow p m k j l) ⊎ OtherFlow p s entries a k m j l

  pub direct_to : (a : MethodId) (k : Node) (m : MethodId) (j : Node) (l : Label) → IsDirect p s entries a k m j l → AnyFlow a k m j l
  direct_to a k m j l (edge.producer {pc} {u} {d} takes from taker base) = inl (refl, (pc, u, d, takes, from, taker, ap operand_label (sym base)))
  direct_to a k m j l (edge.base {pc} {u} {d} takes from taker base) = inl (refl, (pc, u, d, takes, from, taker, ap operand_label (sym base)))
  direct_to a k m j l (edge.returns {pc} op) = inr (inl (refl, inl (pc, refl, inl (op, refl, refl))))
  direct_to a k m j l (edge.throws {pc} op may) = inr (inl (refl, inl (pc, refl, inr (may, refl, inl (op, refl)))))
  direct_to a k m j l (edge.passes_on {pc} op may) = inr (inl (refl, inl (pc, refl, inr (may, refl, inr (op, refl)))))
  direct_to a k m j l (edge.to_result {pc} {i} {c} {k = site} o is gone) = inr (inl (refl, inr (inl (pc, i, c, site, is, (o, gone), refl, refl, inl refl))))
  direct_to a k m j l (edge.to_call {pc} {i} {c} {k = site} {r} o is gone rule written) = inr (inl (refl, inr (inl (pc, i, c, site, is, (o, gone), refl, refl, inr (r, rule, written, refl)))))
  direct_to a k m j l (edge.again {k = b} {j = d} {n} root) = inr (inl (refl, inr (inr (b, d, n, root, refl, refl, refl))))
  direct_to a k m j l (edge.argument {c} {pc} {i} number) = inr (inr (inl (c, pc, number, inl (i, refl, refl), refl)))
  direct_to a k m j l (edge.location {c} {pc} {n} number) = inr (inr (inl (c, pc, number, inr (n, refl, refl), refl)))
  direct_to a k m j l (edge.answer {c} {pc} number) = inr (inr (inr (c, pc, number, inl (refl, refl), refl)))
  direct_to a k m j l (edge.exception {c} {pc} number) = inr (inr (inr (c, pc, number, inr (inl (refl, refl)), refl)))
  direct_to a k m j l (edge.location_back {c} {pc} {n} number) = inr (inr (inr (c, pc, number, inr (inr (n, refl, refl)), refl)))

  named : (a b : MethodId) (k x : Node) (m : MethodId) (j y : Node) (l z : Label) → a ≡ b → k ≡ x → j ≡ y → l ≡ z → IsDirect p s entries b x m y z → IsDirect p s entries a k m j l
  named a b k x m j y l z e f g h d =
      subst (λ (w : MethodId). IsDirect p s entries w k m j l) (sym e)
      (subst (λ (w : Node). IsDirect p s entries b w m j l) (sym f)
      (subst (λ (w : Node). IsDirect p s entries b x m w l) (sym g)
      (subst (λ (w : Label). IsDirect p s entries b x m y w) (sym h) d)))

  by_operand : (m : MethodId) (k j : Node) (pc : ℕ) (u : SlotUse) (d : Def) → Takes p (at m pc) u d → IsDefinitionNumber p m d k → IsTakerNumber p m pc u.operand j → (b : Bool) → u.base ≡ b → IsDirect p s entries m k m j (operand_label b)
  by_operand m k j pc u d takes from taker true e = edge.base takes from taker e
  by_operand m k j pc u d takes from taker false e = edge.producer takes from taker e

  pub direct_from : (a : MethodId) (k : Node) (m : MethodId) (j : Node) (l : Label) → AnyFlow a k m j l → IsDirect p s entries a k m j l
  direct_from a k m j l (inl (same, (pc, u, d, takes, from, taker, label))) = named a m k k m j j l (operand_label u.base) same refl refl label (by_operand m k j pc u d takes from taker u.base refl)
  direct_from a k m j l (inr (inl (same, inl (pc, label, inl (op, e, f))))) = named a m k (Own pc) m j Return l Thin same e f label (edge.returns op)
  direct_from a k m j l (inr (inl (same, inl (pc, label, inr (may, f, inl (op, e)))))) = named a m k (Own pc) m j Thrown l Thin same e f label (edge.throws op may)
  direct_from a k m j l (inr (inl (same, inl (pc, label, inr (may, f, inr (op, e)))))) = named a m k (Exception pc) m j Thrown l Thin same e f label (edge.passes_on op may)
  direct_from a k m j l (inr (inl (same, inr (inl (pc, i, c, site, is, (o, gone), e, label, inl f))))) = named a m k (Argument pc i) m j (Result pc) l Thin same e f label (edge.to_result o is gone)
  direct_from a k m j l (inr (inl (same, inr (inl (pc, i, c, site, is, (o, gone), e, label, inr (r, rule, written, f)))))) = named a m k (Argument pc i) m j (Own pc) l Thin same e f label (edge.to_call o is gone rule written)
  direct_from a k m j l (inr (inl (same, inr (inr (b, d, n, root, e, f, label))))) = named a m k (HeapResult b n) m j (HeapArg d n) l Thin same e f label (edge.again root)
  direct_from a k m j l (inr (inr (inl (c, pc, number, inl (i, e, f), label)))) = named a a k (Argument pc i) m j (Formal i) l (Call c) refl e f label (edge.argument number)
  direct_from a k m j l (inr (inr (inl (c, pc, number, inr (n, e, f), label)))) = named a a k (HeapArg pc n) m j (HeapIn n) l (Call c) refl e f label (edge.location number)
  direct_from a k m j l (inr (inr (inr (c, pc, number, inl (e, f), label)))) = named a a k Return m j (Result pc) l (BackFrom c) refl e f label (edge.answer number)
  direct_from a k m j l (inr (inr (inr (c, pc, number, inr (inl (e, f)), label)))) = named a a k Thrown m j (Exception pc) l (BackFrom c) refl e f label (edge.exception number)
  direct_from a k m j l (inr (inr (inr (c, pc, number, inr (inr (n, e, f)), label)))) = named a a k (HeapOut n) m j (HeapResult pc n) l (BackFrom c) refl e f label (edge.location_back number)
