use Rattle.std.proofs.Common.{◌≡◌, ◌+◌, List, length, Contains, refl, subst, ap, ◌∙◌, arith}
use Rattle.std.specs.Prelude.{◌↔◌}
use Rattle.slicer_ids.specs.declared.ids.NodeId.{NodeId}
use Rattle.dep_form.specs.declared.node.Edge.{Edge}
use Rattle.dep_form.specs.declared.node.Label.TheVariants.{Call, Return}
use Rattle.dep_form.specs.Phases.{edge}
use Rattle.dep_form.specs.Summaries.{IsExitAt}
use Rattle.tabulate.specs.Frames.{exits_before}
use Rattle.tabulate.specs.Methods.{HasEdge}
use Rattle.tabulate.proofs.Placing.{exits_rise_more}
use Rattle.tabulate.proofs.KeptEdges.{kept}
use Rattle.tabulate.proofs.keeping.keep.Goals as goal

first_at : (c : goal.After-count_exits-exits_end) → c.count_exits-first_exit.result ≡ exits_before c.args.f.now c.args.graph.now.first.0
first_at c = c.count_exits-first_exit.ensures ∙ ap (exits_before c.args.f.now) c.from.ensures

end_at : (c : goal.After-count_exits-exits_end) → c.count_exits-exits_end.result ≡ exits_before c.args.f.now (c.args.graph.now.first.0 + length c.items-incoming.result.now)
end_at c = c.count_exits-exits_end.ensures ∙ ap (exits_before c.args.f.now) (omega (arith, c.from-2.ensures, c.from-3.ensures))

pub overflow_sub-exit_count : goal.overflow_sub-exit_count
overflow_sub-exit_count c = omega (arith, first_at c, end_at c, exits_rise_more c.args.f.now c.args.graph.now.first.0 (c.args.graph.now.first.0 + length c.items-incoming.result.now) (omega arith))

pub returns : goal.returns
returns c =
    let p = c.args.f.now in
    let g = c.args.graph.now in
    let same : length c.items-incoming.result.now ≡ length g.incoming = ap length c.items-incoming.ensures in
    let starts : c.count_exits-first_exit.result ≡ exits_before p g.first.0 = c.count_exits-first_exit.ensures ∙ ap (exits_before p) c.from.ensures in
    let ends : c.count_exits-exits_end.result ≡ exits_before p (g.first.0 + length g.incoming) = c.count_exits-exits_end.ensures ∙ ap (exits_before p) (omega (arith, c.from-2.ensures, c.from-3.ensures, same)) in (
      kept p c.args.m g c.requires _ refl refl same starts (omega (arith, ends, starts)) (omega (arith, c.div_ceil.ensures))
          (λ a. subst (λ (xs : List (List Edge)). Contains c.sort_arguments.new.arguments.items a ↔ HasEdge xs (edge a.from (Call a.call) a.formal)) c.items-incoming.ensures
          (let s = c.sort_arguments.ensures.same a in let h = c.in_ok-arguments.ensures a in (λ k. h.0 (s.0 k), λ k. s.1 (h.1 k))))
          c.sort_arguments.ensures.order
          (λ b. subst (λ (xs : List (List Edge)). Contains c.sort_backs.new.backs.items b ↔ ((e : NodeId) × IsExitAt p b.exit e × HasEdge xs (edge e (Return b.call) b.to))) c.items-incoming.ensures
          (let s = c.sort_backs.ensures.same b in let h = c.in_ok-returns.ensures b in (λ k. h.0 (s.0 k), λ k. s.1 (h.1 k))))
          c.sort_backs.ensures.order,
      refl,
    )
