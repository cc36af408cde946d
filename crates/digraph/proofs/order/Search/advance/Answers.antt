use Rattle.std.proofs.Common.{◌<◌, ◌-◌, true, ◌∷◌, ◌++◌, [], length, set, sym, subst, ◌∙◌, ap, arith}
use Rattle.digraph.specs.Graphs.{IsMarked}
use Rattle.digraph.specs.Searches.{IsSearch, steps_left}
use Rattle.digraph.proofs.Marks.{number_read, mark_read}
use Rattle.digraph.proofs.Searching.{All-last, finishes, skips, meets, closes, skip_fewer, meet_fewer, within_row, next_edge}
use Rattle.digraph.proofs.order.Search.advance.Goals as goal

pub bounds-graph-node : goal.bounds-graph-node
bounds-graph-node c =
    let g = c.args.graph.now in
    let d = c.args.self.now.done.items in
    let m = c.args.self.now.met.items in
    let l = c.args.self.now.left.items in
    let o = c.args.self.now.order.items in
    let st = c.args.self.now.stack.items in
    let n = c.args.node in
    All-last (λ k. k < length g) st n c.requires.search.stack_nodes

pub returns-then-left-eq0-clause-search : goal.returns-then-left-eq0-clause-search
returns-then-left-eq0-clause-search c =
    let g = c.args.graph.now in
    let d = c.args.self.now.done.items in
    let m = c.args.self.now.met.items in
    let l = c.args.self.now.left.items in
    let o = c.args.self.now.order.items in
    let st = c.args.self.now.stack.items in
    let n = c.args.node in
    let lt = All-last (λ k. k < length g) st n c.requires.search.stack_nodes in
    let e = number_read l n c.index-left.result.now (omega (arith, c.requires.search.left_len)) c.index-left.ensures in
    subst (λ order. IsSearch g (set d n true) m l order st) (sym c.in_ok-push.ensures) (finishes g d m l o st n c.requires.search (e ∙ c.if-left-eq0.true))

pub index-target-requires : goal.index-target-requires
index-target-requires c =
    let g = c.args.graph.now in
    let d = c.args.self.now.done.items in
    let m = c.args.self.now.met.items in
    let l = c.args.self.now.left.items in
    let o = c.args.self.now.order.items in
    let st = c.args.self.now.stack.items in
    let n = c.args.node in
    omega (arith, within_row g d m l o st n c.index-left.result.now c.index-graph-node.result c.requires.search c.index-left.ensures c.if-left-eq0.false c.index-graph-node.is, c.index-graph-node.result.ok.0)

pub index-requires : goal.index-requires
index-requires c =
    let g = c.args.graph.now in
    let d = c.args.self.now.done.items in
    let m = c.args.self.now.met.items in
    let l = c.args.self.now.left.items in
    let o = c.args.self.now.order.items in
    let st = c.args.self.now.stack.items in
    let n = c.args.node in
    let x = next_edge g d m l o st n c.index-left.result.now c.index-target.result.now c.index-graph-node.result c.requires.graph c.requires.search c.index-left.ensures c.if-left-eq0.false c.index-graph-node.is c.index-target.ensures in
    omega (arith, x.target, c.requires.search.done_len, c.args.self.now.done.ok.0)

pub index_mut-requires-then-index : goal.index_mut-requires-then-index
index_mut-requires-then-index c =
    let g = c.args.graph.now in
    let d = c.args.self.now.done.items in
    let m = c.args.self.now.met.items in
    let l = c.args.self.now.left.items in
    let o = c.args.self.now.order.items in
    let st = c.args.self.now.stack.items in
    let n = c.args.node in
    let x = next_edge g d m l o st n c.index-left.result.now c.index-target.result.now c.index-graph-node.result c.requires.graph c.requires.search c.index-left.ensures c.if-left-eq0.false c.index-graph-node.is c.index-target.ensures in
    omega (arith, x.node, c.requires.search.left_len, c.args.self.now.left.ok.0)

pub returns-then-index-clause-search : goal.returns-then-index-clause-search
returns-then-index-clause-search c =
    let g = c.args.graph.now in
    let d = c.args.self.now.done.items in
    let m = c.args.self.now.met.items in
    let l = c.args.self.now.left.items in
    let o = c.args.self.now.order.items in
    let st = c.args.self.now.stack.items in
    let n = c.args.node in
    let x = next_edge g d m l o st n c.index-left.result.now c.index-target.result.now c.index-graph-node.result c.requires.graph c.requires.search c.index-left.ensures c.if-left-eq0.false c.index-graph-node.is c.index-target.ensures in
    subst (λ stack. IsSearch g d m (set l n (c.index-left.result.now - 1)) o stack) (sym c.in_ok-push-2.ensures)
    (skips g d m l o (st ++ n ∷ []) n (c.index-left.result.now - 1) c.requires.search x.node x.left_is (subst (IsMarked d) (sym x.target_is) (mark_read d c.index-target.result.now _ _ (omega (arith, x.target, c.requires.search.done_len)) c.index.ensures c.if-index.true)))

pub returns-then-index-clause-fewer : goal.returns-then-index-clause-fewer
returns-then-index-clause-fewer c =
    let g = c.args.graph.now in
    let d = c.args.self.now.done.items in
    let m = c.args.self.now.met.items in
    let l = c.args.self.now.left.items in
    let o = c.args.self.now.order.items in
    let st = c.args.self.now.stack.items in
    let n = c.args.node in
    let x = next_edge g d m l o st n c.index-left.result.now c.index-target.result.now c.index-graph-node.result c.requires.graph c.requires.search c.index-left.ensures c.if-left-eq0.false c.index-graph-node.is c.index-target.ensures in
    subst (λ stack. steps_left m (set l n (c.index-left.result.now - 1)) stack < steps_left m l (st ++ n ∷ [])) (sym c.in_ok-push-2.ensures)
    (skip_fewer m l st n (c.index-left.result.now - 1) (omega (arith, x.node, c.requires.search.left_len)) x.left_is)

pub index-requires-2 : goal.index-requires-2
index-requires-2 c =
    let g = c.args.graph.now in
    let d = c.args.self.now.done.items in
    let m = c.args.self.now.met.items in
    let l = c.args.self.now.left.items in
    let o = c.args.self.now.order.items in
    let st = c.args.self.now.stack.items in
    let n = c.args.node in
    let x = next_edge g d m l o st n c.index-left.result.now c.index-target.result.now c.index-graph-node.result c.requires.graph c.requires.search c.index-left.ensures c.if-left-eq0.false c.index-graph-node.is c.index-target.ensures in
    omega (arith, x.target, c.requires.search.met_len, c.args.self.now.met.ok.0)

pub returns-then-index-2-clause-cyclic : goal.returns-then-index-2-clause-cyclic
returns-then-index-2-clause-cyclic c =
    let g = c.args.graph.now in
    let d = c.args.self.now.done.items in
    let m = c.args.self.now.met.items in
    let l = c.args.self.now.left.items in
    let o = c.args.self.now.order.items in
    let st = c.args.self.now.stack.items in
    let n = c.args.node in
    let x = next_edge g d m l o st n c.index-left.result.now c.index-target.result.now c.index-graph-node.result c.requires.graph c.requires.search c.index-left.ensures c.if-left-eq0.false c.index-graph-node.is c.index-target.ensures in
    (n, x.node, closes g d m l o st n c.index-target.result.now c.requires.search x.edge (mark_read m c.index-target.result.now _ _ (omega (arith, x.target, c.requires.search.met_len)) c.index-2.ensures c.if-index-2.true) (mark_read d c.index-target.result.now _ _ (omega (arith, x.target, c.requires.search.done_len)) c.index.ensures c.if-index.false))

pub index_mut-requires-2 : goal.index_mut-requires-2
index_mut-requires-2 c =
    let g = c.args.graph.now in
    let d = c.args.self.now.done.items in
    let m = c.args.self.now.met.items in
    let l = c.args.self.now.left.items in
    let o = c.args.self.now.order.items in
    let st = c.args.self.now.stack.items in
    let n = c.args.node in
    let x = next_edge g d m l o st n c.index-left.result.now c.index-target.result.now c.index-graph-node.result c.requires.graph c.requires.search c.index-left.ensures c.if-left-eq0.false c.index-graph-node.is c.index-target.ensures in
    omega (arith, x.target, c.requires.search.met_len, c.args.self.now.met.ok.0)

pub returns-clause-search : goal.returns-clause-search
returns-clause-search c =
    let g = c.args.graph.now in
    let d = c.args.self.now.done.items in
    let m = c.args.self.now.met.items in
    let l = c.args.self.now.left.items in
    let o = c.args.self.now.order.items in
    let st = c.args.self.now.stack.items in
    let n = c.args.node in
    let x = next_edge g d m l o st n c.index-left.result.now c.index-target.result.now c.index-graph-node.result c.requires.graph c.requires.search c.index-left.ensures c.if-left-eq0.false c.index-graph-node.is c.index-target.ensures in
    subst (λ stack. IsSearch g d (set m c.index-target.result.now true) l o stack) (ap (λ xs. xs ++ c.index-target.result.now ∷ []) (sym c.in_ok-push-3.ensures) ∙ sym c.in_ok-push-4.ensures)
    (meets g d m l o st n c.index-target.result.now c.requires.search x.target x.edge)

pub returns-clause-fewer : goal.returns-clause-fewer
returns-clause-fewer c =
    let g = c.args.graph.now in
    let d = c.args.self.now.done.items in
    let m = c.args.self.now.met.items in
    let l = c.args.self.now.left.items in
    let o = c.args.self.now.order.items in
    let st = c.args.self.now.stack.items in
    let n = c.args.node in
    let x = next_edge g d m l o st n c.index-left.result.now c.index-target.result.now c.index-graph-node.result c.requires.graph c.requires.search c.index-left.ensures c.if-left-eq0.false c.index-graph-node.is c.index-target.ensures in
    subst (λ stack. steps_left (set m c.index-target.result.now true) l stack < steps_left m l (st ++ n ∷ [])) (ap (λ xs. xs ++ c.index-target.result.now ∷ []) (sym c.in_ok-push-3.ensures) ∙ sym c.in_ok-push-4.ensures)
    (meet_fewer m l st n c.index-target.result.now (omega (arith, x.target, c.requires.search.met_len)) (mark_read m c.index-target.result.now _ _ (omega (arith, x.target, c.requires.search.met_len)) c.index-2.ensures c.if-index-2.false))
