use Rattle.std.proofs.Common.{◌≡◌, ◌≤◌, ◌∙◌, ◌+◌, length, ap, arith}
use Rattle.slicer_ids.specs.declared.ids.NodeId.{NodeId}
use Rattle.dep_form.specs.Inputs.{BelongsTo}
use Rattle.widening.specs.Edges.{IsAmongOf}
use Rattle.tabulate.proofs.Placing.{of_input}
use Rattle.widening.proofs.OpenLaws.{opens_none, opens_then, opens_same, among_none, among_more, among_less, among_all}
use Rattle.widening.proofs.expansions.add_nodes.Goals as goal

pub loop-k-init : goal.loop-k-init
loop-k-init c = opens_none _ _ _ (among_none c.args.f.now c.args.s c.args.input.now c.requires.input)

pub loop-k-preserved : goal.loop-k-preserved
loop-k-preserved c =
    let f = c.args.f.now in
    let i = c.args.input.now in
    let s = c.args.s in
    let k = c.loop-k.k in
    opens_then (IsAmongOf f s i.first.0 k) (λ m. (m ≡ record { 0 = i.first.0 + k }) × BelongsTo f.inputs m s) (IsAmongOf f s i.first.0 (k + 1)) c.args.marks.now.items c.loop-k.marks.items c.add_if.new.marks.items c.args.into.now.items c.loop-k.into.items c.add_if.new.into.items
    (among_more f s i c.requires.input k) (among_less f s i c.requires.input k) c.loop-k.invariant c.in_ok-add_if.ensures

pub add_if-requires-clause-marks : goal.add_if-requires-clause-marks
add_if-requires-clause-marks c = c.loop-k.invariant.len ∙ c.requires.marks

pub add_if-requires-clause-node : goal.add_if-requires-clause-node
add_if-requires-clause-node c =
    let i = c.args.input.now in
    let n : NodeId = record { 0 = i.first.0 + c.loop-k.k } in
    (of_input c.args.f.now n c.args.s.method.0 i c.requires.input (omega arith) (omega (arith, c.loop-k-test.true, ap length c.items.ensures))).0

pub returns : goal.returns
returns c =
    let f = c.args.f.now in
    let i = c.args.input.now in
    let s = c.args.s in
    let k = c.loop-k.k in
    let end : length i.nodes ≤ k = omega (arith, c.loop-k-test.false, ap length c.items.ensures) in
    opens_same (IsAmongOf f s i.first.0 k) (λ m. BelongsTo f.inputs m s) c.args.marks.now.items c.loop-k.marks.items c.args.into.now.items c.loop-k.into.items (λ n h. h.3) (λ n b. among_all f s i c.requires.input k end n b) c.loop-k.invariant
