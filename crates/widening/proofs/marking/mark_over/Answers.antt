use Rattle.std.proofs.Common.{List, Contains, subst}
use Rattle.slicer_ids.specs.declared.ids.NodeId.{NodeId}
use Rattle.thin_slice.specs.Marks.{found}
use Rattle.worklists.specs.Growth.{Grows}
use Rattle.worklists.proofs.Growing.{Grows-same}
use Rattle.widening.specs.Marks.{IsOver}
use Rattle.widening.proofs.MarkLaws.{from_nothing, is_over_low}
use Rattle.widening.proofs.marking.mark_over.Goals as goal

pub add_nodes-requires-clause-nodes : goal.add_nodes-requires-clause-nodes
add_nodes-requires-clause-nodes c = λ n k.
    let f = c.args.f.now in
    let ms = c.args.methods.now.items in
    let ts = c.args.pairs.now.found.items in
    let P = IsOver f ms ts (found c.args.marks.now) in
    is_over_low f ms ts (found c.args.marks.now) n (from_nothing c.clear.new.self.items c.pass_again.new.into.items P c.clear.ensures.items c.in_ok-pass_again.ensures n (subst (λ (xs : List NodeId). Contains xs n) c.deref.ensures.value k))

pub returns-clause-grown : goal.returns-clause-grown
returns-clause-grown c =
    let P = IsOver c.args.f.now c.args.methods.now.items c.args.pairs.now.found.items (found c.args.marks.now) in
    let nodes : List NodeId = c.pass_again.new.into.items in
    let added : Grows (found c.args.marks.now) (found c.add_nodes.new.marks) (Contains nodes) = subst (λ (xs : List NodeId). Grows (found c.args.marks.now) (found c.add_nodes.new.marks) (Contains xs)) c.deref.ensures.value c.add_nodes.ensures.grown in
    Grows-same (found c.args.marks.now) (found c.add_nodes.new.marks) (Contains nodes) P (λ q k. from_nothing c.clear.new.self.items nodes P c.clear.ensures.items c.in_ok-pass_again.ensures q k) (λ q h. c.in_ok-pass_again.ensures.all q h) added
