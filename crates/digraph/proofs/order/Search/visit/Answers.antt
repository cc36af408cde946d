use Rattle.std.proofs.Common.{true, [], ◌∷◌, ◌++◌, set, sym, subst, ◌∙◌, ap, arith}
use Rattle.digraph.specs.Searches.{IsSearch}
use Rattle.digraph.proofs.Marks.{marked_now, marked_stays}
use Rattle.digraph.proofs.Searching.{starts}
use Rattle.digraph.proofs.order.Search.visit.Goals as goal

pub loop-node-init : goal.loop-node-init
loop-node-init c =
    let s = c.args.self.now in
    let stack = sym (c.in_ok-push.ensures ∙ ap (λ xs. xs ++ c.args.start ∷ []) c.requires.search.1) in
    record {
      search = subst (λ xs. IsSearch c.args.graph.now s.done.items (set s.met.items c.args.start true) s.left.items s.order.items xs) stack
          (starts c.args.graph.now s.done.items s.met.items s.left.items s.order.items c.args.start c.requires.search.0 c.requires.start);
      start = marked_now s.met.items c.args.start (omega (arith, c.requires.search.0.met_len, c.requires.start));
      stays = λ n h. marked_stays s.met.items c.args.start n h;
    }
