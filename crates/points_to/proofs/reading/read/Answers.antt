use Rattle.std.proofs.Common.{length, ◌∙◌, ap}
use Rattle.points_to.proofs.Listed.{solved_by}
use Rattle.points_to.proofs.reading.read.Goals as goal

pub returns : goal.returns
returns c = let E = c.as_solution.ensures in
    let calls = ap (λ xs. length xs) c.items-calls.ensures in
    let methods = ap (λ xs. length xs) c.items-methods.ensures in
    solved_by c.args.system.now c.args.found.now c.as_solution.result c.in_ok-sites.sites.items c.in_ok-targets.targets.items c.in_ok-outside.outside.items c.in_ok-cells.cells.items c.in_ok-reached.reached.items
    E.sites E.targets E.outside E.cells E.reached c.requires.exact c.in_ok-sites.ensures.len c.in_ok-sites.ensures.each (c.in_ok-targets.ensures.len ∙ calls) c.in_ok-targets.ensures.each
    (c.in_ok-outside.ensures.len ∙ calls) c.in_ok-outside.ensures.each c.in_ok-cells.ensures (c.in_ok-reached.ensures.len ∙ methods) c.in_ok-reached.ensures.each
