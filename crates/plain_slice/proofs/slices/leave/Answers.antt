use Rattle.std.proofs.Common.{◌⊎◌}
use Rattle.worklists.specs.Growth.{FromOne}
use Rattle.worklists.proofs.Growing.{Grows-then}
use Rattle.plain_slice.specs.Rules.{MovesOne, JumpsOne, Turns, Leaves}
use Rattle.plain_slice.proofs.slices.leave.Goals as goal

pub returns-clause-grown : goal.returns-clause-grown
returns-clause-grown c =
    let p = c.args.from in
    let old = c.args.pairs.now.items in
    let both = Grows-then old c.moves.new.pairs.items c.jumps.new.pairs.items (FromOne (MovesOne p) c.args.edges.now) (FromOne (JumpsOne p) c.args.levels.now) (λ q. FromOne (MovesOne p) c.args.edges.now q ⊎ FromOne (JumpsOne p) c.args.levels.now q) (λ q h. h) (λ q h. h) c.in_ok-moves.ensures.grown c.in_ok-jumps.ensures.grown in
    Grows-then old c.jumps.new.pairs.items c.add_if.new.pairs.items (λ q. FromOne (MovesOne p) c.args.edges.now q ⊎ FromOne (JumpsOne p) c.args.levels.now q) (Turns p) (Leaves c.args.edges.now c.args.levels.now p) (λ q h. h) (λ q h. h) both c.in_ok-add_if.ensures.grown
