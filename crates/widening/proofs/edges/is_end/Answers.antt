use Rattle.std.proofs.Common.{◌∙◌, false, sym, arith}
use Rattle.std.proofs.lemmas.List.{get_or_read}
use Rattle.widening.proofs.edges.is_end.Goals as goal

pub returns : goal.returns
returns c =
    let read = get_or_read c.args.expansions.now.marks.items c.args.n.0 c.index.result.now (omega (arith, c.requires.expansions.len, c.requires.node)) c.index.ensures false in
    (λ t. c.requires.expansions.marked c.args.n (sym read ∙ t), λ h. read ∙ c.requires.expansions.all c.args.n h)
