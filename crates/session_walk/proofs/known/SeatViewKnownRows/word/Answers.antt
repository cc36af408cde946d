use Rattle.std.proofs.Common.{◌<◌, subst}
use Rattle.summary_memo.specs.Memo.{facts_of}
use Rattle.summary_memo.proofs.Widths.{width_is}
use Rattle.session_walk.proofs.known.SeatViewKnownRows.word.Goals as goal

pub mask-requires-clause-word : goal.mask-requires-clause-word
mask-requires-clause-word c =
    let w = c.requires.within in
    subst (λ n. c.args.k < n) (width_is (facts_of c.args.self.now.memo.now) c.args.e w.0 w.1) w.2
