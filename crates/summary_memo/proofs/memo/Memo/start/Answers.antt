use Rattle.std.proofs.Common.{arith, ◌∙◌, ◌≡◌, ◌<◌, length}
use Rattle.std.proofs.lemmas.Grind.{get_or_default_zero}
use Rattle.summary_memo.specs.Places.{before, widths}
use Rattle.summary_memo.specs.Memo.{facts_of}
use Rattle.summary_memo.proofs.Widths.{words_few}
use Rattle.summary_memo.proofs.memo.Memo.start.Goals as goal

pub returns-clause-few : goal.returns-clause-few
returns-clause-few c =
    let m = c.args.self.now in
    let f = facts_of m in
    let lt : c.args.k < length m.starts.items = omega (arith, c.requires, m.count) in
    let is : c.index.result.now ≡ before (widths f) c.args.k = c.index.ensures ∙ get_or_default_zero m.starts.items c.args.k c.index.result.now lt ∙ m.starts_are c.args.k c.requires in
    omega (arith, is, words_few f c.args.k c.requires)
