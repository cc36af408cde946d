use Rattle.std.proofs.Common.{◌+◌, sym, subst, ◌∙◌}
use Rattle.std.proofs.lemmas.Bool.{false≢true}
use Rattle.std.proofs.lemmas.Result.{on_ok_weaker}
use Rattle.slicer_ids.specs.Sets.{IsOrderedListOf}
use Rattle.signature_tables.specs.Pairs.{ClassesBefore, IsSubPairUpTo}
use Rattle.signature_tables.proofs.SubPairs.{pair_added, pair_passed}
use Rattle.signature_tables.proofs.subclasses.push_sub.Goals as goal

pub returns-then-is_sub : goal.returns-then-is_sub
returns-then-is_sub c = on_ok_weaker c.push.result
    (λ e. subst (λ ps. IsOrderedListOf ClassesBefore ps (IsSubPairUpTo c.args.h.now c.args.a (c.args.b + 1))) (sym e)
    (pair_added c.args.h.now c.args.a c.args.b c.args.pairs.now.items c.requires.a c.requires.b (c.is_sub.ensures.0 c.if-is_sub.true) c.requires.listed))
    c.push.ensures

pub returns-else-is_sub : goal.returns-else-is_sub
returns-else-is_sub c = pair_passed c.args.h.now c.args.a c.args.b c.args.pairs.now.items (λ is. false≢true (sym c.if-is_sub.false ∙ c.is_sub.ensures.1 is)) c.requires.listed
