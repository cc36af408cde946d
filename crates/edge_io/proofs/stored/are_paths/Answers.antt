use Rattle.std.proofs.Common.{refl, sym, true≢false}
use Rattle.edge_io.proofs.PathTests.{more, at_place}
use Rattle.edge_io.proofs.stored.are_paths.Goals as goal

pub loop-place-preserved : goal.loop-place-preserved
loop-place-preserved c =
    more c.args.files.now c.loop-place.place c.index-files-place.result c.bytes.result.now c.loop-place-test.true c.index-files-place.is c.bytes.ensures c.loop-place.invariant (c.if-not-is_new_path.ensures.0 refl)

pub returns-then-not-is_new_path : goal.returns-then-not-is_new_path
returns-then-not-is_new_path c =
    (λ f. absurd (true≢false (sym f)), λ p. c.if-not-is_new_path.ensures.1 (at_place c.args.files.now c.loop-place.place c.index-files-place.result c.bytes.result.now c.loop-place-test.true c.index-files-place.is c.bytes.ensures p))
