use Rattle.std.proofs.Common.{◌∙◌}
use Rattle.thin_slice.specs.Marks.{found}
use Rattle.thin_slice.proofs.Starting.{seed_more}
use Rattle.thin_slice.proofs.walk.add_all.Goals as goal

pub loop-seed-preserved : goal.loop-seed-preserved
loop-seed-preserved c = record {
  set = c.add.ensures.set;
  size = c.add.ensures.size ∙ c.loop-seed.invariant.size;
  grown = seed_more c.args.seeds.now c.loop-seed.seed-index _ (found c.args.nodes.now) (found c.loop-seed.nodes) (found c.add.new.self) c.loop-seed-test.true c.loop-seed.invariant.grown c.add.ensures.grown;
}
