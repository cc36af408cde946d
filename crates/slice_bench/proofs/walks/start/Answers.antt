use Rattle.slicer_ids.specs.declared.ids.Mode.TheVariants.{Thin}
use Rattle.slice_bench.proofs.walks.start.Goals as goal

pub returns : goal.returns
returns c = (c.start.ensures.walking c.args.f.now Thin c.requires.walk).of
