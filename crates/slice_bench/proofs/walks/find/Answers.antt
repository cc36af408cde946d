use Rattle.slicer_ids.specs.declared.ids.Mode.TheVariants.{Thin}
use Rattle.slice_bench.proofs.walks.find.Goals as goal

pub go-go-requires-clause-walking : goal.go-go-requires-clause-walking
go-go-requires-clause-walking c = c.start.ensures.walking c.args.f.now c.args.mode c.requires.walk

pub returns-in_err-lap-clause-walk : goal.returns-in_err-lap-clause-walk
returns-in_err-lap-clause-walk c = (c.start.ensures.walking c.args.f.now Thin c.requires.walk).of
