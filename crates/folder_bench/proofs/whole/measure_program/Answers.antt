use Rattle.std.specs.Prelude.{option_map}
use Rattle.folder_bench.proofs.whole.measure_program.Goals as goal

pub measure_loaded-requires : goal.measure_loaded-requires
measure_loaded-requires g c =
    let (p, parts, loaded, told) = c.in_ok-loaded.ensures.program in
    (p, record { parts = parts; main = option_map (λ b. b.now) c.args.main; loaded = loaded })
