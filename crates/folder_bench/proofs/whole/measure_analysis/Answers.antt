use Rattle.folder_bench.proofs.whole.measure_analysis.Goals as goal

pub measure_facts-requires : goal.measure_facts-requires
measure_facts-requires c =
    let (p, is) = c.requires in
    (p, is, c.in_ok-analysed.ensures.analysed p is)
