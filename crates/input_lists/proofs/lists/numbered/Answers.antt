use Rattle.std.proofs.Common.{◌≡◌}
use Rattle.input_lists.proofs.Numbering.{numbered_scene, setting_of}
use Rattle.input_lists.proofs.lists.numbered.Goals as goal

pub gathered-requires : goal.gathered-requires
gathered-requires c =
    let x = c.args.edges.now in
    let r = c.requires in
    let s = x.system.now in
    let (p, of) = r.program in
    let g = setting_of p s c.args.effects.now x.entries.now x of.0 of.1 r.effects (c.constraints_give_the_facts.ensures p s of.0.asked of.0.constraints)
    (λ t w v among. let f = c.static_spots_are_of_static_variables.ensures p s t w v of.0.constraints among in (f.0, f.1)) in
    numbered_scene x c.args.effects.now p of g r.files r.solved r.firsts r.nodes r.small r.entries r.calls r.locations
