use Rattle.std.proofs.Common.{◌∙◌, false, length, replicate, ap, arith}
use Rattle.thin_slice.specs.Marks.{found}
use Rattle.widening.proofs.MarkLaws.{from_nothing}
use Rattle.widening.proofs.StartLaws.{starting, no_pair_yet}
use Rattle.std.specs.Prelude.{Contains}
use Rattle.widening.proofs.wide.start.Goals as goal

pub add_nodes-requires-clause-marks : goal.add_nodes-requires-clause-marks
add_nodes-requires-clause-marks c = record { set = c.in_ok-up.ensures.set; size = c.in_ok-up.ensures.size ∙ c.count_nodes-size.ensures }

pub returns-clause-growing : goal.returns-clause-growing
returns-clause-growing c =
    let seeds = c.args.seeds.now in
    starting c.args.f.now seeds c.args.methods.now.items _ c.requires.methods c.new-accesses.ensures.items (c.in_ok-marks.ensures.items_if_clones_equal (λ y e. e) ∙ ap (λ k. replicate k false) c.count_nodes-size.ensures)
    c.new-asked.ensures.items c.new-queue.ensures.items (omega (arith, c.in_ok-found.ensures.len, ap length c.items-count.ensures)) c.in_ok-found.ensures.blank c.add_nodes.ensures.marks
    (λ n k. c.add_nodes.ensures.grown.all n k) (λ n k. from_nothing (found c.in_ok-up.up) (found c.add_nodes.new.marks) (Contains seeds) c.in_ok-up.ensures.none c.add_nodes.ensures.grown n k)
    (record { set = c.in_ok-down.ensures.set; size = c.in_ok-down.ensures.size ∙ c.count_nodes-size.ensures }) c.in_ok-down.ensures.none

pub returns-clause-expansions : goal.returns-clause-expansions
returns-clause-expansions c = c.new-accesses.ensures.items

pub returns-clause-none : goal.returns-clause-none
returns-clause-none c = no_pair_yet c.args.f.now c.in_ok-found.found.items c.in_ok-found.ensures.blank
