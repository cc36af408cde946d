use Rattle.points_to.specs.Solved.{var}
use Rattle.points_to.proofs.Listed.{sites_listed}
use Rattle.points_to.proofs.reading.sites_of.Goals as goal

pub returns : goal.returns
returns c = sites_listed c.args.found.now (var c.args.v.0) c.in_ok-numbers.numbers.items c.as_slice.result.now c.in_ok-sites.sites.items c.from_vec.result c.as_slice.ensures.value c.in_ok-numbers.ensures c.in_ok-sites.ensures.len c.in_ok-sites.ensures.each c.from_vec.ensures
