use Rattle.acceptance.proofs.OneEnd.{one_line, not_both, one_end}
use Rattle.acceptance.proofs.laws.one_end.Goals as goal

pub returns : goal.returns
returns c = record {
  line = λ m folder main a b. one_line m folder (c.one_walk.ensures m folder) (c.one_reading.ensures m) main a b;
  not_both = λ m folder main a p. not_both m folder (c.one_walk.ensures m folder) (c.one_reading.ensures m) main a p;
  program = λ m folder main p q. one_end m folder (c.one_walk.ensures m folder) (c.one_reading.ensures m) main p q;
}
