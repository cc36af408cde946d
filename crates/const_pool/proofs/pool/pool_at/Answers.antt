use Rattle.std.proofs.Common.{◌-◌, arith}
use Rattle.byte_form.specs.States.{state}
use Rattle.class_form.proofs.PoolLaws.{constants_end}
use Rattle.const_pool.proofs.pool.pool_at.Goals as goal

pub links-requires-clause-fits : goal.links-requires-clause-fits
links-requires-clause-fits c =
    let n = c.in_ok-count.count - 1 in
    let e = constants_end c.args.major n n (state c.u2.new.self) (state c.constants.new.cursor) c.in_ok-constants.constants.items c.u2.new.self.bytes c.in_ok-constants.ensures in
    rw c.from_vec.ensures (omega (arith, e, c.at-first.ensures, c.constants.new.cursor.fits))
