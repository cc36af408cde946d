use Rattle.std.proofs.Common.{refl}
use Rattle.variable_tables.proofs.MethodPlaces.{body_method}
use Rattle.constraints.specs.Places.{IsThere}
use Rattle.constraints.proofs.OfPlaces.{all_pushed, pushed_place, there}
use Rattle.constraints.proofs.places.push_instr.Goals as goal

pub member_of-requires : goal.member_of-requires
member_of-requires c = body_method c.args.h.now c.args.body.now c.requires.body

pub returns-in-Ok-clause-order : goal.returns-in-Ok-clause-order
returns-in-Ok-clause-order c =
    pushed_place c.args.places.now.items c.push.new.self.items _ c.args.body.now c.args.point.now c.in-Ok.ensures.items refl refl (c.args.instr.now, c.requires.instr.0, c.requires.instr.1)

pub returns-in-Ok-clause-each : goal.returns-in-Ok-clause-each
returns-in-Ok-clause-each c = λ bodies has followed all.
    all_pushed (IsThere c.args.h.now bodies) c.args.places.now.items c.push.new.self.items _ c.in-Ok.ensures.items all
    (there c.args.h.now bodies _ has followed c.requires.point c.requires.instr.0 c.requires.instr.1 c.member_of.ensures)
