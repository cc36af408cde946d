use Rattle.std.proofs.Common.{rules}
use Rattle.body_rules.proofs.OneLine.{found_fault, found_bad}
use Rattle.class_loader.proofs.sound.read_sound.Goals as goal

pub returns-in_err-class-clause-refused : goal.returns-in_err-class-clause-refused
returns-in_err-class-clause-refused c = λ line e. found_fault c.args.path.now c.args.bytes.now line c.class_of.ensures.octets (c.class_of.ensures.refused line (search rules))

pub returns-in_err-try_bodies-clause-refused : goal.returns-in_err-try_bodies-clause-refused
returns-in_err-try_bodies-clause-refused c = λ line e. found_bad c.args.path.now c.args.bytes.now line c.in_ok-class.class c.class_of.ensures.octets c.in_ok-class.ensures.found (c.try_bodies.ensures.refused line (search rules))

pub returns-clause-sound : goal.returns-clause-sound
returns-clause-sound c = record { octets = c.class_of.ensures.octets; spells = c.in_ok-class.ensures.found; bodies = c.in_ok-try_bodies.ensures.bodies }
