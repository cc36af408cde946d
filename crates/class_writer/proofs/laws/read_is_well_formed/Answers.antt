use Rattle.class_writer.proofs.laws.read_is_well_formed.Goals as goal

pub returns : goal.returns
returns c = λ bytes read h. (bytes, h)
