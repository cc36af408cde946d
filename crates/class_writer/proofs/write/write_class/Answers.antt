use Rattle.class_writer.proofs.Fit.{class_fits}
use Rattle.class_writer.proofs.write.write_class.Goals as goal

pub class_file-requires : goal.class_file-requires
class_file-requires c = class_fits c.args.class.now c.requires.1.0
