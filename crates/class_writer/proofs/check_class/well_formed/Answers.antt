use Rattle.std.proofs.Common.{◌∙◌, sym}
use Rattle.class_writer.proofs.ClassDecided.{is_spelled-Decides}
use Rattle.class_writer.proofs.check_class.well_formed.Goals as goal

pub returns : goal.returns
returns c = let d = is_spelled-Decides c.args.class.now in (λ e. d.0 (sym c.is_class_file.ensures ∙ e), λ h. c.is_class_file.ensures ∙ d.1 h)
