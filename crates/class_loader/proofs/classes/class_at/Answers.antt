use Rattle.std.proofs.Common.{Some, ap, ◌∙◌, rules}
use Rattle.class_loader.proofs.Files.{below_at, small_at}
use Rattle.class_loader.proofs.classes.class_at.Goals as goal

pub path_below-below-requires : goal.path_below-below-requires
path_below-below-requires c = below_at c.args.folder.now c.args.paths.now c.args.place c.path_at-path.result.now c.requires.below c.path_at-path.ensures

pub read_sound-requires : goal.read_sound-requires
read_sound-requires c = small_at c.args.contents.now c.args.place c.bytes_at-bytes.result.now c.requires.small c.bytes_at-bytes.ensures

pub returns-in_err-class-clause-refused : goal.returns-in_err-class-clause-refused
returns-in_err-class-clause-refused c = λ line e. (
  c.path_below-below.result.now,
  c.bytes_at-bytes.result.now,
  c.path_at-path.ensures ∙ ap Some c.path_below-below.ensures,
  c.bytes_at-bytes.ensures,
  c.read_sound.ensures.refused line (search rules),
)

pub returns-clause-sound : goal.returns-clause-sound
returns-clause-sound c = (c.bytes_at-bytes.result.now, c.bytes_at-bytes.ensures, c.in_ok-class.ensures.sound)
