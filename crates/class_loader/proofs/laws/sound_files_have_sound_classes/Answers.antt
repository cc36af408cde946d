use Rattle.std.proofs.lemmas.List.Sorted.{All-permutation}
use Rattle.class_loader.specs.Sound.{IsSoundClass}
use Rattle.class_loader.proofs.Files.{sound_classes}
use Rattle.class_loader.proofs.laws.sound_files_have_sound_classes.Goals as goal

pub returns-clause-files : goal.returns-clause-files
returns-clause-files c = λ contents files sound. sound_classes contents files sound

pub returns-clause-hierarchy : goal.returns-clause-hierarchy
returns-clause-hierarchy c = λ contents files classes sound h. All-permutation IsSoundClass files classes h.same (sound_classes contents files sound)
