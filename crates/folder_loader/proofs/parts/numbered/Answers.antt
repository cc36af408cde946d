use Rattle.std.proofs.Common.{map}
use Rattle.hierarchy.specs.Places.{declared_at}
use Rattle.folder_loader.proofs.parts.numbered.Goals as goal

pub returns : goal.returns
returns c = (map declared_at c.method_places-methods.result.now, map declared_at c.field_places-fields.result.now, c.method_places-methods.ensures, c.field_places-fields.ensures)
