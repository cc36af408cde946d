use Rattle.std.proofs.Common.{◌-◌, ◌∙◌, length, take, codes, sym}
use Rattle.std.proofs.lemmas.Slice.Eq.{ends_is}
use Rattle.std.proofs.lemmas.Bool.Decides.{Decides-eqb}
use Rattle.folder_reader.proofs.walk.is_class_file_name.Goals as goal

pub returns : goal.returns
returns c =
    let name = c.as_bytes.result.now in
    let h = ends_is Decides-eqb name (codes ".class") c.ends_with.result c.ends_with.ensures.value in
    let same = c.as_bytes.ensures.value in
    (λ t. (take (length name - 6) name, sym same ∙ h.0 t), λ p. h.1 p.0 (same ∙ p.1))
