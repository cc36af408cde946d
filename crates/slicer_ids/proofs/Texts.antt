-- No text comes before another one that comes before it.
use Rattle.std.proofs.Common.{◌≡◌, ℕ, List, refl, sym, ◌∙◌}
use Rattle.std.proofs.lemmas.Cmp.{nat_list_cmp_total, tied_itself}
use Rattle.slicer_ids.specs.Order.{BytesBefore}

pub bytes_asym : (x y : List ℕ) → BytesBefore x y → BytesBefore y x → ⊥
bytes_asym x y h k = absurd (cc (sym (nat_list_cmp_total.trans x y x h k) ∙ tied_itself nat_list_cmp_total x))
