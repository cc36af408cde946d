-- The kinds of a pool's texts, at its indices.
use Rattle.std.proofs.Common.{◌≡◌, ℕ, suc, false, List, Option, Some, None, refl, sym, ap, subst, ◌∙◌}
use Rattle.std.specs.Prelude.{slice_get, option_and_then, option_map, is_some}
use Rattle.std.specs.Option.{option_map_or}
use Rattle.std.proofs.lemmas.Option.{slice_get-map}
use Rattle.class_form.specs.NameTests.{is_unqualified_name, is_method_name, is_field_type, is_method_type, parameter_slots, InDescriptor, Open, End, slots_at_end, is_end, reached, go_on_descriptor}
use Rattle.class_form.specs.Pools.{text_of, constant_at}
use Rattle.class_form.specs.PoolReading.{is_class_text}
use Rattle.class_form.specs.declared.pool.Pool.{Pool}
use Rattle.class_form.specs.declared.pool.Constant.{Constant}
use Rattle.class_form.specs.declared.pool.Constant.TheVariants.{Utf8}
use Rattle.const_pool.specs.declared.texts.TextKinds.{TextKinds}
use Rattle.const_pool.specs.Texts.{kinds_of, no_kinds, AreKindsOf, IsKinds}

end_slots : (s : Option InDescriptor) → is_some (slots_at_end s) ≡ is_end s
end_slots None = refl
end_slots (Some (End n)) = refl
end_slots (Some s) = refl

-- the same by the constant
record Are (o : Option Constant) (k : TextKinds) : Type 0 where
  unqualified : k.unqualified ≡ option_map_or is_unqualified_name (option_and_then text_of o) false
  method_name : k.method_name ≡ option_map_or is_method_name (option_and_then text_of o) false
  class : k.class ≡ option_map_or is_class_text (option_and_then text_of o) false
  field : k.field ≡ option_map_or is_field_type (option_and_then text_of o) false
  method : is_some k.slots ≡ option_map_or is_method_type (option_and_then text_of o) false
  slots : k.slots ≡ option_and_then parameter_slots (option_and_then text_of o)

of_constant : (c : Constant) → Are (Some c) (kinds_of c)
of_constant (Utf8 t) = record { unqualified = refl; method_name = refl; class = refl; field = refl; method = end_slots (reached go_on_descriptor Open t); slots = refl }
of_constant c = record { unqualified = refl; method_name = refl; class = refl; field = refl; method = refl; slots = refl }

of_none : Are None no_kinds
of_none = record { unqualified = refl; method_name = refl; class = refl; field = refl; method = refl; slots = refl }

at_constant : (p : Pool) (i : ℕ) (k : TextKinds) → Are (constant_at p i) k → IsKinds p i k
at_constant p i k h = record { unqualified = h.unqualified; method_name = h.method_name; class = h.class; field = h.field; method = h.method; slots = h.slots }

by_option : (o : Option Constant) (k : TextKinds) → option_map kinds_of o ≡ Some k → Are o k
by_option None k e = absurd cc
by_option (Some c) k e = let same : kinds_of c ≡ k = cc in subst (Are (Some c)) same (of_constant c)

by_no_option : (o : Option Constant) → option_map kinds_of o ≡ None → Are o no_kinds
by_no_option None e = of_none
by_no_option (Some c) e = absurd cc

-- the kinds found at an index
pub found : (p : Pool) (kinds : List TextKinds) (i : ℕ) (k : TextKinds) → AreKindsOf p kinds → slice_get kinds i ≡ Some k → IsKinds p (suc i) k
found p kinds i k all e = at_constant p (suc i) k (by_option (slice_get p.constants i) k (sym (slice_get-map kinds_of p.constants i) ∙ ap (λ (ks : List TextKinds). slice_get ks i) (sym all) ∙ e))

pub none_found : (p : Pool) (kinds : List TextKinds) (i : ℕ) → AreKindsOf p kinds → slice_get kinds i ≡ None → IsKinds p (suc i) no_kinds
none_found p kinds i all e = at_constant p (suc i) no_kinds (by_no_option (slice_get p.constants i) (sym (slice_get-map kinds_of p.constants i) ∙ ap (λ (ks : List TextKinds). slice_get ks i) (sym all) ∙ e))
