-- What the texts of a pool are.
use Rattle.std.specs.Prelude.{◌≡◌, false, ℕ, List, None, is_some, option_and_then, map}
use Rattle.class_form.specs.NameTests.{is_unqualified_name, is_method_name, is_field_type, is_method_type, parameter_slots}
use Rattle.class_form.specs.Pools.{utf_at}
use Rattle.class_form.specs.PoolReading.{text_is, is_class_text}
use Rattle.class_form.specs.declared.pool.Pool.{Pool}
use Rattle.class_form.specs.declared.pool.Constant.{Constant}
use Rattle.class_form.specs.declared.pool.Constant.TheVariants.{Utf8}
use Rattle.const_pool.specs.declared.texts.TextKinds.{TextKinds}

abbrev pub kinds_of_text : List ℕ → TextKinds
kinds_of_text t = record { unqualified = is_unqualified_name t; method_name = is_method_name t; class = is_class_text t; field = is_field_type t; slots = parameter_slots t }

abbrev pub no_kinds : TextKinds
no_kinds = record { unqualified = false; method_name = false; class = false; field = false; slots = None }

abbrev pub kinds_of : Constant → TextKinds
kinds_of (Utf8 t) = kinds_of_text t
kinds_of c = no_kinds

-- the kinds are those of the pool's constants
abbrev pub AreKindsOf : Pool → List TextKinds → Type 0
AreKindsOf p kinds = kinds ≡ map kinds_of p.constants

-- what the text at an index is
pub record IsKinds (p : Pool) (i : ℕ) (k : TextKinds) : Type 0 where
  pub unqualified : k.unqualified ≡ text_is is_unqualified_name p i
  pub method_name : k.method_name ≡ text_is is_method_name p i
  pub class : k.class ≡ text_is is_class_text p i
  pub field : k.field ≡ text_is is_field_type p i
  pub method : is_some k.slots ≡ text_is is_method_type p i
  pub slots : k.slots ≡ option_and_then parameter_slots (utf_at p i)
