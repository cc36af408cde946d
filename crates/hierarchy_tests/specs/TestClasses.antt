-- The class files of tests.
use Rattle.std.specs.Prelude.{◌≡◌, ◌+◌, ◌≤◌, ℕ, List, length, Some}
use Rattle.class_form.specs.Pools.{utf_at, class_at}
use Rattle.class_form.specs.Numbers.{IsNamedClass}
use Rattle.class_form.specs.declared.pool.Pool.{Pool}
use Rattle.class_form.specs.declared.class_file.ClassFile.{ClassFile}

-- the constants that its class and members name are there
pub record HasTestTexts (p : Pool) : Type 0 where
  pub class : (n : List ℕ) × (class_at p 2 ≡ Some n)
  pub field_name : (n : List ℕ) × (utf_at p 9 ≡ Some n)
  pub field_type : (n : List ℕ) × (utf_at p 10 ≡ Some n)
  pub method_name : (n : List ℕ) × (utf_at p 11 ≡ Some n)
  pub method_type : (n : List ℕ) × (utf_at p 12 ≡ Some n)

-- a class of at most one field and one method
pub record IsTestClass (k : ClassFile) : Type 0 where
  pub named : IsNamedClass k
  pub few : length k.fields + length k.methods ≤ 2
