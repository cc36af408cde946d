-- The class files of tests.
use Rattle.std.proofs.Common.{◌≡◌, ℕ, ◌+◌, ◌<◌, ◌≤◌, ◌^◌, List, length, ap, ◌∙◌, arith, Some}
use Rattle.std.specs.Prelude.{All, sum_by}
use Rattle.std.proofs.lemmas.List.Elements.{All-weaker}
use Rattle.std.proofs.lemmas.List.Sums.{sum_by-le}
use Rattle.class_form.specs.Pools.{utf_at, class_at}
use Rattle.class_form.specs.Numbers.{HasTexts, AreApart, IsNamedClass}
use Rattle.class_form.specs.declared.pool.Pool.{Pool}
use Rattle.class_form.specs.declared.class_file.ClassFile.{ClassFile}
use Rattle.class_form.specs.declared.class_file.Member.{Member}
use Rattle.hierarchy_tests.specs.TestClasses.{HasTestTexts, IsTestClass}
use Rattle.hierarchy.specs.Trees.{AreFew}

lone_texts : (p : Pool) (ms : List Member) (i j : ℕ) → (n : List ℕ) × (utf_at p i ≡ Some n) → (d : List ℕ) × (utf_at p j ≡ Some d) → All (λ m. (m.name ≡ i) × (m.descriptor ≡ j)) ms → All (HasTexts p) ms
lone_texts p ms i j n d all = λ k e l. let h = all k e l in (n.0, d.0, ap (utf_at p) h.0 ∙ n.1, ap (utf_at p) h.1 ∙ d.1)

lone_apart : (p : Pool) (ms : List Member) → length ms ≤ 1 → AreApart p ms
lone_apart p ms h = λ i j d lt within e. omega (arith, lt, within, h)

pub test_class : (k : ClassFile) → HasTestTexts k.pool → k.this_class ≡ 2 → length k.fields ≤ 1 → All (λ m. (m.name ≡ 9) × (m.descriptor ≡ 10)) k.fields
    → length k.methods ≤ 1 → All (λ m. (m.name ≡ 11) × (m.descriptor ≡ 12)) k.methods → IsTestClass k
test_class k t this f fields m methods = record {
  named = record {
    named = (t.class.0, ap (class_at k.pool) this ∙ t.class.1);
    field_count = omega (arith, f);
    method_count = omega (arith, m);
    fields = lone_texts k.pool k.fields 9 10 t.field_name t.field_type fields;
    methods = lone_texts k.pool k.methods 11 12 t.method_name t.method_type methods;
    apart_fields = lone_apart k.pool k.fields f;
    apart_methods = lone_apart k.pool k.methods m;
  };
  few = omega (arith, f, m);
}

pub test_classes : (files : List ClassFile) → All IsTestClass files → All IsNamedClass files
test_classes files all = All-weaker IsTestClass IsNamedClass (λ k h. h.named) files all

pub few_test_classes : (files : List ClassFile) → All IsTestClass files → length files ≤ 2 ^ 20 → AreFew files
few_test_classes files all l =
    let s = sum_by-le (λ (k : ClassFile). length k.fields + length k.methods) 2 files (All-weaker IsTestClass (λ k. length k.fields + length k.methods ≤ 2) (λ k h. h.few) files all) in
    omega (arith, s, l)
