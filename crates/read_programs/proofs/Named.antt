-- A class file that keeps the rules has what numbering asks of it.
use Rattle.std.proofs.Common.{List, All}
use Rattle.std.proofs.lemmas.List.Elements.{All-weaker}
use Rattle.class_form.specs.ClassRules.{IsClassFile, IsFieldMember, IsMethodMember}
use Rattle.class_form.specs.Numbers.{HasTexts, IsNamedClass}
use Rattle.class_form.specs.declared.class_file.ClassFile.{ClassFile}
use Rattle.class_form.specs.declared.class_file.Member.{Member}

pub named : (k : ClassFile) → IsClassFile k → IsNamedClass k
named k h = record {
  named = (h.this_class.0, h.this_class.1);
  field_count = h.field_count;
  method_count = h.method_count;
  fields = All-weaker (IsFieldMember k.pool) (HasTexts k.pool) (λ (m : Member) g. (g.texts.0, g.texts.1, g.texts.2, g.texts.3)) k.fields h.fields;
  methods = All-weaker (IsMethodMember k.pool k.flags) (HasTexts k.pool) (λ (m : Member) g. (g.texts.0, g.texts.1, g.texts.2, g.texts.3)) k.methods h.methods;
  apart_fields = h.distinct_fields;
  apart_methods = h.distinct_methods;
}

pub all_named : (ks : List ClassFile) → All IsClassFile ks → All IsNamedClass ks
all_named ks h = All-weaker IsClassFile IsNamedClass named ks h
