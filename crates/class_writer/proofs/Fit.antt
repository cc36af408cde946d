-- The counts and lengths of a class file fit into the numbers in which they are spelled.
use Rattle.std.proofs.Common.{ℕ, ◌<◌, ◌^◌, List, length, arith}
use Rattle.std.specs.List.{All}
use Rattle.std.proofs.lemmas.List.Elements.{All-from_recursion, All-weaker}
use Rattle.class_form.specs.PoolRules.{IsInfo, IsPool}
use Rattle.class_form.specs.ClassRules.{IsCodeContent, IsCodeAttribute, IsBody, IsContent, IsMethodAttribute, IsPlainAttribute, IsFieldMember, IsMethodMember, IsClassFile, IsCode}
use Rattle.class_form.specs.declared.pool.Pool.{Pool}
use Rattle.class_form.specs.declared.pool.Constant.{Constant}
use Rattle.class_form.specs.declared.pool.Constant.TheVariants.{Utf8}
use Rattle.class_form.specs.declared.class_file.ClassFile.{ClassFile}
use Rattle.class_form.specs.declared.class_file.Member.{Member}
use Rattle.class_form.specs.declared.class_file.Attribute.{Attribute}
use Rattle.class_form.specs.declared.class_file.Content.{Content}
use Rattle.class_form.specs.declared.class_file.Content.TheVariants as contents
use Rattle.class_form.specs.declared.class_file.CodeBody.{CodeBody}
use Rattle.class_form.specs.declared.class_file.CodeAttribute.{CodeAttribute}
use Rattle.class_form.specs.declared.class_file.CodeContent.{CodeContent}
use Rattle.class_form.specs.declared.class_file.CodeContent.TheVariants as codes
use Rattle.class_writer.specs.Sizes.{FitsInfo, FitsPool, FitsCodeContent, FitsCodeAttribute, FitsBody, FitsContent, FitsAttribute, FitsAttributes, FitsMember, FitsMembers, FitsClass}

info_fits : (c : Constant) → IsInfo c → FitsInfo c
info_fits (Utf8 text) h = h.0
info_fits c h = tt

pool_fits : (p : Pool) → IsPool p → FitsPool p
pool_fits p h = record { count = h.count; infos = All-weaker IsInfo FitsInfo info_fits _ (All-from_recursion IsInfo _ h.infos) }

code_content_fits : (p : Pool) (len name : ℕ) (c : CodeContent) → IsCodeContent p len name c → FitsCodeContent c
code_content_fits p len name (codes.Lines lines) h = h.1
code_content_fits p len name (codes.Other content) h = tt

code_attribute_fits : (p : Pool) (len : ℕ) (a : CodeAttribute) → IsCodeAttribute p len a → FitsCodeAttribute a
code_attribute_fits p len a h = record { size = h.size; content = code_content_fits p len a.name a.content h.content }

body_fits : (p : Pool) (b : CodeBody) → IsBody p b → FitsBody b
body_fits p b h = record {
  code = omega (arith, h.code.1);
  handler_count = h.handler_count;
  attribute_count = h.attribute_count;
  attributes = All-weaker (IsCodeAttribute p (length b.code)) FitsCodeAttribute (code_attribute_fits p (length b.code)) _ h.attributes;
}

content_fits : (p : Pool) (name : ℕ) (c : Content) → IsContent p name c → FitsContent c
content_fits p name (contents.Code body) h = body_fits p body h.1
content_fits p name (contents.Other content) h = tt

method_attribute_fits : (p : Pool) (a : Attribute) → IsMethodAttribute p a → FitsAttribute a
method_attribute_fits p a h = record { size = h.size; content = content_fits p a.name a.content h.content }

plain_content_fits : (n : ℕ) (c : Content) → (IsCode (record { name = n; content = c }) → ⊥) → FitsContent c
plain_content_fits n (contents.Code body) h = absurd (h tt)
plain_content_fits n (contents.Other content) h = tt

plain_attribute_fits : (p : Pool) (a : Attribute) → IsPlainAttribute p a → FitsAttribute a
plain_attribute_fits p a h = record { size = h.size; content = plain_content_fits a.name a.content h.plain }

plain_attributes_fit : (p : Pool) (attributes : List Attribute) → length attributes < 2 ^ 16 → All (IsPlainAttribute p) attributes → FitsAttributes attributes
plain_attributes_fit p attributes count all = record { count = count; all = All-weaker (IsPlainAttribute p) FitsAttribute (plain_attribute_fits p) _ all }

field_fits : (p : Pool) (m : Member) → IsFieldMember p m → FitsMember m
field_fits p m h = plain_attributes_fit p m.attributes h.attribute_count h.attributes

method_fits : (p : Pool) (class_flags : ℕ) (m : Member) → IsMethodMember p class_flags m → FitsMember m
method_fits p class_flags m h = record { count = h.attribute_count; all = All-weaker (IsMethodAttribute p) FitsAttribute (method_attribute_fits p) _ h.attributes }

pub class_fits : (c : ClassFile) → IsClassFile c → FitsClass c
class_fits c h = record {
  pool = pool_fits c.pool h.pool;
  interface_count = h.interface_count;
  fields = record { count = h.field_count; all = All-weaker (IsFieldMember c.pool) FitsMember (field_fits c.pool) _ h.fields };
  methods = record { count = h.method_count; all = All-weaker (IsMethodMember c.pool c.flags) FitsMember (method_fits c.pool c.flags) _ h.methods };
  attributes = plain_attributes_fit c.pool c.attributes h.attribute_count h.attributes;
}
