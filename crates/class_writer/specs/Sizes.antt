-- That counts and lengths fit into the numbers in which they are spelled.
use Rattle.std.specs.Prelude.{◌<◌, ◌-◌, ◌^◌, ℕ, suc, min, List, length, All}
use Rattle.class_form.specs.Spelling.{spell_content, spell_code_content}
use Rattle.class_form.specs.declared.pool.Pool.{Pool}
use Rattle.class_form.specs.declared.pool.Constant.{Constant}
use Rattle.class_form.specs.declared.pool.Constant.TheVariants.{Utf8}
use Rattle.class_form.specs.declared.class_file.ClassFile.{ClassFile}
use Rattle.class_form.specs.declared.class_file.Member.{Member}
use Rattle.class_form.specs.declared.class_file.Attribute.{Attribute}
use Rattle.class_form.specs.declared.class_file.Content.{Content}
use Rattle.class_form.specs.declared.class_file.Content.TheVariants as contents
use Rattle.class_form.specs.declared.class_file.CodeBody.{CodeBody}
use Rattle.class_form.specs.declared.class_file.CodeAttribute.{CodeAttribute}
use Rattle.class_form.specs.declared.class_file.CodeContent.{CodeContent}
use Rattle.class_form.specs.declared.class_file.CodeContent.TheVariants as codes

-- a number of bytes, where it is a number of 64 bits, and else the greatest of these
abbrev pub capped : ℕ → ℕ
capped n = min n (2 ^ 64 - 1)

abbrev pub FitsInfo : Constant → Type 0
FitsInfo (Utf8 text) = length text < 2 ^ 16
FitsInfo c = Unit {0}

pub record FitsPool (p : Pool) : Type 0 where
  pub count : suc (length p.constants) < 2 ^ 16
  pub infos : All FitsInfo p.constants

abbrev pub FitsCodeContent : CodeContent → Type 0
FitsCodeContent (codes.Lines lines) = length lines < 2 ^ 16
FitsCodeContent (codes.Other content) = Unit {0}

pub record FitsCodeAttribute (a : CodeAttribute) : Type 0 where
  pub size : length (spell_code_content a.content) < 2 ^ 32
  pub content : FitsCodeContent a.content

pub record FitsBody (b : CodeBody) : Type 0 where
  pub code : length b.code < 2 ^ 32
  pub handler_count : length b.handlers < 2 ^ 16
  pub attribute_count : length b.attributes < 2 ^ 16
  pub attributes : All FitsCodeAttribute b.attributes

abbrev pub FitsContent : Content → Type 0
FitsContent (contents.Code body) = FitsBody body
FitsContent (contents.Other content) = Unit {0}

pub record FitsAttribute (a : Attribute) : Type 0 where
  pub size : length (spell_content a.content) < 2 ^ 32
  pub content : FitsContent a.content

pub record FitsAttributes (attributes : List Attribute) : Type 0 where
  pub count : length attributes < 2 ^ 16
  pub all : All FitsAttribute attributes

abbrev pub FitsMember : Member → Type 0
FitsMember m = FitsAttributes m.attributes

pub record FitsMembers (ms : List Member) : Type 0 where
  pub count : length ms < 2 ^ 16
  pub all : All FitsMember ms

pub record FitsClass (c : ClassFile) : Type 0 where
  pub pool : FitsPool c.pool
  pub interface_count : length c.interfaces < 2 ^ 16
  pub fields : FitsMembers c.fields
  pub methods : FitsMembers c.methods
  pub attributes : FitsAttributes c.attributes
