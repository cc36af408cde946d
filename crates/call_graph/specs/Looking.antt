-- What is looked at to find the entry methods. Cited by private functions alone.
use Rattle.std.specs.Prelude.{◌≡◌, ◌<◌, ℕ, true, List, Option, Some, None, Contains, codes}
use Rattle.slicer_ids.specs.Sets.{IsOrderedListOf}
use Rattle.class_form.specs.Classes.{Declared, IsPublic, IsStatic, class_name}
use Rattle.class_form.specs.Pools.{utf_at}
use Rattle.class_form.specs.declared.class_file.Attribute.{Attribute}
use Rattle.class_form.specs.declared.class_file.ClassFile.{ClassFile}
use Rattle.class_form.specs.declared.class_file.CodeBody.{CodeBody}
use Rattle.class_form.specs.declared.class_file.Content.TheVariants.{Code}
use Rattle.class_form.specs.declared.class_file.Member.{Member}
use Rattle.dep_form.specs.declared.rules.Entry.{Entry}
use Rattle.call_graph.specs.Entries.{IsEntry}

abbrev pub IsCodeAttribute : Attribute → Type 0
IsCodeAttribute a = (c : CodeBody) × (a.content ≡ Code c)

-- one of the attributes is code
abbrev pub HasCodeAmong : List Attribute → Type 0
HasCodeAmong attributes = (a : Attribute) × Contains attributes a × IsCodeAttribute a

-- this class has the name, where one is given
abbrev pub HasChosenName : Option (List ℕ) → ClassFile → Type 0
HasChosenName None k = Unit {0}
HasChosenName (Some name) k = class_name k ≡ Some name

-- a method of this class is an entry method, where its class is chosen
abbrev pub IsMainMethod : ClassFile → Member → Type 0
IsMainMethod k m =
    IsPublic m.flags × IsStatic m.flags × (utf_at k.pool m.name ≡ Some (codes "main"))
    × (utf_at k.pool m.descriptor ≡ Some (codes "([Ljava/lang/String;)V")) × HasCodeAmong m.attributes

-- the entry of the method of this number
abbrev pub entry_of : ℕ → Entry
entry_of n = record { method = record { 0 = n }; arguments = true }

-- the entries of the methods below a number, in order
abbrev pub AreEntriesBelow : List ClassFile → List Declared → Option (List ℕ) → List Entry → ℕ → Type 0
AreEntriesBelow classes methods main entries n =
    IsOrderedListOf (λ (a : Entry) (b : Entry). a.method.0 < b.method.0) entries (λ e. (e.method.0 < n) × IsEntry classes methods main e)
