-- What comes before what.
use Rattle.std.specs.Prelude.{◌≡◌, ◌<◌, ℕ, List, Some, slice_get, true}
use Rattle.std.specs.declared.cmp.Ordering.TheVariants.{Less}
use Rattle.std.specs.Ordering.{nat_cmp}
use Rattle.std.specs.Cmp.Lexicographic.{slice_cmp}
use Rattle.slicer_ids.specs.declared.ids.ClassId.{ClassId}
use Rattle.slicer_ids.specs.declared.ids.SiteId.{SiteId}
use Rattle.slicer_ids.specs.declared.ids.Statement.{Statement}
use Rattle.dep_form.specs.declared.node.Node.{Node}
use Rattle.dep_form.specs.Nodes.{is_formal}
use Rattle.dep_form.specs.declared.access.Access.{Access}
use Rattle.dep_form.specs.declared.texts.MethodText.{MethodText}
use Rattle.dep_form.specs.Orders.{line_cmp, method_cmp, statement_cmp}
use Rattle.dep_form.specs.Keys.{key_of_text, key_of_line, key_of_access, key_of_value}

abbrev pub NameBefore : List ℕ → List ℕ → Type 0
NameBefore a b = slice_cmp nat_cmp a b ≡ Less

abbrev pub TextBefore : MethodText → MethodText → Type 0
TextBefore a b = method_cmp (key_of_text a) (key_of_text b) ≡ Less

abbrev pub LineBefore : ClassId × ℕ × List Statement → ClassId × ℕ × List Statement → Type 0
LineBefore a b = line_cmp (key_of_line a) (key_of_line b) ≡ Less

abbrev pub AccessBefore : Statement × Access → Statement × Access → Type 0
AccessBefore a b = statement_cmp (key_of_access a) (key_of_access b) ≡ Less

abbrev pub ValueBefore : Statement × List SiteId → Statement × List SiteId → Type 0
ValueBefore a b = statement_cmp (key_of_value a) (key_of_value b) ≡ Less

-- a formal stands before each node, and what is no formal before no formal
abbrev pub FormalBefore : Node → Node → Type 0
FormalBefore a b = is_formal b ≡ true → is_formal a ≡ true

-- the item at this place, where one is there, comes before all that follow it
abbrev pub IsInOrderAt : {A : Type 0} → (A → A → Type 0) → List A → ℕ → Type 0
IsInOrderAt {A} Before xs k = (l : ℕ) (x y : A) → k < l → slice_get xs k ≡ Some x → slice_get xs l ≡ Some y → Before x y
