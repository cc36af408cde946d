-- The first violated item of a class file: its items and rules, in the order in which they are checked.
use Rattle.std.specs.Prelude.{◌≡◌, ◌<◌, ℕ, List, [], All, Any, codes, Ok, Err}
use Rattle.byte_form.specs.Places.{start}
use Rattle.byte_form.specs.Forms.{Fault, Broken, Form, number, bytes, here, rule, made, list, either, inside, ◌>>=◌, ◌>>◌}
use Rattle.class_form.specs.PoolRules.{IsUtf}
use Rattle.class_form.specs.ClassRules.{IsNamed, IsPlainClass, IsSuperclass, AreFieldTexts, AreMethodTexts, HasTextsOf, IsCode, HasCodeWhereNeeded, IsCodeLength, IsHandler, HasSlots, HasLocalsForAll, IsOfKind, IsVersion}
use Rattle.class_form.specs.PoolFaults.{pool}
use Rattle.class_form.specs.declared.pool.Pool.{Pool}
use Rattle.class_form.specs.declared.class_file.ClassFile.{ClassFile}
use Rattle.class_form.specs.declared.class_file.Member.{Member}
use Rattle.class_form.specs.declared.class_file.Attribute.{Attribute}
use Rattle.class_form.specs.declared.class_file.Content.{Content}
use Rattle.class_form.specs.declared.class_file.Content.TheVariants as contents
use Rattle.class_form.specs.declared.class_file.CodeBody.{CodeBody}
use Rattle.class_form.specs.declared.class_file.CodeAttribute.{CodeAttribute}
use Rattle.class_form.specs.declared.class_file.CodeContent.{CodeContent}
use Rattle.class_form.specs.declared.class_file.CodeContent.TheVariants as code_contents
use Rattle.class_form.specs.declared.class_file.Handler.{Handler}

-- a count, and so many items, each of which may depend on those before
abbrev pub counted : {A : Type 0} → (List A → Form Fault A) → Form Fault (List A)
counted item = do
  count ← number 2
  list item count []

-- ATTRIBUTES. Each begins with the index of its name.

-- a length, and content of that length that is kept as it is
unfoldable pub kept : Form Fault (List ℕ)
kept = do
  len ← number 4
  bytes len

-- of a field or a class
unfoldable pub plain_attribute : Pool → Form Fault Attribute
plain_attribute p = do
  at ← here
  name ← number 2
  rule (IsUtf p name) (Broken 11 at)
  content ← kept
  made (record { name = name; content = contents.Other content })

-- a pair of a line table, in code of this length
unfoldable pub line : ℕ → Form Fault (ℕ × ℕ)
line len = do
  at ← here
  pc ← number 2
  number ← number 2
  rule (pc < len) (Broken 16 at)
  made (pc, number)

-- the content of a line table whose attribute stands at the offset
unfoldable pub lines : ℕ → ℕ → Form Fault CodeContent
lines len at = do
  size ← number 4
  first ← here
  content ← bytes size
  pairs ← inside (Broken 12 at) first content (counted (λ _. line len))
  made (code_contents.Lines pairs)

unfoldable pub other_code_content : Form Fault CodeContent
other_code_content = do
  content ← kept
  made (code_contents.Other content)

-- of code of this length
unfoldable pub code_attribute : Pool → ℕ → Form Fault CodeAttribute
code_attribute p len = do
  at ← here
  name ← number 2
  rule (IsUtf p name) (Broken 11 at)
  content ← either (IsNamed p name (codes "LineNumberTable")) (lines len at) other_code_content
  made (record { name = name; content = content })

-- CODE

-- an entry of the exception table, of code of this length
unfoldable pub handler : Pool → ℕ → Form Fault Handler
handler p len = do
  at ← here
  start ← number 2
  end ← number 2
  handler ← number 2
  catch_type ← number 2
  rule (IsHandler p len (record { start = start; end = end; handler = handler; catch_type = catch_type })) (Broken 15 at)
  made (record { start = start; end = end; handler = handler; catch_type = catch_type })

unfoldable pub body : Pool → Form Fault CodeBody
body p = do
  max_stack ← number 2
  max_locals ← number 2
  at ← here
  len ← number 4
  rule (IsCodeLength len) (Broken 14 at)
  code ← bytes len
  handlers ← counted (λ _. handler p len)
  attributes ← counted (λ _. code_attribute p len)
  made (record { max_stack = max_stack; max_locals = max_locals; code = code; handlers = handlers; attributes = attributes })

-- the content of a Code whose attribute stands at the offset, behind these attributes of its method
unfoldable pub code : Pool → ℕ → List Attribute → Form Fault Content
code p at before = do
  size ← number 4
  first ← here
  content ← bytes size
  rule (Any IsCode before → ⊥) (Broken 13 at)
  code ← inside (Broken 12 at) first content (body p)
  made (contents.Code code)

unfoldable pub other_content : Form Fault Content
other_content = do
  content ← kept
  made (contents.Other content)

-- of a method, behind these
unfoldable pub method_attribute : Pool → List Attribute → Form Fault Attribute
method_attribute p before = do
  at ← here
  name ← number 2
  rule (IsUtf p name) (Broken 11 at)
  content ← either (IsNamed p name (codes "Code")) (code p at before) other_content
  made (record { name = name; content = content })

-- MEMBERS

-- a field, behind these
unfoldable pub field : Pool → List Member → Form Fault Member
field p before = do
  at ← here
  flags ← number 2
  name ← number 2
  descriptor ← number 2
  rule (AreFieldTexts p name descriptor) (Broken 9 at)
  rule (All (λ m. HasTextsOf p m name descriptor → ⊥) before) (Broken 10 at)
  attributes ← counted (λ _. plain_attribute p)
  made (record { flags = flags; name = name; descriptor = descriptor; attributes = attributes })

-- a method of a class with these flags, behind these
unfoldable pub method : Pool → ℕ → List Member → Form Fault Member
method p class_flags before = do
  at ← here
  flags ← number 2
  name ← number 2
  descriptor ← number 2
  rule (AreMethodTexts p name descriptor) (Broken 9 at)
  rule (All (λ m. HasTextsOf p m name descriptor → ⊥) before) (Broken 10 at)
  rule (HasSlots p flags descriptor) (Broken 17 at)
  rule (IsOfKind p class_flags flags name) (Broken 18 at)
  attributes ← counted (method_attribute p)
  rule (HasCodeWhereNeeded p flags name attributes) (Broken 13 at)
  rule (HasLocalsForAll p flags descriptor attributes) (Broken 17 at)
  made (record { flags = flags; name = name; descriptor = descriptor; attributes = attributes })

-- THE CLASS FILE

unfoldable pub interface : Pool → Form Fault ℕ
interface p = do
  at ← here
  i ← number 2
  rule (IsPlainClass p i) (Broken 8 at)
  made i

-- behind the version
unfoldable pub class : ℕ → ℕ → Form Fault ClassFile
class minor major = do
  p ← pool major
  flags ← number 2
  this_at ← here
  this_class ← number 2
  rule (IsPlainClass p this_class) (Broken 6 this_at)
  super_at ← here
  super_class ← number 2
  rule (IsSuperclass p this_class super_class) (Broken 7 super_at)
  interfaces ← counted (λ _. interface p)
  fields ← counted (field p)
  methods ← counted (method p flags)
  attributes ← counted (λ _. plain_attribute p)
  made (record { minor = minor; major = major; pool = p; flags = flags; this_class = this_class; super_class = super_class; interfaces = interfaces; fields = fields; methods = methods; attributes = attributes })

pub data ClassFault : Type 0 where
  -- the magic number is another
  NotClass : ClassFault
  -- the major version isn't one that is read
  Version : (major : ℕ) → ClassFault
  -- an item isn't whole, or breaks a rule
  Item : (fault : Fault) → ClassFault
  -- bytes stand behind the last item, the first at this offset
  Trailing : (at : ℕ) → ClassFault

-- items within a class file
unfoldable pub items : {A : Type 0} → Form Fault A → Form ClassFault A
items form s (Ok x) = form s (Ok x)
items form s (Err NotClass) = ⊥
items form s (Err (Version major)) = ⊥
items form s (Err (Item f)) = form s (Err f)
items form s (Err (Trailing at)) = ⊥

-- no byte is left
unfoldable pub ended : Form ClassFault (Unit {0})
ended s = rule (s.rest ≡ []) (Trailing s.at) s

-- a class file, behind which more may stand
unfoldable pub class_file : Form ClassFault ClassFile
class_file = do
  magic ← items (number 4)
  rule (magic ≡ 0xcafebabe) NotClass
  minor ← items (number 2)
  major ← items (number 2)
  rule (IsVersion major) (Version major)
  items (class minor major)

unfoldable pub file : Form ClassFault ClassFile
file = do
  c ← class_file
  ended
  made c

-- the first violated item of the bytes of a file
abbrev pub IsFirstFault : List ℕ → ClassFault → Type 0
IsFirstFault bytes fault = file (start bytes) (Err fault)
