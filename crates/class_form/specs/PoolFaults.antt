-- The first violated item of a constant pool: its items and rules, in the order in which they are checked.
use Rattle.std.specs.Prelude.{◌≡◌, ◌⊎◌, ◌<◌, ◌-◌, ◌+◌, nat_eq, ◌||◌, if◌then◌else◌, ℕ, suc, List, [], ◌∷◌, ◌++◌, length, Ok, Err}
use Rattle.byte_form.specs.Places.{Takes, start}
use Rattle.byte_form.specs.Forms.{Fault, Truncated, Broken, Form, number, bytes, here, rule, made, list, either, ◌>>=◌, ◌>>◌}
use Rattle.class_form.specs.Utf8.{IsModifiedUtf8}
use Rattle.class_form.specs.Spelling.{tag_of, spell_info, spell_constant, spell_pool}
use Rattle.class_form.specs.PoolRules.{IsTag, IsInfo, IsWide, HasKinds, HasTexts, IsPool}
use Rattle.class_form.specs.declared.pool.Pool.{Pool}
use Rattle.class_form.specs.declared.pool.Constant.{Constant}
use Rattle.class_form.specs.declared.pool.Constant.TheVariants.{Utf8, Second}

-- how many bytes stand behind a tag, but for that of a text
abbrev pub info_size : ℕ → ℕ
info_size tag =
    if nat_eq tag 5 || nat_eq tag 6 then 8
    else if nat_eq tag 7 || nat_eq tag 8 || nat_eq tag 16 then 2
    else if nat_eq tag 15 then 3
    else 4

-- what stands behind a tag that isn't that of a text
unfoldable pub info : ℕ → Form Fault Constant
info tag s (Ok x) = (tag_of x.0 ≡ tag) × IsInfo x.0 × Takes s (spell_info x.0) x.1
info tag s (Err f) = (length s.rest < info_size tag) × (f ≡ Truncated)

-- a text; the tag stands at the offset
unfoldable pub text : ℕ → Form Fault Constant
text at = do
  len ← number 2
  content ← bytes len
  rule (IsModifiedUtf8 content) (Broken 2 at)
  made (Utf8 content)

-- a constant that stands before so many more indices
unfoldable pub constant : ℕ → ℕ → Form Fault Constant
constant major left = do
  at ← here
  tag ← number 1
  rule (IsTag major tag) (Broken 1 at)
  rule ((tag ≡ 5) ⊎ (tag ≡ 6) → 0 < left) (Broken 3 at)
  either (tag ≡ 1) (text at) (info tag)

-- the last of some constants takes another index
abbrev pub EndsWide : List Constant → Type 0
EndsWide before = (others : List Constant) × (last : Constant) × (before ≡ others ++ last ∷ []) × IsWide last

-- what stands at the next of so many indices, behind the constants before
unfoldable pub index : ℕ → ℕ → List Constant → Form Fault Constant
index major count before = either (EndsWide before) (made Second) (constant major (count - suc (length before)))

-- the rules on each constant of a pool, in order; the first stands at the offset
unfoldable pub links : Pool → ℕ → List Constant → Form Fault (Unit {0})
links p at [] = made tt
links p at (c ∷ cs) = do
  rule (HasKinds p c) (Broken 4 at)
  rule (HasTexts p c) (Broken 5 at)
  links p (at + length (spell_constant c)) cs

unfoldable pub pool : ℕ → Form Fault Pool
pool major = do
  at ← here
  count ← number 2
  rule (0 < count) (Broken 3 at)
  first ← here
  constants ← list (index major (count - 1)) (count - 1) []
  links (record { constants = constants; major = major }) first constants
  made (record { constants = constants; major = major })

-- the first violated item of a pool that the bytes begin with
abbrev pub IsFirstPoolFault : ℕ → List ℕ → Fault → Type 0
IsFirstPoolFault major bytes fault = pool major (start bytes) (Err fault)

-- the bytes begin with the pool, in so many bytes
abbrev pub SpellsPool : ℕ → List ℕ → Pool → ℕ → Type 0
SpellsPool major bytes p len = IsPool p × (p.major ≡ major) × (rest : List ℕ) × (bytes ≡ spell_pool p ++ rest) × (len ≡ length (spell_pool p))
