-- The methods of a class, and their code.
use Rattle.std.proofs.Common.{◌≡◌, ◌<◌, ◌+◌, ℕ, List, length, get_or, Some, AllPairs, inl, inr, sym, ap, subst, ◌∙◌, arith}
use Rattle.std.specs.Prelude.{slice_get}
use Rattle.std.proofs.lemmas.Bool.{cases_lt}
use Rattle.std.proofs.lemmas.Option.{slice_get-get_or, same_Some}
use Rattle.std.proofs.lemmas.List.Elements.{All-contains}
use Rattle.class_form.specs.Classes.{HasCode}
use Rattle.class_form.specs.ClassRules.{IsClassFile, IsMethodMember, IsCode}
use Rattle.class_form.specs.declared.class_file.ClassFile.{ClassFile}
use Rattle.class_form.specs.declared.class_file.Member.{Member}
use Rattle.class_form.specs.declared.class_file.Attribute.{Attribute}
use Rattle.class_form.specs.declared.class_file.Content.{Content}
use Rattle.class_form.specs.declared.class_file.Content.TheVariants.{Code}
use Rattle.class_form.specs.declared.class_file.CodeBody.{CodeBody}
use Rattle.class_form.specs.declared.body.Body.{Body}
use Rattle.class_form.specs.declared.pool.Pool.{Pool}
use Rattle.class_form.proofs.Indices.{read_at, there_at}
use Rattle.body_form.specs.Bodies.{IsBodyOf, IsReadable}
use Rattle.body_form.proofs.Members.{methods_are_readable}
use Rattle.body_rules.specs.Methods.{IsCoded, HasBody, HaveBodiesBefore, number_of}
use Rattle.body_rules.specs.Refused.{IsRefusedAt, IsBadLine}

-- A METHOD HAS ONE CODE

is_code : (a : Attribute) (code : CodeBody) → a.content ≡ Code code → IsCode a
is_code a code e = subst (λ (x : Content). IsCode (record { name = a.name; content = x })) (sym e) tt

same : (xs : List Attribute) (k : ℕ) (x y : Attribute) → k < length xs → get_or xs k x ≡ get_or xs k y
same xs k x y lt = same_Some (get_or xs k x) (get_or xs k y) (sym (slice_get-get_or xs k x lt) ∙ slice_get-get_or xs k y lt)

-- two attributes with code do not stand one before the other
not_two : (xs : List Attribute) (a b : Attribute) (i j : ℕ) → AllPairs (λ x y. IsCode x → IsCode y → ⊥) xs → IsCode a → IsCode b → i < j → j < length xs → get_or xs i a ≡ a → get_or xs j b ≡ b → ⊥
not_two xs a b i j apart first second lt within here there =
    apart i j a lt within (subst IsCode (sym here) first) (subst IsCode (sym (same xs j a b within ∙ there)) second)

code_is : (a b : CodeBody) → ◌≡◌ {A = Content} (Code a) (Code b) → a ≡ b
code_is a b e = cc

pub one_code : (p : Pool) (flags : ℕ) (m : Member) (a b : CodeBody) → IsMethodMember p flags m → HasCode m a → HasCode m b → a ≡ b
one_code p flags m a b rules (x, (i, lt, here), e) (y, (j, less, there), f) = elim (cases_lt i j) [
  | inl before ↦ absurd (not_two m.attributes x y i j rules.one_code (is_code x a e) (is_code y b f) before less here there)
  | inr le ↦ elim (cases_lt j i) [
    | inl after ↦ absurd (not_two m.attributes y x j i rules.one_code (is_code y b f) (is_code x a e) after lt there here)
    | inr ge ↦
        let k : i ≡ j = omega arith in
        let one : x ≡ y = sym here ∙ same m.attributes i x y lt ∙ ap (λ (n : ℕ). get_or m.attributes n y) k ∙ there in
        code_is a b (sym e ∙ ap (λ (z : Attribute). z.content) one ∙ f)
  ]
]

-- METHODS BY THEIR PLACE

pub method_rules : (c : ClassFile) (place : ℕ) (m : Member) → IsClassFile c → slice_get c.methods place ≡ Some m → IsMethodMember c.pool c.flags m
method_rules c place m rules at = All-contains (IsMethodMember c.pool c.flags) c.methods m rules.methods (there_at c.methods place m at)

pub one_method : (c : ClassFile) (place : ℕ) (m n : Member) → slice_get c.methods place ≡ Some m → slice_get c.methods place ≡ Some n → m ≡ n
one_method c place m n a b = same_Some m n (sym a ∙ b)

pub here : (c : ClassFile) (items : List Member) (place : ℕ) (m : Member) → items ≡ c.methods → place < length c.methods → m ≡ get_or items place m → slice_get c.methods place ≡ Some m
here c items place m are lt is = read_at c.methods place m lt (is ∙ ap (λ (xs : List Member). get_or xs place m) are)

-- the code that a method at the place has is that of this one
pub coded : (c : ClassFile) (place : ℕ) (m : Member) (code : CodeBody) → slice_get c.methods place ≡ Some m → (n : Member) × IsCoded c place n code → IsCoded c place m code
coded c place m code at (n, (there, has)) = (at, subst (λ (x : Member). HasCode x code) (one_method c place n m there at) has)

pub readable : (c : ClassFile) (place : ℕ) (m : Member) (code : CodeBody) → IsClassFile c → IsCoded c place m code → IsReadable c.pool m code
readable c place m code rules k = methods_are_readable c.pool c.flags m code (method_rules c place m rules k.0) k.1

-- a body of the code of a method at the place is one of every code that a method there has
pub has_body : (c : ClassFile) (place : ℕ) (m : Member) (code : CodeBody) (b : Body) → IsClassFile c → IsCoded c place m code → IsBodyOf c.pool (number_of place) m code b
    → (n : Member) (other : CodeBody) → IsCoded c place n other → HasBody c place n other
has_body c place m code b rules k read n other h =
    let method = one_method c place m n k.0 h.0 in
    let first : HasCode n code = subst (λ (x : Member). HasCode x code) method k.1 in
    let body = one_code c.pool c.flags n code other (method_rules c place n rules h.0) first h.1 in
    (b, subst (λ (x : CodeBody). IsBodyOf c.pool (number_of place) n x b) body (subst (λ (x : Member). IsBodyOf c.pool (number_of place) x code b) method read))

-- THE FIRST FAULT OF CODE

pub bodies_more : (c : ClassFile) (k : ℕ) → HaveBodiesBefore c k → ((m : Member) (code : CodeBody) → IsCoded c k m code → HasBody c k m code) → HaveBodiesBefore c (k + 1)
bodies_more c k before at place m code lt there = elim (cases_lt place k) [
  | inl less ↦ before place m code less there
  | inr le ↦
      let e : k ≡ place = omega arith in
      subst (λ (n : ℕ). HasBody c n m code) e (at m code (subst (λ (n : ℕ). IsCoded c n m code) (sym e) there))
]

pub first_bad : (path : List ℕ) (c : ClassFile) (k : ℕ) (line : List ℕ) → HaveBodiesBefore c k → IsRefusedAt path c k line → IsBadLine path c line
first_bad path c k line before r = (
  r.name,
  r.descriptor,
  r.fault,
  record { place = k; method = r.method; code = r.code; there = r.there; named = r.named; typed = r.typed; faulty = r.faulty; before = before },
  r.said,
)
