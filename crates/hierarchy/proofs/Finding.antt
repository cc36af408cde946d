-- The class of a name, by a binary search.
use Rattle.std.proofs.Common.{◌≡◌, ℕ, ◌<◌, inl, inr, List, length, sym, ap, ◌∙◌, subst, arith, Some}
use Rattle.std.specs.Prelude.{All}
use Rattle.std.specs.declared.cmp.Ordering.TheVariants.{Less, Equal, Greater}
use Rattle.std.specs.Ordering.{nat_cmp}
use Rattle.std.specs.Cmp.Lexicographic.{slice_cmp}
use Rattle.std.specs.List.{HoldsAt, AllWithin}
use Rattle.std.proofs.lemmas.Bool.{cases_lt}
use Rattle.std.proofs.lemmas.Cmp.{nat_list_cmp_total, tied_itself}
use Rattle.std.proofs.lemmas.Option.{slice_get_cases}
use Rattle.class_form.specs.Classes.{class_name, IsNamed, IsOutside}
use Rattle.class_form.specs.Numbers.{IsNamedClass}
use Rattle.class_form.specs.declared.class_file.ClassFile.{ClassFile}
use Rattle.hierarchy.specs.Names.{name_bytes}
use Rattle.hierarchy.proofs.Bytes.{same_bytes}
use Rattle.hierarchy.proofs.Twice.{named_at, name_at}

pub found_class : (classes : List ClassFile) (name : List ℕ) (i : ℕ) → All IsNamedClass classes → i < length classes
    → HoldsAt (λ y. slice_cmp nat_cmp (name_bytes y) name ≡ Equal) classes i → IsNamed classes name i
found_class classes name i all l h = elim (slice_get_cases classes i).1 [
  | inl r ↦ (r.0, r.2, subst (λ k. class_name k ≡ Some (name_bytes k)) r.3 (named_at classes all i r.0 l) ∙ ap Some (same_bytes (name_bytes r.0) name (subst (λ k. slice_cmp nat_cmp (name_bytes k) name ≡ Equal) r.3 (h r.0))))
  | inr past ↦ absurd (omega (arith, past.0))
]

pub missing_class : (classes : List ClassFile) (name : List ℕ) (i : ℕ)
    → AllWithin (λ y. slice_cmp nat_cmp (name_bytes y) name ≡ Less) classes 0 i → AllWithin (λ y. slice_cmp nat_cmp (name_bytes y) name ≡ Greater) classes i (length classes)
    → IsOutside classes name
missing_class classes name i low high c h =
    let p = name_at classes name c h.0 h in
    let tie = ap (λ x. slice_cmp nat_cmp x name) p.0 ∙ tied_itself nat_list_cmp_total name in
    elim (cases_lt c i) [
      | inl lt ↦ absurd (cc (sym (low c h.0 (omega arith) lt) ∙ tie))
      | inr ge ↦ absurd (cc (sym (high c h.0 ge p.1) ∙ tie))
    ]
