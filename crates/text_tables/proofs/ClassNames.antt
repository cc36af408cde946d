-- The names of classes are those of the program's.
use Rattle.std.proofs.Common.{◌≡◌, ℕ, List, [], length, map, Option, Some, sym, ap, subst, ◌∙◌}
use Rattle.std.specs.Prelude.{slice_get, unwrap_or, All}
use Rattle.std.proofs.lemmas.List.{length-map}
use Rattle.std.proofs.lemmas.List.Elements.{All-contains}
use Rattle.class_form.specs.Numbers.{IsNamedClass}
use Rattle.class_form.specs.declared.class_file.ClassFile.{ClassFile}
use Rattle.class_form.proofs.Indices.{there_at}
use Rattle.hierarchy.specs.Names.{name_bytes}
use Rattle.program_form.specs.Programs.{Program}
use Rattle.fact_form.specs.FactTables.{AreClassNames}
use Rattle.fact_form.proofs.ItemLists.{map_at}

pub names_are : (classes : List ClassFile) → All IsNamedClass classes → (names : List (List ℕ)) → names ≡ map name_bytes classes → (p : Program) → p.classes ≡ classes → AreClassNames p names
names_are classes named names e p same = record {
  count = ap (λ (xs : List (List ℕ)). length xs) e ∙ length-map classes name_bytes ∙ ap (λ (ks : List ClassFile). length ks) (sym same);
  each = λ c k is.
      let here : slice_get classes c ≡ Some k = subst (λ (ks : List ClassFile). slice_get ks c ≡ Some k) same is in
      let name = (All-contains IsNamedClass classes k named (there_at classes c k here)).named in
      let text : name_bytes k ≡ name.0 = ap (λ (o : Option (List ℕ)). unwrap_or o []) name.1 in
      (name.0, name.1, subst (λ (xs : List (List ℕ)). slice_get xs c ≡ Some name.0) (sym e) (map_at name_bytes classes c k here ∙ ap (λ (x : List ℕ). Some x) text));
}
