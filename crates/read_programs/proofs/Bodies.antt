-- A program of code has one body for each method with code, in order of method.
use Rattle.std.proofs.Common.{◌<◌, List, map, length, get_or, AllPairs, Contains, sym, ap, subst, ◌∙◌, arith}
use Rattle.std.specs.Prelude.{option_map}
use Rattle.std.proofs.lemmas.List.{length-map, get_or-map}
use Rattle.std.proofs.lemmas.List.Elements.{All-map, Contains-get_or}
use Rattle.std.proofs.lemmas.Option.{slice_get-map}
use Rattle.slicer_ids.specs.declared.ids.MethodId.{MethodId}
use Rattle.class_form.specs.declared.class_file.CodeBody.{CodeBody}
use Rattle.class_form.specs.declared.body.Body.{Body}
use Rattle.class_form.proofs.Indices.{index_in, index_at, there_at}
use Rattle.program_form.specs.Programs.{Program, IsProgram, CodeOf}
use Rattle.program_code.specs.Codes.{IsProgramOfCode}
use Rattle.read_programs.proofs.Asking.{code_of}

map_in_order : {A B : Type 0} (f : A → B) (R : B → B → Type 0) (xs : List A) → AllPairs (λ x y. R (f x) (f y)) xs → AllPairs R (map f xs)
map_in_order f R xs h i j d lt within =
    let short : j < length xs = omega (arith, within, length-map xs f) in
    let x = index_at xs j short in
    subst (λ y. R y (get_or (map f xs) j d)) (sym (get_or-map f xs i x.0 d (omega (arith, lt, short))))
    (subst (λ y. R (f (get_or xs i x.0)) y) (sym (get_or-map f xs j x.0 d short)) (h i j x.0 lt short))

in_map : {A B : Type 0} (f : A → B) (xs : List A) (x : A) → Contains xs x → Contains (map f xs) (f x)
in_map f xs x c = let k = index_in xs x c in there_at (map f xs) k.0 (f x) (slice_get-map f xs k.0 ∙ ap (option_map f) k.1)

abbrev method_of : Body → MethodId
method_of b = b.method

pub is_program : (p : Program) → IsProgramOfCode p → IsProgram p
is_program p coded = record {
  classes = coded.classes;
  methods = coded.methods;
  fields = coded.fields;
  bodies = record {
    each = All-map (λ m. (c : CodeBody) × CodeOf p m c) method_of p.bodies (λ k d lt. code_of p coded (get_or p.bodies k d) (Contains-get_or p.bodies k d lt));
    order = map_in_order method_of (λ (a b : MethodId). a.0 < b.0) p.bodies coded.order;
    whole = λ m h. let b = coded.whole m h.0 h.1 in subst (Contains (map method_of p.bodies)) b.2 (in_map method_of p.bodies b.0 b.1);
  };
}
