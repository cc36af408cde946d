use Rattle.std.proofs.Common.{ℕ, List, length, ap, sym, ◌∙◌}
use Rattle.std.specs.Prelude.{slice_get}
use Rattle.std.proofs.lemmas.List.{length-map}
use Rattle.reaching_defs.specs.Facts.{pair_of, def_of}
use Rattle.reaching_defs.proofs.Tables.{places_in_order}
use Rattle.reaching_defs.proofs.table.split.Goals as goal

pub invariant_of-result : goal.invariant_of-result
invariant_of-result c =
    let facts = c.args.facts.now in
    let p = c.from_vec.ensures ∙ c.requires.places in
    let d = c.from_vec-2.ensures ∙ c.requires.defs in
    record {
      even = ap length d ∙ length-map facts def_of ∙ sym (length-map facts pair_of) ∙ ap length (sym p);
      ordered = λ j k x y lt ex ey. places_in_order facts c.requires.order j k x y lt (ap (λ (xs : List (ℕ × ℕ)). slice_get xs j) (sym p) ∙ ex) (ap (λ (xs : List (ℕ × ℕ)). slice_get xs k) (sym p) ∙ ey);
    }
