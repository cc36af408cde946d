use Rattle.std.proofs.Common.{◌≡◌, ℕ, Some, refl, sym, ◌∙◌, arith}
use Rattle.std.proofs.lemmas.Option.{slice_get_within}
use Rattle.slicer_ids.specs.declared.ids.MethodId.{MethodId}
use Rattle.mod_ref.specs.Rows.{AtSource}
use Rattle.mod_ref.proofs.TableRows.{rows_same, source_is}
use Rattle.mod_ref.proofs.sources.add_source.Goals as goal

pub push_to-requires : goal.push_to-requires
push_to-requires c = omega (arith, c.requires.len, slice_get_within c.args.locations.now c.in-Some.k c.args.effect.location ((c.number_of.ensures c.in-Some.k).0 c.in-Some.is))

pub returns-in_ok-push_to-in-Some-clause-gain : goal.returns-in_ok-push_to-in-Some-clause-gain
returns-in_ok-push_to-in-Some-clause-gain c =
    rows_same c.args.rows.now.items c.push_to.new.rows.items (λ k m. (k ≡ c.in-Some.k) × (m ≡ c.args.effect.method)) (AtSource c.args.locations.now c.args.effect)
    (λ k m lt. source_is c.args.locations.now c.args.effect c.in-Some.k (λ j. (λ e. (c.number_of.ensures j).0 (c.in-Some.is ∙ e), λ at. sym c.in-Some.is ∙ (c.number_of.ensures j).1 at)) k m) c.in_ok-push_to-in-Some.ensures.gain
