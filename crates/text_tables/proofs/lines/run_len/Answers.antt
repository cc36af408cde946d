use Rattle.std.proofs.Common.{◌≡◌, ℕ, true, length, take, All, sym, subst, ap, ◌∙◌, arith}
use Rattle.std.proofs.lemmas.Bool.{false≢true}
use Rattle.std.proofs.lemmas.List.Elements.{All-more}
use Rattle.std.proofs.lemmas.Option.{get_or_from_slice_get, same_Some, slice_get_within}
use Rattle.text_tables.specs.LineGroups.{is_at}
use Rattle.text_tables.specs.declared.lines.LinePlace.{LinePlace}
use Rattle.text_tables.proofs.lines.run_len.Goals as goal

pub loop-k-preserved : goal.loop-k-preserved
loop-k-preserved c =
    let x = c.place_at.result.now in
    let at : is_at c.args.class c.args.line x ≡ true = sym c.stands_at.ensures ∙ c.if-not-stands_at.false in
    All-more (λ (z : LinePlace). is_at c.args.class c.args.line z ≡ true) c.args.places.now c.loop-k.k x c.loop-k-test.true c.loop-k.invariant
    (subst (λ (z : LinePlace). is_at c.args.class c.args.line z ≡ true) (sym (get_or_from_slice_get c.args.places.now c.loop-k.k x x c.place_at.ensures)) at)

pub returns-then-not-stands_at-clause-end : goal.returns-then-not-stands_at-clause-end
returns-then-not-stands_at-clause-end c = λ y at is.
    let same = same_Some c.place_at.result.now y (sym c.place_at.ensures ∙ at) in
    false≢true (sym c.if-not-stands_at.true ∙ c.stands_at.ensures ∙ ap (λ (z : LinePlace). is_at c.args.class c.args.line z) same ∙ is)

pub returns-clause-same : goal.returns-clause-same
returns-clause-same c =
    let end : c.loop-k.k ≡ length c.args.places.now = omega (arith, c.loop-k-test.false, c.loop-k.auto.k-end) in
    subst (λ (n : ℕ). All (λ (z : LinePlace). is_at c.args.class c.args.line z ≡ true) (take n c.args.places.now)) end c.loop-k.invariant

pub returns-clause-end : goal.returns-clause-end
returns-clause-end c = λ y at is. absurd (omega (arith, slice_get_within c.args.places.now _ y at))
