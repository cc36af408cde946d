use Rattle.std.proofs.Common.{◌≡◌, ◌<◌, ℕ, List, take, get_or, All, Some, refl, sym, ap, subst, ◌∙◌, arith}
use Rattle.std.specs.Prelude.{slice_get}
use Rattle.std.proofs.lemmas.List.{take_all}
use Rattle.std.proofs.lemmas.List.Elements.{All-more}
use Rattle.std.proofs.lemmas.Option.{slice_get-get_or}
use Rattle.class_form.specs.declared.class_file.Handler.{Handler}
use Rattle.class_form.specs.Shapes.{IsEntry}
use Rattle.code_shape.proofs.entries.check_entries.Goals as goal

pub loop-entry-preserved : goal.loop-entry-preserved
loop-entry-preserved c = All-more (IsEntry c.args.body.now c.args.instrs.now) c.items-entries.result.now c.loop-entry.entry-index _ c.loop-entry-test.true c.loop-entry.invariant (c.is_entry.ensures.0 c.if-not-is_entry.false)

pub returns-then-not-is_entry-clause-err : goal.returns-then-not-is_entry-clause-err
returns-then-not-is_entry-clause-err c =
    let entries = c.items-entries.result.now in
    let k = c.loop-entry.entry-index in
    let e : Handler = get_or entries k (record { start = 0; end = 0; handler = 0; catch_type = 0 }) in
    let at = slice_get-get_or entries k (record { start = 0; end = 0; handler = 0; catch_type = 0 }) c.loop-entry-test.true in (
      e.start,
      refl,
      (
        k,
        e,
        ap (λ (xs : List Handler). slice_get xs k) (sym c.items-entries.ensures) ∙ at,
        λ h. absurd (cc (c.is_entry.ensures.1 h)),
        subst (λ (xs : List Handler). All (IsEntry c.args.body.now c.args.instrs.now) (take k xs)) c.items-entries.ensures c.loop-entry.invariant,
        refl,
      ),
    )

pub returns-clause-ok : goal.returns-clause-ok
returns-clause-ok c = subst (All (IsEntry c.args.body.now c.args.instrs.now)) (take_all c.loop-entry.entry-index c.items-entries.result.now c.loop-entry-test.false ∙ c.items-entries.ensures) c.loop-entry.invariant
