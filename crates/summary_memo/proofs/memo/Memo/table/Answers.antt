use Rattle.std.proofs.Common.{◌∙◌, inl, inr, refl, rules, subst, ap}
use Rattle.std.proofs.lemmas.Result.{IfOk-weaker}
use Rattle.dep_form.specs.declared.facts.Facts.{Facts}
use Rattle.summary_memo.specs.Memo.{view_of, facts_of}
use Rattle.summary_memo.specs.Rule.{KnowsShut, Knows, AreThere}
use Rattle.summary_memo.proofs.Knowing.{still_there}
use Rattle.summary_memo.proofs.memo.Memo.table.Goals as goal

pub returns-clause-more : goal.returns-clause-more
returns-clause-more g c =
    let rows = c.tabulate_with-table.new.rows in
    let stays : Knows (view_of rows.seat.now) (view_of rows.seat.now) = record { about = refl; bits = λ x k. k; gates = λ x k. k } in
    IfOk-weaker c.tabulate_with-table.result _ _ (λ t is.
    let there : AreThere (view_of rows.seat.now) c.args.f.now c.args.mode c.args.more.now t = record {
      each = λ d k. elim (is.firsts d (inr k)) [
        | inl own ↦ inl own
        | inr sure ↦ inr (subst (λ (f : Facts). KnowsShut (view_of rows.seat.now) f d c.args.mode) (ap facts_of c.tabulate_with-table.ensures.rows.1.memo ∙ c.requires.facts) sure)
      ];
    } in
    still_there (view_of rows.seat.now) _ c.args.f.now c.args.mode c.args.more.now t (search rules) there) c.tabulate_with-table.ensures.table
