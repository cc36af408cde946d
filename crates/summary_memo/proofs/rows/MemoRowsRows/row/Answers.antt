use Rattle.std.proofs.Common.{refl, sym, ap, ◌∙◌, ◌≡◌, arith, length-take-le, subst, ℕ}
use Rattle.std.specs.Prelude.{slice_index}
use Rattle.dep_form.specs.Summaries.{IsMask, IsWidthOf}
use Rattle.summary_memo.specs.Places.{width}
use Rattle.summary_memo.proofs.Widths.{has_width}
use Rattle.summary_memo.proofs.Knowing.{knows_all, still_shut}
use Rattle.std.proofs.lemmas.List.{get_or-take}
use Rattle.summary_memo.specs.Memo.{view_of, facts_of}
use Rattle.summary_memo.proofs.rows.MemoRowsRows.row.Goals as goal

pub returns-then-look : goal.returns-then-look
returns-then-look c =
    let f = facts_of c.args.self.now.memo.now in
    let know = knows_all (view_of c.args.self.now.seat.now) (view_of c.look.new.seat) (view_of c.copy.new.seat) c.look.ensures.knows c.copy.ensures.knows in
    let size : c.width-count.result ≡ width f c.args.e = c.width-count.ensures in
    let room = c.requires.sound.room c.args.e c.requires.inside in
    let long = c.copy.ensures.room in
    let count = length-take-le c.width-count.result c.deref.result.now (omega (arith, c.deref.ensures.len, c.copy.new.into.ok, size, room, long)) ∙ size in (
      (
        refl,
        (λ _. tt),
        (
          record { seat = c.copy.ensures.seat; room = λ e lt. let old = c.requires.sound.room e lt in omega arith },
          record { memo = refl; seat = refl; knows = know },
          (
            still_shut (view_of c.look.new.seat) (view_of c.copy.new.seat) f c.args.e c.args.mode c.copy.ensures.knows (c.look.ensures.shut.0 c.if-look.true),
            record {
              size = subst (λ n. IsWidthOf f c.args.e n) (sym count) (has_width f c.args.e c.requires.inside);
              masks = λ k lt. subst (λ (n : ℕ). IsMask f c.args.mode c.args.e k n)
                  (sym (get_or-take c.width-count.result c.deref.result.now k 0 (omega arith) ∙ ap (λ l. slice_index l k) c.deref.ensures.value))
                  (c.copy.ensures.words k (omega (arith, lt, count)));
            },
          ),
        ),
      ),
      record { after = tt },
    )
