use Rattle.std.proofs.Common.{◌≡◌, ◌⊎◌, true, false, length, refl, sym, ap, ◌∙◌, inl, inr, arith}
use Rattle.std.proofs.lemmas.Bool.{false≢true}
use Rattle.session_state.proofs.Gaining.{none_gained, gain_more}
use Rattle.session_state.proofs.Telling.{neither, one_of, no_less}
use Rattle.session_state.proofs.ordered.add_all.Goals as goal

pub loop-s-init : goal.loop-s-init
loop-s-init c = record {
  gained = none_gained c.reserve.new.self.items c.args.more.now (rw c.reserve.ensures.items c.requires);
  room = omega (arith, c.in_ok-reserve.ensures.ok);
  no_less = omega arith;
  same = λ e. refl;
  some_more = λ e. absurd (false≢true e);
}

pub loop-s-preserved : goal.loop-s-preserved
loop-s-preserved c =
    let i = c.loop-s.invariant in
    let more = no_less c.loop-s.list.items c.add.new.list.items c.in_ok-added.added c.in_ok-added.ensures.same c.in_ok-added.ensures.one_more in
    record {
      gained = gain_more _ c.loop-s.list.items c.add.new.list.items c.args.more.now c.loop-s.s-index _ c.loop-s-test.true i.gained c.in_ok-added.ensures.gained;
      room = omega (arith, i.room, c.add.ensures.len, c.add.ensures.capacity, c.loop-s-test.true);
      no_less = omega (arith, i.no_less, more);
      same = λ e. let h = neither _ _ (sym c.either-is_new.ensures ∙ e) in c.in_ok-added.ensures.same h.1 ∙ i.same h.0;
      some_more = λ e. elim (one_of _ _ (sym c.either-is_new.ensures ∙ e)) [
        | inl old ↦ let before = i.some_more old in omega (arith, before, more)
        | inr new ↦ let one = c.in_ok-added.ensures.one_more new in omega (arith, i.no_less, one)
      ];
    }
