use Rattle.std.proofs.Common.{◌≡◌, ◌≤◌, ◌<◌, ◌+◌, ◌-◌, Contains, length, take, true, false}
use Rattle.std.specs.Prelude.{vec_len, vec_capacity}
use Rattle.session_form.specs.States.{Gains}
use Rattle.session_state.proofs.ordered.add_all.Given as goal

abbrev pub invariant-loop-s : goal.invariant-loop-s
invariant-loop-s l = record {
  gained : Gains l.initial.list.items (Contains (take l.s-index l.more)) l.list.items;
  room : vec_len l.list + (length l.more - l.s-index) ≤ vec_capacity l.list;
  no_less : length l.initial.list.items ≤ length l.list.items;
  same : l.is_new ≡ false → l.list.items ≡ l.initial.list.items;
  some_more : l.is_new ≡ true → length l.initial.list.items < length l.list.items;
}
