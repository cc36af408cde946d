-- Before anything was asked for.
use Rattle.std.proofs.Common.{◌≡◌, ℕ, List, [], length, All, Option, Some, None, inl, inr, sym, ◌∙◌, arith}
use Rattle.std.proofs.lemmas.Option.{slice_get_within, get_or_from_slice_get}
use Rattle.slicer_ids.specs.declared.ids.ExitId.{ExitId}
use Rattle.slicer_ids.specs.declared.ids.Mode.{Mode}
use Rattle.dep_form.specs.declared.facts.Facts.{Facts}
use Rattle.tabulate.specs.declared.found.Found.{Found}
use Rattle.tabulate.specs.declared.hands.Hands.{Hands}
use Rattle.tabulate.specs.declared.method.Method.{Method}
use Rattle.tabulate.specs.Methods.{IsMetAs}
use Rattle.tabulate.specs.Hands.{hand_of}
use Rattle.tabulate.specs.Found.{Got, Todo, IsBlank}
use Rattle.tabulate.specs.States.{IsDone, Holds, Meets}
use Rattle.tabulate.proofs.Blank.{nothing, nothing_waits, no_waits, blank_tables, blank_queue}
use Rattle.tabulate.proofs.Backward.{done_waiting}

no_method : (ms : List (Option Method)) → All (λ (o : Option Method). o ≡ None) ms → (m : ℕ) (x : Method) → IsMetAs ms m x → ⊥
no_method ms none m x is = apart (sym (get_or_from_slice_get ms m (Some x) None is) ∙ none m None (slice_get_within ms m (Some x) is))
  where
    apart : Some x ≡ None → ⊥
    apart e = absurd cc

module _ (p : Facts) (mode : Mode) (ts : List Found) (blank : All IsBlank ts) where
  pub holds_start : (e : ExitId → Type 0) (ms : List (Option Method)) (h : Hands) → length ms ≡ length p.inputs → All (λ (o : Option Method). o ≡ None) ms → ((k : ℕ) → hand_of h k ≡ None) → length ts ≡ length p.inputs → Holds p mode e (λ _. ⊥) ms h [] ts []
  holds_start e ms h len none empty tables = record {
    found = blank_tables p ts blank tables;
    in_queue = blank_queue p ts blank;
    methods = record { len = len; right = λ m x is. absurd (no_method ms none m x is) };
    met = λ m lt. absurd (omega (arith, lt, no_waits p ts blank m));
    exits = record { once = λ i j d lt l. absurd (omega (arith, l)); derived = tt; apart = λ d c. absurd (omega (arith, c.1)); exits = λ d c. absurd (omega (arith, c.1)) };
    begun = λ d x c at. absurd (omega (arith, c.1));
    hands = record { rows = λ d bits o. absurd (no_hand d bits o); known = λ d bits o. absurd (no_hand d bits o); met = λ d x bits o at. absurd (no_hand d bits o) };
    good = λ q g. absurd (nothing p ts blank q g);
  }
    where
      no_hand : (d : ExitId) (bits : List ℕ) → hand_of h d.0 ≡ Some bits → ⊥
      no_hand d bits o = apart (sym (empty d.0) ∙ o)
        where
          apart : None ≡ Some bits → ⊥
          apart k = absurd cc

  -- after the first exits were asked for, all that was found waits
  pub done_start : (h h' : Hands) (asked asked' : List ExitId) (ts' : List Found) → Meets p h h' asked asked' ts ts' → IsDone p mode h' (Got p ts') (Todo p ts')
  done_start h h' asked asked' ts' m = done_waiting p mode h' (Got p ts') (Todo p ts') (λ q g. elim (m.adds.fresh q g) [ inl o ↦ absurd (nothing p ts blank q o) | inr w ↦ w ]) (λ q t. elim (m.adds.within q t) [ inl o ↦ absurd (nothing_waits p ts blank q o) | inr u ↦ u.0 ])
