-- Entries, listed method by method.
use Rattle.std.proofs.Common.{◌≡◌, ◌↔◌, ◌<◌, ◌+◌, ℕ, Bool, true, false, cond, List, [], ◌∷◌, ◌++◌, Option, Some, Contains, length, inl, inr, refl, sym, ap, subst, ◌∙◌, arith}
use Rattle.std.specs.Prelude.{codes, slice_get, IsTrue}
use Rattle.std.proofs.lemmas.Bool.{cases_lt}
use Rattle.std.proofs.lemmas.Option.{same_Some, slice_get-get_or, slice_get_within}
use Rattle.slicer_ids.specs.Sets.{IsOrderedListOf}
use Rattle.slicer_ids.proofs.GrowingOrder.{pushed, reworded, without}
use Rattle.class_form.specs.Classes.{Declared}
use Rattle.class_form.specs.Numbers.{AreMethods}
use Rattle.class_form.specs.declared.class_file.ClassFile.{ClassFile}
use Rattle.dep_form.specs.declared.rules.Entry.{Entry}
use Rattle.call_graph.specs.Entries.{AreEntries, HasNoEntry, IsEntry, IsEntryMethod}
use Rattle.call_graph.specs.Looking.{AreEntriesBelow, entry_of}
use Rattle.call_graph.proofs.OneNumbering.{one_numbering}

abbrev Before : Entry → Entry → Type 0
Before a b = a.method.0 < b.method.0

pub no_entries : (classes : List ClassFile) (methods : List Declared) (main : Option (List ℕ)) (entries : List Entry) → entries ≡ [] → AreEntriesBelow classes methods main entries 0
no_entries classes methods main entries nil = without Before entries (λ e. (e.method.0 < 0) × IsEntry classes methods main e) nil (λ e h. omega (arith, h.0))

entry_is : (e : Entry) (n : ℕ) → e.method.0 ≡ n → e.arguments ≡ true → entry_of n ≡ e
entry_is e n at given = rw (← at, ← given) refl

module _ (classes : List ClassFile) (methods : List Declared) (main : Option (List ℕ)) (n : ℕ) (d : Declared) (at : slice_get methods n ≡ Some d) (old new : List Entry)
    (before : AreEntriesBelow classes methods main old n) where
  here : (e : Entry) → e.method.0 ≡ n → IsEntry classes methods main e → IsEntryMethod classes main d
  here e is (given, f, found, method) = subst (IsEntryMethod classes main) (same_Some f d (sym found ∙ ap (slice_get methods) is ∙ at)) method

  by_case : (b : Bool) → IsTrue b ↔ IsEntryMethod classes main d → new ≡ cond b (old ++ entry_of n ∷ []) old → AreEntriesBelow classes methods main new (n + 1)
  by_case true is e = subst (λ (es : List Entry). AreEntriesBelow classes methods main es (n + 1)) (sym e)
      (pushed Before old (entry_of n) (λ e. (e.method.0 < n) × IsEntry classes methods main e) (λ e. (e.method.0 < n + 1) × IsEntry classes methods main e) before
      (λ e h. h.0) (λ e h. (omega (arith, h.0), h.1)) (omega arith, (refl, d, at, is.0 refl))
      (λ e h. elim (cases_lt e.method.0 n) [ inl lt ↦ inl (lt, h.1) | inr le ↦ inr (entry_is e n (omega (arith, le, h.0)) h.1.0) ]))
  by_case false is e = subst (λ (es : List Entry). AreEntriesBelow classes methods main es (n + 1)) (sym e)
      (reworded Before old (λ e. (e.method.0 < n) × IsEntry classes methods main e) (λ e. (e.method.0 < n + 1) × IsEntry classes methods main e)
      (λ e h. (omega (arith, h.0), h.1))
      (λ e h. elim (cases_lt e.method.0 n) [ inl lt ↦ (lt, h.1) | inr le ↦ absurd (cc (is.1 (here e (omega (arith, le, h.0)) h.1))) ]) before)

  pub entries_more : (b : Bool) → IsTrue b ↔ IsEntryMethod classes main d → new ≡ cond b (old ++ entry_of n ∷ []) old → AreEntriesBelow classes methods main new (n + 1)
  entries_more b is e = by_case b is e

-- ---- at the end
whole : (classes : List ClassFile) (methods : List Declared) (main : Option (List ℕ)) (entries : List Entry) → AreEntriesBelow classes methods main entries (length methods)
    → IsOrderedListOf Before entries (IsEntry classes methods main)
whole classes methods main entries h = reworded Before entries (λ e. (e.method.0 < length methods) × IsEntry classes methods main e) (IsEntry classes methods main)
    (λ e p. p.1) (λ e p. (slice_get_within methods e.method.0 p.1 p.2, p)) h

pub entries_are : (classes : List ClassFile) (methods : List Declared) (main : Option (List ℕ)) (entries : List Entry) → AreMethods classes methods
    → AreEntriesBelow classes methods main entries (length methods) → (e : Entry) × Contains entries e → AreEntries classes main entries
entries_are classes methods main entries are h some = record {
  each = λ others also. subst (λ (ms : List Declared). IsOrderedListOf Before entries (IsEntry classes ms main)) (one_numbering classes methods others are also) (whole classes methods main entries h);
  some = some;
}

pub none_is : (classes : List ClassFile) (methods : List Declared) (main : Option (List ℕ)) (entries : List Entry) → AreMethods classes methods
    → AreEntriesBelow classes methods main entries (length methods) → entries ≡ [] → HasNoEntry classes main
none_is classes methods main entries are h nil d is =
    let c = are.whole d (is.0, codes "main", codes "([Ljava/lang/String;)V", is.2) in
    let at : slice_get methods c.0 ≡ Some d = slice_get-get_or methods c.0 d c.1 ∙ ap (λ (x : Declared). Some x) c.2 in
    let there = (whole classes methods main entries h).whole (entry_of c.0) (refl, d, at, is) in
    omega (arith, there.1, ap (λ (es : List Entry). length es) nil)
