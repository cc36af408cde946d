-- The entries of a folder, in the order of their names.
use Rattle.std.proofs.Common.{◌≡◌, ◌<◌, ℕ, Bool, true, false, List, map, get_or, length, Contains, IfSome, Option, Some, None, inl, inr, refl, sym, ap, subst, ◌∙◌, arith, Ordering}
use Rattle.std.specs.Prelude.{IsPermutation, IsSortedByKey}
use Rattle.std.specs.List.{IsDistinct}
use Rattle.std.specs.Ordering.{nat_cmp, eq_by_cmp, is_eq, is_lt, ordering_reverse}
use Rattle.std.specs.FinMap as map
use Rattle.std.specs.declared.cmp.Ordering.TheVariants.{Less, Equal, Greater}
use Rattle.std.specs.Cmp.Lexicographic.{slice_cmp}
use Rattle.std.proofs.lemmas.Bool.{false≢true}
use Rattle.std.proofs.lemmas.Cmp.{nat_list_cmp_total, on_total, eq_by_cmp_equiv}
use Rattle.std.proofs.lemmas.Option.{same_Some}
use Rattle.std.proofs.lemmas.List.{length-map, get_or-map}
use Rattle.std.proofs.lemmas.List.Sorted.{ranks_by, sorted_far, All-permutation, Contains-permutation}
use Rattle.std.proofs.lemmas.Map.Keys.{apart_from_distinct, IsDistinct-from_apart, IsDistinct-IsPermutation}
use Rattle.std.proofs.lemmas.Map.Lookups.{exact_bytes}
use Rattle.slicer_ids.specs.Order.{BytesBefore}
use Rattle.edge_io.specs.declared.host.Item.{Item}
use Rattle.edge_io.specs.Files.{Files, IsFolder, IsEntryOf, Lists, inside, is_folder}
use Rattle.folder_form.specs.Walks.{IsNameIn}
use Rattle.folder_reader.specs.Turns.{AreEntries, name_of}

abbrev item_cmp : Item → Item → Ordering
item_cmp a b = slice_cmp nat_cmp a.name b.name

-- an entry is known by its name
same_item : (m : Files) (folder : List ℕ) (a b : Item) → IsEntryOf m folder a → IsEntryOf m folder b → a.name ≡ b.name → a ≡ b
same_item m folder a b h g e =
    let same : h.there.0 ≡ g.there.0 = same_Some h.there.0 g.there.0 (sym h.there.1 ∙ (ap (λ (n : List ℕ). map.get m (inside folder n)) e ∙ g.there.1)) in
    let kind : a.folder ≡ b.folder = h.there.2 ∙ (ap is_folder same ∙ sym g.there.2) in
    λ i. record { name = e i; folder = kind i }

differ : (o : Ordering) → (o ≡ Equal → ⊥) → is_eq o ≡ false
differ Less n = refl
differ Equal n = absurd (n refl)
differ Greater n = refl

less : (o p : Ordering) → p ≡ ordering_reverse o → is_lt p ≡ false → is_eq o ≡ false → o ≡ Less
less Less p e l n = refl
less Equal p e l n = absurd (false≢true (sym n))
less Greater p e l n = absurd (false≢true (sym l ∙ ap is_lt e))

distinct : (m : Files) (folder : List ℕ) (items : List Item) → Lists m folder items → IsDistinct (eq_by_cmp item_cmp) items
distinct m folder items lists =
    IsDistinct-from_apart (eq_by_cmp item_cmp) items
    (λ i j d lt within.
    differ (item_cmp (get_or items i d) (get_or items j d))
    (λ e. lists.once i j d lt within (same_item m folder (get_or items i d) (get_or items j d) (lists.each i d (omega arith)) (lists.each j d within) (exact_bytes (get_or items i d).name (get_or items j d).name e))))

rises : (items : List Item) → IsSortedByKey name_of (slice_cmp nat_cmp) items → IsDistinct (eq_by_cmp item_cmp) items → (i j : ℕ) (d : Item) → i < j → j < length items
    → BytesBefore (get_or items i d).name (get_or items j d).name
rises items sorted apart i j d lt within =
    less (item_cmp (get_or items i d) (get_or items j d)) (item_cmp (get_or items j d) (get_or items i d))
    (nat_list_cmp_total.antisymm (get_or items j d).name (get_or items i d).name)
    (sorted_far (λ x y. is_lt (item_cmp x y)) (ranks_by nat_list_cmp_total name_of) items sorted i j d (omega arith) within)
    (apart_from_distinct (eq_by_cmp item_cmp) items i j d apart lt within)

abbrev pub item : List ℕ → Bool → Item
item name folder = record { name = name; folder = folder }

named : (m : Files) (folder name : List ℕ) (b : Bool) → IsEntryOf m folder (item name b) → IsNameIn m folder name
named m folder name true h = inl h
named m folder name false h = inr h

-- a name in the list of names is that of an entry in the list
name_at : (items : List Item) (k : ℕ) (d : List ℕ) → k < length items → get_or (map name_of items) k d ≡ (get_or items k (item d false)).name
name_at items k d within = get_or-map name_of items k (item d false) d within

has_name : (items : List Item) (i : Item) → Contains items i → Contains (map name_of items) i.name
has_name items i c =
    let size = length-map items name_of in
    (c.0, omega (arith, c.1, size), get_or-map name_of items c.0 i i.name c.1 ∙ ap name_of c.2)

pub entries_in_order : (m : Files) (folder : List ℕ) (items sorted : List Item) → Lists m folder items → IsPermutation items sorted → IsSortedByKey name_of (slice_cmp nat_cmp) sorted → AreEntries m folder sorted
entries_in_order m folder items sorted lists moved order =
    let each = All-permutation (IsEntryOf m folder) items sorted moved lists.each in
    let apart = IsDistinct-IsPermutation (eq_by_cmp item_cmp) ((eq_by_cmp_equiv (on_total name_of nat_list_cmp_total)).symm) items sorted moved (distinct m folder items lists) in
    let size = length-map sorted name_of in
    let here : (x : List ℕ) (b : Bool) → IsEntryOf m folder (item x b) → Contains (map name_of sorted) x = λ x b h. has_name sorted (item x b) (Contains-permutation items sorted (item x b) moved (lists.whole (item x b) h)) in
    record {
      entries = each;
      ordered = record {
        each = λ k d lt.
            let within : k < length sorted = omega (arith, lt, size) in
            let i = get_or sorted k (item d false) in
            subst (IsNameIn m folder) (sym (name_at sorted k d within)) (named m folder i.name i.folder (each k (item d false) within));
        order = λ i j d lt within.
            let bound : j < length sorted = omega (arith, within, size) in
            subst (λ n. BytesBefore n (get_or (map name_of sorted) j d)) (sym (name_at sorted i d (omega arith)))
            (subst (λ n. BytesBefore (get_or sorted i (item d false)).name n) (sym (name_at sorted j d bound)) (rises sorted order apart i j (item d false) lt bound));
        whole = λ x h. elim h [ inl f ↦ here x true f | inr f ↦ here x false f ];
      };
    }

-- .. where they are told
pub told_in_order : (files : Option Files) (folder : List ℕ) (items sorted : List Item) → IfSome files (λ m. Lists m folder items) → IfSome files (λ m. IsFolder m folder) → IsPermutation items sorted
    → IsSortedByKey name_of (slice_cmp nat_cmp) sorted → IfSome files (λ m. IsFolder m folder × AreEntries m folder sorted)
told_in_order None folder items sorted lists is moved order = tt
told_in_order (Some m) folder items sorted lists is moved order = (is, entries_in_order m folder items sorted lists moved order)
