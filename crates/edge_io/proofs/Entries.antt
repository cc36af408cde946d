-- A scan of the list of files lists a folder.
use Rattle.std.proofs.Common.{◌≡◌, ◌≢◌, ℕ, zero, suc, ◌+◌, ◌<◌, Bool, true, false, cond, List, [], ◌∷◌, ◌++◌, length, get_or, take, Contains, All, Some, None, refl, sym, ap, subst, ◌∙◌, arith, ⊎_elim}
use Rattle.std.proofs.lemmas.Cmp.{nat_list_cmp_total}
use Rattle.std.proofs.lemmas.List.{get_or_default, get_or-take, take_more, length-take}
use Rattle.std.proofs.lemmas.List.Elements.{All-push, All-weaker, All-contains, Contains-push, Contains-push_cases, Contains-append_left}
use Rattle.std.proofs.lemmas.List.Quantifiers.{all_pairs_push}
use Rattle.std.specs.Ordering.{eq_by_cmp}
use Rattle.std.specs.FinMap as map
use Rattle.slicer_ids.specs.Sets.{IsListOf}
use Rattle.edge_io.specs.declared.host.Entry.{Entry}
use Rattle.edge_io.specs.declared.host.Item.{Item}
use Rattle.edge_io.specs.Files.{HasNoSlash, IsEntryOf, Lists, inside, is_folder}
use Rattle.edge_io.specs.Paths.{AddsEntry, AreOnce, IsItemOf, IsPlaceOf, ListsOf, files_in}
use Rattle.edge_io.proofs.Places.{Stored, by_bytes, same, there_is}
use Rattle.edge_io.proofs.Slashes.{same_name}

-- the members of P are those of Q
same_members : {A : Type 0} (P Q : A → Type 0) (xs : List A) → ((x : A) → P x → Q x) → ((x : A) → Q x → P x) → IsListOf xs P → IsListOf xs Q
same_members P Q xs to from l = record { each = All-weaker P Q to xs l.each; once = l.once; whole = λ x q. l.whole x (from x q) }

more_entries : (fs : List Stored) (e : Stored) (folder : List ℕ) (x : Item) → IsItemOf fs folder x → IsItemOf (fs ++ e ∷ []) folder x
more_entries fs e folder x p = record { entry = p.entry; stored = Contains-append_left fs (e ∷ []) (inside folder x.name, p.entry) p.stored; kind = p.kind; direct = p.direct }

abbrev item_of : List ℕ → Entry → Item
item_of name e = record { name = name; folder = is_folder e }

-- an entry that isn't the last one
not_last : (fs : List Stored) (e : Stored) (folder : List ℕ) (x : Item) → IsItemOf (fs ++ e ∷ []) folder x → ((e.0 ≡ inside folder x.name) → (x.folder ≡ is_folder e.1) → ⊥) → IsItemOf fs folder x
not_last fs e folder x p never =
    ⊎_elim
    (λ (here : Contains fs (inside folder x.name, p.entry)). record { entry = p.entry; stored = here; kind = p.kind; direct = p.direct })
    (λ (is : e ≡ (inside folder x.name, p.entry)). absurd (never (ap (λ (s : Stored). s.0) is) (p.kind ∙ ap (λ (s : Stored). is_folder s.1) (sym is))))
    (Contains-push_cases fs e (inside folder x.name, p.entry) p.stored)

-- one more entry, which stands directly in the folder
added_item : (fs : List Stored) (e : Stored) (folder name : List ℕ) (before : List Item) → All (λ f. f.0 ≢ e.0) fs → ListsOf fs folder before → HasNoSlash name → e.0 ≡ inside folder name
    → ListsOf (fs ++ e ∷ []) folder (before ++ item_of name e.1 ∷ [])
added_item fs e folder name before fresh l direct is =
    let P : Item → Type 0 = IsItemOf (fs ++ e ∷ []) folder in
    let pair : e ≡ (inside folder name, e.1) = λ i. (is i, e.1) in
    let last : P (item_of name e.1) = record { entry = e.1; stored = subst (λ (s : Stored). Contains (fs ++ e ∷ []) s) pair (Contains-push fs e); kind = refl; direct = direct } in
    record {
      each = All-push P before (item_of name e.1) (All-weaker (IsItemOf fs folder) P (λ x p. more_entries fs e folder x p) before l.each) last;
      once = all_pairs_push (λ x y. x ≢ y) before (item_of name e.1) l.once
          (λ k d lt same_item.
          let p : IsItemOf fs folder (get_or before k d) = l.each k d lt in
          All-contains (λ f. f.0 ≢ e.0) fs (inside folder (get_or before k d).name, p.entry) fresh p.stored (ap (λ (x : Item). inside folder x.name) same_item ∙ sym is));
      whole = λ x p.
          ⊎_elim
          (λ (here : Contains fs (inside folder x.name, p.entry)).
          Contains-append_left before (item_of name e.1 ∷ []) x (l.whole x (record { entry = p.entry; stored = here; kind = p.kind; direct = p.direct })))
          (λ (at : e ≡ (inside folder x.name, p.entry)).
          let named : name ≡ x.name = same_name folder name x.name (sym is ∙ ap (λ (s : Stored). s.0) at) in
          let kind : is_folder e.1 ≡ x.folder = ap (λ (s : Stored). is_folder s.1) at ∙ sym p.kind in
          let same_item : item_of name e.1 ≡ x = λ i. record { name = named i; folder = kind i } in
          subst (λ (y : Item). Contains (before ++ item_of name e.1 ∷ []) y) same_item (Contains-push before (item_of name e.1)))
          (Contains-push_cases fs e (inside folder x.name, p.entry) p.stored);
    }

-- one more entry, which doesn't
added_none : (fs : List Stored) (e : Stored) (folder : List ℕ) (before : List Item) → ListsOf fs folder before → ((name : List ℕ) → HasNoSlash name → e.0 ≢ inside folder name) → ListsOf (fs ++ e ∷ []) folder before
added_none fs e folder before l none =
    same_members (IsItemOf fs folder) (IsItemOf (fs ++ e ∷ []) folder) before (more_entries fs e folder) (λ x p. not_last fs e folder x p (λ at kind. none x.name p.direct at)) l

-- the step of the scan
pub added : (es : List Stored) (folder : List ℕ) (i : ℕ) (e : Stored) (before after : List Item) → AreOnce es → i < length es → e ≡ get_or es i e → ListsOf (take i es) folder before → AddsEntry folder e before after
    → ListsOf (take (i + 1) es) folder after
added es folder i e before after once lt at l adds =
    let more : take (i + 1) es ≡ take i es ++ e ∷ [] = take_more es i e lt ∙ ap (λ (x : Stored). take i es ++ x ∷ []) (sym at) in
    let fresh : All (λ f. f.0 ≢ e.0) (take i es) = λ k d h is. earlier k d h is in
    subst (λ (fs : List Stored). ListsOf fs folder after) (sym more)
    (⊎_elim
    (λ (w : (name : List ℕ) × HasNoSlash name × (e.0 ≡ inside folder name) × (after ≡ before ++ item_of name e.1 ∷ [])).
    subst (λ (xs : List Item). ListsOf (take i es ++ e ∷ []) folder xs) (sym w.3) (added_item (take i es) e folder w.0 before fresh l w.1 w.2))
    (λ (w : ((name : List ℕ) → HasNoSlash name → e.0 ≢ inside folder name) × (after ≡ before)).
    subst (λ (xs : List Item). ListsOf (take i es ++ e ∷ []) folder xs) (sym w.1) (added_none (take i es) e folder before l w.0))
    adds)
  where
    earlier : (k : ℕ) (d : Stored) → k < length (take i es) → (get_or (take i es) k d).0 ≢ e.0
    earlier k d h is =
        let before_i : k < i = omega (arith, length-take i es) in
        once k i e before_i lt (ap (λ (s : Stored). s.0) (get_or_default es k e d (omega arith) ∙ sym (get_or-take i es k d before_i)) ∙ is ∙ ap (λ (s : Stored). s.0) at)

-- ---- the list and the map

stands : (es : List Stored) (path : List ℕ) (v : Entry) → AreOnce es → Contains es (path, v) → map.get (files_in es) path ≡ Some v
stands es path v once (k, lt, is) =
    let place : IsPlaceOf es path k = record {
      within = lt;
      there = λ d. ap (λ (s : Stored). s.0) (get_or_default es k d (path, v) lt ∙ is);
      first = λ j d early same_path. once j k d early lt (same_path ∙ sym (ap (λ (s : Stored). s.0) (get_or_default es k d (path, v) lt ∙ is)));
    } in
    there_is es path k (path, v) place ∙ ap (λ (s : Stored). Some s.1) is

contained : (es : List Stored) (path : List ℕ) (v : Entry) → map.find by_bytes path es ≡ Some v → Contains es (path, v)
contained [] path v e = let bad : None ≡ Some v = e in cc
contained (x ∷ es) path v e = by (contained es path v) (eq_by_cmp by_bytes path x.0) refl e
  where
    by : (map.find by_bytes path es ≡ Some v → Contains es (path, v)) → (b : Bool) → eq_by_cmp by_bytes path x.0 ≡ b → cond b (Some x.1) (map.find by_bytes path es) ≡ Some v → Contains (x ∷ es) (path, v)
    by rest true t is =
        let key : path ≡ x.0 = same path x.0 t in
        let value : x.1 ≡ v = cc in
        (zero, omega arith, λ i. (sym key i, value i))
    by rest false t is = let w = rest is in (suc w.0, omega arith, w.2)

-- the list of a folder is that of the map
pub listed : (es : List Stored) (folder : List ℕ) (items : List Item) → AreOnce es → ListsOf es folder items → Lists (files_in es) folder items
listed es folder items once l =
    same_members (IsItemOf es folder) (IsEntryOf (files_in es) folder) items
    (λ x p. record { there = (p.entry, stands es (inside folder x.name) p.entry once p.stored, p.kind); direct = p.direct })
    (λ x q. record { entry = q.there.0; stored = contained es (inside folder x.name) q.there.0 (sym (map.get-from_entries nat_list_cmp_total es (inside folder x.name)) ∙ q.there.1); kind = q.there.2; direct = q.direct })
    l
