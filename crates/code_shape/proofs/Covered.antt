-- What the ranges cover is what the entries cover.
use Rattle.std.proofs.Common.{◌≡◌, ◌<◌, ◌≤◌, ◌+◌, ◌-◌, ℕ, List, [], ◌∷◌, ◌++◌, take, drop, length, get_or, All, AllPairs, Contains, Some, ◌⊎◌, inl, inr, refl, sym, ap, subst, ◌∙◌, arith}
use Rattle.std.specs.Prelude.{slice_get, ◌↔◌}
use Rattle.std.proofs.lemmas.Bool.{cases_lt}
use Rattle.std.proofs.lemmas.Option.{slice_get_within, slice_get-get_or, get_or_from_slice_get}
use Rattle.std.proofs.lemmas.List.{take_more, get_or-take, length-take}
use Rattle.std.proofs.lemmas.List.Elements.{Contains-push, Contains-append_left, Contains-get_or}
use Rattle.class_form.specs.declared.body.Instr.{Instr}
use Rattle.class_form.specs.declared.class_file.CodeBody.{CodeBody}
use Rattle.class_form.specs.declared.class_file.Handler.{Handler}
use Rattle.class_form.specs.Shapes.{Catches}
use Rattle.worklists.specs.Growth.{Grows, FromOne}
use Rattle.worklists.proofs.Growing.{FromBelow, Grows-same, Grows-kept, Grows-more, Grows-none}
use Rattle.worklist.proofs.Slices.{in_part, part_has, part_at}
use Rattle.code_shape.specs.declared.covers.Range.{Range}
use Rattle.code_shape.specs.declared.covers.Cover.{Cover}
use Rattle.code_shape.specs.Codes.{IsAt, AreInOrder}
use Rattle.code_shape.specs.Covers.{range_of, cover, RangeBefore, CoverBefore, IsWithin, CoversFrom, CoveredBy, IsCovered}
use Rattle.code_shape.proofs.Orders.{index_in, read_at, there_at}

index_at : {A : Type 0} (xs : List A) (k : ℕ) → k < length xs → (x : A) × (slice_get xs k ≡ Some x)
index_at [] k w = absurd (omega arith)
index_at (x ∷ xs) k w = let y = get_or (x ∷ xs) k x in (y, slice_get-get_or (x ∷ xs) k x w)

pub none_within : (instrs : List Instr) (from to handler : ℕ) (old : List Cover) → to ≤ from → Grows old old (CoversFrom instrs from to handler)
none_within instrs from to handler old le = Grows-none old (CoversFrom instrs from to handler) (λ c h. absurd (omega (arith, h.1.2, h.1.3)))

module _ (instrs : List Instr) (from to handler first last : ℕ) (lt : from < to)
    (first_within : first ≤ length instrs) (last_within : last ≤ length instrs)
    (before_first : (k : ℕ) (i : Instr) → k < first → IsAt instrs k i → i.pc < from) (after_first : (k : ℕ) (i : Instr) → first ≤ k → IsAt instrs k i → from ≤ i.pc)
    (before_last : (k : ℕ) (i : Instr) → k < last → IsAt instrs k i → i.pc < to) (after_last : (k : ℕ) (i : Instr) → last ≤ k → IsAt instrs k i → to ≤ i.pc) where
  pub first_le : first ≤ last
  first_le = elim (cases_lt last first) [
    | inr le ↦ le
    | inl less ↦
        let d = index_at instrs last (omega arith) in
        absurd (omega (arith, before_first last d.0 less d.1, after_last last d.0 (omega arith) d.1))
  ]

  pub covers_within : (end : ℕ) (old new : List Cover) → end ≡ last → Grows old new (FromBelow (λ k c. (first ≤ k) × (c ≡ cover k handler)) end) → Grows old new (CoversFrom instrs from to handler)
  covers_within end old new e g = Grows-same old new (FromBelow (λ k c. (first ≤ k) × (c ≡ cover k handler)) end) (CoversFrom instrs from to handler) to_covers from_covers g
    where
      to_covers : (c : Cover) → FromBelow (λ k d. (first ≤ k) × (d ≡ cover k handler)) end c → CoversFrom instrs from to handler c
      to_covers c (k, below, (above, is)) =
          let d = index_at instrs k (omega arith) in
          subst (λ (x : Cover). CoversFrom instrs from to handler x) (sym is) (refl, (d.0, d.1, after_first k d.0 above d.1, before_last k d.0 (omega arith) d.1))

      from_covers : (c : Cover) → CoversFrom instrs from to handler c → FromBelow (λ k d. (first ≤ k) × (d ≡ cover k handler)) end c
      from_covers c (h, (i, at, lo, hi)) = (
        c.index,
        elim (cases_lt c.index last) [ inl less ↦ omega arith | inr le ↦ absurd (omega (arith, after_last c.index i le at)) ],
        (elim (cases_lt c.index first) [ inl less ↦ absurd (omega (arith, before_first c.index i less at)) | inr le ↦ le ], ap (λ (n : ℕ). cover c.index n) h),
      )

-- one more range: what an earlier one with the same handler covers is there
module _ (instrs : List Instr) (ranges : List Range) (n : ℕ) (r : Range) (within : n < length ranges) (at : r ≡ get_or ranges n r) (order : AllPairs RangeBefore ranges)
    (handler done from : ℕ) (before : (done ≡ 0) ⊎ ((e : Range) × Contains (take n ranges) e × (e.handler ≡ handler) × (e.end ≡ done)))
    (low : r.start ≤ from) (skipped : (pc : ℕ) → pc < from → r.start ≤ pc → (r.handler ≡ handler) × (pc < done)) where
  earlier : (e : Range) → Contains (take n ranges) e → RangeBefore e r
  earlier e c =
      let lt : c.0 < n = omega (arith, c.1, length-take n ranges) in
      let is : get_or ranges c.0 e ≡ e = sym (get_or-take n ranges c.0 e lt) ∙ c.2 in
      let rr : get_or ranges n e ≡ r = get_or_from_slice_get ranges n r e (read_at ranges n r within at) in
      subst (λ (x : Range). RangeBefore x r) is (subst (λ (x : Range). RangeBefore (get_or ranges c.0 e) x) rr (order c.0 n e lt within))

  starts_before : (e : Range) → RangeBefore e r → e.handler ≡ r.handler → e.start ≤ r.start
  starts_before e (inl less) same = absurd (omega arith)
  starts_before e (inr (h, inl less)) same = omega arith
  starts_before e (inr (h, inr (s, less))) same = omega arith

  there : (c : Cover) (old : List Cover) → Grows [] old (FromOne (CoveredBy instrs) (take n ranges)) → (i : Instr) → IsAt instrs c.index i → c.handler ≡ r.handler → r.start ≤ i.pc → i.pc < from → Contains old c
  there c old g i is h lo less =
      let skip = skipped i.pc less lo in
      elim before [
        | inl zero ↦ absurd (omega (arith, skip.1))
        | inr (e, has, same, end) ↦
            let first = starts_before e (earlier e has) (same ∙ sym skip.0) in
            g.all c (e, has, (h ∙ skip.0 ∙ sym same, (i, is, omega (arith, first), omega (arith, end, skip.1))))
      ]

  pub one_range : (old new : List Cover) → Grows [] old (FromOne (CoveredBy instrs) (take n ranges)) → Grows old new (CoversFrom instrs from r.end r.handler) → Grows [] new (FromOne (CoveredBy instrs) (take (n + 1) ranges))
  one_range old new g h = Grows-more (CoveredBy instrs) ranges n r [] old new within g (subst (λ (x : Range). Grows old new (CoveredBy instrs x)) at (record { front = h.front; all = all; only = only }))
    where
      all : (c : Cover) → CoveredBy instrs r c → Contains new c
      all c (e, (i, is, lo, hi)) = elim (cases_lt i.pc from) [
        | inl less ↦ Grows-kept old new (CoversFrom instrs from r.end r.handler) h c (there c old g i is e lo less)
        | inr le ↦ h.all c (e, (i, is, le, hi))
      ]

      only : (c : Cover) → Contains new c → Contains old c ⊎ CoveredBy instrs r c
      only c has = elim (h.only c has) [ inl o ↦ inl o | inr (e, (i, is, lo, hi)) ↦ inr (e, (i, is, omega arith, hi)) ]

  has_more : (e : Range) → Contains (take n ranges) e → Contains (take (n + 1) ranges) e
  has_more e c = subst (λ (xs : List Range). Contains xs e) (sym (take_more ranges n r within)) (Contains-append_left (take n ranges) (get_or ranges n r ∷ []) e c)

  pub done_next : (next : ℕ) → (next ≡ r.end) ⊎ ((next ≡ done) × (r.handler ≡ handler)) → (next ≡ 0) ⊎ ((e : Range) × Contains (take (n + 1) ranges) e × (e.handler ≡ r.handler) × (e.end ≡ next))
  done_next next (inl is) = inr (r, subst (λ (xs : List Range). Contains xs r) (sym (take_more ranges n r within)) (subst (λ (x : Range). Contains (take n ranges ++ get_or ranges n r ∷ []) x) (sym at) (Contains-push (take n ranges) (get_or ranges n r))), refl, sym is)
  done_next next (inr (is, same)) = elim before [
    | inl zero ↦ inl (is ∙ zero)
    | inr (e, has, h, end) ↦ inr (e, has_more e has, h ∙ sym same, end ∙ sym is)
  ]

pub covered_is : (body : CodeBody) (instrs : List Instr) (listed ranges : List Range) (found all : List Cover)
    → Grows [] listed (FromOne (λ e r. r ≡ range_of e) body.handlers) → ((r : Range) → Contains ranges r ↔ Contains listed r)
    → Grows [] found (FromOne (CoveredBy instrs) ranges) → ((c : Cover) → Contains all c ↔ Contains found c)
    → (c : Cover) → Contains all c ↔ IsCovered body instrs c
covered_is body instrs listed ranges found all l r f a c = (to, from)
  where
    to : Contains all c → IsCovered body instrs c
    to has = elim (f.only c ((a c).0 has)) [
      | inl none ↦ absurd (omega (arith, none.1))
      | inr (x, in_ranges, (h, (i, at, lo, hi))) ↦ elim (l.only x ((r x).0 in_ranges)) [
        | inl none ↦ absurd (omega (arith, none.1))
        | inr (e, entry, is) ↦ (i, at, (e, entry, omega (arith, ap (λ (y : Range). y.start) is), omega (arith, ap (λ (y : Range). y.end) is), sym (h ∙ ap (λ (y : Range). y.handler) is)))
      ]
    ]

    from : IsCovered body instrs c → Contains all c
    from (i, at, (e, entry, lo, hi, h)) = (a c).1 (f.all c (range_of e, (r (range_of e)).1 (l.all (range_of e) (e, entry, refl)), (sym h, (i, at, lo, hi))))

pub index_le : (covers : List Cover) → AllPairs CoverBefore covers → (j k : ℕ) (a b : Cover) → j < k → slice_get covers j ≡ Some a → slice_get covers k ≡ Some b → a.index ≤ b.index
index_le covers order j k a b lt ea eb =
    let h = order j k a lt (slice_get_within covers k b eb) in
    let x = get_or_from_slice_get covers j a a ea in
    let y = get_or_from_slice_get covers k b a eb in
    less a b (subst (λ (c : Cover). CoverBefore c b) x (subst (λ (c : Cover). CoverBefore (get_or covers j a) c) y h))
  where
    less : (c d : Cover) → CoverBefore c d → c.index ≤ d.index
    less c d (inl l) = omega arith
    less c d (inr l) = omega (arith, l.0)

module _ (covers : List Cover) (order : AllPairs CoverBefore covers) (index low high : ℕ) (within : high ≤ length covers)
    (before_low : (k : ℕ) (c : Cover) → k < low → slice_get covers k ≡ Some c → c.index < index) (after_low : (k : ℕ) (c : Cover) → low ≤ k → slice_get covers k ≡ Some c → index ≤ c.index)
    (before_high : (k : ℕ) (c : Cover) → k < high → slice_get covers k ≡ Some c → c.index < index + 1) (after_high : (k : ℕ) (c : Cover) → high ≤ k → slice_get covers k ≡ Some c → index + 1 ≤ c.index) where
  pub low_le : low ≤ length covers → low ≤ high
  low_le in' = elim (cases_lt high low) [
    | inr le ↦ le
    | inl less ↦ let d = index_at covers high (omega arith) in absurd (omega (arith, before_low high d.0 less d.1, after_high high d.0 (omega arith) d.1))
  ]

  pub part_order : AllPairs CoverBefore (take (high - low) (drop low covers))
  part_order i j d lt in' =
      let a = part_at covers low high within i d (omega arith) in
      let b = part_at covers low high within j d in' in
      subst (λ (x : Cover). CoverBefore x (get_or (take (high - low) (drop low covers)) j d)) (sym a.1) (subst (λ (x : Cover). CoverBefore (get_or covers (low + i) d) x) (sym b.1) (order (low + i) (low + j) d (omega arith) (omega (arith, b.0))))

  pub part_members : (c : Cover) → Contains (take (high - low) (drop low covers)) c ↔ (Contains covers c × (c.index ≡ index))
  part_members c = (
    λ h. let k = in_part covers low high within c h in (there_at covers k.0 c k.3, omega (arith, after_low k.0 c k.1 k.3, before_high k.0 c k.2 k.3)),
    λ h. let k = index_in covers c h.0 in
        part_has covers low high within c k.0
        (elim (cases_lt k.0 low) [ inl less ↦ absurd (omega (arith, before_low k.0 c less k.1, h.1)) | inr le ↦ le ])
        (elim (cases_lt k.0 high) [ inl less ↦ less | inr le ↦ absurd (omega (arith, after_high k.0 c le k.1, h.1)) ]) k.1,
  )
