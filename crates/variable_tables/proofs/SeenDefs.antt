-- Whether none, one or several definitions were seen.
use Rattle.std.proofs.Common.{◌≡◌, ◌≢◌, ◌<◌, ℕ, List, [], ◌∷◌, ◌++◌, Contains, get_or, length, refl, sym, ap, subst, ◌∙◌, inl, inr, arith}
use Rattle.std.specs.Prelude.{◌↔◌}
use Rattle.std.proofs.lemmas.List.Elements.{Contains-push, Contains-push_cases, Contains-append_left, Contains-append_right, Contains-append_cases, All-contains}
use Rattle.slicer_ids.specs.Sets.{IsOrderedListOf}
use Rattle.class_form.specs.declared.body.Def.{Def}
use Rattle.class_form.specs.declared.body.Shape.{Shape}
use Rattle.class_form.specs.declared.body.Point.{Point}
use Rattle.class_form.specs.declared.body.SlotUse.{SlotUse}
use Rattle.class_form.specs.Reaching.{HoldsIn, HoldsAt}
use Rattle.variable_tables.specs.declared.alone.Seen.{Seen}
use Rattle.variable_tables.specs.declared.alone.Seen.TheVariants.{Nothing, One, Several}
use Rattle.variable_tables.specs.Operands.{IsAlone, IsSeen, IsSeenMore}
use Rattle.variable_tables.proofs.KeyedItems.{one_of_key}

pub first_seen : (ds : List Def) (d : Def) → IsSeen ds Nothing → IsSeen (ds ++ d ∷ []) (One d)
first_seen ds d none =
    subst (λ (zs : List Def). IsSeen (zs ++ d ∷ []) (One d)) (sym none) (Contains-push [] d, λ e c. elim (Contains-push_cases [] d e c) [ inl o ↦ absurd (omega (arith, o.1)) | inr is ↦ sym is ])

pub same_again : (ds : List Def) (c d : Def) → IsSeen ds (One c) → c ≡ d → IsSeen (ds ++ d ∷ []) (One c)
same_again ds c d seen same =
    (Contains-append_left ds (d ∷ []) c seen.0, λ e h. elim (Contains-push_cases ds d e h) [ inl o ↦ seen.1 e o | inr is ↦ sym is ∙ sym same ])

pub another : (ds : List Def) (c d : Def) → IsSeen ds (One c) → c ≢ d → IsSeen (ds ++ d ∷ []) Several
another ds c d seen other = (c, d, Contains-append_left ds (d ∷ []) c seen.0, Contains-push ds d, other)

pub still_several : (ds : List Def) (d : Def) → IsSeen ds Several → IsSeen (ds ++ d ∷ []) Several
still_several ds d (a, b, in_a, in_b, other) = (a, b, Contains-append_left ds (d ∷ []) a in_a, Contains-append_left ds (d ∷ []) b in_b, other)

-- ---- what holds in an operand
module _ (s : Shape) (pc operand : ℕ) where
  -- .. in a slot of one of the uses
  abbrev pub HoldsByOne : List SlotUse → Def → Type 0
  HoldsByOne us d = (u : SlotUse) × Contains us u × (u.operand ≡ operand) × HoldsAt s pc u.slot d

  abbrev pub IsSeenBy : List SlotUse → Seen → Type 0
  IsSeenBy us seen = (ds : List Def) × IsSeen ds seen × ((d : Def) → Contains ds d ↔ HoldsByOne us d)

  pub seen_none : IsSeenBy [] Nothing
  seen_none = ([], refl, λ d. (λ c. absurd (omega (arith, c.1)), λ h. absurd (omega (arith, h.1.1))))

  -- one more use, of another operand
  seen_other : (us : List SlotUse) (u : SlotUse) (seen : Seen) → (u.operand ≡ operand → ⊥) → IsSeenBy us seen → IsSeenBy (us ++ u ∷ []) seen
  seen_other us u seen other (ds, is, holds) = (
    ds,
    is,
    λ d. (
      λ c. let (w, among, e, h) = (holds d).0 c in (w, Contains-append_left us (u ∷ []) w among, e, h),
      λ (w, among, e, h). elim (Contains-push_cases us u w among) [
        | inl c ↦ (holds d).1 (w, c, e, h)
        | inr same ↦ absurd (other (ap (λ (z : SlotUse). z.operand) same ∙ e))
      ],
    ),
  )

  -- .. of the operand
  seen_more : (us : List SlotUse) (u : SlotUse) (seen after : Seen) → u.operand ≡ operand
      → ((ds : List Def) → IsSeen ds seen → (more : List Def) × IsSeen (ds ++ more) after × ((d : Def) → Contains more d ↔ HoldsAt s pc u.slot d)) → IsSeenBy us seen → IsSeenBy (us ++ u ∷ []) after
  seen_more us u seen after here step (ds, is, holds) =
      let (defs, more, are) = step ds is in (
        ds ++ defs,
        more,
        λ d. (
          λ c. elim (Contains-append_cases ds defs d c) [
            | inl o ↦ let (w, among, e, h) = (holds d).0 o in (w, Contains-append_left us (u ∷ []) w among, e, h)
            | inr n ↦ (u, Contains-push us u, here, (are d).0 n)
          ],
          λ (w, among, e, h). elim (Contains-push_cases us u w among) [
            | inl c ↦ Contains-append_left ds defs d ((holds d).1 (w, c, e, h))
            | inr same ↦ Contains-append_right ds defs d ((are d).1 (subst (λ (z : SlotUse). HoldsAt s pc z.slot d) (sym same) h))
          ],
        ),
      )

  pub seen_step : (us : List SlotUse) (u : SlotUse) (seen after : Seen) → IsSeenMore s pc operand u seen after → IsSeenBy us seen → IsSeenBy (us ++ u ∷ []) after
  seen_step us u seen after (inl (here, step)) by = seen_more us u seen after here step by
  seen_step us u seen after (inr (other, same)) by = subst (λ z. IsSeenBy (us ++ u ∷ []) z) (sym same) (seen_other us u seen other by)

-- a list has the members of its set
pub ordered_members : {A : Type 0} (B : A → A → Type 0) (P : A → Type 0) (xs : List A) → IsOrderedListOf B xs P → (x : A) → Contains xs x ↔ P x
ordered_members B P xs o x = (λ c. All-contains P xs x o.each c, λ h. o.whole x h)

-- the point of a program counter is one
module _ (s : Shape) (order : (i j : ℕ) (d : Point) → i < j → j < length s.points → (get_or s.points i d).pc < (get_or s.points j d).pc) where
  one_point : (p q : Point) → Contains s.points p → Contains s.points q → p.pc ≡ q.pc → p ≡ q
  one_point p q c d e = one_of_key (λ (z : Point). z.pc) s.points order p q c d e

  pub holds_in : (p : Point) (operand : ℕ) (d : Def) → Contains s.points p → HoldsByOne s p.pc operand p.uses d ↔ HoldsIn s p.pc operand d
  holds_in p operand d c = (
    λ (u, among, e, h). (p, (c, refl), u, among, e, h),
    λ (q, (d', e'), u, among, e, h). (u, subst (λ (z : Point). Contains z.uses u) (one_point q p d' c e') among, e, h),
  )

-- ---- the definition that alone holds
pub alone_one : (D : Def → Type 0) (ds : List Def) (d : Def) → ((e : Def) → Contains ds e ↔ D e) → IsSeen ds (One d) → IsAlone D d
alone_one D ds d are seen = ((are d).0 seen.0, λ e h. seen.1 e ((are e).1 h))

pub alone_none : (D : Def → Type 0) (ds : List Def) (d : Def) → ((e : Def) → Contains ds e ↔ D e) → IsSeen ds Nothing → IsAlone D d → ⊥
alone_none D ds d are none alone = let c = subst (λ (zs : List Def). Contains zs d) none ((are d).1 alone.0) in omega (arith, c.1)

pub alone_several : (D : Def → Type 0) (ds : List Def) (d : Def) → ((e : Def) → Contains ds e ↔ D e) → IsSeen ds Several → IsAlone D d → ⊥
alone_several D ds d are (a, b, in_a, in_b, other) alone = other (alone.1 a ((are a).0 in_a) ∙ sym (alone.1 b ((are b).0 in_b)))
