-- The points are those of what control comes to.
use Rattle.std.proofs.Common.{◌≡◌, ◌<◌, ◌≤◌, ◌+◌, ◌-◌, ℕ, true, false, List, [], ◌∷◌, ◌++◌, take, map, length, get_or, All, AllPairs, Contains, Some, ◌⊎◌, inl, inr, refl, sym, ap, subst, ◌∙◌, arith}
use Rattle.std.specs.Prelude.{slice_get, ◌↔◌, IsTrue}
use Rattle.std.proofs.lemmas.Bool.{cases_lt}
use Rattle.std.proofs.lemmas.Option.{slice_get_within, slice_get-get_or, get_or_from_slice_get, slice_get_past}
use Rattle.std.proofs.lemmas.List.{get_or-map, length-map}
use Rattle.std.proofs.lemmas.List.Elements.{Contains-get_or, Contains-append_left, Contains-push, Contains-push_cases, All-contains}
use Rattle.std.proofs.lemmas.List.Quantifiers.{all_pairs_push}
use Rattle.slicer_ids.specs.Sets.{IsOrderedListOf}
use Rattle.slicer_ids.specs.Walks.{Leads, stay, more}
use Rattle.slicer_ids.proofs.WalkForms.{by_cases, by_list}
use Rattle.class_form.specs.Table.{opcode_of}
use Rattle.class_form.specs.declared.body.Instr.{Instr}
use Rattle.class_form.specs.declared.body.Point.{Point}
use Rattle.class_form.specs.declared.class_file.CodeBody.{CodeBody}
use Rattle.class_form.specs.Shapes.{GoesTo, Catches, HasLocal, RunsOff, IsReachable, IsReached, IsStart, IsEntry, ControlPasses, IsPointOf, ArePoints}
use Rattle.worklists.specs.Growth.{Grows}
use Rattle.worklist.specs.Worklists.{is_marked}
use Rattle.worklists.proofs.Growing.{Grows-then, Grows-none}
use Rattle.code_shape.specs.declared.covers.Cover.{Cover}
use Rattle.code_shape.specs.declared.search.Code.{Code}
use Rattle.code_shape.specs.declared.search.Search.{Search}
use Rattle.code_shape.specs.Codes.{IsAt, AreInOrder}
use Rattle.code_shape.specs.Covers.{CoverBefore, cover}
use Rattle.code_shape.specs.Searches.{IsCode, IsDone, depth_in}
use Rattle.code_shape.specs.Listed.{IsNextOf, handler_of}
use Rattle.code_shape.specs.Pointed.{ArePointsTo}
use Rattle.code_shape.proofs.Orders.{index_in, there_at, read_at}
use Rattle.code_shape.proofs.Searching.{one_index, same_instr, index_at}
use Rattle.code_shape.proofs.Fitting.{last_ends, depth_at}

pub no_next_of : (i : Instr) (old : List ℕ) → (IsTrue (opcode_of i.op).goes_on → ⊥) → Grows old old (IsNextOf i)
no_next_of i old never = Grows-none old (IsNextOf i) (λ n h. never h.0)

pub goes_to : (i : Instr) (mid new : List ℕ) → Grows [] mid (Contains i.targets) → Grows mid new (IsNextOf i) → Grows [] new (GoesTo i)
goes_to i mid new g h = Grows-then [] mid new (Contains i.targets) (IsNextOf i) (GoesTo i) (λ n x. x) (λ n x. x) g h

pub ordered_next : (i : Instr) (all next : List ℕ) → Grows [] all (GoesTo i) → AllPairs (λ (a b : ℕ). a < b) next → ((n : ℕ) → Contains next n ↔ Contains all n) → IsOrderedListOf (λ (a b : ℕ). a < b) next (GoesTo i)
ordered_next i all next g order members = record {
  each = λ k d lt. elim (g.only (get_or next k d) ((members (get_or next k d)).0 (Contains-get_or next k d lt))) [ inl none ↦ absurd (omega (arith, none.1)) | inr p ↦ p ];
  order = order;
  whole = λ n p. (members n).1 (g.all n p);
}

-- the next instruction begins within the code
pub next_small : (c : Code) (k : ℕ) (i : Instr) → IsCode c → IsAt c.instrs.now k i → (RunsOff c.body.now i → ⊥) → length c.body.now.code < 65536 → IsTrue (opcode_of i.op).goes_on → i.pc + i.size < 65536
next_small c k i code at stays small goes = elim (cases_lt (k + 1) (length c.instrs.now)) [
  | inl less ↦
      let n = length c.instrs.now - 1 in
      let j = index_at c.instrs.now (k + 1) less in
      let last = index_at c.instrs.now n (omega arith) in
      let ends = code.instrs.last n last.0 last.1 (slice_get_past c.instrs.now (n + 1) (omega arith)) in
      let from = code.instrs.follow k i j.0 at j.1 in
      elim (cases_lt (k + 1) n) [
        | inl before ↦ omega (arith, code.order (k + 1) n j.0 last.0 before j.1 last.1, from, ends)
        | inr ge ↦ let e : k + 1 ≡ n = omega arith in let same = same_instr c.instrs.now n j.0 last.0 (subst (λ (m : ℕ). IsAt c.instrs.now m j.0) e j.1) last.1 in omega (arith, ap (λ (x : Instr). x.pc) same, from, ends)
      ]
  | inr le ↦ absurd (stays (goes, last_ends c k i code at (omega (arith, slice_get_within c.instrs.now k i at))))
]

-- handlers in order
pub ordered_handlers : (c : Code) (k : ℕ) (i : Instr) (xs : List Cover) → IsCode c → IsAt c.instrs.now k i → AllPairs CoverBefore xs → ((x : Cover) → Contains xs x ↔ (Contains c.covers.now x × (x.index ≡ k)))
    → IsOrderedListOf (λ (a b : ℕ). a < b) (map handler_of xs) (Catches c.body.now i.pc)
ordered_handlers c k i xs code at order members = record {
  each = λ n d lt.
      let within : n < length xs = omega (arith, length-map xs handler_of) in
      let x : Cover = get_or xs n (cover 0 d) in
      let h = (members x).0 (Contains-get_or xs n (cover 0 d) within) in
      let covered = (code.covers x).0 h.0 in
      let same = same_instr c.instrs.now k covered.0 i (subst (λ (m : ℕ). IsAt c.instrs.now m covered.0) h.1 covered.1) at in
      subst (Catches c.body.now i.pc) (sym (get_or-map handler_of xs n (cover 0 d) d within)) (subst (λ (y : Instr). Catches c.body.now y.pc x.handler) same covered.2);
  order = λ a b d lt within.
      let wb : b < length xs = omega (arith, length-map xs handler_of) in
      let wa : a < length xs = omega arith in
      let z : Cover = cover 0 d in
      let ha = (members (get_or xs a z)).0 (Contains-get_or xs a z wa) in
      let hb = (members (get_or xs b z)).0 (Contains-get_or xs b z wb) in
      subst (λ (n : ℕ). n < get_or (map handler_of xs) b d) (sym (get_or-map handler_of xs a z d wa)) (subst (λ (n : ℕ). (get_or xs a z).handler < n) (sym (get_or-map handler_of xs b z d wb)) (less (get_or xs a z) (get_or xs b z) (order a b z lt wb) (ha.1 ∙ sym hb.1)));
  whole = λ h catches.
      let x = cover k h in
      let has = (members x).1 ((code.covers x).1 (i, at, catches), refl) in
      (has.0, omega (arith, has.1, length-map xs handler_of), get_or-map handler_of xs has.0 x h has.1 ∙ ap (λ (y : Cover). y.handler) has.2);
}
  where
    less : (p q : Cover) → CoverBefore p q → p.index ≡ q.index → p.handler < q.handler
    less p q (inl l) e = absurd (omega arith)
    less p q (inr l) e = l.1

pub no_points : (c : Code) (s : Search) (points : List Point) → points ≡ [] → ArePointsTo c s 0 points
no_points c s points e = subst (ArePointsTo c s 0) (sym e) (record { each = λ p h. absurd (omega (arith, h.1)); order = λ i j d lt within. absurd (omega arith); whole = λ k i lt at r. absurd (omega arith) })

module _ (c : Code) (s : Search) (code : IsCode c) (done : IsDone c s) (n : ℕ) (points : List Point) (t : ArePointsTo c s n points) (i : Instr) (at : IsAt c.instrs.now n i) where
  more_each : (p : Point) → Contains points p → (k : ℕ) × (j : Instr) × (k < n + 1) × IsAt c.instrs.now k j × IsReachable c.body.now c.instrs.now j.pc × IsPointOf c.body.now j p × (p.depth ≡ get_or s.depths.items k 0)
  more_each p h = let o = t.each p h in (o.0, o.1, omega (arith, o.2), o.3, o.4, o.5, o.6)

  pub passed : is_marked s.found.marks.items n ≡ false → ArePointsTo c s (n + 1) points
  passed unmarked = record { each = more_each; order = t.order; whole = whole }
    where
      whole : (k : ℕ) (j : Instr) → k < n + 1 → IsAt c.instrs.now k j → IsReachable c.body.now c.instrs.now j.pc → (p : Point) × Contains points p × (p.pc ≡ j.pc)
      whole k j lt atj r = elim (cases_lt k n) [
        | inl less ↦ t.whole k j less atj r
        | inr le ↦
            let e : k ≡ n = omega arith in
            let has = (done.exact k j atj).1 r in
            absurd (different (sym (All-contains (λ m. is_marked s.found.marks.items m ≡ true) s.found.items.items k done.search.marks.listed has) ∙ ap (is_marked s.found.marks.items) e ∙ unmarked))
      ]
        where
          different : true ≡ false → ⊥
          different q = absurd cc

  pub one_point : (p : Point) (new : List Point) → is_marked s.found.marks.items n ≡ true → new ≡ points ++ p ∷ [] → IsPointOf c.body.now i p → p.depth ≡ get_or s.depths.items n 0 → ArePointsTo c s (n + 1) new
  one_point p new marked e is depth = subst (ArePointsTo c s (n + 1)) (sym e) (record {
    each = λ q h. elim (Contains-push_cases points p q h) [
      | inl o ↦ more_each q o
      | inr same ↦ subst (λ (x : Point). (k : ℕ) × (j : Instr) × (k < n + 1) × IsAt c.instrs.now k j × IsReachable c.body.now c.instrs.now j.pc × IsPointOf c.body.now j x × (x.depth ≡ get_or s.depths.items k 0)) same (n, i, omega arith, at, (done.exact n i at).0 (done.search.marks.marked n marked), is, depth)
    ];
    order = all_pairs_push (λ (a b : Point). a.pc < b.pc) points p t.order (λ k d lt.
        let o = t.each (get_or points k d) (Contains-get_or points k d lt) in
        omega (arith, code.order o.0 n o.1 i o.2 o.3 at, o.5.pc, is.pc));
    whole = λ k j lt atj r. elim (cases_lt k n) [
      | inl less ↦ let o = t.whole k j less atj r in (o.0, Contains-append_left points (p ∷ []) o.0 o.1, o.2)
      | inr le ↦
          let q : k ≡ n = omega arith in
          let same = same_instr c.instrs.now n j i (subst (λ (m : ℕ). IsAt c.instrs.now m j) q atj) at in
          (p, Contains-push points p, is.pc ∙ sym (ap (λ (x : Instr). x.pc) same))
    ];
  })

-- where nothing runs off the end, only instructions are reachable
pub reach_start : (c : Code) {pc : ℕ} → IsCode c → ((i : Instr) → IsReached c.body.now c.instrs.now i → RunsOff c.body.now i → ⊥) → Leads (ControlPasses c.body.now c.instrs.now) 0 pc → IsStart c.instrs.now pc
reach_start c code stays stay = let i = index_at c.instrs.now 0 code.instrs.some in (i.0, (there_at c.instrs.now 0 i.0 i.1, code.instrs.first i.0 i.1))
reach_start c {pc} code stays (more {b} r step) =
    let i = step.0 in
    let reached : IsReached c.body.now c.instrs.now i = (step.1.0, subst (IsReachable c.body.now c.instrs.now) (sym step.1.1) (by_list (ControlPasses c.body.now c.instrs.now) 0 r)) in
    elim step.2 [
      | inl goes ↦ elim goes [
        | inl target ↦ code.instrs.targets i pc step.1.0 target
        | inr next ↦
            let k = index_in c.instrs.now i step.1.0 in
            elim (cases_lt (k.0 + 1) (length c.instrs.now)) [
              | inl less ↦ let j = index_at c.instrs.now (k.0 + 1) less in (j.0, (there_at c.instrs.now (k.0 + 1) j.0 j.1, code.instrs.follow k.0 i j.0 k.1 j.1 ∙ sym next.1))
              | inr le ↦ absurd (stays i reached (next.0, last_ends c k.0 i code k.1 (omega (arith, slice_get_within c.instrs.now k.0 i k.1))))
            ]
      ]
      | inr catches ↦ let e = catches.0 in subst (IsStart c.instrs.now) catches.4 (All-contains (IsEntry c.body.now c.instrs.now) c.body.now.handlers e code.entries catches.1).handler
    ]

-- all points. Only instructions are reachable, since none runs off the end
pub all_points : (c : Code) (s : Search) (points : List Point) → IsCode c → IsDone c s → ((i : Instr) → IsReached c.body.now c.instrs.now i → RunsOff c.body.now i → ⊥) → (n : ℕ) → length c.instrs.now ≤ n → ArePointsTo c s n points
    → ArePoints c.body.now c.instrs.now (depth_in c.instrs.now s.depths.items) points
all_points c s points code done stays n le t = record {
  each = λ p h.
      let o = t.each p h in
      (o.1, (there_at c.instrs.now o.0 o.1 o.3, o.4), o.5, o.6 ∙ sym (depth_at c.instrs.now s.depths.items o.0 o.1 code.order done.search.depths o.3));
  order = t.order;
  whole = λ pc r.
      let i = reach_start c code stays (by_cases (ControlPasses c.body.now c.instrs.now) 0 0 pc r.0 stay r.1) in
      let k = index_in c.instrs.now i.0 i.1.0 in
      let o = t.whole k.0 i.0 (omega (arith, slice_get_within c.instrs.now k.0 i.0 k.1)) k.1 (subst (IsReachable c.body.now c.instrs.now) (sym i.1.1) r) in
      (o.0, o.1, o.2 ∙ i.1.1);
}
