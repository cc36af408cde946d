-- Where the statements of a program stand.
use Rattle.std.proofs.Common.{◌≡◌, ◌<◌, List, [], ◌∷◌, ◌++◌, map, get_or, All, Contains, refl, sym, ap, subst, ◌∙◌, inl, inr, arith}
use Rattle.std.specs.Prelude.{AllPairs}
use Rattle.std.proofs.lemmas.List.{map-append, length-map, get_or-map}
use Rattle.std.proofs.lemmas.List.Elements.{All-append, All-cons, All-nil, All-weaker}
use Rattle.slicer_ids.specs.Sets.{IsOrderedListOf}
use Rattle.slicer_ids.specs.Order.{StatementBefore}
use Rattle.slicer_ids.specs.declared.ids.Statement.{Statement}
use Rattle.slicer_ids.specs.declared.ids.MethodId.{MethodId}
use Rattle.slicer_ids.proofs.GrowingOrder.{reworded}
use Rattle.worklists.specs.Growth.{FromOne}
use Rattle.class_form.specs.declared.class_file.ClassFile.{ClassFile}
use Rattle.class_form.specs.declared.body.Body.{Body}
use Rattle.class_form.specs.declared.body.Point.{Point}
use Rattle.program_form.specs.Programs.{Program}
use Rattle.program_form.specs.Statements.{IsAt}
use Rattle.signature_tables.specs.Programs.{IsOfClasses}
use Rattle.signature_tables.specs.Statements.{statement, IsInstrPc, HasBodies}
use Rattle.variable_tables.specs.Growth.{GrowsInOrder}
use Rattle.variable_tables.specs.Members.{IsMethodAt}
use Rattle.variable_tables.specs.Statements.{IsFollowed}
use Rattle.variable_tables.proofs.InOrder.{grows_one}
use Rattle.constraint_rules.specs.Settings.{IsPlaced, place_of}
use Rattle.constraint_rules.specs.declared.tables.Reachable.{Reachable}
use Rattle.constraints.specs.Places.{IsPlaceAt, IsPlaceIn, IsThere, IsStatement, ArePlaces, CanBeFollowed, AreInOrder}
use Rattle.constraints.specs.Bodies.{AreAllPlaces}

-- one more item has P too
pub all_pushed : {A : Type 0} (P : A → Type 0) (old new : List A) (x : A) → new ≡ old ++ x ∷ [] → All P old → P x → All P new
all_pushed {A} P old new x e all here = subst (λ (zs : List A). All P zs) (sym e) (All-append P old (x ∷ []) all (All-cons P x [] here (All-nil P)))

-- one more instruction
pub pushed_place : (old new : List Reachable) (x : Reachable) (b : Body) (q : Point) → new ≡ old ++ x ∷ [] → x.body.now ≡ b → x.point.now ≡ q → IsInstrPc b.instrs q.pc
    → GrowsInOrder StatementBefore (map place_of old) (map place_of new) (IsPlaceAt b q)
pushed_place old new x b q e body point here =
    let f : map place_of new ≡ map place_of old ++ place_of x ∷ [] = ap (λ (zs : List Reachable). map place_of zs) e ∙ map-append place_of old (x ∷ []) in
    let at : place_of x ≡ statement b q.pc = ap (λ (z : Body). statement z x.point.now.pc) body ∙ ap (λ (z : Point). statement b z.pc) point in
    grows_one StatementBefore (λ t. ⊥) (map place_of old) (map place_of new) (place_of x) (IsPlaceAt b q) f (at, here) (λ n. n) (λ t h. at ∙ sym h.0)

-- an instruction of a body stands in each program that has the body
pub placed : (p : Program) (x : Reachable) → Contains p.bodies x.body.now → Contains x.body.now.shape.points x.point.now → Contains x.body.now.instrs x.instr.now
    → x.instr.now.pc ≡ x.point.now.pc → IsMethodAt p x.body.now.method x.file.now x.member.now → IsPlaced p x
placed p x body point instr pc (d, name, descriptor, at, class, declared) = record {
  at = (body, refl, instr, pc, (x.point.now, (point, refl)));
  file = (d.class, (d, at, refl, class));
  member = (d, name, descriptor, (at, (x.file.now, class, declared)));
}

pub there : (classes : List ClassFile) (bodies : List Body) (x : Reachable) → Contains bodies x.body.now → IsFollowed x.body.now → Contains x.body.now.shape.points x.point.now
    → Contains x.body.now.instrs x.instr.now → x.instr.now.pc ≡ x.point.now.pc
    → ((p : Program) → IsOfClasses classes p → IsMethodAt p x.body.now.method x.file.now x.member.now) → IsThere classes bodies x
there classes bodies x body followed point instr pc member = record {
  body = body;
  followed = followed;
  point = point;
  placed = λ p of e. placed p x (subst (λ (bs : List Body). Contains bs x.body.now) (sym e) body) point instr pc (member p of);
}

-- points give their statements in order, and so do bodies
pub points_rise : (b : Body) (y z : Point) (s t : Statement) → y.pc < z.pc → IsPlaceAt b y s → IsPlaceAt b z t → StatementBefore s t
points_rise b y z s t lt h k = subst (λ (u : Statement). StatementBefore u t) (sym h.0) (subst (λ (u : Statement). StatementBefore (statement b y.pc) u) (sym k.0) (inr (refl, lt)))

pub bodies_rise : (a b : Body) (s t : Statement) → a.method.0 < b.method.0 → IsPlaceIn a s → IsPlaceIn b t → StatementBefore s t
bodies_rise a b s t lt (y, c, (e, h)) (z, d, (f, k)) =
    subst (λ (u : Statement). StatementBefore u t) (sym e) (subst (λ (u : Statement). StatementBefore (statement a y.pc) u) (sym f) (inl lt))

-- the statements of a program are those of its bodies
module _ (p : Program) (bodies : List Body) (e : p.bodies ≡ bodies) where
  is_statement : (t : Statement) → FromOne IsPlaceIn bodies t → IsStatement p t
  is_statement t (b, has, (q, point, (same, (i, within, pc)))) =
      let at : IsAt p (statement b q.pc) b i = (subst (λ (bs : List Body). Contains bs b) (sym e) has, refl, within, pc, (q, (point, refl))) in
      subst (λ (u : Statement). IsStatement p u) (sym same) (b, i, at, tt)

  from_body : (t : Statement) → IsStatement p t → FromOne IsPlaceIn bodies t
  from_body t (b, i, (has, method, within, pc, (q, (point, at))), tt) =
      let same : t ≡ statement b q.pc = ap (λ (m : MethodId). record { method = m; pc = t.pc }) (sym method) ∙ ap (λ k. statement b k) (sym at) in
      (b, subst (λ (bs : List Body). Contains bs b) e has, (q, point, (same, (i, within, pc ∙ sym at))))

  pub statements_listed : (ts : List Statement) → IsOrderedListOf StatementBefore ts (FromOne IsPlaceIn bodies) → IsOrderedListOf StatementBefore ts (IsStatement p)
  statements_listed ts g = reworded StatementBefore ts (FromOne IsPlaceIn bodies) (IsStatement p) is_statement from_body g

-- ---- what is asked of the instructions

pub pairs_back : {A K : Type 0} (f : A → K) (B : K → K → Type 0) (xs : List A) → AllPairs B (map f xs) → AllPairs (λ x y. B (f x) (f y)) xs
pairs_back f B xs h i j d lt within =
    subst (λ z. B z (f (get_or xs j d))) (get_or-map f xs i d (f d) (omega (arith, lt, within)))
    (subst (λ z. B (get_or (map f xs) i (f d)) z) (get_or-map f xs j d (f d) within) (h i j (f d) lt (omega (arith, within, length-map xs f))))

pub in_order_of : (classes : List ClassFile) (bodies : List Body) (xs : List Reachable) → ArePlaces classes bodies xs → HasBodies classes bodies → AreInOrder xs
in_order_of classes bodies xs are (p, of, e) = record {
  each = All-weaker (IsThere classes bodies) CanBeFollowed (λ x h. (h.followed, h.point)) xs are.each;
  order = pairs_back place_of StatementBefore xs (are.listed p of e).order;
}

pub all_places : (classes : List ClassFile) (bodies : List Body) (xs : List Reachable) → ArePlaces classes bodies xs → (p : Program) → IsOfClasses classes p → p.bodies ≡ bodies → AreAllPlaces p xs
all_places classes bodies xs are p of e = record {
  each = All-weaker (IsThere classes bodies) (IsPlaced p) (λ x h. h.placed p of e) xs are.each;
  whole = (are.listed p of e).whole;
}
