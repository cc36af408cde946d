use Rattle.std.proofs.Common.{List, ℕ, subst}
use Rattle.dep_form.specs.LookUps.{IsClassNamed, IsMethodNamed}
use Rattle.session_form.specs.Places.{no_class, no_method}
use Rattle.session_places.proofs.naming.method_at.Goals as goal

pub returns-in_default : goal.returns-in_default
returns-in_default c = no_class (λ k h. c.in_default.ensures k (rw c.bytes.ensures h))

pub returns-in_default-find_method : goal.returns-in_default-find_method
returns-in_default-find_method c =
    no_method c.in-Some.class (subst (λ (n : List ℕ). IsClassNamed c.args.f.now n c.in-Some.class) c.bytes.ensures c.in-Some.ensures)
    (λ m h. c.in_default-find_method.ensures m (rw (c.bytes-2.ensures, c.bytes-3.ensures) h))

pub returns : goal.returns
returns c =
    let class = subst (λ (n : List ℕ). IsClassNamed c.args.f.now n c.in-Some.class) c.bytes.ensures c.in-Some.ensures in
    let name = subst (λ (n : List ℕ). IsMethodNamed c.args.f.now c.in-Some.class n c.bytes-3.result.now c.in-Some-find_method.method) c.bytes-2.ensures c.in-Some-find_method.ensures in
    let method = subst (λ (n : List ℕ). IsMethodNamed c.args.f.now c.in-Some.class c.args.place.now.name n c.in-Some-find_method.method) c.bytes-3.ensures name in
    (c.in-Some.class, class, method)
