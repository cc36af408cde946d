use Rattle.std.proofs.Common.{◌≡◌, List, length, get_or, ap, subst, arith}
use Rattle.class_form.specs.declared.class_file.ClassFile.{ClassFile}
use Rattle.signature_tables.proofs.Filing.{place_within, class_within, class_of_method}
use Rattle.signature_tables.proofs.code.file_of.Goals as goal

pub bounds-method_places-method : goal.bounds-method_places-method
bounds-method_places-method c = place_within c.args.h.now c.method_places.result.now c.method_places.ensures c.requires.0 c.requires.1 c.args.method.0 c.requires.2

pub bounds-classes-class : goal.bounds-classes-class
bounds-classes-class c =
    let lt = place_within c.args.h.now c.method_places.result.now c.method_places.ensures c.requires.0 c.requires.1 c.args.method.0 c.requires.2 in
    omega (arith, class_within c.args.h.now c.method_places.result.now c.method_places.ensures c.args.method.0 (record { 0 = 0 }, 0) lt, ap length c.classes.ensures.classes)

pub returns : goal.returns
returns c =
    let lt = place_within c.args.h.now c.method_places.result.now c.method_places.ensures c.requires.0 c.requires.1 c.args.method.0 c.requires.2 in
    class_of_method c.args.h.now c.method_places.result.now c.method_places.ensures c.args.method (record { 0 = 0 }, 0) c.index-classes-class.result lt
    (subst (λ (ks : List ClassFile). c.index-classes-class.result ≡ get_or ks (get_or c.method_places.result.now c.args.method.0 (record { 0 = 0 }, 0)).0.0 c.index-classes-class.result) c.classes.ensures.classes c.index-classes-class.is)
