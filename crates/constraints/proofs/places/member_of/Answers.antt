use Rattle.std.proofs.Common.{◌≡◌, List, length, get_or, ap, subst, arith}
use Rattle.class_form.specs.declared.class_file.ClassFile.{ClassFile}
use Rattle.class_form.specs.declared.class_file.Member.{Member}
use Rattle.variable_tables.proofs.MethodPlaces.{place_within, class_within, index_within, method_there}
use Rattle.constraints.proofs.places.member_of.Goals as goal

pub bounds-method_places-method : goal.bounds-method_places-method
bounds-method_places-method c = place_within c.args.h.now c.method_places.result.now c.method_places.ensures c.args.method c.requires

pub bounds-method_places-method-2 : goal.bounds-method_places-method-2
bounds-method_places-method-2 c = place_within c.args.h.now c.method_places.result.now c.method_places.ensures c.args.method c.requires

pub bounds-classes-class : goal.bounds-classes-class
bounds-classes-class c =
    let lt = place_within c.args.h.now c.method_places.result.now c.method_places.ensures c.args.method c.requires in
    omega (arith, class_within c.args.h.now c.method_places.result.now c.method_places.ensures c.args.method.0 (record { 0 = 0 }, 0) lt, ap length c.classes.ensures.classes)

pub bounds-items-index : goal.bounds-items-index
bounds-items-index c =
    let places = c.method_places.result.now in
    let file = c.index-classes-class.result in
    let lt = place_within c.args.h.now places c.method_places.ensures c.args.method c.requires in
    let is = subst (λ (ks : List ClassFile). file ≡ get_or ks (get_or places c.args.method.0 (record { 0 = 0 }, 0)).0.0 file) c.classes.ensures.classes c.index-classes-class.is in
    omega (arith, index_within c.args.h.now places c.method_places.ensures c.args.method.0 (record { 0 = 0 }, 0) file lt is, ap (λ (ms : List Member). length ms) c.items.ensures)

pub returns : goal.returns
returns c =
    let places = c.method_places.result.now in
    let file = c.index-classes-class.result in
    let member = c.index-items-index.result in
    let lt = place_within c.args.h.now places c.method_places.ensures c.args.method c.requires in
    let is = subst (λ (ks : List ClassFile). file ≡ get_or ks (get_or places c.args.method.0 (record { 0 = 0 }, 0)).0.0 file) c.classes.ensures.classes c.index-classes-class.is in
    let item = subst (λ (ms : List Member). member ≡ get_or ms (get_or places c.args.method.0 (record { 0 = 0 }, 0)).1 member) c.items.ensures c.index-items-index.is in
    method_there c.args.h.now places c.method_places.ensures c.args.method (record { 0 = 0 }, 0) file member lt is item
