-- What a numbering says of kinds and labels.
use Rattle.std.proofs.Common.{◌≡◌, refl, sym, ap, ◌∙◌}
use Rattle.std.proofs.lemmas.Option.{same_Some}
use Rattle.dep_form.specs.declared.node.Node.{Node as NodeNumber}
use Rattle.dep_form.specs.declared.node.Label.{Label}
use Rattle.dep_form.specs.declared.node.Label.TheVariants.{Base as BaseLabel}
use Rattle.dep_form.specs.Nodes.{pc_of}
use Rattle.dep_form.specs.Slices.{plain}
use Rattle.program_form.specs.Nodes.{Kind, HeapIn, HeapArg, HeapResult, HeapOut}
use Rattle.program_form.specs.Dependences.{Dependence, Flow, Into, BackTo}
use Rattle.program_form.specs.Graphs.{Numbering, KindNumber, formal, heap_in, own, argument, result, exception, heap_arg, heap_result, returned, thrown, heap_out, LabelNumber, flow, base, into, back}

-- a number of a kind is of one kind
pub one_kind : (ns : Numbering) {a b : Kind} {k : NodeNumber} → KindNumber ns a k → KindNumber ns b k → a ≡ b
one_kind ns formal formal = refl
one_kind ns (heap_in {l} e) (heap_in {l = m} g) = ap HeapIn (same_Some l m (sym e ∙ g))
one_kind ns own own = refl
one_kind ns argument argument = refl
one_kind ns result result = refl
one_kind ns exception exception = refl
one_kind ns (heap_arg {pc} {l} e) (heap_arg {l = m} g) = ap (HeapArg pc) (same_Some l m (sym e ∙ g))
one_kind ns (heap_result {pc} {l} e) (heap_result {l = m} g) = ap (HeapResult pc) (same_Some l m (sym e ∙ g))
one_kind ns returned returned = refl
one_kind ns thrown thrown = refl
one_kind ns (heap_out {l} e) (heap_out {l = m} g) = ap HeapOut (same_Some l m (sym e ∙ g))

module _ (ns ms : Numbering) where
  -- a kind has one program counter, whatever its number
  pub same_pc : {a : Kind} {k j : NodeNumber} → KindNumber ns a k → KindNumber ms a j → pc_of k ≡ pc_of j
  same_pc formal formal = refl
  same_pc (heap_in e) (heap_in g) = refl
  same_pc own own = refl
  same_pc argument argument = refl
  same_pc result result = refl
  same_pc exception exception = refl
  same_pc (heap_arg e) (heap_arg g) = refl
  same_pc (heap_result e) (heap_result g) = refl
  same_pc returned returned = refl
  same_pc thrown thrown = refl
  same_pc (heap_out e) (heap_out g) = refl

  -- one label is a base's where the other is
  pub same_base : {d : Dependence} {l m : Label} → LabelNumber ns d l → LabelNumber ms d m → m ≡ BaseLabel → l ≡ BaseLabel
  same_base flow flow e = absurd (cc e)
  same_base base base e = refl
  same_base (into h) (into g) e = absurd (cc e)
  same_base (back h) (back g) e = absurd (cc e)

-- without telling bases
pub plain_label : (ns : Numbering) {d : Dependence} {l : Label} → LabelNumber ns d l → (e : Dependence) × LabelNumber ns e (plain l)
plain_label ns flow = (Flow, flow)
plain_label ns base = (Flow, flow)
plain_label ns (into {c} h) = (Into c, into h)
plain_label ns (back {c} h) = (BackTo c, back h)
