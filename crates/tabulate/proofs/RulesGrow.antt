-- The rules look at more pairs where there are more.
use Rattle.std.proofs.Common.{ℕ, List, Option, Some, None}
use Rattle.bit_rows.proofs.Adding.{Grows}
use Rattle.slicer_ids.specs.declared.ids.NodeId.{NodeId}
use Rattle.slicer_ids.specs.declared.ids.CallId.{CallId}
use Rattle.slicer_ids.specs.declared.ids.Mode.{Mode}
use Rattle.dep_form.specs.declared.facts.Facts.{Facts}
use Rattle.dep_form.specs.declared.node.Edge.{Edge}
use Rattle.dep_form.specs.declared.node.Label.{Label}
use Rattle.dep_form.specs.declared.node.Label.TheVariants.{Thin, Base, Call, Return}
use Rattle.tabulate.specs.declared.hands.Hands.{Hands}
use Rattle.tabulate.specs.declared.method.Argument.{Argument}
use Rattle.tabulate.specs.declared.method.Back.{Back}
use Rattle.tabulate.specs.Rules.{Rule, FromOne, Reaches, Passes, PassesByHand, Comes, Follows, FollowsBy, hand_at}

pub passes_grow : (p : Facts) (e : NodeId) (k : CallId) (delta : List ℕ) (a : Argument) → Grows (Passes p e k delta a)
passes_grow p e k delta a = λ K L f x r. (r.0, f _ r.1, r.2)

pub by_hand_grow : (p : Facts) (bits : List ℕ) (k : CallId) (delta : List ℕ) (a : Argument) → Grows (PassesByHand p bits k delta a)
by_hand_grow p bits k delta a = λ K L f x r. r

pub comes_grow : (p : Facts) (g : NodeId) (k : CallId) (delta : List ℕ) (a : NodeId) (b : Back) → Grows (Comes p g k delta a b)
comes_grow p g k delta a b = λ K L f x r. (r.0, r.1, r.2, f _ r.3)

pub from_one_grows : {X : Type 0} (R : X → Rule) → ((x : X) → Grows (R x)) → (xs : List X) → Grows (FromOne R xs)
from_one_grows R m xs = λ K L f q h. (h.0, h.1, m h.0 K L f q h.2)

pub reaches_more : (o : Option (List ℕ)) (i : ℕ) (A B : Type 0) → (A → B) → Reaches o i A → Reaches o i B
reaches_more None i A B f r = f r
reaches_more (Some bits) i A B f r = r

follows_by : (p : Facts) (mode : Mode) (h : Hands) (n : NodeId) (delta : List ℕ) (a : NodeId) (l : Label) → Grows (FollowsBy p mode h n delta a l)
follows_by p mode h n delta a Thin = λ K L f x r. r
follows_by p mode h n delta a Base = λ K L f x r. r
follows_by p mode h n delta a (Call k) = λ K L f x r. (r.0, r.1, r.2, r.3, r.4, r.5, f _ r.6)
follows_by p mode h n delta a (Return k) = λ K L f x r. (r.0, r.1, r.2, r.3, reaches_more (hand_at p h a) _ _ _ (f _) r.4, r.5)

pub follows_grow : (p : Facts) (mode : Mode) (h : Hands) (n : NodeId) (delta : List ℕ) (e : Edge) → Grows (Follows p mode h n delta e)
follows_grow p mode h n delta e = follows_by p mode h n delta e.from e.label
