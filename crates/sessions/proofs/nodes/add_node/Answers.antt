use Rattle.std.proofs.Common.{refl, sym, subst}
use Rattle.std.proofs.lemmas.Bool.{false≢true}
use Rattle.thin_slice.proofs.Located.{some_node}
use Rattle.sessions.proofs.Listing.{Gained, one_more, none_more, not_of}
use Rattle.sessions.proofs.nodes.add_node.Goals as goal

pub statement-requires : goal.statement-requires
statement-requires c = some_node c.args.f.now c.args.n c.requires.node

pub returns-in_default : goal.returns-in_default
returns-in_default c = none_more c.args.f.now c.args.seeds.now c.args.n c.args.nodes.now.items (λ h. c.in_default.ensures.missed h.0 h.2)

pub returns-then-not-has : goal.returns-then-not-has
returns-then-not-has c =
    none_more c.args.f.now c.args.seeds.now c.args.n c.args.nodes.now.items
    (not_of c.args.f.now c.args.seeds.now c.args.n c.in-Some.s c.in-Some.ensures.found (λ k. false≢true (c.if-not-has.ensures.1 k)))

pub returns : goal.returns
returns c =
    subst (Gained c.args.f.now c.args.seeds.now c.args.n c.args.nodes.now.items) (sym c.in_ok-push.ensures.items)
    (one_more c.args.f.now c.args.seeds.now c.args.n c.args.nodes.now.items c.in-Some.s (c.if-not-has.ensures.0 refl) c.in-Some.ensures.found)
