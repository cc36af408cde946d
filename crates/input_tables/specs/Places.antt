-- Nodes by what they are compared by.
use Rattle.std.specs.declared.cmp.Ordering.{Ordering}
use Rattle.dep_form.specs.declared.node.Node.{Node}
use Rattle.dep_form.specs.declared.node.Node.TheVariants.{Formal, HeapIn, Own, Argument, Result, Exception, HeapArg, HeapResult, Return, Thrown, HeapOut}
use Rattle.input_tables.specs.declared.places.Place.{Place}
use Rattle.input_tables.specs.contracts.places.PlaceOrd.TheImpl as of_place

abbrev pub place_cmp : Place → Place → Ordering
place_cmp = (of_place.ghosts).cmp

-- where a node stands among those of its method
abbrev pub place_of : Node → Place
place_of (Formal i) = record { group = 0; pc = 0; part = 0; number = i }
place_of (HeapIn l) = record { group = 1; pc = 0; part = 0; number = l.0 }
place_of (Own pc) = record { group = 2; pc = pc; part = 0; number = 0 }
place_of (Argument pc i) = record { group = 2; pc = pc; part = 1; number = i }
place_of (Result pc) = record { group = 2; pc = pc; part = 2; number = 0 }
place_of (Exception pc) = record { group = 2; pc = pc; part = 3; number = 0 }
place_of (HeapArg pc l) = record { group = 2; pc = pc; part = 4; number = l.0 }
place_of (HeapResult pc l) = record { group = 2; pc = pc; part = 5; number = l.0 }
place_of Return = record { group = 3; pc = 0; part = 0; number = 0 }
place_of Thrown = record { group = 4; pc = 0; part = 0; number = 0 }
place_of (HeapOut l) = record { group = 5; pc = 0; part = 0; number = l.0 }
