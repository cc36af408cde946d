use Rattle.std.proofs.Common.{◌≡◌, List, subst}
use Rattle.std.specs.Prelude.{IfErr, option_map}
use Rattle.class_form.specs.declared.class_file.ClassFile.{ClassFile}
use Rattle.call_graph.specs.declared.entry_methods.EntryError.TheVariants.{NoEntry}
use Rattle.call_graph.specs.Entries.{HasNoEntry}
use Rattle.call_graph.proofs.entry_methods.entries.Goals as goal

pub returns-clause-none : goal.returns-clause-none
returns-clause-none c = subst (λ (ks : List ClassFile). IfErr c.with_places.result (λ e. (e ≡ NoEntry) → HasNoEntry ks (option_map (λ b. b.now) c.args.main))) c.classes.ensures.classes c.with_places.ensures.none
