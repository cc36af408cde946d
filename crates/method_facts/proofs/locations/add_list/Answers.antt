use Rattle.method_facts.proofs.LocNumbers.{gains_list}
use Rattle.method_facts.proofs.locations.add_list.Goals as goal

pub returns : goal.returns
returns c = gains_list c.args.lists.now c.args.m c.numbers_of-list.result.now c.args.all.now.items c.append.new.all.items c.tidy_if_full.new.all.items c.numbers_of-list.ensures c.in_ok-append.ensures c.tidy_if_full.ensures
