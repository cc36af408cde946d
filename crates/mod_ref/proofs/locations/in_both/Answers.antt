use Rattle.std.proofs.Common.{◌≡◌, rules, subst, sym, true, List}
use Rattle.std.specs.List.{filter}
use Rattle.std.specs.Set.{is_member}
use Rattle.std.proofs.lemmas.Fn.{filter_same}
use Rattle.std.proofs.lemmas.List.Kept.{AllPairs-filter}
use Rattle.std.proofs.lemmas.Map.Made.{is_member-Decides}
use Rattle.std.specs.declared.cmp.Ordering.TheVariants.{Less}
use Rattle.dep_form.specs.declared.effects.Location.{Location}
use Rattle.dep_form.specs.Orders.{RiseBy}
use Rattle.mod_ref.specs.Locations.{location_cmp, location_eq}
use Rattle.mod_ref.proofs.Sorting.{decides}
use Rattle.mod_ref.proofs.Orders.{locations_exact}
use Rattle.mod_ref.proofs.Tables.{filter_is}
use Rattle.mod_ref.proofs.locations.in_both.Goals as goal

kept : (c : goal.After-retain) → c.retain.new.self.items ≡ filter (is_member location_eq c.args.other.now) c.args.one.items
kept c = filter_same _ (is_member location_eq c.args.other.now) _ (λ x b f' k. search rules) _ _ c.retain.ensures.filtered

pub returns-clause-order : goal.returns-clause-order
returns-clause-order c = subst (RiseBy location_cmp (λ l. l)) (sym (kept c)) (AllPairs-filter (λ a b. location_cmp a b ≡ Less) (is_member location_eq c.args.other.now) c.args.one.items c.requires.one)

pub returns-clause-members : goal.returns-clause-members
returns-clause-members c = filter_is (is_member location_eq c.args.other.now) _ (is_member-Decides (decides location_eq location_cmp locations_exact) c.args.other.now) c.args.one.items c.retain.new.self.items (kept c)
