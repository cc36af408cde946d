use Rattle.std.proofs.Common.{◌≡◌, ◌<◌, ℕ, List, length, take, subst, ◌∙◌, ap}
use Rattle.slicer_ids.specs.declared.ids.ClassId.{ClassId}
use Rattle.slicer_ids.specs.declared.ids.NodeId.{NodeId}
use Rattle.slicer_ids.specs.declared.ids.SiteId.{SiteId}
use Rattle.slicer_ids.specs.declared.ids.Statement.{Statement}
use Rattle.std.specs.Prelude.{All}
use Rattle.dep_form.specs.declared.access.Access.{Access}
use Rattle.dep_form.specs.declared.texts.MethodText.{MethodText}
use Rattle.dep_form.specs.Firsts.{node_count}
use Rattle.dep_form.specs.WithinFacts.{IsOfMethod, IsOfSites}
use Rattle.dep_form.proofs.Searching.{all_at, rise_from_order}
use Rattle.dep_form.proofs.facts.Facts.new.Goals as goal

pub invariant_of-result : goal.invariant_of-result
invariant_of-result c =
    let r = c.requires in
    let firsts = c.in_ok-firsts.ensures in
    record {
      root = r.root;
      follow_on = r.follow_on;
      a_first_each = subst (λ xs. length c.in_ok-firsts.firsts ≡ length xs) c.items.ensures firsts.each;
      firsts_are = λ m n at. firsts.are m n at ∙ ap (λ xs. node_count (take m xs)) c.items.ensures;
      few = r.few;
      few_methods = r.few_methods;
      few_exits = r.few_exits;
      few_classes = r.few_classes;
      exits_rise = rise_from_order c.args.exits r.all_exits.order;
      classes_rise = r.classes_rise;
      methods_rise = r.methods_rise;
      lines_rise = r.lines_rise;
      accesses_rise = r.accesses_rise;
      values_rise = r.values_rise;
      method_classes = λ m t at. all_at (λ (t : MethodText). t.class.0 < length c.args.classes) c.args.methods r.method_classes m t at;
      line_statements = λ k x at. all_at (λ (x : ClassId × ℕ × List Statement). All (IsOfMethod (length c.args.methods)) x.2) c.args.lines r.line_statements k x at;
      access_nodes = λ k x at. all_at (λ (x : Statement × Access). All (λ (n : NodeId). n.0 < node_count c.args.inputs) x.1.object) c.args.accesses r.access_nodes k x at;
      access_sites = λ k x at. all_at (λ (x : Statement × Access). All (IsOfSites (length c.args.sites)) x.1.sites) c.args.accesses r.access_sites k x at;
      value_sites = λ k x at. all_at (λ (x : Statement × List SiteId). All (IsOfSites (length c.args.sites)) x.1) c.args.values r.value_sites k x at;
      sound = ∣ r ∣₁;
    }
