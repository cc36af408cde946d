use Rattle.std.proofs.Common.{◌≡◌, ◌<◌, ℕ, true, get_or, subst, sym, arith, inl, inr}
use Rattle.std.proofs.lemmas.Bool.{cases_lt}
use Rattle.std.proofs.lemmas.List.Elements.{All-contains}
use Rattle.dep_form.specs.Nodes.{is_formal}
use Rattle.checked_facts.specs.InputParts.{EndsAmong, IsFlowWithin, IsUse}
use Rattle.checked_facts.proofs.input.make.Goals as goal

pub invariant_of-result : goal.invariant_of-result
invariant_of-result c =
    let p = c.args.parts in
    let r = c.requires in
    record {
      small = r.are_small.1;
      few = r.are_small.0;
      formals_first = λ i j d le lt formal. elim (cases_lt i j) [
        | inl below ↦ r.formals i j d below lt formal
        | inr above ↦ let same : j ≡ i = omega (arith, le, above) in subst (λ (n : ℕ). is_formal (get_or p.nodes n d) ≡ true) same formal
      ];
      ends = λ e at. All-contains (EndsAmong p) p.direct e r.ends_among at;
      puts_among = λ x at. (All-contains (IsUse p) p.puts x r.put_uses at).1;
      gets_among = λ x at. (All-contains (IsUse p) p.gets x r.get_uses at).1;
      flow_within = λ x at. All-contains (IsFlowWithin p.points) p.flow x r.steps at;
      puts_within = λ x at. (All-contains (IsUse p) p.puts x r.put_uses at).0;
      gets_within = λ x at. (All-contains (IsUse p) p.gets x r.get_uses at).0;
    }
