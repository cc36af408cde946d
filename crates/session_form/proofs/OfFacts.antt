-- What is answered is of the facts, where each statement that has a node is listed.
use Rattle.std.proofs.Common.{◌<◌, List, length, Contains}
use Rattle.std.proofs.lemmas.List.Elements.{All-weaker, All-contains}
use Rattle.slicer_ids.specs.declared.ids.SiteId.{SiteId}
use Rattle.slicer_ids.specs.declared.ids.Statement.{Statement}
use Rattle.dep_form.specs.declared.access.Access.{Access}
use Rattle.dep_form.specs.declared.facts.Facts.{Facts}
use Rattle.dep_form.specs.LookUps.{IsStatement, IsAccessAt}
use Rattle.dep_form.specs.WithinFacts.{IsOfSites}
use Rattle.dep_form.specs.Explaining.{Brings}
use Rattle.script.specs.declared.command.Command.{Command}
use Rattle.report.specs.Replies.{Answer, IsOfFacts}
use Rattle.session_form.specs.States.{State, AreListed, InSlice, InFullSlice}
use Rattle.session_form.specs.Answers.{Answers, seeds, seeds_line, resets, expands, expands_all, slices, slices_full, lists_lines, explains, refuses_seed, refuses_line, refuses_expansion, refuses_first, refuses_second, refuses_slice, refuses_full, refuses_lines}

module _ (f : Facts) (listed : AreListed f) where
  -- the sites of an access are of the facts
  site_within : (s : Statement) (a : Access) (h : SiteId) → IsAccessAt f s a → Contains a.sites h → h.0 < length f.sites
  site_within s a h (k, at) c = All-contains (IsOfSites (length f.sites)) a.sites h (f.access_sites k (s, a) at) c

  brought : (a : Access) (hs : List SiteId) (s : Statement) → Brings f a hs s → IsStatement f s
  brought a hs s b = listed b.0.0 s b.0.2

  pub of_facts : {st next : State} {c : Command} {a : Answer} → Answers f st c a next → IsOfFacts f a
  of_facts (seeds n g) = tt
  of_facts (seeds_line n at some g) = tt
  of_facts resets = tt
  of_facts (expands n g) = tt
  of_facts (expands_all g) = tt
  of_facts {st} (slices {ss} some g) = All-weaker (InSlice f st) (IsStatement f) (λ s h. listed h.0 s h.2) ss g.each
  of_facts {st} (slices_full {ss} some g) = All-weaker (InFullSlice f st) (IsStatement f) (λ s h. listed h.0 s h.2) ss g.each
  of_facts (lists_lines some g) = tt
  of_facts (explains {s} {a} {b} {x} n m e) = (
    All-weaker (λ (h : SiteId). Contains a.sites h × Contains b.sites h) (λ (h : SiteId). h.0 < length f.sites) (λ h c. site_within s a h n.1 c.0) x.objects e.objects.each,
    All-weaker (Brings f a x.objects) (IsStatement f) (brought a x.objects) x.left e.left.each,
    All-weaker (Brings f b x.objects) (IsStatement f) (brought b x.objects) x.right e.right.each,
  )
  of_facts (refuses_seed h) = tt
  of_facts (refuses_line h) = tt
  of_facts (refuses_expansion h) = tt
  of_facts (refuses_first h) = tt
  of_facts (refuses_second n h) = tt
  of_facts (refuses_slice e) = tt
  of_facts (refuses_full e) = tt
  of_facts (refuses_lines e) = tt
