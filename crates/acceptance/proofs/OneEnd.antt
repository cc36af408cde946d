-- A folder is accepted with one program, or refused with one line.
use Rattle.std.proofs.Common.{◌≡◌, ◌≤◌, ◌<◌, ◌^◌, ◌+◌, ℕ, List, Option, Some, None, length, refl, sym, ap, subst, ◌∙◌, inl, inr, arith}
use Rattle.std.specs.Prelude.{◌++◌, All, codes}
use Rattle.slicer_ids.specs.Escapes.{printed}
use Rattle.slicer_ids.specs.Order.{StatementBefore}
use Rattle.slicer_ids.specs.declared.ids.Statement.{Statement}
use Rattle.slicer_ids.specs.declared.limits.LimitKind.{LimitKind}
use Rattle.slicer_ids.specs.declared.limits.LimitKind.TheVariants.{Sites, Locations, Nodes, MemoWords}
use Rattle.edge_io.specs.Files.{Files}
use Rattle.class_form.specs.ClassRules.{IsClassFile}
use Rattle.class_form.specs.Folders.{StandsTwice, IsOwnAncestor, IsHierarchyOf}
use Rattle.class_form.specs.declared.class_file.ClassFile.{ClassFile}
use Rattle.dep_form.specs.declared.rules.TooMany.TheVariants.{Limit}
use Rattle.dep_form.specs.Summaries.{HasSize}
use Rattle.folder_form.specs.Walks.{Walked, Found, TooMany, WalksFolder}
use Rattle.folder_form.specs.Reading.{Read, Contents, TooLong, ReadsAll}
use Rattle.program_form.specs.Programs.{Program}
use Rattle.program_form.specs.Nodes.{IsNode}
use Rattle.program_form.specs.Effects.{IsTraced}
use Rattle.fact_form.specs.FactLimits.{IsTooMany, IsWithinLimits, IsMemoSize}
use Rattle.hierarchy.specs.declared.tree.TreeError.TheVariants.{Duplicate, Cycle}
use Rattle.call_graph.specs.Entries.{HasNoEntry}
use Rattle.call_graph.specs.Refusals.{IsRefused, IsFirst, RefusedBefore}
use Rattle.call_graph.specs.declared.refusals.Refused.{Refused}
use Rattle.constraint_form.proofs.SiteNumbers.{statement_asym}
use Rattle.refusal_lines.specs.Refusals.{limit_refusal}
use Rattle.acceptance.specs.Classes.{HasFiles, AreSound, AreClasses}
use Rattle.acceptance.specs.Statements.{IsStatementText, statement_refusal}
use Rattle.acceptance.specs.Programs.{IsProgramOf, IsSite, AreAtMost, AreTooMany, AreFew, IsAnalysed, IsAccepted, RefusesProgram}
use Rattle.acceptance.specs.Programs as tried
use Rattle.acceptance.specs.Refusals.{Accepts, IsRefusal, of_files, of_classes, RefusesFiles, walk, reading, file, RefusesClasses, duplicate, cycle, no_entry, program}
use Rattle.acceptance.proofs.OneFolder.{files_once, classes_once, classes_not_refused, refusal_once}
use Rattle.acceptance.proofs.OneTree.{one_least, one_tree, tree_not_twice, tree_no_cycle}
use Rattle.acceptance.proofs.OneCount.{one_size, one_memo_size}
use Rattle.acceptance.proofs.OneStatement.{one_text}
use Rattle.acceptance.proofs.OneProgram.{one_program, keep_rules, has_entry}

-- COUNTS

not_both_counts : {A : Type 0} (P : A → Type 0) (most n : ℕ) → AreTooMany P most n → AreAtMost P most → ⊥
not_both_counts P most n (is, more) (k, has, few) = omega (arith, one_size P n k is has, more, few)

one_limit : (p : Program) (a b : LimitKind) (n k : ℕ) → IsTooMany p (Limit a n) → IsTooMany p (Limit b k) → limit_refusal a n ≡ limit_refusal b k
one_limit p a b n k (inl (e, more, is)) (inl (f, most, has)) = ap (λ z. limit_refusal z n) (e ∙ sym f) ∙ ap (limit_refusal b) (one_size (IsNode p) n k is has)
one_limit p a b n k (inl (e, more, is)) (inr (f, most, has, (j, few, less))) = absurd (omega (arith, one_size (IsNode p) n j is few, more, less))
one_limit p a b n k (inr (e, more, is, (j, few, less))) (inl (f, most, has)) = absurd (omega (arith, one_size (IsNode p) k j has few, most, less))
one_limit p a b n k (inr (e, more, is, few)) (inr (f, most, has, less)) = ap (λ z. limit_refusal z n) (e ∙ sym f) ∙ ap (limit_refusal b) (one_memo_size p n k is has)

within : (p : Program) (a : LimitKind) (n : ℕ) → IsTooMany p (Limit a n) → IsWithinLimits p → ⊥
within p a n (inl (e, more, is)) w = absurd (omega (arith, one_size (IsNode p) n w.nodes.0 is w.nodes.1, more, w.nodes.2))
within p a n (inr (e, more, is, few)) w = absurd (omega (arith, one_memo_size p n w.words.0 is w.words.1, more, w.words.2))

-- REFUSED STATEMENTS

refused_asym : (a b : Refused) → RefusedBefore a b → RefusedBefore b a → ⊥
refused_asym a b (inl x) (inl y) = statement_asym a.place b.place x y
refused_asym a b (inl x) (inr (e, y)) = let z = subst (λ (s : Statement). StatementBefore s b.place) (sym e) x in statement_asym b.place b.place z z
refused_asym a b (inr (e, x)) (inl y) = let z = subst (λ (s : Statement). StatementBefore s a.place) (sym e) y in statement_asym a.place a.place z z
refused_asym a b (inr (e, x)) (inr (f, y)) = omega (arith, x, y)

one_first : (P : Refused → Type 0) (r q : Refused) → IsFirst P (Some r) → IsFirst P (Some q) → r ≡ q
one_first P r q h g = elim (h.1 q g.0) [
  | inl e ↦ sym e
  | inr before ↦ elim (g.1 r h.0) [ inl e ↦ e | inr after ↦ absurd (refused_asym r q before after) ]
]

-- PROGRAMS

module _ (p : Program) where
  few_once : (n : ℕ) → AreTooMany (IsSite p) (2 ^ 20) n → AreFew p → ⊥
  few_once n many few = not_both_counts (IsSite p) (2 ^ 20) n many few.sites

  no_first : (r : Refused) → IsFirst (IsRefused p) (Some r) → IsAnalysed p → ⊥
  no_first r f a = a.allowed r f.0

  accepted_not_refused : (line : List ℕ) → RefusesProgram p line → IsAccepted p → ⊥
  accepted_not_refused line (tried.methods more) a = absurd (omega (arith, more, a.analysed.few.methods))
  accepted_not_refused line (tried.sites {n} few many) a = few_once n many a.analysed.few
  accepted_not_refused line (tried.statement {r} few first text) a = no_first r first a.analysed
  accepted_not_refused line (tried.locations {n} analysed many) a = not_both_counts (IsTraced p) (2 ^ 20) n many a.locations
  accepted_not_refused line (tried.facts {kind} {n} analysed few many) a = within p kind n many a.facts

  module _ (rules : All IsClassFile p.classes) where
    one_program_line : (a b : List ℕ) → RefusesProgram p a → RefusesProgram p b → a ≡ b
    one_program_line a b (tried.methods more) (tried.methods most) = refl
    one_program_line a b (tried.methods more) (tried.sites few many) = absurd (omega (arith, more, few))
    one_program_line a b (tried.methods more) (tried.statement few first text) = absurd (omega (arith, more, few.methods))
    one_program_line a b (tried.methods more) (tried.locations analysed many) = absurd (omega (arith, more, analysed.few.methods))
    one_program_line a b (tried.methods more) (tried.facts analysed few many) = absurd (omega (arith, more, analysed.few.methods))
    one_program_line a b (tried.sites few many) (tried.methods most) = absurd (omega (arith, most, few))
    one_program_line a b (tried.sites {n} few many) (tried.sites {n = k} less most) = ap (limit_refusal Sites) (one_size (IsSite p) n k many.0 most.0)
    one_program_line a b (tried.sites {n} few many) (tried.statement less first text) = absurd (few_once n many less)
    one_program_line a b (tried.sites {n} few many) (tried.locations analysed most) = absurd (few_once n many analysed.few)
    one_program_line a b (tried.sites {n} few many) (tried.facts analysed less most) = absurd (few_once n many analysed.few)
    one_program_line a b (tried.statement few first text) (tried.methods most) = absurd (omega (arith, most, few.methods))
    one_program_line a b (tried.statement few first text) (tried.sites {n} less many) = absurd (few_once n many few)
    one_program_line a b (tried.statement {r} {text} few first is) (tried.statement {r = q} {text = other} less second has) =
        let same = one_first (IsRefused p) r q first second in
        ap (statement_refusal r.kind) (one_text p rules r.place text other is (subst (λ (z : Refused). IsStatementText p z.place other) (sym same) has))
        ∙ ap (λ (z : Refused). statement_refusal z.kind other) same
    one_program_line a b (tried.statement {r} few first text) (tried.locations analysed many) = absurd (no_first r first analysed)
    one_program_line a b (tried.statement {r} few first text) (tried.facts analysed less many) = absurd (no_first r first analysed)
    one_program_line a b (tried.locations analysed many) (tried.methods most) = absurd (omega (arith, most, analysed.few.methods))
    one_program_line a b (tried.locations analysed many) (tried.sites {n} less most) = absurd (few_once n most analysed.few)
    one_program_line a b (tried.locations analysed many) (tried.statement {r} less first text) = absurd (no_first r first analysed)
    one_program_line a b (tried.locations {n} analysed many) (tried.locations {n = k} again most) = ap (limit_refusal Locations) (one_size (IsTraced p) n k many.0 most.0)
    one_program_line a b (tried.locations {n} analysed many) (tried.facts again few most) = absurd (not_both_counts (IsTraced p) (2 ^ 20) n many few)
    one_program_line a b (tried.facts analysed few many) (tried.methods most) = absurd (omega (arith, most, analysed.few.methods))
    one_program_line a b (tried.facts analysed few many) (tried.sites {n} less most) = absurd (few_once n most analysed.few)
    one_program_line a b (tried.facts analysed few many) (tried.statement {r} less first text) = absurd (no_first r first analysed)
    one_program_line a b (tried.facts analysed few many) (tried.locations {n} again most) = absurd (not_both_counts (IsTraced p) (2 ^ 20) n most few)
    one_program_line a b (tried.facts {kind} {n} analysed few many) (tried.facts {kind = other} {n = k} again less most) = one_limit p kind other n k many most

-- CLASSES

module _ (contents : List (List ℕ)) (files : List ClassFile) (main : Option (List ℕ)) (sound : AreSound contents files) where
  program_has_entry : (classes : List ClassFile) (p : Program) → IsHierarchyOf files classes → HasNoEntry classes main → IsProgramOf files main p → ⊥
  program_has_entry classes p tree no_one is = has_entry contents files main sound classes p is (one_tree files classes p.classes tree is.classes) no_one

  classes_accepted : (line : List ℕ) (p : Program) → RefusesClasses files main line → IsProgramOf files main p → IsAccepted p → ⊥
  classes_accepted line p (duplicate {name} cause) is a = tree_not_twice files p.classes name is.classes cause
  classes_accepted line p (cycle {name} cause) is a = tree_no_cycle files p.classes name is.classes cause
  classes_accepted line p (no_entry {classes} tree no_one) is a = program_has_entry classes p tree no_one is
  classes_accepted line p (program {p = q} of refused) is a =
      accepted_not_refused q line refused (subst IsAccepted (one_program contents files main sound p q is of) a)

  one_classes_line : (a b : List ℕ) → RefusesClasses files main a → RefusesClasses files main b → a ≡ b
  one_classes_line a b (duplicate {name} cause) (duplicate {name = other} why) = ap (λ z. codes "refused duplicate class " ++ printed z) (one_least (StandsTwice files) name other cause why)
  one_classes_line a b (duplicate {name} cause) (cycle why) = absurd (why.0 name cause.0)
  one_classes_line a b (duplicate {name} cause) (no_entry {classes} tree no_one) = absurd (tree_not_twice files classes name tree cause)
  one_classes_line a b (duplicate {name} cause) (program {p} is refused) = absurd (tree_not_twice files p.classes name is.classes cause)
  one_classes_line a b (cycle cause) (duplicate {name} why) = absurd (cause.0 name why.0)
  one_classes_line a b (cycle {name} cause) (cycle {name = other} why) = ap (λ z. codes "refused cyclic class " ++ printed z) (one_least (IsOwnAncestor files) name other cause.1 why.1)
  one_classes_line a b (cycle {name} cause) (no_entry {classes} tree no_one) = absurd (tree_no_cycle files classes name tree cause)
  one_classes_line a b (cycle {name} cause) (program {p} is refused) = absurd (tree_no_cycle files p.classes name is.classes cause)
  one_classes_line a b (no_entry {classes} tree no_one) (duplicate {name} why) = absurd (tree_not_twice files classes name tree why)
  one_classes_line a b (no_entry {classes} tree no_one) (cycle {name} why) = absurd (tree_no_cycle files classes name tree why)
  one_classes_line a b (no_entry tree no_one) (no_entry other none) = refl
  one_classes_line a b (no_entry {classes} tree no_one) (program {p} is refused) = absurd (program_has_entry classes p tree no_one is)
  one_classes_line a b (program {p} is refused) (duplicate {name} why) = absurd (tree_not_twice files p.classes name is.classes why)
  one_classes_line a b (program {p} is refused) (cycle {name} why) = absurd (tree_no_cycle files p.classes name is.classes why)
  one_classes_line a b (program {p} is refused) (no_entry {classes} tree no_one) = absurd (program_has_entry classes p tree no_one is)
  one_classes_line a b (program {p} is refused) (program {p = q} has wrong) =
      let same = one_program contents files main sound p q is has in
      one_program_line p (keep_rules contents files main sound p is) a b refused (subst (λ (z : Program). RefusesProgram z b) (sym same) wrong)

-- FOLDERS

limit_is : (a b : LimitKind) (n k : ℕ) → TooMany a n ≡ TooMany b k → limit_refusal a n ≡ limit_refusal b k
limit_is a b n k e = let same : (a ≡ b) × (n ≡ k) = (cc e, cc e) in ap (λ z. limit_refusal z n) same.0 ∙ ap (limit_refusal b) same.1

length_is : (a b : LimitKind) (n k : ℕ) → TooLong a n ≡ TooLong b k → limit_refusal a n ≡ limit_refusal b k
length_is a b n k e = let same : (a ≡ b) × (n ≡ k) = (cc e, cc e) in ap (λ z. limit_refusal z n) same.0 ∙ ap (limit_refusal b) same.1

found_is : (a b : List (List ℕ)) → Found a ≡ Found b → a ≡ b
found_is a b e = cc e

module _ (m : Files) (folder : List ℕ)
    (walks : (a b : Walked) → WalksFolder m folder a → WalksFolder m folder b → a ≡ b)
    (reads : (paths : List (List ℕ)) (a b : Read) → ReadsAll m paths a → ReadsAll m paths b → a ≡ b) where
  not_found : (kind : LimitKind) (n : ℕ) (paths : List (List ℕ)) → WalksFolder m folder (TooMany kind n) → WalksFolder m folder (Found paths) → ⊥
  not_found kind n paths h g = absurd (cc (walks (TooMany kind n) (Found paths) h g))

  not_read : (paths others contents : List (List ℕ)) (kind : LimitKind) (n : ℕ) → WalksFolder m folder (Found paths) → ReadsAll m paths (TooLong kind n)
      → WalksFolder m folder (Found others) → ReadsAll m others (Contents contents) → ⊥
  not_read paths others contents kind n h r g q =
      let same = found_is paths others (walks (Found paths) (Found others) h g) in
      absurd (cc (reads paths (TooLong kind n) (Contents contents) r (subst (λ ps. ReadsAll m ps (Contents contents)) (sym same) q)))

  one_files_line : (a b : List ℕ) → RefusesFiles m folder a → RefusesFiles m folder b → a ≡ b
  one_files_line a b (walk {kind} {n} h) (walk {kind = other} {n = k} g) = limit_is kind other n k (walks (TooMany kind n) (TooMany other k) h g)
  one_files_line a b (walk {kind} {n} h) (reading {paths} g q) = absurd (not_found kind n paths h g)
  one_files_line a b (walk {kind} {n} h) (file {paths} g q) = absurd (not_found kind n paths h g.walk)
  one_files_line a b (reading {paths} h r) (walk {kind} {n} g) = absurd (not_found kind n paths g h)
  one_files_line a b (reading {kind} {n} {paths} h r) (reading {kind = other} {n = k} {paths = others} g q) =
      let same = found_is paths others (walks (Found paths) (Found others) h g) in
      length_is kind other n k (reads paths (TooLong kind n) (TooLong other k) r (subst (λ ps. ReadsAll m ps (TooLong other k)) (sym same) q))
  one_files_line a b (reading {kind} {n} {paths} h r) (file {paths = others} {contents} g q) = absurd (not_read paths others contents kind n h r g.walk g.reading)
  one_files_line a b (file {paths} h r) (walk {kind} {n} g) = absurd (not_found kind n paths g h.walk)
  one_files_line a b (file {paths} {contents} h r) (reading {kind} {n} {paths = others} g q) = absurd (not_read others paths contents kind n g q h.walk h.reading)
  one_files_line a b (file {paths} {contents} h r) (file {paths = others} {contents = rest} g q) = refusal_once m folder walks reads paths contents others rest a b h g r q

  files_or_classes : (files : List ClassFile) (line : List ℕ) → RefusesFiles m folder line → AreClasses m folder files → ⊥
  files_or_classes files line (walk {kind} {n} h) (paths, contents, g, s) = not_found kind n paths h g.walk
  files_or_classes files line (reading {kind} {n} {paths} h r) (others, contents, g, s) = not_read paths others contents kind n h r g.walk g.reading
  files_or_classes files line (file {paths} {contents} h r) found = classes_not_refused m folder walks reads files paths contents line found h r

  module _ (main : Option (List ℕ)) where
    pub one_line : (a b : List ℕ) → IsRefusal m folder main a → IsRefusal m folder main b → a ≡ b
    one_line a b (of_files h) (of_files g) = one_files_line a b h g
    one_line a b (of_files h) (of_classes {files} found g) = absurd (files_or_classes files a h found)
    one_line a b (of_classes {files} found h) (of_files g) = absurd (files_or_classes files b g found)
    one_line a b (of_classes {files} found h) (of_classes {files = others} also g) =
        let same = classes_once m folder walks reads files others found also in
        one_classes_line found.1 files main found.3 a b h (subst (λ fs. RefusesClasses fs main b) (sym same) g)

    pub not_both : (a : List ℕ) (p : Program) → IsRefusal m folder main a → Accepts m folder main p → ⊥
    not_both a p (of_files h) g = files_or_classes g.files a h g.found
    not_both a p (of_classes {files} found h) g =
        let same = classes_once m folder walks reads files g.files found g.found in
        classes_accepted found.1 files main found.3 a p h (subst (λ fs. IsProgramOf fs main p) (sym same) g.program) g.accepted

    pub one_end : (p q : Program) → Accepts m folder main p → Accepts m folder main q → p ≡ q
    one_end p q h g =
        let same = classes_once m folder walks reads h.files g.files h.found g.found in
        one_program h.found.1 h.files main h.found.3 p q h.program (subst (λ fs. IsProgramOf fs main q) (sym same) g.program)
