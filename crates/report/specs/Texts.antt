-- How statements, lines and sites are printed.
use Rattle.std.specs.Prelude.{◌==◌, ◌++◌, ℕ, List, [], ◌∷◌, Option, Some, None, codes, get_or, slice_get, if◌then◌else◌}
use Rattle.std.specs.Fmt.{decimal}
use Rattle.slicer_ids.specs.Escapes.{printed}
use Rattle.slicer_ids.specs.declared.ids.ClassId.{ClassId}
use Rattle.slicer_ids.specs.declared.ids.MethodId.{MethodId}
use Rattle.slicer_ids.specs.declared.ids.SiteId.{SiteId}
use Rattle.slicer_ids.specs.declared.ids.Statement.{Statement}
use Rattle.dep_form.specs.declared.facts.Facts.{Facts}
use Rattle.dep_form.specs.declared.texts.MethodText.{MethodText}
use Rattle.dep_form.specs.declared.texts.SiteName.{SiteName}

-- the line of the statement at the pc, among those of a method
abbrev pub line_at : List (ℕ × Option ℕ) → ℕ → Option ℕ
line_at [] pc = None
line_at (x ∷ xs) pc = if x.0 == pc then x.1 else line_at xs pc

-- .. of the method, where there is one
abbrev pub line_of_text : Option MethodText → ℕ → Option ℕ
line_of_text None pc = None
line_of_text (Some t) pc = line_at t.lines pc

-- a line number, or a dash where there is none
abbrev pub line_word : Option ℕ → List ℕ
line_word None = codes "-"
line_word (Some line) = decimal line

module _ (f : Facts) where
  -- a part of what is known of a method; nothing is of the root
  abbrev pub part_of : (MethodText → List ℕ) → MethodId → List ℕ
  part_of part m = of_text (slice_get f.methods m.0)
    where
      of_text : Option MethodText → List ℕ
      of_text None = []
      of_text (Some t) = part t

  -- the class, name and descriptor of a method
  abbrev pub method_words : MethodId → List ℕ
  method_words m =
      printed (part_of (λ t. get_or f.classes t.class.0 []) m)
      ++ (codes " " ++ (printed (part_of (λ t. t.name) m) ++ (codes " " ++ printed (part_of (λ t. t.descriptor) m))))

  -- the line of a statement
  abbrev pub line_of : Statement → Option ℕ
  line_of s = line_of_text (slice_get f.methods s.method.0) s.pc

  -- a statement without its line
  abbrev pub place_words : Statement → List ℕ
  place_words s = method_words s.method ++ (codes " " ++ decimal s.pc)

  -- a statement with its line
  abbrev pub statement_line : Statement → List ℕ
  statement_line s = place_words s ++ (codes " " ++ (line_word (line_of s) ++ codes "\n"))

  -- a line of a method
  abbrev pub line_line : MethodId → Option ℕ → List ℕ
  line_line m line = method_words m ++ (codes " " ++ (line_word line ++ codes "\n"))

  -- where a site stands; the root's have no statement
  abbrev pub site_place : Option Statement → List ℕ
  site_place None = codes "- - - 0"
  site_place (Some s) = place_words s

  -- a site: the name of its class or its array's descriptor, where it stands, and its number there
  abbrev pub site_words : List ℕ → Option Statement → ℕ → List ℕ
  site_words class place k = printed class ++ (codes " " ++ (site_place place ++ (codes " " ++ (decimal k ++ codes "\n"))))

  abbrev pub name_line : Option SiteName → List ℕ
  name_line None = []
  name_line (Some n) = site_words n.class n.place n.k

  abbrev pub site_line : SiteId → List ℕ
  site_line s = name_line (slice_get f.sites s.0)
