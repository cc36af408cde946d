-- The name of a site.
use Rattle.std.specs.Prelude.{◌≡◌, List}
use Rattle.class_form.specs.Types.{constant_text}
use Rattle.class_form.specs.declared.class_file.ClassFile.{ClassFile}
use Rattle.class_form.specs.declared.types.FieldType.{FieldType}
use Rattle.class_form.specs.declared.body.Body.{Body}
use Rattle.dep_form.specs.declared.rules.SiteInfo.{SiteInfo}
use Rattle.dep_form.specs.declared.texts.SiteName.{SiteName}
use Rattle.program_form.specs.Programs.{Program}
use Rattle.program_form.specs.Sites.{Site, HasType, StandsAt}
use Rattle.program_code.specs.Codes.{IsProgramOfCode}
use Rattle.constraint_form.specs.Asked.{IsReadProgram}

-- the program has these classes and bodies, and is one of their code
pub record IsCoded (classes : List ClassFile) (bodies : List Body) (p : Program) : Type 0 where
  pub classes_are : p.classes ≡ classes
  pub bodies_are : p.bodies ≡ bodies
  pub asked : IsReadProgram p
  pub coded : IsProgramOfCode p

-- the place and the text of the site that the system says this of
pub record IsNameOf (classes : List ClassFile) (bodies : List Body) (info : SiteInfo) (x : SiteName) : Type 0 where
  pub place : x.place ≡ info.place
  pub number : x.k ≡ info.k
  pub text : (p : Program) (h : Site) (t : FieldType) → IsCoded classes bodies p → StandsAt h info.place info.k → HasType p h t → x.class ≡ constant_text t
