-- What is said where a folder is refused, without the end of the line.
use Rattle.std.specs.Prelude.{ℕ, List, ◌++◌, codes}
use Rattle.std.specs.Fmt.{decimal}
use Rattle.slicer_ids.specs.Escapes.{printed}
use Rattle.slicer_ids.specs.declared.limits.LimitKind.{LimitKind}
use Rattle.slicer_ids.specs.declared.limits.LimitKind.TheVariants.{Depth, Files, FileBytes, TotalBytes, Methods, Sites, Locations, Nodes, MemoWords}
use Rattle.byte_form.specs.Forms.{Truncated, Broken}
use Rattle.class_form.specs.FirstFaults.{ClassFault, NotClass, Version, Item, Trailing}
use Rattle.class_form.specs.declared.code_error.CodeError.{CodeError}
use Rattle.class_form.specs.declared.code_error.CodeError.TheVariants as code

-- why a file is no class file
abbrev pub fault_text : ClassFault → List ℕ
fault_text NotClass = codes "not a class file"
fault_text (Version major) = codes "version " ++ decimal major
fault_text (Item Truncated) = codes "truncated"
fault_text (Item (Broken rule at)) = codes "broken rule " ++ decimal rule ++ codes " at " ++ decimal at
fault_text (Trailing at) = codes "trailing bytes at " ++ decimal at

-- the file at a path, whose bytes are printed as they are, is no class file
abbrev pub file_refusal : List ℕ → ClassFault → List ℕ
file_refusal path fault = codes "refused " ++ path ++ codes " " ++ fault_text fault

-- why code is refused; want of memory is no such reason
abbrev pub code_text : CodeError → List ℕ
code_text code.NoMemory = codes "no memory"
code_text (code.Broken rule pc) = codes "code rule " ++ decimal rule ++ codes " at pc " ++ decimal pc
code_text (code.Jsr pc) = codes "jsr at pc " ++ decimal pc

-- the code of a method of the file at a path is refused
abbrev pub method_refusal : List ℕ → List ℕ → List ℕ → CodeError → List ℕ
method_refusal path name descriptor fault =
    codes "refused " ++ path ++ codes " method " ++ printed name ++ codes " " ++ printed descriptor ++ codes " " ++ code_text fault

abbrev pub limit_word : LimitKind → List ℕ
limit_word Depth = codes "depth"
limit_word Files = codes "files"
limit_word FileBytes = codes "file-bytes"
limit_word TotalBytes = codes "total-bytes"
limit_word Methods = codes "methods"
limit_word Sites = codes "sites"
limit_word Locations = codes "locations"
limit_word Nodes = codes "nodes"
limit_word MemoWords = codes "memo-words"

-- there are too many of something
abbrev pub limit_refusal : LimitKind → ℕ → List ℕ
limit_refusal kind count = codes "refused limit " ++ limit_word kind ++ codes " " ++ decimal count
