-- What a module exports, and what is wrong with it, by the sources of modules.
use Rattle.std.specs.Prelude.{ℕ, List, [], ◌∷◌, ◌++◌, Bool, bytes_eq, Option, None, Some, option_map, unwrap_or, if◌then◌else◌}
use Rattle.std.specs.List.{flat_map, list_any}
use Rattle.comemo_lang.specs.Syntax.{parsed}
use Rattle.comemo_lang.specs.declared.check.Imported.{Imported}
use Rattle.comemo_lang.specs.declared.declaration.Declaration.{Declaration}
use Rattle.comemo_lang.specs.declared.declaration.Declaration.TheVariants.{Import, Define}
use Rattle.comemo_lang.specs.declared.diagnostic.Diagnostic.{Diagnostic}
use Rattle.comemo_lang.specs.declared.diagnostic.Diagnostic.TheVariants.{MissingModule, UndefinedName}
use Rattle.comemo_lang.specs.declared.project.Source.{Source}
use Rattle.comemo_lang.specs.declared.project.Source.TheVariants.{Missing, Written}

-- the name that a declaration defines
abbrev pub defined : Declaration → List (List ℕ)
defined (Import name) = []
defined (Define name names) = name ∷ []

-- the module that it imports, with what that exports
abbrev pub imported : (List ℕ → Option (List (List ℕ))) → Declaration → List Imported
imported exports (Import name) = record { name = name; exports = exports name } ∷ []
imported exports (Define name names) = []

-- the names that an import brings
abbrev pub brought : Imported → List (List ℕ)
brought import = unwrap_or import.exports []

-- a name is known to declarations that import these modules
abbrev pub known : List Declaration → List Imported → List ℕ → Bool
known declarations imports name = list_any (bytes_eq name) (flat_map defined declarations ++ flat_map brought imports)

-- a diagnostic for an import of no module
abbrev pub missing_by : Option (List (List ℕ)) → List ℕ → List Diagnostic
missing_by None name = MissingModule name ∷ []
missing_by (Some exports) name = []

abbrev pub missing : Imported → List Diagnostic
missing import = missing_by import.exports import.name

-- a diagnostic for a name that is not known
abbrev pub unknown : (List ℕ → Bool) → List ℕ → List Diagnostic
unknown is_known name = if is_known name then [] else UndefinedName name ∷ []

-- a diagnostic for each such name in a declaration
abbrev pub unknown_in : (List ℕ → Bool) → Declaration → List Diagnostic
unknown_in is_known (Import name) = []
unknown_in is_known (Define name names) = flat_map (unknown is_known) names

-- what is wrong with declarations that import these modules
abbrev pub diagnosed : List Declaration → List Imported → List Diagnostic
diagnosed declarations imports = flat_map missing imports ++ flat_map (unknown_in (known declarations imports)) declarations

-- what is wrong with a module of these declarations, by what each module exports
abbrev pub checked : Option (List Declaration) → (List ℕ → Option (List (List ℕ))) → List Diagnostic
checked None exports = []
checked (Some declarations) exports = diagnosed declarations (flat_map (imported exports) declarations)

-- what a module of this source declares; none if it is missing
abbrev pub parsed_source : Source → Option (List Declaration)
parsed_source Missing = None
parsed_source (Written text) = Some (parsed text)

-- what the module of a name declares, by the sources of modules
abbrev pub declarations_of : (List ℕ → Source) → List ℕ → Option (List Declaration)
declarations_of sources name = parsed_source (sources name)

-- what it exports
abbrev pub exports_of : (List ℕ → Source) → List ℕ → Option (List (List ℕ))
exports_of sources name = option_map (flat_map defined) (declarations_of sources name)

-- what is wrong with it
abbrev pub check_of : (List ℕ → Source) → List ℕ → List Diagnostic
check_of sources name = checked (declarations_of sources name) (exports_of sources)
