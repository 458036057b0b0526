-- The sources of a project's modules.
use Rattle.std.specs.Prelude.{ℕ, List, Option, None, Some}
use Rattle.std.specs.HashMap.{get_by_text}
use Rattle.comemo_lang.specs.declared.project.Project.{Project}
use Rattle.comemo_lang.specs.declared.project.Source.{Source}
use Rattle.comemo_lang.specs.declared.project.Source.TheVariants.{Missing, Written}

abbrev pub source_by : Option (List ℕ) → Source
source_by None = Missing
source_by (Some text) = Written text

-- the source of the module of a name
abbrev pub source_of : Project → List ℕ → Source
source_of project name = source_by (get_by_text project.modules name)
