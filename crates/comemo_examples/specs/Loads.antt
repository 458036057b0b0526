-- What a library is asked for.
use Rattle.std.specs.Prelude.{ℕ, List, string_bytes}
use Rattle.comemo_examples.specs.declared.loader.LibraryCall.{LibraryCall}
use Rattle.comemo_examples.specs.declared.loader.LibraryCall.TheVariants.{Load}

abbrev pub path_in : LibraryCall → List ℕ
path_in (Load path) = string_bytes path
