-- Whether a text is `hello`.
use Rattle.std.specs.Prelude.{ℕ, List, Bool, codes}
use Rattle.std.specs.Str.{bytes_eq}

abbrev pub is_hello : List ℕ → Bool
is_hello text = bytes_eq text (codes "hello")
