-- What a context answers.
use Rattle.std.specs.Prelude.{ℕ}
use Rattle.comemo_examples.specs.declared.contexts.ContextCall.{ContextCall}
use Rattle.comemo_examples.specs.declared.contexts.ContextCall.TheVariants.{Location, Styles}

abbrev pub field : ℕ → ℕ → ContextCall → ℕ
field location styles Location = location
field location styles Styles = styles
