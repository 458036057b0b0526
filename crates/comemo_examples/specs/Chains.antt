-- Which numbers are in a chain, and what it answers.
use Rattle.std.specs.Prelude.{ℕ, Bool, false, ◌||◌, nat_eq}
use Rattle.comemo_examples.specs.declared.chains.Chain.{Chain, Chain', Held-Chain-outer, None', Some'}
use Rattle.comemo_examples.specs.declared.chains.ChainCall.{ChainCall}
use Rattle.comemo_examples.specs.declared.chains.ChainCall.TheVariants.{Contains}

abbrev mutual
  -- the number is this chain's own, or in the chain before
  pub has : ℕ → Chain → Bool
  has n (Chain' outer value) = nat_eq value n || has_before n outer

  pub has_before : ℕ → Held-Chain-outer → Bool
  has_before n None' = false
  has_before n (Some' p outer) = has n outer

abbrev pub chain_answer : Chain → ChainCall → Bool
chain_answer chain (Contains n) = has n chain
