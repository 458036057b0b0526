-- A key that only contracts read owns nothing, so it may move to any thread.
use denote.RattleType.{RattleType}
use denote.Param.Send.{IsSend}
use Rattle.comemo_tree.specs.contracts.ghost_key.GhostKey.{the_row}

pub send : (K : RattleType) → IsSend (the_row K)
send K = record { owned = λ d vs. ((λ vss. (tt, ((λ uss. (tt, tt)), tt))), tt); leaving = λ k f vs. tt }
