-- A key that only contracts read owns nothing, so any thread may share it.
use denote.RattleType.{RattleType}
use denote.Param.Send.{IsSend, IsSync, part_keyless}
use Rattle.comemo_tree.specs.contracts.ghost_key.GhostKey.{the_row}

owned : (K : RattleType) → IsSend (the_row K)
owned K = record { owned = λ d vs. ((λ vss. (tt, ((λ uss. (tt, tt)), tt))), tt); leaving = λ k f vs. tt }

pub sync : (K : RattleType) → IsSync (the_row K)
sync K = record { shared = λ d b o κ q. part_keyless (the_row K) (owned K) q d b o }
