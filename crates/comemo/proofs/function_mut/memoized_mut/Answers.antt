use Rattle.comemo_cache.proofs.Holding.{by_map, leads_map}
use Rattle.comemo_cache.proofs.Sendings.{mapped}
use Rattle.comemo.proofs.PartsMut.{done_alone}
use Rattle.comemo.proofs.Faults.{without_sink_mut}
use Rattle.std.proofs.lemmas.Result.{IfErr-weaker}
use Rattle.comemo.proofs.function_mut.memoized_mut.Goals as goal

pub returns-clause-reply : goal.returns-clause-reply
returns-clause-reply g c = mapped (λ reply held. by_map (g.H.Hold.entries c.args.cache.now) (g.H.Hold.entries c.args.cache.now) (g.H.Hold.entries c.memoized_mut_with.new.cache) _ _ (λ es mid es' k. done_alone k) held) c.memoized_mut_with.result c.memoized_mut_with.ensures.reply

pub returns-clause-fault : goal.returns-clause-fault
returns-clause-fault g c = IfErr-weaker c.memoized_mut_with.result _ _ (λ f failed. leads_map (g.H.Hold.entries c.args.cache.now) (g.H.Hold.entries c.memoized_mut_with.new.cache) _ _ (λ es es' is. without_sink_mut f is) failed) c.memoized_mut_with.ensures.fault
