use Rattle.std.proofs.Common.{◌∙◌, refl}
use Rattle.comemo_cache.proofs.Stepping.{drained}
use Rattle.comemo_cache.proofs.cache.CacheData.take_step.Goals as goal

pub returns-in-Ok-Some : goal.returns-in-Ok-Some
returns-in-Ok-Some g c = rw c.in-Look.is (rw (c.in-Ok-Some.field-0-is, c.as_slice.ensures.value) at c.in-Ok-Some.ensures.found, refl)

pub returns-in-Ok-None : goal.returns-in-Ok-None
returns-in-Ok-None g c = rw c.in-Look.is (rw (c.in-Ok-None.field-0-is, c.as_slice.ensures.value) at c.in-Ok-None.ensures.found, refl)

pub returns-in-Look : goal.returns-in-Look
returns-in-Look g c = rw c.in-Look.is (rw c.as_slice.ensures.value at c.in-Err.ensures.err, refl)

pub store-requires-clause-reads : goal.store-requires-clause-reads
store-requires-clause-reads g c =
    let (it, given, gives, drains, took) = c.in-Ok.ensures in
    let all = drained c.in-Store.pairs.items given it gives.0 (gives.1 ∙ c.in-Store.pairs.ok.0) drains in
    let asks = rw c.in-Store.is at c.requires in
    rw (took.pairs, all) asks.1

pub store-requires-clause-stands : goal.store-requires-clause-stands
store-requires-clause-stands g c =
    let (it, given, gives, drains, took) = c.in-Ok.ensures in
    let all = drained c.in-Store.pairs.items given it gives.0 (gives.1 ∙ c.in-Store.pairs.ok.0) drains in
    let asks = rw c.in-Store.is at c.requires in
    rw (took.pairs, all) asks.0

pub store-requires-clause-settled : goal.store-requires-clause-settled
store-requires-clause-settled g c =
    let (it, given, gives, drains, took) = c.in-Ok.ensures in
    let all = drained c.in-Store.pairs.items given it gives.0 (gives.1 ∙ c.in-Store.pairs.ok.0) drains in
    let asks = rw c.in-Store.is at c.requires in
    rw (took.pairs, all) asks.3

pub returns-in-Ok-store : goal.returns-in-Ok-store
returns-in-Ok-store g c =
    let (it, given, gives, drains, took) = c.in-Ok.ensures in
    let all = drained c.in-Store.pairs.items given it gives.0 (gives.1 ∙ c.in-Store.pairs.ok.0) drains in
    rw c.in-Store.is (rw (took.pairs, all) at c.in-Ok-store.ensures.stored)

pub returns-in-Err-AlreadyExists : goal.returns-in-Err-AlreadyExists
returns-in-Err-AlreadyExists g c =
    let (it, given, gives, drains, took) = c.in-Ok.ensures in
    let all = drained c.in-Store.pairs.items given it gives.0 (gives.1 ∙ c.in-Store.pairs.ok.0) drains in
    rw c.in-Store.is (rw (c.in-Err-AlreadyExists.field-0-is, took.pairs, all) at c.in-Err-AlreadyExists.ensures.reason, c.in-Err-AlreadyExists.ensures.err)

pub returns-in-Err-MissingCall : goal.returns-in-Err-MissingCall
returns-in-Err-MissingCall g c =
    let (it, given, gives, drains, took) = c.in-Ok.ensures in
    let all = drained c.in-Store.pairs.items given it gives.0 (gives.1 ∙ c.in-Store.pairs.ok.0) drains in
    rw c.in-Store.is (c.in-Err-MissingCall.ensures.named c.in-Err-MissingCall.field-0-is, rw (c.in-Err-MissingCall.field-0-is, took.pairs, all) at c.in-Err-MissingCall.ensures.reason, c.in-Err-MissingCall.ensures.err)
