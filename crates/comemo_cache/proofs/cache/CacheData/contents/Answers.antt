use Rattle.std.proofs.Common.{◌∙◌, ◌≤◌, ap, sym, rules, arith, length, count_by}
use Rattle.comemo_cache.specs.Contents.{count_at}
use Rattle.comemo_cache.proofs.Tallying.{count_by-map, is_at}
use Rattle.comemo_cache.proofs.Sums.{ages_sum, few_keys}
use Rattle.comemo_cache.proofs.cache.CacheData.contents.Goals as goal

pub returns-clause-keys : goal.returns-clause-keys
returns-clause-keys g c = rw (← c.self.view_is) c.shape-keys.ensures.starts

pub returns-clause-ages : goal.returns-clause-ages
returns-clause-ages g c = λ place l.
    c.count_ages.ensures place l ∙ ap (count_by (is_at place)) c.values.ensures ∙ count_by-map (is_at place) (λ e. e.value) c.self.inside.tree ∙ ap (λ es. count_at es place) c.self.view_is

pub returns-clause-sum : goal.returns-clause-sum
returns-clause-sum g c =
    ages_sum c.self.inside.tree c.count_ages.result (search rules) (λ place l. c.count_ages.ensures place l ∙ ap (count_by (is_at place)) c.values.ensures ∙ count_by-map (is_at place) (λ e. e.value) c.self.inside.tree) ∙ sym c.len-entries.ensures

pub returns-clause-few : goal.returns-clause-few
returns-clause-few g c =
    let few : c.shape-keys.result.3 ≤ length c.self.inside.tree = few_keys g.M.Key.PartialEq.eq g.met.M.Key.Eq.laws c.self.inside.tree c.shape-keys.result.3 c.shape-keys.ensures.starts in
    omega (arith, few, c.len-entries.ensures)
