use Rattle.std.proofs.lemmas.List.Sorted.{All-permutation}
use Rattle.comemo_base.specs.Lookup.{under}
use Rattle.comemo_base.proofs.Paths.{turned}
use Rattle.comemo_cache.specs.Meaning.{Meaning}
use Rattle.comemo_cache.specs.Cache.{IsLegal}
use Rattle.comemo_cache.proofs.Entries.{All-cons}
use Rattle.comemo_cache.proofs.Named.{settled_from_legal, named_new, missing_unnamed}
use Rattle.comemo_cache.proofs.NewPath.{IsLegal-stored, by_result, stores}
use Rattle.comemo_cache.specs.Meaning.{IsRight}
use Rattle.comemo_cache.proofs.cache.CacheData.store.Goals as goal

pub invariant_of-self : goal.invariant_of-self
invariant_of-self g c =
    let M : Meaning g.row.M-Key.Denot g.row.M-Call.Denot g.row.M-Answer.Denot g.row.M-Out.Denot = record { same_call = g.M.Call.PartialEq.eq; same_answer = g.M.Answer.PartialEq.eq; same_key = g.M.Key.PartialEq.eq; is_write = g.M.Call.Call.is_write; is_clone = g.M.Out.Clone.is_clone; right = IsRight g.M.Function.means g.M.Function.writes; naming = g.M.Function.naming } in
    let P = IsLegal M in
    let old = c.self.inside.tree in
    by_result c.insert.result c.insert.ensures.stored c.insert.ensures.err
    (λ h.
    let legal = IsLegal-stored M g.met.M.Call.Eq.laws g.met.M.Answer.Eq.laws (under g.M.Key.PartialEq.eq old c.args.key) c.args.key h.own c.args.sequence.pairs h.path c.args.output c.args.writes.items g.met.M.Call.Call.laws.same_kind (λ m r d. g.met.M.Function.laws.keys c.args.key h.own m c.args.output c.args.writes.items r (turned g.met.M.Key.Eq.laws h.own c.args.key h.is_key) d) c.reveal_distinct_calls.ensures.distinct c.requires.reads c.requires.written c.requires.stands h.is_new (named_new g.met.M.Call.Eq.laws g.met.M.Answer.Eq.laws g.met.M.Key.Eq.laws old c.args.key c.args.sequence.pairs c.reveal_distinct_calls.ensures.distinct M.naming (settled_from_legal M old c.self.invariant) c.requires.settled h.own h.path h.is_key h.is_new) in
    All-permutation P _ c.insert.new.self h.entries (All-cons P _ old legal c.self.invariant))
    (λ e. rw e c.self.invariant)

pub returns-clause-stored : goal.returns-clause-stored
returns-clause-stored g c = rw (← c.self.view_is) (stores (record { same_call = g.M.Call.PartialEq.eq; same_answer = g.M.Answer.PartialEq.eq; same_key = g.M.Key.PartialEq.eq; is_write = g.M.Call.Call.is_write; is_clone = g.M.Out.Clone.is_clone; right = IsRight g.M.Function.means g.M.Function.writes; naming = g.M.Function.naming }) g.met.M.Call.Eq.laws c.self.inside.tree c.args.key c.args.sequence.pairs c.args.output c.args.writes.items c.insert.new.self c.insert.result c.insert.ensures.ok c.insert.ensures.stored)

pub returns-clause-named : goal.returns-clause-named
returns-clause-named g c =
    let M : Meaning g.row.M-Key.Denot g.row.M-Call.Denot g.row.M-Answer.Denot g.row.M-Out.Denot = record { same_call = g.M.Call.PartialEq.eq; same_answer = g.M.Answer.PartialEq.eq; same_key = g.M.Key.PartialEq.eq; is_write = g.M.Call.Call.is_write; is_clone = g.M.Out.Clone.is_clone; right = IsRight g.M.Function.means g.M.Function.writes; naming = g.M.Function.naming } in
    let old = c.self.inside.tree in
    missing_unnamed g.met.M.Call.Eq.laws g.met.M.Answer.Eq.laws g.met.M.Key.Eq.laws old c.args.key c.args.sequence.pairs c.reveal_distinct_calls.ensures.distinct M.naming (settled_from_legal M old c.self.invariant) c.requires.settled c.insert.result c.insert.ensures.reason
