use Rattle.comemo_base.specs.Sequence.{held}
use Rattle.comemo_dependents.proofs.Noting.{forgets_again, free_after, noted_after, noted_more}
use Rattle.comemo_dependents.proofs.dependents.Dependents.note.Goals as goal

pub invariant_of-self-in-Err : goal.invariant_of-self-in-Err
invariant_of-self-in-Err g c =
    let eqk = g.K.PartialEq.eq in
    let eqc = g.C.PartialEq.eq in
    let s = c.self.inside in
    let own = c.in_ok-clone.field-0 in
    noted_more g.met.K.Eq.laws s.lists c.link_all.new.lists s.calls c.insert.new.self c.self.invariant c.args.key own c.in_ok-calls.calls (held eqc c.args.reads.now.pairs) (c.requires.clones_equal c.args.key own c.in_ok-clone.ensures.cases) c.in_ok-calls.ensures c.in_ok-insert.ensures.updates.0 (free_after eqk eqc c.args.key c.args.self.now c.remove.new.self s.lists c.self.view_is c.remove.ensures) c.in-Err.ensures.within

pub returns-in-Err-clause-err : goal.returns-in-Err-clause-err
returns-in-Err-clause-err g c =
    forgets_again g.K.PartialEq.eq g.C.PartialEq.eq c.args.key c.args.self.now c.remove.new.self c.self.inside.lists c.self.view_is c.remove.ensures c.link_all.new.lists c.remove-in-Err.new.self c.in-Err.ensures.others c.remove-in-Err.ensures

pub invariant_of-self-in_default : goal.invariant_of-self-in_default
invariant_of-self-in_default g c =
    let eqk = g.K.PartialEq.eq in
    let eqc = g.C.PartialEq.eq in
    let s = c.self.inside in
    let own = c.in_ok-clone.field-0 in
    noted_more g.met.K.Eq.laws s.lists c.link_all.new.lists s.calls c.insert.new.self c.self.invariant c.args.key own c.in_ok-calls.calls (held eqc c.args.reads.now.pairs) (c.requires.clones_equal c.args.key own c.in_ok-clone.ensures.cases) c.in_ok-calls.ensures c.in_ok-insert.ensures.updates.0 (free_after eqk eqc c.args.key c.args.self.now c.remove.new.self s.lists c.self.view_is c.remove.ensures) c.in_default.ensures.within

pub returns-clause-ok : goal.returns-clause-ok
returns-clause-ok g c =
    noted_after g.K.PartialEq.eq g.C.PartialEq.eq c.args.key c.args.self.now c.remove.new.self c.self.inside.lists c.self.view_is c.remove.ensures c.link_all.new.lists (held g.C.PartialEq.eq c.args.reads.now.pairs) c.in_default.ensures.ok
