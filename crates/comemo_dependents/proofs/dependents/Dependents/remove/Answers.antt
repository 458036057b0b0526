use Rattle.std.proofs.Common.{◌&&◌, not, sym, ap, ◌∙◌}
use Rattle.std.specs.List.{list_any}
use Rattle.comemo_dependents.specs.Lists.{is_noted, lists_key}
use Rattle.comemo_dependents.proofs.Noting.{Forgets-index_of, forgot}
use Rattle.comemo_dependents.proofs.Truths.{unlink_end}
use Rattle.comemo_dependents.proofs.dependents.Dependents.remove.Goals as goal

pub returns-in-Some : goal.returns-in-Some
returns-in-Some g c =
    let eqk = g.K.PartialEq.eq in
    let eqc = g.C.PartialEq.eq in
    let key = c.args.key.now in
    let lists = c.self.inside.lists in
    rw (← c.self.view_is) (Forgets-index_of eqk eqc key lists c.unlink_all.new.lists (forgot g.met.K.Eq.laws lists c.unlink_all.new.lists c.self.inside.calls c.remove.new.self c.self.invariant key (λ d k. c.unlink_all.ensures d k ∙ ap (λ xs. lists_key eqk eqc lists d k && not (eqk k key && list_any (eqc d) xs)) c.as_slice.ensures.value ∙ ap (λ o. lists_key eqk eqc lists d k && not (eqk k key && is_noted eqc o d)) c.in-Some.ensures.value)))

pub returns-in_default : goal.returns-in_default
returns-in_default g c =
    let eqk = g.K.PartialEq.eq in
    let eqc = g.C.PartialEq.eq in
    let key = c.args.key.now in
    let lists = c.self.inside.lists in
    rw (← c.self.view_is) (Forgets-index_of eqk eqc key lists lists (forgot g.met.K.Eq.laws lists lists c.self.inside.calls c.remove.new.self c.self.invariant key (λ d k. sym (unlink_end (eqk k key) (lists_key eqk eqc lists d k)) ∙ ap (λ o. lists_key eqk eqc lists d k && not (eqk k key && is_noted eqc o d)) c.in_default.ensures.value)))
