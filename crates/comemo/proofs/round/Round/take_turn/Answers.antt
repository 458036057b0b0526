use Rattle.comemo.proofs.round.Round.take_turn.Goals as goal

pub new-turn-requires : goal.new-turn-requires
new-turn-requires g c = rw (c.replace.ensures.value, c.requires, ← c.self.view_is, ← c.new-known.ensures) at c.into_pairs-pairs.ensures

pub new-requires-2 : goal.new-requires-2
new-requires-2 g c = rw (c.provide-provided.ensures.same, c.new-turn.ensures, c.new-known.ensures, ← c.new.ensures) at c.into_trail.ensures
