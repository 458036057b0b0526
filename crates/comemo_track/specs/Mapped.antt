-- Calls and answers that are sent on through a map.
use Rattle.std.specs.Prelude.{◌≡◌, List, map}
use Rattle.comemo_track.specs.declared.mapped.MappedSink.{MappedSink}

module _ {C D R Q : Type 0} where
  -- the pairs with their calls sent through f and their answers through g
  abbrev pub mapped_pairs : (C → D) → (R → Q) → List (C × R) → List (D × Q)
  mapped_pairs f g P = map (λ p. (f p.0, g p.1)) P

  -- what was sent on through f and g: the images of the pairs and of the writes
  abbrev pub Through : (C → D) → (R → Q) → (List (D × Q) → List D → Type 0) → List (C × R) → List C → Type 0
  Through f g sent P W = sent (mapped_pairs f g P) (map f W)

  -- the other sink took the images of these pairs and of these writes; the loan and the map stay
  pub record MapsTook {S M : Type 0} (took : S → S → List (D × Q) → List D → Type 0) (maps : M → C → D) (answers : M → R → Q) (s t : MappedSink S M) (P : List (C × R)) (W : List C) : Type 0 where
    pub sent : Through (maps s.map) (answers s.map) (took s.sink.now t.sink.now) P W
    pub loan : t.sink.ghost_name ≡ s.sink.ghost_name
    pub same_map : t.map ≡ s.map

-- the other sink was marked incomplete; the loan and the map stay
pub record MapsSpoils {S M : Type 0} (spoils : S → S → Type 0) (s t : MappedSink S M) : Type 0 where
  pub spoiled : spoils s.sink.now t.sink.now
  pub loan : t.sink.ghost_name ≡ s.sink.ghost_name
  pub same_map : t.map ≡ s.map

-- the other sink was marked late; the loan and the map stay
pub record MapsLates {S M : Type 0} (lates : S → S → Type 0) (s t : MappedSink S M) : Type 0 where
  pub marked : lates s.sink.now t.sink.now
  pub loan : t.sink.ghost_name ≡ s.sink.ghost_name
  pub same_map : t.map ≡ s.map
