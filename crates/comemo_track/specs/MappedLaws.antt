-- Proofs of the laws that the trait demands of a sink that sends calls on through a map. A reader needn't trust them.
use Rattle.std.proofs.Common.{◌≡◌, Bool, ◌⊎◌, List, [], ◌∷◌, ◌++◌, map, IsTrue, refl, sym, ap, subst, ◌∙◌, inl, inr}
use Rattle.std.proofs.lemmas.List.{map-append}
use Rattle.std.proofs.lemmas.Bool.{cases_Bool}
use Rattle.comemo_base.specs.Sequence.{held}
use Rattle.comemo_track.specs.Mapped.{mapped_pairs, MapsTook, MapsSpoils, MapsLates}
use Rattle.comemo_track.specs.declared.mapped.MappedSink.{MappedSink}

-- a call is held among pairs exactly if its image is held among theirs
pub held-mapped : {C D R Q : Type 0} (eq : C → C → Bool) (like : D → D → Bool) (f : C → D) (g : R → Q) → ((x y : C) → like (f x) (f y) ≡ eq x y) → (P : List (C × R)) (call : C) → held like (mapped_pairs f g P) (f call) ≡ held eq P call
held-mapped eq like f g apart [] call = refl
held-mapped eq like f g apart (p ∷ P) call =
    elim (cases_Bool (eq call p.0)) [
      | inl a ↦ rw (apart call p.0, a) refl
      | inr a ↦ rw (apart call p.0, a) (held-mapped eq like f g apart P call)
    ]

module _ {S M C D R Q : Type 0} {took : S → S → List (D × Q) → List D → Type 0} {maps : M → C → D} {answers : M → R → Q} where
  pub maps_nothing : ((s : S) → took s s [] []) → (s : MappedSink S M) → MapsTook took maps answers s s [] []
  maps_nothing starts s = record { sent = starts s.sink.now; loan = refl; same_map = refl }

  pub maps_both : ((s t u : S) (P' Q' : List (D × Q)) (W : List D) → took s t P' [] → took t u Q' W → took s u (P' ++ Q') W) → (s t u : MappedSink S M) (P P' : List (C × R)) (W : List C) → MapsTook took maps answers s t P [] → MapsTook took maps answers t u P' W → MapsTook took maps answers s u (P ++ P') W
  maps_both joins s t u P P' W a b =
      let f = maps s.map in
      let g = answers s.map in
      let later : took t.sink.now u.sink.now (mapped_pairs f g P') (map f W) = subst (λ x. took t.sink.now u.sink.now (mapped_pairs (maps x) (answers x) P') (map (maps x) W)) a.same_map b.sent in
      let both = joins s.sink.now t.sink.now u.sink.now (mapped_pairs f g P) (mapped_pairs f g P') (map f W) a.sent later in
      record {
        sent = subst (λ x. took s.sink.now u.sink.now x (map f W)) (sym (map-append (λ p. (f p.0, g p.1)) P P')) both;
        loan = b.loan ∙ a.loan;
        same_map = b.same_map ∙ a.same_map;
      }

  pub maps_more : ((s t u : S) (P' : List (D × Q)) (V W : List D) → took s t P' V → took t u [] W → took s u P' (V ++ W)) → (s t u : MappedSink S M) (P : List (C × R)) (V W : List C) → MapsTook took maps answers s t P V → MapsTook took maps answers t u [] W → MapsTook took maps answers s u P (V ++ W)
  maps_more adds s t u P V W a b =
      let f = maps s.map in
      let g = answers s.map in
      let later : took t.sink.now u.sink.now [] (map f W) = subst (λ x. took t.sink.now u.sink.now [] (map (maps x) W)) a.same_map b.sent in
      let both = adds s.sink.now t.sink.now u.sink.now (mapped_pairs f g P) (map f V) (map f W) a.sent later in
      record {
        sent = subst (λ x. took s.sink.now u.sink.now (mapped_pairs f g P) x) (sym (map-append f V W)) both;
        loan = b.loan ∙ a.loan;
        same_map = b.same_map ∙ a.same_map;
      }

  module _ {holds : S → D → Bool} where
    pub maps_keeps : ((s t : S) (P : List (D × Q)) (W : List D) (call : D) → took s t P W → IsTrue (holds s call) → IsTrue (holds t call)) → (s t : MappedSink S M) (P : List (C × R)) (W : List C) (call : C) → MapsTook took maps answers s t P W → IsTrue (holds s.sink.now (maps s.map call)) → IsTrue (holds t.sink.now (maps t.map call))
    maps_keeps keeps s t P W call a h = subst (λ m. IsTrue (holds t.sink.now (maps m call))) (sym a.same_map) (keeps s.sink.now t.sink.now (mapped_pairs (maps s.map) (answers s.map) P) (map (maps s.map) W) (maps s.map call) a.sent h)

    pub maps_held : ((s t : S) (call : D) (answer other : Q) → IsTrue (holds s call) → took s t ((call, answer) ∷ []) [] → took s t ((call, other) ∷ []) []) → (s t : MappedSink S M) (call : C) (answer other : R) → IsTrue (holds s.sink.now (maps s.map call)) → MapsTook took maps answers s t ((call, answer) ∷ []) [] → MapsTook took maps answers s t ((call, other) ∷ []) []
    maps_held held_again s t call answer other h a = record { sent = held_again s.sink.now t.sink.now (maps s.map call) (answers s.map answer) (answers s.map other) h a.sent; loan = a.loan; same_map = a.same_map }

    pub maps_holds : (eq : C → C → Bool) (like : D → D → Bool) → ((m : M) (x y : C) → like (maps m x) (maps m y) ≡ eq x y) → ((s t : S) (P : List (D × Q)) (W : List D) (call : D) → took s t P W → IsTrue (holds t call) → IsTrue (holds s call) ⊎ IsTrue (held like P call)) → (s t : MappedSink S M) (P : List (C × R)) (W : List C) (call : C) → MapsTook took maps answers s t P W → IsTrue (holds t.sink.now (maps t.map call)) → IsTrue (holds s.sink.now (maps s.map call)) ⊎ IsTrue (held eq P call)
    maps_holds eq like apart holds_taken s t P W call a h =
        let was = holds_taken s.sink.now t.sink.now (mapped_pairs (maps s.map) (answers s.map) P) (map (maps s.map) W) (maps s.map call) a.sent (subst (λ m. IsTrue (holds t.sink.now (maps m call))) a.same_map h) in
        elim was [ inl k ↦ inl k | inr k ↦ inr (sym (held-mapped eq like (maps s.map) (answers s.map) (apart s.map) P call) ∙ k) ]

pub maps_spoiled : {S M C D : Type 0} (maps : M → C → D) {spoils : S → S → Type 0} {holds : S → D → Bool} → ((s t : S) (call : D) → spoils s t → holds t call ≡ holds s call) → (s t : MappedSink S M) (call : C) → MapsSpoils spoils s t → holds t.sink.now (maps t.map call) ≡ holds s.sink.now (maps s.map call)
maps_spoiled maps {spoils} {holds} spoiled_holds s t call a = ap (λ m. holds t.sink.now (maps m call)) a.same_map ∙ spoiled_holds s.sink.now t.sink.now (maps s.map call) a.spoiled

pub maps_marked : {S M C D : Type 0} (maps : M → C → D) {lates : S → S → Type 0} {holds : S → D → Bool} → ((s t : S) (call : D) → lates s t → holds t call ≡ holds s call) → (s t : MappedSink S M) (call : C) → MapsLates lates s t → holds t.sink.now (maps t.map call) ≡ holds s.sink.now (maps s.map call)
maps_marked maps {lates} {holds} late_holds s t call a = ap (λ m. holds t.sink.now (maps m call)) a.same_map ∙ late_holds s.sink.now t.sink.now (maps s.map call) a.marked
