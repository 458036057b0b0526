-- How a recording absorbs another: the reads that it then has.
use Rattle.std.proofs.Common.{◌≡◌, Bool, true, false, cond, not, ◌||◌, List, [], ◌∷◌, ◌++◌, is_some, None, Some, refl, sym, ap, ◌∙◌, inl, inr, append_assoc, append-nil}
use Rattle.std.proofs.lemmas.Bool.{cases_Bool}
use Rattle.std.proofs.lemmas.List.Elements.{All-append, All-filter}
use Rattle.std.specs.Cmp.{IsEquivalence}
use Rattle.std.specs.List.{filter}
use Rattle.std.specs.Map.{lookup}
use Rattle.std.specs.HashMap.Eq.{lookup_congr}
use Rattle.comemo_base.specs.Sequence.{Sequence, HasDistinctCalls, was_seen, unseen, held, absorbed}
use Rattle.comemo_base.proofs.Pairs.{held-push}
use Rattle.std.specs.List.{All}
use Rattle.comemo_track.specs.Recording.{IsRecording}

or_none : (a : Bool) → (a || false) ≡ a
or_none true = refl
or_none false = refl

module _ {C R : Type 0} {eq : C → C → Bool} (laws : IsEquivalence eq) where
  -- the pairs whose calls are not held
  abbrev pub others : List (C × R) → List (C × R) → List (C × R)
  others ps qs = filter (λ q. not (held eq ps q.0)) qs

  -- a pair that is added holds none of the calls after it
  others-push : (ps : List (C × R)) (q : C × R) (qs : List (C × R)) → lookup (eq q.0) qs ≡ None → others (ps ++ q ∷ []) qs ≡ others ps qs
  others-push ps q [] e = refl
  others-push ps q (r ∷ qs) e =
      elim (cases_Bool (eq q.0 r.0)) [
        | inl a ↦ let h : Some r.1 ≡ None = rw a at e in cc
        | inr a ↦
            let h : held eq (ps ++ q ∷ []) r.0 ≡ held eq ps r.0 = held-push eq ps q.0 q.1 r.0 ∙ ap (λ b. held eq ps r.0 || b) (laws.symm r.0 q.0 ∙ a) ∙ or_none (held eq ps r.0) in
            let more = others-push ps q qs (rw a at e) in
            λ i. cond (not (h i)) (r ∷ more i) (more i)
      ]

  -- what is absorbed, where no call comes again
  pub absorbed_distinct : (ps qs : List (C × R)) → HasDistinctCalls eq qs → absorbed eq ps qs ≡ ps ++ others ps qs
  absorbed_distinct ps [] d = sym (append-nil ps)
  absorbed_distinct ps (q ∷ qs) d =
      elim (cases_Bool (held eq ps q.0)) [
        | inl a ↦ rw a (absorbed_distinct ps qs d.1)
        | inr a ↦ rw a (absorbed_distinct (ps ++ q ∷ []) qs d.1 ∙ ap (λ x. (ps ++ q ∷ []) ++ x) (others-push ps q qs d.0) ∙ append_assoc ps (q ∷ []) (others ps qs))
      ]

  held-append : (ps qs : List (C × R)) (c : C) → held eq (ps ++ qs) c ≡ (held eq ps c || held eq qs c)
  held-append [] qs c = refl
  held-append (p ∷ ps) qs c = elim (cases_Bool (eq c p.0)) [ inl a ↦ rw a refl | inr a ↦ rw a (held-append ps qs c) ]

  held-others : (ps qs : List (C × R)) (c : C) → held eq ps c ≡ false → held eq (others ps qs) c ≡ held eq qs c
  held-others ps [] c e = refl
  held-others ps (q ∷ qs) c e =
      elim (cases_Bool (eq c q.0)) [
        | inl a ↦
            let h : held eq ps q.0 ≡ false = sym (ap is_some (lookup_congr eq laws.congr ps c q.0 a)) ∙ e in
            rw (h, a) refl
        | inr a ↦
            elim (cases_Bool (held eq ps q.0)) [
              | inl b ↦ rw (b, a) (held-others ps qs c e)
              | inr b ↦ rw (b, a) (held-others ps qs c e)
            ]
      ]

  held-both : (ps qs : List (C × R)) (c : C) → held eq (ps ++ others ps qs) c ≡ (held eq ps c || held eq qs c)
  held-both ps qs c =
      held-append ps (others ps qs) c
      ∙ elim (cases_Bool (held eq ps c)) [
        | inl a ↦ rw a refl
        | inr a ↦ rw a (held-others ps qs c a)
      ]

  module _ (w : C → Bool) (s o t : Sequence C R) {V : List C} (is : IsRecording eq w s V) where
    unseen_others : unseen eq s o.pairs ≡ others s.pairs o.pairs
    unseen_others = λ i. filter (λ q. not (is.seen q.0 i)) o.pairs

    pub pairs-absorbed : HasDistinctCalls eq o.pairs → t.pairs ≡ s.pairs ++ unseen eq s o.pairs → t.pairs ≡ absorbed eq s.pairs o.pairs
    pairs-absorbed d e = e ∙ ap (λ x. s.pairs ++ x) unseen_others ∙ sym (absorbed_distinct s.pairs o.pairs d)

    both : All (λ p. w p.0 ≡ false) o.pairs → t.pairs ≡ s.pairs ++ unseen eq s o.pairs → ((c : C) → was_seen eq t c ≡ (was_seen eq s c || held eq o.pairs c)) → IsRecording eq w t V
    both other e seen =
        let pairs : t.pairs ≡ s.pairs ++ others s.pairs o.pairs = e ∙ ap (λ x. s.pairs ++ x) unseen_others in
        record {
          seen = λ c.
              seen c
              ∙ ap (λ b. b || held eq o.pairs c) (is.seen c)
              ∙ sym (ap (λ ps. held eq ps c) pairs ∙ held-both s.pairs o.pairs c);
          all_reads = rw pairs (All-append (λ p. w p.0 ≡ false) s.pairs (others s.pairs o.pairs) is.all_reads (All-filter (λ q. not (held eq s.pairs q.0)) (λ p. w p.0 ≡ false) o.pairs other));
          all_writes = is.all_writes;
        }

    -- with the other's writes added it is a recording's
    pub IsRecording-absorbed : (U W : List C) → All (λ p. w p.0 ≡ false) o.pairs → All (λ c. w c ≡ true) U → t.pairs ≡ s.pairs ++ unseen eq s o.pairs → ((c : C) → was_seen eq t c ≡ (was_seen eq s c || held eq o.pairs c)) → W ≡ V ++ U → IsRecording eq w t W
    IsRecording-absorbed U W reads written e seen writes =
        let is_both = both reads e seen in
        record {
          seen = is_both.seen;
          all_reads = is_both.all_reads;
          all_writes = rw writes (All-append (λ c. w c ≡ true) V U is.all_writes written);
        }
