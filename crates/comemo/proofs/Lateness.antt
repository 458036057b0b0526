-- For authors of functions that write: why a recording is late. One of its writes touches one of its reads.
use Rattle.std.proofs.Common.{◌≡◌, ◌∙◌, ◌||◌, cond, Bool, true, false, List, [], ◌∷◌, ◌++◌, is_some, map, refl, sym, ap, subst, inl, inr}
use Rattle.std.proofs.lemmas.Bool.{cases_Bool}
use Rattle.std.proofs.lemmas.List.Folds.{list_any-append}
use Rattle.std.specs.Cmp.{IsEquivalence}
use Rattle.std.specs.HashMap.Eq.{lookup_congr}
use Rattle.comemo_base.specs.Sequence.{held, absorbed}
use Rattle.comemo_base.specs.Tree.{IsSamePath}
use Rattle.comemo_base.proofs.Pairs.{held-push}
use Rattle.comemo_base.proofs.Paths.{joined, turned}
use Rattle.comemo_track.specs.Mapped.{mapped_pairs}
use Rattle.comemo_track.specs.MappedLaws.{held-mapped}
use Rattle.comemo_track.specs.Recording.{Recording, Took, MarkedLate, TouchesHeld, IsLateByTouch}
use Rattle.comemo_track.specs.RecordingLaws.{held-absorbed}
use Rattle.comemo_track.specs.Sending.{TookAs}
use Rattle.comemo_track.specs.Writing.{touched, touched_by}
use Rattle.comemo.specs.FunctionMut.{Lent, NoneTouches, Goes}

pub or_true : (a : Bool) → (a || true) ≡ true
or_true true = refl
or_true false = refl

-- what writes touch, more writes touch
module _ {C : Type 0} (touches : C → C → Bool) (V W : List C) (read : C) where
  touched_before : touched_by touches V read ≡ true → touched_by touches (V ++ W) read ≡ true
  touched_before h = list_any-append (λ c. touches c read) V W ∙ ap (λ b. b || touched_by touches W read) h

  touched_after : touched_by touches W read ≡ true → touched_by touches (V ++ W) read ≡ true
  touched_after h = list_any-append (λ c. touches c read) V W ∙ ap (λ b. touched_by touches V read || b) h ∙ or_true (touched_by touches V read)

-- if no write touches a read, none is touched
none_touched_by : {C : Type 0} (touches : C → C → Bool) → NoneTouches touches → (W : List C) (call : C) → touched_by touches W call ≡ false
none_touched_by touches none [] call = refl
none_touched_by touches none (c ∷ W) call = ap (λ b. b || touched_by touches W call) (none c call) ∙ none_touched_by touches none W call

pub none_touched : {C R : Type 0} (touches : C → C → Bool) → NoneTouches touches → (W : List C) (P : List (C × R)) → touched touches W P ≡ false
none_touched touches none W [] = refl
none_touched touches none W (p ∷ P) = ap (λ b. b || touched touches W P) (none_touched_by touches none W p.0) ∙ none_touched touches none W P

-- and a recording isn't late
pub never_late : {C R : Type 0} (eq touches : C → C → Bool) → NoneTouches touches → (late : Bool) (W : List C) (P : List (C × R)) → (late ≡ true → TouchesHeld eq touches W P) → late ≡ false
never_late eq touches none true W P by = let k = by refl in let no : true ≡ false = sym k.2 ∙ none_touched_by touches none W k.0 in cc
never_late eq touches none false W P by = refl

-- so it stays early, whatever a recorder does
pub still_early : {V C R : Type 0} {did : V → V → List C → Type 0} {eq touches : C → C → Bool} {same : R → R → Bool} {answers : V → C → R} {s t : Lent V C R} → Goes did eq touches same answers s t → NoneTouches touches → s.recording.now.late ≡ false → t.recording.now.complete ≡ true → t.recording.now.late ≡ false
still_early {eq = eq} {touches} {t = t} goes none early complete = never_late eq touches none t.recording.now.late t.recording.now.writes t.recording.now.pairs (goes.late complete (record { touching = λ late. let no : false ≡ true = sym early ∙ late in cc })).touching

module _ {C R : Type 0} {eq : C → C → Bool} (calls : IsEquivalence eq) where
  held_first : (q : C × R) (P : List (C × R)) → held eq (q ∷ P) q.0 ≡ true
  held_first q P = rw (calls.refl q.0) refl

  held_more : (q : C × R) (P : List (C × R)) (call : C) → held eq P call ≡ true → held eq (q ∷ P) call ≡ true
  held_more q P call h = elim (cases_Bool (eq call q.0)) [ inl e ↦ rw e refl | inr e ↦ rw e h ]

  -- a read is held once it was taken
  pub held_now : (ps : List (C × R)) (q : C × R) → held eq (cond (held eq ps q.0) ps (ps ++ q ∷ [])) q.0 ≡ true
  held_now ps q =
      elim (cases_Bool (held eq ps q.0)) [
        | inl h ↦ rw h h
        | inr h ↦ rw h (held-push eq ps q.0 q.1 q.0 ∙ ap (λ b. held eq ps q.0 || b) (calls.refl q.0) ∙ or_true (held eq ps q.0))
      ]

  -- and so is one that equals it
  held_given : (ps P : List (C × R)) (call : C) → held eq P call ≡ true → held eq (absorbed eq ps P) call ≡ true
  held_given ps [] call h = let no : false ≡ true = h in cc
  held_given ps (q ∷ P) call h =
      elim (cases_Bool (eq call q.0)) [
        | inl e ↦ held-absorbed eq (cond (held eq ps q.0) ps (ps ++ q ∷ [])) P call (ap (λ o. is_some o) (lookup_congr eq calls.congr (cond (held eq ps q.0) ps (ps ++ q ∷ [])) call q.0 e) ∙ held_now ps q)
        | inr e ↦ held_given (cond (held eq ps q.0) ps (ps ++ q ∷ [])) P call (rw e at h)
      ]

  held_alike : (same : R → R → Bool) (P Q : List (C × R)) (call : C) → IsSamePath eq same P Q → held eq Q call ≡ true → held eq P call ≡ true
  held_alike same [] [] call s h = h
  held_alike same [] (q ∷ Q) call s h = absurd s
  held_alike same (p ∷ P) [] call s h = let no : false ≡ true = h in cc
  held_alike same (p ∷ P) (q ∷ Q) call s h =
      elim (cases_Bool (eq call p.0)) [
        | inl e ↦ rw e refl
        | inr e ↦
            let other : eq call q.0 ≡ false = elim (cases_Bool (eq call q.0)) [ inl f ↦ absurd (let no : false ≡ true = sym e ∙ joined calls call q.0 p.0 f (turned calls p.0 q.0 s.0) in cc) | inr f ↦ f ] in
            rw e (held_alike same P Q call s.2 (rw other at h))
      ]

  module _ (touches : C → C → Bool) where
    -- reads that equal those which are touched
    pub touches_alike : (same : R → R → Bool) (P Q : List (C × R)) (W : List C) → IsSamePath eq same P Q → TouchesHeld eq touches W Q → TouchesHeld eq touches W P
    touches_alike same P Q W s k = (k.0, held_alike same P Q k.0 s k.1, k.2)

    -- of the reads that writes touch, one
    touched_read : (W : List C) (P : List (C × R)) → touched touches W P ≡ true → TouchesHeld eq touches W P
    touched_read W [] h = let no : false ≡ true = h in cc
    touched_read W (p ∷ P) h =
        elim (cases_Bool (touched_by touches W p.0)) [
          | inl e ↦ (p.0, held_first p P, e)
          | inr e ↦ let more = touched_read W P (rw e at h) in (more.0, held_more p P more.0 more.1, more.2)
        ]

    module _ {s t : Recording C R} (P : List (C × R)) (W : List C) where
      -- a recording that took reads and writes
      pub took_late : Took eq touches s t P W → IsLateByTouch eq touches s → IsLateByTouch eq touches t
      took_late took before = record {
        touching = λ late. elim (cases_Bool s.late) [
          | inl e ↦
              let k = before.touching e in
              (k.0, subst (λ ps. held eq ps k.0 ≡ true) (sym took.pairs) (held-absorbed eq s.pairs P k.0 k.1), subst (λ ws. touched_by touches ws k.0 ≡ true) (sym took.writes) (touched_before touches s.writes W k.0 k.2))
          | inr e ↦
              let k = touched_read s.writes P (sym (ap (λ b. b || touched touches s.writes P) e) ∙ sym took.late ∙ late) in
              (k.0, subst (λ ps. held eq ps k.0 ≡ true) (sym took.pairs) (held_given s.pairs P k.0 k.1), subst (λ ws. touched_by touches ws k.0 ≡ true) (sym took.writes) (touched_before touches s.writes W k.0 k.2))
        ];
      }

      -- a recording that took those of a late run
      pub marked_late : TookAs (Took eq touches) MarkedLate true s t P W → TouchesHeld eq touches W P → IsLateByTouch eq touches t
      marked_late took k = record { touching = λ late. (k.0, subst (λ ps. held eq ps k.0 ≡ true) (sym (took.2.pairs ∙ took.1.pairs)) (held_given s.pairs P k.0 k.1), subst (λ ws. touched_by touches ws k.0 ≡ true) (sym (took.2.writes ∙ took.1.writes)) (touched_after touches s.writes W k.0 k.2)) }

-- what is touched in a part is touched in the whole
module _ {C D R Q : Type 0} (eq touching : C → C → Bool) (eqd touches : D → D → Bool) (f : C → D) (g : R → Q) (apart : (x y : C) → eqd (f x) (f y) ≡ eq x y) (same_touch : (x y : C) → touches (f x) (f y) ≡ touching x y) where
  touched_mapped : (W : List C) (read : C) → touched_by touches (map f W) (f read) ≡ touched_by touching W read
  touched_mapped [] read = refl
  touched_mapped (c ∷ W) read = ap (λ b. b || touched_by touches (map f W) (f read)) (same_touch c read) ∙ ap (λ b. touching c read || b) (touched_mapped W read)

  pub touches_mapped : (W : List C) (P : List (C × R)) → TouchesHeld eq touching W P → TouchesHeld eqd touches (map f W) (mapped_pairs f g P)
  touches_mapped W P k = (f k.0, held-mapped eq eqd f g apart P k.0 ∙ k.1, touched_mapped W k.0 ∙ k.2)

-- and equal pairs of a part are equal in the whole
pub path_mapped : {C D R Q : Type 0} (eq : C → C → Bool) (same : R → R → Bool) (eqd : D → D → Bool) (like : Q → Q → Bool) (f : C → D) (g : R → Q) → ((x y : C) → eqd (f x) (f y) ≡ eq x y) → ((x y : R) → like (g x) (g y) ≡ same x y) → (P O : List (C × R)) → IsSamePath eq same P O → IsSamePath eqd like (mapped_pairs f g P) (mapped_pairs f g O)
path_mapped eq same eqd like f g apart answers_apart [] [] s = tt
path_mapped eq same eqd like f g apart answers_apart [] (q ∷ O) s = absurd s
path_mapped eq same eqd like f g apart answers_apart (p ∷ P) [] s = absurd s
path_mapped eq same eqd like f g apart answers_apart (p ∷ P) (q ∷ O) s = (apart p.0 q.0 ∙ s.0, answers_apart p.1 q.1 ∙ s.1, path_mapped eq same eqd like f g apart answers_apart P O s.2)
