-- For a caller of `size`: a stored size is found again, as long as the text at the path is the same.
use Rattle.std.proofs.Common.{◌≡◌, ◌≢◌, ◌∙◌, Bool, not, ℕ, List, [], ◌∷◌, ◌++◌, IsTrue, is_some, String, string_bytes, string_eq, refl, sym, subst, inl, inr, rules}
use Rattle.std.specs.Prelude.{bytes_eq, if◌then◌else◌}
use Rattle.std.specs.Bool.{⊤}
use Rattle.std.specs.Cmp.{IsEquivalence}
use Rattle.std.specs.Global.{Global}
use Rattle.std.specs.List.{Contains, filter}
use Rattle.std.specs.Map.{lookup}
use Rattle.std.proofs.lemmas.Bool.{cases_Bool}
use Rattle.std.proofs.lemmas.List.Elements.{All-contains, All-contains_itself, All-head}
use Rattle.std.proofs.lemmas.List.Sorted.{Contains-permutation}
use Rattle.comemo.specs.Answers.{Respects, Agrees}
use Rattle.comemo.specs.Insertion.{Has, AllAmong, IsNewPath, outside}
use Rattle.comemo.specs.Lookup.{under}
use Rattle.comemo.specs.Tree.{Stored, stored}
use Rattle.comemo.proofs.Paths.{joined}
use Rattle.comemo.proofs.Under.{All-from_under}
use Rattle.comemo.specs.Cache.{Kept}
use Rattle.comemo.specs.Finish.{Ends}
use Rattle.comemo.specs.Storing.{Stores}
use Rattle.comemo.specs.Meaning.{Run, run}
use Rattle.comemo.specs.Multi.{second_call, second_answer}
use Rattle.comemo.specs.declared.pending.How.TheVariants as how
use Rattle.comemo.specs.declared.pending.Reply.{Reply}
use Rattle.comemo.proofs.KeyedViews.{keyed_calls, keyed_answers}
use Rattle.calc_core.specs.declared.files.Files.{Files}
use Rattle.calc_core.specs.declared.files.FileCall.TheVariants.{Read}
use Rattle.calc_core.specs.Files.{JoinedCall, JoinedAnswer, text_at, answers_of, with_key}
use Rattle.calc_core.specs.Joined.{same_answer, same_key}
use Rattle.calc_core.specs.Size.{Sizes, sizing, SizeReply}
use Rattle.calc_core.proofs.WhatReadsTell.{files_respect}
use Rattle.calc_core.proofs.FileCalls.{key_bytes, key_alike}
use Rattle.calc_core.proofs.JoinedCalls.{tests}

module _ {C R : Type 0} {eq : C → C → Bool} {same : R → R → Bool} (calls : IsEquivalence eq) (answers : IsEquivalence same) (m : C → R) (respects : Respects eq same m) where
  -- answers that agree with a sequence agree with each pair that it has
  agrees_has : (s : List (C × R)) (p : C × R) → Agrees same m s → Has eq same s p → IsTrue (same (m p.0) p.1)
  agrees_has [] p a h = absurd h
  agrees_has (q ∷ s) p a h =
      elim (cases_Bool (eq p.0 q.0)) [
        | inl e ↦ joined answers (m p.0) q.1 p.1 (joined answers (m p.0) (m q.0) q.1 (respects p.0 q.0 e) a.0) (rw e at h)
        | inr e ↦ agrees_has s p a.1 (rw e at h)
      ]

  agrees_among : (s front : List (C × R)) → Agrees same m s → AllAmong eq same s front → Agrees same m front
  agrees_among s [] a h = tt
  agrees_among s (p ∷ front) a h = (agrees_has s p a h.0, agrees_among s front a h.1)

  agrees_filter : (test : C × R → Bool) (s : List (C × R)) → Agrees same m s → Agrees same m (filter test s)
  agrees_filter test [] a = tt
  agrees_filter test (p ∷ s) a =
      elim (cases_Bool (test p)) [ inl e ↦ rw e (a.0, agrees_filter test s a.1) | inr e ↦ rw e (agrees_filter test s a.1) ]

  agrees_both : (ps qs : List (C × R)) → Agrees same m ps → Agrees same m qs → Agrees same m (ps ++ qs)
  agrees_both [] qs a b = b
  agrees_both (p ∷ ps) qs a b = (a.0, agrees_both ps qs a.1 b)

  -- answers that agree with a sequence agree with the path that is stored for it
  pub agrees_stored : {K T : Type 0} (us : List (Stored K C R T)) (s path : List (C × R)) → IsNewPath eq same us s path → Agrees same m s → Agrees same m path
  agrees_stored us s path n a =
      let front : Agrees same m n.0 = elim n.1 [ inl none ↦ subst (λ ps. Agrees same m ps) (sym none.1) tt | inr some ↦ agrees_among s n.0 a some.0 ] in
      subst (λ ps. Agrees same m ps) (sym n.2) (agrees_both n.0 (outside eq n.0 s) front (agrees_filter (λ p. not (is_some (lookup (eq p.0) n.0))) s a))

-- the same read has the same answer if the text at its path is the same
read_again : (files files' : Files) (path : List ℕ) (own : String Global) (text : List ℕ) → string_bytes own ≡ path → text_at files' path ≡ text_at files path → (pairs : List (JoinedCall × JoinedAnswer)) → pairs ≡ (second_call (Read own), second_answer text) ∷ [] → Agrees same_answer (with_key (answers_of files)) pairs → Agrees same_answer (with_key (answers_of files')) pairs
read_again files files' path own text named stays pairs alone agrees =
    let there : text_at files' (string_bytes own) ≡ text_at files (string_bytes own) = subst (λ p. text_at files' p ≡ text_at files p) (sym named) stays in
    let was : Agrees same_answer (with_key (answers_of files)) ((second_call (Read own), second_answer text) ∷ []) = subst (λ ps. Agrees same_answer (with_key (answers_of files)) ps) alone agrees in
    subst (λ ps. Agrees same_answer (with_key (answers_of files')) ps) (sym alone) (subst (λ t. IsTrue (bytes_eq t text)) (sym there) was.0, tt)

-- what was stored is found
pub stored_is_found : {files files' : Files} {path : List ℕ} {es mid es' : Sizes} {sent sent' : List (JoinedCall × JoinedAnswer) → List JoinedCall → Type 0} {first second : Reply ℕ} → SizeReply files path es sent first mid → first.how ≡ how.Stored → text_at files' path ≡ text_at files path → SizeReply files' path mid sent' second es' → second.how ≡ how.Hit
stored_is_found {files = files} {files' = files'} {path = path} {es = es} {mid = mid} {first = first} {second = second} a was stays b =
    let p = a.is_reply in
    let q = b.is_reply in
    elim q.came [
      | inl hit ↦ hit.0
      | inr missed ↦
          elim p.came [
            | inl hit ↦ let never : how.Hit ≡ how.Stored = sym hit.0 ∙ was in cc
            | inr ran ↦
                let entry : Run (String Global × ⊤) JoinedCall JoinedAnswer ℕ = record (run (a.key, tt) p.pairs first.output p.writes) { key = ran.own } in
                let (not_there, not_missing, stores) : Stores sizing es entry mid = subst (λ h. Ends sizing es entry h mid) was ran.ends in
                let (own, text, named, alone) = a.asks (λ is. let never : how.Hit ≡ how.Stored = sym is ∙ was in cc) in
                let agrees = read_again files files' path own text named stays p.pairs alone p.agrees in
                let adds = stores.adds in
                let found = agrees_stored (keyed_calls tests) (keyed_answers tests) (with_key (answers_of files')) (files_respect files') (under (same_key string_eq) es ran.own) p.pairs adds.path adds.is_new agrees in
                let new : Stored (String Global × ⊤) JoinedCall JoinedAnswer (Kept ℕ JoinedCall) = stored adds.own adds.path stores.kept in
                let here : Contains mid new = Contains-permutation (new ∷ es) mid new adds.entries (All-head (Contains (new ∷ es)) new es (All-contains_itself (new ∷ es))) in
                let none = All-from_under (same_key string_eq) mid (b.key, tt) (λ e. ¬ Agrees same_answer (with_key (answers_of files')) e.path) (missed.none refl) in
                let alike : IsTrue (same_key string_eq adds.own (b.key, tt)) = key_alike adds.own.0 b.key (key_bytes adds.own.0 ran.own.0 adds.is_key ∙ sym (key_bytes a.key ran.own.0 ran.has_key) ∙ a.names ∙ sym b.names) in
                absurd (All-contains (λ e. IsTrue (same_key string_eq e.key (b.key, tt)) → ¬ Agrees same_answer (with_key (answers_of files')) e.path) mid new none here alike found)
          ]
    ]

-- the text at a path is unchanged if a text is written to another path
pub text_stays : (files files' : Files) (path : List ℕ) (other text : String Global) → string_bytes other ≢ path → ((q : List ℕ) → text_at files' q ≡ (if bytes_eq q (string_bytes other) then string_bytes text else text_at files q)) → text_at files' path ≡ text_at files path
text_stays files files' path other text apart wrote =
    elim (cases_Bool (bytes_eq path (string_bytes other))) [
      | inl e ↦ let same : path ≡ string_bytes other = search (rules, e) in absurd (apart (sym same))
      | inr e ↦ rw e at (wrote path)
    ]
