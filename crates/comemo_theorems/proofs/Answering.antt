-- Requests in turn as a history.
use Rattle.std.proofs.Common.{◌≡◌, ◌∙◌, ◌⊎◌, ℕ, Bool, true, false, List, [], ◌∷◌, ◌++◌, refl, sym, ap, subst, inl, inr, append_assoc, append-nil}
use Rattle.std.proofs.lemmas.List.Elements.{All-nil, All-head, All-tail, All-cons, All-append}
use Rattle.std.specs.List.{All, AllZip}
use Rattle.comemo_base.specs.Answers.{Respects}
use Rattle.comemo_cache.specs.Meaning.{Meaning, Invocation, invocation}
use Rattle.comemo_cache.specs.Cache.{Entries, Evicts}
use Rattle.comemo.specs.Begin.{Reaches}
use Rattle.comemo.specs.Called.{IsReply, IsLate}
use Rattle.comemo.specs.FunctionMut.{FailsBy}
use Rattle.comemo.specs.declared.pending.Reply.{Reply}
use Rattle.comemo.specs.declared.pending.Fault.{Fault}
use Rattle.comemo_theorems.specs.History.{Step, found, touched, missed, ended, evicted, History, Honest, Right}
use Rattle.comemo_theorems.specs.Requests.{InTurn, IsAnswer, IsRightAnswer, IsAnswerMut}
use Rattle.comemo_theorems.specs.declared.requests.Request.{Request}
use Rattle.comemo_theorems.specs.declared.requests.Request.TheVariants.{Call, Evict}
use Rattle.comemo_theorems.specs.declared.requests.Event.{Event}
use Rattle.comemo_theorems.specs.declared.requests.Event.TheVariants.{Replied, Failed, Evicted}
use Rattle.comemo_theorems.proofs.Lawful.{IsLawful}
use Rattle.comemo_theorems.proofs.Steps.{history_append}
use Rattle.comemo_theorems.proofs.Sound.{never_stale}
use Rattle.comemo_theorems.proofs.Calls.{as_plain_list, never_late, faults_keep}

all_both : {X : Type 0} (P : X → Type 0) (xs ys : List X) → All P (xs ++ ys) → All P xs × All P ys
all_both P [] ys h = (All-nil P, h)
all_both P (x ∷ xs) ys h = let r = all_both P xs ys (All-tail P x (xs ++ ys) h) in (All-cons P x xs (All-head P x (xs ++ ys) h) r.0, r.1)

-- Requests of any kind, which lead to events of any kind by steps of a history.
module _ {Q E V K C R O : Type 0} (M : Meaning K C R O) (goes : Q → E → V → V → List (Step K C R O) → Type 0) where
  in_turn_more : (qs : List Q) (events : List E) (q : Q) (e : E) (v w x : V) (h own : List (Step K C R O)) → InTurn goes qs events v w h → goes q e w x own → InTurn goes (qs ++ q ∷ []) (events ++ e ∷ []) v x (h ++ own)
  in_turn_more [] [] q e v w x h own (same, none) is = (x, own, [], ap (λ z. z ++ own) none ∙ sym (append-nil own), subst (λ y. goes q e y x own) same is, (refl, refl))
  in_turn_more [] (y ∷ events) q e v w x h own none is = absurd none
  in_turn_more (r ∷ qs) [] q e v w x h own none is = absurd none
  in_turn_more (r ∷ qs) (y ∷ events) q e v w x h own (u, a, later, parts, one, rest) is =
      (u, a, later ++ own, ap (λ z. z ++ own) parts ∙ append_assoc a later own, one, in_turn_more qs events q e u w x later own rest is)

  -- one request went so
  abbrev pub Went : Q → E → V → V → Entries K C R O → Entries K C R O → Type 0
  Went q e v w es es' = (own : List (Step K C R O)) × goes q e v w own × History M own es es' × All (Honest M) own

  -- of all requests a prefix was answered, from the value v and the entries es, which are now w and es', with these events;
  -- these are left
  pub record Answered (all left : List Q) (v : V) (es : Entries K C R O) (events : List E) (w : V) (es' : Entries K C R O) : Type 0 where
    pub prefix : List Q
    pub parts : all ≡ prefix ++ left
    pub steps : List (Step K C R O)
    pub are : InTurn goes prefix events v w steps
    pub history : History M steps es es'
    pub honest : All (Honest M) steps

  pub one_more : (all old new : List Q) (q : Q) (v w x : V) (es mid es' : Entries K C R O) (before events : List E) (e : E) → old ≡ q ∷ new → events ≡ before ++ e ∷ [] → Went q e w x mid es' → Answered all old v es before w mid → Answered all new v es events x es'
  one_more all old new q v w x es mid es' before events e step complete went so = record {
    prefix = so.prefix ++ q ∷ [];
    parts = so.parts ∙ ap (λ qs. so.prefix ++ qs) step ∙ sym (append_assoc so.prefix (q ∷ []) new);
    steps = so.steps ++ went.0;
    are = subst (λ xs. InTurn goes (so.prefix ++ q ∷ []) xs v x (so.steps ++ went.0)) (sym complete) (in_turn_more so.prefix before q e v w x so.steps went.0 so.are went.1);
    history = history_append M so.steps went.0 es mid es' so.history went.2;
    honest = All-append (Honest M) so.steps went.0 so.honest went.3;
  }

  abbrev pub AllAnswered : List Q → List E → V → V → Entries K C R O → Entries K C R O → Type 0
  AllAnswered all events v w es es' = (h : List (Step K C R O)) × InTurn goes all events v w h × History M h es es' × All (Honest M) h

  pub all_done : (all left : List Q) (v w : V) (es es' : Entries K C R O) (events : List E) → left ≡ [] → Answered all left v es events w es' → AllAnswered all events v w es es'
  all_done all left v w es es' events none so =
      let is : all ≡ so.prefix = so.parts ∙ ap (λ qs. so.prefix ++ qs) none ∙ append-nil so.prefix in
      (so.steps, subst (λ qs. InTurn goes qs events v w so.steps) (sym is) so.are, so.history, so.honest)

-- Requests to a function that reads.
module _ {K C R O T : Type 0} (M : Meaning K C R O) (answers : T → C → R) where
  abbrev pub Reads : Request K T → Event O → Unit {0} → Unit {0} → List (Step K C R O) → Type 0
  Reads r e _ _ own = IsAnswer M answers r e own

  pub called : (laws : IsLawful M) (sent : List (C × R) → List C → Type 0) (key : K) (of : T) (es es' : Entries K C R O) (reply : Reply O) → Respects M.same_call M.same_answer (answers of) → IsReply M (invocation key (answers of) true) es es sent reply es' → Went M Reads (Call key of) (Replied reply) tt tt es es'
  called laws sent key of es es' reply alike is =
      let g = (as_plain_list M laws (λ _ _. false) (λ _. sent) (invocation key (answers of) true) [] es es es' reply (inl is) alike refl (All-nil (Honest M))).0 in
      (g.1, (g.0, g.3, never_late M laws (λ _ _. false) (λ _. sent) (invocation key (answers of) true) [] es es es' reply is), g.6, g.7)

  pub failed : (key : K) (of : T) (fault : Fault) (es es' : Entries K C R O) → es' ≡ es → Went M Reads (Call key of) (Failed fault) tt tt es es'
  failed key of fault es es' is = ([], refl, is, All-nil (Honest M))

  pub evicts : (bound : ℕ) (es es' : Entries K C R O) → Evicts bound es es' → Went M Reads (Evict bound) Evicted tt tt es es'
  evicts bound es es' does = (evicted bound ∷ [], refl, (es', does, refl), All-cons (Honest M) (evicted bound) [] tt (All-nil (Honest M)))

  right_answer : (r : Request K T) (e : Event O) (own : List (Step K C R O)) → ((of : T) → Respects M.same_call M.same_answer (answers of)) → IsAnswer M answers r e own → All (Right M) own → IsRightAnswer M answers r e
  right_answer (Call key of) (Replied reply) own alike (ran, is, early) right =
      let call : Invocation K C R = invocation key (answers of) true in
      elim is.1 [
        | inl hit ↦
            let own_right = All-head (Right M) (found call ran) (touched call ∷ []) (subst (λ h. All (Right M) h) hit.1 right) in
            (ran.writes, subst (λ o. M.right key (answers of) o ran.writes) is.0 (own_right (alike of)))
        | inr by ↦
            let rest = All-tail (Right M) (missed call) (ended call ran reply.how ∷ []) (subst (λ h. All (Right M) h) by.1 right) in
            let own_right = All-head (Right M) (ended call ran reply.how) [] rest early in
            (ran.writes, subst (λ o. M.right key (answers of) o ran.writes) is.0 own_right)
      ]
  right_answer (Call key of) (Failed fault) own alike is right = tt
  right_answer (Call key of) Evicted own alike is right = tt
  right_answer (Evict bound) (Replied reply) own alike is right = tt
  right_answer (Evict bound) (Failed fault) own alike is right = tt
  right_answer (Evict bound) Evicted own alike is right = tt

  right_answers : (rs : List (Request K T)) (events : List (Event O)) (v w : Unit {0}) (h : List (Step K C R O)) → ((of : T) → Respects M.same_call M.same_answer (answers of)) → InTurn Reads rs events v w h → All (Right M) h → AllZip (IsRightAnswer M answers) rs events
  right_answers [] [] v w h alike are right = tt
  right_answers [] (e ∷ events) v w h alike are right = absurd are
  right_answers (r ∷ rs) [] v w h alike are right = absurd are
  right_answers (r ∷ rs) (e ∷ events) v w h alike (u, own, later, parts, one, rest) right =
      let both = all_both (Right M) own later (subst (λ x. All (Right M) x) parts right) in
      (right_answer r e own alike one both.0, right_answers rs events u w later alike rest both.1)

  pub all_right : (laws : IsLawful M) (rs : List (Request K T)) (events : List (Event O)) (es es' : Entries K C R O) → ((of : T) → Respects M.same_call M.same_answer (answers of)) → es ≡ [] → AllAnswered M Reads rs events tt tt es es' → AllZip (IsRightAnswer M answers) rs events
  all_right laws rs events es es' alike none (h, are, goes, honest) =
      right_answers rs events tt tt h alike are (never_stale M laws h es' (subst (λ x. History M h x es') none goes) honest)

-- Requests to a function that writes.
module _ {K C R O V : Type 0} (M : Meaning K C R O) (answers : V → C → R) (did : V → V → List C → Type 0) where
  abbrev pub Writes : Request K (Unit {0}) → Event O → V → V → List (Step K C R O) → Type 0
  Writes = IsAnswerMut {T = Unit {0}} M answers did

  abbrev Took : (early late : List (C × R) → List C → Type 0) → Bool → List (C × R) → List C → Type 0
  Took early late false = early
  Took early late true = late

  pub called_mut : (laws : IsLawful M) (touches : C → C → Bool) {early late : List (C × R) → List C → Type 0} (key : K) (of : Unit {0}) (v w : V) (es es' : Entries K C R O) (reply : Reply O) → Respects M.same_call M.same_answer (answers v) → IsReply M (invocation key (answers v) true) es es (λ P W. early P W × did v w W) reply es' ⊎ IsLate M (invocation key (answers v) true) touches es es (λ P W. late P W × did v w W) reply es' → Went M Writes (Call key of) (Replied reply) v w es es'
  called_mut laws touches {early} {late} key of v w es es' reply alike is =
      let g = (as_plain_list M laws touches (λ b P W. Took early late b P W × did v w W) (invocation key (answers v) true) [] es es es' reply is alike refl (All-nil (Honest M))).0 in
      (g.1, (g.0, g.3, g.5.are_sent.1), g.6, g.7)

  pub failed_mut : (spoils : Type 0) (spoiled : List (C × R) → List C → Type 0) (key : K) (of : Unit {0}) (fault : Fault) (v w : V) (es es' : Entries K C R O) → Reaches did v w → FailsBy M es (invocation key (answers v) true) (did v w) spoils spoiled fault es' → Went M Writes (Call key of) (Failed fault) v w es es'
  failed_mut spoils spoiled key of fault v w es es' reached fails =
      elim (faults_keep M (did v w) spoils spoiled (invocation key (answers v) true) es es' fault fails) [
        | inl same ↦ ([], (reached, inl refl), same.0, All-nil (Honest M))
        | inr stopped ↦
            let call : Invocation K C R = invocation key (answers v) true in
            (found call stopped.1 ∷ touched call ∷ [], (reached, inr (stopped.1, refl)), stopped.7, All-cons (Honest M) (found call stopped.1) (touched call ∷ []) tt (All-cons (Honest M) (touched call) [] tt (All-nil (Honest M))))
      ]

  pub evicts_mut : (bound : ℕ) (v : V) (es es' : Entries K C R O) → Evicts bound es es' → Went M Writes (Evict bound) Evicted v v es es'
  evicts_mut bound v es es' does = (evicted bound ∷ [], (refl, refl), (es', does, refl), All-cons (Honest M) (evicted bound) [] tt (All-nil (Honest M)))
