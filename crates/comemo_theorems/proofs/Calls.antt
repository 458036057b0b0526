-- Calls as steps, and what a call that failed left.
use Rattle.std.proofs.Common.{◌≡◌, ◌∙◌, Bool, true, false, List, [], ◌∷◌, ◌++◌, Some, None, IsTrue, refl, sym, subst, inl, inr, ◌⊎◌}
use Rattle.std.proofs.lemmas.List.Elements.{All-nil, All-cons, All-append}
use Rattle.std.specs.Prelude.{◌↔◌}
use Rattle.std.specs.List.{All}
use Rattle.comemo_base.specs.Answers.{Respects}
use Rattle.comemo_base.proofs.Under.{Any-weaker, Any-from_under}
use Rattle.comemo_cache.specs.Meaning.{Meaning, Invocation, Run, run, IsNamed}
use Rattle.comemo_cache.specs.Cache.{Entries, HasNone, IsEntryOf}
use Rattle.comemo.specs.Begin.{came_to}
use Rattle.comemo.specs.Called.{IsReply, IsReplyMut}
use Rattle.comemo.specs.FunctionMut.{FailsBy}
use Rattle.comemo.specs.Finish.{Ends, Gives}
use Rattle.comemo.specs.declared.pending.Fault.{Fault}
use Rattle.comemo.specs.declared.pending.Fault.TheVariants as fault
use Rattle.comemo.specs.declared.pending.Reply.{Reply}
use Rattle.comemo.specs.declared.pending.How.TheVariants as how
use Rattle.comemo_theorems.specs.History.{Step, found, touched, missed, ended, Does, History, Answers, Honest}
use Rattle.comemo_theorems.specs.Statements.{NothingLost, IsCall, AsPlainList, ByHand, FaultsKeep, FaultsSpread, ThroughAnyHolder, FaultsThroughAnyHolder}
use Rattle.comemo_theorems.proofs.Lawful.{IsLawful}
use Rattle.comemo_theorems.proofs.Steps.{history_append}
use Rattle.comemo_theorems.proofs.Again.{OfEntry, not_none}

module _ {K C R O : Type 0} (M : Meaning K C R O) where
  -- A call that was no hit, as steps.
  abbrev pub Runs : Invocation K C R → List (Step K C R O) → Entries K C R O → Entries K C R O → Run K C R O → Reply O → Type 0
  Runs call inner es es' ran reply =
      History M (missed call ∷ inner ++ ended call ran reply.how ∷ []) es es' × All (Honest M) (missed call ∷ inner ++ ended call ran reply.how ∷ [])

  pub runs : (call : Invocation K C R) (inner : List (Step K C R O)) (es mid es' : Entries K C R O) (ran : Run K C R O) (reply : Reply O) → (call.enabled ≡ true → HasNone M es call) → History M inner es mid → All (Honest M) inner → Ends M mid ran reply.how es' → ((reply.how ≡ how.Late → ⊥) → Answers M call ran) → Runs call inner es es' ran reply
  runs call inner es mid es' ran reply none goes honest ends own =
      let last : List (Step K C R O) = ended call ran reply.how ∷ [] in
      ((es, (none, refl), history_append M inner last es mid es' goes (es', ends, refl)), All-cons (Honest M) (missed call) (inner ++ last) tt (All-append (Honest M) inner last honest (All-cons (Honest M) (ended call ran reply.how) [] own (All-nil (Honest M)))))

  -- A begin and a finish by hand.
  pub by_hand : (sent : List (C × R) → List C → Type 0) → ByHand M sent
  by_hand sent call inner es mid es' begun pending output reply is goes done =
      (es, (is.none, refl), history_append M inner (ended call (came_to pending output) reply.how ∷ []) es mid es' goes (es', done.ends, refl))

  -- Faults.
  pub faults_keep : (done : List C → Type 0) (spoils : Type 0) (spoiled : List (C × R) → List C → Type 0) → FaultsKeep M done spoils spoiled
  faults_keep done spoils spoiled call es es' f (inl unbegun) = elim unbegun.1 [ inl memory ↦ inl (unbegun.0, inl memory.1) | inr due ↦ inl (unbegun.0, inr due.0) ]
  faults_keep done spoils spoiled call es es' f (inr write) =
      let stopped = write.1.1 in
      let ran : Run K C R O = run call.key stopped.pairs stopped.output (stopped.prefix ++ stopped.next ∷ stopped.rest) in
      inr (write.0, ran, stopped.prefix, stopped.next ∷ stopped.rest, refl, stopped.are_done, stopped.is_spoiled, (es, (stopped.kept, refl), (es', inl write.1.0, refl)))

  pub faults_spread : (touches : C → C → Bool) (sent : List (C × R) → List C → Type 0) → FaultsSpread M touches sent
  faults_spread touches sent before failed around pairs more writes after broken took es es' output reply finished =
      let is : failed.complete ≡ false = elim broken [ inl b ↦ b.spoiled.complete | inr b ↦ b.spoiled.complete ] in
      let f : false ≡ true = sym is ∙ sym took.complete ∙ finished.complete in
      cc

module _ {K C R O : Type 0} (M : Meaning K C R O) (laws : IsLawful M) where
  -- Nothing is lost.
  lost : (call : Invocation K C R) (ran : Run K C R O) (es es' : Entries K C R O) → IsNamed M → (s : Step K C R O) → Does M s es es' → s ≡ ended call ran how.MissingCall → ⊥
  lost call ran es es' named s does is = let ends : Ends M es ran how.MissingCall es' = subst (λ t. Does M t es es') is does in ends.0 named

  abbrev IsNotLost : Step K C R O → Type 0
  IsNotLost s = (call : Invocation K C R) (ran : Run K C R O) → s ≡ ended call ran how.MissingCall → ⊥

  pub nothing_lost : NothingLost M
  nothing_lost named [] es es' is = All-nil IsNotLost
  nothing_lost named (s ∷ h) es es' (mid, does, rest) = All-cons IsNotLost s h (λ call ran. lost call ran es mid named s does) (nothing_lost named h mid es' rest)

  -- A reply as steps.
  module _ (touches : C → C → Bool) (sent : Bool → List (C × R) → List C → Type 0) (call : Invocation K C R) (inner : List (Step K C R O)) (es mid es' : Entries K C R O) (reply : Reply O) where
    abbrev Goes : Type 0
    Goes = (ran : Run K C R O) × (steps : List (Step K C R O)) × (late : Bool) × IsCall M call inner reply ran steps × ((reply.how ≡ how.Late) ↔ (late ≡ true)) × Gives M (sent late) ran.pairs ran.writes × History M steps es es' × All (Honest M) steps

    pub never_late : IsReply M call es mid (sent false) reply es' → reply.how ≡ how.Late → ⊥
    never_late is late = elim is.came [ inl hit ↦ let f : how.Hit ≡ how.Late = sym hit.0 ∙ late in cc | inr by ↦ by.early late ]

    not_late : IsReply M call es mid (sent false) reply es' → (reply.how ≡ how.Late) ↔ (false ≡ true)
    not_late is = (λ late. absurd (never_late is late), λ f. cc)

    reply_goes : IsReply M call es mid (sent false) reply es' → Respects M.same_call M.same_answer call.answers → History M inner es mid → All (Honest M) inner → Goes
    reply_goes is alike goes honest = elim is.came [
      | inl hit ↦
          let ran : Run K C R O = run call.key is.pairs reply.output is.writes in
          (ran, found call ran ∷ touched call ∷ [], false, (refl, inl (hit.0, refl)), not_late is, is.gives, (es, (hit.1.kept, refl), (es', inl hit.1.touched, refl)), All-cons (Honest M) (found call ran) (touched call ∷ []) tt (All-cons (Honest M) (touched call) [] tt (All-nil (Honest M))))
      | inr by ↦
          let ran : Run K C R O = run by.own is.pairs reply.output is.writes in
          let answers : Answers M call ran = record {
            alike = alike;
            has_key = by.has_key;
            agrees = is.agrees;
            stands = λ m r a. laws.by_key call.key by.own m reply.output is.writes r by.has_key (is.stands m r a);
          } in
          let not_hit : reply.how ≡ how.Hit → ⊥ = λ hit. subst (λ h. Ends M mid ran h es') hit by.ends in
          let steps = runs M call inner es mid es' ran reply by.none goes honest by.ends (λ _. answers) in
          (ran, missed call ∷ inner ++ ended call ran reply.how ∷ [], false, (refl, inr (not_hit, refl)), not_late is, is.gives, steps.0, steps.1)
    ]

    reply_mut_goes : IsReplyMut M call touches es mid sent reply es' → Respects M.same_call M.same_answer call.answers → History M inner es mid → All (Honest M) inner → Goes
    reply_mut_goes (inl is) alike goes honest = reply_goes is alike goes honest
    reply_mut_goes (inr is) alike goes honest =
        let ran : Run K C R O = run call.key is.pairs reply.output is.writes in
        let not_hit : reply.how ≡ how.Hit → ⊥ = λ hit. let f : how.Late ≡ how.Hit = sym is.is_late ∙ hit in cc in
        let ends : Ends M mid ran reply.how es' = subst (λ h. Ends M mid ran h es') (sym is.is_late) is.same in
        let steps = runs M call inner es mid es' ran reply is.none goes honest ends (λ early. absurd (early is.is_late)) in
        (ran, missed call ∷ inner ++ ended call ran reply.how ∷ [], true, (refl, inr (not_hit, refl)), (λ _. refl, λ _. is.is_late), is.gives, steps.0, steps.1)

    hit_exactly : IsReplyMut M call touches es mid sent reply es' → call.enabled ≡ true → (reply.how ≡ how.Hit) ↔ (¬ HasNone M es call)
    hit_exactly (inl is) enabled = (
      λ is_hit. elim is.came [
        | inl hit ↦
            let ran : Run K C R O = run call.key is.pairs reply.output is.writes in
            let some = Any-from_under M.same_key es call.key (IsEntryOf M call.answers ran) hit.1.kept in
            not_none M laws es call (Any-weaker (λ e. IsTrue (M.same_key e.key call.key) × IsEntryOf M call.answers ran e) (OfEntry M laws call.key call.answers) (λ e a. (a.0, a.1.0)) es some)
        | inr by ↦ absurd (subst (λ h. Ends M mid (run by.own is.pairs reply.output is.writes) h es') is_hit by.ends)
      ],
      λ some. elim is.came [ inl hit ↦ hit.0 | inr by ↦ absurd (some (by.none enabled)) ],
    )
    hit_exactly (inr is) enabled = (λ is_hit. let f : how.Late ≡ how.Hit = sym is.is_late ∙ is_hit in cc, λ some. absurd (some (is.none enabled)))

  pub as_plain_list : (touches : C → C → Bool) (sent : Bool → List (C × R) → List C → Type 0) → AsPlainList M touches sent
  as_plain_list touches sent call inner es mid es' reply is alike goes honest =
      (reply_mut_goes touches sent call inner es mid es' reply is alike goes honest, hit_exactly touches sent call inner es mid es' reply is)

  -- Through any holder.
  replied : (sent : List (C × R) → List C → Type 0) (call : Invocation K C R) (es mid es' : Entries K C R O) (reply : Reply O) → IsReply M call es mid sent reply es' → Respects M.same_call M.same_answer call.answers → (ran : Run K C R O) × (ran.output ≡ reply.output) × Answers M call ran × M.right call.key call.answers ran.output ran.writes × Gives M sent ran.pairs ran.writes
  replied sent call es mid es' reply is alike =
      let ran : Run K C R O = run call.key is.pairs reply.output is.writes in
      let answers : Answers M call ran = record { alike = alike; has_key = laws.keys.refl call.key; agrees = is.agrees; stands = is.stands } in
      (ran, refl, answers, is.stands call.answers alike is.agrees, is.gives)

  replied_mut : (touches : C → C → Bool) (sent : Bool → List (C × R) → List C → Type 0) (call : Invocation K C R) (es mid es' : Entries K C R O) (reply : Reply O) → IsReplyMut M call touches es mid sent reply es' → Respects M.same_call M.same_answer call.answers → (reply.how ≡ how.Late → ⊥) → (ran : Run K C R O) × (ran.output ≡ reply.output) × Answers M call ran × M.right call.key call.answers ran.output ran.writes × Gives M (sent false) ran.pairs ran.writes
  replied_mut touches sent call es mid es' reply (inl is) alike early = replied (sent false) call es mid es' reply is alike
  replied_mut touches sent call es mid es' reply (inr late) alike early = absurd (early late.is_late)

  pub through_any_holder : (touches : C → C → Bool) (sent : Bool → List (C × R) → List C → Type 0) → ThroughAnyHolder M touches sent
  through_any_holder touches sent call (Some es) (Some es') reply is alike early = replied_mut touches sent call es es es' reply is alike early
  through_any_holder touches sent call (Some es) None reply is alike early = replied_mut touches sent call is.0 is.1 is.2 reply is.3 alike early
  through_any_holder touches sent call None after reply is alike early = replied_mut touches sent call is.0 is.1 is.2 reply is.3 alike early

  -- a fault without its entries
  abbrev Fails : (List C → Type 0) → Type 0 → (List (C × R) → List C → Type 0) → Invocation K C R → Fault → Type 0
  Fails done spoils spoiled call f =
      (f ≡ fault.Memory) ⊎ spoils ⊎ ((f ≡ fault.Write) × (ran : Run K C R O) × (first rest : List C) × (ran.writes ≡ first ++ rest) × Answers M call ran × done first × spoiled ran.pairs first)

  fails : (done : List C → Type 0) (spoils : Type 0) (spoiled : List (C × R) → List C → Type 0) (call : Invocation K C R) (es es' : Entries K C R O) (f : Fault) → FailsBy M es call done spoils spoiled f es' → Respects M.same_call M.same_answer call.answers → Fails done spoils spoiled call f
  fails done spoils spoiled call es es' f (inl unbegun) alike = elim unbegun.1 [ inl memory ↦ inl memory.0 | inr due ↦ elim due.1 [ inl memory ↦ inl memory | inr own ↦ inr (inl own) ] ]
  fails done spoils spoiled call es es' f (inr write) alike =
      let stopped = write.1.1 in
      let ran : Run K C R O = run call.key stopped.pairs stopped.output (stopped.prefix ++ stopped.next ∷ stopped.rest) in
      let answers : Answers M call ran = record { alike = alike; has_key = laws.keys.refl call.key; agrees = stopped.agrees; stands = stopped.stands } in
      inr (inr (write.0, ran, stopped.prefix, stopped.next ∷ stopped.rest, refl, answers, stopped.are_done, stopped.is_spoiled))

  pub faults_through_any_holder : (done : List C → Type 0) (spoils : Type 0) (spoiled : List (C × R) → List C → Type 0) → FaultsThroughAnyHolder M done spoils spoiled
  faults_through_any_holder done spoils spoiled call (Some es) (Some es') f is alike = fails done spoils spoiled call es es' f is alike
  faults_through_any_holder done spoils spoiled call (Some es) None f is alike = fails done spoils spoiled call es is.0 f is.1 alike
  faults_through_any_holder done spoils spoiled call None after f is alike = fails done spoils spoiled call is.0 is.1 f is.2 alike
