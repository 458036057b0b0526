-- Nothing is stale: each entry's output and writes are right for all answers that agree with its path, in every history.
use Rattle.std.proofs.Common.{◌≡◌, List, [], ◌∷◌, subst, inl, inr}
use Rattle.std.proofs.lemmas.List.Elements.{All-nil, All-head, All-tail}
use Rattle.std.proofs.lemmas.List.Sorted.{All-permutation}
use Rattle.std.specs.List.{All}
use Rattle.comemo_base.specs.Answers.{Respects}
use Rattle.comemo_base.specs.Tree.{Stored, stored}
use Rattle.comemo_base.specs.Lookup.{under}
use Rattle.comemo_base.proofs.Paths.{turned}
use Rattle.comemo_base.proofs.Under.{Any-from_under}
use Rattle.comemo_cache.specs.Meaning.{Meaning, Invocation, Run, run}
use Rattle.comemo_cache.specs.Cache.{Kept, Entries, Stands, Has, IsEntryOf}
use Rattle.comemo_cache.specs.Storing.{Stores}
use Rattle.comemo_cache.proofs.Entries.{All-cons}
use Rattle.comemo.specs.Finish.{Ends}
use Rattle.comemo.specs.declared.pending.How.{How}
use Rattle.comemo.specs.declared.pending.How.TheVariants as how
use Rattle.comemo_theorems.specs.History.{Step, found, touched, missed, ended, evicted, Does, Answers, Honest, Right}
use Rattle.comemo_theorems.specs.Coarse.{OneMore, Leads, Past, NeverStaleAtAll, IsPast}
use Rattle.comemo_theorems.specs.Statements.{NeverStale}
use Rattle.comemo_theorems.proofs.Lawful.{IsLawful}
use Rattle.comemo_theorems.proofs.Plain.{agrees_back}
use Rattle.comemo_theorems.proofs.Steps.{all_same, all_touched, all_evicted}

module _ {K C R O : Type 0} (M : Meaning K C R O) (laws : IsLawful M) where
  -- A history is a past.
  one_more : (call : Invocation K C R) (ran : Run K C R O) (es es' : Entries K C R O) → Answers M call ran → Stores M es ran es' → OneMore M es ran es'
  one_more call ran es es' is stores =
      let x = stores.2 in
      record {
        entry = stored x.adds.own x.adds.path x.kept;
        has_key = x.adds.is_key;
        only = λ m r a. agrees_back laws.answers call.answers is.alike m r (under M.same_key es ran.key) ran.pairs x.adds.path x.adds.is_new is.agrees a;
        is_clone = x.is_clone;
        same_writes = x.same_writes;
        more = x.adds.entries;
      }

  leads_ended : (call : Invocation K C R) (ran : Run K C R O) (end : How) (es es' : Entries K C R O) → ((end ≡ how.Late → ⊥) → Answers M call ran) → Ends M es ran end es' → Leads M (ended call ran end) es es'
  leads_ended call ran how.Hit es es' is ends = absurd ends
  leads_ended call ran how.Stored es es' is ends = inr ((λ e. cc), one_more call ran es es' (is (λ e. cc)) ends)
  leads_ended call ran how.AlreadyExists es es' is ends = inl ends.1
  leads_ended call ran how.MissingCall es es' is ends = inl ends.2
  leads_ended call ran how.NotStored es es' is ends = inl ends
  leads_ended call ran how.Disabled es es' is ends = inl ends
  leads_ended call ran how.Late es es' is ends = inl ends

  leads : (s : Step K C R O) (es es' : Entries K C R O) → Honest M s → Does M s es es' → Leads M s es es'
  leads (found call ran) es es' honest does = does
  leads (touched call) es es' honest (inl t) = inl t
  leads (touched call) es es' honest (inr none) = inr none.1
  leads (missed call) es es' honest does = does.1
  leads (ended call ran end) es es' honest does = leads_ended call ran end es es' honest does
  leads (evicted bound) es es' honest does = does

  pub is_past : IsPast M
  is_past [] es es' is honest = is
  is_past (s ∷ h) es es' (mid, does, rest) honest = (mid, leads s es mid (All-head (Honest M) s h honest) does, is_past h mid es' rest (All-tail (Honest M) s h honest))

  -- In a past from an empty cache all entries stand.
  abbrev Sound : Stored K C R (Kept O C) → Type 0
  Sound e = Stands M (run e.key e.path e.value.output e.value.writes)

  sound_more : (call : Invocation K C R) (ran : Run K C R O) (es es' : Entries K C R O) → Answers M call ran → OneMore M es ran es' → All Sound es → All Sound es'
  sound_more call ran es es' is x sound =
      let e : Stored K C R (Kept O C) = x.entry in
      let here : Sound e = λ m r a.
      let at_run = is.stands m r (x.only m r a) in
      let at_own = laws.by_key ran.key e.key m ran.output ran.writes r (turned laws.keys e.key ran.key x.has_key) at_run in
      let by_clone = laws.by_output e.key m ran.output e.value.output ran.writes r x.is_clone at_own in
      laws.by_writes e.key m e.value.output ran.writes e.value.writes r x.same_writes by_clone in
      All-permutation Sound (e ∷ es) es' x.more (All-cons Sound e es here sound)

  sound_step : (s : Step K C R O) (es es' : Entries K C R O) → Honest M s → Leads M s es es' → All Sound es → All Sound es'
  sound_step (found call ran) es es' honest does sound = all_same M Sound es es' does.1 sound
  sound_step (touched call) es es' honest (inl t) sound = all_touched M Sound (λ e age s. s) call es es' (inl t) sound
  sound_step (touched call) es es' honest (inr same) sound = all_same M Sound es es' same sound
  sound_step (missed call) es es' honest does sound = all_same M Sound es es' does sound
  sound_step (ended call ran end) es es' honest (inl same) sound = all_same M Sound es es' same sound
  sound_step (ended call ran end) es es' honest (inr new) sound = sound_more call ran es es' (honest new.0) new.1 sound
  sound_step (evicted bound) es es' honest does sound = all_evicted M Sound (λ e age s. s) bound es es' does sound

  right_found : (call : Invocation K C R) (ran : Run K C R O) (es : Entries K C R O) → Respects M.same_call M.same_answer call.answers → Has M es call ran → All Sound es → M.right call.key call.answers ran.output ran.writes
  right_found call ran es alike has sound =
      let h = Any-from_under M.same_key es call.key (IsEntryOf M call.answers ran) has in
      let e : Stored K C R (Kept O C) = h.1 in
      let own : Sound e = subst Sound h.3 (sound h.0 h.1 h.2) in
      let at_entry = own call.answers alike h.4.1.0 in
      let at_key = laws.by_key e.key call.key call.answers e.value.output e.value.writes alike h.4.0 at_entry in
      let by_clone = laws.by_output call.key call.answers e.value.output ran.output e.value.writes alike h.4.1.2 at_key in
      laws.by_writes call.key call.answers ran.output e.value.writes ran.writes alike h.4.1.3 by_clone

  -- a run that answers a call is right for it
  pub right_run : (call : Invocation K C R) (ran : Run K C R O) → Answers M call ran → M.right call.key call.answers ran.output ran.writes
  right_run call ran is = laws.by_key ran.key call.key call.answers ran.output ran.writes is.alike (turned laws.keys call.key ran.key is.has_key) (is.stands call.answers is.alike is.agrees)

  right_step : (s : Step K C R O) (es es' : Entries K C R O) → Honest M s → Leads M s es es' → All Sound es → Right M s
  right_step (found call ran) es es' honest does sound = λ alike. right_found call ran es alike does.0 sound
  right_step (touched call) es es' honest does sound = tt
  right_step (missed call) es es' honest does sound = tt
  right_step (ended call ran end) es es' honest does sound = λ early. right_run call ran (honest early)
  right_step (evicted bound) es es' honest does sound = tt

  right_all : (h : List (Step K C R O)) (es es' : Entries K C R O) → All (Honest M) h → Past M h es es' → All Sound es → All (Right M) h
  right_all [] es es' honest is sound = All-nil (Right M)
  right_all (s ∷ h) es es' honest (mid, does, rest) sound =
      let own = All-head (Honest M) s h honest in
      All-cons (Right M) s h (right_step s es mid own does sound) (right_all h mid es' (All-tail (Honest M) s h honest) rest (sound_step s es mid own does sound))

  pub never_stale_at_all : NeverStaleAtAll M
  never_stale_at_all h es is honest = right_all h [] es honest is (All-nil Sound)

  pub never_stale : NeverStale M
  never_stale h es is honest = never_stale_at_all h es (is_past h [] es is honest) honest
