-- From what is known about a holder's entries, whether it shows them or not, to what else is known.
use Rattle.std.proofs.Common.{Result, Ok, Err, IfOk, IfErr, OnOk, OnErr, ◌≡◌, ℕ, Option, Some, None, ◌∷◌, refl, ap, subst, sym}
use Rattle.std.proofs.lemmas.List.Sorted.{IsPermutation-refl}
use Rattle.std.specs.Cmp.{IsEquivalence}
use Rattle.comemo_base.specs.Tree.{IsTree}
use Rattle.comemo_base.proofs.Under.{Any-from_under}
use Rattle.std.proofs.lemmas.List.Sorted.{IsPermutation-remove, IsPermutation-sym}
use Rattle.std.proofs.Common.{remove}
use Rattle.comemo_cache.specs.Meaning.{Meaning, Invocation, Run}
use Rattle.comemo_cache.specs.Cache.{Entries, Has, HasAged, Touches, young}
use Rattle.comemo_cache.specs.Found.{TouchesFound}
use Rattle.comemo_cache.specs.Held.{Held, Leads, LeadsBy, Stays}
use Rattle.comemo_cache.proofs.Touching.{touched_by}

module _ {E : Type 0} where
  pub stays_same : (o : Option E) → Stays o o
  stays_same (Some es) = refl
  stays_same None = tt

  pub stayed : (o o' : Option E) → Stays o o' → o' ≡ o
  stayed (Some es) (Some es') e = ap (λ x. Some x) e
  stayed (Some es) None e = absurd e
  stayed None (Some es') e = absurd e
  stayed None None e = refl

  pub held_any : (o : Option E) → E → (P : E → Type 0) → ((es : E) → P es) → Held o P
  held_any (Some es) x P p = p es
  held_any None x P p = (x, p x)

  pub held_map : (o : Option E) (P Q : E → Type 0) → ((es : E) → P es → Q es) → Held o P → Held o Q
  held_map (Some es) P Q f h = f es h
  held_map None P Q f h = (h.0, f h.0 h.1)

  pub some_held : (o : Option E) (P : E → Type 0) → Held o P → (es : E) × P es
  some_held (Some es) P h = (es, h)
  some_held None P h = h

  pub leads_map : (o o' : Option E) (P Q : E → E → Type 0) → ((es es' : E) → P es es' → Q es es') → Leads o o' P → Leads o o' Q
  leads_map (Some es) (Some es') P Q f h = f es es' h
  leads_map (Some es) None P Q f h = (h.0, f es h.0 h.1)
  leads_map None o' P Q f h = (h.0, h.1, f h.0 h.1 h.2)

  pub some_led : (o o' : Option E) (P : E → E → Type 0) → Leads o o' P → (es : E) × (es' : E) × P es es'
  some_led (Some es) (Some es') P h = (es, es', h)
  some_led (Some es) None P h = (es, h.0, h.1)
  some_led None o' P h = h

  -- what was found in entries that are not told
  pub found_untold : {A X : Type 0} (Q : E → A → Type 0) (es : E) (r : Result A X) → IfOk r (Q es) → IfOk r (λ found. Held None (λ x. Q x found))
  found_untold Q es (Ok a) p = (es, p)
  found_untold Q es (Err e) p = tt

  -- what was stored between entries that are not told
  pub stored_in : {A X : Type 0} (P : E → E → Type 0) (es es' : E) (r : Result A X) → OnOk r (P es es') → OnOk r ((one : E) × (two : E) × P one two)
  stored_in P es es' (Ok a) p = (es, es', p)
  stored_in P es es' (Err e) p = tt

  -- a step that was done on entries is one of which nothing is told
  pub stored_untold : {A X : Type 0} (P : E → E → Type 0) (a b : Option E) (r : Result A X) → OnOk r (Leads a b P) → OnOk r (Leads None None P)
  stored_untold P a b (Ok x) p = some_led a b P p
  stored_untold P a b (Err e) p = tt

  -- nor of why one was not done
  pub reason_untold : {A X : Type 0} (Q : X → E → Type 0) (a : Option E) (r : Result A X) → IfErr r (λ e. Held a (Q e)) → IfErr r (λ e. Held None (Q e))
  reason_untold Q a (Ok x) p = tt
  reason_untold Q a (Err e) p = some_held a (Q e) p

  -- what follows whichever entries it led between
  pub of_led : (o o' : Option E) (P : E → E → Type 0) {X : Type 0} → ((es es' : E) → P es es' → X) → Leads o o' P → X
  of_led o o' P f h = let k = some_led o o' P h in f k.0 k.1 k.2

  -- where the entries stay, what holds of them leads from them to themselves
  pub held_leads : (o o' : Option E) (P : E → Type 0) (Q : E → E → Type 0) → Stays o o' → ((es : E) → P es → Q es es) → Held o P → Leads o o' Q
  held_leads (Some es) (Some es') P Q e f h = subst (λ x. Q es x) (sym e) (f es h)
  held_leads (Some es) None P Q e f h = absurd e
  held_leads None o' P Q e f h = (h.0, h.0, f h.0 h.1)

  pub leads_same : (o o' : Option E) → E → (Q : E → E → Type 0) → Stays o o' → ((es : E) → Q es es) → Leads o o' Q
  leads_same (Some es) (Some es') x Q e f = subst (λ y. Q es y) (sym e) (f es)
  leads_same (Some es) None x Q e f = absurd e
  leads_same None o' x Q e f = (x, x, f x)

  -- what held at first, and what led on, together
  pub led_by : (o mid o' : Option E) (P : E → Type 0) (Q : E → E → Type 0) (R : E → E → E → Type 0) → ((es mid es' : E) → P es → Q mid es' → R es mid es') → Held o P → Leads mid o' Q → LeadsBy o mid o' R
  led_by (Some es) (Some mid) (Some es') P Q R f p q = f es mid es' p q
  led_by (Some es) (Some mid) None P Q R f p q = (es, mid, q.0, f es mid q.0 p q.1)
  led_by (Some es) None o' P Q R f p q = (es, q.0, q.1, f es q.0 q.1 p q.2)
  led_by None mid o' P Q R f p q = let k = some_led mid o' Q q in (p.0, k.0, k.1, f p.0 k.0 k.1 p.1 k.2)

  -- what led on from the first entries
  pub led_from : (o o' : Option E) (Q : E → E → Type 0) (R : E → E → E → Type 0) → ((es es' : E) → Q es es' → R es es es') → Leads o o' Q → LeadsBy o o o' R
  led_from (Some es) (Some es') Q R f q = f es es' q
  led_from (Some es) None Q R f q = (es, es, q.0, f es q.0 q.1)
  led_from None o' Q R f q = (q.0, q.0, q.1, f q.0 q.1 q.2)

  pub by_map : (o mid o' : Option E) (P Q : E → E → E → Type 0) → ((es mid es' : E) → P es mid es' → Q es mid es') → LeadsBy o mid o' P → LeadsBy o mid o' Q
  by_map (Some es) (Some mid) (Some es') P Q f h = f es mid es' h
  by_map (Some es) (Some mid) None P Q f h = (h.0, h.1, h.2, f h.0 h.1 h.2 h.3)
  by_map (Some es) None o' P Q f h = (h.0, h.1, h.2, f h.0 h.1 h.2 h.3)
  by_map None mid o' P Q f h = (h.0, h.1, h.2, f h.0 h.1 h.2 h.3)

  pub some_by : (o mid o' : Option E) (P : E → E → E → Type 0) → LeadsBy o mid o' P → (es : E) × (mid : E) × (es' : E) × P es mid es'
  some_by (Some es) (Some mid) (Some es') P h = (es, mid, es', h)
  some_by (Some es) (Some mid) None P h = h
  some_by (Some es) None o' P h = h
  some_by None mid o' P h = h

  -- of the entries that something led from
  pub led_first : (o o' : Option E) (P : E → E → Type 0) (Q : E → Type 0) → ((es es' : E) → P es es' → Q es) → Leads o o' P → Held o Q
  led_first (Some es) (Some es') P Q f h = f es es' h
  led_first (Some es) None P Q f h = f es h.0 h.1
  led_first None o' P Q f h = (h.0, f h.0 h.1 h.2)

  -- of an error, where it follows at each of the entries
  pub held_err : (o : Option E) {A F : Type 0} (P : E → Type 0) (Q : E → F → Type 0) (r : Result A F) → ((es : E) → P es → IfErr r (Q es)) → Held o P → IfErr r (λ f. Held o (λ es. Q es f))
  held_err o P Q (Ok x) f h = tt
  held_err o P Q (Err e) f h = held_map o P (λ es. Q es e) f h

  -- after an error that left the entries as they were
  pub held_broken : (o o' : Option E) {A F : Type 0} (P : E → Type 0) (Q : E → E → Type 0) (X : Type 0) (r : Result A F) → OnErr r (Stays o o' × X) → ((es : E) → P es → OnErr r ((es ≡ es) × X) → OnErr r (Q es es)) → Held o P → OnErr r (Leads o o' Q)
  held_broken o o' P Q X (Ok x) e f h = tt
  held_broken o o' P Q X (Err x) e f h = held_leads o o' P Q e.0 (λ es p. f es p (refl, e.1)) h

module _ {K C R O : Type 0} (M : Meaning K C R O) (call : Invocation K C R) (ran : Run K C R O) (age : ℕ) where
  -- among entries that have one of this run, a touch of it leads somewhere
  can_touch : (es : Entries K C R O) → HasAged M es call ran age → (es' : Entries K C R O) × Touches M es call es'
  can_touch es found =
      let h = Any-from_under M.same_key es call.key _ found in (
        young h.1 ∷ remove es h.0,
        record {
          entry = h.1;
          others = remove es h.0;
          before = IsPermutation-sym es (h.1 ∷ remove es h.0) (IsPermutation-remove es h.0 h.1 h.2 (sym h.3));
          has_key = h.4.0;
          agrees = h.4.1.0.0;
          after = IsPermutation-refl (young h.1 ∷ remove es h.0);
        },
      )

  pub has_so : (es : Entries K C R O) → HasAged M es call ran age → Has M es call ran
  has_so es found = (found.0, found.1, found.2, found.3, found.4.0)

  -- what a look-up found was kept, and is touched by its path's answers
  pub hit_held : IsEquivalence M.same_answer → IsEquivalence M.same_key → (o o' : Option (Entries K C R O)) → Held o (IsTree M.same_call M.same_answer M.same_key) → Held o (λ es. HasAged M es call ran age) → Leads o o' (TouchesFound M.same_answer M.same_key call.key ran.pairs age) → Leads o o' (λ es es'. HasAged M es call ran age × Touches M es call es')
  hit_held answers keys (Some es) (Some es') tree found touched = (found, touched_by M answers keys es es' call tree ran age found touched)
  hit_held answers keys (Some es) None tree found touched = let k = can_touch es found in (k.0, (found, k.1))
  hit_held answers keys None o' tree found touched = let k = can_touch found.0 found.1 in (found.0, k.0, (found.1, k.1))
