use Rattle.std.proofs.Common.{arith, ◌≡◌, ℕ, ◌+◌, ◌≤◌, List, ◌++◌, length, take, Option, MatchResult, OnOk, Result, Ok, Err, subst, sym, ap, ◌∙◌, length-append, take_all, le_refl}
use Rattle.std.proofs.lemmas.List.{take-append-le}
use Rattle.std.proofs.Math.Seq.{take-append-add}
use Rattle.std.specs.Io.KnownBytes.{Appends}
use Rattle.std.proofs.KnownBytes.{Appends-trans}
use Rattle.calc_lines.specs.declared.fault.RunFault.{RunFault}
use Rattle.calc_lines.specs.Started.{WritesPrefix}
use Rattle.calc_lines.specs.Written.{WritesBeginning}
use Rattle.calc_lines.proofs.output.put_message.Goals as goal

-- two texts, one after the other
both : (a b c : Option (List ℕ)) (xs ys first second : List ℕ) → first ≡ xs → second ≡ ys → Appends a b first → Appends b c second → Appends a c (xs ++ ys)
both a b c xs ys first second e f p q = subst (Appends a c) (ap (λ l. l ++ second) e ∙ ap (λ l. xs ++ l) f) (Appends-trans a b c first second p q)

-- a text, and then a beginning of the next
prefix_more : (a b c : Option (List ℕ)) (xs ys second : List ℕ) → second ≡ ys → Appends a b xs → WritesBeginning b c second → WritesPrefix a c (xs ++ ys)
prefix_more a b c xs ys second e p (n, below, q) =
    (length xs + n, subst (Appends a c) (ap (λ l. xs ++ take n l) e ∙ sym (take-append-add xs ys n)) (Appends-trans a b c xs (take n second) p q))

-- the same, where one more text was to come
prefix_short : (a b c : Option (List ℕ)) (xs ys zs second : List ℕ) → second ≡ ys → Appends a b xs → WritesBeginning b c second → WritesPrefix a c ((xs ++ ys) ++ zs)
prefix_short a b c xs ys zs second e p (n, below, q) =
    let within : length xs + n ≤ length (xs ++ ys) = omega (arith, ap length e, length-append xs ys) in
    let same : xs ++ take n second ≡ take (length xs + n) ((xs ++ ys) ++ zs) =
    ap (λ l. xs ++ take n l) e ∙ sym (take-append-add xs ys n) ∙ sym (take-append-le (length xs + n) (xs ++ ys) zs within) in
    (length xs + n, subst (Appends a c) same (Appends-trans a b c xs (take n second) p q))

last_prefix : (a b c : Option (List ℕ)) (xs ys last : List ℕ) (r : Result (Unit {0}) RunFault) → last ≡ ys → Appends a b xs
    → MatchResult r (λ _. Appends b c last) (λ _. WritesBeginning b c last) → WritesPrefix a c (xs ++ ys)
last_prefix a b c xs ys last (Ok _) e p q =
    let all = xs ++ ys in
    let whole : take (length all) all ≡ all = take_all (length all) all (le_refl _) in
    (length all, subst (Appends a c) (ap (λ l. xs ++ l) e ∙ sym whole) (Appends-trans a b c xs last p q))
last_prefix a b c xs ys last (Err _) e p q = prefix_more a b c xs ys last e p q

last_whole : (a b c : Option (List ℕ)) (xs ys last : List ℕ) (r : Result (Unit {0}) RunFault) → last ≡ ys → Appends a b xs
    → MatchResult r (λ _. Appends b c last) (λ _. WritesBeginning b c last) → OnOk r (Appends a c (xs ++ ys))
last_whole a b c xs ys last (Ok _) e p q = subst (Appends a c) (ap (λ l. xs ++ l) e) (Appends-trans a b c xs last p q)
last_whole a b c xs ys last (Err _) e p q = tt

pub returns-in_err-put-2-clause-prefix : goal.returns-in_err-put-2-clause-prefix
returns-in_err-put-2-clause-prefix g c =
    let prefix = subst (Appends (g.W.Write.contents c.args.writer.now) (g.W.Write.contents c.put.new.writer)) c.as_bytes.ensures.value c.in_ok-put.ensures.written in
    prefix_short _ _ _ c.args.prefix.now c.args.name.now c.args.end.now _ c.as_bytes-2.ensures.value prefix c.in_err-put-2.ensures.written

pub returns-clause-prefix : goal.returns-clause-prefix
returns-clause-prefix g c =
    let named = both _ _ _ c.args.prefix.now c.args.name.now _ _ c.as_bytes.ensures.value c.as_bytes-2.ensures.value c.in_ok-put.ensures.written c.in_ok-put-2.ensures.written in
    last_prefix _ _ _ (c.args.prefix.now ++ c.args.name.now) c.args.end.now _ c.put-3.result c.as_bytes-3.ensures.value named c.put-3.ensures.written

pub returns-clause-whole : goal.returns-clause-whole
returns-clause-whole g c =
    let named = both _ _ _ c.args.prefix.now c.args.name.now _ _ c.as_bytes.ensures.value c.as_bytes-2.ensures.value c.in_ok-put.ensures.written c.in_ok-put-2.ensures.written in
    last_whole _ _ _ (c.args.prefix.now ++ c.args.name.now) c.args.end.now _ c.put-3.result c.as_bytes-3.ensures.value named c.put-3.ensures.written
