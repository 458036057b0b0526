-- Truths of the steps by which an index changes.
use Rattle.std.proofs.Common.{◌≡◌, Bool, true, false, cond, ◌&&◌, ◌||◌, not, refl, ap}

pub and-true : (a : Bool) → a ≡ (a && true)
and-true true = refl
and-true false = refl

pub and-false : (a : Bool) → false ≡ (a && false)
and-false true = refl
and-false false = refl

-- one key of a list was taken in
pub take_step : (a e h : Bool) → ((e || a) || h) ≡ (a || (e || h))
take_step true true h = refl
take_step true false h = refl
take_step false true h = refl
take_step false false h = refl

-- a key was listed under one more call
pub link_step : (x b l h : Bool) → (((x && b) || l) || (b && h)) ≡ (l || (b && (x || h)))
link_step true true true h = refl
link_step true true false h = refl
link_step true false l h = refl
link_step false b l h = refl

pub unlink_end : (b l : Bool) → (l && not (b && false)) ≡ l
unlink_end true true = refl
unlink_end true false = refl
unlink_end false true = refl
unlink_end false false = refl

-- what is noted was taken out
pub forget_step : (l b a : Bool) → (b ≡ true → l ≡ true → a ≡ true) → (l && not (b && a)) ≡ cond b false l
forget_step false true a h = refl
forget_step false false a h = refl
forget_step true true a h = ap not (h refl refl)
forget_step true false a h = refl

-- what was free of a key has the reads that were noted
pub note_step : (b l a : Bool) → (cond b false l || (b && a)) ≡ cond b a l
note_step true l a = refl
note_step false true a = refl
note_step false false a = refl

pub same_unless : (b x y : Bool) → (b ≡ false → x ≡ y) → cond b false x ≡ cond b false y
same_unless true x y h = refl
same_unless false x y h = h refl

pub or_false : (b l a : Bool) → b ≡ false → (l || (b && a)) ≡ l
or_false b true a e = refl
or_false b false a e = ap (λ x. x && a) e
