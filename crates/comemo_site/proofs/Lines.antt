-- A loop that maps the lines of a source.
use Rattle.std.proofs.Common.{◌≡◌, ◌∙◌, ℕ, ◌+◌, string_bytes, ◌<◌, List, [], ◌∷◌, ◌++◌, length, take, drop, get_or, map, refl, sym, ap, arith}
use Rattle.std.specs.List.{flat_map}
use Rattle.std.proofs.lemmas.List.{append-nil, drop_more, get_or-map, length-map, length_push, take_more}
use Rattle.std.proofs.lemmas.List.Concat.{flat_map-append}
use Rattle.comemo_site.specs.Parsing.{ending, to_come, whole}
use Rattle.comemo_site.specs.declared.parse.Parser.{Parser}
use Rattle.comemo_site.specs.declared.parse.Unended.{Unended}
use Rattle.comemo_site.specs.declared.parse.Unended.TheVariants as unended

-- a turn of a loop over xs that has come past ys, at x
module _ {A B Y : Type 0} (f : A → B) (xs : List A) (ys : List Y) (y : Y) (x : A) (turn : (length ys < length xs) × (x ≡ get_or xs (length ys) x)) where
  mapped : get_or (map f xs) (length ys) (f x) ≡ f x
  mapped = get_or-map f xs (length ys) x (f x) turn.0 ∙ ap f (sym turn.1)

  within : length ys < length (map f xs)
  within = omega (arith, length-map xs f, turn.0)

  pub flat_map_turn : {C : Type 0} (g : B → List C) → flat_map g (take (length (ys ++ y ∷ [])) (map f xs)) ≡ flat_map g (take (length ys) (map f xs)) ++ g (f x)
  flat_map_turn g =
      let before = take (length ys) (map f xs) in
      ap (λ n. flat_map g (take n (map f xs))) (length_push ys y) ∙ ap (flat_map g) (take_more (map f xs) (length ys) (f x) within)
      ∙ flat_map-append g before (get_or (map f xs) (length ys) (f x) ∷ [])
      ∙ ap (λ z. flat_map g before ++ (g z ++ [])) mapped ∙ ap (λ l. flat_map g before ++ l) (append-nil (g (f x)))

  pub drop_turn : drop (length ys) (map f xs) ≡ f x ∷ drop (length (ys ++ y ∷ [])) (map f xs)
  drop_turn = drop_more (map f xs) (length ys) (f x) within ∙ ap (λ z. z ∷ drop (length ys + 1) (map f xs)) mapped ∙ ap (λ n. f x ∷ drop n (map f xs)) (sym (length_push ys y))

to_come_end : (pages : List (List ℕ)) (left : Unended) (words : List ℕ) → to_come pages left words [] ≡ ending left words
to_come_end pages unended.Nothing words = refl
to_come_end pages unended.Paragraph words = refl
to_come_end pages unended.List words = refl

-- the blocks of a source that is parsed to its end
pub whole_end : (pages : List (List ℕ)) (parser : Parser) → whole pages parser [] ≡ parser.blocks.items ++ ending parser.unended (string_bytes parser.words)
whole_end pages parser = ap (λ blocks. parser.blocks.items ++ blocks) (to_come_end pages parser.unended (string_bytes parser.words))
