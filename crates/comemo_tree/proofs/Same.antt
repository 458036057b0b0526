-- Slabs with the same values, and maps with the same look-ups, form the same tree.
use Rattle.std.proofs.Common.{◌≡◌, ◌∙◌, ℕ, Bool, List, Option, refl, sym, ap, subst}
use Rattle.std.specs.Prelude.{option_map}
use Rattle.std.specs.HashMap.{HashMap, get}
use Rattle.slab.specs.Slab as slab
use Rattle.comemo_tree.specs.Nodes.{IsForest, LeadsFrom, contents, first_of}
use Rattle.comemo_tree.specs.Growth.{CanGrow, Grown, SameNodes}
use Rattle.comemo_tree.specs.declared.children.Node.{Node}
use Rattle.comemo_tree.specs.declared.tree.InnerNode.{InnerNode}
use Rattle.comemo_tree.specs.declared.tree.LeafNode.{LeafNode}
use Rattle.comemo_tree.specs.declared.tree.Start.{Start}

-- a slab with the values of another
abbrev with_slots : {X : Type 0} → slab.Slab X → List (Option X) → slab.Slab X
with_slots s xs = record s { slots = xs }

moved : {X Y : Type 0} (inner inner' : slab.Slab X) (leaves leaves' : slab.Slab Y) (P : slab.Slab X → slab.Slab Y → Type 0) → SameNodes inner leaves inner' leaves' → P (with_slots inner' inner.slots) (with_slots leaves' leaves.slots) → P inner' leaves'
moved inner inner' leaves leaves' P nodes p =
    subst (λ xs. P (with_slots inner' xs) leaves') (sym nodes.0) (subst (λ ys. P (with_slots inner' inner.slots) (with_slots leaves' ys)) (sym nodes.1) p)

pub contents-same : {K C R T : Type 0} (inner inner' : slab.Slab (InnerNode C R)) (leaves leaves' : slab.Slab (LeafNode K T)) → SameNodes inner leaves inner' leaves' → contents inner' leaves' ≡ contents inner leaves
contents-same inner inner' leaves leaves' nodes = moved inner inner' leaves leaves' (λ a b. contents a b ≡ contents inner leaves) nodes refl

pub LeadsFrom-same : {K C R S : Type 0} (inner inner' : slab.Slab (InnerNode C R)) → inner'.slots ≡ inner.slots → (eqk : K → K → Bool) (starts : HashMap K Start S) (key : K) (ps : List (C × R)) (to : Node) → LeadsFrom inner eqk starts key ps to → LeadsFrom inner' eqk starts key ps to
LeadsFrom-same inner inner' e eqk starts key ps to lead = subst (λ xs. LeadsFrom (with_slots inner' xs) eqk starts key ps to) (sym e) lead

module _ {K C R T S : Type 0} {eq : C → C → Bool} {same : R → R → Bool} {eqk : K → K → Bool} (inner inner' : slab.Slab (InnerNode C R)) (leaves leaves' : slab.Slab (LeafNode K T)) {starts : HashMap K Start S} where
  IsForest-packed : {tip : Option ℕ} → IsForest eq same eqk tip inner leaves starts → IsForest eq same eqk tip (with_slots inner' inner.slots) (with_slots leaves' leaves.slots) starts
  IsForest-packed forest = record {
    answers = forest.answers;
    child = forest.child;
    start = forest.start;
    apart = forest.apart;
    led = forest.led;
    below = forest.below;
    distinct = forest.distinct;
    unmarked = forest.unmarked;
  }

  module _ (nodes : SameNodes inner leaves inner' leaves') where
    pub IsForest-same : {tip : Option ℕ} → IsForest eq same eqk tip inner leaves starts → IsForest eq same eqk tip inner' leaves' starts
    IsForest-same {tip = tip} forest = moved inner inner' leaves leaves' (λ a b. IsForest eq same eqk tip a b starts) nodes (IsForest-packed forest)

    pub CanGrow-same : {key : K} {at : ℕ} {answer : R} {left : List (C × R)} → CanGrow eq same eqk inner leaves starts key at answer left → CanGrow eq same eqk inner' leaves' starts key at answer left
    CanGrow-same {key = key} {at = at} {answer = answer} {left = left} g = moved inner inner' leaves leaves' (λ a b. CanGrow eq same eqk a b starts key at answer left) nodes (record {
      tip = g.tip;
      forest = IsForest-packed g.forest;
      only = g.only;
      node = g.node;
      is = g.is;
      none = g.none;
      done = g.done;
      lead = g.lead;
      distinct = g.distinct;
    })

    -- what was added to the one was added to the other
    pub Grown-same : {later : slab.Slab (InnerNode C R)} {later' : slab.Slab (LeafNode K T)} {key : K} {path : List (C × R)} {value : T} → Grown eq same eqk inner' leaves' later later' starts key path value → Grown eq same eqk inner leaves later later' starts key path value
    Grown-same g = record { forest = g.forest; entries = rw (contents-same inner inner' leaves leaves' nodes) at g.entries }

-- maps that find the same
pub IsForest-starts : {K C R T S : Type 0} {eq : C → C → Bool} {same : R → R → Bool} {eqk : K → K → Bool} {tip : Option ℕ} {inner : slab.Slab (InnerNode C R)} {leaves : slab.Slab (LeafNode K T)} {starts starts' : HashMap K Start S} → ((k : K) → get eqk starts' k ≡ get eqk starts k) → IsForest eq same eqk tip inner leaves starts → IsForest eq same eqk tip inner leaves starts'
IsForest-starts {K} {eqk = eqk} {starts = starts} {starts' = starts'} gets forest =
    let firsts : (k : K) → first_of eqk starts' k ≡ first_of eqk starts k = λ k. ap (option_map (λ (s : Start). s.first)) (gets k) in
    record {
      answers = forest.answers;
      child = forest.child;
      start = λ k f e. forest.start k f (sym (firsts k) ∙ e);
      apart = λ k l f d e. forest.apart k l f (sym (firsts k) ∙ d) (sym (firsts l) ∙ e);
      led = λ x leaf e. let own = forest.led x leaf e in (own.0, firsts leaf.key.value ∙ own.1, own.2);
      below = forest.below;
      distinct = forest.distinct;
      unmarked = forest.unmarked;
    }
