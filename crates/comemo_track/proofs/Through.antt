-- Asking through a map.
use Rattle.std.proofs.Common.{◌≡◌, Bool, List, ◌∙◌}
use Rattle.comemo_track.specs.Mapped.{Through}
use Rattle.comemo_track.specs.Sending.{Asks}

module _ {C D R Q : Type 0} {sent : List (D × Q) → List D → Type 0} {same : R → R → Bool} (like : Q → Q → Bool) (f : C → D) (g : R → Q) (m : C → R) (n : D → Q) where
  -- what is asked of a value through a map is asked, in the map's images, of one that answers by them
  pub asked_through : (call : C) (answer : R) → n (f call) ≡ g (m call) → ((x y : R) → like (g x) (g y) ≡ same x y) → Asks same m call answer (Through f g sent) → Asks like n (f call) (g answer) sent
  asked_through call answer e apart asks = record {
    gives = rw e (apart (m call) answer ∙ asks.gives);
    noted = g asks.noted;
    alike = rw e (apart (m call) asks.noted ∙ asks.alike);
    sent = asks.sent;
  }
