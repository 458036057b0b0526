-- What is known about the entries of a holder of a cache. The only holder of a cache shows them. A holder that shares it with
-- other threads shows none, as these may change them at any moment: then a clause speaks of some list of entries, which nothing
-- ties to the cache, and which may be empty. What the clause says of anything but that list holds all the same.
use Rattle.std.specs.Prelude.{◌≡◌, ⊤, ◌⊎◌, Option, Some, None}

module _ {E : Type 0} where
  -- P holds for the entries if they are known; if not, for some list
  abbrev pub Held : Option E → (E → Type 0) → Type 0
  Held (Some es) P = P es
  Held None P = (es : E) × P es

  -- P leads from the known entries to the known ones afterwards; if they aren't known, from some list to another
  abbrev pub Leads : Option E → Option E → (E → E → Type 0) → Type 0
  Leads (Some es) (Some es') P = P es es'
  Leads (Some es) None P = (two : E) × P es two
  Leads None after P = (one : E) × (two : E) × P one two

  -- the same, by way of entries in between
  abbrev pub LeadsBy : Option E → Option E → Option E → (E → E → E → Type 0) → Type 0
  LeadsBy (Some es) (Some mid) (Some es') P = P es mid es'
  LeadsBy (Some es) (Some mid) None P = (one : E) × (two : E) × (three : E) × P one two three
  LeadsBy (Some es) None after P = (one : E) × (two : E) × (three : E) × P one two three
  LeadsBy None between after P = (one : E) × (two : E) × (three : E) × P one two three

  -- the known entries are unchanged
  abbrev pub Stays : Option E → Option E → Type 0
  Stays (Some es) (Some es') = es' ≡ es
  Stays (Some es) None = ⊥
  Stays None (Some es') = ⊥
  Stays None None = ⊤

  -- the entries behind a reference became others, as P says, or are unchanged, as when there is another reference; it refers to
  -- entries exactly if it did before
  abbrev pub ChangesBehind : (E → E → Type 0) → Option E → Option E → Type 0
  ChangesBehind P (Some es) (Some es') = P es es' ⊎ (es' ≡ es)
  ChangesBehind P (Some es) None = ⊥
  ChangesBehind P None (Some es) = ⊥
  ChangesBehind P None None = ⊤
