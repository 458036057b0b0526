-- How a sink is left by a call that failed.

-- something broke off so at some pairs
abbrev pub IsBroken : {P : Type 0} → (P → Type 0) → Type 0
IsBroken {P} broke_off = (pairs : P) × broke_off pairs
