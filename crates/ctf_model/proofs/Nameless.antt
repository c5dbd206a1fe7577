-- A code beyond the table has no name.
use Rattle.std.proofs.Common.{◌≡◌, ℕ, ◌<◌, ◌≤◌, true, false, eqb, ltb, List, [], ◌∷◌, refl, sym, arith}
use Rattle.std.specs.List.{list_all}
use Rattle.std.proofs.lemmas.Bool.{ne_eqb, ltb-true, and_parts}
use Rattle.ctf_model.specs.rules.FaultNames.{fault_names, name_beside, name_of_fault}

-- a code at or above the bound of a table has no name in it
beyond : (code bound : ℕ) (rows : List (ℕ × List ℕ)) → list_all (λ row. ltb row.0 bound) rows ≡ true → bound ≤ code → name_beside code rows ≡ []
beyond code bound [] h le = refl
beyond code bound (row ∷ rows) h le =
    let parts = and_parts (ltb row.0 bound) (list_all (λ row. ltb row.0 bound) rows) h in
    let low : row.0 < bound = ltb-true row.0 bound parts.0 in
    let other : eqb row.0 code ≡ false = ne_eqb row.0 code (omega arith) in
    rw other (beyond code bound rows parts.1 le)

-- a code outside the table has no name
pub nameless : (code : ℕ) → 63 ≤ code → [] ≡ name_of_fault code
unfolding name_of_fault
nameless code high = sym (beyond code 63 fault_names refl high)
