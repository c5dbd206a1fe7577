-- Symbols one by one, and the considered ones.
use Rattle.std.proofs.Common.{◌≡◌, ℕ, suc, ◌+◌, ◌-◌, ◌/◌, ◌<◌, ◌≤◌, true, false, List, [], ◌∷◌, length, drop, Option, refl, ap, arith}
use Rattle.std.proofs.lemmas.List.{length-drop}
use Rattle.ctf_model.specs.symbols.Symbols.{Symbol, symbol_of, symbols_in, symbols_of, is_considered, considered_from}

-- one more symbol
pub symbols_more : (strs : Option (List ℕ)) (b : List ℕ) → 24 ≤ length b → symbols_of strs b ≡ symbol_of strs b ∷ symbols_of strs (drop 24 b)
unfolding symbols_in
symbols_more strs b le =
    let behind : length (drop 24 b) / 24 ≡ (length b - 24) / 24 = ap (λ (n : ℕ). n / 24) (length-drop 24 b) in
    let one : length b / 24 ≡ suc ((length b - 24) / 24) = omega arith in
    rw (one, behind) refl

-- no more symbols
pub symbols_end : (strs : Option (List ℕ)) (b : List ℕ) → length b < 24 → symbols_of strs b ≡ []
unfolding symbols_in
symbols_end strs b lt = let none : length b / 24 ≡ 0 = omega arith in rw none refl

-- without symbols, none is considered
pub considered_end : (strs : Option (List ℕ)) (n : ℕ) (b : List ℕ) → length b < 24 → considered_from n (symbols_of strs b) ≡ []
considered_end strs n b lt = rw (symbols_end strs b lt) refl

-- a considered symbol comes first
pub considered_more : (strs : Option (List ℕ)) (n : ℕ) (b behind : List ℕ) (x : Symbol) → behind ≡ drop 24 b → 24 ≤ length b → x ≡ symbol_of strs b → is_considered (n, x) ≡ true
    → considered_from n (symbols_of strs b) ≡ (n, x) ∷ considered_from (n + 1) (symbols_of strs behind)
considered_more strs n b behind x d le e t = rw (symbols_more strs b le, ← e, ← d, t) refl

-- any other symbol is skipped
pub considered_less : (strs : Option (List ℕ)) (n : ℕ) (b behind : List ℕ) (x : Symbol) → behind ≡ drop 24 b → 24 ≤ length b → x ≡ symbol_of strs b → is_considered (n, x) ≡ false
    → considered_from n (symbols_of strs b) ≡ considered_from (n + 1) (symbols_of strs behind)
considered_less strs n b behind x d le e t = rw (symbols_more strs b le, ← e, ← d, t) refl
