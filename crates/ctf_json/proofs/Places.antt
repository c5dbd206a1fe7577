-- The index of a key in a list, searched from the front.
use Rattle.std.proofs.Common.{◌≡◌, ℕ, suc, ◌+◌, ◌<◌, ◌≤◌, List, length, get_or, map, drop, true, false, Option, Some, None, option_map, Bor, bytes_eq, sym, ap, ◌∙◌, refl, arith}
use Rattle.std.specs.Prelude.{if◌then◌else◌}
use Rattle.std.proofs.lemmas.List.{drop_more, drop_all}
use Rattle.std.proofs.lemmas.Slice.Eq.{bytes_eq-Decides}
use Rattle.ctf_json.specs.Keys.{place_in}

abbrev texts : List (Bor (List ℕ)) → List (List ℕ)
texts ks = map (λ k. k.now) ks

abbrev from_here : List ℕ → List (Bor (List ℕ)) → ℕ → Option ℕ
from_here name ks i = option_map (λ n. i + n) (place_in name (texts (drop i ks)))

here : (name : List ℕ) (ks : List (Bor (List ℕ))) (i : ℕ) (d : Bor (List ℕ)) → i < length ks
    → from_here name ks i ≡ option_map (λ n. i + n) (if bytes_eq name (get_or ks i d).now then Some 0 else option_map suc (place_in name (texts (drop (i + 1) ks))))
here name ks i d h = ap (λ l. option_map (λ n. i + n) (place_in name (texts l))) (drop_more ks i d h)

moved : (i : ℕ) (o : Option ℕ) → option_map (λ n. i + n) (option_map suc o) ≡ option_map (λ n. i + 1 + n) o
moved i None = refl
moved i (Some n) = let e : i + suc n ≡ i + 1 + n = omega arith in ap Some e

pub place_here : (name : List ℕ) (ks : List (Bor (List ℕ))) (i : ℕ) (d : Bor (List ℕ)) → i < length ks → bytes_eq name (get_or ks i d).now ≡ true → place_in name (texts ks) ≡ from_here name ks i → Some i ≡ place_in name (texts ks)
place_here name ks i d h e all =
    let none : i + 0 ≡ i = omega arith in
    sym (all ∙ here name ks i d h ∙ ap (λ b. option_map (λ n. i + n) (if b then Some 0 else option_map suc (place_in name (texts (drop (i + 1) ks))))) e ∙ ap Some none)

pub place_on : (name : List ℕ) (ks : List (Bor (List ℕ))) (i : ℕ) (d : Bor (List ℕ)) → i < length ks → bytes_eq name (get_or ks i d).now ≡ false → place_in name (texts ks) ≡ from_here name ks i → place_in name (texts ks) ≡ from_here name ks (i + 1)
place_on name ks i d h e all =
    all ∙ here name ks i d h ∙ ap (λ b. option_map (λ n. i + n) (if b then Some 0 else option_map suc (place_in name (texts (drop (i + 1) ks))))) e ∙ moved i (place_in name (texts (drop (i + 1) ks)))

pub place_nowhere : (name : List ℕ) (ks : List (Bor (List ℕ))) (i : ℕ) → length ks ≤ i → place_in name (texts ks) ≡ from_here name ks i → None ≡ place_in name (texts ks)
place_nowhere name ks i h all = sym (all ∙ ap (λ l. option_map (λ n. i + n) (place_in name (texts l))) (drop_all i ks h))

-- a name equal to a key has its index
pub same_place : (name key : List ℕ) (ks : List (List ℕ)) (place : ℕ) → bytes_eq name key ≡ true → place_in key ks ≡ Some place → Some place ≡ place_in name ks
same_place name key ks place e h = sym (ap (λ (n : List ℕ). place_in n ks) ((bytes_eq-Decides name key).0 e) ∙ h)
