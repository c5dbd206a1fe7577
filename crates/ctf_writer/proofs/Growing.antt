-- Names of several items, added one item after another.
use Rattle.std.proofs.Common.{◌≡◌, ℕ, ◌+◌, ◌<◌, List, [], ◌∷◌, ◌++◌, length, take, get_or, sym, ap, ◌∙◌}
use Rattle.std.specs.List.{flat_map}
use Rattle.std.proofs.lemmas.List.{take_more, append-nil}
use Rattle.std.proofs.lemmas.Grind.{flat_map-append}
use Rattle.std.proofs.lemmas.List.Sums.{fold-append}
use Rattle.ctf_writer.specs.Offsets.{with_name}
use Rattle.ctf_writer.specs.Uses.{with_names}

pub names_more_at : {X : Type 0} (uses : X → List (List ℕ)) (names now : List (List ℕ)) (xs : List X) (i : ℕ) (x : X) → i < length xs → x ≡ get_or xs i x → now ≡ with_names names (flat_map uses (take i xs)) → (new : List (List ℕ)) → new ≡ with_names now (uses x) → new ≡ with_names names (flat_map uses (take (i + 1) xs))
names_more_at {X} uses names now xs i x lt is e new f =
    let taken : flat_map uses (take (i + 1) xs) ≡ flat_map uses (take i xs) ++ uses x = ap (flat_map uses) (take_more xs i x lt) ∙ flat_map-append uses (take i xs) (get_or xs i x ∷ []) ∙ ap (λ (y : X). flat_map uses (take i xs) ++ (uses y ++ [])) (sym is) ∙ ap (λ (ns : List (List ℕ)). flat_map uses (take i xs) ++ ns) (append-nil (uses x)) in
    f ∙ ap (λ (ns : List (List ℕ)). with_names ns (uses x)) e ∙ sym (fold-append with_name names (flat_map uses (take i xs)) (uses x)) ∙ ap (with_names names) (sym taken)

-- names of the header, of labels and of types
pub used_all : (none one two three four : List (List ℕ)) (p q : List ℕ) (labels uses : List (List ℕ)) → none ≡ [] → one ≡ with_name none p → two ≡ with_name one q → three ≡ with_names two labels → four ≡ with_names three uses → four ≡ with_names [] (p ∷ q ∷ (labels ++ uses))
used_all none one two three four p q labels uses a b c d e =
    e
    ∙ ap (λ (ns : List (List ℕ)). with_names ns uses) (d ∙ ap (λ (ns : List (List ℕ)). with_names ns labels) (c ∙ ap (λ (ns : List (List ℕ)). with_name ns q) (b ∙ ap (λ (ns : List (List ℕ)). with_name ns p) a)))
    ∙ sym (fold-append with_name (with_name (with_name [] p) q) labels uses)
