-- A declaration unrolled layer by layer.
use Rattle.std.proofs.Common.{◌≡◌, ℕ, zero, suc, ◌+◌, ◌<◌, eqb, false, List, [], ◌∷◌, ◌++◌, Result, Ok, Err, refl, sym, arith}
use Rattle.std.proofs.lemmas.List.{append-nil}
use Rattle.std.proofs.lemmas.Bool.{ne_eqb}
use Rattle.ctf_model.specs.spaces.Space.{Space, space_type}
use Rattle.ctf_model.specs.names.TypeNames.{Declaration, around, bare_name, declaration_of, declaration_within, too_long}
use Rattle.ctf_model.specs.declared.faults.Fault.{Fault}
use Rattle.ctf_model.specs.declared.layers.Layer.{Layer}
use Rattle.ctf_names.specs.Unrolling.{around_all}

-- ---- layers round a declaration

in_layers : (layers : List Layer) (d : Declaration) → around_all layers (Ok d) ≡ Ok (record { layers = layers ++ d.layers; name = d.name })
in_layers [] d = refl
in_layers (layer ∷ layers) d = rw (in_layers layers d) refl

fault_in_layers : (layers : List Layer) (f : Fault) → around_all layers (Err f) ≡ Err f
fault_in_layers [] f = refl
fault_in_layers (layer ∷ layers) f = rw (fault_in_layers layers f) refl

one_more_layer : (layers : List Layer) (layer : Layer) (inside : Result Declaration Fault) → around_all (layers ++ layer ∷ []) inside ≡ around_all layers (around layer inside)
one_more_layer [] layer inside = refl
one_more_layer (first ∷ layers) layer inside = rw (one_more_layer layers layer inside) refl

-- ---- one step

pub at_void : (s : Space) (k n : ℕ) → 0 < k → n ≡ 0 → declaration_within s k n ≡ bare_name (118 ∷ 111 ∷ 105 ∷ 100 ∷ [])
unfolding declaration_within
at_void s zero n h e = absurd (omega arith)
at_void s (suc k) n h e = rw e refl

pub at_type : (s : Space) (k m n : ℕ) → k ≡ m + 1 → (n ≡ 0 → ⊥) → declaration_within s k n ≡ declaration_of (declaration_within s m) (space_type s n)
unfolding declaration_within
at_type s zero m n h ne = absurd (omega arith)
at_type s (suc k) m n h ne =
    let same : k ≡ m = omega arith in
    let test : eqb n 0 ≡ false = ne_eqb n 0 ne in
    rw (test, same) refl

pub no_steps : (s : Space) (k n : ℕ) → k ≡ 0 → declaration_within s k n ≡ Err too_long
unfolding declaration_within
no_steps s k n e = rw e refl

-- ---- what all of it is, from what is inside

pub ended : (whole inside : Result Declaration Fault) (layers : List Layer) (name : List ℕ) → whole ≡ around_all layers inside → inside ≡ bare_name name → whole ≡ Ok (record { layers = layers; name = name })
ended whole inside layers name is end =
    let all : around_all layers (bare_name name) ≡ Ok (record { layers = layers ++ []; name = name }) = in_layers layers (record { layers = []; name = name }) in
    let none : layers ++ [] ≡ layers = append-nil layers in
    rw (is, end, all, none) refl

pub refused : (whole inside : Result Declaration Fault) (layers : List Layer) (f : Fault) → whole ≡ around_all layers inside → inside ≡ Err f → whole ≡ Err f
refused whole inside layers f is end = rw (is, end) (fault_in_layers layers f)

pub goes_on : (whole before after : Result Declaration Fault) (layers more : List Layer) (layer : Layer) → whole ≡ around_all layers before → before ≡ around layer after → more ≡ layers ++ layer ∷ [] → whole ≡ around_all more after
goes_on whole before after layers more layer is next added = rw (is, next, added) (sym (one_more_layer layers layer after))
