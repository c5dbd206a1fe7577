-- Labels as stored in the map.
use Rattle.std.proofs.Common.{◌≡◌, ℕ, ◌++◌, Bool, false, List, [], ◌∷◌, map, Option, Some, None, is_some, Vec, refl, ap, ◌∙◌}
use Rattle.std.specs.Prelude.{◌||◌, nat_eq}
use Rattle.std.specs.Cmp.Lexicographic.{pointwise}
use Rattle.std.specs.List.{list_any}
use Rattle.std.specs.Map.{keys_of, lookup}
use Rattle.std.specs.Str.{bytes_eq}
use Rattle.std.specs.declared.alloc.Global.{Global}
use Rattle.std.proofs.lemmas.List.{map-append}
use Rattle.std.proofs.lemmas.Map.Made.{is_some-lookup}
use Rattle.ctf_draft.specs.LabelView.{label_in, labels_in}

-- a key is the name of a label
keys_named : (test : List ℕ → Bool) (es : List (Vec ℕ Global × ℕ)) → list_any (λ (k : Vec ℕ Global). test k.items) (keys_of es) ≡ list_any test (map (λ l. l.name) (labels_in es))
keys_named test [] = refl
keys_named test (e ∷ es) = ap (λ b. test e.0.items || b) (keys_named test es)

-- a name is found if a label has it
pub has_is : (name : List ℕ) (es : List (Vec ℕ Global × ℕ)) → is_some (lookup (λ (k : Vec ℕ Global). pointwise nat_eq name k.items) es) ≡ list_any (bytes_eq name) (map (λ l. l.name) (labels_in es))
has_is name es = is_some-lookup (λ (k : Vec ℕ Global). pointwise nat_eq name k.items) es ∙ keys_named (bytes_eq name) es

none_is : {A : Type 0} (o : Option A) → is_some o ≡ false → o ≡ None
none_is None h = refl
none_is (Some a) h = absurd cc

-- and not found if none has it
pub fresh_is : (name : List ℕ) (es : List (Vec ℕ Global × ℕ)) → list_any (bytes_eq name) (map (λ l. l.name) (labels_in es)) ≡ false → lookup (λ (k : Vec ℕ Global). pointwise nat_eq name k.items) es ≡ None
fresh_is name es h = none_is (lookup (λ (k : Vec ℕ Global). pointwise nat_eq name k.items) es) (has_is name es ∙ h)

-- one more entry is one more label
pub one_more : (es : List (Vec ℕ Global × ℕ)) (name : Vec ℕ Global) (last : ℕ) → labels_in (es ++ (name, last) ∷ []) ≡ labels_in es ++ (record { name = name.items; last = last }) ∷ []
one_more es name last = map-append label_in es ((name, last) ∷ [])
