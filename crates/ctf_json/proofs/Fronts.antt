-- Items and members that were parsed before others.
use Rattle.std.proofs.Common.{◌≡◌, ℕ, List, [], ◌∷◌, ◌++◌, Bool, true, false, ◌&&◌, cond, Option, Some, None, refl, sym, ap, ◌∙◌, bytes_eq}
use Rattle.std.proofs.lemmas.Bool.{false≢true}
use Rattle.json.specs.Token.{Token}
use Rattle.json.specs.Json as json
use Rattle.json.specs.Find as found
use Rattle.serde_json.specs.Data.{Data, Items, item}
use Rattle.ctf_json.specs.TreeData.{tree_data, items_data, in_range, items_in_range, members_in_range}
use Rattle.ctf_json.specs.Values.{front, are}

-- ---- items

true_first : (a b : Bool) → a ≡ true → a && b ≡ b
true_first true b e = refl
true_first false b e = absurd (false≢true e)

-- these items, with data `xs`, were parsed before others
pub record Fronts {A : Type 0} (test : Data → Bool) (says : A → Data) (xs : List A) (f : json.Items → json.Items) : Type 0 where
  pub good : (js : json.Items) → items_in_range (f js) ≡ items_in_range js
  pub tested : (js : json.Items) → are test (items_data (f js)) ≡ are test (items_data js)
  pub said : (js : json.Items) → items_data (f js) ≡ front says xs (items_data js)

pub no_front : {A : Type 0} (test : Data → Bool) (says : A → Data) → Fronts test says [] (λ js. js)
no_front test says = record {
  good = λ js. refl;
  tested = λ js. refl;
  said = λ js. refl;
}

pub front-snoc : {A : Type 0} (says : A → Data) (xs : List A) (x : A) (ds : Items) → front says (xs ++ x ∷ []) ds ≡ front says xs (item (says x) ds)
front-snoc says [] x ds = refl
front-snoc says (y ∷ xs) x ds = ap (item (says y)) (front-snoc says xs x ds)

pub one_more : {A : Type 0} (test : Data → Bool) (says : A → Data) (xs : List A) (f : json.Items → json.Items) (x : A) (j : json.Json) → Fronts test says xs f → in_range j ≡ true → test (tree_data j) ≡ true → tree_data j ≡ says x
    → Fronts test says (xs ++ x ∷ []) (λ js. f (json.item j js))
one_more test says xs f x j so_far good ok is = record {
  good = λ js. so_far.good (json.item j js) ∙ true_first (in_range j) (items_in_range js) good;
  tested = λ js. so_far.tested (json.item j js) ∙ true_first (test (tree_data j)) (are test (items_data js)) ok;
  said = λ js. so_far.said (json.item j js) ∙ ap (λ d. front says xs (item d (items_data js))) is ∙ sym (front-snoc says xs x (items_data js));
}

-- ---- members

-- these members were parsed before others; `g` gives the last one of each name
pub record Before (f : json.Members → json.Members) (g : List ℕ → Option json.Json) : Type 0 where
  pub good : (ms : json.Members) → members_in_range (f ms) ≡ members_in_range ms
  pub last : (q : List ℕ) (ms : json.Members) → found.get_member q (f ms) ≡ found.later_or (found.get_member q ms) (g q)

pub none_before : Before (λ ms. ms) (λ q. None)
none_before = record {
  good = λ ms. refl;
  last = λ q ms. later-none (found.get_member q ms);
}
  where
    later-none : (o : Option json.Json) → o ≡ found.later_or o None
    later-none None = refl
    later-none (Some j) = refl

later-later : (a b c : Option json.Json) → found.later_or (found.later_or a b) c ≡ found.later_or a (found.later_or b c)
later-later None b c = refl
later-later (Some j) b c = refl

-- the last of each name, with one more
abbrev pub then_last : List ℕ → json.Json → (List ℕ → Option json.Json) → List ℕ → Option json.Json
then_last k j g q = found.later_or (cond (bytes_eq k q) (Some j) None) (g q)

pub one_member_more : (f : json.Members → json.Members) (g : List ℕ → Option json.Json) (k : List ℕ) (j : json.Json) → Before f g → in_range j ≡ true → Before (λ ms. f (json.member k j ms)) (then_last k j g)
one_member_more f g k j so_far good = record {
  good = λ ms. so_far.good (json.member k j ms) ∙ true_first (in_range j) (members_in_range ms) good;
  last = λ q ms. so_far.last q (json.member k j ms) ∙ later-later (found.get_member q ms) (cond (bytes_eq k q) (Some j) None) (g q);
}

pub mapped : {A : Type 0} (f g : A → A) (o : Option (A × List Token)) → json.parse_map f (json.parse_map g o) ≡ json.parse_map (λ a. f (g a)) o
mapped f g None = refl
mapped f g (Some p) = refl

pub unmoved : {A : Type 0} (o : Option (A × List Token)) → o ≡ json.parse_map (λ a. a) o
unmoved None = refl
unmoved (Some p) = refl
