-- The fields of a line, by the index of their key.
use Rattle.std.proofs.Common.{◌≡◌, ℕ, suc, ◌<◌, List, [], ◌∷◌, length, get_or, set, Bool, true, false, ◌&&◌, ◌||◌, not, cond, Option, Some, None, option_map, refl, sym, ap, ◌∙◌, subst, bytes_eq, arith}
use Rattle.std.specs.Prelude.{⊤, if◌then◌else◌}
use Rattle.std.proofs.lemmas.Bool.{false≢true}
use Rattle.std.proofs.lemmas.Slice.Eq.{bytes_eq-Decides}
use Rattle.serde_json.specs.Data.{Data, Members, put}
use Rattle.serde_json.specs.Find.{get_member}
use Rattle.serde_json.proofs.Views.{get_member-put, get_member-put_other}
use Rattle.ctf_json.specs.Keys.{place_in}
use Rattle.ctf_json.specs.TreeData.{is_one_of}
use Rattle.ctf_json.specs.Values.{keys, members_data, put_some, data_of}
use Rattle.ctf_json.specs.declared.values.Field.{Field}

abbrev Fields : Type 0
Fields = List (Option Field)

-- the value at a name
abbrev pub at_name : List ℕ → List (List ℕ) → Fields → Option Data
at_name q [] vs = None
at_name q (k ∷ ks) [] = None
at_name q (k ∷ ks) (v ∷ vs) = if bytes_eq q k then option_map data_of v else at_name q ks vs

abbrev pub apart : List (List ℕ) → Bool
apart [] = true
apart (k ∷ ks) = not (is_one_of k ks) && apart ks

both_true : (a b : Bool) → a && b ≡ true → (a ≡ true) × (b ≡ true)
both_true true b e = (refl, e)
both_true false b e = absurd (false≢true e)

-- ---- members by name

put_same : (q k : List ℕ) (v : Option Data) (ms : Members) → q ≡ k → get_member q ms ≡ None → get_member q (put_some k v ms) ≡ v
put_same q k None ms e none = none
put_same q k (Some d) ms e none = ap (λ x. get_member x (put k d ms)) e ∙ get_member-put k d ms

put_other : (q k : List ℕ) (v : Option Data) (ms : Members) → (q ≡ k → ⊥) → get_member q (put_some k v ms) ≡ get_member q ms
put_other q k None ms other = refl
put_other q k (Some d) ms other = get_member-put_other q k d ms other

apart_from : (q k : List ℕ) → bytes_eq q k ≡ false → q ≡ k → ⊥
apart_from q k e same = false≢true (sym e ∙ (bytes_eq-Decides q k).1 same)

or_false : (a b : Bool) → a || b ≡ false → (a ≡ false) × (b ≡ false)
or_false true b e = absurd (false≢true (sym e))
or_false false b e = (refl, e)

is_not : (b : Bool) → not b ≡ true → b ≡ false
is_not true e = absurd (false≢true e)
is_not false e = refl

pub not_there : (q : List ℕ) (ks : List (List ℕ)) (vs : Fields) → is_one_of q ks ≡ false → get_member q (members_data ks vs) ≡ None
not_there q [] vs e = refl
not_there q (k ∷ ks) [] e = refl
not_there q (k ∷ ks) (v ∷ vs) e =
    let parts = or_false (bytes_eq q k) (is_one_of q ks) e in
    put_other q k (option_map data_of v) (members_data ks vs) (apart_from q k parts.0) ∙ not_there q ks vs parts.1

module _ (q k : List ℕ) (ks : List (List ℕ)) (v : Option Field) (vs : Fields) where
  member_by : (b : Bool) → bytes_eq q k ≡ b → is_one_of k ks ≡ false → get_member q (members_data ks vs) ≡ at_name q ks vs → get_member q (put_some k (option_map data_of v) (members_data ks vs)) ≡ (if b then option_map data_of v else at_name q ks vs)
  member_by true e alone more =
      let same : q ≡ k = (bytes_eq-Decides q k).0 e in
      put_same q k (option_map data_of v) (members_data ks vs) same (not_there q ks vs (ap (λ x. is_one_of x ks) same ∙ alone))
  member_by false e alone more = put_other q k (option_map data_of v) (members_data ks vs) (apart_from q k e) ∙ more

pub member_is : (q : List ℕ) (ks : List (List ℕ)) (vs : Fields) → apart ks ≡ true → get_member q (members_data ks vs) ≡ at_name q ks vs
member_is q [] vs e = refl
member_is q (k ∷ ks) [] e = refl
member_is q (k ∷ ks) (v ∷ vs) e =
    let parts = both_true (not (is_one_of k ks)) (apart ks) e in
    member_by q k ks v vs (bytes_eq q k) refl (is_not (is_one_of k ks) parts.0) (member_is q ks vs parts.1)

-- ---- indexes

abbrev IsNowhere : Option ℕ → Type 0
IsNowhere None = ⊤
IsNowhere (Some n) = ⊥

abbrev or_zero : Option ℕ → ℕ
or_zero None = 0
or_zero (Some n) = n

unmapped : (o : Option ℕ) → option_map suc o ≡ None → o ≡ None
unmapped None e = refl
unmapped (Some n) e = absurd (subst IsNowhere (sym e) tt)

-- an index after the first
behind_first : (o : Option ℕ) (i : ℕ) → option_map suc o ≡ Some i → (n : ℕ) × (o ≡ Some n) × (i ≡ suc n)
behind_first None i e = absurd (subst IsNowhere e tt)
behind_first (Some n) i e = (n, refl, ap or_zero (sym e))

module _ (q k : List ℕ) (ks : List (List ℕ)) (v : Option Field) (vs : Fields) where
  at_place_by : (b : Bool) (i : ℕ) → (if b then Some 0 else option_map suc (place_in q ks)) ≡ Some i → ((n : ℕ) → place_in q ks ≡ Some n → at_name q ks vs ≡ option_map data_of (get_or vs n None))
      → (if b then option_map data_of v else at_name q ks vs) ≡ option_map data_of (get_or (v ∷ vs) i None)
  at_place_by true i e more = ap (λ n. option_map data_of (get_or (v ∷ vs) (or_zero n) None)) e
  at_place_by false i e more =
      let on = behind_first (place_in q ks) i e in
      more on.0 on.1 ∙ ap (λ n. option_map data_of (get_or (v ∷ vs) n None)) (sym on.2)

pub at_place : (q : List ℕ) (ks : List (List ℕ)) (vs : Fields) (i : ℕ) → place_in q ks ≡ Some i → at_name q ks vs ≡ option_map data_of (get_or vs i None)
at_place q [] vs i e = absurd (subst IsNowhere e tt)
at_place q (k ∷ ks) [] i e = refl
at_place q (k ∷ ks) (v ∷ vs) i e = at_place_by q k ks v vs (bytes_eq q k) i e (at_place q ks vs)

module _ (q k : List ℕ) (ks : List (List ℕ)) (v : Option Field) (vs : Fields) where
  no_place_by : (b : Bool) → (if b then Some 0 else option_map suc (place_in q ks)) ≡ None → (place_in q ks ≡ None → at_name q ks vs ≡ None) → (if b then option_map data_of v else at_name q ks vs) ≡ None
  no_place_by true e more = absurd (subst IsNowhere (sym e) tt)
  no_place_by false e more = more (unmapped (place_in q ks) e)

pub no_place : (q : List ℕ) (ks : List (List ℕ)) (vs : Fields) → place_in q ks ≡ None → at_name q ks vs ≡ None
no_place q [] vs e = refl
no_place q (k ∷ ks) [] e = refl
no_place q (k ∷ ks) (v ∷ vs) e = no_place_by q k ks v vs (bytes_eq q k) e (no_place q ks vs)

-- the value of a line at a name with an index
pub field_is : (q : List ℕ) (vs : Fields) (i : ℕ) → Some i ≡ place_in q keys → option_map data_of (get_or vs i None) ≡ get_member q (members_data keys vs)
field_is q vs i e = sym (member_is q keys vs refl ∙ at_place q keys vs i (sym e))

pub no_field : (q : List ℕ) (vs : Fields) → None ≡ place_in q keys → None ≡ get_member q (members_data keys vs)
no_field q vs e = sym (member_is q keys vs refl ∙ no_place q keys vs (sym e))

-- ---- storing a field

pub same_eq : (a b : List ℕ) (c : Bool) → bytes_eq a b ≡ c → bytes_eq b a ≡ c
same_eq a b true e = (bytes_eq-Decides b a).1 (sym ((bytes_eq-Decides a b).0 e))
same_eq a b false e = not_true (bytes_eq b a) (λ t. false≢true (sym e ∙ (bytes_eq-Decides a b).1 (sym ((bytes_eq-Decides b a).0 t))))
  where
    not_true : (x : Bool) → (x ≡ true → ⊥) → x ≡ false
    not_true true never = absurd (never refl)
    not_true false never = refl

first_of : {A : Type 0} (c : Bool) (x u y : A) → (if c then x else y) ≡ cond c x (if c then u else y)
first_of true x u y = refl
first_of false x u y = refl

module _ (k q l : List ℕ) (ks : List (List ℕ)) (v : Option Field) (vs : Fields) (f : Field) where
  -- `l` is the first name of the list
  set_first : k ≡ l → at_name q (l ∷ ks) (Some f ∷ vs) ≡ cond (bytes_eq k q) (Some (data_of f)) (at_name q (l ∷ ks) (v ∷ vs))
  set_first e =
      let same : bytes_eq q l ≡ bytes_eq k q = sym (same_eq q l (bytes_eq q l) refl) ∙ ap (λ x. bytes_eq x q) (sym e) in
      ap (λ c. if c then Some (data_of f) else at_name q ks vs) same ∙ first_of (bytes_eq k q) (Some (data_of f)) (option_map data_of v) (at_name q ks vs)
      ∙ ap (λ c. cond (bytes_eq k q) (Some (data_of f)) (if c then option_map data_of v else at_name q ks vs)) (sym same)

  set_behind : (n : ℕ) (b : Bool) → bytes_eq q l ≡ b → bytes_eq k l ≡ false → at_name q ks (set vs n (Some f)) ≡ cond (bytes_eq k q) (Some (data_of f)) (at_name q ks vs)
      → (if b then option_map data_of v else at_name q ks (set vs n (Some f))) ≡ cond (bytes_eq k q) (Some (data_of f)) (if b then option_map data_of v else at_name q ks vs)
  set_behind n true e other more =
      let is : bytes_eq k q ≡ false = ap (bytes_eq k) ((bytes_eq-Decides q l).0 e) ∙ other in
      sym (ap (λ c. cond c (Some (data_of f)) (option_map data_of v)) is)
  set_behind n false e other more = more

module _ (k q l : List ℕ) (ks : List (List ℕ)) (v : Option Field) (vs : Fields) (i : ℕ) (f : Field) where
  set_by : (b : Bool) → bytes_eq k l ≡ b → (if b then Some 0 else option_map suc (place_in k ks)) ≡ Some i → i < length (v ∷ vs)
      → ((n : ℕ) → place_in k ks ≡ Some n → n < length vs → at_name q ks (set vs n (Some f)) ≡ cond (bytes_eq k q) (Some (data_of f)) (at_name q ks vs))
      → at_name q (l ∷ ks) (set (v ∷ vs) i (Some f)) ≡ cond (bytes_eq k q) (Some (data_of f)) (at_name q (l ∷ ks) (v ∷ vs))
  set_by true is at h more = ap (λ n. at_name q (l ∷ ks) (set (v ∷ vs) (or_zero n) (Some f))) (sym at) ∙ set_first k q l ks v vs f ((bytes_eq-Decides k l).0 is)
  set_by false is at h more =
      let on = behind_first (place_in k ks) i at in
      let less : on.0 < length vs = omega (arith, on.2, h) in
      ap (λ n. at_name q (l ∷ ks) (set (v ∷ vs) n (Some f))) on.2 ∙ set_behind k q l ks v vs f on.0 (bytes_eq q l) refl is (more on.0 on.1 less)

pub set_place : (k q : List ℕ) (ks : List (List ℕ)) (vs : Fields) (i : ℕ) (f : Field) → place_in k ks ≡ Some i → i < length vs → at_name q ks (set vs i (Some f)) ≡ cond (bytes_eq k q) (Some (data_of f)) (at_name q ks vs)
set_place k q [] vs i f e h = absurd (subst IsNowhere e tt)
set_place k q (l ∷ ks) [] i f e h = absurd (omega arith)
set_place k q (l ∷ ks) (v ∷ vs) i f e h = set_by k q l ks v vs i f (bytes_eq k l) refl e h (λ n at less. set_place k q ks vs n f at less)
