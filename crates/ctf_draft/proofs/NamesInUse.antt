-- The names in use, and their hashes.
use Rattle.std.proofs.Common.{◌≡◌, ℕ, Bool, true, false, cond, List, [], ◌∷◌, ◌++◌, length, map, Option, Some, is_some, Vec, refl, sym, ap, ◌∙◌, arith}
use Rattle.std.specs.Prelude.{◌&&◌, ◌||◌, ◌==◌, not, nat_eq, unwrap_or}
use Rattle.std.specs.List.{list_any}
use Rattle.std.specs.Map.{keys_of, lookup}
use Rattle.std.specs.Str.{bytes_eq}
use Rattle.std.specs.Cmp.Lexicographic.{bytes_decides}
use Rattle.std.specs.declared.alloc.Global.{Global}
use Rattle.std.proofs.lemmas.Bool.{false≢true}
use Rattle.std.proofs.lemmas.List.{map-append}
use Rattle.std.proofs.lemmas.List.Folds.{list_all-append, list_any-append}
use Rattle.indexmap.specs.IndexMap.{insert_entry}
use Rattle.indexmap.specs.IndexSet.{insert_key}
use Rattle.indexmap.proofs.SetLemmas.{keys_insert_entry}
use Rattle.ctf_model.specs.drafts.Adders.{is_taken}
use Rattle.ctf_model.specs.format.Shown.{enumerators_in, members_in, shown}
use Rattle.ctf_model.specs.format.Term as term
use Rattle.ctf_draft.specs.NamesInUseView.{are_hashed, has_hash, may_be_in, name_hash, names_in, with_hash}
use Rattle.ctf_draft.specs.TypeView.{aggregate_body, body_of, enumerator_of, member_of}
use Rattle.ctf_draft.specs.declared.types.AggregateKind.{AggregateKind}
use Rattle.ctf_draft.specs.declared.types.AggregateKind.TheVariants.{Struct, Union}
use Rattle.ctf_draft.specs.declared.types.Body.{Body}
use Rattle.ctf_draft.specs.declared.types.Body.TheVariants as owned
use Rattle.ctf_draft.specs.declared.types.DraftType.{DraftType}
use Rattle.ctf_draft.specs.declared.types.Enumerator.{Enumerator}
use Rattle.ctf_draft.specs.declared.types.Member.{Member}
use Rattle.ctf_draft.proofs.Among.{map_twice}

-- ---- finding a name

abbrev is_hashed : List ℕ → List ℕ → Bool
is_hashed hashes name = (length name == 0) || has_hash hashes name

-- a name that is among the names has its hash among the hashes
among_hashed : (hashes name : List ℕ) (names : List (List ℕ)) → are_hashed hashes names ≡ true → list_any (bytes_eq name) names ≡ true → is_hashed hashes name ≡ true
among_hashed hashes name [] all any = absurd (false≢true any)
among_hashed hashes name (n ∷ names) all any = at (bytes_eq name n) (is_hashed hashes n) (λ e. ap (is_hashed hashes) ((bytes_decides name n).0 e)) (among_hashed hashes name names) all any
  where
    at : (b h : Bool) → (b ≡ true → is_hashed hashes name ≡ h) → (are_hashed hashes names ≡ true → list_any (bytes_eq name) names ≡ true → is_hashed hashes name ≡ true) → (h && are_hashed hashes names) ≡ true → (b || list_any (bytes_eq name) names) ≡ true → is_hashed hashes name ≡ true
    at true true same rest all any = same refl
    at false true same rest all any = rest all any
    at b false same rest all any = absurd (false≢true all)

-- where the hash is not found, no comparison is needed
pub taken_is : (hashes name : List ℕ) (names : List (List ℕ)) → are_hashed hashes names ≡ true → (may_be_in hashes name && list_any (bytes_eq name) names) ≡ is_taken name names
taken_is hashes name names all = at (length name == 0) (has_hash hashes name) (list_any (bytes_eq name) names) (among_hashed hashes name names all)
  where
    at : (b h any : Bool) → (any ≡ true → (b || h) ≡ true) → ((not b && h) && any) ≡ (not b && any)
    at true h any found = refl
    at false true any found = refl
    at false false true found = absurd (false≢true (found refl))
    at false false false found = refl

-- ---- adding a name

later_hashed : (hashes : List ℕ) (hash : ℕ) (names : List (List ℕ)) → are_hashed hashes names ≡ true → are_hashed (hashes ++ hash ∷ []) names ≡ true
later_hashed hashes hash [] all = refl
later_hashed hashes hash (n ∷ names) all = at (length n == 0) (has_hash hashes n) (has_hash (hashes ++ hash ∷ []) n) (nat_eq (name_hash n) hash || false) (list_any-append (nat_eq (name_hash n)) hashes (hash ∷ [])) (later_hashed hashes hash names) all
  where
    at : (b h i j : Bool) → i ≡ (h || j) → (are_hashed hashes names ≡ true → are_hashed (hashes ++ hash ∷ []) names ≡ true) → ((b || h) && are_hashed hashes names) ≡ true → ((b || i) && are_hashed (hashes ++ hash ∷ []) names) ≡ true
    at true h i j is rest all = rest all
    at false true i j is rest all = ap (λ k. k && are_hashed (hashes ++ hash ∷ []) names) is ∙ rest all
    at false false i j is rest all = absurd (false≢true all)

still_hashed : (hashes new : List ℕ) (names : List (List ℕ)) → are_hashed hashes names ≡ true → are_hashed (with_hash hashes new) names ≡ true
still_hashed hashes new names all = at (length new == 0) (has_hash hashes new)
  where
    at : (b h : Bool) → are_hashed (cond b hashes (cond h hashes (hashes ++ name_hash new ∷ []))) names ≡ true
    at true h = all
    at false true = all
    at false false = later_hashed hashes (name_hash new) names all

new_hashed : (hashes new : List ℕ) → is_hashed (with_hash hashes new) new ≡ true
new_hashed hashes new = at (length new == 0) (has_hash hashes new) refl
  where
    itself : nat_eq (name_hash new) (name_hash new) ≡ true
    itself = same (name_hash new)
      where
        same : (n : ℕ) → nat_eq n n ≡ true
        same n = grind arith

    last : has_hash hashes new ≡ false → has_hash (hashes ++ name_hash new ∷ []) new ≡ true
    last none = list_any-append (nat_eq (name_hash new)) hashes (name_hash new ∷ []) ∙ ap (λ h. h || (nat_eq (name_hash new) (name_hash new) || false)) none ∙ ap (λ h. h || false) itself

    at : (b h : Bool) → has_hash hashes new ≡ h → (b || has_hash (cond b hashes (cond h hashes (hashes ++ name_hash new ∷ []))) new) ≡ true
    at true h is = refl
    at false true is = is
    at false false is = last is

-- one more name, and its hash
pub one_more : {X : Type 0} (name : X → List ℕ) (hashes : List ℕ) (xs : List X) (x : X) → are_hashed hashes (map name xs) ≡ true → are_hashed (with_hash hashes (name x)) (map name (xs ++ x ∷ [])) ≡ true
one_more name hashes xs x all =
    ap (are_hashed (with_hash hashes (name x))) (map-append name xs (x ∷ []))
    ∙ list_all-append (is_hashed (with_hash hashes (name x))) (map name xs) (name x ∷ [])
    ∙ ap (λ b. b && (is_hashed (with_hash hashes (name x)) (name x) && true)) (still_hashed hashes (name x) (map name xs) all)
    ∙ ap (λ b. b && true) (new_hashed hashes (name x))

-- ---- of members and enumerators

-- in a type of a draft
pub members_kept : (t : DraftType) (kind : AggregateKind) (size : ℕ) (members : Vec Member Global) (name : List ℕ) → t.body ≡ owned.Aggregate kind size members → (may_be_in t.taken name && list_any (bytes_eq name) (map (λ m. m.name) members.items)) ≡ is_taken name (map (λ m. m.name) (unwrap_or (members_in (shown (body_of t.body))) []))
members_kept t kind size members name is =
    taken_is t.taken name (map (λ m. m.name) members.items) (ap (λ (b : Body). are_hashed t.taken (names_in b)) (sym is) ∙ t.kept)
    ∙ given kind
    ∙ ap (λ (b : Body). is_taken name (map (λ m. m.name) (unwrap_or (members_in (shown (body_of b))) []))) (sym is)
  where
    given : (kind : AggregateKind) → is_taken name (map (λ m. m.name) members.items) ≡ is_taken name (map (λ m. m.name) (unwrap_or (members_in (shown (aggregate_body kind size (map member_of members.items)))) []))
    given Struct = ap (is_taken name) (sym (map_twice member_of (λ (m : term.Member). m.name) members.items))
    given Union = ap (is_taken name) (sym (map_twice member_of (λ (m : term.Member). m.name) members.items))

pub enumerators_kept : (t : DraftType) (size : ℕ) (enumerators : Vec Enumerator Global) (name : List ℕ) → t.body ≡ owned.Enum size enumerators → (may_be_in t.taken name && list_any (bytes_eq name) (map (λ e. e.name) enumerators.items)) ≡ is_taken name (map (λ e. e.name) (unwrap_or (enumerators_in (shown (body_of t.body))) []))
enumerators_kept t size enumerators name is =
    taken_is t.taken name (map (λ e. e.name) enumerators.items) (ap (λ (b : Body). are_hashed t.taken (names_in b)) (sym is) ∙ t.kept)
    ∙ ap (is_taken name) (sym (map_twice enumerator_of (λ (e : term.Enumerator). e.name) enumerators.items))
    ∙ ap (λ (b : Body). is_taken name (map (λ e. e.name) (unwrap_or (enumerators_in (shown (body_of b))) []))) (sym is)

-- ---- places of names

-- a hash has a place exactly if it is among the hashes
placed : (test : ℕ → Bool) (entries : List (ℕ × ℕ)) → is_some (lookup test entries) ≡ list_any test (keys_of entries)
placed test [] = refl
placed test (e ∷ entries) = at (test e.0) (placed test entries)
  where
    at : (b : Bool) → is_some (lookup test entries) ≡ list_any test (keys_of entries) → is_some (cond b (Some e.1) (lookup test entries)) ≡ (b || list_any test (keys_of entries))
    at true rest = refl
    at false rest = rest

pub may_be_placed : (entries : List (ℕ × ℕ)) (name : List ℕ) (hash : ℕ) (found : Option ℕ) → hash ≡ name_hash name → (length name == 0) ≡ false → found ≡ lookup (nat_eq hash) entries → is_some found ≡ may_be_in (keys_of entries) name
may_be_placed entries name hash found of_name some is =
    ap is_some is ∙ placed (nat_eq hash) entries ∙ ap (λ h. list_any (nat_eq h) (keys_of entries)) of_name ∙ ap (λ b. not b && has_hash (keys_of entries) name) (sym some)

pub entered : (entries all : List (ℕ × ℕ)) (name : List ℕ) (hash place : ℕ) → hash ≡ name_hash name → (length name == 0) ≡ false → all ≡ insert_entry nat_eq entries hash place → keys_of all ≡ with_hash (keys_of entries) name
entered entries all name hash place of_name some is =
    ap keys_of is ∙ keys_insert_entry nat_eq entries hash place ∙ ap (insert_key nat_eq (keys_of entries)) of_name ∙ ap (λ b. cond b (keys_of entries) (insert_key nat_eq (keys_of entries) (name_hash name))) (sym some)
