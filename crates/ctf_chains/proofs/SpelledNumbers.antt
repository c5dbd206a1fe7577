-- The numbers in a record are those of the type that it spells.
use Rattle.std.proofs.Common.{◌≡◌, ℕ, List, [], ◌∷◌, map, Option, Some, None, refl, sym, ap, ◌∙◌}
use Rattle.std.specs.Option.{option_map}
use Rattle.std.proofs.lemmas.Option.{same_Some}
use Rattle.ctf_model.proofs.MemberTypes.{members_types}
use Rattle.ctf_model.specs.format.Bytes.{u32_at}
use Rattle.ctf_model.specs.rules.Chains.{by_value, declarator}
use Rattle.ctf_model.specs.format.Name.{Tables, name}
use Rattle.ctf_model.specs.format.Record.{kind, is_root, field, size, vlen, member_len, behind_head}
use Rattle.ctf_model.specs.format.Spelling.{◌>>=◌, items, member_of, body_of, members, enumerators, arguments, term_of}
use Rattle.ctf_model.specs.format.Term.{Member, Enumerator, Body, Term}
use Rattle.ctf_model.specs.format.Term as term
use Rattle.ctf_model.specs.declared.kinds.Kind.{Kind}
use Rattle.ctf_model.specs.declared.kinds.Kind.TheVariants.{KUnknown, KInteger, KFloat, KPointer, KArray, KFunction, KStruct, KUnion, KEnum, KForward, KTypedef, KVolatile, KConst, KRestrict}
use Rattle.ctf_records.specs.ListedTypes.{numbers_in}
use Rattle.ctf_chains.specs.Numbers.{numbers_of_kind, numbers}
use Rattle.ctf_chains.specs.Steps.{steps}
use Rattle.ctf_chains.specs.declared.chain.Chain.{Chain}
use Rattle.ctf_chains.specs.declared.chain.Chain.TheVariants.{ByValue, Declarator}

-- ---- members

-- the types of the members of a list
items_types : (width : ℕ) (t : Tables) (n : ℕ) (b : List ℕ) (ms : List Member) → items (member_of width t) (member_len width) n b ≡ Some ms → map (λ m. m.tnum) ms ≡ numbers_in (member_len width) 4 n b
unfolding numbers_in
items_types width t n b ms e = members_types (numbers_in (member_len width) 4) width (member_len width) t (λ b. refl) (λ n b. refl) n b ms e

-- ---- bodies

-- the numbers of a body that is made from a list
listed : {A : Type 0} (numbers : Body → List ℕ) (make : List A → Body) (found : Option (List A)) (ns : List ℕ) (said : Body) → ((xs : List A) → found ≡ Some xs → numbers (make xs) ≡ ns) → option_map make found ≡ Some said → numbers said ≡ ns
listed numbers make None ns said h e = absurd cc
listed numbers make (Some xs) ns said h e = ap numbers (sym (same_Some _ _ e)) ∙ h xs refl

-- the numbers of a record's body are those in the record
body_numbers : (chain : Chain) (t : Tables) (b : List ℕ) (k : Kind) (said : Body) → body_of t b k ≡ Some said → steps chain said ≡ numbers_of_kind chain b (Some k)
body_numbers ByValue t b KUnknown said e = ap by_value (sym (same_Some _ _ e))
body_numbers ByValue t b KInteger said e = ap by_value (sym (same_Some _ _ e))
body_numbers ByValue t b KFloat said e = ap by_value (sym (same_Some _ _ e))
body_numbers ByValue t b KPointer said e = ap by_value (sym (same_Some _ _ e))
body_numbers ByValue t b KArray said e = ap by_value (sym (same_Some _ _ e))
body_numbers ByValue t b KFunction said e = listed by_value (term.function (field b)) (arguments b) [] said (λ xs h. refl) e
body_numbers ByValue t b KStruct said e = listed by_value (term.struct (size b)) (members t b) _ said (λ ms h. items_types (size b) t (vlen b) (behind_head b) ms h) e
body_numbers ByValue t b KUnion said e = listed by_value (term.union (size b)) (members t b) _ said (λ ms h. items_types (size b) t (vlen b) (behind_head b) ms h) e
body_numbers ByValue t b KEnum said e = listed by_value (term.enum (size b)) (enumerators t b) [] said (λ xs h. refl) e
body_numbers ByValue t b KForward said e = ap by_value (sym (same_Some _ _ e))
body_numbers ByValue t b KTypedef said e = ap by_value (sym (same_Some _ _ e))
body_numbers ByValue t b KVolatile said e = ap by_value (sym (same_Some _ _ e))
body_numbers ByValue t b KConst said e = ap by_value (sym (same_Some _ _ e))
body_numbers ByValue t b KRestrict said e = ap by_value (sym (same_Some _ _ e))
body_numbers Declarator t b KUnknown said e = ap declarator (sym (same_Some _ _ e))
body_numbers Declarator t b KInteger said e = ap declarator (sym (same_Some _ _ e))
body_numbers Declarator t b KFloat said e = ap declarator (sym (same_Some _ _ e))
body_numbers Declarator t b KPointer said e = ap declarator (sym (same_Some _ _ e))
body_numbers Declarator t b KArray said e = ap declarator (sym (same_Some _ _ e))
body_numbers Declarator t b KFunction said e = listed declarator (term.function (field b)) (arguments b) (field b ∷ []) said (λ xs h. refl) e
body_numbers Declarator t b KStruct said e = listed declarator (term.struct (size b)) (members t b) [] said (λ xs h. refl) e
body_numbers Declarator t b KUnion said e = listed declarator (term.union (size b)) (members t b) [] said (λ xs h. refl) e
body_numbers Declarator t b KEnum said e = listed declarator (term.enum (size b)) (enumerators t b) [] said (λ xs h. refl) e
body_numbers Declarator t b KForward said e = ap declarator (sym (same_Some _ _ e))
body_numbers Declarator t b KTypedef said e = ap declarator (sym (same_Some _ _ e))
body_numbers Declarator t b KVolatile said e = ap declarator (sym (same_Some _ _ e))
body_numbers Declarator t b KConst said e = ap declarator (sym (same_Some _ _ e))
body_numbers Declarator t b KRestrict said e = ap declarator (sym (same_Some _ _ e))

-- ---- types

-- the numbers of the type that a record spells are those in the record
pub spelled_numbers : (chain : Chain) (t : Tables) (b : List ℕ) (x : Term) → term_of t b ≡ Some x → steps chain x.body ≡ numbers chain b
unfolding term_of
spelled_numbers chain t b x e = by_kind (kind b) (name t (u32_at b 0)) e
  where
    by_body : (k : Kind) (text : List ℕ) (o : Option Body) → body_of t b k ≡ o → (o >>= λ said. Some (let y : Term = record { name = text; root = is_root b; body = said } in y)) ≡ Some x → steps chain x.body ≡ numbers_of_kind chain b (Some k)
    by_body k text None h e = absurd cc
    by_body k text (Some said) h e = ap (λ (y : Term). steps chain y.body) (sym (same_Some _ _ e)) ∙ body_numbers chain t b k said h

    by_kind : (o : Option Kind) (named : Option (List ℕ)) → (o >>= λ k. (named >>= λ text. (body_of t b k >>= λ said. Some (let y : Term = record { name = text; root = is_root b; body = said } in y)))) ≡ Some x → steps chain x.body ≡ numbers_of_kind chain b o
    by_kind None named e = absurd cc
    by_kind (Some k) None e = absurd cc
    by_kind (Some k) (Some text) e = by_body k text (body_of t b k) refl e
