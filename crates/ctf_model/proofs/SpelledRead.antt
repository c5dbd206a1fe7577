-- A record spells a type exactly if reading its fields gives that type.
use Rattle.std.proofs.Common.{◌≡◌, ◌<◌, ◌≤◌, ℕ, zero, suc, ◌+◌, ◌*◌, ◌^◌, Bool, true, false, ltb, eqb, ℤ, List, [], ◌∷◌, drop, length, Option, Some, None, refl, sym, ap, subst, ◌∙◌, arith}
use Rattle.std.specs.Option.{option_map, option_and_then}
use Rattle.std.specs.Int.{cast_signed, w32}
use Rattle.ctf_model.specs.format.Bytes.{u16_at, u32_at}
use Rattle.ctf_model.specs.format.Name.{Tables, name}
use Rattle.ctf_model.specs.format.Record.{IsWhole, kind, is_root, field, size, vlen, member_len, behind_head}
use Rattle.ctf_model.specs.format.SpelledTypes.{Stand, AreListed, IsNarrowMember, IsWideMember, IsMember, AreMembers, IsEnumerator, IsArgument, IsScalar, IsArray, Declares, IsBody, HasStrayMark, Spells}
use Rattle.ctf_model.specs.format.Spelling.{items, member_of, narrow_member, wide_member, enumerator_of, argument_of, members, enumerators, arguments, scalar, elements, tag, body_of, term_of}
use Rattle.ctf_model.specs.format.Term.{Scalar, Elements, Member, Enumerator, Tag, Body, Term}
use Rattle.ctf_model.specs.format.Term as term
use Rattle.ctf_model.specs.declared.kinds.Kind.{Kind}
use Rattle.ctf_model.specs.declared.kinds.Kind.TheVariants.{KUnknown, KInteger, KFloat, KPointer, KArray, KFunction, KStruct, KUnion, KEnum, KForward, KTypedef, KVolatile, KConst, KRestrict}
use Rattle.std.proofs.lemmas.Option.{same_Some}
use Rattle.std.proofs.lemmas.Bool.{ltb-true, ltb-false, eqb-true, eqb-false}

-- ---- lists of items

-- a reader of items gives exactly the item in the bytes
record IsReader {A : Type 0} (Is : List ℕ → A → Type 0) (item : List ℕ → Option A) : Type 0 where
  read : (b : List ℕ) (x : A) → Is b x → item b ≡ Some x
  stands : (b : List ℕ) (x : A) → item b ≡ Some x → Is b x

items_read : {A : Type 0} (Is : List ℕ → A → Type 0) (item : List ℕ → Option A) (len : ℕ) → IsReader Is item → (xs : List A) (b : List ℕ) → Stand Is len b xs → items item len (length xs) b ≡ Some xs
items_read Is item len r [] b h = refl
items_read Is item len r (x ∷ xs) b h = rw (r.read b x h.0, items_read Is item len r xs (drop len b) h.1) refl

-- the same for a list with one more item in front
next_stands : {A : Type 0} (Is : List ℕ → A → Type 0) (item : List ℕ → Option A) (len : ℕ) → IsReader Is item → (n : ℕ) (b : List ℕ)
    → ((ys : List A) → items item len n (drop len b) ≡ Some ys → (length ys ≡ n) × Stand Is len (drop len b) ys)
    → (first : Option A) → item b ≡ first → (others : Option (List A)) → items item len n (drop len b) ≡ others
    → (xs : List A) → items item len (suc n) b ≡ Some xs → (length xs ≡ suc n) × Stand Is len b xs
next_stands Is item len r n b later None f others o xs e = absurd (let e = rw f at e in cc)
next_stands Is item len r n b later (Some x) f None o xs e = absurd (let e = rw (f, o) at e in cc)
next_stands Is item len r n b later (Some x) f (Some ys) o [] e = absurd (let e = rw (f, o) at e in cc)
next_stands Is item len r n b later (Some x) f (Some ys) o (z ∷ zs) e =
    let same : x ∷ ys ≡ z ∷ zs = same_Some (x ∷ ys) (z ∷ zs) (rw (f, o) at e) in
    let here : x ≡ z = cc in
    let there : ys ≡ zs = cc in
    let rest = later ys o in
    rw (← here, ← there) (ap suc rest.0, (r.stands b x f, rest.1))

items_stand : {A : Type 0} (Is : List ℕ → A → Type 0) (item : List ℕ → Option A) (len : ℕ) → IsReader Is item → (n : ℕ) (b : List ℕ) (xs : List A) → items item len n b ≡ Some xs → (length xs ≡ n) × Stand Is len b xs
items_stand Is item len r zero b [] e = (refl, tt)
items_stand Is item len r zero b (x ∷ xs) e = absurd cc
items_stand Is item len r (suc n) b xs e = next_stands Is item len r n b (items_stand Is item len r n (drop len b)) (item b) refl (items item len n (drop len b)) refl xs e

-- ---- items

-- a value made from a text
map_some : {A : Type 0} (make : List ℕ → A) (o : Option (List ℕ)) (x : A) → option_map make o ≡ Some x → (text : List ℕ) × (o ≡ Some text) × (make text ≡ x)
map_some make None x e = absurd cc
map_some make (Some text) x e = (text, refl, same_Some (make text) x e)

member_same : (text : List ℕ) (a b : ℕ) (m : Member) → m.name ≡ text → m.tnum ≡ a → m.offset ≡ b → record { name = text; tnum = a; offset = b } ≡ m
member_same text a b m p q r = rw (sym p, sym q, sym r) refl

narrow_read : (t : Tables) → IsReader (IsNarrowMember t) (narrow_member t)
narrow_read t = record {
  read = λ b m h. rw h.named (ap (λ (x : Member). Some x) (member_same m.name (u16_at b 4) (u16_at b 6) m refl h.typed h.placed));
  stands = λ b m e.
      let s = map_some (λ text. record { name = text; tnum = u16_at b 4; offset = u16_at b 6 }) (name t (u32_at b 0)) m e in
      record { named = s.1 ∙ ap (λ (x : Member). Some x.name) s.2; typed = sym (ap (λ (x : Member). x.tnum) s.2); placed = sym (ap (λ (x : Member). x.offset) s.2) };
}

wide_read : (t : Tables) → IsReader (IsWideMember t) (wide_member t)
wide_read t = record {
  read = λ b m h. rw h.named (ap (λ (x : Member). Some x) (member_same m.name (u16_at b 4) (2 ^ 32 * u32_at b 8 + u32_at b 12) m refl h.typed h.placed));
  stands = λ b m e.
      let s = map_some (λ text. record { name = text; tnum = u16_at b 4; offset = 2 ^ 32 * u32_at b 8 + u32_at b 12 }) (name t (u32_at b 0)) m e in
      record { named = s.1 ∙ ap (λ (x : Member). Some x.name) s.2; typed = sym (ap (λ (x : Member). x.tnum) s.2); placed = sym (ap (λ (x : Member). x.offset) s.2) };
}

member_read : (size : ℕ) (t : Tables) → IsReader (IsMember size t) (member_of size t)
member_read size t = at (ltb size 8192) refl
  where
    at : (narrow : Bool) → ltb size 8192 ≡ narrow → IsReader (IsMember size t) (member_of size t)
    at true e =
        let lt : size < 8192 = ltb-true size 8192 e in
        record {
          read = λ b m h. rw e ((narrow_read t).read b m (h.0 lt));
          stands = λ b m f. let n = (narrow_read t).stands b m (rw e at f) in ((λ l. n), λ l. absurd (omega (arith, lt, l)));
        }
    at false e =
        let le : 8192 ≤ size = ltb-false size 8192 e in
        record {
          read = λ b m h. rw e ((wide_read t).read b m (h.1 le));
          stands = λ b m f. let n = (wide_read t).stands b m (rw e at f) in ((λ l. absurd (omega (arith, le, l))), λ l. n);
        }

enumerator_same : (text : List ℕ) (v : ℤ) (x : Enumerator) → x.name ≡ text → x.value ≡ v → record { name = text; value = v } ≡ x
enumerator_same text v x p q = rw (sym p, sym q) refl

enumerator_read : (t : Tables) → IsReader (IsEnumerator t) (enumerator_of t)
enumerator_read t = record {
  read = λ b x h. rw h.named (ap (λ (y : Enumerator). Some y) (enumerator_same x.name (cast_signed w32 (u32_at b 4)) x refl h.valued));
  stands = λ b x e.
      let s = map_some (λ text. record { name = text; value = cast_signed w32 (u32_at b 4) }) (name t (u32_at b 0)) x e in
      record { named = s.1 ∙ ap (λ (y : Enumerator). Some y.name) s.2; valued = sym (ap (λ (y : Enumerator). y.value) s.2) };
}

argument_read : IsReader IsArgument argument_of
argument_read = record {
  read = λ b x h. ap (λ (n : ℕ). Some n) (sym h);
  stands = λ b x e. sym (same_Some (u16_at b 0) x e);
}

-- ---- what follows other heads

scalar_same : (a b c d : ℕ) (s : Scalar) → s.size ≡ a → s.encoding ≡ b → s.offset ≡ c → s.bits ≡ d → record { size = a; encoding = b; offset = c; bits = d } ≡ s
scalar_same a b c d s p q r u = rw (sym p, sym q, sym r, sym u) refl

scalar_read : (b : List ℕ) (s : Scalar) → IsScalar b s → scalar b ≡ s
scalar_read b s h = scalar_same _ _ _ _ s h.sized h.encoded h.placed h.wide

scalar_stands : (b : List ℕ) (s : Scalar) → scalar b ≡ s → IsScalar b s
scalar_stands b s e = rw (← e) (record { sized = refl; encoded = refl; placed = refl; wide = refl })

elements_same : (a b c d : ℕ) (e : Elements) → e.size ≡ a → e.contents ≡ b → e.index ≡ c → e.count ≡ d → record { size = a; contents = b; index = c; count = d } ≡ e
elements_same a b c d e p q r u = rw (sym p, sym q, sym r, sym u) refl

elements_read : (b : List ℕ) (e : Elements) → IsArray b e → elements b ≡ e
elements_read b e h = elements_same _ _ _ _ e h.sized h.contents h.index h.count

elements_stand : (b : List ℕ) (x : Elements) → elements b ≡ x → IsArray b x
elements_stand b x e = rw (← e) (record { sized = refl; contents = refl; index = refl; count = refl })

tag_read : (field : ℕ) (x : Tag) → Declares field x → tag field ≡ x
tag_read field term.union_tag h = rw h refl
tag_read field term.enum_tag h = rw h refl
tag_read field term.struct_tag h = at (eqb field 7) refl (eqb field 8) refl
  where
    at : (u : Bool) → eqb field 7 ≡ u → (v : Bool) → eqb field 8 ≡ v → tag field ≡ term.struct_tag
    at true e v f = absurd (h.0 (eqb-true field 7 e))
    at false e true f = absurd (h.1 (eqb-true field 8 f))
    at false e false f = rw (e, f) refl

tag_stands : (field : ℕ) → Declares field (tag field)
tag_stands field = at (eqb field 7) refl (eqb field 8) refl
  where
    at : (u : Bool) → eqb field 7 ≡ u → (v : Bool) → eqb field 8 ≡ v → Declares field (tag field)
    at true e v f = rw e (eqb-true field 7 e)
    at false e true f = rw (e, f) (eqb-true field 8 f)
    at false e false f = rw (e, f) (eqb-false field 7 e, eqb-false field 8 f)

-- ---- bodies

-- the content of a record of a kind
record IsSaid (t : Tables) (b : List ℕ) (x : Body) : Type 0 where
  of : Kind
  known : kind b ≡ Some of
  said : body_of t b of ≡ Some x

listed_read : {A : Type 0} (Is : List ℕ → A → Type 0) (item : List ℕ → Option A) (len : ℕ) → IsReader Is item → (b : List ℕ) (xs : List A) → AreListed Is len b xs → items item len (vlen b) (behind_head b) ≡ Some xs
listed_read Is item len r b xs h = rw (← h.0) (items_read Is item len r xs (behind_head b) h.1)

-- a body made from a list that can be read
with_list : {A : Type 0} (make : List A → Body) (o : Option (List A)) (xs : List A) → o ≡ Some xs → option_map make o ≡ Some (make xs)
with_list make o xs e = rw e refl

members_listed : (t : Tables) (b : List ℕ) (make : ℕ → List Member → Body) (said : ℕ) (ms : List Member) → said ≡ size b → AreMembers t b ms → option_map (make (size b)) (members t b) ≡ Some (make said ms)
members_listed t b make said ms e h = with_list (make (size b)) (members t b) ms (listed_read (IsMember (size b) t) (member_of (size b) t) (member_len (size b)) (member_read (size b) t) b ms h) ∙ ap (λ (n : ℕ). Some (make n ms)) (sym e)

-- the body in a record is read
body_is_read : (t : Tables) (b : List ℕ) (x : Body) → IsBody t b x → IsSaid t b x
body_is_read t b term.unknown h = record { of = KUnknown; known = h; said = refl }
body_is_read t b (term.integer s) h = record { of = KInteger; known = h.0; said = ap (λ (x : Scalar). Some (term.integer x)) (scalar_read b s h.1) }
body_is_read t b (term.float s) h = record { of = KFloat; known = h.0; said = ap (λ (x : Scalar). Some (term.float x)) (scalar_read b s h.1) }
body_is_read t b (term.pointer n) h = record { of = KPointer; known = h.0; said = ap (λ (x : ℕ). Some (term.pointer x)) (sym h.1) }
body_is_read t b (term.array e) h = record { of = KArray; known = h.0; said = ap (λ (x : Elements). Some (term.array x)) (elements_read b e h.1) }
body_is_read t b (term.function returned args) h = record { of = KFunction; known = h.0; said = with_list (term.function (field b)) (arguments b) args (listed_read IsArgument argument_of 2 argument_read b args h.2) ∙ ap (λ (x : ℕ). Some (term.function x args)) (sym h.1) }
body_is_read t b (term.struct said ms) h = record { of = KStruct; known = h.0; said = members_listed t b term.struct said ms h.1 h.2 }
body_is_read t b (term.union said ms) h = record { of = KUnion; known = h.0; said = members_listed t b term.union said ms h.1 h.2 }
body_is_read t b (term.enum said es) h = record { of = KEnum; known = h.0; said = with_list (term.enum (size b)) (enumerators t b) es (listed_read (IsEnumerator t) (enumerator_of t) 8 (enumerator_read t) b es h.2) ∙ ap (λ (x : ℕ). Some (term.enum x es)) (sym h.1) }
body_is_read t b (term.forward x) h = record { of = KForward; known = h.0; said = ap (λ (y : Tag). Some (term.forward y)) (tag_read (field b) x h.1) }
body_is_read t b (term.typedef n) h = record { of = KTypedef; known = h.0; said = ap (λ (x : ℕ). Some (term.typedef x)) (sym h.1) }
body_is_read t b (term.volatile n) h = record { of = KVolatile; known = h.0; said = ap (λ (x : ℕ). Some (term.volatile x)) (sym h.1) }
body_is_read t b (term.const n) h = record { of = KConst; known = h.0; said = ap (λ (x : ℕ). Some (term.const x)) (sym h.1) }
body_is_read t b (term.restrict n) h = record { of = KRestrict; known = h.0; said = ap (λ (x : ℕ). Some (term.restrict x)) (sym h.1) }

-- a body made from a list
list_there : {A : Type 0} (make : List A → Body) (o : Option (List A)) (x : Body) → option_map make o ≡ Some x → (xs : List A) × (o ≡ Some xs) × (make xs ≡ x)
list_there make None x e = absurd cc
list_there make (Some xs) x e = (xs, refl, same_Some (make xs) x e)

listed_there : {A : Type 0} (Is : List ℕ → A → Type 0) (item : List ℕ → Option A) (len : ℕ) → IsReader Is item → (b : List ℕ) (xs : List A) → items item len (vlen b) (behind_head b) ≡ Some xs → AreListed Is len b xs
listed_there Is item len r b xs e = items_stand Is item len r (vlen b) (behind_head b) xs e

-- a body that is read is in the record
body_stands : (t : Tables) (b : List ℕ) (k : Kind) (x : Body) → kind b ≡ Some k → body_of t b k ≡ Some x → IsBody t b x
body_stands t b KUnknown x k e = subst (IsBody t b) (same_Some term.unknown x e) k
body_stands t b KInteger x k e = subst (IsBody t b) (same_Some (term.integer (scalar b)) x e) (k, scalar_stands b (scalar b) refl)
body_stands t b KFloat x k e = subst (IsBody t b) (same_Some (term.float (scalar b)) x e) (k, scalar_stands b (scalar b) refl)
body_stands t b KPointer x k e = subst (IsBody t b) (same_Some (term.pointer (field b)) x e) (k, refl)
body_stands t b KArray x k e = subst (IsBody t b) (same_Some (term.array (elements b)) x e) (k, elements_stand b (elements b) refl)
body_stands t b KFunction x k e =
    let l = list_there (term.function (field b)) (arguments b) x e in
    subst (IsBody t b) l.2 (k, refl, listed_there IsArgument argument_of 2 argument_read b l.0 l.1)
body_stands t b KStruct x k e =
    let l = list_there (term.struct (size b)) (members t b) x e in
    subst (IsBody t b) l.2 (k, refl, listed_there (IsMember (size b) t) (member_of (size b) t) (member_len (size b)) (member_read (size b) t) b l.0 l.1)
body_stands t b KUnion x k e =
    let l = list_there (term.union (size b)) (members t b) x e in
    subst (IsBody t b) l.2 (k, refl, listed_there (IsMember (size b) t) (member_of (size b) t) (member_len (size b)) (member_read (size b) t) b l.0 l.1)
body_stands t b KEnum x k e =
    let l = list_there (term.enum (size b)) (enumerators t b) x e in
    subst (IsBody t b) l.2 (k, refl, listed_there (IsEnumerator t) (enumerator_of t) 8 (enumerator_read t) b l.0 l.1)
body_stands t b KForward x k e = subst (IsBody t b) (same_Some (term.forward (tag (field b))) x e) (k, tag_stands (field b))
body_stands t b KTypedef x k e = subst (IsBody t b) (same_Some (term.typedef (field b)) x e) (k, refl)
body_stands t b KVolatile x k e = subst (IsBody t b) (same_Some (term.volatile (field b)) x e) (k, refl)
body_stands t b KConst x k e = subst (IsBody t b) (same_Some (term.const (field b)) x e) (k, refl)
body_stands t b KRestrict x k e = subst (IsBody t b) (same_Some (term.restrict (field b)) x e) (k, refl)

-- ---- records

term_same : (text : List ℕ) (visible : Bool) (said : Body) (x : Term) → text ≡ x.name → visible ≡ x.root → said ≡ x.body → record { name = text; root = visible; body = said } ≡ x
term_same text visible said x p q r = rw (p, q, r) refl

-- the type that a record spells is read from it
pub says_of : (t : Tables) (b : List ℕ) (x : Term) → Spells t b x → term_of t b ≡ Some x
unfolding term_of
says_of t b x h =
    let s = body_is_read t b x.body h.body in
    rw (s.known, h.named, s.said) (ap (λ (y : Term). Some y) (term_same x.name (is_root b) x.body x refl (sym h.visible) refl))

-- the parts of a type that is read
record IsRead (t : Tables) (b : List ℕ) (x : Term) : Type 0 where
  named : name t (u32_at b 0) ≡ Some x.name
  visible : x.root ≡ is_root b
  body : IsBody t b x.body

read_parts : (t : Tables) (b : List ℕ) (x : Term) → term_of t b ≡ Some x → IsRead t b x
unfolding term_of
read_parts t b x e = at (kind b) refl e
  where
    with_body : (k : Kind) → kind b ≡ Some k → (text : List ℕ) → name t (u32_at b 0) ≡ Some text → (said : Option Body) → body_of t b k ≡ said → (option_and_then (λ (y : Body). Some (record { name = text; root = is_root b; body = y })) said) ≡ Some x → IsRead t b x
    with_body k known text named None said e = absurd cc
    with_body k known text named (Some y) said e =
        let same = same_Some (record { name = text; root = is_root b; body = y }) x e in
        subst (IsRead t b) same (record { named = named; visible = refl; body = body_stands t b k y known said })

    at : (k : Option Kind) → kind b ≡ k → term_of t b ≡ Some x → IsRead t b x
    at None known e = absurd (let e = rw known at e in cc)
    at (Some k) known e = named_at (name t (u32_at b 0)) refl
      where
        named_at : (text : Option (List ℕ)) → name t (u32_at b 0) ≡ text → IsRead t b x
        named_at None named = absurd (let e = rw (known, named) at e in cc)
        named_at (Some text) named = at_body (body_of t b k) refl
          where
            at_body : (said : Option Body) → body_of t b k ≡ said → IsRead t b x
            at_body None said = absurd (let e = rw (known, named, said) at e in cc)
            at_body (Some y) said = with_body k known text named (Some y) said (let e = rw (known, named, said) at e in e)

-- the type read from a whole record is the one that it spells
pub spells_of : (t : Tables) (b : List ℕ) (x : Term) → IsWhole b → ¬ HasStrayMark b → term_of t b ≡ Some x → Spells t b x
spells_of t b x whole form e =
    let r = read_parts t b x e in
    record { whole = whole; form = form; named = r.named; visible = r.visible; body = r.body }
