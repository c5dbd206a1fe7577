-- The head of a record has the values of the type that it spells.
use Rattle.std.proofs.Common.{◌≡◌, ℕ, List, Option, Some, None, refl, ap, subst, ◌∙◌}
use Rattle.std.specs.Option.{option_map}
use Rattle.std.proofs.lemmas.Option.{same_Some}
use Rattle.ctf_model.specs.format.Bytes.{u32_at}
use Rattle.ctf_model.specs.format.Name.{Tables, name}
use Rattle.ctf_model.specs.format.Shown.{kind_of, size_of, reference_of, declared_by}
use Rattle.ctf_model.specs.format.Record.{kind, is_root, field, size}
use Rattle.ctf_model.specs.format.Spelling.{◌>>=◌, body_of, term_of, scalar, elements, tag, members, enumerators, arguments}
use Rattle.ctf_model.specs.format.Term.{Body, Term}
use Rattle.ctf_model.specs.format.Term as term
use Rattle.ctf_model.specs.declared.kinds.Kind.{Kind}
use Rattle.ctf_model.specs.declared.kinds.Kind.TheVariants.{KUnknown, KInteger, KFloat, KPointer, KArray, KFunction, KStruct, KUnion, KEnum, KForward, KTypedef, KVolatile, KConst, KRestrict}
use Rattle.ctf_records.specs.ByKind.{size_of_kind, reference_of_kind, declared_of_kind, size_in, reference_in, declared_in}

-- ---- a body, by kind

-- the fields of a record of this kind are those of the body
record SaysOf (b : List ℕ) (k : Kind) (x : Body) : Type 0 where
  pub kind_is : k ≡ kind_of x
  pub size_is : size_of_kind k b ≡ size_of x
  pub reference_is : reference_of_kind k b ≡ reference_of x
  pub declares_is : declared_of_kind k b ≡ declared_by x

says : (b : List ℕ) (k : Kind) (x : Body) → k ≡ kind_of x → size_of_kind k b ≡ size_of x → reference_of_kind k b ≡ reference_of x → declared_of_kind k b ≡ declared_by x → SaysOf b k x
says b k x kind_is size_is reference_is declares_is = record { kind_is = kind_is; size_is = size_is; reference_is = reference_is; declares_is = declares_is }

-- the same for an equal body
made : (b : List ℕ) (k : Kind) (x y : Body) → SaysOf b k x → Some x ≡ Some y → SaysOf b k y
made b k x y s e = subst (λ (z : Body). SaysOf b k z) (same_Some x y e) s

-- the same for a body made from a list
made_of : {A : Type 0} (b : List ℕ) (k : Kind) (make : List A → Body) (o : Option (List A)) (y : Body) → ((xs : List A) → o ≡ Some xs → SaysOf b k (make xs)) → option_map make o ≡ Some y → SaysOf b k y
made_of b k make None y of e = absurd cc
made_of b k make (Some xs) y of e = made b k (make xs) y (of xs refl) e

-- the same for the body read from a record
says_of : (t : Tables) (b : List ℕ) (k : Kind) (x : Body) → body_of t b k ≡ Some x → SaysOf b k x
says_of t b KUnknown x e = made b KUnknown term.unknown x (says b KUnknown term.unknown refl refl refl refl) e
says_of t b KInteger x e = made b KInteger (term.integer (scalar b)) x (says b KInteger (term.integer (scalar b)) refl refl refl refl) e
says_of t b KFloat x e = made b KFloat (term.float (scalar b)) x (says b KFloat (term.float (scalar b)) refl refl refl refl) e
says_of t b KPointer x e = made b KPointer (term.pointer (field b)) x (says b KPointer (term.pointer (field b)) refl refl refl refl) e
says_of t b KArray x e = made b KArray (term.array (elements b)) x (says b KArray (term.array (elements b)) refl refl refl refl) e
says_of t b KFunction x e = made_of b KFunction (term.function (field b)) (arguments b) x (λ xs f. says b KFunction ((term.function (field b)) xs) refl refl refl refl) e
says_of t b KStruct x e = made_of b KStruct (term.struct (size b)) (members t b) x (λ xs f. says b KStruct ((term.struct (size b)) xs) refl refl refl refl) e
says_of t b KUnion x e = made_of b KUnion (term.union (size b)) (members t b) x (λ xs f. says b KUnion ((term.union (size b)) xs) refl refl refl refl) e
says_of t b KEnum x e = made_of b KEnum (term.enum (size b)) (enumerators t b) x (λ xs f. says b KEnum ((term.enum (size b)) xs) refl refl refl refl) e
says_of t b KForward x e = made b KForward (term.forward (tag (field b))) x (says b KForward (term.forward (tag (field b))) refl refl refl refl) e
says_of t b KTypedef x e = made b KTypedef (term.typedef (field b)) x (says b KTypedef (term.typedef (field b)) refl refl refl refl) e
says_of t b KVolatile x e = made b KVolatile (term.volatile (field b)) x (says b KVolatile (term.volatile (field b)) refl refl refl refl) e
says_of t b KConst x e = made b KConst (term.const (field b)) x (says b KConst (term.const (field b)) refl refl refl refl) e
says_of t b KRestrict x e = made b KRestrict (term.restrict (field b)) x (says b KRestrict (term.restrict (field b)) refl refl refl refl) e

-- ---- a type

-- the head of a record has the values of the type
pub record HeadSays (b : List ℕ) (x : Term) : Type 0 where
  pub kind_is : kind b ≡ Some (kind_of x.body)
  pub root_is : is_root b ≡ x.root
  pub size_is : size_in b ≡ size_of x.body
  pub reference_is : reference_in b ≡ reference_of x.body
  pub declares_is : declared_in b ≡ declared_by x.body

-- a successful bind had a value
bind_some : {A B : Type 0} (o : Option A) (f : A → Option B) (y : B) → o >>= f ≡ Some y → (x : A) × (o ≡ Some x) × (f x ≡ Some y)
bind_some None f y e = absurd cc
bind_some (Some x) f y e = (x, refl, e)

-- the parts of a record that spells a type
record Parts (t : Tables) (b : List ℕ) (x : Term) : Type 0 where
  pub kind_read : Kind
  pub kind_there : kind b ≡ Some kind_read
  pub root_is : is_root b ≡ x.root
  pub body_is : body_of t b kind_read ≡ Some x.body

parts : (t : Tables) (b : List ℕ) (x : Term) → term_of t b ≡ Some x → Parts t b x
unfolding term_of
parts t b x e =
    let k = bind_some (kind b) _ x e in
    let text = bind_some (name t (u32_at b 0)) _ x k.2 in
    let body = bind_some (body_of t b k.0) _ x text.2 in
    record {
      kind_read = k.0;
      kind_there = k.1;
      root_is = ap (λ (y : Term). y.root) (same_Some _ x body.2);
      body_is = body.1 ∙ ap (λ (o : Option Term). option_map (λ y. y.body) o) body.2;
    }

-- the head of a record that spells a type has the type's values
pub head_says : (t : Tables) (b : List ℕ) (x : Term) → term_of t b ≡ Some x → HeadSays b x
head_says t b x e =
    let p = parts t b x e in
    let s = says_of t b p.kind_read x.body p.body_is in
    let there = p.kind_there in
    record {
      kind_is = p.kind_there ∙ ap (λ (k : Kind). Some k) s.kind_is;
      root_is = p.root_is;
      size_is = rw there s.size_is;
      reference_is = rw there s.reference_is;
      declares_is = rw there s.declares_is;
    }
