-- The types of members are the numbers in their bytes.
use Rattle.std.proofs.Common.{◌≡◌, ℕ, zero, suc, Bool, true, false, cond, ltb, List, [], ◌∷◌, map, drop, Option, Some, None, refl, sym, ap, ◌∙◌}
use Rattle.std.specs.Option.{option_map}
use Rattle.ctf_model.proofs.Items.{items_first}
use Rattle.ctf_model.specs.format.Bytes.{u16_at, u32_at}
use Rattle.ctf_model.specs.format.Name.{Tables, name}
use Rattle.ctf_model.specs.format.Spelling.{items, narrow_member, wide_member, member_of}
use Rattle.ctf_model.specs.format.Term.{Member}

-- a member made from a name keeps its type
type_of : (make : List ℕ → Member) (n : ℕ) (o : Option (List ℕ)) (m : Member) → ((text : List ℕ) → (make text).tnum ≡ n) → option_map make o ≡ Some m → m.tnum ≡ n
type_of make n None m h e = absurd cc
type_of make n (Some text) m h e = let same : make text ≡ m = cc in ap (λ (x : Member). x.tnum) (sym same) ∙ h text

-- the type is 4 bytes after the start of a member, in both forms
member_type : (size : ℕ) (t : Tables) (b : List ℕ) (m : Member) → member_of size t b ≡ Some m → m.tnum ≡ u16_at b 4
member_type size t b m e = at (ltb size 8192) e
  where
    at : (narrow : Bool) → cond narrow (narrow_member t b) (wide_member t b) ≡ Some m → m.tnum ≡ u16_at b 4
    at true e = type_of _ (u16_at b 4) (name t (u32_at b 0)) m (λ text. refl) e
    at false e = type_of _ (u16_at b 4) (name t (u32_at b 0)) m (λ text. refl) e

-- any function that reads `n` members one by one gives the members' types
pub members_types : (types : ℕ → List ℕ → List ℕ) (size len : ℕ) (t : Tables) → ((b : List ℕ) → types zero b ≡ []) → ((n : ℕ) (b : List ℕ) → types (suc n) b ≡ u16_at b 4 ∷ types n (drop len b))
    → (n : ℕ) (b : List ℕ) (ms : List Member) → items (member_of size t) len n b ≡ Some ms → map (λ m. m.tnum) ms ≡ types n b
members_types types size len t none more zero b ms e = let same : [] ≡ ms = cc in rw (← same) (sym (none b))
members_types types size len t none more (suc n) b ms e =
    let f = items_first (member_of size t) len n b ms e in
    rw (f.all, more n b, member_type size t b f.first f.reads, members_types types size len t none more n (drop len b) f.others f.rest) refl
