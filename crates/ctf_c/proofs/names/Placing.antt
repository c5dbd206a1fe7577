-- Members in their rows.
use Rattle.std.proofs.Common.{◌≡◌, ℕ, ◌+◌, ◌*◌, ◌^◌, ◌<◌, ◌≤◌, List, length, drop, Option, Some, None, refl, ap, ◌∙◌, arith, Bool, true, false, cond}
use Rattle.std.specs.Prelude.{IfSome, slice_get, nat_lt}
use Rattle.ctf_model.proofs.Items.{items_at}
use Rattle.ctf_model.specs.format.Bytes.{u16_at, u32_at}
use Rattle.ctf_model.specs.format.Name.{Tables, name}
use Rattle.ctf_model.specs.format.Record.{member_len}
use Rattle.ctf_model.specs.format.Spelling.{narrow_member, wide_member, member_of}
use Rattle.ctf_views.proofs.Items.{row, items_in_is, items_in_length}
use Rattle.ctf_views.specs.Lists.{AreGood, items_in}
use Rattle.ctf_c.specs.declared.names.members.MemberRow.{MemberRow}
use Rattle.ctf_c.specs.names.MemberPlaces.{IsMember, bits_in}

-- the member in a row of bytes
module _ (size : ℕ) (t : Tables) (b : List ℕ) (r : MemberRow) where
  pub row_says : r.reference ≡ u32_at b 0 → r.tnum.0 ≡ u16_at b 4 → r.offset ≡ bits_in size b → IfSome (member_of size t b) (λ m. IsMember t m r)
  row_says e f g = by_form (nat_lt size 8192) g
    where
      by_form : (narrow : Bool) → r.offset ≡ cond narrow (u16_at b 6) (2 ^ 32 * u32_at b 8 + u32_at b 12) → IfSome (cond narrow (narrow_member t b) (wide_member t b)) (λ m. IsMember t m r)
      by_form true h = named (name t (u32_at b 0)) refl
        where
          named : (o : Option (List ℕ)) → name t (u32_at b 0) ≡ o → IfSome (narrow_member t b) (λ m. IsMember t m r)
          named None k = rw k tt
          named (Some text) k = rw k (ap (name t) e ∙ k, f, h)
      by_form false h = named (name t (u32_at b 0)) refl
        where
          named : (o : Option (List ℕ)) → name t (u32_at b 0) ≡ o → IfSome (wide_member t b) (λ m. IsMember t m r)
          named None k = rw k tt
          named (Some text) k = rw k (ap (name t) e ∙ k, f, h)

module _ (size : ℕ) (t : Tables) (n i : ℕ) (b : List ℕ) (good : AreGood (member_of size t) (member_len size) n b) (here : i < length (items_in (member_of size t) (member_len size) n b)) where
  inside : i < n
  inside = let many = items_in_length (member_of size t) (member_len size) n b good in omega arith

  pub row_starts : member_len size * i ≤ length b
  row_starts = (row (member_of size t) (member_len size) n i b good inside).start

  pub row_holds : (r : List ℕ) → r ≡ drop (member_len size * i) b → member_len size ≤ length r
  row_holds r e = let long = (row (member_of size t) (member_len size) n i b good inside).long in let same = ap length e in omega arith

  pub row_is : (r : List ℕ) → r ≡ drop (member_len size * i) b → member_of size t r ≡ slice_get (items_in (member_of size t) (member_len size) n b) i
  row_is r e = ap (member_of size t) e ∙ items_at (member_of size t) (member_len size) n i b (items_in (member_of size t) (member_len size) n b) (items_in_is (member_of size t) (member_len size) n b good) inside

-- a row has at least eight bytes
pub least_row : (size : ℕ) → 8 ≤ member_len size
least_row size = by_form (nat_lt size 8192)
  where
    by_form : (narrow : Bool) → 8 ≤ cond narrow 8 16
    by_form true = omega arith
    by_form false = omega arith
