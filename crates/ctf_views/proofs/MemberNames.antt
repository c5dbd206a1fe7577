-- The reference of a member leads to the member's name.
use Rattle.std.proofs.Common.{◌≡◌, ℕ, Bool, true, false, List, Option, Some, None, refl, sym, ap, ◌∙◌}
use Rattle.std.specs.Prelude.{bytes_eq, nat_lt, IsSome}
use Rattle.std.specs.Option.{option_map}
use Rattle.ctf_model.specs.format.Bytes.{u32_at}
use Rattle.ctf_model.specs.format.Name.{Tables, name}
use Rattle.ctf_model.specs.format.Spelling.{member_of}
use Rattle.ctf_model.specs.format.Term.{Member}
use Rattle.ctf_sections.specs.ShortNames.{is_named}

made_of : (text : List ℕ) (f : List ℕ → Member) → ((n : List ℕ) → (f n).name ≡ n) → (o : Option (List ℕ)) → IsSome (option_map f o) → Some (is_named text o) ≡ option_map (λ (m : Member). bytes_eq text m.name) (option_map f o)
made_of text f h None some = absurd cc
made_of text f h (Some n) some = ap (λ (x : List ℕ). Some (bytes_eq text x)) (sym (h n))

by_form : (size : ℕ) (t : Tables) (b text : List ℕ) (w : Bool) → nat_lt size 8192 ≡ w → IsSome (member_of size t b) → Some (is_named text (name t (u32_at b 0))) ≡ option_map (λ (m : Member). bytes_eq text m.name) (member_of size t b)
by_form size t b text true e some = rw e (made_of text _ (λ n. refl) (name t (u32_at b 0)) (rw e at some))
by_form size t b text false e some = rw e (made_of text _ (λ n. refl) (name t (u32_at b 0)) (rw e at some))

pub named_as : (size : ℕ) (t : Tables) (b text : List ℕ) (r : ℕ) (x : Bool) → IsSome (member_of size t b) → r ≡ u32_at b 0 → x ≡ is_named text (name t r) → Some x ≡ option_map (λ (m : Member). bytes_eq text m.name) (member_of size t b)
named_as size t b text r x some e f = ap Some f ∙ ap (λ (n : ℕ). Some (is_named text (name t n))) e ∙ by_form size t b text (nat_lt size 8192) refl some
