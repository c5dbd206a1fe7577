-- Texts that are appended one after another.
use Rattle.std.proofs.Common.{◌≡◌, ℕ, ◌≤◌, ◌++◌, List, [], length-append, append_assoc, append-nil, refl, sym, ap, ◌∙◌, arith}
use Rattle.std.specs.Prelude.{Vec}
use Rattle.std.specs.declared.alloc.Global.{Global}
use Rattle.ctf_lines.specs.Appending.{HasRoom, Appended, and_text}

-- ---- at the end of a line

pub none_appended : (out : Vec ℕ Global) → HasRoom out [] → Appended out out []
none_appended out room = record {
  items = sym (append-nil out.items);
  len = omega arith;
  capacity = refl;
}

pub both_appended : (old mid new : Vec ℕ Global) (a b : List ℕ)
    → (HasRoom old a → Appended old mid a) → (HasRoom mid b → Appended mid new b)
    → HasRoom old (a ++ b) → Appended old new (a ++ b)
both_appended old mid new a b first second room =
    let both = length-append a b in
    let one = first (omega (arith, both, room)) in
    let len = one.len in
    let capacity = one.capacity in
    let other = second (omega (arith, both, room, len, capacity)) in
    let end_len = other.len in
    record {
      items = other.items ∙ ap (λ (t : List ℕ). t ++ b) one.items ∙ append_assoc old.items a b;
      len = omega (arith, both, len, end_len);
      capacity = other.capacity ∙ capacity;
    }

-- ---- on a measure

pub none_measured : (n : ℕ) → n ≤ 4194306 → n ≡ and_text n []
none_measured n h = omega (arith, h)

pub both_measured : (old mid new : ℕ) (a b : List ℕ)
    → mid ≡ and_text old a → new ≡ and_text mid b → new ≡ and_text old (a ++ b)
both_measured old mid new a b first second =
    let both = length-append a b in omega (arith, both, first, second)
