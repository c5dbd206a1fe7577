-- The types of members, in code.
use Rattle.std.proofs.Common.{◌≡◌, ℕ, ◌<◌, List, length, map, get_or, sym, ap, ◌∙◌, arith}
use Rattle.std.specs.Prelude.{slice_index}
use Rattle.std.proofs.lemmas.List.{get_or-map, length-map}
use Rattle.ctf_model.specs.rules.Chains.{by_value}
use Rattle.ctf_model.specs.format.Term as term
use Rattle.ctf_draft.specs.TypeView.{aggregate_body, member_of}
use Rattle.ctf_draft.specs.declared.types.AggregateKind.{AggregateKind}
use Rattle.ctf_draft.specs.declared.types.AggregateKind.TheVariants.{Struct, Union}
use Rattle.ctf_draft.specs.declared.types.Member.{Member}
use Rattle.ctf_draft.proofs.Among.{map_twice}

one_type : (items : List Member) (k : ℕ) (m : Member) → k < length (map (λ (x : term.Member). x.tnum) (map member_of items)) → m ≡ get_or items k m → m.tnum.0 ≡ slice_index (map (λ (x : term.Member). x.tnum) (map member_of items)) k
one_type items k m lt is =
    let both : map (λ (x : term.Member). x.tnum) (map member_of items) ≡ map (λ x. x.tnum.0) items = map_twice member_of (λ (x : term.Member). x.tnum) items in
    let inside : k < length items = omega (arith, lt, ap length both, length-map items (λ (x : Member). x.tnum.0)) in
    ap (λ (x : Member). x.tnum.0) is ∙ sym (get_or-map (λ (x : Member). x.tnum.0) items k m 0 inside) ∙ ap (λ (ts : List ℕ). slice_index ts k) (sym both)

pub member_type : (kind : AggregateKind) (size : ℕ) (items : List Member) (k : ℕ) (m : Member) → k < length (by_value (aggregate_body kind size (map member_of items))) → m ≡ get_or items k m → m.tnum.0 ≡ slice_index (by_value (aggregate_body kind size (map member_of items))) k
member_type Struct size items k m lt is = one_type items k m lt is
member_type Union size items k m lt is = one_type items k m lt is
