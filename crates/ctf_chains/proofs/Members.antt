-- The spot of a record's numbers, and which of its listed types they are.
use Rattle.std.proofs.Common.{◌≡◌, ℕ, List, Option, Some, refl, ap, ◌∙◌, sym}
use Rattle.ctf_model.specs.format.Record.{kind}
use Rattle.ctf_model.specs.declared.kinds.Kind.{Kind}
use Rattle.ctf_model.specs.declared.kinds.Kind.TheVariants.{KStruct, KUnion}
use Rattle.ctf_records.specs.ListedTypes.{listed_types_of_kind, listed_types_at, listed_types}
use Rattle.ctf_chains.specs.Numbers.{spot, numbers_at, numbers_of_kind, numbers}
use Rattle.ctf_chains.specs.declared.chain.Chain.{Chain}
use Rattle.ctf_chains.specs.declared.chain.Chain.TheVariants.{ByValue, Declarator}
use Rattle.ctf_chains.specs.declared.place.Spot.{Spot}
use Rattle.ctf_chains.specs.declared.place.Spot.TheVariants.{Members}

-- if the spot is the members, the numbers are the listed types
members_of_kind : (chain : Chain) (k : Kind) (b : List ℕ) → Members ≡ spot chain k → listed_types_of_kind k b ≡ numbers_at (spot chain k) b
members_of_kind ByValue KStruct b e = refl
members_of_kind ByValue KUnion b e = refl
members_of_kind ByValue k b e = absurd cc
members_of_kind Declarator KStruct b e = absurd cc
members_of_kind Declarator k b e = absurd cc

pub members_listed : (chain : Chain) (k : Kind) (b : List ℕ) → kind b ≡ Some k → Members ≡ spot chain k → listed_types b ≡ numbers chain b
members_listed chain k b is e =
    ap (λ (o : Option Kind). listed_types_at o b) is
    ∙ members_of_kind chain k b e
    ∙ sym (ap (numbers_of_kind chain b) is)

-- a record's numbers are at the spot of its kind
pub numbers_by : (chain : Chain) (k : Kind) (b : List ℕ) (s : Spot) → kind b ≡ Some k → s ≡ spot chain k → numbers chain b ≡ numbers_at s b
numbers_by chain k b s is e = ap (numbers_of_kind chain b) is ∙ ap (λ (at : Spot). numbers_at at b) (sym e)
