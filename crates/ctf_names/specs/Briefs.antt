-- The parts of a type that the index of names stores. Source: ours.
use Rattle.std.specs.Prelude.{◌≡◌, ℕ, ◌==◌, Bool, false, length, List, MatchOption, Option, Some, None, slice_get}
use Rattle.std.specs.Option.{option_map}
use Rattle.ctf_model.specs.format.Term.{Term}
use Rattle.ctf_model.specs.names.Lookups.{is_pointer_to}
use Rattle.ctf_model.specs.declared.kinds.Kind.{Kind}
use Rattle.ctf_model.specs.declared.kinds.Kind.TheVariants.{KPointer}
use Rattle.ctf_model.specs.declared.numbers.TypeNum.{TypeNum}
use Rattle.ctf_names.specs.Buckets.{is_in}
use Rattle.ctf_names.specs.declared.types.Brief.{Brief}

-- the type that a pointer points to; none for other kinds
abbrev pub target_by : Kind → Option ℕ → Option ℕ
target_by KPointer reference = reference
target_by _ reference = None

abbrev pub is_target : ℕ → Option ℕ → Bool
is_target t None = false
is_target t (Some n) = n == t

-- the stored parts of a type are correct, in a dictionary of `types` types
pub record IsBrief (types : ℕ) (x : Term) (b : Brief) : Type 0 where
  pub falls : (n : ℕ) → is_in types n x ≡ is_target n b.bucket
  pub points : (n : ℕ) → is_pointer_to n x
      ≡ is_target n (option_map (λ (target : TypeNum). target.0) b.target)

-- the type with this index exists, and its stored parts are correct
abbrev pub IsBriefAt : List Term → ℕ → Brief → Type 0
IsBriefAt terms place b = MatchOption (slice_get terms place) ⊥ (λ x. IsBrief (length terms) x b)
