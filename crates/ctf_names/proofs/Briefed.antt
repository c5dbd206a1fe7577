-- The stored parts of a looked-up type.
use Rattle.std.proofs.Common.{◌≡◌, ℕ, true, false, List, Option, Some, None, refl, sym, ap, ◌∙◌}
use Rattle.std.specs.Prelude.{MatchOption}
use Rattle.std.specs.Option.{option_map}
use Rattle.ctf_model.specs.names.Lookups.{is_pointer_body, is_pointer_to}
use Rattle.ctf_model.specs.format.Name.{Tables, name}
use Rattle.ctf_model.specs.format.Shown.{kind_of, reference_of, shape}
use Rattle.ctf_model.specs.format.Term.{Body, Tag, Term}
use Rattle.ctf_model.specs.format.Term as term
use Rattle.ctf_model.specs.names.Lookups.{tag_of}
use Rattle.ctf_model.specs.declared.kinds.Kind.{Kind}
use Rattle.ctf_sections.specs.ShortNames.{if_short}
use Rattle.ctf_names.specs.Briefs.{is_target, target_by}
use Rattle.ctf_names.specs.Buckets.{bucket_of_short, is_in, longest_hashed}
use Rattle.ctf_names.specs.Sorts.{tag_shown}

pub tag_said : (body : Body) → tag_shown (shape body) ≡ tag_of body
tag_said term.unknown = refl
tag_said (term.integer scalar) = refl
tag_said (term.float scalar) = refl
tag_said (term.pointer t) = refl
tag_said (term.array elements) = refl
tag_said (term.function ret args) = refl
tag_said (term.struct size members) = refl
tag_said (term.union size members) = refl
tag_said (term.enum size enumerators) = refl
tag_said (term.forward tag) = refl
tag_said (term.typedef t) = refl
tag_said (term.volatile t) = refl
tag_said (term.const t) = refl
tag_said (term.restrict t) = refl

target_said : (n : ℕ) (body : Body) → is_pointer_body n body ≡ is_target n (target_by (kind_of body) (reference_of body))
target_said n term.unknown = refl
target_said n (term.integer scalar) = refl
target_said n (term.float scalar) = refl
target_said n (term.pointer t) = refl
target_said n (term.array elements) = refl
target_said n (term.function ret args) = refl
target_said n (term.struct size members) = refl
target_said n (term.union size members) = refl
target_said n (term.enum size enumerators) = refl
target_said n (term.forward tag) = refl
target_said n (term.typedef t) = refl
target_said n (term.volatile t) = refl
target_said n (term.const t) = refl
target_said n (term.restrict t) = refl

-- a visible type is in the bucket of its name
pub falls_visible : (n : ℕ) (t : Tables) (reference : ℕ) (o : Option Term) (short : Option (List ℕ)) (b : ℕ) → option_map (λ x. x.root) o ≡ Some true → option_map (λ x. Some x.name) o ≡ Some (name t reference) → short ≡ if_short longest_hashed (name t reference) → b ≡ bucket_of_short n short → MatchOption o ⊥ (λ x. (k : ℕ) → is_in n k x ≡ is_target k (Some b))
falls_visible n t reference None short b root named shown is = absurd cc
falls_visible n t reference (Some x) short b root named shown is =
    let visible : x.root ≡ true = cc in
    let says : name t reference ≡ Some x.name = cc in
    let at : b ≡ bucket_of_short n (if_short longest_hashed (Some x.name)) = is ∙ ap (bucket_of_short n) (shown ∙ ap (if_short longest_hashed) says) in
    λ k. rw (visible, at) refl

-- a hidden one is in none
pub falls_hidden : (n : ℕ) (o : Option Term) → option_map (λ x. x.root) o ≡ Some false → MatchOption o ⊥ (λ x. (k : ℕ) → is_in n k x ≡ is_target k None)
falls_hidden n None root = absurd cc
falls_hidden n (Some x) root = let hidden : x.root ≡ false = cc in λ k. rw hidden refl

pub points_so : (o : Option Term) (kind : Kind) (reference target : Option ℕ) → option_map (λ x. kind_of x.body) o ≡ Some kind → option_map (λ x. reference_of x.body) o ≡ Some reference → target ≡ target_by kind reference → MatchOption o ⊥ (λ x. (n : ℕ) → is_pointer_to n x ≡ is_target n target)
points_so None kind reference target kinds refers is = absurd cc
points_so (Some x) kind reference target kinds refers is =
    let of_kind : kind_of x.body ≡ kind = cc in
    let refers_to : reference_of x.body ≡ reference = cc in
    λ n. target_said n x.body ∙ ap (is_target n) (ap (λ k. target_by k (reference_of x.body)) of_kind ∙ ap (target_by kind) refers_to ∙ sym is)
