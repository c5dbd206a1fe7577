-- Entries of the table, and the extents stored in them.
use Rattle.std.proofs.Common.{◌≡◌, true, false, Some, refl, ap, ◌∙◌}
use Rattle.std.specs.Prelude.{IsSome}
use Rattle.std.proofs.lemmas.Option.{same_Some}
use Rattle.ctf_layout.specs.Kept.{unless_open}
use Rattle.ctf_layout.specs.declared.entry.Standing.{Standing}
use Rattle.ctf_layout.specs.declared.entry.Standing.TheVariants as stands
use Rattle.ctf_layout.specs.declared.extents.Amount.{Amount}
use Rattle.ctf_layout.specs.declared.extents.Extent.{Extent}
use Rattle.ctf_layout.specs.declared.extents.Target.{Target}

-- the known extent is the stored one
pub same_extent : (standing : Standing) (x e : Extent) → unless_open standing x ≡ Some e → x ≡ e
same_extent stands.Open x e h = absurd cc
same_extent stands.Known x e h = same_Some x e h
same_extent stands.Incomplete x e h = same_Some x e h
same_extent stands.TooBig x e h = same_Some x e h
same_extent stands.NoType x e h = same_Some x e h
same_extent stands.NoParent x e h = same_Some x e h

extent_is : (e : Extent) (size align : Amount) (target : Target) → size ≡ e.size → align ≡ e.align → target ≡ e.target → record { size = size; align = align; target = target } ≡ e
extent_is e size align target p q r = rw (p, q, r) refl

-- and the stored one is known
pub kept_whole : (standing : Standing) (e : Extent) (size align : Amount) (target : Target) → ((f : Extent) → unless_open standing f ≡ Some f) → size ≡ e.size → align ≡ e.align → target ≡ e.target → unless_open standing (record { size = size; align = align; target = target }) ≡ Some e
kept_whole standing e size align target found p q r = found (record { size = size; align = align; target = target }) ∙ ap Some (extent_is e size align target p q r)

-- a known extent is what the entry gives
pub known_is_said : (standing : Standing) (x : Extent) → IsSome (unless_open standing x) → unless_open standing x ≡ Some x
known_is_said stands.Open x h = let f : false ≡ true = h in absurd cc
known_is_said stands.Known x h = refl
known_is_said stands.Incomplete x h = refl
known_is_said stands.TooBig x h = refl
known_is_said stands.NoType x h = refl
known_is_said stands.NoParent x h = refl
