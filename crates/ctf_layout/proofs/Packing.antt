-- The entries of a table, packed into small and wide ones, keep its extents.
use Rattle.std.proofs.Common.{◌≡◌, ℕ, ◌+◌, ◌≤◌, ◌<◌, ◌++◌, get_or, take, List, [], ◌∷◌, length, map, Some, refl, sym, ap, ◌∙◌, append_assoc, arith}
use Rattle.std.specs.Prelude.{option_map, slice_get}
use Rattle.std.proofs.lemmas.List.{append-nil, length-map, map-append, take_all, take_more}
use Rattle.ctf_layout.specs.Kept.{extent_of_kept}
use Rattle.ctf_layout.specs.SmallExtents.{or_no_type, extent_of_small, extents_of_entries, extents_of_wide}
use Rattle.ctf_layout.specs.declared.entry.KeptExtent.{KeptExtent}
use Rattle.ctf_layout.specs.declared.small_extent.SmallExtent.{SmallExtent}
use Rattle.ctf_layout.specs.declared.small_extent.SmallExtent.TheVariants as small

-- one more that is small, with the extent of its entry
pub small_entry_agrees : (wide : List KeptExtent) (smalls : List SmallExtent) (table : List KeptExtent) (i : ℕ) (x : SmallExtent) (d : KeptExtent) → i < length table → map (extent_of_small wide) smalls ≡ extents_of_wide (take i table) → extent_of_small wide x ≡ extent_of_kept (get_or table i d) → map (extent_of_small wide) (smalls ++ x ∷ []) ≡ extents_of_wide (take (i + 1) table)
small_entry_agrees wide smalls table i x d lt far one = rw (take_more table i d lt, map-append (extent_of_small wide) smalls (x ∷ []), map-append extent_of_kept (take i table) (get_or table i d ∷ []), far, one) refl

-- the wide entry that was just put behind the others
last_wide_found : (wide later : List KeptExtent) (e : KeptExtent) → slice_get ((wide ++ e ∷ []) ++ later) (length wide) ≡ Some e
last_wide_found [] later e = refl
last_wide_found (w ∷ wide) later e = last_wide_found wide later e

-- one more that is wide
pub wide_entry_agrees : (wide later : List KeptExtent) (smalls : List SmallExtent) (table : List KeptExtent) (i place : ℕ) (d : KeptExtent) → i < length table → place ≡ length wide → ((more : List KeptExtent) → map (extent_of_small (wide ++ more)) smalls ≡ extents_of_wide (take i table)) → map (extent_of_small ((wide ++ get_or table i d ∷ []) ++ later)) (smalls ++ small.Wide place ∷ []) ≡ extents_of_wide (take (i + 1) table)
wide_entry_agrees wide later smalls table i place d lt is far =
    let e = get_or table i d in
    let before : map (extent_of_small ((wide ++ e ∷ []) ++ later)) smalls ≡ extents_of_wide (take i table) = rw append_assoc (far (e ∷ later)) in
    let one : extent_of_small ((wide ++ e ∷ []) ++ later) (small.Wide place) ≡ extent_of_kept e = rw is (ap or_no_type (ap (option_map extent_of_kept) (last_wide_found wide later e))) in
    small_entry_agrees ((wide ++ e ∷ []) ++ later) smalls table i (small.Wide place) d lt before one

-- the small entries have the extents of the table, if there is a small one for each wide one
small_extents_agree : (wide : List KeptExtent) (smalls : List SmallExtent) (table : List KeptExtent) → length wide ≤ length smalls → map (extent_of_small wide) smalls ≡ extents_of_wide table → extents_of_entries wide smalls ≡ extents_of_wide table
small_extents_agree [] [] table few far = far
small_extents_agree (w ∷ ws) [] table few far = absurd (omega arith)
small_extents_agree wide (x ∷ xs) table few far = far

-- at the end of the table all extents are the same
pub packed_extents_agree : (wide : List KeptExtent) (smalls : List SmallExtent) (table : List KeptExtent) (i : ℕ) → length table ≤ i → length wide ≤ length table → ((more : List KeptExtent) → map (extent_of_small (wide ++ more)) smalls ≡ extents_of_wide (take i table)) → extents_of_entries wide smalls ≡ extents_of_wide table
packed_extents_agree wide smalls table i past few far =
    let last : map (extent_of_small (wide ++ [])) smalls ≡ extents_of_wide (take i table) = far [] in
    let all : map (extent_of_small wide) smalls ≡ extents_of_wide table = rw (append-nil wide, take_all i table past) at last in
    let same : length smalls ≡ length table = sym (length-map smalls (extent_of_small wide)) ∙ ap length all ∙ length-map table extent_of_kept in
    small_extents_agree wide smalls table (omega arith) all
