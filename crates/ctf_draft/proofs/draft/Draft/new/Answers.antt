use Rattle.std.proofs.Common.{◌≡◌, false, None, option_map, slice_index_or, sym, ap, ◌∙◌, arith}
use Rattle.ctf_layout.proofs.Tables.{same_some}
use Rattle.ctf_model.specs.spaces.Kept.{modelled_by}
use Rattle.ctf_model.specs.drafts.Drafts.{has_zero}
use Rattle.ctf_draft.proofs.Known.{none_known}
use Rattle.ctf_draft.proofs.Holding.{none_bounded}
use Rattle.ctf_draft.proofs.Sounding.{empty_sound, same_above}
use Rattle.ctf_draft.proofs.draft.Draft.new.Goals as goal

pub invariant_of-result : goal.invariant_of-result
invariant_of-result c =
    let clean : has_zero c.args.parname ≡ false = sym (c.has_zero.ensures ∙ ap has_zero c.as_slice.ensures) ∙ c.if-has_zero.false in
    let clean_label : has_zero c.args.parlabel ≡ false = sym (c.has_zero-2.ensures ∙ ap has_zero c.as_slice-2.ensures) ∙ c.if-has_zero-2.false in
    let parent = option_map (λ p. modelled_by p.value.kept) c.args.parent in (
      omega arith,
      omega arith,
      omega (arith, c.new.ensures.len),
      c.in_ok-parent.ensures.fits,
      rw (c.new.ensures.items, c.new-2.ensures, c.in_ok-parent.ensures.same ∙ same_above (λ p. p.value.kept) c.args.parent)
          (empty_sound parent c.args.parname c.args.parlabel c.args.model (same_some (λ p. modelled_by p.value.kept) c.args.parent ∙ c.requires.named) clean clean_label (sym c.is_childs.ensures ∙ c.if-is_childs.false) (sym c.is_of_other.ensures ∙ c.if-is_of_other.false)),
      none_known _ c.new-3.result (λ j. ap (λ known. slice_index_or known j None) c.new-3.ensures),
      none_bounded c.args.parname c.args.parlabel _ c.args.model c.new-4.result 0 0 c.new.result.items c.new-2.result c.new.ensures.items,
    )
