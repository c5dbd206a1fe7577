-- The rules that are looked up for formatting values of a type. Source: ours.
use Rattle.std.specs.Prelude.{◌≡◌, ◌<◌, ℕ, List, Ok}
use Rattle.ctf_model.specs.format.Term.{Member}
use Rattle.ctf_model.specs.values.Values.{label}
use Rattle.ctf_print.specs.ImageView.{memory_of, shows, types_of}
use Rattle.ctf_print.specs.Placing.{shown_how}
use Rattle.ctf_print.specs.ShowRules.{text_by_rule}
use Rattle.ctf_print.specs.ShowRuleView.{show_rule}
use Rattle.ctf_print.specs.Written.{written}
use Rattle.ctf_print.specs.declared.value_form.ValueForm.{ValueForm}
use Rattle.ctf_print.specs.declared.image.Image.{Image}

-- the rule by which each value of type `n` is formatted, at a nesting below `nesting`
pub record IsValueForm (image : Image) (nesting n : ℕ) (f : ValueForm) : Type 0 where
  pub rule : shown_how (types_of image) f.number.0 ≡ show_rule f.how
  pub fewer : f.nesting < nesting
  pub shown : (p : ℕ) → shows image nesting n p
      ≡ text_by_rule (types_of image) (memory_of image) (shows image f.nesting) p (show_rule f.how)

-- the label of a member is written, and the rule for its value is looked up
pub record IsBegun (image : Image) (nesting : ℕ) (m : Member) (old new : List ℕ) (f : ValueForm)
    (offset : ℕ) : Type 0 where
  pub named : written old (label m.name) ≡ Ok new
  pub place : offset ≡ m.offset
  pub found : IsValueForm image nesting m.tnum f
