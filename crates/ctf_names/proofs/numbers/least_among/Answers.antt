use Rattle.std.proofs.Common.{◌≡◌, Some, sym, ap, ◌∙◌}
use Rattle.ctf_model.specs.format.Dictionary.{said_by}
use Rattle.ctf_model.specs.names.Lookups.{first_place}
use Rattle.ctf_model.specs.spaces.TypePlaces.{own_number}
use Rattle.std.specs.Option.{option_map}
use Rattle.ctf_space.specs.SpaceView.{own_lists}
use Rattle.ctf_names.specs.Sought.{passes}
use Rattle.ctf_names.proofs.Places.{place_inside}
use Rattle.ctf_names.proofs.numbers.least_among.Goals as goal

pub first-requires : goal.first-requires
first-requires c = rw c.dictionary-dictionary.ensures.lists c.requires

pub own_number-requires : goal.own_number-requires
own_number-requires c =
    let s = own_lists c.args.space.now in
    let found : c.first.result ≡ first_place (passes c.args.sought) (said_by s).terms = c.first.ensures ∙ ap (λ l. first_place (passes c.args.sought) (said_by l).terms) c.dictionary-dictionary.ensures.lists in
    place_inside (passes c.args.sought) (said_by s).terms c.in_ok-place.place (sym found ∙ c.in_ok-place.was)

pub returns : goal.returns
returns c =
    let s = own_lists c.args.space.now in
    let found : c.first.result ≡ first_place (passes c.args.sought) (said_by s).terms = c.first.ensures ∙ ap (λ l. first_place (passes c.args.sought) (said_by l).terms) c.dictionary-dictionary.ensures.lists in
    let at = sym found ∙ c.in_ok-place.was in
    ap Some c.own_number.ensures ∙ sym (ap (option_map (own_number (said_by s).child)) at)

pub returns-in_err-place : goal.returns-in_err-place
returns-in_err-place c =
    let s = own_lists c.args.space.now in
    let found : c.first.result ≡ first_place (passes c.args.sought) (said_by s).terms = c.first.ensures ∙ ap (λ l. first_place (passes c.args.sought) (said_by l).terms) c.dictionary-dictionary.ensures.lists in
    let at = sym found ∙ c.in_err-place.was in
    ap (option_map (λ t. t.0)) c.from_residual.ensures ∙ sym (ap (option_map (own_number (said_by s).child)) at)
