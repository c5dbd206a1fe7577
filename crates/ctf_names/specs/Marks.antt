-- What each layer of a declaration adds to its text, and where. Source: ours.
use Rattle.std.specs.Prelude.{ℕ, ◌++◌, Bool, false, List, [], ◌∷◌, Option, reverse, codes, decimal, if◌then◌else◌}
use Rattle.std.specs.List.{flat_map}
use Rattle.ctf_model.specs.names.TypeNames.{join_texts, past, is_pointer, is_behind, word_of_qualifier}
use Rattle.ctf_model.specs.declared.layers.Layer.{Layer}
use Rattle.ctf_model.specs.declared.layers.Layer.TheVariants.{Pointer, Array, Function, Qualified}
use Rattle.ctf_names.specs.declared.marks.Mark.{Mark}
use Rattle.ctf_names.specs.declared.marks.Mark.TheVariants.{Front, Alone, Before, Star, Grouped, Count, Call}

-- the mark of a layer, given the one past it, and whether it is the outermost
abbrev pub mark : Bool → Layer → Option Layer → Mark
mark outermost Pointer below = if is_behind below then Grouped else Star
mark outermost (Array count) below = Count count
mark outermost Function below = Call
mark outermost (Qualified q) below =
    if is_pointer below then (if outermost then Alone q else Before q) else Front q

abbrev pub marks : Bool → List Layer → List Mark
marks outermost [] = []
marks outermost (layer ∷ layers) = mark outermost layer (past layers) ∷ marks false layers

-- the text of a mark before the name, right before the declarator, and after it
abbrev pub front : Mark → List ℕ
front (Front q) = word_of_qualifier q ++ codes " "
front _ = []

abbrev pub text_before : Mark → List ℕ
text_before (Alone q) = word_of_qualifier q
text_before (Before q) = word_of_qualifier q ++ codes " "
text_before Star = codes "*"
text_before Grouped = codes "(*"
text_before _ = []

abbrev pub right : Mark → List ℕ
right Grouped = codes ")"
right (Count count) = codes "[" ++ (decimal count ++ codes "]")
right Call = codes "()"
right _ = []

abbrev pub declarator : List Mark → List ℕ
declarator ms = flat_map text_before (reverse ms) ++ flat_map right ms

abbrev pub marked_text : List Mark → List ℕ → List ℕ
marked_text ms name = flat_map front ms ++ join_texts name (declarator ms)
