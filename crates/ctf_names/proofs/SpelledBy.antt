-- The spelled name of a type from its declaration.
use Rattle.std.proofs.Common.{◌≡◌, ℕ, ◌<◌, ◌≤◌, leb, true, false, List, length, Ok, Err, refl}
use Rattle.std.proofs.lemmas.Bool.{le-leb, lt-leb}
use Rattle.ctf_model.specs.spaces.Space.{Space}
use Rattle.ctf_model.specs.names.TypeNames.{declaration, spelled_name, too_long, longest_text}
use Rattle.ctf_model.specs.declared.layers.Layer.{Layer}
use Rattle.ctf_names.specs.Marks.{marks, marked_text}
use Rattle.ctf_names.specs.declared.marks.Mark.{Mark}
use Rattle.ctf_names.proofs.MarkedText.{declared_is}

pub short_text : (s : Space) (n : ℕ) (layers : List Layer) (ms : List Mark) (name : List ℕ) → declaration s n ≡ Ok (record { layers = layers; name = name }) → ms ≡ marks true layers → length (marked_text ms name) ≤ longest_text → spelled_name s n ≡ Ok (marked_text ms name)
short_text s n layers ms name is same h =
    let test : leb (length (marked_text ms name)) longest_text ≡ true = le-leb (length (marked_text ms name)) longest_text h in
    rw is (rw (declared_is layers name) (rw (← same) (rw test refl)))

pub long_text : (s : Space) (n : ℕ) (layers : List Layer) (ms : List Mark) (name : List ℕ) → declaration s n ≡ Ok (record { layers = layers; name = name }) → ms ≡ marks true layers → longest_text < length (marked_text ms name) → spelled_name s n ≡ Err too_long
long_text s n layers ms name is same h =
    let test : leb (length (marked_text ms name)) longest_text ≡ false = lt-leb (length (marked_text ms name)) longest_text h in
    rw is (rw (declared_is layers name) (rw (← same) (rw test refl)))
