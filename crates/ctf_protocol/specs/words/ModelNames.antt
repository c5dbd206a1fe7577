-- The words for data models. Source: ours; the models are those of libctf(3LIB), ctf_setmodel.
use Rattle.std.specs.Prelude.{ℕ, List, Option, Some, None, codes, if◌then◌else◌}
use Rattle.ctf_model.specs.declared.data_model.DataModel.{DataModel}
use Rattle.ctf_model.specs.declared.data_model.DataModel.TheVariants.{Lp64, Ilp32}
use Rattle.ctf_protocol.specs.words.Words.{is_text}

abbrev pub name_of_model : DataModel → List ℕ
name_of_model Lp64 = codes "lp64"
name_of_model Ilp32 = codes "ilp32"

abbrev pub model_named : List ℕ → Option DataModel
model_named w =
    if is_text w (codes "lp64") then Some Lp64
    else if is_text w (codes "ilp32") then Some Ilp32
    else None
