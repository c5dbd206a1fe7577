-- The words for additions to a draft. Source: ours.
use Rattle.std.specs.Prelude.{ℕ, List, Option, None, Some, codes, if◌then◌else◌}
use Rattle.ctf_protocol.specs.words.Words.{is_text}
use Rattle.ctf_protocol.specs.declared.addables.Addable.{Addable}
use Rattle.ctf_protocol.specs.declared.addables.Addable.TheVariants as adds

-- a kind of type, or a part of a type or a dictionary
abbrev pub addable_named : List ℕ → Option Addable
addable_named w =
    if is_text w (codes "unknown") then Some adds.Unknown
    else if is_text w (codes "integer") then Some adds.Integer
    else if is_text w (codes "float") then Some adds.Float
    else if is_text w (codes "pointer") then Some adds.Pointer
    else if is_text w (codes "array") then Some adds.Array
    else if is_text w (codes "function") then Some adds.Function
    else if is_text w (codes "struct") then Some adds.Struct
    else if is_text w (codes "union") then Some adds.Union
    else if is_text w (codes "enum") then Some adds.Enum
    else if is_text w (codes "forward") then Some adds.Forward
    else if is_text w (codes "typedef") then Some adds.Typedef
    else if is_text w (codes "volatile") then Some adds.Volatile
    else if is_text w (codes "const") then Some adds.Const
    else if is_text w (codes "restrict") then Some adds.Restrict
    else if is_text w (codes "member") then Some adds.Member
    else if is_text w (codes "enumerator") then Some adds.Enumerator
    else if is_text w (codes "label") then Some adds.Label
    else None
