-- Lines whose reading may take memory. Source: ours.
use Rattle.std.specs.Prelude.{ℕ, List, Bool, true, false, ◌||◌, Option, None, Some}
use Rattle.ctf_json.specs.Memory.{takes_memory as spells_or_lists}
use Rattle.ctf_protocol.specs.declared.words.Word.{Word}
use Rattle.ctf_protocol.specs.declared.words.Word.TheVariants as word
use Rattle.ctf_protocol.specs.lines.Ask.{word_asked}
use Rattle.serde_json.specs.Data.{Data}
use Rattle.serde_json.specs.Read.{read}

-- the request with this word stores a text from its line
abbrev pub keeps_text : Word → Bool
keeps_text word.Part = true
keeps_text word.Check = false
keeps_text word.Open = false
keeps_text word.Clear = false
keeps_text word.Reset = false
keeps_text word.Close = false
keeps_text word.Import = false
keeps_text word.Publish = true
keeps_text word.Withdraw = true
keeps_text word.Take = true
keeps_text word.Create = true
keeps_text word.Add = true
keeps_text word.Update = false
keeps_text word.Discard = false
keeps_text (word.Plain question) = false
keeps_text word.Members = false
keeps_text word.Enumerators = false
keeps_text word.Find = true
keeps_text word.Path = true
keeps_text word.Show = true
keeps_text word.Symbol = true
keeps_text word.Object = false
keeps_text word.Function = false
keeps_text word.Labels = false
keeps_text word.Label = true
keeps_text (word.Held question) = false
keeps_text word.Bytes = false

abbrev pub word_keeps_text : Option Word → Bool
word_keeps_text None = false
word_keeps_text (Some w) = keeps_text w

-- the same for the value of a line
abbrev pub value_keeps_text : Option Data → Bool
value_keeps_text None = false
value_keeps_text (Some value) = word_keeps_text (word_asked value)

-- reading a line may take memory if it has a backslash or a list, or its request stores a text
abbrev pub takes_memory : List ℕ → Bool
takes_memory line = spells_or_lists line || value_keeps_text (read line)
