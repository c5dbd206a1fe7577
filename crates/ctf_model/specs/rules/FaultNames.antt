-- The names of the fault codes. Source: ours.
use Rattle.std.specs.Prelude.{ℕ, ◌==◌, List, [], ◌∷◌, codes, if◌then◌else◌}

-- each fault code with its name
abbrev pub fault_names : List (ℕ × List ℕ)
fault_names =
    (0, codes "Memory") ∷
    (1, codes "TooShort") ∷
    (2, codes "BadMagic") ∷
    (3, codes "BadVersion") ∷
    (4, codes "Compressed") ∷
    (5, codes "ShortHeader") ∷
    (6, codes "BadOrder") ∷
    (7, codes "BadAlign") ∷
    (8, codes "PastEnd") ∷
    (9, codes "BadStrings") ∷
    (10, codes "Truncated") ∷
    (11, codes "BadKind") ∷
    (12, codes "TooMany") ∷
    (13, codes "BadName") ∷
    (14, codes "BadReference") ∷
    (15, codes "ValueDeep") ∷
    (16, codes "DeclDeep") ∷
    (17, codes "BadFuncs") ∷
    (18, codes "BadSymbolType") ∷
    (19, codes "BadSymtab") ∷
    (20, codes "NotChild") ∷
    (21, codes "ParentIsChild") ∷
    (22, codes "ParentShort") ∷
    (23, codes "NoParent") ∷
    (24, codes "NoType") ∷
    (25, codes "NotReference") ∷
    (26, codes "Incomplete") ∷
    (27, codes "TooBig") ∷
    (28, codes "NoMember") ∷
    (29, codes "NotAggregate") ∷
    (30, codes "WrongKind") ∷
    (31, codes "TooLong") ∷
    (32, codes "NotFound") ∷
    (33, codes "BadSyntax") ∷
    (34, codes "NoSymbol") ∷
    (35, codes "NotData") ∷
    (36, codes "NotFunction") ∷
    (37, codes "NoInfo") ∷
    (38, codes "NoLabel") ∷
    (39, codes "BadRef") ∷
    (40, codes "Full") ∷
    (41, codes "Duplicate") ∷
    (42, codes "Settled") ∷
    (43, codes "VlenFull") ∷
    (44, codes "DeepMember") ∷
    (45, codes "BadOffset") ∷
    (46, codes "NameHasZero") ∷
    (47, codes "DictTooBig") ∷
    (48, codes "ShortMemory") ∷
    (49, codes "NoSlot") ∷
    (50, codes "SlotsFull") ∷
    (51, codes "StageFull") ∷
    (52, codes "ReadOnly") ∷
    (53, codes "NameTaken") ∷
    (54, codes "NotPublished") ∷
    (55, codes "NotUpdated") ∷
    (56, codes "LongReply") ∷
    (57, codes "NotJson") ∷
    (58, codes "BadRequest") ∷
    (59, codes "LongLine") ∷
    (60, codes "ModelDiffers") ∷
    (61, codes "QuotaFull") ∷
    (62, codes "FixedParent") ∷ []

-- the name of a code in the table, or the empty text
abbrev pub name_beside : ℕ → List (ℕ × List ℕ) → List ℕ
name_beside code [] = []
name_beside code (row ∷ rows) = if row.0 == code then row.1 else name_beside code rows

unfoldable pub name_of_fault : ℕ → List ℕ
name_of_fault code = name_beside code fault_names
