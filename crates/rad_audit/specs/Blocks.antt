-- The lines of a block, and what is given back of them by parts.
use Rattle.std.specs.Prelude.{◌≡◌, ℕ, List, [], All, flat_map, map, min, take, vec_len, ⊤}
use Rattle.rad_audit.specs.declared.blocks.Block.{Block}
use Rattle.rad_audit.specs.declared.blocks.FileLine.{FileLine}
use Rattle.rad_audit.specs.declared.blocks.Part.{Part}
use Rattle.rad_audit.specs.declared.blocks.Part.TheVariants as part
use Rattle.rad_audit.specs.declared.blocks.Slot.{Slot}
use Rattle.rad_audit.specs.Judging.{AreJudged}

-- The octets of the line that was read into a slot
abbrev pub read_into : Slot → List ℕ
read_into slot = slot.line.octets.items

-- The octets of the lines that were read into a block
abbrev pub octets_in : Block → List (List ℕ)
octets_in block = map read_into (take (min block.count (vec_len block.slots)) block.slots.items)

-- The octets of the lines of a part, in their order
abbrev pub octets_of : Part → List (List ℕ)
octets_of (part.Lines lines) = map (λ line. line.octets.now) lines.items
octets_of part.NoMemory = []

-- The lines of a part
abbrev pub lines_of : Part → List FileLine
lines_of (part.Lines lines) = lines.items
lines_of part.NoMemory = []

-- A part has all its lines
abbrev pub IsWhole : Part → Type 0
IsWhole (part.Lines lines) = ⊤
IsWhole part.NoMemory = ⊥

-- The lines of a part are judged
abbrev pub IsJudgedPart : Part → Type 0
IsJudgedPart (part.Lines lines) = AreJudged lines.items
IsJudgedPart part.NoMemory = ⊤

-- If no part lacks memory, they have these lines together, each once, in order
abbrev pub HaveLines : List Part → List (List ℕ) → Type 0
HaveLines parts lines = All IsWhole parts → flat_map octets_of parts ≡ lines
