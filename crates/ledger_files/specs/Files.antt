-- The files of a ledger on a disk, the octets that were written to them so far, and how many of these are synced.
use Rattle.std.specs.Prelude.{ℕ, List, [], ◌∷◌, ◌++◌, length, Option, Some, None}

pub record File : Type 0 where
  pub path : List ℕ
  pub octets : List ℕ
  pub synced : ℕ

-- The files of a disk stand in a list, the newest first. The newest one is open.
abbrev pub IsOpen : List File → Type 0
IsOpen [] = ⊥
IsOpen (file ∷ older) = Unit {0}

abbrev pub octets_of_open : List File → List ℕ
octets_of_open [] = []
octets_of_open (file ∷ older) = file.octets

-- These octets are added to the file that is open.
abbrev pub with_octets : List File → List ℕ → List File
with_octets [] octets = []
with_octets (file ∷ older) octets = record { path = file.path; octets = file.octets ++ octets; synced = file.synced } ∷ older

-- A disk may keep no record of its files.
abbrev pub wrote : Option (List File) → List ℕ → Option (List File)
wrote None octets = None
wrote (Some files) octets = Some (with_octets files octets)

-- A file of this path is made, without octets.
abbrev pub made : Option (List File) → List ℕ → Option (List File)
made None path = None
made (Some files) path = Some (record { path = path; octets = []; synced = 0 } ∷ files)

-- What was written to the file that is open is on the disk. Of an older file nothing changes.
abbrev pub with_synced : List File → List File
with_synced [] = []
with_synced (file ∷ older) = record { path = file.path; octets = file.octets; synced = length file.octets } ∷ older

abbrev pub synced : Option (List File) → Option (List File)
synced None = None
synced (Some files) = Some (with_synced files)
