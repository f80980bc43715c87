-- Which directory has more than its volume takes, and whether something is skipped.
use Rattle.std.specs.Prelude.{◌≡◌, ◌⊎◌, ◌&&◌, ℕ, List, [], ◌∷◌, Option, Some, None, Bool, true, false, nat_le, option_map, String, string_bytes}
use Rattle.std.specs.Borrow.{Bor}
use Rattle.std.specs.Global.{Global}
use Rattle.std.specs.declared.alloc.AllocError.{AllocError}
use Rattle.nfs_disk.specs.Surveys.{extent_of}
use Rattle.nfs_disk.specs.declared.head.Volume.{Volume}
use Rattle.nfs_disk.specs.declared.survey.Extent.{Extent}
use Rattle.nfs_disk.specs.declared.warning.Warning.{Warning}
use Rattle.nfs_source.specs.declared.fault.Fault.{Fault}
use Rattle.nfs_source.specs.declared.fault.Fault.TheVariants.{Memory, Sharing}
use Rattle.nfs_source.specs.declared.sharing_fault.SharingFault.TheVariants.{TooLarge, TooLargeOf}

-- the room, and what was found
abbrev pub takes : Extent → Extent → Bool
takes room found = nat_le found.files room.files && nat_le found.bytes room.bytes

abbrev pub too_large : Extent → Extent → Fault
too_large room found = Sharing (TooLarge found.files found.bytes room.files room.bytes)

abbrev pub Takes : Extent → Extent → Type 0
Takes room found = takes room found ≡ true

abbrev pub IsWantOfMemory : Fault → Type 0
IsWantOfMemory fault = (error : AllocError) × (fault ≡ Memory error)

-- the same fault with the directory's name, unless there is no memory for that
abbrev pub IsTooLargeOf : List ℕ → Extent → Extent → Fault → Type 0
IsTooLargeOf name room found fault = IsWantOfMemory fault
    ⊎ ((text : String Global) × (string_bytes text ≡ name) × (fault ≡ Sharing (TooLargeOf text found.files found.bytes room.files room.bytes)))

-- with the name of one of several directories; that of an only one goes without saying
abbrev pub IsTooLarge : Option (List ℕ) → Extent → Extent → Fault → Type 0
IsTooLarge None room found fault = fault ≡ too_large room found
IsTooLarge (Some name) room found fault = IsTooLargeOf name room found fault

-- that fault exactly where the room is too small, unless there is no memory to find out
abbrev pub Refuses : Option (List ℕ) → Extent → Extent → Fault → Type 0
Refuses name room found fault = IsWantOfMemory fault ⊎ ((takes room found ≡ false) × IsTooLarge name room found fault)

-- what was found in a volume's directory
abbrev pub found_in : Volume → Extent
found_in volume = extent_of volume.survey.now.found.items

-- the name of one of several directories
abbrev pub name_given : Option (Bor (List ℕ)) → Option (List ℕ)
name_given name = option_map (λ text. text.now) name

-- something is skipped
abbrev pub is_any : List Warning → Bool
is_any [] = false
is_any (warning ∷ others) = true
