-- The faults of a call, by the words that they are at.
use Rattle.std.specs.Prelude.{◌≡◌, ℕ, ◌+◌, Bool, true, false, List, Option, None}
use Rattle.nfs_client.specs.declared.fault.CallFault.{CallFault}
use Rattle.nfs_client.specs.declared.fault.CallFault.TheVariants.{NoFile, TooLong, BadDigits, Memory}
use Rattle.nfs_client.specs.declared.fault.Part.{Part}
use Rattle.nfs_client.specs.declared.fault.Part.TheVariants.{Path, AfterPath, Bytes}
use Rattle.nfs_ask.specs.declared.fault.AskFault.{AskFault}
use Rattle.nfs_ask.specs.declared.fault.AskFault.TheVariants as fault
use Rattle.nfs_ask.specs.declared.fault.Wanted.TheVariants as wanted

-- the place of a word, from that of the user on
abbrev pub place_from_user : Part → ℕ
place_from_user Path = 2
place_from_user AfterPath = 3
place_from_user Bytes = 4

-- its place among all words, where the call's number stands before the user or doesn't
abbrev pub place_of : Bool → Part → ℕ
place_of true part = place_from_user part + 1
place_of false part = place_from_user part

abbrev pub fault_of : Bool → CallFault → AskFault
fault_of has_xid (NoFile part) = fault.Word (place_of has_xid part) wanted.File
fault_of has_xid (TooLong part) = fault.Word (place_of has_xid part) wanted.Shorter
fault_of has_xid BadDigits = fault.Word (place_of has_xid Bytes) wanted.Bytes
fault_of has_xid Memory = fault.Memory

-- a file is wanted, or other digits, only where there is no record, and a shorter word where one is too long
abbrev pub OnlyWithout : Option (List ℕ) → Bool → AskFault → Type 0
OnlyWithout bytes long (fault.Word place wanted.File) = bytes ≡ None
OnlyWithout bytes long (fault.Word place wanted.Bytes) = bytes ≡ None
OnlyWithout bytes long (fault.Word place wanted.Shorter) = long ≡ true
OnlyWithout bytes long (fault.Word place other) = ⊥
OnlyWithout bytes long fault.Memory = Unit {0}
