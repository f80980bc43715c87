-- Exit statuses.
use Rattle.std.specs.Prelude.{◌≡◌, ◌⊎◌, ℕ, List, Err}
use Rattle.nfs_load.specs.Descriptions.{Describes}
use Rattle.nfs_load.specs.declared.load_error.LoadError.{LoadError}
use Rattle.nfs_load.specs.declared.load_error.LoadError.TheVariants as error
use Rattle.nfs_source.specs.declared.fault.Fault.{Fault}
use Rattle.nfs_source.specs.declared.sharing_fault.SharingFault.{SharingFault}
use Rattle.nfs_source.specs.declared.sharing_fault.SharingFault.TheVariants.{Skipped}
use Rattle.nfs_source.specs.declared.fault.Fault.TheVariants.{Description, Script, Sharing, NoText, CannotRead, TooLong, LongLine, CannotWrite, Network, Unregistered, Journal, NoTime, Write, Closed, Memory}

-- 1 where something is skipped that may not be
abbrev pub status_of_sharing : SharingFault → ℕ
status_of_sharing Skipped = 1
status_of_sharing other = 2

-- 1 where the description or the script is at fault, 2 where the words are, 3 where the machine is, 141 where nobody reads
abbrev pub status_of : Fault → ℕ
status_of (Description line cause) = 1
status_of (Script line cause) = 1
status_of (Sharing fault) = status_of_sharing fault
status_of NoText = 2
status_of (CannotRead name error) = 3
status_of (TooLong name) = 3
status_of (LongLine name line most) = 3
status_of (CannotWrite name error) = 3
status_of (Network address error) = 3
status_of (Unregistered fault) = 3
status_of (Journal name fault) = 3
status_of NoTime = 3
status_of Write = 3
status_of Closed = 141
status_of (Memory e) = 3

-- a faulty line of a description is reported with its number and cause
abbrev pub IsReportedAs : LoadError → Fault → Type 0
IsReportedAs (error.Fault line cause) fault = fault ≡ Description line cause
IsReportedAs error.Memory fault = status_of fault ≡ 3

-- the fault of a text is reported: its first faulty line, or want of memory
abbrev pub Reports : List ℕ → Fault → Type 0
Reports text fault = (error : LoadError) × Describes text (Err error) × IsReportedAs error fault

-- the machine is at fault, or a text
abbrev pub IsOfReading : Fault → Type 0
IsOfReading fault = (status_of fault ≡ 3) ⊎ ((text : List ℕ) × Reports text fault)
