-- The first lines of the description of what was found.
use Rattle.std.specs.Prelude.{ℕ, ◌*◌, Bool, ◌&&◌, List, [], ◌∷◌, ◌++◌, length, Option, Some, None, codes, nat_lt, if◌then◌else◌}
use Rattle.std.specs.List.{flat_map, list_all}
use Rattle.nfs_describe.specs.Lines.{is_shown, limits_line, server_line, volume_line}
use Rattle.nfs_inodes.specs.Limits.{default_limits, max_files, max_volume_bytes}
use Rattle.nfs_inodes.specs.declared.limits.Limits.{Limits}
use Rattle.nfs_load.specs.declared.statement.Given.{Given}
use Rattle.nfs_text.specs.Chunks.{cut}
use Rattle.nfs_disk.specs.Needs.{larger, limits_for, within}
use Rattle.nfs_disk.specs.Surveys.{extent_of}
use Rattle.nfs_disk.specs.declared.found.Found.{Found}
use Rattle.nfs_disk.specs.declared.head.Head.{Head}
use Rattle.nfs_disk.specs.declared.head.Volume.{Volume}
use Rattle.nfs_disk.specs.declared.survey.Extent.{Extent}

-- one word of a line
abbrev pub is_word : List ℕ → Bool
is_word text = nat_lt 0 (length text) && list_all is_shown text

-- a word, or `%` in place of a text that is none
abbrev pub word_text : List ℕ → List ℕ
word_text text = if is_word text then text else codes "%"

-- PATTERN or PATTERN=OPTIONS
abbrev pub export_text : List ℕ × Option (List ℕ) → List ℕ
export_text (pattern, None) = codes "export " ++ word_text pattern ++ codes "\n"
export_text (pattern, Some options) = codes "export " ++ word_text pattern ++ codes " " ++ word_text options ++ codes "\n"

abbrev pub export_line : List ℕ → List ℕ
export_line word = export_text (cut 61 word)

-- the number that is given, or twice the one that was found
abbrev pub or_twice : Option ℕ → ℕ → ℕ → ℕ → ℕ
or_twice (Some n) least found most = n
or_twice None least found most = within least (2 * found) most

-- how much the volume takes, where this was found
abbrev pub room_for : Head → Extent → Extent
room_for head found = record {
  bytes = or_twice head.bytes 1000000000 found.bytes max_volume_bytes;
  files = or_twice head.files 100000 found.files max_files;
}

-- the mode, owner and group of what was found first
abbrev pub root_given : List Found → Given
root_given [] = record { mode = 493; uid = 0; gid = 0 }
root_given (root ∷ others) = root.given

-- how much a volume takes
abbrev pub room_of : Volume → Extent
room_of volume = room_for volume.head (extent_of volume.survey.now.found.items)

-- the limits that a volume needs
abbrev pub limits_in : Volume → Limits
limits_in volume = limits_for volume.survey.now.found.items (room_of volume).files

-- the largest of each limit that one of the volumes needs
abbrev pub limits_of : List Volume → Limits
limits_of [] = default_limits
limits_of (volume ∷ others) = larger (limits_in volume) (limits_of others)

-- a volume, and to whom it is exported
abbrev pub volume_text : Volume → List ℕ
volume_text volume =
    volume_line (word_text volume.head.mount.now) (room_of volume).bytes (room_of volume).files (root_given volume.survey.now.found.items)
    ++ flat_map (λ word. export_line word.now) volume.head.exports.now

-- the key, the limits that are not the defaults, and the volumes
abbrev pub head_text : List ℕ → List Volume → List ℕ
head_text key volumes = (server_line key ++ limits_line (limits_of volumes)) ++ flat_map volume_text volumes
