-- The most that a tree takes.
use Rattle.std.specs.Prelude.{ℕ, ◌≤◌}
use Rattle.nfs_inodes.specs.declared.limits.Limits.{Limits}
use Rattle.nfs_content.specs.Limits.{max_content}

-- bytes of a regular file
abbrev pub max_file_bytes : ℕ
max_file_bytes = max_content

-- bytes of a name
abbrev pub max_name_bytes : ℕ
max_name_bytes = 255

-- bytes of a link's path
abbrev pub max_path_bytes : ℕ
max_path_bytes = 4095

-- links of a file
abbrev pub max_links : ℕ
max_links = 1000000

-- files of a volume
abbrev pub max_files : ℕ
max_files = 100000000

-- bytes of a volume
abbrev pub max_volume_bytes : ℕ
max_volume_bytes = 1099511627776

abbrev pub max_volumes : ℕ
max_volumes = 64

-- bytes of a volume's path
abbrev pub max_volume_path_bytes : ℕ
max_volume_path_bytes = 255

-- limits that a tree may have; a directory has two links
pub record AreLimits (limits : Limits) : Type 0 where
  pub file_size : limits.file_size ≤ max_file_bytes
  pub links_2 : 2 ≤ limits.links
  pub links : limits.links ≤ max_links
  pub link_path : limits.link_path ≤ max_path_bytes
  pub files : limits.files ≤ max_files

-- those of a tree that is made without others
abbrev pub default_limits : Limits
default_limits = record { file_size = 16777216; links = 1000; link_path = 1024; files = 1000000 }
