-- The limits of a tree that takes what was found.
use Rattle.std.specs.Prelude.{ℕ, ◌+◌, ◌==◌, ◌&&◌, not, Bool, List, [], ◌∷◌, min, max, count_by, nat_lt, if◌then◌else◌}
use Rattle.nfs_inodes.specs.Limits.{default_limits, max_file_bytes, max_files, max_links, max_path_bytes}
use Rattle.nfs_inodes.specs.declared.limits.Limits.{Limits}
use Rattle.nfs_disk.specs.Surveys.{is_of, number_of, size_of}
use Rattle.nfs_disk.specs.declared.found.Found.{Found}
use Rattle.nfs_disk.specs.declared.found.Kind.{Kind}
use Rattle.nfs_disk.specs.declared.found.Kind.TheVariants.{Directory, Regular, Link}

-- the most bytes of a file of a kind
abbrev pub largest : Kind → List Found → ℕ
largest kind [] = 0
largest kind (one ∷ others) = max (size_of kind one) (largest kind others)

-- a number, but at least the one and at most the other
abbrev pub within : ℕ → ℕ → ℕ → ℕ
within least n most = min (max n least) most

-- how often the number comes that comes most often
abbrev pub most_equal : List ℕ → ℕ
most_equal [] = 0
most_equal (n ∷ others) = max (count_by (λ m. m == n) others + 1) (most_equal others)

-- the places of the directories that have subdirectories, once for each of these, before those of others
abbrev pub parents : List ℕ → List Found → List ℕ
parents before [] = before
parents before (one ∷ others) = parents (if is_of Directory one.kind then one.parent ∷ before else before) others

-- the most subdirectories of a directory; what is found first is the directory that all others are below
abbrev pub most_subdirectories : List Found → ℕ
most_subdirectories [] = 0
most_subdirectories (root ∷ others) = most_equal (parents [] others)

-- a file with more names on disk than this, and no directory
abbrev pub has_more : ℕ → Found → Bool
has_more least one = not (is_of Directory one.kind) && nat_lt least one.names

-- the files that have more names than this, once for each name that was found, before those of others
abbrev pub linked : ℕ → List ℕ → List Found → List ℕ
linked least before [] = before
linked least before (one ∷ others) = linked least (if has_more least one then number_of one ∷ before else before) others

-- the most names that were found of such a file
abbrev pub most_names : ℕ → List Found → ℕ
most_names least found = most_equal (linked least [] found)

-- A directory has a link for each subdirectory and two more, another file one for each of its names.
abbrev pub links_for : List Found → ℕ
links_for found = max (most_subdirectories found + 2) (most_names default_limits.links found)

-- Each limit is its default where that is enough for a volume of so many files, else the least that what was found needs, up to its bound.
abbrev pub limits_for : List Found → ℕ → Limits
limits_for found files = record {
  file_size = within default_limits.file_size (largest Regular found) max_file_bytes;
  links = within default_limits.links (links_for found) max_links;
  link_path = within default_limits.link_path (largest Link found) max_path_bytes;
  files = within default_limits.files files max_files;
}

-- the larger of each limit
abbrev pub larger : Limits → Limits → Limits
larger one other = record {
  file_size = max one.file_size other.file_size;
  links = max one.links other.links;
  link_path = max one.link_path other.link_path;
  files = max one.files other.files;
}
