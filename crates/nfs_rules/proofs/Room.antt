-- Room in a volume, and numbers and cookies that are left.
use Rattle.std.proofs.Common.{◌≡◌, ℕ, ◌+◌, ◌-◌, ◌<◌, ◌≤◌, ◌^◌, Bool, true, false, Some, None, option_map, refl, sym, ap, ◌∙◌}
use Rattle.std.specs.Prelude.{nat_le, nat_lt, slice_get}
use Rattle.std.proofs.lemmas.Bool.{leb-false, ltb-false, or_parts}
use Rattle.nfs_inodes.specs.declared.volumes.Totals.{Totals}
use Rattle.nfs_inodes.specs.Tree.{File, Kind, Volume, Regular, Directory, Link, on_some, is_directory, next_cookie_in, bytes_of, files_of}
use Rattle.nfs_inodes.specs.Law.{Lives, LivesAsDirectory}
use Rattle.nfs_inodes.specs.Reading.{attributes_at, cookie_of_next, next_cookie_at}
use Rattle.nfs_inodes.proofs.Readers.{make_totals}
use Rattle.nfs_rules.specs.Subjects.{Subject}
use Rattle.nfs_rules.specs.Tests.{in_volume, files, space, cookies, numbers, last_number}
use Rattle.nfs_rules.proofs.SeenFiles.{seen_place}

next_cookie : (k : Kind) → is_directory k ≡ true → cookie_of_next k ≡ Some (next_cookie_in k)
next_cookie (Regular bytes) e = cc
next_cookie (Directory parent next entries) e = refl
next_cookie (Link path) e = cc

-- a directory has a cookie left
pub has_cookie : (s : Subject) (h : File) → LivesAsDirectory s.tree s.file.fileid h → (cookies s).1 ≡ false → next_cookie_in h.kind < 2 ^ 64 - 1
has_cookie s h at_h e =
    let next : next_cookie_at s.tree s.file.fileid ≡ Some (next_cookie_in h.kind) = ap (λ o. on_some o None (λ (f : File). cookie_of_next f.kind)) at_h.0 ∙ next_cookie h.kind at_h.1 in
    leb-false last_number (next_cookie_in h.kind) (sym (ap (λ o. on_some o false (nat_le last_number)) next) ∙ e)

-- and the tree a number
pub has_number : (s : Subject) → (numbers s).1 ≡ false → (s.tree.next < 2 ^ 64 - 1) × ((cookies s).1 ≡ false)
has_number s e =
    let parts = or_parts (nat_le last_number s.tree.next) (on_some (next_cookie_at s.tree s.file.fileid) false (nat_le last_number)) e in
    (leb-false last_number s.tree.next parts.0, parts.1)

module _ (s : Subject) (seen : attributes_at s.tree s.file.fileid ≡ Some s.file) (h : File) (at_h : Lives s.tree s.file.fileid h) (v : Volume) (at_v : slice_get s.tree.volumes h.volume ≡ Some v) where
  abbrev totals : Totals
  totals = make_totals (bytes_of h.volume s.tree.files) (files_of h.volume s.tree.files)

  in_its_volume : (test : Volume → Totals → Bool) → in_volume s test ≡ test v totals
  in_its_volume test =
      ap (λ place. on_some (slice_get s.tree.volumes place) false (λ volume. on_some (option_map (λ (w : Volume). make_totals (bytes_of place s.tree.files) (files_of place s.tree.files)) (slice_get s.tree.volumes place)) false (test volume))) (seen_place s.tree s.file seen h at_h)
      ∙ ap (λ o. on_some o false (λ volume. on_some (option_map (λ (w : Volume). totals) o) false (test volume))) at_v

  -- the volume takes a further file
  pub has_file : (files s).1 ≡ false → files_of h.volume s.tree.files < v.max_files
  has_file e = leb-false v.max_files (files_of h.volume s.tree.files) (sym (in_its_volume (λ volume totals. nat_le volume.max_files totals.files)) ∙ e)

  -- and so many bytes more
  pub has_space : (more : ℕ) → (space s (Some more)).1 ≡ false → bytes_of h.volume s.tree.files + more ≤ v.max_bytes
  has_space more e = ltb-false v.max_bytes (bytes_of h.volume s.tree.files + more) (sym (in_its_volume (λ volume totals. nat_lt volume.max_bytes (totals.bytes + more))) ∙ e)
