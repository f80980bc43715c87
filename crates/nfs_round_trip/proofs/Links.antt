-- Each file has as many links as the one that it copies.
use Rattle.std.proofs.Common.{◌≡◌, ℕ, ◌+◌, true, List, refl, sym, ap, subst, ◌∙◌, arith}
use Rattle.std.specs.Prelude.{Bool, if◌then◌else◌}
use Rattle.nfs_inodes.specs.Law.{Law, Lives, LivesAsDirectory}
use Rattle.nfs_inodes.specs.Tree.{Tree, File, Kind, Regular, Directory, Link, Entry, Volume, entries_in, is_directory, names_in, names_of, nlink, on_some}
use Rattle.nfs_inodes.specs.Tree.{subdirectories}
use Rattle.nfs_round_trip.specs.Copies.{copied, copied_kind}
use Rattle.nfs_round_trip.proofs.Directories.{shown}
use Rattle.nfs_round_trip.proofs.Made.{Has, at_most_once, made_once, made_sum_is, weighed, weighed_all, weighed_least, with_entries}
use Rattle.nfs_round_trip.proofs.Parts.{AllHave, IsPart, shown_have, so_far}
use Rattle.nfs_round_trip.proofs.Rooms.{names_copied, subdirectories_copied}
use Rattle.nfs_round_trip.proofs.Walks.{Step}

module _ (t : Tree) (law : Law t) (number : ℕ → ℕ) (timed : ℕ → Bool) (all : List Step) (ns : List ℕ) (vs : List Volume) (u : Tree)
    (part : IsPart t number timed all ns vs u)
    (have : (m : ℕ) (f : File) → Lives t m f → Has m ns) (full : (m : ℕ) (f : File) → LivesAsDirectory t m f → shown all m ≡ entries_in f.kind) where
  names_of_copy : (n : ℕ) → Has n ns → (es : List Entry) → AllHave ns es → (k : Kind) → (is_directory k ≡ true → es ≡ entries_in k)
      → names_in (number n) (entries_in (copied_kind number (with_entries es k))) ≡ names_in n (entries_in k)
  names_of_copy n has es all_have (Regular bytes) same = refl
  names_of_copy n has es all_have (Link path) same = refl
  names_of_copy n has es all_have (Directory parent next_cookie entries) same =
      names_copied number ns n (λ a has_a e. made_once t number (so_far all timed) 1 ns u.files a n part.files has_a has e) 3 es all_have ∙ ap (names_in n) (same refl)

  pub names_same : (n : ℕ) → Has n ns → names_of (number n) u.files ≡ names_of n t.files
  names_same n has =
      let weight : File → ℕ = λ (h : File). names_in n (entries_in h.kind) in
      let made = made_sum_is t number (so_far all timed) (λ (h : File). names_in (number n) (entries_in h.kind)) (weighed weight t.files) 1 ns u.files part.files
      (λ m h has_m is. ap (λ (k : File). names_in (number n) (entries_in k.kind)) is.is
      ∙ names_of_copy n has (shown all m) (shown_have ns all m part.known) is.file.kind (λ y. full m is.file (is.at_file, y))
      ∙ ap (λ o. on_some o 0 weight) (sym is.at_file)) in
      let most = weighed_all weight t.files ns (λ m. at_most_once t number (so_far all timed) 1 ns u.files m part.files) in
      let least = weighed_least weight 0 t.next t.files ns law.rising (λ m f lives. have m f lives) in
      omega (arith, made, most, least)

  of_kind : (n : ℕ) (k : Kind) → Has n ns → (is_directory k ≡ true → AllHave ns (entries_in k))
      → (if is_directory (copied_kind number k) then 2 + subdirectories u.files (entries_in (copied_kind number k)) else names_of (number n) u.files)
      ≡ (if is_directory k then 2 + subdirectories t.files (entries_in k) else names_of n t.files)
  of_kind n (Regular bytes) has each = names_same n has
  of_kind n (Link path) has each = names_same n has
  of_kind n (Directory parent next_cookie entries) has each =
      ap (λ m. 2 + m) (subdirectories_copied t law number timed all ns vs u part 3 entries (each refl))

  pub links_same : (n tag : ℕ) (f : File) → Lives t n f → nlink u.files (number n) (copied number tag f) ≡ nlink t.files n f
  links_same n tag f lives = of_kind n f.kind (have n f lives)
      (λ y. subst (AllHave ns) (full n f (lives, y)) (shown_have ns all n part.known))
