-- The files of a tree as numbered files, after changes of the tree.
use Rattle.std.proofs.Common.{◌≡◌, ℕ, ◌+◌, ◌-◌, ◌^◌, ◌<◌, List, option_map, sym, ap, subst, ◌∙◌, arith}
use Rattle.nfs_handles.specs.NumberedFiles.{TaggedFile, NumberedFiles, with_new, with_value, revalued, without, IsNumbered}
use Rattle.nfs_handles.proofs.Numbers.{numbered_new, numbered_value, numbered_without}
use Rattle.nfs_inodes.specs.Tree.{Tree, File, with_at}
use Rattle.nfs_inodes.specs.Law.{Lives}
use Rattle.nfs_inodes.specs.Reading.{numbered_files}
use Rattle.nfs_inodes.specs.Changes.{with_new_file, with_file, without_file}
use Rattle.nfs_inodes.proofs.Maps.{at_shows, shows_with, shows_push, shows_without}

abbrev tagged : File → TaggedFile File
tagged f = record { tag = f.tag; value = f }

abbrev with_files : Tree → ℕ → List (ℕ × TaggedFile File) → NumberedFiles File
with_files t next files = record { files = files; next = next; key = t.key }

pub numbered_born : (t : Tree) (f : File) → numbered_files (with_new_file t f) ≡ with_new (numbered_files t) f.tag f
numbered_born t f = ap (with_files t (t.next + 1)) (shows_push tagged t.next f t.files)

pub numbered_changed : (t : Tree) (n : ℕ) (f g : File) → Lives t n f → g.tag ≡ f.tag → numbered_files (with_file t n g) ≡ with_value (numbered_files t) n g
numbered_changed t n f g at_n same =
    ap (with_files t t.next) (shows_with tagged n g t.files ∙ ap (λ tag. with_at n (record { tag = tag; value = g }) (numbered_files t).files) same)
    ∙ sym (ap (revalued (numbered_files t) n g) (at_shows tagged n t.files ∙ ap (option_map tagged) at_n))

pub numbered_gone : (t : Tree) (n : ℕ) → numbered_files (without_file t n) ≡ without (numbered_files t) n
numbered_gone t n = ap (with_files t t.next) (shows_without tagged n t.files)

pub numbers_born : (t : Tree) (f : File) → IsNumbered (numbered_files t) → f.tag < 2 ^ 32 → t.next < 2 ^ 64 - 1 → IsNumbered (numbered_files (with_new_file t f))
numbers_born t f h fits room = subst IsNumbered (sym (numbered_born t f)) (numbered_new (numbered_files t) f.tag f h fits (omega (arith, room)))

pub numbers_changed : (t : Tree) (n : ℕ) (f g : File) → Lives t n f → g.tag ≡ f.tag → IsNumbered (numbered_files t) → IsNumbered (numbered_files (with_file t n g))
numbers_changed t n f g at_n same h = subst IsNumbered (sym (numbered_changed t n f g at_n same)) (numbered_value (numbered_files t) n g h)

pub numbers_gone : (t : Tree) (n : ℕ) → IsNumbered (numbered_files t) → IsNumbered (numbered_files (without_file t n))
numbers_gone t n h = subst IsNumbered (sym (numbered_gone t n)) (numbered_without (numbered_files t) n h)
