-- What is shown of a file that was made, and of the directory of its name.
use Rattle.std.proofs.Common.{◌≡◌, ℕ, List, Option, Some, None, option_map, refl, sym, ap, ◌∙◌}
use Rattle.nfs_args.specs.declared.made.Made.{Made}
use Rattle.nfs_attrs.specs.declared.fattr.Fattr.{Fattr}
use Rattle.nfs_attrs.specs.declared.wcc.Wcc.{Wcc}
use Rattle.nfs_handles.specs.Handles.{handle_at, handle_text}
use Rattle.nfs_handles.specs.NumberedFiles.{TaggedFile}
use Rattle.nfs_inodes.proofs.Maps.{at_shows}
use Rattle.nfs_inodes.specs.Reading.{attributes_at, attributes_of, numbered_files}
use Rattle.nfs_inodes.specs.Tree.{Tree, File, at, nlink}
use Rattle.nfs_inodes.specs.Views.{FileView, IsSeen}
use Rattle.nfs_procs.specs.Changers.{made_of, new_file_in}
use Rattle.nfs_procs.specs.Doing.{change}
use Rattle.nfs_rules.specs.Subjects.{Subject}

pub shows_made : (new : Tree) (n number : ℕ) (s : Subject) (file : Fattr) (dir : Wcc) → file ≡ s.file → n ≡ number → dir ≡ change (Some file) (attributes_at new file.fileid) → new_file_in new n dir ≡ made_of new number s
shows_made new n number s file dir same is shown =
    ap (new_file_in new n) (shown ∙ ap (λ (d : Fattr). change (Some d) (attributes_at new d.fileid)) same) ∙ ap (λ m. made_of new m s) is

abbrev made_with : Option (List ℕ) → Option Fattr → Wcc → Made
made_with handle attributes dir = record { file = handle; attributes = attributes; dir = dir }

pub shows_seen : (t : Tree) (n : ℕ) (dir : Wcc) (v : FileView) (text handle : List ℕ) (f : Fattr) → IsSeen t v → v.attributes.fileid ≡ n → handle_at (numbered_files t) v.attributes.fileid ≡ Some handle → text ≡ handle → f ≡ v.attributes
    → made_with (Some text) (Some f) dir ≡ new_file_in t n dir
shows_seen t n dir v text handle f seen number handled same is =
    ap (λ h. made_with h (Some f) dir) (ap Some same ∙ sym handled ∙ ap (handle_at (numbered_files t)) number) ∙ ap (λ a. made_with (handle_at (numbered_files t) n) a dir) (ap Some is ∙ sym seen.0 ∙ ap (attributes_at t) number)

-- a file that does not live has no handle
no_handle : (t : Tree) (n : ℕ) → attributes_at t n ≡ None → handle_at (numbered_files t) n ≡ None
no_handle t n none = ap (option_map (λ (f : TaggedFile File). handle_text t.key f.tag n)) (at_shows filed_as n t.files) ∙ of (at n t.files) none
  where
    filed_as : File → TaggedFile File
    filed_as f = record { tag = f.tag; value = f }

    of : (o : Option File) → option_map (λ (f : File). attributes_of n f (nlink t.files n f)) o ≡ None → option_map (λ (f : TaggedFile File). handle_text t.key f.tag n) (option_map filed_as o) ≡ None
    of None e = refl
    of (Some f) e = cc

pub shows_none : (t : Tree) (n : ℕ) (dir : Wcc) → attributes_at t n ≡ None → made_with None None dir ≡ new_file_in t n dir
shows_none t n dir none = ap (λ h. made_with h None dir) (sym (no_handle t n none)) ∙ ap (λ a. made_with (handle_at (numbered_files t) n) a dir) (sym none)
