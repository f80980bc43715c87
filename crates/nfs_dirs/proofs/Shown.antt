-- What an entry of READDIRPLUS reports of its file.
use Rattle.std.proofs.Common.{◌≡◌, ℕ, Bool, true, false, List, [], ◌∷◌, map, Option, Some, None, ◌++◌, if◌then◌else◌, option_map, is_some, refl, sym, subst, arith}
use Rattle.std.specs.Int.{w64}
use Rattle.nfs_args.specs.declared.entry_plus.EntryPlus.{EntryPlus}
use Rattle.nfs_xdr.proofs.Items.{opaque_written}
use Rattle.nfs_xdr.proofs.Writing.{followed, number_written}
use Rattle.nfs_xdr.specs.Encoding.{opaque_text, optional_text}
use Rattle.nfs_xdr.specs.Written.{Written, Appends}
use Rattle.nfs_attrs.specs.Encoding.{post_op_attr_text}
use Rattle.nfs_attrs.specs.declared.fattr.Fattr.{Fattr}
use Rattle.nfs_handles.specs.Handles.{handle_text, handle_at}
use Rattle.nfs_handles.specs.NumberedFiles as numbered
use Rattle.nfs_inodes.specs.Tree.{Tree, File, Entry, at, nlink}
use Rattle.nfs_inodes.specs.Reading.{attributes_at, attributes_of, numbered_files}
use Rattle.nfs_inodes.proofs.Follows.{lives_alike}
use Rattle.nfs_args.specs.Chains.{Each, chained_text}
use Rattle.nfs_args.specs.Pages.{IsEntry, IsEntryFile, IsEntryPlus, entry_text, entry_file_text, entry_plus_text}
use Rattle.nfs_args.proofs.Entries.{entry_plus_parts}
use Rattle.nfs_dirs.specs.Pages.{entry_reported, entry_plus_reported, entry_plus_with}

-- the entry, and after it what its file is
pub shown : (e : Entry) (attributes : Option Fattr) (handle : Option (List ℕ)) (a b d : Written) → Appends (chained_text entry_text (entry_reported e)) a b → Appends (post_op_attr_text attributes ++ optional_text opaque_text handle) b d
    → Appends (chained_text entry_plus_text (entry_plus_with e attributes handle)) a d
shown e attributes handle a b d front file = entry_plus_parts (entry_plus_with e attributes handle) (entry_reported e) a b d refl refl refl front file

pub shown_encoded : (e : Entry) (attributes : Option Fattr) (handle : Option (List ℕ)) → IsEntry (entry_reported e) (entry_text (entry_reported e)) → IsEntryFile attributes handle (entry_file_text attributes handle)
    → IsEntryPlus (entry_plus_with e attributes handle) (entry_plus_text (entry_plus_with e attributes handle))
shown_encoded e attributes handle entry file =
    followed _ _ _ _ (number_written w64 e.number entry.first.fits)
    (followed _ _ _ _ (opaque_written 4294967295 e.name (omega (arith, entry.second.first.bound)) entry.second.first.bound)
    (followed _ _ _ _ (number_written w64 e.cookie entry.second.second.fits) file))

no_handle : (o : Option (numbered.TaggedFile File)) (p : Option File) (key : List ℕ) (n : ℕ) → is_some o ≡ is_some p → (g : File → Fattr) → option_map g p ≡ None → option_map (λ file. handle_text key file.tag n) o ≡ None
no_handle None p key n same g e = refl
no_handle (Some f) None key n same g e = cc
no_handle (Some f) (Some h) key n same g e = cc

-- what holds of the entry with what is known of its file
module _ (t : Tree) (e : Entry) (Holds : EntryPlus → Type 0) where
  abbrev reported : Bool → Option Fattr → Option (List ℕ) → Type 0
  reported searchable attributes handle = Holds (entry_plus_with e (if searchable then attributes else None) (if searchable then handle else None))

  -- a file that lives
  pub reported_living : (searchable : Bool) (n : ℕ) (attributes : Fattr) (handle : List ℕ) → searchable ≡ true → n ≡ e.number → attributes_at t n ≡ Some attributes → handle_at (numbered_files t) n ≡ Some handle
      → Holds (entry_plus_with e (Some attributes) (Some handle)) → Holds (entry_plus_reported t searchable e)
  reported_living searchable n attributes handle is_searchable same attributes_are handle_is holds =
      subst (λ s. reported s (attributes_at t e.number) (handle_at (numbered_files t) e.number)) (sym is_searchable)
      (subst (λ m. reported true (attributes_at t m) (handle_at (numbered_files t) m)) same
      (subst (λ o. reported true o (handle_at (numbered_files t) n)) (sym attributes_are)
      (subst (λ o. reported true (Some attributes) o) (sym handle_is) holds)))

  -- where the caller may not search, and where no file lives
  pub reported_hidden : (searchable : Bool) → searchable ≡ false → Holds (entry_plus_with e None None) → Holds (entry_plus_reported t searchable e)
  reported_hidden searchable hidden holds = subst (λ s. reported s (attributes_at t e.number) (handle_at (numbered_files t) e.number)) (sym hidden) holds

  pub reported_gone : (searchable : Bool) → searchable ≡ true → attributes_at t e.number ≡ None → Holds (entry_plus_with e None None) → Holds (entry_plus_reported t searchable e)
  reported_gone searchable is_searchable gone holds =
      let no = no_handle (numbered.at (numbered_files t) e.number) (at e.number t.files) t.key e.number (lives_alike t e.number) (λ f. attributes_of e.number f (nlink t.files e.number f)) gone in
      subst (λ s. reported s (attributes_at t e.number) (handle_at (numbered_files t) e.number)) (sym is_searchable)
      (subst (λ o. reported true o (handle_at (numbered_files t) e.number)) (sym gone)
      (subst (λ o. reported true None o) (sym no) holds))

-- what holds of each item, and of one more
pub each_push : {A B : Type 0} (P : B → Type 0) (reported : A → B) (items : List A) (item : A) → Each P (map reported items) → P (reported item) → Each P (map reported (items ++ item ∷ []))
each_push P reported [] item each one = (one, tt)
each_push P reported (x ∷ items) item each one = (each.0, each_push P reported items item each.1 one)
