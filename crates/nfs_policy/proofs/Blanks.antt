-- What is read of a tree without some bytes.
use Rattle.std.proofs.Common.{◌≡◌, ℕ, ◌+◌, Bool, true, false, cond, List, [], ◌∷◌, map, length, sum_by, Option, Some, None, option_map, refl, sym, ap, ◌∙◌, arith}
use Rattle.std.proofs.lemmas.List.{length-replicate}
use Rattle.std.specs.Prelude.{nat_eq, nat_le, bytes_eq, not, ◌||◌, slice_get, if◌then◌else◌}
use Rattle.std.proofs.lemmas.List.Sums.{sum_by-cons}
use Rattle.nfs_attrs.specs.declared.fattr.Fattr.{Fattr}
use Rattle.nfs_handles.specs.Handles.{handle_at, reading, handle_text, live_with, is_shaped, key_in, tag_in, number_in}
use Rattle.nfs_handles.specs.declared.reading.Reading.TheVariants.{Stale, Bad}
use Rattle.nfs_inodes.specs.Changes.{volume_index}
use Rattle.nfs_handles.specs.NumberedFiles.{TaggedFile}
use Rattle.nfs_handles.specs.NumberedFiles as numbered
use Rattle.nfs_inodes.proofs.Maps.{at_shows, same_number}
use Rattle.nfs_inodes.proofs.law.Alike.{sum_same}
use Rattle.nfs_inodes.specs.Law.{parent_of}
use Rattle.nfs_inodes.specs.Reading.{attributes_of, attributes_at, listing, listing_at, entry_named, entry_at, cookie_of_next, next_cookie_at, path_at, path_of, verifier_at, totals_at, numbered_files}
use Rattle.nfs_inodes.specs.Tree.{Tree, File, Kind, Entry, Volume, Regular, Directory, Link, at, on_some, entries_in, bytes_in, parent_in, is_directory, names_in, names_of, names_directory, subdirectories, nlink, bytes_for, one_for, bytes_of, files_of, one_when}
use Rattle.nfs_handles.specs.Tags.{IsNextTag}
use Rattle.nfs_handles.proofs.Tags.{same_next_tag}
use Rattle.nfs_policy.specs.Shape.{blank_kind, blank_file, blank_where, blank, AgreeOutside}

abbrev pub shown : (ℕ → Bool) → ℕ × File → ℕ × File
shown p e = (e.0, blank_where (p e.0) e.1)

-- what is reported of a file, whatever its bytes
module _ {X : Type 0} (g : File → X) (same : (f : File) → g (blank_file f) ≡ g f) where
  pub reported : (b : Bool) (f : File) → g (blank_where b f) ≡ g f
  reported true f = same f
  reported false f = refl

-- ---- by number

module _ (p : ℕ → Bool) where
  step : (b : Bool) (n m : ℕ) (f : File) (o : Option File) → nat_eq n m ≡ b → cond b (Some (blank_where (p m) f)) (option_map (blank_where (p n)) o) ≡ option_map (blank_where (p n)) (cond b (Some f) o)
  step true n m f o e = ap (λ k. Some (blank_where (p k) f)) (sym (same_number n m e))
  step false n m f o e = refl

  pub at_blank : (n : ℕ) (es : List (ℕ × File)) → at n (map (shown p) es) ≡ option_map (blank_where (p n)) (at n es)
  at_blank n [] = refl
  at_blank n (e ∷ es) = ap (cond (nat_eq n e.0) (Some (blank_where (p e.0) e.1))) (at_blank n es) ∙ step (nat_eq n e.0) n e.0 e.1 (at n es) refl

  -- ---- sums

  module _ (w : File → ℕ) (same : (f : File) → w (blank_file f) ≡ w f) where
    pub sum_blank : (es : List (ℕ × File)) → sum_by (λ (e : ℕ × File). w e.1) (map (shown p) es) ≡ sum_by (λ (e : ℕ × File). w e.1) es
    sum_blank [] = refl
    sum_blank (e ∷ es) =
        let a = sum_by-cons (λ (e : ℕ × File). w e.1) (shown p e) (map (shown p) es) in
        let b = sum_by-cons (λ (e : ℕ × File). w e.1) e es in
        let here = reported w same (p e.0) e.1 in
        let rest = sum_blank es in
        omega (arith, a, b, here, rest)

  module _ {X : Type 0} (y : X) (g : File → X) (same : (f : File) → g (blank_file f) ≡ g f) where
    of_option : (b : Bool) (o : Option File) → on_some (option_map (blank_where b) o) y g ≡ on_some o y g
    of_option b None = refl
    of_option b (Some f) = reported g same b f

    -- what is reported of the file under a number
    pub read_blank : (t : Tree) (n : ℕ) → on_some (at n (blank p t).files) y g ≡ on_some (at n t.files) y g
    read_blank t n = ap (λ o. on_some o y g) (at_blank n t.files) ∙ of_option (p n) (at n t.files)

-- ---- what doesn't look at bytes

of_kind : {X : Type 0} (g : Kind → X) → ((bytes : List ℕ) → g (blank_kind (Regular bytes)) ≡ g (Regular bytes)) → (k : Kind) → g (blank_kind k) ≡ g k
of_kind g same (Regular bytes) = same bytes
of_kind g same (Directory parent next_cookie entries) = refl
of_kind g same (Link path) = refl

as_long : (bytes : List ℕ) → length (bytes_in (blank_kind (Regular bytes))) ≡ length bytes
as_long bytes = length-replicate (length bytes) 0

module _ (p : ℕ → Bool) (t : Tree) where
  pub names_blank : (n : ℕ) → names_of n (blank p t).files ≡ names_of n t.files
  names_blank n = sum_blank p (λ f. names_in n (entries_in f.kind)) (λ f. ap (names_in n) (of_kind entries_in (λ bytes. refl) f.kind)) t.files

  pub directory_blank : (e : Entry) → names_directory (blank p t).files e ≡ names_directory t.files e
  directory_blank e = read_blank p false (λ f. is_directory f.kind) (λ f. of_kind is_directory (λ bytes. refl) f.kind) t e.number

  pub subdirectories_blank : (es : List Entry) → subdirectories (blank p t).files es ≡ subdirectories t.files es
  subdirectories_blank es = sum_same (λ e. one_when (names_directory (blank p t).files e)) (λ e. one_when (names_directory t.files e)) es (λ e. ap one_when (directory_blank e))

  pub nlink_blank : (n : ℕ) (f : File) → nlink (blank p t).files n f ≡ nlink t.files n f
  nlink_blank n f = λ i. cond (is_directory f.kind) (2 + subdirectories_blank (entries_in f.kind) i) (names_blank n i)

  -- attributes
  of_file : (n : ℕ) (f : File) → attributes_of n (blank_file f) (nlink t.files n (blank_file f)) ≡ attributes_of n f (nlink t.files n f)
  of_file n f = by_kind f.kind
    where
      with_size : ℕ → Fattr
      with_size size = record (attributes_of n (record f { kind = Regular [] }) (names_of n t.files)) { size = size; used = size }

      by_kind : (k : Kind) → attributes_of n (record f { kind = blank_kind k }) (nlink t.files n (record f { kind = blank_kind k })) ≡ attributes_of n (record f { kind = k }) (nlink t.files n (record f { kind = k }))
      by_kind (Regular bytes) = λ i. with_size (as_long bytes i)
      by_kind (Directory parent next_cookie entries) = refl
      by_kind (Link path) = refl

  of_found : (n : ℕ) (b : Bool) (o : Option File) → option_map (λ f. attributes_of n f (nlink (blank p t).files n f)) (option_map (blank_where b) o) ≡ option_map (λ f. attributes_of n f (nlink t.files n f)) o
  of_found n b None = refl
  of_found n b (Some f) = (λ i. Some (attributes_of n (blank_where b f) (nlink_blank n (blank_where b f) i))) ∙ ap Some (reported (λ f. attributes_of n f (nlink t.files n f)) (of_file n) b f)

  pub attributes_blank : (n : ℕ) → attributes_at (blank p t) n ≡ attributes_at t n
  attributes_blank n = ap (option_map (λ f. attributes_of n f (nlink (blank p t).files n f))) (at_blank p n t.files) ∙ of_found n (p n) (at n t.files)

  -- entries
  pub listing_blank : (d : ℕ) → listing_at (blank p t) d ≡ listing_at t d
  listing_blank d = read_blank p [] (λ f. listing d f.kind) (λ f. of_kind (listing d) (λ bytes. refl) f.kind) t d

  pub entry_blank : (d : ℕ) (name : List ℕ) → entry_at (blank p t) d name ≡ entry_at t d name
  entry_blank d name = read_blank p None (λ f. entry_named name (entries_in f.kind)) (λ f. of_kind (λ k. entry_named name (entries_in k)) (λ bytes. refl) f.kind) t d

  pub next_cookie_blank : (d : ℕ) → next_cookie_at (blank p t) d ≡ next_cookie_at t d
  next_cookie_blank d = read_blank p None (λ f. cookie_of_next f.kind) (λ f. of_kind cookie_of_next (λ bytes. refl) f.kind) t d

  pub parent_blank : (d : ℕ) → parent_of (blank p t).files d ≡ parent_of t.files d
  parent_blank d = read_blank p 0 (λ f. parent_in f.kind) (λ f. of_kind parent_in (λ bytes. refl) f.kind) t d

  pub path_blank : (n : ℕ) → path_at (blank p t) n ≡ path_at t n
  path_blank n = read_blank p None (λ f. path_of f.kind) (λ f. of_kind path_of (λ bytes. refl) f.kind) t n

  pub verifier_blank : (n : ℕ) → verifier_at (blank p t) n ≡ verifier_at t n
  verifier_blank n = read_blank p None (λ f. f.verifier) (λ f. refl) t n

  pub volume_blank : (n : ℕ) → volume_index (blank p t) n ≡ volume_index t n
  volume_blank n = read_blank p 0 (λ f. f.volume) (λ f. refl) t n

  -- totals
  pub bytes_blank : (index : ℕ) → bytes_of index (blank p t).files ≡ bytes_of index t.files
  bytes_blank index = sum_blank p (bytes_for index) (λ f. ap (λ n. cond (nat_eq f.volume index) n 0) (of_kind (λ k. length (bytes_in k)) as_long f.kind)) t.files

  pub count_blank : (index : ℕ) → files_of index (blank p t).files ≡ files_of index t.files
  count_blank index = sum_blank p (one_for index) (λ f. refl) t.files

  pub totals_blank : (index : ℕ) → totals_at (blank p t) index ≡ totals_at t index
  totals_blank index = λ i. option_map (λ (v : Volume). record { bytes = bytes_blank index i; files = count_blank index i }) (slice_get t.volumes index)

  -- handles
  abbrev tagged : File → TaggedFile File
  tagged f = record { tag = f.tag; value = f }

  at_numbered : (u : Tree) (n : ℕ) → numbered.at (numbered_files u) n ≡ option_map tagged (at n u.files)
  at_numbered u n = at_shows tagged n u.files

  pub handle_blank : (n : ℕ) → handle_at (numbered_files (blank p t)) n ≡ handle_at (numbered_files t) n
  handle_blank n = ap (option_map (λ (f : TaggedFile File). handle_text t.key f.tag n)) (at_numbered (blank p t) n ∙ ap (option_map tagged) (at_blank p n t.files))
      ∙ of (p n) (at n t.files) ∙ sym (ap (option_map (λ (f : TaggedFile File). handle_text t.key f.tag n)) (at_numbered t n))
    where
      of : (b : Bool) (o : Option File) → option_map (λ (f : TaggedFile File). handle_text t.key f.tag n) (option_map tagged (option_map (blank_where b) o)) ≡ option_map (λ (f : TaggedFile File). handle_text t.key f.tag n) (option_map tagged o)
      of b None = refl
      of true (Some f) = refl
      of false (Some f) = refl

  pub tag_blank : (n : ℕ) → numbered.tag_at (numbered_files (blank p t)) n ≡ numbered.tag_at (numbered_files t) n
  tag_blank n = ap (option_map (λ (f : TaggedFile File). f.tag)) (at_numbered (blank p t) n ∙ ap (option_map tagged) (at_blank p n t.files)) ∙ of (p n) (at n t.files) ∙ sym (ap (option_map (λ (f : TaggedFile File). f.tag)) (at_numbered t n))
    where
      of : (b : Bool) (o : Option File) → option_map (λ (f : TaggedFile File). f.tag) (option_map tagged (option_map (blank_where b) o)) ≡ option_map (λ (f : TaggedFile File). f.tag) (option_map tagged o)
      of b None = refl
      of true (Some f) = refl
      of false (Some f) = refl

  live_blank : (tag n : ℕ) → live_with tag n (numbered.at (numbered_files (blank p t)) n) ≡ live_with tag n (numbered.at (numbered_files t) n)
  live_blank tag n = ap (live_with tag n) (at_numbered (blank p t) n ∙ ap (option_map tagged) (at_blank p n t.files)) ∙ of (p n) (at n t.files) ∙ sym (ap (live_with tag n) (at_numbered t n))
    where
      of : (b : Bool) (o : Option File) → live_with tag n (option_map tagged (option_map (blank_where b) o)) ≡ live_with tag n (option_map tagged o)
      of b None = refl
      of true (Some f) = refl
      of false (Some f) = refl

  pub reading_blank : (handle : List ℕ) → reading (numbered_files (blank p t)) handle ≡ reading (numbered_files t) handle
  reading_blank handle = λ i.
      if not (is_shaped handle) then Bad
      else (if not (bytes_eq (key_in handle) t.key) then Stale
      else (if nat_eq (number_in handle) 0 || nat_le t.next (number_in handle) then Bad
      else live_blank (tag_in handle) (number_in handle) i))

-- the next tag of trees that agree outside a file is the same
pub next_tag_outside : (f : ℕ) (t u : Tree) → AgreeOutside f t u → (tag : ℕ) → IsNextTag (numbered_files t) tag → IsNextTag (numbered_files u) tag
next_tag_outside f t u agree tag is = same_next_tag (numbered_files t) (numbered_files u) tag
    (λ n. sym (tag_blank (nat_eq f) u n) ∙ ap (λ (v : Tree). numbered.tag_at (numbered_files v) n) (sym agree) ∙ tag_blank (nat_eq f) t n) is
