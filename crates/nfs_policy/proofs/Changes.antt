-- Operations on a tree without some bytes.
use Rattle.std.proofs.Common.{◌≡◌, ℕ, ◌+◌, Bool, true, false, cond, List, [], ◌∷◌, ◌++◌, map, length, Option, Some, None, option_map, refl, sym, ap, ◌∙◌, length-append, length-drop, length-take}
use Rattle.std.proofs.lemmas.List.{length-replicate}
use Rattle.std.specs.Prelude.{nat_eq, if◌then◌else◌}
use Rattle.nfs_attrs.specs.declared.moment.Moment.{Moment}
use Rattle.nfs_inodes.proofs.Maps.{same_number}
use Rattle.nfs_inodes.specs.declared.given_attributes.GivenAttributes.{GivenAttributes}
use Rattle.nfs_inodes.specs.declared.new_file.NewFile.{NewFile}
use Rattle.nfs_inodes.specs.Changes.{with_new_file, with_file, kind_with_entry, entered, with_entry, kind_without_entry, left, without_entry, without_file, touched, released, kind_with_parent, moved_to, moved, zeros, new_file, volume_index, with_named_file, after_make_file, after_mkdir, after_make_link, after_link, put_bytes, kind_with_bytes, file_with_bytes, after_write_at, sized, resized_to, after_resize, with_given, after_set, after_unlink, carried, after_rename}
use Rattle.nfs_inodes.specs.Reading.{entry_at}
use Rattle.nfs_inodes.specs.Tree.{Tree, File, Kind, Entry, Regular, Directory, Link, at, with_at, without_at, on_some, bytes_in, names_of}
use Rattle.nfs_policy.specs.Shape.{blank_kind, blank_file, blank_where, blank}
use Rattle.nfs_policy.proofs.Blanks.{shown, at_blank, names_blank, entry_blank, volume_blank}

-- ---- twice is once

pub length_zeros : (n : ℕ) → length (zeros n) ≡ n
length_zeros n = length-replicate n 0

kind_twice : (k : Kind) → blank_kind (blank_kind k) ≡ blank_kind k
kind_twice (Regular bytes) = ap (λ n. Regular (zeros n)) (length_zeros (length bytes))
kind_twice (Directory parent next_cookie entries) = refl
kind_twice (Link path) = refl

pub where_twice : (b : Bool) (f : File) → blank_where b (blank_where b f) ≡ blank_where b f
where_twice true f = ap (λ k. record f { kind = k }) (kind_twice f.kind)
where_twice false f = refl

module _ (p : ℕ → Bool) where
  files_twice : (es : List (ℕ × File)) → map (shown p) (map (shown p) es) ≡ map (shown p) es
  files_twice [] = refl
  files_twice (e ∷ es) = λ i. (e.0, where_twice (p e.0) e.1 i) ∷ files_twice es i

  pub blank_twice : (t : Tree) → blank p (blank p t) ≡ blank p t
  blank_twice t = λ i. record t { files = files_twice t.files i }

  -- ---- the elementary changes

  with_step : (b : Bool) (n m : ℕ) (x g : File) (es fs : List (ℕ × File)) → nat_eq n m ≡ b → map (shown p) (cond b ((m, g) ∷ es) ((m, x) ∷ fs)) ≡ cond b ((m, blank_where (p n) g) ∷ map (shown p) es) ((m, blank_where (p m) x) ∷ map (shown p) fs)
  with_step true n m x g es fs e = ap (λ k. (m, blank_where (p k) g) ∷ map (shown p) es) (sym (same_number n m e))
  with_step false n m x g es fs e = refl

  files_with : (n : ℕ) (g : File) (es : List (ℕ × File)) → map (shown p) (with_at n g es) ≡ with_at n (blank_where (p n) g) (map (shown p) es)
  files_with n g [] = refl
  files_with n g (e ∷ es) = with_step (nat_eq n e.0) n e.0 e.1 g es (with_at n g es) refl ∙ ap (λ l. cond (nat_eq n e.0) ((e.0, blank_where (p n) g) ∷ map (shown p) es) ((e.0, blank_where (p e.0) e.1) ∷ l)) (files_with n g es)

  without_step : (b : Bool) (e : ℕ × File) (es fs : List (ℕ × File)) → map (shown p) (cond b es (e ∷ fs)) ≡ cond b (map (shown p) es) (shown p e ∷ map (shown p) fs)
  without_step true e es fs = refl
  without_step false e es fs = refl

  files_without : (n : ℕ) (es : List (ℕ × File)) → map (shown p) (without_at n es) ≡ without_at n (map (shown p) es)
  files_without n [] = refl
  files_without n (e ∷ es) = without_step (nat_eq n e.0) e es (without_at n es) ∙ ap (λ l. cond (nat_eq n e.0) (map (shown p) es) (shown p e ∷ l)) (files_without n es)

  files_push : (n : ℕ) (g : File) (es : List (ℕ × File)) → map (shown p) (es ++ (n, g) ∷ []) ≡ map (shown p) es ++ (n, blank_where (p n) g) ∷ []
  files_push n g [] = refl
  files_push n g (e ∷ es) = ap (λ l. shown p e ∷ l) (files_push n g es)

  -- of one file
  abbrev pub on_file : Tree → ℕ → (File → File) → Tree
  on_file t n h = on_some (at n t.files) t (λ f. with_file t n (h f))

  -- a change of a file that leaves its bytes
  module _ (h : File → File) (same : (f : File) → h (blank_file f) ≡ blank_file (h f)) where
    where_same : (b : Bool) (f : File) → h (blank_where b f) ≡ blank_where b (h f)
    where_same true f = same f
    where_same false f = refl

    of_file : (t : Tree) (n : ℕ) (o : Option File) → on_some (option_map (blank_where (p n)) o) (blank p t) (λ f. with_file (blank p t) n (h f)) ≡ blank p (on_some o t (λ f. with_file t n (h f)))
    of_file t n None = refl
    of_file t n (Some f) = (λ i. with_file (blank p t) n (where_same (p n) f i)) ∙ (λ i. record t { files = sym (files_with n (h f) t.files) i })

    pub on_file_blank : (t : Tree) (n : ℕ) → on_file (blank p t) n h ≡ blank p (on_file t n h)
    on_file_blank t n = ap (λ o. on_some o (blank p t) (λ f. with_file (blank p t) n (h f))) (at_blank p n t.files) ∙ of_file t n (at n t.files)

  -- a change of a file whose bytes alone depend on its bytes
  module _ (h : File → File) (same : (f : File) → blank_file (h (blank_file f)) ≡ blank_file (h f)) where
    where_alike : (b : Bool) (f : File) → blank_where b (h (blank_where b f)) ≡ blank_where b (h f)
    where_alike true f = same f
    where_alike false f = refl

    of_bytes : (t : Tree) (n : ℕ) (o : Option File) → blank p (on_some (option_map (blank_where (p n)) o) (blank p t) (λ f. with_file (blank p t) n (h f))) ≡ blank p (on_some o t (λ f. with_file t n (h f)))
    of_bytes t n None = blank_twice t
    of_bytes t n (Some f) = λ i. record t {
      files = (files_with n (h (blank_where (p n) f)) (map (shown p) t.files)
          ∙ ap (λ g. with_at n g (map (shown p) (map (shown p) t.files))) (where_alike (p n) f)
          ∙ ap (with_at n (blank_where (p n) (h f))) (files_twice t.files)
          ∙ sym (files_with n (h f) t.files)) i;
    }

    pub on_bytes_blank : (t : Tree) (n : ℕ) → blank p (on_file (blank p t) n h) ≡ blank p (on_file t n h)
    on_bytes_blank t n = ap (λ o. blank p (on_some o (blank p t) (λ f. with_file (blank p t) n (h f)))) (at_blank p n t.files) ∙ of_bytes t n (at n t.files)

  of_kind : (h : Kind → Kind) → ((bytes : List ℕ) → h (Regular bytes) ≡ Regular bytes) → (k : Kind) → ((parent next_cookie : ℕ) (entries : List Entry) → h (Directory parent next_cookie entries) ≡ blank_kind (h (Directory parent next_cookie entries))) → ((path : List ℕ) → h (Link path) ≡ Link path) → h (blank_kind k) ≡ blank_kind (h k)
  of_kind h regular (Regular bytes) directory link = regular (zeros (length bytes)) ∙ sym (ap blank_kind (regular bytes))
  of_kind h regular (Directory parent next_cookie entries) directory link = directory parent next_cookie entries
  of_kind h regular (Link path) directory link = link path ∙ sym (ap blank_kind (link path))

  pub entry_with : (t : Tree) (d n : ℕ) (name : List ℕ) (now : Moment) → with_entry (blank p t) d name n now ≡ blank p (with_entry t d name n now)
  entry_with t d n name now = on_file_blank (λ f. entered f name n now) (λ f. λ i. record f { kind = of_kind (λ k. kind_with_entry k name n) (λ bytes. refl) f.kind (λ parent next_cookie entries. refl) (λ path. refl) i; mtime = now; ctime = now }) t d

  pub entry_without : (t : Tree) (d : ℕ) (name : List ℕ) (now : Moment) → without_entry (blank p t) d name now ≡ blank p (without_entry t d name now)
  entry_without t d name now = on_file_blank (λ f. left f name now) (λ f. λ i. record f { kind = of_kind (λ k. kind_without_entry k name) (λ bytes. refl) f.kind (λ parent next_cookie entries. refl) (λ path. refl) i; mtime = now; ctime = now }) t d

  pub touched_blank : (t : Tree) (n : ℕ) (now : Moment) → touched (blank p t) n now ≡ blank p (touched t n now)
  touched_blank t n now = on_file_blank (λ f. record f { ctime = now }) (λ f. refl) t n

  pub moved_blank : (t : Tree) (n d : ℕ) (now : Moment) → moved (blank p t) n d now ≡ blank p (moved t n d now)
  moved_blank t n d now = on_file_blank (λ f. moved_to f d now) (λ f. λ i. record f { kind = of_kind (λ k. kind_with_parent k d) (λ bytes. refl) f.kind (λ parent next_cookie entries. refl) (λ path. refl) i; ctime = now }) t n

  pub set_blank : (t : Tree) (n : ℕ) (given : GivenAttributes) (now : Moment) → after_set (blank p t) n given now ≡ blank p (after_set t n given now)
  set_blank t n given now = on_file_blank (λ f. with_given f given now) (λ f. refl) t n

  file_without : (t : Tree) (n : ℕ) → without_file (blank p t) n ≡ blank p (without_file t n)
  file_without t n = λ i. record t { files = sym (files_without n t.files) i }

  of_case : (b : Bool) (x y x' y' : Tree) → x ≡ blank p x' → y ≡ blank p y' → (if b then x else y) ≡ blank p (if b then x' else y')
  of_case true x y x' y' e f = e
  of_case false x y x' y' e f = f

  pub released_blank : (t : Tree) (n : ℕ) (now : Moment) → released (blank p t) n now ≡ blank p (released t n now)
  released_blank t n now = ap (λ k. if nat_eq k 0 then without_file (blank p t) n else touched (blank p t) n now) (names_blank p t n)
      ∙ of_case (nat_eq (names_of n t.files) 0) (without_file (blank p t) n) (touched (blank p t) n now) (without_file t n) (touched t n now) (file_without t n) (touched_blank t n now)

  -- ---- the operations

  of_entry : (t : Tree) (e f : Entry → Tree) (o : Option Entry) → ((x : Entry) → e x ≡ blank p (f x)) → on_some o (blank p t) e ≡ blank p (on_some o t f)
  of_entry t e f None same = refl
  of_entry t e f (Some x) same = same x

  pub unlink_blank : (t : Tree) (d : ℕ) (name : List ℕ) (now : Moment) → after_unlink (blank p t) d name now ≡ blank p (after_unlink t d name now)
  unlink_blank t d name now = ap (λ o. on_some o (blank p t) (λ e. released (without_entry (blank p t) d name now) e.number now)) (entry_blank p t d name)
      ∙ of_entry t (λ e. released (without_entry (blank p t) d name now) e.number now) (λ e. released (without_entry t d name now) e.number now) (entry_at t d name)
      (λ e. ap (λ u. released u e.number now) (entry_without t d name now) ∙ released_blank (without_entry t d name now) e.number now)

  pub carried_blank : (t : Tree) (from n to : ℕ) (name new_name : List ℕ) (now : Moment) → carried (blank p t) from name n to new_name now ≡ blank p (carried t from name n to new_name now)
  carried_blank t from n to name new_name now =
      ap (λ u. with_entry (moved u n to now) to new_name n now) (entry_without t from name now)
      ∙ ap (λ u. with_entry u to new_name n now) (moved_blank (without_entry t from name now) n to now)
      ∙ entry_with (moved (without_entry t from name now) n to now) to n new_name now

  of_target : (t : Tree) (c c' : Tree) (e f : Entry → Tree) (o : Option Entry) → c ≡ blank p c' → ((x : Entry) → e x ≡ blank p (f x)) → on_some o c e ≡ blank p (on_some o c' f)
  of_target t c c' e f None first same = first
  of_target t c c' e f (Some x) first same = same x

  pub rename_blank : (t : Tree) (from to : ℕ) (name new_name : List ℕ) (now : Moment) → after_rename (blank p t) from name to new_name now ≡ blank p (after_rename t from name to new_name now)
  rename_blank t from to name new_name now =
      ap (λ o. on_some o (blank p t) (at_target (blank p t))) (entry_blank p t from name)
      ∙ of_entry t (at_target (blank p t)) (at_target t) (entry_at t from name)
      (λ e. ap (λ o. on_some o (carried (blank p t) from name e.number to new_name now) (over (blank p t) e)) (entry_blank p t to new_name)
      ∙ of_target t (carried (blank p t) from name e.number to new_name now) (carried t from name e.number to new_name now) (over (blank p t) e) (over t e) (entry_at t to new_name)
      (carried_blank t from e.number to name new_name now)
      (λ old. of_case (nat_eq e.number old.number) (blank p t) (carried (after_unlink (blank p t) to new_name now) from name e.number to new_name now) t (carried (after_unlink t to new_name now) from name e.number to new_name now)
      refl
      (ap (λ u. carried u from name e.number to new_name now) (unlink_blank t to new_name now) ∙ carried_blank (after_unlink t to new_name now) from e.number to name new_name now)))
    where
      over : Tree → Entry → Entry → Tree
      over u e old = if nat_eq e.number old.number then u else carried (after_unlink u to new_name now) from name e.number to new_name now

      at_target : Tree → Entry → Tree
      at_target u e = on_some (entry_at u to new_name) (carried u from name e.number to new_name now) (over u e)

  pub link_blank : (t : Tree) (n d : ℕ) (name : List ℕ) (now : Moment) → after_link (blank p t) n d name now ≡ blank p (after_link t n d name now)
  link_blank t n d name now = ap (λ u. with_entry u d name n now) (touched_blank t n now) ∙ entry_with (touched t n now) d n name now

  -- ---- new files

  new_blank : (t : Tree) (f : File) → ((b : Bool) → blank_where b f ≡ f) → with_new_file (blank p t) f ≡ blank p (with_new_file t f)
  new_blank t f zeros = λ i. record t { files = (ap (λ g. map (shown p) t.files ++ (t.next, g) ∷ []) (sym (zeros (p t.next))) ∙ sym (files_push t.next f t.files)) i; next = t.next + 1 }

  named_file_blank : (t : Tree) (d : ℕ) (name : List ℕ) (f : ℕ → File) (now : Moment) → ((b : Bool) (volume : ℕ) → blank_where b (f volume) ≡ f volume) → with_named_file (blank p t) d name (f (volume_index (blank p t) d)) now ≡ blank p (with_named_file t d name (f (volume_index t d)) now)
  named_file_blank t d name f now zeros =
      ap (λ v. with_named_file (blank p t) d name (f v) now) (volume_blank p t d)
      ∙ ap (λ u. with_entry u d name t.next now) (new_blank t (f (volume_index t d)) (λ b. zeros b (volume_index t d)))
      ∙ entry_with (with_new_file t (f (volume_index t d))) d t.next name now

  zero_file : (size : ℕ) (given : NewFile) (verifier : Option (List ℕ)) (tag : ℕ) (now : Moment) (b : Bool) (volume : ℕ) → blank_where b (new_file volume (Regular (zeros size)) given verifier tag now) ≡ new_file volume (Regular (zeros size)) given verifier tag now
  zero_file size given verifier tag now true volume = ap (λ n. new_file volume (Regular (zeros n)) given verifier tag now) (length_zeros size)
  zero_file size given verifier tag now false volume = refl

  pub make_file_blank : (t : Tree) (d size tag : ℕ) (name : List ℕ) (given : NewFile) (verifier : Option (List ℕ)) (now : Moment) → after_make_file (blank p t) d name (zeros size) given verifier tag now ≡ blank p (after_make_file t d name (zeros size) given verifier tag now)
  make_file_blank t d size tag name given verifier now = named_file_blank t d name (λ volume. new_file volume (Regular (zeros size)) given verifier tag now) now (zero_file size given verifier tag now)

  pub mkdir_blank : (t : Tree) (d tag : ℕ) (name : List ℕ) (given : NewFile) (now : Moment) → after_mkdir (blank p t) d name given tag now ≡ blank p (after_mkdir t d name given tag now)
  mkdir_blank t d tag name given now = named_file_blank t d name (λ volume. new_file volume (Directory d 3 []) given None tag now) now of
    where
      of : (b : Bool) (volume : ℕ) → blank_where b (new_file volume (Directory d 3 []) given None tag now) ≡ new_file volume (Directory d 3 []) given None tag now
      of true volume = refl
      of false volume = refl

  pub make_link_blank : (t : Tree) (d tag : ℕ) (name path : List ℕ) (given : NewFile) (now : Moment) → after_make_link (blank p t) d name path given tag now ≡ blank p (after_make_link t d name path given tag now)
  make_link_blank t d tag name path given now = named_file_blank t d name (λ volume. new_file volume (Link path) given None tag now) now of
    where
      of : (b : Bool) (volume : ℕ) → blank_where b (new_file volume (Link path) given None tag now) ≡ new_file volume (Link path) given None tag now
      of true volume = refl
      of false volume = refl

  -- ---- bytes

  put_length : (old old' : List ℕ) (offset : ℕ) (new : List ℕ) → length old ≡ length old' → length (put_bytes old offset new) ≡ length (put_bytes old' offset new)
  put_length old old' offset new e = simp (length-append, length-take, length-drop, length-replicate, e)

  sized_length : (old old' : List ℕ) (size : ℕ) → length old ≡ length old' → length (sized old size) ≡ length (sized old' size)
  sized_length old old' size e = simp (length-append, length-take, length-replicate, e)

  -- what is put in a kind has the length that the kind had
  bytes_blank : (g : List ℕ → List ℕ) → ((old old' : List ℕ) → length old ≡ length old' → length (g old) ≡ length (g old')) → (k : Kind) → blank_kind (kind_with_bytes (blank_kind k) (g (bytes_in (blank_kind k)))) ≡ blank_kind (kind_with_bytes k (g (bytes_in k)))
  bytes_blank g long (Regular bytes) = ap (λ n. Regular (zeros n)) (long (zeros (length bytes)) bytes (length_zeros (length bytes)))
  bytes_blank g long (Directory parent next_cookie entries) = refl
  bytes_blank g long (Link path) = refl

  pub write_blank : (t : Tree) (n offset : ℕ) (bytes : List ℕ) (now : Moment) → blank p (after_write_at (blank p t) n offset bytes now) ≡ blank p (after_write_at t n offset bytes now)
  write_blank t n offset [] now = blank_twice t
  write_blank t n offset (byte ∷ bytes) now = on_bytes_blank (λ f. file_with_bytes f offset (byte ∷ bytes) now)
      (λ f. λ i. record f { kind = bytes_blank (λ old. put_bytes old offset (byte ∷ bytes)) (λ old old' e. put_length old old' offset (byte ∷ bytes) e) f.kind i; mtime = now; ctime = now }) t n

  pub resize_blank : (t : Tree) (n size : ℕ) (now : Moment) → blank p (after_resize (blank p t) n size now) ≡ blank p (after_resize t n size now)
  resize_blank t n size now = on_bytes_blank (λ f. resized_to f size now)
      (λ f. λ i. record f { kind = bytes_blank (λ old. sized old size) (λ old old' e. sized_length old old' size e) f.kind i; mtime = now; ctime = now }) t n
