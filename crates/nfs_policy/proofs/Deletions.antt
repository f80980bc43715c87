-- Which entries go from the directories of a tree.
use Rattle.std.proofs.Common.{inl, inr, ◌≡◌, ◌≢◌, ◌⊎◌, ℕ, Bool, true, false, List, [], ◌∷◌, Option, Some, None, refl, sym, ap, subst, ◌∙◌}
use Rattle.std.specs.Prelude.{Contains, nat_eq, if◌then◌else◌}
use Rattle.std.proofs.lemmas.List.Elements.{Contains-append_left}
use Rattle.nfs_attrs.specs.declared.moment.Moment.{Moment}
use Rattle.nfs_attrs.specs.declared.sattr.Sattr.{Sattr}
use Rattle.nfs_exports.specs.Ids.{Ids}
use Rattle.nfs_inodes.proofs.law.WithoutEntry.{left_is}
use Rattle.nfs_inodes.proofs.Lists.{by_number, same_some, not_both, not_in_empty}
use Rattle.nfs_inodes.proofs.law.EntryLess.{left_was, left_or_named}
use Rattle.nfs_inodes.proofs.Maps.{at_next, at_with_same, at_with_other, at_without_same, at_without_other, at_push_other, rising_with}
use Rattle.nfs_inodes.proofs.law.Renames.{renamed_new, renamed_same, renamed_over, may_unlink}
use Rattle.nfs_inodes.proofs.law.Unlinks.{entry_is, other_file}
use Rattle.nfs_inodes.specs.Changes.{with_file, with_new_file, without_file, with_entry, without_entry, entered, left, kind_with_entry, kind_without_entry, touched, released, kind_with_parent, moved_to, moved, carried}
use Rattle.nfs_inodes.specs.Changes.{with_named_file, after_link, after_unlink, after_rename, kind_with_bytes, file_with_bytes, after_write_at, resized_to, after_resize, with_given, after_set}
use Rattle.nfs_inodes.specs.Conditions.{MayUnlink, MayRename}
use Rattle.nfs_inodes.specs.Law.{Law, Lives, AreRising}
use Rattle.nfs_inodes.specs.Reading.{entries_at, entry_at, entry_named, has_name}
use Rattle.nfs_inodes.specs.Tree.{Tree, File, Kind, Regular, Directory, Link, Entry, at, on_some, entries_in, names_of}
use Rattle.nfs_procs.specs.Changers.{given_of, sets_something, after_settings, after_writing, mode_alone}
use Rattle.nfs_policy.specs.Policy.{is_deleter}

-- ---- no entry comes where one goes

-- each entry of a directory was there before
abbrev Had : Tree → Tree → Type 0
Had t u = (d : ℕ) (e : Entry) → Contains (entries_at u d) e → Contains (entries_at t d) e

abbrev entries_of : Option File → List Entry
entries_of o = on_some o [] (λ f. entries_in f.kind)

had_changed : (t : Tree) (n : ℕ) (h : File → File) → ((f : File) (e : Entry) → Contains (entries_in (h f).kind) e → Contains (entries_in f.kind) e) → Had t (on_some (at n t.files) t (λ f. with_file t n (h f)))
had_changed t n h was d e = by (at n t.files) refl
  where
    by : (o : Option File) → at n t.files ≡ o → Contains (entries_at (on_some o t (λ f. with_file t n (h f))) d) e → Contains (entries_at t d) e
    by None is c = c
    by (Some f) is c = by_number d n
        (λ s. subst (λ o. Contains (entries_of o) e) (sym (ap (λ k. at k t.files) s ∙ is)) (was f e (subst (λ o. Contains (entries_of o) e) (ap (λ k. at k (with_file t n (h f)).files) s ∙ at_with_same n f (h f) t.files is) c)))
        (λ o. subst (λ q. Contains (entries_of q) e) (at_with_other n d (h f) t.files o) c)

had_left : (t : Tree) (d : ℕ) (name : List ℕ) (now : Moment) → Had t (without_entry t d name now)
had_left t d name now = had_changed t d (λ f. left f name now) (λ f e c. of f.kind e c)
  where
    of : (k : Kind) (e : Entry) → Contains (entries_in (kind_without_entry k name)) e → Contains (entries_in k) e
    of (Regular bytes) e c = c
    of (Directory parent next_cookie entries) e c = left_was name entries e c
    of (Link path) e c = c

had_unlinked : (low : ℕ) (t : Tree) (d : ℕ) (name : List ℕ) (now : Moment) → ((u : Tree) → u ≡ without_entry t d name now → AreRising low u.files u.next) → Had t (after_unlink t d name now)
had_unlinked low t d name now rising = by (entry_at t d name)
  where
    u : Tree
    u = without_entry t d name now

    released_had : (n : ℕ) (b : Bool) → Had u (if b then without_file u n else touched u n now)
    released_had n false k e c = had_changed u n (λ f. record f { ctime = now }) (λ f e c. c) k e c
    released_had n true k e c = by_number k n
        (λ s. absurd (not_in_empty (entries_at (without_file u n) k) e (ap entries_of (ap (λ m. at m (without_file u n).files) s ∙ at_without_same low u.next n u.files (rising u refl))) c))
        (λ o. subst (λ q. Contains (entries_of q) e) (at_without_other n k u.files o) c)

    by : (o : Option Entry) → Had t (on_some o t (λ e. released (without_entry t d name now) e.number now))
    by None k e c = c
    by (Some x) k e c = had_left t d name now k e (released_had x.number (nat_eq (names_of x.number u.files) 0) k e c)

-- the entry of directory d may be taken away, by the owners in this tree
abbrev pub MayGo : Ids → Tree → ℕ → Entry → Type 0
MayGo ids t d e = (dir f : File) → Lives t d dir → Lives t e.number f → is_deleter ids dir f ≡ true

module _ (P : ℕ → Entry → Type 0) where
  -- each entry of a directory is there afterwards, or is one that may go
  abbrev pub Keeps : Tree → Tree → Type 0
  Keeps t u = (d : ℕ) (e : Entry) → Contains (entries_at t d) e → Contains (entries_at u d) e ⊎ P d e

  pub keeps_itself : (t : Tree) → Keeps t t
  keeps_itself t d e c = inl c

  pub keeps_on : (t u v : Tree) → Keeps t u → Keeps u v → Keeps t v
  keeps_on t u v k l d e c = elim (k d e c) as (λ x. Contains (entries_at v d) e ⊎ P d e) [
    | inl there ↦ l d e there
    | inr may ↦ inr may
  ]

  -- ---- the elementary changes

  abbrev KeepsFile : ℕ → File → File → Type 0
  KeepsFile n f g = (e : Entry) → Contains (entries_in f.kind) e → Contains (entries_in g.kind) e ⊎ P n e

  keeps_changed : (t : Tree) (n : ℕ) (h : File → File) → ((f : File) → Lives t n f → KeepsFile n f (h f)) → Keeps t (on_some (at n t.files) t (λ f. with_file t n (h f)))
  keeps_changed t n h may d e c = by (at n t.files) refl
    where
      by : (o : Option File) → at n t.files ≡ o → Contains (entries_at (on_some o t (λ f. with_file t n (h f))) d) e ⊎ P d e
      by None is = inl c
      by (Some f) is = by_number d n
          (λ s. elim (may f is e (subst (λ o. Contains (entries_of o) e) (ap (λ k. at k t.files) s ∙ is) c)) as (λ x. Contains (entries_at (with_file t n (h f)) d) e ⊎ P d e) [
            | inl there ↦ inl (subst (λ o. Contains (entries_of o) e) (sym (ap (λ k. at k (with_file t n (h f)).files) s ∙ at_with_same n f (h f) t.files is)) there)
            | inr gone ↦ inr (subst (λ k. P k e) (sym s) gone)
          ])
          (λ o. inl (subst (λ q. Contains (entries_of q) e) (sym (at_with_other n d (h f) t.files o)) c))

  -- a change of a file that leaves its entries
  keeps_edited : (t : Tree) (n : ℕ) (h : File → File) → ((f : File) → entries_in (h f).kind ≡ entries_in f.kind) → Keeps t (on_some (at n t.files) t (λ f. with_file t n (h f)))
  keeps_edited t n h same = keeps_changed t n h (λ f at_f e c. inl (subst (λ es. Contains es e) (sym (same f)) c))

  keeps_new : (t : Tree) (f : File) → at t.next t.files ≡ None → Keeps t (with_new_file t f)
  keeps_new t f none d e c = by_number d t.next
      (λ s. absurd (not_in_empty (entries_at t d) e (ap entries_of (ap (λ k. at k t.files) s ∙ none)) c))
      (λ o. inl (subst (λ q. Contains (entries_of q) e) (sym (at_push_other t.next d f t.files o)) c))

  keeps_without : (t : Tree) (n : ℕ) → entries_at t n ≡ [] → Keeps t (without_file t n)
  keeps_without t n none d e c = by_number d n
      (λ s. absurd (not_in_empty (entries_at t d) e (ap (entries_at t) s ∙ none) c))
      (λ o. inl (subst (λ q. Contains (entries_of q) e) (sym (at_without_other n d t.files o)) c))

  -- ---- an entry more

  entered_keeps : (k : Kind) (name : List ℕ) (n : ℕ) (e : Entry) → Contains (entries_in k) e → Contains (entries_in (kind_with_entry k name n)) e
  entered_keeps (Regular bytes) name n e c = c
  entered_keeps (Directory parent next_cookie entries) name n e c = Contains-append_left entries (record { cookie = next_cookie; name = name; number = n } ∷ []) e c
  entered_keeps (Link path) name n e c = c

  keeps_entered : (t : Tree) (d n : ℕ) (name : List ℕ) (now : Moment) → Keeps t (with_entry t d name n now)
  keeps_entered t d n name now = keeps_changed t d (λ f. entered f name n now) (λ f at_f e c. inl (entered_keeps f.kind name n e c))

  pub keeps_made : (t : Tree) (d : ℕ) (name : List ℕ) (f : File) (now : Moment) → at t.next t.files ≡ None → Keeps t (with_named_file t d name f now)
  keeps_made t d name f now none = keeps_on t (with_new_file t f) (with_named_file t d name f now) (keeps_new t f none) (keeps_entered (with_new_file t f) d t.next name now)

  keeps_touched : (t : Tree) (n : ℕ) (now : Moment) → Keeps t (touched t n now)
  keeps_touched t n now = keeps_edited t n (λ f. record f { ctime = now }) (λ f. refl)

  pub keeps_linked : (t : Tree) (n d : ℕ) (name : List ℕ) (now : Moment) → Keeps t (after_link t n d name now)
  keeps_linked t n d name now = keeps_on t (touched t n now) (after_link t n d name now) (keeps_touched t n now) (keeps_entered (touched t n now) d n name now)

  -- ---- an entry less

  -- each entry of the name may go from directory d
  abbrev pub MayLeave : Tree → ℕ → List ℕ → Type 0
  MayLeave t d name = (e : Entry) → Contains (entries_at t d) e → has_name name e ≡ true → P d e

  left_keeps : (k : Kind) (name : List ℕ) (e : Entry) → Contains (entries_in k) e → Contains (entries_in (kind_without_entry k name)) e ⊎ (has_name name e ≡ true)
  left_keeps (Regular bytes) name e c = inl c
  left_keeps (Directory parent next_cookie entries) name e c = left_or_named name entries e c
  left_keeps (Link path) name e c = inl c

  pub keeps_left : (t : Tree) (d : ℕ) (name : List ℕ) (now : Moment) → MayLeave t d name → Keeps t (without_entry t d name now)
  keeps_left t d name now may = keeps_changed t d (λ f. left f name now) (λ f at_f e c. elim (left_keeps f.kind name e c) as (λ x. Contains (entries_in (left f name now).kind) e ⊎ P d e) [
    | inl stays ↦ inl stays
    | inr named ↦ inr (may e (subst (λ o. Contains (entries_of o) e) (sym at_f) c) named)
  ])

  keeps_released : (t : Tree) (n : ℕ) (now : Moment) → entries_at t n ≡ [] → Keeps t (released t n now)
  keeps_released t n now none = by (nat_eq (names_of n t.files) 0)
    where
      by : (b : Bool) → Keeps t (if b then without_file t n else touched t n now)
      by true = keeps_without t n none
      by false = keeps_touched t n now

  pub keeps_unlinked : (t : Tree) (d : ℕ) (name : List ℕ) (now : Moment) → MayLeave t d name → ((e : Entry) → entry_at t d name ≡ Some e → entries_at (without_entry t d name now) e.number ≡ []) → Keeps t (after_unlink t d name now)
  keeps_unlinked t d name now may none = by (entry_at t d name) refl
    where
      by : (o : Option Entry) → entry_at t d name ≡ o → Keeps t (on_some o t (λ e. released (without_entry t d name now) e.number now))
      by None is = keeps_itself t
      by (Some e) is = keeps_on t (without_entry t d name now) (released (without_entry t d name now) e.number now) (keeps_left t d name now may) (keeps_released (without_entry t d name now) e.number now (none e is))

  moved_keeps : (k : Kind) (d : ℕ) → entries_in (kind_with_parent k d) ≡ entries_in k
  moved_keeps (Regular bytes) d = refl
  moved_keeps (Directory parent next_cookie entries) d = refl
  moved_keeps (Link path) d = refl

  pub keeps_carried : (t : Tree) (from n to : ℕ) (name new_name : List ℕ) (now : Moment) → MayLeave t from name → Keeps t (carried t from name n to new_name now)
  keeps_carried t from n to name new_name now may =
      let u = without_entry t from name now in
      let v = moved u n to now in
      keeps_on t u (carried t from name n to new_name now) (keeps_left t from name now may)
      (keeps_on u v (carried t from name n to new_name now) (keeps_edited u n (λ f. moved_to f to now) (λ f. moved_keeps f.kind to)) (keeps_entered v to n new_name now))

  -- ---- bytes and attributes

  bytes_keep : (k : Kind) (bytes : List ℕ) → entries_in (kind_with_bytes k bytes) ≡ entries_in k
  bytes_keep (Regular old) bytes = refl
  bytes_keep (Directory parent next_cookie entries) bytes = refl
  bytes_keep (Link path) bytes = refl

  keeps_written : (t : Tree) (n offset : ℕ) (bytes : List ℕ) (now : Moment) → Keeps t (after_write_at t n offset bytes now)
  keeps_written t n offset [] now = keeps_itself t
  keeps_written t n offset (b ∷ bytes) now = keeps_edited t n (λ f. file_with_bytes f offset (b ∷ bytes) now) (λ f. bytes_keep f.kind _)

  keeps_sized : (t : Tree) (n : ℕ) (size : Option ℕ) (now : Moment) → Keeps t (on_some size t (λ size. after_resize t n size now))
  keeps_sized t n None now = keeps_itself t
  keeps_sized t n (Some size) now = keeps_edited t n (λ f. resized_to f size now) (λ f. bytes_keep f.kind _)

  pub keeps_settled : (t : Tree) (n : ℕ) (a : Sattr) (now : Moment) → Keeps t (after_settings t n a now)
  keeps_settled t n a now = by (sets_something a)
    where
      by : (b : Bool) → Keeps t (if b then after_set (on_some a.size t (λ size. after_resize t n size now)) n (given_of now a) now else t)
      by true = let u = on_some a.size t (λ size. after_resize t n size now) in
          keeps_on t u (after_set u n (given_of now a) now) (keeps_sized t n a.size now) (keeps_edited u n (λ f. with_given f (given_of now a) now) (λ f. refl))
      by false = keeps_itself t

  pub keeps_writing : (t : Tree) (n offset : ℕ) (bytes : List ℕ) (mode : Option ℕ) (now : Moment) → Keeps t (after_writing t n offset bytes mode now)
  keeps_writing t n offset bytes mode now = let u = after_write_at t n offset bytes now in
      keeps_on t u (after_settings u n (mode_alone mode) now) (keeps_written t n offset bytes now) (keeps_settled u n (mode_alone mode) now)

-- ---- what the operations ask of a directory

-- what is unlinked has no entries
unlinked_empty : (t : Tree) (d : ℕ) (name : List ℕ) (now : Moment) (may : MayUnlink t d name) → (e : Entry) → entry_at t d name ≡ Some e → entries_at (without_entry t d name now) e.number ≡ []
unlinked_empty t d name now may e is =
    let same : may.entry ≡ e = same_some (sym may.found ∙ sym (entry_is t d name may.dir may.at_dir.0) ∙ is) in
    ap (λ (x : Entry). entries_at (without_entry t d name now) x.number) (sym same)
    ∙ ap (λ (u : Tree). entries_at u may.entry.number) (left_is t d now name may.dir may.at_dir.0)
    ∙ ap entries_of (at_with_other d may.entry.number (left may.dir name now) t.files (other_file t d name now may) ∙ may.at_file)
    ∙ may.empty

-- the new name is not that of what is moved
abbrev pub IsApart : (t : Tree) (from : ℕ) (name : List ℕ) (to : ℕ) (new_name : List ℕ) → MayRename t from name to new_name → Type 0
IsApart t from name to new_name may = (old : Entry) → entry_named new_name (entries_in may.target.kind) ≡ Some old → old.number ≢ may.entry.number

module _ (P : ℕ → Entry → Type 0) (t : Tree) (law : Law t) (now : Moment) where
  pub keeps_unlink : (d : ℕ) (name : List ℕ) → MayUnlink t d name → MayLeave P t d name → Keeps P t (after_unlink t d name now)
  keeps_unlink d name may leave = keeps_unlinked P t d name now leave (unlinked_empty t d name now may)

  pub keeps_make : (d : ℕ) (name : List ℕ) (f : File) → Keeps P t (with_named_file t d name f now)
  keeps_make d name f = keeps_made P t d name f now (at_next 0 t.next t.files law.rising)

  module _ (from : ℕ) (name : List ℕ) (to : ℕ) (new_name : List ℕ) (may : MayRename t from name to new_name) where
    abbrev Apart : Type 0
    Apart = IsApart t from name to new_name may

    module _ (leave : Apart → MayLeave P t from name) (leave_too : Apart → (old : Entry) → entry_named new_name (entries_in may.target.kind) ≡ Some old → MayLeave P t to new_name) where
      onto : (o : Option Entry) → entry_named new_name (entries_in may.target.kind) ≡ o → Keeps P t (after_rename t from name to new_name now)
      onto None is = subst (Keeps P t) (sym (renamed_new t from name to new_name now may is)) (keeps_carried P t from may.entry.number to name new_name now (leave (λ old found. absurd (not_both is found))))
      onto (Some old) is = by_number old.number may.entry.number
          (λ s. subst (Keeps P t) (sym (renamed_same t from name to new_name now may old is s)) (keeps_itself P t))
          (λ o. let apart : Apart = λ other found. subst (λ (e : Entry). e.number ≢ may.entry.number) (same_some (sym is ∙ found)) o in
          let gone = may_unlink t from name to new_name now may law old is o in
          let u = after_unlink t to new_name now in
          let had : Had t u = had_unlinked 0 t to new_name now (λ w e. subst (λ (w : Tree). AreRising 0 w.files w.next) (sym (e ∙ left_is t to now new_name may.target may.at_target.0)) (rising_with 0 t.next to t.files (left may.target new_name now) law.rising)) in
          subst (Keeps P t) (sym (renamed_over t from name to new_name now may old is o))
          (keeps_on P t u (carried u from name may.entry.number to new_name now) (keeps_unlink to new_name gone (leave_too apart old is))
          (keeps_carried P u from may.entry.number to name new_name now (λ e c named. leave apart e (had from e c) named))))

      pub keeps_rename : Keeps P t (after_rename t from name to new_name now)
      keeps_rename = onto (entry_named new_name (entries_in may.target.kind)) refl
