-- The elementary changes of a file, as the policy allows them.
use Rattle.std.proofs.Common.{inl, inr, ◌≡◌, ◌≢◌, ◌⊎◌, ℕ, Bool, true, false, List, Option, Some, None, refl, sym, ap, ◌∙◌, arith}
use Rattle.std.specs.Prelude.{nat_eq, ◌||◌, ◌%◌}
use Rattle.nfs_attrs.specs.declared.moment.Moment.{Moment}
use Rattle.nfs_exports.specs.Ids.{Ids}
use Rattle.nfs_inodes.specs.Changes.{kind_with_entry, entered, kind_without_entry, left, kind_with_parent, moved_to, kind_with_bytes, file_with_bytes, resized_to, with_given, put_bytes, sized, or_else}
use Rattle.nfs_inodes.specs.Reading.{type_of}
use Rattle.nfs_inodes.specs.Tree.{File, Kind, Regular, Directory, Link, Entry, bytes_in, entries_in, parent_in, path_in, on_some}
use Rattle.nfs_inodes.specs.declared.given_attributes.GivenAttributes.{GivenAttributes}
use Rattle.nfs_inodes.proofs.Lists.{true_and_false}
use Rattle.nfs_rules.specs.Rights.{may}
use Rattle.nfs_rules.specs.declared.rights.Right.TheVariants.{Write}
use Rattle.nfs_policy.specs.Policy.{OnlyWhere, loses_set_ids, in_group, rights_of, is_owner, is_writer, is_enterer}
use Rattle.nfs_policy.proofs.Leading.{Allowed}
use Rattle.nfs_policy.proofs.Modes.{loses_at_most}

same : {X : Type 0} (so : Bool) (x y : X) → x ≡ y → OnlyWhere so x y
same so x y e d = absurd (d e)

-- a mode that stays loses no bits
pub loses_none : (mode : ℕ) → loses_set_ids mode mode ≡ true
loses_none mode = loses_at_most mode mode refl (omega arith) (omega arith)

-- what a kind is like that has lost or gained something
record KindStays (k l : Kind) : Type 0 where
  path : path_in l ≡ path_in k
  type : type_of l ≡ type_of k

-- whichever kind it is
of_kind : (P : Kind → Type 0) → ((bytes : List ℕ) → P (Regular bytes)) → ((parent next_cookie : ℕ) (entries : List Entry) → P (Directory parent next_cookie entries)) → ((path : List ℕ) → P (Link path)) → (k : Kind) → P k
of_kind P a b c (Regular bytes) = a bytes
of_kind P a b c (Directory parent next_cookie entries) = b parent next_cookie entries
of_kind P a b c (Link path) = c path

module _ (ids : Ids) (now : Moment) (index : ℕ) (Moves : Type 0) where
  abbrev May : File → File → File → Type 0
  May = Allowed ids now index Moves

  -- another kind, at this moment
  kind_now : (r f : File) (k : Kind) → KindStays f.kind k → (parent_in f.kind ≡ parent_in k) → is_writer ids r ≡ true → OnlyWhere (is_writer ids r) (bytes_in f.kind) (bytes_in k) → OnlyWhere (is_enterer ids r) (entries_in f.kind) (entries_in k) → May r f (record f { kind = k; mtime = now; ctime = now })
  kind_now r f k stays parent writer bytes entries = record {
    stays = record { volume = refl; tag = refl; verifier = refl; path = stays.path; type = stays.type };
    parent = inl parent;
    rightful = record {
      bytes = bytes;
      entries = entries;
      mode = same _ f.mode f.mode refl;
      own_mode = λ other. absurd (true_and_false (loses_none f.mode) other);
      gid = same _ f.gid f.gid refl;
      uid = same _ f.uid f.uid refl;
      group = same _ f.gid f.gid refl;
      atime = same _ f.atime f.atime refl;
      mtime = λ d. writer;
      own_atime = λ w. same _ f.atime f.atime refl;
      own_mtime = λ w d. absurd (w refl);
    };
  }

  -- bytes
  with_bytes : (k : Kind) (bytes : List ℕ) → KindStays k (kind_with_bytes k bytes)
  with_bytes k bytes = of_kind (λ k. KindStays k (kind_with_bytes k bytes)) (λ b. record { path = refl; type = refl }) (λ p n e. record { path = refl; type = refl }) (λ p. record { path = refl; type = refl }) k

  bytes_now : (r f : File) (bytes : List ℕ) → is_writer ids r ≡ true → May r f (record f { kind = kind_with_bytes f.kind bytes; mtime = now; ctime = now })
  bytes_now r f bytes writer = kind_now r f (kind_with_bytes f.kind bytes) (with_bytes f.kind bytes)
      (of_kind (λ k. parent_in k ≡ parent_in (kind_with_bytes k bytes)) (λ b. refl) (λ p n e. refl) (λ p. refl) f.kind)
      writer (λ d. writer)
      (same _ _ _ (of_kind (λ k. entries_in k ≡ entries_in (kind_with_bytes k bytes)) (λ b. refl) (λ p n e. refl) (λ p. refl) f.kind))

  pub written_allowed : (r f : File) (offset : ℕ) (bytes : List ℕ) → is_writer ids r ≡ true → May r f (file_with_bytes f offset bytes now)
  written_allowed r f offset bytes writer = bytes_now r f (put_bytes (bytes_in f.kind) offset bytes) writer

  pub resized_allowed : (r f : File) (size : ℕ) → is_writer ids r ≡ true → May r f (resized_to f size now)
  resized_allowed r f size writer = bytes_now r f (sized (bytes_in f.kind) size) writer

  -- entries
  pub entered_allowed : (r f : File) (name : List ℕ) (n : ℕ) → is_writer ids r ≡ true → is_enterer ids r ≡ true → May r f (entered f name n now)
  entered_allowed r f name n writer enterer = kind_now r f (kind_with_entry f.kind name n)
      (of_kind (λ k. KindStays k (kind_with_entry k name n)) (λ b. record { path = refl; type = refl }) (λ p n e. record { path = refl; type = refl }) (λ p. record { path = refl; type = refl }) f.kind)
      (of_kind (λ k. parent_in k ≡ parent_in (kind_with_entry k name n)) (λ b. refl) (λ p n e. refl) (λ p. refl) f.kind)
      writer (λ d. writer) (λ d. enterer)

  pub left_allowed : (r f : File) (name : List ℕ) → is_writer ids r ≡ true → is_enterer ids r ≡ true → May r f (left f name now)
  left_allowed r f name writer enterer = kind_now r f (kind_without_entry f.kind name)
      (of_kind (λ k. KindStays k (kind_without_entry k name)) (λ b. record { path = refl; type = refl }) (λ p n e. record { path = refl; type = refl }) (λ p. record { path = refl; type = refl }) f.kind)
      (of_kind (λ k. parent_in k ≡ parent_in (kind_without_entry k name)) (λ b. refl) (λ p n e. refl) (λ p. refl) f.kind)
      writer (λ d. writer) (λ d. enterer)

  -- the time of the last change, and the parent
  ctime_now : (r f : File) (k : Kind) → KindStays f.kind k → bytes_in f.kind ≡ bytes_in k → entries_in f.kind ≡ entries_in k → (parent_in f.kind ≡ parent_in k) ⊎ Moves → May r f (record f { kind = k; ctime = now })
  ctime_now r f k stays bytes entries parent = record {
    stays = record { volume = refl; tag = refl; verifier = refl; path = stays.path; type = stays.type };
    parent = parent;
    rightful = record {
      bytes = same _ _ _ bytes;
      entries = same _ _ _ entries;
      mode = same _ f.mode f.mode refl;
      own_mode = λ other. absurd (true_and_false (loses_none f.mode) other);
      gid = same _ f.gid f.gid refl;
      uid = same _ f.uid f.uid refl;
      group = same _ f.gid f.gid refl;
      atime = same _ f.atime f.atime refl;
      mtime = same _ f.mtime f.mtime refl;
      own_atime = λ w. same _ f.atime f.atime refl;
      own_mtime = λ w. same _ f.mtime f.mtime refl;
    };
  }

  pub touched_allowed : (r f : File) → May r f (record f { ctime = now })
  touched_allowed r f = ctime_now r f f.kind (record { path = refl; type = refl }) refl refl (inl refl)

  pub moved_allowed : (r f : File) (d : ℕ) → Moves → May r f (moved_to f d now)
  moved_allowed r f d moves = ctime_now r f (kind_with_parent f.kind d)
      (of_kind (λ k. KindStays k (kind_with_parent k d)) (λ b. record { path = refl; type = refl }) (λ p n e. record { path = refl; type = refl }) (λ p. record { path = refl; type = refl }) f.kind)
      (of_kind (λ k. bytes_in k ≡ bytes_in (kind_with_parent k d)) (λ b. refl) (λ p n e. refl) (λ p. refl) f.kind)
      (of_kind (λ k. entries_in k ≡ entries_in (kind_with_parent k d)) (λ b. refl) (λ p n e. refl) (λ p. refl) f.kind)
      (inr moves)

  -- attributes that are given, each where it may be
  pub record MayGive (r : File) (given : GivenAttributes) : Type 0 where
    pub mode : (mode : ℕ) → given.mode ≡ Some mode → (is_owner ids r ≡ true) ⊎ ((is_writer ids r ≡ true) × (loses_set_ids r.mode (mode % 4096) ≡ true))
    pub uid : (uid : ℕ) → given.uid ≡ Some uid → (nat_eq ids.uid 0 ≡ true) ⊎ (uid ≡ r.uid)
    pub gid : (gid : ℕ) → given.gid ≡ Some gid → (gid ≡ r.gid) ⊎ ((is_owner ids r ≡ true) × ((nat_eq ids.uid 0 || in_group ids gid) ≡ true))
    pub atime : (moment : Moment) → given.atime ≡ Some moment → (is_writer ids r ≡ true) × ((moment ≡ now) ⊎ (is_owner ids r ≡ true))
    pub mtime : (moment : Moment) → given.mtime ≡ Some moment → (is_writer ids r ≡ true) × ((moment ≡ now) ⊎ (is_owner ids r ≡ true))

  owner_writes : (r : File) → is_owner ids r ≡ true → is_writer ids r ≡ true
  owner_writes r e = ap (λ b. b || may ids (rights_of r) Write) e

  -- to a file that has the mode, the owner and the group of r
  module _ (r f : File) (mode_is : f.mode ≡ r.mode) (uid_is : f.uid ≡ r.uid) (gid_is : f.gid ≡ r.gid) where
    abbrev MayBe : Option ℕ → Type 0
    MayBe o = (mode : ℕ) → o ≡ Some mode → (is_owner ids r ≡ true) ⊎ ((is_writer ids r ≡ true) × (loses_set_ids r.mode (mode % 4096) ≡ true))

    mode_by : (o : Option ℕ) → MayBe o → OnlyWhere (is_writer ids r) f.mode (on_some o f.mode (λ mode. mode % 4096))
    mode_by None may = same _ f.mode f.mode refl
    mode_by (Some mode) may = λ d. elim (may mode refl) [
      | inl owner ↦ owner_writes r owner
      | inr both ↦ both.0
    ]

    own_mode_by : (o : Option ℕ) → MayBe o → loses_set_ids f.mode (on_some o f.mode (λ mode. mode % 4096)) ≡ false → is_owner ids r ≡ true
    own_mode_by None may other = absurd (true_and_false (loses_none f.mode) other)
    own_mode_by (Some mode) may other = elim (may mode refl) [
      | inl owner ↦ owner
      | inr both ↦ absurd (true_and_false both.1 (ap (λ m. loses_set_ids m (mode % 4096)) (sym mode_is) ∙ other))
    ]

    uid_by : (o : Option ℕ) → ((uid : ℕ) → o ≡ Some uid → (nat_eq ids.uid 0 ≡ true) ⊎ (uid ≡ r.uid)) → OnlyWhere (nat_eq ids.uid 0) f.uid (or_else o f.uid)
    uid_by None may d = absurd (d refl)
    uid_by (Some uid) may d = elim (may uid refl) [
      | inl root ↦ root
      | inr e ↦ absurd (d (uid_is ∙ sym e))
    ]

    gid_by : (o : Option ℕ) → ((gid : ℕ) → o ≡ Some gid → (gid ≡ r.gid) ⊎ ((is_owner ids r ≡ true) × ((nat_eq ids.uid 0 || in_group ids gid) ≡ true))) → f.gid ≢ or_else o f.gid → (is_owner ids r ≡ true) × ((nat_eq ids.uid 0 || in_group ids (or_else o f.gid)) ≡ true)
    gid_by None may d = absurd (d refl)
    gid_by (Some gid) may d = elim (may gid refl) [
      | inl e ↦ absurd (d (gid_is ∙ sym e))
      | inr both ↦ both
    ]

    time_by : (was : Moment) (o : Option Moment) → ((moment : Moment) → o ≡ Some moment → (is_writer ids r ≡ true) × ((moment ≡ now) ⊎ (is_owner ids r ≡ true))) → OnlyWhere (is_writer ids r) was (or_else o was)
    time_by was None may d = absurd (d refl)
    time_by was (Some moment) may d = (may moment refl).0

    own_time_by : (was : Moment) (o : Option Moment) → ((moment : Moment) → o ≡ Some moment → (is_writer ids r ≡ true) × ((moment ≡ now) ⊎ (is_owner ids r ≡ true))) → or_else o was ≢ now → OnlyWhere (is_owner ids r) was (or_else o was)
    own_time_by was None may w d = absurd (d refl)
    own_time_by was (Some moment) may w d = elim (may moment refl).1 [
      | inl e ↦ absurd (w e)
      | inr owner ↦ owner
    ]

    pub given_allowed : (given : GivenAttributes) → MayGive r given → May r f (with_given f given now)
    given_allowed given may = record {
      stays = record { volume = refl; tag = refl; verifier = refl; path = refl; type = refl };
      parent = inl refl;
      rightful = record {
        bytes = same _ (bytes_in f.kind) (bytes_in f.kind) refl;
        entries = same _ (entries_in f.kind) (entries_in f.kind) refl;
        mode = mode_by given.mode may.mode;
        own_mode = own_mode_by given.mode may.mode;
        gid = λ d. (gid_by given.gid may.gid d).0;
        uid = uid_by given.uid may.uid;
        group = λ d. (gid_by given.gid may.gid d).1;
        atime = time_by f.atime given.atime may.atime;
        mtime = time_by f.mtime given.mtime may.mtime;
        own_atime = own_time_by f.atime given.atime may.atime;
        own_mtime = own_time_by f.mtime given.mtime may.mtime;
      };
    }
