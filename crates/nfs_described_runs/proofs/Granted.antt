-- Granted calls leave a describable tree describable.
use Rattle.std.proofs.Common.{◌≡◌, ℕ, suc, zero, ◌-◌, ◌<◌, ◌^◌, Bool, true, false, List, Option, Some, None, option_map, refl, sym, ap, subst, ◌∙◌, arith}
use Rattle.std.specs.Prelude.{nat_eq, ◌||◌, if◌then◌else◌}
use Rattle.std.specs.List.{find, list_any}
use Rattle.nfs_args.specs.declared.args.NfsArgs.{NfsArgs}
use Rattle.nfs_args.specs.declared.args.NfsArgs.TheVariants as nfs
use Rattle.nfs_args.specs.declared.create.Create.{Create}
use Rattle.nfs_args.specs.declared.create.CreateHow.{CreateHow}
use Rattle.nfs_args.specs.declared.create.CreateHow.TheVariants.{Unchecked, Guarded, Exclusive}
use Rattle.nfs_args.specs.declared.setattr.Setattr.{Setattr}
use Rattle.nfs_args.specs.declared.write.Write.{Write}
use Rattle.nfs_attrs.specs.declared.fattr.Fattr.{Fattr}
use Rattle.nfs_attrs.specs.declared.moment.Moment.{Moment}
use Rattle.nfs_attrs.specs.declared.sattr.Sattr.{Sattr}
use Rattle.nfs_attrs.specs.declared.time_setting.TimeSetting.{TimeSetting}
use Rattle.nfs_attrs.specs.declared.time_setting.TimeSetting.TheVariants.{Leave, ServerTime, ClientTime}
use Rattle.nfs_exports.specs.Ids.{Ids, squash_as}
use Rattle.nfs_exports.specs.Patterns.{covers}
use Rattle.nfs_exports.specs.Tables.{exports_of}
use Rattle.nfs_exports.specs.declared.addr.Addr.{Addr}
use Rattle.nfs_exports.specs.declared.export_table.Export.{Export}
use Rattle.nfs_exports.specs.declared.options.Options.{Options}
use Rattle.nfs_exports.specs.declared.options.Squash.{Squash}
use Rattle.nfs_exports.specs.declared.options.Squash.TheVariants.{No, Root, All}
use Rattle.nfs_inodes.proofs.Lists.{find_contains, not_both, same_some}
use Rattle.nfs_inodes.proofs.Maps.{at_with_same}
use Rattle.nfs_inodes.proofs.law.Settings.{resized_is}
use Rattle.nfs_inodes.specs.Changes.{after_resize, after_set, after_write_at, resized_to, zeros}
use Rattle.nfs_inodes.specs.Conditions.{MayMake, MayResize}
use Rattle.nfs_inodes.specs.Law.{Lives}
use Rattle.nfs_inodes.specs.Tree.{Tree, File, at, on_some}
use Rattle.nfs_inodes.specs.declared.new_file.NewFile.{NewFile}
use Rattle.nfs_load.specs.Moments.{IsTime}
use Rattle.nfs_policy.proofs.Changes.{length_zeros}
use Rattle.nfs_policy.proofs.Granted.{IsSubject, AreSubjects, are_subjects, rules_kept}
use Rattle.nfs_procs.proofs.GivenSettings.{lives_written}
use Rattle.nfs_procs.specs.Changers.{setattr, setting, write, create, mkdir, symlink, remove, rmdir, rename, link, given_of, sets_something, file_mode, directory_mode, link_mode, attributes_in, nothing_given, verifier_in, after_settings, after_writing, after_taking, after_creating, with_cleared_mode, cleared_mode, has_bytes, size_alone, size_taken, mode_alone}
use Rattle.nfs_procs.specs.Doing.{Doing}
use Rattle.nfs_procs.specs.NewFiles.{gid_of, new_file_of, time_of, uid_of}
use Rattle.nfs_procs.specs.Performing.{IsGranted}
use Rattle.nfs_procs.specs.Procedures.{doing_of}
use Rattle.nfs_procs.specs.Readers.{getattr, lookup, access, readlink, read, readdir, readdirplus, mknod, fsstat, fsinfo, pathconf, commit}
use Rattle.nfs_procs.specs.Scenes.{Scene}
use Rattle.nfs_round_trip.proofs.Stays.{changes_stay}
use Rattle.nfs_round_trip.specs.Changes.{IsNewSaid}
use Rattle.nfs_round_trip.specs.RoundTrip.{IsDescribable}
use Rattle.nfs_rpc.specs.AuthSys.{Credential}
use Rattle.nfs_rules.proofs.Firsts.{passed_at}
use Rattle.nfs_rules.proofs.Links.{may_link}
use Rattle.nfs_rules.proofs.NewFiles.{may_make_directory, may_make_link, may_make_file}
use Rattle.nfs_rules.proofs.Removals.{may_remove, may_remove_directory, some_from_is_none}
use Rattle.nfs_rules.proofs.Renames.{may_rename}
use Rattle.nfs_rules.proofs.SeenFiles.{seen_lives, found_seen}
use Rattle.nfs_rules.proofs.Sizes.{may_write, may_set_size, may_resize_present}
use Rattle.nfs_rules.specs.Subjects.{Caller, Subject}
use Rattle.nfs_rules.specs.Table.{rules_of, setattr_rules, write_rules, create_rules, remove_rules, rmdir_rules, size_in}
use Rattle.nfs_rules.specs.Tests as test
use Rattle.nfs_rules.specs.Tests.{first, found}
use Rattle.nfs_xdr.specs.Reading.{AreBytes}
use Rattle.nfs_described_runs.proofs.Asked.{AreSaid, IsCredSaid, IsHowSaid, IsIdSaid, IsSattrSaid, IsTimeSaid}

zero_bytes : (n : ℕ) → AreBytes (zeros n)
zero_bytes zero i = omega arith
zero_bytes (suc n) zero = omega arith
zero_bytes (suc n) (suc i) = zero_bytes n i

-- ---- ids

record IsIdsSaid (ids : Ids) : Type 0 where
  uid : ids.uid < 2 ^ 32
  gid : ids.gid < 2 ^ 32

either_said : (b : Bool) (m n : ℕ) → m < 2 ^ 32 → n < 2 ^ 32 → (if b then m else n) < 2 ^ 32
either_said true m n one two = one
either_said false m n one two = two

squash_said : (how : Squash) (o : Options) (cred : Credential) → o.anonuid < 2 ^ 32 → o.anongid < 2 ^ 32 → IsCredSaid cred → IsIdsSaid (squash_as how o cred)
squash_said No o cred uid gid said = record { uid = said.uid; gid = said.gid }
squash_said Root o cred uid gid said = record {
  uid = either_said (nat_eq cred.uid 0) o.anonuid cred.uid uid said.uid;
  gid = either_said (nat_eq cred.gid 0) o.anongid cred.gid gid said.gid;
}
squash_said All o cred uid gid said = record { uid = uid; gid = gid }

module _ (t : Tree) (exports : List (List Export)) (d : IsDescribable t exports) where
  options_said : (place : ℕ) (addr : Addr) (found : Option Export) (o : Options) → find (λ (e : Export). covers e.pattern addr) (exports_of exports place) ≡ found
      → option_map (λ (e : Export). e.options) found ≡ Some o → (o.anonuid < 2 ^ 32) × (o.anongid < 2 ^ 32)
  options_said place addr None o is e = absurd (not_both refl e)
  options_said place addr (Some x) o is e =
      let said = d.exports place x (find_contains (λ (e : Export). covers e.pattern addr) (exports_of exports place) x is) in
      subst (λ (o : Options). (o.anonuid < 2 ^ 32) × (o.anongid < 2 ^ 32)) (same_some e) (said.2, said.3)

  ids_said : (caller : Caller) (s : Subject) → IsCredSaid caller.cred → IsSubject t exports caller s → IsIdsSaid s.ids
  ids_said caller s cred is =
      let place = s.file.fsid - 1 in
      let said = options_said place caller.addr (find (λ (e : Export). covers e.pattern caller.addr) (exports_of exports place)) s.options refl is.options in
      subst IsIdsSaid (sym is.ids) (squash_said s.options.squash s.options caller.cred said.0 said.1 cred)

-- ---- times

new_time : (now : Moment) → IsTime now → (setting : TimeSetting) → IsTimeSaid setting → IsTime (time_of now setting)
new_time now time Leave said = time
new_time now time ServerTime said = time
new_time now time (ClientTime moment) said = said

set_time : (now : Moment) → IsTime now → (given : TimeSetting) → IsTimeSaid given → (m : Moment) → setting now given ≡ Some m → IsTime m
set_time now time Leave said m e = absurd (not_both refl e)
set_time now time ServerTime said m e = subst IsTime (same_some e) time
set_time now time (ClientTime moment) said m e = subst IsTime (same_some e) said

-- ---- attributes

module _ (ids : Ids) (own : IsIdsSaid ids) where
  new_uid : (id : Option ℕ) → IsIdSaid id → uid_of ids id < 2 ^ 32
  new_uid None said = own.uid
  new_uid (Some n) said = either_said (nat_eq ids.uid 0) n ids.uid (said n refl) own.uid

  new_gid : (id : Option ℕ) → IsIdSaid id → gid_of ids id < 2 ^ 32
  new_gid None said = own.gid
  new_gid (Some n) said = either_said (nat_eq ids.uid 0 || nat_eq n ids.gid || list_any (nat_eq n) ids.gids) n ids.gid (said n refl) own.gid

  new_said : (mode : ℕ) (now : Moment) (given : Sattr) → IsTime now → IsSattrSaid given → IsNewSaid (new_file_of mode ids now given)
  new_said mode now given time said = record {
    uid = new_uid given.uid said.uid;
    gid = new_gid given.gid said.gid;
    atime = new_time now time given.atime said.atime;
    mtime = new_time now time given.mtime said.mtime;
  }

-- whatever its mode
with_mode : (mode : ℕ) (given : NewFile) → IsNewSaid given → IsNewSaid (record given { mode = mode })
with_mode mode given said = record { uid = said.uid; gid = said.gid; atime = said.atime; mtime = said.mtime }

none_said : IsIdSaid None
none_said n e = absurd (not_both refl e)

-- nothing, a size or a mode gives no ids and no times
nothing_said : IsSattrSaid nothing_given
nothing_said = record { uid = none_said; gid = none_said; atime = tt; mtime = tt }

how_attributes : (how : CreateHow) → IsHowSaid how → IsSattrSaid (attributes_in how)
how_attributes (Unchecked attributes) said = said
how_attributes (Guarded attributes) said = said
how_attributes (Exclusive verifier) said = nothing_said

-- ---- SETATTR and CREATE of what is there

module _ (exports : List (List Export)) (now : Moment) (time : IsTime now) where
  abbrev D : Tree → Type 0
  D t = IsDescribable t exports

  module _ (t : Tree) (d : D t) (n : ℕ) where
    record IsSized (u : Tree) : Type 0 where
      described : D u
      file : File
      at_file : Lives u n file

    sized_by : (f : File) → Lives t n f → (size : Option ℕ) → ((k : ℕ) → size ≡ Some k → MayResize t n k) → IsSized (on_some size t (λ size. after_resize t n size now))
    sized_by f at_f None may = record { described = d; file = f; at_file = at_f }
    sized_by f at_f (Some size) may = record {
      described = changes_stay.sizes t n size now time (may size refl) exports d;
      file = resized_to f size now;
      at_file = ap (λ (u : Tree). at n u.files) (resized_is t n size now f at_f) ∙ at_with_same n f (resized_to f size now) t.files at_f;
    }

    settled : (f : File) → Lives t n f → (g : Sattr) → IsSattrSaid g → ((k : ℕ) → g.size ≡ Some k → MayResize t n k) → D (after_settings t n g now)
    settled f at_f g said may = by (sets_something g)
      where
        by : (b : Bool) → D (if b then after_set (on_some g.size t (λ size. after_resize t n size now)) n (given_of now g) now else t)
        by true = let z = sized_by f at_f g.size may in
            changes_stay.attributes (on_some g.size t (λ size. after_resize t n size now)) n (given_of now g) now z.file time z.at_file
            (record { uid = said.uid; gid = said.gid; atime = set_time now time g.atime said.atime; mtime = set_time now time g.mtime said.mtime }) exports z.described
        by false = d

  module _ (s : Subject) (d : D s.tree) (t : Tree) (caller : Caller) (is : IsSubject t exports caller s) (ids : IsIdsSaid s.ids) where
    given : (a : Setattr) → IsSattrSaid a.attributes → first (setattr_rules s a) ≡ None → D (after_settings s.tree s.file.fileid (with_cleared_mode s.ids.uid s.file a.attributes) now)
    given a said none = let lives = seen_lives s.tree s.file is.seen in
        settled s.tree d s.file.fileid lives.0 lives.1 (with_cleared_mode s.ids.uid s.file a.attributes)
        (record { uid = said.uid; gid = said.gid; atime = said.atime; mtime = said.mtime }) (may_set_size s d.law is.seen a none)

    written : (a : Write) → AreBytes a.content → first (write_rules s a) ≡ None → (mode : Option ℕ) → D (after_writing s.tree s.file.fileid a.offset a.content mode now)
    written a bytes none mode = let lives = seen_lives s.tree s.file is.seen in
        let there = lives_written s.tree s.file.fileid a.offset a.content now lives.0 lives.1 in
        settled (after_write_at s.tree s.file.fileid a.offset a.content now)
        (changes_stay.bytes s.tree s.file.fileid a.offset a.content now time (may_write s d.law is.seen a none) bytes exports d)
        s.file.fileid there.0 there.1 (mode_alone mode) (record { uid = none_said; gid = none_said; atime = tt; mtime = tt }) (λ k e. absurd (not_both refl e))

    taken : (a : Create) → first (create_rules s a) ≡ None → (f : Fattr) → found s a.place.name ≡ Some f → (how : CreateHow) → a.how ≡ how → D (after_taking s.tree s.ids.uid f how now)
    taken a none f e how same = let lives = seen_lives s.tree f (found_seen s a.place.name f e).1 in
        settled s.tree d f.fileid lives.0 lives.1 (with_cleared_mode s.ids.uid f (size_alone (size_taken how)))
        (record { uid = none_said; gid = none_said; atime = tt; mtime = tt }) (may how same)
      where
        may : (how : CreateHow) → a.how ≡ how → (k : ℕ) → size_taken how ≡ Some k → MayResize s.tree f.fileid k
        may (Unchecked attributes) same k size = may_resize_present s d.law a none f e attributes same k size
        may (Guarded attributes) same k size = absurd (not_both refl size)
        may (Exclusive verifier) same k size = absurd (not_both refl size)

    created : (a : Create) → IsHowSaid a.how → AreBytes a.place.name → (tag : ℕ) → tag < 2 ^ 32 → first (create_rules s a) ≡ None → (o : Option Fattr) → found s a.place.name ≡ o → D (on_some o (after_creating s a now tag) (λ f. after_taking s.tree s.ids.uid f a.how now))
    created a said name tag fits none None e = let size = on_some (size_in a.how) 0 (λ (size : ℕ). size) in
        changes_stay.files s.tree s.file.fileid tag a.place.name (zeros size) (new_file_of file_mode s.ids now (attributes_in a.how)) (verifier_in a.how) now time
        (subst (MayMake s.tree s.file.fileid a.place.name) (sym (length_zeros size)) (may_make_file s d.law is.seen a none e)) fits
        (new_said s.ids ids file_mode now (attributes_in a.how) time (how_attributes a.how said)) name (zero_bytes size) exports d
    created a said name tag fits none (Some f) e = taken a none f e a.how refl

-- ---- a granted call

-- the tree after a granted call is describable
abbrev Leaves : Scene → Subject → Subject → ℕ → Doing → Type 0
Leaves c one two tag doing = IsDescribable (doing.effect one two c.now tag) c.exports

pub granted_described : (c : Scene) → IsDescribable c.tree c.exports → IsTime c.now → IsCredSaid c.caller.cred → AreSaid c.args → (doing : Doing) → doing_of c.args ≡ Some doing
    → (one two : Subject) (tag : ℕ) → tag < 2 ^ 32 → IsGranted c one two → Leaves c one two tag doing
granted_described c described time cred said doing e one two tag fits granted = by c.args refl said e (rules_kept c one two granted)
  where
    are : AreSubjects c one two
    are = are_subjects c one two granted

    is : IsSubject c.tree c.exports c.caller one
    is = are.first

    d : IsDescribable one.tree c.exports
    d = subst (λ t. IsDescribable t c.exports) (sym are.first.tree) described

    ids : IsIdsSaid one.ids
    ids = ids_said c.tree c.exports described c.caller one cred is

    reported_as : (performed : Doing) → Some performed ≡ Some doing → Leaves c one two tag performed → Leaves c one two tag doing
    reported_as performed e h = subst (Leaves c one two tag) (same_some e) h

    by : (args : NfsArgs) → c.args ≡ args → AreSaid args → doing_of args ≡ Some doing → first (rules_of one two args) ≡ None → Leaves c one two tag doing
    by nfs.Null same said e none = absurd (not_both refl e)
    by (nfs.Getattr file) same said e none = reported_as getattr e d
    by (nfs.Setattr a) same said e none = reported_as (setattr a) e (given c.exports c.now time one d c.tree c.caller is ids a said none)
    by (nfs.Lookup a) same said e none = reported_as (lookup a) e d
    by (nfs.Access a) same said e none = reported_as (access a) e d
    by (nfs.Readlink file) same said e none = reported_as (readlink file) e d
    by (nfs.Read a) same said e none = reported_as (read a) e d
    by (nfs.Write a) same said e none = reported_as (write a) e (written c.exports c.now time one d c.tree c.caller is ids a said none (cleared_mode one.ids.uid one.file (has_bytes a.content)))
    by (nfs.Create a) same said e none = reported_as (create a) e (created c.exports c.now time one d c.tree c.caller is ids a said.0 said.1 tag fits none (found one a.place.name) refl)
    by (nfs.Mkdir a) same said e none = reported_as (mkdir a) e (changes_stay.directories one.tree one.file.fileid tag a.place.name (new_file_of directory_mode one.ids c.now a.attributes) c.now time
        (may_make_directory one d.law is.seen a.place.name none) fits (new_said one.ids ids directory_mode c.now a.attributes time said.0) said.1 c.exports d)
    by (nfs.Symlink a) same said e none = reported_as (symlink a) e (changes_stay.links one.tree one.file.fileid tag a.place.name a.path
        (record (new_file_of link_mode one.ids c.now a.attributes) { mode = link_mode }) c.now time
        (may_make_link one d.law is.seen a.place.name a.path none) fits
        (with_mode link_mode (new_file_of link_mode one.ids c.now a.attributes) (new_said one.ids ids link_mode c.now a.attributes time said.0)) said.1 said.2 c.exports d)
    by (nfs.Mknod a) same said e none = reported_as (mknod a) e d
    by (nfs.Remove a) same said e none = let f = some_from_is_none (found one a.name) (passed_at (remove_rules one a.name) none 6 (test.no_entry one a.name) refl) in
        reported_as (remove a) e (changes_stay.removals one.tree one.file.fileid a.name c.now time (may_remove one d.law is.seen a.name none f.0 f.1).may c.exports d)
    by (nfs.Rmdir a) same said e none = let f = some_from_is_none (found one a.name) (passed_at (rmdir_rules one a.name) none 7 (test.no_entry one a.name) refl) in
        reported_as (rmdir a) e (changes_stay.removals one.tree one.file.fileid a.name c.now time (may_remove_directory one d.law is.seen a.name none f.0 f.1).may c.exports d)
    by (nfs.Rename a) same said e none = reported_as (rename a) e (changes_stay.renames one.tree one.file.fileid a.from.name two.file.fileid a.to.name c.now time
        (may_rename one.tree d.law one two refl (are.second.tree ∙ sym are.first.tree) is.seen are.second.seen are.volume a none) said c.exports d)
    by (nfs.Link a) same said e none = reported_as (link a) e (changes_stay.names one.tree one.file.fileid two.file.fileid a.place.name c.now time
        (may_link one.tree d.law one two refl (are.second.tree ∙ sym are.first.tree) is.seen are.second.seen are.volume a.place.name none) said c.exports d)
    by (nfs.Readdir a) same said e none = reported_as (readdir a) e d
    by (nfs.Readdirplus a) same said e none = reported_as (readdirplus a) e d
    by (nfs.Fsstat file) same said e none = reported_as (fsstat file) e d
    by (nfs.Fsinfo file) same said e none = reported_as (fsinfo file) e d
    by (nfs.Pathconf file) same said e none = reported_as (pathconf file) e d
    by (nfs.Commit a) same said e none = reported_as (commit a) e d
