-- What a new file is like, and the law after the operations that make one.
use Rattle.std.proofs.Common.{◌≡◌, ◌≢◌, ℕ, ◌<◌, ◌≤◌, true, false, List, [], length, Option, None, refl, sym, ap, subst, ◌∙◌, arith}
use Rattle.std.specs.Prelude.{◌%◌, ◌^◌, All, AllPairs}
use Rattle.nfs_attrs.specs.declared.moment.Moment.{Moment}
use Rattle.nfs_inodes.specs.declared.limits.Limits.{Limits}
use Rattle.nfs_inodes.specs.declared.new_file.NewFile.{NewFile}
use Rattle.nfs_inodes.specs.Tree.{Tree, File, Kind, Regular, Directory, Link, Entry, on_some, is_directory, entries_in, parent_in, bytes_in, next_cookie_in}
use Rattle.nfs_inodes.specs.Law.{Law, IsName, IsSound}
use Rattle.nfs_inodes.specs.Changes.{after_make_file, after_mkdir, after_make_link, after_add_volume, new_file}
use Rattle.nfs_inodes.specs.Changes as changes
use Rattle.nfs_inodes.specs.Conditions.{MayMake, MayMakeDirectory, MayMakeLink, MayAddVolume, IsNew}
use Rattle.nfs_inodes.specs.StepConditions.{IsFresh}
use Rattle.nfs_inodes.proofs.law.WithNewFile.{law_with_new_volume, MayBeFounded}
use Rattle.nfs_inodes.proofs.law.Operations.{law_with_named_file}

fresh_sound : {l : Limits} (f : File) (d size : ℕ) → IsFresh l d size f.kind → f.mode < 4096 → size ≤ l.file_size → IsSound l f
fresh_sound f d size fresh mode large = let long = fresh.bytes in record {
  mode = mode;
  bytes = omega (arith, long, large);
  path = fresh.path;
  names = subst (λ es. All (λ (e : Entry). IsName e.name) es) (sym fresh.empty) (λ k x l. absurd (omega (arith, l)));
  cookies = subst (λ es. All (λ (e : Entry). (3 ≤ e.cookie) × (e.cookie < next_cookie_in f.kind)) es) (sym fresh.empty) (λ k x l. absurd (omega (arith, l)));
  next_cookie = fresh.next_cookie;
  apart = subst (λ es. AllPairs (λ (e g : Entry). (e.name ≢ g.name) × (e.cookie < g.cookie)) es) (sym fresh.empty) (λ i j x l m. absurd (omega (arith, m)));
}

-- a new file in directory d is as it has to be
pub new_here : (t : Tree) (d size : ℕ) (name : List ℕ) (k : Kind) (given : NewFile) (f : File) (may : MayMake t d name size) → f.kind ≡ k → f.volume ≡ changes.volume_index t d → f.mode ≡ given.mode % 4096 → f.tag < 2 ^ 32 → IsFresh t.limits d size k → IsNew t.limits d size may.enter.dir f
new_here t d size name k given f may kind volume mode fits fresh = record {
  tag = fits;
  sound = fresh_sound f d size (subst (IsFresh t.limits d size) (sym kind) fresh) (subst (λ m. m < 4096) (sym mode) (low_bits given.mode)) may.large;
  volume = volume ∙ ap (λ o. on_some o 0 (λ (k : File). k.volume)) may.enter.at_dir.0;
  empty = ap entries_in kind ∙ fresh.empty;
  bytes = ap (λ k. length (bytes_in k)) kind ∙ fresh.bytes;
  parent = λ y. ap parent_in kind ∙ fresh.parent (sym (ap is_directory kind) ∙ y);
}
  where
    low_bits : (m : ℕ) → m % 4096 < 4096
    low_bits m = omega arith

pub fresh_file : {l : Limits} (d : ℕ) (bytes : List ℕ) → IsFresh l d (length bytes) (Regular bytes)
fresh_file d bytes = record { empty = refl; bytes = refl; path = omega arith; parent = λ y. cc; next_cookie = λ y. cc }

pub fresh_directory : {l : Limits} (d : ℕ) → IsFresh l d 0 (Directory d 3 [])
fresh_directory d = record { empty = refl; bytes = refl; path = omega arith; parent = λ y. refl; next_cookie = λ y. omega arith }

pub fresh_link : {l : Limits} (d : ℕ) (path : List ℕ) → length path ≤ l.link_path → IsFresh l d 0 (Link path)
fresh_link d path h = record { empty = refl; bytes = refl; path = h; parent = λ y. cc; next_cookie = λ y. cc }

pub impossible : {P : Type 0} → false ≡ true → P
impossible e = absurd (no e)
  where
    no : false ≡ true → ⊥
    no e = cc

pub may_be_founded : (t : Tree) (path : List ℕ) (max_bytes max_files tag : ℕ) (given : NewFile) (now : Moment) (f : File) → MayAddVolume t path max_bytes max_files → tag < 2 ^ 32 → f ≡ new_file (length t.volumes) (Directory t.next 3 []) given None tag now →
    MayBeFounded t (record { path = path; max_bytes = max_bytes; max_files = max_files; root = t.next }) f
may_be_founded t path max_bytes max_files tag given now f may fits is =
    let kind = ap (λ (f : File). f.kind) is in
    let low : given.mode % 4096 < 4096 = omega arith in
    record {
      tag = subst (λ n. n < 2 ^ 32) (ap (λ (f : File). f.tag) (sym is)) fits;
      number = may.number;
      few = may.few;
      path = may.short;
      fresh = may.fresh;
      root = refl;
      files = may.files;
      within = record { bytes = may.bytes; files = may.many };
      sound = subst (IsSound t.limits) (sym is) (fresh_sound (new_file (length t.volumes) (Directory t.next 3 []) given None tag now) t.next 0 (fresh_directory t.next) low (omega arith));
      is_dir = ap is_directory kind;
      parent = ap parent_in kind;
      empty = ap entries_in kind;
      no_bytes = ap bytes_in kind;
      volume = ap (λ (f : File). f.volume) is;
    }

-- ---- the law

pub law_after_make_file : (t : Tree) (d tag : ℕ) (name bytes : List ℕ) (given : NewFile) (verifier : Option (List ℕ)) (now : Moment) → MayMake t d name (length bytes) → tag < 2 ^ 32 → Law t → Law (after_make_file t d name bytes given verifier tag now)
law_after_make_file t d tag name bytes given verifier now may fits law =
    let f = new_file (changes.volume_index t d) (Regular bytes) given verifier tag now in
    law_with_named_file t d (length bytes) name f now may law (new_here t d (length bytes) name (Regular bytes) given f may refl refl refl fits (fresh_file d bytes)) impossible

pub law_after_mkdir : (t : Tree) (d tag : ℕ) (name : List ℕ) (given : NewFile) (now : Moment) → MayMakeDirectory t d name → tag < 2 ^ 32 → Law t → Law (after_mkdir t d name given tag now)
law_after_mkdir t d tag name given now may fits law =
    let f = new_file (changes.volume_index t d) (Directory d 3 []) given None tag now in
    law_with_named_file t d 0 name f now may.make law (new_here t d 0 name (Directory d 3 []) given f may.make refl refl refl fits (fresh_directory d)) (λ y. may.links)

pub law_after_make_link : (t : Tree) (d tag : ℕ) (name path : List ℕ) (given : NewFile) (now : Moment) → MayMakeLink t d name path → tag < 2 ^ 32 → Law t → Law (after_make_link t d name path given tag now)
law_after_make_link t d tag name path given now may fits law =
    let f = new_file (changes.volume_index t d) (Link path) given None tag now in
    law_with_named_file t d 0 name f now may.make law (new_here t d 0 name (Link path) given f may.make refl refl refl fits (fresh_link d path may.long)) impossible

pub law_after_add_volume : (t : Tree) (max_bytes max_files tag : ℕ) (path : List ℕ) (given : NewFile) (now : Moment) → MayAddVolume t path max_bytes max_files → tag < 2 ^ 32 → Law t → Law (after_add_volume t path max_bytes max_files given tag now)
law_after_add_volume t max_bytes max_files tag path given now may fits law =
    let root = new_file (length t.volumes) (Directory t.next 3 []) given None tag now in
    law_with_new_volume t (record { path = path; max_bytes = max_bytes; max_files = max_files; root = t.next }) root law (may_be_founded t path max_bytes max_files tag given now root may fits refl)
