-- What the tests of an entry that goes to another name report: each is true just where its condition holds.
use Rattle.std.proofs.Common.{inl, inr, ◌≡◌, ◌≢◌, ℕ, ◌+◌, ◌<◌, Bool, true, false, List, [], Some, None, option_map, refl, sym, ap, subst, ◌∙◌, arith}
use Rattle.std.specs.Prelude.{nat_eq, nat_lt, not}
use Rattle.std.proofs.Math.Bool.{beq}
use Rattle.std.specs.Bool.{Decides}
use Rattle.std.proofs.lemmas.Bool.Decides.{Decides-like, Decides-eqb, Decides-ltb}
use Rattle.nfs_attrs.specs.declared.fattr.Fattr.{Fattr}
use Rattle.nfs_inodes.specs.Tree.{Tree, File, Kind, Regular, Directory, Link, Entry, at, on_some, entries_in, is_directory, next_cookie_in, nlink}
use Rattle.nfs_inodes.specs.Law.{Law, Lives, climb}
use Rattle.nfs_inodes.specs.Conditions.{MayReplace, MayRename, NamesOther}
use Rattle.nfs_inodes.specs.Reading.{has_name, entry_named, entry_at, entries_at, attributes_at, is_directory_type, cookie_of_next, next_cookie_at}
use Rattle.nfs_inodes.proofs.Lists.{by_number, same_some, not_both, true_and_false, find_contains}
use Rattle.nfs_inodes.proofs.law.Unlinks.{entry_is}
use Rattle.nfs_inodes.proofs.Views.{mapped}
use Rattle.nfs_conditions.specs.Parts.{IsDirectoryIn, IsNear, HasCookieLeft, MayHaveLink, ReplacesFile, MayArrive, MayGo, is_directory_at}
use Rattle.nfs_conditions.proofs.Files.{by_option, directory_is, none_lives, lives, of_type, fsid, links}
use Rattle.nfs_conditions.proofs.Names.{has_entry, entries_are}

-- ---- one file

module _ (t : Tree) (n : ℕ) (a : Fattr) (e : Some a ≡ attributes_at t n) where
  pub directory_there : (id : ℕ) → is_directory_type a.file_type ≡ true → Decides (nat_eq a.fsid id) (IsDirectoryIn t n id)
  directory_there id y = let l = lives t n a e in Decides-like (nat_eq a.fsid id)
      (λ (s : a.fsid ≡ id). record { dir = l.0; at_dir = (l.1, sym (of_type t n a e l.0 l.1) ∙ y); volume = sym s ∙ fsid t n a e l.0 l.1 })
      (λ (there : IsDirectoryIn t n id). fsid t n a e there.dir there.at_dir.0 ∙ sym there.volume)
      (Decides-eqb a.fsid id)

  pub no_directory_there : (id : ℕ) → is_directory_type a.file_type ≡ false → IsDirectoryIn t n id → ⊥
  no_directory_there id other there = true_and_false (of_type t n a e there.dir there.at_dir.0 ∙ there.at_dir.1) other

  pub near_there : (d : ℕ) (b : Bool) → Decides b (IsDirectoryIn t d a.fsid) → Decides b (IsNear t n d)
  near_there d b directory = Decides-like b
      (λ (directory : IsDirectoryIn t d a.fsid). let l = lives t n a e in record { file = l.0; at_file = l.1; directory = subst (IsDirectoryIn t d) (fsid t n a e l.0 l.1) directory })
      (λ (near : IsNear t n d). subst (IsDirectoryIn t d) (sym (fsid t n a e near.file near.at_file)) near.directory)
      directory

  pub link_there : Decides (nat_lt a.nlink t.limits.links) (MayHaveLink t n)
  link_there = Decides-like (nat_lt a.nlink t.limits.links)
      (λ (few : a.nlink < t.limits.links). λ dir at_d. subst (λ m. m < t.limits.links) (links t n a e dir at_d) few)
      (λ (may : MayHaveLink t n). let l = lives t n a e in subst (λ m. m < t.limits.links) (sym (links t n a e l.0 l.1)) (may l.0 l.1))
      (Decides-ltb a.nlink t.limits.links)

  -- file n gives its place to another one
  pub replaces_there : (m : ℕ) (b : Bool) → is_directory_type a.file_type ≡ is_directory_at t m → Decides b (entries_at t n ≡ []) → (f : File) × Lives t m f → Decides b (ReplacesFile t n m)
  replaces_there m b alike empty it = Decides-like b
      (λ (none : entries_at t n ≡ []). λ file at_m. let l = lives t n a e in
      record { replaced = l.0; at_replaced = l.1; alike = sym (of_type t n a e l.0 l.1) ∙ alike ∙ directory_is t m file at_m; empty = sym (entries_are t n l.0 l.1) ∙ none })
      (λ (replaces : ReplacesFile t n m). let may = replaces it.0 it.1 in entries_are t n may.replaced may.at_replaced ∙ may.empty)
      empty

  pub other_kind : (m : ℕ) → (is_directory_type a.file_type ≡ is_directory_at t m → ⊥) → (f : File) × Lives t m f → ReplacesFile t n m → ⊥
  other_kind m unlike it replaces = let may = replaces it.0 it.1 in
      unlike (of_type t n a e may.replaced may.at_replaced ∙ may.alike ∙ sym (directory_is t m it.0 it.1))

pub none_replaced : (t : Tree) (old n : ℕ) → None ≡ attributes_at t old → (f : File) × Lives t n f → ReplacesFile t old n → ⊥
none_replaced t old n e it replaces = let may = replaces it.0 it.1 in none_lives t old e may.replaced may.at_replaced

pub none_linked : (t : Tree) (d : ℕ) → None ≡ attributes_at t d → MayHaveLink t d
none_linked t d e dir at_d = absurd (none_lives t d e dir at_d)

-- ---- an entry that goes to another name

cookie_is : (k : Kind) → is_directory k ≡ true → cookie_of_next k ≡ Some (next_cookie_in k)
cookie_is (Regular bytes) y = cc
cookie_is (Directory parent next_cookie entries) y = refl
cookie_is (Link path) y = cc

has_cookie : (k : Kind) (n : ℕ) → cookie_of_next k ≡ Some n → is_directory k ≡ true
has_cookie (Regular bytes) n e = absurd (not_both refl e)
has_cookie (Directory parent next_cookie entries) n e = refl
has_cookie (Link path) n e = absurd (not_both refl e)

pub cookie_left : (t : Tree) (d n : ℕ) → Some n ≡ next_cookie_at t d → Decides (nat_lt n 18446744073709551615) (HasCookieLeft t d)
cookie_left t d n e = Decides-like (nat_lt n 18446744073709551615)
    (λ (low : n < 18446744073709551615). λ dir at_d. subst (λ m. m < 18446744073709551615) (same_some (e ∙ cookie_at dir at_d.0 ∙ cookie_is dir.kind at_d.1)) low)
    (λ (left : HasCookieLeft t d). by_option (at d t.files)
    (λ none. absurd (not_both refl (sym (e ∙ ap (λ o. on_some o None (λ f. cookie_of_next f.kind)) none))))
    (λ f some. let its = sym (cookie_at f some) ∙ sym e in
    let is_dir = has_cookie f.kind n its in
    subst (λ m. m < 18446744073709551615) (same_some (sym (cookie_is f.kind is_dir) ∙ its)) (left f (some, is_dir))))
    (Decides-ltb n 18446744073709551615)
  where
    cookie_at : (f : File) → Lives t d f → next_cookie_at t d ≡ cookie_of_next f.kind
    cookie_at f some = ap (λ o. on_some o None (λ f. cookie_of_next f.kind)) some

-- the condition from its parts
may_rename : (t : Tree) (from to n : ℕ) (name new_name : List ℕ) → Law t → (e : Entry) → entry_at t from name ≡ Some e → e.number ≡ n → MayGo t n from to new_name → MayRename t from name to new_name
may_rename t from to n name new_name law e is same go =
    let source = has_entry t from name e is in
    let its = law.entries from source.0 e source.1.0 (find_contains (has_name name) (entries_in source.0.kind) e source.2) in
    let target = go.near.directory in
    let found_to : entry_at t to new_name ≡ entry_named new_name (entries_in target.dir.kind) = entry_is t to new_name target.dir target.at_dir.0 in
    let at_n : Lives t n its.0 = ap (λ m. at m t.files) (sym same) ∙ its.1 in
    let volume : go.near.file.volume ≡ target.dir.volume = let e = target.volume in omega (arith, e) in
    let arrives : NamesOther t to new_name e.number → MayArrive t n to = λ other. by_option (entry_at t to new_name)
    (λ none. (go.free none).1)
    (λ old some. (go.over old some (λ s. other old some (s ∙ sym same))).1) in
    record {
      source = source.0;
      at_source = source.1;
      entry = e;
      found = source.2;
      file = its.0;
      at_file = its.1;
      target = target.dir;
      at_target = target.at_dir;
      volume = ap (λ (f : File). f.volume) (same_some (sym at_n ∙ go.near.at_file)) ∙ volume;
      is_name = go.is_name;
      cookie = λ other. (arrives other).cookie target.dir target.at_dir;
      replaced = λ old some other. (go.over old (found_to ∙ some) (λ s. other (s ∙ sym same))).0 its.0 at_n;
      off = λ other y. subst (λ m. (steps : ℕ) → climb steps t.files to ≢ m) (sym same) ((arrives other).off its.0 (at_n, y));
      links = λ none y. by_number to from inl (λ o. inr ((go.free (found_to ∙ none)).0 o (directory_is t n its.0 at_n ∙ y) target.dir target.at_dir.0));
    }

-- and its parts from the condition
may_go : (t : Tree) (from to : ℕ) (name new_name : List ℕ) → (may : MayRename t from name to new_name) → MayGo t may.entry.number from to new_name
may_go t from to name new_name may =
    let n : ℕ = may.entry.number in
    let found_to : entry_at t to new_name ≡ entry_named new_name (entries_in may.target.kind) = entry_is t to new_name may.target may.at_target.0 in
    let arrives : NamesOther t to new_name n → MayArrive t n to = λ other. record {
      cookie = λ dir at_dir. subst (λ (f : File). next_cookie_in f.kind < 18446744073709551615) (same_some (sym may.at_target.0 ∙ at_dir.0)) (may.cookie other);
      off = λ file at_n. may.off other (ap (λ (f : File). is_directory f.kind) (same_some (sym may.at_file ∙ at_n.0)) ∙ at_n.1);
    } in
    record {
      is_name = may.is_name;
      near = record { file = may.file; at_file = may.at_file; directory = record { dir = may.target; at_dir = may.at_target; volume = ap (λ v. v + 1) may.volume } };
      over = λ old some other. (
        λ file at_n. subst (MayReplace t old.number) (same_some (sym may.at_file ∙ at_n)) (may.replaced old (sym found_to ∙ some) other),
        arrives (λ same is s. other (ap (λ (e : Entry). e.number) (same_some (sym some ∙ is)) ∙ s)),
      );
      free = λ none. (
        λ apart y dir at_dir. elim (may.links (sym found_to ∙ none) (sym (directory_is t n may.file may.at_file) ∙ y)) [
          | inl s ↦ absurd (apart s)
          | inr few ↦ subst (λ (f : File). nlink t.files to f < t.limits.links) (same_some (sym may.at_target.0 ∙ at_dir)) few
        ],
        arrives (λ old is. absurd (not_both none is)),
      );
    }

pub renames : (t : Tree) (from to n : ℕ) (name new_name : List ℕ) (b : Bool) → Law t → Some n ≡ option_map (λ (e : Entry). e.number) (entry_at t from name) → Decides b (MayGo t n from to new_name) → Decides b (MayRename t from name to new_name)
renames t from to n name new_name b law found go =
    let e = mapped (λ (e : Entry). e.number) (entry_at t from name) n (sym found) in
    Decides-like b (λ (go : MayGo t n from to new_name). may_rename t from to n name new_name law e.0 e.1 e.2 go) (λ (may : MayRename t from name to new_name).
    subst (λ m. MayGo t m from to new_name) (sym (sym e.2 ∙ ap (λ (e : Entry). e.number) (same_some (sym e.1 ∙ entry_is t from name may.source may.at_source.0 ∙ may.found)))) (may_go t from to name new_name may))
    go

-- ---- two truths

pub same_truth : (x y : Bool) → not (beq x y) ≡ false → x ≡ y
same_truth true true e = refl
same_truth true false e = cc
same_truth false true e = cc
same_truth false false e = refl

pub other_truth : (x y : Bool) → not (beq x y) ≡ true → x ≡ y → ⊥
other_truth true true e s = cc
other_truth true false e s = cc
other_truth false true e s = cc
other_truth false false e s = cc
