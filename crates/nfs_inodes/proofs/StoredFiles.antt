-- The kept files, after changes by number.
use Rattle.std.proofs.Common.{◌≡◌, ◌≢◌, ℕ, ◌+◌, ◌-◌, ◌<◌, true, length, List, Some, option_map, refl, sym, ap, subst, ◌∙◌, arith}
use Rattle.std.specs.Prelude.{OnOk, OnErr, Result, Ok, Err, nat_eq}
use Rattle.std.proofs.lemmas.Map.Steps.{set_value_same}
use Rattle.nfs_handles.specs.NumberedFiles.{NumberedFiles, TaggedFile, at, value_at, with_value, revalued}
use Rattle.nfs_inodes.specs.declared.stored_file.StoredFile.{StoredFile}
use Rattle.nfs_attrs.specs.declared.moment.Moment.{Moment}
use Rattle.nfs_handles.specs.Changes.{Adds}
use Rattle.nfs_inodes.specs.Changes.{entered, file_with_bytes}
use Rattle.nfs_inodes.specs.Tree.{File, with_at, one_when, is_directory, is_regular, bytes_in, entries_in, next_cookie_in}
use Rattle.nfs_inodes.specs.Counts.{CountedFile}
use Rattle.nfs_inodes.specs.Reading.{entry_named}
use Rattle.nfs_inodes.specs.Storage.{file_of, kind_of, counted_file_of, counted_files, HasRoom}
use Rattle.nfs_inodes.specs.StoredFiles.{TakesEntry, HasNoEntry, Revalues, SameFile, SameFiles, Enters, AddsFile, TakesLink, GainsLink, LinksFile, TakesBytes, Writes}
use Rattle.nfs_inodes.specs.declared.stored_files.Growth.{Growth}
use Rattle.nfs_inodes.proofs.Lists.{same_some}
use Rattle.nfs_inodes.proofs.Bytes.{length_put}
use Rattle.nfs_inodes.proofs.law.Operations.{overwritten_bytes}
use Rattle.nfs_inodes.proofs.Maps.{at_shows, shows_with, shows_push, at_with_same, at_with_other, at_push_other}

-- what is shown of a kept file
abbrev pub counted_file : TaggedFile StoredFile → CountedFile
counted_file f = counted_file_of f.tag f.value

pub value_found : (t : NumberedFiles StoredFile) (n : ℕ) (f : TaggedFile StoredFile) (i : StoredFile) → at t n ≡ Some f → Some i ≡ value_at t n → i ≡ f.value
value_found t n f i e v = same_some (v ∙ ap (option_map (λ (f : TaggedFile StoredFile). f.value)) e)

-- a value changed, where one was
pub with_value_is : (t : NumberedFiles StoredFile) (n : ℕ) (f : TaggedFile StoredFile) (w : StoredFile) → at t n ≡ Some f → with_value t n w ≡ record { files = with_at n (record { tag = f.tag; value = w }) t.files; next = t.next; key = t.key }
with_value_is t n f w e = ap (revalued t n w) e

pub at_value_same : (t : NumberedFiles StoredFile) (n : ℕ) (f : TaggedFile StoredFile) (w : StoredFile) → at t n ≡ Some f → at (with_value t n w) n ≡ Some (record { tag = f.tag; value = w })
at_value_same t n f w e = ap (λ (u : NumberedFiles StoredFile). at u n) (with_value_is t n f w e) ∙ at_with_same n f (record { tag = f.tag; value = w }) t.files e

pub at_value_other : (t : NumberedFiles StoredFile) (n m : ℕ) (f : TaggedFile StoredFile) (w : StoredFile) → at t n ≡ Some f → m ≢ n → at (with_value t n w) m ≡ at t m
at_value_other t n m f w e o = ap (λ (u : NumberedFiles StoredFile). at u m) (with_value_is t n f w e) ∙ at_with_other n m (record { tag = f.tag; value = w }) t.files o

pub helds_value : (t : NumberedFiles StoredFile) (n : ℕ) (f : TaggedFile StoredFile) (w : StoredFile) → at t n ≡ Some f → counted_files (with_value t n w).files ≡ with_at n (counted_file_of f.tag w) (counted_files t.files)
helds_value t n f w e = ap (λ (u : NumberedFiles StoredFile). counted_files u.files) (with_value_is t n f w e) ∙ shows_with counted_file n (record { tag = f.tag; value = w }) t.files

pub next_value : (t : NumberedFiles StoredFile) (n : ℕ) (f : TaggedFile StoredFile) (w : StoredFile) → at t n ≡ Some f → ((with_value t n w).next ≡ t.next) × ((with_value t n w).key ≡ t.key)
next_value t n f w e = (ap (λ (u : NumberedFiles StoredFile). u.next) (with_value_is t n f w e), ap (λ (u : NumberedFiles StoredFile). u.key) (with_value_is t n f w e))

pub at_counted_file : (t : NumberedFiles StoredFile) (n : ℕ) (f : TaggedFile StoredFile) → at t n ≡ Some f → Rattle.nfs_inodes.specs.Tree.at n (counted_files t.files) ≡ Some (counted_file f)
at_counted_file t n f e = at_shows counted_file n t.files ∙ ap (option_map counted_file) e

same_held : (tag : ℕ) (old new : StoredFile) → SameFile old new → counted_file_of tag new ≡ counted_file_of tag old
same_held tag old new s = both (ap (λ (f : File). record f { tag = tag }) s.file) s.nlink
  where
    make : File → ℕ → CountedFile
    make f n = record { file = f; nlink = n }

    both : {f g : File} {m n : ℕ} → f ≡ g → m ≡ n → make f m ≡ make g n
    both {f} {g} {m} {n} e h = ap (λ k. make k m) e ∙ ap (make g) h

-- a value that shows the same
pub same_files : (old new : NumberedFiles StoredFile) (n : ℕ) → Revalues old n SameFile new → SameFiles old new
same_files old new n r =
    let here : counted_file_of r.was.tag r.value ≡ counted_file r.was = same_held r.was.tag r.was.value r.value r.from in
    record {
      files = ap (λ (u : NumberedFiles StoredFile). counted_files u.files) r.new_is ∙ helds_value old n r.was r.value r.at_was ∙ ap (λ h. with_at n h (counted_files old.files)) here
          ∙ set_value_same (nat_eq n) (counted_files old.files) (counted_file r.was) (at_counted_file old n r.was r.at_was);
      next = ap (λ (u : NumberedFiles StoredFile). u.next) r.new_is ∙ (next_value old n r.was r.value r.at_was).0;
      key = ap (λ (u : NumberedFiles StoredFile). u.key) r.new_is ∙ (next_value old n r.was r.value r.at_was).1;
    }

-- ---- a new file with its entry

pub on_ok : {A E P Q : Type 0} (r : Result A E) → (P → Q) → OnOk r P → OnOk r Q
on_ok (Ok a) f p = f p
on_ok (Err e) f p = p

pub on_err : {A E P : Type 0} (r : Result A E) → P → OnErr r P
on_err (Ok a) p = tt
on_err (Err e) p = p

pub room_there : (t : NumberedFiles StoredFile) (n : ℕ) (f : TaggedFile StoredFile) (w : StoredFile) → at t n ≡ Some f → HasRoom w → (i : StoredFile) → value_at (with_value t n w) n ≡ Some i → HasRoom i
room_there t n f w e h i v = subst HasRoom (same_some (sym (ap (option_map (λ (f : TaggedFile StoredFile). f.value)) (at_value_same t n f w e)) ∙ v)) h

pub on_new : (t u : NumberedFiles StoredFile) (v : StoredFile) (adds : Adds t v u) (m : ℕ) → m ≢ t.next → at u m ≡ at t m
on_new t u v adds m o = ap (λ (k : NumberedFiles StoredFile). at k m) adds.new_is ∙ at_push_other t.next m (record { tag = adds.tag; value = v }) t.files o

pub reserved : (t : NumberedFiles StoredFile) (n : ℕ) (takes : TakesEntry t n) (i w : StoredFile) → Some i ≡ value_at t n → file_of 0 w ≡ file_of 0 i → w.nlink ≡ i.nlink → Revalues t n SameFile (with_value t n w)
reserved t n takes i w v file nlink = record {
  was = takes.dir;
  at_was = takes.at_dir;
  value = w;
  from = subst (λ (i : StoredFile). SameFile i w) (value_found t n takes.dir i takes.at_dir v) (record { file = file; nlink = nlink });
  new_is = refl;
}

module _ (t1 t2 : NumberedFiles StoredFile) (d : ℕ) (stored_file : StoredFile) (takes : TakesEntry t1 d) (adds : Adds t1 stored_file t2) where
  apart : d ≢ t1.next
  apart s = let low = takes.below in omega (arith, low, s)

  at_2 : at t2 d ≡ Some takes.dir
  at_2 = on_new t1 t2 stored_file adds d apart ∙ takes.at_dir

  pub takes_still : TakesEntry t2 d
  takes_still = record {
    dir = takes.dir;
    at_dir = at_2;
    is_dir = takes.is_dir;
    next_cookie = takes.next_cookie;
    nlink = takes.nlink;
    below = let low = takes.below in let n : t2.next ≡ t1.next + 1 = ap (λ (k : NumberedFiles StoredFile). k.next) adds.new_is in omega (arith, low, n);
  }

  pub room_still : ((i : StoredFile) → value_at t1 d ≡ Some i → HasRoom i) → (i : StoredFile) → value_at t2 d ≡ Some i → HasRoom i
  room_still has i v = has i (ap (option_map (λ (f : TaggedFile StoredFile). f.value)) (sym (on_new t1 t2 stored_file adds d apart)) ∙ v)

  pub fresh_still : (name : List ℕ) → HasNoEntry t1 d name → HasNoEntry t2 d name
  fresh_still name fresh i v = fresh i (ap (option_map (λ (f : TaggedFile StoredFile). f.value)) (sym (on_new t1 t2 stored_file adds d apart)) ∙ v)

  pub added : (t3 : NumberedFiles StoredFile) (name : List ℕ) (number links : ℕ) (now : Moment) → Revalues t2 d (Enters name number links now) t3 → number ≡ t1.next → links ≡ one_when (is_directory (file_of 0 stored_file).kind) → AddsFile t1 d name stored_file now t3
  added t3 name number links now enters is_number are_links =
      let was : enters.was ≡ takes.dir = same_some (sym enters.at_was ∙ at_2) in
      let value : Enters name number links now takes.dir.value enters.value = subst (λ (f : TaggedFile StoredFile). Enters name number links now f.value enters.value) was enters.from in
      record {
        tag = adds.tag;
        tag_is = adds.tag_is;
        dir = takes.dir;
        at_dir = takes.at_dir;
        value = enters.value;
        enters = record {
          file = value.file ∙ ap (λ n. entered (file_of 0 takes.dir.value) name n now) is_number;
          nlink = value.nlink ∙ ap (λ l. takes.dir.value.nlink + l) are_links;
        };
        files = ap (λ (k : NumberedFiles StoredFile). counted_files k.files) enters.new_is ∙ helds_value t2 d enters.was enters.value enters.at_was
            ∙ ap (λ (f : TaggedFile StoredFile). with_at d (counted_file_of f.tag enters.value) (counted_files t2.files)) was
            ∙ ap (with_at d (counted_file_of takes.dir.tag enters.value)) (ap (λ (k : NumberedFiles StoredFile). counted_files k.files) adds.new_is ∙ shows_push counted_file t1.next (record { tag = adds.tag; value = stored_file }) t1.files);
        next = ap (λ (k : NumberedFiles StoredFile). k.next) enters.new_is ∙ (next_value t2 d enters.was enters.value enters.at_was).0 ∙ ap (λ (k : NumberedFiles StoredFile). k.next) adds.new_is;
        key = ap (λ (k : NumberedFiles StoredFile). k.key) enters.new_is ∙ (next_value t2 d enters.was enters.value enters.at_was).1 ∙ ap (λ (k : NumberedFiles StoredFile). k.key) adds.new_is;
      }

-- ---- a link

pub gains : (t : NumberedFiles StoredFile) (n : ℕ) (f : TaggedFile StoredFile) (i : StoredFile) (now : Moment) → at t n ≡ Some f → Some i ≡ value_at t n → Revalues t n (GainsLink now) (with_value t n (record i { ctime = now; nlink = i.nlink + 1 }))
gains t n f i now e v = record {
  was = f;
  at_was = e;
  value = record i { ctime = now; nlink = i.nlink + 1 };
  from = subst (λ (j : StoredFile). GainsLink now j (record i { ctime = now; nlink = i.nlink + 1 })) (value_found t n f i e v) (record { file = refl; nlink = refl });
  new_is = refl;
}

module _ (t0 t1 t2 : NumberedFiles StoredFile) (n d : ℕ) (now : Moment) (takes : TakesEntry t0 d) (link : TakesLink t0 n d) (reserved : Revalues t0 d SameFile t1) where
  its_dir : reserved.was ≡ takes.dir
  its_dir = same_some (sym reserved.at_was ∙ takes.at_dir)

  file_1 : at t1 n ≡ Some link.file
  file_1 = ap (λ (k : NumberedFiles StoredFile). at k n) reserved.new_is ∙ at_value_other t0 d n reserved.was reserved.value reserved.at_was (λ s. link.other (sym s)) ∙ link.at_file

  pub takes_link_twice : TakesLink t1 n d
  takes_link_twice = record { file = link.file; at_file = file_1; nlink = link.nlink; other = link.other }

  abbrev pub dir_1 : TaggedFile StoredFile
  dir_1 = record { tag = reserved.was.tag; value = reserved.value }

  at_dir_1 : at t1 d ≡ Some dir_1
  at_dir_1 = ap (λ (k : NumberedFiles StoredFile). at k d) reserved.new_is ∙ at_value_same t0 d reserved.was reserved.value reserved.at_was

  same_dir_file : file_of 0 reserved.value ≡ file_of 0 takes.dir.value
  same_dir_file = reserved.from.file ∙ ap (λ (f : TaggedFile StoredFile). file_of 0 f.value) its_dir

  module _ (with_entry : Revalues t1 n (GainsLink now) t2) where
    at_dir_2 : at t2 d ≡ Some dir_1
    at_dir_2 = ap (λ (k : NumberedFiles StoredFile). at k d) with_entry.new_is ∙ at_value_other t1 n d with_entry.was with_entry.value with_entry.at_was link.other ∙ at_dir_1

    pub dir_for_link : TakesEntry t2 d
    dir_for_link = record {
      dir = dir_1;
      at_dir = at_dir_2;
      is_dir = ap (λ (f : File). is_directory f.kind) same_dir_file ∙ takes.is_dir;
      next_cookie = subst (λ (f : File). next_cookie_in f.kind + 1 < 18446744073709551616) (sym same_dir_file) takes.next_cookie;
      nlink = let few = takes.nlink in let same : reserved.value.nlink ≡ takes.dir.value.nlink = reserved.from.nlink ∙ ap (λ (f : TaggedFile StoredFile). f.value.nlink) its_dir in omega (arith, few, same);
      below = let low = takes.below in
          let a : t2.next ≡ t1.next = ap (λ (k : NumberedFiles StoredFile). k.next) with_entry.new_is ∙ (next_value t1 n with_entry.was with_entry.value with_entry.at_was).0 in
          let b = (same_files t0 t1 d reserved).next in omega (arith, low, a, b);
    }

    pub room_for_link : ((i : StoredFile) → value_at t1 d ≡ Some i → HasRoom i) → (i : StoredFile) → value_at t2 d ≡ Some i → HasRoom i
    room_for_link has i v = has i (ap (option_map (λ (f : TaggedFile StoredFile). f.value)) (at_dir_1 ∙ sym at_dir_2) ∙ v)

    pub fresh_for_link : (name : List ℕ) → HasNoEntry t0 d name → HasNoEntry t2 d name
    fresh_for_link name fresh i v =
        let is : reserved.value ≡ i = same_some (sym (ap (option_map (λ (f : TaggedFile StoredFile). f.value)) at_dir_2) ∙ v) in
        ap (λ (i : StoredFile). entry_named name (entries_in (kind_of i.node))) (sym is)
        ∙ ap (λ (f : File). entry_named name (entries_in f.kind)) same_dir_file
        ∙ fresh takes.dir.value (ap (option_map (λ (f : TaggedFile StoredFile). f.value)) takes.at_dir)

    pub linked_files : (t3 : NumberedFiles StoredFile) (name : List ℕ) → Revalues t2 d (Enters name n 0 now) t3 → LinksFile t0 n d name now t3
    linked_files t3 name enters =
        let was_dir : enters.was ≡ dir_1 = same_some (sym enters.at_was ∙ at_dir_2) in
        let was_file : with_entry.was ≡ link.file = same_some (sym with_entry.at_was ∙ file_1) in
        let value : Enters name n 0 now reserved.value enters.value = subst (λ (f : TaggedFile StoredFile). Enters name n 0 now f.value enters.value) was_dir enters.from in
        let dir_tag : enters.was.tag ≡ takes.dir.tag = ap (λ (f : TaggedFile StoredFile). f.tag) was_dir ∙ ap (λ (f : TaggedFile StoredFile). f.tag) its_dir in
        let file_tag : with_entry.was.tag ≡ link.file.tag = ap (λ (f : TaggedFile StoredFile). f.tag) was_file in
        record {
          file = link.file;
          at_file = link.at_file;
          file_now = with_entry.value;
          gains = subst (λ (f : TaggedFile StoredFile). GainsLink now f.value with_entry.value) was_file with_entry.from;
          dir = takes.dir;
          at_dir = takes.at_dir;
          dir_now = enters.value;
          enters = record {
            file = value.file ∙ ap (λ f. entered f name n now) same_dir_file;
            nlink = value.nlink ∙ ap (λ k. k + 0) (reserved.from.nlink ∙ ap (λ (f : TaggedFile StoredFile). f.value.nlink) its_dir);
          };
          files = ap (λ (k : NumberedFiles StoredFile). counted_files k.files) enters.new_is ∙ helds_value t2 d enters.was enters.value enters.at_was
              ∙ ap (λ tag. with_at d (counted_file_of tag enters.value) (counted_files t2.files)) dir_tag
              ∙ ap (with_at d (counted_file_of takes.dir.tag enters.value)) (ap (λ (k : NumberedFiles StoredFile). counted_files k.files) with_entry.new_is ∙ helds_value t1 n with_entry.was with_entry.value with_entry.at_was
              ∙ ap (λ tag. with_at n (counted_file_of tag with_entry.value) (counted_files t1.files)) file_tag
              ∙ ap (with_at n (counted_file_of link.file.tag with_entry.value)) (same_files t0 t1 d reserved).files);
          next = ap (λ (k : NumberedFiles StoredFile). k.next) enters.new_is ∙ (next_value t2 d enters.was enters.value enters.at_was).0 ∙ ap (λ (k : NumberedFiles StoredFile). k.next) with_entry.new_is ∙ (next_value t1 n with_entry.was with_entry.value with_entry.at_was).0 ∙ (same_files t0 t1 d reserved).next;
          key = ap (λ (k : NumberedFiles StoredFile). k.key) enters.new_is ∙ (next_value t2 d enters.was enters.value enters.at_was).1 ∙ ap (λ (k : NumberedFiles StoredFile). k.key) with_entry.new_is ∙ (next_value t1 n with_entry.was with_entry.value with_entry.at_was).1 ∙ (same_files t0 t1 d reserved).key;
        }

-- ---- bytes

pub unwritten : (t : NumberedFiles StoredFile) (n : ℕ) (f : TaggedFile StoredFile) (i w : StoredFile) → at t n ≡ Some f → Some i ≡ value_at t n → file_of 0 w ≡ file_of 0 i → w.nlink ≡ i.nlink → SameFiles t (with_value t n w)
unwritten t n f i w e v file nlink = let s = value_found t n f i e v in
    same_files t (with_value t n w) n (record { was = f; at_was = e; value = w; from = record { file = file ∙ ap (file_of 0) s; nlink = nlink ∙ ap (λ (i : StoredFile). i.nlink) s }; new_is = refl })

pub wrote : (t : NumberedFiles StoredFile) (n offset : ℕ) (bytes : List ℕ) (now : Moment) (takes : TakesBytes t n offset (length bytes)) (i w : StoredFile) (growth : Growth) → Some i ≡ value_at t n → file_of 0 w ≡ file_with_bytes (file_of 0 i) offset bytes now → w.nlink ≡ i.nlink →
    growth.volume ≡ w.volume → growth.bytes ≡ length (bytes_in (file_of 0 w).kind) - length (bytes_in (file_of 0 i).kind) → Revalues t n (Writes offset bytes growth now) (with_value t n w)
wrote t n offset bytes now takes i w growth v file nlink index grown =
    let s = value_found t n takes.file i takes.at_file v in
    let regular : is_regular (file_of 0 i).kind ≡ true = ap (λ i. is_regular (file_of 0 i).kind) s ∙ takes.regular in
    let long : length (bytes_in (file_of 0 w).kind) ≡ length (bytes_in (file_of 0 i).kind) + (offset + length bytes - length (bytes_in (file_of 0 i).kind)) =
    ap (λ (f : File). length (bytes_in f.kind)) file ∙ ap length (overwritten_bytes (file_of 0 i).kind offset bytes regular) ∙ length_put (bytes_in (file_of 0 i).kind) bytes offset in
    record {
      was = takes.file;
      at_was = takes.at_file;
      value = w;
      from = subst (λ (i : StoredFile). Writes offset bytes growth now i w) s (record { file = file; nlink = nlink; index = index ∙ ap (λ (f : File). f.volume) file; grown = omega (arith, grown, long) });
      new_is = refl;
    }
