-- What a description loads can be described.
use Rattle.std.proofs.Common.{inl, inr, ◌≡◌, ℕ, ◌<◌, ◌^◌, true, false, cond, List, [], ◌∷◌, ◌++◌, length, Option, Some, None, Ok, refl, sym, ap, subst, ◌∙◌}
use Rattle.std.proofs.Common.{◌==◌, arith}
use Rattle.std.specs.List.{filter, list_all, onto_first}
use Rattle.std.proofs.lemmas.List.Elements.{Contains-append_cases}
use Rattle.std.specs.Prelude.{Contains, Err, Result, if◌then◌else◌, nat_lt}
use Rattle.std.proofs.lemmas.Bool.Decides.{nat_tests}
use Rattle.hex.specs.Hex.{IsBytes}
use Rattle.nfs_attrs.specs.declared.moment.Moment.{Moment}
use Rattle.nfs_text.specs.Chunks.{chunks}
use Rattle.nfs_text.specs.Words.{is_word, words}
use Rattle.nfs_inodes.specs.declared.given_attributes.GivenAttributes.{GivenAttributes}
use Rattle.nfs_inodes.specs.declared.new_file.NewFile.{NewFile}
use Rattle.nfs_inodes.specs.Changes.{after_add_volume, after_link, after_mkdir, after_make_file, after_make_link, entered, kind_with_entry, new_file}
use Rattle.nfs_inodes.specs.Changes.{after_set, or_else, touched, with_entry, with_file, with_given, with_named_file, with_new_file}
use Rattle.nfs_inodes.specs.Conditions.{MayAddVolume, MayLink, MayMake, MayMakeDirectory, MayMakeLink}
use Rattle.nfs_inodes.specs.Law.{Law, Lives}
use Rattle.nfs_inodes.specs.Tree.{Tree, File, Kind, Entry, Regular, Directory, Link, at, on_some}
use Rattle.nfs_inodes.proofs.Lists.{by_test, head_or_tail, not_in_empty, same_some}
use Rattle.nfs_inodes.proofs.Maps.{at_next, push_back, with_back}
use Rattle.nfs_inodes.proofs.law.NewFiles.{law_after_add_volume, law_after_mkdir, law_after_make_file, law_after_make_link}
use Rattle.nfs_inodes.proofs.law.Operations.{law_after_link}
use Rattle.nfs_inodes.proofs.law.Settings.{law_after_set, set_is}
use Rattle.nfs_load.specs.Effects.{attributes, link_attributes, start}
use Rattle.nfs_load.specs.Lines.{Line, counted, is_comment, is_printable, is_text, keyword_named, shape, shape_of, takes}
use Rattle.nfs_load.specs.Moments.{IsTime}
use Rattle.nfs_load.specs.declared.cause.Cause.{Cause}
use Rattle.nfs_load.specs.declared.cause.Cause.TheVariants.{BadByte, FieldCount}
use Rattle.nfs_load.specs.declared.line.Keyword.{Keyword}
use Rattle.nfs_load.specs.declared.statement.Given.{Given}
use Rattle.nfs_describe.specs.Lines.{is_shown}
use Rattle.nfs_read_back.specs.ReadBack.{is_said}
use Rattle.nfs_round_trip.specs.Changes.{IsGivenSaid, IsNewSaid}
use Rattle.nfs_round_trip.specs.Copies.{CanBeSaid, HoldsBytes}
use Rattle.nfs_round_trip.proofs.Runs as runs
use Rattle.nfs_round_trip.proofs.Runs.{same_ok}
use Rattle.nfs_round_trip.proofs.Truths.{and_true, both}

-- ---- the words of a line

shown_byte : (x : ℕ) → is_printable x ≡ true → (x == 32) ≡ false → is_shown x ≡ true
shown_byte x e o = grind (arith, nat_tests)

abbrev EachShown : List (List ℕ) → Type 0
EachShown [] = Unit {0}
EachShown (w ∷ ws) = (list_all is_shown w ≡ true) × EachShown ws

each_onto : (x : ℕ) (ws : List (List ℕ)) → is_shown x ≡ true → EachShown ws → EachShown (onto_first x ws)
each_onto x [] e each = (and_true (is_shown x) true e refl, tt)
each_onto x (w ∷ ws) e each = (and_true (is_shown x) (list_all is_shown w) e each.0, each.1)

each_chunk : (line : List ℕ) → is_text line ≡ true → EachShown (chunks 32 line)
each_chunk [] e = (refl, tt)
each_chunk (x ∷ line) e =
    let p = both (is_printable x) (list_all is_printable line) e in
    let rest = each_chunk line p.1 in
    by_test (x == 32)
    (λ y. subst EachShown (sym (ap (λ b. cond b ([] ∷ chunks 32 line) (onto_first x (chunks 32 line))) y)) (refl, rest))
    (λ o. subst EachShown (sym (ap (λ b. cond b ([] ∷ chunks 32 line) (onto_first x (chunks 32 line))) o))
    (each_onto x (chunks 32 line) (shown_byte x p.0 o) rest))

-- words of bytes from `!` to `~`
abbrev pub AllSaid : List (List ℕ) → Type 0
AllSaid [] = Unit {0}
AllSaid (w ∷ ws) = (is_said w ≡ true) × AllSaid ws

all_words : (ws : List (List ℕ)) → EachShown ws → AllSaid (filter is_word ws)
all_words [] each = tt
all_words (w ∷ ws) each = by_test (is_word w)
    (λ y. subst AllSaid (sym (ap (λ b. cond b (w ∷ filter is_word ws) (filter is_word ws)) y))
    (and_true (nat_lt 0 (length w)) (list_all is_shown w) y each.0, all_words ws each.1))
    (λ o. subst AllSaid (sym (ap (λ b. cond b (w ∷ filter is_word ws) (filter is_word ws)) o)) (all_words ws each.1))

-- the fields of a line are words
pub fields_said : (line : List ℕ) (l : Line) → shape line ≡ Ok (Some l) → AllSaid l.fields
fields_said line l e = by_test (is_comment line)
    (λ y. absurd (none_some (shape line) (ap (λ b. if b then Ok None else shape_of line (words line)) y) e))
    (λ o. of (words line) refl (sym (ap (λ b. if b then Ok None else shape_of line (words line)) o) ∙ e))
  where
    none_some : (r : Result (Option Line) Cause) → r ≡ Ok None → r ≡ Ok (Some l) → ⊥
    none_some r one two = cc

    some_of : (k : Option Keyword) (fields : List (List ℕ)) → AllSaid fields → counted k fields ≡ Ok (Some l) → AllSaid l.fields
    some_of None fields said e = cc
    some_of (Some k) fields said e = by_test (takes k (length fields))
        (λ y. subst (λ (x : Line). AllSaid x.fields)
        (same_some (same_ok (counted (Some k) fields) (Some (record { keyword = k; fields = fields })) (Some l)
        (ap (λ b. if b then Ok (Some (record { keyword = k; fields = fields })) else Err FieldCount) y) e)) said)
        (λ o. absurd (runs.not_both (counted (Some k) fields)
        (Some l) FieldCount e (ap (λ b. if b then Ok (Some (record { keyword = k; fields = fields })) else Err FieldCount) o)))

    of : (ws : List (List ℕ)) → words line ≡ ws → shape_of line ws ≡ Ok (Some l) → AllSaid l.fields
    of [] is e = absurd (none_some (shape_of line []) refl e)
    of (w ∷ fields) is e = by_test (is_text line)
        (λ y.
        let said : AllSaid (w ∷ fields) = subst AllSaid is (all_words (chunks 32 line) (each_chunk line y)) in
        some_of (keyword_named w) fields said.1 (sym (ap (λ b. if b then counted (keyword_named w) fields else Err BadByte) y) ∙ e))
        (λ o. absurd (runs.not_both (shape_of line (w ∷ fields)) (Some l) BadByte e (ap (λ b. if b then counted (keyword_named w) fields else Err BadByte) o)))

-- ---- files that can be said

abbrev pub FilesSaid : Tree → Type 0
FilesSaid u = (n : ℕ) (f : File) → Lives u n f → CanBeSaid f

said_with : (u : Tree) (d : ℕ) (h g : File) → Lives u d h → CanBeSaid g → FilesSaid u → FilesSaid (with_file u d g)
said_with u d h g lives said all n f is = with_back d n h g f u.files lives is (λ s e. subst CanBeSaid e said) (λ o was. all n f was)

pub start_time : IsTime start
start_time = (omega arith, omega arith)

pub entered_said : (f : File) (name : List ℕ) (n : ℕ) (now : Moment) → IsTime now → IsBytes name → CanBeSaid f → CanBeSaid (entered f name n now)
entered_said f name n now time bytes said = record {
  uid = said.uid;
  gid = said.gid;
  atime = said.atime;
  mtime = time;
  ctime = time;
  holds = more f.kind said.holds;
}
  where
    more : (k : Kind) → HoldsBytes k → HoldsBytes (kind_with_entry k name n)
    more (Regular content) holds = holds
    more (Directory parent next_cookie entries) holds = λ e c.
        elim (Contains-append_cases entries (record { cookie = next_cookie; name = name; number = n } ∷ []) e c) [
          | inl was ↦ holds e was
          | inr new ↦ elim (head_or_tail (record { cookie = next_cookie; name = name; number = n }) e [] new) [
            | inl is ↦ subst (λ (x : Entry). IsBytes x.name) is bytes
            | inr none ↦ absurd (not_in_empty [] e refl none)
          ]
        ]
    more (Link path) holds = holds

pub touched_said : (f : File) (now : Moment) → IsTime now → CanBeSaid f → CanBeSaid (record f { ctime = now })
touched_said f now time said = record {
  uid = said.uid;
  gid = said.gid;
  atime = said.atime;
  mtime = said.mtime;
  ctime = time;
  holds = said.holds;
}

or_said : {X : Type 0} (Is : X → Type 0) (o : Option X) (was : X) → ((x : X) → o ≡ Some x → Is x) → Is was → Is (or_else o was)
or_said Is None was each old = old
or_said Is (Some x) was each old = each x refl

pub given_said : (f : File) (given : GivenAttributes) (now : Moment) → IsGivenSaid given → IsTime now → CanBeSaid f → CanBeSaid (with_given f given now)
given_said f given now is time said = record {
  uid = or_said (λ n. n < 2 ^ 32) given.uid f.uid is.uid said.uid;
  gid = or_said (λ n. n < 2 ^ 32) given.gid f.gid is.gid said.gid;
  atime = or_said IsTime given.atime f.atime is.atime said.atime;
  mtime = or_said IsTime given.mtime f.mtime is.mtime said.mtime;
  ctime = time;
  holds = said.holds;
}

said_entry : (u : Tree) (d : ℕ) (name : List ℕ) (n : ℕ) → IsBytes name → FilesSaid u → FilesSaid (with_entry u d name n start)
said_entry u d name n bytes all = of (at d u.files) refl
  where
    of : (o : Option File) → at d u.files ≡ o → FilesSaid (on_some o u (λ f. with_file u d (entered f name n start)))
    of None e = all
    of (Some h) e = said_with u d h (entered h name n start) e (entered_said h name n start start_time bytes (all d h e)) all

said_touched : (u : Tree) (n : ℕ) → FilesSaid u → FilesSaid (touched u n start)
said_touched u n all = of (at n u.files) refl
  where
    of : (o : Option File) → at n u.files ≡ o → FilesSaid (on_some o u (λ f. with_file u n (record f { ctime = start })))
    of None e = all
    of (Some h) e = said_with u n h (record h { ctime = start }) e (touched_said h start start_time (all n h e)) all

said_push : (u : Tree) (f : File) → Law u → CanBeSaid f → FilesSaid u → (n : ℕ) (g : File) → at n (u.files ++ (u.next, f) ∷ []) ≡ Some g → CanBeSaid g
said_push u f law said all n g is = push_back u.next n f g u.files (at_next 0 u.next u.files law.rising) is (λ s e. subst CanBeSaid e said)
    (λ o was. all n g was)

said_named : (u : Tree) (d : ℕ) (name : List ℕ) (f : File) → Law u → IsBytes name → CanBeSaid f → FilesSaid u → FilesSaid (with_named_file u d name f start)
said_named u d name f law bytes said all = said_entry (with_new_file u f) d name u.next bytes (said_push u f law said all)

pub new_said : (volume : ℕ) (k : Kind) (given : NewFile) (verifier : Option (List ℕ)) (tag : ℕ) (now : Moment) → IsNewSaid given → IsTime now → HoldsBytes k
    → CanBeSaid (new_file volume k given verifier tag now)
new_said volume k given verifier tag now is time holds = record {
  uid = is.uid;
  gid = is.gid;
  atime = is.atime;
  mtime = is.mtime;
  ctime = time;
  holds = holds;
}

attributes_said : (given : Given) → (given.uid < 2 ^ 32) × (given.gid < 2 ^ 32) → IsNewSaid (attributes given)
attributes_said given ids = record { uid = ids.0; gid = ids.1; atime = start_time; mtime = start_time }

pub no_entries : (e : Entry) → Contains [] e → IsBytes e.name
no_entries e c = absurd (not_in_empty [] e refl c)

-- what makes a tree keeps its law and that its files can be said
abbrev pub IsKept : Tree → Type 0
IsKept u = Law u × FilesSaid u

pub kept_dir : (u : Tree) (d tag : ℕ) (name : List ℕ) (given : Given) → MayMakeDirectory u d name → tag < 2 ^ 32 → (given.uid < 2 ^ 32) × (given.gid < 2 ^ 32)
    → IsBytes name → IsKept u
    → IsKept (after_mkdir u d name (attributes given) tag start)
kept_dir u d tag name given may fits ids bytes kept = (
  law_after_mkdir u d tag name (attributes given) start may fits kept.0,
  said_named u d name _ kept.0 bytes (new_said _ (Directory d 3 []) (attributes given) None tag start (attributes_said given ids) start_time no_entries) kept.1,
)

pub kept_file : (u : Tree) (d tag : ℕ) (name content : List ℕ) (given : Given) → MayMake u d name (length content) → tag < 2 ^ 32 → (given.uid < 2 ^ 32)
    × (given.gid < 2 ^ 32) → IsBytes name → IsBytes content → IsKept u
    → IsKept (after_make_file u d name content (attributes given) None tag start)
kept_file u d tag name content given may fits ids bytes all kept = (
  law_after_make_file u d tag name content (attributes given) None start may fits kept.0,
  said_named u d name _ kept.0 bytes (new_said _ (Regular content) (attributes given) None tag start (attributes_said given ids) start_time all) kept.1,
)

pub kept_link : (u : Tree) (d tag : ℕ) (name target : List ℕ) (uid gid : ℕ) → MayMakeLink u d name target → tag < 2 ^ 32 → uid < 2 ^ 32 → gid < 2 ^ 32
    → IsBytes name → IsBytes target → IsKept u
    → IsKept (after_make_link u d name target (link_attributes uid gid) tag start)
kept_link u d tag name target uid gid may fits owner group bytes holds kept = (
  law_after_make_link u d tag name target (link_attributes uid gid) start may fits kept.0,
  said_named u d name _ kept.0 bytes (new_said _ (Link target) (link_attributes uid gid) None tag start
      (attributes_said (record { mode = 511; uid = uid; gid = gid }) (owner, group)) start_time holds) kept.1,
)

pub kept_name : (u : Tree) (n d : ℕ) (name : List ℕ) → MayLink u n d name → IsBytes name → IsKept u → IsKept (after_link u n d name start)
kept_name u n d name may bytes kept = (law_after_link u n d name start may kept.0, said_entry (touched u n start) d name n bytes (said_touched u n kept.1))

pub kept_volume : (u : Tree) (path : List ℕ) (max_bytes max_files tag : ℕ) (given : Given) → MayAddVolume u path max_bytes max_files → tag < 2 ^ 32
    → (given.uid < 2 ^ 32) × (given.gid < 2 ^ 32) → IsKept u
    → IsKept (after_add_volume u path max_bytes max_files (attributes given) tag start)
kept_volume u path max_bytes max_files tag given may fits ids kept = (
  law_after_add_volume u max_bytes max_files tag path (attributes given) start may fits kept.0,
  said_push u _ kept.0 (new_said _ (Directory u.next 3 []) (attributes given) None tag start (attributes_said given ids) start_time no_entries) kept.1,
)

pub kept_times : (u : Tree) (n : ℕ) (given : GivenAttributes) (now : Moment) (f : File) → Lives u n f → IsGivenSaid given → IsTime now → IsKept u
    → IsKept (after_set u n given now)
kept_times u n given now f lives is time kept = (
  law_after_set u n given now f lives kept.0,
  subst FilesSaid (sym (set_is u n given now f lives))
      (said_with u n f (with_given f given now) lives (given_said f given now is time (kept.1 n f lives)) kept.1),
)
