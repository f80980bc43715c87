-- Paths of names: read as these names, and found in a directory's entries.
use Rattle.std.proofs.Common.{◌≡◌, ◌≢◌, ℕ, ◌≤◌, Bool, true, false, cond, ◌&&◌, List, [], ◌∷◌, ◌++◌, length, map, nat_eq, Some, None, Ok, refl, sym, ap, ◌∙◌, ◌==◌}
use Rattle.std.proofs.Common.{append-nil, arith}
use Rattle.std.specs.List.{flat_map, list_all, onto_first}
use Rattle.std.specs.Prelude.{◌||◌, All, bytes_eq, codes, nat_le, nat_lt, not, if◌then◌else◌}
use Rattle.std.proofs.lemmas.Bool.Decides.{nat_tests}
use Rattle.std.proofs.lemmas.List.Concat.{flat_map-append}
use Rattle.std.proofs.lemmas.List.Elements.{All-cons, All-head, All-nil, All-tail}
use Rattle.std.proofs.lemmas.Slice.Eq.{bytes_eq-Decides}
use Rattle.nfs_text.specs.Chunks.{chunks}
use Rattle.nfs_inodes.specs.Law.{IsName}
use Rattle.nfs_inodes.proofs.Lists.{by_test}
use Rattle.hex.specs.Hex.{IsBytes}
use Rattle.nfs_inodes.specs.Reading.{path_at, path_of}
use Rattle.nfs_inodes.specs.Tree.{Tree, File, Link, at, on_some}
use Rattle.nfs_load.specs.Fields.{target_in, target_or_cause}
use Rattle.nfs_load.specs.Names.{at_most, has_percent, is_name, is_name_byte, is_plain, name_text, names_in, unescaped}
use Rattle.nfs_load.specs.Paths.{path_in, path_or_cause}
use Rattle.nfs_load.specs.declared.name_form.NameForm.{NameForm}
use Rattle.nfs_load.specs.declared.name_form.NameForm.TheVariants.{Plain, Percent}
use Rattle.nfs_load.proofs.Names.{bytes_append, bytes_cons, bytes_none, chunks_name_text, name_text_shown, names_read_percent, names_read_plain, unescaped_name_text}
use Rattle.nfs_describe.specs.Lines.{is_shown, is_target, path_text, target_text}
use Rattle.nfs_describe.specs.Places.{FilePath, is_plain_path, is_plain_place}
use Rattle.nfs_inodes.proofs.Maps.{apart_number}
use Rattle.nfs_read_back.specs.ReadBack.{is_said}
use Rattle.nfs_round_trip.proofs.Truths.{and_true, both, some, upto}

-- ---- names

pub same_bytes : (xs ys : List ℕ) → bytes_eq xs ys ≡ true → xs ≡ ys
same_bytes xs ys e = (bytes_eq-Decides xs ys).0 e

pub itself_bytes : (xs : List ℕ) → bytes_eq xs xs ≡ true
itself_bytes xs = (bytes_eq-Decides xs xs).1 refl

pub other_bytes : (xs ys : List ℕ) → xs ≢ ys → bytes_eq xs ys ≡ false
other_bytes xs ys o = by_test (bytes_eq xs ys) (λ y. absurd (o (same_bytes xs ys y))) (λ n. n)

no_percent : (name : List ℕ) → list_all is_plain name ≡ true → has_percent name ≡ false
no_percent [] plain = refl
no_percent (x ∷ name) plain = let p = both (is_plain x) (list_all is_plain name) plain in
    or_false (nat_eq x 37) (has_percent name) (plain_byte x p.0) (no_percent name p.1)
  where
    plain_byte : (x : ℕ) → is_plain x ≡ true → nat_eq x 37 ≡ false
    plain_byte x e = grind (arith, nat_tests)

    or_false : (a b : Bool) → a ≡ false → b ≡ false → (a || b) ≡ false
    or_false true b one two = one
    or_false false b one two = two

name_bytes : (name : List ℕ) → All (λ byte. (byte ≢ 0) × (byte ≢ 47)) name → list_all is_name_byte name ≡ true
name_bytes [] all = refl
name_bytes (x ∷ name) all = and_true (is_name_byte x) (list_all is_name_byte name) (byte_is x (All-head (λ byte. (byte ≢ 0) × (byte ≢ 47)) x name all))
    (name_bytes name (All-tail (λ byte. (byte ≢ 0) × (byte ≢ 47)) x name all))
  where
    byte_is : (x : ℕ) → (x ≢ 0) × (x ≢ 47) → is_name_byte x ≡ true
    byte_is x o = and_true (not (nat_eq x 0)) (not (nat_eq x 47)) (ap not (apart_number x 0 o.0)) (ap not (apart_number x 47 o.1))

pub name_is : (name : List ℕ) → IsName name → is_name name ≡ true
name_is name is =
    and_true (nat_lt 0 (length name) && nat_le (length name) 255) _
    (and_true (nat_lt 0 (length name)) (nat_le (length name) 255) (some (length name) (let l = is.some in omega (arith, l))) (upto (length name) 255 is.few))
    (and_true (not (bytes_eq name (codes ".")) && not (bytes_eq name (codes ".."))) (list_all is_name_byte name)
    (and_true (not (bytes_eq name (codes "."))) (not (bytes_eq name (codes ".."))) (ap not (other_bytes name (codes ".") is.no_dot))
    (ap not (other_bytes name (codes "..") is.no_dot_dot)))
    (name_bytes name is.bytes))

-- ---- a path

-- names with a slash before each
abbrev pub slashed : List (List ℕ) → List ℕ
slashed names = flat_map (λ name. 47 ∷ name) names

pub slashed_push : (names : List (List ℕ)) (name : List ℕ) → slashed (names ++ name ∷ []) ≡ slashed names ++ 47 ∷ name
slashed_push names name = flat_map-append (λ name. 47 ∷ name) names (name ∷ []) ∙ ap (λ l. slashed names ++ 47 ∷ l) (append-nil name)

-- a name of bytes
abbrev pub IsByteName : List ℕ → Type 0
IsByteName name = IsName name × IsBytes name

abbrev pub AreNames : List (List ℕ) → Type 0
AreNames [] = Unit {0}
AreNames (name ∷ names) = IsByteName name × AreNames names

pub names_push : (names : List (List ℕ)) (name : List ℕ) → AreNames names → IsByteName name → AreNames (names ++ name ∷ [])
names_push [] name are is = (is, tt)
names_push (first ∷ names) name are is = (are.0, names_push names name are.1 is)

no_slash : (x : ℕ) → (x ≢ 0) × (x ≢ 47) → (x == 47) ≡ false
no_slash x o = by_test (x == 47) (λ e. absurd (o.1 (grind (arith, nat_tests)))) (λ n. n)

cut_name : (name rest : List ℕ) → All (λ byte. (byte ≢ 0) × (byte ≢ 47)) name → chunks 47 (name ++ 47 ∷ rest) ≡ name ∷ chunks 47 rest
cut_name [] rest all = refl
cut_name (x ∷ name) rest all =
    ap (λ b. cond b ([] ∷ chunks 47 (name ++ 47 ∷ rest)) (onto_first x (chunks 47 (name ++ 47 ∷ rest))))
    (no_slash x (All-head (λ byte. (byte ≢ 0) × (byte ≢ 47)) x name all))
    ∙ ap (onto_first x) (cut_name name rest (All-tail (λ byte. (byte ≢ 0) × (byte ≢ 47)) x name all))

last_name : (name : List ℕ) → All (λ byte. (byte ≢ 0) × (byte ≢ 47)) name → chunks 47 name ≡ name ∷ []
last_name [] all = refl
last_name (x ∷ name) all =
    ap (λ b. cond b ([] ∷ chunks 47 name) (onto_first x (chunks 47 name))) (no_slash x (All-head (λ byte. (byte ≢ 0) × (byte ≢ 47)) x name all))
    ∙ ap (onto_first x) (last_name name (All-tail (λ byte. (byte ≢ 0) × (byte ≢ 47)) x name all))

names_cut : (name : List ℕ) (names : List (List ℕ)) → AreNames (name ∷ names) → chunks 47 (name ++ slashed names) ≡ name ∷ names
names_cut name [] are = ap (chunks 47) (append-nil name) ∙ last_name name are.0.0.bytes
names_cut name (next ∷ names) are = cut_name name (next ++ slashed names) are.0.0.bytes ∙ ap (λ l. name ∷ l) (names_cut next names are.1)

plain_parts : (xs ys : List ℕ) → list_all is_plain (xs ++ ys) ≡ true → (list_all is_plain xs ≡ true) × (list_all is_plain ys ≡ true)
plain_parts [] ys e = (refl, e)
plain_parts (x ∷ xs) ys e = let p = both (is_plain x) (list_all is_plain (xs ++ ys)) e in let rest = plain_parts xs ys p.1 in
    (and_true (is_plain x) (list_all is_plain xs) p.0 rest.0, rest.1)

-- ---- names that are read

names_are : (names : List (List ℕ)) → AreNames names → list_all is_name names ≡ true
names_are [] are = refl
names_are (name ∷ names) are = and_true (is_name name) (list_all is_name names) (name_is name are.0.0) (names_are names are.1)

names_bytes : (names : List (List ℕ)) → AreNames names → All IsBytes names
names_bytes [] are = All-nil IsBytes
names_bytes (name ∷ names) are = All-cons IsBytes name names are.0.1 (names_bytes names are.1)

none_percent : (names : List (List ℕ)) → list_all is_plain (slashed names) ≡ true → list_all (λ name. not (has_percent name)) names ≡ true
none_percent [] plain = refl
none_percent (name ∷ names) plain =
    let p = plain_parts name (slashed names) (both (is_plain 47) (list_all is_plain (name ++ slashed names)) plain).1 in
    and_true (not (has_percent name)) (list_all (λ name. not (has_percent name)) names) (ap not (no_percent name p.0)) (none_percent names p.1)

-- ---- a path that is written

-- where names stand as they are, a path can
abbrev pub PathHeld : NameForm → List ℕ → Type 0
PathHeld Plain path = is_plain_path path ≡ true
PathHeld Percent path = Unit {0}

bytes_slashed : (names : List (List ℕ)) → AreNames names → IsBytes (slashed names)
bytes_slashed [] are = bytes_none
bytes_slashed (name ∷ names) are = bytes_append (47 ∷ name) (slashed names) (bytes_cons 47 name (omega arith) are.0.1) (bytes_slashed names are.1)

-- it is read as its names
pub path_read : (form : NameForm) (name : List ℕ) (names : List (List ℕ)) → AreNames (name ∷ names) → PathHeld form (slashed (name ∷ names))
    → path_in form (path_text form (slashed (name ∷ names))) ≡ Ok (name ∷ names)
path_read Plain name names are held =
    let b = both (nat_le (length (slashed (name ∷ names))) 1024) (list_all is_plain (slashed (name ∷ names))) held in
    ap (λ short. path_or_cause (if short then names_in Plain (chunks 47 (name ++ slashed names)) else None)) b.0
    ∙ ap (λ l. path_or_cause (names_in Plain l)) (names_cut name names are)
    ∙ ap path_or_cause (names_read_plain (name ∷ names) (none_percent (name ∷ names) b.1) (names_are (name ∷ names) are))
path_read Percent name names are held =
    let bytes = bytes_append name (slashed names) are.0.1 (bytes_slashed names are.1) in
    ap (λ l. path_or_cause (names_in Percent l)) (chunks_name_text (name ++ slashed names) bytes ∙ ap (map name_text) (names_cut name names are))
    ∙ ap path_or_cause (names_read_percent (name ∷ names) (names_bytes (name ∷ names) are) (names_are (name ∷ names) are))

-- and it is a word
shown_byte : (x : ℕ) → is_plain x ≡ true → is_shown x ≡ true
shown_byte x e = grind (arith, nat_tests)

all_shown : (xs : List ℕ) → list_all is_plain xs ≡ true → list_all is_shown xs ≡ true
all_shown [] e = refl
all_shown (x ∷ xs) e = let p = both (is_plain x) (list_all is_plain xs) e in and_true (is_shown x) (list_all is_shown xs) (shown_byte x p.0) (all_shown xs p.1)

one_word : (x : ℕ) (xs : List ℕ) → list_all is_shown (x ∷ xs) ≡ true → is_said (x ∷ xs) ≡ true
one_word x xs e = and_true (nat_lt 0 (length (x ∷ xs))) (list_all is_shown (x ∷ xs)) (some (length (x ∷ xs)) (omega arith)) e

pub path_said : (form : NameForm) (name : List ℕ) (names : List (List ℕ)) → AreNames (name ∷ names) → PathHeld form (slashed (name ∷ names))
    → is_said (path_text form (slashed (name ∷ names))) ≡ true
path_said Plain name names are held =
    let b = both (nat_le (length (slashed (name ∷ names))) 1024) (list_all is_plain (slashed (name ∷ names))) held in
    one_word 47 (name ++ slashed names) (all_shown (slashed (name ∷ names)) b.1)
path_said Percent name names are held = one_word 47 (name_text (name ++ slashed names)) (name_text_shown (slashed (name ∷ names)) (bytes_slashed (name ∷ names) are))

-- ---- a place

-- where names stand as they are, a place can
abbrev pub PlaceHeld : NameForm → Tree → FilePath → Type 0
PlaceHeld Plain t p = is_plain_place t p ≡ true
PlaceHeld Percent t p = Unit {0}

pub path_held : (form : NameForm) (t : Tree) (p : FilePath) → PlaceHeld form t p → PathHeld form p.path
path_held Plain t p held = (both (is_plain_path p.path) (on_some (path_at t p.number) true is_target) held).0
path_held Percent t p held = tt

-- what a link holds is a word, which says that
abbrev pub IsTargetWord : NameForm → ℕ → List ℕ → Type 0
IsTargetWord form most target = (target_in form most (target_text form target) ≡ Ok target) × (is_said (target_text form target) ≡ true)

few_enough : (most : ℕ) (target : List ℕ) → length target ≤ most → target_or_cause (at_most most (Some target)) ≡ Ok target
few_enough most target few = ap (λ b. target_or_cause (if b then Some target else None)) (upto (length target) most few)

escaped_word : (most : ℕ) (target : List ℕ) → IsBytes target → length target ≤ most → IsTargetWord Percent most target
unfolding unescaped
escaped_word most [] bytes few = (few_enough most [] few, refl)
escaped_word most (x ∷ target) bytes few =
    let back = unescaped_name_text (x ∷ target) bytes in
    let other : name_text (x ∷ target) ≢ codes "%" = λ e. lone (sym (ap unescaped e) ∙ back) in (
      ap (λ b. target_or_cause (at_most most (if b then Some [] else unescaped (name_text (x ∷ target))))) (other_bytes (name_text (x ∷ target)) (codes "%") other)
          ∙ ap (λ o. target_or_cause (at_most most o)) back ∙ few_enough most (x ∷ target) few,
      and_true (nat_lt 0 (length (name_text (x ∷ target)))) (list_all is_shown (name_text (x ∷ target))) (long (name_text (x ∷ target)) (λ e. none (sym (ap unescaped e) ∙ back)))
          (name_text_shown (x ∷ target) bytes),
    )
  where
    lone : unescaped (37 ∷ []) ≡ Some (x ∷ target) → ⊥
    lone e = cc

    none : unescaped [] ≡ Some (x ∷ target) → ⊥
    none e = cc

    long : (xs : List ℕ) → xs ≢ [] → nat_lt 0 (length xs) ≡ true
    long [] o = absurd (o refl)
    long (y ∷ xs) o = some (length (y ∷ xs)) (omega arith)

pub target_word : (form : NameForm) (t : Tree) (p : FilePath) (f : File) (most : ℕ) (target : List ℕ) → PlaceHeld form t p → at p.number t.files ≡ Some f
    → f.kind ≡ Link target → IsBytes target → length target ≤ most → IsTargetWord form most target
target_word Percent t p f most target held lives is bytes few = escaped_word most target bytes few
target_word Plain t p f most target held lives is bytes few =
    let holds = (both (is_plain_path p.path) (on_some (path_at t p.number) true is_target) held).1 in
    let at_link : path_at t p.number ≡ Some target = ap (λ o. on_some o None (λ (g : File). path_of g.kind)) lives ∙ ap path_of is in
    let said : is_target target ≡ true = sym (ap (λ o. on_some o true is_target) at_link) ∙ holds in
    let b = both (nat_lt 0 (length target) && nat_le (length target) 4095) (list_all is_shown target) said in
    let c = both (nat_lt 0 (length target)) (nat_le (length target) 4095) b.0 in
    (few_enough most target few, and_true (nat_lt 0 (length target)) (list_all is_shown target) c.0 b.1)
