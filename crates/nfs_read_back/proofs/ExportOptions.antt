-- Options of exports, as they are written and read.
use Rattle.std.proofs.Common.{◌≡◌, ℕ, ◌<◌, ◌^◌, Bool, true, false, nat_eq, List, [], ◌∷◌, ◌++◌, length, Option, Some, None, Ok, refl, sym, ap, ◌∙◌, append_assoc, append-nil, arith}
use Rattle.std.specs.List.{list_all}
use Rattle.std.specs.Prelude.{Result, codes, decimal, nat_lt, if◌then◌else◌}
use Rattle.std.specs.Option.{ok_or, unwrap_or}
use Rattle.std.proofs.lemmas.Bool.Decides.{nat_tests}
use Rattle.std.proofs.lemmas.List.{length-append}
use Rattle.std.proofs.lemmas.Fmt.{decimal_is_IsNumeral}
use Rattle.nfs_text.specs.Chunks.{chunks}
use Rattle.nfs_exports.specs.Settings.{nothing, options_of, parse_options, squash_of, with_setting, with_words}
use Rattle.nfs_exports.specs.Words.{◌>>=◌}
use Rattle.nfs_exports.specs.declared.options.Options.{Options}
use Rattle.nfs_exports.specs.declared.options.OptionsFault.{OptionsFault}
use Rattle.nfs_exports.specs.declared.options.OptionsFault.TheVariants.{BadNumber}
use Rattle.nfs_exports.specs.declared.options.Squash.{Squash}
use Rattle.nfs_exports.specs.declared.options.Squash.TheVariants.{No, Root, All}
use Rattle.nfs_exports.specs.declared.setting.Setting.{Setting}
use Rattle.nfs_exports.specs.declared.setting.Setting.TheVariants.{AnonUid, AnonGid}
use Rattle.nfs_exports.specs.declared.settings.Settings.{Settings}
use Rattle.nfs_describe.specs.Lines.{anonymous_text, is_shown, options_text, squash_text}
use Rattle.nfs_read_back.specs.ReadBack.{is_said}
use Rattle.nfs_read_back.proofs.Digits.{decimal_of_decimal, decimal_said}
use Rattle.nfs_read_back.proofs.Patterns.{said_of}
use Rattle.nfs_read_back.proofs.Words.{both}
use Rattle.nfs_read_back.proofs.Separators.{append_free, append_shown, digits_free, is_free, last_chunk, chunk_ends}

-- ---- words after the first

abbrev tail_of : List (List ℕ) → List ℕ
tail_of [] = []
tail_of (v ∷ vs) = 44 ∷ (v ++ tail_of vs)

abbrev AreFree : List (List ℕ) → Type 0
AreFree [] = Unit {0}
AreFree (v ∷ vs) = (is_free 44 v ≡ true) × AreFree vs

chunks_of : (w : List ℕ) (vs : List (List ℕ)) → is_free 44 w ≡ true → AreFree vs → chunks 44 (w ++ tail_of vs) ≡ w ∷ vs
chunks_of w [] free all = ap (chunks 44) (append-nil w) ∙ last_chunk 44 w free
chunks_of w (v ∷ vs) free all = chunk_ends 44 w (v ++ tail_of vs) free ∙ ap (λ l. w ∷ l) (chunks_of v vs all.0 all.1)

tail_append : (us vs : List (List ℕ)) → tail_of (us ++ vs) ≡ tail_of us ++ tail_of vs
tail_append [] vs = refl
tail_append (u ∷ us) vs = ap (λ l. 44 ∷ (u ++ l)) (tail_append us vs) ∙ ap (λ l. 44 ∷ l) (sym (append_assoc u (tail_of us) (tail_of vs)))

free_append : (us vs : List (List ℕ)) → AreFree us → AreFree vs → AreFree (us ++ vs)
free_append [] vs one two = two
free_append (u ∷ us) vs one two = (one.0, free_append us vs one.1 two)

-- ---- the words of options

abbrev first_word : Bool → List ℕ
first_word read_only = if read_only then codes "ro" else codes "rw"

abbrev squash_words : Squash → List (List ℕ)
squash_words No = codes "no_root_squash" ∷ []
squash_words Root = []
squash_words All = codes "all_squash" ∷ []

abbrev anonymous_words : List ℕ → ℕ → List (List ℕ)
anonymous_words name id = if nat_eq id 65534 then [] else (name ++ decimal id) ∷ []

squash_is : (s : Squash) → squash_text s ≡ tail_of (squash_words s)
squash_is No = refl
squash_is Root = refl
squash_is All = refl

anonymous_is : (name long : List ℕ) (id : ℕ) → ((ds : List ℕ) → long ++ ds ≡ 44 ∷ (name ++ ds)) → anonymous_text long id ≡ tail_of (anonymous_words name id)
anonymous_is name long id comma = by_test (nat_eq id 65534)
  where
    by_test : (b : Bool) → (if b then [] else long ++ decimal id) ≡ tail_of (if b then [] else (name ++ decimal id) ∷ [])
    by_test true = refl
    by_test false = comma (decimal id) ∙ ap (λ l. 44 ∷ (name ++ l)) (sym (append-nil (decimal id))) ∙ ap (λ l. 44 ∷ l) (sym (append_assoc name (decimal id) []))

squash_free : (s : Squash) → AreFree (squash_words s)
squash_free No = (refl, record {})
squash_free Root = record {}
squash_free All = (refl, record {})

anonymous_free : (name : List ℕ) (id : ℕ) → is_free 44 name ≡ true → id < 2 ^ 32 → AreFree (anonymous_words name id)
anonymous_free name id free small = by_test (nat_eq id 65534)
  where
    digits : is_free 44 (decimal id) ≡ true
    digits = digits_free 44 (decimal id) (omega arith) (decimal_is_IsNumeral id (omega (arith, small))).0.1

    by_test : (b : Bool) → AreFree (if b then [] else (name ++ decimal id) ∷ [])
    by_test true = record {}
    by_test false = (append_free 44 name (decimal id) free digits, record {})

first_free : (r : Bool) → is_free 44 (first_word r) ≡ true
first_free true = refl
first_free false = refl

-- ---- what they say

abbrev root_said : Squash → Option Bool
root_said No = Some false
root_said Root = None
root_said All = None

abbrev all_said : Squash → Option Bool
all_said No = None
all_said Root = None
all_said All = Some true

abbrev id_said : ℕ → Option ℕ
id_said id = if nat_eq id 65534 then None else Some id

first_says : (r : Bool) (rest : List (List ℕ)) → with_words nothing (first_word r ∷ rest) ≡ with_words (record { read_only = Some r; root_squash = None; all_squash = None; anonuid = None; anongid = None }) rest
first_says true rest = refl
first_says false rest = refl

squash_says : (r : Bool) (s : Squash) (rest : List (List ℕ)) → with_words (record { read_only = Some r; root_squash = None; all_squash = None; anonuid = None; anongid = None }) (squash_words s ++ rest)
    ≡ with_words (record { read_only = Some r; root_squash = root_said s; all_squash = all_said s; anonuid = None; anongid = None }) rest
squash_says r No rest = refl
squash_says r Root rest = refl
squash_says r All rest = refl

uid_says : (r root all : Option Bool) (id : ℕ) (rest : List (List ℕ)) → id < 2 ^ 32
    → with_words (record { read_only = r; root_squash = root; all_squash = all; anonuid = None; anongid = None }) (anonymous_words (codes "anonuid=") id ++ rest)
    ≡ with_words (record { read_only = r; root_squash = root; all_squash = all; anonuid = id_said id; anongid = None }) rest
uid_says r root all id rest small = by_test (nat_eq id 65534)
  where
    by_test : (b : Bool) → with_words (record { read_only = r; root_squash = root; all_squash = all; anonuid = None; anongid = None }) ((if b then [] else (codes "anonuid=" ++ decimal id) ∷ []) ++ rest)
        ≡ with_words (record { read_only = r; root_squash = root; all_squash = all; anonuid = if b then None else Some id; anongid = None }) rest
    by_test true = refl
    by_test false = ap (λ (o : Option ℕ). ((ok_or o BadNumber >>= (λ (id : ℕ). Ok (AnonUid id))) >>= (λ (setting : Setting).
        with_setting (record { read_only = r; root_squash = root; all_squash = all; anonuid = None; anongid = None }) setting >>= (λ (more : Settings). with_words more rest))))
        (decimal_of_decimal 4294967295 id (omega (arith, small)) (omega (arith, small)))

gid_says : (r root all : Option Bool) (uid : Option ℕ) (id : ℕ) → id < 2 ^ 32
    → with_words (record { read_only = r; root_squash = root; all_squash = all; anonuid = uid; anongid = None }) (anonymous_words (codes "anongid=") id)
    ≡ Ok (record { read_only = r; root_squash = root; all_squash = all; anonuid = uid; anongid = id_said id })
gid_says r root all uid id small = by_test (nat_eq id 65534)
  where
    by_test : (b : Bool) → with_words (record { read_only = r; root_squash = root; all_squash = all; anonuid = uid; anongid = None }) (if b then [] else (codes "anongid=" ++ decimal id) ∷ [])
        ≡ Ok (record { read_only = r; root_squash = root; all_squash = all; anonuid = uid; anongid = if b then None else Some id })
    by_test true = refl
    by_test false = ap (λ (o : Option ℕ). ((ok_or o BadNumber >>= (λ (id : ℕ). Ok (AnonGid id))) >>= (λ (setting : Setting).
        with_setting (record { read_only = r; root_squash = root; all_squash = all; anonuid = uid; anongid = None }) setting >>= (λ (more : Settings). with_words more []))))
        (decimal_of_decimal 4294967295 id (omega (arith, small)) (omega (arith, small)))

squash_back : (s : Squash) → squash_of (root_said s) (all_said s) ≡ s
squash_back No = refl
squash_back Root = refl
squash_back All = refl

id_back : (id : ℕ) → unwrap_or (id_said id) 65534 ≡ id
id_back id = by_test (nat_eq id 65534) (grind (arith, nat_tests))
  where
    by_test : (b : Bool) → (b ≡ true → id ≡ 65534) → unwrap_or (if b then None else Some id) 65534 ≡ id
    by_test true same = sym (same refl)
    by_test false same = refl

-- ---- the whole

abbrev words_after : Options → List (List ℕ)
words_after o = squash_words o.squash ++ (anonymous_words (codes "anonuid=") o.anonuid ++ anonymous_words (codes "anongid=") o.anongid)

joined : (a b c d : List ℕ) → a ++ b ++ c ++ d ≡ a ++ (b ++ (c ++ d))
joined a b c d = simp append_assoc

text_is : (o : Options) → options_text o ≡ first_word o.read_only ++ tail_of (words_after o)
text_is o =
    joined (first_word o.read_only) (squash_text o.squash) (anonymous_text (codes ",anonuid=") o.anonuid) (anonymous_text (codes ",anongid=") o.anongid)
    ∙ ap (λ l. first_word o.read_only ++ (l ++ (anonymous_text (codes ",anonuid=") o.anonuid ++ anonymous_text (codes ",anongid=") o.anongid))) (squash_is o.squash)
    ∙ ap (λ l. first_word o.read_only ++ (tail_of (squash_words o.squash) ++ (l ++ anonymous_text (codes ",anongid=") o.anongid))) (anonymous_is (codes "anonuid=") (codes ",anonuid=") o.anonuid (λ ds. refl))
    ∙ ap (λ l. first_word o.read_only ++ (tail_of (squash_words o.squash) ++ (tail_of (anonymous_words (codes "anonuid=") o.anonuid) ++ l))) (anonymous_is (codes "anongid=") (codes ",anongid=") o.anongid (λ ds. refl))
    ∙ ap (λ l. first_word o.read_only ++ (tail_of (squash_words o.squash) ++ l)) (sym (tail_append (anonymous_words (codes "anonuid=") o.anonuid) (anonymous_words (codes "anongid=") o.anongid)))
    ∙ ap (λ l. first_word o.read_only ++ l) (sym (tail_append (squash_words o.squash) (anonymous_words (codes "anonuid=") o.anonuid ++ anonymous_words (codes "anongid=") o.anongid)))

words_say : (o : Options) → o.anonuid < 2 ^ 32 → o.anongid < 2 ^ 32 → with_words nothing (first_word o.read_only ∷ words_after o)
    ≡ Ok (record { read_only = Some o.read_only; root_squash = root_said o.squash; all_squash = all_said o.squash; anonuid = id_said o.anonuid; anongid = id_said o.anongid })
words_say o uid gid =
    first_says o.read_only (words_after o)
    ∙ squash_says o.read_only o.squash (anonymous_words (codes "anonuid=") o.anonuid ++ anonymous_words (codes "anongid=") o.anongid)
    ∙ uid_says (Some o.read_only) (root_said o.squash) (all_said o.squash) o.anonuid (anonymous_words (codes "anongid=") o.anongid) uid
    ∙ gid_says (Some o.read_only) (root_said o.squash) (all_said o.squash) (id_said o.anonuid) o.anongid gid

all_back : (o : Options) → options_of (record { read_only = Some o.read_only; root_squash = root_said o.squash; all_squash = all_said o.squash; anonuid = id_said o.anonuid; anongid = id_said o.anongid }) ≡ o
all_back o =
    ap (λ (s : Squash). record { read_only = o.read_only; squash = s; anonuid = unwrap_or (id_said o.anonuid) 65534; anongid = unwrap_or (id_said o.anongid) 65534 }) (squash_back o.squash)
    ∙ ap (λ n. record { read_only = o.read_only; squash = o.squash; anonuid = n; anongid = unwrap_or (id_said o.anongid) 65534 }) (id_back o.anonuid)
    ∙ ap (λ n. record { read_only = o.read_only; squash = o.squash; anonuid = o.anonuid; anongid = n }) (id_back o.anongid)

pub options_read : (o : Options) → o.anonuid < 2 ^ 32 → o.anongid < 2 ^ 32 → parse_options (options_text o) ≡ Ok o
options_read o uid gid =
    let said = chunks_of (first_word o.read_only) (words_after o) (first_free o.read_only)
    (free_append (squash_words o.squash) _ (squash_free o.squash)
    (free_append (anonymous_words (codes "anonuid=") o.anonuid) _ (anonymous_free (codes "anonuid=") o.anonuid refl uid) (anonymous_free (codes "anongid=") o.anongid refl gid))) in
    ap (λ ws. with_words nothing ws >>= (λ (settings : Settings). Ok (options_of settings))) (ap (chunks 44) (text_is o) ∙ said)
    ∙ ap (λ (r : Result Settings OptionsFault). r >>= (λ (settings : Settings). Ok (options_of settings))) (words_say o uid gid)
    ∙ ap Ok (all_back o)

-- ---- a word

two_letters : (r : Bool) → length (first_word r) ≡ 2
two_letters true = refl
two_letters false = refl

letters_shown : (r : Bool) → list_all is_shown (first_word r) ≡ true
letters_shown true = refl
letters_shown false = refl

first_shown : (r : Bool) (rest : List ℕ) → list_all is_shown rest ≡ true → is_said (first_word r ++ rest) ≡ true
first_shown r rest shown = said_of (first_word r ++ rest) (omega (arith, length-append (first_word r) rest, two_letters r)) (append_shown (first_word r) rest (letters_shown r) shown)

squash_shown : (s : Squash) → list_all is_shown (squash_text s) ≡ true
squash_shown No = refl
squash_shown Root = refl
squash_shown All = refl

anonymous_shown : (name : List ℕ) (id : ℕ) → list_all is_shown name ≡ true → id < 2 ^ 32 → list_all is_shown (anonymous_text name id) ≡ true
anonymous_shown name id shown small = by_test (nat_eq id 65534)
  where
    digits : list_all is_shown (decimal id) ≡ true
    digits = (both (nat_lt 0 (length (decimal id))) (list_all is_shown (decimal id)) (decimal_said id (omega (arith, small)))).1

    by_test : (b : Bool) → list_all is_shown (if b then [] else name ++ decimal id) ≡ true
    by_test true = refl
    by_test false = append_shown name (decimal id) shown digits

pub options_said : (o : Options) → o.anonuid < 2 ^ 32 → o.anongid < 2 ^ 32 → is_said (options_text o) ≡ true
options_said o uid gid =
    ap is_said (joined (first_word o.read_only) (squash_text o.squash) (anonymous_text (codes ",anonuid=") o.anonuid) (anonymous_text (codes ",anongid=") o.anongid))
    ∙ first_shown o.read_only (squash_text o.squash ++ (anonymous_text (codes ",anonuid=") o.anonuid ++ anonymous_text (codes ",anongid=") o.anongid))
    (append_shown (squash_text o.squash) (anonymous_text (codes ",anonuid=") o.anonuid ++ anonymous_text (codes ",anongid=") o.anongid) (squash_shown o.squash)
    (append_shown (anonymous_text (codes ",anonuid=") o.anonuid) (anonymous_text (codes ",anongid=") o.anongid)
    (anonymous_shown (codes ",anonuid=") o.anonuid refl uid) (anonymous_shown (codes ",anongid=") o.anongid refl gid)))
