-- The limits of a tree, as they are written and read.
use Rattle.std.proofs.Common.{inl, inr, ◌≡◌, ◌⊎◌, ℕ, ◌<◌, ◌≤◌, ◌^◌, Bool, true, false, nat_eq, List, [], ◌∷◌, ◌++◌, length, Some, Ok, refl, sym, ap, subst, ◌∙◌, append_assoc, append-nil, arith}
use Rattle.std.specs.List.{list_all}
use Rattle.std.specs.Prelude.{Err, Result, codes, decimal, nat_le, if◌then◌else◌}
use Rattle.std.proofs.lemmas.Bool.{eqb-true, le-leb}
use Rattle.std.proofs.lemmas.List.{length-append}
use Rattle.nfs_inodes.specs.Limits.{AreLimits, default_limits, max_path_bytes}
use Rattle.nfs_inodes.specs.declared.limits.Limits.{Limits}
use Rattle.nfs_load.specs.Fields.{◌>>=◌}
use Rattle.nfs_load.specs.LimitFields.{limit_in, limit_of, limits_in}
use Rattle.nfs_load.specs.Lines.{takes}
use Rattle.nfs_load.specs.declared.cause.Cause.{Cause}
use Rattle.nfs_load.specs.declared.line.Keyword.TheVariants as keyword
use Rattle.nfs_describe.specs.Lines.{is_shown, limit_text, limits_text, limits_line, line_of_limits}
use Rattle.nfs_read_back.specs.ReadBack.{IsReadAs, is_said}
use Rattle.nfs_read_back.specs.ReadBack as law
use Rattle.nfs_read_back.proofs.Digits.{and_true, decimal_said, number_read}
use Rattle.nfs_read_back.proofs.Lines.{read_as}
use Rattle.nfs_read_back.proofs.Patterns.{said_of}
use Rattle.nfs_read_back.proofs.Separators.{append_shown, cut_at, is_free}
use Rattle.nfs_read_back.proofs.Words.{AreSaid, both, joined}

-- ---- fields

abbrev limit_field : List ℕ → ℕ → ℕ → List (List ℕ)
limit_field name default n = if nat_eq n default then [] else (name ++ decimal n) ∷ []

abbrev fields_of : Limits → List (List ℕ)
fields_of l = limit_field (codes "file-size=") default_limits.file_size l.file_size ++ (limit_field (codes "links=") default_limits.links l.links
    ++ (limit_field (codes "link-path=") default_limits.link_path l.link_path ++ limit_field (codes "files=") default_limits.files l.files))

-- fields with a space before each
abbrev spaced : List (List ℕ) → List ℕ
spaced [] = []
spaced (v ∷ vs) = 32 ∷ (v ++ spaced vs)

joined_is : (w : List ℕ) (vs : List (List ℕ)) → joined w vs ≡ w ++ spaced vs
joined_is w [] = sym (append-nil w)
joined_is w (v ∷ vs) = ap (λ l. w ++ 32 ∷ l) (joined_is v vs)

spaced_append : (us vs : List (List ℕ)) → spaced (us ++ vs) ≡ spaced us ++ spaced vs
spaced_append [] vs = refl
spaced_append (u ∷ us) vs = ap (λ l. 32 ∷ (u ++ l)) (spaced_append us vs) ∙ ap (λ l. 32 ∷ l) (sym (append_assoc u (spaced us) (spaced vs)))

text_is : (name long : List ℕ) (default n : ℕ) → ((ds : List ℕ) → long ++ ds ≡ 32 ∷ (name ++ ds)) → limit_text long default n ≡ spaced (limit_field name default n)
text_is name long default n space = by_test (nat_eq n default)
  where
    by_test : (b : Bool) → (if b then [] else long ++ decimal n) ≡ spaced (if b then [] else (name ++ decimal n) ∷ [])
    by_test true = refl
    by_test false = space (decimal n) ∙ ap (λ l. 32 ∷ (name ++ l)) (sym (append-nil (decimal n))) ∙ ap (λ l. 32 ∷ l) (sym (append_assoc name (decimal n) []))

four : (a b c d : List ℕ) (ws xs ys zs : List (List ℕ)) → a ≡ spaced ws → b ≡ spaced xs → c ≡ spaced ys → d ≡ spaced zs → a ++ b ++ c ++ d ≡ spaced (ws ++ (xs ++ (ys ++ zs)))
four a b c d ws xs ys zs one two three last =
    ap (λ l. l ++ b ++ c ++ d) one ∙ ap (λ l. spaced ws ++ l ++ c ++ d) two ∙ ap (λ l. spaced ws ++ spaced xs ++ l ++ d) three ∙ ap (λ l. spaced ws ++ spaced xs ++ spaced ys ++ l) last
    ∙ (let flat : spaced ws ++ spaced xs ++ spaced ys ++ spaced zs ≡ spaced ws ++ (spaced xs ++ (spaced ys ++ spaced zs)) = simp append_assoc in flat)
    ∙ sym (spaced_append ws (xs ++ (ys ++ zs)) ∙ ap (λ l. spaced ws ++ l) (spaced_append xs (ys ++ zs) ∙ ap (λ l. spaced xs ++ l) (spaced_append ys zs)))

texts_are : (l : Limits) → limits_text l ≡ spaced (fields_of l)
texts_are l = four _ _ _ _ (limit_field (codes "file-size=") default_limits.file_size l.file_size) (limit_field (codes "links=") default_limits.links l.links)
    (limit_field (codes "link-path=") default_limits.link_path l.link_path) (limit_field (codes "files=") default_limits.files l.files)
    (text_is (codes "file-size=") (codes " file-size=") default_limits.file_size l.file_size (λ ds. refl))
    (text_is (codes "links=") (codes " links=") default_limits.links l.links (λ ds. refl))
    (text_is (codes "link-path=") (codes " link-path=") default_limits.link_path l.link_path (λ ds. refl))
    (text_is (codes "files=") (codes " files=") default_limits.files l.files (λ ds. refl))

-- ---- what they say

step : (old new : Limits) (name : List ℕ) (default n : ℕ) (rest : List (List ℕ)) → (n ≡ default → old ≡ new) → limit_in old (name ++ decimal n) ≡ Ok new
    → limits_in old (limit_field name default n ++ rest) ≡ limits_in new rest
step old new name default n rest same reads = by_test (nat_eq n default) refl
  where
    by_test : (b : Bool) → nat_eq n default ≡ b → limits_in old ((if b then [] else (name ++ decimal n) ∷ []) ++ rest) ≡ limits_in new rest
    by_test true e = ap (λ o. limits_in o rest) (same (eqb-true n default e))
    by_test false e = ap (λ (r : Result Limits Cause). r >>= (λ (l : Limits). limits_in l rest)) reads

module _ (l : Limits) (are : AreLimits l) where
  abbrev first : Limits
  first = record default_limits { file_size = l.file_size }

  abbrev second : Limits
  second = record first { links = l.links }

  abbrev third : Limits
  third = record second { link_path = l.link_path }

  field_read : (old : Limits) (name : List ℕ) (n : ℕ) → is_free 61 name ≡ true → limit_in old (name ++ 61 ∷ decimal n) ≡ limit_of old name (Some (decimal n))
  field_read old name n free = ap (λ (p : List ℕ × _). limit_of old p.0 p.1) (cut_at 61 name (decimal n) free)

  size_read : limit_in default_limits (codes "file-size=" ++ decimal l.file_size) ≡ Ok first
  size_read = field_read default_limits (codes "file-size") l.file_size refl
      ∙ ap (λ (r : Result ℕ Cause). r >>= (λ (n : ℕ). Ok (record default_limits { file_size = n }))) (number_read 0 1099511627776 l.file_size (omega arith) are.file_size (let high = are.file_size in omega (arith, high)))

  links_read : limit_in first (codes "links=" ++ decimal l.links) ≡ Ok second
  links_read = field_read first (codes "links") l.links refl
      ∙ ap (λ (r : Result ℕ Cause). r >>= (λ (n : ℕ). Ok (record first { links = n }))) (number_read 2 1000000 l.links are.links_2 are.links (let high = are.links in omega (arith, high)))

  path_read : limit_in second (codes "link-path=" ++ decimal l.link_path) ≡ Ok third
  path_read = field_read second (codes "link-path") l.link_path refl
      ∙ ap (λ (r : Result ℕ Cause). r >>= (λ (n : ℕ). Ok (record second { link_path = n }))) (number_read 0 max_path_bytes l.link_path (omega arith) are.link_path (let high = are.link_path in omega (arith, high)))

  files_read : limit_in third (codes "files=" ++ decimal l.files) ≡ Ok l
  files_read = field_read third (codes "files") l.files refl
      ∙ ap (λ (r : Result ℕ Cause). r >>= (λ (n : ℕ). Ok (record third { files = n }))) (number_read 0 100000000 l.files (omega arith) are.files (let high = are.files in omega (arith, high)))

  fields_read : limits_in default_limits (fields_of l) ≡ Ok l
  fields_read =
      step default_limits first (codes "file-size=") default_limits.file_size l.file_size _ (λ e. ap (λ k. record default_limits { file_size = k }) (sym e)) size_read
      ∙ step first second (codes "links=") default_limits.links l.links _ (λ e. ap (λ k. record first { links = k }) (sym e)) links_read
      ∙ step second third (codes "link-path=") default_limits.link_path l.link_path _ (λ e. ap (λ k. record second { link_path = k }) (sym e)) path_read
      ∙ ap (limits_in third) (sym (append-nil (limit_field (codes "files=") default_limits.files l.files)))
      ∙ step third l (codes "files=") default_limits.files l.files [] (λ e. ap (λ k. record third { files = k }) (sym e)) files_read

  -- ---- words

  abbrev AllSaid : List (List ℕ) → Type 0
  AllSaid [] = Unit {0}
  AllSaid (v ∷ vs) = (is_said v ≡ true) × AllSaid vs

  said_append : (us vs : List (List ℕ)) → AllSaid us → AllSaid vs → AllSaid (us ++ vs)
  said_append [] vs one two = two
  said_append (u ∷ us) vs one two = (one.0, said_append us vs one.1 two)

  said_after : (w : List ℕ) (vs : List (List ℕ)) → is_said w ≡ true → AllSaid vs → AreSaid w vs
  said_after w [] said all = said
  said_after w (v ∷ vs) said all = (said, said_after v vs all.0 all.1)

  field_said : (name : List ℕ) (default n : ℕ) → list_all is_shown name ≡ true → 1 < length name → n < 2 ^ 64 → AllSaid (limit_field name default n)
  field_said name default n shown long small = by_test (nat_eq n default)
    where
      said : is_said (name ++ decimal n) ≡ true
      said = let all = length-append name (decimal n) in
          said_of (name ++ decimal n) (omega (arith, all, long)) (append_shown name (decimal n) shown (both _ (list_all is_shown (decimal n)) (decimal_said n small)).1)

      by_test : (b : Bool) → AllSaid (if b then [] else (name ++ decimal n) ∷ [])
      by_test true = record {}
      by_test false = (said, record {})

  few : (name : List ℕ) (default n : ℕ) → length (limit_field name default n) ≤ 1
  few name default n = by_test (nat_eq n default)
    where
      by_test : (b : Bool) → length (if b then [] else (name ++ decimal n) ∷ []) ≤ 1
      by_test true = omega arith
      by_test false = omega arith

  all_said : AllSaid (fields_of l)
  all_said =
      let size = are.file_size in let links = are.links in let path = are.link_path in let files = are.files in
      said_append (limit_field (codes "file-size=") default_limits.file_size l.file_size) _ (field_said (codes "file-size=") default_limits.file_size l.file_size refl (omega arith) (omega (arith, size)))
      (said_append (limit_field (codes "links=") default_limits.links l.links) _ (field_said (codes "links=") default_limits.links l.links refl (omega arith) (omega (arith, links)))
      (said_append (limit_field (codes "link-path=") default_limits.link_path l.link_path) _ (field_said (codes "link-path=") default_limits.link_path l.link_path refl (omega arith) (omega (arith, path)))
      (field_said (codes "files=") default_limits.files l.files refl (omega arith) (omega (arith, files)))))

  four_few : (ws xs ys zs : List (List ℕ)) → length ws ≤ 1 → length xs ≤ 1 → length ys ≤ 1 → length zs ≤ 1 → length (ws ++ (xs ++ (ys ++ zs))) ≤ 4
  four_few ws xs ys zs one two three last =
      let a = length-append ws (xs ++ (ys ++ zs)) in let b = length-append xs (ys ++ zs) in let c = length-append ys zs in
      omega (arith, a, b, c, one, two, three, last)

  count : length (fields_of l) ≤ 4
  count = four_few _ _ _ _ (few (codes "file-size=") default_limits.file_size l.file_size) (few (codes "links=") default_limits.links l.links)
      (few (codes "link-path=") default_limits.link_path l.link_path) (few (codes "files=") default_limits.files l.files)

  -- ---- the line

  ok_is : (a b : Limits) → ◌≡◌ {A = Result Limits Cause} (Ok a) (Ok b) → b ≡ a
  ok_is a b e = sym (ap value_or e)
    where
      value_or : Result Limits Cause → Limits
      value_or (Ok x) = x
      value_or (Err cause) = a

  line_is : (v : List ℕ) (vs : List (List ℕ)) → fields_of l ≡ v ∷ vs → limits_line l ≡ joined (codes "limits") (v ∷ vs) ++ 10 ∷ []
  line_is v vs e = ap line_of_limits (texts_are l ∙ ap spaced e) ∙ ap (λ (x : List ℕ). (codes "limits" ++ 32 ∷ x) ++ 10 ∷ []) (sym (joined_is v vs))

  taken : (v : List ℕ) (vs : List (List ℕ)) → length (v ∷ vs) ≤ 4 → takes keyword.Limits (length (v ∷ vs)) ≡ true
  taken v vs most = and_true (nat_le 1 (length (v ∷ vs))) (nat_le (length (v ∷ vs)) 4) (le-leb 1 (length (v ∷ vs)) (omega arith)) (le-leb (length (v ∷ vs)) 4 most)

  by_fields : (fs : List (List ℕ)) → fields_of l ≡ fs
      → ((limits_line l ≡ []) × (l ≡ default_limits)) ⊎ ((fields : List (List ℕ)) × IsReadAs (limits_line l) keyword.Limits fields × (limits_in default_limits fields ≡ Ok l))
  by_fields [] e = inl (ap line_of_limits (texts_are l ∙ ap spaced e), ok_is default_limits l (subst (λ fs. limits_in default_limits fs ≡ Ok l) e fields_read))
  by_fields (v ∷ vs) e = inr (
    v ∷ vs,
    read_as (limits_line l) (codes "limits") (v ∷ vs) keyword.Limits (line_is v vs e) (said_after (codes "limits") (v ∷ vs) refl (subst AllSaid e all_said)) refl refl
        (taken v vs (subst (λ fs. length fs ≤ 4) e count)),
    subst (λ fs. limits_in default_limits fs ≡ Ok l) e fields_read,
  )

pub limits : law.LimitsAreReadBack
limits l are = by_fields l are (fields_of l) refl
