-- What is left behind a cookie, where cookies rise.
use Rattle.std.proofs.Common.{◌≡◌, ℕ, zero, suc, ◌<◌, ◌≤◌, Bool, true, false, cond, List, [], ◌∷◌, ◌++◌, length, take, drop, Option, Some, None, refl, sym, ap, subst, ◌∙◌, append_assoc, arith}
use Rattle.std.specs.Prelude.{nat_lt, All, AllPairs, if◌then◌else◌}
use Rattle.std.specs.List.{filter}
use Rattle.std.proofs.Math.Seq.{drop-length}
use Rattle.std.proofs.lemmas.Bool.{ltb-true, ltb-false, lt-ltb, le-ltb, eqb-true, eq-eqb}
use Rattle.std.proofs.lemmas.List.{take-append-drop, length-drop}
use Rattle.std.proofs.lemmas.List.Elements.{All-nil, All-cons, All-head, All-tail, All-weaker}
use Rattle.nfs_inodes.specs.Tree.{Tree, File, Kind, Entry, Regular, Directory, Link, at, on_some, entries_in}
use Rattle.nfs_inodes.specs.Law.{Law, IsSound}
use Rattle.nfs_inodes.specs.Reading.{dot, dot_dot, listing, listing_at}
use Rattle.nfs_dirs.specs.Pages.{most, count_of, chosen, left_after}
use Rattle.nfs_dirs.specs.Laws.{last_cookie, entries_of, cookie_after, PagesJoin, AllAreLeft, EndsAreReported}

abbrev after : ℕ → List Entry → List Entry
after cookie es = filter (λ e. nat_lt cookie e.cookie) es

-- all have greater cookies
abbrev Above : ℕ → List Entry → Type 0
Above cookie es = All (λ (e : Entry). cookie < e.cookie) es

abbrev Rise : List Entry → Type 0
Rise [] = Unit {0}
Rise (x ∷ xs) = Above x.cookie xs × Rise xs

not_nothing : {X : Type 0} (x : X) (xs : List X) → [] ≡ x ∷ xs → ⊥
not_nothing x xs e = let n = ap length e in omega (arith, n)

same_first : {X : Type 0} (x y : X) (xs ys : List X) → x ∷ xs ≡ y ∷ ys → x ≡ y
same_first x y xs ys e = cc

same_rest : {X : Type 0} (x y : X) (xs ys : List X) → x ∷ xs ≡ y ∷ ys → xs ≡ ys
same_rest x y xs ys e = cc

pub kept : (cookie : ℕ) (es : List Entry) → Above cookie es → after cookie es ≡ es
kept cookie [] above = refl
kept cookie (x ∷ xs) above =
    ap (λ b. cond b (x ∷ after cookie xs) (after cookie xs)) (lt-ltb cookie x.cookie (All-head (λ (e : Entry). cookie < e.cookie) x xs above))
    ∙ ap (λ l. x ∷ l) (kept cookie xs (All-tail (λ (e : Entry). cookie < e.cookie) x xs above))

-- the first that is left has a greater cookie
first_above : (cookie : ℕ) (es : List Entry) (x : Entry) (rest : List Entry) → after cookie es ≡ x ∷ rest → cookie < x.cookie
first_above cookie [] x rest e = absurd (not_nothing x rest e)
first_above cookie (y ∷ ys) x rest e = by_test (λ f. first_above cookie ys x rest f) (nat_lt cookie y.cookie) refl
  where
    by_test : (after cookie ys ≡ x ∷ rest → cookie < x.cookie) → (b : Bool) → nat_lt cookie y.cookie ≡ b → cookie < x.cookie
    by_test later true t = let same = same_first y x (after cookie ys) rest (sym (ap (λ b. cond b (y ∷ after cookie ys) (after cookie ys)) t) ∙ e) in
        subst (λ (e : Entry). cookie < e.cookie) same (ltb-true cookie y.cookie t)
    by_test later false t = later (sym (ap (λ b. cond b (y ∷ after cookie ys) (after cookie ys)) t) ∙ e)

-- after the first that is left, the others are
next_after : (cookie : ℕ) (es : List Entry) → Rise es → (x : Entry) (rest : List Entry) → after cookie es ≡ x ∷ rest → after x.cookie es ≡ rest
next_after cookie [] rise x rest e = absurd (not_nothing x rest e)
next_after cookie (y ∷ ys) rise x rest e = by_test (λ f. next_after cookie ys rise.1 x rest f) (nat_lt cookie y.cookie) refl
  where
    skip : y.cookie ≤ x.cookie → after x.cookie (y ∷ ys) ≡ after x.cookie ys
    skip le = ap (λ b. cond b (y ∷ after x.cookie ys) (after x.cookie ys)) (le-ltb x.cookie y.cookie le)

    by_test : (after cookie ys ≡ x ∷ rest → after x.cookie ys ≡ rest) → (b : Bool) → nat_lt cookie y.cookie ≡ b → after x.cookie (y ∷ ys) ≡ rest
    by_test later true t =
        let whole : y ∷ after cookie ys ≡ x ∷ rest = sym (ap (λ b. cond b (y ∷ after cookie ys) (after cookie ys)) t) ∙ e in
        let same = same_first y x (after cookie ys) rest whole in
        let cookies : y.cookie ≡ x.cookie = ap (λ (e : Entry). e.cookie) same in
        let less = ltb-true cookie y.cookie t in
        let lower = All-weaker (λ (e : Entry). y.cookie < e.cookie) (λ (e : Entry). cookie < e.cookie) (λ e above. omega (arith, less, above)) ys rise.0 in
        skip (omega (arith, cookies)) ∙ kept x.cookie ys (subst (λ c. Above c ys) cookies rise.0) ∙ sym (kept cookie ys lower) ∙ same_rest y x (after cookie ys) rest whole
    by_test later false t =
        let others : after cookie ys ≡ x ∷ rest = sym (ap (λ b. cond b (y ∷ after cookie ys) (after cookie ys)) t) ∙ e in
        let above = first_above cookie ys x rest others in
        let low = ltb-false cookie y.cookie t in
        skip (omega (arith, above, low)) ∙ later others

after_last : (es : List Entry) → Rise es → (given rest : List Entry) (cookie : ℕ) → after cookie es ≡ given ++ rest → after (last_cookie cookie given) es ≡ rest
after_last es rise [] rest cookie e = e
after_last es rise (x ∷ given) rest cookie e = after_last es rise given rest x.cookie (next_after cookie es rise x (given ++ rest) e)

-- ---- directories

rise_of : (es : List Entry) → AllPairs (λ (e g : Entry). (e.name ≡ g.name → ⊥) × (e.cookie < g.cookie)) es → Rise es
rise_of [] pairs = tt
rise_of (x ∷ xs) pairs = ((λ k d less. (pairs 0 (suc k) d (omega arith) (omega (arith, less))).1), rise_of xs (λ i j d before within. pairs (suc i) (suc j) d (omega (arith, before)) (omega (arith, within))))

listed : (t : Tree) → Law t → (d : ℕ) (P : List Entry → Type 0) → P [] → ((parent next : ℕ) (entries : List Entry) → Above 2 entries → Rise entries → P (listing d (Directory parent next entries))) → P (listing_at t d)
listed t law d P none some = by_file (at d t.files) refl
  where
    by_kind : (f : File) → IsSound t.limits f → (k : Kind) → f.kind ≡ k → P (listing d k)
    by_kind f sound (Regular bytes) e = none
    by_kind f sound (Link path) e = none
    by_kind f sound (Directory parent next entries) e =
        let cookies = subst (λ (k : Kind). All (λ (e : Entry). 3 ≤ e.cookie) (entries_in k)) e (λ k d less. (sound.cookies k d less).0) in
        let apart = subst (λ (k : Kind). AllPairs (λ (e g : Entry). (e.name ≡ g.name → ⊥) × (e.cookie < g.cookie)) (entries_in k)) e sound.apart in
        some parent next entries (λ k d less. let three = cookies k d less in omega (arith, three)) (rise_of entries apart)

    by_file : (o : Option File) → at d t.files ≡ o → P (on_some o [] (λ (f : File). listing d f.kind))
    by_file None e = none
    by_file (Some f) e = by_kind f (law.sound d f e) f.kind refl

rise_at : (t : Tree) → Law t → (d : ℕ) → Rise (listing_at t d)
rise_at t law d = listed t law d Rise tt (λ parent next entries above rise. (
  All-cons (λ (e : Entry). 1 < e.cookie) (record { cookie = 2; name = dot_dot; number = parent }) entries (omega arith) (All-weaker (λ (e : Entry). 2 < e.cookie) (λ (e : Entry). 1 < e.cookie) (λ e less. omega (arith, less)) entries above),
  (above, rise),
))

above_at : (t : Tree) → Law t → (d : ℕ) → Above 0 (listing_at t d)
above_at t law d = listed t law d (Above 0) (All-nil (λ (e : Entry). 0 < e.cookie)) (λ parent next entries above rise.
    All-cons (λ (e : Entry). 0 < e.cookie) (record { cookie = 1; name = dot; number = d }) (record { cookie = 2; name = dot_dot; number = parent } ∷ entries) (omega arith)
    (All-cons (λ (e : Entry). 0 < e.cookie) (record { cookie = 2; name = dot_dot; number = parent }) entries (omega arith) (All-weaker (λ (e : Entry). 2 < e.cookie) (λ (e : Entry). 0 < e.cookie) (λ e less. omega (arith, less)) entries above)))

-- ---- pages

-- what is left behind a page
left_after_last : (t : Tree) → Law t → (d cookie : ℕ) (passes : List Entry → Bool) → left_after t d (last_cookie cookie (chosen passes (left_after t d cookie))) ≡ drop (count_of passes (left_after t d cookie)) (left_after t d cookie)
left_after_last t law d cookie passes = let left = left_after t d cookie in
    after_last (listing_at t d) (rise_at t law d) (chosen passes left) (drop (count_of passes left) left) cookie (sym (take-append-drop (count_of passes left) left))

pub pages_join : PagesJoin
pages_join t law d cookie [] = refl
pages_join t law d cookie (passes ∷ pages) =
    let left = left_after t d cookie in
    let page = chosen passes left in
    let last = last_cookie cookie page in
    append_assoc page (entries_of t d last pages) (left_after t d (cookie_after t d last pages))
    ∙ ap (λ l. page ++ l) (pages_join t law d last pages)
    ∙ ap (λ l. page ++ l) (left_after_last t law d cookie passes)
    ∙ take-append-drop (count_of passes left) left

pub all_are_left : AllAreLeft
all_are_left t law d = kept 0 (listing_at t d) (above_at t law d)

most_within : (p : ℕ → Bool) (n : ℕ) → most p n ≤ n
most_within p zero = omega arith
most_within p (suc n) = by_test (most_within p n) (p (suc n)) refl
  where
    by_test : most p n ≤ n → (b : Bool) → p (suc n) ≡ b → most p (suc n) ≤ suc n
    by_test less true e = let is = ap (λ b. if b then suc n else most p n) e in omega (arith, is)
    by_test less false e = let is = ap (λ b. if b then suc n else most p n) e in omega (arith, is, less)

pub ends_are_reported : EndsAreReported
ends_are_reported t law d cookie passes = let left = left_after t d cookie in let n = count_of passes left in (
  (λ end. left_after_last t law d cookie passes ∙ ap (λ k. drop k left) (eqb-true n (length left) end) ∙ drop-length left),
  (λ none. let rest : drop n left ≡ [] = sym (left_after_last t law d cookie passes) ∙ none in
      let count = ap length rest in let some = length-drop n left in let within = most_within (λ k. passes (take k left)) (length left) in
      eq-eqb n (length left) (omega (arith, count, some, within))),
)
